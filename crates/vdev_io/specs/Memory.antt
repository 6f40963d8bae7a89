-- What the objects in memory are, beside the calls of them that are to fail.
use Rattle.std.specs.Prelude.{◌≡◌, ◌==◌, ℕ, ◌-◌, min, nat_lt, List, [], ◌∷◌, length, Bool, true, false, ◌&&◌, Option, Some, None, if◌then◌else◌}
use Rattle.std.specs.List.{list_any}
use Rattle.vdev_io.specs.Faults.{sum_of_counts}

-- the calls of an object, of which some are to fail: their numbers, how many were made, and how many failed
pub record CallLog : Type 0 where
  pub fail : List ℕ
  pub made : ℕ
  pub faults : ℕ

-- the next call is one of those that are to fail
abbrev pub is_to_fail : CallLog → Bool
is_to_fail log = list_any (λ number. number == log.made) log.fail

-- one call more was made, and it failed or not
abbrev pub counted : CallLog → Bool → CallLog
counted log failed = record {
  fail = log.fail;
  made = sum_of_counts log.made 1;
  faults = (if failed then sum_of_counts log.faults 1 else log.faults);
}

-- one call more was made, and it failed where it was one of those that are to fail
abbrev pub after_call : CallLog → CallLog
after_call log = counted log (is_to_fail log)

-- the log of an object of which these calls are to fail, and none was made
abbrev pub new_log : List ℕ → CallLog
new_log fail = record { fail = fail; made = 0; faults = 0 }

-- the calls of the next fork that are to fail
abbrev pub next_fork : List (List ℕ) → List ℕ
next_fork [] = []
next_fork (fail ∷ forks) = fail

-- a source, by the bytes that are left of it
pub record MemoryStream : Type 0 where
  pub bytes : List ℕ
  pub log : CallLog

-- a sink: the bytes that were written, how many it takes in one call, and how many in all
pub record MemorySink : Type 0 where
  pub bytes : List ℕ
  pub most : ℕ
  pub room : ℕ
  pub log : CallLog

-- how many bytes it takes of so many
abbrev pub takes_of : MemorySink → ℕ → ℕ
takes_of sink n = min n (min sink.most (sink.room - length sink.bytes))

-- it takes nothing of a piece of so many bytes, and there are some
abbrev pub takes_none : MemorySink → ℕ → Bool
takes_none sink n = takes_of sink n == 0 && nat_lt 0 n

-- a pool: its bytes, which calls of the forks to come are to fail, fork by fork, how many reads were asked for, how many writes and forks, and its calls
pub record MemoryPool : Type 0 where
  pub bytes : List ℕ
  pub forks : List (List ℕ)
  pub reads : ℕ
  pub other_calls : ℕ
  pub log : CallLog

-- a cache device: its bytes, whether all of them are flushed, whether it tells them, how many reads were asked for, how many other calls, and its calls
pub record MemoryCache : Type 0 where
  pub bytes : List ℕ
  pub flushed : Bool
  pub tells : Bool
  pub reads : ℕ
  pub other_calls : ℕ
  pub log : CallLog

-- the image that it tells
abbrev pub told_by : MemoryCache → Option (List ℕ)
told_by cache = if cache.tells then Some cache.bytes else None

-- what a crash leaves: the bytes, where they are flushed, and otherwise any bytes at all
abbrev pub MayBeLeft : Bool → List ℕ → List ℕ → Type 0
MayBeLeft true bytes c = c ≡ bytes
MayBeLeft false bytes c = length c ≡ length bytes
