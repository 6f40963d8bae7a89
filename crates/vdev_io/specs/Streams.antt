-- What was read of a source, and what was written to a sink.
use Rattle.std.specs.Prelude.{◌≡◌, ℕ, ◌+◌, ◌≤◌, List, ◌++◌, length, take, Option, Result, Ok, Err}
use Rattle.std.specs.Io.KnownBytes.{Appends, Consumes, IsAtEnd}
use Rattle.vdev_io.specs.Faults.{CountsOne}
use Rattle.vdev_io.specs.declared.sink.Sink.{Ghosts as SinkGhosts}
use Rattle.vdev_io.specs.declared.source.Source.{Ghosts as SourceGhosts}
use Rattle.vdev_io.specs.declared.whole.ReadAllFault.{ReadAllFault}
use Rattle.vdev_io.specs.declared.whole.ReadAllFault.TheVariants.{NoMemory, SourceFault}

-- the bytes that a stream tells, which are those left of a source or those written to a sink, and its count of faults
pub record StreamState : Type 0 where
  pub told : Option (List ℕ)
  pub faults : ℕ

abbrev pub source_state : {S : Type 0} → SourceGhosts S → S → StreamState
source_state members source = record { told = members.left source; faults = members.faults source }

abbrev pub sink_state : {K : Type 0} → SinkGhosts K → K → StreamState
sink_state members sink = record { told = members.written sink; faults = members.faults sink }

-- no call of the stream failed; and one did, which was counted where a count has room for it
abbrev pub NoneFailed : StreamState → StreamState → Type 0
NoneFailed before after = after.faults ≡ before.faults

abbrev pub OneFailed : StreamState → StreamState → Type 0
OneFailed before after = CountsOne before.faults after.faults

-- The source gave this text. It was read to its end, unless the text is longer than it may be; then it is by one byte.
pub record Gives (before after : Option (List ℕ)) (most : ℕ) (text : List ℕ) : Type 0 where
  pub consumed : Consumes before after text
  pub ended : length text ≤ most → IsAtEnd after
  pub short : length text ≤ most + 1

-- of what the source tells, at most so many bytes were taken
pub record TakesAtMost (before after : Option (List ℕ)) (most : ℕ) : Type 0 where
  pub taken : List ℕ
  pub consumed : Consumes before after taken
  pub few : length taken ≤ most

-- the sink has a front of the text behind what it had
pub record AppendsFront (before after : Option (List ℕ)) (text : List ℕ) : Type 0 where
  pub len : ℕ
  pub within : len ≤ length text
  pub appended : Appends before after (take len text)

-- The source gave a piece of n bytes, which stands behind the text now; with none it is at its end.
pub record GivesPiece (before after : Option (List ℕ)) (old new : List ℕ) (n : ℕ) : Type 0 where
  pub piece : List ℕ
  pub size : length piece ≡ n
  pub appended : new ≡ old ++ piece
  pub consumed : Consumes before after piece
  pub ended : n ≡ 0 → IsAtEnd after

-- one more fault of the source was counted where the reading ended by one, and none else
abbrev pub CountsReading : {T : Type 0} → (before now : ℕ) → Result T ReadAllFault → Type 0
CountsReading before now (Ok value) = now ≡ before
CountsReading before now (Err NoMemory) = now ≡ before
CountsReading before now (Err SourceFault) = CountsOne before now
