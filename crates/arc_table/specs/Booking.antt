-- What each event makes of the holds and the readings that stand for a number: the list of what each number has begun follows the events.
use Rattle.std.specs.Prelude.{◌≡◌, ℕ, ◌+◌, ◌<◌, ◌==◌, if◌then◌else◌, IsTrue, List, [], ◌∷◌, Option, Some, None, option_and_then}
use mathlib.Core.Option.{some}
use lib.ListN.{get_elem?}
use Rattle.blk_ptr.specs.declared.key.Key.{Key}
use Rattle.blk_ptr.specs.declared.digest.Digest.{Digest}
use Rattle.blk_ptr.specs.declared.ptr.Ptr.{Ptr}
use Rattle.blk_ptr.specs.Order.{key_eq}
use Rattle.arc_core.specs.declared.event.Event.{Event}
use Rattle.arc_core.specs.declared.event.Event.TheVariants.{Hit, Miss, Arrive, Fail, Drop, Hand, Insert, Release}
use Rattle.arc_core.specs.Keeps.{holds_on}
use Rattle.arc_core.specs.Operations.{event_key}
use Rattle.arc_core.specs.PlainShard.{PlainShard, count_of, entry_of, numbers}
use Rattle.arc_core.specs.Sound.{IsSound}
use Rattle.arc_core.specs.Step.{after, legal}
use Rattle.arc_table.specs.pact.Counted.{IsRead, Rests, readings_of}

-- one hold more, of the digest that the key's entry has; and one hold of the key less
abbrev pub with_hold : Key → Option Digest → List Ptr → List Ptr
with_hold k None hs = hs
with_hold k (Some d) hs = record { key = k; digest = d } ∷ hs

abbrev pub without_hold : Key → List Ptr → List Ptr
without_hold k [] = []
without_hold k (h ∷ hs) = if key_eq k h.key then hs else (h ∷ without_hold k hs)

-- one reading of the key less
abbrev pub without_reading : Key → List Key → List Key
without_reading k [] = []
without_reading k (j ∷ js) = if key_eq k j then js else (j ∷ without_reading k js)

-- the digest of the key's entry
abbrev pub digest_at : Key → PlainShard → Option Digest
digest_at k s = option_and_then (λ e. e.digest) (entry_of k s)

-- the holds of the number m after an event that the shard s meets
abbrev pub holds_after : (m : ℕ) → PlainShard → Event → List Ptr → List Ptr
holds_after m s (Hit n k t) hs = if m == n then with_hold k (digest_at k s) hs else hs
holds_after m s (Arrive n k d from) hs = if m == n then with_hold k (Some d) hs else hs
holds_after m s (Drop n k) hs = if m == n then without_hold k hs else hs
holds_after m s (Release n k sole) hs = if m == n then without_hold k hs else hs
holds_after m s (Insert n k d t) hs = if m == n then with_hold k (Some d) hs else hs
holds_after m s (Hand n k to) hs =
    let left = if m == n then without_hold k hs else hs in
    if m == to then with_hold k (digest_at k s) left else left
holds_after m s _ hs = hs

-- the readings of the number m after it
abbrev pub readings_after : (m : ℕ) → Event → List Key → List Key
readings_after m (Miss n k t) ks = if m == n then k ∷ ks else ks
readings_after m (Arrive n k d from) ks = if m == n then without_reading k ks else ks
readings_after m (Fail n k at) ks = if m == n then without_reading k ks else ks
readings_after m _ ks = ks

-- What each number holds and reads, by these lists, is what the shard says of the keys that are its own
pub record AreBooked (is_own : Key → Type 0) (s : PlainShard) (holds : ℕ → List Ptr) (readings : ℕ → List Key) : Type 0 where
  pub counts : (m : ℕ) (k : Key) → m < numbers → is_own k → count_of m k s ≡ holds_on k (holds m) + readings_of k (readings m)
  pub rests : (m j : ℕ) (h : Ptr) → m < numbers → is_own h.key → get_elem? (holds m) j ≡ some h → Rests s h
  pub reads : (m j : ℕ) (k : Key) → m < numbers → is_own k → get_elem? (readings m) j ≡ some k → IsRead s k

-- each event keeps that, where it is legal and of a key that is the shard's own
abbrev pub IsBookedAfter : Type 1
IsBookedAfter = (is_own : Key → Type 0) (s : PlainShard) (e : Event) (holds : ℕ → List Ptr) (readings : ℕ → List Key)
    → IsSound s → IsTrue (legal s e) → ((k : Key) → event_key e ≡ Some k → is_own k) → AreBooked is_own s holds readings
    → AreBooked is_own (after s e) (λ m. holds_after m s e (holds m)) (λ m. readings_after m e (readings m))
