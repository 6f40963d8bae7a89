-- What each event changes: the entry of its own key, what it says of the feed, and how many holds there are.
use Rattle.std.specs.Prelude.{◌≡◌, ℕ, ◌+◌, ◌<◌, Bool, true, false, not, ◌&&◌, ◌==◌, if◌then◌else◌, IsTrue, [], IsSomeAnd, Option, Some, None}
use Rattle.std.specs.Option.{option_map, option_and_then}
use Rattle.blk_ptr.specs.declared.key.Key.{Key}
use Rattle.blk_ptr.specs.declared.digest.Digest.{Digest}
use Rattle.blk_ptr.specs.declared.state.State.TheVariants.{L2Only}
use Rattle.blk_ptr.specs.Order.{key_eq}
use Rattle.blk_ptr.specs.State.{is_same_state}
use Rattle.arc_core.specs.declared.entry.Entry.{Entry}
use Rattle.arc_core.specs.declared.event.Event.{Event}
use Rattle.arc_core.specs.declared.event.Event.TheVariants.{Pass, Hit, Miss, Arrive, Fail, Drop, Past, Hand, Insert, Release, Pick, FeedEnd, Set, Leave, Clear, Restore, Resize}
use Rattle.arc_core.specs.PlainShard.{PlainShard, count_of, entry_of, is_resident, numbers}
use Rattle.arc_core.specs.Changes.{one_less, one_more}
use Rattle.arc_core.specs.Operations.{event_key, is_of_feed}
use Rattle.arc_core.specs.Sound.{IsSound}
use Rattle.arc_core.specs.Step.{after, arrived, entry_to_read, hit_entry, holds, legal, restored_entry, written_entry}

-- ---- the entry of the event's own key

-- an entry without its place; one that only the device had goes
abbrev pub without_place : Entry → Option Entry
without_place e = if is_same_state e.state L2Only then None else Some (record e { place = None })

-- an entry of which one hold went from a number to another
abbrev pub handed : (n to : ℕ) → Entry → Entry
handed n to e = one_more to (one_less n e)

-- an entry with a place
abbrev pub placed_at : (place : ℕ) → Entry → Entry
placed_at place e = record e { place = Some place }

-- the entry of an event's key after it, where the key had this one before
abbrev pub entry_after : (mintime : ℕ) → Event → Option Entry → Option Entry
entry_after mintime (Pass n k owner) o = o
entry_after mintime (Hit n k t) o = option_map (hit_entry n mintime t) o
entry_after mintime (Miss n k t) o = Some (entry_to_read n k t o)
entry_after mintime (Arrive n k d from) o = option_map (arrived d) o
entry_after mintime (Fail n k at) o = None
entry_after mintime (Drop n k) o = option_map (one_less n) o
entry_after mintime (Past n k kept) o = o
entry_after mintime (Hand n k to) o = option_map (handed n to) o
entry_after mintime (Insert n k d t) o = Some (written_entry n k d t)
entry_after mintime (Release n k sole) o = if sole then None else option_map (one_less n) o
entry_after mintime (Pick n k) o = o
entry_after mintime (FeedEnd n) o = o
entry_after mintime (Set n k place) o = option_map (placed_at place) o
entry_after mintime (Leave n k why) o = o
entry_after mintime (Clear n k) o = option_and_then without_place o
entry_after mintime (Restore n k place d) o = Some (restored_entry k place d)
entry_after mintime (Resize n c) o = o

abbrev pub IsOwnEntry : Type 0
IsOwnEntry = (s : PlainShard) (e : Event) (k : Key) → IsSound s → IsTrue (legal s e) → event_key e ≡ Some k → entry_of k (after s e) ≡ entry_after s.mintime e (entry_of k s)

-- ---- what is not of one key

-- the capacity after an event
abbrev pub capacity_after : Event → ℕ → ℕ
capacity_after (Resize n c) before = c
capacity_after _ before = before

-- an event that forgets no passed key
abbrev pub keeps_passed : Event → Bool
keeps_passed (Pass n k owner) = true
keeps_passed (Pick n k) = true
keeps_passed _ = false

-- what stays as it was; only an event of the feed changes how far a feed has come
pub record KeepsFrame (e : Event) (old new : PlainShard) : Type 0 where
  pub c : new.c ≡ capacity_after e old.c
  pub mintime : new.mintime ≡ old.mintime
  pub bounds : new.bounds ≡ old.bounds
  pub phase : IsTrue (not (is_of_feed e)) → new.phase ≡ old.phase
  pub picked : IsTrue (not (is_of_feed e)) → new.picked ≡ old.picked
  pub passed : IsTrue (not (keeps_passed e)) → new.passed ≡ []

abbrev pub IsFrameKept : Type 0
IsFrameKept = (s : PlainShard) (e : Event) → KeepsFrame e s (after s e)

-- ---- who holds what

-- one hold, where it is of this number and this key
abbrev pub hold_for : (n : ℕ) → Key → (m : ℕ) → Key → ℕ
hold_for n k m j = if m == n && key_eq j k then 1 else 0

-- the holds on a key that a number gains by an event, and those that it loses
abbrev pub gained : Event → (m : ℕ) → Key → ℕ
gained (Hit n k t) m j = hold_for n k m j
gained (Miss n k t) m j = hold_for n k m j
gained (Insert n k d t) m j = hold_for n k m j
gained (Hand n k to) m j = hold_for to k m j
gained _ m j = 0

abbrev pub lost : Event → (m : ℕ) → Key → ℕ
lost (Fail n k at) m j = hold_for n k m j
lost (Drop n k) m j = hold_for n k m j
lost (Release n k sole) m j = hold_for n k m j
lost (Hand n k to) m j = hold_for n k m j
lost _ m j = 0

abbrev pub IsCounted : Type 0
IsCounted = (s : PlainShard) (e : Event) (m : ℕ) (j : Key) → IsSound s → IsTrue (legal s e) → m < numbers
    → count_of m j (after s e) + lost e m j ≡ count_of m j s + gained e m j

-- the key's bytes are cached, at rest, and have this digest
abbrev pub HasBytes : Option Digest → Option Entry → Type 0
HasBytes d o = IsSomeAnd o (λ e. IsTrue (is_resident e) × (e.digest ≡ d))

-- an entry at rest that a number holds has bytes with a digest
abbrev pub IsHeldCached : Type 0
IsHeldCached = (s : PlainShard) (k : Key) (e : Entry) (n : ℕ) → IsSound s → entry_of k s ≡ Some e → IsTrue (holds n e) → IsTrue (is_resident e) × ((d : Digest) × (e.digest ≡ Some d))

-- and keeps them, with that digest, as long as a number holds it
abbrev pub IsHeldKept : Type 0
IsHeldKept = (s : PlainShard) (e : Event) (k : Key) (x : Entry) (n m : ℕ) → IsSound s → IsTrue (legal s e) → entry_of k s ≡ Some x → IsTrue (holds n x)
    → 0 < count_of m k (after s e) → HasBytes x.digest (entry_of k (after s e))
