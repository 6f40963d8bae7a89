-- Which events an operation stands for, and what it means that histories hold every call once.
use Rattle.std.specs.Prelude.{◌≡◌, ℕ, ◌+◌, ◌<◌, ◌≢◌, nat_le, nat_lt, Bool, true, false, not, ◌&&◌, ◌||◌, ◌==◌, IsTrue, ◌⊎◌, List, [], ◌∷◌, ◌++◌, length, map, filter, count_by, slice_index_or, Option, Some, None}
use Rattle.std.specs.List.{AllByRecursion}
use Rattle.std.specs.Option.{option_map_or}
use Rattle.blk_ptr.specs.declared.key.Key.{Key}
use Rattle.blk_ptr.specs.declared.digest.Digest.{Digest}
use Rattle.blk_ptr.specs.declared.ptr.Ptr.{Ptr}
use Rattle.blk_ptr.specs.Order.{key_eq}
use Rattle.arc_core.specs.declared.config.Config.{Config}
use Rattle.arc_core.specs.declared.entry.Phase.TheVariants.{Idle}
use Rattle.arc_core.specs.declared.event.Event.{Event}
use Rattle.arc_core.specs.declared.event.Event.TheVariants.{Pass, Hit, Miss, Arrive, Fail, Drop, Past, Hand, Insert, Release, Pick, FeedEnd, Set, Leave, Clear, Restore, Resize}
use Rattle.arc_core.specs.declared.event.Origin.TheVariants as origin
use Rattle.arc_core.specs.declared.event.FailedAt.{FailedAt}
use Rattle.arc_core.specs.declared.event.FailedAt.TheVariants as failed
use Rattle.arc_core.specs.declared.served.Served.{Served}
use Rattle.arc_core.specs.declared.served.Served.TheVariants as served
use Rattle.arc_core.specs.PlainShard.{PlainShard, entry_is, is_cell, is_free, keeps_digest}
use Rattle.arc_core.specs.Step.{after}

-- ---- what is read off an event

-- the number of who made it
abbrev pub number_of : Event → ℕ
number_of (Pass n k owner) = n
number_of (Hit n k t) = n
number_of (Miss n k t) = n
number_of (Arrive n k d from) = n
number_of (Fail n k at) = n
number_of (Drop n k) = n
number_of (Past n k kept) = n
number_of (Hand n k to) = n
number_of (Insert n k d t) = n
number_of (Release n k sole) = n
number_of (Pick n k) = n
number_of (FeedEnd n) = n
number_of (Set n k place) = n
number_of (Leave n k why) = n
number_of (Clear n k) = n
number_of (Restore n k place d) = n
number_of (Resize n c) = n

-- the key that it is about, where it is about one
abbrev pub event_key : Event → Option Key
event_key (Pass n k owner) = Some k
event_key (Hit n k t) = Some k
event_key (Miss n k t) = Some k
event_key (Arrive n k d from) = Some k
event_key (Fail n k at) = Some k
event_key (Drop n k) = Some k
event_key (Past n k kept) = Some k
event_key (Hand n k to) = Some k
event_key (Insert n k d t) = Some k
event_key (Release n k sole) = Some k
event_key (Pick n k) = Some k
event_key (FeedEnd n) = None
event_key (Set n k place) = Some k
event_key (Leave n k why) = Some k
event_key (Clear n k) = Some k
event_key (Restore n k place d) = Some k
event_key (Resize n c) = None

abbrev pub is_about : Key → Event → Bool
is_about j e = option_map_or (key_eq j) (event_key e) false

abbrev pub is_pass : Event → Bool
is_pass (Pass n k owner) = true
is_pass _ = false

-- an event that only the feeder makes
abbrev pub is_of_feed : Event → Bool
is_of_feed (Pick n k) = true
is_of_feed (FeedEnd n) = true
is_of_feed (Set n k place) = true
is_of_feed (Leave n k why) = true
is_of_feed (Clear n k) = true
is_of_feed (Restore n k place d) = true
is_of_feed (Resize n c) = true
is_of_feed _ = false

-- an event that stands for one read of the pool: bytes that came from it, a read of it that failed, or one past the cache
abbrev pub is_pool_read : Event → Bool
is_pool_read (Arrive n k d origin.Pool) = true
is_pool_read (Fail n k failed.Pool) = true
is_pool_read (Past n k kept) = true
is_pool_read _ = false

-- how many reads of the pool a history stands for
abbrev pub pool_reads : List Event → ℕ
pool_reads = count_by is_pool_read

-- nothing is held or reading, and there is no feed
pub record IsAtRest (s : PlainShard) : Type 0 where
  pub free : AllByRecursion (λ e. IsTrue (is_free e)) s.entries
  pub idle : s.phase ≡ Idle

-- ---- moments: each event with the shard that it found

pub record Moment : Type 0 where
  pub before : PlainShard
  pub event : Event

abbrev pub moments : PlainShard → List Event → List Moment
moments s [] = []
moments s (e ∷ es) = record { before = s; event = e } ∷ moments (after s e) es

-- one number's events, its passes left out
abbrev pub own_events : ℕ → List Event → List Event
own_events n = filter (λ e. number_of e == n && not (is_pass e))

-- the moments of one number's events, its passes left out
abbrev pub own_moments : ℕ → List Moment → List Moment
own_moments n = filter (λ m. number_of m.event == n && not (is_pass m.event))

-- ---- what operations do in the shard of a key, and how they were answered

pub data Act : Type 0 where
  -- a read at tick t was answered, and its hold given back; or the hold is kept
  Reads : (n t : ℕ) → Ptr → Served → Act
  Keeps : (n t : ℕ) → Ptr → Served → Act
  -- a kept hold is given back: by its own line, at the run's end, or as a cell's dbuf is evicted
  GivesBack : (n : ℕ) → Key → Act
  -- an object's block was loaded for a dbuf of this cell
  Loads : (n t : ℕ) → Ptr → Served → (cell : ℕ) → Act
  -- a read or a load was refused, since the pool failed or gave other bytes
  Fails : (n t : ℕ) → Ptr → Act
  -- a read was refused for want of memory; or an operation on a dbuf was
  RunsOut : (n t : ℕ) → Ptr → Act
  RunsOutAtDbuf : (n t : ℕ) → Ptr → (cell : ℕ) → Act
  -- a cell makes the block of a dbuf private
  MakesPrivate : (cell : ℕ) → Key → Act
  -- a sync wrote a block of a cell
  Writes : (cell t : ℕ) → Ptr → Act

-- the number whose act it is
abbrev pub actor_of : Act → ℕ
actor_of (Reads n t ptr from) = n
actor_of (Keeps n t ptr from) = n
actor_of (GivesBack n k) = n
actor_of (Loads n t ptr from cell) = n
actor_of (Fails n t ptr) = n
actor_of (RunsOut n t ptr) = n
actor_of (RunsOutAtDbuf n t ptr cell) = n
actor_of (MakesPrivate cell k) = cell
actor_of (Writes cell t ptr) = cell

-- the key that it is about
abbrev pub act_key : Act → Key
act_key (Reads n t ptr from) = ptr.key
act_key (Keeps n t ptr from) = ptr.key
act_key (GivesBack n k) = k
act_key (Loads n t ptr from cell) = ptr.key
act_key (Fails n t ptr) = ptr.key
act_key (RunsOut n t ptr) = ptr.key
act_key (RunsOutAtDbuf n t ptr cell) = ptr.key
act_key (MakesPrivate cell k) = k
act_key (Writes cell t ptr) = ptr.key

-- the digest that it asks for, where it asks for one
abbrev pub asked_digest : Act → Option Digest
asked_digest (GivesBack n k) = None
asked_digest (MakesPrivate cell k) = None
asked_digest (Reads n t ptr from) = Some ptr.digest
asked_digest (Keeps n t ptr from) = Some ptr.digest
asked_digest (Loads n t ptr from cell) = Some ptr.digest
asked_digest (Fails n t ptr) = Some ptr.digest
asked_digest (RunsOut n t ptr) = Some ptr.digest
asked_digest (RunsOutAtDbuf n t ptr cell) = Some ptr.digest
asked_digest (Writes cell t ptr) = Some ptr.digest

-- ---- the events of an act

-- one read past the cache
abbrev pub IsPast : (n : ℕ) → Ptr → List Event → Type 0
IsPast n ptr es = (kept : Digest) × (es ≡ Past n ptr.key kept ∷ [])

-- a read that failed at its start, before the pool was read, or at the pool
abbrev pub failing : (n t : ℕ) → Ptr → FailedAt → List Event
failing n t ptr at = Miss n ptr.key t ∷ (Fail n ptr.key at ∷ [])

-- an access that was served from here, and then these events; one past the cache stands alone
abbrev pub IsServed : (n t : ℕ) → Ptr → Served → (rest : List Event) → List Event → Type 0
IsServed n t ptr served.Hit rest es = es ≡ Hit n ptr.key t ∷ rest
IsServed n t ptr served.Pool rest es = es ≡ Miss n ptr.key t ∷ (Arrive n ptr.key ptr.digest origin.Pool ∷ rest)
IsServed n t ptr served.L2 rest es = es ≡ Miss n ptr.key t ∷ (Arrive n ptr.key ptr.digest origin.L2 ∷ rest)
IsServed n t ptr served.Past rest es = IsPast n ptr es

-- an operation that ran out of memory: it has no event, or a failed read, or a read past the cache, or an access whose hold it gave back
abbrev pub HasRunOut : (n t : ℕ) → Ptr → List Event → Type 0
HasRunOut n t ptr es =
    (es ≡ []) ⊎ ((at : FailedAt) × (es ≡ failing n t ptr at)) ⊎ IsPast n ptr es
    ⊎ ((from : Served) × IsServed n t ptr from (Drop n ptr.key ∷ []) es)

-- these are the events of the act
abbrev pub AreEvents : Act → List Event → Type 0
AreEvents (Reads n t ptr from) es = IsServed n t ptr from (Drop n ptr.key ∷ []) es
AreEvents (Keeps n t ptr from) es = IsServed n t ptr from [] es
AreEvents (GivesBack n k) es = es ≡ Drop n k ∷ []
AreEvents (Loads n t ptr from cell) es = IsServed n t ptr from (Hand n ptr.key cell ∷ []) es
AreEvents (Fails n t ptr) es = (es ≡ failing n t ptr failed.Pool) ⊎ IsPast n ptr es
AreEvents (RunsOut n t ptr) es = HasRunOut n t ptr es
AreEvents (RunsOutAtDbuf n t ptr cell) es = HasRunOut n t ptr es ⊎ ((from : Served) × IsServed n t ptr from (Hand n ptr.key cell ∷ []) es)
AreEvents (MakesPrivate cell k) es = (sole : Bool) × (es ≡ Release cell k sole ∷ [])
AreEvents (Writes cell t ptr) es = es ≡ Insert cell ptr.key ptr.digest t ∷ []

-- the event is fair to an operation that asked for this digest: a hit found it, and a read past the cache found another
abbrev pub IsFair : Digest → PlainShard → Event → Type 0
IsFair d before (Hit n k t) = IsTrue (entry_is (keeps_digest d) k before)
IsFair d before (Past n k kept) = kept ≢ d
IsFair d before _ = Unit {0}

abbrev pub IsHonest : Option Digest → Moment → Type 0
IsHonest None m = Unit {0}
IsHonest (Some d) m = IsFair d m.before m.event

-- these moments are what the act stands for
pub record StandsFor (act : Act) (ms : List Moment) : Type 0 where
  pub events : AreEvents act (map (λ m. m.event) ms)
  pub digests : AllByRecursion (IsHonest (asked_digest act)) ms

-- these moments are what the acts stand for, one after another, each once
abbrev pub Tell : List Act → List Moment → Type 0
Tell [] ms = ms ≡ []
Tell (act ∷ acts) ms = (front : List Moment) × (rest : List Moment) × (ms ≡ front ++ rest) × StandsFor act front × Tell acts rest

-- ---- which number may stand on which event: callers are numbered from 0, the feeder's number is theirs, and the cells' come after it

abbrev pub is_caller : (callers : ℕ) → ℕ → Bool
is_caller callers n = nat_lt n callers

abbrev pub is_feeder : (callers : ℕ) → ℕ → Bool
is_feeder callers n = n == callers

abbrev pub is_cell_of : (callers cells : ℕ) → ℕ → Bool
is_cell_of callers cells n = nat_lt callers n && nat_le n (callers + cells)

-- Callers read, and hand holds to cells; cells insert, and make blocks private; both give holds back; and the feeder makes the feed's
-- events. A caller or the feeder passes a key, as it scans, and names another of these as the owner.
abbrev pub has_its_number : (callers cells : ℕ) → Event → Bool
has_its_number callers cells (Pass n k owner) = nat_le n callers && nat_le owner callers
has_its_number callers cells (Hit n k t) = is_caller callers n
has_its_number callers cells (Miss n k t) = is_caller callers n
has_its_number callers cells (Arrive n k d from) = is_caller callers n
has_its_number callers cells (Fail n k at) = is_caller callers n
has_its_number callers cells (Drop n k) = is_caller callers n || is_cell_of callers cells n
has_its_number callers cells (Past n k kept) = is_caller callers n
has_its_number callers cells (Hand n k to) = is_caller callers n && is_cell_of callers cells to
has_its_number callers cells (Insert n k d t) = is_cell_of callers cells n
has_its_number callers cells (Release n k sole) = is_cell_of callers cells n
has_its_number callers cells (Pick n k) = is_feeder callers n
has_its_number callers cells (FeedEnd n) = is_feeder callers n
has_its_number callers cells (Set n k place) = is_feeder callers n
has_its_number callers cells (Leave n k why) = is_feeder callers n
has_its_number callers cells (Clear n k) = is_feeder callers n
has_its_number callers cells (Restore n k place d) = is_feeder callers n
has_its_number callers cells (Resize n c) = is_feeder callers n

-- ---- where a pass may stand: in front of a miss, a pick, the end of a feed's picks or a resize of the same number, or of an insertion,
-- with nothing but passes of that number between. An insertion has its cell's number, whichever party scans for it.

abbrev pub goes_on : ℕ → Event → Bool
goes_on n (Pass m k owner) = m == n
goes_on n (Miss m k t) = m == n
goes_on n (Insert m k d t) = is_cell m
goes_on n (Pick m k) = m == n
goes_on n (FeedEnd m) = m == n
goes_on n (Resize m c) = m == n
goes_on n _ = false

-- the scan of a number goes on with the first of these events
abbrev pub scan_goes_on : ℕ → List Event → Bool
scan_goes_on n [] = false
scan_goes_on n (e ∷ es) = goes_on n e

abbrev pub are_passes_placed : List Event → Bool
are_passes_placed [] = true
are_passes_placed (e ∷ es) = (not (is_pass e) || scan_goes_on (number_of e) es) && are_passes_placed es

-- ---- every call once

-- the acts of one number in one shard, in their order
abbrev pub acts_in : (shard_of : Key → ℕ) → (shard n : ℕ) → List Act → List Act
acts_in shard_of shard n = filter (λ act. actor_of act == n && shard_of (act_key act) == shard)

-- The histories hold every call once: in each shard, the events of each caller and each cell, passes left out, are those of its acts
-- in their order; those of the feeder are exactly the ones that it was given to make there; each event has a number that it may have by
-- the configuration; and each pass stands in front of what it was passed for.
pub record HoldEveryCallOnce (config : Config) (shard_of : Key → ℕ) (opening : PlainShard) (acts : List Act) (feeds : (shard : ℕ) → List Event)
    (histories : List (List Event)) : Type 0 where
  pub told : (shard n : ℕ) → shard < length histories → n ≢ config.callers
      → Tell (acts_in shard_of shard n acts) (own_moments n (moments opening (slice_index_or histories shard [])))
  pub fed : (shard : ℕ) → shard < length histories → own_events config.callers (slice_index_or histories shard []) ≡ feeds shard
  pub numbers : AllByRecursion (λ history. AllByRecursion (λ e. IsTrue (has_its_number config.callers config.cells e)) history) histories
  pub passes : AllByRecursion (λ history. IsTrue (are_passes_placed history)) histories
