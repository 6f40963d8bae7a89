-- A shard with its history.
use Rattle.std.specs.Prelude.{◌≡◌, ℕ, ◌+◌, ◌≤◌, Bool, true, false, not, IsTrue, IsSome, if◌then◌else◌, List, [], ◌∷◌, ◌++◌, length, take, drop}
use Rattle.std.specs.List.{AllByRecursion}
use Rattle.blk_ptr.specs.declared.key.Key.{Key}
use Rattle.arc_lists.specs.Sequences.{stands, stands_on}
use Rattle.arc_core.specs.declared.event.Event.{Event}
use Rattle.arc_core.specs.declared.event.Event.TheVariants.{Pass, Pick}
use Rattle.arc_core.specs.declared.entry.Phase.TheVariants.{Idle}
use Rattle.arc_core.specs.declared.config.Bounds.{Bounds}
use Rattle.arc_core.specs.Operations.{is_about}
use Rattle.arc_core.specs.Owed.{entries_for, room_for}
use Rattle.arc_core.specs.PlainShard.{PlainShard, entry_of, is_passed, opening_shard}
use Rattle.arc_core.specs.Replay.{is_legal_history, replay}
use Rattle.arc_core.specs.Sound.{IsSound}
use Rattle.arc_core.specs.Step.{after}

pub record ShardLog : Type 0 where
  -- the shard now, as it was at the start, and the events between
  pub now : PlainShard
  pub opening : PlainShard
  pub history : List Event
  -- for how many more events there is room beyond those that are owed, and for how many more entries
  pub event_room : ℕ
  pub entry_room : ℕ
  -- the keys that the owner has marked, each once, since the last event but a pass or a pick
  pub marked : List Key

-- a shard at its start, with no room yet
abbrev pub opening_log : (c mintime : ℕ) → Bounds → ShardLog
opening_log c mintime bounds = record { now = opening_shard c mintime bounds; opening = opening_shard c mintime bounds; history = []; event_room = 0; entry_room = 0; marked = [] }

-- an event of a scan, which goes on behind it: every other event forgets the passed keys and the marked ones
abbrev pub is_scan : Event → Bool
is_scan (Pass n k owner) = true
is_scan (Pick n k) = true
is_scan _ = false

-- a call makes this event: the shard is the event's step, the event is appended, and no more room is gone than the event takes
pub record Makes (e : Event) (old new : ShardLog) : Type 0 where
  pub now : new.now ≡ after old.now e
  pub history : new.history ≡ old.history ++ e ∷ []
  pub opening : new.opening ≡ old.opening
  pub event_room : old.event_room ≤ new.event_room + room_for e
  pub entry_room : old.entry_room ≤ new.entry_room + entries_for old.now e
  pub marked : new.marked ≡ (if is_scan e then old.marked else [])

-- there is room for the event
pub record HasRoom (e : Event) (log : ShardLog) : Type 0 where
  pub events : room_for e ≤ log.event_room
  pub entries : entries_for log.now e ≤ log.entry_room

-- the shard is sound, and the replay of its history, which is legal
pub record IsReplayed (log : ShardLog) : Type 0 where
  pub sound : IsSound log.now
  pub replayed : replay log.opening log.history ≡ log.now
  pub legal : IsTrue (is_legal_history log.opening log.history)

-- ---- a feed's picks taken back

-- from this place on the history has nothing but picks and passes, made since there was no feed and no passed key
pub record MayUnpick (len : ℕ) (log : ShardLog) : Type 0 where
  pub within : len ≤ length log.history
  pub idle : (replay log.opening (take len log.history)).phase ≡ Idle
  pub unpassed : (replay log.opening (take len log.history)).passed ≡ []
  pub scan : AllByRecursion (λ e. IsTrue (is_scan e)) (drop len log.history)

-- the events from this place on are gone, and so is what they changed
pub record IsUnpicked (len : ℕ) (old new : ShardLog) : Type 0 where
  pub now : new.now ≡ replay old.opening (take len old.history)
  pub history : new.history ≡ take len old.history
  pub opening : new.opening ≡ old.opening
  pub event_room : old.event_room ≤ new.event_room
  pub entry_room : old.entry_room ≤ new.entry_room
  pub marked : new.marked ≡ []

-- ---- the victims of an event, named one by one

-- a key that may be a victim of an event and isn't marked: it has an entry, stands on a sequence, wasn't passed, and is not the event's own
pub record IsUnnamed (k : Key) (e : Event) (log : ShardLog) : Type 0 where
  pub there : IsSome (entry_of k log.now)
  pub stands : IsTrue (stands k log.now.sequences)
  pub unpassed : is_passed log.now k ≡ false
  pub unmarked : stands_on k log.marked ≡ false
  pub other : IsTrue (not (is_about k e))

-- every victim is marked: each other key that isn't marked has the same entry after the event
abbrev pub AreAllNamed : Event → ShardLog → Type 0
AreAllNamed e log = (j : Key) → IsTrue (not (is_about j e)) → stands_on j log.marked ≡ false → entry_of j (after log.now e) ≡ entry_of j log.now
