-- What a shard's parts mean, and what they keep.
use Rattle.std.specs.Prelude.{◌+◌, ◌<◌, ◌≤◌, ◌^◌, length, min}
use Rattle.arc_core.specs.declared.shard.Shard.TheInside.{Inside}
use Rattle.arc_lists.specs.Queues.{IsSequenceOf}
use Rattle.arc_core.specs.Halts.{AreHalts}
use Rattle.arc_core.specs.Owed.{owed_of}
use Rattle.arc_core.specs.PlainShard.{members, opening_shard}
use Rattle.arc_core.specs.ShardLog.{IsReplayed, ShardLog}

abbrev pub log_in : Inside → ShardLog
log_in s = record {
  now = s.table.shard;
  opening = opening_shard s.opened.c s.opened.mintime s.opened.bounds;
  history = s.history.events;
  -- the history has room for the spare events, and the table for as many picks and passed keys as it has marks
  event_room = min s.spare_events s.table.marks;
  entry_room = s.table.spare;
  marked = s.table.marked;
}

pub record ShardKeeps (s : Inside) : Type 0 where
  pub replayed : IsReplayed (log_in s)
  -- the history has room for the events that are owed and for the spare ones
  pub room : owed_of s.table.shard + s.spare_events ≤ s.history.room
  -- all of them are few enough that a count of holds fits in 32 bits
  pub few : owed_of s.table.shard + s.spare_events + length s.history.events < 2 ^ 32
  -- each marked key has an entry, and is marked once
  pub marked : IsSequenceOf (members s.table.shard) s.table.marked
  -- the scans stand where they were left
  pub halts : AreHalts s.table.shard s.table.marked s.halts
