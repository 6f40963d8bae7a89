-- What the vectors of a shard's table mean, and what they keep.
use Rattle.std.specs.Prelude.{◌≡◌, ◌+◌, ◌^◌, ◌<◌, ◌≤◌, length}
use Rattle.arc_core.specs.declared.table.Table.TheInside.{Inside}
use Rattle.arc_core.specs.Candidate.{picked_bytes}
use Rattle.arc_core.specs.PlainShard.{PlainShard}
use Rattle.arc_core.specs.PlainTable.{PlainTable}
use Rattle.arc_core.specs.Sound.{IsTidy}

-- the plain shard that a table holds
abbrev pub shard_in : Inside → PlainShard
shard_in t = record {
  entries = t.entries.items;
  sequences = t.entries.sequences;
  p = t.entries.p;
  c = t.entries.c;
  mintime = t.mintime;
  bounds = t.bounds;
  passed = t.passed.items;
  phase = t.phase;
  picked = t.picked.items;
}

abbrev pub plain_table : Inside → PlainTable
plain_table t = record { shard = shard_in t; spare = t.entries.spare; marks = t.marks; marked = t.marked.items }

pub record TableKeeps (t : Inside) : Type 0 where
  pub tidy : IsTidy (shard_in t)
  pub few : length t.entries.items + t.entries.spare < 2 ^ 64
  -- there is as much room for marked keys as for entries, and room for so many picks and passed keys
  pub marked_room : length t.entries.items + t.entries.spare ≤ length t.marked.items + t.marked.spare
  pub passed_room : t.marks ≤ t.passed.spare
  pub picked_room : t.marks ≤ t.picked.spare
  -- what is picked is counted
  pub bytes : t.picked_bytes ≡ picked_bytes (shard_in t)
