-- What the events of all shards are counted as.
use Rattle.std.specs.Prelude.{ℕ, ◌+◌, ◌^◌, ◌<◌, ◌≤◌, Bool, true, false, List, count_by, sum_by, if◌then◌else◌}
use Rattle.arc_core.specs.declared.event.Event.{Event}
use Rattle.arc_core.specs.declared.event.Event.TheVariants.{Hit, Miss, Arrive, Past, Set}
use Rattle.arc_core.specs.declared.event.Origin.TheVariants as origins
use Rattle.arc_core.specs.Operations.{is_pass, is_pool_read}
use Rattle.trace_text.specs.declared.counts.Counts.{Counts}

-- an access that found its bytes cached
abbrev pub is_hit : Event → Bool
is_hit (Hit n key t) = true
is_hit event = false

-- an access that did not
abbrev pub is_miss : Event → Bool
is_miss (Miss n key t) = true
is_miss event = false

-- a read past the cache
abbrev pub is_past : Event → Bool
is_past (Past n key kept) = true
is_past event = false

-- bytes that the cache device gave
abbrev pub is_device_read : Event → Bool
is_device_read (Arrive n key digest origins.L2) = true
is_device_read event = false

-- a key that got a place on the cache device
abbrev pub is_set : Event → Bool
is_set (Set n key place) = true
is_set event = false

-- how many events of all shards pass a test
abbrev pub count_all : (Event → Bool) → List (List Event) → ℕ
count_all test histories = sum_by (count_by test) histories

-- the counts over all shards
abbrev pub counts_in : List (List Event) → Counts
counts_in histories = record {
  hit = count_all is_hit histories;
  miss = count_all is_miss histories;
  past = count_all is_past histories;
  pool = count_all is_pool_read histories;
  l2 = count_all is_device_read histories;
  pass = count_all is_pass histories;
  set = count_all is_set histories;
}

-- the counts over one shard
abbrev pub counts_of_shard : List Event → Counts
counts_of_shard events = record {
  hit = count_by is_hit events;
  miss = count_by is_miss events;
  past = count_by is_past events;
  pool = count_by is_pool_read events;
  l2 = count_by is_device_read events;
  pass = count_by is_pass events;
  set = count_by is_set events;
}

-- the counts with one event more
abbrev pub with_event : Counts → Event → Counts
with_event counts event = record {
  hit = counts.hit + (if is_hit event then 1 else 0);
  miss = counts.miss + (if is_miss event then 1 else 0);
  past = counts.past + (if is_past event then 1 else 0);
  pool = counts.pool + (if is_pool_read event then 1 else 0);
  l2 = counts.l2 + (if is_device_read event then 1 else 0);
  pass = counts.pass + (if is_pass event then 1 else 0);
  set = counts.set + (if is_set event then 1 else 0);
}

-- the counts of two lists of events
abbrev pub with_counts : Counts → Counts → Counts
with_counts some others = record {
  hit = some.hit + others.hit;
  miss = some.miss + others.miss;
  past = some.past + others.past;
  pool = some.pool + others.pool;
  l2 = some.l2 + others.l2;
  pass = some.pass + others.pass;
  set = some.set + others.set;
}

-- the counts are in their range
pub record AreFew (counts : Counts) : Type 0 where
  pub hit : counts.hit < 2 ^ 128
  pub miss : counts.miss < 2 ^ 128
  pub past : counts.past < 2 ^ 128
  pub pool : counts.pool < 2 ^ 128
  pub l2 : counts.l2 < 2 ^ 128
  pub pass : counts.pass < 2 ^ 128
  pub set : counts.set < 2 ^ 128

-- none of the counts is above this one
pub record AreAtMost (most : ℕ) (counts : Counts) : Type 0 where
  pub hit : counts.hit ≤ most
  pub miss : counts.miss ≤ most
  pub past : counts.past ≤ most
  pub pool : counts.pool ≤ most
  pub l2 : counts.l2 ≤ most
  pub pass : counts.pass ≤ most
  pub set : counts.set ≤ most
