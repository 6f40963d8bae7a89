-- The counts of one shard, and of several.
use Rattle.std.proofs.Common.{◌≡◌, ℕ, ◌+◌, ◌*◌, ◌^◌, ◌<◌, ◌≤◌, List, [], ◌∷◌, Bool, length, if◌then◌else◌, ap, ◌∙◌, arith}
use Rattle.std.specs.List.{count_by}
use Rattle.std.proofs.lemmas.List.Sums.{count_by-le-length, sum_by-cons}
use Rattle.arc_core.specs.declared.event.Event.{Event}
use Rattle.arc_core.specs.Operations.{is_pass, is_pool_read}
use Rattle.trace_text.specs.declared.counts.Counts.{Counts}
use Rattle.trace_text.specs.Counting.{AreAtMost, AreFew, counts_of_shard, is_device_read, is_hit, is_miss, is_past, is_set, with_counts, with_event}

-- the counts of one shard more are in their range
pub AreFew-sum : (some others : Counts) (shards events : ℕ) → shards < 2 ^ 64 → events < 2 ^ 64 → AreAtMost (shards * 2 ^ 64) some → AreAtMost events others
    → AreFew (with_counts some others)
AreFew-sum some others shards events few_shards few_events p q = record {
  hit = omega (arith, p.hit, q.hit);
  miss = omega (arith, p.miss, q.miss);
  past = omega (arith, p.past, q.past);
  pool = omega (arith, p.pool, q.pool);
  l2 = omega (arith, p.l2, q.l2);
  pass = omega (arith, p.pass, q.pass);
  set = omega (arith, p.set, q.set);
}

-- no event is counted twice
pub AreAtMost-length : (events : List Event) → AreAtMost (length events) (counts_of_shard events)
AreAtMost-length events = record {
  hit = count_by-le-length is_hit events;
  miss = count_by-le-length is_miss events;
  past = count_by-le-length is_past events;
  pool = count_by-le-length is_pool_read events;
  l2 = count_by-le-length is_device_read events;
  pass = count_by-le-length is_pass events;
  set = count_by-le-length is_set events;
}

same-counts : (some others : Counts) → some.hit ≡ others.hit → some.miss ≡ others.miss → some.past ≡ others.past → some.pool ≡ others.pool → some.l2 ≡ others.l2 → some.pass ≡ others.pass → some.set ≡ others.set
    → some ≡ others
same-counts some others hit miss past pool l2 pass set =
    ap {B = Counts} (λ (n : ℕ). record { hit = n; miss = some.miss; past = some.past; pool = some.pool; l2 = some.l2; pass = some.pass; set = some.set }) hit
    ∙ ap {B = Counts} (λ (n : ℕ). record { hit = others.hit; miss = n; past = some.past; pool = some.pool; l2 = some.l2; pass = some.pass; set = some.set }) miss
    ∙ ap {B = Counts} (λ (n : ℕ). record { hit = others.hit; miss = others.miss; past = n; pool = some.pool; l2 = some.l2; pass = some.pass; set = some.set }) past
    ∙ ap {B = Counts} (λ (n : ℕ). record { hit = others.hit; miss = others.miss; past = others.past; pool = n; l2 = some.l2; pass = some.pass; set = some.set }) pool
    ∙ ap {B = Counts} (λ (n : ℕ). record { hit = others.hit; miss = others.miss; past = others.past; pool = others.pool; l2 = n; pass = some.pass; set = some.set }) l2
    ∙ ap {B = Counts} (λ (n : ℕ). record { hit = others.hit; miss = others.miss; past = others.past; pool = others.pool; l2 = others.l2; pass = n; set = some.set }) pass
    ∙ ap {B = Counts} (λ (n : ℕ). record { hit = others.hit; miss = others.miss; past = others.past; pool = others.pool; l2 = others.l2; pass = others.pass; set = n }) set

more : (test : Event → Bool) (event : Event) (rest : List Event) (n : ℕ) → (n + (if test event then 1 else 0)) + count_by test rest ≡ n + count_by test (event ∷ rest)
more test event rest n = omega (arith, sum_by-cons (λ e. if test e then 1 else 0) event rest)

-- counting goes from an event to those behind it
pub counts-more : (counts : Counts) (event : Event) (rest : List Event) → with_counts (with_event counts event) (counts_of_shard rest) ≡ with_counts counts (counts_of_shard (event ∷ rest))
counts-more counts event rest =
    same-counts (with_counts (with_event counts event) (counts_of_shard rest)) (with_counts counts (counts_of_shard (event ∷ rest)))
    (more is_hit event rest counts.hit)
    (more is_miss event rest counts.miss)
    (more is_past event rest counts.past)
    (more is_pool_read event rest counts.pool)
    (more is_device_read event rest counts.l2)
    (more is_pass event rest counts.pass)
    (more is_set event rest counts.set)

none-more : (n : ℕ) → n + 0 ≡ n
none-more n = omega arith

-- and ends where none is left
pub counts-done : (counts : Counts) → with_counts counts (counts_of_shard []) ≡ counts
counts-done counts =
    same-counts (with_counts counts (counts_of_shard [])) counts
    (none-more counts.hit) (none-more counts.miss) (none-more counts.past) (none-more counts.pool) (none-more counts.l2) (none-more counts.pass) (none-more counts.set)

few-one : (a n all most : ℕ) (b : Bool) → (a + (if b then 1 else 0)) + n ≡ all → all ≤ most → most < 2 ^ 64 → a + (if b then 1 else 0) < 2 ^ 128
few-one a n all most b same le few = omega arith

-- the counts with one event more of a history are in their range
pub AreFew-event : (counts : Counts) (event : Event) (rest all : List Event) → with_counts (with_event counts event) (counts_of_shard rest) ≡ counts_of_shard all → length all < 2 ^ 64
    → AreFew (with_event counts event)
AreFew-event counts event rest all same few = record {
  hit = few-one counts.hit (count_by is_hit rest) (count_by is_hit all) (length all) (is_hit event) (ap (λ (c : Counts). c.hit) same) (count_by-le-length is_hit all) few;
  miss = few-one counts.miss (count_by is_miss rest) (count_by is_miss all) (length all) (is_miss event) (ap (λ (c : Counts). c.miss) same) (count_by-le-length is_miss all) few;
  past = few-one counts.past (count_by is_past rest) (count_by is_past all) (length all) (is_past event) (ap (λ (c : Counts). c.past) same) (count_by-le-length is_past all) few;
  pool = few-one counts.pool (count_by is_pool_read rest) (count_by is_pool_read all) (length all) (is_pool_read event) (ap (λ (c : Counts). c.pool) same) (count_by-le-length is_pool_read all) few;
  l2 = few-one counts.l2 (count_by is_device_read rest) (count_by is_device_read all) (length all) (is_device_read event) (ap (λ (c : Counts). c.l2) same) (count_by-le-length is_device_read all) few;
  pass = few-one counts.pass (count_by is_pass rest) (count_by is_pass all) (length all) (is_pass event) (ap (λ (c : Counts). c.pass) same) (count_by-le-length is_pass all) few;
  set = few-one counts.set (count_by is_set rest) (count_by is_set all) (length all) (is_set event) (ap (λ (c : Counts). c.set) same) (count_by-le-length is_set all) few;
}
