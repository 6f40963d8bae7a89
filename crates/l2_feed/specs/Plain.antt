-- A feed of a party that meets nobody, as a plain function: of the shards, the ring, and how the device answers its calls.
use Rattle.std.specs.Prelude.{◌≡◌, ℕ, zero, suc, ◌+◌, ◌*◌, ◌==◌, nat_le, Bool, true, false, if◌then◌else◌, List, [], ◌∷◌, ◌++◌, length, map, count_by, sum_by, take, drop}
use Rattle.std.specs.List.{filter}
use Rattle.vdev_io.specs.Calls.{Call, DeviceCall, Failed, Gave}
use Rattle.blk_ptr.specs.declared.key.Key.{Key}
use Rattle.blk_ptr.specs.Hash.{shard_of}
use Rattle.arc_core.specs.declared.config.Config.{Config}
use Rattle.arc_core.specs.declared.entry.Picked.{Picked as Pick_of}
use Rattle.arc_core.specs.declared.event.Event.{Event}
use Rattle.arc_core.specs.declared.event.Event.TheVariants as event
use Rattle.arc_core.specs.declared.event.Why.TheVariants as why
use Rattle.arc_core.specs.PlainShard.{PlainShard}
use Rattle.arc_core.specs.Replay.{replay}
use Rattle.arc_core.specs.Step.{may_set}
use Rattle.arc_table.specs.feeder.Feeding.{has_place}
use Rattle.l2_log.specs.Rules.{log_len}
use Rattle.l2_ring.specs.declared.live.Live.{Live}
use Rattle.l2_ring.specs.declared.live.Written.{Written}
use Rattle.l2_ring.specs.declared.plan.Plan.{Plan}
use Rattle.l2_ring.specs.Ring.{RingState, straight_plan, wrapped_plan}
use Rattle.l2_ring.specs.Stays.{falls, live_of, stays}
use Rattle.l2_dev.specs.declared.report.FeedReport.{FeedReport}
use Rattle.l2_dev.specs.declared.report.FeedStop.{FeedStop}
use Rattle.l2_dev.specs.declared.report.FeedStop.TheVariants as stop
use Rattle.l2_feed.specs.Acts.{Act, Absent, Cleared, Left, Placed}
use Rattle.l2_feed.specs.Alone.{picks_from, shards_after}
use Rattle.l2_feed.specs.Runs.{most, runs_of}
use Rattle.l2_feed.specs.Told.{events_of, shard_of_act}

-- ---- where a feed stands

-- all shards, the ring, and how the device answers its next calls; where no answer is said, a call is done
pub record Standing : Type 0 where
  pub shards : ℕ → PlainShard
  pub ring : RingState
  pub answers : List Call

-- the ring without its room for more entries, which no promise speaks of
abbrev pub bare : RingState → RingState
bare ring = record ring { spare = 0 }

-- each of the next so many calls is done
abbrev pub all_done : ℕ → List Call → Bool
all_done zero answers = true
all_done (suc n) [] = true
all_done (suc n) (Gave ∷ answers) = all_done n answers
all_done (suc n) (Failed ∷ answers) = false

-- the answers behind so many calls, or behind the first one that fails
abbrev pub answers_behind : ℕ → List Call → List Call
answers_behind zero answers = answers
answers_behind (suc n) [] = []
answers_behind (suc n) (Gave ∷ answers) = answers_behind n answers
answers_behind (suc n) (Failed ∷ answers) = answers

-- all shards, once these acts of n were done
abbrev pub all_after : Config → (n : ℕ) → (ℕ → PlainShard) → List Act → ℕ → PlainShard
all_after g n s [] = s
all_after g n s (act ∷ acts) = all_after g n (shards_after g n s act) acts

-- ---- the ring

-- the bytes of picked keys
abbrev pub size_of : List Pick_of → ℕ
size_of picks = sum_by (λ x. x.key.size) picks

-- the plan for so many bytes
abbrev pub plan_for : RingState → ℕ → Plan
plan_for ring n = if nat_le (ring.hand + n) ring.end then straight_plan ring n else wrapped_plan ring n

abbrev pub with_plan : RingState → Plan → RingState
with_plan ring plan = record ring { hand = plan.hand; evict = plan.evict; top = plan.top; lap = plan.lap; live = filter (stays plan) ring.live }

-- the entries of picked keys that lie side by side from this place on
abbrev pub entries_of : (lap place : ℕ) → List Pick_of → List Written
entries_of lap place [] = []
entries_of lap place (x ∷ xs) = record { live = record { key = x.key; place = place; digest = x.digest }; lap = lap } ∷ entries_of lap (place + x.key.size) xs

-- a run was committed at the hand
abbrev pub with_run : RingState → List Pick_of → RingState
with_run ring run = record ring { hand = ring.hand + (size_of run + log_len); live = ring.live ++ entries_of ring.lap ring.hand run }

-- ---- what is done with the cache

-- each of these places is taken where its key has it
abbrev pub clears_of : Config → (n : ℕ) → (ℕ → PlainShard) → List Live → List Act
clears_of g n s [] = []
clears_of g n s (l ∷ ls) =
    let act = if has_place l.place l.key (s (shard_of g.shards l.key)) then Cleared l.key l.place else Absent l.key l.place in
    act ∷ clears_of g n (shards_after g n s act) ls

-- each of these keys gets its place, from this one on, or is left as gone
abbrev pub sets_of : Config → (n : ℕ) → (ℕ → PlainShard) → (place : ℕ) → List Pick_of → List Act
sets_of g n s place [] = []
sets_of g n s place (x ∷ xs) =
    let act = if may_set x.key (s (shard_of g.shards x.key)) then Placed x.key place else Left x.key why.Gone in
    act ∷ sets_of g n (shards_after g n s act) (place + x.key.size) xs

-- each of these keys is left since the device failed, or as gone
abbrev pub leaves_of : Config → (n : ℕ) → (ℕ → PlainShard) → List Pick_of → List Act
leaves_of g n s [] = []
leaves_of g n s (x ∷ xs) =
    let act = Left x.key (if may_set x.key (s (shard_of g.shards x.key)) then why.Device else why.Gone) in
    act ∷ leaves_of g n (shards_after g n s act) xs

-- ---- a batch

-- what was done with the cache, where that leaves the feed, and how it ended
pub record Settled : Type 0 where
  pub acts : List Act
  pub at : Standing
  pub end : FeedStop

abbrev pub nothing_more : Standing → Settled
nothing_more st = record { acts = []; at = st; end = stop.Done }

-- the device failed: all of these are left
abbrev pub left_all : Config → (n : ℕ) → List Pick_of → Standing → Settled
left_all g n picks st =
    let leaves = leaves_of g n st.shards picks in
    record { acts = leaves; at = record st { shards = all_after g n st.shards leaves }; end = stop.DevFault }

-- The picked keys are written in runs, of which there are no more than this. Each has a write for each block, one of a log block, a flush, one of a
-- header, and a flush; then its keys are set. Where one of these fails, the run and all behind it are left.
abbrev pub runs_from : Config → (n runs : ℕ) → List Pick_of → Standing → Settled
runs_from g n zero picks st = nothing_more st
runs_from g n (suc runs) [] st = nothing_more st
runs_from g n (suc runs) (x ∷ xs) st =
    let run = take most (x ∷ xs) in
    let calls = length run + 4 in
    let behind = answers_behind calls st.answers in
    let sets = sets_of g n st.shards st.ring.hand run in
    let more = runs_from g n runs (drop most (x ∷ xs)) record { shards = all_after g n st.shards sets; ring = with_run st.ring run; answers = behind } in
    if all_done calls st.answers then record { acts = sets ++ more.acts; at = more.at; end = more.end } else left_all g n (x ∷ xs) record st { answers = behind }

-- The plan is taken, with a write of the header and a flush, and the places of what it drops are taken back, also where one of the two fails. Then
-- the runs are written.
abbrev pub batch_from : Config → (n : ℕ) → List Pick_of → Standing → Settled
batch_from g n picks st =
    let plan = plan_for st.ring (size_of picks + log_len * runs_of (length picks)) in
    let clears = clears_of g n st.shards (map live_of (filter (falls plan) st.ring.live)) in
    let begun : Standing = record { shards = all_after g n st.shards clears; ring = with_plan st.ring plan; answers = answers_behind 2 st.answers } in
    let rest = if all_done 2 st.answers then runs_from g n (length picks) picks begun else left_all g n picks begun in
    record { acts = clears ++ rest.acts; at = rest.at; end = rest.end }

-- ---- a feed

-- the events of acts of n, each with the shard in which it was made
abbrev pub told_of : Config → (n : ℕ) → List Act → List (ℕ × Event)
told_of g n [] = []
told_of g n (act ∷ acts) = map (λ e. (shard_of_act g act, e)) (events_of n act) ++ told_of g n acts

-- the picks of these, and the feed's end
abbrev pub picking_events : (n : ℕ) → List Pick_of → List Event
picking_events n picks = map (λ x. event.Pick n x.key) picks ++ event.FeedEnd n ∷ []

-- what a feed did, event by event, each with its shard; where that leaves it, and how it ended
pub record PlainFed : Type 0 where
  pub events : List (ℕ × Event)
  pub at : Standing
  pub end : FeedStop

-- a batch, or nothing where nothing was picked
abbrev pub batch_if_some : Config → (n : ℕ) → List Pick_of → Standing → Settled
batch_if_some g n [] st = nothing_more st
batch_if_some g n (x ∷ xs) st = batch_from g n (x ∷ xs) st

-- one shard is fed
abbrev pub shard_from : Config → (n shard : ℕ) → Standing → PlainFed
shard_from g n shard st =
    let picks = picks_from (st.shards shard) in
    let events = picking_events n picks in
    let rest = batch_if_some g n picks record st { shards = λ other. if shard == other then replay (st.shards other) events else st.shards other } in
    record { events = map (λ e. (shard, e)) events ++ told_of g n rest.acts; at = rest.at; end = rest.end }

-- one feed, and then another where it was done
abbrev pub then_fed : PlainFed → PlainFed → PlainFed
then_fed one rest = record { events = one.events ++ rest.events; at = rest.at; end = rest.end }

abbrev pub unless_ended : FeedStop → (done ended : PlainFed) → PlainFed
unless_ended stop.Done done ended = done
unless_ended stop.DevFault done ended = ended
unless_ended stop.NoMemory done ended = ended

-- so many shards are fed from this one on, up to the one where the device fails
abbrev pub fed_from : Config → (n shard count : ℕ) → Standing → PlainFed
fed_from g n shard zero st = record { events = []; at = st; end = stop.Done }
fed_from g n shard (suc count) st =
    let one = shard_from g n shard st in
    unless_ended one.end (then_fed one (fed_from g n (suc shard) count one.at)) one

-- a feed of all shards by the feeder of this number
abbrev pub fed_of : Config → (n : ℕ) → Standing → PlainFed
fed_of g n st = fed_from g n 0 g.shards st

-- the keys that were picked by events
abbrev pub picked_by : List (ℕ × Event) → List Key
picked_by [] = []
picked_by ((shard, event.Pick n k) ∷ es) = k ∷ picked_by es
picked_by (_ ∷ es) = picked_by es

abbrev pub is_set : Event → Bool
is_set (event.Set n k place) = true
is_set _ = false

abbrev pub is_clear : Event → Bool
is_clear (event.Clear n k) = true
is_clear _ = false

-- the report of a feed: how many keys it picked and the sum of their sizes, how many it set, how many places it took, and how it ended
abbrev pub report_of : PlainFed → FeedReport
report_of fed = record {
  picked = length (picked_by fed.events);
  bytes = sum_by (λ k. k.size) (picked_by fed.events);
  written = count_by (λ e. is_set e.1) fed.events;
  cleared = count_by (λ e. is_clear e.1) fed.events;
  end = fed.end;
}

-- ---- a feed is the plain one

-- how calls were answered
abbrev pub answers_of : List DeviceCall → List Call
answers_of calls = map (λ call. call.answer) calls

-- These acts of n, with these calls, are the plain feed of these shards and this ring, whatever the device answers later: it makes their events, leaves
-- this ring, and has this report.
abbrev pub IsPlainFeed : Config → (n : ℕ) → (ℕ → PlainShard) → (old new : RingState) → List Act → List DeviceCall → FeedReport → Type 0
IsPlainFeed g n s old new acts calls report =
    (later : List Call) → let fed = fed_of g n record { shards = s; ring = bare old; answers = answers_of calls ++ later } in
    (fed ≡ record { events = told_of g n acts; at = record { shards = all_after g n s acts; ring = bare new; answers = later }; end = report.end }) × (report_of fed ≡ report)
