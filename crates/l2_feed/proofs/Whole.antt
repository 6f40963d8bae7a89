-- What one feed did, put together.
use Rattle.std.proofs.Common.{◌≡◌, ◌⊎◌, ℕ, ◌+◌, ◌<◌, ◌≤◌, List, ◌++◌, length, inl, inr, refl, ap, ◌∙◌, subst, arith, length-append}
use Rattle.std.proofs.lemmas.Bool.{cases_lt}
use Rattle.std.specs.Prelude.{IsErrOf, Err, sum_by}
use Rattle.std.proofs.lemmas.List.Sums.{sum_by-append}
use Rattle.blk_ptr.specs.declared.key.Key.{Key}
use Rattle.turn_table.specs.Places.{Place}
use Rattle.arc_table.specs.declared.view.Known.{Known}
use Rattle.arc_table.specs.Cache.{Cache}
use Rattle.arc_table.specs.Items.{Meanings}
use Rattle.l2_dev.specs.declared.report.FeedReport.{FeedReport}
use Rattle.vdev_io.specs.Faults.{Rose}
use Rattle.vdev_io.specs.declared.device.CacheDev.{Ghosts}
use Rattle.vdev_io.specs.Calls.{DeviceCall, MakesDeviceCalls}
use Rattle.l2_dev.specs.declared.fault.DevErr.{DevErr}
use Rattle.l2_dev.specs.declared.fault.DevErr.TheVariants as err
use Rattle.l2_dev.specs.declared.report.FeedStop.{FeedStop}
use Rattle.l2_dev.specs.declared.report.FeedStop.TheVariants as stop
use Rattle.l2_dev.specs.Cursor.{CursorState}
use Rattle.l2_ring.specs.declared.plan.Plan.{Plan}
use Rattle.l2_ring.specs.Ring.{IsPlanFor, last_lap}
use Rattle.l2_feed.specs.Acts.{Act, DoesActs}
use Rattle.l2_feed.specs.Fed.{HasFed}
use Rattle.l2_feed.specs.Ready.{IsFeederReady}
use Rattle.l2_feed.specs.Runs.{batch_len}
use Rattle.l2_feed.specs.Shape.{AreFed, FedShard, IsUnwritten, IsWritten, stop_of}
use Rattle.l2_feed.specs.Sums.{CountsMore, IsSummary, picked_in}
use Rattle.l2_feed.proofs.Again.{fed_again}
use Rattle.l2_feed.specs.Alone.{shards_seen}
use Rattle.l2_feed.proofs.Alone.{acts_alone}
use Rattle.l2_feed.proofs.Plain.{fed_plain}
use Rattle.l2_feed.proofs.Keeping.{fed_kept}
use Rattle.l2_feed.proofs.Newest.{fed_newest}
use Rattle.l2_feed.proofs.Owning.{fed_owns}
use Rattle.l2_feed.proofs.Stepped.{Knows}
use Rattle.l2_feed.proofs.Taking.{acts_stay}
use Rattle.l2_feed.proofs.Blocks.{fed_told}
use Rattle.arc_table.proofs.Afterwards.{Stays}
use Rattle.l2_feed.proofs.Counting.{cleared-append, picked-append, placed-append}

pub sums_more : (acts more : List Act) (old new : FeedReport) → IsSummary acts old → CountsMore more old new → IsSummary (acts ++ more) new
sums_more acts more old new was m = record {
  picked = (let x = was.picked in let y = m.picked in let e = ap length (picked-append acts more) ∙ length-append (picked_in acts) (picked_in more) in omega arith);
  bytes = (let x = was.bytes in let y = m.bytes in let e = ap (sum_by (λ (k : Key). k.size)) (picked-append acts more) ∙ sum_by-append (λ (k : Key). k.size) (picked_in acts) (picked_in more) in omega arith);
  written = (let x = was.written in let y = m.written in let e = placed-append acts more in omega arith);
  cleared = (let x = was.cleared in let y = m.cleared in let e = cleared-append acts more in omega arith);
}

pub sums_same : (acts : List Act) (old new : FeedReport) → IsSummary acts old → new.picked ≡ old.picked → new.bytes ≡ old.bytes → new.written ≡ old.written → new.cleared ≡ old.cleared → IsSummary acts new
sums_same acts old new was picked bytes written cleared = record { picked = picked ∙ was.picked; bytes = bytes ∙ was.bytes; written = written ∙ was.written; cleared = cleared ∙ was.cleared }

pub has_fed : {C D : Type 0} (m : Meanings C) (cache : Cache) (device : Ghosts D) (was now : D) (old new : CursorState) (acts : List Act) (calls : List DeviceCall) (p q : Place (Known C)) (report : FeedReport) → IsFeederReady cache p
    → DoesActs m cache.config acts p q → MakesDeviceCalls device calls was now → AreFed 0 cache.config.shards old new acts calls report.end → IsSummary acts report → HasFed m cache.config device was now old new p q report
has_fed m cache device was now old new acts calls p q report ready did made fed sums =
    let knows : Knows cache.config p = record { valid = ready.on.valid; config = ready.on.of.config; feeder = ready.on.feeder; seen = ready.on.seen } in
    let stays : Stays p q = acts_stay m cache.config acts p q knows did in
    record {
      acts = acts;
      calls = calls;
      did = did;
      told = fed_told m cache.config calls 0 cache.config.shards old new acts calls report.end p q knows did fed (λ c among. among);
      alone = acts_alone m cache.config acts p q knows did;
      held = stays.held;
      joined = stays.joined;
      made = made;
      fed = fed;
      plain = λ all ended none. fed_plain cache.config p.number (shards_seen cache.config p) old new acts calls report fed sums ended none (acts_alone m cache.config acts p q knows did all).of_shards;
      sums = sums;
      kept = fed_kept m cache.config 0 cache.config.shards old new acts calls report.end p q knows did fed;
      newest = fed_newest m cache.config 0 cache.config.shards old new acts calls report.end p q knows did fed;
      own = (fed_owns m cache.config 0 cache.config.shards old new acts calls report.end p q knows did fed).1;
      again = fed_again m cache.config 0 cache.config.shards old new acts calls report.end p q knows did fed;
    }

-- the lap stood below its last value before, where it does so afterwards
pub lap_before : (shard : ℕ) (old new : CursorState) (acts : List Act) (calls : List DeviceCall) (end : FeedStop) → FedShard shard old new acts calls end → new.ring.lap < last_lap → old.ring.lap < last_lap
lap_before shard old new acts calls end (inl f) below = subst (λ (c : CursorState). c.ring.lap < last_lap) f.1 below
lap_before shard old new acts calls end (inr (inl f)) below = subst (λ (c : CursorState). c.ring.lap < last_lap) f.1 below
lap_before shard old new acts calls end (inr (inr f)) below = go f.written
  where
    plan_lap : (plan : Plan) → IsPlanFor old.ring (batch_len f.blocks) plan → plan.lap < last_lap → old.ring.lap < last_lap
    plan_lap plan is less = elim (cases_lt old.ring.end (old.ring.hand + batch_len f.blocks)) [
      | inl far ↦ let e = ap (λ (x : Plan). x.lap) (is.wrapped far) in omega arith
      | inr near ↦ let e = ap (λ (x : Plan). x.lap) (is.straight near) in omega arith
    ]

    go : IsWritten old new f.blocks f.clears f.settles end ⊎ IsUnwritten old new f.blocks f.clears f.settles end → old.ring.lap < last_lap
    go (inl w) = plan_lap w.planned.plan w.planned.plan_for (let a = w.planned.numbers.lap in let b = w.ran.numbers.lap in omega arith)
    go (inr u) = subst (λ (c : CursorState). c.ring.lap < last_lap) u.same below

-- a fault of the device that ends a feed rose in it
pub fault_rose : (fault : DevErr) (a b c : ℕ) → a ≤ b → (IsErrOf {T = Unit {0}} (Err fault) err.DevFault → Rose b c) → stop_of fault ≡ stop.DevFault → Rose a c
fault_rose err.DevFault a b c less rose is = let r = rose refl in omega arith
fault_rose err.NoMemory a b c less rose is = cc
