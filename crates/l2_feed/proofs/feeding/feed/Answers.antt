use Rattle.std.proofs.Common.{◌≡◌, suc, ◌<◌, ◌+◌, ◌++◌, ℕ, refl, sym, ap, ◌∙◌, subst, arith, add-one}
use Rattle.arc_core.specs.declared.config.Config.{Config}
use Rattle.l2_dev.specs.declared.report.FeedStop.{FeedStop}
use Rattle.l2_dev.specs.declared.report.FeedStop.TheVariants as stop
use Rattle.l2_feed.specs.Shape.{AreFed, stop_of}
use Rattle.l2_feed.proofs.Acted.{acts_append}
use Rattle.l2_feed.proofs.Batches.{not_done}
use Rattle.l2_feed.proofs.Shards.{fed_last, fed_stop}
use Rattle.l2_feed.specs.Crashes.{FeedAsks, FeedKeeps}
use Rattle.vdev_io.proofs.CallLemmas.{calls_behind}
use Rattle.l2_feed.proofs.Asking.{feed_asks}
use Rattle.l2_feed.proofs.Crashing.{feed_keeps, own_then, some_then}
use Rattle.l2_feed.proofs.Whole.{fault_rose, has_fed, lap_before, sums_more, sums_same}
use Rattle.l2_feed.proofs.feeding.feed.Goals as goal

pub returns-in-Err-clause-fed : goal.returns-in-Err-clause-fed
returns-in-Err-clause-fed g c =
    let m = g.C.Keeps in
    let d = g.D.CacheDev in
    let cache = c.args.arcs.now in
    let old = c.args.l2.now.cursor in
    let mid = c.loop-shard.l2.cursor in
    let new = c.feed_shard-fed.new.l2.cursor in
    let s : ℕ = c.loop-shard.shard in
    let f = c.loop-shard.invariant.fed in
    let e = c.in-Err.ensures.fed in
    let below : s < cache.config.shards = (let t = c.loop-shard-test.true in let k = ap (λ (x : Config). x.shards) c.config.ensures in omega arith) in
    let at : s ≡ 0 + s = omega arith in
    has_fed m cache d c.args.l2.now.dev c.feed_shard-fed.new.l2.dev old new (f.0 ++ e.0) (f.1 ++ e.1) c.args.party.now c.feed_shard-fed.new.party _ c.requires.feeder
    (acts_append m cache.config f.0 e.0 c.args.party.now c.loop-shard.party c.feed_shard-fed.new.party f.2 e.2)
    (calls_behind d f.1 e.1 c.args.l2.now.dev c.loop-shard.l2.dev c.feed_shard-fed.new.l2.dev f.4 e.4)
    (subst (λ (x : FeedStop). AreFed 0 cache.config.shards old new (f.0 ++ e.0) (f.1 ++ e.1) x) (sym c.stop_of-report.ensures)
    (fed_stop 0 s s cache.config.shards old mid new f.0 e.0 f.1 e.1 (stop_of c.in-Err.fault) at below (not_done c.in-Err.fault) f.5 e.5))
    (sums_same (f.0 ++ e.0) c.feed_shard-fed.new.report _ (sums_more f.0 e.0 c.loop-shard.report c.feed_shard-fed.new.report f.3 e.3) refl refl refl refl)

pub loop-shard-preserved : goal.loop-shard-preserved
loop-shard-preserved g c =
    let m = g.C.Keeps in
    let cache = c.args.arcs.now in
    let s : ℕ = c.loop-shard.shard in
    let was = c.loop-shard.invariant in
    let d = g.D.CacheDev in
    let i = c.in_default.ensures in
    let f = was.fed in
    let e = i.fed in
    let at : s ≡ 0 + s = omega arith in
    record {
      feeder = i.feeder;
      device = i.device;
      size = i.size ∙ was.size;
      faults = (let a = i.cause.kept in let b = was.faults in omega arith);
      crash = λ below. own_then d.told d.has_sectors d.may_leave c.args.l2.now.dev c.loop-shard.l2.dev c.feed_shard-fed.new.l2.dev c.args.l2.now.cursor c.loop-shard.l2.cursor c.feed_shard-fed.new.l2.cursor
          (was.crash (lap_before s c.loop-shard.l2.cursor c.feed_shard-fed.new.l2.cursor e.0 e.1 stop.Done e.5 below)) (i.crash below);
      room = i.room;
      end = i.end ∙ was.end;
      few = (let t = c.loop-shard-test.true in let k = ap (λ (x : Config). x.shards) c.config.ensures in omega arith);
      fed = (
        f.0 ++ e.0,
        f.1 ++ e.1,
        acts_append m cache.config f.0 e.0 c.args.party.now c.loop-shard.party c.feed_shard-fed.new.party f.2 e.2,
        sums_more f.0 e.0 c.loop-shard.report c.feed_shard-fed.new.report f.3 e.3,
        calls_behind d f.1 e.1 c.args.l2.now.dev c.loop-shard.l2.dev c.feed_shard-fed.new.l2.dev f.4 e.4,
        subst (λ (n : ℕ). AreFed 0 n c.args.l2.now.cursor c.feed_shard-fed.new.l2.cursor (f.0 ++ e.0) (f.1 ++ e.1) stop.Done) (sym (add-one s))
            (fed_last 0 s s c.args.l2.now.cursor c.loop-shard.l2.cursor c.feed_shard-fed.new.l2.cursor f.0 e.0 f.1 e.1 at f.5 e.5),
      );
    }

pub returns-in-Err-clause-asks : goal.returns-in-Err-clause-asks
returns-in-Err-clause-asks g c =
    let d = g.D.CacheDev in
    let s : ℕ = c.loop-shard.shard in
    let f = c.loop-shard.invariant.fed in
    let e = c.in-Err.ensures.fed in
    let at : s ≡ 0 + s = omega arith in
    let below : s < suc s = omega arith in
    subst (FeedAsks d c.args.l2.now.dev c.feed_shard-fed.new.l2.dev) (sym c.stop_of-report.ensures)
    (feed_asks d 0 (suc s) c.args.l2.now.cursor c.feed_shard-fed.new.l2.cursor (f.0 ++ e.0) (f.1 ++ e.1) (stop_of c.in-Err.fault) c.args.l2.now.dev c.feed_shard-fed.new.l2.dev
    (calls_behind d f.1 e.1 c.args.l2.now.dev c.loop-shard.l2.dev c.feed_shard-fed.new.l2.dev f.4 e.4)
    (fed_stop 0 s s (suc s) c.args.l2.now.cursor c.loop-shard.l2.cursor c.feed_shard-fed.new.l2.cursor f.0 e.0 f.1 e.1 (stop_of c.in-Err.fault) at below (not_done c.in-Err.fault) f.5 e.5))

pub returns-clause-asks : goal.returns-clause-asks
returns-clause-asks g c =
    let d = g.D.CacheDev in
    let f = c.loop-shard.invariant.fed in
    subst (FeedAsks d c.args.l2.now.dev c.loop-shard.l2.dev) (sym c.loop-shard.invariant.end)
    (feed_asks d 0 c.loop-shard.shard c.args.l2.now.cursor c.loop-shard.l2.cursor f.0 f.1 stop.Done c.args.l2.now.dev c.loop-shard.l2.dev f.4 f.5)

pub returns-in-Err-clause-crash : goal.returns-in-Err-clause-crash
returns-in-Err-clause-crash g c below =
    let d = g.D.CacheDev in
    let e = c.in-Err.ensures.fed in
    subst (FeedKeeps d.told d.has_sectors d.may_leave c.args.l2.now.dev c.feed_shard-fed.new.l2.dev c.args.l2.now.cursor c.feed_shard-fed.new.l2.cursor) (sym c.stop_of-report.ensures)
    (feed_keeps d.told d.has_sectors d.may_leave c.args.l2.now.dev c.feed_shard-fed.new.l2.dev c.args.l2.now.cursor c.feed_shard-fed.new.l2.cursor c.in-Err.fault
    (some_then d.told d.has_sectors d.may_leave c.args.l2.now.dev c.loop-shard.l2.dev c.feed_shard-fed.new.l2.dev c.args.l2.now.cursor c.loop-shard.l2.cursor c.feed_shard-fed.new.l2.cursor
    (c.loop-shard.invariant.crash (lap_before c.loop-shard.shard c.loop-shard.l2.cursor c.feed_shard-fed.new.l2.cursor e.0 e.1 (stop_of c.in-Err.fault) e.5 below)) (c.in-Err.ensures.crash below)))

pub returns-in-Err-clause-cause : goal.returns-in-Err-clause-cause
returns-in-Err-clause-cause g c =
    λ is. fault_rose c.in-Err.fault (g.D.CacheDev.faults c.args.l2.now.dev) (g.D.CacheDev.faults c.loop-shard.l2.dev) (g.D.CacheDev.faults c.feed_shard-fed.new.l2.dev) c.loop-shard.invariant.faults c.in-Err.ensures.cause.rose (sym c.stop_of-report.ensures ∙ is)

pub returns-clause-crash : goal.returns-clause-crash
returns-clause-crash g c =
    λ below. let d = g.D.CacheDev in
    subst (FeedKeeps d.told d.has_sectors d.may_leave c.args.l2.now.dev c.loop-shard.l2.dev c.args.l2.now.cursor c.loop-shard.l2.cursor) (sym c.loop-shard.invariant.end) (c.loop-shard.invariant.crash below)

pub returns-clause-fed : goal.returns-clause-fed
returns-clause-fed g c =
    let m = g.C.Keeps in
    let cache = c.args.arcs.now in
    let old = c.args.l2.now.cursor in
    let new = c.loop-shard.l2.cursor in
    let was = c.loop-shard.invariant in
    let f = was.fed in
    let all : c.loop-shard.shard ≡ cache.config.shards = (let t = c.loop-shard-test.false in let k = ap (λ (x : Config). x.shards) c.config.ensures in let b = was.few in omega arith) in
    has_fed m cache g.D.CacheDev c.args.l2.now.dev c.loop-shard.l2.dev old new f.0 f.1 c.args.party.now c.loop-shard.party c.loop-shard.report c.requires.feeder f.2 f.4
    (subst (λ (x : ℕ × FeedStop). AreFed 0 x.0 old new f.0 f.1 x.1) (λ i. (all i, sym was.end i)) f.5) f.3
