use Rattle.std.proofs.Common.{◌≡◌, false, true, List, sym, ap, subst, ◌∙◌}
use Rattle.arc_core.specs.declared.served.Restored.{Restored}
use Rattle.trace_run.specs.Devices.{lent_in}
use Rattle.trace_run.specs.FeedSeries.{LeavesFed}
use Rattle.trace_run.specs.Lines.{has_further}
use Rattle.trace_run.specs.RunWork.{RunWork}
use Rattle.trace_run.specs.callers.GroupRun.{RanTogether}
use Rattle.trace_run.specs.callers.Together.{report_of_closed}
use Rattle.trace_run.specs.one_caller.Alone.{RanAlone, ends_in, histories_of}
use Rattle.trace_run.specs.one_caller.InTurn.{RunsInTurn}
use Rattle.trace_run.specs.one_caller.Lent.{ReadsAlone}
use Rattle.trace_run.proofs.feeds.LeftLemmas.{unfed-left}
use Rattle.trace_run.proofs.theorem.DeviceUsed.{lent-only}
use Rattle.trace_run.proofs.theorem.RanLemmas.{alone-has-run, turn-has-run}
use Rattle.trace_run.proofs.in_turn.run_single.Goals as goal

pub returns-then-has_further-clause-ran : goal.returns-then-has_further-clause-ran
returns-then-has_further-clause-ran g c = λ rebuilt found.
    let trace = c.args.trace.now in
    let did = c.in_ok-ran.ran in
    let back = lent_in c.run_one.new.device in
    let r = c.in_ok-ran.ensures.ran in
    let further : has_further trace.ops ≡ true = ap has_further (sym c.as_slice.ensures) ∙ (sym c.has_further.ensures ∙ c.if-has_further.true) in
    let both = subst (λ (l : List Restored). (t : RanTogether g.P.Pool g.D.CacheDev c.args.pool.now c.run_one.new.pool (lent_in c.args.device.now) back trace did.ending l did.replies.items r.0 did.closed)
    × RunsInTurn g.P.Pool g.D.CacheDev c.args.pool.now c.run_one.new.pool (lent_in c.args.device.now) back t.place trace did.ending r.0 t.explained.owner did.closed.cells (report_of_closed did.ending rebuilt did.replies.items did.closed)) (sym found)
    (r.1, r.2 rebuilt found) in
    let has = turn-has-run g.P.Pool g.D.CacheDev c.args.pool.now c.run_one.new.pool (lent_in c.args.device.now) back trace rebuilt did.replies.items did.closed did.ending r.0 c.requires.one further both.0 both.1 in
    (has.0, subst (λ (w : RunWork). LeavesFed g.D.CacheDev trace.config c.args.restored.now w.feeds c.args.device.now c.run_one.new.device (histories_of did.closed)) (sym has.1) r.3)

pub returns-clause-ran : goal.returns-clause-ran
returns-clause-ran g c = λ rebuilt found.
    let trace = c.args.trace.now in
    let did = c.in_ok-ran-2.ran in
    let r = c.in_ok-ran-2.ensures in
    let back = lent_in c.run_alone.new.device in
    let done : has_further trace.ops ≡ false = ap has_further (sym c.as_slice.ensures) ∙ (sym c.has_further.ensures ∙ c.if-has_further.false) in
    let has = alone-has-run g.P.Pool g.D.CacheDev c.args.pool.now c.run_alone.new.pool (lent_in c.args.device.now) back trace rebuilt did.replies.items did.closed done did.ending r.whole c.requires.formed c.requires.one
    (subst (λ (l : List Restored). RanAlone g.P.Pool c.args.pool.now c.run_alone.new.pool trace l did.replies.items did.closed) (sym found) r.ran)
    (subst (λ (l : List Restored). ReadsAlone g.P.Pool g.D.CacheDev c.args.pool.now trace l did.replies.items (lent_in c.args.device.now) back) (sym found) r.read)
    r.cells (lent-only g.D.CacheDev c.args.device.now c.run_alone.new.device c.run_alone.ensures.device) in (
      has,
      subst (λ (l : List Restored). LeavesFed g.D.CacheDev trace.config l has.work.feeds c.args.device.now c.run_alone.new.device (histories_of did.closed)) found
          (unfed-left g.D.CacheDev trace c.requires.formed.config _ has.work did.replies.items (ends_in did.closed) (histories_of did.closed) has.run.explained (ap (λ (x : RunWork). x.feeds) (has.plain c.requires.one done))
          c.args.device.now c.run_alone.new.device c.run_alone.ensures.device),
    )

pub run_alone-requires-clause-plain : goal.run_alone-requires-clause-plain
run_alone-requires-clause-plain g c κs within = ap has_further (sym c.as_slice.ensures) ∙ (sym c.has_further.ensures ∙ c.if-has_further.false)
