use Rattle.std.proofs.Common.{List, sym, subst, arith}
use Rattle.arc_core.specs.declared.served.Restored.{Restored}
use Rattle.trace_run.specs.one_caller.Alone.{histories_of}
use Rattle.trace_run.specs.FeedSeries.{LeavesFed}
use Rattle.trace_run.specs.Restores.{found_keys}
use Rattle.trace_run.specs.Devices.{lent_in}
use Rattle.trace_run.specs.callers.GroupRun.{RanTogether}
use Rattle.trace_run.specs.Outcome.{HasRun}
use Rattle.trace_run.specs.RunWork.{RunWork}
use Rattle.trace_run.specs.callers.Together.{report_of_closed}
use Rattle.trace_run.proofs.theorem.RanLemmas.{together-has-run}
use Rattle.trace_run.proofs.run_trace.run_trace.Goals as goal
use Rattle.trace_run.proofs.run_trace.run_trace.Goals.{then-trace-eq1+in_ok-ran, else-trace-eq1+in_ok-ran-2}

pub returns-clause-run : goal.returns-clause-run
returns-clause-run g c =
    let ran = c.if-trace-eq1.ran in
    let trace = c.args.trace.now in
    let told = c.in_ok-reported.ensures in
    let run : (r : HasRun g.P.Pool g.D.CacheDev c.args.pool.now c.if-trace-eq1.pool (lent_in c.args.device.now) (lent_in c.if-trace-eq1.device) trace ran.ending ran.closed (report_of_closed ran.ending c.args.rebuilt ran.replies.items ran.closed))
    × LeavesFed g.D.CacheDev trace.config (found_keys c.args.rebuilt) r.work.feeds c.args.device.now c.if-trace-eq1.device (histories_of ran.closed) = elim c.if-trace-eq1.branch [
      | then-trace-eq1+in_ok-ran w ↦
          let did = w.in_ok-ran.ran in
          let has = w.in_ok-ran.ensures.ran c.args.rebuilt (sym w.found_keys.ensures) in
          rw (w.ran-is, w.pool-is, w.device-is) (
            has.0,
            subst (λ (l : List Restored). LeavesFed g.D.CacheDev trace.config l has.0.work.feeds c.args.device.now w.run_single.new.device (histories_of did.closed)) w.found_keys.ensures has.1,
          )
      | else-trace-eq1+in_ok-ran-2 w ↦
          let did = w.in_ok-ran-2.ran in
          let work = w.in_ok-ran-2.ensures.ran.0 in
          let has = together-has-run g.P.Pool g.D.CacheDev c.args.pool.now w.run_together.new.pool (lent_in c.args.device.now) (lent_in w.run_together.new.device) trace c.args.rebuilt did.replies.items did.closed did.ending work
          (omega (arith, c.requires.formed.config.counts.callers.0, w.if-trace-eq1.false))
          (subst (λ (l : List Restored). RanTogether g.P.Pool g.D.CacheDev c.args.pool.now w.run_together.new.pool (lent_in c.args.device.now) (lent_in w.run_together.new.device) trace did.ending l did.replies.items work did.closed) w.found_keys-else-trace-eq1.ensures
          w.in_ok-ran-2.ensures.ran.1) in
          rw (w.ran-is, w.pool-is, w.device-is) (
            has.0,
            subst (λ (x : List Restored × RunWork). LeavesFed g.D.CacheDev trace.config x.0 x.1.feeds c.args.device.now w.run_together.new.device (histories_of did.closed)) (λ i. (w.found_keys-else-trace-eq1.ensures i, sym has.1 i)) w.in_ok-ran-2.ensures.ran.2,
          )
    ] in
    rw (told.report, told.closed, told.ending) run

-- ---- the pool

pub returns-clause-pool : goal.returns-clause-pool
returns-clause-pool g c = elim c.if-trace-eq1.branch [
  | then-trace-eq1+in_ok-ran w ↦ rw w.pool-is w.run_single.ensures.pool
  | else-trace-eq1+in_ok-ran-2 w ↦ rw w.pool-is w.run_together.ensures.pool
]

pub returns-in_err-reported-clause-pool : goal.returns-in_err-reported-clause-pool
returns-in_err-reported-clause-pool g c = elim c.if-trace-eq1.branch [
  | then-trace-eq1+in_ok-ran w ↦ rw w.pool-is w.run_single.ensures.pool
  | else-trace-eq1+in_ok-ran-2 w ↦ rw w.pool-is w.run_together.ensures.pool
]

pub returns-clause-still : goal.returns-clause-still
returns-clause-still g c = elim c.if-trace-eq1.branch [
  | then-trace-eq1+in_ok-ran w ↦ rw w.pool-is w.run_single.ensures.still
  | else-trace-eq1+in_ok-ran-2 w ↦ rw w.pool-is (λ none. (w.run_together.ensures.still none).told)
]

pub returns-in_err-reported-clause-still : goal.returns-in_err-reported-clause-still
returns-in_err-reported-clause-still g c = elim c.if-trace-eq1.branch [
  | then-trace-eq1+in_ok-ran w ↦ rw w.pool-is w.run_single.ensures.still
  | else-trace-eq1+in_ok-ran-2 w ↦ rw w.pool-is (λ none. (w.run_together.ensures.still none).told)
]

-- ---- the device

pub returns-clause-device : goal.returns-clause-device
returns-clause-device g c = elim c.if-trace-eq1.branch [
  | then-trace-eq1+in_ok-ran w ↦ rw w.device-is w.run_single.ensures.device
  | else-trace-eq1+in_ok-ran-2 w ↦ rw w.device-is w.run_together.ensures.device
]

pub returns-in_err-reported-clause-device : goal.returns-in_err-reported-clause-device
returns-in_err-reported-clause-device g c = elim c.if-trace-eq1.branch [
  | then-trace-eq1+in_ok-ran w ↦ rw w.device-is w.run_single.ensures.device
  | else-trace-eq1+in_ok-ran-2 w ↦ rw w.device-is w.run_together.ensures.device
]
