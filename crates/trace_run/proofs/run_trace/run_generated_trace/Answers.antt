use Rattle.std.proofs.Common.{◌≡◌, ◌*◌, ℕ, true, List, [], Option, None, Some, refl, sym, ap, subst, ◌∙◌, arith}
use Rattle.std.specs.Prelude.{count_by}
use Rattle.trace_text.specs.declared.rebuilt.Rebuilt.{Rebuilt}
use Rattle.trace_text.specs.declared.report.Report.{Report}
use Rattle.trace_text.specs.declared.trace.Trace.{Trace}
use Rattle.vdev_io.specs.Calls.{Call}
use Rattle.trace_run.specs.Answers.{AnswersAll, is_pool_fault}
use Rattle.trace_run.specs.dbufs.CellEnds.{AreCellsOf}
use Rattle.trace_run.specs.Explaining.{Explain}
use Rattle.trace_run.specs.Outcome.{generated, zeros_of}
use Rattle.trace_run.specs.one_caller.PlainReport.{IsPlainReport}
use Rattle.trace_run.specs.one_caller.PlainRun.{Images, images, plain_report}
use Rattle.trace_run.specs.Restores.{found_keys}
use Rattle.trace_run.specs.Deeds.{Noted}
use Rattle.trace_run.specs.RunWork.{RunWork, noted_by, only_ended, plain_work}
use Rattle.vdev_io.specs.contracts.device.NoCacheCacheDev.TheImpl as no_cache
use Rattle.trace_run.proofs.one_caller.LentLemmas.{unlent-calls}
use Rattle.trace_run.proofs.theorem.GenLemmas.{made-done, made-plain, made-report, made-trace, never-failed, none-refused}
use Rattle.trace_run.proofs.theorem.WorkLemmas.{plain-noted}
use Rattle.trace_run.proofs.run_trace.run_generated_trace.Goals as goal

pub returns-clause-status : goal.returns-clause-status
returns-clause-status g c = c.in_ok-reported.ensures.run.0.status

pub returns-clause-generated : goal.returns-clause-generated
returns-clause-generated g c =
    let len : c.new-pool.result.len ≡ c.args.blocks * 512 = c.new-pool.ensures.len ∙ ap (λ n. n * 512) c.from.ensures in
    let trace = c.in_ok-trace.trace in
    let reported = c.in_ok-reported.reported in
    let report = reported.report in
    let drawn = c.in_ok-trace.ensures.drawn in
    let ran = c.in_ok-reported.ensures.run.0 in
    let run = ran.run in
    let is : trace ≡ generated c.args.seed c.args.blocks c.args.ops = made-trace c.args.seed c.args.blocks c.args.ops trace drawn in
    let done = made-done c.args.seed c.args.blocks c.args.ops trace drawn in
    let one = run.alone (ap (λ (t : Trace). t.config.callers) is) done in
    let plain_one : ran.work ≡ plain_work trace.ops report.replies = ran.plain (ap (λ (t : Trace). t.config.callers) is) done in
    let alone = one.1 in
    let give = never-failed _ (λ p. refl) alone.calls _ _ alone.made in
    let answers : AnswersAll (c.args.blocks * 512) (Some (zeros_of c.args.blocks)) trace.blocks trace.ops report.replies = rw (len, one.0) at run.answers in
    let fair : count_by is_pool_fault report.replies ≡ 0 = let h = rw one.0 at run.faults (omega arith) in omega (arith, h) in
    let fine = none-refused c.args.seed c.args.blocks c.args.ops trace report.replies drawn answers fair in
    let nothing : report.rebuilt ≡ None = c.in_ok-reported.ensures.rebuilt in
    let none : alone.device_calls ≡ [] = unlent-calls no_cache.ghosts trace (found_keys report.rebuilt) report.replies alone.device_calls _ alone.asked in
    let zeros : Images = images (zeros_of c.args.blocks) [] in
    let plain : report ≡ plain_report trace None zeros alone.calls [] =
    made-plain c.args.seed c.args.blocks c.args.ops trace (plain_report trace None zeros alone.calls []) report drawn
    (subst (λ (x : Option Rebuilt × List Call). IsPlainReport trace (plain_report trace x.0 zeros alone.calls x.1) report) (λ i. (nothing i, none i)) (rw len at alone.plain)) in
    let whole : report ≡ plain_report (generated c.args.seed c.args.blocks c.args.ops) None zeros [] [] =
    plain ∙ made-report c.args.seed c.args.blocks c.args.ops trace zeros alone.calls is give in
    record {
      plain = ap (λ (r : Report). record r { short = true }) whole;
      answers = subst (λ (t : Trace). AnswersAll (c.args.blocks * 512) (Some (zeros_of c.args.blocks)) t.blocks t.ops report.replies) is answers;
      explained = subst (λ (x : Trace × Option Rebuilt). Explain x.0 (found_keys x.1) (plain_work x.0.ops report.replies) report.replies report.ends report.histories) (λ i. (is i, nothing i))
          (subst (λ (w : RunWork). Explain trace (found_keys report.rebuilt) w report.replies report.ends report.histories) plain_one run.explained);
      tells = record { histories = run.tells.histories; ends = run.tells.ends };
      config = run.config ∙ ap (λ (t : Trace). t.config) is;
      cells = subst (λ (t : Trace). AreCellsOf t (only_ended t.config) reported.closed) is
          (subst (λ (d : ℕ → List Noted). AreCellsOf trace d reported.closed) (λ i n. (ap (λ (w : RunWork). noted_by trace.config w n) plain_one ∙ sym (plain-noted trace.config trace.ops report.replies n)) i) ran.cells);
      status = ran.status ∙ rw (one.0, fine) refl;
    }
