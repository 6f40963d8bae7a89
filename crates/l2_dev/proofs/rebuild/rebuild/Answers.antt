use Rattle.std.proofs.Common.{[], ◌∷◌, sym, subst, ◌∙◌}
use Rattle.std.proofs.lemmas.Result.{IfOk-weaker}
use Rattle.vdev_io.specs.Calls.{Gave}
use Rattle.vdev_io.proofs.CallLemmas.{calls_behind}
use Rattle.l2_dev.specs.declared.stop.Stop.{Stop}
use Rattle.l2_dev.specs.Asking.{header_read, walk_reads}
use Rattle.l2_dev.specs.Rebuilding.{IsStarted}
use Rattle.l2_dev.proofs.Walks.{header_and_reads, reads_err, started_along, started_bare, walk_are_reads}
use Rattle.l2_dev.proofs.rebuild.rebuild.Goals as goal

pub returns-in-Err-clause-started : goal.returns-in-Err-clause-started
returns-in-Err-clause-started g c = (
  _,
  c.in-Err.ensures.call,
  λ image told.
      started_bare c.args.end image c.in-Err.stop c.bare.result.stop c.bare.result.cursor c.bare.result.restored.items (c.in-Err.ensures.told image told) c.bare.ensures.fresh c.bare.ensures.none c.bare.ensures.stop,
)

pub returns-clause-started : goal.returns-clause-started
returns-clause-started g c =
    let d = g.D.CacheDev in
    let walked = c.in_ok-walked.ensures.chain in
    let header = c.in-Ok.header in
    IfOk-weaker c.along.result _ _
    (λ r h. (
      header_read Gave ∷ walk_reads header walked.0 c.in_ok-walked.walked.stop,
      calls_behind d (header_read Gave ∷ []) (walk_reads header walked.0 c.in_ok-walked.walked.stop) c.args.dev.now c.read_header.new.dev c.walk.new.dev c.in-Ok.ensures.call walked.1,
      λ image told.
          subst (λ (s : Stop). IsStarted c.args.end image (header_read Gave ∷ walk_reads header walked.0 c.in_ok-walked.walked.stop) r.cursor r.restored.items s) (sym h.1)
          (started_along c.args.end image header walked.0 c.in_ok-walked.walked.found.items c.in_ok-walked.walked.stop r.cursor r.restored.items (c.in-Ok.ensures.told image told)
          (walked.2 image (c.read_header.ensures.read.told ∙ told)) h.0),
    ))
    c.along.ensures.built

pub returns-clause-refused : goal.returns-clause-refused
returns-clause-refused g c =
    let d = g.D.CacheDev in
    let walked = c.in_ok-walked.ensures.chain in
    let reads = walk_reads c.in-Ok.header walked.0 c.in_ok-walked.walked.stop in
    reads_err d c.args.dev.now c.walk.new.dev c.along.result (header_read Gave ∷ reads)
    (calls_behind d (header_read Gave ∷ []) reads c.args.dev.now c.read_header.new.dev c.walk.new.dev c.in-Ok.ensures.call walked.1)
    (header_and_reads reads (walk_are_reads c.in-Ok.header walked.0 c.in_ok-walked.walked.stop))

pub returns-in_err-walked-clause-refused : goal.returns-in_err-walked-clause-refused
returns-in_err-walked-clause-refused g c =
    let d = g.D.CacheDev in
    let walk = c.in_err-walked.ensures.refused in
    reads_err d c.args.dev.now c.walk.new.dev c.from_residual.result (header_read Gave ∷ walk.0)
    (calls_behind d (header_read Gave ∷ []) walk.0 c.args.dev.now c.read_header.new.dev c.walk.new.dev c.in-Ok.ensures.call walk.1) (header_and_reads walk.0 walk.2)
