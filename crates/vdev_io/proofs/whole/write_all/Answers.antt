use Rattle.std.proofs.Common.{◌∙◌, arith, length-drop}
use Rattle.std.proofs.lemmas.List.{take_rest}
use Rattle.vdev_io.proofs.StreamLemmas.{more_written}
use Rattle.vdev_io.proofs.whole.write_all.Goals as goal

pub loop-at-preserved : goal.loop-at-preserved
loop-at-preserved g c =
    let text = c.args.text.now in
    let at = c.loop-at.at in
    let clauses = c.in_ok-at.ensures in
    record {
      within = let bound = rw (take_rest text at) at clauses.bound in omega (arith, bound, length-drop at text);
      written = more_written _ _ _ text at c.in_ok-at.field-0 c.loop-at.invariant.written (rw (take_rest text at) at clauses.bytes);
      unfailed = clauses.fault ∙ c.loop-at.invariant.unfailed;
    }
