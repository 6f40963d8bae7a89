use Rattle.std.proofs.Common.{List, map, ap, ◌∙◌}
use Rattle.l2_ring.specs.declared.live.Written.{Written}
use Rattle.l2_ring.specs.Ring.{numbers_of}
use Rattle.l2_dev.specs.Chain.{numbers_in}
use Rattle.l2_dev.specs.Restoring.{firsts, restored_of}
use Rattle.l2_dev.proofs.PromiseLaws.{same_plan}
use Rattle.l2_dev.proofs.Firsts.{restored_keys}
use Rattle.l2_dev.proofs.Walks.{fit_live}
use Rattle.l2_dev.proofs.rebuild.along.Goals as goal

pub add_live-requires-clause-fit : goal.add_live-requires-clause-fit
add_live-requires-clause-fit c =
    let n = c.of-ring.ensures.numbers in
    fit_live (numbers_of c.of-ring.result) (numbers_in c.args.header.now) c.args.walked.found.items c.in_ok-first.first.items c.deref-3.result.now
    (same_plan (numbers_of c.of-ring.result) (numbers_in c.args.header.now) n.1 n.2 n.3 n.4)
    (c.in_ok-first.ensures ∙ ap firsts c.deref.ensures.value) (c.deref-3.ensures.value ∙ c.reverse.ensures.items) c.requires

pub returns-clause-keys : goal.returns-clause-keys
returns-clause-keys c =
    restored_keys (numbers_in c.args.header.now) c.args.walked.found.items c.in_ok-restored.restored.items
    (c.in_ok-restored.ensures ∙ ap (λ (ws : List Written). map restored_of ws) (c.deref-2.ensures.value ∙ c.in_ok-first.ensures ∙ ap firsts c.deref.ensures.value)) c.requires
