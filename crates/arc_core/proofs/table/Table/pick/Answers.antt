use Rattle.std.proofs.Common.{IsTrue, sym, subst, arith}
use Rattle.arc_links.proofs.Places.{none_is}
use Rattle.arc_core.specs.declared.event.Event.TheVariants.{Pick}
use Rattle.arc_core.specs.Changes.{pick_of}
use Rattle.arc_core.specs.Step.{legal}
use Rattle.arc_core.specs.TableModel.{shard_in}
use Rattle.arc_core.proofs.Feeding.{candidate-wanted, candidate-within}
use Rattle.arc_core.proofs.Soundness.{picked-candidate}
use Rattle.arc_core.proofs.table.Table.pick.Goals as goal

pub push-requires-clause-absent : goal.push-requires-clause-absent
push-requires-clause-absent c =
    let s = shard_in c.self.inside in
    let ok : IsTrue (legal s (Pick c.args.n c.args.key)) = subst (λ t. IsTrue (legal t.shard (Pick c.args.n c.args.key))) (sym c.self.view_is) c.requires.legal in
    none_is (pick_of c.args.key s.picked) (candidate-wanted s c.args.key (picked-candidate s c.args.n c.args.key ok)).unpicked

pub overflow_add-self : goal.overflow_add-self
overflow_add-self c =
    let s = shard_in c.self.inside in
    let ok : IsTrue (legal s (Pick c.args.n c.args.key)) = subst (λ t. IsTrue (legal t.shard (Pick c.args.n c.args.key))) (sym c.self.view_is) c.requires.legal in
    omega (arith, candidate-within s c.args.key (picked-candidate s c.args.n c.args.key ok), c.self.invariant.bytes, c.self.inside.bounds.write_max)
