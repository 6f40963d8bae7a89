use Rattle.std.proofs.Common.{◌∷◌, ap, ◌∙◌, subst}
use Rattle.turn_table.specs.Places.{Place, took, saw}
use Rattle.turn_table.specs.Moments.{WasFree}
use Rattle.turn_examples.specs.declared.twins.Copies.{Copies}
use Rattle.turn_examples.specs.Twins.{Agrees, copies}
use Rattle.turn_examples.proofs.Tries.{loses_none}
use Rattle.turn_examples.proofs.twins.take_copy.Goals as goal

pub returns-clause-free : goal.returns-clause-free
returns-clause-free g c =
    let t = c.take.ensures in
    subst (λ (p : Place Copies). WasFree Agrees p c.args.i c.take.result) (loses_none Agrees c.args.i t.0 c.args.party.now (saw c.args.party.now t.1) t.2) t.3

pub returns-clause-party : goal.returns-clause-party
returns-clause-party g c =
    let t = c.take.ensures in
    t.4 ∙ ap (λ (p : Place Copies). took c.args.party.now c.args.i (copies ((c.args.i, c.take.result) ∷ p.own.held))) (loses_none Agrees c.args.i t.0 c.args.party.now (saw c.args.party.now t.1) t.2)
