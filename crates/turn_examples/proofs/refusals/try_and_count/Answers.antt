use Rattle.std.proofs.Common.{◌∷◌, [], refl, arith, length-append}
use Rattle.turn_table.specs.Places.{Place}
use Rattle.turn_examples.specs.declared.refusals.Clerk.{Clerk}
use Rattle.turn_examples.proofs.RefusalLaws.{gives_other}
use Rattle.turn_examples.proofs.refusals.try_and_count.Goals as goal

pub give-requires-clause-rule : goal.give-requires-clause-rule
give-requires-clause-rule g c =
    let p : Place Clerk = c.try_take.new.party in
    gives_other p 1 c.in-Taken.value _ (λ e. absurd (omega arith)) refl refl (omega (arith, length-append p.own.notes (0 ∷ [])))
