use Rattle.std.proofs.Common.{◌≡◌, ap, ◌∙◌, refl}
use Rattle.turn_table.specs.Places.{Place, took, saw}
use Rattle.turn_table.proofs.Losses.{loses_keep}
use Rattle.turn_examples.specs.declared.refusals.Clerk.{Clerk}
use Rattle.turn_examples.specs.Refusals.{Counted, clerk, lost}
use Rattle.turn_examples.proofs.refusals.take_count.Goals as goal

pub returns : goal.returns
returns g c =
    let t = c.take.ensures in
    let same : saw c.args.party.now t.1 ≡ c.args.party.now = loses_keep Counted lost 0 (λ (q : Place Clerk). q ≡ c.args.party.now) (λ p m h e. e) t.0 c.args.party.now (saw c.args.party.now t.1) t.2 refl in
    t.4 ∙ ap (λ (p : Place Clerk). took c.args.party.now 0 (clerk p.own.notes p.own.told c.take.result)) same
