use Rattle.std.proofs.Common.{◌≡◌, IsTrue, rules, sym, ap, subst, ◌∙◌}
use Rattle.arc_core.specs.declared.entry.Entry.{Entry}
use Rattle.arc_core.specs.declared.event.Event.TheVariants.{Release}
use Rattle.arc_core.specs.Changes.{one_less}
use Rattle.arc_core.specs.Edits.{placed}
use Rattle.arc_core.specs.Sound.{IsSoundEntry}
use Rattle.arc_core.specs.Step.{effect, legal}
use Rattle.arc_core.proofs.Evictions.{found}
use Rattle.arc_core.proofs.Legal.{release-writes}
use Rattle.arc_core.proofs.table.Table.release.Goals as goal

pub place-requires-clause-sound : goal.place-requires-clause-sound
place-requires-clause-sound c tidy e made item gave =
    let s = c.args.self.now.shard in
    let ok = subst (λ b. IsTrue (legal s (Release c.args.n c.args.key b))) c.if-sole.false c.requires in
    let is : made ≡ one_less c.args.n e = search rules in
    let writes = release-writes c.args.n c.args.key s e tidy (sym item) ok in
    (ap (λ (x : Entry). x.key) is ∙ (found c.args.key s e tidy (sym item)).key, subst IsSoundEntry (sym is) writes.sound)

pub returns-else-sole-clause-shard : goal.returns-else-sole-clause-shard
returns-else-sole-clause-shard c =
    let s = c.args.self.now.shard in
    let ok = subst (λ b. IsTrue (legal s (Release c.args.n c.args.key b))) c.if-sole.false c.requires in
    let e = c.place.ensures.placed.0 in
    let made = c.place.ensures.placed.1 in
    let gave = c.place.ensures.placed.3 in
    let is : made ≡ one_less c.args.n e = search rules in
    let writes = release-writes c.args.n c.args.key s e c.place.ensures.tidy (sym c.place.ensures.placed.2) ok in
    ap (λ t. t.shard) c.place.ensures.placed.4 ∙ ap (λ e. placed e s) is ∙ writes.effect ∙ ap (λ b. effect s (Release c.args.n c.args.key b)) (sym c.if-sole.false)
