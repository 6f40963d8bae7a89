use Rattle.std.proofs.Common.{◌≡◌, false, sym, ap, subst, ◌∙◌}
use Rattle.arc_lists.specs.ByKey.{with_item}
use Rattle.arc_lists.specs.Sequences.{stands_on}
use Rattle.arc_core.specs.seats.FewKeys.{beside}
use Rattle.arc_core.proofs.FewKeys.{absent-more, beside-few, beside-more}
use Rattle.arc_core.proofs.keys.Keys.add.Goals as goal

pub add-requires-clause-absent : goal.add-requires-clause-absent
add-requires-clause-absent c =
    absent-more c.args.key c.self.inside.few.items c.self.inside.more.items (subst (λ m. stands_on c.args.key m.items ≡ false) (sym c.self.view_is) c.requires.absent)

pub returns-then-len-min-clause-items : goal.returns-then-len-min-clause-items
returns-then-len-min-clause-items c =
    let few = c.self.inside.few.items in
    let more = c.self.inside.more.items in
    ap (λ l. beside l more) c.push_reserved.ensures.items ∙ beside-few few c.args.key more ∙ ap (λ m. with_item (λ k. k) c.args.key m.items) c.self.view_is

pub returns-else-len-min-clause-items : goal.returns-else-len-min-clause-items
returns-else-len-min-clause-items c =
    let few = c.self.inside.few.items in
    let more = c.self.inside.more.items in
    ap (beside few) c.add.ensures.items ∙ beside-more few c.args.key more ∙ ap (λ m. with_item (λ k. k) c.args.key m.items) c.self.view_is
