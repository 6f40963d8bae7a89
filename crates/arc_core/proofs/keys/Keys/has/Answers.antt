use Rattle.std.proofs.Common.{◌≡◌, ◌||◌, true, false, sym, ap, ◌∙◌}
use Rattle.std.specs.List.{list_any}
use Rattle.blk_ptr.specs.Order.{key_eq}
use Rattle.arc_lists.specs.Sequences.{stands_on}
use Rattle.arc_core.proofs.FewKeys.{stands-beside, tested}
use Rattle.arc_core.proofs.keys.Keys.has.Goals as goal

pub returns-then-is_among : goal.returns-then-is_among
returns-then-is_among c =
    let k = c.args.key in
    let few = c.self.inside.few.items in
    let more = c.self.inside.more.items in
    let among : c.is_among.result ≡ stands_on k few = c.is_among.ensures ∙ ap (list_any (λ j. key_eq j k)) c.deref.ensures.value ∙ tested k few in
    let yes : stands_on k few ≡ true = sym among ∙ c.if-is_among.true in
    c.if-is_among.true ∙ sym (ap (λ b. b || stands_on k more) yes) ∙ sym (stands-beside k few more) ∙ ap (λ m. stands_on k m.items) c.self.view_is

pub returns-else-is_among : goal.returns-else-is_among
returns-else-is_among c =
    let k = c.args.key in
    let few = c.self.inside.few.items in
    let more = c.self.inside.more.items in
    let among : c.is_among.result ≡ stands_on k few = c.is_among.ensures ∙ ap (list_any (λ j. key_eq j k)) c.deref.ensures.value ∙ tested k few in
    let no : stands_on k few ≡ false = sym among ∙ c.if-is_among.false in
    c.has.ensures ∙ sym (ap (λ b. b || stands_on k more) no) ∙ sym (stands-beside k few more) ∙ ap (λ m. stands_on k m.items) c.self.view_is
