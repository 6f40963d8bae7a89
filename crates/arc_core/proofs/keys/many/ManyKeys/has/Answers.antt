use Rattle.std.proofs.Common.{◌≡◌, ◌∙◌, sym, arith, vec_len}
use Rattle.std.proofs.lemmas.Bool.Decides.{nat_tests}
use Rattle.arc_core.proofs.KeyRows.{found-is, none-stands}
use Rattle.arc_core.proofs.keys.many.ManyKeys.has.Goals as goal

pub returns-then-not-is_empty : goal.returns-then-not-is_empty
returns-then-not-is_empty c =
    rw (← c.self.view_is) (c.is_some.ensures ∙ found-is c.get.result _ c.self.inside.rows.rows c.args.key c.self.invariant.listed.apart (λ a among. (tt, among)) c.get.ensures.some c.get.ensures.none)

pub returns-else-not-is_empty : goal.returns-else-not-is_empty
returns-else-not-is_empty c =
    let none : vec_len c.self.inside.order ≡ 0 = grind (arith, nat_tests, c.is_empty.ensures, c.if-not-is_empty.false) in
    rw (← c.self.view_is, c.if-not-is_empty.false) (sym (none-stands c.self.inside.rows.rows c.args.key (sym c.self.invariant.many ∙ none)))
