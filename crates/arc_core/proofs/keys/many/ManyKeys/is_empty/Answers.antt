use Rattle.std.proofs.Common.{◌≡◌, vec_len, sym, ap, ◌∙◌, arith}
use Rattle.std.proofs.lemmas.Bool.Decides.{nat_tests}
use Rattle.arc_core.proofs.KeyRows.{named, no-rows}
use Rattle.arc_core.proofs.keys.many.ManyKeys.is_empty.Goals as goal

pub returns : goal.returns
returns c = λ yes.
    let none : vec_len c.self.inside.order ≡ 0 = grind (arith, nat_tests, c.is_empty.ensures, yes) in
    rw (← c.self.view_is) (ap named (no-rows c.self.inside.rows.rows (sym c.self.invariant.many ∙ none)))
