use Rattle.std.proofs.Common.{◌≡◌, vec_len, ap, ◌∙◌, arith}
use Rattle.std.proofs.lemmas.Bool.Decides.{nat_tests}
use Rattle.arc_core.specs.seats.FewKeys.{beside}
use Rattle.arc_core.proofs.FewKeys.{no-keys}
use Rattle.arc_core.proofs.keys.Keys.is_empty.Goals as goal

pub returns-then-is_empty : goal.returns-then-is_empty
returns-then-is_empty c = λ yes.
    let few = c.self.inside.few in
    let none : vec_len few ≡ 0 = grind (arith, nat_tests, c.is_empty.ensures, c.if-is_empty.true) in
    let empty = no-keys few.items (omega (arith, few.ok.0, none)) in
    rw (← c.self.view_is) (ap (λ l. beside l c.self.inside.more.items) empty ∙ c.is_empty-then-is_empty.ensures yes)
