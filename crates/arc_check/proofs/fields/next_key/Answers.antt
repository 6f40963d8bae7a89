use Rattle.std.proofs.Common.{arith}
use Rattle.arc_check.proofs.FieldLemmas.{faulty-fields}
use Rattle.arc_check.proofs.fields.next_key.Goals as goal

pub returns-in-Err : goal.returns-in-Err
returns-in-Err c = λ key rest ranged is.
    faulty-fields _ _ _ _ rest c.in_ok-offset.offset c.in_ok-size.size c.in_ok-birth.birth key _ c.in_ok-offset.ensures.0 c.in_ok-size.ensures.0 c.in_ok-birth.ensures.0
    (omega (arith, c.in_ok-offset.ensures.2)) (omega (arith, c.in_ok-size.ensures.2)) (omega (arith, c.in_ok-birth.ensures.2)) c.in-Err.ensures.valid ranged is
