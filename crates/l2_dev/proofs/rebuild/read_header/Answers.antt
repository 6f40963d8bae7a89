use Rattle.std.proofs.Common.{List, ℕ, inl, inr, refl, subst}
use Rattle.l2_log.specs.HeaderBytes.{IsHeader, IsFirstRefusal}
use Rattle.l2_dev.proofs.rebuild.read_header.Goals as goal

pub returns-in-Ok-2-clause-told : goal.returns-in-Ok-2-clause-told
returns-in-Ok-2-clause-told g c =
    λ image told.
    inr (_, refl, inr (refl, c.in-Ok-read.header, subst (λ (s : List ℕ). IsHeader s c.in-Ok-read.header) (c.in-Ok.ensures.bytes image told) c.in-Ok-read.ensures.exact, c.if-header-end.false))

pub returns-in-Err-clause-told : goal.returns-in-Err-clause-told
returns-in-Err-clause-told g c =
    λ image told. inr (c.in-Err.fault, refl, inl (subst (λ (s : List ℕ). IsFirstRefusal s c.in-Err.fault) (c.in-Ok.ensures.bytes image told) c.in-Err.ensures.exact))
