use Rattle.std.proofs.Common.{◌%◌, refl, ap, ◌∙◌, arith}
use Rattle.trace_text.proofs.PartLemmas.{number-one}
use Rattle.trace_text.proofs.fields.next_size.Goals as goal

pub returns-else-size-eq0 : goal.returns-else-size-eq0
returns-else-size-eq0 c = (
  refl,
  λ size rest fits is.
      let same = number-one c.in_ok-size.size size _ _ _ (omega (arith, c.in_ok-size.ensures.2)) (omega (arith, fits.2)) c.in_ok-size.ensures.0 is in
      c.if-size-eq0.false (ap (λ n. n % 512) same ∙ fits.0),
)
