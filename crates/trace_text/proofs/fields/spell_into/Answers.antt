use Rattle.std.proofs.Common.{ap, arith, get_or, ◌∙◌, ◌+◌, ◌*◌}
use Rattle.hex.specs.Hex.{lower_digits}
use Rattle.trace_text.proofs.HexFieldLemmas.{IsBytes-each, digits-at, encoded-by}
use Rattle.trace_text.proofs.fields.spell_into.Goals as goal

pub returns-in_default : goal.returns-in_default
returns-in_default c = λ others sized bytes is.
    let at = digits-at lower_digits others c.loop-place.place (omega (arith, sized, c.loop-place.invariant.sized)) in
    c.in_default.ensures _ (bytes c.loop-place.place) (ap (λ xs. get_or xs (2 * c.loop-place.place) 0) is ∙ at.0)
    (ap (λ xs. get_or xs (2 * c.loop-place.place + 1) 0) is ∙ at.1)

pub returns : goal.returns
returns c =
    let kept = c.loop-place.invariant in (
      encoded-by lower_digits c.loop-place.room c.args.field.now (omega (arith, kept.sized, c.requires)) (λ k lt. let one = kept.each k (omega (arith, lt, kept.sized)) in (one.1, one.2)),
      kept.sized,
      IsBytes-each c.loop-place.room (λ k lt. (kept.each k (omega (arith, lt, kept.sized))).0),
    )
