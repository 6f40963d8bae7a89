use Rattle.std.proofs.Common.{refl, sym, ◌∙◌, arith}
use Rattle.std.proofs.lemmas.Bool.{false≢true}
use Rattle.l2_dev.proofs.walk.reach.Goals as goal
use Rattle.l2_dev.proofs.walk.reach.Goals.{then-not-is_multiple_of-via-then-not-is_multiple_of, then-not-is_multiple_of-via-else-not-is_multiple_of+then-place-lt-RING_START, then-not-is_multiple_of-via-else-not-is_multiple_of+else-place-lt-RING_START+then-place-last}

pub returns-then-not-is_multiple_of-clause-stop : goal.returns-then-not-is_multiple_of-clause-stop
returns-then-not-is_multiple_of-clause-stop c = λ image. (
  c.args.ptr,
  refl,
  refl,
  λ r.
      let begins = r.inside.begins in
      let ends = r.inside.ends in
      elim c.then-not-is_multiple_of.branch [
        | then-not-is_multiple_of-via-then-not-is_multiple_of w ↦ false≢true (sym w.if-not-is_multiple_of.true ∙ c.is_multiple_of.ensures.1 r.aligned)
        | then-not-is_multiple_of-via-else-not-is_multiple_of+then-place-lt-RING_START w ↦ omega arith
        | then-not-is_multiple_of-via-else-not-is_multiple_of+else-place-lt-RING_START+then-place-last w ↦ omega arith
      ],
)

pub returns-then-not-is_in_part-clause-stop : goal.returns-then-not-is_in_part-clause-stop
returns-then-not-is_in_part-clause-stop c =
    let long = c.args.header.now.ends.long in
    λ image. (
      c.args.ptr,
      refl,
      refl,
      record { aligned = c.is_multiple_of.ensures.0 c.if-not-is_multiple_of.false; inside = record { begins = omega arith; ends = omega arith } },
      λ p. false≢true (sym c.if-not-is_in_part.true ∙ c.is_in_part.ensures.1 p),
    )

pub returns-then-walked-last-clause-stop : goal.returns-then-walked-last-clause-stop
returns-then-walked-last-clause-stop c =
    let long = c.args.header.now.ends.long in
    λ image. (
      c.args.ptr,
      refl,
      refl,
      record { aligned = c.is_multiple_of.ensures.0 c.if-not-is_multiple_of.false; inside = record { begins = omega arith; ends = omega arith } },
      c.is_in_part.ensures.0 c.if-not-is_in_part.false,
      omega arith,
    )
