use Rattle.std.proofs.Common.{◌≡◌, ℕ, ◌*◌, ◌^◌, ◌≤◌, Option, refl, subst, sym, arith}
use Rattle.arc_core.specs.declared.config.Config.{Config}
use Rattle.arc_check.specs.Reading.{IsSizesRead}
use Rattle.arc_check.proofs.FieldLemmas.{next-fields, same-number}
use Rattle.arc_check.proofs.forms.sizes.Goals as goal

pub returns-in_err-shards : goal.returns-in_err-shards
returns-in_err-shards c =
    subst (λ (o : Option Config). IsSizesRead c.args.fields.now o) (sym c.from_residual-in_err-shards.ensures)
    (λ z ranged is. c.in_err-shards.ensures z.shards _ ranged.ranged.counts.shards.0 ranged.ranged.counts.shards.1 (next-fields c.in_ok-callers.ensures.0 (next-fields refl is)))

pub returns-in_err-buckets : goal.returns-in_err-buckets
returns-in_err-buckets c =
    subst (λ (o : Option Config). IsSizesRead c.args.fields.now o) (sym c.from_residual-in_err-buckets.ensures)
    (λ z ranged is. c.in_err-buckets.ensures z.buckets _ ranged.ranged.counts.buckets.0 ranged.ranged.counts.buckets.1 (next-fields c.in_ok-shards.ensures.0 (next-fields c.in_ok-callers.ensures.0 (next-fields refl is))))

pub returns-in_err-cells : goal.returns-in_err-cells
returns-in_err-cells c =
    subst (λ (o : Option Config). IsSizesRead c.args.fields.now o) (sym c.from_residual-in_err-cells.ensures)
    (λ z ranged is. c.in_err-cells.ensures z.cells _ ranged.ranged.counts.cells.0 ranged.ranged.counts.cells.1 (next-fields c.in_ok-buckets.ensures.0 (next-fields c.in_ok-shards.ensures.0 (next-fields c.in_ok-callers.ensures.0 (next-fields refl is)))))

pub returns-in_err-c : goal.returns-in_err-c
returns-in_err-c c =
    subst (λ (o : Option Config). IsSizesRead c.args.fields.now o) (sym c.from_residual-in_err-c.ensures)
    (λ z ranged is. c.in_err-c.ensures z.c _ ranged.ranged.amounts.c.least ranged.ranged.amounts.c.most (next-fields c.in_ok-cells.ensures.0 (next-fields c.in_ok-buckets.ensures.0 (next-fields c.in_ok-shards.ensures.0 (next-fields c.in_ok-callers.ensures.0 (next-fields refl is))))))

pub returns-in_err-mintime : goal.returns-in_err-mintime
returns-in_err-mintime c =
    subst (λ (o : Option Config). IsSizesRead c.args.fields.now o) (sym c.from_residual-in_err-mintime.ensures)
    (λ z ranged is. c.in_err-mintime.ensures z.mintime _ (omega arith) ranged.ranged.amounts.mintime (next-fields c.in_ok-c.ensures.0 (next-fields c.in_ok-cells.ensures.0 (next-fields c.in_ok-buckets.ensures.0 (next-fields c.in_ok-shards.ensures.0 (next-fields c.in_ok-callers.ensures.0 (next-fields refl is)))))))

pub returns-in_err-dbuf_bytes : goal.returns-in_err-dbuf_bytes
returns-in_err-dbuf_bytes c =
    subst (λ (o : Option Config). IsSizesRead c.args.fields.now o) (sym c.from_residual-in_err-dbuf_bytes.ensures)
    (λ z ranged is. c.in_err-dbuf_bytes.ensures z.dbuf_bytes _ (omega arith) ranged.ranged.amounts.dbuf_bytes (next-fields c.in_ok-mintime.ensures.0 (next-fields c.in_ok-c.ensures.0 (next-fields c.in_ok-cells.ensures.0 (next-fields c.in_ok-buckets.ensures.0 (next-fields c.in_ok-shards.ensures.0 (next-fields c.in_ok-callers.ensures.0 (next-fields refl is))))))))

pub returns-then-shards-c-gt-LARGEST_SIZE : goal.returns-then-shards-c-gt-LARGEST_SIZE
returns-then-shards-c-gt-LARGEST_SIZE c = λ z ranged is.
    let counts = ranged.ranged.counts in
    let after_callers = next-fields c.in_ok-callers.ensures.0 (next-fields refl is) in
    let after_shards = next-fields c.in_ok-shards.ensures.0 after_callers in
    let after_cells = next-fields c.in_ok-cells.ensures.0 (next-fields c.in_ok-buckets.ensures.0 after_shards) in
    let shards : z.shards ≡ c.in_ok-shards.shards = same-number z.shards c.in_ok-shards.shards (let a = counts.shards.1 in omega arith) (let a = c.in_ok-shards.ensures.2 in omega arith) after_callers c.in_ok-shards.ensures.0 in
    let bytes : z.c ≡ c.in_ok-c.c = same-number z.c c.in_ok-c.c (let a = ranged.ranged.amounts.c.most in omega arith) (let a = c.in_ok-c.ensures.2 in omega arith) after_cells c.in_ok-c.ensures.0 in
    let most : c.in_ok-shards.shards * c.in_ok-c.c ≤ 2 ^ 32 = subst (λ (x : ℕ × ℕ). x.0 * x.1 ≤ 2 ^ 32) (λ i. (shards i, bytes i)) ranged.ranged.amounts.all_shards in
    absurd (omega (arith, most, c.if-shards-c-gt-LARGEST_SIZE.true))
