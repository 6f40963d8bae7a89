use Rattle.std.proofs.Common.{◌≡◌, ℕ, ◌*◌, ◌^◌, ◌≤◌, subst, arith}
use Rattle.std.proofs.lemmas.Result.{err_from_is_err_and}
use Rattle.arc_core.specs.declared.config.Config.{Config}
use Rattle.trace_text.specs.declared.words.Word.TheVariants as words
use Rattle.trace_text.proofs.FormLemmas.{next-fields, number-fault, same-number, spell-arc}
use Rattle.trace_text.proofs.forms.sizes.Goals as goal

pub returns-in_err-callers-clause-err : goal.returns-in_err-callers-clause-err
returns-in_err-callers-clause-err c = λ sized.
    let exit = err_from_is_err_and c.from_residual.result c.from_residual.ensures.1 in
    number-fault c.args.seen words.Arc c.args.fields.now _ exit.0 _ exit.1 exit.2 c.in_err-callers.ensures.0
    (λ line said. let p = spell-arc c.args.seen.callers c.args.seen.shards c.args.fields.now line said in c.in_err-callers.ensures.1 p.0.callers _ p.3.ranged.counts.callers.0 p.3.ranged.counts.callers.1 p.2)

pub returns-in_err-shards-clause-err : goal.returns-in_err-shards-clause-err
returns-in_err-shards-clause-err c = λ sized.
    let exit = err_from_is_err_and c.from_residual-in_err-shards.result c.from_residual-in_err-shards.ensures.1 in
    number-fault c.args.seen words.Arc c.args.fields.now _ exit.0 _ exit.1 exit.2 c.in_err-shards.ensures.0
    (λ line said. let p = spell-arc c.args.seen.callers c.args.seen.shards c.args.fields.now line said in c.in_err-shards.ensures.1 p.0.shards _ p.3.ranged.counts.shards.0 p.3.ranged.counts.shards.1 (next-fields c.in_ok-callers.ensures.0 p.2))

pub returns-in_err-buckets-clause-err : goal.returns-in_err-buckets-clause-err
returns-in_err-buckets-clause-err c = λ sized.
    let exit = err_from_is_err_and c.from_residual-in_err-buckets.result c.from_residual-in_err-buckets.ensures.1 in
    number-fault c.args.seen words.Arc c.args.fields.now _ exit.0 _ exit.1 exit.2 c.in_err-buckets.ensures.0
    (λ line said. let p = spell-arc c.args.seen.callers c.args.seen.shards c.args.fields.now line said in c.in_err-buckets.ensures.1 p.0.buckets _ p.3.ranged.counts.buckets.0 p.3.ranged.counts.buckets.1 (next-fields c.in_ok-shards.ensures.0 (next-fields c.in_ok-callers.ensures.0 p.2)))

pub returns-in_err-cells-clause-err : goal.returns-in_err-cells-clause-err
returns-in_err-cells-clause-err c = λ sized.
    let exit = err_from_is_err_and c.from_residual-in_err-cells.result c.from_residual-in_err-cells.ensures.1 in
    number-fault c.args.seen words.Arc c.args.fields.now _ exit.0 _ exit.1 exit.2 c.in_err-cells.ensures.0
    (λ line said. let p = spell-arc c.args.seen.callers c.args.seen.shards c.args.fields.now line said in c.in_err-cells.ensures.1 p.0.cells _ p.3.ranged.counts.cells.0 p.3.ranged.counts.cells.1 (next-fields c.in_ok-buckets.ensures.0 (next-fields c.in_ok-shards.ensures.0 (next-fields c.in_ok-callers.ensures.0 p.2))))

pub returns-in_err-c-clause-err : goal.returns-in_err-c-clause-err
returns-in_err-c-clause-err c = λ sized.
    let exit = err_from_is_err_and c.from_residual-in_err-c.result c.from_residual-in_err-c.ensures.1 in
    number-fault c.args.seen words.Arc c.args.fields.now _ exit.0 _ exit.1 exit.2 c.in_err-c.ensures.0
    (λ line said. let p = spell-arc c.args.seen.callers c.args.seen.shards c.args.fields.now line said in c.in_err-c.ensures.1 p.0.c _ p.3.ranged.amounts.c.least p.3.ranged.amounts.c.most (next-fields c.in_ok-cells.ensures.0 (next-fields c.in_ok-buckets.ensures.0 (next-fields c.in_ok-shards.ensures.0 (next-fields c.in_ok-callers.ensures.0 p.2)))))

pub returns-in_err-mintime-clause-err : goal.returns-in_err-mintime-clause-err
returns-in_err-mintime-clause-err c = λ sized.
    let exit = err_from_is_err_and c.from_residual-in_err-mintime.result c.from_residual-in_err-mintime.ensures.1 in
    number-fault c.args.seen words.Arc c.args.fields.now _ exit.0 _ exit.1 exit.2 c.in_err-mintime.ensures.0
    (λ line said. let p = spell-arc c.args.seen.callers c.args.seen.shards c.args.fields.now line said in c.in_err-mintime.ensures.1 p.0.mintime _ (omega arith) p.3.ranged.amounts.mintime (next-fields c.in_ok-c.ensures.0 (next-fields c.in_ok-cells.ensures.0 (next-fields c.in_ok-buckets.ensures.0 (next-fields c.in_ok-shards.ensures.0 (next-fields c.in_ok-callers.ensures.0 p.2))))))

pub returns-in_err-dbuf_bytes-clause-err : goal.returns-in_err-dbuf_bytes-clause-err
returns-in_err-dbuf_bytes-clause-err c = λ sized.
    let exit = err_from_is_err_and c.from_residual-in_err-dbuf_bytes.result c.from_residual-in_err-dbuf_bytes.ensures.1 in
    number-fault c.args.seen words.Arc c.args.fields.now _ exit.0 _ exit.1 exit.2 c.in_err-dbuf_bytes.ensures.0
    (λ line said. let p = spell-arc c.args.seen.callers c.args.seen.shards c.args.fields.now line said in c.in_err-dbuf_bytes.ensures.1 p.0.dbuf_bytes _ (omega arith) p.3.ranged.amounts.dbuf_bytes (next-fields c.in_ok-mintime.ensures.0 (next-fields c.in_ok-c.ensures.0 (next-fields c.in_ok-cells.ensures.0 (next-fields c.in_ok-buckets.ensures.0 (next-fields c.in_ok-shards.ensures.0 (next-fields c.in_ok-callers.ensures.0 p.2)))))))

pub returns-then-shards-c-gt-LARGEST_SIZE-clause-err : goal.returns-then-shards-c-gt-LARGEST_SIZE-clause-err
returns-then-shards-c-gt-LARGEST_SIZE-clause-err c = λ sized line said.
    let p = spell-arc c.args.seen.callers c.args.seen.shards c.args.fields.now line said in
    let z : Config = p.0 in
    let counts = p.3.ranged.counts in
    let after_callers = next-fields c.in_ok-callers.ensures.0 p.2 in
    let after_shards = next-fields c.in_ok-shards.ensures.0 after_callers in
    let after_cells = next-fields c.in_ok-cells.ensures.0 (next-fields c.in_ok-buckets.ensures.0 after_shards) in
    let shards : z.shards ≡ c.in_ok-shards.shards = same-number z.shards c.in_ok-shards.shards (let a = counts.shards.1 in omega arith) (let a = c.in_ok-shards.ensures.2 in omega arith) after_callers c.in_ok-shards.ensures.0 in
    let bytes : z.c ≡ c.in_ok-c.c = same-number z.c c.in_ok-c.c p.3.ranged.amounts.c.most (let a = c.in_ok-c.ensures.2 in omega arith) after_cells c.in_ok-c.ensures.0 in
    let most : c.in_ok-shards.shards * c.in_ok-c.c ≤ 2 ^ 32 = subst (λ (x : ℕ × ℕ). x.0 * x.1 ≤ 2 ^ 32) (λ i. (shards i, bytes i)) p.3.ranged.amounts.all_shards in
    absurd (omega (arith, most, c.if-shards-c-gt-LARGEST_SIZE.true))
