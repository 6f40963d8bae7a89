use Rattle.std.proofs.Common.{arith}
use Rattle.std.proofs.lemmas.Result.{err_from_is_err_and}
use Rattle.trace_text.specs.declared.words.Word.TheVariants as words
use Rattle.trace_text.proofs.FormLemmas.{later-fields, line-number-fault, next-fields, spell-patch}
use Rattle.trace_text.proofs.dbuf_forms.patched.Goals as goal

pub returns-in_err-t-clause-err : goal.returns-in_err-t-clause-err
returns-in_err-t-clause-err c = λ sized.
    let exit = err_from_is_err_and c.from_residual-in_err-t.result c.from_residual-in_err-t.ensures.1 in
    line-number-fault c.args.seen words.Patch c.args.fields.now _ exit.0 _ exit.1 exit.2 c.in_err-t.ensures.0
    (λ line said. let p = spell-patch c.args.seen.callers c.args.seen.shards c.args.fields.now line said in c.in_err-t.ensures.1 p.1 _ (omega arith) p.7.1 (next-fields c.in_ok-n.ensures.0 (p.6)))

pub returns-in_err-at-clause-err : goal.returns-in_err-at-clause-err
returns-in_err-at-clause-err c = λ sized.
    let exit = err_from_is_err_and c.from_residual-in_err-at.result c.from_residual-in_err-at.ensures.1 in
    line-number-fault c.args.seen words.Patch c.args.fields.now _ exit.0 _ exit.1 exit.2 c.in_err-at.ensures.0
    (λ line said. let p = spell-patch c.args.seen.callers c.args.seen.shards c.args.fields.now line said in c.in_err-at.ensures.1 p.2 _ p.7.2 (next-fields c.in_ok-t.ensures.0 (next-fields c.in_ok-n.ensures.0 (p.6))))

pub returns-in_err-from-clause-err : goal.returns-in_err-from-clause-err
returns-in_err-from-clause-err c = λ sized.
    let exit = err_from_is_err_and c.from_residual-in_err-from.result c.from_residual-in_err-from.ensures.1 in
    line-number-fault c.args.seen words.Patch c.args.fields.now _ exit.0 _ exit.1 exit.2 c.in_err-from.ensures.0
    (λ line said. let p = spell-patch c.args.seen.callers c.args.seen.shards c.args.fields.now line said in c.in_err-from.ensures.1 p.3 _ (omega arith) (omega (arith, p.7.3)) (later-fields c.in_ok-at.ensures.0 (next-fields c.in_ok-t.ensures.0 (next-fields c.in_ok-n.ensures.0 (p.6)))))

pub returns-in_err-bytes-clause-err : goal.returns-in_err-bytes-clause-err
returns-in_err-bytes-clause-err c = λ sized.
    let exit = err_from_is_err_and c.from_residual-in_err-bytes.result c.from_residual-in_err-bytes.ensures.1 in
    line-number-fault c.args.seen words.Patch c.args.fields.now _ exit.0 _ exit.1 exit.2 c.in_err-bytes.ensures.0
    (λ line said. let p = spell-patch c.args.seen.callers c.args.seen.shards c.args.fields.now line said in c.in_err-bytes.ensures.1 p.4 _ p.7.4 (next-fields c.in_ok-from.ensures.0 (later-fields c.in_ok-at.ensures.0 (next-fields c.in_ok-t.ensures.0 (next-fields c.in_ok-n.ensures.0 (p.6))))))
