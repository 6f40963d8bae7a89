use Rattle.std.proofs.Common.{arith}
use Rattle.std.proofs.lemmas.Result.{err_from_is_err_and}
use Rattle.trace_text.specs.declared.words.Word.TheVariants as words
use Rattle.trace_text.proofs.FormLemmas.{later-fields, next-fields, number-fault, spell-put}
use Rattle.trace_text.proofs.dbuf_forms.put.Goals as goal

pub returns-in_err-t-clause-err : goal.returns-in_err-t-clause-err
returns-in_err-t-clause-err c = λ sized.
    let exit = err_from_is_err_and c.from_residual-in_err-t.result c.from_residual-in_err-t.ensures.1 in
    number-fault c.args.seen words.Put c.args.fields.now _ exit.0 _ exit.1 exit.2 c.in_err-t.ensures.0
    (λ line said. let p = spell-put c.args.seen.callers c.args.seen.shards c.args.fields.now line said in c.in_err-t.ensures.1 p.1 _ (omega arith) p.7.1 (next-fields c.in_ok-n.ensures.0 (p.6)))

pub returns-in_err-at-clause-err : goal.returns-in_err-at-clause-err
returns-in_err-at-clause-err c = λ sized.
    let exit = err_from_is_err_and c.from_residual-in_err-at.result c.from_residual-in_err-at.ensures.1 in
    number-fault c.args.seen words.Put c.args.fields.now _ exit.0 _ exit.1 exit.2 c.in_err-at.ensures.0
    (λ line said. let p = spell-put c.args.seen.callers c.args.seen.shards c.args.fields.now line said in c.in_err-at.ensures.1 p.2 _ p.7.2 (next-fields c.in_ok-t.ensures.0 (next-fields c.in_ok-n.ensures.0 (p.6))))

pub returns-in_err-size-clause-err : goal.returns-in_err-size-clause-err
returns-in_err-size-clause-err c = λ sized.
    let exit = err_from_is_err_and c.from_residual-in_err-size.result c.from_residual-in_err-size.ensures.1 in
    number-fault c.args.seen words.Put c.args.fields.now _ exit.0 _ exit.1 exit.2 c.in_err-size.ensures.0
    (λ line said. let p = spell-put c.args.seen.callers c.args.seen.shards c.args.fields.now line said in c.in_err-size.ensures.1 p.3 _ p.7.3 (later-fields c.in_ok-at.ensures.0 (next-fields c.in_ok-t.ensures.0 (next-fields c.in_ok-n.ensures.0 (p.6)))))

pub returns-in_err-fill-clause-err : goal.returns-in_err-fill-clause-err
returns-in_err-fill-clause-err c = λ sized.
    let exit = err_from_is_err_and c.from_residual-in_err-fill.result c.from_residual-in_err-fill.ensures.1 in
    number-fault c.args.seen words.Put c.args.fields.now _ exit.0 _ exit.1 exit.2 c.in_err-fill.ensures.0
    (λ line said. let p = spell-put c.args.seen.callers c.args.seen.shards c.args.fields.now line said in c.in_err-fill.ensures.1 p.4 _ p.7.4 (next-fields c.in_ok-size.ensures.0 (later-fields c.in_ok-at.ensures.0 (next-fields c.in_ok-t.ensures.0 (next-fields c.in_ok-n.ensures.0 (p.6))))))
