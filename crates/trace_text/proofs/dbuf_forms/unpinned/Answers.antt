use Rattle.std.proofs.lemmas.Result.{err_from_is_err_and}
use Rattle.trace_text.specs.declared.words.Word.TheVariants as words
use Rattle.trace_text.proofs.FormLemmas.{next-fields, number-fault, spell-unpin}
use Rattle.trace_text.proofs.dbuf_forms.unpinned.Goals as goal

pub returns-in_err-at-clause-err : goal.returns-in_err-at-clause-err
returns-in_err-at-clause-err c = λ sized.
    let exit = err_from_is_err_and c.from_residual-in_err-at.result c.from_residual-in_err-at.ensures.1 in
    number-fault c.args.seen words.Unpin c.args.fields.now _ exit.0 _ exit.1 exit.2 c.in_err-at.ensures.0
    (λ line said. let p = spell-unpin c.args.seen.callers c.args.seen.shards c.args.fields.now line said in c.in_err-at.ensures.1 p.1 _ p.4.1 (next-fields c.in_ok-n.ensures.0 (p.3)))
