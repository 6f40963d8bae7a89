use Rattle.std.proofs.Common.{arith}
use Rattle.std.proofs.lemmas.Result.{err_from_is_err_and}
use Rattle.trace_text.specs.declared.op.Op.TheVariants as ops
use Rattle.trace_text.specs.declared.words.Line.TheVariants.{Operation}
use Rattle.trace_text.specs.declared.words.Word.TheVariants as words
use Rattle.trace_text.proofs.FormLemmas.{drop-spelled, next-fields, number-fault, order-fault, spell-drop}
use Rattle.trace_text.proofs.forms.dropped.Goals as goal

pub returns-in_err-named-clause-err : goal.returns-in_err-named-clause-err
returns-in_err-named-clause-err c = λ sized.
    let exit = err_from_is_err_and c.from_residual-in_err-named.result c.from_residual-in_err-named.ensures.1 in
    number-fault c.args.seen words.Drop c.args.fields.now _ exit.0 _ exit.1 exit.2 c.in_err-named.ensures.0
    (λ line said. let p = spell-drop c.args.seen.callers c.args.seen.shards c.args.fields.now line said in c.in_err-named.ensures.1 p.1 _ (omega arith) p.4.1 (next-fields c.in_ok-n.ensures.0 p.3))

pub returns-in_err-x-clause-err : goal.returns-in_err-x-clause-err
returns-in_err-x-clause-err c = λ sized.
    let exit = err_from_is_err_and c.from_residual-in_err-x.result c.from_residual-in_err-x.ensures.1 in
    order-fault c.args.seen words.Drop c.args.fields.now _ exit.0 _ exit.1 exit.2 c.in_err-x.ensures.0
    (Operation (ops.Drop c.in_ok-n.n c.in_ok-named.named))
    (drop-spelled c.args.seen.callers c.args.seen.shards _ _ _ _ _ c.in_ok-no_more.ensures.ok c.in_ok-n.ensures.0 c.in_ok-named.ensures.0
    (c.in_ok-n.ensures.1, c.in_ok-named.ensures.2))
    (λ below. omega (arith, c.in_err-x.ensures.1))
