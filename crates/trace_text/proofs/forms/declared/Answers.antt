use Rattle.std.proofs.Common.{arith}
use Rattle.std.proofs.lemmas.Result.{err_from_is_err_and}
use Rattle.blk_ptr.specs.declared.ptr.Ptr.{Ptr}
use Rattle.trace_text.specs.declared.words.Line.TheVariants.{Declared}
use Rattle.trace_text.specs.declared.words.Word.TheVariants as words
use Rattle.trace_text.proofs.FormLemmas.{next-fields, number-fault, block-spelled, spell-block}
use Rattle.trace_text.proofs.forms.declared.Goals as goal

pub returns-in_err-size-clause-err : goal.returns-in_err-size-clause-err
returns-in_err-size-clause-err c = λ sized.
    let exit = err_from_is_err_and c.from_residual-in_err-size.result c.from_residual-in_err-size.ensures.1 in
    number-fault c.args.seen words.Block c.args.fields.now _ exit.0 _ exit.1 exit.2 c.in_err-size.ensures.0
    (λ line said. let p = spell-block c.args.seen.callers c.args.seen.shards c.args.fields.now line said in c.in_err-size.ensures.1 p.0.key.size _ (omega arith) p.3.size (next-fields c.in_ok-offset.ensures.0 p.2))

pub returns-in_err-birth-clause-err : goal.returns-in_err-birth-clause-err
returns-in_err-birth-clause-err c = λ sized.
    let exit = err_from_is_err_and c.from_residual-in_err-birth.result c.from_residual-in_err-birth.ensures.1 in
    number-fault c.args.seen words.Block c.args.fields.now _ exit.0 _ exit.1 exit.2 c.in_err-birth.ensures.0
    (λ line said. let p = spell-block c.args.seen.callers c.args.seen.shards c.args.fields.now line said in c.in_err-birth.ensures.1 p.0.key.birth _ (omega arith) p.3.birth (next-fields c.in_ok-size.ensures.0 (next-fields c.in_ok-offset.ensures.0 p.2)))

pub returns-in_err-digest-clause-err : goal.returns-in_err-digest-clause-err
returns-in_err-digest-clause-err c = λ sized.
    let exit = err_from_is_err_and c.from_residual-in_err-digest.result c.from_residual-in_err-digest.ensures.1 in
    number-fault c.args.seen words.Block c.args.fields.now _ exit.0 _ exit.1 exit.2 c.in_err-digest.ensures.0
    (λ line said. let p = spell-block c.args.seen.callers c.args.seen.shards c.args.fields.now line said in c.in_err-digest.ensures.1 p.0.digest _ p.3.digest (next-fields c.in_ok-birth.ensures.0 (next-fields c.in_ok-size.ensures.0 (next-fields c.in_ok-offset.ensures.0 p.2))))

pub returns-then-seen-ne0-clause-err : goal.returns-then-seen-ne0-clause-err
returns-then-seen-ne0-clause-err c = λ sized.
    let p : Ptr = record { key = record { offset = c.in_ok-offset.offset; size = c.in_ok-size.size; birth = c.in_ok-birth.birth }; digest = c.in_ok-digest.digest } in (
      Declared p,
      block-spelled c.args.seen.callers c.args.seen.shards _ _ _ _ _ p c.in_ok-no_more.ensures.ok c.in_ok-offset.ensures.0 c.in_ok-size.ensures.0 c.in_ok-birth.ensures.0 c.in_ok-digest.ensures.0
          (record { offset = c.in_ok-offset.ensures.2; size = c.in_ok-size.ensures.2; birth = c.in_ok-birth.ensures.2; digest = c.in_ok-digest.ensures.1 }),
      λ none. c.if-seen-ne0.true none,
    )
