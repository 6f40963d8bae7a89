use Rattle.std.proofs.Common.{arith}
use Rattle.std.proofs.lemmas.Result.{err_from_is_err_and}
use Rattle.trace_text.specs.declared.mapping.Mapping.{Mapping}
use Rattle.trace_text.specs.declared.words.Line.TheVariants.{Mapped}
use Rattle.trace_text.specs.declared.words.Word.TheVariants as words
use Rattle.trace_text.proofs.FormLemmas.{later-fields, number-fault, object-spelled, order-fault, spell-object}
use Rattle.trace_text.proofs.dbuf_forms.mapped.Goals as goal

pub returns-in_err-at-clause-err : goal.returns-in_err-at-clause-err
returns-in_err-at-clause-err c = λ sized.
    let exit = err_from_is_err_and c.from_residual.result c.from_residual.ensures.1 in
    number-fault c.args.seen words.Object c.args.fields.now _ exit.0 _ exit.1 exit.2 c.in_err-at.ensures.0
    (λ line said. let p = spell-object c.args.seen.callers c.args.seen.shards c.args.fields.now line said in c.in_err-at.ensures.1 p.0.at _ p.3.at p.2)

pub returns-in_err-named-clause-err : goal.returns-in_err-named-clause-err
returns-in_err-named-clause-err c = λ sized.
    let exit = err_from_is_err_and c.from_residual-in_err-named.result c.from_residual-in_err-named.ensures.1 in
    number-fault c.args.seen words.Object c.args.fields.now _ exit.0 _ exit.1 exit.2 c.in_err-named.ensures.0
    (λ line said. let p = spell-object c.args.seen.callers c.args.seen.shards c.args.fields.now line said in c.in_err-named.ensures.1 p.0.block _ (omega arith) p.3.block (later-fields c.in_ok-at.ensures.0 p.2))

pub returns-then-seen-ne0-clause-err : goal.returns-then-seen-ne0-clause-err
returns-then-seen-ne0-clause-err c = λ sized.
    let m : Mapping = record { at = c.in_ok-at.at; block = c.in_ok-named.named } in (
      Mapped m,
      object-spelled c.args.seen.callers c.args.seen.shards _ _ _ m c.in_ok-no_more.ensures.ok c.in_ok-at.ensures.0 c.in_ok-named.ensures.0
          (record { at = c.in_ok-at.ensures.1; block = c.in_ok-named.ensures.2 }),
      λ ordered. c.if-seen-ne0.true ordered.0,
    )

pub returns-in_err-block-clause-err : goal.returns-in_err-block-clause-err
returns-in_err-block-clause-err c = λ sized.
    let exit = err_from_is_err_and c.from_residual-in_err-block.result c.from_residual-in_err-block.ensures.1 in
    let m : Mapping = record { at = c.in_ok-at.at; block = c.in_ok-named.named } in
    order-fault c.args.seen words.Object c.args.fields.now _ exit.0 _ exit.1 exit.2 c.in_err-block.ensures.0 (Mapped m)
    (object-spelled c.args.seen.callers c.args.seen.shards _ _ _ m c.in_ok-no_more.ensures.ok c.in_ok-at.ensures.0 c.in_ok-named.ensures.0
    (record { at = c.in_ok-at.ensures.1; block = c.in_ok-named.ensures.2 }))
    (λ ordered. omega (arith, c.in_err-block.ensures.1, ordered.1))
