use Rattle.std.proofs.Common.{sym, ◌∙◌}
use Rattle.std.proofs.lemmas.Bool.{false≢true}
use Rattle.std.proofs.lemmas.Result.{err_from_is_err_and}
use Rattle.arc_core.specs.declared.config.Bounds.{Bounds}
use Rattle.trace_text.specs.declared.words.Line.TheVariants.{Limited}
use Rattle.trace_text.specs.declared.words.Word.TheVariants as words
use Rattle.trace_text.proofs.FormLemmas.{l2-spelled, next-fields, number-fault, spell-l2}
use Rattle.trace_text.proofs.forms.limited.Goals as goal

pub returns-in_err-write_max-clause-err : goal.returns-in_err-write_max-clause-err
returns-in_err-write_max-clause-err c = λ sized.
    let exit = err_from_is_err_and c.from_residual.result c.from_residual.ensures.1 in
    number-fault c.args.seen words.L2 c.args.fields.now _ exit.0 _ exit.1 exit.2 c.in_err-write_max.ensures.0
    (λ line said. let p = spell-l2 c.args.seen.callers c.args.seen.shards c.args.fields.now line said in c.in_err-write_max.ensures.1 p.0.write_max _ p.3.write_max.0 p.3.write_max.1 p.2)

pub returns-in_err-headroom-clause-err : goal.returns-in_err-headroom-clause-err
returns-in_err-headroom-clause-err c = λ sized.
    let exit = err_from_is_err_and c.from_residual-in_err-headroom.result c.from_residual-in_err-headroom.ensures.1 in
    number-fault c.args.seen words.L2 c.args.fields.now _ exit.0 _ exit.1 exit.2 c.in_err-headroom.ensures.0
    (λ line said. let p = spell-l2 c.args.seen.callers c.args.seen.shards c.args.fields.now line said in c.in_err-headroom.ensures.1 p.0.headroom _ p.3.headroom.0 p.3.headroom.1 (next-fields c.in_ok-write_max.ensures.0 p.2))

pub returns-then-seen-ne0-clause-err : goal.returns-then-seen-ne0-clause-err
returns-then-seen-ne0-clause-err c = λ sized.
    let b : Bounds = record { write_max = c.in_ok-write_max.write_max; headroom = c.in_ok-headroom.headroom } in (
      Limited b,
      l2-spelled c.args.seen.callers c.args.seen.shards _ _ _ b c.in_ok-no_more.ensures.ok c.in_ok-write_max.ensures.0 c.in_ok-headroom.ensures.0
          (record { write_max = (c.in_ok-write_max.ensures.1, c.in_ok-write_max.ensures.2); headroom = (c.in_ok-headroom.ensures.1, c.in_ok-headroom.ensures.2) }),
      λ ordered. c.if-seen-ne0.true ordered.0,
    )

pub returns-then-seen-clause-err : goal.returns-then-seen-clause-err
returns-then-seen-clause-err c = λ sized.
    let b : Bounds = record { write_max = c.in_ok-write_max.write_max; headroom = c.in_ok-headroom.headroom } in (
      Limited b,
      l2-spelled c.args.seen.callers c.args.seen.shards _ _ _ b c.in_ok-no_more.ensures.ok c.in_ok-write_max.ensures.0 c.in_ok-headroom.ensures.0
          (record { write_max = (c.in_ok-write_max.ensures.1, c.in_ok-write_max.ensures.2); headroom = (c.in_ok-headroom.ensures.1, c.in_ok-headroom.ensures.2) }),
      λ ordered. false≢true (sym ordered.1 ∙ c.if-seen.true),
    )
