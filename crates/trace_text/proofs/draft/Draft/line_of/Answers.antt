use Rattle.std.proofs.Common.{sym, ap}
use Rattle.std.proofs.lemmas.Result.{err_from_is_err_and}
use Rattle.trace_text.proofs.DraftLemmas.{begun-fault, first-field, kept-fault}
use Rattle.trace_text.proofs.draft.Draft.line_of.Goals as goal

pub returns-in_err-word : goal.returns-in_err-word
returns-in_err-word c =
    let exit = err_from_is_err_and c.from_residual.result c.from_residual.ensures.1 in
    let parts = first-field c.args.line.now c.next.result c.unwrap_or-first.result _ c.next.new.self (rw c.new-fields.ensures at c.next.ensures) c.unwrap_or-first.ensures in
    begun-fault c.args.self.now c.args.line.now c.unwrap_or-first.result.now c.next.new.self c.self.inside.config c.from_residual.result exit.0 _ exit.1 exit.2 parts
    (ap (λ content. content.config) (sym c.self.view_is)) c.in_err-word.ensures

pub returns-in_default : goal.returns-in_default
returns-in_default c =
    let parts = first-field c.args.line.now c.next.result c.unwrap_or-first.result _ c.next.new.self (rw c.new-fields.ensures at c.next.ensures) c.unwrap_or-first.ensures in
    kept-fault c.args.self.now c.args.line.now c.unwrap_or-first.result.now c.next.new.self c.self.inside.config c.seen.result c.in_ok-word.word c.in-Err-Wrong.field-0 parts
    (ap (λ content. content.config) (sym c.self.view_is)) c.seen.ensures c.in_ok-word.ensures.0 c.in_ok-word.ensures.1 (c.has_shape.ensures.0 c.if-not-has_shape.false)
    c.in-Err-Wrong.ensures.err
