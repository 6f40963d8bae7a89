use Rattle.std.proofs.Common.{◌≡◌, ◌++◌, ◌∷◌, [], List, sym, ap, ◌∙◌, append-nil, append_assoc, arith}
use Rattle.arc_table.proofs.Ends.{nothing_left}
use Rattle.trace_text.specs.declared.reply.Reply.{Reply}
use Rattle.trace_run.proofs.groups.push_all.Goals as goal

pub loop-reply-init : goal.loop-reply-init
loop-reply-init c = ap (λ (l : List Reply). c.args.replies.now.items ++ l) c.into_iter-reply-iterator.ensures.into_iter_gives.0

pub loop-reply-preserved : goal.loop-reply-preserved
loop-reply-preserved c =
    let rest : List Reply = c.next.new.self.rest.items in
    ap (λ (l : List Reply). l ++ rest) c.in_ok-push.ensures.items
    ∙ (append_assoc c.loop-reply.replies.items (c.in-Some.reply ∷ []) rest
    ∙ (ap (λ (l : List Reply). c.loop-reply.replies.items ++ l) (sym c.in-Some.ensures.steps.0) ∙ c.loop-reply.invariant))

pub returns : goal.returns
returns c =
    let none : c.loop-reply.reply-iterator.rest.items ≡ [] = nothing_left c.loop-reply.reply-iterator.rest.items (let a = c.in-None.ensures.steps.0 in let b = c.loop-reply.reply-iterator.rest.ok in omega arith) in
    sym (append-nil c.loop-reply.replies.items) ∙ (ap (λ (l : List Reply). c.loop-reply.replies.items ++ l) (sym none) ∙ c.loop-reply.invariant)
