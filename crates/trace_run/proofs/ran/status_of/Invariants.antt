use Rattle.std.proofs.Common.{◌≡◌, drop}
use Rattle.std.specs.List.{list_any}
use Rattle.trace_run.specs.Answers.{is_refusal}
use Rattle.trace_run.proofs.ran.status_of.Given as goal

-- no reply so far is a refusal, so the others decide
abbrev pub invariant-loop-reply : goal.invariant-loop-reply
invariant-loop-reply l = list_any is_refusal (drop l.reply-index l.replies) ≡ list_any is_refusal l.replies
