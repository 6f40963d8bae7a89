use Rattle.std.proofs.Common.{◌≡◌, ◌++◌}
use Rattle.trace_run.proofs.groups.push_all.Given as goal

abbrev pub invariant-loop-reply : goal.invariant-loop-reply
invariant-loop-reply l = l.replies.items ++ l.reply-iterator.rest.items ≡ l.fn.replies.items ++ l.fn.more.items
