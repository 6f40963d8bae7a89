use Rattle.std.proofs.Common.{◌+◌, ℕ, length, length-append, sym, ap, ◌∙◌, subst}
use Rattle.trace_run.specs.callers.Groups.{KeepNothing}
use Rattle.trace_run.proofs.one_caller.TellLemmas.{all-append}
use Rattle.trace_run.proofs.groups.none_kept.Goals as goal

pub loop-preserved : goal.loop-preserved
loop-preserved c =
    let before = c.loop.invariant in
    record {
      none = subst KeepNothing (sym c.in_ok-push.ensures.items) (all-append _ c.loop.kept.items _ before.none (c.new.ensures, tt));
      count = ap length c.in_ok-push.ensures.items ∙ (length-append c.loop.kept.items _ ∙ ap (λ (n : ℕ). n + 1) before.count);
    }
