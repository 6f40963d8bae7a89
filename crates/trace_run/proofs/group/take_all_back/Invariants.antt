use Rattle.std.proofs.Common.{◌≡◌, ◌++◌, List, map, false, Option}
use Rattle.trace_text.specs.declared.reply.Reply.{Reply}
use Rattle.trace_run.specs.Devices.{WasLent, lent_in}
use Rattle.trace_run.specs.callers.DeviceForks.{TakesForksBack}
use Rattle.trace_run.specs.callers.Callers.{AbsorbsAll, AllReplied}
use Rattle.trace_run.proofs.group.take_all_back.Given as goal

abbrev pub invariant-loop-caller : goal.invariant-loop-caller
invariant-loop-caller g l = record {
  absorbs : (q : g.row.P.Denot) → AbsorbsAll g.P.Pool (map (λ caller. caller.pool) l.caller-iterator.rest.items) l.pool q → AbsorbsAll g.P.Pool (map (λ caller. caller.pool) l.fn.callers.items) l.fn.pool q;
  back : (q : Option g.row.D.Denot) → TakesForksBack g.D.CacheDev (map (λ caller. caller.device) l.caller-iterator.rest.items) (lent_in l.device) q
      → TakesForksBack g.D.CacheDev (map (λ caller. caller.device) l.fn.callers.items) (lent_in l.fn.device) q;
  lent : WasLent g.D.CacheDev l.fn.device l.device;
  replied : l.short ≡ false → (replies : List (List Reply)) → AllReplied l.caller-iterator.rest.items replies → AllReplied l.fn.callers.items (map (λ v. v.items) l.worked.replies.items ++ replies);
  parties : l.short ≡ false → l.worked.parties.items ++ map (λ caller. caller.party) l.caller-iterator.rest.items ≡ map (λ caller. caller.party) l.fn.callers.items;
  keeps : l.short ≡ false → l.worked.kept.items ++ map (λ caller. caller.kept) l.caller-iterator.rest.items ≡ map (λ caller. caller.kept) l.fn.callers.items;
}
