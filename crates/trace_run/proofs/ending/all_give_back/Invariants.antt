use Rattle.std.proofs.Common.{ℕ, List}
use Rattle.arc_core.specs.declared.event.Event.{Event}
use Rattle.arc_core.specs.Operations.{Act}
use Rattle.trace_run.specs.Deeds.{Noted}
use Rattle.trace_run.specs.Meeting.{AreWaiting, IsFed}
use Rattle.trace_run.proofs.callers.TurningLemmas.{Turning}
use Rattle.trace_run.proofs.ending.all_give_back.Given as goal

abbrev pub invariant-loop-reads : goal.invariant-loop-reads
invariant-loop-reads g l = (acts : ℕ → List Act) (noted : ℕ → List Noted) → AreWaiting l.arcs acts noted 0 l.fn.kept.items l.fn.callers.items → (openings : List (List ℕ)) (feeds since : (shard : ℕ) → List Event) (inserted : List Act) (synced : List Noted) → IsFed l.arcs openings feeds since inserted synced l.fn.feeder
    → Turning l.arcs acts noted openings feeds since inserted synced l.fn.callers.items l.fn.feeder l.fn.kept.items l.reads-iterator.rest.items l.parties.items
