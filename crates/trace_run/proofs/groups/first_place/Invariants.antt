use Rattle.trace_run.proofs.callers.PlaceLemmas.{IsPlaceOf}
use Rattle.trace_run.proofs.groups.first_place.Given as goal

abbrev pub invariant-loop-ptr : goal.invariant-loop-ptr
invariant-loop-ptr l = IsPlaceOf l.pool_len l.blocks l.ptr-index l.place
