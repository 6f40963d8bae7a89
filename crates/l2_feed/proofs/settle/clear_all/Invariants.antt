use Rattle.l2_feed.proofs.Loops.{ClearedSo}
use Rattle.l2_feed.proofs.settle.clear_all.Given as goal

abbrev pub invariant-loop-live : goal.invariant-loop-live
invariant-loop-live g l = ClearedSo g.C.Keeps l.arcs l.fn.cleared l.dropped l.live-index l.cleared l.result l.fn.party l.party
