use Rattle.l2_feed.specs.Shape.{stop_of, why_of}
use Rattle.l2_feed.proofs.Loops.{LeftSo}
use Rattle.l2_feed.proofs.settle.leave_all.Given as goal

abbrev pub invariant-loop-picked : goal.invariant-loop-picked
invariant-loop-picked g l = LeftSo g.C.Keeps l.arcs (why_of (stop_of l.fn.fault)) l.blocks l.picked-index l.fn.party l.party
