use Rattle.l2_feed.proofs.Loops.{SetSo}
use Rattle.l2_feed.proofs.settle.set_run.Given as goal

abbrev pub invariant-loop-picked : goal.invariant-loop-picked
invariant-loop-picked g l = SetSo g.C.Keeps l.arcs l.fn.place l.run l.picked-index l.place l.written l.fn.party l.party
