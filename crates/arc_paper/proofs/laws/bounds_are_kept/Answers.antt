use Rattle.arc_paper.proofs.Bounding.{bounds-kept}
use Rattle.arc_paper.proofs.laws.bounds_are_kept.Goals as goal

pub returns : goal.returns
returns c = bounds-kept
