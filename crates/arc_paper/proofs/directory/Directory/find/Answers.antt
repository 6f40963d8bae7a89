use Rattle.std.proofs.Common.{◌≡◌, true, subst}
use Rattle.arc_paper.specs.Arc.{stands_in}
use Rattle.arc_paper.specs.Directory.{Lists, copies, pages_in}
use Rattle.arc_paper.proofs.Roomy.{absent-from, found-in}
use Rattle.arc_paper.proofs.directory.Directory.find.Goals as goal

pub returns-in-Some : goal.returns-in-Some
returns-in-Some c = subst (λ (l : Lists). stands_in (pages_in c.in-Some.spot.queue l) c.args.x ≡ true) c.self.view_is
    (found-in c.self.inside c.args.x c.in-Some.spot c.self.invariant c.in-Some.ensures.some)

pub returns-in-None : goal.returns-in-None
returns-in-None c = subst (λ (l : Lists). copies c.args.x l ≡ 0) c.self.view_is (absent-from c.self.inside c.args.x c.self.invariant c.in-None.ensures.none)
