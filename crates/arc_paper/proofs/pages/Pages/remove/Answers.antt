use Rattle.std.proofs.Common.{◌-◌, sym, subst, arith}
use Rattle.arc_links.proofs.Places.{AreApart-without, length-without}
use Rattle.arc_paper.specs.Pages.{IsCounted}
use Rattle.arc_paper.proofs.pages.Pages.remove.Goals as goal

pub invariant_of-self : goal.invariant_of-self
invariant_of-self c =
    let shorter = length-without c.args.at c.self.inside.links.nodes c.remove.result c.self.invariant.apart c.remove.ensures.element in
    subst (λ l. IsCounted (record { links = l; len = c.self.inside.len - 1 })) (sym c.remove.ensures.links) (record {
      len = omega (arith, c.self.invariant.len, shorter);
      apart = AreApart-without c.args.at c.self.inside.links.nodes c.self.invariant.apart;
      fits = omega (arith, c.self.invariant.fits, shorter);
    })
