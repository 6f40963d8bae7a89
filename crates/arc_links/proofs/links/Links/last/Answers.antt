use Rattle.std.proofs.Common.{sym, ◌∙◌}
use Rattle.arc_links.specs.Linked.{nodes_of}
use Rattle.arc_links.specs.Nodes.{no_place}
use Rattle.arc_links.proofs.Steps.{neighbour-is}
use Rattle.arc_links.proofs.links.Links.last.Goals as goal

pub returns : goal.returns
returns g c =
    let l = c.self.inside in
    rw (← c.self.view_is) (c.neighbour.ensures ∙ sym (neighbour-is l.nodes l.head (nodes_of l) l.last no_place c.self.invariant.linked))
