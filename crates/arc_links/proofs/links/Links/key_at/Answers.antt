use Rattle.std.proofs.Common.{IsSome, Some, sym, ap, subst, ◌∙◌}
use Rattle.arc_links.specs.Linked.{nodes_of}
use Rattle.arc_links.specs.Nodes.{no_place}
use Rattle.arc_links.specs.PlainLinks.{element_at}
use Rattle.arc_links.proofs.Places.{is_some_of}
use Rattle.arc_links.proofs.Steps.{element_read, node_at, node-is}
use Rattle.arc_links.proofs.links.Links.key_at.Goals as goal

pub index-requires : goal.index-requires
index-requires g c = node_at c.self.inside c.args.at c.self.invariant (subst (λ l. IsSome (element_at c.args.at l.nodes)) (sym c.self.view_is) c.requires)

pub returns : goal.returns
returns g c =
    let there : IsSome (element_at c.args.at (nodes_of c.self.inside)) = subst (λ l. IsSome (element_at c.args.at l.nodes)) (sym c.self.view_is) c.requires in
    let x = is_some_of _ there in
    let read = node-is c.self.inside.nodes no_place c.self.inside.head (nodes_of c.self.inside) c.self.inside.last no_place c.args.at x.0 c.self.invariant.linked x.1 in
    rw (← c.self.view_is) (x.1 ∙ ap (λ y. Some y) (element_read c.self.inside.nodes c.args.at x.0 read.0 read.1 c.index.result.now read.3 c.index.ensures))
