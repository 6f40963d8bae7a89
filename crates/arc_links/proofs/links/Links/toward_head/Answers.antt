use Rattle.std.proofs.Common.{IsSome, sym, subst, ◌∙◌}
use Rattle.arc_links.specs.Linked.{IsSegment, nodes_of}
use Rattle.arc_links.specs.Nodes.{no_place}
use Rattle.arc_links.specs.PlainLinks.{element_at, in_front}
use Rattle.arc_links.proofs.Places.{is_some_of}
use Rattle.arc_links.proofs.Steps.{head_read, neighbour-is, node_at, node-is}
use Rattle.arc_links.proofs.links.Links.toward_head.Goals as goal

pub index-requires : goal.index-requires
index-requires g c = node_at c.self.inside c.args.at c.self.invariant (subst (λ l. IsSome (element_at c.args.at l.nodes)) (sym c.self.view_is) c.requires)

pub returns : goal.returns
returns g c =
    let there : IsSome (element_at c.args.at (nodes_of c.self.inside)) = subst (λ l. IsSome (element_at c.args.at l.nodes)) (sym c.self.view_is) c.requires in
    let x = is_some_of _ there in
    let read = node-is c.self.inside.nodes no_place c.self.inside.head (nodes_of c.self.inside) c.self.inside.last no_place c.args.at x.0 c.self.invariant.linked x.1 in
    let seg : IsSegment c.self.inside.nodes no_place c.self.inside.head (in_front c.args.at (nodes_of c.self.inside)) c.index.result.now.toward_head read.2 =
    subst (λ b. IsSegment c.self.inside.nodes no_place c.self.inside.head (in_front c.args.at (nodes_of c.self.inside)) b read.2)
    (head_read c.self.inside.nodes c.args.at x.0 read.0 read.1 c.index.result.now read.3 c.index.ensures) read.4 in
    rw (← c.self.view_is) (c.neighbour.ensures ∙ sym (neighbour-is c.self.inside.nodes c.self.inside.head (in_front c.args.at (nodes_of c.self.inside)) c.index.result.now.toward_head read.2 seg))
