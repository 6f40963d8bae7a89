use Rattle.std.proofs.Common.{◌≡◌, ◌+◌, IsSome, Some, is_some, refl, sym, ap, subst, ◌∙◌, arith}
use Rattle.slab.specs.Slab.{get}
use Rattle.arc_links.specs.Linked.{nodes_of}
use Rattle.arc_links.specs.Nodes.{facing_head, facing_last, no_place}
use Rattle.arc_links.specs.PlainLinks.{element_at, without_place}
use Rattle.arc_links.proofs.Places.{is_some_of}
use Rattle.arc_links.proofs.Steps.{Becomes, ToldBack, ToldFront, Turns-set, around, element_read, node_at, node-is, told, told_after, told_before, told_head, told_last}
use Rattle.arc_links.proofs.links.Links.remove.Given.{Over}
use Rattle.arc_links.proofs.links.Links.remove.Goals as goal
use Rattle.arc_links.proofs.links.Links.remove.Goals.{then-before, else-before, then-after, else-after}

pub remove-node-requires : goal.remove-node-requires
remove-node-requires g c = node_at c.self.inside c.args.at c.self.invariant (subst (λ l. IsSome (element_at c.args.at l.nodes)) (sym c.self.view_is) c.requires)

pub set_toward_last-requires : goal.set_toward_last-requires
set_toward_last-requires g c =
    let there : IsSome (element_at c.args.at (nodes_of c.self.inside)) = subst (λ l. IsSome (element_at c.args.at l.nodes)) (sym c.self.view_is) c.requires in
    let near = around c.self.inside c.args.at c.remove-node.result c.self.invariant there c.remove-node.ensures.value in
    ap (λ o. is_some o) (c.remove-node.ensures.updates.others c.remove-node.result.toward_head (near.before_apart c.if-before.false)) ∙ near.before_there c.if-before.false

pub set_toward_head-requires : goal.set_toward_head-requires
set_toward_head-requires g c =
    let there : IsSome (element_at c.args.at (nodes_of c.self.inside)) = subst (λ l. IsSome (element_at c.args.at l.nodes)) (sym c.self.view_is) c.requires in
    let n = c.remove-node.result in
    let near = around c.self.inside c.args.at n c.self.invariant there c.remove-node.ensures.value in
    let kept : IsSome (get c.remove-node.new.self n.toward_last) =
    ap (λ o. is_some o) (c.remove-node.ensures.updates.others n.toward_last (near.after_apart c.if-after.false)) ∙ near.after_there c.if-after.false in
    elim c.if-before.branch [
      | then-before w ↦ rw w.self-inside-is kept
      | else-before w ↦ rw w.self-inside-is
          (ap (λ o. is_some o) ((Turns-set c.remove-node.new.self w.set_toward_last.new.nodes n.toward_head (facing_last n.toward_last) w.set_toward_last.ensures.nodes w.set_toward_last.ensures.len w.set_toward_last.ensures.capacity).others n.toward_last (near.both_apart c.if-after.false)) ∙ kept)
    ]

pub overflow_add-self : goal.overflow_add-self
overflow_add-self g c =
    let first : c.if-before.self-inside.spare ≡ c.self.inside.spare = elim c.if-before.branch [ then-before w ↦ rw w.self-inside-is refl | else-before w ↦ rw w.self-inside-is refl ] in
    let second : c.if-after.self-inside.spare ≡ c.if-before.self-inside.spare = elim c.if-after.branch [ then-after w ↦ rw w.self-inside-is refl | else-after w ↦ rw w.self-inside-is refl ] in
    omega (arith, first, second, c.self.invariant.fits, c.remove-node.ensures.len)

-- what the list is once both neighbours were told
left : (g : Over) (c : goal.After-self-2-1 g)
    → Becomes {T = g.row.T.Denot} record { nodes = c.if-after.self-inside.nodes; head = c.if-after.self-inside.head; last = c.if-after.self-inside.last; spare = c.if-after.self-inside.spare + 1 }
    (without_place c.args.at (nodes_of c.self.inside))
left g c =
    let there : IsSome (element_at c.args.at (nodes_of c.self.inside)) = subst (λ l. IsSome (element_at c.args.at l.nodes)) (sym c.self.view_is) c.requires in
    let n = c.remove-node.result in
    let gone = c.remove-node.ensures in
    let front : ToldFront c.self.inside c.remove-node.new.self c.if-before.self-inside n.toward_head n.toward_last =
    elim c.if-before.branch [
      | then-before w ↦ rw w.self-inside-is (told_head c.self.inside c.remove-node.new.self n.toward_head n.toward_last w.if-before.true)
      | else-before w ↦ rw w.self-inside-is (told_before c.self.inside c.remove-node.new.self w.set_toward_last.new.nodes n.toward_head n.toward_last w.if-before.false
          (Turns-set c.remove-node.new.self w.set_toward_last.new.nodes n.toward_head (facing_last n.toward_last) w.set_toward_last.ensures.nodes w.set_toward_last.ensures.len w.set_toward_last.ensures.capacity))
    ] in
    let back : ToldBack c.if-before.self-inside c.if-after.self-inside n.toward_head n.toward_last =
    elim c.if-after.branch [
      | then-after w ↦ rw w.self-inside-is (told_last c.if-before.self-inside n.toward_head n.toward_last w.if-after.true)
      | else-after w ↦ rw w.self-inside-is (told_after c.if-before.self-inside w.set_toward_head.new.nodes n.toward_head n.toward_last w.if-after.false
          (Turns-set c.if-before.self-inside.nodes w.set_toward_head.new.nodes n.toward_last (facing_head n.toward_head) w.set_toward_head.ensures.nodes w.set_toward_head.ensures.len w.set_toward_head.ensures.capacity))
    ] in
    told c.self.inside c.remove-node.new.self c.if-before.self-inside c.if-after.self-inside c.args.at n c.self.invariant there gone.value gone.updates gone.len gone.capacity front back

pub invariant_of-self : goal.invariant_of-self
invariant_of-self g c = (left g c).kept

pub returns-clause-element : goal.returns-clause-element
returns-clause-element g c =
    let there : IsSome (element_at c.args.at (nodes_of c.self.inside)) = subst (λ l. IsSome (element_at c.args.at l.nodes)) (sym c.self.view_is) c.requires in
    let x = is_some_of _ there in
    let read = node-is c.self.inside.nodes no_place c.self.inside.head (nodes_of c.self.inside) c.self.inside.last no_place c.args.at x.0 c.self.invariant.linked x.1 in
    rw (← c.self.view_is) (x.1 ∙ ap (λ y. Some y) (element_read c.self.inside.nodes c.args.at x.0 read.0 read.1 c.remove-node.result read.3 c.remove-node.ensures.value))

pub returns-clause-links : goal.returns-clause-links
returns-clause-links g c =
    let first : c.if-before.self-inside.spare ≡ c.self.inside.spare = elim c.if-before.branch [ then-before w ↦ rw w.self-inside-is refl | else-before w ↦ rw w.self-inside-is refl ] in
    let second : c.if-after.self-inside.spare ≡ c.if-before.self-inside.spare = elim c.if-after.branch [ then-after w ↦ rw w.self-inside-is refl | else-after w ↦ rw w.self-inside-is refl ] in
    rw (← c.self.view_is)
    (ap (λ ns. record { nodes = ns; spare = c.if-after.self-inside.spare + 1 }) (left g c).nodes
    ∙ ap (λ z. record { nodes = without_place c.args.at (nodes_of c.self.inside); spare = z + 1 }) (second ∙ first))
