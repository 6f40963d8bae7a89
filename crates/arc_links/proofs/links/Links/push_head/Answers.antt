use Rattle.std.proofs.Common.{◌<◌, ◌-◌, sym, ap, subst, arith}
use Rattle.arc_links.specs.Nodes.{facing_head, no_place}
use Rattle.arc_links.proofs.Steps.{Turns-set, free_place, push_first, push_more}
use Rattle.arc_links.proofs.links.Links.push_head.Goals as goal
use Rattle.arc_links.proofs.links.Links.push_head.Goals.{then-behind, else-behind}

pub invariant_of-self : goal.invariant_of-self
invariant_of-self g c =
    let some : 0 < c.self.inside.spare = subst (λ l. 0 < l.spare) (sym c.self.view_is) c.requires in
    let add = c.insert_reserved-at.ensures in
    let p = c.insert_reserved-at.result in
    let place : p < no_place = omega (arith, add.key_in_range, c.capacity-capacity.ensures.value, c.capacity-capacity.type_inv) in
    elim c.if-behind.branch [
      | then-behind w ↦ rw w.self-inside-is (push_first c.self.inside _ p c.args.element c.self.invariant some add.was_vacant place add.updates add.len add.capacity w.if-behind.true).kept
      | else-behind w ↦ rw w.self-inside-is (push_more c.self.inside c.insert_reserved-at.new.self w.set_toward_head.new.nodes p c.args.element c.self.invariant some add.was_vacant place add.updates add.len add.capacity w.if-behind.false
          (Turns-set c.insert_reserved-at.new.self w.set_toward_head.new.nodes c.self.inside.head (facing_head p) w.set_toward_head.ensures.nodes w.set_toward_head.ensures.len w.set_toward_head.ensures.capacity)).kept
    ]

pub returns-clause-free : goal.returns-clause-free
returns-clause-free g c = rw (← c.self.view_is) (free_place c.self.inside c.insert_reserved-at.result c.self.invariant c.insert_reserved-at.ensures.was_vacant)

pub returns-clause-links : goal.returns-clause-links
returns-clause-links g c =
    let some : 0 < c.self.inside.spare = subst (λ l. 0 < l.spare) (sym c.self.view_is) c.requires in
    let add = c.insert_reserved-at.ensures in
    let p = c.insert_reserved-at.result in
    let place : p < no_place = omega (arith, add.key_in_range, c.capacity-capacity.ensures.value, c.capacity-capacity.type_inv) in
    elim c.if-behind.branch [
      | then-behind w ↦
          rw (w.self-inside-is, ← c.self.view_is) (ap (λ ns. record { nodes = ns; spare = c.self.inside.spare - 1 })
          (push_first c.self.inside _ p c.args.element c.self.invariant some add.was_vacant place add.updates add.len add.capacity w.if-behind.true).nodes)
      | else-behind w ↦
          rw (w.self-inside-is, ← c.self.view_is) (ap (λ ns. record { nodes = ns; spare = c.self.inside.spare - 1 })
          (push_more c.self.inside c.insert_reserved-at.new.self w.set_toward_head.new.nodes p c.args.element c.self.invariant some add.was_vacant place add.updates add.len add.capacity w.if-behind.false
          (Turns-set c.insert_reserved-at.new.self w.set_toward_head.new.nodes c.self.inside.head (facing_head p) w.set_toward_head.ensures.nodes w.set_toward_head.ensures.len w.set_toward_head.ensures.capacity)).nodes)
    ]
