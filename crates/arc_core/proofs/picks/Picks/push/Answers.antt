use Rattle.std.proofs.Common.{◌≡◌, ◌<◌, None, sym, ap, subst, arith}
use Rattle.arc_links.specs.PlainLinks.{PlainLinks}
use Rattle.arc_core.specs.declared.entry.Picked.{Picked}
use Rattle.arc_core.specs.Changes.{pick_of}
use Rattle.arc_core.specs.PickPlaces.{AreIndexed}
use Rattle.arc_core.proofs.PickPlaces.{comes, no-row}
use Rattle.arc_core.proofs.picks.Picks.push.Goals as goal

pub insert-requires-clause-absent : goal.insert-requires-clause-absent
insert-requires-clause-absent c =
    let t = c.self.inside in
    no-row t.list.nodes t.places.rows c.args.pick.key c.self.invariant.indexed (subst (λ m. pick_of c.args.pick.key m.items ≡ None) (sym c.self.view_is) c.requires.absent)

pub invariant_of-self : goal.invariant_of-self
invariant_of-self c =
    let t = c.self.inside in
    let kept = c.self.invariant in
    let some : 0 < t.spare = subst (λ m. 0 < m.spare) (sym c.self.view_is) c.requires.room in
    record {
      indexed = subst (λ (l : PlainLinks Picked). AreIndexed l.nodes c.insert.new.self.rows) (sym c.push_head-at.ensures.links)
          (comes t.list.nodes t.places.rows c.insert.new.self.rows c.push_head-at.result c.args.pick kept.indexed c.push_head-at.ensures.free c.insert.ensures.apart c.insert.ensures.rows);
      room = omega (arith, kept.room, ap (λ (l : PlainLinks Picked). l.spare) c.push_head-at.ensures.links, some);
      places_room = omega (arith, kept.places_room, c.insert.ensures.spare, some);
    }
