use Rattle.std.proofs.Common.{◌+◌, is_some, reverse, sym, ap, subst, ◌∙◌, arith}
use Rattle.std.specs.Prelude.{sum_by}
use Rattle.arc_links.specs.PlainLinks.{PlainLinks, elements}
use Rattle.arc_core.specs.declared.entry.Picked.{Picked}
use Rattle.arc_core.specs.PickPlaces.{AreIndexed}
use Rattle.arc_core.proofs.PickPlaces.{bytes-without, found, goes, gone, in_order, not-found, without-none}
use Rattle.arc_core.proofs.picks.Picks.take.Goals as goal

pub remove-requires-in-Some : goal.remove-requires-in-Some
remove-requires-in-Some c = ap is_some (c.self.invariant.indexed.placed c.args.key c.in-Some.at c.in-Some.ensures.some).1

pub invariant_of-self : goal.invariant_of-self
invariant_of-self c =
    let t = c.self.inside in
    let kept = c.self.invariant in
    record {
      indexed = subst (λ (l : PlainLinks Picked). AreIndexed l.nodes c.remove.new.self.rows) (sym c.remove-in-Some.ensures.links)
          (goes t.list.nodes t.places.rows c.remove.new.self.rows c.args.key c.in-Some.at kept.indexed c.in-Some.ensures.some c.remove.ensures.apart c.remove.ensures.rows);
      room = omega (arith, kept.room, ap (λ (l : PlainLinks Picked). l.spare) c.remove-in-Some.ensures.links);
      places_room = omega (arith, kept.places_room, c.remove.ensures.spare);
    }

pub returns-in-Some-clause-items : goal.returns-in-Some-clause-items
returns-in-Some-clause-items c =
    let t = c.self.inside in
    rw (← c.self.view_is)
    (ap (λ (l : PlainLinks Picked). reverse (elements l)) c.remove-in-Some.ensures.links
    ∙ gone t.list.nodes t.places.rows c.args.key c.in-Some.at c.remove-in-Some.result c.self.invariant.indexed c.in-Some.ensures.some c.remove-in-Some.ensures.element)

pub returns-in-Some-clause-bytes : goal.returns-in-Some-clause-bytes
returns-in-Some-clause-bytes c =
    let t = c.self.inside in
    let indexed = c.self.invariant.indexed in
    let there = c.in-Some.ensures.some in
    let x = c.remove-in-Some.result in
    let element = c.remove-in-Some.ensures.element in
    rw (← c.self.view_is)
    (ap (λ (l : PlainLinks Picked). sum_by (λ (p : Picked). p.key.size) (reverse (elements l)) + x.key.size) c.remove-in-Some.ensures.links
    ∙ ap (λ l. sum_by (λ (p : Picked). p.key.size) l + x.key.size) (gone t.list.nodes t.places.rows c.args.key c.in-Some.at x indexed there element)
    ∙ bytes-without c.args.key x (in_order t.list.nodes) (found t.list.nodes t.places.rows c.args.key c.in-Some.at x indexed there element))

pub returns-in-None-clause-items : goal.returns-in-None-clause-items
returns-in-None-clause-items c =
    let t = c.self.inside in
    rw (← c.self.view_is)
    (sym (without-none c.args.key (in_order t.list.nodes) (not-found t.list.nodes t.places.rows c.args.key c.self.invariant.indexed c.in-None.ensures.none)))
