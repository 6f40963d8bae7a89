use Rattle.std.proofs.Common.{sym, ap, is_some}
use Rattle.arc_core.proofs.PickPlaces.{found, not-found}
use Rattle.arc_core.proofs.picks.Picks.find.Goals as goal

pub key_at-requires : goal.key_at-requires
key_at-requires c = ap is_some (c.self.invariant.indexed.placed c.args.key c.in-Some.at c.in-Some.ensures.some).1

pub returns-in-Some : goal.returns-in-Some
returns-in-Some c =
    let t = c.self.inside in
    rw (← c.self.view_is) (sym (found t.list.nodes t.places.rows c.args.key c.in-Some.at c.key_at.result c.self.invariant.indexed c.in-Some.ensures.some c.key_at.ensures))

pub returns-in-None : goal.returns-in-None
returns-in-None c =
    let t = c.self.inside in
    rw (← c.self.view_is) (sym (not-found t.list.nodes t.places.rows c.args.key c.self.invariant.indexed c.in-None.ensures.none))
