use Rattle.std.proofs.Common.{sym, ap, is_some, Some, ◌∙◌}
use Rattle.arc_core.specs.declared.entry.Picked.{Picked}
use Rattle.arc_core.proofs.PickPlaces.{first-none, last-first}
use Rattle.arc_lists.proofs.Tables.{some_is}
use Rattle.arc_core.proofs.picks.Picks.first.Goals as goal

pub key_at-requires : goal.key_at-requires
key_at-requires c = ap is_some (last-first c.in-Some.at c.self.inside.list.nodes c.self.invariant.indexed.apart c.in-Some.ensures).there

pub returns-in-Some : goal.returns-in-Some
returns-in-Some c =
    let f = last-first c.in-Some.at c.self.inside.list.nodes c.self.invariant.indexed.apart c.in-Some.ensures in
    rw (← c.self.view_is) (ap (λ (p : Picked). Some p.key) (some_is (sym c.key_at.ensures ∙ f.there)) ∙ sym f.first)

pub returns-in-None : goal.returns-in-None
returns-in-None c = rw (← c.self.view_is) (first-none c.self.inside.list.nodes c.in-None.ensures)
