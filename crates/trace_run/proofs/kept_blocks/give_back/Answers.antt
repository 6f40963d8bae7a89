use Rattle.std.proofs.Common.{[], ◌∷◌, refl, sym, subst}
use Rattle.arc_core.specs.declared.event.Event.TheVariants.{Drop}
use Rattle.arc_table.specs.declared.hold.Hold.{Hold}
use Rattle.arc_table.specs.Both.{Does}
use Rattle.arc_table.specs.Holding.{IsHeld}
use Rattle.dbuf_cells.specs.declared.kept.Kept.TheVariants.{Held, Loose}
use Rattle.trace_run.proofs.KeptBlockLemmas.{given-stands, kept-held}
use Rattle.trace_run.proofs.kept_blocks.give_back.Goals as goal

pub drop_hold-requires-clause-hold : goal.drop_hold-requires-clause-hold
drop_hold-requires-clause-hold g c = subst (λ (h : Hold). IsHeld c.args.arcs.now.config c.args.party.now h) (sym c.in-Held.hold-is)
    (kept-held c.args.arcs.now c.args.party.now c.requires.0 c.requires.1 c.args.read c.requires.2 c.in-Held.hold c.in-Held.is)

pub returns-in-Held-clause-stands : goal.returns-in-Held-clause-stands
returns-in-Held-clause-stands g c =
    let m = g.C.Keeps in
    λ front rest stands.
    given-stands m c.args.arcs.now c.args.party.now c.drop_hold.new.party front rest c.args.read stands (Held c.in-Held.hold) c.in-Held.is
    (subst (λ (h : Hold). Does m c.args.arcs.now.config h.key (Drop h.owner h.key ∷ []) c.args.party.now c.drop_hold.new.party) c.in-Held.hold-is c.drop_hold.ensures)

pub returns-clause-stands : goal.returns-clause-stands
returns-clause-stands g c = λ front rest stands.
    given-stands g.C.Keeps c.args.arcs.now c.args.party.now c.args.party.now front rest c.args.read stands (Loose c.in-Loose.key c.in-Loose.block) c.in-Loose.is refl
