use Rattle.std.proofs.Common.{refl, sym, ap, ◌∙◌, subst}
use Rattle.std.specs.List.{AllByRecursion}
use Rattle.std.specs.Option.{option_map_or}
use Rattle.dbuf_state.specs.CellLog.{CellLog}
use Rattle.dbuf_state.specs.Dbufs.{IsFit, dbuf_at}
use Rattle.dbuf_state.specs.declared.dbuf.Dbuf.{Dbuf}
use Rattle.dbuf_state.specs.declared.state.DbState.TheVariants as state
use Rattle.dbuf_cells.specs.Kept.{bytes_of, key_of}
use Rattle.dbuf_cells.specs.declared.kept.Kept.{Kept}
use Rattle.dbuf_cells.proofs.Claims.{claims-through}
use Rattle.dbuf_cells.proofs.PartySteps.{as-given, finds-bringing}
use Rattle.dbuf_cells.proofs.turn.try_at_rest.Goals as goal

pub returns-in-Read-clause-none : goal.returns-in-Read-clause-none
returns-in-Read-clause-none g c =
    let b = c.take-cell.result in
    finds-bringing c.args.arcs.now c.args.i c.args.at c.args.party.now c.give.new.party b c.in-Read.n
    (subst (λ (x : CellLog Kept). AllByRecursion (IsFit key_of bytes_of) x.dbufs) c.deref-in-Read.ensures c.told.ensures.fit)
    (ap (λ (x : CellLog Kept). option_map_or (λ (d : Dbuf Kept). d.state) (dbuf_at c.args.at x.dbufs) state.Uncached) (sym c.deref.ensures) ∙ (sym c.state.ensures.state ∙ c.in-Read.is))
    (as-given c.args.arcs.now c.args.i c.args.party.now b b.value c.take-cell.new.party c.take-cell.ensures.begins c.give.new.party c.give.ensures.gives)

pub returns-in-Read-clause-party : goal.returns-in-Read-clause-party
returns-in-Read-clause-party g c = let b = c.take-cell.result in (as-given c.args.arcs.now c.args.i c.args.party.now b b.value c.take-cell.new.party c.take-cell.ensures.begins c.give.new.party c.give.ensures.gives).party

pub returns-in-Read-clause-held : goal.returns-in-Read-clause-held
returns-in-Read-clause-held g c = let b = c.take-cell.result in (as-given c.args.arcs.now c.args.i c.args.party.now b b.value c.take-cell.new.party c.take-cell.ensures.begins c.give.new.party c.give.ensures.gives).held

pub returns-in-Read-clause-number : goal.returns-in-Read-clause-number
returns-in-Read-clause-number g c = let b = c.take-cell.result in (as-given c.args.arcs.now c.args.i c.args.party.now b b.value c.take-cell.new.party c.take-cell.ensures.begins c.give.new.party c.give.ensures.gives).number

pub returns-in-Read-clause-claims : goal.returns-in-Read-clause-claims
returns-in-Read-clause-claims g c =
    let b = c.take-cell.result in
    let given = as-given c.args.arcs.now c.args.i c.args.party.now b b.value c.take-cell.new.party c.take-cell.ensures.begins c.give.new.party c.give.ensures.gives in
    claims-through c.args.i c.take-cell.new.party.number c.give.new.party.number b.value.dbufs b.value.dbufs c.args.party.now c.give.new.party c.take-cell.ensures.claims c.give.ensures.claims
    (given.number ∙ sym c.take-cell.ensures.begins.hand.party.number) (λ n. refl) given.others
