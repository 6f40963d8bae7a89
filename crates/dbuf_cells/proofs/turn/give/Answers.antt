use Rattle.std.proofs.Common.{IsTrue, true, ap, subst}
use Rattle.std.specs.List.{AllByRecursion}
use Rattle.dbuf_state.specs.CellLog.{CellLog}
use Rattle.dbuf_state.specs.Dbufs.{IsFit, dbuf_oid}
use Rattle.dbuf_state.specs.Oids.{is_distinct}
use Rattle.dbuf_state.proofs.HandLemmas.{fit-keeps}
use Rattle.dbuf_cells.specs.Kept.{bytes_of, key_of}
use Rattle.dbuf_cells.specs.Turns.{PartyPlace}
use Rattle.dbuf_cells.specs.declared.kept.Kept.{Kept}
use Rattle.dbuf_cells.proofs.PartySteps.{among-held, gives-claims, has-given, may-give}
use Rattle.dbuf_cells.proofs.turn.give.Goals as goal

pub give_cell-requires-clause-party : goal.give_cell-requires-clause-party
give_cell-requires-clause-party c = c.requires.hand.party.party

pub give_cell-requires-clause-look : goal.give_cell-requires-clause-look
give_cell-requires-clause-look c = c.requires.hand.party.look

pub give_cell-requires-clause-range : goal.give_cell-requires-clause-range
give_cell-requires-clause-range c = c.requires.hand.party.cell

pub give_cell-requires-clause-held : goal.give_cell-requires-clause-held
give_cell-requires-clause-held c = let m = c.requires in among-held c.args.arcs.now c.args.i m.from m.before m.es c.args.party.now c.args.party.now m.hand.party

pub give_cell-requires-clause-cell : goal.give_cell-requires-clause-cell
give_cell-requires-clause-cell c =
    let m = c.requires in
    may-give c.args.arcs.now c.args.i m.from m.before m.evicting m.news m.es c.args.cell c.args.party.now m.hand m.settled (fit-keeps key_of bytes_of (λ h. true) c.args.cell.value.dbufs (subst (λ (x : CellLog Kept). AllByRecursion (IsFit key_of bytes_of) x.dbufs) c.deref.ensures c.told.ensures.fit))

pub returns-clause-gives : goal.returns-clause-gives
returns-clause-gives c p before evicting news es settled h =
    has-given c.args.arcs.now c.args.i p before evicting news es c.args.cell c.args.party.now h settled (fit-keeps key_of bytes_of (λ h. true) c.args.cell.value.dbufs (subst (λ (x : CellLog Kept). AllByRecursion (IsFit key_of bytes_of) x.dbufs) c.deref.ensures c.told.ensures.fit)) c.give_cell.new.party c.give_cell.ensures

pub returns-clause-claims : goal.returns-clause-claims
returns-clause-claims c =
    let m = c.requires in
    gives-claims c.args.arcs.now c.args.i m.from m.before m.evicting m.news m.es c.args.cell c.args.party.now m.hand m.settled (fit-keeps key_of bytes_of (λ h. true) c.args.cell.value.dbufs (subst (λ (x : CellLog Kept). AllByRecursion (IsFit key_of bytes_of) x.dbufs) c.deref.ensures c.told.ensures.fit)) c.give_cell.new.party c.give_cell.ensures

pub returns-clause-owned : goal.returns-clause-owned
returns-clause-owned c = ap (λ (x : PartyPlace). x.own.ledger.holds) c.give_cell.ensures

pub returns-clause-once : goal.returns-clause-once
returns-clause-once c = subst (λ (x : CellLog Kept). IsTrue (is_distinct dbuf_oid x.dbufs)) c.deref.ensures c.told.ensures.once
