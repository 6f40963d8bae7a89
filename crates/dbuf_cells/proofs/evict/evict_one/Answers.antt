use Rattle.std.proofs.Common.{◌+◌, ◌∙◌, ap}
use Rattle.dbuf_state.specs.CellLog.{CellLog, noted}
use Rattle.dbuf_state.specs.declared.event.CellEvent.TheVariants.{Evict}
use Rattle.dbuf_state.proofs.HandLemmas.{evictable-is-cached}
use Rattle.dbuf_cells.specs.InHand.{kept_count}
use Rattle.dbuf_cells.specs.declared.kept.Kept.{Kept}
use Rattle.dbuf_cells.proofs.CellSteps.{evict-claims, kept-less}
use Rattle.dbuf_cells.proofs.Evictions.{evicts-one, kept-out}
use Rattle.dbuf_cells.proofs.evict.evict_one.Goals as goal

pub give_back-requires-clause-party : goal.give_back-requires-clause-party
give_back-requires-clause-party g c = c.requires.hand.hand.party.party

pub give_back-requires-clause-look : goal.give_back-requires-clause-look
give_back-requires-clause-look g c = c.requires.hand.hand.party.look

pub give_back-requires-clause-out : goal.give_back-requires-clause-out
give_back-requires-clause-out g c =
    let m = c.requires.hand in
    kept-out c.args.arcs.now c.args.i m.from m.before m.evicting m.news m.es c.args.cell.now c.args.party.now m.hand c.args.at c.evict-kept.result c.evict-kept.ensures.kept

pub returns-clause-evicts : goal.returns-clause-evicts
returns-clause-evicts g c =
    evicts-one c.args.arcs.now c.args.i c.args.cell.now c.note.new.self c.args.party.now c.give_back.new.party c.number-n.result c.args.at c.evict-kept.result c.number-n.ensures
    (c.note.ensures ∙ ap (λ (x : CellLog Kept). noted (Evict c.number-n.result c.args.at) x) c.evict-kept.ensures.dbufs)
    c.told.ensures.once c.requires.evictable c.evict-kept.ensures.kept c.evict-kept.ensures.of c.give_back.ensures

pub returns-clause-kept : goal.returns-clause-kept
returns-clause-kept g c =
    ap (λ (x : CellLog Kept). kept_count x.dbufs + 1) (c.note.ensures ∙ ap (λ (x : CellLog Kept). noted (Evict c.number-n.result c.args.at) x) c.evict-kept.ensures.dbufs)
    ∙ kept-less c.args.at c.args.cell.now.dbufs (evictable-is-cached c.args.cell.now.limit c.args.at c.args.cell.now.dbufs c.told.ensures.once c.requires.evictable)

pub returns-clause-claims : goal.returns-clause-claims
returns-clause-claims g c =
    evict-claims c.args.at c.args.cell.now c.note.new.self c.number-n.result
    (c.note.ensures ∙ ap (λ (x : CellLog Kept). noted (Evict c.number-n.result c.args.at) x) c.evict-kept.ensures.dbufs)
    (evictable-is-cached c.args.cell.now.limit c.args.at c.args.cell.now.dbufs c.told.ensures.once c.requires.evictable)
