use Rattle.std.proofs.Common.{ℕ, ◌+◌, ◌≤◌, sym, ap, ◌∙◌, subst}
use Rattle.dbuf_state.specs.Answers.{IsAnswer}
use Rattle.dbuf_state.specs.CellLog.{CellLog}
use Rattle.dbuf_state.specs.Dbufs.{DbufHas, dbuf_at, dbuf_is, is_cached, size_of}
use Rattle.dbuf_state.specs.Objects.{Never}
use Rattle.dbuf_state.specs.Soundness.{plain_cell}
use Rattle.dbuf_state.specs.declared.event.CellEvent.TheVariants.{Get}
use Rattle.dbuf_cells.specs.InHand.{IsRoomier}
use Rattle.dbuf_cells.specs.Loading.{EndsWith, Notes}
use Rattle.dbuf_cells.specs.Patching.{IsSizedIn}
use Rattle.dbuf_cells.specs.declared.kept.Kept.{Kept}
use Rattle.dbuf_cells.proofs.Acts.{noted-ends, noted-evicts, noted-room, roomy-gives, roomy-may-give, claims-alike, noted-claims}
use Rattle.dbuf_cells.proofs.Claims.{roomy-claims}
use Rattle.dbuf_cells.proofs.getting.end_get.Goals as goal

pub see-requires-clause-cached : goal.see-requires-clause-cached
see-requires-clause-cached g c = ap (λ (x : CellLog Kept). dbuf_is (λ d. is_cached d.state) c.args.at x.dbufs) c.deref_mut.ensures.value ∙ c.requires.cached

pub see-requires-clause-inside : goal.see-requires-clause-inside
see-requires-clause-inside g c = subst (λ (x : CellLog Kept). DbufHas (λ d. c.args.w.at + c.args.w.len ≤ size_of d.content) (dbuf_at c.args.at x.dbufs)) (sym c.deref_mut.ensures.value) c.requires.inside

pub see-requires-clause-sized : goal.see-requires-clause-sized
see-requires-clause-sized g c = subst (λ (x : CellLog Kept). IsSizedIn c.args.at x.dbufs) (sym c.deref_mut.ensures.value) c.requires.sized

pub finish-requires-clause-hand : goal.finish-requires-clause-hand
finish-requires-clause-hand g c =
    let n = c.number-n.result in
    noted-evicts c.args.arcs.now c.args.i (Get n c.args.at) c.args.cell.value c.see.new.cell c.args.party.now n c.number-n.ensures
    (subst (λ (x : CellLog Kept). Notes n (Get n c.args.at) x c.see.new.cell) c.deref_mut.ensures.value c.in-Ok.ensures.ok) c.requires.hand

pub finish-requires-clause-room : goal.finish-requires-clause-room
finish-requires-clause-room g c = noted-room c.number-n.result (Get c.number-n.result c.args.at) c.deref_mut.result.now c.see.new.cell c.in-Ok.ensures.ok

pub give-requires : goal.give-requires
give-requires g c = roomy-may-give c.args.arcs.now c.args.i c.args.cell.value c.see.new.cell c.args.party.now (subst (λ (x : CellLog Kept). IsRoomier x c.see.new.cell) c.deref_mut.ensures.value c.in-Err.ensures.err) c.requires.hand

pub returns-in-Ok-clause-ok : goal.returns-in-Ok-clause-ok
returns-in-Ok-clause-ok g c =
    let n = c.number-n.result in
    subst (λ (m : ℕ). EndsWith c.args.arcs.now c.args.i (Get m c.args.at) c.args.cell.value c.args.party.now c.finish.new.party) c.number-n.ensures
    (noted-ends c.args.arcs.now c.args.i (Get n c.args.at) c.args.cell.value c.see.new.cell c.args.party.now n c.number-n.ensures
    (subst (λ (x : CellLog Kept). Notes n (Get n c.args.at) x c.see.new.cell) c.deref_mut.ensures.value c.in-Ok.ensures.ok) c.finish.new.party c.finish.ensures.finishes)

pub returns-in-Ok-clause-got : goal.returns-in-Ok-clause-got
returns-in-Ok-clause-got g c = subst (λ (x : CellLog Kept). IsAnswer (plain_cell Never x) c.args.at c.args.w c.in-Ok.got.0 c.in-Ok.got.1) c.deref_mut.ensures.value c.in-Ok.ensures.got

pub returns-in-Err-clause-err : goal.returns-in-Err-clause-err
returns-in-Err-clause-err g c = roomy-gives c.args.arcs.now c.args.i c.args.cell.value c.see.new.cell c.args.party.now (subst (λ (x : CellLog Kept). IsRoomier x c.see.new.cell) c.deref_mut.ensures.value c.in-Err.ensures.err) c.give.new.party c.give.ensures.gives

pub returns-in-Ok-clause-claims : goal.returns-in-Ok-clause-claims
returns-in-Ok-clause-claims g c =
    let n = c.number-n.result in
    claims-alike c.args.i c.args.cell.value c.see.new.cell c.finish.new.party
    (noted-claims n (Get n c.args.at) c.args.cell.value c.see.new.cell (subst (λ (x : CellLog Kept). Notes n (Get n c.args.at) x c.see.new.cell) c.deref_mut.ensures.value c.in-Ok.ensures.ok)) c.finish.ensures.claims

pub returns-in-Err-clause-claims : goal.returns-in-Err-clause-claims
returns-in-Err-clause-claims g c =
    claims-alike c.args.i c.args.cell.value c.see.new.cell c.give.new.party
    (roomy-claims c.args.cell.value c.see.new.cell (subst (λ (x : CellLog Kept). IsRoomier x c.see.new.cell) c.deref_mut.ensures.value c.in-Err.ensures.err)) c.give.ensures.claims
