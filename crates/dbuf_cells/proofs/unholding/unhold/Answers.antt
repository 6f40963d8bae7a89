use Rattle.std.proofs.Common.{ℕ, ◌∙◌, subst}
use Rattle.std.specs.Prelude.{[], ◌∷◌}
use Rattle.dbuf_state.specs.declared.event.CellEvent.TheVariants.{Unpin}
use Rattle.dbuf_state.specs.CellLog.{CellLog}
use Rattle.dbuf_cells.specs.InHand.{IsNotUnpinned, IsRoomier, IsUnpinned}
use Rattle.dbuf_cells.specs.Turns.{OnHeap, Operates, PartyPlace, held_in}
use Rattle.dbuf_cells.specs.Unholding.{NotUnholds}
use Rattle.dbuf_cells.specs.declared.kept.Kept.{Kept}
use Rattle.dbuf_cells.proofs.Claims.{rest-claims, roomy-claims}
use Rattle.dbuf_cells.proofs.PartySteps.{once-at-rest}
use Rattle.dbuf_cells.proofs.Unholds.{not-unpinned, room-given, room-gives, unpin-claims, unpin-evicts, unpin-finished, unpin-operates, unpin-room}
use Rattle.dbuf_cells.proofs.unholding.unhold.Goals as goal

pub finish-requires-clause-hand : goal.finish-requires-clause-hand
finish-requires-clause-hand g c =
    let k = c.take_at_rest-cell in
    unpin-evicts c.args.arcs.now c.cell_of-i.result c.args.at c.args.party.now k.result k.new.party k.ensures c.number-n.result c.number-n.ensures c.unpin.new.cell
    (subst (λ (x : CellLog Kept). IsUnpinned c.number-n.result c.args.at x c.unpin.new.cell) c.deref_mut.ensures.value c.in-Ok.ensures.ok)

pub finish-requires-clause-room : goal.finish-requires-clause-room
finish-requires-clause-room g c = unpin-room c.number-n.result c.args.at c.deref_mut.result.now c.unpin.new.cell c.in-Ok.ensures.ok

pub give-requires : goal.give-requires
give-requires g c =
    let k = c.take_at_rest-cell in
    room-gives c.args.arcs.now c.cell_of-i.result c.args.at c.args.party.now k.result k.new.party k.ensures c.unpin.new.cell
    (subst (λ (x : CellLog Kept). IsRoomier x c.unpin.new.cell) c.deref_mut.ensures.value c.in-Err.ensures.same)

pub returns-in-Ok-clause-answer : goal.returns-in-Ok-clause-answer
returns-in-Ok-clause-answer g c =
    let k = c.take_at_rest-cell in
    let is = subst (λ (x : CellLog Kept). IsUnpinned c.number-n.result c.args.at x c.unpin.new.cell) c.deref_mut.ensures.value c.in-Ok.ensures.ok in
    once-at-rest c.args.arcs.now c.cell_of-i.result c.args.at c.args.party.now c.requires.party k.new.party c.finish.new.party k.result
    (λ (j : ℕ) (b : OnHeap) (r s : PartyPlace). Operates c.args.arcs.now.config j b (held_in b) (Unpin r.number c.args.at ∷ []) [] r s) c.cell_of-i.ensures.cell k.ensures
    (unpin-operates c.args.arcs.now c.cell_of-i.result c.args.at c.args.party.now k.result k.new.party k.ensures c.number-n.result c.number-n.ensures c.unpin.new.cell c.finish.new.party is c.finish.ensures.finishes)

pub returns-in-Ok-clause-party : goal.returns-in-Ok-clause-party
returns-in-Ok-clause-party g c =
    let k = c.take_at_rest-cell in
    let is = subst (λ (x : CellLog Kept). IsUnpinned c.number-n.result c.args.at x c.unpin.new.cell) c.deref_mut.ensures.value c.in-Ok.ensures.ok in
    (unpin-finished c.args.arcs.now c.cell_of-i.result c.args.at c.args.party.now k.result k.new.party k.ensures c.number-n.result c.number-n.ensures c.unpin.new.cell c.finish.new.party is c.finish.ensures.finishes).given.party

pub returns-in-Ok-clause-free : goal.returns-in-Ok-clause-free
returns-in-Ok-clause-free g c =
    let k = c.take_at_rest-cell in
    let is = subst (λ (x : CellLog Kept). IsUnpinned c.number-n.result c.args.at x c.unpin.new.cell) c.deref_mut.ensures.value c.in-Ok.ensures.ok in
    (unpin-finished c.args.arcs.now c.cell_of-i.result c.args.at c.args.party.now k.result k.new.party k.ensures c.number-n.result c.number-n.ensures c.unpin.new.cell c.finish.new.party is c.finish.ensures.finishes).given.held
    ∙ (k.ensures.held ∙ c.requires.free)

pub returns-in-Err-clause-answer : goal.returns-in-Err-clause-answer
returns-in-Err-clause-answer g c =
    let k = c.take_at_rest-cell in
    let log = subst (λ (x : CellLog Kept). IsRoomier x c.unpin.new.cell) c.deref_mut.ensures.value c.in-Err.ensures.same in
    let told = subst (λ (x : CellLog Kept). IsNotUnpinned c.number-n.result c.args.at x c.in-Err.fault) c.deref_mut.ensures.value c.in-Err.ensures.err in
    let given = room-given c.args.arcs.now c.cell_of-i.result c.args.at c.args.party.now k.result k.new.party k.ensures c.unpin.new.cell c.give.new.party log c.give.ensures.gives in
    once-at-rest c.args.arcs.now c.cell_of-i.result c.args.at c.args.party.now c.requires.party k.new.party c.give.new.party k.result
    (λ (j : ℕ) (b : OnHeap) (r s : PartyPlace). NotUnholds c.args.arcs.now.config j c.args.at b r s c.in-Err.fault) c.cell_of-i.ensures.cell k.ensures
    (not-unpinned c.args.arcs.now c.cell_of-i.result c.args.at c.args.party.now k.result k.new.party k.ensures c.number-n.result c.number-n.ensures c.in-Err.fault c.give.new.party told given)

pub returns-in-Err-clause-party : goal.returns-in-Err-clause-party
returns-in-Err-clause-party g c =
    let k = c.take_at_rest-cell in
    let log = subst (λ (x : CellLog Kept). IsRoomier x c.unpin.new.cell) c.deref_mut.ensures.value c.in-Err.ensures.same in
    (room-given c.args.arcs.now c.cell_of-i.result c.args.at c.args.party.now k.result k.new.party k.ensures c.unpin.new.cell c.give.new.party log c.give.ensures.gives).party

pub returns-in-Err-clause-free : goal.returns-in-Err-clause-free
returns-in-Err-clause-free g c =
    let k = c.take_at_rest-cell in
    let log = subst (λ (x : CellLog Kept). IsRoomier x c.unpin.new.cell) c.deref_mut.ensures.value c.in-Err.ensures.same in
    (room-given c.args.arcs.now c.cell_of-i.result c.args.at c.args.party.now k.result k.new.party k.ensures c.unpin.new.cell c.give.new.party log c.give.ensures.gives).held ∙ (k.ensures.held ∙ c.requires.free)

pub returns-in-Ok-clause-claims : goal.returns-in-Ok-clause-claims
returns-in-Ok-clause-claims g c =
    let k = c.take_at_rest-cell in
    let is = subst (λ (x : CellLog Kept). IsUnpinned c.number-n.result c.args.at x c.unpin.new.cell) c.deref_mut.ensures.value c.in-Ok.ensures.ok in
    let given = (unpin-finished c.args.arcs.now c.cell_of-i.result c.args.at c.args.party.now k.result k.new.party k.ensures c.number-n.result c.number-n.ensures c.unpin.new.cell c.finish.new.party is c.finish.ensures.finishes).given in
    rest-claims c.args.arcs.now c.cell_of-i.result c.args.at c.args.party.now k.result k.new.party k.ensures c.unpin.new.cell c.finish.new.party (unpin-claims c.number-n.result c.args.at k.result.value c.unpin.new.cell is) c.finish.ensures.claims given.number given.others

pub returns-in-Err-clause-claims : goal.returns-in-Err-clause-claims
returns-in-Err-clause-claims g c =
    let k = c.take_at_rest-cell in
    let log = subst (λ (x : CellLog Kept). IsRoomier x c.unpin.new.cell) c.deref_mut.ensures.value c.in-Err.ensures.same in
    let given = room-given c.args.arcs.now c.cell_of-i.result c.args.at c.args.party.now k.result k.new.party k.ensures c.unpin.new.cell c.give.new.party log c.give.ensures.gives in
    rest-claims c.args.arcs.now c.cell_of-i.result c.args.at c.args.party.now k.result k.new.party k.ensures c.unpin.new.cell c.give.new.party (roomy-claims k.result.value c.unpin.new.cell log) c.give.ensures.claims given.number given.others

pub returns-in-Ok-clause-number : goal.returns-in-Ok-clause-number
returns-in-Ok-clause-number g c =
    let k = c.take_at_rest-cell in
    let is = subst (λ (x : CellLog Kept). IsUnpinned c.number-n.result c.args.at x c.unpin.new.cell) c.deref_mut.ensures.value c.in-Ok.ensures.ok in
    (unpin-finished c.args.arcs.now c.cell_of-i.result c.args.at c.args.party.now k.result k.new.party k.ensures c.number-n.result c.number-n.ensures c.unpin.new.cell c.finish.new.party is c.finish.ensures.finishes).given.number
    ∙ k.ensures.number

pub returns-in-Err-clause-number : goal.returns-in-Err-clause-number
returns-in-Err-clause-number g c =
    let k = c.take_at_rest-cell in
    let log = subst (λ (x : CellLog Kept). IsRoomier x c.unpin.new.cell) c.deref_mut.ensures.value c.in-Err.ensures.same in
    (room-given c.args.arcs.now c.cell_of-i.result c.args.at c.args.party.now k.result k.new.party k.ensures c.unpin.new.cell c.give.new.party log c.give.ensures.gives).number ∙ k.ensures.number
