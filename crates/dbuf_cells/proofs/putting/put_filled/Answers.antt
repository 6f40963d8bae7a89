use Rattle.std.proofs.Common.{ℕ, [], sym, ap, ◌∙◌, subst, inr}
use Rattle.dbuf_state.specs.CellLog.{CellLog}
use Rattle.dbuf_state.specs.InHand.{are_at_rest}
use Rattle.dbuf_cells.specs.InHand.{IsAtRest, IsPut, IsRoomier}
use Rattle.dbuf_cells.specs.Putting.{Puts}
use Rattle.dbuf_cells.specs.Turns.{CellTurn, OnHeap, PartyPlace}
use Rattle.dbuf_cells.specs.declared.kept.Kept.{Kept}
use Rattle.dbuf_cells.proofs.PartySteps.{once-at-rest}
use Rattle.dbuf_cells.proofs.Puts.{put-answers, put-evicts, put-finished, put-out, put-room, put-claims}
use Rattle.dbuf_cells.proofs.Unholds.{room-given, room-gives}
use Rattle.dbuf_cells.proofs.Claims.{rest-claims, roomy-claims}
use Rattle.dbuf_cells.proofs.putting.put_filled.Goals as goal

pub write-requires-clause-rest : goal.write-requires-clause-rest
write-requires-clause-rest g c = ap (λ (x : CellLog Kept). are_at_rest x.dbufs) c.deref_mut.ensures.value ∙ c.take_at_rest-cell.ensures.begins.hand.cell.rest

pub write-requires-clause-settled : goal.write-requires-clause-settled
write-requires-clause-settled g c = subst (λ (x : CellLog Kept). IsAtRest c.args.at x.dbufs) (sym c.deref_mut.ensures.value) c.take_at_rest-cell.ensures.rests

pub give_up-requires-clause-party : goal.give_up-requires-clause-party
give_up-requires-clause-party g c = c.take_at_rest-cell.ensures.begins.hand.party.party

pub give_up-requires-clause-look : goal.give_up-requires-clause-look
give_up-requires-clause-look g c = c.take_at_rest-cell.ensures.begins.hand.party.look

pub give_up-requires-clause-out : goal.give_up-requires-clause-out
give_up-requires-clause-out g c =
    let k = c.take_at_rest-cell in
    let u = subst (λ (x : CellLog Kept). IsPut c.number-n.result c.args.at c.args.size c.args.fill c.in-Ok.kept x c.write.new.cell) c.deref_mut.ensures.value c.in-Ok.ensures.ok in
    put-out c.args.arcs.now c.cell_of-i.result c.args.at c.args.party.now k.result k.new.party k.ensures c.number-n.result c.args.size c.args.fill c.number-n.ensures c.in-Ok.kept c.write.new.cell u

pub finish-requires-clause-hand : goal.finish-requires-clause-hand
finish-requires-clause-hand g c =
    let k = c.take_at_rest-cell in
    let u = subst (λ (x : CellLog Kept). IsPut c.number-n.result c.args.at c.args.size c.args.fill c.in-Ok.kept x c.write.new.cell) c.deref_mut.ensures.value c.in-Ok.ensures.ok in
    put-evicts c.args.arcs.now c.cell_of-i.result c.args.at c.args.party.now k.result k.new.party k.ensures c.number-n.result c.args.size c.args.fill c.number-n.ensures c.in-Ok.kept c.write.new.cell u c.give_up.new.party c.give_up.ensures

pub finish-requires-clause-room : goal.finish-requires-clause-room
finish-requires-clause-room g c = put-room c.number-n.result c.args.at c.args.size c.args.fill c.in-Ok.kept c.deref_mut.result.now c.write.new.cell c.in-Ok.ensures.ok

pub give-requires : goal.give-requires
give-requires g c =
    let k = c.take_at_rest-cell in
    room-gives c.args.arcs.now c.cell_of-i.result c.args.at c.args.party.now k.result k.new.party k.ensures c.write.new.cell
    (subst (λ (x : CellLog Kept). IsRoomier x c.write.new.cell) c.deref_mut.ensures.value c.in-Err.ensures.err)

pub returns-in-Ok-clause-answer : goal.returns-in-Ok-clause-answer
returns-in-Ok-clause-answer g c =
    let k = c.take_at_rest-cell in
    let u = subst (λ (x : CellLog Kept). IsPut c.number-n.result c.args.at c.args.size c.args.fill c.in-Ok.kept x c.write.new.cell) c.deref_mut.ensures.value c.in-Ok.ensures.ok in
    once-at-rest c.args.arcs.now c.cell_of-i.result c.args.at c.args.party.now c.requires.party k.new.party c.finish.new.party k.result
    (λ (j : ℕ). Puts c.args.arcs.now.config j c.args.at c.args.size c.args.fill) c.cell_of-i.ensures.cell k.ensures
    (put-answers c.args.arcs.now c.cell_of-i.result c.args.at c.args.party.now k.result k.new.party k.ensures c.number-n.result c.args.size c.args.fill c.number-n.ensures c.in-Ok.kept c.write.new.cell u c.give_up.new.party c.give_up.ensures
    c.finish.new.party c.finish.ensures.finishes)

pub returns-in-Ok-clause-party : goal.returns-in-Ok-clause-party
returns-in-Ok-clause-party g c =
    let k = c.take_at_rest-cell in
    let u = subst (λ (x : CellLog Kept). IsPut c.number-n.result c.args.at c.args.size c.args.fill c.in-Ok.kept x c.write.new.cell) c.deref_mut.ensures.value c.in-Ok.ensures.ok in
    (put-finished c.args.arcs.now c.cell_of-i.result c.args.at c.args.party.now k.result k.new.party k.ensures c.number-n.result c.args.size c.args.fill c.number-n.ensures c.in-Ok.kept c.write.new.cell u c.give_up.new.party c.give_up.ensures
    c.finish.new.party c.finish.ensures.finishes).given.party

pub returns-in-Ok-clause-free : goal.returns-in-Ok-clause-free
returns-in-Ok-clause-free g c =
    let k = c.take_at_rest-cell in
    let u = subst (λ (x : CellLog Kept). IsPut c.number-n.result c.args.at c.args.size c.args.fill c.in-Ok.kept x c.write.new.cell) c.deref_mut.ensures.value c.in-Ok.ensures.ok in
    (put-finished c.args.arcs.now c.cell_of-i.result c.args.at c.args.party.now k.result k.new.party k.ensures c.number-n.result c.args.size c.args.fill c.number-n.ensures c.in-Ok.kept c.write.new.cell u c.give_up.new.party c.give_up.ensures
    c.finish.new.party c.finish.ensures.finishes).given.held ∙ (k.ensures.held ∙ c.requires.free)

pub returns-in-Err-clause-answer : goal.returns-in-Err-clause-answer
returns-in-Err-clause-answer g c =
    let k = c.take_at_rest-cell in
    let log = subst (λ (x : CellLog Kept). IsRoomier x c.write.new.cell) c.deref_mut.ensures.value c.in-Err.ensures.err in
    inr (once-at-rest c.args.arcs.now c.cell_of-i.result c.args.at c.args.party.now c.requires.party k.new.party c.give.new.party k.result
    (λ (j : ℕ) (b : OnHeap) (r s : PartyPlace). CellTurn c.args.arcs.now.config j b [] [] r s) c.cell_of-i.ensures.cell k.ensures
    (room-given c.args.arcs.now c.cell_of-i.result c.args.at c.args.party.now k.result k.new.party k.ensures c.write.new.cell c.give.new.party log c.give.ensures.gives).turn)

pub returns-in-Err-clause-party : goal.returns-in-Err-clause-party
returns-in-Err-clause-party g c =
    let k = c.take_at_rest-cell in
    let log = subst (λ (x : CellLog Kept). IsRoomier x c.write.new.cell) c.deref_mut.ensures.value c.in-Err.ensures.err in
    (room-given c.args.arcs.now c.cell_of-i.result c.args.at c.args.party.now k.result k.new.party k.ensures c.write.new.cell c.give.new.party log c.give.ensures.gives).party

pub returns-in-Err-clause-free : goal.returns-in-Err-clause-free
returns-in-Err-clause-free g c =
    let k = c.take_at_rest-cell in
    let log = subst (λ (x : CellLog Kept). IsRoomier x c.write.new.cell) c.deref_mut.ensures.value c.in-Err.ensures.err in
    (room-given c.args.arcs.now c.cell_of-i.result c.args.at c.args.party.now k.result k.new.party k.ensures c.write.new.cell c.give.new.party log c.give.ensures.gives).held ∙ (k.ensures.held ∙ c.requires.free)

pub returns-in-Ok-clause-claims : goal.returns-in-Ok-clause-claims
returns-in-Ok-clause-claims g c =
    let k = c.take_at_rest-cell in
    let u = subst (λ (x : CellLog Kept). IsPut c.number-n.result c.args.at c.args.size c.args.fill c.in-Ok.kept x c.write.new.cell) c.deref_mut.ensures.value c.in-Ok.ensures.ok in
    let given = (put-finished c.args.arcs.now c.cell_of-i.result c.args.at c.args.party.now k.result k.new.party k.ensures c.number-n.result c.args.size c.args.fill c.number-n.ensures c.in-Ok.kept c.write.new.cell u c.give_up.new.party c.give_up.ensures
    c.finish.new.party c.finish.ensures.finishes).given in
    rest-claims c.args.arcs.now c.cell_of-i.result c.args.at c.args.party.now k.result k.new.party k.ensures c.write.new.cell c.finish.new.party (put-claims c.number-n.result c.args.at c.args.size c.args.fill c.in-Ok.kept k.result.value c.write.new.cell u k.ensures.rests) c.finish.ensures.claims given.number given.others

pub returns-in-Err-clause-claims : goal.returns-in-Err-clause-claims
returns-in-Err-clause-claims g c =
    let k = c.take_at_rest-cell in
    let log = subst (λ (x : CellLog Kept). IsRoomier x c.write.new.cell) c.deref_mut.ensures.value c.in-Err.ensures.err in
    let given = room-given c.args.arcs.now c.cell_of-i.result c.args.at c.args.party.now k.result k.new.party k.ensures c.write.new.cell c.give.new.party log c.give.ensures.gives in
    rest-claims c.args.arcs.now c.cell_of-i.result c.args.at c.args.party.now k.result k.new.party k.ensures c.write.new.cell c.give.new.party (roomy-claims k.result.value c.write.new.cell log) c.give.ensures.claims given.number given.others

pub returns-in-Ok-clause-number : goal.returns-in-Ok-clause-number
returns-in-Ok-clause-number g c =
    let k = c.take_at_rest-cell in
    let u = subst (λ (x : CellLog Kept). IsPut c.number-n.result c.args.at c.args.size c.args.fill c.in-Ok.kept x c.write.new.cell) c.deref_mut.ensures.value c.in-Ok.ensures.ok in
    (put-finished c.args.arcs.now c.cell_of-i.result c.args.at c.args.party.now k.result k.new.party k.ensures c.number-n.result c.args.size c.args.fill c.number-n.ensures c.in-Ok.kept c.write.new.cell u c.give_up.new.party c.give_up.ensures
    c.finish.new.party c.finish.ensures.finishes).given.number ∙ k.ensures.number

pub returns-in-Err-clause-number : goal.returns-in-Err-clause-number
returns-in-Err-clause-number g c =
    let k = c.take_at_rest-cell in
    let log = subst (λ (x : CellLog Kept). IsRoomier x c.write.new.cell) c.deref_mut.ensures.value c.in-Err.ensures.err in
    (room-given c.args.arcs.now c.cell_of-i.result c.args.at c.args.party.now k.result k.new.party k.ensures c.write.new.cell c.give.new.party log c.give.ensures.gives).number ∙ k.ensures.number
