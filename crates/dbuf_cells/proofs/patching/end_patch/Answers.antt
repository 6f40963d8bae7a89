use Rattle.std.proofs.Common.{subst}
use Rattle.dbuf_state.specs.CellLog.{CellLog}
use Rattle.dbuf_cells.specs.InHand.{IsRoomier}
use Rattle.dbuf_cells.specs.Patching.{IsPatched}
use Rattle.dbuf_cells.specs.declared.kept.Kept.{Kept}
use Rattle.dbuf_cells.proofs.Acts.{roomy-gives, roomy-may-give, claims-alike}
use Rattle.dbuf_cells.proofs.Patches.{patch-ends, patch-evicts, patch-out, patch-room, patch-claims}
use Rattle.dbuf_cells.proofs.Claims.{roomy-claims}
use Rattle.dbuf_cells.proofs.patching.end_patch.Goals as goal

pub give_up-requires-clause-out : goal.give_up-requires-clause-out
give_up-requires-clause-out g c =
    let n = c.number-n.result in
    patch-out c.args.arcs.now c.args.i n c.args.at c.args.from c.args.bytes.now c.in-Ok.kept c.args.cell.value c.write_part.new.cell c.args.party.now c.number-n.ensures c.requires.cached c.requires.inside
    (subst (λ (x : CellLog Kept). IsPatched n c.args.at c.args.from c.args.bytes.now c.in-Ok.kept x c.write_part.new.cell) c.deref_mut.ensures.value c.in-Ok.ensures.ok) c.requires.hand

pub finish-requires-clause-hand : goal.finish-requires-clause-hand
finish-requires-clause-hand g c =
    let n = c.number-n.result in
    patch-evicts c.args.arcs.now c.args.i n c.args.at c.args.from c.args.bytes.now c.in-Ok.kept c.args.cell.value c.write_part.new.cell c.args.party.now c.number-n.ensures c.requires.cached c.requires.inside
    (subst (λ (x : CellLog Kept). IsPatched n c.args.at c.args.from c.args.bytes.now c.in-Ok.kept x c.write_part.new.cell) c.deref_mut.ensures.value c.in-Ok.ensures.ok) c.requires.hand c.give_up.new.party c.give_up.ensures

pub finish-requires-clause-room : goal.finish-requires-clause-room
finish-requires-clause-room g c = patch-room c.number-n.result c.args.at c.args.from c.args.bytes.now c.in-Ok.kept c.deref_mut.result.now c.write_part.new.cell c.in-Ok.ensures.ok

pub give-requires : goal.give-requires
give-requires g c = roomy-may-give c.args.arcs.now c.args.i c.args.cell.value c.write_part.new.cell c.args.party.now (subst (λ (x : CellLog Kept). IsRoomier x c.write_part.new.cell) c.deref_mut.ensures.value c.in-Err.ensures.err) c.requires.hand

pub returns-in-Ok-clause-ok : goal.returns-in-Ok-clause-ok
returns-in-Ok-clause-ok g c =
    let n = c.number-n.result in
    patch-ends c.args.arcs.now c.args.i n c.args.at c.args.from c.args.bytes.now c.in-Ok.kept c.args.cell.value c.write_part.new.cell c.args.party.now c.number-n.ensures c.requires.cached c.requires.inside
    (subst (λ (x : CellLog Kept). IsPatched n c.args.at c.args.from c.args.bytes.now c.in-Ok.kept x c.write_part.new.cell) c.deref_mut.ensures.value c.in-Ok.ensures.ok) c.give_up.new.party c.finish.new.party c.give_up.ensures c.finish.ensures.finishes

pub returns-in-Err-clause-err : goal.returns-in-Err-clause-err
returns-in-Err-clause-err g c = roomy-gives c.args.arcs.now c.args.i c.args.cell.value c.write_part.new.cell c.args.party.now (subst (λ (x : CellLog Kept). IsRoomier x c.write_part.new.cell) c.deref_mut.ensures.value c.in-Err.ensures.err) c.give.new.party c.give.ensures.gives

pub returns-in-Ok-clause-claims : goal.returns-in-Ok-clause-claims
returns-in-Ok-clause-claims g c =
    let n = c.number-n.result in
    claims-alike c.args.i c.args.cell.value c.write_part.new.cell c.finish.new.party
    (patch-claims n c.args.at c.args.from c.args.bytes.now c.in-Ok.kept c.args.cell.value c.write_part.new.cell
    (subst (λ (x : CellLog Kept). IsPatched n c.args.at c.args.from c.args.bytes.now c.in-Ok.kept x c.write_part.new.cell) c.deref_mut.ensures.value c.in-Ok.ensures.ok)) c.finish.ensures.claims

pub returns-in-Err-clause-claims : goal.returns-in-Err-clause-claims
returns-in-Err-clause-claims g c =
    claims-alike c.args.i c.args.cell.value c.write_part.new.cell c.give.new.party
    (roomy-claims c.args.cell.value c.write_part.new.cell (subst (λ (x : CellLog Kept). IsRoomier x c.write_part.new.cell) c.deref_mut.ensures.value c.in-Err.ensures.err)) c.give.ensures.claims
