use Rattle.std.proofs.Common.{[], refl, sym, ap, ◌∙◌, subst}
use Rattle.std.specs.Prelude.{◌∷◌, map}
use Rattle.dbuf_state.specs.CellLog.{CellLog, noted}
use Rattle.dbuf_state.specs.Dbufs.{cleared}
use Rattle.dbuf_state.specs.Numbers.{claims_in}
use Rattle.dbuf_state.specs.Objects.{Never}
use Rattle.dbuf_state.specs.declared.event.CellEvent.TheVariants.{End}
use Rattle.dbuf_cells.specs.InHand.{IsRoomier}
use Rattle.dbuf_cells.specs.declared.kept.Kept.{Kept}
use Rattle.dbuf_cells.proofs.Claims.{claims-through}
use Rattle.dbuf_cells.proofs.Endings.{begins-ending, ended-claims, ended-gives, ended-hand, ends-cell}
use Rattle.dbuf_cells.proofs.Operations.{as-taken-room}
use Rattle.dbuf_cells.proofs.PartySteps.{as-given, as-may-give}
use Rattle.dbuf_cells.proofs.ending.end_cell.Goals as goal

pub give-requires : goal.give-requires
give-requires g c =
    let k = c.take-cell in
    let log = subst (λ (x : CellLog Kept). IsRoomier x c.reserve.new.self) c.deref_mut.ensures.value c.reserve.ensures.log in
    as-may-give c.args.arcs.now c.args.i c.args.party.now k.result c.reserve.new.self k.new.party
    (as-taken-room c.args.arcs.now c.args.i c.args.party.now k.result k.result.value c.reserve.new.self k.new.party k.ensures.begins log)

pub returns-in-Err-clause-err : goal.returns-in-Err-clause-err
returns-in-Err-clause-err g c =
    let k = c.take-cell in
    let log = subst (λ (x : CellLog Kept). IsRoomier x c.reserve.new.self) c.deref_mut.ensures.value c.reserve.ensures.log in
    let t = as-taken-room c.args.arcs.now c.args.i c.args.party.now k.result k.result.value c.reserve.new.self k.new.party k.ensures.begins log in
    (k.result, (as-given c.args.arcs.now c.args.i c.args.party.now k.result c.reserve.new.self k.new.party t c.give.new.party c.give.ensures.gives).turn)

pub returns-in-Err-clause-party : goal.returns-in-Err-clause-party
returns-in-Err-clause-party g c =
    let k = c.take-cell in
    let log = subst (λ (x : CellLog Kept). IsRoomier x c.reserve.new.self) c.deref_mut.ensures.value c.reserve.ensures.log in
    let t = as-taken-room c.args.arcs.now c.args.i c.args.party.now k.result k.result.value c.reserve.new.self k.new.party k.ensures.begins log in
    (as-given c.args.arcs.now c.args.i c.args.party.now k.result c.reserve.new.self k.new.party t c.give.new.party c.give.ensures.gives).party

pub returns-in-Err-clause-free : goal.returns-in-Err-clause-free
returns-in-Err-clause-free g c =
    let k = c.take-cell in
    let log = subst (λ (x : CellLog Kept). IsRoomier x c.reserve.new.self) c.deref_mut.ensures.value c.reserve.ensures.log in
    let t = as-taken-room c.args.arcs.now c.args.i c.args.party.now k.result k.result.value c.reserve.new.self k.new.party k.ensures.begins log in
    (as-given c.args.arcs.now c.args.i c.args.party.now k.result c.reserve.new.self k.new.party t c.give.new.party c.give.ensures.gives).held ∙ c.requires.free

pub returns-in-Err-clause-claims : goal.returns-in-Err-clause-claims
returns-in-Err-clause-claims g c =
    let k = c.take-cell in
    let log = subst (λ (x : CellLog Kept). IsRoomier x c.reserve.new.self) c.deref_mut.ensures.value c.reserve.ensures.log in
    let t = as-taken-room c.args.arcs.now c.args.i c.args.party.now k.result k.result.value c.reserve.new.self k.new.party k.ensures.begins log in
    let given = as-given c.args.arcs.now c.args.i c.args.party.now k.result c.reserve.new.self k.new.party t c.give.new.party c.give.ensures.gives in
    claims-through c.args.i k.new.party.number c.give.new.party.number k.result.value.dbufs c.reserve.new.self.dbufs c.args.party.now c.give.new.party k.ensures.claims c.give.ensures.claims
    (given.number ∙ sym k.ensures.begins.hand.party.number) (λ n. ap (λ (x : CellLog Kept). claims_in n x.dbufs) log) given.others

pub drop_kept-requires : goal.drop_kept-requires
drop_kept-requires g c =
    let k = c.take-cell in
    let log = subst (λ (x : CellLog Kept). IsRoomier x c.reserve.new.self) c.deref_mut.ensures.value c.reserve.ensures.log in
    record {
      hand = (
        c.args.party.now,
        k.result,
        begins-ending c.args.arcs.now c.args.i c.args.party.now k.result c.deref_mut-2.result.now k.new.party k.ensures.begins
            (subst (λ (x : CellLog Kept). IsRoomier k.result.value x) (sym c.deref_mut-2.ensures.value) log),
      );
    }

pub give-requires-2 : goal.give-requires-2
give-requires-2 g c =
    let k = c.take-cell in
    let log = subst (λ (x : CellLog Kept). IsRoomier x c.reserve.new.self) c.deref_mut.ensures.value c.reserve.ensures.log in
    let b = begins-ending c.args.arcs.now c.args.i c.args.party.now k.result c.deref_mut-2.result.now k.new.party k.ensures.begins (subst (λ (x : CellLog Kept). IsRoomier k.result.value x) (sym c.deref_mut-2.ensures.value) log) in
    let e = c.drop_kept.ensures.empties c.args.party.now k.result b in
    let is = c.note.ensures ∙ ap (noted (End c.number-n.result)) (c.deref_mut-4.ensures.value ∙ (c.empty.ensures ∙ ap (λ (x : CellLog Kept). record x { dbufs = map cleared x.dbufs }) c.deref_mut-3.ensures.value)) in
    ended-gives c.args.arcs.now c.args.i c.args.party.now k.result c.drop_kept.new.cell c.note.new.self c.drop_kept.new.party e c.number-n.result (c.number-n.ensures ∙ (k.ensures.begins.hand.party.number ∙ sym e.party.number)) is c.drop_kept.ensures.loose

pub returns-clause-ok : goal.returns-clause-ok
returns-clause-ok g c =
    let k = c.take-cell in
    let log = subst (λ (x : CellLog Kept). IsRoomier x c.reserve.new.self) c.deref_mut.ensures.value c.reserve.ensures.log in
    let b = begins-ending c.args.arcs.now c.args.i c.args.party.now k.result c.deref_mut-2.result.now k.new.party k.ensures.begins (subst (λ (x : CellLog Kept). IsRoomier k.result.value x) (sym c.deref_mut-2.ensures.value) log) in
    let e = c.drop_kept.ensures.empties c.args.party.now k.result b in
    let is = c.note.ensures ∙ ap (noted (End c.number-n.result)) (c.deref_mut-4.ensures.value ∙ (c.empty.ensures ∙ ap (λ (x : CellLog Kept). record x { dbufs = map cleared x.dbufs }) c.deref_mut-3.ensures.value)) in
    let who = c.number-n.ensures ∙ (k.ensures.begins.hand.party.number ∙ sym e.party.number) in
    let given = c.give-2.ensures.gives c.args.party.now k.result Never (End c.drop_kept.new.party.number ∷ []) e.es refl
    (ended-hand c.args.arcs.now c.args.i c.args.party.now k.result c.drop_kept.new.cell c.note.new.self c.drop_kept.new.party e c.number-n.result who is c.drop_kept.ensures.loose) in
    ends-cell c.args.arcs.now c.args.i c.args.party.now k.result c.drop_kept.new.cell c.note.new.self c.drop_kept.new.party e c.number-n.result who is c.drop_kept.ensures.loose c.give-2.new.party given c.drop_kept.ensures.none

pub returns-clause-party : goal.returns-clause-party
returns-clause-party g c =
    let k = c.take-cell in
    let log = subst (λ (x : CellLog Kept). IsRoomier x c.reserve.new.self) c.deref_mut.ensures.value c.reserve.ensures.log in
    let b = begins-ending c.args.arcs.now c.args.i c.args.party.now k.result c.deref_mut-2.result.now k.new.party k.ensures.begins (subst (λ (x : CellLog Kept). IsRoomier k.result.value x) (sym c.deref_mut-2.ensures.value) log) in
    let e = c.drop_kept.ensures.empties c.args.party.now k.result b in
    let is = c.note.ensures ∙ ap (noted (End c.number-n.result)) (c.deref_mut-4.ensures.value ∙ (c.empty.ensures ∙ ap (λ (x : CellLog Kept). record x { dbufs = map cleared x.dbufs }) c.deref_mut-3.ensures.value)) in
    let who = c.number-n.ensures ∙ (k.ensures.begins.hand.party.number ∙ sym e.party.number) in
    (c.give-2.ensures.gives c.args.party.now k.result Never (End c.drop_kept.new.party.number ∷ []) e.es refl
    (ended-hand c.args.arcs.now c.args.i c.args.party.now k.result c.drop_kept.new.cell c.note.new.self c.drop_kept.new.party e c.number-n.result who is c.drop_kept.ensures.loose)).party

pub returns-clause-free : goal.returns-clause-free
returns-clause-free g c =
    let k = c.take-cell in
    let log = subst (λ (x : CellLog Kept). IsRoomier x c.reserve.new.self) c.deref_mut.ensures.value c.reserve.ensures.log in
    let b = begins-ending c.args.arcs.now c.args.i c.args.party.now k.result c.deref_mut-2.result.now k.new.party k.ensures.begins (subst (λ (x : CellLog Kept). IsRoomier k.result.value x) (sym c.deref_mut-2.ensures.value) log) in
    let e = c.drop_kept.ensures.empties c.args.party.now k.result b in
    let is = c.note.ensures ∙ ap (noted (End c.number-n.result)) (c.deref_mut-4.ensures.value ∙ (c.empty.ensures ∙ ap (λ (x : CellLog Kept). record x { dbufs = map cleared x.dbufs }) c.deref_mut-3.ensures.value)) in
    let who = c.number-n.ensures ∙ (k.ensures.begins.hand.party.number ∙ sym e.party.number) in
    (c.give-2.ensures.gives c.args.party.now k.result Never (End c.drop_kept.new.party.number ∷ []) e.es refl
    (ended-hand c.args.arcs.now c.args.i c.args.party.now k.result c.drop_kept.new.cell c.note.new.self c.drop_kept.new.party e c.number-n.result who is c.drop_kept.ensures.loose)).held ∙ c.requires.free

pub returns-clause-claims : goal.returns-clause-claims
returns-clause-claims g c =
    let k = c.take-cell in
    let log = subst (λ (x : CellLog Kept). IsRoomier x c.reserve.new.self) c.deref_mut.ensures.value c.reserve.ensures.log in
    let b = begins-ending c.args.arcs.now c.args.i c.args.party.now k.result c.deref_mut-2.result.now k.new.party k.ensures.begins (subst (λ (x : CellLog Kept). IsRoomier k.result.value x) (sym c.deref_mut-2.ensures.value) log) in
    let e = c.drop_kept.ensures.empties c.args.party.now k.result b in
    let is = c.note.ensures ∙ ap (noted (End c.number-n.result)) (c.deref_mut-4.ensures.value ∙ (c.empty.ensures ∙ ap (λ (x : CellLog Kept). record x { dbufs = map cleared x.dbufs }) c.deref_mut-3.ensures.value)) in
    let who = c.number-n.ensures ∙ (k.ensures.begins.hand.party.number ∙ sym e.party.number) in
    let given = c.give-2.ensures.gives c.args.party.now k.result Never (End c.drop_kept.new.party.number ∷ []) e.es refl
    (ended-hand c.args.arcs.now c.args.i c.args.party.now k.result c.drop_kept.new.cell c.note.new.self c.drop_kept.new.party e c.number-n.result who is c.drop_kept.ensures.loose) in
    claims-through c.args.i k.new.party.number c.give-2.new.party.number k.result.value.dbufs c.note.new.self.dbufs c.args.party.now c.give-2.new.party k.ensures.claims c.give-2.ensures.claims
    (given.number ∙ sym k.ensures.begins.hand.party.number)
    (ended-claims c.args.arcs.now c.args.i c.args.party.now k.result c.drop_kept.new.cell c.note.new.self c.drop_kept.new.party e c.number-n.result who is c.drop_kept.ensures.loose) given.others

pub returns-in-Err-clause-number : goal.returns-in-Err-clause-number
returns-in-Err-clause-number g c =
    let k = c.take-cell in
    let log = subst (λ (x : CellLog Kept). IsRoomier x c.reserve.new.self) c.deref_mut.ensures.value c.reserve.ensures.log in
    let t = as-taken-room c.args.arcs.now c.args.i c.args.party.now k.result k.result.value c.reserve.new.self k.new.party k.ensures.begins log in
    (as-given c.args.arcs.now c.args.i c.args.party.now k.result c.reserve.new.self k.new.party t c.give.new.party c.give.ensures.gives).number

pub returns-clause-number : goal.returns-clause-number
returns-clause-number g c =
    let k = c.take-cell in
    let log = subst (λ (x : CellLog Kept). IsRoomier x c.reserve.new.self) c.deref_mut.ensures.value c.reserve.ensures.log in
    let b = begins-ending c.args.arcs.now c.args.i c.args.party.now k.result c.deref_mut-2.result.now k.new.party k.ensures.begins (subst (λ (x : CellLog Kept). IsRoomier k.result.value x) (sym c.deref_mut-2.ensures.value) log) in
    let e = c.drop_kept.ensures.empties c.args.party.now k.result b in
    let is = c.note.ensures ∙ ap (noted (End c.number-n.result)) (c.deref_mut-4.ensures.value ∙ (c.empty.ensures ∙ ap (λ (x : CellLog Kept). record x { dbufs = map cleared x.dbufs }) c.deref_mut-3.ensures.value)) in
    let who = c.number-n.ensures ∙ (k.ensures.begins.hand.party.number ∙ sym e.party.number) in
    (c.give-2.ensures.gives c.args.party.now k.result Never (End c.drop_kept.new.party.number ∷ []) e.es refl
    (ended-hand c.args.arcs.now c.args.i c.args.party.now k.result c.drop_kept.new.cell c.note.new.self c.drop_kept.new.party e c.number-n.result who is c.drop_kept.ensures.loose)).number
