use Rattle.std.proofs.Common.{◌≡◌, Bool, refl, sym, ap, ◌∙◌, subst}
use Rattle.std.specs.Bool.{OnFalse}
use Rattle.dbuf_state.specs.CellLog.{CellLog, noted}
use Rattle.dbuf_state.specs.Dbufs.{dbuf_is}
use Rattle.dbuf_state.specs.Pins.{has_pin}
use Rattle.dbuf_state.specs.declared.event.CellEvent.TheVariants.{Unpin}
use Rattle.dbuf_cells.specs.InHand.{IsRoomier}
use Rattle.dbuf_cells.specs.declared.kept.Kept.{Kept}
use Rattle.dbuf_cells.proofs.unholding.unpin.Goals as goal

pub returns-then-pinned-clause-ok : goal.returns-then-pinned-clause-ok
returns-then-pinned-clause-ok c = record {
  roomy = c.make_room.new.cell;
  made = c.make_room.ensures.log;
  room = c.in-Ok.ensures.events;
  pinned = ap (λ (x : CellLog Kept). dbuf_is (λ d. has_pin c.args.n d.pins) c.args.at x.dbufs) (sym c.make_room.ensures.log) ∙ (sym c.unpin-pinned.ensures.pinned ∙ c.if-pinned.true);
  noted_is = c.note.ensures ∙ ap (noted (Unpin c.args.n c.args.at)) c.unpin-pinned.ensures.dbufs;
}

pub returns-else-pinned-clause-err : goal.returns-else-pinned-clause-err
returns-else-pinned-clause-err c = (
  refl,
  ap (λ (x : CellLog Kept). dbuf_is (λ d. has_pin c.args.n d.pins) c.args.at x.dbufs) (sym c.make_room.ensures.log) ∙ (sym c.unpin-pinned.ensures.pinned ∙ c.if-pinned.false),
)

pub returns-else-pinned-clause-same : goal.returns-else-pinned-clause-same
returns-else-pinned-clause-same c =
    let same : c.unpin-pinned.new.self ≡ c.make_room.new.cell = subst (λ (b : Bool). OnFalse b (c.unpin-pinned.new.self ≡ c.make_room.new.cell)) c.if-pinned.false c.unpin-pinned.ensures.unpinned in
    subst (IsRoomier c.args.cell.now) (sym same) c.make_room.ensures.log
