use Rattle.std.proofs.Common.{ℕ, ◌-◌, ◌<◌, if◌then◌else◌, List, length, sym, ap, ◌∙◌, subst}
use Rattle.std.proofs.lemmas.List.{length-replicate}
use Rattle.blk_ptr.specs.Size.{IsBlockSize}
use Rattle.dbuf_state.specs.CellLog.{CellLog, fresh, noted}
use Rattle.dbuf_state.specs.Dbufs.{dbuf_oid, dirty_with}
use Rattle.dbuf_state.specs.InHand.{are_at_rest}
use Rattle.dbuf_state.specs.Oids.{has_item, with_item}
use Rattle.dbuf_state.specs.declared.dbuf.Content.TheVariants.{Dirty}
use Rattle.dbuf_state.specs.declared.event.CellEvent.TheVariants.{Put}
use Rattle.dbuf_state.specs.declared.state.DbState.TheVariants as state
use Rattle.dbuf_cells.specs.InHand.{IsAtRest}
use Rattle.dbuf_cells.specs.declared.kept.Kept.{Kept}
use Rattle.dbuf_cells.proofs.Puts.{out-dbuf-room, out-event-room}
use Rattle.dbuf_cells.proofs.putting.write.Goals as goal

pub take_out-kept-requires-clause-rest : goal.take_out-kept-requires-clause-rest
take_out-kept-requires-clause-rest c = ap (λ (x : CellLog Kept). are_at_rest x.dbufs) c.make_room.ensures.log ∙ c.requires.rest

pub take_out-kept-requires-clause-settled : goal.take_out-kept-requires-clause-settled
take_out-kept-requires-clause-settled c = subst (λ (x : CellLog Kept). IsAtRest c.args.at x.dbufs) (sym c.make_room.ensures.log) c.requires.settled

pub dirty_with-requires-clause-size : goal.dirty_with-requires-clause-size
dirty_with-requires-clause-size c = subst IsBlockSize (sym (ap length c.requires.filled ∙ length-replicate c.args.size c.args.fill)) c.requires.size

pub dirty_with-requires-clause-room : goal.dirty_with-requires-clause-room
dirty_with-requires-clause-room c absent = out-dbuf-room c.args.at c.take_out-kept.result c.make_room.new.cell c.take_out-kept.new.cell c.take_out-kept.ensures.out c.in_ok-make_room.ensures.dbufs

pub note-requires : goal.note-requires
note-requires c =
    subst (λ (x : CellLog Kept). 0 < x.event_room) (sym c.dirty_with.ensures)
    (out-event-room c.args.at c.take_out-kept.result c.make_room.new.cell c.take_out-kept.new.cell (length c.args.cell.now.dbufs) c.take_out-kept.ensures.out c.in_ok-make_room.ensures.events)

pub returns-clause-ok : goal.returns-clause-ok
returns-clause-ok c =
    let e = c.take_out-kept.new.cell in
    let spare : ℕ = if has_item dbuf_oid c.args.at e.dbufs then e.dbuf_room else e.dbuf_room - 1 in
    record {
      roomy = c.make_room.new.cell;
      made = c.make_room.ensures.log;
      room = c.in_ok-make_room.ensures.events;
      fit = c.told.ensures.fit;
      emptied = e;
      out = c.take_out-kept.ensures.out;
      spare = spare;
      noted_is = c.note.ensures ∙ ap (noted (Put c.args.n c.args.at c.args.size c.args.fill)) (c.dirty_with.ensures
          ∙ ap (λ (bs : List ℕ). record e { dbufs = with_item dbuf_oid c.args.at (dirty_with bs) (fresh c.args.at (Dirty bs) state.Cached) e.dbufs; dbuf_room = spare }) c.requires.filled);
    }
