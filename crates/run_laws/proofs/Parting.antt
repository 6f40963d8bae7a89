-- Where two runs part at a line, or at a sync at which both stopped, two contents of one digest are in hand, or a feed wanted memory: what was done to a cell by then is what the lines before that place did.
use Rattle.std.proofs.Common.{◌≡◌, ℕ, List, subst, sym, ◌∙◌}
use Rattle.std.specs.Prelude.{Some}
use Rattle.blk_ptr.specs.declared.ptr.Ptr.{Ptr}
use Rattle.arc_core.specs.Config.{IsConfig}
use Rattle.arc_table.specs.Geometry.{IsCell}
use Rattle.dbuf_cells.specs.Places.{cell_of}
use Rattle.dbuf_state.specs.History.{Collide, Leads}
use Rattle.dbuf_state.specs.Objects.{PlainCell, opening_cell}
use Rattle.dbuf_state.specs.Outline.{mapped_at, outline_after}
use Rattle.dbuf_state.specs.declared.event.CellEvent.{CellEvent}
use Rattle.dbuf_state.specs.declared.state.Mapped.TheVariants.{Clean}
use Rattle.vdev_io.specs.declared.device.CacheDev.{Ghosts as Devices}
use Rattle.vdev_io.specs.declared.pool.Pool.{Ghosts}
use Rattle.trace_text.specs.declared.op.Op.{Op}
use Rattle.trace_text.specs.declared.op.Op.TheVariants as ops
use Rattle.trace_text.specs.declared.reply.Reply.{Reply}
use Rattle.trace_text.specs.declared.trace.Trace.{Trace}
use Rattle.trace_run.specs.Openings.{opening_map}
use Rattle.trace_run.proofs.deeds.OperatesDone.{cell-there}
use Rattle.run_laws.specs.Alike.{MayPart, OneRun, SameUpTo, SeenAt, ShowsBoth, TwoContents, at_line, begun, feeds_of, front_at, memory as may_memory, picks as may_pick, replays as may_replay, shows as may_show}
use Rattle.run_laws.proofs.LinesAlike.{ComeThere, PartsSomewhere}
use Rattle.run_laws.proofs.Steps.{PartsAt, memory, picks, replays, shows}

-- two replies show what they do of cells to which the same was done
shows-front : (trace : Trace) (valid : IsConfig trace.config) (cells front : ℕ → List CellEvent) → ((i : ℕ) → IsCell trace.config i → cells i ≡ front i) → (op : Op) (ptr : Ptr) (bytes others : List ℕ) (reply other : Reply)
    → ShowsBoth trace cells op ptr bytes others reply other → ShowsBoth trace front op ptr bytes others reply other
shows-front trace valid cells front are (ops.Read n t x window) ptr bytes others reply other shown = shown
shows-front trace valid cells front are (ops.Get n t at window) ptr bytes others reply other shown =
    let i : ℕ = cell_of trace.config.cells at in (
      subst (λ (es : List CellEvent). mapped_at at (outline_after trace.config.dbuf_bytes (opening_map trace i) es) ≡ Some (Clean ptr)) (are i (cell-there trace.config valid at)) shown.0,
      shown.1,
      shown.2,
      shown.3,
    )
shows-front trace valid cells front are (ops.Hold n t x) ptr bytes others reply other shown = absurd shown
shows-front trace valid cells front are (ops.Drop n x) ptr bytes others reply other shown = absurd shown
shows-front trace valid cells front are (ops.Put n t at size fill) ptr bytes others reply other shown = absurd shown
shows-front trace valid cells front are (ops.Patch n t at start patched) ptr bytes others reply other shown = absurd shown
shows-front trace valid cells front are (ops.Pin n t at) ptr bytes others reply other shown = absurd shown
shows-front trace valid cells front are (ops.Unpin n at) ptr bytes others reply other shown = absurd shown
shows-front trace valid cells front are ops.Feed ptr bytes others reply other shown = absurd shown
shows-front trace valid cells front are (ops.Txg t) ptr bytes others reply other shown = absurd shown
shows-front trace valid cells front are (ops.Cap c) ptr bytes others reply other shown = absurd shown

module _ {P D : Type 0} (pools : Ghosts P) (devices : Devices D) (trace : Trace) where
  -- before the first line nothing was done to cells, so the lines before a place did all
  abbrev pub ThereOf : (one other : OneRun pools devices trace) (place : ℕ) (cells : ℕ → List CellEvent) → Type 0
  ThereOf one other place cells = ComeThere pools devices trace one.run.work.lines other.run.work.lines (begun pools devices trace one) (begun pools devices trace other) place cells

  pub same-there : (one other : OneRun pools devices trace) (place : ℕ) (cells : ℕ → List CellEvent) → ThereOf one other place cells → SameUpTo trace one.run.work.lines other.run.work.lines place
  same-there one other place cells there = record { replies = there.replies; cells = λ i is_cell. sym (there.other_did i is_cell) ∙ there.did i is_cell }

  module _ (one other : OneRun pools devices trace) where
    -- a cell that had come to this had come by one history to two states
    pub replays-part : (place : ℕ) (cells : ℕ → List CellEvent) → SameUpTo trace one.run.work.lines other.run.work.lines place → ((i : ℕ) → IsCell trace.config i → cells i ≡ front_at one.run.work.lines place i) → (i : ℕ) → IsCell trace.config i
        → (bases other_bases : List (List ℕ)) (state other_state : PlainCell)
        → Leads (opening_cell trace.config.dbuf_bytes (opening_map trace i)) (cells i) bases state → Leads (opening_cell trace.config.dbuf_bytes (opening_map trace i)) (cells i) other_bases other_state → Collide bases other_bases
        → SeenAt trace one.run.work.lines other.run.work.lines one.run.work.stopped other.run.work.stopped place i state other_state → MayPart pools devices trace one other
    replays-part place cells before did i is_cell bases other_bases state other_state leads other_leads collide seen =
        let Comes : List (List ℕ) → PlainCell → List CellEvent → Type 0 = λ bases state es. Leads (opening_cell trace.config.dbuf_bytes (opening_map trace i)) es bases state in
        may_replay (record {
          place = place;
          before = before;
          i = i;
          in_range = is_cell;
          bases = bases;
          other_bases = other_bases;
          state = state;
          other_state = other_state;
          leads = subst (Comes bases state) (did i is_cell) leads;
          other_leads = subst (Comes other_bases other_state) (did i is_cell) other_leads;
          collide = collide;
          seen = seen;
        })

    module _ (valid : IsConfig trace.config) (p : PartsSomewhere pools devices trace one.run.work.lines other.run.work.lines one.run.work.feeds other.run.work.feeds (begun pools devices trace one) one.in_turn.reached
        (begun pools devices trace other) other.in_turn.reached one.in_turn.lines other.in_turn.lines) where
      before : SameUpTo trace one.run.work.lines other.run.work.lines p.place
      before = same-there one other p.place p.cells p.there

      shows-part : (ptr : Ptr) (two : TwoContents ptr) → ShowsBoth trace p.cells p.line.op ptr two.one two.other p.line.reply p.other_line.reply → MayPart pools devices trace one other
      shows-part ptr two shown = may_show (record {
        place = p.place;
        before = before;
        line = p.line;
        other = p.other_line;
        at = p.at;
        other_at = p.other_at;
        same = p.same;
        ptr = ptr;
        contents = two;
        shown = shows-front trace valid p.cells (front_at one.run.work.lines p.place) p.there.did p.line.op ptr two.one two.other p.line.reply p.other_line.reply shown;
      })

      -- runs that part at a line may part
      pub parts-may : MayPart pools devices trace one other
      parts-may = go p.parts
        where
          go : PartsAt pools devices trace p.cells p.line p.other_line (feeds_of pools devices trace one p.place) (feeds_of pools devices trace other p.place) → MayPart pools devices trace one other
          go (shows ptr two shown) = shows-part ptr two shown
          go (replays i is_cell xs ys a b leads other_leads collide sees) =
              replays-part p.place p.cells before p.there.did i is_cell xs ys a b leads other_leads collide (at_line p.line p.other_line p.at p.other_at p.same sees)
          go (picks two) = may_pick (record { place = p.place; before = before; picks = two })
          go (memory wants) = may_memory (record { place = p.place; before = before; wants = wants })
