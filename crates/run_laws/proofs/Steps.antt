-- What one line of two runs comes to: the same, and then what stands between two lines is alike again; or the runs part at it.
use Rattle.std.specs.Prelude.{◌≡◌, ◌⊎◌, ℕ, List, length}
use Rattle.blk_ptr.specs.declared.ptr.Ptr.{Ptr}
use Rattle.arc_table.specs.Geometry.{IsCell}
use Rattle.dbuf_state.specs.History.{Collide, Leads}
use Rattle.dbuf_state.specs.Objects.{PlainCell, opening_cell}
use Rattle.dbuf_state.specs.declared.event.CellEvent.{CellEvent}
use Rattle.vdev_io.specs.declared.device.CacheDev.{Ghosts as Devices}
use Rattle.vdev_io.specs.declared.pool.Pool.{Ghosts}
use Rattle.trace_text.specs.declared.trace.Trace.{Trace}
use Rattle.trace_run.specs.Feeds.{FeedDone}
use Rattle.trace_run.specs.Lines.{caller_of}
use Rattle.trace_run.specs.Openings.{opening_map}
use Rattle.trace_run.specs.dbufs.Objects.{Line}
use Rattle.trace_run.specs.one_caller.Sequence.{BetweenLines, DoesAnyLine}
use Rattle.run_laws.specs.Alike.{AreAlike, FeedsPickTwo, SeesBoth, ShowsBoth, TwoContents, WantsMemory, device_answers_to, pool_answers_to}

module _ {P D : Type 0} (pools : Ghosts P) (devices : Devices D) (trace : Trace) where
  -- Two runs part at this line, whose cells had come to this by then: two contents of one digest are shown; a cell has come to two states by one history; a feed picked two contents of one digest; or a feed wanted memory.
  pub data PartsAt (cells : ℕ → List CellEvent) (l m : Line) (here there : List FeedDone) : Type 0 where
    shows : (ptr : Ptr) → (two : TwoContents ptr) → ShowsBoth trace cells l.op ptr two.one two.other l.reply m.reply → PartsAt cells l m here there
    replays : (i : ℕ) → IsCell trace.config i → (xs ys : List (List ℕ)) → (a b : PlainCell) → Leads (opening_cell trace.config.dbuf_bytes (opening_map trace i)) (cells i) xs a
        → Leads (opening_cell trace.config.dbuf_bytes (opening_map trace i)) (cells i) ys b → Collide xs ys
        → SeesBoth trace i a b l.op l.reply m.reply l.work.noted m.work.noted → PartsAt cells l m here there
    picks : FeedsPickTwo here there → PartsAt cells l m here there
    memory : WantsMemory here ⊎ WantsMemory there → PartsAt cells l m here there

  -- Both came to the same: the reply and how pool and device answered are one, and what stands behind the line is alike.
  pub record StepAlike (l m : Line) (here there : List FeedDone) (from to other other_to : BetweenLines P D)
      (did : DoesAnyLine pools devices trace (caller_of l.op) l here from to) (other_did : DoesAnyLine pools devices trace (caller_of m.op) m there other other_to) : Type 0 where
    pub then : AreAlike pools devices trace to other_to
    pub reply : m.reply ≡ l.reply
    pub pool : pool_answers_to m ≡ pool_answers_to l
    pub device : device_answers_to pools devices trace (caller_of m.op) m there other other_to other_did ≡ device_answers_to pools devices trace (caller_of l.op) l here from to did
    pub many : length there ≡ length here
