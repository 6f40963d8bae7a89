-- Facts of one run by itself, by which its lines on objects are functions: no eviction is left over between two lines, and a cached block has a valid key.
use Rattle.std.specs.Prelude.{◌≡◌, ℕ, Bool, true, false, not, IsTrue, List, [], ◌∷◌, Some}
use Rattle.blk_ptr.specs.Key.{IsValid}
use Rattle.blk_ptr.specs.declared.ptr.Ptr.{Ptr}
use Rattle.arc_table.specs.Geometry.{IsCell}
use Rattle.dbuf_state.specs.History.{Leads}
use Rattle.dbuf_state.specs.Objects.{PlainCell, is_due, opening_cell}
use Rattle.dbuf_state.specs.Outline.{is_cached_at, mapped_at}
use Rattle.dbuf_state.specs.declared.event.CellEvent.{CellEvent}
use Rattle.dbuf_state.specs.declared.event.CellEvent.TheVariants as events
use Rattle.dbuf_state.specs.declared.oid.Oid.{Oid}
use Rattle.dbuf_state.specs.declared.state.Mapped.TheVariants.{Clean}
use Rattle.dbuf_state.specs.declared.state.Mapping.{Mapping}
use Rattle.vdev_io.specs.declared.device.CacheDev.{Ghosts as Devices}
use Rattle.vdev_io.specs.declared.pool.Pool.{Ghosts}
use Rattle.trace_text.specs.declared.trace.Trace.{Trace}
use Rattle.trace_run.specs.Feeds.{FeedDone}
use Rattle.trace_run.specs.Openings.{opening_map}
use Rattle.trace_run.specs.dbufs.Objects.{Line}
use Rattle.trace_run.specs.one_caller.Sequence.{AreInSequence, BetweenLines, outline_behind}

-- ---- what stands between two lines

-- these events lead from the opening to a state in which nothing is due to be evicted
pub record IsSettled (limit : ℕ) (opening : List Mapping) (es : List CellEvent) : Type 0 where
  pub bases : List (List ℕ)
  pub state : PlainCell
  pub leads : Leads (opening_cell limit opening) es bases state
  pub rests : IsTrue (not (is_due state))

abbrev pub AreSettled : Trace → (cells : ℕ → List CellEvent) → Type 0
AreSettled trace cells = (i : ℕ) → IsCell trace.config i → IsSettled trace.config.dbuf_bytes (opening_map trace i) (cells i)

-- the key of each clean block that a cell keeps names one of a pool of this length
abbrev pub AreCachedValid : Trace → (pool_len : ℕ) → (cells : ℕ → List CellEvent) → Type 0
AreCachedValid trace pool_len cells = (i : ℕ) → IsCell trace.config i → (at : Oid) → (ptr : Ptr) → is_cached_at at (outline_behind trace cells i) ≡ true
    → mapped_at at (outline_behind trace cells i) ≡ Some (Clean ptr) → IsValid pool_len ptr.key

-- ---- evictions

abbrev pub is_eviction : CellEvent → Bool
is_eviction (events.Evict n at) = true
is_eviction (events.Get n at) = false
is_eviction (events.Put n at size fill) = false
is_eviction (events.Patch n at from bytes) = false
is_eviction (events.Pin n at) = false
is_eviction (events.Unpin n at) = false
is_eviction (events.Load n at keeps) = false
is_eviction (events.Synced n at ptr keeps) = false
is_eviction (events.End n) = false

module _ {P D : Type 0} (pools : Ghosts P) (devices : Devices D) (trace : Trace) where
  -- it holds of each line and of what it found and left
  abbrev pub OfEachLine : (Holds : Line → (from to : BetweenLines P D) → Type 0) → (ls : List Line) → (feeds : List FeedDone) → (from to : BetweenLines P D) → AreInSequence pools devices trace ls feeds from to → Type 0
  OfEachLine Holds [] feeds from to did = Unit {0}
  OfEachLine Holds (l ∷ ls) feeds from to did = Holds l from did.0 × OfEachLine Holds ls did.2 did.0 to did.5
