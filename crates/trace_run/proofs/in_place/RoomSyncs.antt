-- A sync's cells: what they need is at most the room for what the lines since the sync before it write.
use Rattle.std.proofs.Common.{◌≡◌, ◌≤◌, ◌<◌, ◌==◌, ℕ, zero, suc, true, List, [], ◌∷◌, ◌++◌, length, map, Some, IfSome, refl, sym, ap, ◌∙◌, subst, inl, inr, arith}
use Rattle.std.specs.Prelude.{slice_get}
use Rattle.std.specs.List.{AllByRecursion, list_any}
use Rattle.arc_lists.proofs.Tables.{cases_true}
use Rattle.blk_ptr.specs.declared.ptr.Ptr.{Ptr}
use Rattle.dbuf_state.specs.CellLog.{CellLog}
use Rattle.dbuf_state.specs.Soundness.{IsSound}
use Rattle.dbuf_state.specs.declared.event.CellEvent.{CellEvent}
use Rattle.dbuf_state.specs.declared.oid.Oid.{Oid}
use Rattle.dbuf_state.specs.declared.state.Mapping.{Mapping}
use Rattle.dbuf_cells.specs.Laws.{is_put_of}
use Rattle.dbuf_cells.specs.Places.{cell_of}
use Rattle.dbuf_cells.specs.Turns.{OnHeap}
use Rattle.dbuf_cells.specs.declared.kept.Kept.{Kept}
use Rattle.txg_sync.specs.Items.{SyncItem, dirty_bytes_at, need_of}
use Rattle.txg_sync.specs.Syncing.{AreAllDirty}
use Rattle.txg_sync.specs.Turns.{synced_in}
use Rattle.txg_sync.specs.declared.due.Due.{Due}
use Rattle.trace_text.specs.Grammar.{AreApart}
use Rattle.trace_text.specs.declared.op.Op.{Op}
use Rattle.trace_text.specs.declared.trace.Trace.{Trace}
use Rattle.vdev_io.specs.Calls.{Call, MakesCalls}
use Rattle.vdev_io.specs.declared.pool.Pool.{Ghosts}
use Rattle.trace_run.specs.InPlace.{blocks_written, greatest_put, greatest_size, is_put_to, opened_ptr, room_for, size_needed}
use Rattle.trace_run.specs.Openings.{opening_map}
use Rattle.trace_run.proofs.one_caller.TellLemmas.{all-append}
use Rattle.trace_run.proofs.in_place.DirtyBlocks.{IsCleanBehind}
use Rattle.trace_run.proofs.in_place.DirtyNeed.{IsRoomy, need-within}
use Rattle.trace_run.proofs.in_place.DirtySizes.{dirty-within, mapping_oid, since-within}
use Rattle.trace_run.proofs.in_place.RoomLists.{greatest-before, greatest-since, greatest-unput, opening-once, opening-within}
use Rattle.trace_run.proofs.in_place.RoomNotes.{IsSized, IsWriteOf, puts-within, sized-more, writes-sized, written-own}
use Rattle.trace_run.proofs.in_place.Sums.{AreDistinct}

-- reads leave a pool its length
pub calls-size : {P : Type 0} (pools : Ghosts P) (cs : List Call) (a b : P) → MakesCalls pools cs a b → pools.size b ≡ pools.size a
calls-size pools [] a b made = ap pools.size made
calls-size pools (c ∷ cs) a b made = calls-size pools cs made.0 b made.2 ∙ made.1.keeps.size

pub there-cell : (cs : List OnHeap) (i : ℕ) → i < length cs → (c : OnHeap) × (slice_get cs i ≡ Some c)
there-cell [] i less = absurd (omega (arith, less))
there-cell (c ∷ cs) zero less = (c, refl)
there-cell (c ∷ cs) (suc i) less = there-cell cs i (omega (arith, less))

-- what a sync notes is no write
pub synced-sized : (size : Oid → ℕ) (n i : ℕ) (xs : List SyncItem) → AllByRecursion (IsSized size) (synced_in n i xs)
synced-sized size n i [] = tt
synced-sized size n i (x ∷ xs) = elim (cases_true (x.due.cell == i)) [
  | inl here ↦ rw here (tt, synced-sized size n i xs)
  | inr other ↦ rw other (synced-sized size n i xs)
]

module _ (trace : Trace) (before os : List Op) where
  -- The cell i is sound and began as the trace says. Nothing was dirty behind a front of its history, where whole writes gave blocks at most what the lines before give them. What was written
  -- behind that these lines write, and each block of the cell that they write whole was so written.
  pub record IsReady (i : ℕ) (c : CellLog Kept) : Type 0 where
    pub sound : IsSound c
    pub opening : c.opening ≡ opening_map trace i
    pub synced : List CellEvent
    pub since : List CellEvent
    pub split : c.history ≡ synced ++ since
    pub clean : IsCleanBehind (opening_map trace i) synced
    pub sized : AllByRecursion (IsSized (greatest_size trace before)) synced
    pub writes : AllByRecursion (IsWriteOf trace os i) since
    pub puts : (at : Oid) → list_any (is_put_to at) os ≡ true → cell_of trace.config.cells at ≡ i → list_any (is_put_of at) since ≡ true

  pub ready-sized : (i : ℕ) (c : CellLog Kept) → IsReady i c → AllByRecursion (IsSized (greatest_size trace (before ++ os))) c.history
  ready-sized i c r =
      let size : Oid → ℕ = greatest_size trace (before ++ os) in
      subst (AllByRecursion (IsSized size)) (sym r.split) (all-append (IsSized size) r.synced r.since
      (sized-more (greatest_size trace before) size (greatest-before trace before os) r.synced r.sized)
      (sized-more (λ at. greatest_put at os) size (greatest-since trace before os) r.since (writes-sized trace os i r.since r.writes)))

  ready-within : (i : ℕ) (c : CellLog Kept) → IsReady i c → (at : Oid) → cell_of trace.config.cells at ≡ i → length (dirty_bytes_at at c.dbufs) ≤ size_needed trace before os at
  ready-within i c r at own = elim (cases_true (list_any (is_put_to at) os)) [
    | inl has ↦ rw has (since-within c r.sound at (greatest_put at os) r.synced r.since r.split (puts-within (λ b. greatest_put b os) at r.since (writes-sized trace os i r.since r.writes)) (r.puts at has own))
    | inr none ↦
        let size : Oid → ℕ = greatest_size trace (before ++ os) in
        let begins = subst (λ (ms : List Mapping). IfSome (opened_ptr at ms) (λ (ptr : Ptr). ptr.key.size ≤ size at)) (sym r.opening) (opening-within trace (before ++ os) i at) in
        let all : length (dirty_bytes_at at c.dbufs) ≤ greatest_size trace (before ++ os) at = dirty-within c r.sound at (size at) begins (puts-within size at c.history (ready-sized i c r)) in
        let no_more = greatest-unput trace before os at none in
        let most : length (dirty_bytes_at at c.dbufs) ≤ greatest_size trace before at = omega (arith, all, no_more) in
        rw none most
  ]

  module _ (apart : AreApart trace.objects) where
    ready-roomy : (i : ℕ) (c : CellLog Kept) → IsReady i c → IsRoomy trace.config.cells (size_needed trace before os) (blocks_written os) i c
    ready-roomy i c r = record {
      sound = r.sound;
      once = subst (λ (ms : List Mapping). AreDistinct (map mapping_oid ms)) (sym r.opening) (opening-once trace apart i);
      synced = r.synced;
      since = r.since;
      split = r.split;
      clean = subst (λ (ms : List Mapping). IsCleanBehind ms r.synced) (sym r.opening) r.clean;
      own = λ at has. written-own trace os i at r.since r.writes has;
      sized = ready-within i c r;
    }

    pub need-ready : (cells : List OnHeap) (dues : List Due) → AreAllDirty cells dues → ((i : ℕ) (c : OnHeap) → slice_get cells i ≡ Some c → IsReady i c.value) → need_of cells dues ≤ room_for trace before os
    need-ready cells dues dirty each = need-within trace.config.cells (size_needed trace before os) (blocks_written os) cells (λ i c there. ready-roomy i c.value (each i c there)) dues dirty
