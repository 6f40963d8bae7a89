-- The syncs of several callers' run, by the cells of the closed cache.
use Rattle.std.proofs.Common.{◌≡◌, ◌⊎◌, ℕ, ◌+◌, ◌<◌, List, [], ◌∷◌, ◌++◌, map, Option, Some, None, Err, refl, sym, ap, ◌∙◌, inl, inr, arith, append_assoc}
use Rattle.std.specs.Prelude.{slice_get}
use Rattle.std.proofs.lemmas.List.{map-append}
use Rattle.std.proofs.lemmas.Option.{slice_get_within}
use Rattle.arc_core.specs.declared.config.Config.{Config}
use Rattle.arc_table.specs.declared.view.Line.{Line as Seen}
use Rattle.arc_table.specs.declared.view.Line.TheVariants as line
use Rattle.arc_table.specs.Ended.{Ended}
use Rattle.arc_table.specs.Fronts.{StartsWith, front_of}
use Rattle.dbuf_cells.specs.Turns.{OnHeap, PartyPlace}
use Rattle.dbuf_state.specs.Numbers.{event_numbers, opening_numbers}
use Rattle.dbuf_state.specs.declared.event.CellEvent.{CellEvent}
use Rattle.txg_sync.specs.Items.{SyncItem}
use Rattle.txg_sync.specs.Syncing.{AnswersWith, RefusedAt, RefusedFirst}
use Rattle.txg_sync.specs.Turns.{synced_in}
use Rattle.txg_sync.specs.declared.syncing.SyncFault.{SyncFault}
use Rattle.txg_sync.specs.declared.syncing.SyncFault.TheVariants as fault
use Rattle.trace_text.specs.declared.op.Op.{Op}
use Rattle.trace_text.specs.declared.op.Op.TheVariants as ops
use Rattle.trace_text.specs.declared.reply.Reply.{Reply}
use Rattle.trace_text.specs.declared.trace.Trace.{Trace}
use Rattle.vdev_io.specs.declared.pool.Pool.{Ghosts}
use Rattle.trace_run.specs.dbufs.CellEnds.{AreCellsOf, IsCellOf}
use Rattle.trace_run.specs.Deeds.{Noted}
use Rattle.trace_run.specs.dbufs.Objects.{Line, Work}
use Rattle.trace_run.specs.callers.Groups.{StoodSo}
use Rattle.trace_run.specs.callers.Together.{BetweenGroups, EndsBy, EndsGroup, GroupLines, HadThen, OfCells, StoodThen, StopsSync, SyncsGroup, WorkInGroups, lines_with_end}
use Rattle.trace_run.specs.Openings.{opening_map, openings_of}
use Rattle.trace_run.specs.Syncing.{lines_of}
use Rattle.trace_run.proofs.CellLemmas.{opening-at, opening-same}
use Rattle.trace_run.proofs.deeds.ClosedDeeds.{entries-read}

-- ---- what is said of the cells at each sync may be said otherwise

module _ {P : Type 0} (pools : Ghosts P) (config : Config) (Said So : OfCells) (turned : (before : List Line) (tick : ℕ) (work : Work) (cells : List OnHeap) (xs : List SyncItem) → Said before tick work cells xs → So before tick work cells xs) where
  pub sync-as : (before : List Line) (t : ℕ) (reply : Reply) (work : Work) (from to : BetweenGroups P) → SyncsGroup pools config Said before t reply work from to → SyncsGroup pools config So before t reply work from to
  sync-as before t reply work from to s = record {
    done = s.done;
    answer = record {
      cells = s.answer.cells;
      dues = s.answer.dues;
      dirty = s.answer.dirty;
      sized = s.answer.sized;
      fits = s.answer.fits;
      held = s.answer.held;
      turns = turned before t work s.answer.cells _ s.answer.turns;
      told = s.answer.told;
      outside = s.answer.outside;
      others = s.answer.others;
      blocks = s.answer.blocks;
      bytes = s.answer.bytes;
      next_is = s.answer.next_is;
    };
    replied = s.replied;
    group = s.group;
    next = s.next;
  }

  pub ends-by-as : (before : List Line) (op : Op) (reply : Reply) (work : Work) (from to : BetweenGroups P) → EndsBy pools config Said before op reply work from to → EndsBy pools config So before op reply work from to
  ends-by-as before (ops.Txg t) reply work from to s = sync-as before t reply work from to s
  ends-by-as before (ops.Cap c) reply work from to is = is
  ends-by-as before ops.Feed reply work from to never = absurd never
  ends-by-as before (ops.Read n t x window) reply work from to never = absurd never
  ends-by-as before (ops.Hold n t x) reply work from to never = absurd never
  ends-by-as before (ops.Drop n x) reply work from to never = absurd never
  ends-by-as before (ops.Get n t at window) reply work from to never = absurd never
  ends-by-as before (ops.Put n t at size fill) reply work from to never = absurd never
  ends-by-as before (ops.Patch n t at start bytes) reply work from to never = absurd never
  ends-by-as before (ops.Pin n t at) reply work from to never = absurd never
  ends-by-as before (ops.Unpin n at) reply work from to never = absurd never

  ends-group-as : (before : List Line) (end : Option Line) (from to : BetweenGroups P) → EndsGroup pools config Said before end from to → EndsGroup pools config So before end from to
  ends-group-as before None from to is = is
  ends-group-as before (Some l) from to s = ends-by-as before l.op l.reply l.work from to s

  pub in-groups-as : (told : (k : ℕ) → Option (List ℕ)) (before : List Line) (gs : List GroupLines) (from to : BetweenGroups P) → WorkInGroups pools config Said told before gs from to → WorkInGroups pools config So told before gs from to
  in-groups-as told before [] from to is = is
  in-groups-as told before (g ∷ gs) from to w = (w.0, w.1, w.2, ends-group-as (before ++ g.lines) g.end _ w.1 w.3, w.4, in-groups-as told (lines_with_end (before ++ g.lines) g.end) gs w.1 to w.5)

  -- and at one that stopped
  stopped-as : (before : List Line) (t : ℕ) (work : Work) (group next : ℕ) (from after : P) (why : SyncFault) → AnswersWith pools group next from after config (λ cells xs Besides. Said before t work cells xs) (Err why)
      → AnswersWith pools group next from after config (λ cells xs Besides. So before t work cells xs) (Err why)
  stopped-as before t work group next from after fault.PoolFault f = record {
    stops = record {
      cells = f.stops.cells;
      done = f.stops.done;
      due = f.stops.due;
      rest = f.stops.rest;
      dirty = f.stops.dirty;
      fits = f.stops.fits;
      held = f.stops.held;
      turns = turned before t work f.stops.cells _ f.stops.turns;
      told = f.stops.told;
    };
    outside = f.outside;
    others = f.others;
  }
  stopped-as before t work group next from after (fault.PoolFull need left) f = record {
    cells = f.cells;
    dues = f.dues;
    dirty = f.dirty;
    need_is = f.need_is;
    left_is = f.left_is;
    full = f.full;
    turns = turned before t work f.cells [] f.turns;
    told = f.told;
    outside = f.outside;
    others = f.others;
  }
  stopped-as before t work group next from after fault.NoMemory f = record { outside = f.outside; stops = stops f.stops }
    where
      stops : RefusedFirst pools group next from after config (λ cells xs Besides. Said before t work cells xs) ⊎ RefusedAt pools group next from after config (λ cells xs Besides. Said before t work cells xs)
          → RefusedFirst pools group next from after config (λ cells xs Besides. So before t work cells xs) ⊎ RefusedAt pools group next from after config (λ cells xs Besides. So before t work cells xs)
      stops (inl first) = inl (record { cells = first.cells; turns = turned before t work first.cells [] first.turns; told = first.told })
      stops (inr (inl s)) = inr (inl (record { cells = s.cells; done = s.done; due = s.due; rest = s.rest; dirty = s.dirty; fits = s.fits; held = s.held; turns = turned before t work s.cells _ s.turns; told = s.told }))
      stops (inr (inr s)) = inr (inr (record { cells = s.cells; done = s.done; due = s.due; rest = s.rest; dirty = s.dirty; fits = s.fits; held = s.held; turns = turned before t work s.cells _ s.turns; told = s.told }))

  pub stops-sync-as : (trace : Trace) (replies : List Reply) (before : List Line) (work : Work) (why : SyncFault) (from : BetweenGroups P) (after : P) → StopsSync pools config Said trace replies before work why from after
      → StopsSync pools config So trace replies before work why from after
  stops-sync-as trace replies before work why from after s = record { behind = s.behind; answer = stopped-as before s.behind.tick work from.group from.next from.pool after why s.answer }

-- ---- the cells of the closed cache

pub lines-both : (a b : List CellEvent) → lines_of (a ++ b) ≡ lines_of a ++ lines_of b
lines-both a b = ap (map line.Entry) (map-append event_numbers a b) ∙ map-append line.Entry (map event_numbers a) (map event_numbers b)

-- what begins with entries' lines begins with the entries
lines-split : (h a : List CellEvent) (rest : List Seen) → lines_of h ≡ lines_of a ++ rest → (es : List CellEvent) × (h ≡ a ++ es)
lines-split h [] rest is = (h, refl)
lines-split [] (e ∷ es) rest is = cc
lines-split (x ∷ xs) (e ∷ es) rest is =
    let first : ◌≡◌ {A = Seen} (line.Entry (event_numbers x)) (line.Entry (event_numbers e)) = cc in
    let tail : lines_of xs ≡ lines_of es ++ rest = cc in
    let left = lines-split xs es rest tail in
    let same : x ≡ e = one (entries-read (x ∷ []) (e ∷ []) (ap (λ (l : Seen). l ∷ []) first)) in
    (left.0, λ i. same i ∷ left.1 i)
  where
    one : x ∷ [] ≡ e ∷ [] → x ≡ e
    one is = cc

-- where the feeder's party has seen no more of each than the closed cell has
pub stood-then : (trace : Trace) (noted : ℕ → List Noted) (closed : Ended OnHeap) → AreCellsOf trace noted closed → (p : PartyPlace)
    → ((i : ℕ) (c : OnHeap) → slice_get closed.cells i ≡ Some c → StartsWith (lines_of c.value.history) (front_of i p.own.seen))
    → (before : List Line) (tick : ℕ) (work : Work) (cells : List OnHeap) (xs : List SyncItem) → StoodSo (openings_of trace) trace.config p before tick work cells xs → StoodThen trace closed.cells before tick work cells xs
stood-then trace noted closed are p begins before tick work cells xs s = record { count = s.many ∙ sym are.count; each = one; noted = s.noted }
  where
    one : (i : ℕ) (cell end : OnHeap) → slice_get cells i ≡ Some cell → slice_get closed.cells i ≡ Some end → HadThen trace.config i before (synced_in trace.config.callers i xs) cell end
    one i cell end at ended =
        let e : IsCellOf trace noted i end = are.each i end ended in
        let inside : i < trace.config.cells = let w = slice_get_within closed.cells i end ended in let c = are.count in omega (arith, w, c) in
        let z : 0 + i ≡ i = omega arith in
        let both = opening-same cell.value.limit trace.config.dbuf_bytes cell.value.opening (opening_map trace i)
        (s.began i cell at ∙ (opening-at (λ k. opening_numbers trace.config.dbuf_bytes (opening_map trace k)) 0 trace.config.cells i inside ∙ ap (λ k. opening_numbers trace.config.dbuf_bytes (opening_map trace k)) z)) in
        let news : List CellEvent = synced_in trace.config.callers i xs in
        let seen = s.seen i cell at in
        let whole = begins i end ended in
        let split = lines-split end.value.history (cell.value.history ++ news) (seen.0 ++ whole.0)
        (whole.1 ∙ (ap (λ (l : List Seen). l ++ whole.0) seen.1
        ∙ (append_assoc (lines_of cell.value.history ++ lines_of news) seen.0 whole.0 ∙ ap (λ (l : List Seen). l ++ (seen.0 ++ whole.0)) (sym (lines-both cell.value.history news))))) in
        record {
          limit = both.0 ∙ sym e.limit;
          opening = both.1 ∙ sym e.opening;
          sound = s.sound i cell at;
          rest = split.0;
          whole = split.1 ∙ append_assoc cell.value.history news split.0;
          did = s.did i cell at;
          fed = s.fed i cell at;
        }
