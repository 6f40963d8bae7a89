-- How the cells of a run end: the feeder ends them, while all other parties have joined it. And what they come to.
use Rattle.std.specs.Prelude.{◌≡◌, ℕ, Bool, zero, suc, ◌<◌, ◌≤◌, ◌==◌, List, [], ◌∷◌, ◌++◌, Some, filter, length, map, slice_get, slice_index_or}
use Rattle.std.specs.List.{AllByRecursion}
use Rattle.blk_ptr.specs.declared.key.Key.{Key}
use Rattle.arc_core.specs.declared.config.Config.{Config}
use Rattle.arc_core.specs.declared.event.Event.{Event}
use Rattle.arc_core.specs.declared.event.Event.TheVariants.{Drop}
use Rattle.arc_core.specs.Operations.{Act, moments, number_of as number_of_event, own_moments}
use Rattle.turn_table.specs.Places.{Place, kept as as_kept}
use Rattle.arc_table.specs.declared.view.Known.{Known}
use Rattle.arc_table.specs.declared.view.Line.{Line}
use Rattle.arc_table.specs.declared.view.Line.TheVariants as line
use Rattle.arc_table.specs.Cache.{Cache}
use Rattle.arc_table.specs.Ended.{Ended}
use Rattle.arc_table.specs.Fronts.{StartsWith, front_of}
use Rattle.arc_table.specs.Geometry.{IsCell, cell_number, parties_of}
use Rattle.arc_table.specs.Seen.{AreEntriesSeen, AreSeen, HasAll, events_in, seen_of}
use Rattle.arc_table.specs.Telling.{opening_of}
use Rattle.dbuf_cells.specs.Ending.{AreAllCached, DropsEach}
use Rattle.dbuf_cells.specs.Turns.{OnHeap, PartyPlace}
use Rattle.dbuf_state.specs.History.{IsHistory}
use Rattle.dbuf_state.specs.Numbers.{event_numbers, number_of, opening_numbers}
use Rattle.dbuf_state.specs.Objects.{PlainCell}
use Rattle.dbuf_state.specs.Outline.{Outline, OutlineDbuf, outline_after}
use Rattle.dbuf_state.specs.declared.event.CellEvent.{CellEvent}
use Rattle.dbuf_state.specs.declared.event.CellEvent.TheVariants.{End}
use Rattle.dbuf_state.specs.declared.oid.Oid.{Oid}
use Rattle.trace_text.specs.declared.trace.Trace.{Trace}
use Rattle.trace_run.specs.Deeds.{HasToldOthers, Noted, acts_of_events, events_of_cell, events_there, KeepsCells}
use Rattle.trace_run.specs.KeptBlocks.{Stands}
use Rattle.trace_run.specs.dbufs.Holders.{AreHolders}
use Rattle.trace_run.specs.Making.{AreEventsSeen, AreNoEntries}
use Rattle.trace_run.specs.Meeting.{HasSettled, HaveParted, IsLevel, SeesEntries}
use Rattle.trace_run.specs.Openings.{Knows, opening_map}

-- the entry that the number n makes of each cell at the end
abbrev pub end_entry : (n : ℕ) → ℕ → List Line
end_entry n i = line.Entry (event_numbers (End n)) ∷ []

-- n ends so many cells, from the cell i on: this is noted of them
abbrev pub noted_ends : (n i count : ℕ) → List Noted
noted_ends n i zero = []
noted_ends n i (suc count) = record { cell = i; event = End n } ∷ noted_ends n (suc i) count

-- a hold of a cell was dropped
pub record IsCellDrop (g : Config) (e : Event) : Type 0 where
  pub cell : ℕ
  pub key : Key
  pub is : e ≡ Drop (cell_number g cell) key
  pub in_range : IsCell g cell

-- ---- what cells kept at their ends

-- A cell of this outline was ended then: of all that its dbufs kept, each hold was dropped. Of the dbufs that had one this is so.
pub record DropsKept (g : Config) (i : ℕ) (o : Outline) (AreHeld : (Oid → Bool) → Type 0) (drops : List Event) : Type 0 where
  pub held : Oid → Bool
  pub are_held : AreHeld held
  pub kept : List OutlineDbuf
  pub all : AreAllCached o kept
  pub dropped : DropsEach (cell_number g i) held kept drops

-- The cell i was ended so by n, which has seen that as the last that was done to it.
pub record SeesEnd (g : Config) (openings : List (List ℕ)) (seen : List (List Line)) (n i : ℕ) (drops : List Event) : Type 0 where
  pub before : OnHeap
  pub opening : opening_numbers before.value.limit before.value.opening ≡ slice_index_or openings i []
  pub last : front_of i seen ≡ map line.Entry (map event_numbers before.value.history) ++ end_entry n i
  pub kept : DropsKept g i (outline_after before.value.limit before.value.opening before.value.history) (AreHolders before.value.history) drops

-- so many cells were, from this one on, one after the other
abbrev pub SeesEnds : Config → (openings : List (List ℕ)) → (seen : List (List Line)) → (n i count : ℕ) → List Event → Type 0
SeesEnds g openings seen n i zero es = es ≡ []
SeesEnds g openings seen n i (suc count) es = (drops : List Event) × (rest : List Event) × (es ≡ drops ++ rest) × SeesEnd g openings seen n i drops × SeesEnds g openings seen n (suc i) count rest

module _ {C : Type 0} where
  -- What it comes to where nobody had done anything to a cell: no event of a shard was made, and the party has seen just its ends.
  pub record EndedIdle (cache : Cache) (drops : List Event) (p q : Place (Known C)) : Type 0 where
    pub none : drops ≡ []
    pub ends : (i : ℕ) → IsCell cache.config i → front_of i q.own.seen ≡ end_entry p.number i
    pub events : AreSeen cache.config p.number p.own.mine p.own.seen → AreSeen cache.config q.number q.own.mine q.own.seen

-- While all others had joined it, the party ended each cell, and dropped with the cells' numbers what they kept; then they parted. All have seen
-- these drops, and nothing more of a shard: where they had seen the same, just that.
pub record EndedCells (cache : Cache) (p : PartyPlace) (olds : List PartyPlace) (q : PartyPlace) (news : List PartyPlace) : Type 0 where
  pub lines : ℕ → List Line
  pub parted : HaveParted cache lines olds news
  pub level : IsLevel cache.config lines q
  pub number : q.number ≡ p.number
  pub about : q.own.about ≡ p.own.about
  pub alone : q.joined ≡ []
  pub stands : Stands cache q []
  pub own : (shard : ℕ) → own_moments p.number (moments (opening_of cache.config) (seen_of cache.config shard q)) ≡ own_moments p.number (moments (opening_of cache.config) (seen_of cache.config shard p))
  -- what was dropped, with the numbers of cells; so it is told, with the ends
  pub drops : List Event
  pub numbers : AllByRecursion (λ e. parties_of cache.config ≤ number_of_event e) drops
  pub told : (did : List Act) (noted : List Noted) → HasToldOthers cache.config did noted p
      → HasToldOthers cache.config (did ++ acts_of_events drops) (noted ++ noted_ends p.number 0 cache.config.cells) q
  -- of each cell it has seen the end as the last, behind all that the others had seen there
  pub ends : (i : ℕ) → IsCell cache.config i → (before : List Line) × (front_of i q.own.seen ≡ before ++ end_entry p.number i) × AllByRecursion (λ o. StartsWith before (front_of i o.own.seen)) olds
  pub entries : AllByRecursion (λ o. AreEntriesSeen cache.config o.number o.own.mine q.own.seen) olds
  pub keeps : KeepsCells cache.config p q
  pub same : (before : ℕ → List Line) → IsLevel cache.config before p → AllByRecursion (IsLevel cache.config before) olds
      → (shard : ℕ) → events_in (lines shard) ≡ events_in (before shard) ++ events_there cache.config shard drops
  pub same_cells : (entries : ℕ → List Line) → SeesEntries cache.config entries p → AllByRecursion (SeesEntries cache.config entries) olds → (i : ℕ) → IsCell cache.config i → front_of i q.own.seen ≡ entries i ++ end_entry p.number i
  -- where one other party has seen all that both made, it is what that one had seen
  pub one : (o : PartyPlace) → olds ≡ o ∷ [] → AreEventsSeen cache.config p.number p.own.mine o.own.seen
      → (shard : ℕ) → seen_of cache.config shard q ≡ seen_of cache.config shard o ++ events_there cache.config shard drops
  pub idle : AreNoEntries cache.config p.own.mine → AllByRecursion (λ o. AreNoEntries cache.config o.own.mine) olds → EndedIdle cache drops p q
  -- for each cell, all that it kept
  pub kept : SeesEnds cache.config p.own.about.openings q.own.seen p.number 0 cache.config.cells drops
  -- each is a drop with a cell's number
  pub are : AllByRecursion (IsCellDrop cache.config) drops
  -- the feeder has settled all that it picked, where it had before
  pub settled : p.number ≡ cache.config.callers → HasSettled p → HasSettled q

-- the same, where the feeder's is the last of the parties, before and behind
pub record EndedCrew (cache : Cache) (olds news : List PartyPlace) : Type 0 where
  pub callers : List PartyPlace
  pub feeder : PartyPlace
  pub are : olds ≡ callers ++ feeder ∷ []
  pub parted : List PartyPlace
  pub last : PartyPlace
  pub then : news ≡ parted ++ last ∷ []
  pub ended : EndedCells cache feeder callers last parted

-- The one caller's party, which the feeder's has joined, is as it was, but that it has seen the feeder's ends of all cells, and what was dropped
-- then. The feeder's knows that the cells began so.
pub record HasSeenEnds (cache : Cache) (openings : List (List ℕ)) (p q : PartyPlace) : Type 0 where
  pub number : q.number ≡ p.number
  pub parties : q.parties ≡ p.parties
  pub stands : Stands cache q []
  pub drops : List Event
  pub seen : (shard : ℕ) → seen_of cache.config shard q ≡ seen_of cache.config shard p ++ events_there cache.config shard drops
  pub all : HasAll q
  pub feeder : PartyPlace
  pub last : feeder.number ≡ cache.config.callers
  pub joined : q.joined ≡ as_kept feeder.number feeder.own 0 ∷ []
  pub knows : Knows openings feeder
  pub feeder_stands : Stands cache feeder []
  -- for each cell, all that it kept
  pub kept : SeesEnds cache.config openings feeder.own.seen cache.config.callers 0 cache.config.cells drops
  -- where the caller had done nothing to a cell
  pub idle : AreNoEntries cache.config p.own.mine → (drops ≡ []) × AreNoEntries cache.config q.own.mine
      × ((i : ℕ) → IsCell cache.config i → front_of i feeder.own.seen ≡ end_entry cache.config.callers i)

-- ---- the cells of a closed cache

-- of what was done to a cell, what this number did
abbrev pub done_by : ℕ → List CellEvent → List CellEvent
done_by n = filter (λ e. number_of e == n)

-- A cell of a run, where this is noted of each party: it began with what the trace's lines say of its Oids, and with the configuration's bytes of clean dbufs.
-- Its history is legal from there, and the feeder's End is the last that was done to it. Each party did to it what is noted of the party, in that order, and nobody
-- else did anything to it.
pub record IsCellOf (trace : Trace) (noted : ℕ → List Noted) (i : ℕ) (cell : OnHeap) : Type 0 where
  pub limit : cell.value.limit ≡ trace.config.dbuf_bytes
  pub opening : cell.value.opening ≡ opening_map trace i
  pub bases : List (List ℕ)
  pub end : PlainCell
  pub legal : IsHistory cell.value.limit cell.value.opening cell.value.history bases end
  pub front : List CellEvent
  pub history : cell.value.history ≡ front ++ End trace.config.callers ∷ []
  pub parties : AllByRecursion (λ e. number_of e < parties_of trace.config) cell.value.history
  pub did : (n : ℕ) → n < parties_of trace.config → done_by n cell.value.history ≡ events_of_cell i (noted n)

-- all cells of a closed cache are
pub record AreCellsOf (trace : Trace) (noted : ℕ → List Noted) (closed : Ended OnHeap) : Type 0 where
  pub count : length closed.cells ≡ trace.config.cells
  pub each : (i : ℕ) (cell : OnHeap) → slice_get closed.cells i ≡ Some cell → IsCellOf trace noted i cell

-- The cell was ended by the feeder, behind this front of its history, and of all that it kept each hold was dropped.
pub record EndedSo (g : Config) (i : ℕ) (cell : OnHeap) (drops : List Event) : Type 0 where
  pub front : List CellEvent
  pub history : cell.value.history ≡ front ++ End g.callers ∷ []
  pub kept : DropsKept g i (outline_after cell.value.limit cell.value.opening front) (AreHolders front) drops

-- What each of these cells still kept was given back as it was ended, by rising cells and Oids, from the cell i on; and nothing else was.
abbrev pub AreEndedSo : Config → (i : ℕ) → List OnHeap → List Event → Type 0
AreEndedSo g i [] es = es ≡ []
AreEndedSo g i (cell ∷ cells) es = (drops : List Event) × (rest : List Event) × (es ≡ drops ++ rest) × EndedSo g i cell drops × AreEndedSo g (suc i) cells rest
