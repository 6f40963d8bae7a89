-- What a call on dbufs comes to for its party.
use Rattle.std.specs.Prelude.{◌≡◌, ◌==◌, ℕ, if◌then◌else◌, List, [], ◌∷◌, ◌++◌, map}
use Rattle.blk_ptr.specs.declared.ptr.Ptr.{Ptr}
use Rattle.arc_core.specs.declared.config.Config.{Config}
use Rattle.arc_core.specs.declared.event.Event.{Event}
use Rattle.arc_core.specs.declared.event.Event.TheVariants.{Hand}
use Rattle.arc_core.specs.Operations.{Moment, moments, own_events, own_moments}
use Rattle.arc_table.specs.declared.view.Line.TheVariants as line
use Rattle.arc_table.specs.Booking.{without_hold}
use Rattle.arc_table.specs.Cells.{SeesAll}
use Rattle.arc_table.specs.Fronts.{StartsWith, front_of}
use Rattle.arc_table.specs.Geometry.{IsCell}
use Rattle.arc_table.specs.Seen.{HasAll, seen_of, turn_of}
use Rattle.arc_table.specs.Telling.{opening_of}
use Rattle.dbuf_cells.specs.Turns.{PartyPlace}
use Rattle.trace_run.specs.Deeds.{Noted, events_there, lines_of_cell, MakesLater}
use Rattle.trace_run.specs.MadeLines.{made_of}

-- what the number n holds behind one of these, and behind all
abbrev pub held_after : (n : ℕ) → Event → List Ptr → List Ptr
held_after n (Hand m k to) hs = if n == m then without_hold k hs else hs
held_after n other hs = hs

abbrev pub held_through : (n : ℕ) → List Event → List Ptr → List Ptr
held_through n [] hs = hs
held_through n (e ∷ es) hs = held_through n es (held_after n e hs)

-- The party did this to cells, and made these events of shards: so it is told by what it made. It has seen all that, and what others did before, and lists what it did.
pub record CellsDone (g : Config) (noted : List Noted) (es : List Event) (p q : PartyPlace) : Type 0 where
  pub parties : q.parties ≡ p.parties
  pub number : q.number ≡ p.number
  pub joined : q.joined ≡ p.joined
  pub about : q.own.about ≡ p.own.about
  pub holds : q.own.ledger.holds ≡ held_through p.number es p.own.ledger.holds
  pub readings : q.own.ledger.readings ≡ p.own.ledger.readings
  pub sees : SeesAll g q
  pub all : HasAll p → HasAll q
  pub alone : HasAll p → (shard : ℕ) → seen_of g shard q ≡ seen_of g shard p ++ events_there g shard es
  pub made : (shard : ℕ) → made_of (turn_of g shard) q ≡ made_of (turn_of g shard) p ++ map line.Event (events_there g shard es)
  pub own : (shard : ℕ) → (ms : List Moment) × (own_moments p.number (moments (opening_of g) (seen_of g shard q)) ≡ own_moments p.number (moments (opening_of g) (seen_of g shard p)) ++ ms)
      × (map (λ (x : Moment). x.event) ms ≡ own_events p.number (events_there g shard es))
  pub starts : (i : ℕ) → StartsWith (front_of (turn_of g i) q.own.seen) (front_of (turn_of g i) p.own.seen)
  pub older : MakesLater g p q
  pub entries : (i : ℕ) → IsCell g i → made_of i q ≡ made_of i p ++ lines_of_cell i noted
  pub cells : (i : ℕ) → IsCell g i → StartsWith (front_of i q.own.seen) (front_of i p.own.seen)
  pub cells_alone : HasAll p → (i : ℕ) → IsCell g i → front_of i q.own.seen ≡ front_of i p.own.seen ++ lines_of_cell i noted
