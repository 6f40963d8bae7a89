-- A cell in hand: what was done to it since it was taken, and what is so of the party that has it.
use Rattle.std.specs.Prelude.{◌≡◌, ◌≢◌, ℕ, ◌+◌, ◌≤◌, true, false, length, replicate, IfNone, IfSome, not, IsTrue, List, [], ◌∷◌, ◌++◌, Bool, Option, Some, None, count_by}
use Rattle.std.specs.List.{AllByRecursion}
use Rattle.arc_core.specs.Config.{IsConfig}
use Rattle.arc_core.specs.declared.config.Config.{Config}
use Rattle.arc_core.specs.declared.event.Event.{Event}
use Rattle.arc_core.specs.declared.event.Event.TheVariants.{Drop, Release}
use Rattle.turn_table.specs.Board.{IsAmong}
use Rattle.arc_table.specs.Both.{Does, Takes}
use Rattle.arc_table.specs.Cache.{Cache, IsPartyOf}
use Rattle.arc_table.specs.Fronts.{item_at, list_at}
use Rattle.arc_table.specs.Geometry.{IsCell, cell_number}
use Rattle.arc_table.specs.Giving.{AreHolds}
use Rattle.arc_table.specs.Holding.{IsOneOf, ptr_of}
use Rattle.arc_table.specs.Looking.{HasNoLook}
use Rattle.arc_table.specs.declared.item.Item.TheVariants as item
use Rattle.dbuf_state.specs.CellLog.{CellLog, fresh, noted}
use Rattle.dbuf_state.specs.Dbufs.{DbufHas, IsFit, IsOfContent, dbuf_at, dbuf_is, dbuf_oid, dirty_with, is_cached, is_clean_in, standing_of, unpinned_by, with_dbuf, without_kept}
use Rattle.dbuf_state.specs.Held.{TellsHolds}
use Rattle.dbuf_state.specs.History.{Leads}
use Rattle.dbuf_state.specs.InHand.{are_at_rest}
use Rattle.dbuf_state.specs.Numbers.{claims_in, mapping_numbers, number_of}
use Rattle.dbuf_state.specs.Objects.{Evicting, is_due, may_evict}
use Rattle.dbuf_state.specs.Oids.{with_item}
use Rattle.dbuf_state.specs.Outline.{after_all, outline_of}
use Rattle.dbuf_state.specs.Pins.{has_pin}
use Rattle.dbuf_state.specs.Soundness.{IsSound, plain_cell}
use Rattle.dbuf_state.specs.declared.dbuf.Content.TheVariants.{Dirty}
use Rattle.dbuf_state.specs.declared.dbuf.Dbuf.{Dbuf}
use Rattle.dbuf_state.specs.declared.event.CellEvent.TheVariants.{Put, Unpin}
use Rattle.dbuf_state.specs.declared.fault.DbufFault.{DbufFault}
use Rattle.dbuf_state.specs.declared.fault.DbufFault.TheVariants as fault
use Rattle.dbuf_state.specs.declared.event.CellEvent.{CellEvent}
use Rattle.dbuf_state.specs.declared.oid.Oid.{Oid}
use Rattle.dbuf_state.specs.declared.state.DbState.{DbState}
use Rattle.dbuf_state.specs.declared.state.DbState.TheVariants as state
use Rattle.dbuf_state.specs.declared.state.Mapped.{Mapped}
use Rattle.dbuf_state.specs.declared.state.Mapped.TheVariants as mapped
use Rattle.dbuf_cells.specs.Kept.{bytes_of, key_of, is_held}
pub use Rattle.dbuf_cells.specs.Turns.{IsAtRest}
use Rattle.dbuf_cells.specs.Turns.{AreEvictions, CellTurn, HoldsStand, KeepsClaims, MakesAll, OnHeap, PartyPlace, WaitsForDbuf, dbuf_meanings, held_at, holds_of}
use Rattle.dbuf_cells.specs.declared.kept.Kept.{Kept}
use Rattle.dbuf_cells.specs.declared.kept.Kept.TheVariants.{Held, Loose}

-- The party p took the cell i, which was so, and made these events of shards since: it is q, and has the cell in hand still.
pub record HasTaken (cache : Cache) (i : ℕ) (p : PartyPlace) (before : OnHeap) (es : List Event) (q : PartyPlace) : Type 0 where
  pub valid : IsConfig cache.config
  pub cell : IsCell cache.config i
  pub taken : PartyPlace
  pub takes : Takes dbuf_meanings i (item.Cell before) p taken
  pub stands : HoldsStand before
  pub makes : MakesAll cache.config es taken q
  pub party : IsPartyOf cache q
  pub look : HasNoLook cache q
  pub number : q.number ≡ p.number
  pub own_number : q.own.number ≡ q.number
  pub held : q.held ≡ i ∷ p.held
  pub recorded : item_at i q.own.records ≡ Some (item.Cell before)
  pub claims : q.own.ledger.claims ≡ p.own.ledger.claims

-- The number n did these things to a cell, which was so before: it is `now`, and evictions stand so.
pub record HasDone (n : ℕ) (before : CellLog Kept) (evicting : Evicting) (news : List CellEvent) (now : CellLog Kept) : Type 0 where
  pub sound : IsSound before
  pub told : TellsHolds is_held before
  pub tells : TellsHolds is_held now
  pub limit : now.limit ≡ before.limit
  pub opening : now.opening ≡ before.opening
  pub history : now.history ≡ before.history ++ news
  pub own : AllByRecursion (λ e. number_of e ≡ n) news
  pub bases : List (List ℕ)
  pub leads : Leads (plain_cell sound.evicting before) news bases (plain_cell evicting now)
  pub rest : IsTrue (are_at_rest now.dbufs)
  pub claims : (k : ℕ) → k ≢ n → claims_in k now.dbufs ≡ claims_in k before.dbufs

-- Both together: what the cell keeps now is what the party lists for it.
pub record InHand (cache : Cache) (i : ℕ) (p : PartyPlace) (before : OnHeap) (evicting : Evicting) (news : List CellEvent) (es : List Event) (now : CellLog Kept) (q : PartyPlace) : Type 0 where
  pub party : HasTaken cache i p before es q
  pub cell : HasDone q.number before.value evicting news now
  pub holds : AreHolds (holds_of now) (list_at i q.own.listed)

-- a party has the cell in hand, whatever it was before and whatever was done since; dbufs may be evicted just now
pub record MayEvict (cache : Cache) (i : ℕ) (now : CellLog Kept) (q : PartyPlace) : Type 0 where
  pub from : PartyPlace
  pub before : OnHeap
  pub evicting : Evicting
  pub news : List CellEvent
  pub es : List Event
  pub hand : InHand cache i from before evicting news es now q
  pub may : IsTrue (may_evict evicting)

-- nothing has to be evicted before the cell is given back
pub record MayGive (cache : Cache) (i : ℕ) (now : CellLog Kept) (q : PartyPlace) : Type 0 where
  pub from : PartyPlace
  pub before : OnHeap
  pub evicting : Evicting
  pub news : List CellEvent
  pub es : List Event
  pub hand : InHand cache i from before evicting news es now q
  pub settled : IsTrue (not (is_due (plain_cell evicting now)))

-- ---- what a dbuf kept is given back

-- the party lists it for the cell in its hands, where it is a hold
abbrev pub IsOut : Config → (i : ℕ) → PartyPlace → Kept → Type 0
IsOut g i p (Held hold) = IsCell g i × IsAmong i p.held × IsOneOf (ptr_of hold) (list_at i p.own.listed)
IsOut g i p (Loose key block) = Unit {0}

-- a hold goes by a Drop of the cell's number, a loose block without an event
abbrev pub GivesBack : Config → (i : ℕ) → Kept → PartyPlace → PartyPlace → Type 0
GivesBack g i (Held hold) p q = Does dbuf_meanings g hold.key (Drop (cell_number g i) hold.key ∷ []) p q
GivesBack g i (Loose key block) p q = q ≡ p

-- what was kept, if anything, is given up: a hold goes by a Release of the cell's number
abbrev pub GivesUp : Config → (i : ℕ) → Option Kept → PartyPlace → PartyPlace → Type 0
GivesUp g i None p q = q ≡ p
GivesUp g i (Some (Held hold)) p q = (sole : Bool) × Does dbuf_meanings g hold.key (Release (cell_number g i) hold.key sole ∷ []) p q
GivesUp g i (Some (Loose key block)) p q = q ≡ p

-- ---- evictions

-- how many dbufs keep a block
abbrev pub kept_count : List (Dbuf Kept) → ℕ
kept_count ds = count_by (λ d. (standing_of d).kept) ds

-- A block that is clean and cached now was so before, and its dbuf keeps a hold where it did.
abbrev pub HoldsStay : (old now : List (Dbuf Kept)) → Type 0
HoldsStay old now = (b : Oid) → dbuf_is (is_clean_in is_cached) b now ≡ true → (dbuf_is (is_clean_in is_cached) b old ≡ true) × (held_at now b ≡ held_at old b)

-- Whatever was done before, these evictions go on from it; nothing is over the limit afterwards.
pub record HasEvicted (cache : Cache) (i : ℕ) (p : PartyPlace) (before : OnHeap) (evicting : Evicting) (news : List CellEvent) (es : List Event) (old now : CellLog Kept) (q r : PartyPlace) : Type 0 where
  pub evictions : List CellEvent
  pub drops : List Event
  pub evicted : AreEvictions q.number (cell_number cache.config i) (held_at old.dbufs) (outline_of (plain_cell evicting old)) evictions drops
  pub stay : HoldsStay old.dbufs now.dbufs
  pub outline : outline_of (plain_cell evicting now) ≡ after_all (outline_of (plain_cell evicting old)) evictions
  pub hand : InHand cache i p before evicting (news ++ evictions) (es ++ drops) now r

abbrev pub Evicts : Cache → (i : ℕ) → (old now : CellLog Kept) → (q r : PartyPlace) → Type 0
Evicts cache i old now q r = (p : PartyPlace) (before : OnHeap) (evicting : Evicting) (news : List CellEvent) (es : List Event)
    → IsTrue (may_evict evicting) → InHand cache i p before evicting news es old q → HasEvicted cache i p before evicting news es old now q r

-- ---- taking a cell, and giving it back

-- the party has taken the cell, which was `before`, and nothing was done to it that shows; nothing is due
pub record AsTaken (cache : Cache) (i : ℕ) (p : PartyPlace) (before : OnHeap) (now : CellLog Kept) (q : PartyPlace) : Type 0 where
  pub evicting : Evicting
  pub hand : InHand cache i p before evicting [] [] now q
  pub settled : IsTrue (not (is_due (plain_cell evicting now)))

-- what the party claims of the cell i, by what it lists, is what the number n claims of a cell that is so
abbrev pub ClaimsAre : (i n : ℕ) → CellLog Kept → PartyPlace → Type 0
ClaimsAre i n c p = list_at i p.own.ledger.claims ≡ mapping_numbers (claims_in n c.dbufs)

-- each number claims of these dbufs what it claimed of those
abbrev pub AreClaimedAlike : (old now : List (Dbuf Kept)) → Type 0
AreClaimedAlike old now = (n : ℕ) → claims_in n now ≡ claims_in n old

-- the party waited so often until nobody brought the block's bytes, and then took its cell
pub record TakesAtRest (cache : Cache) (i : ℕ) (at : Oid) (p : PartyPlace) (before : OnHeap) (q : PartyPlace) : Type 0 where
  pub times : ℕ
  pub ready : PartyPlace
  pub waits : WaitsForDbuf cache.config i at times p ready
  pub held : ready.held ≡ p.held
  pub number : ready.number ≡ p.number
  pub begins : AsTaken cache i ready before before.value q
  pub rests : IsAtRest at before.value.dbufs
  pub claims : KeepsClaims p ready
  pub claimed : ClaimsAre i q.number before.value ready

-- the turn is over, and the party is what it was to the cache
pub record HasGiven (cache : Cache) (i : ℕ) (p : PartyPlace) (before : OnHeap) (news : List CellEvent) (es : List Event) (r : PartyPlace) : Type 0 where
  pub turn : CellTurn cache.config i before news es p r
  pub party : IsPartyOf cache r
  pub held : r.held ≡ p.held
  pub number : r.number ≡ p.number
  pub others : (j : ℕ) → j ≢ i → list_at j r.own.ledger.claims ≡ list_at j p.own.ledger.claims

abbrev pub Gives : Cache → (i : ℕ) → (now : CellLog Kept) → (q r : PartyPlace) → Type 0
Gives cache i now q r = (p : PartyPlace) (before : OnHeap) (evicting : Evicting) (news : List CellEvent) (es : List Event)
    → IsTrue (not (is_due (plain_cell evicting now))) → InHand cache i p before evicting news es now q → HasGiven cache i p before news es r

-- After the event of an operation dbufs are evicted and the cell is given back: whatever was done before, these evictions go on from it.
pub record HasFinished (cache : Cache) (i : ℕ) (p : PartyPlace) (before : OnHeap) (evicting : Evicting) (news : List CellEvent) (es : List Event) (old : CellLog Kept) (q r : PartyPlace) : Type 0 where
  pub evictions : List CellEvent
  pub drops : List Event
  pub evicted : AreEvictions q.number (cell_number cache.config i) (held_at old.dbufs) (outline_of (plain_cell evicting old)) evictions drops
  pub given : HasGiven cache i p before (news ++ evictions) (es ++ drops) r

abbrev pub Finishes : Cache → (i : ℕ) → (old : CellLog Kept) → (q r : PartyPlace) → Type 0
Finishes cache i old q r = (p : PartyPlace) (before : OnHeap) (evicting : Evicting) (news : List CellEvent) (es : List Event)
    → IsTrue (may_evict evicting) → InHand cache i p before evicting news es old q → HasFinished cache i p before evicting news es old q r

-- ---- what a call does to a cell in hand, before its dbufs are evicted

-- it has more room, and nothing else is changed
abbrev pub IsRoomier : (old new : CellLog Kept) → Type 0
IsRoomier old new = new ≡ record old { dbuf_room = new.dbuf_room; event_room = new.event_room }

-- n took a pin of its own back, and that is noted
pub record IsUnpinned (n : ℕ) (at : Oid) (old new : CellLog Kept) : Type 0 where
  pub roomy : CellLog Kept
  pub made : IsRoomier old roomy
  pub room : 1 + length old.dbufs ≤ roomy.event_room
  pub pinned : dbuf_is (λ d. has_pin n d.pins) at old.dbufs ≡ true
  pub noted_is : new ≡ noted (Unpin n at) (record roomy { dbufs = with_dbuf at (unpinned_by n) roomy.dbufs })

-- why it took none back: it has none there, or memory was refused
abbrev pub IsNotUnpinned : (n : ℕ) → Oid → (old : CellLog Kept) → DbufFault → Type 0
IsNotUnpinned n at old (fault.NoPin named) = (named ≡ at) × (dbuf_is (λ d. has_pin n d.pins) at old.dbufs ≡ false)
IsNotUnpinned n at old fault.NoMemory = Unit {0}
IsNotUnpinned n at old (fault.NoBlock named) = ⊥
IsNotUnpinned n at old (fault.Range end size) = ⊥
IsNotUnpinned n at old (fault.Read why) = ⊥

-- a dbuf keeps something, by what is mapped and how far it is
abbrev pub is_kept_by : Option Mapped → DbState → Bool
is_kept_by None s = false
is_kept_by (Some (mapped.Clean ptr)) s = is_cached s
is_kept_by (Some (mapped.Dirty size)) s = false

-- what the block's dbuf kept was taken out, or it kept nothing
pub record TakesOut (at : Oid) (kept : Option Kept) (old new : CellLog Kept) : Type 0 where
  pub taken : IfSome kept (λ k. new ≡ record old { dbufs = with_dbuf at (without_kept state.Evicting) old.dbufs })
  pub cached : IfSome kept (λ k. IsTrue (dbuf_is (is_clean_in is_cached) at old.dbufs))
  pub there : IfSome kept (λ k. DbufHas (λ d. d.kept ≡ Some k) (dbuf_at at old.dbufs))
  pub of : IfSome kept (λ k. DbufHas (λ d. IsOfContent key_of bytes_of k d.content) (dbuf_at at old.dbufs))
  pub same : IfNone kept (new ≡ old)
  pub uncached : IfNone kept (dbuf_is (is_clean_in is_cached) at old.dbufs ≡ false)

-- n wrote a whole block, which took out what the dbuf kept, and that is noted
pub record IsPut (n : ℕ) (at : Oid) (size fill : ℕ) (kept : Option Kept) (old new : CellLog Kept) : Type 0 where
  pub roomy : CellLog Kept
  pub made : IsRoomier old roomy
  pub room : 2 + length old.dbufs ≤ roomy.event_room
  pub fit : AllByRecursion (IsFit key_of bytes_of) roomy.dbufs
  pub emptied : CellLog Kept
  pub out : TakesOut at kept roomy emptied
  pub spare : ℕ
  pub noted_is : new ≡ noted (Put n at size fill) (record emptied {
    dbufs = with_item dbuf_oid at (dirty_with (replicate size fill)) (fresh at (Dirty (replicate size fill)) state.Cached) emptied.dbufs;
    dbuf_room = spare;
  })
