-- Cells are ended by a party that has every number: what it has seen then, and where nothing was done to them.
use Rattle.std.proofs.Common.{◌≡◌, ◌≢◌, ◌⊎◌, ℕ, zero, suc, ◌+◌, ◌-◌, ◌<◌, ◌≤◌, ◌==◌, Bool, true, false, if◌then◌else◌, List, [], ◌∷◌, ◌++◌, length, map, Some, refl, sym, ap, ◌∙◌, subst, inl, inr, arith, append-nil, append_assoc, eq-eqb, ne_eqb}
use Rattle.std.specs.Prelude.{filter, IsPermutation, Option}
use Rattle.std.specs.List.{AllByRecursion}
use Rattle.std.specs.Option.{option_map_or}
use Rattle.std.proofs.lemmas.List.{map-append, nil_from_length}
use Rattle.std.proofs.lemmas.List.Elements.{filter-append}
use Rattle.std.proofs.lemmas.List.Sorted.{length_permutation}
use mathlib.Core.Logic.{dite}
use mathlib.Core.Option.{some, some-injective, some-ne-none}
use native.Mathlib.Decide.{ℕ_discrete}
use lib.ListN.{get_elem?}
use Rattle.arc_lists.proofs.Tables.{cases_true}
use Rattle.blk_ptr.specs.Hash.{shard_of}
use Rattle.blk_ptr.specs.declared.key.Key.{Key}
use Rattle.blk_ptr.specs.declared.ptr.Ptr.{Ptr}
use Rattle.arc_core.specs.Config.{IsConfig}
use Rattle.arc_core.specs.declared.config.Config.{Config}
use Rattle.arc_core.specs.declared.event.Event.{Event}
use Rattle.arc_core.specs.declared.event.Event.TheVariants.{Drop}
use Rattle.arc_core.specs.Operations.{Act, Moment, event_key, moments, number_of, own_moments}
use Rattle.arc_core.specs.PlainShard.{PlainShard}
use Rattle.arc_core.specs.Replay.{replay}
use Rattle.arc_core.proofs.Others.{frame-kept}
use Rattle.turn_table.specs.declared.standing.Kept.{Kept}
use Rattle.turn_table.specs.Moments.{WasFree}
use Rattle.turn_table.specs.Places.{AllShow, HasNumber, IsIn, gave_back, saw}
use Rattle.arc_table.specs.declared.about.About.{About}
use Rattle.arc_table.specs.declared.item.Item.{Item}
use Rattle.arc_table.specs.declared.item.Item.TheVariants as item
use Rattle.arc_table.specs.declared.view.Known.{Known}
use Rattle.arc_table.specs.declared.view.Ledger.{Ledger}
use Rattle.arc_table.specs.declared.view.Line.{Line}
use Rattle.arc_table.specs.declared.view.Line.TheVariants as line
use Rattle.arc_table.specs.declared.view.Mine.{Mine}
use Rattle.arc_table.specs.Booking.{without_hold}
use Rattle.arc_table.specs.Both.{Does}
use Rattle.arc_table.specs.Cells.{SeesAll}
use Rattle.arc_table.specs.feeder.Listing.{picks_of}
use Rattle.arc_table.specs.Fronts.{StartsWith, front_of, item_at, list_at}
use Rattle.arc_table.specs.Geometry.{IsCell, cell_number, parties_of}
use Rattle.arc_table.specs.Items.{lines_in}
use Rattle.arc_table.specs.pact.Rule.{Pact}
use Rattle.arc_table.specs.pact.Scene.{Scene}
use Rattle.arc_table.specs.Seen.{AreOwn, AreOwnBy, AreSeen, FindsEntries, HasAll, HasSeenItsEntries, IsNumberOrCell, IsSeen, MadeBy, events_in, seen_of, turn_of}
use Rattle.arc_table.specs.ShardGiving.{holds_through, readings_through}
use Rattle.arc_table.specs.TableLaws.{item_here, starts_whole, within}
use Rattle.arc_table.proofs.TableLaws.{front_else, front_here}
use Rattle.arc_table.specs.Telling.{opening_of}
use Rattle.arc_table.specs.Views.{after_cell, mines_from, recorded}
use Rattle.arc_table.proofs.Afterwards.{does_ledger}
use Rattle.arc_table.proofs.cell_lemmas.CellsInHand.{cell-recorded}
use Rattle.arc_table.proofs.cell_lemmas.EntriesSeen.{given-entries, given-sees, seen-at-take}
use Rattle.arc_table.proofs.MadeLemmas.{does-made}
use Rattle.arc_table.proofs.OwnLemmas.{get-either, grows, made-all, made-alone, made-sees, no-own-moments, own-append}
use Rattle.arc_table.proofs.reads.ReadMoments.{own-none, own-single-by}
use Rattle.arc_table.proofs.feeder.PicksAfter.{same_picks}
use Rattle.arc_table.proofs.Reached.{SameButNotes, Took, loses_same, took_is}
use Rattle.dbuf_cells.specs.Ending.{DropsEach, EndsCell, EndsFrom}
use Rattle.dbuf_cells.specs.Turns.{CellTurn, LooksTimes, MakesAll, OnHeap, PartyPlace, dbuf_meanings, drops_if, held_in, outline_in}
use Rattle.dbuf_state.specs.History.{Leads}
use Rattle.dbuf_state.specs.Numbers.{event_numbers}
use Rattle.dbuf_state.specs.Objects.{PlainCell, PlainDbuf, opened, opening_cell}
use Rattle.dbuf_state.specs.Outline.{OutlineDbuf, outline_dbuf}
use Rattle.dbuf_state.specs.Soundness.{IsSound, plain_cell}
use Rattle.dbuf_state.specs.declared.event.CellEvent.{CellEvent}
use Rattle.dbuf_state.specs.declared.event.CellEvent.TheVariants.{End}
use Rattle.dbuf_state.specs.declared.oid.Oid.{Oid}
use Rattle.dbuf_state.specs.declared.state.Mapping.{Mapping}
use Rattle.trace_run.specs.dbufs.CellEnds.{IsCellDrop, SeesEnd, SeesEnds, end_entry, noted_ends}
use Rattle.trace_run.specs.dbufs.DbufTurns.{CellsDone}
use Rattle.trace_run.specs.Deeds.{HasToldOthers, Noted, acts_of_events, events_there, noted_in, MakesLater, CellsGrow}
use Rattle.trace_run.specs.Making.{HasSeenItsEvents}
use Rattle.trace_run.proofs.deeds.CellFound.{turn-finds}
use Rattle.trace_run.proofs.deeds.CellsDone.{turn-done}
use Rattle.trace_run.proofs.deeds.DeedLemmas.{events-acts}
use Rattle.trace_run.proofs.deeds.ObjectReplies.{dbufs-so}
use Rattle.trace_run.proofs.deeds.TurnMakes.{AreTurnEvents}
use Rattle.trace_run.proofs.theorem.ToldLemmas.{others-turn}
use Rattle.trace_run.proofs.CellsLeft.{LeavesCells, does-leaves, leaves-same, leaves-seen, leaves-then}
use Rattle.trace_run.proofs.MoveLemmas.{made-only}
use Rattle.trace_run.proofs.callers.MeetLemmas.{own-seen-more, starts-then}
use Rattle.trace_run.specs.MadeLines.{is_listed}
use Rattle.trace_run.proofs.deeds.MakesLemmas.{made-later, later-then}
use Rattle.trace_run.proofs.deeds.MadeLemmas.{listed-back, mines-turn}

-- ---- a cell to which nothing was done

pub opened-uncached : (ms : List Mapping) → filter (λ (d : OutlineDbuf). d.cached) (map outline_dbuf (map opened ms)) ≡ []
opened-uncached [] = refl
opened-uncached (m ∷ ms) = opened-uncached ms

-- no dbuf of it has its bytes
none-cached : (b : OnHeap) (sound : IsSound b.value) → b.value.history ≡ [] → filter (λ (d : OutlineDbuf). d.cached) (outline_in b).dbufs ≡ []
none-cached b sound none =
    let legal = subst (λ (h : List CellEvent). Leads (opening_cell b.value.limit b.value.opening) h sound.bases (plain_cell sound.evicting b.value)) none sound.history.legal in
    ap (λ (ds : List PlainDbuf). filter (λ (d : OutlineDbuf). d.cached) (map outline_dbuf ds)) (ap (λ (c : PlainCell). c.dbufs) legal.1) ∙ opened-uncached b.value.opening

pub nothing-from : {A : Type 0} (xs ys : List A) → xs ≡ [] → IsPermutation xs ys → ys ≡ []
nothing-from xs ys none same = nil_from_length ys (length_permutation xs ys same ∙ ap length none)

-- ---- no line of a cell from this one on

-- none of these lines is of a cell from this one on
abbrev pub NoneFrom : Config → (i : ℕ) → List Mine → Type 0
NoneFrom g i mines = (j : ℕ) (a : Mine) → get_elem? mines j ≡ some a → IsCell g a.turn → i ≤ a.turn → ⊥

-- nor is one that a party made, or one that it keeps by a join
pub record IsUntouched (g : Config) (i : ℕ) (p : PartyPlace) : Type 0 where
  pub own : NoneFrom g i p.own.mine
  pub joined : AllByRecursion (λ k. NoneFrom g i k.view.mine) p.joined

pub none-later : (g : Config) (i : ℕ) (mines : List Mine) → NoneFrom g i mines → NoneFrom g (suc i) mines
none-later g i mines none j a at in_range above = none j a at in_range (omega (arith, above))

pub all-later : (g : Config) (i : ℕ) (ks : List (Kept (Known OnHeap))) → AllByRecursion (λ k. NoneFrom g i k.view.mine) ks → AllByRecursion (λ k. NoneFrom g (suc i) k.view.mine) ks
all-later g i [] all = tt
all-later g i (k ∷ ks) all = (none-later g i k.view.mine all.0, all-later g i ks all.1)

-- a cell that the party found so had no entry then
module _ (g : Config) (i : ℕ) (in_range : IsCell g i) (c : OnHeap) (p : PartyPlace) (all : HasAll p) (free : WasFree (Pact dbuf_meanings) p i (item.Cell c)) (none : IsUntouched g i p) where
  abbrev scene : Scene OnHeap
  scene = free.held.scene

  now-is : lines_in dbuf_meanings (scene.now i) ≡ map line.Entry (map event_numbers c.value.history)
  now-is = ap (lines_in dbuf_meanings) (free.held.attached.free i (item.Cell c) free.turn).0

  mines-of : (n : ℕ) (ks : List (Kept (Known OnHeap))) → IsIn n ks → AllShow free.board.views ks → AllByRecursion (λ k. NoneFrom g i k.view.mine) ks → NoneFrom g i (scene.mine n)
  mines-of n [] among shows each = absurd among
  mines-of n (k ∷ ks) (inl is) shows each = subst (λ (x : ℕ). NoneFrom g i (scene.mine x)) is (subst (NoneFrom g i) (free.held.attached.views k.number k.view shows.0).mine each.0)
  mines-of n (k ∷ ks) (inr among) shows each = mines-of n ks among shows.1 each.1

  mine-of : (n : ℕ) → HasNumber n p → NoneFrom g i (scene.mine n)
  mine-of n (inl is) = subst (λ (x : ℕ). NoneFrom g i (scene.mine x)) is (subst (NoneFrom g i) (free.held.attached.views p.number p.own free.stands.shows.0).mine none.own)
  mine-of n (inr among) = mines-of n p.joined among free.stands.shows.1 none.joined

  no-line : 0 < length (lines_in dbuf_meanings (scene.now i)) → ⊥
  no-line some_line =
      let h = free.held.logged.places i 0 some_line in
      let below : scene.owner i 0 < p.parties = subst (λ (x : ℕ). scene.owner i 0 < x) (sym free.held.attached.parties ∙ free.stands.count) h.party in
      mine-of (scene.owner i 0) (all (scene.owner i 0) below) h.index h.line h.at (subst (IsCell g) (sym h.turn) in_range) (subst (λ (x : ℕ). i ≤ x) (sym h.turn) (omega arith))

  pub untouched-history : c.value.history ≡ []
  untouched-history = go c.value.history now-is
    where
      go : (h : List CellEvent) → lines_in dbuf_meanings (scene.now i) ≡ map line.Entry (map event_numbers h) → h ≡ []
      go [] is = refl
      go (x ∷ xs) is = absurd (no-line (subst (λ (l : List Line). 0 < length l) (sym is) (omega arith)))

-- ---- drops with a cell's number

-- each of these is a drop with the number c
abbrev pub AreDropsOf : (c : ℕ) → List Event → Type 0
AreDropsOf c = AllByRecursion (λ e. (k : Key) × (e ≡ Drop c k))

-- or with a cell's number
abbrev pub AreCellDrops : Config → List Event → Type 0
AreCellDrops g = AllByRecursion (λ e. parties_of g ≤ number_of e)

pub all-then : (P : Event → Type 0) (xs ys : List Event) → AllByRecursion P xs → AllByRecursion P ys → AllByRecursion P (xs ++ ys)
all-then P [] ys a b = b
all-then P (x ∷ xs) ys a b = (a.0, all-then P xs ys a.1 b)

drop-of : (c : ℕ) (k : Key) (held : Bool) → AreDropsOf c (drops_if held c k)
drop-of c k true = ((k, refl), tt)
drop-of c k false = tt

drops-each : (c : ℕ) (held : Oid → Bool) (ds : List OutlineDbuf) (es : List Event) → DropsEach c held ds es → AreDropsOf c es
drops-each c held [] es none = subst (AreDropsOf c) (sym none) tt
drops-each c held (d ∷ ds) es each =
    let dropped : AreDropsOf c each.1 = subst (AreDropsOf c) (sym each.5) (drop-of c each.0.key (held d.at)) in
    subst (AreDropsOf c) (sym each.4) (all-then (λ e. (k : Key) × (e ≡ Drop c k)) each.1 each.2 dropped (drops-each c held ds each.2 each.6))

drops-cells : (g : Config) (i : ℕ) (es : List Event) → AreDropsOf (cell_number g i) es → AreCellDrops g es
drops-cells g i [] all = tt
drops-cells g i (e ∷ es) all = (subst (λ (x : Event). parties_of g ≤ number_of x) (sym all.0.1) (omega arith), drops-cells g i es all.1)

-- each with the cell's number
drops-are : (g : Config) (i : ℕ) (es : List Event) → IsCell g i → AreDropsOf (cell_number g i) es → AllByRecursion (IsCellDrop g) es
drops-are g i [] in_range all = tt
drops-are g i (e ∷ es) in_range all = (record { cell = i; key = all.0.0; is = all.0.1; in_range = in_range }, drops-are g i es in_range all.1)

drops-turn : (n c : ℕ) (es : List Event) → AreDropsOf c es → AreTurnEvents n c es
drops-turn n c [] all = tt
drops-turn n c (e ∷ es) all = (inr (inl all.0), drops-turn n c es all.1)

-- they are no party's
pub drops-unmade : (g : Config) (n : ℕ) (s : PlainShard) (front es : List Event) → n < parties_of g → AreCellDrops g es → own_moments n (moments s (front ++ es)) ≡ own_moments n (moments s front)
drops-unmade g n s front es below all =
    own-append n s front es
    ∙ (ap (λ (l : List Moment). own_moments n (moments s front) ++ l) (no-own-moments n _ es (others es all))
    ∙ append-nil (own_moments n (moments s front)))
  where
    others : (es : List Event) → AreCellDrops g es → (y : ℕ) (e : Event) → get_elem? es y ≡ some e → number_of e ≢ n
    others [] all y e at is = absurd (some-ne-none e (sym at))
    others (x ∷ xs) all zero e at is = let same : number_of x ≡ n = ap number_of (some-injective x e at) ∙ is in let above = all.0 in absurd (omega (arith, same, above, below))
    others (x ∷ xs) all (suc y) e at is = others xs all.1 y e at is

pub cell-drops-there : (g : Config) (shard : ℕ) (es : List Event) → AreCellDrops g es → AreCellDrops g (events_there g shard es)
cell-drops-there g shard [] all = tt
cell-drops-there g shard (e ∷ es) all = elim (cases_true (option_map_or (λ k. shard_of g.shards k == shard) (event_key e) false)) [
  | inl here ↦ rw here (all.0, cell-drops-there g shard es all.1)
  | inr out ↦ rw out (cell-drops-there g shard es all.1)
]

-- ---- what a party with every number has seen, while it makes these events

-- It has seen just these events more, and lists what it did. Of cells it has seen what it had, and has them in hand as they were.
pub record HasDropped (g : Config) (es : List Event) (p q : PartyPlace) : Type 0 where
  pub left : LeavesCells g p q
  pub holds : q.own.ledger.holds ≡ p.own.ledger.holds
  pub readings : q.own.ledger.readings ≡ p.own.ledger.readings
  pub sees : HasSeenItsEvents g q
  pub all : HasAll q
  pub shards : (shard : ℕ) → seen_of g shard q ≡ seen_of g shard p ++ events_there g shard es
  pub starts : (i : ℕ) → StartsWith (front_of (turn_of g i) q.own.seen) (front_of (turn_of g i) p.own.seen)
  pub older : MakesLater g p q
  pub recorded : (i : ℕ) → IsCell g i → item_at i q.own.records ≡ item_at i p.own.records
  pub events : es ≡ [] → AreSeen g p.number p.own.mine p.own.seen → AreSeen g q.number q.own.mine q.own.seen
  pub picks : p.number ≡ g.callers → (j : ℕ) → picks_of j q ≡ picks_of j p

module _ (g : Config) where
  pub dropped-none : (p q : PartyPlace) → HasSeenItsEvents g p → HasAll p → q ≡ p → HasDropped g [] p q
  dropped-none p q sees all e = subst (HasDropped g [] p) (sym e) record {
    left = leaves-same g p p refl;
    holds = refl;
    readings = refl;
    sees = sees;
    all = all;
    shards = λ shard. sym (append-nil (seen_of g shard p));
    starts = λ i. starts_whole (front_of (turn_of g i) p.own.seen);
    older = λ shard place below. refl;
    recorded = λ i in_range. refl;
    events = λ none seen. seen;
    picks = λ feeder j. refl;
  }

  there-append : (shard : ℕ) (es fs : List Event) → events_there g shard (es ++ fs) ≡ events_there g shard es ++ events_there g shard fs
  there-append shard es fs = filter-append _ es fs

  none-both : (es fs : List Event) → es ++ fs ≡ [] → (es ≡ []) × (fs ≡ [])
  none-both [] fs is = (refl, is)
  none-both (e ∷ es) fs is = cc

  pub dropped-then : (es fs : List Event) (p q r : PartyPlace) → HasDropped g es p q → HasDropped g fs q r → HasDropped g (es ++ fs) p r
  dropped-then es fs p q r a b = record {
    left = leaves-then g p q r a.left b.left;
    holds = b.holds ∙ a.holds;
    readings = b.readings ∙ a.readings;
    sees = b.sees;
    all = b.all;
    shards = λ shard. b.shards shard ∙ (ap (λ (l : List Event). l ++ events_there g shard fs) (a.shards shard)
        ∙ (append_assoc (seen_of g shard p) (events_there g shard es) (events_there g shard fs) ∙ ap (λ (l : List Event). seen_of g shard p ++ l) (sym (there-append shard es fs))));
    starts = λ i. starts-then (front_of (turn_of g i) r.own.seen) (front_of (turn_of g i) q.own.seen) (front_of (turn_of g i) p.own.seen) (b.starts i) (a.starts i);
    older = later-then g p q r a.starts a.older b.older;
    recorded = λ i in_range. b.recorded i in_range ∙ a.recorded i in_range;
    events = λ none seen. let both = none-both es fs none in b.events both.1 (a.events both.0 seen);
    picks = λ feeder j. b.picks (a.left.stays.number ∙ feeder) j ∙ a.picks feeder j;
  }

module _ (g : Config) (valid : IsConfig g) where
  -- one look, or one drop with the number of a cell
  one-dropped : (k : Key) (es : List Event) (p q : PartyPlace) → p.own.about.config ≡ g → HasSeenItsEvents g p → HasAll p → AreOwnBy (IsNumberOrCell g) (parties_of g) p.number es
      → ((s : PlainShard) (hs : List Ptr) → holds_through p.number s es hs ≡ hs) → ((ks : List Key) → readings_through p.number es ks ≡ ks)
      → ((shard : ℕ) → events_there g shard es ≡ (if shard_of g.shards k == shard then es else [])) → ((s : PlainShard) → (replay s es).picked ≡ s.picked) → (d : Does dbuf_meanings g k es p q) → HasDropped g es p q
  one-dropped k es p q config sees all mine no_holds no_readings there unpicked d =
      let here : ℕ = shard_of g.shards k in
      let made : MadeBy (IsNumberOrCell g) g here d.before es p q = does-made dbuf_meanings g valid k es p q config sees mine d in
      let adds = made-alone g here d.before es p q made all in
      let ledger = does_ledger dbuf_meanings g valid k es p q config d in
      record {
        left = does-leaves dbuf_meanings g valid k es p q config d;
        holds = ap (λ (l : Ledger). l.holds) ledger ∙ no_holds d.before.now p.own.ledger.holds;
        readings = ap (λ (l : Ledger). l.readings) ledger ∙ no_readings p.own.ledger.readings;
        sees = made-sees g here d.before es p q made sees;
        all = made-all g here d.before es p q made all;
        shards = λ shard. dite (ℕ_discrete here shard)
            (λ is.
            let test : (here == shard) ≡ true = eq-eqb here shard is in
            subst (λ (s : ℕ). seen_of g s q ≡ seen_of g s p ++ es) is adds.here ∙ ap (λ (l : List Event). seen_of g shard p ++ l) (sym (there shard ∙ ap (λ (b : Bool). if b then es else []) test)))
            (λ differs.
            let test : (here == shard) ≡ false = ne_eqb here shard differs in
            adds.others shard (λ e. differs (sym e)) ∙ (sym (append-nil (seen_of g shard p)) ∙ ap (λ (l : List Event). seen_of g shard p ++ l) (sym (there shard ∙ ap (λ (b : Bool). if b then es else []) test))));
        starts = grows g here d.before es p q made;
        older = made-later g here d.before es p q made;
        recorded = λ i in_range. cell-recorded dbuf_meanings g valid k es p q config d i in_range;
        events = λ none seen. made-only g here d.before es p q made (subst (AreOwn (parties_of g) p.number) (sym none) (own-none p.number)) seen;
        picks = λ feeder. same_picks dbuf_meanings g k es p q (valid, config, feeder) d (unpicked d.before.now);
      }

  pub look-dropped : (times : ℕ) (p q : PartyPlace) → p.own.about.config ≡ g → HasSeenItsEvents g p → HasAll p → LooksTimes g times p q → HasDropped g [] p q
  look-dropped zero p q config sees all is = dropped-none g p q sees all is
  look-dropped (suc times) p q config sees all l =
      let before = look-dropped times p l.1 config sees all l.2 in
      let same : l.1.own.about.config ≡ g = ap (λ (a : About). a.config) before.left.stays.about ∙ config in
      dropped-then g [] [] p l.1 q before
      (one-dropped l.0 [] l.1 q same before.sees before.all (λ z e at. absurd (some-ne-none e (sym at))) (λ s hs. refl) (λ ks. refl) (λ shard. none-there (shard_of g.shards l.0 == shard)) (λ s. refl) l.3)
    where
      none-there : (b : Bool) → ◌≡◌ {A = List Event} [] (if b then [] else [])
      none-there true = refl
      none-there false = refl

  all-dropped : (c : ℕ) (es : List Event) (p q : PartyPlace) → parties_of g ≤ c → p.number < parties_of g → p.own.about.config ≡ g → HasSeenItsEvents g p → HasAll p → AreDropsOf c es → MakesAll g es p q → HasDropped g es p q
  all-dropped c [] p q above low config sees all drops looks = look-dropped looks.0 p q config sees all looks.1
  all-dropped c (e ∷ es) p q above low config sees all drops makes =
      let k : Key = makes.0 in
      let r : PartyPlace = makes.1 in
      let s : PartyPlace = makes.2 in
      let a = look-dropped makes.3.0 p r config sees all makes.3.1 in
      let r-config : r.own.about.config ≡ g = ap (λ (x : About). x.config) a.left.stays.about ∙ config in
      let r-low : r.number < parties_of g = subst (λ (n : ℕ). n < parties_of g) (sym a.left.stays.number) low in
      let is : e ≡ Drop c k = drops.0.1 ∙ ap (Drop c) (key-is (subst (λ (x : Event). event_key x ≡ Some k) drops.0.1 makes.4)) in
      let b : HasDropped g (e ∷ []) r s = subst (λ (x : Event). HasDropped g (x ∷ []) r s) (sym is)
      (one-dropped k (Drop c k ∷ []) r s r-config a.sees a.all (own-single-by (IsNumberOrCell g) r.number (Drop c k) (inr above) refl) (λ sh hs. not-mine k r.number hs r-low) (λ ks. refl) (λ shard. one-there k shard) (λ s. (frame-kept s (Drop c k)).picked refl)
      (subst (λ (x : Event). Does dbuf_meanings g k (x ∷ []) r s) is makes.5)) in
      let s-config : s.own.about.config ≡ g = ap (λ (x : About). x.config) b.left.stays.about ∙ r-config in
      let s-low : s.number < parties_of g = subst (λ (n : ℕ). n < parties_of g) (sym b.left.stays.number) r-low in
      dropped-then g [] (e ∷ es) p r q a (dropped-then g (e ∷ []) es r s q b (all-dropped c es s q above s-low s-config b.sees b.all drops.1 makes.6))
    where
      key-is : {j k : Key} → ◌≡◌ {A = Option Key} (Some j) (Some k) → j ≡ k
      key-is same = cc

      not-mine : (k : Key) (n : ℕ) (hs : List Ptr) → n < parties_of g → (if n == c then without_hold k hs else hs) ≡ hs
      not-mine k n hs below = let other : (n == c) ≡ false = ne_eqb n c (λ e. absurd (omega (arith, e, below, above))) in ap (λ (b : Bool). if b then without_hold k hs else hs) other

      one-there : (k : Key) (shard : ℕ) → events_there g shard (Drop c k ∷ []) ≡ (if shard_of g.shards k == shard then (Drop c k ∷ []) else [])
      one-there k shard = elim (cases_true (shard_of g.shards k == shard)) [
        | inl here ↦ rw here refl
        | inr out ↦ rw out refl
      ]

-- ---- what a party with every number is behind such a turn

pub record HasEndedSome (g : Config) (es : List Event) (p q : PartyPlace) : Type 0 where
  pub table : q.table ≡ p.table
  pub parties : q.parties ≡ p.parties
  pub number : q.number ≡ p.number
  pub joined : q.joined ≡ p.joined
  pub about : q.own.about ≡ p.own.about
  pub holds : q.own.ledger.holds ≡ p.own.ledger.holds
  pub readings : q.own.ledger.readings ≡ p.own.ledger.readings
  pub sees : HasSeenItsEvents g q
  pub entries : HasSeenItsEntries g q
  pub all : HasAll q
  pub drops : AreCellDrops g es
  pub picks : p.number ≡ g.callers → (j : ℕ) → picks_of j q ≡ picks_of j p
  pub shards : (shard : ℕ) → seen_of g shard q ≡ seen_of g shard p ++ events_there g shard es
  pub own : (shard : ℕ) → own_moments p.number (moments (opening_of g) (seen_of g shard q)) ≡ own_moments p.number (moments (opening_of g) (seen_of g shard p))
  pub starts : (i : ℕ) → StartsWith (front_of (turn_of g i) q.own.seen) (front_of (turn_of g i) p.own.seen)
  pub older : MakesLater g p q
  pub cells : CellsGrow g p.own.seen q.own.seen

-- where nobody had done anything to a cell from i on, those below k are ended now
pub record HasEndedIdle (g : Config) (i k : ℕ) (es : List Event) (p q : PartyPlace) : Type 0 where
  pub none : es ≡ []
  pub untouched : IsUntouched g k q
  pub ends : (j : ℕ) → IsCell g j → i ≤ j → j < k → front_of j q.own.seen ≡ end_entry p.number j
  pub below : (j : ℕ) → IsCell g j → j < i → front_of j q.own.seen ≡ front_of j p.own.seen
  pub events : AreSeen g p.number p.own.mine p.own.seen → AreSeen g q.number q.own.mine q.own.seen

-- ---- one cell

module _ (g : Config) (valid : IsConfig g) (i : ℕ) (in_range : IsCell g i) (p q : PartyPlace) (config : p.own.about.config ≡ g) (sees : HasSeenItsEvents g p) (entries : HasSeenItsEntries g p) (all : HasAll p)
    (e : EndsCell g i p q) where
  abbrev t : CellTurn g i e.before (End p.number ∷ []) e.drops p q
  t = e.turn

  took : Took dbuf_meanings i (item.Cell e.before) p t.taken
  took = took_is dbuf_meanings i (item.Cell e.before) p t.taken t.takes

  at-take : SeesAll g t.taken × FindsEntries i p (map event_numbers e.before.value.history)
  at-take = let h = seen-at-take dbuf_meanings g i e.before t.takes.owners t.takes.knew p config in_range t.takes.lost t.takes.free (sees, entries) in
      (subst (SeesAll g) (sym t.takes.took) h.0, h.1)

  -- the party is one of the cache
  low : p.number < parties_of g
  low =
      let f = t.takes.free in
      let settled : f.held.scene.about.config ≡ g = ap (λ (a : About). a.config) (sym (f.held.attached.views p.number t.takes.knew f.stands.shows.0).about ∙ (loses_same dbuf_meanings i t.takes.owners p (saw p t.takes.knew) t.takes.lost).about) ∙ config in
      subst (λ (c : Config). p.number < parties_of c) settled (subst (λ (n : ℕ). p.number < n) f.held.attached.parties (within f.board.views p.number t.takes.knew f.stands.shows.0))

  are-drops : AreDropsOf (cell_number g i) e.drops
  are-drops = drops-each (cell_number g i) (held_in e.before) e.kept e.drops e.dropped

  taken-config : t.taken.own.about.config ≡ g
  taken-config = ap (λ (a : About). a.config) took.about ∙ config

  taken-all : HasAll t.taken
  taken-all k below = subst (λ (x : ℕ × List (Kept (Known OnHeap))). (x.0 ≡ k) ⊎ IsIn k x.1) (λ z. (sym took.number z, sym took.joined z))
      (all k (subst (λ (x : ℕ). k < x) took.parties below))

  worked-are : HasDropped g e.drops t.taken t.worked
  worked-are = all-dropped g valid (cell_number g i) e.drops t.taken t.worked (omega arith) (subst (λ (n : ℕ). n < parties_of g) (sym took.number) low) taken-config at-take.0.0 taken-all are-drops t.makes

  abbrev back : PartyPlace
  back = gave_back t.worked i (after_cell dbuf_meanings i (item.Cell t.after) t.worked.own)

  -- the cell that was recorded is the one that was taken
  same-taken : t.given.taken ≡ e.before
  same-taken = cell-same _ _ (some-one _ _ (sym t.given.recorded ∙ (worked-are.recorded i in_range ∙ (ap (item_at i) took.records ∙ item_here i (item.Cell e.before) p.own.records))))
    where
      some-one : (a b : Item OnHeap) → ◌≡◌ {A = Option (Item OnHeap)} (Some a) (Some b) → a ≡ b
      some-one a b same = cc

      cell-same : (a b : OnHeap) → ◌≡◌ {A = Item OnHeap} (item.Cell a) (item.Cell b) → a ≡ b
      cell-same a b same = cc

  taken-front : front_of i t.taken.own.seen ≡ map line.Entry (map event_numbers e.before.value.history)
  taken-front = ap (front_of i) took.seen ∙ front_here i (map line.Entry (map event_numbers e.before.value.history)) p.own.seen

  worked-front : front_of i t.worked.own.seen ≡ map line.Entry (map event_numbers t.given.taken.value.history)
  worked-front = worked-are.left.fronts i in_range ∙ (taken-front ∙ ap (λ (c : OnHeap). map line.Entry (map event_numbers c.value.history)) (sym same-taken))

  worked-entries : HasSeenItsEntries g t.worked
  worked-entries = leaves-seen g t.taken t.worked worked-are.left at-take.0.1

  -- behind the give
  back-front : front_of i back.own.seen ≡ map line.Entry (map event_numbers e.before.value.history) ++ end_entry p.number i
  back-front = front_here i (map line.Entry (map event_numbers t.after.value.history)) t.worked.own.seen
      ∙ (ap (λ (h : List CellEvent). map line.Entry (map event_numbers h)) t.history
      ∙ (ap (map line.Entry) (map-append event_numbers e.before.value.history (End p.number ∷ [])) ∙ map-append line.Entry (map event_numbers e.before.value.history) (map event_numbers (End p.number ∷ []))))

  back-else : (j : ℕ) → IsCell g j → j ≢ i → front_of j back.own.seen ≡ front_of j p.own.seen
  back-else j range differs = front_else i j (map line.Entry (map event_numbers t.after.value.history)) t.worked.own.seen differs
      ∙ (worked-are.left.fronts j range ∙ (ap (front_of j) took.seen ∙ front_else i j (map line.Entry (map event_numbers e.before.value.history)) p.own.seen differs))

  no-shard : (k : ℕ) → turn_of g k ≢ i
  no-shard k same = let b = in_range in omega (arith, same, b)

  back-shard : (k : ℕ) → front_of (turn_of g k) back.own.seen ≡ front_of (turn_of g k) t.worked.own.seen
  back-shard k = front_else i (turn_of g k) (map line.Entry (map event_numbers t.after.value.history)) t.worked.own.seen (no-shard k)

  took-shard : (k : ℕ) → front_of (turn_of g k) t.taken.own.seen ≡ front_of (turn_of g k) p.own.seen
  took-shard k = ap (front_of (turn_of g k)) took.seen ∙ front_else i (turn_of g k) (map line.Entry (map event_numbers e.before.value.history)) p.own.seen (no-shard k)

  back-starts : (k : ℕ) → StartsWith (front_of (turn_of g k) back.own.seen) (front_of (turn_of g k) p.own.seen)
  back-starts k = subst (λ (x : List Line × List Line). StartsWith x.0 x.1) (λ z. (sym (back-shard k) z, took-shard k z)) (worked-are.starts k)

  back-later : MakesLater g p back
  back-later k place below =
      listed-back (turn_of g k) place i _ _ t.worked.own.mine (no-shard k)
      ∙ (worked-are.older k place (subst (λ (l : List Line). place < length l) (sym (took-shard k)) below) ∙ ap (is_listed (turn_of g k) place) took.mine)

  -- it has found of the cell what it had seen, since it has every number
  before-front : map line.Entry (map event_numbers e.before.value.history) ≡ front_of i p.own.seen
  before-front = at-take.1.whole ∙ (ap (λ (r : List (List ℕ)). front_of i p.own.seen ++ map line.Entry r) (at-take.1.alone all) ∙ append-nil (front_of i p.own.seen))

  shards-then : (shard : ℕ) → seen_of g shard back ≡ seen_of g shard p ++ events_there g shard e.drops
  shards-then shard = ap events_in (back-shard shard) ∙ (worked-are.shards shard ∙ ap (λ (l : List Line). events_in l ++ events_there g shard e.drops) (took-shard shard))

  pub one-are : AllByRecursion (IsCellDrop g) e.drops
  one-are = drops-are g i e.drops in_range are-drops

  pub one-ended : HasEndedSome g e.drops p q
  one-ended = subst (HasEndedSome g e.drops p) (sym t.gave) record {
    table = worked-are.left.stays.table ∙ took.table;
    parties = worked-are.left.stays.parties ∙ took.parties;
    number = worked-are.left.stays.number ∙ took.number;
    joined = worked-are.left.stays.joined ∙ took.joined;
    about = worked-are.left.stays.about ∙ took.about;
    holds = worked-are.holds ∙ ap (λ (l : Ledger). l.holds) took.ledger;
    readings = worked-are.readings ∙ ap (λ (l : Ledger). l.readings) took.ledger;
    sees = given-sees dbuf_meanings g i t.after t.worked in_range t.given worked-front worked-are.sees;
    entries = given-entries dbuf_meanings g i t.after t.worked in_range t.given worked-front worked-entries;
    all = worked-are.all;
    drops = drops-cells g i e.drops are-drops;
    picks = λ feeder j. worked-are.picks (took.number ∙ feeder) j ∙ ap (λ (l : Ledger). list_at j l.picked) took.ledger;
    shards = shards-then;
    own = λ shard. ap (λ (es : List Event). own_moments p.number (moments (opening_of g) es)) (shards-then shard)
        ∙ drops-unmade g p.number (opening_of g) (seen_of g shard p) (events_there g shard e.drops) low (cell-drops-there g shard e.drops (drops-cells g i e.drops are-drops));
    starts = back-starts;
    older = back-later;
    cells = λ j range. dite (ℕ_discrete j i)
        (λ is. subst (λ (x : ℕ). StartsWith (front_of x back.own.seen) (front_of x p.own.seen)) (sym is) (end_entry p.number i, back-front ∙ ap (λ (l : List Line). l ++ end_entry p.number i) before-front))
        (λ differs. subst (λ (l : List Line). StartsWith l (front_of j p.own.seen)) (sym (back-else j range differs)) (starts_whole (front_of j p.own.seen)));
  }

  -- what it made and did, as it is told
  cell-kinds : AreTurnEvents p.number (cell_number g i) e.drops
  cell-kinds = drops-turn p.number (cell_number g i) e.drops are-drops

  cell-done : CellsDone g (noted_in i (End p.number ∷ [])) e.drops p q
  cell-done = turn-done g valid i in_range e.before (End p.number ∷ []) e.drops p q config (sees, entries) cell-kinds e.turn

  pub cell-told : (did : List Act) (had : List Noted) → HasToldOthers g did had p → HasToldOthers g (did ++ acts_of_events e.drops) (had ++ noted_in i (End p.number ∷ [])) q
  cell-told did had before = others-turn g did had (noted_in i (End p.number ∷ [])) e.drops (cell_number g i) p q cell-done.number cell-kinds cell-done.made cell-done.entries before

  -- and what it has seen of cells then
  pub cell-end : (before : List Line) × (front_of i q.own.seen ≡ before ++ end_entry p.number i)
  cell-end = (map line.Entry (map event_numbers e.before.value.history), ap (λ (x : PartyPlace). front_of i x.own.seen) t.gave ∙ back-front)

  -- just that more
  pub cell-last : front_of i q.own.seen ≡ front_of i p.own.seen ++ end_entry p.number i
  cell-last = ap (λ (x : PartyPlace). front_of i x.own.seen) t.gave ∙ (back-front ∙ ap (λ (l : List Line). l ++ end_entry p.number i) before-front)

  pub cell-else : (j : ℕ) → IsCell g j → j ≢ i → front_of j q.own.seen ≡ front_of j p.own.seen
  cell-else j range differs = ap (λ (x : PartyPlace). front_of j x.own.seen) t.gave ∙ back-else j range differs

  -- it knows how the cell began, and gave back all that the cell kept
  pub sees-end : SeesEnd g p.own.about.openings q.own.seen p.number i e.drops
  unfolding cell-end
  sees-end =
      let found = turn-finds g valid i in_range e.before (End p.number ∷ []) e.drops p q config (sees, entries) cell-kinds e.turn in
      record {
        before = e.before;
        opening = found.opening;
        last = cell-end.1;
        kept = record {
          held = held_in e.before;
          are_held = t.tells;
          kept = e.kept;
          all = record { rising = e.all.rising; all = subst (λ (ds : List OutlineDbuf). IsPermutation (filter (λ (d : OutlineDbuf). d.cached) ds) e.kept) (dbufs-so e.before found.sound) e.all.all };
          dropped = e.dropped;
        };
      }

  -- nobody had done anything to a cell from this one on
  module _ (none : IsUntouched g i p) where
    abbrev found : PartyPlace
    found = saw p t.takes.knew

    knew : SameButNotes p.own t.takes.knew
    knew = loses_same dbuf_meanings i t.takes.owners p found t.takes.lost

    no-history : e.before.value.history ≡ []
    no-history = untouched-history g i in_range e.before found all t.takes.free record { own = subst (NoneFrom g i) (sym knew.mine) none.own; joined = none.joined }

    no-drops : e.drops ≡ []
    no-drops = go e.kept (nothing-from _ e.kept (none-cached e.before t.sound no-history) e.all.all) e.dropped
      where
        go : (ds : List OutlineDbuf) → ds ≡ [] → DropsEach (cell_number g i) (held_in e.before) ds e.drops → e.drops ≡ []
        go [] is dropped = dropped
        go (d ∷ ds) is dropped = cc

    back-none : NoneFrom g (suc i) back.own.mine
    back-none j a at range above = elim (get-either t.worked.own.mine (mines_from i (length (recorded dbuf_meanings i t.worked.own)) (length (map line.Entry (map event_numbers t.after.value.history)) - length (recorded dbuf_meanings i t.worked.own))) j a at) [
      | inl old ↦ none.own j a (subst (λ (l : List Mine). get_elem? l j ≡ some a) took.mine (worked-are.left.mine j a range old)) range (omega (arith, above))
      | inr new ↦ let same : a.turn ≡ i = mines-turn i _ _ new.0 a new.1 in absurd (omega (arith, same, above))
    ]

    taken-events : AreSeen g p.number p.own.mine p.own.seen → AreSeen g t.taken.number t.taken.own.mine t.taken.own.seen
    taken-events seen = subst (λ (x : ℕ × List Mine). AreSeen g x.0 x.1 t.taken.own.seen) (λ z. (sym took.number z, sym took.mine z))
        (own-seen-more g p.number p.own.mine p.own.seen t.taken.own.seen (λ k. subst (λ (l : List Line). StartsWith l (front_of (turn_of g k) p.own.seen)) (sym (took-shard k)) (starts_whole (front_of (turn_of g k) p.own.seen))) seen)

    back-events : AreSeen g t.worked.number t.worked.own.mine t.worked.own.seen → AreSeen g back.number back.own.mine back.own.seen
    back-events seen k j a at is = elim (get-either t.worked.own.mine (mines_from i (length (recorded dbuf_meanings i t.worked.own)) (length (map line.Entry (map event_numbers t.after.value.history)) - length (recorded dbuf_meanings i t.worked.own))) j a at) [
      | inl old ↦ subst (λ (l : List Line). IsSeen (parties_of g) t.worked.number l a.place) (sym (back-shard k)) (seen k j a old is)
      | inr new ↦ absurd (no-shard k (sym is ∙ mines-turn i _ _ new.0 a new.1))
    ]

    pub one-idle : HasEndedIdle g i (suc i) e.drops p q
    one-idle = subst (HasEndedIdle g i (suc i) e.drops p) (sym t.gave) record {
      none = no-drops;
      untouched = record {
        own = back-none;
        joined = subst (AllByRecursion (λ k. NoneFrom g (suc i) k.view.mine)) (sym (worked-are.left.stays.joined ∙ took.joined)) (all-later g i p.joined none.joined);
      };
      ends = λ j range above below.
          let is : j ≡ i = omega (arith, above, below) in
          subst (λ (x : ℕ). front_of x back.own.seen ≡ end_entry p.number x) (sym is) (back-front ∙ ap (λ (h : List CellEvent). map line.Entry (map event_numbers h) ++ end_entry p.number i) no-history);
      below = λ j range less. back-else j range (λ is. omega (arith, is, less));
      events = λ seen. back-events (worked-are.events no-drops (taken-events seen));
    }

-- ---- all cells

module _ (g : Config) (valid : IsConfig g) where
  pub record HasEndedFrom (i count : ℕ) (p q : PartyPlace) : Type 0 where
    pub drops : List Event
    pub are : AllByRecursion (IsCellDrop g) drops
    pub some_ended : HasEndedSome g drops p q
    pub told : (did : List Act) (had : List Noted) → HasToldOthers g did had p → HasToldOthers g (did ++ acts_of_events drops) (had ++ noted_ends p.number i count) q
    pub last : (j : ℕ) → IsCell g j → i ≤ j → j < i + count → front_of j q.own.seen ≡ front_of j p.own.seen ++ end_entry p.number j
    pub lower : (j : ℕ) → IsCell g j → j < i → front_of j q.own.seen ≡ front_of j p.own.seen
    pub kept : SeesEnds g p.own.about.openings q.own.seen p.number i count drops
    pub idle : IsUntouched g i p → HasEndedIdle g i (i + count) drops p q

  pub all-ended : (i count : ℕ) (p q : PartyPlace) → i + count ≤ g.cells → p.own.about.config ≡ g → HasSeenItsEvents g p → HasSeenItsEntries g p → HasAll p → EndsFrom g i count p q → HasEndedFrom i count p q
  all-ended i zero p q inside config sees entries all is = subst (HasEndedFrom i 0 p) (sym is) record {
    drops = [];
    are = tt;
    some_ended = record {
      table = refl;
      parties = refl;
      number = refl;
      joined = refl;
      about = refl;
      holds = refl;
      readings = refl;
      sees = sees;
      entries = entries;
      all = all;
      drops = tt;
      picks = λ feeder j. refl;
      shards = λ shard. sym (append-nil (seen_of g shard p));
      own = λ shard. refl;
      starts = λ k. starts_whole (front_of (turn_of g k) p.own.seen);
      older = λ shard place below. refl;
      cells = λ j range. starts_whole (front_of j p.own.seen);
    };
    told = λ did had h. subst (λ (x : List Act × List Noted). HasToldOthers g x.0 x.1 p) (λ z. (sym (append-nil did) z, sym (append-nil had) z)) h;
    last = λ j range above below. absurd (omega (arith, above, below));
    lower = λ j range less. refl;
    kept = refl;
    idle = λ none. record {
      none = refl;
      untouched = subst (λ (k : ℕ). IsUntouched g k p) (let e : i ≡ i + 0 = omega arith in e) none;
      ends = λ j range above below. absurd (omega (arith, above, below));
      below = λ j range less. refl;
      events = λ seen. seen;
    };
  }
  all-ended i (suc count) p q inside config sees entries all ends =
      let r = ends.0 in
      let here : IsCell g i = omega (arith, inside) in
      let a = one-ended g valid i here p r config sees entries all ends.1 in
      let rest = all-ended (suc i) count r q (omega (arith, inside)) (ap (λ (x : About). x.config) a.about ∙ config) a.sees a.entries a.all ends.2 in
      let b = rest.some_ended in
      record {
        drops = ends.1.drops ++ rest.drops;
        are = all-then (IsCellDrop g) ends.1.drops rest.drops (one-are g valid i here p r config sees entries all ends.1) rest.are;
        some_ended = record {
          table = b.table ∙ a.table;
          parties = b.parties ∙ a.parties;
          number = b.number ∙ a.number;
          joined = b.joined ∙ a.joined;
          about = b.about ∙ a.about;
          holds = b.holds ∙ a.holds;
          readings = b.readings ∙ a.readings;
          sees = b.sees;
          entries = b.entries;
          all = b.all;
          drops = all-then (λ e. parties_of g ≤ number_of e) ends.1.drops rest.drops a.drops b.drops;
          picks = λ feeder j. b.picks (a.number ∙ feeder) j ∙ a.picks feeder j;
          shards = λ shard. b.shards shard ∙ (ap (λ (l : List Event). l ++ events_there g shard rest.drops) (a.shards shard)
              ∙ (append_assoc (seen_of g shard p) (events_there g shard ends.1.drops) (events_there g shard rest.drops) ∙ ap (λ (l : List Event). seen_of g shard p ++ l) (sym (there-append g shard ends.1.drops rest.drops))));
          own = λ shard. subst (λ (n : ℕ). own_moments n (moments (opening_of g) (seen_of g shard q)) ≡ own_moments n (moments (opening_of g) (seen_of g shard r))) a.number (b.own shard) ∙ a.own shard;
          starts = λ k. starts-then (front_of (turn_of g k) q.own.seen) (front_of (turn_of g k) r.own.seen) (front_of (turn_of g k) p.own.seen) (b.starts k) (a.starts k);
          older = later-then g p r q a.starts a.older b.older;
          cells = λ j range. starts-then (front_of j q.own.seen) (front_of j r.own.seen) (front_of j p.own.seen) (b.cells j range) (a.cells j range);
        };
        told = λ did had h.
            let now : Noted = record { cell = i; event = End p.number } in
            let first = cell-told g valid i here p r config sees entries all ends.1 did had h in
            subst (λ (x : List Act × List Noted). HasToldOthers g x.0 x.1 q)
            (λ z. (
              (append_assoc did (acts_of_events ends.1.drops) (acts_of_events rest.drops) ∙ ap (λ (l : List Act). did ++ l) (sym (events-acts ends.1.drops rest.drops))) z,
              (append_assoc had (now ∷ []) (noted_ends r.number (suc i) count) ∙ ap (λ (n : ℕ). had ++ now ∷ noted_ends n (suc i) count) a.number) z,
            ))
            (rest.told (did ++ acts_of_events ends.1.drops) (had ++ now ∷ []) first);
        last = λ j range above below. dite (ℕ_discrete j i)
            (λ is. rest.lower j range (omega (arith, is)) ∙ subst (λ (x : ℕ). front_of x r.own.seen ≡ front_of x p.own.seen ++ end_entry p.number x) (sym is) (cell-last g valid i here p r config sees entries all ends.1))
            (λ differs.
            rest.last j range (later j i above differs) (omega (arith, below)) ∙ (λ z. cell-else g valid i here p r config sees entries all ends.1 j range differs z ++ end_entry (a.number z) j));
        lower = λ j range less. rest.lower j range (omega (arith, less)) ∙ cell-else g valid i here p r config sees entries all ends.1 j range (λ is. omega (arith, is, less));
        kept =
            let e = sees-end g valid i here p r config sees entries all ends.1 in (
              ends.1.drops,
              rest.drops,
              refl,
              record { before = e.before; opening = e.opening; last = rest.lower i here (omega arith) ∙ e.last; kept = e.kept },
              subst (λ (x : ℕ × List (List ℕ)). SeesEnds g x.1 q.own.seen x.0 (suc i) count rest.drops) (λ z. (a.number z, (ap (λ (x : About). x.openings) a.about) z)) rest.kept,
            );
        idle = λ none.
            let x = one-idle g valid i here p r config sees entries all ends.1 none in
            let y = rest.idle x.untouched in
            record {
              none = (λ z. x.none z ++ y.none z);
              untouched = subst (λ (k : ℕ). IsUntouched g k q) (let e : suc i + count ≡ i + suc count = omega arith in e) y.untouched;
              ends = λ j range above below. dite (ℕ_discrete j i)
                  (λ is. y.below j range (omega (arith, is)) ∙ x.ends j range above (omega (arith, is)))
                  (λ differs. y.ends j range (later j i above differs) (omega (arith, below)) ∙ ap (λ (n : ℕ). end_entry n j) a.number);
              below = λ j range less. y.below j range (omega (arith, less)) ∙ x.below j range less;
              events = λ seen. y.events (x.events seen);
            };
      }
    where
      later : (j i : ℕ) → i ≤ j → j ≢ i → suc i ≤ j
      later j i above differs = omega arith
