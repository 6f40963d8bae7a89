-- A party that has every number and all cells in hand has blocks inserted under their cells' numbers: what it has seen then.
use Rattle.std.proofs.Common.{◌≡◌, ◌==◌, ℕ, ◌<◌, Bool, true, false, if◌then◌else◌, IsTrue, List, [], ◌∷◌, ◌++◌, Some, map, refl, sym, ap, ◌∙◌, subst, inl, inr, arith, append-nil, append_assoc, eq-eqb, ne_eqb}
use Rattle.std.specs.List.{AllByRecursion}
use mathlib.Core.Logic.{dite}
use native.Mathlib.Decide.{ℕ_discrete}
use Rattle.std.proofs.lemmas.Bool.{eqb-true}
use Rattle.std.proofs.lemmas.List.{map-append}
use Rattle.arc_lists.proofs.Tables.{cases_true}
use Rattle.blk_ptr.specs.Hash.{shard_of}
use Rattle.blk_ptr.specs.Key.{is_well_formed}
use Rattle.blk_ptr.specs.declared.digest.Digest.{Digest}
use Rattle.blk_ptr.specs.declared.key.Key.{Key}
use Rattle.blk_ptr.specs.declared.ptr.Ptr.{Ptr}
use Rattle.arc_core.specs.Config.{IsConfig}
use Rattle.arc_core.specs.declared.config.Config.{Config}
use Rattle.arc_core.specs.declared.event.Event.{Event}
use Rattle.arc_core.specs.declared.event.Event.TheVariants.{Insert}
use Rattle.arc_core.specs.PlainShard.{PlainShard, is_cell}
use Rattle.arc_core.specs.Replay.{is_legal_history, replay}
use Rattle.arc_core.specs.Step.{after, is_new_here, legal, written_entry}
use Rattle.arc_core.proofs.Victims.{kept-taken_in}
use Rattle.turn_table.specs.Board.{IsAmong}
use Rattle.arc_table.specs.declared.about.About.{About}
use Rattle.arc_table.specs.declared.front.Front.{Front}
use Rattle.arc_table.specs.declared.view.Ledger.{Ledger}
use Rattle.arc_table.specs.Both.{Does}
use Rattle.arc_table.specs.feeder.Listing.{picks_of}
use Rattle.arc_table.specs.declared.view.Line.{Line}
use Rattle.arc_table.specs.declared.view.Line.TheVariants as line
use Rattle.arc_table.specs.Booking.{with_hold}
use Rattle.arc_table.specs.scans.Ending.{DoesRoomy}
use Rattle.arc_table.specs.Geometry.{IsCell, cell_number, parties_of}
use Rattle.arc_table.specs.Seen.{AddsAll, HasAll, IsNumberOrCell, MadeBy, events_in, seen_of, turn_of}
use Rattle.arc_table.specs.ShardGiving.{holds_through, readings_through}
use Rattle.arc_table.specs.Telling.{Tells, opening_of}
use Rattle.arc_table.proofs.feeder.PicksAfter.{same_picks}
use Rattle.arc_table.proofs.HoldEvents.{cell_is}
use Rattle.arc_table.proofs.SeenLemmas.{events-map}
use Rattle.arc_table.proofs.OwnLemmas.{grows, made-all, made-alone, made-sees}
use Rattle.arc_table.proofs.cell_lemmas.CellsInHand.{cell-kept-roomy}
use Rattle.arc_table.proofs.scans.RoomyAfter.{does_roomy_ledger}
use Rattle.arc_table.proofs.scans.RoomyLemmas.{roomy-made}
use Rattle.arc_table.proofs.scans.ScanAlone.{scan-alone}
use Rattle.dbuf_cells.specs.Turns.{PartyPlace, dbuf_meanings}
use Rattle.dbuf_state.proofs.IndexLemmas.{and-parts}
use Rattle.txg_sync.specs.Items.{SyncItem}
use Rattle.txg_sync.specs.Turns.{InsertsAll, InsertsItem, inserted, there}
use Rattle.trace_run.specs.Deeds.{events_there}
use Rattle.trace_run.specs.MadeLines.{made_of}
use Rattle.trace_run.specs.Making.{HasSeenItsEvents}
use Rattle.trace_run.specs.Syncing.{IsInsert, insert_of, inserts_in, AreHeldNew, insert_noted, noted_of}
use Rattle.trace_run.proofs.CellEnds.{AreCellDrops, HasDropped, dropped-none, dropped-then, look-dropped}
use Rattle.trace_run.proofs.CellsLeft.{roomy-leaves}
use Rattle.trace_run.proofs.deeds.MakesLemmas.{MakesMore, makes-more, roomy-long, made-later}
use Rattle.trace_run.proofs.deeds.TurnMakes.{TurnMakes, all-made, there-append}
use Rattle.trace_run.proofs.feeds.PickedLemmas.{roomy-picks}
use Rattle.dbuf_state.specs.declared.event.CellEvent.TheVariants.{Synced as WasSynced}

-- an Insert leaves what is picked
insert-picked : (s : PlainShard) (n : ℕ) (k : Key) (d : Digest) (t : ℕ) → (after s (Insert n k d t)).picked ≡ s.picked
insert-picked s n k d t = kept-taken_in (λ (u : PlainShard). u.picked) (λ u es q. refl) (written_entry n k d t) s

module _ (g : Config) (valid : IsConfig g) (tick : ℕ) where
  -- ---- one block

  module _ (x : SyncItem) (p q : PartyPlace) (config : p.own.about.config ≡ g) (low : p.number < parties_of g) (sees : HasSeenItsEvents g p) (all : HasAll p) (hand : (j : ℕ) → IsCell g j → IsAmong j p.held) (inside : IsCell g x.due.cell)
      (d : DoesRoomy dbuf_meanings g x.ptr.key (insert_of g tick x) p q) where
    abbrev k : Key
    k = x.ptr.key

    abbrev c : ℕ
    c = cell_number g x.due.cell

    abbrev e : Event
    e = insert_of g tick x

    abbrev here : ℕ
    here = shard_of g.shards k

    -- no scan of a party with every number passes a key
    none : d.makes.passes ≡ []
    none = scan-alone dbuf_meanings g k e p q all d

    made : MadeBy (IsNumberOrCell g) g here d.before (d.makes.passes ++ e ∷ []) p q
    made = roomy-made dbuf_meanings g valid k e p q config sees (inl refl) (inr (omega arith), refl, cell_is g x.due.cell valid inside) d

    adds : AddsAll g here (e ∷ []) p q
    adds = subst (λ (l : List Event). AddsAll g here (l ++ e ∷ []) p q) none (made-alone g here d.before (d.makes.passes ++ e ∷ []) p q made all)

    -- what the party found is what it had seen, and the key is new there
    found-whole : d.before.history ≡ seen_of g here p
    found-whole = made.found.whole ∙ (ap (λ (l : List Event). seen_of g here p ++ l) (made.found.alone all) ∙ append-nil (seen_of g here p))

    new-there : is_new_here k (replay (opening_of g) (seen_of g here p)) ≡ true
    new-there =
        let lawful : IsTrue (is_legal_history d.before.now (e ∷ [])) = subst (λ (l : List Event). IsTrue (is_legal_history d.before.now (l ++ e ∷ []))) none d.makes.legal in
        let ok : IsTrue (legal d.before.now e) = (and-parts (legal d.before.now e) true lawful).0 in
        let parts = (and-parts (is_cell c) _ ok).1 in
        ap (λ (l : List Event). is_new_here k (replay (opening_of g) l)) (sym found-whole) ∙ (ap (is_new_here k) made.replayed ∙ (and-parts (is_well_formed k) _ parts).1)

    pub one-picks : p.number ≡ g.callers → (i : ℕ) → picks_of i q ≡ picks_of i p
    one-picks feeder = roomy-picks dbuf_meanings g k e p q (valid, config, feeder) d
        (ap (λ (es : List Event). (replay d.before.now (es ++ e ∷ [])).picked) none ∙ insert-picked d.before.now c k x.ptr.digest tick)

    one-there : (shard : ℕ) → events_there g shard (e ∷ []) ≡ (if here == shard then (e ∷ []) else [])
    one-there shard = elim (cases_true (here == shard)) [
      | inl is ↦ rw is refl
      | inr out ↦ rw out refl
    ]

    -- what it made of histories more
    one-makes : MakesMore g here (e ∷ []) p q
    one-makes = subst (λ (l : List Event). MakesMore g here (l ++ e ∷ []) p q) none
        (makes-more g here d.before (d.makes.passes ++ e ∷ []) p q made (roomy-long dbuf_meanings g valid k p q config e d made) sees.own (roomy-leaves dbuf_meanings g valid k e p q config d).fronts)

    pub one-made : (shard : ℕ) → made_of (turn_of g shard) q ≡ made_of (turn_of g shard) p ++ map line.Event (events_there g shard (e ∷ []))
    one-made shard = dite (ℕ_discrete here shard)
        (λ is. subst (λ (s : ℕ). made_of (turn_of g s) q ≡ made_of (turn_of g s) p ++ map line.Event (e ∷ [])) is one-makes.here
        ∙ ap (λ (l : List Event). made_of (turn_of g shard) p ++ map line.Event l) (sym (one-there shard ∙ ap (λ (b : Bool). if b then (e ∷ []) else []) (eq-eqb here shard is))))
        (λ differs. one-makes.others shard (λ same. differs (sym same))
        ∙ (sym (append-nil (made_of (turn_of g shard) p)) ∙ ap (λ (l : List Event). made_of (turn_of g shard) p ++ map line.Event l) (sym (one-there shard ∙ ap (λ (b : Bool). if b then (e ∷ []) else []) (ne_eqb here shard differs)))))

    pub one-cells : (i : ℕ) → IsCell g i → made_of i q ≡ made_of i p
    one-cells = one-makes.cells

    not-mine : (n : ℕ) (hs : List Ptr) → n < parties_of g → (if n == c then with_hold k (Some x.ptr.digest) hs else hs) ≡ hs
    not-mine n hs below = let other : (n == c) ≡ false = ne_eqb n c (λ same. absurd (omega (arith, same, below))) in ap (λ (b : Bool). if b then with_hold k (Some x.ptr.digest) hs else hs) other

    pub one-inserted : HasDropped g (e ∷ []) p q
    one-inserted = record {
      left = roomy-leaves dbuf_meanings g valid k e p q config d;
      holds = ap (λ (l : Ledger). l.holds) (does_roomy_ledger dbuf_meanings g valid k e p q config d)
          ∙ (ap (λ (l : List Event). holds_through p.number d.before.now (l ++ e ∷ []) p.own.ledger.holds) none ∙ not-mine p.number p.own.ledger.holds low);
      readings = ap (λ (l : Ledger). l.readings) (does_roomy_ledger dbuf_meanings g valid k e p q config d)
          ∙ ap (λ (l : List Event). readings_through p.number (l ++ e ∷ []) p.own.ledger.readings) none;
      sees = made-sees g here d.before (d.makes.passes ++ e ∷ []) p q made sees;
      all = made-all g here d.before (d.makes.passes ++ e ∷ []) p q made all;
      shards = λ shard. dite (ℕ_discrete here shard)
          (λ is.
          let test : (here == shard) ≡ true = eq-eqb here shard is in
          subst (λ (s : ℕ). seen_of g s q ≡ seen_of g s p ++ e ∷ []) is adds.here ∙ ap (λ (l : List Event). seen_of g shard p ++ l) (sym (one-there shard ∙ ap (λ (b : Bool). if b then (e ∷ []) else []) test)))
          (λ differs.
          let test : (here == shard) ≡ false = ne_eqb here shard differs in
          adds.others shard (λ same. differs (sym same)) ∙ (sym (append-nil (seen_of g shard p)) ∙ ap (λ (l : List Event). seen_of g shard p ++ l) (sym (one-there shard ∙ ap (λ (b : Bool). if b then (e ∷ []) else []) test))));
      starts = grows g here d.before (d.makes.passes ++ e ∷ []) p q made;
      older = made-later g here d.before (d.makes.passes ++ e ∷ []) p q made;
      recorded = λ i in_range. (cell-kept-roomy dbuf_meanings g valid k e p q config d i in_range (hand i in_range)).recorded;
      events = λ empty. absurd (some-event empty);
      picks = λ feeder j. one-picks feeder j;
    }
      where
        some-event : e ∷ [] ≡ [] → ⊥
        some-event is = cc

  -- ---- a block of which the key was there

  module _ (x : SyncItem) (p q : PartyPlace) (config : p.own.about.config ≡ g) (sees : HasSeenItsEvents g p) (all : HasAll p) (front : Front) (d : Does dbuf_meanings g x.ptr.key [] p q)
      (tells : Tells (λ s. is_new_here x.ptr.key s ≡ false) g x.ptr.key p q front) where
    pub looked : HasDropped g [] p q
    looked = look-dropped g valid 1 p q config sees all (x.ptr.key, p, refl, d)

    not-new : is_new_here x.ptr.key (replay (opening_of g) (seen_of g (shard_of g.shards x.ptr.key) p)) ≡ false
    not-new =
        let here : ℕ = shard_of g.shards x.ptr.key in
        let now : seen_of g here q ≡ tells.events = ap events_in tells.seen ∙ events-map tells.events in
        let is : seen_of g here p ≡ tells.events = sym (append-nil (seen_of g here p)) ∙ (sym (looked.shards here) ∙ now) in
        ap (λ (l : List Event). is_new_here x.ptr.key (replay (opening_of g) l)) is ∙ tells.so

    look-makes : p.number < parties_of g → TurnMakes g [] p q
    look-makes low = all-made g valid (parties_of g) [] p q (omega arith) low config sees tt (1, (x.ptr.key, p, refl, d))

    look-picks : p.number ≡ g.callers → (i : ℕ) → picks_of i q ≡ picks_of i p
    look-picks feeder = same_picks dbuf_meanings g x.ptr.key [] p q (valid, config, feeder) d refl

  -- ---- all blocks

  -- what a party with every number has seen once these blocks were inserted: it made these events, of each shard just the Inserts of those that are new there
  pub record HasInserted (xs : List SyncItem) (p q : PartyPlace) : Type 0 where
    pub events : List Event
    pub are : (shard : ℕ) → events_there g shard events ≡ inserts_in g tick xs shard (seen_of g shard p)
    pub cells : AreCellDrops g events
    pub kinds : AllByRecursion (IsInsert g) events
    pub did : HasDropped g events p q
    pub made : (shard : ℕ) → made_of (turn_of g shard) q ≡ made_of (turn_of g shard) p ++ map line.Event (events_there g shard events)
    pub cells_made : (i : ℕ) → IsCell g i → made_of i q ≡ made_of i p
    pub picks : p.number ≡ g.callers → (i : ℕ) → picks_of i q ≡ picks_of i p
    pub held : (n shard : ℕ) → AreHeldNew g tick (noted_of n xs) shard (seen_of g shard p)

  -- one that comes in, and those behind it
  first-in : (x : SyncItem) (xs : List SyncItem) (p r : PartyPlace) (es : List Event) → is_new_here x.ptr.key (replay (opening_of g) (seen_of g (shard_of g.shards x.ptr.key) p)) ≡ true
      → HasDropped g (insert_of g tick x ∷ []) p r → ((shard : ℕ) → events_there g shard es ≡ inserts_in g tick xs shard (seen_of g shard r))
      → (shard : ℕ) → events_there g shard (insert_of g tick x ∷ es) ≡ inserts_in g tick (x ∷ xs) shard (seen_of g shard p)
  first-in x xs p r es new did rest shard = elim (cases_true (shard_of g.shards x.ptr.key == shard)) [
    | inl here ↦
        let new_here : is_new_here x.ptr.key (replay (opening_of g) (seen_of g shard p)) ≡ true = subst (λ (n : ℕ). is_new_here x.ptr.key (replay (opening_of g) (seen_of g n p)) ≡ true) (eqb-true (shard_of g.shards x.ptr.key) shard here) new in
        let seen : seen_of g shard r ≡ seen_of g shard p ++ insert_of g tick x ∷ [] =
        did.shards shard ∙ ap (λ (b : Bool). seen_of g shard p ++ (if b then insert_of g tick x ∷ [] else [])) here in
        rw (here, new_here) (ap (λ (l : List Event). insert_of g tick x ∷ l) (rest shard ∙ ap (inserts_in g tick xs shard) seen))
    | inr out ↦
        let seen : seen_of g shard r ≡ seen_of g shard p =
        did.shards shard ∙ (ap (λ (b : Bool). seen_of g shard p ++ (if b then insert_of g tick x ∷ [] else [])) out ∙ append-nil (seen_of g shard p)) in
        rw out (rest shard ∙ ap (inserts_in g tick xs shard) seen)
  ]

  -- one whose key was there, and those behind it
  first-out : (x : SyncItem) (xs : List SyncItem) (p r : PartyPlace) (es : List Event) → is_new_here x.ptr.key (replay (opening_of g) (seen_of g (shard_of g.shards x.ptr.key) p)) ≡ false
      → HasDropped g [] p r → ((shard : ℕ) → events_there g shard es ≡ inserts_in g tick xs shard (seen_of g shard r))
      → (shard : ℕ) → events_there g shard es ≡ inserts_in g tick (x ∷ xs) shard (seen_of g shard p)
  first-out x xs p r es old did rest shard =
      let same : seen_of g shard r ≡ seen_of g shard p = did.shards shard ∙ append-nil (seen_of g shard p) in
      elim (cases_true (shard_of g.shards x.ptr.key == shard)) [
        | inl here ↦
            let old_here : is_new_here x.ptr.key (replay (opening_of g) (seen_of g shard p)) ≡ false = subst (λ (n : ℕ). is_new_here x.ptr.key (replay (opening_of g) (seen_of g n p)) ≡ false) (eqb-true (shard_of g.shards x.ptr.key) shard here) old in
            rw (here, old_here) (rest shard ∙ ap (inserts_in g tick xs shard) same)
        | inr out ↦ rw out (rest shard ∙ ap (inserts_in g tick xs shard) same)
      ]

  -- what the party has seen of a shard once one was noted
  abbrev seen_with : (n : ℕ) → SyncItem → PartyPlace → ℕ → List Event
  seen_with n x p shard = seen_of g shard p ++ insert_noted g tick x.due.cell shard (seen_of g shard p) (WasSynced n x.due.at x.ptr x.held)

  seen-in : (n : ℕ) (x : SyncItem) (p r : PartyPlace) → is_new_here x.ptr.key (replay (opening_of g) (seen_of g (shard_of g.shards x.ptr.key) p)) ≡ true
      → HasDropped g (insert_of g tick x ∷ []) p r → (shard : ℕ) → seen_with n x p shard ≡ seen_of g shard r
  seen-in n x p r new did shard = elim (cases_true (shard_of g.shards x.ptr.key == shard)) [
    | inl here ↦
        let new_here : is_new_here x.ptr.key (replay (opening_of g) (seen_of g shard p)) ≡ true = subst (λ (m : ℕ). is_new_here x.ptr.key (replay (opening_of g) (seen_of g m p)) ≡ true) (eqb-true (shard_of g.shards x.ptr.key) shard here) new in
        let seen : seen_of g shard r ≡ seen_of g shard p ++ insert_of g tick x ∷ [] =
        did.shards shard ∙ ap (λ (b : Bool). seen_of g shard p ++ (if b then insert_of g tick x ∷ [] else [])) here in
        rw (here, new_here) (sym seen)
    | inr out ↦
        let seen : seen_of g shard r ≡ seen_of g shard p =
        did.shards shard ∙ (ap (λ (b : Bool). seen_of g shard p ++ (if b then insert_of g tick x ∷ [] else [])) out ∙ append-nil (seen_of g shard p)) in
        rw out (append-nil (seen_of g shard p) ∙ sym seen)
  ]

  seen-out : (n : ℕ) (x : SyncItem) (p r : PartyPlace) → is_new_here x.ptr.key (replay (opening_of g) (seen_of g (shard_of g.shards x.ptr.key) p)) ≡ false
      → HasDropped g [] p r → (shard : ℕ) → seen_with n x p shard ≡ seen_of g shard r
  seen-out n x p r old did shard =
      let same : seen_of g shard r ≡ seen_of g shard p = did.shards shard ∙ append-nil (seen_of g shard p) in
      elim (cases_true (shard_of g.shards x.ptr.key == shard)) [
        | inl here ↦
            let old_here : is_new_here x.ptr.key (replay (opening_of g) (seen_of g shard p)) ≡ false = subst (λ (m : ℕ). is_new_here x.ptr.key (replay (opening_of g) (seen_of g m p)) ≡ false) (eqb-true (shard_of g.shards x.ptr.key) shard here) old in
            rw (here, old_here) (append-nil (seen_of g shard p) ∙ sym same)
        | inr out ↦ rw out (append-nil (seen_of g shard p) ∙ sym same)
      ]

  -- a block keeps a hold where its key is new, and so do those behind it
  held-first : (n : ℕ) (x : SyncItem) (xs : List SyncItem) (p r : PartyPlace) (b : Bool) → x.held ≡ b → is_new_here x.ptr.key (replay (opening_of g) (seen_of g (shard_of g.shards x.ptr.key) p)) ≡ b
      → ((shard : ℕ) → seen_with n x p shard ≡ seen_of g shard r) → ((shard : ℕ) → AreHeldNew g tick (noted_of n xs) shard (seen_of g shard r))
      → (shard : ℕ) → AreHeldNew g tick (noted_of n (x ∷ xs)) shard (seen_of g shard p)
  held-first n x xs p r b says new seen rest shard = (
    (λ here. says ∙ sym (subst (λ (m : ℕ). is_new_here x.ptr.key (replay (opening_of g) (seen_of g m p)) ≡ b) here new)),
    subst (AreHeldNew g tick (noted_of n xs) shard) (sym (seen shard)) (rest shard),
  )

  made-both : (shard : ℕ) (es fs : List Event) (p q r : PartyPlace) → made_of (turn_of g shard) q ≡ made_of (turn_of g shard) p ++ map line.Event (events_there g shard es)
      → made_of (turn_of g shard) r ≡ made_of (turn_of g shard) q ++ map line.Event (events_there g shard fs) → made_of (turn_of g shard) r ≡ made_of (turn_of g shard) p ++ map line.Event (events_there g shard (es ++ fs))
  made-both shard es fs p q r a b =
      b ∙ (ap (λ (l : List Line). l ++ map line.Event (events_there g shard fs)) a
      ∙ (append_assoc (made_of (turn_of g shard) p) (map line.Event (events_there g shard es)) (map line.Event (events_there g shard fs))
      ∙ ap (λ (l : List Line). made_of (turn_of g shard) p ++ l) (sym (map-append line.Event (events_there g shard es) (events_there g shard fs)) ∙ ap (map line.Event) (sym (there-append g shard es fs)))))

  pub all-inserted : (xs : List SyncItem) (p q : PartyPlace) → p.own.about.config ≡ g → p.number < parties_of g → HasSeenItsEvents g p → HasAll p → ((j : ℕ) → IsCell g j → IsAmong j p.held)
      → AllByRecursion (λ x. IsCell g x.due.cell) xs → InsertsAll g tick xs p q → HasInserted xs p q
  all-inserted [] p q config low sees all hand inside is = record {
    events = [];
    are = λ shard. refl;
    cells = tt;
    kinds = tt;
    did = dropped-none g p q sees all is;
    made = λ shard. ap (made_of (turn_of g shard)) is ∙ sym (append-nil (made_of (turn_of g shard) p));
    cells_made = λ i in_range. ap (made_of i) is;
    picks = λ feeder i. ap (picks_of i) is;
    held = λ n shard. tt;
  }
  all-inserted (x ∷ xs) p q config low sees all hand inside did = go did.1 (λ es a.
      all-inserted xs did.0 q (ap (λ (y : About). y.config) a.left.stays.about ∙ config) (subst (λ (n : ℕ). n < parties_of g) (sym a.left.stays.number) low) a.sees a.all
      (λ j in_range. subst (IsAmong j) (sym a.left.stays.held) (hand j in_range)) inside.1 did.2)
    where
      go : InsertsItem g tick x p did.0 → ((es : List Event) → HasDropped g es p did.0 → HasInserted xs did.0 q) → HasInserted (x ∷ xs) p q
      go (inserted says d) rest =
          let a = one-inserted x p did.0 config low sees all hand inside.0 d in
          let b = rest (insert_of g tick x ∷ []) a in
          record {
            events = insert_of g tick x ∷ b.events;
            are = first-in x xs p did.0 b.events (new-there x p did.0 config low sees all hand inside.0 d) a b.are;
            cells = (omega arith, b.cells);
            kinds = ((x.due.cell, x.ptr.key, x.ptr.digest, tick, refl, inside.0), b.kinds);
            did = dropped-then g (insert_of g tick x ∷ []) b.events p did.0 q a b.did;
            made = λ shard. made-both shard (insert_of g tick x ∷ []) b.events p did.0 q (one-made x p did.0 config low sees all hand inside.0 d shard) (b.made shard);
            cells_made = λ i in_range. b.cells_made i in_range ∙ one-cells x p did.0 config low sees all hand inside.0 d i in_range;
            picks = λ feeder i. b.picks (a.left.stays.number ∙ feeder) i ∙ one-picks x p did.0 config low sees all hand inside.0 d feeder i;
            held = λ n.
                let new = new-there x p did.0 config low sees all hand inside.0 d in
                held-first n x xs p did.0 true says new (seen-in n x p did.0 new a) (b.held n);
          }
      go (there says front d tells) rest =
          let a = looked x p did.0 config sees all front d tells in
          let b = rest [] a in
          record {
            events = b.events;
            are = first-out x xs p did.0 b.events (not-new x p did.0 config sees all front d tells) a b.are;
            cells = b.cells;
            kinds = b.kinds;
            did = dropped-then g [] b.events p did.0 q a b.did;
            made = λ shard. made-both shard [] b.events p did.0 q ((look-makes x p did.0 config sees all front d tells low).made shard) (b.made shard);
            cells_made = λ i in_range. b.cells_made i in_range ∙ (look-makes x p did.0 config sees all front d tells low).cells_made i in_range;
            picks = λ feeder i. b.picks (a.left.stays.number ∙ feeder) i ∙ look-picks x p did.0 config sees all front d tells feeder i;
            held = λ n.
                let old = not-new x p did.0 config sees all front d tells in
                held-first n x xs p did.0 false says old (seen-out n x p did.0 old a) (b.held n);
          }
