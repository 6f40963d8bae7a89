-- What a party makes of shards while it has a cell in hand, and what it has seen and lists then.
use Rattle.std.proofs.Common.{◌≡◌, ◌≢◌, ◌⊎◌, ℕ, zero, suc, ◌<◌, ◌≤◌, ◌==◌, Bool, true, false, if◌then◌else◌, List, [], ◌∷◌, ◌++◌, map, Option, Some, refl, sym, ap, ◌∙◌, subst, inl, inr, arith, append-nil, append_assoc, eq-eqb, ne_eqb}
use Rattle.std.specs.List.{AllByRecursion}
use Rattle.std.specs.Option.{option_map_or}
use Rattle.std.proofs.lemmas.List.{map-append}
use Rattle.std.proofs.lemmas.List.Elements.{filter-append}
use mathlib.Core.Logic.{dite}
use mathlib.Core.Option.{some-ne-none}
use native.Mathlib.Decide.{ℕ_discrete}
use Rattle.arc_lists.proofs.Tables.{cases_true}
use Rattle.blk_ptr.specs.Hash.{shard_of}
use Rattle.blk_ptr.specs.declared.key.Key.{Key}
use Rattle.blk_ptr.specs.declared.ptr.Ptr.{Ptr}
use Rattle.arc_core.specs.Config.{IsConfig}
use Rattle.arc_core.specs.declared.config.Config.{Config}
use Rattle.arc_core.specs.declared.event.Event.{Event}
use Rattle.arc_core.specs.declared.event.Event.TheVariants.{Drop, Hand, Release}
use Rattle.arc_core.specs.Operations.{Moment, event_key, is_pass, moments, number_of, own_events, own_moments}
use Rattle.arc_core.specs.PlainShard.{PlainShard}
use Rattle.arc_core.proofs.OwnEvents.{own-events-are}
use Rattle.arc_table.specs.declared.about.About.{About}
use Rattle.arc_table.specs.declared.view.Ledger.{Ledger}
use Rattle.arc_table.specs.declared.view.Line.{Line}
use Rattle.arc_table.specs.declared.view.Line.TheVariants as line
use Rattle.arc_table.specs.Both.{Does}
use Rattle.arc_table.specs.Fronts.{StartsWith, front_of, item_at}
use Rattle.arc_table.specs.Geometry.{IsCell, parties_of}
use Rattle.arc_table.specs.Seen.{AreOwnBy, HasAll, IsNumberOrCell, MadeBy, seen_of, turn_of}
use Rattle.arc_table.specs.ShardGiving.{holds_through, readings_through}
use Rattle.arc_table.specs.TableLaws.{starts_whole}
use Rattle.arc_table.specs.Telling.{opening_of}
use Rattle.arc_table.proofs.Afterwards.{does_ledger}
use Rattle.arc_table.proofs.cell_lemmas.CellsInHand.{cell-recorded}
use Rattle.arc_table.proofs.MadeLemmas.{does-made}
use Rattle.arc_table.proofs.OwnLemmas.{grows, made-all, made-alone, made-own, made-sees}
use Rattle.arc_table.proofs.reads.ReadMoments.{own-single-by}
use Rattle.dbuf_cells.specs.Turns.{LooksTimes, MakesAll, PartyPlace, dbuf_meanings}
use Rattle.trace_run.specs.dbufs.DbufTurns.{held_after, held_through}
use Rattle.trace_run.specs.Deeds.{MakesLater, events_there}
use Rattle.trace_run.specs.MadeLines.{made_of}
use Rattle.trace_run.specs.Making.{HasSeenItsEvents}
use Rattle.trace_run.proofs.CellsLeft.{LeavesCells, does-leaves, leaves-same, leaves-then}
use Rattle.trace_run.proofs.deeds.MakesLemmas.{does-long, later-same, later-then, makes-more}

-- With a cell in hand its party hands a hold of its own to the cell, or drops or releases one with the cell's number c.
abbrev pub IsTurnEvent : (n c : ℕ) → Event → Type 0
IsTurnEvent n c e = ((k : Key) × (e ≡ Hand n k c)) ⊎ ((k : Key) × (e ≡ Drop c k)) ⊎ ((k : Key) × (sole : Bool) × (e ≡ Release c k sole))

abbrev pub AreTurnEvents : (n c : ℕ) → List Event → Type 0
AreTurnEvents n c = AllByRecursion (IsTurnEvent n c)

-- The party made these events of shards: it has seen them, and what others did before; it lists what it did, and of cells it has seen what it had.
pub record TurnMakes (g : Config) (es : List Event) (p q : PartyPlace) : Type 0 where
  pub left : LeavesCells g p q
  pub holds : q.own.ledger.holds ≡ held_through p.number es p.own.ledger.holds
  pub readings : q.own.ledger.readings ≡ p.own.ledger.readings
  pub sees : HasSeenItsEvents g q
  pub all : HasAll p → HasAll q
  pub alone : HasAll p → (shard : ℕ) → seen_of g shard q ≡ seen_of g shard p ++ events_there g shard es
  pub made : (shard : ℕ) → made_of (turn_of g shard) q ≡ made_of (turn_of g shard) p ++ map line.Event (events_there g shard es)
  pub own : (shard : ℕ) → (ms : List Moment) × (own_moments p.number (moments (opening_of g) (seen_of g shard q)) ≡ own_moments p.number (moments (opening_of g) (seen_of g shard p)) ++ ms)
      × (map (λ (x : Moment). x.event) ms ≡ own_events p.number (events_there g shard es))
  pub cells_made : (i : ℕ) → IsCell g i → made_of i q ≡ made_of i p
  pub starts : (i : ℕ) → StartsWith (front_of (turn_of g i) q.own.seen) (front_of (turn_of g i) p.own.seen)
  pub older : MakesLater g p q
  pub recorded : (i : ℕ) → IsCell g i → item_at i q.own.records ≡ item_at i p.own.records

module _ (g : Config) where
  pub there-append : (shard : ℕ) (es fs : List Event) → events_there g shard (es ++ fs) ≡ events_there g shard es ++ events_there g shard fs
  there-append shard es fs = filter-append _ es fs

  pub held-append : (n : ℕ) (es fs : List Event) (hs : List Ptr) → held_through n (es ++ fs) hs ≡ held_through n fs (held_through n es hs)
  held-append n [] fs hs = refl
  held-append n (e ∷ es) fs hs = held-append n es fs (held_after n e hs)

  pub starts-on : (c b a : List Line) → StartsWith c b → StartsWith b a → StartsWith c a
  starts-on c b a outer inner = (inner.0 ++ outer.0, outer.1 ∙ (ap (λ l. l ++ outer.0) inner.1 ∙ append_assoc a inner.0 outer.0))

  turn-none : (p q : PartyPlace) → HasSeenItsEvents g p → q ≡ p → TurnMakes g [] p q
  turn-none p q sees e = subst (TurnMakes g [] p) (sym e) record {
    left = leaves-same g p p refl;
    holds = refl;
    readings = refl;
    sees = sees;
    all = λ all. all;
    alone = λ all shard. sym (append-nil (seen_of g shard p));
    made = λ shard. sym (append-nil (made_of (turn_of g shard) p));
    own = λ shard. ([], sym (append-nil (own_moments p.number (moments (opening_of g) (seen_of g shard p)))), refl);
    cells_made = λ i in_range. refl;
    starts = λ i. starts_whole (front_of (turn_of g i) p.own.seen);
    older = later-same g p p refl;
    recorded = λ i in_range. refl;
  }

  pub own-there : (n shard : ℕ) (es fs : List Event) → own_events n (events_there g shard (es ++ fs)) ≡ own_events n (events_there g shard es) ++ own_events n (events_there g shard fs)
  own-there n shard es fs = ap (own_events n) (there-append shard es fs) ∙ filter-append _ (events_there g shard es) (events_there g shard fs)

  pub turn-then : (es fs : List Event) (p q r : PartyPlace) → TurnMakes g es p q → TurnMakes g fs q r → TurnMakes g (es ++ fs) p r
  turn-then es fs p q r a b = record {
    left = leaves-then g p q r a.left b.left;
    holds = b.holds ∙ ((λ i. held_through (a.left.stays.number i) fs (a.holds i)) ∙ sym (held-append p.number es fs p.own.ledger.holds));
    readings = b.readings ∙ a.readings;
    sees = b.sees;
    all = λ all. b.all (a.all all);
    alone = λ all shard. b.alone (a.all all) shard ∙ (ap (λ (l : List Event). l ++ events_there g shard fs) (a.alone all shard)
        ∙ (append_assoc (seen_of g shard p) (events_there g shard es) (events_there g shard fs) ∙ ap (λ (l : List Event). seen_of g shard p ++ l) (sym (there-append shard es fs))));
    made = λ shard. b.made shard ∙ (ap (λ (l : List Line). l ++ map line.Event (events_there g shard fs)) (a.made shard)
        ∙ (append_assoc (made_of (turn_of g shard) p) (map line.Event (events_there g shard es)) (map line.Event (events_there g shard fs))
        ∙ ap (λ (l : List Line). made_of (turn_of g shard) p ++ l) (sym (map-append line.Event (events_there g shard es) (events_there g shard fs)) ∙ ap (map line.Event) (sym (there-append shard es fs)))));
    own = λ shard.
        let x = a.own shard in
        let y = subst (λ (n : ℕ). (ms : List Moment) × (own_moments n (moments (opening_of g) (seen_of g shard r)) ≡ own_moments n (moments (opening_of g) (seen_of g shard q)) ++ ms)
        × (map (λ (x : Moment). x.event) ms ≡ own_events n (events_there g shard fs))) a.left.stays.number (b.own shard) in (
          x.0 ++ y.0,
          y.1 ∙ (ap (λ (l : List Moment). l ++ y.0) x.1 ∙ append_assoc (own_moments p.number (moments (opening_of g) (seen_of g shard p))) x.0 y.0),
          map-append (λ (x : Moment). x.event) x.0 y.0 ∙ ((λ i. x.2 i ++ y.2 i) ∙ sym (own-there p.number shard es fs)),
        );
    cells_made = λ i in_range. b.cells_made i in_range ∙ a.cells_made i in_range;
    starts = λ i. starts-on (front_of (turn_of g i) r.own.seen) (front_of (turn_of g i) q.own.seen) (front_of (turn_of g i) p.own.seen) (b.starts i) (a.starts i);
    older = later-then g p q r a.starts a.older b.older;
    recorded = λ i in_range. b.recorded i in_range ∙ a.recorded i in_range;
  }

module _ (g : Config) (valid : IsConfig g) where
  -- these events of one key, made in one call
  some-made : (k : Key) (es : List Event) (p q : PartyPlace) → p.own.about.config ≡ g → HasSeenItsEvents g p → AreOwnBy (IsNumberOrCell g) (parties_of g) p.number es
      → ((s : PlainShard) (hs : List Ptr) → holds_through p.number s es hs ≡ held_through p.number es hs) → ((ks : List Key) → readings_through p.number es ks ≡ ks)
      → ((shard : ℕ) → events_there g shard es ≡ (if shard_of g.shards k == shard then es else [])) → (d : Does dbuf_meanings g k es p q) → TurnMakes g es p q
  some-made k es p q config sees mine no_holds no_readings there d =
      let here : ℕ = shard_of g.shards k in
      let made : MadeBy (IsNumberOrCell g) g here d.before es p q = does-made dbuf_meanings g valid k es p q config sees mine d in
      let left = does-leaves dbuf_meanings g valid k es p q config d in
      let more = makes-more g here d.before es p q made (does-long dbuf_meanings g valid k p q config es d made) sees.own left.fronts in
      let owned = made-own g here d.before es p q made in
      let ledger = does_ledger dbuf_meanings g valid k es p q config d in
      record {
        left = left;
        holds = ap (λ (l : Ledger). l.holds) ledger ∙ no_holds d.before.now p.own.ledger.holds;
        readings = ap (λ (l : Ledger). l.readings) ledger ∙ no_readings p.own.ledger.readings;
        sees = made-sees g here d.before es p q made sees;
        all = made-all g here d.before es p q made;
        alone = λ all shard. dite (ℕ_discrete here shard)
            (λ is. subst (λ (s : ℕ). seen_of g s q ≡ seen_of g s p ++ es) is (made-alone g here d.before es p q made all).here ∙ ap (λ (l : List Event). seen_of g shard p ++ l) (sym (is-there shard is)))
            (λ differs. (made-alone g here d.before es p q made all).others shard (λ e. differs (sym e)) ∙ (sym (append-nil (seen_of g shard p)) ∙ ap (λ (l : List Event). seen_of g shard p ++ l) (sym (not-there shard differs))));
        made = λ shard. dite (ℕ_discrete here shard)
            (λ is. subst (λ (s : ℕ). made_of (turn_of g s) q ≡ made_of (turn_of g s) p ++ map line.Event es) is more.here ∙ ap (λ (l : List Event). made_of (turn_of g shard) p ++ map line.Event l) (sym (is-there shard is)))
            (λ differs. more.others shard (λ e. differs (sym e)) ∙ (sym (append-nil (made_of (turn_of g shard) p)) ∙ ap (λ (l : List Event). made_of (turn_of g shard) p ++ map line.Event l) (sym (not-there shard differs))));
        own = λ shard. dite (ℕ_discrete here shard)
            (λ is. (
              own_moments p.number (moments d.before.now es),
              subst (λ (s : ℕ). own_moments p.number (moments (opening_of g) (seen_of g s q)) ≡ own_moments p.number (moments (opening_of g) (seen_of g s p)) ++ own_moments p.number (moments d.before.now es)) is owned.here,
              own-events-are p.number d.before.now es ∙ ap (own_events p.number) (sym (is-there shard is)),
            ))
            (λ differs. (
              [],
              ap (λ (l : List Event). own_moments p.number (moments (opening_of g) l)) (owned.others shard (λ e. differs (sym e))) ∙ sym (append-nil (own_moments p.number (moments (opening_of g) (seen_of g shard p)))),
              ap (own_events p.number) (sym (not-there shard differs)),
            ));
        cells_made = more.cells;
        starts = grows g here d.before es p q made;
        older = more.older;
        recorded = λ i in_range. cell-recorded dbuf_meanings g valid k es p q config d i in_range;
      }
    where
      is-there : (shard : ℕ) → shard_of g.shards k ≡ shard → events_there g shard es ≡ es
      is-there shard is = there shard ∙ ap (λ (b : Bool). if b then es else []) (eq-eqb (shard_of g.shards k) shard is)

      not-there : (shard : ℕ) → shard_of g.shards k ≢ shard → events_there g shard es ≡ []
      not-there shard differs = there shard ∙ ap (λ (b : Bool). if b then es else []) (ne_eqb (shard_of g.shards k) shard differs)

  look-made : (times : ℕ) (p q : PartyPlace) → p.own.about.config ≡ g → HasSeenItsEvents g p → LooksTimes g times p q → TurnMakes g [] p q
  look-made zero p q config sees is = turn-none g p q sees is
  look-made (suc times) p q config sees l =
      let before = look-made times p l.1 config sees l.2 in
      let same : l.1.own.about.config ≡ g = ap (λ (a : About). a.config) before.left.stays.about ∙ config in
      turn-then g [] [] p l.1 q before
      (some-made l.0 [] l.1 q same before.sees (λ z e at. absurd (some-ne-none e (sym at))) (λ s hs. refl) (λ ks. refl) (λ shard. none-there (shard_of g.shards l.0 == shard)) l.3)
    where
      none-there : (b : Bool) → ◌≡◌ {A = List Event} [] (if b then [] else [])
      none-there true = refl
      none-there false = refl

  one-there : (k : Key) (e : Event) → event_key e ≡ Some k → (shard : ℕ) → events_there g shard (e ∷ []) ≡ (if shard_of g.shards k == shard then (e ∷ []) else [])
  one-there k e is shard =
      let same : option_map_or (λ (j : Key). shard_of g.shards j == shard) (event_key e) false ≡ (shard_of g.shards k == shard) = ap (λ (o : Option Key). option_map_or (λ (j : Key). shard_of g.shards j == shard) o false) is in
      elim (cases_true (shard_of g.shards k == shard)) [
        | inl here ↦ rw (same ∙ here, here) refl
        | inr out ↦ rw (same ∙ out, out) refl
      ]

  -- one of a turn's events
  one-made : (c : ℕ) (k : Key) (e : Event) (p q : PartyPlace) → parties_of g ≤ c → p.number < parties_of g → p.own.about.config ≡ g → HasSeenItsEvents g p → IsTurnEvent p.number c e → event_key e ≡ Some k
      → Does dbuf_meanings g k (e ∷ []) p q → TurnMakes g (e ∷ []) p q
  one-made c k e p q above low config sees kind key d =
      some-made k (e ∷ []) p q config sees (own-single-by (IsNumberOrCell g) p.number e (number kind) (none kind)) (λ s hs. holds kind s hs) (λ ks. readings kind ks) (one-there k e key) d
    where
      not-c : (p.number == c) ≡ false
      not-c = ne_eqb p.number c (λ same. absurd (omega (arith, same, above, low)))

      number : IsTurnEvent p.number c e → IsNumberOrCell g p.number (number_of e)
      number (inl hand) = inl (ap number_of hand.1)
      number (inr (inl drop)) = inr (subst (λ (x : Event). parties_of g ≤ number_of x) (sym drop.1) above)
      number (inr (inr release)) = inr (subst (λ (x : Event). parties_of g ≤ number_of x) (sym release.2) above)

      none : IsTurnEvent p.number c e → is_pass e ≡ false
      none (inl hand) = ap is_pass hand.1
      none (inr (inl drop)) = ap is_pass drop.1
      none (inr (inr release)) = ap is_pass release.2

      holds : IsTurnEvent p.number c e → (s : PlainShard) (hs : List Ptr) → holds_through p.number s (e ∷ []) hs ≡ held_through p.number (e ∷ []) hs
      holds (inl hand) s hs = subst (λ (x : Event). holds_through p.number s (x ∷ []) hs ≡ held_through p.number (x ∷ []) hs) (sym hand.1) (rw not-c refl)
      holds (inr (inl drop)) s hs = subst (λ (x : Event). holds_through p.number s (x ∷ []) hs ≡ held_through p.number (x ∷ []) hs) (sym drop.1) (rw not-c refl)
      holds (inr (inr release)) s hs = subst (λ (x : Event). holds_through p.number s (x ∷ []) hs ≡ held_through p.number (x ∷ []) hs) (sym release.2) (rw not-c refl)

      readings : IsTurnEvent p.number c e → (ks : List Key) → readings_through p.number (e ∷ []) ks ≡ ks
      readings (inl hand) ks = ap (λ (x : Event). readings_through p.number (x ∷ []) ks) hand.1
      readings (inr (inl drop)) ks = ap (λ (x : Event). readings_through p.number (x ∷ []) ks) drop.1
      readings (inr (inr release)) ks = ap (λ (x : Event). readings_through p.number (x ∷ []) ks) release.2

  -- all of them
  pub all-made : (c : ℕ) (es : List Event) (p q : PartyPlace) → parties_of g ≤ c → p.number < parties_of g → p.own.about.config ≡ g → HasSeenItsEvents g p → AreTurnEvents p.number c es → MakesAll g es p q → TurnMakes g es p q
  all-made c [] p q above low config sees kinds looks = look-made looks.0 p q config sees looks.1
  all-made c (e ∷ es) p q above low config sees kinds makes =
      let a = look-made makes.3.0 p makes.1 config sees makes.3.1 in
      let r-config : makes.1.own.about.config ≡ g = ap (λ (x : About). x.config) a.left.stays.about ∙ config in
      let r-low : makes.1.number < parties_of g = subst (λ (n : ℕ). n < parties_of g) (sym a.left.stays.number) low in
      let b = one-made c makes.0 e makes.1 makes.2 above r-low r-config a.sees (subst (λ (n : ℕ). IsTurnEvent n c e) (sym a.left.stays.number) kinds.0) makes.4 makes.5 in
      let s-config : makes.2.own.about.config ≡ g = ap (λ (x : About). x.config) b.left.stays.about ∙ r-config in
      let s-low : makes.2.number < parties_of g = subst (λ (n : ℕ). n < parties_of g) (sym b.left.stays.number) r-low in
      let same : makes.2.number ≡ p.number = b.left.stays.number ∙ a.left.stays.number in
      turn-then g [] (e ∷ es) p makes.1 q a
      (turn-then g (e ∷ []) es makes.1 makes.2 q b (all-made c es makes.2 q above s-low s-config b.sees (subst (λ (n : ℕ). AreTurnEvents n c es) (sym same) kinds.1) makes.6))
