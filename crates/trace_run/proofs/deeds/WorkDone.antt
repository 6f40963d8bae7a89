-- What a line on an object did, once the cell's last turn is done: what was brought for it, and then what was done to the cell.
use Rattle.std.proofs.Common.{◌≡◌, ◌≢◌, ◌⊎◌, ℕ, ◌<◌, ◌≤◌, ◌==◌, Bool, true, false, List, [], ◌∷◌, ◌++◌, map, refl, sym, ap, ◌∙◌, subst, inl, inr, arith, append-nil, append_assoc, ne_eqb}
use Rattle.std.specs.List.{AllByRecursion}
use Rattle.std.proofs.lemmas.List.Elements.{filter-append}
use Rattle.arc_lists.proofs.Tables.{cases_true}
use Rattle.blk_ptr.specs.Hash.{shard_of}
use Rattle.blk_ptr.specs.declared.key.Key.{Key}
use Rattle.arc_core.specs.declared.config.Config.{Config}
use Rattle.arc_core.specs.declared.event.Event.{Event}
use Rattle.arc_core.specs.declared.event.Event.TheVariants.{Drop, Hand, Release}
use Rattle.arc_core.specs.Operations.{Act, Moment, Tell, actor_of, acts_in, moments, own_events, own_moments}
use Rattle.arc_table.specs.declared.view.Line.{Line}
use Rattle.arc_table.specs.Geometry.{parties_of}
use Rattle.arc_table.specs.Seen.{seen_of}
use Rattle.arc_table.specs.Telling.{opening_of}
use Rattle.arc_table.specs.Told.{IsTold}
use Rattle.dbuf_cells.specs.Turns.{PartyPlace}
use Rattle.trace_run.specs.dbufs.DbufTurns.{CellsDone, held_through}
use Rattle.trace_run.specs.Deeds.{HasAct, HasToldAll, Noted, act_of_event, acts_of_events, events_there, lines_of_cell, with_number}
use Rattle.trace_run.specs.MadeLines.{made_in}
use Rattle.trace_run.specs.dbufs.ObjectLines.{DidWork, brought_there, events_of_bringing}
use Rattle.trace_run.specs.dbufs.Objects.{Brought, Nothing, Loaded, Refused, acts_of_bringing}
use Rattle.trace_run.specs.Reads.{now_of}
use Rattle.trace_run.proofs.deeds.BringDone.{BringDone, MakesOwn}
use Rattle.trace_run.proofs.deeds.CellsDone.{lines-append}
use Rattle.trace_run.proofs.deeds.DeedLemmas.{AreActsBy, acts-append, acts-of-none, events-acts, turn-acts, turn-kinds}
use Rattle.trace_run.proofs.deeds.MakesLemmas.{in-more, later-then}
use Rattle.trace_run.proofs.deeds.OperatesDone.{AreOfCell, all-both, held-same}
use Rattle.trace_run.proofs.deeds.TurnMakes.{AreTurnEvents, IsTurnEvent, held-append, own-there, starts-on, there-append}

-- ---- events of a cell's number, and hands

-- n hands these to the cell of the number c
abbrev pub AreHands : (n c : ℕ) → List Event → Type 0
AreHands n c = AllByRecursion (λ e. (k : Key) × (e ≡ Hand n k c))

pub of-kinds : (n c : ℕ) (es : List Event) → AreOfCell c es → AreTurnEvents n c es
of-kinds n c [] all = tt
of-kinds n c (e ∷ es) all = (one all.0, of-kinds n c es all.1)
  where
    one : ((k : Key) × (e ≡ Drop c k)) ⊎ ((k : Key) × (sole : Bool) × (e ≡ Release c k sole)) → IsTurnEvent n c e
    one (inl drop) = inr (inl drop)
    one (inr release) = inr (inr release)

pub hand-kinds : (n c : ℕ) (es : List Event) → AreHands n c es → AreTurnEvents n c es
hand-kinds n c [] all = tt
hand-kinds n c (e ∷ es) all = (inl all.0, hand-kinds n c es all.1)

-- hands stand for no act of the cell
hand-acts : (n c : ℕ) (es : List Event) → AreHands n c es → acts_of_events es ≡ []
hand-acts n c [] all = refl
hand-acts n c (e ∷ es) all = (λ i. act_of_event (all.0.1 i) ++ acts_of_events es) ∙ hand-acts n c es all.1

-- the acts of a cell's events have its number
pub of-acts : (c : ℕ) (es : List Event) → AreOfCell c es → AreActsBy c (acts_of_events es)
of-acts c [] all = tt
of-acts c (e ∷ es) all = all-both (λ (act : Act). actor_of act ≡ c) (act_of_event e) (acts_of_events es) (one all.0) (of-acts c es all.1)
  where
    one : ((k : Key) × (e ≡ Drop c k)) ⊎ ((k : Key) × (sole : Bool) × (e ≡ Release c k sole)) → AreActsBy c (act_of_event e)
    one (inl drop) = subst (λ (x : Event). AreActsBy c (act_of_event x)) (sym drop.1) (refl, tt)
    one (inr release) = subst (λ (x : Event). AreActsBy c (act_of_event x)) (sym release.2) (refl, tt)

-- and they are none of the party's own
of-own : (g : Config) (n c shard : ℕ) (es : List Event) → n ≢ c → AreOfCell c es → own_events n (events_there g shard es) ≡ []
of-own g n c shard [] differs all = refl
of-own g n c shard (e ∷ es) differs all = own-there g n shard (e ∷ []) es ∙ ((λ i. one all.0 i ++ own_events n (events_there g shard es)) ∙ of-own g n c shard es differs all.1)
  where
    other : (c == n) ≡ false
    other = ne_eqb c n (λ is. differs (sym is))

    one : ((k : Key) × (e ≡ Drop c k)) ⊎ ((k : Key) × (sole : Bool) × (e ≡ Release c k sole)) → own_events n (events_there g shard (e ∷ [])) ≡ []
    one (inl drop) = ap (λ (x : Event). own_events n (events_there g shard (x ∷ []))) drop.1 ∙ go (cases_true (shard_of g.shards drop.0 == shard))
      where
        go : ((shard_of g.shards drop.0 == shard) ≡ true) ⊎ ((shard_of g.shards drop.0 == shard) ≡ false) → own_events n (events_there g shard (Drop c drop.0 ∷ [])) ≡ []
        go (inl here) = rw (here, other) refl
        go (inr out) = rw out refl
    one (inr release) = ap (λ (x : Event). own_events n (events_there g shard (x ∷ []))) release.2 ∙ go (cases_true (shard_of g.shards release.0 == shard))
      where
        go : ((shard_of g.shards release.0 == shard) ≡ true) ⊎ ((shard_of g.shards release.0 == shard) ≡ false) → own_events n (events_there g shard (Release c release.0 release.1 ∷ [])) ≡ []
        go (inl here) = rw (here, other) refl
        go (inr out) = rw out refl

-- the party's own acts for what was brought
bringing-own : (n t c : ℕ) (brought : Brought) → AreActsBy n (acts_of_bringing n t c brought)
bringing-own n t c Nothing = tt
bringing-own n t c (Loaded ptr from) = (refl, tt)
bringing-own n t c (Refused ptr) = (refl, tt)

-- ---- the whole line

module _ (g : Config) (t c : ℕ) (above : parties_of g ≤ c) (brought : Brought) (hands es : List Event) (noted : List Noted) (p m q : PartyPlace) (low : p.number < parties_of g) (b : BringDone g t c brought hands p m)
    (handing : AreHands p.number c hands) (of : AreOfCell c es) (d : CellsDone g noted (hands ++ es) m q) where
  abbrev f : Key → ℕ
  f = shard_of g.shards

  abbrev own_acts : List Act
  own_acts = acts_of_bringing p.number t c brought

  abbrev cell_acts : List Act
  cell_acts = acts_of_events es

  number : q.number ≡ p.number
  number = d.number ∙ b.seen.number

  not-cell : p.number ≢ c
  not-cell is = omega (arith, is, low, above)

  kinds : AreTurnEvents p.number c (hands ++ es)
  kinds = all-both (IsTurnEvent p.number c) hands es (hand-kinds p.number c hands handing) (of-kinds p.number c es of)

  all-acts : acts_of_events (hands ++ es) ≡ cell_acts
  all-acts = events-acts hands es ∙ ap (λ (l : List Act). l ++ acts_of_events es) (hand-acts p.number c hands handing)

  makes-own : (shard : ℕ) → MakesOwn g hands m q p.number shard
  makes-own shard =
      let u = subst (λ (n : ℕ). (ms : List Moment) × (own_moments n (moments (opening_of g) (seen_of g shard q)) ≡ own_moments n (moments (opening_of g) (seen_of g shard m)) ++ ms)
      × (map (λ (x : Moment). x.event) ms ≡ own_events n (events_there g shard (hands ++ es)))) b.seen.number (d.own shard) in
      record {
        ms = u.0;
        more = u.1;
        events = u.2 ∙ (own-there g p.number shard hands es ∙ (ap (λ (l : List Event). own_events p.number (events_there g shard hands) ++ l) (of-own g p.number c shard es not-cell of)
            ∙ append-nil (own_events p.number (events_there g shard hands))));
      }

  module _ (did : List Act) (had : List Noted) (before : HasToldAll g did had p) where
    told-acts : IsTold g (did ++ (own_acts ++ cell_acts)) q
    told-acts shard =
        subst (λ (l : List Act). Tell l (own_moments q.number (moments (opening_of g) (seen_of g shard q))))
        (sym (ap (acts_in f shard q.number) (sym (append_assoc did own_acts cell_acts))
        ∙ (acts-append f shard q.number (did ++ own_acts) cell_acts
        ∙ (ap (λ (l : List Act). acts_in f shard q.number (did ++ own_acts) ++ l) (acts-of-none f shard c q.number cell_acts (of-acts c es of) (λ is. not-cell (sym (is ∙ number))))
        ∙ append-nil (acts_in f shard q.number (did ++ own_acts))))))
        (b.told did q number makes-own before.acts shard)

    made-there : (shard : ℕ) → made_in g shard q ≡ made_in g shard m ++ events_there g shard (hands ++ es)
    made-there shard = in-more g shard (events_there g shard (hands ++ es)) m q (d.made shard)

    numbered : (shard n : ℕ) → n ≢ p.number → with_number n (made_in g shard q) ≡ with_number n (made_in g shard p) ++ with_number n (events_there g shard (hands ++ es))
    numbered shard n other = ap (with_number n) (made-there shard) ∙ (filter-append _ (made_in g shard m) (events_there g shard (hands ++ es))
        ∙ ap (λ (l : List Event). l ++ with_number n (events_there g shard (hands ++ es))) (b.same.cells shard n other))

    cell-acts : (shard n : ℕ) → n ≢ p.number → acts_in f shard n (own_acts ++ cell_acts) ≡ acts_of_events (with_number n (events_there g shard (hands ++ es)))
    cell-acts shard n other =
        acts-append f shard n own_acts cell_acts
        ∙ (ap (λ (l : List Act). l ++ acts_in f shard n cell_acts) (acts-of-none f shard p.number n own_acts (bringing-own p.number t c brought) (λ is. other (sym is)))
        ∙ (ap (acts_in f shard n) (sym all-acts) ∙ turn-acts g p.number c shard n (hands ++ es) kinds other))

    pub told-work : HasToldAll g (did ++ (own_acts ++ cell_acts)) (had ++ noted) q
    told-work = record {
      acts = told-acts;
      cells = λ shard n high.
          let other : n ≢ p.number = λ is. high (is ∙ sym number) in
          acts-append f shard n did (own_acts ++ cell_acts)
          ∙ ((λ i. before.cells shard n other i ++ cell-acts shard n other i)
          ∙ (sym (events-acts (with_number n (made_in g shard p)) (with_number n (events_there g shard (hands ++ es)))) ∙ ap acts_of_events (sym (numbered shard n other))));
      kinds = λ shard n high.
          let other : n ≢ p.number = λ is. high (is ∙ sym number) in
          subst (AllByRecursion HasAct) (sym (numbered shard n other))
          (all-both HasAct (with_number n (made_in g shard p)) (with_number n (events_there g shard (hands ++ es))) (before.kinds shard n other) (turn-kinds g p.number c shard n (hands ++ es) kinds other));
      entries = λ i in_range. d.entries i in_range ∙ ((λ k. (b.same.entries i in_range ∙ before.entries i in_range) k ++ lines_of_cell i noted) ∙ sym (lines-append i had noted));
    }

  pub work-done : DidWork g t c brought es noted p q
  work-done = record {
    number = number;
    told = told-work;
    alone = λ all shard.
        d.alone (b.seen.all all) shard
        ∙ (ap (λ (l : List Event). seen_of g shard m ++ l) (there-append g shard hands es)
        ∙ (sym (append_assoc (seen_of g shard m) (events_there g shard hands) (events_there g shard es))
        ∙ (ap (λ (l : List Event). l ++ events_there g shard es) (b.alone all shard)
        ∙ append_assoc (seen_of g shard p) (brought_there g.shards shard brought (events_of_bringing (now_of g shard p) p.number t c brought)) (events_there g shard es))));
    source = b.source;
    all = λ all. d.all (b.seen.all all);
    joined = d.joined ∙ b.seen.joined;
    keeps = record { about = d.about ∙ b.seen.about; fronts = λ i in_range. starts-on g _ _ _ (d.cells i in_range) (b.seen.cells i in_range); shards = λ shard. starts-on g _ _ _ (d.starts shard) (b.same.keeps.shards shard); older = later-then g p m q b.same.keeps.shards b.same.keeps.older d.older };
    cells_alone = λ all i in_range. d.cells_alone (b.seen.all all) i in_range ∙ ap (λ (l : List Line). l ++ lines_of_cell i noted) (b.seen.alone all i in_range);
  }

  -- it holds what it held
  pub holds-same : q.own.ledger.holds ≡ p.own.ledger.holds
  holds-same = d.holds ∙ ((λ i. held_through (b.seen.number i) (hands ++ es) m.own.ledger.holds)
      ∙ (held-append g p.number hands es m.own.ledger.holds ∙ (ap (held_through p.number es) b.holds ∙ held-same p.number c es p.own.ledger.holds of)))
