-- A party that has every number takes all cells and gives them back: what it has seen then, and what it found and made.
use Rattle.std.proofs.Common.{◌≡◌, ◌≢◌, ◌⊎◌, ℕ, zero, suc, ◌+◌, ◌<◌, ◌≤◌, List, [], ◌∷◌, ◌++◌, length, map, Option, Some, refl, sym, ap, ◌∙◌, subst, inl, inr, arith, append-nil}
use Rattle.std.specs.Prelude.{◌-◌, slice_index_or}
use Rattle.std.proofs.lemmas.List.{append_cancel_left, map-append}
use Rattle.std.specs.List.{AllByRecursion}
use Rattle.std.specs.Option.{option_map_or}
use mathlib.Core.Logic.{dite}
use native.Mathlib.Decide.{ℕ_discrete}
use Rattle.arc_core.specs.Config.{IsConfig}
use Rattle.arc_core.specs.declared.config.Config.{Config}
use Rattle.turn_table.specs.Places.{IsIn, gave_back, saw}
use Rattle.turn_table.specs.Board.{IsAmong}
use Rattle.turn_table.specs.declared.standing.Kept.{Kept}
use Rattle.arc_table.specs.declared.about.About.{About}
use Rattle.arc_table.specs.declared.item.Item.{Item}
use Rattle.arc_table.specs.declared.item.Item.TheVariants as item
use Rattle.arc_table.specs.declared.view.Known.{Known}
use Rattle.arc_table.specs.declared.view.Ledger.{Ledger}
use Rattle.arc_table.specs.declared.view.Line.{Line}
use Rattle.arc_table.specs.declared.view.Line.TheVariants as line
use Rattle.arc_table.specs.Both.{Takes}
use Rattle.arc_table.specs.Cells.{IsTakenCell, SeesAll}
use Rattle.arc_table.specs.Fronts.{StartsWith, front_of, item_at}
use Rattle.arc_table.specs.Geometry.{IsCell}
use Rattle.arc_table.specs.Giving.{IsGivenCell}
use Rattle.arc_table.specs.Items.{lines_in}
use Rattle.arc_table.specs.Seen.{FindsEntries, HasAll, HasSeenItsEntries, events_in, seen_of, turn_of, AllEntriesSeen, AreEntriesSeen}
use Rattle.arc_table.specs.TableLaws.{item_else, starts_whole}
use Rattle.arc_table.proofs.TableLaws.{front_else, front_here, without_else}
use Rattle.arc_table.specs.Views.{after_cell, mines_from, recorded}
use Rattle.arc_table.proofs.cell_lemmas.CellsInHand.{taken-cell}
use Rattle.arc_table.proofs.cell_lemmas.EntriesSeen.{given-entries, given-sees, seen-at-take}
use Rattle.arc_table.proofs.Reached.{Took, loses_same, took_is}
use Rattle.dbuf_cells.specs.Turns.{OnHeap, PartyPlace, dbuf_meanings}
use Rattle.dbuf_state.specs.Numbers.{event_numbers}
use Rattle.dbuf_state.specs.Soundness.{IsSound}
use Rattle.dbuf_state.specs.declared.event.CellEvent.{CellEvent}
use Rattle.txg_sync.specs.Turns.{GivesFrom, TakesFrom}
use Rattle.trace_run.specs.MadeLines.{made_of, made_from}
use Rattle.trace_run.specs.Making.{HasSeenItsEvents}
use Rattle.trace_run.specs.Syncing.{lines_of}
use Rattle.trace_run.proofs.CellEnds.{IsUntouched, NoneFrom, all-later, none-later, untouched-history}
use Rattle.trace_run.proofs.callers.MeetLemmas.{starts-then}
use Rattle.trace_run.proofs.deeds.MadeCells.{given-made, given-made-else, took-made, took-made-else}
use Rattle.trace_run.proofs.syncs.SyncOwned.{AreDoneFrom, IsDone, done-as, found-done}
use Rattle.arc_table.specs.declared.view.Mine.{Mine}
use Rattle.trace_run.specs.Deeds.{MakesLater}
use Rattle.trace_run.proofs.deeds.MakesLemmas.{later-same, later-then}
use Rattle.trace_run.proofs.deeds.MadeLemmas.{listed-back}

-- ---- what a party with every number has seen, while it makes no event of a shard

-- It has seen of shards what it had, and lists what it did.
pub record IsQuiet (g : Config) (p q : PartyPlace) : Type 0 where
  pub table : q.table ≡ p.table
  pub parties : q.parties ≡ p.parties
  pub number : q.number ≡ p.number
  pub joined : q.joined ≡ p.joined
  pub about : q.own.about ≡ p.own.about
  pub holds : q.own.ledger.holds ≡ p.own.ledger.holds
  pub readings : q.own.ledger.readings ≡ p.own.ledger.readings
  pub picked : q.own.ledger.picked ≡ p.own.ledger.picked
  pub sees : HasSeenItsEvents g q
  pub all : HasAll q
  pub shards : (shard : ℕ) → seen_of g shard q ≡ seen_of g shard p
  pub starts : (i : ℕ) → StartsWith (front_of (turn_of g i) q.own.seen) (front_of (turn_of g i) p.own.seen)
  pub older : MakesLater g p q

module _ (g : Config) where
  quiet-same : (p q : PartyPlace) → HasSeenItsEvents g p → HasAll p → q ≡ p → IsQuiet g p q
  quiet-same p q sees all e = subst (IsQuiet g p) (sym e) record {
    table = refl;
    parties = refl;
    number = refl;
    joined = refl;
    about = refl;
    holds = refl;
    readings = refl;
    picked = refl;
    sees = sees;
    all = all;
    shards = λ shard. refl;
    starts = λ i. starts_whole (front_of (turn_of g i) p.own.seen);
    older = λ shard place below. refl;
  }

  pub quiet-then : (p q r : PartyPlace) → IsQuiet g p q → IsQuiet g q r → IsQuiet g p r
  quiet-then p q r a b = record {
    table = b.table ∙ a.table;
    parties = b.parties ∙ a.parties;
    number = b.number ∙ a.number;
    joined = b.joined ∙ a.joined;
    about = b.about ∙ a.about;
    holds = b.holds ∙ a.holds;
    readings = b.readings ∙ a.readings;
    picked = b.picked ∙ a.picked;
    sees = b.sees;
    all = b.all;
    shards = λ shard. b.shards shard ∙ a.shards shard;
    starts = λ i. starts-then (front_of (turn_of g i) r.own.seen) (front_of (turn_of g i) q.own.seen) (front_of (turn_of g i) p.own.seen) (b.starts i) (a.starts i);
    older = later-then g p q r a.starts a.older b.older;
  }

-- ---- cells in hand

-- what a cell is to a party that has it in hand: it is recorded, and the party has seen all that was done to it
pub record IsInHand (i : ℕ) (c : OnHeap) (p : PartyPlace) : Type 0 where
  pub recorded : item_at i p.own.records ≡ Some (item.Cell c)
  pub seen : front_of i p.own.seen ≡ lines_of c.value.history

-- so it is of cells of the numbers from this one on
abbrev pub AreInHand : (i : ℕ) → List OnHeap → PartyPlace → Type 0
AreInHand i [] p = Unit {0}
AreInHand i (c ∷ cs) p = IsInHand i c p × AreInHand (suc i) cs p

-- and of cells that were found: each is sound, and began as the party knows
pub record IsFound (i : ℕ) (p : PartyPlace) (c : OnHeap) : Type 0 where
  pub sound : IsSound c.value
  pub began : dbuf_meanings.opening c ≡ slice_index_or p.own.about.openings i []

abbrev pub AreFound : (i : ℕ) → PartyPlace → List OnHeap → Type 0
AreFound i p [] = Unit {0}
AreFound i p (c ∷ cs) = IsFound i p c × AreFound (suc i) p cs

pub in-hand-as : (i : ℕ) (cs : List OnHeap) (p q : PartyPlace) → ((j : ℕ) → i ≤ j → j < i + length cs → (item_at j q.own.records ≡ item_at j p.own.records) × (front_of j q.own.seen ≡ front_of j p.own.seen)) → AreInHand i cs p → AreInHand i cs q
in-hand-as i [] p q same hand = tt
in-hand-as i (c ∷ cs) p q same hand =
    let here = same i (omega arith) (omega arith) in (
      record { recorded = here.0 ∙ hand.0.recorded; seen = here.1 ∙ hand.0.seen },
      in-hand-as (suc i) cs p q (λ j low high. same j (omega (arith, low)) (omega (arith, high))) hand.1,
    )

module _ (g : Config) (valid : IsConfig g) where
  -- ---- taking

  module _ (i : ℕ) (in_range : IsCell g i) (c : OnHeap) (p r : PartyPlace) (config : p.own.about.config ≡ g) (sees : HasSeenItsEvents g p) (all : HasAll p) (made : HasSeenItsEntries g p)
      (t : Takes dbuf_meanings i (item.Cell c) p r) where
    took : Took dbuf_meanings i (item.Cell c) p r
    took = took_is dbuf_meanings i (item.Cell c) p r t

    at-take : SeesAll g r × FindsEntries i p (map event_numbers c.value.history)
    at-take = let h = seen-at-take dbuf_meanings g i c t.owners t.knew p config in_range t.lost t.free (sees, made) in (subst (SeesAll g) (sym t.took) h.0, h.1)

    known : IsTakenCell dbuf_meanings g i c p r
    known = subst (IsTakenCell dbuf_meanings g i c p) (sym t.took) (taken-cell dbuf_meanings g i c t.owners t.knew p valid config in_range t.lost t.free)

    -- nobody else has every number too, so there is nothing to find that it had not seen
    whole : lines_of c.value.history ≡ front_of i p.own.seen
    whole = let f = at-take.1 in f.whole ∙ ((λ z. front_of i p.own.seen ++ map line.Entry (f.alone all z)) ∙ append-nil (front_of i p.own.seen))

    pub take-fronts : (j : ℕ) → front_of j r.own.seen ≡ front_of j p.own.seen
    take-fronts j = dite (ℕ_discrete j i)
        (λ is. subst (λ (x : ℕ). front_of x r.own.seen ≡ front_of x p.own.seen) (sym is) (known.seen ∙ whole))
        (λ differs. ap (front_of j) took.seen ∙ front_else i j (lines_of c.value.history) p.own.seen differs)

    pub take-quiet : IsQuiet g p r
    take-quiet = record {
      table = took.table;
      parties = took.parties;
      number = took.number;
      joined = took.joined;
      about = took.about;
      holds = ap (λ (l : Ledger). l.holds) took.ledger;
      readings = ap (λ (l : Ledger). l.readings) took.ledger;
      picked = ap (λ (l : Ledger). l.picked) took.ledger;
      sees = at-take.0.0;
      all = λ k below. subst (λ (x : ℕ × List (Kept (Known OnHeap))). (x.0 ≡ k) ⊎ IsIn k x.1) (λ z. (sym took.number z, sym took.joined z)) (all k (subst (λ (x : ℕ). k < x) took.parties below));
      shards = λ shard. ap events_in (take-fronts (turn_of g shard));
      starts = λ k. subst (λ (l : List Line). StartsWith l (front_of (turn_of g k) p.own.seen)) (sym (take-fronts (turn_of g k))) (starts_whole (front_of (turn_of g k) p.own.seen));
      older = later-same g p r took.mine;
    }

    pub take-held : r.held ≡ i ∷ p.held
    take-held = took.held

    pub take-mine : r.own.mine ≡ p.own.mine
    take-mine = took.mine

    pub take-made : HasSeenItsEntries g r
    take-made = at-take.0.1

    pub take-hand : IsInHand i c r
    take-hand = record { recorded = known.recorded; seen = known.seen }

    pub take-found : IsFound i p c
    take-found = record { sound = known.sound.sound; began = known.opening ∙ ap (λ (a : About). slice_index_or a.openings i []) took.about }

    -- nothing was done to it, where nobody had done anything to a cell from it on
    pub take-fresh : IsUntouched g i p → c.value.history ≡ []
    take-fresh none = untouched-history g i in_range c (saw p t.knew) all t.free record {
      own = subst (NoneFrom g i) (sym (loses_same dbuf_meanings i t.owners p (saw p t.knew) t.lost).mine) none.own;
      joined = none.joined;
    }

    pub take-untouched : IsUntouched g i p → IsUntouched g (suc i) r
    take-untouched none = record {
      own = none-later g i r.own.mine (subst (NoneFrom g i) (sym took.mine) none.own);
      joined = all-later g i r.joined (subst (AllByRecursion (λ k. NoneFrom g i k.view.mine)) (sym took.joined) none.joined);
    }

    -- it made nothing
    pub take-mades : (j : ℕ) → made_of j r ≡ made_of j p
    take-mades j = dite (ℕ_discrete j i)
        (λ is. subst (λ (x : ℕ). made_of x r ≡ made_of x p) (sym is)
        (took-made dbuf_meanings g i c p r in_range took (subst (λ (l : List Line). StartsWith l (front_of i p.own.seen)) (sym whole) (starts_whole (front_of i p.own.seen))) made))
        (λ differs. took-made-else dbuf_meanings g i c p r in_range took j differs)

    -- what each party had done to it
    pub take-done : IsDone g i p c
    take-done =
        let knew = loses_same dbuf_meanings i t.owners p (saw p t.knew) t.lost in
        let seen : HasSeenItsEntries g (saw p t.knew) = record {
          own = subst (λ (x : List Mine × List (List Line)). AreEntriesSeen g p.number x.0 x.1) (λ z. (sym knew.mine z, sym knew.seen z)) made.own;
          joined = subst (AllEntriesSeen g p.joined) (sym knew.seen) made.joined;
        } in
        (done-as g i (c ∷ []) p (saw p t.knew) refl refl (λ j z. made_from j 0 (knew.mine z) (front_of j (knew.seen z))) (found-done g i in_range c (saw p t.knew) all seen t.free, tt)).0

    pub take-else : (j : ℕ) → j ≢ i → item_at j r.own.records ≡ item_at j p.own.records
    take-else j differs = ap (item_at j) took.records ∙ item_else i j (item.Cell c) p.own.records differs

  -- all cells of the numbers from this one on were taken
  pub record HasTaken (i : ℕ) (cs : List OnHeap) (p q : PartyPlace) : Type 0 where
    pub quiet : IsQuiet g p q
    pub made : HasSeenItsEntries g q
    pub mine : q.own.mine ≡ p.own.mine
    pub mades : (j : ℕ) → made_of j q ≡ made_of j p
    pub held : (j : ℕ) → (i ≤ j) × (j < i + length cs) ⊎ IsAmong j p.held → IsAmong j q.held
    pub fronts : (j : ℕ) → front_of j q.own.seen ≡ front_of j p.own.seen
    pub below : (j : ℕ) → j < i → item_at j q.own.records ≡ item_at j p.own.records
    pub hand : AreInHand i cs q
    pub found : AreFound i p cs
    pub done : AreDoneFrom g i p cs
    pub fresh : IsUntouched g i p → AllByRecursion (λ c. c.value.history ≡ []) cs

  found-as : (i : ℕ) (cs : List OnHeap) (p r : PartyPlace) → r.own.about ≡ p.own.about → AreFound i r cs → AreFound i p cs
  found-as i [] p r same found = tt
  found-as i (c ∷ cs) p r same found = (record { sound = found.0.sound; began = found.0.began ∙ ap (λ (a : About). slice_index_or a.openings i []) same }, found-as (suc i) cs p r same found.1)

  pub all-taken : (i : ℕ) (cs : List OnHeap) (p q : PartyPlace) → i + length cs ≤ g.cells → p.own.about.config ≡ g → HasSeenItsEvents g p → HasAll p → HasSeenItsEntries g p → TakesFrom i cs p q → HasTaken i cs p q
  all-taken i [] p q inside config sees all made is = subst (HasTaken i [] p) (sym is) record {
    quiet = quiet-same g p p sees all refl;
    made = made;
    mine = refl;
    mades = λ j. refl;
    held = λ j which. elim which [
      | inl new ↦ absurd (omega (arith, new.0, new.1))
      | inr old ↦ old
    ];
    fronts = λ j. refl;
    below = λ j lt. refl;
    hand = tt;
    found = tt;
    done = tt;
    fresh = λ none. tt;
  }
  all-taken i (c ∷ cs) p q inside config sees all made t =
      let r = t.0 in
      let in_range : IsCell g i = omega (arith, inside) in
      let quiet = take-quiet i in_range c p r config sees all made t.1 in
      let rest = all-taken (suc i) cs r q (omega (arith, inside)) (ap (λ (a : About). a.config) quiet.about ∙ config) quiet.sees quiet.all (take-made i in_range c p r config sees all made t.1) t.2 in
      let first = take-hand i in_range c p r config sees all made t.1 in
      record {
        quiet = quiet-then g p r q quiet rest.quiet;
        made = rest.made;
        mine = rest.mine ∙ take-mine i in_range c p r config sees all made t.1;
        mades = λ j. rest.mades j ∙ take-mades i in_range c p r config sees all made t.1 j;
        held = λ j which. rest.held j (elim which [
          | inl new ↦ dite (ℕ_discrete j i)
              (λ is. inr (subst (IsAmong j) (sym (take-held i in_range c p r config sees all made t.1)) (inl (sym is))))
              (λ differs. inl (omega (arith, new.0, differs), omega (arith, new.1)))
          | inr old ↦ inr (subst (IsAmong j) (sym (take-held i in_range c p r config sees all made t.1)) (inr old))
        ]);
        fronts = λ j. rest.fronts j ∙ take-fronts i in_range c p r config sees all made t.1 j;
        below = λ j lt. rest.below j (omega (arith, lt)) ∙ take-else i in_range c p r config sees all made t.1 j (λ is. omega (arith, lt, is));
        hand = (record { recorded = rest.below i (omega arith) ∙ first.recorded; seen = rest.fronts i ∙ first.seen }, rest.hand);
        found = (take-found i in_range c p r config sees all made t.1, found-as (suc i) cs p r quiet.about rest.found);
        done = (take-done i in_range c p r config sees all made t.1, done-as g (suc i) cs p r quiet.number quiet.joined (take-mades i in_range c p r config sees all made t.1) rest.done);
        fresh = λ none. (take-fresh i in_range c p r config sees all made t.1 none, rest.fresh (take-untouched i in_range c p r config sees all made t.1 none));
      }

  -- ---- giving back

  module _ (i : ℕ) (in_range : IsCell g i) (b a : OnHeap) (w q : PartyPlace) (sees : HasSeenItsEvents g w) (all : HasAll w) (made : HasSeenItsEntries g w) (hand : IsInHand i b w)
      (given : IsGivenCell dbuf_meanings w.number i a w.own) (gave : q ≡ gave_back w i (after_cell dbuf_meanings i (item.Cell a) w.own)) where
    abbrev back : PartyPlace
    back = gave_back w i (after_cell dbuf_meanings i (item.Cell a) w.own)

    same-taken : given.taken ≡ b
    same-taken = cell-same _ _ (some-one _ _ (sym given.recorded ∙ hand.recorded))
      where
        some-one : (x y : Item OnHeap) → ◌≡◌ {A = Option (Item OnHeap)} (Some x) (Some y) → x ≡ y
        some-one x y same = cc

        cell-same : (x y : OnHeap) → ◌≡◌ {A = Item OnHeap} (item.Cell x) (item.Cell y) → x ≡ y
        cell-same x y same = cc

    front : front_of i w.own.seen ≡ lines_of given.taken.value.history
    front = hand.seen ∙ ap (λ (c : OnHeap). lines_of c.value.history) (sym same-taken)

    no-shard : (k : ℕ) → turn_of g k ≢ i
    no-shard k e = let b = in_range in omega arith

    back-shard : (k : ℕ) → front_of (turn_of g k) back.own.seen ≡ front_of (turn_of g k) w.own.seen
    back-shard k = front_else i (turn_of g k) (lines_of a.value.history) w.own.seen (no-shard k)

    back-quiet : IsQuiet g w back
    back-quiet = record {
      table = refl;
      parties = refl;
      number = refl;
      joined = refl;
      about = refl;
      holds = refl;
      readings = refl;
      picked = refl;
      sees = given-sees dbuf_meanings g i a w in_range given front sees;
      all = all;
      shards = λ shard. ap events_in (back-shard shard);
      starts = λ k. subst (λ (l : List Line). StartsWith l (front_of (turn_of g k) w.own.seen)) (sym (back-shard k)) (starts_whole (front_of (turn_of g k) w.own.seen));
      older = λ k place below. listed-back (turn_of g k) place i _ _ w.own.mine (no-shard k);
    }

    pub give-quiet : IsQuiet g w q
    give-quiet = subst (IsQuiet g w) (sym gave) back-quiet

    -- where it is given back as it was taken, the party made nothing
    pub give-mine : a.value.history ≡ b.value.history → q.own.mine ≡ w.own.mine
    give-mine same = ap (λ (x : PartyPlace). x.own.mine) gave ∙ (ap (λ (n : ℕ). w.own.mine ++ mines_from i (length (recorded dbuf_meanings i w.own)) n) none ∙ append-nil w.own.mine)
      where
        had : recorded dbuf_meanings i w.own ≡ lines_of b.value.history
        had = ap (λ (o : Option (Item OnHeap)). option_map_or (lines_in dbuf_meanings) o []) hand.recorded

        none : length (lines_of a.value.history) - length (recorded dbuf_meanings i w.own) ≡ 0
        none = let long : length (recorded dbuf_meanings i w.own) ≡ length (lines_of a.value.history) = ap length (had ∙ ap lines_of (sym same)) in omega (arith, long)

    pub give-made : HasSeenItsEntries g q
    give-made = subst (HasSeenItsEntries g) (sym gave) (given-entries dbuf_meanings g i a w in_range given front made)

    -- of the cell it made what it did with it in hand
    pub give-made-here : (news : List CellEvent) → a.value.history ≡ b.value.history ++ news → made_of i q ≡ made_of i w ++ lines_of news
    give-made-here news more = ap (made_of i) gave ∙ (given-made dbuf_meanings g i a w in_range given front made ∙ ap (λ (l : List (List ℕ)). made_of i w ++ map line.Entry l) more-is)
      where
        more-is : given.more ≡ map event_numbers news
        more-is = append_cancel_left (map event_numbers b.value.history) given.more (map event_numbers news)
            (ap (λ (c : OnHeap). map event_numbers c.value.history ++ given.more) (sym same-taken) ∙ (sym given.entries ∙ (ap (map event_numbers) more ∙ map-append event_numbers b.value.history news)))

    pub give-made-else : (j : ℕ) → j ≢ i → made_of j q ≡ made_of j w
    give-made-else j differs = ap (made_of j) gave ∙ given-made-else dbuf_meanings g i a w in_range given front j differs

    pub give-here : front_of i q.own.seen ≡ lines_of a.value.history
    give-here = ap (λ (x : PartyPlace). front_of i x.own.seen) gave ∙ front_here i (lines_of a.value.history) w.own.seen

    pub give-else : (j : ℕ) → j ≢ i → front_of j q.own.seen ≡ front_of j w.own.seen
    give-else j differs = ap (λ (x : PartyPlace). front_of j x.own.seen) gave ∙ front_else i j (lines_of a.value.history) w.own.seen differs

    pub give-records : (j : ℕ) → j ≢ i → item_at j q.own.records ≡ item_at j w.own.records
    give-records j differs = ap (λ (x : PartyPlace). item_at j x.own.records) gave ∙ without_else i j w.own.records differs

  -- these cells have the histories of those
  abbrev pub HaveSameHistories : (bs afters : List OnHeap) → Type 0
  HaveSameHistories [] [] = Unit {0}
  HaveSameHistories (b ∷ bs) (a ∷ afters) = (a.value.history ≡ b.value.history) × HaveSameHistories bs afters
  HaveSameHistories _ _ = ⊥

  -- these cells have the histories of those, and then this of each
  abbrev pub HaveNews : (news : ℕ → List CellEvent) (i : ℕ) → (bs afters : List OnHeap) → Type 0
  HaveNews news i [] [] = Unit {0}
  HaveNews news i (b ∷ bs) (a ∷ afters) = (a.value.history ≡ b.value.history ++ news i) × HaveNews news (suc i) bs afters
  HaveNews news i _ _ = ⊥

  -- all cells of the numbers from this one on were given back, which had been so, and are so now
  pub record HasGivenCells (i : ℕ) (bs afters : List OnHeap) (p q : PartyPlace) : Type 0 where
    pub quiet : IsQuiet g p q
    pub made : HasSeenItsEntries g q
    pub mine : HaveSameHistories bs afters → q.own.mine ≡ p.own.mine
    pub below : (j : ℕ) → j < i → (item_at j q.own.records ≡ item_at j p.own.records) × (front_of j q.own.seen ≡ front_of j p.own.seen)
    pub each : (k : ℕ) (d : OnHeap) → k < length afters → front_of (i + k) q.own.seen ≡ lines_of (slice_index_or afters k d).value.history
    -- it made of each cell what was done to it
    pub mades : (j : ℕ) → (j < i) ⊎ (g.cells ≤ j) → made_of j q ≡ made_of j p
    pub news_made : (news : ℕ → List CellEvent) → HaveNews news i bs afters → (k : ℕ) → k < length afters → made_of (i + k) q ≡ made_of (i + k) p ++ lines_of (news (i + k))

  -- one more of them was, and is so now
  more-given : (i : ℕ) (in_range : IsCell g i) (b a : OnHeap) (bs afters : List OnHeap) (p r q : PartyPlace) (rest : HasGivenCells (suc i) bs afters p r) (hand : IsInHand i b r) (given : IsGivenCell dbuf_meanings r.number i a r.own)
      (gave : q ≡ gave_back r i (after_cell dbuf_meanings i (item.Cell a) r.own)) → HasGivenCells i (b ∷ bs) (a ∷ afters) p q
  more-given i in_range b a bs afters p r q rest hand given gave = record {
    quiet = quiet-then g p r q rest.quiet (give-quiet i in_range b a r q rest.quiet.sees rest.quiet.all rest.made hand given gave);
    made = give-made i in_range b a r q rest.quiet.sees rest.quiet.all rest.made hand given gave;
    mine = λ same. give-mine i in_range b a r q rest.quiet.sees rest.quiet.all rest.made hand given gave same.0 ∙ rest.mine same.1;
    below = λ j lt. (
      give-records i in_range b a r q rest.quiet.sees rest.quiet.all rest.made hand given gave j (λ is. omega (arith, lt, is)) ∙ (rest.below j (omega (arith, lt))).0,
      give-else i in_range b a r q rest.quiet.sees rest.quiet.all rest.made hand given gave j (λ is. omega (arith, lt, is)) ∙ (rest.below j (omega (arith, lt))).1,
    );
    each = go;
    mades = λ j out. give-made-else i in_range b a r q rest.quiet.sees rest.quiet.all rest.made hand given gave j (elsewhere j out) ∙ rest.mades j (further j out);
    news_made = λ news have k lt. made-at news have k lt;
  }
    where
      elsewhere : (j : ℕ) → (j < i) ⊎ (g.cells ≤ j) → j ≢ i
      elsewhere j (inl low) is = omega (arith, low, is)
      elsewhere j (inr high) is = let b = in_range in omega (arith, high, is, b)

      further : (j : ℕ) → (j < i) ⊎ (g.cells ≤ j) → (j < suc i) ⊎ (g.cells ≤ j)
      further j (inl low) = inl (omega (arith, low))
      further j (inr high) = inr high

      made-at : (news : ℕ → List CellEvent) → HaveNews news i (b ∷ bs) (a ∷ afters) → (k : ℕ) → k < length (a ∷ afters) → made_of (i + k) q ≡ made_of (i + k) p ++ lines_of (news (i + k))
      made-at news have zero lt =
          let z : i ≡ i + zero = omega arith in
          subst (λ (n : ℕ). made_of n q ≡ made_of n p ++ lines_of (news n)) z
          (give-made-here i in_range b a r q rest.quiet.sees rest.quiet.all rest.made hand given gave (news i) have.0 ∙ ap (λ (l : List Line). l ++ lines_of (news i)) (rest.mades i (inl (omega arith))))
      made-at news have (suc k) lt =
          let z : suc i + k ≡ i + suc k = omega arith in
          subst (λ (n : ℕ). made_of n q ≡ made_of n p ++ lines_of (news n)) z
          (give-made-else i in_range b a r q rest.quiet.sees rest.quiet.all rest.made hand given gave (suc i + k) (λ is. omega (arith, is)) ∙ rest.news_made news have.1 k (omega (arith, lt)))

      go : (k : ℕ) (d : OnHeap) → k < length (a ∷ afters) → front_of (i + k) q.own.seen ≡ lines_of (slice_index_or (a ∷ afters) k d).value.history
      go zero d lt =
          let z : i + zero ≡ i = omega arith in
          ap (λ (n : ℕ). front_of n q.own.seen) z ∙ give-here i in_range b a r q rest.quiet.sees rest.quiet.all rest.made hand given gave
      go (suc k) d lt =
          let z : i + suc k ≡ suc i + k = omega arith in
          ap (λ (n : ℕ). front_of n q.own.seen) z
          ∙ (give-else i in_range b a r q rest.quiet.sees rest.quiet.all rest.made hand given gave (suc i + k) (λ is. omega (arith, is)) ∙ rest.each k d (omega (arith, lt)))

  pub all-given : (i : ℕ) (bs afters : List OnHeap) (p q : PartyPlace) → length bs ≡ length afters → i + length afters ≤ g.cells → HasSeenItsEvents g p → HasAll p → HasSeenItsEntries g p → AreInHand i bs p → GivesFrom i afters p q
      → HasGivenCells i bs afters p q
  all-given i [] [] p q same inside sees all made hand is = subst (HasGivenCells i [] [] p) (sym is) record {
    quiet = quiet-same g p p sees all refl;
    made = made;
    mine = λ same. refl;
    below = λ j lt. (refl, refl);
    each = λ k d lt. absurd (omega (arith, lt));
    mades = λ j out. refl;
    news_made = λ news have k lt. absurd (omega (arith, lt));
  }
  all-given i [] (a ∷ afters) p q same inside sees all made hand gives = absurd (omega (arith, same))
  all-given i (b ∷ bs) [] p q same inside sees all made hand gives = absurd (omega (arith, same))
  all-given i (b ∷ bs) (a ∷ afters) p q same inside sees all made hand gives =
      let r = gives.0 in
      let rest = all-given (suc i) bs afters p r (omega (arith, same)) (omega (arith, inside)) sees all made hand.1 gives.1 in
      let still = rest.below i (omega arith) in
      more-given i (omega (arith, inside)) b a bs afters p r q rest (record { recorded = still.0 ∙ hand.0.recorded; seen = still.1 ∙ hand.0.seen }) gives.2 gives.3
