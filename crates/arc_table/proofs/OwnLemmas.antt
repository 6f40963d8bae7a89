-- What a party's own calls add to what it has seen: the events that they make, and with all other parties joined no others.
use Rattle.std.proofs.Common.{◌≡◌, ◌≢◌, ◌⊎◌, ℕ, zero, suc, ◌+◌, ◌<◌, IsTrue, List, [], ◌∷◌, ◌++◌, length, map, refl, sym, ap, ◌∙◌, subst, inl, inr, ⊎_elim, ne_eqb, arith, append-nil}
use Rattle.std.proofs.lemmas.List.{length-map, map-append}
use Rattle.std.proofs.lemmas.List.Elements.{filter-append}
use mathlib.Core.Option.{some}
use mathlib.Core.Logic.{dite}
use native.Mathlib.Decide.{ℕ_discrete}
use lib.ListN.{get_elem?}
use Rattle.arc_core.specs.declared.config.Config.{Config}
use Rattle.arc_core.specs.declared.event.Event.{Event}
use Rattle.arc_core.specs.Operations.{Moment, goes_on, moments, number_of, own_moments}
use Rattle.arc_core.specs.PlainShard.{PlainShard}
use Rattle.arc_core.specs.Replay.{replay}
use Rattle.arc_core.specs.ShardLog.{ShardLog}
use Rattle.arc_core.specs.Step.{after}
use Rattle.turn_table.specs.declared.standing.Kept.{Kept}
use Rattle.turn_table.specs.Places.{IsIn, Place}
use Rattle.arc_table.specs.declared.view.Known.{Known}
use Rattle.arc_table.specs.declared.view.Line.{Line}
use Rattle.arc_table.specs.declared.view.Line.TheVariants as line
use Rattle.arc_table.specs.declared.view.Mine.{Mine}
use Rattle.arc_table.specs.Fronts.{StartsWith, front_of}
use Rattle.arc_table.specs.Geometry.{parties_of}
use Rattle.arc_table.specs.TableLaws.{get_front, starts_whole}
use Rattle.arc_table.proofs.TableLaws.{starts_more, there}
use Rattle.arc_table.specs.Telling.{opening_of}
use Rattle.arc_table.specs.Seen.{AddsAll, AddsOwn, AllSeenBy, HasAll, HasSeenBy, IsSeenBy, MadeBy, events_in, seen_of, turn_of}
use Rattle.arc_table.proofs.SeenLemmas.{events-at, events-map, get-behind}
use Rattle.arc_table.proofs.Tells.{moments-append}

-- ---- moments that are not one's own

pub no-own-moments : (n : ℕ) (s : PlainShard) (es : List Event) → ((y : ℕ) (e : Event) → get_elem? es y ≡ some e → number_of e ≢ n) → own_moments n (moments s es) ≡ []
no-own-moments n s [] others = refl
no-own-moments n s (e ∷ es) others =
    rw (ne_eqb (number_of e) n (others 0 e refl)) (no-own-moments n (after s e) es (λ y x at. others (suc y) x at))

pub own-append : (n : ℕ) (s : PlainShard) (front rest : List Event) → own_moments n (moments s (front ++ rest)) ≡ own_moments n (moments s front) ++ own_moments n (moments (replay s front) rest)
own-append n s front rest = ap (own_moments n) (moments-append s front rest) ∙ filter-append _ (moments s front) (moments (replay s front) rest)

module _ {A : Type 0} where
  pub get-either : (l m : List A) (j : ℕ) (a : A) → get_elem? (l ++ m) j ≡ some a → (get_elem? l j ≡ some a) ⊎ ((y : ℕ) × (get_elem? m y ≡ some a))
  get-either [] m j a at = inr (j, at)
  get-either (x ∷ xs) m zero a at = inl at
  get-either (x ∷ xs) m (suc j) a at = get-either xs m j a at

-- what stands in a front stands in the history
pub seen-more : {May : (n number : ℕ) → Type 0} → (b n : ℕ) (h front : List Line) (place : ℕ) → StartsWith h front → IsSeenBy May b n front place → IsSeenBy May b n h place
seen-more {May} b n h front place starts seen = subst (λ (l : List Line). IsSeenBy May b n l place) (sym starts.1) (record {
  event = seen.event;
  there = get_front front starts.0 place (line.Event seen.event) seen.there;
  number = seen.number;
  placed = λ pass. let x = seen.placed pass in (x.0, get_front front starts.0 (suc place) (line.Event x.0) x.1, x.2);
  named = seen.named;
})

-- ---- one call

module _ {C : Type 0} (g : Config) where
  all-seen-more : (May : (n number : ℕ) → Type 0) (ks : List (Kept (Known C))) (s t : List (List Line)) → ((i : ℕ) → StartsWith (front_of (turn_of g i) t) (front_of (turn_of g i) s)) → AllSeenBy May g ks s → AllSeenBy May g ks t
  all-seen-more May [] s t more all = tt
  all-seen-more May (k ∷ ks) s t more all = ((λ i j a at is. seen-more (parties_of g) k.number (front_of (turn_of g i) t) (front_of (turn_of g i) s) a.place (more i) (all.0 i j a at is)), all-seen-more May ks s t more all.1)

  module _ {May : (n number : ℕ) → Type 0} (shard : ℕ) (before : ShardLog) (es : List Event) (p q : Place (Known C)) (made : MadeBy May g shard before es p q) where
    history-is : seen_of g shard q ≡ before.history ++ es
    history-is = ap events_in made.here ∙ events-map (before.history ++ es)

    pub made-own : AddsOwn g shard (own_moments p.number (moments before.now es)) p q
    made-own = record {
      number = made.same.number;
      here =
          let n = p.number in
          let then : own_moments n (moments (opening_of g) before.history) ≡ own_moments n (moments (opening_of g) (seen_of g shard p)) =
          ap (λ (l : List Event). own_moments n (moments (opening_of g) l)) made.found.whole
          ∙ (own-append n (opening_of g) (seen_of g shard p) made.found.rest
          ∙ (ap (λ (l : List Moment). own_moments n (moments (opening_of g) (seen_of g shard p)) ++ l) (no-own-moments n _ made.found.rest made.found.others)
          ∙ append-nil (own_moments n (moments (opening_of g) (seen_of g shard p))))) in
          ap (λ (l : List Event). own_moments n (moments (opening_of g) l)) history-is
          ∙ (own-append n (opening_of g) before.history es
          ∙ ap (λ (x : List Moment × PlainShard). x.0 ++ own_moments n (moments x.1 es)) (λ i. (then i, made.replayed i)));
      others = λ j differs. ap events_in (made.others j differs);
    }

    pub made-alone : HasAll p → AddsAll g shard es p q
    made-alone all = record {
      number = made.same.number;
      here = history-is ∙ ap (λ (l : List Event). l ++ es) (made.found.whole ∙ (ap (λ (l : List Event). seen_of g shard p ++ l) (made.found.alone all) ∙ append-nil (seen_of g shard p)));
      others = λ j differs. ap events_in (made.others j differs);
    }

    -- what a party that has every number finds is the replay of what it has seen
    pub made-now : HasAll p → before.now ≡ replay (opening_of g) (seen_of g shard p)
    made-now all = sym made.replayed ∙ ap (replay (opening_of g)) (made.found.whole ∙ (ap (λ (l : List Event). seen_of g shard p ++ l) (made.found.alone all) ∙ append-nil (seen_of g shard p)))

    pub made-all : HasAll p → HasAll q
    made-all all n below = subst (λ (x : ℕ × List (Kept (Known C))). (x.0 ≡ n) ⊎ IsIn n x.1) (λ h. (sym made.same.number h, sym made.same.joined h))
        (all n (subst (λ (x : ℕ). n < x) made.same.parties below))

    pub grows : (j : ℕ) → StartsWith (front_of (turn_of g j) q.own.seen) (front_of (turn_of g j) p.own.seen)
    grows j = dite (ℕ_discrete j shard)
        (λ is. subst (λ (x : ℕ). StartsWith (front_of (turn_of g x) q.own.seen) (front_of (turn_of g x) p.own.seen)) (sym is)
        (subst (λ (l : List Line). StartsWith l (front_of (turn_of g shard) p.own.seen)) (sym (made.here ∙ map-append line.Event before.history es))
        (starts_more (map line.Event before.history) (front_of (turn_of g shard) p.own.seen) (map line.Event es) made.found.starts)))
        (λ differs. subst (λ (l : List Line). StartsWith l (front_of (turn_of g j) p.own.seen)) (sym (made.others j differs)) (starts_whole (front_of (turn_of g j) p.own.seen)))

    -- what was made stands at the end
    at-end : (z : ℕ) (e : Event) → get_elem? es z ≡ some e → get_elem? (front_of (turn_of g shard) q.own.seen) (length before.history + z) ≡ some (line.Event e)
    at-end z e at = ap (λ (l : List Line). get_elem? l (length before.history + z)) (made.here ∙ map-append line.Event before.history es)
        ∙ (ap (λ (n : ℕ). get_elem? (map line.Event before.history ++ map line.Event es) (n + z)) (sym (length-map before.history line.Event))
        ∙ (get-behind (map line.Event before.history) (map line.Event es) z ∙ events-at (map line.Event es) es refl z e at))

    made-seen : (y : ℕ) → y < length es → IsSeenBy May (parties_of g) q.number (front_of (turn_of g shard) q.own.seen) (length before.history + y)
    made-seen y inside =
        let e = there es y inside in
        let own = made.own y e.0 e.1 in
        record {
          event = e.0;
          there = at-end y e.0 e.1;
          number = subst (λ (n : ℕ). May n (number_of e.0)) (sym made.same.number) own.0;
          placed = λ pass.
              let x = own.1 pass in
              let next : suc (length before.history + y) ≡ length before.history + suc y = omega arith in (
                x.0,
                (ap (λ (n : ℕ). get_elem? (front_of (turn_of g shard) q.own.seen) n) next ∙ at-end (suc y) x.0 x.1),
                subst (λ (n : ℕ). IsTrue (goes_on n x.0)) (sym made.same.number) x.2,
              );
          named = own.2;
        }

    pub made-sees : HasSeenBy May g p → HasSeenBy May g q
    made-sees own = record {
      own = λ j i a at is. ⊎_elim
          (λ (old : get_elem? p.own.mine i ≡ some a). subst (λ (n : ℕ). IsSeenBy May (parties_of g) n (front_of (turn_of g j) q.own.seen) a.place) (sym made.same.number)
          (seen-more (parties_of g) p.number (front_of (turn_of g j) q.own.seen) (front_of (turn_of g j) p.own.seen) a.place (grows j) (own.own j i a old is)))
          (λ (new : (y : ℕ) × (get_elem? made.news y ≡ some a)).
          let each = made.each new.0 a new.1 in
          subst (λ (x : ℕ × ℕ). IsSeenBy May (parties_of g) q.number (front_of x.0 q.own.seen) x.1) (λ h. ((sym each.0 ∙ is) h, sym each.1 h)) (made-seen new.0 each.2))
          (get-either p.own.mine made.news i a (subst (λ (l : List Mine). get_elem? l i ≡ some a) made.mine at));
      joined = subst (λ (ks : List (Kept (Known C))). AllSeenBy May g ks q.own.seen) (sym made.same.joined) (all-seen-more May p.joined p.own.seen q.own.seen grows own.joined);
    }
