-- How a row of turns ends: one party has taken in all others, so all turns are free.
use Rattle.std.proofs.Common.{◌≡◌, ◌≢◌, ◌⊎◌, ℕ, zero, suc, ◌+◌, ◌<◌, ◌≤◌, List, [], ◌∷◌, ◌++◌, map, length, take, get_or, set, Bool, true, false, Option, Some, None, refl, sym, ap, ◌∙◌, subst, inl, inr, ⊎_elim, arith}
use mathlib.Core.Option.{some, some-injective, some-ne-none}
use mathlib.Core.Logic.{dite}
use native.Mathlib.Decide.{ℕ_discrete}
use lib.ListN.{get_elem?}
use Rattle.atomic_table.specs.Table.{Final, Seen}
use Rattle.turn_table.specs.Board.{Turn, free, taken, Board, opening, IsAmong}
use Rattle.turn_table.specs.Homes.{home, room, Laid}
use Rattle.turn_table.specs.Standings.{AllKept, TurnsKeep}
use Rattle.turn_table.specs.Places.{Place, met, entries, IsIn, HasNumber, SomeHas, AreFree, AllShow, Shows, ShowAll, Row, IsPartyOf}
use Rattle.turn_table.specs.declared.standing.Kept.{Kept}
use Rattle.turn_table.specs.declared.standing.Standing.{Standing}
use Rattle.turn_table.proofs.Homes.{home_same}
use Rattle.turn_table.proofs.Rows.{some_at, within, same_at}
use Rattle.turn_table.proofs.Moves.{kept_show}

-- what is kept while a party takes in others: it, what is left of them, and the two at the start
pub record Takes {W : Type 0} (id : Row) (p q : Place W) (ps qs : List (Place W)) : Type 0 where
  pub row : IsPartyOf id p
  pub held : p.held ≡ []
  pub free : AreFree id ps
  pub numbers : (n : ℕ) → HasNumber n q ⊎ SomeHas n qs → HasNumber n p ⊎ SomeHas n ps
  pub views : (views : List W) → Shows views p → ShowAll views ps → Shows views q × ShowAll views qs

module _ {W : Type 0} where
  in_append : (n : ℕ) (ks js : List (Kept W)) → IsIn n ks ⊎ IsIn n js → IsIn n (ks ++ js)
  in_append n [] js h = ⊎_elim (λ t. absurd t) (λ t. t) h
  in_append n (k ∷ ks) js h = ⊎_elim (λ t. ⊎_elim inl (λ u. inr (in_append n ks js (inl u))) t) (λ t. inr (in_append n ks js (inr t))) h

  show_append : (views : List W) (ks js : List (Kept W)) → AllShow views (ks ++ js) → AllShow views ks × AllShow views js
  show_append views [] js h = (tt, h)
  show_append views (k ∷ ks) js h = let r = show_append views ks js h.1 in ((h.0, r.0), r.1)

  pub free_last : (id : Row) (ps : List (Place W)) (p : Place W) → AreFree id (ps ++ p ∷ []) → AreFree id ps × IsPartyOf id p × (p.held ≡ [])
  free_last id [] p h = (tt, h.0, h.1)
  free_last id (q ∷ ps) p h = let r = free_last id ps p h.2 in ((h.0, h.1, r.0), r.1, r.2)

  pub has_last : (n : ℕ) (ps : List (Place W)) (p : Place W) → SomeHas n (ps ++ p ∷ []) → SomeHas n ps ⊎ HasNumber n p
  has_last n [] p h = ⊎_elim inr (λ t. absurd t) h
  has_last n (q ∷ ps) p h = ⊎_elim (λ t. inl (inl t)) (λ t. ⊎_elim (λ u. inl (inr u)) inr (has_last n ps p t)) h

  pub show_last : (views : List W) (ps : List (Place W)) (p : Place W) → ShowAll views ps → Shows views p → ShowAll views (ps ++ p ∷ [])
  show_last views [] p a h = (h, tt)
  show_last views (q ∷ ps) p a h = (a.0, show_last views ps p a.1 h)

  met_has : (n : ℕ) (p q : Place W) (w : W) → HasNumber n p ⊎ HasNumber n q → HasNumber n (met p q w)
  met_has n p q w h = ⊎_elim (λ t. ⊎_elim inl (λ u. inr (in_append n (entries q.number q.own q.joined) p.joined (inr u))) t) (λ t. inr (in_append n (entries q.number q.own q.joined) p.joined (inl t))) h

  met_shows : (views : List W) (p q : Place W) → Shows views (met p q p.own) → Shows views p × Shows views q
  met_shows views p q h = let r = show_append views (entries q.number q.own q.joined) p.joined h.1 in ((h.0, r.1), r.0)

  pub takes_none : (id : Row) (p : Place W) (ps : List (Place W)) → IsPartyOf id p → p.held ≡ [] → AreFree id ps → Takes id p p ps ps
  takes_none id p ps row held idle = record { row = row; held = held; free = idle; numbers = λ n h. h; views = λ views a b. (a, b) }

  pub takes_one : (id : Row) (p q a : Place W) (ps qs rest : List (Place W)) → ps ≡ rest ++ a ∷ [] → Takes id p q ps qs → Takes id (met p a p.own) q rest qs
  takes_one id p q a ps qs rest e t =
      let f = free_last id rest a (subst (AreFree id) e t.free) in record {
        row = t.row;
        held = t.held;
        free = f.0;
        numbers = λ n h. ⊎_elim (λ u. inl (met_has n p a p.own (inl u))) (λ u. ⊎_elim inr (λ v. inl (met_has n p a p.own (inr v))) (has_last n rest a (subst (SomeHas n) e u))) (t.numbers n h);
        views = λ views s l. let m = met_shows views p a s in t.views views m.0 (subst (ShowAll views) (sym e) (show_last views rest a l m.1));
      }

  pub last_free : (id : Row) (p q a : Place W) (ps qs rest : List (Place W)) → ps ≡ rest ++ a ∷ [] → Takes id p q ps qs → IsPartyOf id a × (a.held ≡ [])
  last_free id p q a ps qs rest e t = let f = free_last id rest a (subst (AreFree id) e t.free) in (f.1, f.2)

near_or_far : (i n : ℕ) → (i < n) ⊎ (n ≤ i)
near_or_far i zero = inr (omega arith)
near_or_far zero (suc n) = inl (omega arith)
near_or_far (suc i) (suc n) = ⊎_elim (λ h. inl (omega arith)) (λ h. inr (omega arith)) (near_or_far i n)

pub nothing_left : {A : Type 0} (l : List A) → length l ≡ 0 → l ≡ []
nothing_left [] e = refl
nothing_left (x ∷ xs) e = absurd (omega arith)

module _ {V : Type 0} where
  -- the values from the front on, one more
  pub take_more : (vs : List V) (i : ℕ) (v : V) → get_elem? vs i ≡ some v → take i vs ++ v ∷ [] ≡ take (i + 1) vs
  take_more vs i v at = grown vs i v at ∙ ap (λ n. take n vs) (let k : suc i ≡ i + 1 = omega arith in k)
    where
      grown : (vs : List V) (i : ℕ) (v : V) → get_elem? vs i ≡ some v → take i vs ++ v ∷ [] ≡ take (suc i) vs
      grown [] i v at = absurd (some-ne-none v (sym at))
      grown (u ∷ us) zero v at = ap (λ z. z ∷ []) (sym (some-injective u v at))
      grown (u ∷ us) (suc i) v at = ap (λ l. u ∷ l) (grown us i v at)

  pub take_whole : (vs : List V) (i : ℕ) → length vs ≤ i → take i vs ≡ vs
  take_whole [] zero all = refl
  take_whole [] (suc i) all = refl
  take_whole (v ∷ vs) zero all = absurd (omega arith)
  take_whole (v ∷ vs) (suc i) all = ap (λ l. v ∷ l) (take_whole vs i (omega arith))

  -- a slot with a value is that of a turn, and one without lies behind the last turn
  pub is_value : (xs : List (Option V)) (vs : List V) (i : ℕ) (v : V) → Laid xs vs → i < room (length vs) → get_elem? xs (home i) ≡ some (Some v) → get_elem? vs i ≡ some v
  is_value xs vs i v laid below at = ⊎_elim
      (λ (near : i < length vs). let t = some_at vs i near in
      let same : Some t.0 ≡ Some v = same_at xs (home i) (Some t.0) (Some v) (laid.each i t.0 t.1) at in
      t.1 ∙ ap some (let e : t.0 ≡ v = cc in e))
      (λ (far : length vs ≤ i). let none : ◌≡◌ {A = Option V} None (Some v) = same_at xs (home i) None (Some v) (laid.spare i far below) at in absurd (cc))
      (near_or_far i (length vs))

  pub is_spare : (xs : List (Option V)) (vs : List V) (i : ℕ) → Laid xs vs → get_elem? xs (home i) ≡ some None → length vs ≤ i
  is_spare xs vs i laid at = ⊎_elim
      (λ (near : i < length vs). let t = some_at vs i near in
      let none : Some t.0 ≡ None = same_at xs (home i) (Some t.0) None (laid.each i t.0 t.1) at in absurd (cc))
      (λ (far : length vs ≤ i). far)
      (near_or_far i (length vs))

  all_frees : (ts : List (Turn V)) → ((i n : ℕ) → get_elem? ts i ≡ some (taken n) → ⊥) → (vs : List V) × (ts ≡ map free vs)
  all_frees [] h = ([], refl)
  all_frees (free v ∷ ts) h = let r = all_frees ts (λ i. h (suc i)) in (v ∷ r.0, ap (λ l. free v ∷ l) r.1)
  all_frees (taken n ∷ ts) h = absurd (h 0 n refl)

  free_at : (vs : List V) (i : ℕ) (v : V) → get_elem? vs i ≡ some v → get_elem? (map free vs) i ≡ some (free v)
  free_at [] i v e = absurd (some-ne-none v (sym e))
  free_at (u ∷ vs) zero v e = ap (λ z. some (free z)) (some-injective u v e)
  free_at (u ∷ vs) (suc i) v e = free_at vs i v e

set_false : (fs : List Bool) (k : ℕ) → get_or (set fs k false) k false ≡ false
set_false [] k = refl
set_false (b ∷ bs) zero = refl
set_false (b ∷ bs) (suc k) = set_false bs k

set_other : (fs : List Bool) (j k : ℕ) → k ≢ j → get_or (set fs j false) k false ≡ get_or fs k false
set_other [] j k far = refl
set_other (b ∷ bs) zero zero far = absurd (far refl)
set_other (b ∷ bs) zero (suc k) far = refl
set_other (b ∷ bs) (suc j) zero far = refl
set_other (b ∷ bs) (suc j) (suc k) far = set_other bs j k (λ e. far (ap suc e))

pub gone_more : (fs : List Bool) (i k : ℕ) → ((j : ℕ) → j < i → get_or fs (home j) false ≡ false) → k < i + 1 → get_or (set fs (home i) false) (home k) false ≡ false
gone_more fs i k h below = dite (ℕ_discrete k i)
    (λ e. subst (λ (z : ℕ). get_or (set fs (home i) false) (home z) false ≡ false) (sym e) (set_false fs (home i)))
    (λ ne. set_other fs (home i) (home k) (λ q. ne (home_same k i q)) ∙ h k (omega arith))

pub there_still : (fs : List Bool) (i k : ℕ) → i + 1 ≤ k → get_or (set fs (home i) false) (home k) false ≡ get_or fs (home k) false
there_still fs i k h = set_other fs (home i) (home k) (λ q. let e : k ≡ i = home_same k i q in absurd (omega arith))

module _ {V W : Type 0} (holds : Board V W → Type 0) (parties size : ℕ) where
  -- what a closed table gives, where one seat has all numbers and holds no turn
  pub record Ended (x : Standing W) (xs : List (Option V)) : Type 0 where
    pub values : List V
    pub views : List W
    pub are : Laid xs values
    pub long : length values ≡ size
    pub rule : holds (opening values views)
    pub count : length views ≡ parties
    pub own : get_elem? views x.number ≡ some x.own
    pub others : AllShow views x.joined

  seat_of : (views : List W) (seat : ℕ → ℕ) (id n : ℕ) (ks : List (Kept W)) → AllKept views seat id ks → IsIn n ks → seat n ≡ id
  seat_of views seat id n [] all h = absurd h
  seat_of views seat id n (k ∷ ks) all h = ⊎_elim (λ e. ap seat (sym e) ∙ all.0.0) (λ t. seat_of views seat id n ks all.1 t) h

  pub ended : (id : ℕ) (x : Standing W) (ws : List ℕ) (xs : List (Option V)) → x.live ≡ true → x.held ≡ [] → ((n : ℕ) → n < parties → (x.number ≡ n) ⊎ IsIn n x.joined) → Final (Seen (TurnsKeep holds parties size) id x) ws xs → Ended x xs
  ended id x ws xs live idle all fin =
      let s = fin.0 in
      let r = fin.1.0 in
      let own = r.seats id x fin.1.1 live in
      let nobody : (i n : ℕ) → get_elem? r.turns i ≡ some (taken n) → ⊥ = λ i n e.
      let h = r.owners i n e in
      let there = r.seats h.id h.standing h.at h.live in
      let below : n < parties = let a : h.standing.number < length r.views = within r.views h.standing.number h.standing.own there.own_is in let b : length r.views ≡ parties = r.count in let c : h.standing.number ≡ n = h.number in omega arith in
      let mine : r.seat n ≡ id = ⊎_elim (λ q. ap r.seat (sym q) ∙ own.own_at) (λ q. seat_of r.views r.seat id n x.joined own.joined q) (all n below) in
      let one : h.id ≡ id = sym there.own_at ∙ (ap r.seat h.number ∙ mine) in
      subst (λ (l : List ℕ). IsAmong i l) idle (subst (λ (t : Standing W). IsAmong i t.held) (same_at s.views id h.standing x (subst (λ (t : ℕ). get_elem? s.views t ≡ some h.standing) one h.at) fin.1.1) h.among) in
      let v = all_frees r.turns nobody in
      let many : length r.turns ≡ length v.0 = ap length v.1 ∙ long v.0 in
      record {
        values = v.0;
        views = r.views;
        are = record {
          long = sym fin.3 ∙ (r.stands.homes ∙ ap room many);
          each = λ i y e. fin.4 (home i) (Some y) (r.stands.each i (free y) (subst (λ (l : List (Turn V)). get_elem? l i ≡ some (free y)) (sym v.1) (free_at v.0 i y e))).1;
          spare = λ i from below. fin.4 (home i) None (r.stands.spare i (let a = many in omega arith) (subst (λ (n : ℕ). i < room n) (sym many) below));
        };
        long = sym many ∙ r.long;
        rule = subst (λ (l : List (Turn V)). holds record { turns = l; views = r.views }) v.1 r.rule;
        count = r.count;
        own = own.own_is;
        others = kept_show r.views r.seat id x.joined own.joined;
      }
    where
      long : (vs : List V) → length (map free vs) ≡ length vs
      long [] = refl
      long (v ∷ vs) = ap suc (long vs)

  -- the same, for the values that were taken out
  pub ended_as : (x : Standing W) (xs : List (Option V)) (vs : List V) → (e : Ended x xs) → e.values ≡ vs → (views : List W) × (length views ≡ parties) × (holds (opening vs views)) × (get_elem? views x.number ≡ some x.own) × AllShow views x.joined
  ended_as x xs vs e same = (e.views, e.count, subst (λ (l : List V). holds (opening l e.views)) same e.rule, e.own, e.others)
