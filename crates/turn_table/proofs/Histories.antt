-- The steps on histories keep what they are: a party sees more, a party adds entries of its own.
use Rattle.std.proofs.Common.{◌≡◌, ◌≢◌, ◌⊎◌, if◌then◌else◌, ℕ, zero, suc, ◌+◌, ◌<◌, ◌≤◌, List, [], ◌∷◌, ◌++◌, length, Bool, true, false, Some, None, refl, sym, ap, ◌∙◌, subst, inl, inr, ⊎_elim, eq-eqb, ne_eqb, arith, length-append}
use Rattle.std.specs.Prelude.{slice_get, nat_lt}
use mathlib.Core.List.{IsPrefix, append_assoc, append-nil}
use mathlib.Core.Logic.{dite}
use native.Mathlib.Decide.{ℕ_discrete}
use Rattle.std.proofs.lemmas.Bool.Decides.{nat_tests}
use Rattle.turn_table.specs.Histories.{front_of, put, longer, seen_by_both, HasPlace, AllStand, IsAfterAll, Rises, AreMade, Logged, with_owner}

module _ {A : Type 0} where
  pub prefix_more : (s h xs : List A) → IsPrefix s h → IsPrefix s (h ++ xs)
  prefix_more s h xs p = (p.0 ++ xs, sym (append_assoc s p.0 xs) ∙ ap (λ l. l ++ xs) p.1)

  pub prefix_length : (s h : List A) → IsPrefix s h → length s ≤ length h
  prefix_length s h p = let e = length-append s p.0 in let f : length (s ++ p.0) ≡ length h = ap length p.1 in omega arith

  none_left : (l : List A) → length l ≡ 0 → l ≡ []
  none_left [] e = refl
  none_left (x ∷ xs) e = absurd (omega arith)

  -- a beginning that is as long as the whole is the whole
  pub prefix_whole : (s h : List A) → IsPrefix s h → length h ≤ length s → s ≡ h
  prefix_whole s h p wide = sym (append-nil s) ∙ (ap (λ l. s ++ l) (sym (none_left p.0 (let e = length-append s p.0 in let f : length (s ++ p.0) ≡ length h = ap length p.1 in omega arith))) ∙ p.1)

  pub get_more : (h xs : List A) (p : ℕ) (y : A) → slice_get h p ≡ Some y → slice_get (h ++ xs) p ≡ Some y
  get_more [] xs p y e = let f : None ≡ Some y = e in absurd (cc)
  get_more (z ∷ h) xs zero y e = e
  get_more (z ∷ h) xs (suc p) y e = get_more h xs p y e

  pub get_at : (h xs : List A) (x : A) → slice_get (h ++ x ∷ xs) (length h) ≡ Some x
  get_at [] xs x = refl
  get_at (z ∷ h) xs x = get_at h xs x

  pub get_below : (h : List A) (p : ℕ) (y : A) → slice_get h p ≡ Some y → p < length h
  get_below [] p y e = let f : None ≡ Some y = e in absurd (cc)
  get_below (z ∷ h) zero y e = omega arith
  get_below (z ∷ h) (suc p) y e = let b = get_below h p y e in omega arith

  -- what a beginning has, the whole has
  pub prefix_get : (s h : List A) (p : ℕ) (y : A) → IsPrefix s h → slice_get s p ≡ Some y → slice_get h p ≡ Some y
  prefix_get s h p y pre e = subst (λ (l : List A). slice_get l p ≡ Some y) pre.1 (get_more s pre.0 p y e)

  pub front_here : (i : ℕ) (h : List A) (s : List (List A)) → front_of i (put i h s) ≡ h
  front_here zero h [] = refl
  front_here zero h (x ∷ xs) = refl
  front_here (suc i) h [] = front_here i h []
  front_here (suc i) h (x ∷ xs) = front_here i h xs

  pub front_else : (i j : ℕ) (h : List A) (s : List (List A)) → j ≢ i → front_of j (put i h s) ≡ front_of j s
  front_else zero zero h s n = absurd (n refl)
  front_else zero (suc j) h [] n = refl
  front_else zero (suc j) h (x ∷ xs) n = refl
  front_else (suc i) zero h [] n = refl
  front_else (suc i) zero h (x ∷ xs) n = refl
  front_else (suc i) (suc j) h [] n = front_else i j h [] (λ e. n (ap suc e))
  front_else (suc i) (suc j) h (x ∷ xs) n = front_else i j h xs (λ e. n (ap suc e))

  -- the front after two have told each other is one of theirs
  pub front_both : (i : ℕ) (a b : List (List A)) → (front_of i (seen_by_both a b) ≡ front_of i a) ⊎ (front_of i (seen_by_both a b) ≡ front_of i b)
  front_both i [] b = inr refl
  front_both i (x ∷ xs) [] = inl refl
  front_both zero (x ∷ xs) (y ∷ ys) = elim (nat_lt (length x) (length y)) as (λ t. ((if t then y else x) ≡ x) ⊎ ((if t then y else x) ≡ y)) [ true ↦ inr refl | false ↦ inl refl ]
  front_both (suc i) (x ∷ xs) (y ∷ ys) = front_both i xs ys

  longer_least : (x y : List A) → (length x ≤ length (longer x y)) × (length y ≤ length (longer x y))
  longer_least x y = by_cases (nat_lt (length x) (length y)) refl
    where
      by_cases : (t : Bool) → nat_lt (length x) (length y) ≡ t → (length x ≤ length (longer x y)) × (length y ≤ length (longer x y))
      by_cases true e = let f : length x < length y = grind (arith, nat_tests) in subst (λ b. (length x ≤ length (if b then y else x)) × (length y ≤ length (if b then y else x))) (sym e) (omega arith, omega arith)
      by_cases false e = let f : length y ≤ length x = grind (arith, nat_tests) in subst (λ b. (length x ≤ length (if b then y else x)) × (length y ≤ length (if b then y else x))) (sym e) (omega arith, omega arith)

  -- and is no shorter than either
  pub both_least : (i : ℕ) (a b : List (List A)) → (length (front_of i a) ≤ length (front_of i (seen_by_both a b))) × (length (front_of i b) ≤ length (front_of i (seen_by_both a b)))
  both_least i [] b = (omega arith, omega arith)
  both_least i (x ∷ xs) [] = (omega arith, omega arith)
  both_least zero (x ∷ xs) (y ∷ ys) = longer_least x y
  both_least (suc i) (x ∷ xs) (y ∷ ys) = both_least i xs ys

-- the owner of a place, after the places of the turn i from p on became n's
module _ (owner : ℕ → ℕ → ℕ) (i p n : ℕ) where
  pub owner_else : (j q : ℕ) → j ≢ i → with_owner owner i p n j q ≡ owner j q
  owner_else j q h = subst (λ b. (if b then (if nat_lt q p then owner j q else n) else owner j q) ≡ owner j q) (sym (ne_eqb j i h)) refl

  by_test : (q : ℕ) (b : Bool) → nat_lt q p ≡ b → (q < p → (if b then owner i q else n) ≡ owner i q) × (p ≤ q → (if b then owner i q else n) ≡ n)
  by_test q true e = ((λ h. refl), (λ h. let below : q < p = grind (arith, nat_tests) in absurd (omega arith)))
  by_test q false e = ((λ h. let above : p ≤ q = grind (arith, nat_tests) in absurd (omega arith)), (λ h. refl))

  pub owner_before : (q : ℕ) → q < p → with_owner owner i p n i q ≡ owner i q
  owner_before q h = subst (λ b. (if b then (if nat_lt q p then owner i q else n) else owner i q) ≡ owner i q) (sym (eq-eqb i i refl)) ((by_test q (nat_lt q p) refl).0 h)

  pub owner_after : (q : ℕ) → p ≤ q → with_owner owner i p n i q ≡ n
  owner_after q h = subst (λ b. (if b then (if nat_lt q p then owner i q else n) else owner i q) ≡ n) (sym (eq-eqb i i refl)) ((by_test q (nat_lt q p) refl).1 h)

module _ {A M : Type 0} (turn_of place_of : M → ℕ) (fits : M → A → Type 0) where
  pub place_left : (i p : ℕ) (ms ks : List M) → HasPlace turn_of place_of fits i p ms → HasPlace turn_of place_of fits i p (ms ++ ks)
  place_left i p [] ks h = absurd h
  place_left i p (m ∷ ms) ks h = ⊎_elim inl (λ t. inr (place_left i p ms ks t)) h

  pub place_right : (i p : ℕ) (ms ks : List M) → HasPlace turn_of place_of fits i p ks → HasPlace turn_of place_of fits i p (ms ++ ks)
  place_right i p [] ks h = h
  place_right i p (m ∷ ms) ks h = inr (place_right i p ms ks h)

  -- entries stand where they stood, once histories are longer and more is seen of them
  pub stand_longer : (history history' : ℕ → List A) (owner owner' : ℕ → ℕ → ℕ) (seen seen' : ℕ → List A) (n : ℕ) (ms : List M)
      → ((j : ℕ) → IsPrefix (history j) (history' j)) → ((j p : ℕ) → p < length (history j) → owner' j p ≡ owner j p) → ((j : ℕ) → length (seen j) ≤ length (seen' j))
      → AllStand turn_of place_of fits history owner seen n ms → AllStand turn_of place_of fits history' owner' seen' n ms
  stand_longer history history' owner owner' seen seen' n [] longer same more all = tt
  stand_longer history history' owner owner' seen seen' n (m ∷ ms) longer same more all =
      let at = all.0.0 in
      let below = get_below (history (turn_of m)) (place_of m) at.0 at.1 in
      let wide = more (turn_of m) in
      let was : place_of m < length (seen (turn_of m)) = all.0.1 in (
        ((at.0, prefix_get (history (turn_of m)) (history' (turn_of m)) (place_of m) at.0 (longer (turn_of m)) at.1, at.2), omega arith, same (turn_of m) (place_of m) below ∙ all.0.2),
        stand_longer history history' owner owner' seen seen' n ms longer same more all.1,
      )

  stand_both : (history : ℕ → List A) (owner : ℕ → ℕ → ℕ) (seen : ℕ → List A) (n : ℕ) (ms ks : List M)
      → AllStand turn_of place_of fits history owner seen n ms → AllStand turn_of place_of fits history owner seen n ks → AllStand turn_of place_of fits history owner seen n (ms ++ ks)
  stand_both history owner seen n [] ks a b = b
  stand_both history owner seen n (m ∷ ms) ks a b = (a.0, stand_both history owner seen n ms ks a.1 b)

  -- what was made at the end of the history of the turn i stands there
  made_stand : (history : ℕ → List A) (owner : ℕ → ℕ → ℕ) (seen : ℕ → List A) (n i p : ℕ) (h xs : List A) (ms : List M) → h ++ xs ≡ history i → p ≡ length h → ((q : ℕ) → p ≤ q → owner i q ≡ n)
      → length (history i) ≤ length (seen i) → AreMade turn_of place_of fits i p xs ms → AllStand turn_of place_of fits history owner seen n ms
  made_stand history owner seen n i p h [] [] is at mine whole all = tt
  made_stand history owner seen n i p h [] (m ∷ ms) is at mine whole all = absurd all
  made_stand history owner seen n i p h (x ∷ xs) [] is at mine whole all = absurd all
  made_stand history owner seen n i p h (x ∷ xs) (m ∷ ms) is at mine whole all =
      let next : (h ++ x ∷ []) ++ xs ≡ history i = append_assoc h (x ∷ []) xs ∙ is in
      let e = length-append h (x ∷ []) in
      let f = length-append (h ++ x ∷ []) xs in
      let g : length ((h ++ x ∷ []) ++ xs) ≡ length (history i) = ap length next in
      let here : slice_get (history i) p ≡ Some x = subst (λ (l : List A). slice_get l p ≡ Some x) is (subst (λ (q : ℕ). slice_get (h ++ x ∷ xs) q ≡ Some x) (sym at) (get_at h xs x)) in
      let below : p < length (seen i) = omega arith in
      let one : ((slice_get (history (turn_of m)) (place_of m) ≡ Some x) × (place_of m < length (seen (turn_of m))) × (owner (turn_of m) (place_of m) ≡ n)) =
      subst (λ (z : ℕ × ℕ). (slice_get (history z.0) z.1 ≡ Some x) × (z.1 < length (seen z.0)) × (owner z.0 z.1 ≡ n)) (λ k. (sym all.0.0 k, sym all.0.1 k)) (here, below, mine p (omega arith)) in (
        ((x, one.0, all.0.2), one.1, one.2),
        made_stand history owner seen n i (suc p) (h ++ x ∷ []) xs ms next (omega arith) (λ q a. mine q (omega arith)) whole all.1,
      )

  made_place : (i p q : ℕ) (xs : List A) (ms : List M) → AreMade turn_of place_of fits i p xs ms → p ≤ q → q < p + length xs → HasPlace turn_of place_of fits i q ms
  made_place i p q [] ms all from to = absurd (omega arith)
  made_place i p q (x ∷ xs) [] all from to = absurd all
  made_place i p q (x ∷ xs) (m ∷ ms) all from to = dite (ℕ_discrete q p) (λ e. inl (all.0.0, all.0.1 ∙ sym e)) (λ ne. inr (made_place i (suc p) q xs ms all.1 (omega arith) (omega arith)))

  made_after : (m : M) (i p : ℕ) (xs : List A) (ms : List M) → (i ≡ turn_of m → place_of m < p) → AreMade turn_of place_of fits i p xs ms → IsAfterAll turn_of place_of fits m ms
  made_after m i p [] [] h all = tt
  made_after m i p [] (k ∷ ks) h all = absurd all
  made_after m i p (x ∷ xs) [] h all = absurd all
  made_after m i p (x ∷ xs) (k ∷ ks) h all =
      ((λ e. subst (λ (z : ℕ). place_of m < z) (sym all.0.1) (h (sym all.0.0 ∙ e))), made_after m i (suc p) xs ks (λ e. let b = h e in omega arith) all.1)

  made_rises : (i p : ℕ) (xs : List A) (ms : List M) → AreMade turn_of place_of fits i p xs ms → Rises turn_of place_of fits ms
  made_rises i p [] [] all = tt
  made_rises i p [] (m ∷ ms) all = absurd all
  made_rises i p (x ∷ xs) [] all = absurd all
  made_rises i p (x ∷ xs) (m ∷ ms) all = (made_after m i (suc p) xs ms (λ _. let e : place_of m ≡ p = all.0.1 in omega arith) all.1, made_rises i (suc p) xs ms all.1)

  after_both : (m : M) (ms ks : List M) → IsAfterAll turn_of place_of fits m ms → IsAfterAll turn_of place_of fits m ks → IsAfterAll turn_of place_of fits m (ms ++ ks)
  after_both m [] ks a b = b
  after_both m (j ∷ js) ks a b = (a.0, after_both m js ks a.1 b)

  rises_more : (history : ℕ → List A) (owner : ℕ → ℕ → ℕ) (seen : ℕ → List A) (n i : ℕ) (xs : List A) (ms ks : List M) → AllStand turn_of place_of fits history owner seen n ms
      → AreMade turn_of place_of fits i (length (history i)) xs ks → Rises turn_of place_of fits ms → Rises turn_of place_of fits (ms ++ ks)
  rises_more history owner seen n i xs [] ks all made r = made_rises i (length (history i)) xs ks made
  rises_more history owner seen n i xs (m ∷ ms) ks all made r =
      let at = all.0.0 in
      let near : i ≡ turn_of m → place_of m < length (history i) = λ e. subst (λ (z : ℕ). place_of m < length (history z)) (sym e) (get_below (history (turn_of m)) (place_of m) at.0 at.1) in
      (after_both m ms ks r.0 (made_after m i (length (history i)) xs ks near made), rises_more history owner seen n i xs ms ks all.1 made r.1)

  module _ (parties : ℕ) (history : ℕ → List A) (owner : ℕ → ℕ → ℕ) (seen : ℕ → ℕ → List A) (mine : ℕ → List M) (l : Logged turn_of place_of fits parties history owner seen mine) where
    -- parties that have seen more, and made nothing
    pub logged_sees : (seen' : ℕ → ℕ → List A) (mine' : ℕ → List M) → ((n : ℕ) → mine' n ≡ mine n) → ((n i : ℕ) → n < parties → IsPrefix (seen' n i) (history i)) → ((n i : ℕ) → n < parties → length (seen n i) ≤ length (seen' n i))
        → Logged turn_of place_of fits parties history owner seen' mine'
    logged_sees seen' mine' same begins more = record {
      begins = begins;
      places = λ i p below. let a = l.places i p below in (a.0, subst (HasPlace turn_of place_of fits i p) (sym (same (owner i p))) a.1);
      stand = λ n below. subst (AllStand turn_of place_of fits history owner (seen' n) n) (sym (same n))
          (stand_longer history history owner owner (seen n) (seen' n) n (mine n) (λ j. ([], append-nil (history j))) (λ j p _. refl) (λ j. more n j below) (l.stand n below));
      rises = λ n below. subst (Rises turn_of place_of fits) (sym (same n)) (l.rises n below);
    }

    -- The party n adds the entries xs to the history of the turn i, of which it has seen all then. All else is as before, but that others may have seen more
    pub logged_adds : (n i : ℕ) (xs : List A) (made : List M) (history' : ℕ → List A) (seen' : ℕ → ℕ → List A) (mine' : ℕ → List M) → n < parties
        → history i ++ xs ≡ history' i → ((j : ℕ) → j ≢ i → history' j ≡ history j)
        → mine' n ≡ mine n ++ made → ((m : ℕ) → m ≢ n → mine' m ≡ mine m)
        → AreMade turn_of place_of fits i (length (history i)) xs made
        → seen' n i ≡ history' i → ((m j : ℕ) → m < parties → IsPrefix (seen' m j) (history' j)) → ((m j : ℕ) → m < parties → length (seen m j) ≤ length (seen' m j))
        → Logged turn_of place_of fits parties history' (with_owner owner i (length (history i)) n) seen' mine'
    logged_adds n i xs made history' seen' mine' some_party grown else_is list else_list all whole begins more = record {
      begins = begins;
      places = λ j p below. dite (ℕ_discrete j i)
          (λ q. subst (λ (z : ℕ). ((with_owner owner i (length (history i)) n) z p < parties) × HasPlace turn_of place_of fits z p (mine' ((with_owner owner i (length (history i)) n) z p))) (sym q) (here p (subst (λ (z : ℕ). p < length (history' z)) q below)))
          (λ q. old j p (owner_else owner i (length (history i)) n j p q) (subst (λ (h : List A). p < length h) (else_is j q) below));
      stand = λ m below. dite (ℕ_discrete m n)
          (λ q. subst (λ (z : ℕ). AllStand turn_of place_of fits history' (with_owner owner i (length (history i)) n) (seen' z) z (mine' z)) (sym q)
          (subst (AllStand turn_of place_of fits history' (with_owner owner i (length (history i)) n) (seen' n) n) (sym list)
          (stand_both history' (with_owner owner i (length (history i)) n) (seen' n) n (mine n) made (stood n some_party)
          (made_stand history' (with_owner owner i (length (history i)) n) (seen' n) n i (length (history i)) (history i) xs made grown refl (λ p a. owner_after owner i (length (history i)) n p a) (let e : length (seen' n i) ≡ length (history' i) = ap length whole in omega arith) all))))
          (λ q. subst (AllStand turn_of place_of fits history' (with_owner owner i (length (history i)) n) (seen' m) m) (sym (else_list m q)) (stood m below));
      rises = λ m below. dite (ℕ_discrete m n)
          (λ q. subst (λ (z : ℕ). Rises turn_of place_of fits (mine' z)) (sym q) (subst (Rises turn_of place_of fits) (sym list) (rises_more history owner (seen n) n i xs (mine n) made (l.stand n some_party) all (l.rises n some_party))))
          (λ q. subst (Rises turn_of place_of fits) (sym (else_list m q)) (l.rises m below));
    }
      where
        longer : (j : ℕ) → IsPrefix (history j) (history' j)
        longer j = dite (ℕ_discrete j i)
            (λ q. subst (λ (z : ℕ). IsPrefix (history z) (history' z)) (sym q) (xs, grown))
            (λ q. ([], append-nil (history j) ∙ sym (else_is j q)))

        same_owner : (j p : ℕ) → p < length (history j) → (with_owner owner i (length (history i)) n) j p ≡ owner j p
        same_owner j p below = dite (ℕ_discrete j i)
            (λ q. subst (λ (z : ℕ). (with_owner owner i (length (history i)) n) z p ≡ owner z p) (sym q) (owner_before owner i (length (history i)) n p (subst (λ (z : ℕ). p < length (history z)) q below)))
            (λ q. owner_else owner i (length (history i)) n j p q)

        stood : (m : ℕ) → m < parties → AllStand turn_of place_of fits history' (with_owner owner i (length (history i)) n) (seen' m) m (mine m)
        stood m below = stand_longer history history' owner (with_owner owner i (length (history i)) n) (seen m) (seen' m) m (mine m) longer same_owner (λ j. more m j below) (l.stand m below)

        has_still : (m j p : ℕ) → HasPlace turn_of place_of fits j p (mine m) → HasPlace turn_of place_of fits j p (mine' m)
        has_still m j p h = dite (ℕ_discrete m n)
            (λ q. subst (λ (z : ℕ). HasPlace turn_of place_of fits j p (mine' z)) (sym q) (subst (HasPlace turn_of place_of fits j p) (sym list) (place_left j p (mine n) made (subst (λ (z : ℕ). HasPlace turn_of place_of fits j p (mine z)) q h))))
            (λ q. subst (HasPlace turn_of place_of fits j p) (sym (else_list m q)) h)

        old : (j p : ℕ) → (with_owner owner i (length (history i)) n) j p ≡ owner j p → p < length (history j) → ((with_owner owner i (length (history i)) n) j p < parties) × HasPlace turn_of place_of fits j p (mine' ((with_owner owner i (length (history i)) n) j p))
        old j p same below = let a = l.places j p below in
            subst (λ (m : ℕ). (m < parties) × HasPlace turn_of place_of fits j p (mine' m)) (sym same) (a.0, has_still (owner j p) j p a.1)

        here : (p : ℕ) → p < length (history' i) → ((with_owner owner i (length (history i)) n) i p < parties) × HasPlace turn_of place_of fits i p (mine' ((with_owner owner i (length (history i)) n) i p))
        here p below =
            let long = length-append (history i) xs in
            let same : length (history i ++ xs) ≡ length (history' i) = ap length grown in
            by_cases (nat_lt p (length (history i))) refl
          where
            by_cases : (b : Bool) → nat_lt p (length (history i)) ≡ b → ((with_owner owner i (length (history i)) n) i p < parties) × HasPlace turn_of place_of fits i p (mine' ((with_owner owner i (length (history i)) n) i p))
            by_cases true e = let near : p < length (history i) = grind (arith, nat_tests) in old i p (owner_before owner i (length (history i)) n p near) near
            by_cases false e =
                let far : length (history i) ≤ p = grind (arith, nat_tests) in
                let long = length-append (history i) xs in
                let same : length (history i ++ xs) ≡ length (history' i) = ap length grown in
                subst (λ (m : ℕ). (m < parties) × HasPlace turn_of place_of fits i p (mine' m)) (sym (owner_after owner i (length (history i)) n p far))
                (some_party, subst (HasPlace turn_of place_of fits i p) (sym list) (place_right i p (mine n) made (made_place i (length (history i)) p xs made all far (omega arith))))

    -- who has seen what each party made has seen all
    pub sees_all : (s : ℕ → List A) (i : ℕ) → IsPrefix (s i) (history i) → ((m : ℕ) → m < parties → length (seen m i) ≤ length (s i)) → s i ≡ history i
    sees_all s i pre most = prefix_whole (s i) (history i) pre (whole (history i) refl)
      where
        listed : (m p : ℕ) (ms : List M) → HasPlace turn_of place_of fits i p ms → AllStand turn_of place_of fits history owner (seen m) m ms → p < length (seen m i)
        listed m p [] h all = absurd h
        listed m p (k ∷ ks) h all = ⊎_elim (λ t. subst (λ (z : ℕ × ℕ). z.1 < length (seen m z.0)) (λ j. (t.0 j, t.1 j)) all.0.1) (λ t. listed m p ks t all.1) h

        whole : (h : List A) → h ≡ history i → length h ≤ length (s i)
        whole [] e = omega arith
        whole (x ∷ xs) e =
            let below : length xs < length (history i) = let f : length (x ∷ xs) ≡ length (history i) = ap length e in omega arith in
            let a = l.places i (length xs) below in
            let b = listed (owner i (length xs)) (length xs) (mine (owner i (length xs))) a.1 (l.stand (owner i (length xs)) a.0) in
            let c = most (owner i (length xs)) a.0 in
            omega arith

  -- empty histories, of which nothing was seen or made
  pub logged_none : (parties : ℕ) (owner : ℕ → ℕ → ℕ) → Logged turn_of place_of fits parties (λ _. []) owner (λ _ _. []) (λ _. [])
  logged_none parties owner = record {
    begins = λ n i below. ([], refl);
    places = λ i p below. absurd (omega arith);
    stand = λ n below. tt;
    rises = λ n below. tt;
  }
