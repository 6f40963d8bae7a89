-- Lists: turns as words and slots show them, the parties that one party keeps, and the turns that it holds.
use Rattle.std.proofs.Common.{◌≡◌, ◌≢◌, ◌==◌, if◌then◌else◌, ℕ, zero, suc, ◌<◌, ◌≤◌, List, [], ◌∷◌, length, get_or, set, Bool, true, false, Option, None, refl, sym, ap, ◌∙◌, subst, inl, inr, ⊎_elim, eq-eqb, ne_eqb, arith, length-set}
use mathlib.Core.Option.{some, none, some-injective, some-ne-none}
use mathlib.Core.Option as maybe
use mathlib.Core.Logic.{dite}
use native.Mathlib.Decide.{ℕ_discrete}
use lib.ListN.{get_elem?}
use Rattle.atomic_table.specs.Table.{Act, keeps, takes, gives, chain, Valid, homes_after, carried_after}
use Rattle.atomic_table.proofs.Lists.{at_set, set_here, set_else}
use Rattle.turn_table.specs.Board.{Turn, free, taken, IsAmong, without}
use Rattle.turn_table.specs.Homes.{home, room}
use Rattle.turn_table.specs.Standings.{StandsAt, AllStand, AllBelow, empties}
use Rattle.turn_table.specs.Places.{AllOnce, AllHeld}
use Rattle.turn_table.proofs.Homes.{home_same}

module _ {A : Type 0} where
  pub some_at : (l : List A) (i : ℕ) → i < length l → (a : A) × (get_elem? l i ≡ some a)
  some_at [] i h = absurd (omega arith)
  some_at (x ∷ xs) zero h = (x, refl)
  some_at (x ∷ xs) (suc i) h = some_at xs i (omega arith)

  pub within : (l : List A) (i : ℕ) (a : A) → get_elem? l i ≡ some a → i < length l
  within [] i a e = absurd (some-ne-none a (sym e))
  within (x ∷ xs) zero a e = omega arith
  within (x ∷ xs) (suc i) a e = let h = within xs i a e in omega arith

  pub read_at : (l : List A) (i : ℕ) (a d : A) → get_elem? l i ≡ some a → get_or l i d ≡ a
  read_at [] i a d e = absurd (some-ne-none a (sym e))
  read_at (x ∷ xs) zero a d e = some-injective x a e
  read_at (x ∷ xs) (suc i) a d e = read_at xs i a d e

  pub same_at : (l : List A) (i : ℕ) (a b : A) → get_elem? l i ≡ some a → get_elem? l i ≡ some b → a ≡ b
  same_at l i a b e f = some-injective a b (sym e ∙ f)

  -- what was taken out is put back
  pub set_back : (l : List A) (i : ℕ) (a b : A) → get_elem? l i ≡ some b → set (set l i a) i b ≡ l
  set_back [] i a b e = refl
  set_back (x ∷ xs) zero a b e = λ k. sym (some-injective x b e) k ∷ xs
  set_back (x ∷ xs) (suc i) a b e = λ k. x ∷ set_back xs i a b e k

  -- writes at two places go in either order
  pub set_swap : (l : List A) (i j : ℕ) (a b : A) → j ≢ i → set (set l i a) j b ≡ set (set l j b) i a
  set_swap [] i j a b n = refl
  set_swap (x ∷ xs) zero zero a b n = absurd (n refl)
  set_swap (x ∷ xs) zero (suc j) a b n = refl
  set_swap (x ∷ xs) (suc i) zero a b n = refl
  set_swap (x ∷ xs) (suc i) (suc j) a b n = λ k. x ∷ set_swap xs i j a b (λ e. n (ap suc e)) k

abbrev pub Slots : Type 0 → Type 0
Slots V = List (maybe.Option (Option V))

module _ {V : Type 0} where
  pub stands_set : (ws : List ℕ) (hs : Slots V) (ts : List (Turn V)) (i w : ℕ) (h : maybe.Option (Option V)) (t : Turn V) → AllStand ws hs ts → i < length ts
      → StandsAt (set ws (home i) w) (set hs (home i) h) (home i) t → AllStand (set ws (home i) w) (set hs (home i) h) (set ts i t)
  stands_set ws hs ts i w h t a near here = record {
    words = length-set ws (home i) w ∙ (a.words ∙ ap room (sym (length-set ts i t)));
    homes = length-set hs (home i) h ∙ (a.homes ∙ ap room (sym (length-set ts i t)));
    each = λ j u e. ⊎_elim
        (λ p. subst (λ (z : ℕ × Turn V). StandsAt (set ws (home i) w) (set hs (home i) h) (home z.0) z.1) (λ k. (sym p.0 k, p.1 k)) here)
        (λ p. else_at ws hs (home i) (home j) w h u (λ q. p.0 (home_same j i q)) (a.each j u p.1))
        (at_set ts i j t u e);
    spare = λ j from below.
        let same : length (set ts i t) ≡ length ts = length-set ts i t in
        let behind : length ts ≤ j = omega arith in
        set_else hs (home i) (home j) h (λ q. let k : j ≡ i = home_same j i q in absurd (omega arith)) ∙ a.spare j behind (subst (λ (n : ℕ). j < room n) same below);
  }
    where
      else_at : (ws : List ℕ) (hs : Slots V) (i j w : ℕ) (h : maybe.Option (Option V)) (u : Turn V) → j ≢ i → StandsAt ws hs j u → StandsAt (set ws i w) (set hs i h) j u
      else_at ws hs i j w h (free v) n s = (set_else ws i j w n ∙ s.0, set_else hs i j h n ∙ s.1)
      else_at ws hs i j w h (taken m) n s = (set_else ws i j w n ∙ s.0, set_else hs i j h n ∙ s.1)

-- numbers in a list
pub among_from : (i j : ℕ) (is : List ℕ) → IsAmong j (without i is) → IsAmong j is
among_from i j [] h = h
among_from i j (k ∷ ks) h = elim (k == i) as (λ b. IsAmong j (if b then ks else k ∷ without i ks) → IsAmong j (k ∷ ks)) [ true ↦ inr | false ↦ λ m. ⊎_elim inl (λ t. inr (among_from i j ks t)) m ] h

pub among_without : (i j : ℕ) (is : List ℕ) → j ≢ i → IsAmong j is → IsAmong j (without i is)
among_without i j [] n h = h
among_without i j (k ∷ ks) n h = dite (ℕ_discrete k i)
    (λ e. subst (λ b. IsAmong j (if b then ks else k ∷ without i ks)) (sym (eq-eqb k i e)) (⊎_elim (λ f. absurd (n (sym f ∙ e))) (λ t. t) h))
    (λ ne. subst (λ b. IsAmong j (if b then ks else k ∷ without i ks)) (sym (ne_eqb k i ne)) (⊎_elim inl (λ t. inr (among_without i j ks n t)) h))

pub once_without : (i : ℕ) (is : List ℕ) → AllOnce is → AllOnce (without i is)
once_without i [] o = tt
once_without i (k ∷ ks) o = elim (k == i) as (λ b. AllOnce (if b then ks else k ∷ without i ks)) [ true ↦ o.1 | false ↦ ((λ h. o.0 (among_from i k ks h)), once_without i ks o.1) ]

pub below_at : (n i : ℕ) (is : List ℕ) → AllBelow n is → IsAmong i is → i < n
below_at n i [] all h = absurd h
below_at n i (k ∷ ks) all h = ⊎_elim (λ (e : k ≡ i). let b : k < n = all.0 in omega arith) (λ t. below_at n i ks all.1 t) h

pub below_without : (n i : ℕ) (is : List ℕ) → AllBelow n is → AllBelow n (without i is)
below_without n i [] all = tt
below_without n i (k ∷ ks) all = elim (k == i) as (λ b. AllBelow n (if b then ks else k ∷ without i ks)) [ true ↦ all.1 | false ↦ (all.0, below_without n i ks all.1) ]

module _ {V : Type 0} where
  pub held_at : (ts : List (Turn V)) (n i : ℕ) (is : List ℕ) → AllHeld ts n is → IsAmong i is → get_elem? ts i ≡ some (taken n)
  held_at ts n i [] all h = absurd h
  held_at ts n i (k ∷ ks) all h = ⊎_elim (λ e. subst (λ (z : ℕ). get_elem? ts z ≡ some (taken n)) e all.0) (λ t. held_at ts n i ks all.1 t) h

  -- the turns that are still held, once the turn i has changed
  held_set : (ts : List (Turn V)) (n i : ℕ) (t : Turn V) (is : List ℕ) → ¬ IsAmong i is → AllHeld ts n is → AllHeld (set ts i t) n is
  held_set ts n i t [] far all = tt
  held_set ts n i t (k ∷ ks) far all = (set_else ts i k t (λ e. far (inl e)) ∙ all.0, held_set ts n i t ks (λ h. far (inr h)) all.1)

  pub held_without : (ts : List (Turn V)) (n i : ℕ) (t : Turn V) (is : List ℕ) → AllOnce is → AllHeld ts n is → AllHeld (set ts i t) n (without i is)
  held_without ts n i t [] o all = tt
  held_without ts n i t (k ∷ ks) o all = dite (ℕ_discrete k i)
      (λ e. subst (λ b. AllHeld (set ts i t) n (if b then ks else k ∷ without i ks)) (sym (eq-eqb k i e)) (held_set ts n i t ks (λ h. o.0 (subst (λ (z : ℕ). IsAmong z ks) (sym e) h)) all.1))
      (λ ne. subst (λ b. AllHeld (set ts i t) n (if b then ks else k ∷ without i ks)) (sym (ne_eqb k i ne)) (set_else ts i k t ne ∙ all.0, held_without ts n i t ks o.1 all.1))

  -- each of these slots is out
  abbrev pub AllOut : Slots V → List ℕ → Type 0
  AllOut hs [] = Unit {0}
  AllOut hs (k ∷ ks) = (get_elem? hs (home k) ≡ some none) × AllOut hs ks

  out_at : (hs : Slots V) (i : ℕ) (is : List ℕ) → AllOut hs is → IsAmong i is → get_elem? hs (home i) ≡ some none
  out_at hs i [] all h = absurd h
  out_at hs i (k ∷ ks) all h = ⊎_elim (λ e. subst (λ (z : ℕ). get_elem? hs (home z) ≡ some none) e all.0) (λ t. out_at hs i ks all.1 t) h

  out_set : (hs : Slots V) (k : ℕ) (h : maybe.Option (Option V)) (is : List ℕ) → ¬ IsAmong k is → AllOut hs is → AllOut (set hs (home k) h) is
  out_set hs k h [] far all = tt
  out_set hs k h (j ∷ js) far all = (set_else hs (home k) (home j) h (λ e. far (inl (home_same j k e))) ∙ all.0, out_set hs k h js (λ m. far (inr m)) all.1)

  pub all_out : (ws : List ℕ) (hs : Slots V) (ts : List (Turn V)) (n : ℕ) (is : List ℕ) → AllStand ws hs ts → AllHeld ts n is → AllOut hs is
  all_out ws hs ts n [] a all = tt
  all_out ws hs ts n (k ∷ ks) a all = ((a.each k (taken n) all.0).1, all_out ws hs ts n ks a all.1)

  -- The act that brings the slot i to the front of those that are out
  abbrev front_if : Bool → ℕ → ℕ → Act (Option V) → Act (Option V)
  front_if true k i a = keeps
  front_if false k i a = chain gives (chain a (chain gives (chain (takes k None) (takes i None))))

  abbrev pub front : ℕ → List ℕ → Act (Option V)
  front i [] = keeps
  front i (k ∷ ks) = front_if (k == i) (home k) (home i) (front i ks)

  -- what is left to do once all but the slot k have been brought into order: the slots H, and those that are out
  abbrev Ends : ℕ → ℕ → Slots V → List (ℕ × Option V) → Slots V → List (ℕ × Option V) → Type 0
  Ends i k hs es H C = let a : Act (Option V) = chain gives (chain (takes k None) (takes i None)) in
      Valid H C a × (homes_after H C a ≡ hs) × (carried_after C a ≡ (i, None) ∷ (k, None) ∷ es)

  ends : (i k : ℕ) (hs : Slots V) (es : List (ℕ × Option V)) → k ≢ i → get_elem? hs k ≡ some none → get_elem? hs i ≡ some none → Ends i k hs es (set hs k (some None)) ((i, None) ∷ es)
  ends i k hs es n at_k at_i =
      let hs1 : Slots V = set hs k (some None) in
      let near_k : k < length hs = within hs k none at_k in
      let near_i : i < length hs1 = let a : i < length hs = within hs i none at_i in let b : length hs1 ≡ length hs = length-set hs k (some None) in omega arith in
      let n' : i ≢ k = λ e. n (sym e) in (
        (
          tt,
          (set_else hs1 i k (some None) n ∙ set_here hs k (some None) near_k, set_else (set hs1 i (some None)) k i none n' ∙ set_here hs1 i (some None) near_i),
        ),
        ap (λ (z : Slots V). set z i none) (set_swap hs1 i k (some None) none n ∙ ap (λ (z : Slots V). set z i (some None)) (set_back hs k (some None) none at_k)) ∙ set_back hs i (some None) none at_i,
        refl,
      )

  pub fronted : (i : ℕ) (is : List ℕ) (hs : Slots V) → AllOut hs is → AllOnce is → IsAmong i is
      → Valid hs (empties is) (front i is) × (homes_after hs (empties is) (front i is) ≡ hs) × (carried_after (empties is) (front i is) ≡ (home i, None) ∷ empties (without i is))
  fronted i [] hs all o h = absurd h
  fronted i (k ∷ ks) hs all o h =
      let P : Bool → Type 0 = λ b. let a : Act (Option V) = front_if b (home k) (home i) (front i ks) in
      Valid hs (empties (k ∷ ks)) a × (homes_after hs (empties (k ∷ ks)) a ≡ hs) × (carried_after (empties (k ∷ ks)) a ≡ (home i, None) ∷ empties (if b then ks else k ∷ without i ks)) in
      dite (ℕ_discrete k i)
      (λ e. subst P (sym (eq-eqb k i e)) (tt, refl, ap (λ (z : ℕ). (home z, None) ∷ empties ks) e))
      (λ n. subst P (sym (ne_eqb k i n))
      (let hs1 : Slots V = set hs (home k) (some None) in
      let there : IsAmong i ks = ⊎_elim (λ e. absurd (n e)) (λ t. t) h in
      let r = fronted i ks hs1 (out_set hs k (some None) ks o.0 all.1) o.1 there in
      let es : List (ℕ × Option V) = empties (without i ks) in
      let last : Ends (home i) (home k) hs es (homes_after hs1 (empties ks) (front i ks)) (carried_after (empties ks) (front i ks)) =
      subst (λ (z : Slots V × List (ℕ × Option V)). Ends (home i) (home k) hs es z.0 z.1) (λ j. (sym r.1 j, sym r.2 j)) (ends (home i) (home k) hs es (λ q. n (home_same k i q)) all.0 (out_at hs i ks all.1 there)) in
      ((tt, (r.0, last.0)), last.1, last.2)))
