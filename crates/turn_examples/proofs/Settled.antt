-- Where the entries of two parties stand in the end.
use Rattle.std.proofs.Common.{◌≡◌, ◌⊎◌, ℕ, zero, suc, ◌<◌, List, [], ◌∷◌, ◌++◌, map, length, Some, refl, sym, ap, ◌∙◌, subst, inl, inr, ⊎_elim, arith}
use Rattle.std.specs.Prelude.{slice_get}
use mathlib.Core.Option.{some, some-injective, some-ne-none}
use lib.ListN.{get_elem?}
use Rattle.turn_table.specs.Board.{Turn, free, opening, IsAmong}
use Rattle.turn_examples.specs.declared.histories.Spot.{Spot}
use Rattle.turn_examples.specs.declared.histories.Writer.{Writer}
use Rattle.turn_table.specs.Histories.{HasPlace, AllStand, IsAfterAll, Rises, Logged}
use Rattle.turn_table.proofs.Rows.{read_at}
use Rattle.turn_table.proofs.Histories.{logged_none}
use Rattle.turn_examples.specs.Histories.{spot, writer, turn_of, place_of, IsOf, seen_of, mine_of, NowIs, Kept, Stand, spots_at, IsBelowAll, Rising, StandIn, Shared}

pub spots_more : (ps xs : List ℕ) (p x : ℕ) → length ps ≡ length xs → spots_at ps xs ++ spot 0 p x ∷ [] ≡ spots_at (ps ++ p ∷ []) (xs ++ x ∷ [])
spots_more [] [] p x e = refl
spots_more [] (y ∷ ys) p x e = absurd (omega arith)
spots_more (q ∷ ps) [] p x e = absurd (omega arith)
spots_more (q ∷ ps) (y ∷ ys) p x e = ap (λ l. spot 0 q y ∷ l) (spots_more ps ys p x (omega arith))

module _ (history : ℕ → List ℕ) (owner : ℕ → ℕ → ℕ) (seen : ℕ → List ℕ) (n : ℕ) where
  stand_at : (ps xs : List ℕ) → length ps ≡ length xs → AllStand turn_of place_of IsOf history owner seen n (spots_at ps xs) → Stand (history 0) ps xs
  stand_at [] [] e all = tt
  stand_at [] (y ∷ ys) e all = absurd (omega arith)
  stand_at (p ∷ ps) [] e all = absurd (omega arith)
  stand_at (p ∷ ps) (x ∷ xs) e all = let at = all.0.0 in (subst (λ (z : ℕ). slice_get (history 0) p ≡ Some z) (sym at.2) at.1, stand_at ps xs (omega arith) all.1)

  owned : (ps xs : List ℕ) (p : ℕ) → length ps ≡ length xs → AllStand turn_of place_of IsOf history owner seen n (spots_at ps xs) → IsAmong p ps → owner 0 p ≡ n
  owned [] xs p e all h = absurd h
  owned (q ∷ ps) [] p e all h = absurd (omega arith)
  owned (q ∷ ps) (x ∷ xs) p e all h = ⊎_elim (λ f. ap (owner 0) (sym f) ∙ all.0.2) (λ t. owned ps xs p (omega arith) all.1 t) h

below_all : (p x : ℕ) (ps xs : List ℕ) → length ps ≡ length xs → IsAfterAll turn_of place_of IsOf (spot 0 p x) (spots_at ps xs) → IsBelowAll p ps
below_all p x [] xs e a = tt
below_all p x (q ∷ ps) [] e a = absurd (omega arith)
below_all p x (q ∷ ps) (y ∷ ys) e a = (a.0 refl, below_all p x ps ys (omega arith) a.1)

rising : (ps xs : List ℕ) → length ps ≡ length xs → Rises turn_of place_of IsOf (spots_at ps xs) → Rising ps
rising [] xs e r = tt
rising (p ∷ ps) [] e r = absurd (omega arith)
rising (p ∷ ps) (x ∷ xs) e r = (below_all p x ps xs (omega arith) r.0, rising ps xs (omega arith) r.1)

among : (ps xs : List ℕ) (p : ℕ) → HasPlace turn_of place_of IsOf 0 p (spots_at ps xs) → IsAmong p ps
among [] xs p h = absurd h
among (q ∷ ps) [] p h = absurd h
among (q ∷ ps) (x ∷ xs) p h = ⊎_elim (λ t. inl t.1) (λ t. inr (among ps xs p t)) h

-- Two parties and one history that nobody has taken: what each made stands there, and each place is one's
module _ (h : List ℕ) (views : List Writer) (k : Kept (opening (h ∷ []) views)) (w u : Writer) (two : length views ≡ 2) (first : get_elem? views 0 ≡ some w) (second : get_elem? views 1 ≡ some u)
    (ps xs qs ys : List ℕ) (p_long : length ps ≡ length xs) (q_long : length qs ≡ length ys) (p_mine : w.mine ≡ spots_at ps xs) (q_mine : u.mine ≡ spots_at qs ys) where
  whole : k.history 0 ≡ h
  whole = sym (k.now 0 (free h) refl)

  mine_at : (n : ℕ) (z : Writer) → get_elem? views n ≡ some z → mine_of views n ≡ z.mine
  mine_at n z at = ap (λ (y : Writer). y.mine) (read_at views n z (writer [] []) at)

  first_all : AllStand turn_of place_of IsOf k.history k.owner (seen_of views 0) 0 (spots_at ps xs)
  first_all = subst (AllStand turn_of place_of IsOf k.history k.owner (seen_of views 0) 0) (mine_at 0 w first ∙ p_mine) (k.logged.stand 0 (omega arith))

  second_all : AllStand turn_of place_of IsOf k.history k.owner (seen_of views 1) 1 (spots_at qs ys)
  second_all = subst (AllStand turn_of place_of IsOf k.history k.owner (seen_of views 1) 1) (mine_at 1 u second ∙ q_mine) (k.logged.stand 1 (omega arith))

  pub settled_first : StandIn h ps xs
  settled_first = record {
    stand = subst (λ (l : List ℕ). Stand l ps xs) whole (stand_at k.history k.owner (seen_of views 0) 0 ps xs p_long first_all);
    rising = rising ps xs p_long (subst (Rises turn_of place_of IsOf) (mine_at 0 w first ∙ p_mine) (k.logged.rises 0 (omega arith)));
  }

  pub settled_second : StandIn h qs ys
  settled_second = record {
    stand = subst (λ (l : List ℕ). Stand l qs ys) whole (stand_at k.history k.owner (seen_of views 1) 1 qs ys q_long second_all);
    rising = rising qs ys q_long (subst (Rises turn_of place_of IsOf) (mine_at 1 u second ∙ q_mine) (k.logged.rises 1 (omega arith)));
  }

  by_owner : (p n : ℕ) → n < length views → HasPlace turn_of place_of IsOf 0 p (mine_of views n) → IsAmong p ps ⊎ IsAmong p qs
  by_owner p zero near h = inl (among ps xs p (subst (HasPlace turn_of place_of IsOf 0 p) (mine_at 0 w first ∙ p_mine) h))
  by_owner p (suc zero) near h = inr (among qs ys p (subst (HasPlace turn_of place_of IsOf 0 p) (mine_at 1 u second ∙ q_mine) h))
  by_owner p (suc (suc n)) near h = absurd (omega arith)

  pub settled_shared : Shared h ps qs
  settled_shared = record {
    each = λ p below. let at = k.logged.places 0 p (subst (λ (l : List ℕ). p < length l) (sym whole) below) in by_owner p (k.owner 0 p) at.0 at.1;
    apart = λ p a b. let e : 0 ≡ 1 = sym (owned k.history k.owner (seen_of views 0) 0 ps xs p p_long first_all a) ∙ owned k.history k.owner (seen_of views 1) 1 qs ys p q_long second_all b in absurd (omega arith);
  }

-- an empty history that two parties begin
pub kept_at_first : Kept (opening ([] ∷ []) (writer [] [] ∷ writer [] [] ∷ []))
kept_at_first = record {
  history = λ _. [];
  owner = λ _ _. 0;
  now = now_at;
  logged = subst (λ (z : (ℕ → ℕ → List ℕ) × (ℕ → List Spot)). Logged turn_of place_of IsOf 2 (λ _. []) (λ _ _. 0) z.0 z.1) (λ j. ((λ n i. sym (seen_none n i) j), (λ n. sym (mine_none n) j))) (logged_none turn_of place_of IsOf 2 (λ _ _. 0));
}
  where
    seen_none : (n i : ℕ) → seen_of (writer [] [] ∷ writer [] [] ∷ []) n i ≡ []
    seen_none zero i = refl
    seen_none (suc zero) i = refl
    seen_none (suc (suc n)) i = refl

    mine_none : (n : ℕ) → mine_of (writer [] [] ∷ writer [] [] ∷ []) n ≡ []
    mine_none zero = refl
    mine_none (suc zero) = refl
    mine_none (suc (suc n)) = refl

    now_at : (i : ℕ) (t : Turn (List ℕ)) → get_elem? (map free ([] ∷ [])) i ≡ some t → NowIs (writer [] [] ∷ writer [] [] ∷ []) i t []
    now_at zero t e = subst (λ s. NowIs (writer [] [] ∷ writer [] [] ∷ []) 0 s []) (some-injective (free []) t e) refl
    now_at (suc i) t e = absurd (some-ne-none t (sym e))
