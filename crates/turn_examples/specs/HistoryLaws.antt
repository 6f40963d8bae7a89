-- The steps of the histories keep their rule.
use Rattle.std.proofs.Common.{◌≡◌, ◌≢◌, ◌==◌, ℕ, zero, suc, ◌<◌, ◌≤◌, List, [], ◌∷◌, ◌++◌, length, get_or, set, refl, sym, ap, ◌∙◌, subst, ⊎_elim, arith, length-set}
use mathlib.Core.Option.{some}
use mathlib.Core.List.{IsPrefix, append-nil}
use mathlib.Core.Logic.{dite}
use native.Mathlib.Decide.{ℕ_discrete}
use lib.ListN.{get_elem?}
use Rattle.atomic_table.proofs.Lists.{at_set, set_here, set_else, set_again}
use Rattle.turn_table.specs.Board.{Turn, free, taken, Board, KeepsWon, KeepsLost, KeepsLearned}
use Rattle.turn_table.specs.Histories.{front_of, put, seen_by_both, Logged}
use Rattle.turn_table.proofs.Rows.{within, read_at, same_at}
use Rattle.turn_table.proofs.Histories.{prefix_length, prefix_whole, front_here, front_else, front_both, both_least, logged_sees}
use Rattle.turn_examples.specs.declared.histories.Writer.{Writer}
use Rattle.turn_examples.specs.Histories.{writer, turn_of, place_of, IsOf, view_at, seen_of, mine_of, NowIs, Kept}

abbrev won : ℕ → ℕ → List ℕ → Writer → Writer
won n i v w = writer (put i v w.seen) w.mine

-- what each party knows, once the party n knows u
module _ (views : List Writer) (n : ℕ) (w u : Writer) (at : get_elem? views n ≡ some w) where
  pub view_here : view_at (set views n u) n ≡ u
  view_here = read_at (set views n u) n u (writer [] []) (set_here views n u (within views n w at))

  pub view_else : (m : ℕ) → m ≢ n → view_at (set views n u) m ≡ view_at views m
  view_else m far = else_or views n m u (writer [] []) far
    where
      else_or : (l : List Writer) (n m : ℕ) (u d : Writer) → m ≢ n → get_or (set l n u) m d ≡ get_or l m d
      else_or [] n m u d far = refl
      else_or (x ∷ l) zero zero u d far = absurd (far refl)
      else_or (x ∷ l) zero (suc m) u d far = refl
      else_or (x ∷ l) (suc n) zero u d far = refl
      else_or (x ∷ l) (suc n) (suc m) u d far = else_or l n m u d (λ e. far (ap suc e))

  -- a fact of each party, once it is so of the party n
  pub by_party : (P : ℕ → Writer → Type 0) → P n u → ((m : ℕ) → m ≢ n → P m (view_at views m)) → (m : ℕ) → P m (view_at (set views n u) m)
  by_party P here there m = dite (ℕ_discrete m n)
      (λ q. subst (λ (z : ℕ). P z (view_at (set views n u) z)) (sym q) (subst (P n) (sym view_here) here))
      (λ q. subst (P m) (sym (view_else m q)) (there m q))

  pub view_was : view_at views n ≡ w
  view_was = read_at views n w (writer [] []) at

-- the history of a turn stays what it is now, where the party n has still seen it
pub now_stays : (b : Board (List ℕ) Writer) (n j : ℕ) (h : List ℕ) (w u : Writer) (t : Turn (List ℕ)) → get_elem? b.views n ≡ some w → (front_of j w.seen ≡ h → front_of j u.seen ≡ h) → NowIs b.views j t h → NowIs (set b.views n u) j t h
now_stays b n j h w u (free v) at keeps e = e
now_stays b n j h w u (taken m) at keeps e = dite (ℕ_discrete m n)
    (λ q. let one : e.0 ≡ w = same_at b.views n e.0 w (subst (λ (z : ℕ). get_elem? b.views z ≡ some e.0) q e.1) at in
    (u, subst (λ (z : ℕ). get_elem? (set b.views n u) z ≡ some u) (sym q) (set_here b.views n u (within b.views n w at)), keeps (subst (λ (z : Writer). front_of j z.seen ≡ h) one e.2)))
    (λ q. (e.0, set_else b.views n m u q ∙ e.1, e.2))

-- what the party n had seen begins each history
pub saw_begins : (b : Board (List ℕ) Writer) (k : Kept b) (n i : ℕ) (w : Writer) → get_elem? b.views n ≡ some w → IsPrefix (front_of i w.seen) (k.history i)
saw_begins b k n i w at = subst (λ (z : Writer). IsPrefix (front_of i z.seen) (k.history i)) (view_was b.views n w w at) (k.logged.begins n i (within b.views n w at))

-- A step in which the party n makes nothing, and sees no less of each history. The turns become us, of the same histories
pub looks : (b : Board (List ℕ) Writer) (k : Kept b) (us : List (Turn (List ℕ))) (n : ℕ) (w u : Writer) → get_elem? b.views n ≡ some w → u.mine ≡ w.mine
    → ((i : ℕ) → IsPrefix (front_of i u.seen) (k.history i)) → ((i : ℕ) → length (front_of i w.seen) ≤ length (front_of i u.seen))
    → ((i : ℕ) (t : Turn (List ℕ)) → get_elem? us i ≡ some t → NowIs (set b.views n u) i t (k.history i)) → Kept record { turns = us; views = set b.views n u }
looks b k us n w u at same sees more now = record {
  history = k.history;
  owner = k.owner;
  now = now;
  logged = subst (λ (c : ℕ). Logged turn_of place_of IsOf c k.history k.owner (seen_of (set b.views n u)) (mine_of (set b.views n u))) (sym (length-set b.views n u))
      (logged_sees turn_of place_of IsOf (length b.views) k.history k.owner (seen_of b.views) (mine_of b.views) k.logged (seen_of (set b.views n u)) (mine_of (set b.views n u))
      (by_party b.views n w u at (λ m z. z.mine ≡ mine_of b.views m) (same ∙ sym (ap (λ (z : Writer). z.mine) (view_was b.views n w u at))) (λ m q. refl))
      (λ m i below. by_party b.views n w u at (λ m z. m < length b.views → IsPrefix (front_of i z.seen) (k.history i)) (λ _. sees i) (λ m q near. k.logged.begins m i near) m below)
      (λ m i below. by_party b.views n w u at (λ m z. length (seen_of b.views m i) ≤ length (front_of i z.seen))
      (subst (λ (z : Writer). length (front_of i z.seen) ≤ length (front_of i u.seen)) (sym (view_was b.views n w u at)) (more i)) (λ m q. omega arith) m));
}

pub keeps_won : KeepsWon Kept won
keeps_won b n i v w k e at =
    let u : Writer = won n i v w in
    let whole : v ≡ k.history i = k.now i (free v) e in
    let views' : List Writer = set b.views n u in
    looks b k (set b.turns i (taken n)) n w u at refl
    (λ j. dite (ℕ_discrete j i)
    (λ q. subst (λ (z : ℕ). IsPrefix (front_of z (put i v w.seen)) (k.history z)) (sym q) ([], append-nil (front_of i (put i v w.seen)) ∙ (front_here i v w.seen ∙ whole)))
    (λ q. subst (λ (l : List ℕ). IsPrefix l (k.history j)) (sym (front_else i j v w.seen q)) (saw_begins b k n j w at)))
    (λ j. dite (ℕ_discrete j i)
    (λ q. subst (λ (z : ℕ). length (front_of z w.seen) ≤ length (front_of z (put i v w.seen))) (sym q)
    (subst (λ (l : List ℕ). length (front_of i w.seen) ≤ length l) (sym (front_here i v w.seen ∙ whole)) (prefix_length (front_of i w.seen) (k.history i) (saw_begins b k n i w at))))
    (λ q. subst (λ (l : List ℕ). length (front_of j w.seen) ≤ length l) (sym (front_else i j v w.seen q)) (omega arith)))
    (λ j t f. ⊎_elim
    (λ p. let P : ℕ → Turn (List ℕ) → Type 0 = λ z s. NowIs views' z s (k.history z) in
    subst (λ (z : ℕ × Turn (List ℕ)). P z.0 z.1) (λ z. (sym p.0 z, p.1 z)) (u, set_here b.views n u (within b.views n w at), front_here i v w.seen ∙ whole))
    (λ p. now_stays b n j (k.history j) w u t at (λ c. front_else i j v w.seen p.0 ∙ c) (k.now j t p.1))
    (at_set b.turns i j (taken n) t f))

-- a step that only looks changes no view
pub keeps_lost : KeepsLost Kept (λ n i m w. w)
keeps_lost b n i m w k e ne at = subst (λ (l : List Writer). Kept record { turns = b.turns; views = l }) (sym (set_again b.views n w at)) k

pub keeps_learned : KeepsLearned Kept (λ w u. writer (seen_by_both w.seen u.seen) w.mine)
keeps_learned b n m w u k ne at at' =
    let z : Writer = writer (seen_by_both w.seen u.seen) w.mine in
    let sees : (i : ℕ) → IsPrefix (front_of i z.seen) (k.history i) = λ i. ⊎_elim
    (λ e. subst (λ (l : List ℕ). IsPrefix l (k.history i)) (sym e) (saw_begins b k n i w at))
    (λ e. subst (λ (l : List ℕ). IsPrefix l (k.history i)) (sym e) (saw_begins b k m i u at'))
    (front_both i w.seen u.seen) in
    looks b k b.turns n w z at refl sees (λ i. (both_least i w.seen u.seen).0)
    (λ j t f. now_stays b n j (k.history j) w z t at
    (λ c. prefix_whole (front_of j z.seen) (k.history j) (sees j) (let d = (both_least j w.seen u.seen).0 in let e : length (front_of j w.seen) ≡ length (k.history j) = ap length c in omega arith))
    (k.now j t f))
