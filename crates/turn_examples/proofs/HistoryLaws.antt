-- The steps of the histories keep their rule.
use Rattle.std.proofs.Common.{◌≡◌, ◌≢◌, ◌==◌, if◌then◌else◌, ℕ, zero, suc, ◌<◌, ◌≤◌, List, [], ◌∷◌, ◌++◌, length, get_or, set, refl, sym, ap, ◌∙◌, subst, ⊎_elim, eq-eqb, ne_eqb, arith, length-set}
use mathlib.Core.Option.{some}
use mathlib.Core.List.{IsPrefix, append-nil}
use mathlib.Core.Logic.{dite}
use native.Mathlib.Decide.{ℕ_discrete}
use lib.ListN.{get_elem?}
use Rattle.atomic_table.proofs.Lists.{at_set, set_here, set_else, set_again}
use Rattle.turn_table.specs.Board.{Turn, free, taken, Board, KeepsWon, KeepsLost, KeepsLearned}
use Rattle.turn_table.specs.Places.{Place}
use Rattle.turn_table.specs.Moments.{MayGive}
use Rattle.turn_table.specs.Histories.{front_of, put, seen_by_both, Logged, with_owner}
use Rattle.turn_table.proofs.Rows.{within, read_at, same_at}
use Rattle.turn_table.proofs.Histories.{prefix_more, prefix_length, prefix_whole, front_here, front_else, front_both, both_least, logged_sees, logged_adds}
use Rattle.turn_examples.specs.declared.histories.Spot.{Spot}
use Rattle.turn_examples.specs.declared.histories.Writer.{Writer}
use Rattle.turn_examples.specs.Histories.{spot, writer, turn_of, place_of, IsOf, view_at, seen_of, mine_of, NowIs, Kept}
use Rattle.turn_examples.specs.HistoryLaws.{by_party, looks, now_stays, saw_begins, view_else, view_here, view_was}

free_taken : (v : List ℕ) (m : ℕ) → free v ≢ taken m
free_taken v m q = cc

-- histories that change at one turn
abbrev with_history : (ℕ → List ℕ) → ℕ → List ℕ → ℕ → List ℕ
with_history history i h j = if j == i then h else history j

history_here : (history : ℕ → List ℕ) (i : ℕ) (h : List ℕ) → with_history history i h i ≡ h
history_here history i h = subst (λ b. (if b then h else history i) ≡ h) (sym (eq-eqb i i refl)) refl

history_else : (history : ℕ → List ℕ) (i j : ℕ) (h : List ℕ) → j ≢ i → with_history history i h j ≡ history j
history_else history i j h n = subst (λ b. (if b then h else history j) ≡ history j) (sym (ne_eqb j i n)) refl

-- a party that has the turn i has seen its whole history
saw_whole : (b : Board (List ℕ) Writer) (k : Kept b) (n i : ℕ) (w : Writer) → get_elem? b.turns i ≡ some (taken n) → get_elem? b.views n ≡ some w → front_of i w.seen ≡ k.history i
saw_whole b k n i w e at = let mine = k.now i (taken n) e in subst (λ (z : Writer). front_of i z.seen ≡ k.history i) (same_at b.views n mine.0 w mine.1 at) mine.2

-- a party that has the turn i gives it back with one more entry, which is its own
pub appends : (p : Place Writer) (i x : ℕ) (v : List ℕ) → v ≡ front_of i p.own.seen ++ x ∷ [] → MayGive Kept p i v (writer (put i v p.own.seen) (p.own.mine ++ spot i (length (front_of i p.own.seen)) x ∷ []))
appends p i x v is b k s e =
    let n : ℕ = p.number in
    let w : Writer = p.own in
    let at : get_elem? b.views n ≡ some w = s.shows.0 in
    let near : n < length b.views = within b.views n w at in
    let u : Writer = writer (put i v w.seen) (w.mine ++ spot i (length (front_of i w.seen)) x ∷ []) in
    let views' : List Writer = set b.views n u in
    let whole : front_of i w.seen ≡ k.history i = saw_whole b k n i w e at in
    let grown : v ≡ k.history i ++ x ∷ [] = is ∙ ap (λ l. l ++ x ∷ []) whole in
    let history' : ℕ → List ℕ = with_history k.history i (k.history i ++ x ∷ []) in
    let here : history' i ≡ k.history i ++ x ∷ [] = history_here k.history i (k.history i ++ x ∷ []) in
    let there : (j : ℕ) → j ≢ i → history' j ≡ k.history j = λ j q. history_else k.history i j (k.history i ++ x ∷ []) q in
    let last : front_of i u.seen ≡ history' i = front_here i v w.seen ∙ (grown ∙ sym here) in
    let begins : (m j : ℕ) → m < length b.views → IsPrefix (seen_of b.views m j) (history' j) = λ m j below. dite (ℕ_discrete j i)
    (λ q. subst (λ (z : ℕ). IsPrefix (seen_of b.views m z) (history' z)) (sym q) (subst (IsPrefix (seen_of b.views m i)) (sym here) (prefix_more (seen_of b.views m i) (k.history i) (x ∷ []) (k.logged.begins m i below))))
    (λ q. subst (IsPrefix (seen_of b.views m j)) (sym (there j q)) (k.logged.begins m j below)) in
    let mine_begins : (j : ℕ) → IsPrefix (front_of j u.seen) (history' j) = λ j. dite (ℕ_discrete j i)
    (λ q. subst (λ (z : ℕ). IsPrefix (front_of z u.seen) (history' z)) (sym q) ([], append-nil (front_of i u.seen) ∙ last))
    (λ q. subst (λ (l : List ℕ). IsPrefix l (history' j)) (ap (front_of j) (ap (λ (z : Writer). z.seen) (view_was b.views n w u at)) ∙ sym (front_else i j v w.seen q)) (begins n j near)) in
    let mine_more : (j : ℕ) → length (seen_of b.views n j) ≤ length (front_of j u.seen) = λ j. dite (ℕ_discrete j i)
    (λ q. subst (λ (z : ℕ). length (seen_of b.views n z) ≤ length (front_of z u.seen)) (sym q) (subst (λ (l : List ℕ). length (seen_of b.views n i) ≤ length l) (sym last) (prefix_length (seen_of b.views n i) (history' i) (begins n i near))))
    (λ q. subst (λ (l : List ℕ). length (seen_of b.views n j) ≤ length l) (sym (front_else i j v w.seen q)) (subst (λ (z : Writer). length (seen_of b.views n j) ≤ length (front_of j z.seen)) (view_was b.views n w u at) (omega arith))) in record {
      history = history';
      owner = with_owner k.owner i (length (k.history i)) n;
      now = λ j t f. ⊎_elim
          (λ q. let P : ℕ → Turn (List ℕ) → Type 0 = λ z s. NowIs views' z s (history' z) in subst (λ (z : ℕ × Turn (List ℕ)). P z.0 z.1) (λ z. (sym q.0 z, q.1 z)) (grown ∙ sym here))
          (λ q. subst (NowIs views' j t) (sym (there j q.0)) (now_stays b n j (k.history j) w u t at (λ c. front_else i j v w.seen q.0 ∙ c) (k.now j t q.1)))
          (at_set b.turns i j (free v) t f);
      logged = subst (λ (c : ℕ). Logged turn_of place_of IsOf c history' (with_owner k.owner i (length (k.history i)) n) (seen_of views') (mine_of views')) (sym (length-set b.views n u))
          (logged_adds turn_of place_of IsOf (length b.views) k.history k.owner (seen_of b.views) (mine_of b.views) k.logged n i (x ∷ []) (spot i (length (k.history i)) x ∷ []) history' (seen_of views') (mine_of views') near
          (sym here) there
          (ap (λ (z : Writer). z.mine) (view_here b.views n w u at) ∙ ap (λ (z : List ℕ × List Spot). z.1 ++ spot i (length z.0) x ∷ []) (λ j. (whole j, sym (ap (λ (z : Writer). z.mine) (view_was b.views n w u at)) j)))
          (λ m q. ap (λ (z : Writer). z.mine) (view_else b.views n w u at m q))
          ((refl, refl, refl), tt)
          (ap (λ (z : Writer). front_of i z.seen) (view_here b.views n w u at) ∙ last)
          (λ m j below. by_party b.views n w u at (λ m z. m < length b.views → IsPrefix (front_of j z.seen) (history' j)) (λ _. mine_begins j) (λ m q near. begins m j near) m below)
          (λ m j below. by_party b.views n w u at (λ m z. length (seen_of b.views m j) ≤ length (front_of j z.seen)) (mine_more j) (λ m q. omega arith) m));
    }

-- a party gives a history back as it found it
pub returns_same : (p : Place Writer) (i : ℕ) (v : List ℕ) → v ≡ front_of i p.own.seen → MayGive Kept p i v p.own
returns_same p i v is b k s e =
    let n : ℕ = p.number in
    let w : Writer = p.own in
    let at : get_elem? b.views n ≡ some w = s.shows.0 in
    let whole : front_of i w.seen ≡ k.history i = saw_whole b k n i w e at in
    looks b k (set b.turns i (free v)) n w w at refl (λ j. saw_begins b k n j w at) (λ j. omega arith)
    (λ j t f. ⊎_elim
    (λ q. let P : ℕ → Turn (List ℕ) → Type 0 = λ z s. NowIs (set b.views n w) z s (k.history z) in subst (λ (z : ℕ × Turn (List ℕ)). P z.0 z.1) (λ z. (sym q.0 z, q.1 z)) (is ∙ whole))
    (λ q. now_stays b n j (k.history j) w w t at (λ c. c) (k.now j t q.1))
    (at_set b.turns i j (free v) t f))
