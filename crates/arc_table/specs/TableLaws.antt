-- Lists read by place, functions changed at a number, tables of numbers, and what was seen of histories.
use Rattle.std.proofs.Common.{if◌then◌else◌, ◌≡◌, ◌≢◌, ℕ, zero, suc, ◌<◌, List, [], ◌∷◌, ◌++◌, length, Some, refl, sym, ◌∙◌, subst, eq-eqb, ne_eqb, arith}
use mathlib.Core.Option.{some, some-injective, some-ne-none}
use mathlib.Core.List.{append-nil}
use lib.ListN.{get_elem?}
use Rattle.arc_table.specs.Fronts.{with_at, item_at, list_at, StartsWith}
pub use Rattle.turn_table.proofs.Histories.{front_here, front_else, front_both}

module _ {A : Type 0} where
  pub within : (l : List A) (i : ℕ) (a : A) → get_elem? l i ≡ some a → i < length l
  within [] i a e = absurd (some-ne-none a (sym e))
  within (x ∷ xs) zero a e = omega arith
  within (x ∷ xs) (suc i) a e = let h = within xs i a e in omega arith

  pub same_at : (l : List A) (i : ℕ) (a b : A) → get_elem? l i ≡ some a → get_elem? l i ≡ some b → a ≡ b
  same_at l i a b e f = some-injective a b (sym e ∙ f)

  -- what stands in the front or the rest of a list
  pub get_front : (l m : List A) (i : ℕ) (a : A) → get_elem? l i ≡ some a → get_elem? (l ++ m) i ≡ some a
  get_front [] m i a e = absurd (some-ne-none a (sym e))
  get_front (x ∷ xs) m zero a e = e
  get_front (x ∷ xs) m (suc i) a e = get_front xs m i a e

  -- a function changed at a number
  pub at_here : (f : ℕ → A) (n : ℕ) (x : A) → with_at f n x n ≡ x
  at_here f n x = subst (λ b. (if b then x else f n) ≡ x) (sym (eq-eqb n n refl)) refl

  pub at_else : (f : ℕ → A) (n m : ℕ) (x : A) → m ≢ n → with_at f n x m ≡ f m
  at_else f n m x h = subst (λ b. (if b then x else f m) ≡ f m) (sym (ne_eqb m n h)) refl

  -- a table of numbers
  pub item_here : (i : ℕ) (x : A) (ps : List (ℕ × A)) → item_at i ((i, x) ∷ ps) ≡ Some x
  item_here i x ps = subst (λ b. (if b then Some x else item_at i ps) ≡ Some x) (sym (eq-eqb i i refl)) refl

  pub item_else : (i j : ℕ) (x : A) (ps : List (ℕ × A)) → j ≢ i → item_at j ((i, x) ∷ ps) ≡ item_at j ps
  item_else i j x ps h = subst (λ b. (if b then Some x else item_at j ps) ≡ item_at j ps) (sym (ne_eqb j i h)) refl

  pub list_here : (i : ℕ) (x : List A) (ps : List (ℕ × List A)) → list_at i ((i, x) ∷ ps) ≡ x
  list_here i x ps = subst (λ b. (if b then x else list_at i ps) ≡ x) (sym (eq-eqb i i refl)) refl

  pub list_else : (i j : ℕ) (x : List A) (ps : List (ℕ × List A)) → j ≢ i → list_at j ((i, x) ∷ ps) ≡ list_at j ps
  list_else i j x ps h = subst (λ b. (if b then x else list_at j ps) ≡ list_at j ps) (sym (ne_eqb j i h)) refl

  -- a history that grows begins with what it began with
  pub starts_whole : (h : List A) → StartsWith h h
  starts_whole h = ([], sym (append-nil h))
