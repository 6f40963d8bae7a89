-- Lists read by place, functions changed at a number, tables of numbers, and what was seen of histories.
use Rattle.std.proofs.Common.{◌≡◌, ◌≢◌, ◌⊎◌, ◌==◌, if◌then◌else◌, ℕ, zero, suc, ◌<◌, List, [], ◌∷◌, ◌++◌, length, Some, refl, sym, ap, ◌∙◌, subst, inl, inr, ⊎_elim, eq-eqb, ne_eqb, arith}
use mathlib.Core.Option.{some, some-injective, some-ne-none}
use mathlib.Core.List.{append_assoc}
use mathlib.Core.Logic.{dite}
use native.Mathlib.Decide.{ℕ_discrete}
use lib.ListN.{get_elem?}
use Rattle.arc_table.specs.Fronts.{item_at, without_item, StartsWith}
pub use Rattle.turn_table.proofs.Histories.{front_here, front_else, front_both}

module _ {A : Type 0} where
  pub there : (l : List A) (i : ℕ) → i < length l → (a : A) × (get_elem? l i ≡ some a)
  there [] i h = absurd (omega arith)
  there (x ∷ xs) zero h = (x, refl)
  there (x ∷ xs) (suc i) h = there xs i (omega arith)

  pub get_last : (l : List A) (a : A) → get_elem? (l ++ a ∷ []) (length l) ≡ some a
  get_last [] a = refl
  get_last (x ∷ xs) a = get_last xs a

  pub get_more : (l : List A) (a b : A) (i : ℕ) → get_elem? (l ++ a ∷ []) i ≡ some b → (get_elem? l i ≡ some b) ⊎ ((i ≡ length l) × (a ≡ b))
  get_more [] a b zero e = inr (refl, some-injective a b e)
  get_more [] a b (suc i) e = absurd (some-ne-none b (sym e))
  get_more (x ∷ xs) a b zero e = inl e
  get_more (x ∷ xs) a b (suc i) e = ⊎_elim inl (λ p. inr (ap suc p.0, p.1)) (get_more xs a b i e)

  pub without_else : (i j : ℕ) (ps : List (ℕ × A)) → j ≢ i → item_at j (without_item i ps) ≡ item_at j ps
  without_else i j [] h = refl
  without_else i j (p ∷ ps) h = dite (ℕ_discrete i p.0)
      (λ q. subst (λ b. item_at j (if b then without_item i ps else (p ∷ without_item i ps)) ≡ item_at j (p ∷ ps)) (sym (eq-eqb i p.0 q))
      (without_else i j ps h ∙ sym (subst (λ b. (if b then Some p.1 else item_at j ps) ≡ item_at j ps) (sym (ne_eqb j p.0 (λ e. h (e ∙ sym q)))) refl)))
      (λ q. subst (λ b. item_at j (if b then without_item i ps else (p ∷ without_item i ps)) ≡ item_at j (p ∷ ps)) (sym (ne_eqb i p.0 q))
      (λ k. if j == p.0 then Some p.1 else without_else i j ps h k))

  pub starts_more : (h front more : List A) → StartsWith h front → StartsWith (h ++ more) front
  starts_more h front more s = (s.0 ++ more, ap (λ l. l ++ more) s.1 ∙ append_assoc front s.0 more)
