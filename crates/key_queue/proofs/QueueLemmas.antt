-- What a queue keeps, where a value comes or is taken.
use Rattle.std.proofs.Common.{◌≡◌, ℕ, List, inl, inr, sym, subst}
use Rattle.std.proofs.lemmas.Bool.{cases_eq}
use Rattle.std.specs.declared.collections.VecDeque.{VecDeque}
use Rattle.key_table.specs.PlainTable.{Row}
use Rattle.key_queue.specs.Places.{IsFound}

module _ {A : Type 0} (old new : List (Row ℕ (VecDeque ℕ A))) (n : ℕ) (f h : ℕ → List ℕ) where
  -- the places of one number are these now, and those of every other stay
  pub found-all : ((m : ℕ) → IsFound m old (f m)) → IsFound n new (h n)
      → ((m : ℕ) (ps : List ℕ) → (m ≡ n → ⊥) → IsFound m old ps → IsFound m new ps)
      → ((m : ℕ) → (m ≡ n → ⊥) → h m ≡ f m) → (m : ℕ) → IsFound m new (h m)
  found-all all own others stays m = elim (cases_eq m n) [
    | inl same ↦ subst (λ k. IsFound k new (h k)) (sym same) own
    | inr other ↦ subst (IsFound m new) (sym (stays m other)) (others m (f m) other (all m))
  ]
