-- A number's row of places, where a row of another number or its own comes or goes.
use Rattle.std.proofs.Common.{◌≡◌, ℕ, List, [], inl, inr, refl, ap}
use Rattle.std.specs.declared.collections.VecDeque.{VecDeque}
use Rattle.key_table.specs.PlainTable.{Gains, HasKey, Loses, Row, row}
use Rattle.key_queue.specs.Places.{IsFound}

module _ {A : Type 0} (old new : List (Row ℕ (VecDeque ℕ A))) (k : ℕ) where
  -- without a row there is no place
  pub gone-found : (HasKey k old → ⊥) → IsFound k old []
  gone-found gone = record { held = λ d there. absurd (gone (d, there)); absent = λ _. refl }

  pub lost-gone : Loses old new k → HasKey k new → ⊥
  lost-gone loses has = ((loses (row k has.0)).0 has.1).0 refl

  -- a row that goes leaves those of other numbers
  pub lost-found : Loses old new k → (m : ℕ) (ps : List ℕ) → (m ≡ k → ⊥) → IsFound m old ps → IsFound m new ps
  lost-found loses m ps other found = record {
    held = λ d there. found.held d ((loses (row m d)).0 there).1;
    absent = λ none. found.absent (λ has. none (has.0, (loses (row m has.0)).1 (other, has.1)));
  }

  -- and so does one that comes
  pub gained-others : (d : VecDeque ℕ A) → Gains old new (row k d) → (m : ℕ) (ps : List ℕ) → (m ≡ k → ⊥) → IsFound m old ps → IsFound m new ps
  gained-others d gains m ps other found = record {
    held = λ e there. elim ((gains (row m e)).0 there) [
      | inl same ↦ absurd (other (ap (λ (r : Row ℕ (VecDeque ℕ A)). r.key) same))
      | inr before ↦ found.held e before
    ];
    absent = λ none. found.absent (λ has. none (has.0, (gains (row m has.0)).1 (inr has.1)));
  }

  pub gained-found : (d : VecDeque ℕ A) → (HasKey k old → ⊥) → Gains old new (row k d) → IsFound k new d.items
  gained-found d gone gains = record {
    held = λ e there. elim ((gains (row k e)).0 there) [
      | inl same ↦ ap (λ (r : Row ℕ (VecDeque ℕ A)). r.value.items) same
      | inr before ↦ absurd (gone (e, before))
    ];
    absent = λ none. absurd (none (d, (gains (row k d)).1 (inl refl)));
  }
