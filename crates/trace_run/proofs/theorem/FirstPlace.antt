-- There is a place behind all declared blocks whose keys name a block of the pool.
use Rattle.std.proofs.Common.{◌≡◌, ◌⊎◌, ◌%◌, ◌<◌, ◌≤◌, ℕ, zero, suc, max, List, [], ◌∷◌, Some, length, refl, inl, inr, arith}
use Rattle.std.specs.Prelude.{slice_get}
use Rattle.std.proofs.lemmas.Bool.{cases_lt}
use mathlib.Core.Logic.{dite}
use native.Mathlib.Decide.{ℕ_discrete}
use Rattle.blk_ptr.specs.declared.key.Key.{Key}
use Rattle.blk_ptr.specs.declared.ptr.Ptr.{Ptr}
use Rattle.blk_ptr.specs.Key.{IsValid, key_end}
use Rattle.blk_ptr.specs.Size.{largest_block, sector}
use Rattle.trace_run.specs.callers.Together.{IsFirstPlace}
use Rattle.trace_run.proofs.callers.PlaceLemmas.{IsPlaceOf, place-all, place-more, place-none}

module _ (len : ℕ) where
  -- a key names a block of the pool, or it does not
  valid-or : (key : Key) → IsValid len key ⊎ (IsValid len key → ⊥)
  valid-or key = dite (ℕ_discrete (key.offset % sector) 0)
      (λ aligned. dite (ℕ_discrete (key.size % sector) 0)
      (λ whole. elim (cases_lt key.size sector) [
        | inl small ↦ inr (λ valid. let s = valid.formed.sized.1 in absurd (omega (arith, s, small)))
        | inr some_bytes ↦ elim (cases_lt largest_block key.size) [
          | inl large ↦ inr (λ valid. let s = valid.formed.sized.2 in absurd (omega (arith, s, large)))
          | inr fits ↦ elim (cases_lt 0 key.birth) [
            | inl born ↦ elim (cases_lt len (key_end key)) [
              | inl past ↦ inr (λ valid. let s = valid.inside in absurd (omega (arith, s, past)))
              | inr inside ↦ inl (record { formed = record { aligned = aligned; sized = (whole, some_bytes, fits); born = born }; inside = inside })
            ]
            | inr unborn ↦ inr (λ valid. let s = valid.formed.born in absurd (omega (arith, s, unborn)))
          ]
        ]
      ])
      (λ odd. inr (λ valid. absurd (odd valid.formed.sized.0))))
      (λ unaligned. inr (λ valid. absurd (unaligned valid.formed.aligned)))

  -- where a block's range ends, if it names one
  end-of : (key : Key) → (end : ℕ) × (IsValid len key → end ≡ key_end key) × ((end ≡ 0) ⊎ (IsValid len key × (end ≡ key_end key)))
  end-of key = elim (valid-or key) [
    | inl valid ↦ (key_end key, (λ is. refl), inr (valid, refl))
    | inr never ↦ (0, (λ is. absurd (never is)), inl refl)
  ]

  there-at : (blocks : List Ptr) (k : ℕ) → k < length blocks → (ptr : Ptr) × (slice_get blocks k ≡ Some ptr)
  there-at [] k inside = absurd (omega (arith, inside))
  there-at (x ∷ xs) zero inside = (x, refl)
  there-at (x ∷ xs) (suc k) inside = there-at xs k (omega (arith, inside))

  place-upto : (blocks : List Ptr) (done : ℕ) → done ≤ length blocks → (place : ℕ) × IsPlaceOf len blocks done place
  place-upto blocks zero inside = (0, place-none len blocks)
  place-upto blocks (suc done) inside =
      let before = place-upto blocks done (omega (arith, inside)) in
      let ptr = there-at blocks done (omega (arith, inside)) in
      let end = end-of ptr.0.key in
      (max before.0 end.0, place-more len blocks done before.0 end.0 ptr.0 ptr.1 end.1 end.2 before.1)

  pub first-place : (blocks : List Ptr) → (place : ℕ) × IsFirstPlace len blocks place
  first-place blocks = let h = place-upto blocks (length blocks) (omega arith) in (h.0, place-all len blocks (length blocks) h.0 (omega arith) h.1)
