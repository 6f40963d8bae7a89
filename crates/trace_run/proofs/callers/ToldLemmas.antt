-- What the pool told as the group of each line began, where a group more begins: it is the same of all lines before that, and up to the place from which syncs write what the pool told at first.
use Rattle.std.proofs.Common.{◌≡◌, ℕ, ◌<◌, ◌≤◌, nat_lt, Bool, true, false, if◌then◌else◌, List, Option, ap, subst, sym, inl, inr, arith}
use Rattle.std.proofs.lemmas.Bool.{cases_lt}
use Rattle.std.proofs.lemmas.Bool.Decides.{nat_tests}
use Rattle.trace_run.specs.callers.WorkLines.{HasFront}

-- by the lines' places, where so many were before, and it tells this as the next group begins
abbrev pub told_then : (told : (k : ℕ) → Option (List ℕ)) → (many : ℕ) → Option (List ℕ) → (k : ℕ) → Option (List ℕ)
told_then told many now k = if nat_lt k many then told k else now

module _ (told : (k : ℕ) → Option (List ℕ)) (many : ℕ) (now : Option (List ℕ)) where
  pub told-early : (k : ℕ) → k < many → told_then told many now k ≡ told k
  told-early k early =
      let is : nat_lt k many ≡ true = grind (arith, nat_tests, early) in
      ap (λ (b : Bool). if b then told k else now) is

  pub told-late : (k : ℕ) → many ≤ k → told_then told many now k ≡ now
  told-late k late =
      let is : nat_lt k many ≡ false = grind (arith, nat_tests, late) in
      ap (λ (b : Bool). if b then told k else now) is

  pub told-front : (place : ℕ) (image : Option (List ℕ)) → ((k : ℕ) → HasFront place image (told k)) → HasFront place image now → (k : ℕ) → HasFront place image (told_then told many now k)
  told-front place image old new k = elim (cases_lt k many) [
    | inl early ↦ subst (HasFront place image) (sym (told-early k early)) (old k)
    | inr late ↦ subst (HasFront place image) (sym (told-late k late)) new
  ]
