-- The place of the first sync: behind the declared blocks whose keys are valid.
use Rattle.std.proofs.Common.{◌≡◌, ◌⊎◌, ◌<◌, ◌≤◌, ℕ, suc, max, List, Option, Some, length, refl, sym, ap, ◌∙◌, subst, inl, inr, arith}
use Rattle.std.specs.Prelude.{slice_get}
use Rattle.std.proofs.lemmas.Bool.{cases_lt}
use Rattle.std.proofs.lemmas.Option.{slice_get_within}
use Rattle.blk_ptr.specs.declared.key.Key.{Key}
use Rattle.blk_ptr.specs.declared.key.KeyFault.{KeyFault}
use Rattle.blk_ptr.specs.declared.key.KeyFault.TheVariants as fault
use Rattle.blk_ptr.specs.declared.ptr.Ptr.{Ptr}
use Rattle.blk_ptr.specs.Key.{IsFirstKeyFault, IsValid, key_end}
use Rattle.trace_run.specs.callers.Together.{IsFirstPlace}

-- a key that fails one of the tests is not valid
pub fault-not-valid : (len : ℕ) (key : Key) (why : KeyFault) → IsFirstKeyFault len key why → IsValid len key → ⊥
fault-not-valid len key fault.Unaligned fails valid = fails valid.formed.aligned
fault-not-valid len key fault.Size fails valid = fails.1 valid.formed.sized
fault-not-valid len key (fault.OutOfPool end l) fails valid = let i = valid.inside in let o = fails.4 in omega arith
fault-not-valid len key fault.BirthZero fails valid = let b = valid.formed.born in let z = fails.3 in omega arith

-- ---- one block after another

-- the place behind the first so many blocks
pub record IsPlaceOf (len : ℕ) (blocks : List Ptr) (done place : ℕ) : Type 0 where
  pub behind : (k : ℕ) (ptr : Ptr) → k < done → slice_get blocks k ≡ Some ptr → IsValid len ptr.key → key_end ptr.key ≤ place
  pub least : (place ≡ 0) ⊎ ((k : ℕ) × (ptr : Ptr) × (slice_get blocks k ≡ Some ptr) × IsValid len ptr.key × (place ≡ key_end ptr.key))

some-same : (a b : Ptr) → ◌≡◌ {A = Option Ptr} (Some a) (Some b) → a ≡ b
some-same a b is = cc

pub place-more : (len : ℕ) (blocks : List Ptr) (done place end : ℕ) (ptr : Ptr) → slice_get blocks done ≡ Some ptr → (IsValid len ptr.key → end ≡ key_end ptr.key) → ((end ≡ 0) ⊎ (IsValid len ptr.key × (end ≡ key_end ptr.key)))
    → IsPlaceOf len blocks done place → IsPlaceOf len blocks (suc done) (max place end)
place-more len blocks done place end ptr here valid which so = record { behind = behind; least = least which }
  where
    behind : (k : ℕ) (x : Ptr) → k < suc done → slice_get blocks k ≡ Some x → IsValid len x.key → key_end x.key ≤ max place end
    behind k x lt at is_valid = elim (cases_lt k done) [
      | inl early ↦ let old = so.behind k x early at is_valid in omega (arith, old)
      | inr late ↦
          let last : k ≡ done = omega (arith, late, lt) in
          let same : ptr ≡ x = some-same ptr x (sym here ∙ (ap (slice_get blocks) (sym last) ∙ at)) in
          let e = subst (λ (p : Ptr). IsValid len p.key → end ≡ key_end p.key) same valid is_valid in
          omega (arith, e)
    ]

    least : ((end ≡ 0) ⊎ (IsValid len ptr.key × (end ≡ key_end ptr.key))) → (max place end ≡ 0) ⊎ ((k : ℕ) × (x : Ptr) × (slice_get blocks k ≡ Some x) × IsValid len x.key × (max place end ≡ key_end x.key))
    least (inl none) = subst (λ (p : ℕ). (p ≡ 0) ⊎ ((k : ℕ) × (x : Ptr) × (slice_get blocks k ≡ Some x) × IsValid len x.key × (p ≡ key_end x.key))) (let e : place ≡ max place end = omega (arith, none) in e) so.least
    least (inr found) = elim (cases_lt place end) [
      | inl below ↦ inr (done, ptr, here, found.0, (let e : max place end ≡ end = omega (arith, below) in e) ∙ found.1)
      | inr above ↦ subst (λ (p : ℕ). (p ≡ 0) ⊎ ((k : ℕ) × (x : Ptr) × (slice_get blocks k ≡ Some x) × IsValid len x.key × (p ≡ key_end x.key))) (let e : place ≡ max place end = omega (arith, above) in e) so.least
    ]

pub place-none : (len : ℕ) (blocks : List Ptr) → IsPlaceOf len blocks 0 0
place-none len blocks = record { behind = λ k ptr lt at valid. absurd (omega (arith, lt)); least = inl refl }

pub place-all : (len : ℕ) (blocks : List Ptr) (done place : ℕ) → length blocks ≤ done → IsPlaceOf len blocks done place → IsFirstPlace len blocks place
place-all len blocks done place all so = record {
  behind = λ k ptr at valid. so.behind k ptr (let w = slice_get_within blocks k ptr at in omega (arith, w, all)) at valid;
  least = so.least;
}
