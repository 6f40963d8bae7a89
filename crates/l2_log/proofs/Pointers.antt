-- Pointers at places.
use Rattle.std.proofs.Common.{◌≡◌, ℕ, ◌+◌, ◌<◌, ◌≤◌, List, length, Option, None, Some, inl, inr, ap, sym, ◌∙◌, arith}
use Rattle.std.proofs.lemmas.Bool.{cases_lt}
use Rattle.l2_log.specs.declared.pointer.LogPtr.{LogPtr}
use Rattle.l2_log.specs.Bytes.{AreSame, AreBytes, IsKeptOutside}
use Rattle.l2_log.specs.PointerBytes.{IsPointerOrNone, PointerRule}
use Rattle.l2_log.proofs.Numbers.{word_only, word_same, part_same, part_from_same}

-- the same bytes are the same pointer
pub same_pointer : (at : ℕ) (ptr : Option LogPtr) (xs ys : List ℕ) → AreSame at (at + 64) xs ys → length xs ≡ length ys → IsPointerOrNone xs at ptr → IsPointerOrNone ys at ptr
same_pointer at None xs ys same len zeros = λ k ge lt. sym (same k ge lt) ∙ zeros k ge lt
same_pointer at (Some ptr) xs ys same len there = record {
  place = sym (word_same at xs ys (λ k ge lt. same k ge (omega arith))) ∙ there.place;
  length = sym (word_same (at + 8) xs ys (λ k ge lt. same k (omega arith) (omega arith))) ∙ there.length;
  count = sym (word_same (at + 16) xs ys (λ k ge lt. same k (omega arith) (omega arith))) ∙ there.count;
  zeros = λ k ge lt. sym (same k (omega arith) (omega arith)) ∙ there.zeros k ge lt;
  digest = ap (λ (bytes : List ℕ). let d : Rattle.blk_ptr.specs.declared.digest.Digest.Digest = record { 0 = bytes } in d)
      (sym (part_from_same (at + 32) 32 xs ys (λ k ge lt. same k (omega arith) (omega arith)) len)) ∙ there.digest;
}

-- a pointer outside the range of a change
pub kept_pointer : {from to : ℕ} {xs ys : List ℕ} (at : ℕ) (ptr : Option LogPtr) → IsKeptOutside from to xs ys → at + 64 ≤ from → IsPointerOrNone xs at ptr → IsPointerOrNone ys at ptr
kept_pointer {xs = xs} {ys = ys} at ptr kept h there =
    same_pointer at ptr xs ys (λ k ge lt. kept.before k (omega arith) (omega arith)) kept.len there

-- the same pointer is the same bytes
pub pointer_only : (at : ℕ) (ptr : Option LogPtr) (xs ys : List ℕ) → AreBytes xs → AreBytes ys → IsPointerOrNone xs at ptr → IsPointerOrNone ys at ptr → AreSame at (at + 64) xs ys
pointer_only at None xs ys bx by x y = λ k ge lt. x k ge lt ∙ sym (y k ge lt)
pointer_only at (Some ptr) xs ys bx by x y =
    let place : AreSame at (at + 8) xs ys = word_only at xs ys bx by (x.place ∙ sym y.place) in
    let len : AreSame (at + 8) (at + 8 + 8) xs ys = word_only (at + 8) xs ys bx by (x.length ∙ sym y.length) in
    let count : AreSame (at + 16) (at + 16 + 8) xs ys = word_only (at + 16) xs ys bx by (x.count ∙ sym y.count) in
    let digest : AreSame (at + 32) (at + 32 + 32) xs ys = part_same (at + 32) 32 xs ys (ap (λ d. d.0) (x.digest ∙ sym y.digest)) in
    λ k ge lt.
    elim (cases_lt k (at + 8)) [
      | inl a ↦ place k ge a
      | inr a ↦ elim (cases_lt k (at + 16)) [
        | inl b ↦ len k a (omega arith)
        | inr b ↦ elim (cases_lt k (at + 24)) [
          | inl d ↦ count k b (omega arith)
          | inr d ↦ elim (cases_lt k (at + 32)) [
            | inl e ↦ x.zeros k d e ∙ sym (y.zeros k d e)
            | inr e ↦ digest k e (omega arith)
          ]
        ]
      ]
    ]

-- the rule of a pointer says nothing of the places before it
pub pointer_below : (bytes : List ℕ) (at k : ℕ) → k < at → PointerRule bytes at k
pointer_below bytes at k lt = record {
  length = λ some e. absurd (omega arith);
  count = λ some e. absurd (omega arith);
  zeros = λ some ge below. absurd (omega arith);
}

-- a pointer keeps its rule
pub pointer_rule : (bytes : List ℕ) (at : ℕ) (ptr : Option LogPtr) → IsPointerOrNone bytes at ptr → (k : ℕ) → PointerRule bytes at k
pointer_rule bytes at None zeros k = record {
  length = λ some e. absurd (some zeros);
  count = λ some e. absurd (some zeros);
  zeros = λ some ge below. absurd (some zeros);
}
pointer_rule bytes at (Some ptr) is k = record {
  length = λ some e. is.length;
  count = λ some e. rw is.count ptr.counted;
  zeros = λ some. is.zeros k;
}
