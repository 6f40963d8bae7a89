-- Whether a read of a block is kept.
use Rattle.std.proofs.Common.{◌≡◌, ℕ, ◌<◌, true, false, cond, List, [], ◌∷◌, Some, None, is_some, inl, inr, refl, sym, ap, arith}
use Rattle.std.specs.List.{AllByRecursion}
use Rattle.std.proofs.lemmas.List.Sums.{sum_by-cons}
use Rattle.trace_run.specs.one_caller.OneCaller.{is_of_block, oldest_kept, without_oldest}
use Rattle.trace_run.specs.Tally.{kept_of_block}
use Rattle.std.proofs.lemmas.Bool.{false≢true}
use Rattle.blk_ptr.specs.declared.key.Key.{Key}
use Rattle.blk_ptr.specs.Order.{key_eq}
use Rattle.blk_ptr.proofs.Keys.{key_eq-same, key_eq-lt}
use Rattle.arc_lists.specs.ByKey.{IsRising, item_at}
use Rattle.arc_lists.proofs.Tables.{cases_true, item-above}
use Rattle.arc_core.specs.declared.entry.Entry.{Entry}
use Rattle.arc_core.specs.PlainShard.{entry_key}
use Rattle.trace_run.specs.KeptReads.{KeptRead}

-- ---- nothing is held where no read is kept

pub all-items : (P : Entry → Type 0) (es : List Entry) → IsRising entry_key es → ((k : Key) (e : Entry) → item_at entry_key k es ≡ Some e → P e) → AllByRecursion P es
all-items P [] rising each = tt
all-items P (x ∷ xs) rising each =
    let first : item_at entry_key x.key (x ∷ xs) ≡ Some x = rw (key_eq-same x.key) refl in (
      each x.key x first,
      all-items P xs rising.1 (λ k e item.
          let lt = item-above entry_key x.key k xs e rising.0 item in
          let differs : key_eq x.key k ≡ false = key_eq-lt x.key k lt in
          each k e (rw differs item)),
    )

-- ---- whether a read of the block is kept

pub found-counted : (block : ℕ) (kept : List KeptRead) → is_some (oldest_kept block kept) ≡ true → 0 < kept_of_block block kept
found-counted block [] there = absurd (false≢true there)
found-counted block (read ∷ reads) there = elim (cases_true (is_of_block block read)) [
  | inl here ↦
      let one : ◌≡◌ {A = ℕ} (cond (is_of_block block read) 1 0) 1 = rw here refl in
      omega (arith, sum_by-cons (λ r. cond (is_of_block block r) 1 0) read reads, one)
  | inr later ↦ omega (arith, sum_by-cons (λ r. cond (is_of_block block r) 1 0) read reads, found-counted block reads (rw later at there))
]

pub absent-counted : (block : ℕ) (kept : List KeptRead) → is_some (oldest_kept block kept) ≡ false
    → (kept_of_block block kept ≡ 0) × (oldest_kept block kept ≡ None) × (without_oldest block kept ≡ kept)
absent-counted block [] absent = (refl, refl, refl)
absent-counted block (read ∷ reads) absent = elim (cases_true (is_of_block block read)) [
  | inl here ↦ absurd (false≢true (sym (rw here at absent)))
  | inr later ↦
      let none : ◌≡◌ {A = ℕ} (cond (is_of_block block read) 1 0) 0 = rw later refl in
      let rest = absent-counted block reads (rw later at absent) in
      (omega (arith, sum_by-cons (λ r. cond (is_of_block block r) 1 0) read reads, none, rest.0), rw later rest.1, rw later (ap (λ (rs : List KeptRead). read ∷ rs) rest.2))
]
