-- Replies without a refusal or a fault, lines by their places, and how a run ends of which no fault is told.
use Rattle.std.proofs.Common.{◌≡◌, ℕ, zero, suc, ◌+◌, ◌^◌, ◌<◌, cond, Bool, true, false, List, [], ◌∷◌, length, Option, Some, None, refl, sym, ap, ◌∙◌, subst, inl, inr, arith, nat_lt}
use Rattle.std.specs.Prelude.{count_by, slice_get}
use Rattle.std.specs.List.{AllByRecursion, list_any}
use Rattle.std.proofs.lemmas.Bool.{cases_lt}
use Rattle.std.proofs.lemmas.Bool.Decides.{nat_tests}
use Rattle.std.proofs.lemmas.List.Sums.{sum_by-cons}
use Rattle.arc_lists.proofs.Tables.{cases_true}
use Rattle.trace_text.specs.declared.op.Op.{Op}
use Rattle.trace_text.specs.declared.reply.Reply.{Reply}
use Rattle.vdev_io.specs.Faults.{Rose}
use Rattle.trace_run.specs.declared.ran.Ending.{Ending}
use Rattle.trace_run.specs.declared.ran.Ending.TheVariants.{Fork, Full, Sync, Whole}
use Rattle.trace_run.specs.Answers.{is_pool_fault, is_refusal}
use Rattle.trace_run.specs.callers.Together.{faults_told}
use Rattle.trace_run.specs.dbufs.Objects.{Line}

-- ---- lists

pub no-refusal : (rs : List Reply) → ((k : ℕ) (r : Reply) → slice_get rs k ≡ Some r → is_refusal r ≡ false) → list_any is_refusal rs ≡ false
no-refusal [] each = refl
no-refusal (r ∷ rs) each = let none = each 0 r refl in rw none (no-refusal rs (λ k x at. each (suc k) x at))

pub some-reply : (a b : Reply) → ◌≡◌ {A = Option Reply} (Some a) (Some b) → a ≡ b
some-reply a b is = cc

counted : (x : Reply) (xs : List Reply) → count_by is_pool_fault (x ∷ xs) ≡ cond {A = ℕ} (is_pool_fault x) 1 0 + count_by is_pool_fault xs
counted x xs = sum_by-cons (λ (y : Reply). cond {A = ℕ} (is_pool_fault y) 1 0) x xs

pub no-fault : (rs : List Reply) → count_by is_pool_fault rs ≡ 0 → (k : ℕ) (r : Reply) → slice_get rs k ≡ Some r → is_pool_fault r ≡ false
no-fault [] none k r at = absurd (let clash : ◌≡◌ {A = Option Reply} None (Some r) = at in cc)
no-fault (x ∷ xs) none zero r at =
    let more = counted x xs in
    let here : is_pool_fault x ≡ false = elim (cases_true (is_pool_fault x)) [
      | inl passes ↦ absurd (let one : cond {A = ℕ} (is_pool_fault x) 1 0 ≡ 1 = ap (λ (b : Bool). cond {A = ℕ} b 1 0) passes in omega (arith, none, more, one))
      | inr fails ↦ fails
    ] in
    ap is_pool_fault (sym (some-reply x r at)) ∙ here
no-fault (x ∷ xs) none (suc k) r at =
    let more = counted x xs in
    no-fault xs (omega (arith, none, more)) k r at

pub all-at : (P : Line → Type 0) (xs : List Line) → AllByRecursion P xs → (k : ℕ) (x : Line) → slice_get xs k ≡ Some x → P x
all-at P [] all k x at = absurd (let clash : ◌≡◌ {A = Option Line} None (Some x) = at in cc)
all-at P (y ∷ ys) all zero x at = let same : y ≡ x = cc in subst P same all.0
all-at P (y ∷ ys) all (suc k) x at = all-at P ys all.1 k x at

pub there-op : (os : List Op) (k : ℕ) → k < length os → (op : Op) × (slice_get os k ≡ Some op)
there-op [] k less = absurd (omega (arith, less))
there-op (o ∷ os) zero less = (o, refl)
there-op (o ∷ os) (suc k) less = there-op os k (omega (arith, less))

pub less-test : (m n : ℕ) → m < n → nat_lt m n ≡ true
less-test m n less = grind (arith, nat_tests)

-- ---- faults

pub none-told : (before after told : ℕ) → after ≡ before + told → (Rose before after → ⊥) → before < 2 ^ 63 → told ≡ 0
none-told before after told is still low = elim (cases_lt 0 told) [
  | inl some ↦ absurd (still (omega (arith, is, some)))
  | inr none ↦ omega (arith, none)
]

-- no sync wanted room, and none failed
pub whole-ending : (rs : List Reply) (ending : Ending) → faults_told ending rs ≡ 0 → ((need left : ℕ) → ending ≡ Full need left → ⊥) → ending ≡ Whole
whole-ending rs Whole none roomy = refl
whole-ending rs Fork none roomy = absurd (omega (arith, none))
whole-ending rs Sync none roomy = absurd (omega (arith, none))
whole-ending rs (Full need left) none roomy = absurd (roomy need left refl)
