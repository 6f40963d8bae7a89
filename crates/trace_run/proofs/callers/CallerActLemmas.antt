-- The acts of all callers, seen from one of them: they are its own.
use Rattle.std.proofs.Common.{◌≡◌, ◌≢◌, ◌⊎◌, ℕ, zero, suc, ◌≤◌, ◌==◌, true, false, IfSome, Option, Some, List, [], ◌∷◌, ◌++◌, inl, inr, refl, sym, ap, ◌∙◌, arith, eq-eqb, ne_eqb, None}
use Rattle.std.specs.Prelude.{filter}
use Rattle.std.specs.Option.{option_map_or}
use Rattle.std.specs.List.{AllByRecursion}
use Rattle.std.proofs.lemmas.Bool.{eqb-true, false≢true}
use Rattle.std.proofs.lemmas.List.Elements.{filter-append}
use Rattle.arc_lists.proofs.Tables.{cases_true}
use Rattle.blk_ptr.specs.declared.key.Key.{Key}
use Rattle.blk_ptr.specs.declared.ptr.Ptr.{Ptr}
use Rattle.arc_core.specs.Operations.{Act, actor_of, acts_in}
use Rattle.trace_text.specs.declared.op.Op.{Op}
use Rattle.trace_text.specs.declared.op.Op.TheVariants as ops
use Rattle.trace_text.specs.declared.reply.Reply.{Reply}
use Rattle.trace_run.specs.Acts.{acts_of_caller, acts_of_callers}
use Rattle.trace_run.specs.Lines.{caller_of, is_of_caller, replies_where}
use Rattle.trace_run.proofs.one_caller.TellLemmas.{act-caller}

-- the lines of a caller are its own
pub caller-is : (n : ℕ) (op : Op) → is_of_caller n op ≡ true → caller_of op ≡ Some n
caller-is n (ops.Read m t x window) his = ap (λ (k : ℕ). Some k) (eqb-true m n his)
caller-is n (ops.Hold m t x) his = ap (λ (k : ℕ). Some k) (eqb-true m n his)
caller-is n (ops.Drop m x) his = ap (λ (k : ℕ). Some k) (eqb-true m n his)
caller-is n (ops.Get m t at window) his = ap (λ (k : ℕ). Some k) (eqb-true m n his)
caller-is n (ops.Put m t at size fill) his = ap (λ (k : ℕ). Some k) (eqb-true m n his)
caller-is n (ops.Patch m t at from bytes) his = ap (λ (k : ℕ). Some k) (eqb-true m n his)
caller-is n (ops.Pin m t at) his = ap (λ (k : ℕ). Some k) (eqb-true m n his)
caller-is n (ops.Unpin m at) his = ap (λ (k : ℕ). Some k) (eqb-true m n his)
caller-is n other his = absurd (false≢true his)

pub own-lines : (n : ℕ) (os : List Op) → AllByRecursion (λ op. caller_of op ≡ Some n) (filter (is_of_caller n) os)
own-lines n [] = tt
own-lines n (op ∷ os) = elim (cases_true (is_of_caller n op)) [
  | inl his ↦ rw his (caller-is n op his, own-lines n os)
  | inr other ↦ rw other (own-lines n os)
]

-- which caller's it is, where it is one's
pub his-is : (n m : ℕ) (op : Op) → caller_of op ≡ Some m → m ≡ n → is_of_caller n op ≡ true
his-is n m op of same = ap (λ (o : Option ℕ). option_map_or (λ (k : ℕ). k == n) o false) of ∙ eq-eqb m n same

pub other-is : (n m : ℕ) (op : Op) → caller_of op ≡ Some m → m ≢ n → is_of_caller n op ≡ false
other-is n m op of differs = ap (λ (o : Option ℕ). option_map_or (λ (k : ℕ). k == n) o false) of ∙ ne_eqb m n differs

-- an operation is a caller's, or no caller's
pub line-kind : (op : Op) → ((n : ℕ) × (caller_of op ≡ Some n)) ⊎ (caller_of op ≡ None)
line-kind (ops.Read n t x window) = inl (n, refl)
line-kind (ops.Hold n t x) = inl (n, refl)
line-kind (ops.Drop n x) = inl (n, refl)
line-kind (ops.Get n t at window) = inl (n, refl)
line-kind (ops.Put n t at size fill) = inl (n, refl)
line-kind (ops.Patch n t at from bytes) = inl (n, refl)
line-kind (ops.Pin n t at) = inl (n, refl)
line-kind (ops.Unpin n at) = inl (n, refl)
line-kind other = inr refl

pub same-caller : (n : ℕ) (op : Op) → is_of_caller n op ≡ true → IfSome (caller_of op) (λ m. m ≡ n)
same-caller n (ops.Read m t x window) his = eqb-true m n his
same-caller n (ops.Hold m t x) his = eqb-true m n his
same-caller n (ops.Drop m x) his = eqb-true m n his
same-caller n (ops.Get m t at window) his = eqb-true m n his
same-caller n (ops.Put m t at size fill) his = eqb-true m n his
same-caller n (ops.Patch m t at from bytes) his = eqb-true m n his
same-caller n (ops.Pin m t at) his = eqb-true m n his
same-caller n (ops.Unpin m at) his = eqb-true m n his
same-caller n other his = tt

module _ (f : Key → ℕ) (shard : ℕ) where
  others-none : (k n : ℕ) (acts : List Act) → k ≢ n → AllByRecursion (λ act. actor_of act ≡ k) acts → acts_in f shard n acts ≡ []
  others-none k n [] differs all = refl
  others-none k n (act ∷ acts) differs all =
      let test : (actor_of act == n) ≡ false = ne_eqb (actor_of act) n (λ e. differs (sym all.0 ∙ e)) in
      rw test (others-none k n acts differs all.1)

  module _ (blocks : List Ptr) (os : List Op) (replies : List Reply) where
    abbrev acts_of : ℕ → List Act
    acts_of n = acts_of_caller blocks n (filter (is_of_caller n) os) (replies_where (is_of_caller n) os replies)

    acts-own : (n : ℕ) → AllByRecursion (λ act. actor_of act ≡ n) (acts_of n)
    acts-own n = act-caller blocks n (filter (is_of_caller n) os) (replies_where (is_of_caller n) os replies) (own-lines n os)

    -- a number that is no caller's did nothing
    pub callers-none : (callers n : ℕ) → callers ≤ n → acts_in f shard n (acts_of_callers blocks callers os replies) ≡ []
    callers-none zero n above = refl
    callers-none (suc c) n above =
        filter-append _ (acts_of_callers blocks c os replies) (acts_of c)
        ∙ (ap (λ (l : List Act). l ++ acts_in f shard n (acts_of c)) (callers-none c n (omega arith)) ∙ others-none c n (acts_of c) (λ e. absurd (omega arith)) (acts-own c))
