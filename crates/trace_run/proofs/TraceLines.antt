-- What the lines of a trace are: each caller is one of so many, and where no line asks for a sync none is one.
use Rattle.std.proofs.Common.{◌≡◌, ℕ, zero, suc, ◌<◌, ◌||◌, List, [], ◌∷◌, Some, false, sym, ap, ◌∙◌, subst, inl, inr}
use Rattle.std.specs.Prelude.{slice_get}
use Rattle.std.proofs.lemmas.Bool.{false≢true}
use Rattle.std.proofs.lemmas.List.Elements.{All-get_or}
use Rattle.std.proofs.lemmas.Option.{get_or_from_slice_get, slice_get_within}
use Rattle.arc_lists.proofs.Tables.{cases_true}
use Rattle.trace_text.specs.declared.op.Op.{Op}
use Rattle.trace_text.specs.declared.op.Op.TheVariants as ops
use Rattle.trace_text.specs.declared.trace.Trace.{Trace}
use Rattle.trace_text.specs.Grammar.{IsFormed, IsPossible}
use Rattle.trace_run.specs.Lines.{caller_of, has_sync, is_sync}
use Rattle.trace_run.proofs.one_caller.TellLemmas.{some-number}

module _ (trace : Trace) (formed : IsFormed trace) where
  pub possible-at : (k : ℕ) (op : Op) → slice_get trace.ops k ≡ Some op → IsPossible trace.config trace.blocks op
  possible-at k op at = subst (IsPossible trace.config trace.blocks) (get_or_from_slice_get trace.ops k op op at)
      (All-get_or (IsPossible trace.config trace.blocks) trace.ops k op (slice_get_within trace.ops k op at) formed.ops)

  caller-below : (op : Op) → IsPossible trace.config trace.blocks op → (n : ℕ) → caller_of op ≡ Some n → n < trace.config.callers
  caller-below (ops.Read m t x w) possible n of = subst (λ (k : ℕ). k < trace.config.callers) (some-number m n of) possible.0.0
  caller-below (ops.Hold m t x) possible n of = subst (λ (k : ℕ). k < trace.config.callers) (some-number m n of) possible.0.0
  caller-below (ops.Drop m x) possible n of = subst (λ (k : ℕ). k < trace.config.callers) (some-number m n of) possible.0.0
  caller-below (ops.Get m t at window) possible n of = subst (λ (k : ℕ). k < trace.config.callers) (some-number m n of) possible.0.0
  caller-below (ops.Put m t at size fill) possible n of = subst (λ (k : ℕ). k < trace.config.callers) (some-number m n of) possible.0.0
  caller-below (ops.Patch m t at from bytes) possible n of = subst (λ (k : ℕ). k < trace.config.callers) (some-number m n of) possible.0.0
  caller-below (ops.Pin m t at) possible n of = subst (λ (k : ℕ). k < trace.config.callers) (some-number m n of) possible.0.0
  caller-below (ops.Unpin m at) possible n of = subst (λ (k : ℕ). k < trace.config.callers) (some-number m n of) possible.0.0
  caller-below ops.Feed possible n of = cc
  caller-below (ops.Txg t) possible n of = cc
  caller-below (ops.Cap c) possible n of = cc

  pub all-callers : (k : ℕ) (op : Op) → slice_get trace.ops k ≡ Some op → (n : ℕ) → caller_of op ≡ Some n → n < trace.config.callers
  all-callers k op at = caller-below op (possible-at k op at)

pub none-at : (os : List Op) (k : ℕ) (op : Op) → has_sync os ≡ false → slice_get os k ≡ Some op → is_sync op ≡ false
none-at [] k op none at = cc
none-at (o ∷ os) zero op none at = elim (cases_true (is_sync o)) [
  | inl is ↦ absurd (false≢true (sym none ∙ (λ i. is i || has_sync os)))
  | inr not_it ↦ (let same : o ≡ op = cc in ap is_sync (sym same) ∙ not_it)
]
none-at (o ∷ os) (suc k) op none at = elim (cases_true (is_sync o)) [
  | inl is ↦ absurd (false≢true (sym none ∙ (λ i. is i || has_sync os)))
  | inr not_it ↦ none-at os k op ((λ i. sym not_it i || has_sync os) ∙ none) at
]
