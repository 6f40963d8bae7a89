-- The lines of one caller, among which lines that give a capacity stand: what they do is what the caller's own lines do.
use Rattle.std.proofs.Common.{◌≡◌, ◌≢◌, ◌⊎◌, ℕ, ◌<◌, ◌==◌, ◌&&◌, nat_lt, not, true, false, Option, Some, None, List, [], ◌∷◌, ◌++◌, length, inl, inr, refl, sym, ap, ◌∙◌, arith, append-nil, ne_eqb}
use Rattle.std.specs.Prelude.{filter}
use Rattle.std.specs.List.{AllByRecursion}
use Rattle.std.proofs.lemmas.Bool.Decides.{nat_tests}
use Rattle.std.proofs.lemmas.List.Elements.{filter-append}
use Rattle.arc_lists.proofs.Tables.{cases_true}
use Rattle.blk_ptr.specs.declared.ptr.Ptr.{Ptr}
use Rattle.arc_core.specs.declared.event.Event.{Event}
use Rattle.arc_core.specs.declared.event.Event.TheVariants.{Resize}
use Rattle.arc_core.specs.Operations.{is_pass, number_of, own_events}
use Rattle.arc_core.specs.PlainShard.{PlainShard}
use Rattle.arc_core.specs.Replay.{replay}
use Rattle.trace_text.specs.declared.op.Op.{Op}
use Rattle.trace_text.specs.declared.op.Op.TheVariants as ops
use Rattle.trace_text.specs.declared.reply.Reply.{Reply}
use Rattle.trace_run.specs.KeptReads.{KeptRead}
use Rattle.trace_run.specs.Acts.{acts_of, acts_of_all, events_of_feeder, events_of_feeds}
use Rattle.trace_run.specs.Effects.{calls_of, calls_of_all, effect_of}
use Rattle.trace_run.specs.Lines.{caller_of, is_in_shard, is_of_caller, replies_where}
use Rattle.trace_run.specs.one_caller.OneCaller.{events_of_op, events_of_all, events_of_drops, kept_after, kept_after_all, one_caller_history, only_feeder}
use Rattle.trace_run.specs.Tally.{AreAnswered}
use Rattle.trace_run.proofs.callers.CallerActLemmas.{his-is}
use Rattle.trace_run.proofs.one_caller.TellLemmas.{IsAloneOp, IsMine, mine-drops, mine-of}

-- it is the caller's, or no caller's
his-or : (op : Op) → IsAloneOp op → (is_of_caller 0 op ≡ true) ⊎ (caller_of op ≡ None)
his-or (ops.Read n t x window) own = inl (his-is 0 n (ops.Read n t x window) refl own)
his-or (ops.Hold n t x) own = inl (his-is 0 n (ops.Hold n t x) refl own)
his-or (ops.Drop n x) own = inl (his-is 0 n (ops.Drop n x) refl own)
his-or (ops.Get n t at window) own = inl (his-is 0 n (ops.Get n t at window) refl own)
his-or (ops.Put n t at size fill) own = inl (his-is 0 n (ops.Put n t at size fill) refl own)
his-or (ops.Patch n t at from bytes) own = inl (his-is 0 n (ops.Patch n t at from bytes) refl own)
his-or (ops.Pin n t at) own = inl (his-is 0 n (ops.Pin n t at) refl own)
his-or (ops.Unpin n at) own = inl (his-is 0 n (ops.Unpin n at) refl own)
his-or other own = inr refl

abbrev his : List Op → List Op
his os = filter (is_of_caller 0) os

abbrev to-him : List Op → List Reply → List Reply
to-him os rs = replies_where (is_of_caller 0) os rs

module _ (blocks : List Ptr) where
  pub sole-acts : (kept : List KeptRead) (os : List Op) (rs : List Reply) → length rs ≡ length os → AllByRecursion IsAloneOp os → acts_of_all blocks kept os rs ≡ acts_of_all blocks kept (his os) (to-him os rs)
  sole-acts kept [] [] same own = refl
  sole-acts kept [] (r ∷ rs) same own = absurd (omega arith)
  sole-acts kept (o ∷ os) [] same own = absurd (omega arith)
  sole-acts kept (o ∷ os) (r ∷ rs) same own =
      let rest = sole-acts (kept_after blocks o r kept) os rs (omega (arith, same)) own.1 in
      elim (his-or o own.0) [
        | inl mine ↦ rw mine (ap (λ l. acts_of blocks kept o r ++ l) rest)
        | inr none ↦ go o none rest
      ]
    where
      go : (o : Op) → caller_of o ≡ None → acts_of_all blocks (kept_after blocks o r kept) os rs ≡ acts_of_all blocks (kept_after blocks o r kept) (his os) (to-him os rs)
          → acts_of_all blocks kept (o ∷ os) (r ∷ rs) ≡ acts_of_all blocks kept (his (o ∷ os)) (to-him (o ∷ os) (r ∷ rs))
      go (ops.Read n t x window) none rest = cc
      go (ops.Hold n t x) none rest = cc
      go (ops.Drop n x) none rest = cc
      go (ops.Get n t at window) none rest = cc
      go (ops.Put n t at size fill) none rest = cc
      go (ops.Patch n t at from bytes) none rest = cc
      go (ops.Pin n t at) none rest = cc
      go (ops.Unpin n at) none rest = cc
      go other none rest = rest

  pub sole-kept : (kept : List KeptRead) (os : List Op) (rs : List Reply) → length rs ≡ length os → AllByRecursion IsAloneOp os → kept_after_all blocks kept os rs ≡ kept_after_all blocks kept (his os) (to-him os rs)
  sole-kept kept [] [] same own = refl
  sole-kept kept [] (r ∷ rs) same own = absurd (omega arith)
  sole-kept kept (o ∷ os) [] same own = absurd (omega arith)
  sole-kept kept (o ∷ os) (r ∷ rs) same own =
      let rest = sole-kept (kept_after blocks o r kept) os rs (omega (arith, same)) own.1 in
      elim (his-or o own.0) [
        | inl mine ↦ rw mine rest
        | inr none ↦ go o none rest
      ]
    where
      go : (o : Op) → caller_of o ≡ None → kept_after_all blocks (kept_after blocks o r kept) os rs ≡ kept_after_all blocks (kept_after blocks o r kept) (his os) (to-him os rs)
          → kept_after_all blocks kept (o ∷ os) (r ∷ rs) ≡ kept_after_all blocks kept (his (o ∷ os)) (to-him (o ∷ os) (r ∷ rs))
      go (ops.Read n t x window) none rest = cc
      go (ops.Hold n t x) none rest = cc
      go (ops.Drop n x) none rest = cc
      go (ops.Get n t at window) none rest = cc
      go (ops.Put n t at size fill) none rest = cc
      go (ops.Patch n t at from bytes) none rest = cc
      go (ops.Pin n t at) none rest = cc
      go (ops.Unpin n at) none rest = cc
      go other none rest = rest

  module _ (len : ℕ) (image : Option (List ℕ)) where
    -- his lines have their answers, and a capacity asks for no read of the pool
    pub sole-answers : (kept : List KeptRead) (os : List Op) (rs : List Reply) → AllByRecursion IsAloneOp os → AreAnswered len image blocks kept os rs
        → AreAnswered len image blocks kept (his os) (to-him os rs) × (calls_of_all rs ≡ calls_of_all (to-him os rs))
    sole-answers kept [] [] own answers = (tt, refl)
    sole-answers kept [] (r ∷ rs) own answers = absurd answers
    sole-answers kept (o ∷ os) [] own answers = absurd answers
    sole-answers kept (o ∷ os) (r ∷ rs) own answers =
        let rest = sole-answers (kept_after blocks o r kept) os rs own.1 answers.1 in
        elim (his-or o own.0) [
          | inl mine ↦ rw mine ((answers.0, rest.0), ap (λ l. calls_of (effect_of r) ++ l) rest.1)
          | inr none ↦ go o none answers rest
        ]
      where
        go : (o : Op) → caller_of o ≡ None → AreAnswered len image blocks kept (o ∷ os) (r ∷ rs)
            → AreAnswered len image blocks (kept_after blocks o r kept) (his os) (to-him os rs) × (calls_of_all rs ≡ calls_of_all (to-him os rs))
            → AreAnswered len image blocks kept (his (o ∷ os)) (to-him (o ∷ os) (r ∷ rs)) × (calls_of_all (r ∷ rs) ≡ calls_of_all (to-him (o ∷ os) (r ∷ rs)))
        go (ops.Cap d) none all rest = (rest.0, ap (λ (x : Reply). calls_of (effect_of x) ++ calls_of_all rs) all.0 ∙ rest.1)
        go (ops.Read n t x window) none all rest = cc
        go (ops.Hold n t x) none all rest = cc
        go (ops.Drop n x) none all rest = cc
        go other none all rest = absurd all.0

-- ---- what the feeder makes

-- a number makes none of another's events
pub own-none : (n m : ℕ) (es : List Event) → n ≢ m → AllByRecursion (IsMine n) es → own_events m es ≡ []
own-none n m [] differs all = refl
own-none n m (e ∷ es) differs all =
    let other : (number_of e == m) ≡ false = ne_eqb (number_of e) m (λ is. differs (sym all.0.0 ∙ is)) in
    rw other (own-none n m es differs all.1)

pub own-two : (n : ℕ) (es fs : List Event) → own_events n (es ++ fs) ≡ own_events n es ++ own_events n fs
own-two n es fs = filter-append (λ e. number_of e == n && not (is_pass e)) es fs

module _ (blocks : List Ptr) where
  fed-line : (s : PlainShard) (kept : List KeptRead) (op : Op) (reply : Reply) → IsAloneOp op → own_events only_feeder (events_of_op blocks s kept op reply) ≡ events_of_feeder only_feeder op
  fed-line s kept (ops.Read n t x window) reply own = own-none 0 only_feeder _ (λ e. absurd (omega arith)) (mine-of blocks s kept (ops.Read n t x window) reply 0 (ap (λ (k : ℕ). Some k) own))
  fed-line s kept (ops.Hold n t x) reply own = own-none 0 only_feeder _ (λ e. absurd (omega arith)) (mine-of blocks s kept (ops.Hold n t x) reply 0 (ap (λ (k : ℕ). Some k) own))
  fed-line s kept (ops.Drop n x) reply own = own-none 0 only_feeder _ (λ e. absurd (omega arith)) (mine-of blocks s kept (ops.Drop n x) reply 0 (ap (λ (k : ℕ). Some k) own))
  fed-line s kept other reply own = refl

  fed-lines : (s : PlainShard) (kept : List KeptRead) (os : List Op) (rs : List Reply) → AllByRecursion IsAloneOp os → own_events only_feeder (events_of_all blocks s kept os rs) ≡ events_of_feeds only_feeder os rs
  fed-lines s kept [] rs own = refl
  fed-lines s kept (o ∷ os) [] own = refl
  fed-lines s kept (o ∷ os) (r ∷ rs) own =
      own-two only_feeder (events_of_op blocks s kept o r) (events_of_all blocks (replay s (events_of_op blocks s kept o r)) (kept_after blocks o r kept) os rs)
      ∙ (λ i. fed-line s kept o r own.0 i ++ fed-lines (replay s (events_of_op blocks s kept o r)) (kept_after blocks o r kept) os rs own.1 i)

  abbrev fed-in : (shards shard : ℕ) → List Op → List Reply → List Event
  fed-in shards shard os rs = events_of_feeds only_feeder (filter (is_in_shard shards blocks shard) os) (replies_where (is_in_shard shards blocks shard) os rs)

  -- in each of so many shards a capacity is given
  fed-there : (shards shard : ℕ) (os : List Op) (rs : List Reply) → shard < shards
      → events_of_feeds only_feeder (filter (is_in_shard shards blocks shard) os) (replies_where (is_in_shard shards blocks shard) os rs) ≡ events_of_feeds only_feeder os rs
  fed-there shards shard [] rs below = refl
  fed-there shards shard (o ∷ os) [] below = nothing (filter (is_in_shard shards blocks shard) (o ∷ os))
    where
      nothing : (l : List Op) → events_of_feeds only_feeder l [] ≡ []
      nothing [] = refl
      nothing (x ∷ l) = refl
  fed-there shards shard (o ∷ os) (r ∷ rs) below = go o (fed-there shards shard os rs below)
    where
      none-more : (o : Op) → events_of_feeder only_feeder o ≡ [] → fed-in shards shard os rs ≡ events_of_feeds only_feeder os rs
          → events_of_feeds only_feeder (filter (is_in_shard shards blocks shard) (o ∷ os)) (replies_where (is_in_shard shards blocks shard) (o ∷ os) (r ∷ rs)) ≡ events_of_feeder only_feeder o ++ events_of_feeds only_feeder os rs
      none-more o none rest = elim (cases_true (is_in_shard shards blocks shard o)) [
        | inl here ↦ rw here (ap (λ (l : List Event). events_of_feeder only_feeder o ++ l) rest)
        | inr out ↦ rw out (rest ∙ ap (λ (l : List Event). l ++ events_of_feeds only_feeder os rs) (sym none))
      ]

      go : (o : Op) → fed-in shards shard os rs ≡ events_of_feeds only_feeder os rs
          → events_of_feeds only_feeder (filter (is_in_shard shards blocks shard) (o ∷ os)) (replies_where (is_in_shard shards blocks shard) (o ∷ os) (r ∷ rs)) ≡ events_of_feeder only_feeder o ++ events_of_feeds only_feeder os rs
      go (ops.Cap c) rest =
          let here : nat_lt shard shards ≡ true = grind (arith, nat_tests, below) in
          rw here (ap (λ (l : List Event). Resize only_feeder c ∷ l) rest)
      go other rest = none-more other refl rest

  pub sole-fed : (s : PlainShard) (shards shard : ℕ) (os : List Op) (rs : List Reply) → shard < shards → AllByRecursion IsAloneOp (filter (is_in_shard shards blocks shard) os)
      → own_events only_feeder (one_caller_history blocks 0 s (filter (is_in_shard shards blocks shard) os) (replies_where (is_in_shard shards blocks shard) os rs)) ≡ events_of_feeds only_feeder os rs
  sole-fed s shards shard os rs below own =
      let there = filter (is_in_shard shards blocks shard) os in
      let given = replies_where (is_in_shard shards blocks shard) os rs in
      let left = kept_after_all blocks [] there given in
      own-two only_feeder (events_of_all blocks s [] there given) (events_of_drops 0 left)
      ∙ ((λ i. fed-lines s [] there given own i ++ own-none 0 only_feeder (events_of_drops 0 left) (λ e. absurd (omega arith)) (mine-drops 0 left) i)
      ∙ (append-nil (events_of_feeds only_feeder there given) ∙ fed-there shards shard os rs below))
