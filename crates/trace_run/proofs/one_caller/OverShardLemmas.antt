-- One caller's lines over several shards: each shard's history is that of the lines on its blocks.
use Rattle.std.proofs.Common.{◌≡◌, ℕ, ◌==◌, Bool, true, false, if◌then◌else◌, List, [], ◌∷◌, ◌++◌, Option, Some, None, inl, inr, refl, ap, ◌∙◌, append-nil}
use Rattle.std.specs.Prelude.{filter, find, slice_get, option_and_then}
use Rattle.std.specs.Option.{option_map_or}
use Rattle.std.proofs.lemmas.Bool.{eqb-true}
use Rattle.std.proofs.lemmas.List.Elements.{filter-append}
use Rattle.arc_lists.proofs.Tables.{cases_true}
use Rattle.blk_ptr.specs.declared.ptr.Ptr.{Ptr}
use Rattle.arc_core.specs.declared.event.Event.{Event}
use Rattle.arc_core.specs.PlainShard.{PlainShard}
use Rattle.arc_core.specs.Replay.{replay}
use Rattle.trace_text.specs.declared.op.Op.{Op}
use Rattle.trace_text.specs.declared.op.Op.TheVariants as ops
use Rattle.trace_text.specs.declared.reply.Reply.{Reply}
use Rattle.trace_run.specs.KeptReads.{KeptRead}
use Rattle.trace_run.specs.one_caller.Access.{events_of_drop}
use Rattle.trace_run.specs.Effects.{Effect, Answered, GivenBack, PoolRefused, NoEffect, effect_of}
use Rattle.trace_run.specs.Lines.{is_in_shard, replies_where, shard_of_block}
use Rattle.trace_run.specs.one_caller.OneCaller.{events_of_op, events_of_all, events_of_dropping, events_of_op_in, is_of_block, kept_after, kept_after_all, kept_after_drop, kept_after_hold, without_oldest}
use Rattle.trace_run.specs.one_caller.OverShards.{events_over, kept_in_shard, shards_after_op}

-- ---- the kept reads of one shard

module _ (shards : ℕ) (blocks : List Ptr) (i : ℕ) where
  abbrev here : KeptRead → Bool
  here read = shard_of_block shards blocks read.block == i

  block-here : (x : ℕ) (read : KeptRead) → is_of_block x read ≡ true → here read ≡ (shard_of_block shards blocks x == i)
  block-here x read is = ap (λ (b : ℕ). shard_of_block shards blocks b == i) (eqb-true read.block x is)

  find-here : (x : ℕ) (kept : List KeptRead) → (shard_of_block shards blocks x == i) ≡ true → find (is_of_block x) kept ≡ find (is_of_block x) (kept_in_shard shards blocks i kept)
  find-here x [] is = refl
  find-here x (read ∷ reads) is = elim (cases_true (is_of_block x read)) [
    | inl same ↦ rw (block-here x read same ∙ is, same) refl
    | inr other ↦ elim (cases_true (here read)) [
      | inl in_it ↦ rw (in_it, other) (find-here x reads is)
      | inr out ↦ rw (out, other) (find-here x reads is)
    ]
  ]

  without-here : (x : ℕ) (kept : List KeptRead) → (shard_of_block shards blocks x == i) ≡ true → kept_in_shard shards blocks i (without_oldest x kept) ≡ without_oldest x (kept_in_shard shards blocks i kept)
  without-here x [] is = refl
  without-here x (read ∷ reads) is = elim (cases_true (is_of_block x read)) [
    | inl same ↦ rw (block-here x read same ∙ is, same) refl
    | inr other ↦ elim (cases_true (here read)) [
      | inl in_it ↦ rw (other, in_it, other) (ap (λ (l : List KeptRead). read ∷ l) (without-here x reads is))
      | inr out ↦ rw (other, out) (without-here x reads is)
    ]
  ]

  without-else : (x : ℕ) (kept : List KeptRead) → (shard_of_block shards blocks x == i) ≡ false → kept_in_shard shards blocks i (without_oldest x kept) ≡ kept_in_shard shards blocks i kept
  without-else x [] is = refl
  without-else x (read ∷ reads) is = elim (cases_true (is_of_block x read)) [
    | inl same ↦ rw (block-here x read same ∙ is, same) refl
    | inr other ↦ elim (cases_true (here read)) [
      | inl in_it ↦ rw (other, in_it) (ap (λ (l : List KeptRead). read ∷ l) (without-else x reads is))
      | inr out ↦ rw (other, out) (without-else x reads is)
    ]
  ]

  -- ---- one line

  hold-here : (x : ℕ) (ptr : Ptr) (e : Effect) (kept : List KeptRead) → (shard_of_block shards blocks x == i) ≡ true
      → kept_in_shard shards blocks i (kept_after_hold x ptr e kept) ≡ kept_after_hold x ptr e (kept_in_shard shards blocks i kept)
  hold-here x ptr (Answered from) kept is = filter-append here kept _ ∙ rw is refl
  hold-here x ptr GivenBack kept is = refl
  hold-here x ptr (PoolRefused call) kept is = refl
  hold-here x ptr NoEffect kept is = refl

  hold-else : (x : ℕ) (ptr : Ptr) (e : Effect) (kept : List KeptRead) → (shard_of_block shards blocks x == i) ≡ false
      → kept_in_shard shards blocks i (kept_after_hold x ptr e kept) ≡ kept_in_shard shards blocks i kept
  hold-else x ptr (Answered from) kept is = filter-append here kept _ ∙ rw is (append-nil (kept_in_shard shards blocks i kept))
  hold-else x ptr GivenBack kept is = refl
  hold-else x ptr (PoolRefused call) kept is = refl
  hold-else x ptr NoEffect kept is = refl

  drop-here : (x : ℕ) (e : Effect) (kept : List KeptRead) → (shard_of_block shards blocks x == i) ≡ true
      → kept_in_shard shards blocks i (kept_after_drop x e kept) ≡ kept_after_drop x e (kept_in_shard shards blocks i kept)
  drop-here x (Answered from) kept is = refl
  drop-here x GivenBack kept is = without-here x kept is
  drop-here x (PoolRefused call) kept is = refl
  drop-here x NoEffect kept is = refl

  drop-else : (x : ℕ) (e : Effect) (kept : List KeptRead) → (shard_of_block shards blocks x == i) ≡ false
      → kept_in_shard shards blocks i (kept_after_drop x e kept) ≡ kept_in_shard shards blocks i kept
  drop-else x (Answered from) kept is = refl
  drop-else x GivenBack kept is = without-else x kept is
  drop-else x (PoolRefused call) kept is = refl
  drop-else x NoEffect kept is = refl

  pub kept-here : (op : Op) (reply : Reply) (kept : List KeptRead) → is_in_shard shards blocks i op ≡ true
      → kept_in_shard shards blocks i (kept_after blocks op reply kept) ≡ kept_after blocks op reply (kept_in_shard shards blocks i kept)
  kept-here (ops.Hold n t x) reply kept is = go (slice_get blocks x)
    where
      go : (o : Option Ptr) → kept_in_shard shards blocks i (option_map_or (λ ptr. kept_after_hold x ptr (effect_of reply) kept) o kept)
          ≡ option_map_or (λ ptr. kept_after_hold x ptr (effect_of reply) (kept_in_shard shards blocks i kept)) o (kept_in_shard shards blocks i kept)
      go None = refl
      go (Some ptr) = hold-here x ptr (effect_of reply) kept is
  kept-here (ops.Drop n x) reply kept is = drop-here x (effect_of reply) kept is
  kept-here other reply kept is = refl

  pub kept-else : (op : Op) (reply : Reply) (kept : List KeptRead) → is_in_shard shards blocks i op ≡ false
      → kept_in_shard shards blocks i (kept_after blocks op reply kept) ≡ kept_in_shard shards blocks i kept
  kept-else (ops.Hold n t x) reply kept is = go (slice_get blocks x)
    where
      go : (o : Option Ptr) → kept_in_shard shards blocks i (option_map_or (λ ptr. kept_after_hold x ptr (effect_of reply) kept) o kept) ≡ kept_in_shard shards blocks i kept
      go None = refl
      go (Some ptr) = hold-else x ptr (effect_of reply) kept is
  kept-else (ops.Drop n x) reply kept is = drop-else x (effect_of reply) kept is
  kept-else other reply kept is = refl

  pub events-here : (s : PlainShard) (op : Op) (reply : Reply) (kept : List KeptRead) → is_in_shard shards blocks i op ≡ true
      → events_of_op blocks s kept op reply ≡ events_of_op blocks s (kept_in_shard shards blocks i kept) op reply
  events-here s (ops.Drop n x) reply kept is = go (effect_of reply)
    where
      go : (e : Effect) → events_of_dropping n x kept e ≡ events_of_dropping n x (kept_in_shard shards blocks i kept) e
      go (Answered from) = refl
      go GivenBack = ap (λ (o : Option KeptRead). events_of_drop n (option_and_then (λ (read : KeptRead). read.held) o)) (find-here x kept is)
      go (PoolRefused call) = refl
      go NoEffect = refl
  events-here s other reply kept is = refl

  -- what a line makes in the shard, where it is done there or not
  pub there-here : (s : PlainShard) (op : Op) (reply : Reply) (kept : List KeptRead) → is_in_shard shards blocks i op ≡ true
      → events_of_op_in shards blocks i s kept op reply ≡ events_of_op blocks s (kept_in_shard shards blocks i kept) op reply
  there-here s op reply kept is = ap (λ (b : Bool). if b then events_of_op blocks s kept op reply else []) is ∙ events-here s op reply kept is

  pub there-else : (s : PlainShard) (op : Op) (reply : Reply) (kept : List KeptRead) → is_in_shard shards blocks i op ≡ false → events_of_op_in shards blocks i s kept op reply ≡ []
  there-else s op reply kept is = ap (λ (b : Bool). if b then events_of_op blocks s kept op reply else []) is

-- ---- all lines, in one shard

module _ (shards : ℕ) (blocks : List Ptr) (i : ℕ) where
  -- what the lines make in the shard is what the lines on its blocks make there
  pub events-over : (s : ℕ → PlainShard) (kept : List KeptRead) (os : List Op) (replies : List Reply)
      → events_over shards blocks s kept i os replies
      ≡ events_of_all blocks (s i) (kept_in_shard shards blocks i kept) (filter (is_in_shard shards blocks i) os) (replies_where (is_in_shard shards blocks i) os replies)
  events-over s kept [] replies = refl
  events-over s kept (op ∷ os) [] = nothing (filter (is_in_shard shards blocks i) (op ∷ os))
    where
      nothing : (l : List Op) → [] ≡ events_of_all blocks (s i) (kept_in_shard shards blocks i kept) l []
      nothing [] = refl
      nothing (o ∷ l) = refl
  events-over s kept (op ∷ os) (reply ∷ replies) =
      let rest = events-over (shards_after_op shards blocks s kept op reply) (kept_after blocks op reply kept) os replies in
      let all : PlainShard × List KeptRead → List Event = λ x. events_of_all blocks x.0 x.1 (filter (is_in_shard shards blocks i) os) (replies_where (is_in_shard shards blocks i) os replies) in
      elim (cases_true (is_in_shard shards blocks i op)) [
        | inl in_it ↦
            let events = there-here shards blocks i (s i) op reply kept in_it in
            (λ k. events k ++ rest k)
            ∙ (ap (λ (x : PlainShard × List KeptRead). events_of_op blocks (s i) (kept_in_shard shards blocks i kept) op reply ++ all x) (λ k. (replay (s i) (events k), kept-here shards blocks i op reply kept in_it k))
            ∙ rw in_it refl)
        | inr out ↦
            let none = there-else shards blocks i (s i) op reply kept out in
            (λ k. none k ++ rest k)
            ∙ (ap all (λ k. (replay (s i) (none k), kept-else shards blocks i op reply kept out k))
            ∙ rw out refl)
      ]

  -- so are the reads that are kept
  pub kept-over : (kept : List KeptRead) (os : List Op) (replies : List Reply)
      → kept_in_shard shards blocks i (kept_after_all blocks kept os replies)
      ≡ kept_after_all blocks (kept_in_shard shards blocks i kept) (filter (is_in_shard shards blocks i) os) (replies_where (is_in_shard shards blocks i) os replies)
  kept-over kept [] replies = refl
  kept-over kept (op ∷ os) [] = nothing (filter (is_in_shard shards blocks i) (op ∷ os))
    where
      nothing : (l : List Op) → kept_in_shard shards blocks i kept ≡ kept_after_all blocks (kept_in_shard shards blocks i kept) l []
      nothing [] = refl
      nothing (o ∷ l) = refl
  kept-over kept (op ∷ os) (reply ∷ replies) =
      let rest = kept-over (kept_after blocks op reply kept) os replies in
      elim (cases_true (is_in_shard shards blocks i op)) [
        | inl in_it ↦ rw in_it (rest ∙ ap (λ (l : List KeptRead). kept_after_all blocks l (filter (is_in_shard shards blocks i) os) (replies_where (is_in_shard shards blocks i) os replies)) (kept-here shards blocks i op reply kept in_it))
        | inr out ↦ rw out (rest ∙ ap (λ (l : List KeptRead). kept_after_all blocks l (filter (is_in_shard shards blocks i) os) (replies_where (is_in_shard shards blocks i) os replies)) (kept-else shards blocks i op reply kept out))
      ]
