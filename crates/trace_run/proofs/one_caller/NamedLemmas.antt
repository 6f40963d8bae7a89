-- The kept reads of a shard are those that hold its entries, and one caller's history in each shard is what its lines and drops make there.
use Rattle.std.proofs.Common.{◌≡◌, ℕ, ◌==◌, Bool, false, List, [], ◌∷◌, ◌++◌, Option, Some, None, IfSome, if◌then◌else◌, inl, inr, refl, sym, ap, ◌∙◌}
use Rattle.std.specs.Prelude.{filter, slice_get}
use Rattle.std.specs.Option.{option_map_or}
use Rattle.arc_lists.proofs.Tables.{cases_true}
use Rattle.blk_ptr.specs.declared.key.Key.{Key}
use Rattle.blk_ptr.specs.declared.ptr.Ptr.{Ptr}
use Rattle.blk_ptr.specs.Hash.{shard_of}
use Rattle.arc_core.specs.declared.config.Config.{Config}
use Rattle.arc_core.specs.declared.event.Event.{Event}
use Rattle.arc_core.specs.PlainShard.{PlainShard}
use Rattle.trace_text.specs.declared.op.Op.{Op}
use Rattle.trace_text.specs.declared.reply.Reply.{Reply}
use Rattle.trace_run.specs.KeptReads.{KeptRead}
use Rattle.trace_run.specs.one_caller.Access.{events_of_drop}
use Rattle.trace_run.specs.KeptBlocks.{held_in_shard}
use Rattle.trace_run.specs.Lines.{is_in_shard, replies_where, shard_of_block}
use Rattle.trace_run.specs.one_caller.OneCaller.{events_of_all, events_of_drops, kept_after_all, one_caller_history}
use Rattle.trace_run.specs.one_caller.OverShards.{AreNamed, IsNamed, events_over, kept_in_shard}
use Rattle.trace_run.proofs.one_caller.OverShardLemmas.{events-over, kept-over}

module _ (g : Config) (blocks : List Ptr) (n shard : ℕ) where
  abbrev holds : Option Key → Bool
  holds held = option_map_or (λ k. shard_of g.shards k == shard) held false

  abbrev named : ℕ → Bool
  named block = shard_of_block g.shards blocks block == shard

  -- what one read adds to the drops of its shard, by the entry that it holds and by its block
  by-block : (read : KeptRead) → IsNamed blocks read → (rest : List Event)
      → (if holds read.held then (events_of_drop n read.held ++ rest) else rest) ≡ (if named read.block then (events_of_drop n read.held ++ rest) else rest)
  by-block read is rest = go read.held is
    where
      go : (held : Option Key) → IfSome held (λ k. (ptr : Ptr) × (slice_get blocks read.block ≡ Some ptr) × (k ≡ ptr.key))
          → (if holds held then (events_of_drop n held ++ rest) else rest) ≡ (if named read.block then (events_of_drop n held ++ rest) else rest)
      go None is = elim (cases_true (named read.block)) [
        | inl here ↦ rw here refl
        | inr out ↦ rw out refl
      ]
      go (Some k) is =
          let same : shard_of_block g.shards blocks read.block ≡ shard_of g.shards k =
          ap (λ (o : Option Ptr). option_map_or (λ (ptr : Ptr). shard_of g.shards ptr.key) o 0) is.1 ∙ ap (shard_of g.shards) (sym is.2) in
          ap (λ (s : ℕ). if s == shard then (events_of_drop n (Some k) ++ rest) else rest) (sym same)

  holds-cons : (read : KeptRead) (reads : List KeptRead) → events_of_drops n (held_in_shard g shard (read ∷ reads))
      ≡ (if holds read.held then (events_of_drop n read.held ++ events_of_drops n (held_in_shard g shard reads)) else events_of_drops n (held_in_shard g shard reads))
  holds-cons read reads = elim (cases_true (holds read.held)) [
    | inl here ↦ rw here refl
    | inr out ↦ rw out refl
  ]

  named-cons : (read : KeptRead) (reads : List KeptRead) → events_of_drops n (kept_in_shard g.shards blocks shard (read ∷ reads))
      ≡ (if named read.block then (events_of_drop n read.held ++ events_of_drops n (kept_in_shard g.shards blocks shard reads)) else events_of_drops n (kept_in_shard g.shards blocks shard reads))
  named-cons read reads = elim (cases_true (named read.block)) [
    | inl here ↦ rw here refl
    | inr out ↦ rw out refl
  ]

  pub named-drops : (reads : List KeptRead) → AreNamed blocks reads → events_of_drops n (held_in_shard g shard reads) ≡ events_of_drops n (kept_in_shard g.shards blocks shard reads)
  named-drops [] all = refl
  named-drops (read ∷ reads) all =
      holds-cons read reads
      ∙ (by-block read all.0 (events_of_drops n (held_in_shard g shard reads))
      ∙ (ap (λ (rest : List Event). if named read.block then (events_of_drop n read.held ++ rest) else rest) (named-drops reads all.1)
      ∙ sym (named-cons read reads)))

-- the lines and the drops at the end, in one shard
pub history-over : (shards : ℕ) (blocks : List Ptr) (n shard : ℕ) (s : ℕ → PlainShard) (os : List Op) (replies : List Reply)
    → events_over shards blocks s [] shard os replies ++ events_of_drops n (kept_in_shard shards blocks shard (kept_after_all blocks [] os replies))
    ≡ one_caller_history blocks n (s shard) (filter (is_in_shard shards blocks shard) os) (replies_where (is_in_shard shards blocks shard) os replies)
history-over shards blocks n shard s os replies =
    ap (λ (l : List Event). l ++ events_of_drops n (kept_in_shard shards blocks shard (kept_after_all blocks [] os replies))) (events-over shards blocks shard s [] os replies)
    ∙ ap (λ (l : List KeptRead). events_of_all blocks (s shard) [] (filter (is_in_shard shards blocks shard) os) (replies_where (is_in_shard shards blocks shard) os replies) ++ events_of_drops n l)
    (kept-over shards blocks shard [] os replies)
