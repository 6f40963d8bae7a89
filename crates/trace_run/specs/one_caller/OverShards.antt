-- One caller's lines over several shards, one after another, each in the shard of its block or in all.
use Rattle.std.specs.Prelude.{◌≡◌, ℕ, ◌==◌, List, [], ◌∷◌, ◌++◌, filter, slice_get, Some, IfSome}
use Rattle.std.specs.List.{AllByRecursion}
use Rattle.blk_ptr.specs.declared.ptr.Ptr.{Ptr}
use Rattle.arc_core.specs.declared.event.Event.{Event}
use Rattle.arc_core.specs.PlainShard.{PlainShard}
use Rattle.arc_core.specs.Replay.{replay}
use Rattle.trace_text.specs.declared.op.Op.{Op}
use Rattle.trace_text.specs.declared.reply.Reply.{Reply}
use Rattle.trace_run.specs.KeptReads.{KeptRead}
use Rattle.trace_run.specs.Lines.{shard_of_block, shard_of_line}
use Rattle.trace_run.specs.one_caller.OneCaller.{events_of_op_in, kept_after}

-- all shards, once an operation with this reply is done where these reads are kept
abbrev pub shards_after_op : (shards : ℕ) → List Ptr → (ℕ → PlainShard) → List KeptRead → Op → Reply → ℕ → PlainShard
shards_after_op shards blocks s kept op reply shard = replay (s shard) (events_of_op_in shards blocks shard (s shard) kept op reply)

-- a fact of each operation and its reply, with the shard of its block and the kept reads that they found, of so many shards
abbrev pub AllLinesOver : (PlainShard → List KeptRead → Op → Reply → Type 0) → (shards : ℕ) → List Ptr → (ℕ → PlainShard) → List KeptRead → List Op → List Reply → Type 0
AllLinesOver fact shards blocks s kept [] replies = Unit {0}
AllLinesOver fact shards blocks s kept (op ∷ ops) [] = Unit {0}
AllLinesOver fact shards blocks s kept (op ∷ ops) (reply ∷ replies) =
    fact (s (shard_of_line shards blocks op)) kept op reply
    × AllLinesOver fact shards blocks (shards_after_op shards blocks s kept op reply) (kept_after blocks op reply kept) ops replies

-- the events that they make in the shard of this number
abbrev pub events_over : (shards : ℕ) → List Ptr → (ℕ → PlainShard) → List KeptRead → (shard : ℕ) → List Op → List Reply → List Event
events_over shards blocks s kept shard [] replies = []
events_over shards blocks s kept shard (op ∷ ops) [] = []
events_over shards blocks s kept shard (op ∷ ops) (reply ∷ replies) =
    events_of_op_in shards blocks shard (s shard) kept op reply
    ++ events_over shards blocks (shards_after_op shards blocks s kept op reply) (kept_after blocks op reply kept) shard ops replies

-- the kept reads of blocks of this shard
abbrev pub kept_in_shard : (shards : ℕ) → List Ptr → (shard : ℕ) → List KeptRead → List KeptRead
kept_in_shard shards blocks shard = filter (λ (read : KeptRead). shard_of_block shards blocks read.block == shard)

-- a kept read holds the entry of its own block, where it holds one
abbrev pub IsNamed : List Ptr → KeptRead → Type 0
IsNamed blocks read = IfSome read.held (λ k. (ptr : Ptr) × (slice_get blocks read.block ≡ Some ptr) × (k ≡ ptr.key))

abbrev pub AreNamed : List Ptr → List KeptRead → Type 0
AreNamed blocks = AllByRecursion (IsNamed blocks)
