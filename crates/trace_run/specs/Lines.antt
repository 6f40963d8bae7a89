-- Which lines of a trace are one caller's, and which are done in one shard.
use Rattle.std.specs.Prelude.{ℕ, ◌==◌, nat_lt, Bool, false, if◌then◌else◌, List, [], ◌∷◌, Option, Some, None, slice_get, true}
use Rattle.std.specs.List.{list_any}
use Rattle.std.specs.Option.{option_map_or}
use Rattle.blk_ptr.specs.declared.ptr.Ptr.{Ptr}
use Rattle.blk_ptr.specs.Hash.{shard_of}
use Rattle.trace_text.specs.declared.op.Op.{Op}
use Rattle.trace_text.specs.declared.op.Op.TheVariants as ops
use Rattle.trace_text.specs.declared.reply.Reply.{Reply}
use Rattle.trace_text.specs.Grammar.{block_of}

-- the caller of an operation, where it is a caller's
abbrev pub caller_of : Op → Option ℕ
caller_of (ops.Read n t x window) = Some n
caller_of (ops.Hold n t x) = Some n
caller_of (ops.Drop n x) = Some n
caller_of (ops.Get n t at window) = Some n
caller_of (ops.Put n t at size fill) = Some n
caller_of (ops.Patch n t at from bytes) = Some n
caller_of (ops.Pin n t at) = Some n
caller_of (ops.Unpin n at) = Some n
caller_of ops.Feed = None
caller_of (ops.Txg t) = None
caller_of (ops.Cap c) = None

-- the operation is on an object, or a sync, or a feed
abbrev pub is_further : Op → Bool
is_further (ops.Read n t x window) = false
is_further (ops.Hold n t x) = false
is_further (ops.Drop n x) = false
is_further (ops.Cap c) = false
is_further (ops.Txg t) = true
is_further (ops.Get n t at window) = true
is_further (ops.Put n t at size fill) = true
is_further (ops.Patch n t at from bytes) = true
is_further (ops.Pin n t at) = true
is_further (ops.Unpin n at) = true
is_further ops.Feed = true

-- one of these is
abbrev pub has_further : List Op → Bool
has_further = list_any is_further

-- the operation is a sync
abbrev pub is_sync : Op → Bool
is_sync (ops.Read n t x window) = false
is_sync (ops.Hold n t x) = false
is_sync (ops.Drop n x) = false
is_sync (ops.Get n t at window) = false
is_sync (ops.Put n t at size fill) = false
is_sync (ops.Patch n t at from bytes) = false
is_sync (ops.Pin n t at) = false
is_sync (ops.Unpin n at) = false
is_sync ops.Feed = false
is_sync (ops.Txg t) = true
is_sync (ops.Cap c) = false

-- one of these is
abbrev pub has_sync : List Op → Bool
has_sync = list_any is_sync

-- the operation is this caller's
abbrev pub is_of_caller : ℕ → Op → Bool
is_of_caller n op = option_map_or (λ (m : ℕ). m == n) (caller_of op) false

-- the shard of a block, of so many
abbrev pub shard_of_block : (shards : ℕ) → List Ptr → (block : ℕ) → ℕ
shard_of_block shards blocks block = option_map_or (λ (ptr : Ptr). shard_of shards ptr.key) (slice_get blocks block) 0

-- the shard of the block that an operation names, of so many shards; 0 where it names none
abbrev pub shard_of_line : (shards : ℕ) → List Ptr → Op → ℕ
shard_of_line shards blocks op = option_map_or (shard_of_block shards blocks) (block_of op) 0

-- the operation is done in this shard: it is on a block of it, or names none and is done in each of so many
abbrev pub is_in_shard : (shards : ℕ) → List Ptr → (shard : ℕ) → Op → Bool
is_in_shard shards blocks shard op = option_map_or (λ (x : ℕ). shard_of_block shards blocks x == shard) (block_of op) (nat_lt shard shards)

-- the replies to the operations that pass a test
abbrev pub replies_where : (Op → Bool) → List Op → List Reply → List Reply
replies_where test [] replies = []
replies_where test (op ∷ ops) [] = []
replies_where test (op ∷ ops) (reply ∷ replies) =
    if test op then (reply ∷ replies_where test ops replies) else replies_where test ops replies
