-- The history of one caller in one shard: its operations line after line, each with the events that its access and its reply ask for, and
-- at the end the drops of the reads that it still keeps (arc_read and arc_buf_destroy of arc.c, for a single thread).
use Rattle.std.specs.Prelude.{ℕ, ◌==◌, Bool, if◌then◌else◌, List, [], ◌∷◌, ◌++◌, filter, find, map, slice_get, Option, Some, None, IfSome, option_and_then}
use Rattle.std.specs.List.{range_with_len}
use Rattle.std.specs.Option.{option_map_or}
use Rattle.blk_ptr.specs.declared.key.Key.{Key}
use Rattle.blk_ptr.specs.declared.ptr.Ptr.{Ptr}
use Rattle.arc_core.specs.declared.event.Event.{Event}
use Rattle.arc_core.specs.declared.event.Event.TheVariants as event
use Rattle.arc_core.specs.declared.served.Served.{Served}
use Rattle.arc_core.specs.declared.served.Served.TheVariants as served
use Rattle.arc_core.specs.PlainShard.{PlainShard}
use Rattle.arc_core.specs.Replay.{replay}
use Rattle.trace_text.specs.declared.op.Op.{Op}
use Rattle.trace_text.specs.declared.op.Op.TheVariants as ops
use Rattle.trace_text.specs.declared.reply.Reply.{Reply}
use Rattle.trace_run.specs.one_caller.Access.{Access, AsksPool, MayComeFrom, access_of, events_of_answered, events_of_drop, events_of_refused, held_by_access}
use Rattle.trace_run.specs.Effects.{Effect, Answered, GivenBack, PoolRefused, NoEffect, effect_of}
use Rattle.trace_run.specs.Lines.{is_in_shard, replies_where}
use Rattle.trace_run.specs.KeptReads.{KeptRead, kept_read}

-- ---- the reads that are kept

-- the key of the entry that a read holds which was served from here
abbrev pub key_held_by : Ptr → Served → Option Key
key_held_by ptr served.Past = None
key_held_by ptr served.Hit = Some ptr.key
key_held_by ptr served.Pool = Some ptr.key
key_held_by ptr served.L2 = Some ptr.key

-- it is a read of this block
abbrev pub is_of_block : (block : ℕ) → KeptRead → Bool
is_of_block block read = read.block == block

-- the oldest kept read of the block, and the key of the entry that it holds
abbrev pub oldest_kept : (block : ℕ) → List KeptRead → Option KeptRead
oldest_kept block = find (is_of_block block)

abbrev pub oldest_key : (block : ℕ) → List KeptRead → Option Key
oldest_key block kept = option_and_then (λ (read : KeptRead). read.held) (oldest_kept block kept)

-- the kept reads without the oldest one of the block
abbrev pub without_oldest : (block : ℕ) → List KeptRead → List KeptRead
without_oldest block [] = []
without_oldest block (read ∷ reads) = if is_of_block block read then reads else (read ∷ without_oldest block reads)

-- the kept reads after a read that is to be kept and did this, and after a drop that did this
abbrev pub kept_after_hold : (block : ℕ) → Ptr → Effect → List KeptRead → List KeptRead
kept_after_hold block ptr (Answered from) kept = kept ++ kept_read block (key_held_by ptr from) ∷ []
kept_after_hold block ptr GivenBack kept = kept
kept_after_hold block ptr (PoolRefused call) kept = kept
kept_after_hold block ptr NoEffect kept = kept

abbrev pub kept_after_drop : (block : ℕ) → Effect → List KeptRead → List KeptRead
kept_after_drop block (Answered from) kept = kept
kept_after_drop block GivenBack kept = without_oldest block kept
kept_after_drop block (PoolRefused call) kept = kept
kept_after_drop block NoEffect kept = kept

-- the kept reads after an operation and its reply
abbrev pub kept_after : List Ptr → Op → Reply → List KeptRead → List KeptRead
kept_after blocks (ops.Hold n t x) reply kept = option_map_or (λ ptr. kept_after_hold x ptr (effect_of reply) kept) (slice_get blocks x) kept
kept_after blocks (ops.Drop n x) reply kept = kept_after_drop x (effect_of reply) kept
kept_after blocks (ops.Read n t x window) reply kept = kept
kept_after blocks (ops.Get n t at window) reply kept = kept
kept_after blocks (ops.Put n t at size fill) reply kept = kept
kept_after blocks (ops.Patch n t at from bytes) reply kept = kept
kept_after blocks (ops.Pin n t at) reply kept = kept
kept_after blocks (ops.Unpin n at) reply kept = kept
kept_after blocks ops.Feed reply kept = kept
kept_after blocks (ops.Txg t) reply kept = kept
kept_after blocks (ops.Cap c) reply kept = kept

-- ---- the events of an operation

-- what a read of a pointer makes in this shard: an answered one gives its hold back at once
abbrev pub events_of_read : (n t : ℕ) → PlainShard → Ptr → Effect → List Event
events_of_read n t s ptr (Answered from) = events_of_answered n t ptr from (access_of s ptr) ++ events_of_drop n (held_by_access ptr (access_of s ptr))
events_of_read n t s ptr GivenBack = []
events_of_read n t s ptr (PoolRefused call) = events_of_refused n t ptr (access_of s ptr)
events_of_read n t s ptr NoEffect = []

-- and a read that is kept
abbrev pub events_of_hold : (n t : ℕ) → PlainShard → Ptr → Effect → List Event
events_of_hold n t s ptr (Answered from) = events_of_answered n t ptr from (access_of s ptr)
events_of_hold n t s ptr GivenBack = []
events_of_hold n t s ptr (PoolRefused call) = events_of_refused n t ptr (access_of s ptr)
events_of_hold n t s ptr NoEffect = []

-- and a drop
abbrev pub events_of_dropping : (n block : ℕ) → List KeptRead → Effect → List Event
events_of_dropping n block kept (Answered from) = []
events_of_dropping n block kept GivenBack = events_of_drop n (oldest_key block kept)
events_of_dropping n block kept (PoolRefused call) = []
events_of_dropping n block kept NoEffect = []

-- the number of the feeder, where there is one caller
abbrev pub only_feeder : ℕ
only_feeder = 1

-- The events of an operation with this reply, where these reads are kept. Those of a line on an object, of a feed and of a sync stand in `Sequence`.
abbrev pub events_of_op : List Ptr → PlainShard → List KeptRead → Op → Reply → List Event
events_of_op blocks s kept (ops.Read n t x window) reply = option_map_or (λ ptr. events_of_read n t s ptr (effect_of reply)) (slice_get blocks x) []
events_of_op blocks s kept (ops.Hold n t x) reply = option_map_or (λ ptr. events_of_hold n t s ptr (effect_of reply)) (slice_get blocks x) []
events_of_op blocks s kept (ops.Drop n x) reply = events_of_dropping n x kept (effect_of reply)
events_of_op blocks s kept (ops.Cap c) reply = event.Resize only_feeder c ∷ []
events_of_op blocks s kept (ops.Get n t at window) reply = []
events_of_op blocks s kept (ops.Put n t at size fill) reply = []
events_of_op blocks s kept (ops.Patch n t at from bytes) reply = []
events_of_op blocks s kept (ops.Pin n t at) reply = []
events_of_op blocks s kept (ops.Unpin n at) reply = []
events_of_op blocks s kept ops.Feed reply = []
events_of_op blocks s kept (ops.Txg t) reply = []

-- those that it makes in the shard of this number
abbrev pub events_of_op_in : (shards : ℕ) → List Ptr → (shard : ℕ) → PlainShard → List KeptRead → Op → Reply → List Event
events_of_op_in shards blocks shard s kept op reply = if is_in_shard shards blocks shard op then events_of_op blocks s kept op reply else []

-- An answered read names a place from which its access may have the bytes, and one that the pool refused had to ask the pool.
abbrev pub NamesSource : Access → Effect → Type 0
NamesSource access (Answered from) = MayComeFrom access from
NamesSource access GivenBack = Unit {0}
NamesSource access (PoolRefused call) = AsksPool access
NamesSource access NoEffect = Unit {0}

abbrev pub IsFoundAs : List Ptr → PlainShard → Op → Reply → Type 0
IsFoundAs blocks s (ops.Read n t x window) reply = IfSome (slice_get blocks x) (λ ptr. NamesSource (access_of s ptr) (effect_of reply))
IsFoundAs blocks s (ops.Hold n t x) reply = IfSome (slice_get blocks x) (λ ptr. NamesSource (access_of s ptr) (effect_of reply))
IsFoundAs blocks s (ops.Drop n x) reply = Unit {0}
IsFoundAs blocks s (ops.Get n t at window) reply = Unit {0}
IsFoundAs blocks s (ops.Put n t at size fill) reply = Unit {0}
IsFoundAs blocks s (ops.Patch n t at from bytes) reply = Unit {0}
IsFoundAs blocks s (ops.Pin n t at) reply = Unit {0}
IsFoundAs blocks s (ops.Unpin n at) reply = Unit {0}
IsFoundAs blocks s ops.Feed reply = Unit {0}
IsFoundAs blocks s (ops.Txg t) reply = Unit {0}
IsFoundAs blocks s (ops.Cap c) reply = Unit {0}

-- ---- all operations

-- the events of the operations with their replies, one after another
abbrev pub events_of_all : List Ptr → PlainShard → List KeptRead → List Op → List Reply → List Event
events_of_all blocks s kept [] replies = []
events_of_all blocks s kept (op ∷ ops) [] = []
events_of_all blocks s kept (op ∷ ops) (reply ∷ replies) =
    events_of_op blocks s kept op reply
    ++ events_of_all blocks (replay s (events_of_op blocks s kept op reply)) (kept_after blocks op reply kept) ops replies

-- the reads that are kept after them
abbrev pub kept_after_all : List Ptr → List KeptRead → List Op → List Reply → List KeptRead
kept_after_all blocks kept [] replies = kept
kept_after_all blocks kept (op ∷ ops) [] = kept
kept_after_all blocks kept (op ∷ ops) (reply ∷ replies) = kept_after_all blocks (kept_after blocks op reply kept) ops replies

-- a fact of each operation and its reply, with the shard and the kept reads that they found
abbrev pub AllLines : (PlainShard → List KeptRead → Op → Reply → Type 0) → List Ptr → PlainShard → List KeptRead → List Op → List Reply → Type 0
AllLines fact blocks s kept [] replies = Unit {0}
AllLines fact blocks s kept (op ∷ ops) [] = Unit {0}
AllLines fact blocks s kept (op ∷ ops) (reply ∷ replies) =
    fact s kept op reply
    × AllLines fact blocks (replay s (events_of_op blocks s kept op reply)) (kept_after blocks op reply kept) ops replies

-- each answered read names where its access found the bytes
abbrev pub AreFoundAs : List Ptr → PlainShard → List KeptRead → List Op → List Reply → Type 0
AreFoundAs blocks = AllLines (λ s kept op reply. IsFoundAs blocks s op reply) blocks

-- the drops of the reads that the caller still keeps at the end, the oldest first
abbrev pub events_of_drops : (n : ℕ) → List KeptRead → List Event
events_of_drops n [] = []
events_of_drops n (read ∷ reads) = events_of_drop n read.held ++ events_of_drops n reads

-- the history of one caller in one shard, which it finds so
abbrev pub one_caller_history : List Ptr → (n : ℕ) → PlainShard → List Op → List Reply → List Event
one_caller_history blocks n opening ops replies =
    events_of_all blocks opening [] ops replies ++ events_of_drops n (kept_after_all blocks [] ops replies)

-- ---- several shards

-- the history of each shard, by its number: the events with which it begins, and then those of the lines that are done there
abbrev pub one_caller_histories : (shards : ℕ) → List Ptr → (n : ℕ) → PlainShard → (begun : ℕ → List Event) → List Op → List Reply → List (List Event)
one_caller_histories shards blocks n opening begun ops replies =
    map (λ (shard : ℕ). begun shard
    ++ one_caller_history blocks n (replay opening (begun shard)) (filter (is_in_shard shards blocks shard) ops) (replies_where (is_in_shard shards blocks shard) ops replies))
    (range_with_len 0 shards)
