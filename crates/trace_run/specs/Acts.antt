-- What the operations of a trace do in the shards of their keys, by their replies.
use Rattle.std.specs.Prelude.{ℕ, zero, suc, List, [], ◌∷◌, ◌++◌, filter, slice_get, Option, Some, None}
use Rattle.std.specs.Option.{option_map_or}
use Rattle.blk_ptr.specs.declared.key.Key.{Key}
use Rattle.blk_ptr.specs.declared.ptr.Ptr.{Ptr}
use Rattle.arc_core.specs.Operations.{Act, Reads, Keeps, GivesBack, Fails}
use Rattle.trace_text.specs.declared.op.Op.{Op}
use Rattle.trace_text.specs.declared.op.Op.TheVariants as ops
use Rattle.arc_core.specs.declared.event.Event.{Event}
use Rattle.arc_core.specs.declared.event.Event.TheVariants.{Resize}
use Rattle.trace_text.specs.declared.reply.Reply.{Reply}
use Rattle.trace_run.specs.KeptReads.{KeptRead}
use Rattle.trace_run.specs.Effects.{Effect, Answered, GivenBack, PoolRefused, NoEffect, effect_of}
use Rattle.trace_run.specs.Lines.{is_of_caller, replies_where}
use Rattle.trace_run.specs.one_caller.OneCaller.{kept_after, kept_after_all, oldest_key}

-- a read that was answered, or that the pool refused
abbrev pub acts_of_read : (n t : ℕ) → Ptr → Effect → List Act
acts_of_read n t ptr (Answered from) = Reads n t ptr from ∷ []
acts_of_read n t ptr GivenBack = []
acts_of_read n t ptr (PoolRefused call) = Fails n t ptr ∷ []
acts_of_read n t ptr NoEffect = []

-- the same, kept
abbrev pub acts_of_hold : (n t : ℕ) → Ptr → Effect → List Act
acts_of_hold n t ptr (Answered from) = Keeps n t ptr from ∷ []
acts_of_hold n t ptr GivenBack = []
acts_of_hold n t ptr (PoolRefused call) = Fails n t ptr ∷ []
acts_of_hold n t ptr NoEffect = []

-- a kept read that is given back: one past the cache held nothing
abbrev pub acts_of_drop : (n : ℕ) → Option Key → List Act
acts_of_drop n None = []
acts_of_drop n (Some key) = GivesBack n key ∷ []

abbrev pub acts_of_dropping : (n block : ℕ) → List KeptRead → Effect → List Act
acts_of_dropping n block kept (Answered from) = []
acts_of_dropping n block kept GivenBack = acts_of_drop n (oldest_key block kept)
acts_of_dropping n block kept (PoolRefused call) = []
acts_of_dropping n block kept NoEffect = []

-- An operation with its reply, where its caller keeps these reads. The acts of one on an object and of a sync don't follow from the reply: `acts_with` of WorkLines has them.
abbrev pub acts_of : List Ptr → List KeptRead → Op → Reply → List Act
acts_of blocks kept (ops.Read n t x window) reply = option_map_or (λ ptr. acts_of_read n t ptr (effect_of reply)) (slice_get blocks x) []
acts_of blocks kept (ops.Hold n t x) reply = option_map_or (λ ptr. acts_of_hold n t ptr (effect_of reply)) (slice_get blocks x) []
acts_of blocks kept (ops.Drop n x) reply = acts_of_dropping n x kept (effect_of reply)
acts_of blocks kept (ops.Get n t at window) reply = []
acts_of blocks kept (ops.Put n t at size fill) reply = []
acts_of blocks kept (ops.Patch n t at from bytes) reply = []
acts_of blocks kept (ops.Pin n t at) reply = []
acts_of blocks kept (ops.Unpin n at) reply = []
acts_of blocks kept ops.Feed reply = []
acts_of blocks kept (ops.Txg t) reply = []
acts_of blocks kept (ops.Cap c) reply = []

-- all operations of one caller with their replies, one after another
abbrev pub acts_of_all : List Ptr → List KeptRead → List Op → List Reply → List Act
acts_of_all blocks kept [] replies = []
acts_of_all blocks kept (op ∷ ops) [] = []
acts_of_all blocks kept (op ∷ ops) (reply ∷ replies) =
    acts_of blocks kept op reply ++ acts_of_all blocks (kept_after blocks op reply kept) ops replies

-- the drops at the end of the run, the oldest first
abbrev pub acts_of_drops : (n : ℕ) → List KeptRead → List Act
acts_of_drops n [] = []
acts_of_drops n (read ∷ reads) = acts_of_drop n read.held ++ acts_of_drops n reads

-- what a caller's own operations and the end of the run do
abbrev pub acts_of_caller : List Ptr → (n : ℕ) → List Op → List Reply → List Act
acts_of_caller blocks n ops replies = acts_of_all blocks [] ops replies ++ acts_of_drops n (kept_after_all blocks [] ops replies)

-- The events that the number n makes in each shard for a line, the same in all: a capacity is given to every shard. A sync inserts under the cells' numbers, and a feed's events differ
-- from shard to shard: `events_of_made` of FeedEvents has them.
abbrev pub events_of_feeder : (n : ℕ) → Op → List Event
events_of_feeder n (ops.Cap c) = Resize n c ∷ []
events_of_feeder n (ops.Txg t) = []
events_of_feeder n ops.Feed = []
events_of_feeder n (ops.Read m t x window) = []
events_of_feeder n (ops.Hold m t x) = []
events_of_feeder n (ops.Drop m x) = []
events_of_feeder n (ops.Get m t at window) = []
events_of_feeder n (ops.Put m t at size fill) = []
events_of_feeder n (ops.Patch m t at from bytes) = []
events_of_feeder n (ops.Pin m t at) = []
events_of_feeder n (ops.Unpin m at) = []

-- and for all lines that were answered, in their order
abbrev pub events_of_feeds : (n : ℕ) → List Op → List Reply → List Event
events_of_feeds n [] replies = []
events_of_feeds n (op ∷ ops) [] = []
events_of_feeds n (op ∷ ops) (reply ∷ replies) = events_of_feeder n op ++ events_of_feeds n ops replies

-- what the first so many callers do, each by its own lines and with its own kept reads
abbrev pub acts_of_callers : List Ptr → (callers : ℕ) → List Op → List Reply → List Act
acts_of_callers blocks zero ops replies = []
acts_of_callers blocks (suc n) ops replies =
    acts_of_callers blocks n ops replies ++ acts_of_caller blocks n (filter (is_of_caller n) ops) (replies_where (is_of_caller n) ops replies)
