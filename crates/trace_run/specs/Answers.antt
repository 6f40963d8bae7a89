-- What the operations of a trace may be answered, for a pool of some length that may tell its bytes.
use Rattle.std.specs.Prelude.{◌==◌, ◌≡◌, ◌⊎◌, ℕ, ◌+◌, ◌<◌, ◌≤◌, ◌&&◌, Bool, true, false, List, [], ◌∷◌, length, take, Option, Some, slice_get, if◌then◌else◌}
use Rattle.blk_ptr.specs.declared.ptr.Ptr.{Ptr}
use Rattle.blk_ptr.specs.Key.{IsValid, IsFirstKeyFault}
use Rattle.l2_dev.specs.declared.report.FeedReport.{FeedReport}
use Rattle.trace_text.specs.declared.op.Op.{Op}
use Rattle.trace_text.specs.declared.op.Op.TheVariants as ops
use Rattle.trace_text.specs.declared.reply.Reply.{Reply}
use Rattle.trace_text.specs.declared.reply.Reply.TheVariants.{Read, Kept, Dropped, Capped, Synced, Fed, FedNone, Refused}
use Rattle.trace_text.specs.declared.reply.Refusal.{Refusal}
use Rattle.trace_text.specs.declared.reply.Refusal.TheVariants.{PoolFault, Mismatch, Key, Range, NoHold}
use Rattle.dbuf_state.specs.declared.window.Window.{Window}
use Rattle.dbuf_state.specs.Dbufs.{window_of}
use Rattle.trace_run.specs.Effects.{Effect, Answered, GivenBack, PoolRefused, NoEffect, effect_of}
use Rattle.vdev_io.specs.Calls.{is_failed}
use Rattle.trace_run.specs.Read.{IsReadOf, IsMismatch}

-- the window ends inside a block of this size
abbrev pub IsInside : Window → ℕ → Type 0
IsInside window size = window.at + window.len ≤ size

-- the block's key was accepted, and then its bytes were refused
abbrev pub IsReadRefusal : ℕ → Option (List ℕ) → Ptr → Refusal → Type 0
IsReadRefusal pool_len image ptr PoolFault = IsValid pool_len ptr.key
IsReadRefusal pool_len image ptr (Mismatch found) = IsValid pool_len ptr.key × IsMismatch image ptr found
IsReadRefusal pool_len image ptr (Key fault) = IsFirstKeyFault pool_len ptr.key fault
IsReadRefusal pool_len image ptr other = ⊥

-- the same where a window is asked for: one that ends past the block's size is refused before the key is looked at
abbrev pub IsWindowRefusal : ℕ → Option (List ℕ) → Ptr → Window → Refusal → Type 0
IsWindowRefusal pool_len image ptr window PoolFault = IsInside window ptr.key.size × IsReadRefusal pool_len image ptr PoolFault
IsWindowRefusal pool_len image ptr window (Mismatch found) = IsInside window ptr.key.size × IsReadRefusal pool_len image ptr (Mismatch found)
IsWindowRefusal pool_len image ptr window (Key fault) = IsInside window ptr.key.size × IsReadRefusal pool_len image ptr (Key fault)
IsWindowRefusal pool_len image ptr window (Range end size) = (end ≡ window.at + window.len) × (size ≡ ptr.key.size) × (size < end)
IsWindowRefusal pool_len image ptr window other = ⊥

-- the answers to a read that shows a window
abbrev pub AnswersRead : ℕ → Option (List ℕ) → Ptr → Window → Reply → Type 0
AnswersRead pool_len image ptr window (Read served digest shown) =
    IsInside window ptr.key.size × IsValid pool_len ptr.key × (digest ≡ ptr.digest)
    × ((bytes : List ℕ) × IsReadOf image ptr served bytes × (shown ≡ window_of window bytes))
AnswersRead pool_len image ptr window (Refused refusal) = IsWindowRefusal pool_len image ptr window refusal
AnswersRead pool_len image ptr window other = ⊥

-- the answers to a read that is kept: one that is answered has the bytes of its block, though it shows none
abbrev pub AnswersHold : ℕ → Option (List ℕ) → Ptr → Reply → Type 0
AnswersHold pool_len image ptr (Kept served) = IsValid pool_len ptr.key × ((bytes : List ℕ) × IsReadOf image ptr served bytes)
AnswersHold pool_len image ptr (Refused refusal) = IsReadRefusal pool_len image ptr refusal
AnswersHold pool_len image ptr other = ⊥

-- 1 where a read that was to be kept and is this caller's is kept, and 1 where a drop of this caller's gave one back
abbrev pub keeps_one : Effect → Bool → ℕ
keeps_one (Answered from) mine = if mine then 1 else 0
keeps_one GivenBack mine = 0
keeps_one (PoolRefused call) mine = 0
keeps_one NoEffect mine = 0

abbrev pub drops_one : Effect → Bool → ℕ
drops_one (Answered from) mine = 0
drops_one GivenBack mine = if mine then 1 else 0
drops_one (PoolRefused call) mine = 0
drops_one NoEffect mine = 0

-- 1 where this reply to this operation keeps a read of the block by the caller
abbrev pub keeps : ℕ → ℕ → Op → Reply → ℕ
keeps caller block (ops.Hold n t x) reply = keeps_one (effect_of reply) (n == caller && x == block)
keeps caller block other reply = 0

-- 1 where it drops one again
abbrev pub drops : ℕ → ℕ → Op → Reply → ℕ
drops caller block (ops.Drop n x) reply = drops_one (effect_of reply) (n == caller && x == block)
drops caller block other reply = 0

-- how many reads of a block a caller kept, by the operations and their replies
abbrev pub kept_reads : ℕ → ℕ → List Op → List Reply → ℕ
kept_reads caller block [] replies = 0
kept_reads caller block (op ∷ ops) [] = 0
kept_reads caller block (op ∷ ops) (reply ∷ replies) = keeps caller block op reply + kept_reads caller block ops replies

-- how many of them the caller dropped again
abbrev pub dropped_reads : ℕ → ℕ → List Op → List Reply → ℕ
dropped_reads caller block [] replies = 0
dropped_reads caller block (op ∷ ops) [] = 0
dropped_reads caller block (op ∷ ops) (reply ∷ replies) = drops caller block op reply + dropped_reads caller block ops replies

-- a drop is refused for one reason alone
abbrev pub IsDropRefusal : ℕ → ℕ → ℕ → Refusal → Type 0
IsDropRefusal kept dropped block (NoHold missing) = (missing ≡ block) × (kept ≤ dropped)
IsDropRefusal kept dropped block other = ⊥

-- the answers to a drop, where so many reads were kept and so many dropped
abbrev pub AnswersDrop : ℕ → ℕ → ℕ → Reply → Type 0
AnswersDrop kept dropped block Dropped = dropped < kept
AnswersDrop kept dropped block (Refused refusal) = IsDropRefusal kept dropped block refusal
AnswersDrop kept dropped block other = ⊥

-- the answers to a line `feed`: the report of its feed, or none where no device was started
abbrev pub AnswersFeed : Reply → Type 0
AnswersFeed reply = (reply ≡ FedNone) ⊎ ((report : FeedReport) × (reply ≡ Fed report))

-- The answer to an operation, behind these operations and replies. One on an object is answered by its cell, which says so elsewhere.
abbrev pub Answers : ℕ → Option (List ℕ) → List Ptr → List Op → List Reply → Op → Reply → Type 0
Answers pool_len image blocks earlier replied (ops.Read n t x window) reply =
    (ptr : Ptr) × (slice_get blocks x ≡ Some ptr) × AnswersRead pool_len image ptr window reply
Answers pool_len image blocks earlier replied (ops.Hold n t x) reply =
    (ptr : Ptr) × (slice_get blocks x ≡ Some ptr) × AnswersHold pool_len image ptr reply
Answers pool_len image blocks earlier replied (ops.Drop n x) reply =
    AnswersDrop (kept_reads n x earlier replied) (dropped_reads n x earlier replied) x reply
Answers pool_len image blocks earlier replied (ops.Cap c) reply = reply ≡ Capped c
Answers pool_len image blocks earlier replied (ops.Txg t) reply = (group blocks bytes : ℕ) × (reply ≡ Synced group blocks bytes)
Answers pool_len image blocks earlier replied ops.Feed reply = AnswersFeed reply
Answers pool_len image blocks earlier replied (ops.Get n t at window) reply = Unit {0}
Answers pool_len image blocks earlier replied (ops.Put n t at size fill) reply = Unit {0}
Answers pool_len image blocks earlier replied (ops.Patch n t at from bytes) reply = Unit {0}
Answers pool_len image blocks earlier replied (ops.Pin n t at) reply = Unit {0}
Answers pool_len image blocks earlier replied (ops.Unpin n at) reply = Unit {0}

-- each operation has its answer, in their order
pub record AnswersAll (pool_len : ℕ) (image : Option (List ℕ)) (blocks : List Ptr) (ops : List Op) (replies : List Reply) : Type 0 where
  pub all : length replies ≡ length ops
  pub each : (k : ℕ) (op : Op) (reply : Reply) → slice_get ops k ≡ Some op → slice_get replies k ≡ Some reply →
      Answers pool_len image blocks (take k ops) (take k replies) op reply

-- a reply that says that the pool failed
abbrev pub tells_fault : Effect → Bool
tells_fault (Answered from) = false
tells_fault GivenBack = false
tells_fault (PoolRefused call) = is_failed call
tells_fault NoEffect = false

abbrev pub is_pool_fault : Reply → Bool
is_pool_fault reply = tells_fault (effect_of reply)

-- a reply that is a refusal
abbrev pub is_refusal : Reply → Bool
is_refusal (Refused refusal) = true
is_refusal other = false
