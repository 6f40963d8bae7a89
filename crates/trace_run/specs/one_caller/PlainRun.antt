-- The run of one caller over a pool and a cache device that tell their bytes, as a plain function: of the trace, the bytes, and which reads of either
-- failed.
use Rattle.std.specs.Prelude.{ℕ, ◌+◌, ◌%◌, ◌==◌, nat_lt, ◌&&◌, false, not, if◌then◌else◌, List, [], ◌∷◌, drop, length, is_some, slice_get, Option, Some, None}
use Rattle.std.specs.List.{list_any}
use Rattle.std.specs.Option.{option_map_or}
use Rattle.blk_ptr.specs.declared.key.Key.{Key}
use Rattle.blk_ptr.specs.declared.key.KeyFault.{KeyFault}
use Rattle.blk_ptr.specs.declared.key.KeyFault.TheVariants as key_faults
use Rattle.blk_ptr.specs.declared.ptr.Ptr.{Ptr}
use Rattle.blk_ptr.specs.Key.{key_end as end_of_key}
use Rattle.blk_ptr.specs.Order.{digest_eq, key_eq}
use Rattle.blk_ptr.specs.Ptr.{range_of, sha256_of}
use Rattle.blk_ptr.specs.Size.{is_block_size_of, sector}
use Rattle.arc_core.specs.declared.served.Served.{Served}
use Rattle.arc_core.specs.declared.served.Served.TheVariants as served
use Rattle.arc_core.specs.PlainShard.{PlainShard}
use Rattle.arc_table.specs.Fetching.{bytes_from}
use Rattle.trace_text.specs.declared.op.Op.{Op}
use Rattle.trace_text.specs.declared.op.Op.TheVariants as ops
use Rattle.trace_text.specs.declared.reply.Refusal.{Refusal}
use Rattle.trace_text.specs.declared.reply.Refusal.TheVariants.{PoolFault, Mismatch, Key as RefusedKey, NoMemory, Range, NoHold}
use Rattle.trace_text.specs.declared.reply.Reply.{Reply}
use Rattle.trace_text.specs.declared.reply.Reply.TheVariants.{Read, Kept, Dropped, Capped, Refused}
use Rattle.trace_text.specs.declared.rebuilt.Rebuilt.{Rebuilt}
use Rattle.trace_text.specs.declared.report.Report.{Report}
use Rattle.trace_text.specs.declared.trace.Trace.{Trace}
use Rattle.dbuf_state.specs.declared.window.Window.{Window}
use Rattle.dbuf_state.specs.Dbufs.{window_of}
use Rattle.trace_run.specs.KeptReads.{KeptRead}
use Rattle.trace_run.specs.one_caller.Asking.{asked_by, next_call, place_asked, source_at}
use Rattle.trace_run.specs.one_caller.OverShards.{shards_after_op}
use Rattle.trace_run.specs.Answers.{is_refusal}
use Rattle.trace_run.specs.Effects.{Effect, Answered, GivenBack, PoolRefused, NoEffect, calls_of, effect_of}
use Rattle.trace_run.specs.Ends.{ends_of}
use Rattle.arc_table.specs.Telling.{opening_of}
use Rattle.trace_run.specs.Lines.{shard_of_line}
use Rattle.trace_run.specs.one_caller.OneCaller.{kept_after, oldest_kept, one_caller_histories}
use Rattle.trace_run.specs.Restores.{found_keys, restored_shard, restores_in}
use Rattle.vdev_io.specs.Calls.{Call, Gave, Failed}

-- the bytes that the pool tells, and those of the cache device: where there is none, it has none
pub record Images : Type 0 where
  pub pool : List ℕ
  pub device : List ℕ

abbrev pub images : (pool device : List ℕ) → Images
images pool device = record { pool = pool; device = device }

-- the bytes that are cached of each block that is
abbrev pub Contents : Type 0
Contents = Ptr → List ℕ

-- ---- the reply to one operation

-- the first of the four tests that a key fails, over a pool of this length
abbrev pub key_fault : (pool_len : ℕ) → Key → Option KeyFault
key_fault pool_len key =
    if not (key.offset % sector == 0) then Some key_faults.Unaligned
    else if not (is_block_size_of key.size) then Some key_faults.Size
    else if nat_lt pool_len (end_of_key key) then Some (key_faults.OutOfPool (end_of_key key) pool_len)
    else if key.birth == 0 then Some key_faults.BirthZero
    else None

-- why bytes from the pool are refused, where it answered the read so
abbrev pub refused_bytes : (image : List ℕ) → Ptr → Call → Option Refusal
refused_bytes image ptr Failed = Some PoolFault
refused_bytes image ptr Gave =
    if digest_eq (sha256_of (range_of image ptr.key)) ptr.digest then None else Some (Mismatch (sha256_of (range_of image ptr.key)))

-- why a read is refused whose key is accepted and whose bytes come from here
abbrev pub refused_from : (image : List ℕ) → Ptr → Served → Call → Option Refusal
refused_from image ptr served.Hit call = None
refused_from image ptr served.L2 call = None
refused_from image ptr served.Pool call = refused_bytes image ptr call
refused_from image ptr served.Past call = refused_bytes image ptr call

-- why a read is refused: the key is looked at first
abbrev pub key_first : Option KeyFault → Option Refusal → Option Refusal
key_first None later = later
key_first (Some fault) later = Some (RefusedKey fault)

abbrev pub refused_read : (image : List ℕ) → Ptr → Served → Call → Option Refusal
refused_read image ptr from call = key_first (key_fault (length image) ptr.key) (refused_from image ptr from call)

-- the reply, where this is why it is refused
abbrev pub reply_unless : Option Refusal → Reply → Reply
reply_unless None reply = reply
reply_unless (Some refusal) reply = Refused refusal

-- where a read's bytes come from, where the device answers so if it is read
abbrev pub source_in : Images → PlainShard → Ptr → (device_call : Call) → Served
source_in images s ptr device_call = source_at (length images.device) images.device s ptr device_call

-- the bytes of a read: those that are cached, or those of the device at the place, or those of the pool in the key's range
abbrev pub bytes_on : (image : List ℕ) → Option ℕ → Key → List ℕ
bytes_on image None key = []
bytes_on image (Some place) key = bytes_from image place key

abbrev pub bytes_in : Images → Contents → PlainShard → Ptr → Served → List ℕ
bytes_in images contents s ptr served.Hit = contents ptr
bytes_in images contents s ptr served.L2 = bytes_on images.device (place_asked (length images.device) ptr s) ptr.key
bytes_in images contents s ptr served.Pool = range_of images.pool ptr.key
bytes_in images contents s ptr served.Past = range_of images.pool ptr.key

-- the reply to a read whose bytes come from here: its window is looked at before all else
abbrev pub reply_to_read : (image : List ℕ) → Ptr → Window → Served → (bytes : List ℕ) → Call → Reply
reply_to_read image ptr window from bytes call =
    if nat_lt ptr.key.size (window.at + window.len) then Refused (Range (window.at + window.len) ptr.key.size)
    else reply_unless (refused_read image ptr from call) (Read from ptr.digest (window_of window bytes))

-- the reply to a read that is to be kept
abbrev pub reply_to_hold : (image : List ℕ) → Ptr → Served → Call → Reply
reply_to_hold image ptr from call = reply_unless (refused_read image ptr from call) (Kept from)

-- the reply to a drop of a read of this block
abbrev pub reply_to_drop : (block : ℕ) → List KeptRead → Reply
reply_to_drop block kept = if is_some (oldest_kept block kept) then Dropped else Refused (NoHold block)

-- no answer: want of memory ends a run, so no report has it as a reply
abbrev pub no_answer : Reply
no_answer = Refused NoMemory

-- The reply to an operation, where the pool answers so if it is read, and the device so. Each block of a trace is declared. A line on an object, a feed and a sync have none: a trace with
-- one of them has no plain run.
abbrev pub reply_to : Images → List Ptr → PlainShard → List KeptRead → Contents → Op → (call device_call : Call) → Reply
reply_to images blocks s kept contents (ops.Read n t x window) call device_call =
    option_map_or (λ ptr. let from = source_in images s ptr device_call in reply_to_read images.pool ptr window from (bytes_in images contents s ptr from) call) (slice_get blocks x) no_answer
reply_to images blocks s kept contents (ops.Hold n t x) call device_call = option_map_or (λ ptr. reply_to_hold images.pool ptr (source_in images s ptr device_call) call) (slice_get blocks x) no_answer
reply_to images blocks s kept contents (ops.Drop n x) call device_call = reply_to_drop x kept
reply_to images blocks s kept contents (ops.Cap c) call device_call = Capped c
reply_to images blocks s kept contents (ops.Get n t at window) call device_call = no_answer
reply_to images blocks s kept contents (ops.Put n t at size fill) call device_call = no_answer
reply_to images blocks s kept contents (ops.Patch n t at from bytes) call device_call = no_answer
reply_to images blocks s kept contents (ops.Pin n t at) call device_call = no_answer
reply_to images blocks s kept contents (ops.Unpin n at) call device_call = no_answer
reply_to images blocks s kept contents ops.Feed call device_call = no_answer
reply_to images blocks s kept contents (ops.Txg t) call device_call = no_answer

-- ---- the replies to all operations

-- the bytes of a block, once these are cached for it
abbrev pub with_bytes : Ptr → List ℕ → Contents → Contents
with_bytes ptr bytes contents other = if key_eq other.key ptr.key && digest_eq other.digest ptr.digest then bytes else contents other

-- and once a read with this effect is done: a miss that is answered caches its bytes
abbrev pub contents_with : Images → Contents → PlainShard → Ptr → Effect → Contents
contents_with images contents s ptr (Answered served.Hit) = contents
contents_with images contents s ptr (Answered served.Past) = contents
contents_with images contents s ptr (Answered served.Pool) = with_bytes ptr (bytes_in images contents s ptr served.Pool) contents
contents_with images contents s ptr (Answered served.L2) = with_bytes ptr (bytes_in images contents s ptr served.L2) contents
contents_with images contents s ptr GivenBack = contents
contents_with images contents s ptr (PoolRefused call) = contents
contents_with images contents s ptr NoEffect = contents

-- and once an operation with this reply is
abbrev pub contents_after : Images → List Ptr → PlainShard → Op → Reply → Contents → Contents
contents_after images blocks s (ops.Read n t x window) reply contents = option_map_or (λ ptr. contents_with images contents s ptr (effect_of reply)) (slice_get blocks x) contents
contents_after images blocks s (ops.Hold n t x) reply contents = option_map_or (λ ptr. contents_with images contents s ptr (effect_of reply)) (slice_get blocks x) contents
contents_after images blocks s (ops.Drop n x) reply contents = contents
contents_after images blocks s (ops.Get n t at window) reply contents = contents
contents_after images blocks s (ops.Put n t at size fill) reply contents = contents
contents_after images blocks s (ops.Patch n t at from bytes) reply contents = contents
contents_after images blocks s (ops.Pin n t at) reply contents = contents
contents_after images blocks s (ops.Unpin n at) reply contents = contents
contents_after images blocks s ops.Feed reply contents = contents
contents_after images blocks s (ops.Txg t) reply contents = contents
contents_after images blocks s (ops.Cap c) reply contents = contents

abbrev pub replies_to : Images → (shards : ℕ) → List Ptr → (ℕ → PlainShard) → List KeptRead → Contents → List Op → (calls device_calls : List Call) → List Reply
replies_to images shards blocks s kept contents [] calls device_calls = []
replies_to images shards blocks s kept contents (op ∷ ops) calls device_calls =
    let here = s (shard_of_line shards blocks op) in
    let reply = reply_to images blocks here kept contents op (next_call calls) (next_call device_calls) in
    reply
    ∷ replies_to images shards blocks (shards_after_op shards blocks s kept op reply) (kept_after blocks op reply kept) (contents_after images blocks here op reply contents) ops
    (drop (length (calls_of (effect_of reply))) calls) (drop (length (asked_by (length images.device) blocks here op reply)) device_calls)

-- ---- the report

-- the status of a report: 0 where no reply is a refusal, and else 1
abbrev pub status_of : List Reply → ℕ
status_of replies = if list_any is_refusal replies then 1 else 0

-- the report of a run whose replies are these, where this was found on the cache device
abbrev pub report_with : Trace → Option Rebuilt → List Reply → Report
report_with trace rebuilt replies = record {
  replies = replies;
  histories = one_caller_histories trace.config.shards trace.blocks 0 (opening_of trace.config) (restores_in trace.config (found_keys rebuilt)) trace.ops replies;
  ends = ends_of trace.config (one_caller_histories trace.config.shards trace.blocks 0 (opening_of trace.config) (restores_in trace.config (found_keys rebuilt)) trace.ops replies);
  io = None;
  rebuilt = rebuilt;
  status = status_of replies;
  short = false;
}

-- nothing is cached at first
abbrev pub no_contents : Contents
no_contents ptr = []

-- the report of one caller's run over these bytes, where this was found on the cache device, and the pool and the device answered their reads so
abbrev pub plain_report : Trace → Option Rebuilt → Images → (calls device_calls : List Call) → Report
plain_report trace rebuilt images calls device_calls =
    report_with trace rebuilt (replies_to images trace.config.shards trace.blocks (restored_shard trace.config (found_keys rebuilt)) [] no_contents trace.ops calls device_calls)
