-- Where one caller's reads ask the cache device, and what it serves: a miss reads it before the pool, at the place of the key's entry (arc_read of
-- arc.c, its read of the L2ARC).
use Rattle.std.specs.Prelude.{◌≡◌, ℕ, ◌+◌, ◌&&◌, nat_le, Bool, true, false, if◌then◌else◌, List, [], ◌∷◌, ◌++◌, length, Option, Some, None, IfSome, Result, Ok, Err, option_and_then, slice_get}
use Rattle.std.specs.Option.{option_map_or}
use Rattle.blk_ptr.specs.declared.digest.Digest.{Digest}
use Rattle.blk_ptr.specs.declared.key.Key.{Key}
use Rattle.blk_ptr.specs.declared.ptr.Ptr.{Ptr}
use Rattle.blk_ptr.specs.Order.{digest_eq}
use Rattle.blk_ptr.specs.Ptr.{sha256_of}
use Rattle.vdev_io.specs.declared.device.CacheDev.{Ghosts as DeviceGhosts}
use Rattle.vdev_io.specs.Calls.{Asked, Call, DeviceCall, Gave, Failed, MakesDeviceCalls, answered}
use Rattle.arc_core.specs.declared.served.ReadFault.{ReadFault}
use Rattle.arc_core.specs.declared.served.ReadFault.TheVariants as fault
use Rattle.arc_core.specs.declared.served.Served.{Served}
use Rattle.arc_core.specs.declared.served.Served.TheVariants as served
use Rattle.arc_core.specs.PlainShard.{PlainShard, entry_of}
use Rattle.arc_table.specs.Fetching.{bytes_from, read_at}
use Rattle.trace_text.specs.declared.op.Op.{Op}
use Rattle.trace_text.specs.declared.op.Op.TheVariants as ops
use Rattle.trace_text.specs.declared.reply.Reply.{Reply}
use Rattle.trace_run.specs.one_caller.Access.{Access, Hit, Past, Miss, access_of}
use Rattle.trace_run.specs.Effects.{Effect, Answered, GivenBack, PoolRefused, NoEffect, effect_of}
use Rattle.trace_run.specs.KeptReads.{KeptRead}
use Rattle.trace_run.specs.Lines.{shard_of_line}
use Rattle.trace_run.specs.one_caller.OneCaller.{kept_after}
use Rattle.trace_run.specs.one_caller.OverShards.{shards_after_op}
use Rattle.trace_run.specs.Read.{IsFromPool}
use Rattle.trace_run.specs.declared.get.Got.{Got}

-- ---- where the device is asked

-- the place, where the block's range lies inside a device of this length, and the digest that is known of the bytes there is the pointer's, or none is known
abbrev pub place_in : (size : ℕ) → Ptr → Option Digest → (place : ℕ) → Option ℕ
place_in size ptr known place = if nat_le (place + ptr.key.size) size && option_map_or (λ d. digest_eq d ptr.digest) known true then Some place else None

-- the place of the key's entry at which a device of this length is to be asked for the pointer
abbrev pub place_to_ask : (size : ℕ) → Ptr → PlainShard → Option ℕ
place_to_ask size ptr s = option_and_then (λ e. option_and_then (place_in size ptr e.digest) e.place) (entry_of ptr.key s)

-- only a miss asks it
abbrev pub place_on : (size : ℕ) → Ptr → PlainShard → Access → Option ℕ
place_on size ptr s Hit = None
place_on size ptr s (Past kept) = None
place_on size ptr s Miss = place_to_ask size ptr s

abbrev pub place_asked : (size : ℕ) → Ptr → PlainShard → Option ℕ
place_asked size ptr s = place_on size ptr s (access_of s ptr)

-- one read of the block at the place, where there is one
abbrev pub read_on : Key → Option ℕ → List Asked
read_on key None = []
read_on key (Some place) = read_at place key ∷ []

-- what a read with this effect asks the device for: one that was refused before anything was read, nothing
abbrev pub asked_by_read : (size : ℕ) → PlainShard → Ptr → Effect → List Asked
asked_by_read size s ptr (Answered from) = read_on ptr.key (place_asked size ptr s)
asked_by_read size s ptr GivenBack = []
asked_by_read size s ptr (PoolRefused call) = read_on ptr.key (place_asked size ptr s)
asked_by_read size s ptr NoEffect = []

-- what an operation with this reply asks it for
abbrev pub asked_by : (size : ℕ) → List Ptr → PlainShard → Op → Reply → List Asked
asked_by size blocks s (ops.Read n t x window) reply = option_map_or (λ ptr. asked_by_read size s ptr (effect_of reply)) (slice_get blocks x) []
asked_by size blocks s (ops.Hold n t x) reply = option_map_or (λ ptr. asked_by_read size s ptr (effect_of reply)) (slice_get blocks x) []
asked_by size blocks s (ops.Drop n x) reply = []
asked_by size blocks s (ops.Get n t at window) reply = []
asked_by size blocks s (ops.Put n t at len fill) reply = []
asked_by size blocks s (ops.Patch n t at from bytes) reply = []
asked_by size blocks s (ops.Pin n t at) reply = []
asked_by size blocks s (ops.Unpin n at) reply = []
asked_by size blocks s ops.Feed reply = []
asked_by size blocks s (ops.Txg t) reply = []
asked_by size blocks s (ops.Cap c) reply = []

-- ---- what it serves

-- a device that tells this image serves the pointer from the place: the read did not fail, and the bytes there have the pointer's digest
abbrev pub serves : (image : List ℕ) → Ptr → Option ℕ → Call → Bool
serves image ptr None call = false
serves image ptr (Some place) Failed = false
serves image ptr (Some place) Gave = digest_eq (sha256_of (bytes_from image place ptr.key)) ptr.digest

-- where the bytes of an access come from: those of a miss from the device, where it serves them, and else from the pool
abbrev pub source_of : Access → (is_served : Bool) → Served
source_of Hit is_served = served.Hit
source_of (Past kept) is_served = served.Past
source_of Miss is_served = if is_served then served.L2 else served.Pool

-- where a read's bytes come from, over a device of this length that tells this image and answers its read so
abbrev pub source_at : (size : ℕ) → (image : List ℕ) → PlainShard → Ptr → Call → Served
source_at size image s ptr call = source_of (access_of s ptr) (serves image ptr (place_asked size ptr s) call)

-- an answered read names this source, and one that the pool refused had to ask the pool
abbrev pub NamesServed : (source : Served) → Effect → Type 0
NamesServed source (Answered from) = from ≡ source
NamesServed source GivenBack = Unit {0}
NamesServed source (PoolRefused call) = IsFromPool source
NamesServed source NoEffect = Unit {0}

-- the bytes came from the device
abbrev pub CameFromDevice : Effect → Type 0
CameFromDevice (Answered served.L2) = Unit {0}
CameFromDevice (Answered served.Hit) = ⊥
CameFromDevice (Answered served.Pool) = ⊥
CameFromDevice (Answered served.Past) = ⊥
CameFromDevice GivenBack = ⊥
CameFromDevice (PoolRefused call) = ⊥
CameFromDevice NoEffect = ⊥

-- ---- the calls that are made of it

-- the answer to the next call; where none is said, it gives bytes
abbrev pub next_call : List Call → Call
next_call [] = Gave
next_call (call ∷ calls) = call

-- what was asked for, each answered so
abbrev pub answered_all : List Call → List Asked → List DeviceCall
answered_all [] asked = []
answered_all (call ∷ calls) [] = []
answered_all (call ∷ calls) (it ∷ asked) = answered call it ∷ answered_all calls asked

module _ {D : Type 0} (devices : DeviceGhosts D) where
  -- By what the shard says of the pointer, the device was asked for just this, each once, and answered so, for a read with this effect. Bytes from the
  -- device came by a call that did not fail. Over a device that tells its bytes the read was served by it exactly where they have the pointer's digest.
  pub record AsksRead (s : PlainShard) (ptr : Ptr) (e : Effect) (calls : List Call) (old new : D) : Type 0 where
    pub many : length calls ≡ length (asked_by_read (devices.size old) s ptr e)
    pub made : MakesDeviceCalls devices (answered_all calls (asked_by_read (devices.size old) s ptr e)) old new
    pub gave : CameFromDevice e → calls ≡ Gave ∷ []
    pub served : IfSome (devices.told old) (λ image. NamesServed (source_at (devices.size old) image s ptr (next_call calls)) e)

  -- by some such calls
  abbrev pub Asks : PlainShard → Ptr → Effect → (old new : D) → Type 0
  Asks s ptr e old new = (calls : List Call) × AsksRead s ptr e calls old new

  -- by what a read came to. Of want of memory nothing is said.
  abbrev pub AsksGot : PlainShard → Ptr → Result Got ReadFault → (old new : D) → Type 0
  AsksGot s ptr (Ok got) old new = Asks s ptr (Answered got.served) old new
  AsksGot s ptr (Err (fault.PoolFault)) old new = Asks s ptr (PoolRefused Failed) old new
  AsksGot s ptr (Err (fault.Mismatch found)) old new = Asks s ptr (PoolRefused Gave) old new
  AsksGot s ptr (Err (fault.Key why)) old new = Asks s ptr NoEffect old new
  AsksGot s ptr (Err (fault.NoMemory)) old new = Unit {0}

  -- the same of a read of a block that is declared; each block of a trace is
  abbrev pub AsksBlock : PlainShard → Option Ptr → Effect → List Call → (old new : D) → Type 0
  AsksBlock s None e calls old new = (calls ≡ []) × (new ≡ old)
  AsksBlock s (Some ptr) e calls old new = AsksRead s ptr e calls old new

  -- and of an operation and its reply; one that is no read leaves the device as it was
  abbrev pub AsksLine : List Ptr → PlainShard → Op → Reply → List Call → (old new : D) → Type 0
  AsksLine blocks s (ops.Read n t x window) reply calls old new = AsksBlock s (slice_get blocks x) (effect_of reply) calls old new
  AsksLine blocks s (ops.Hold n t x) reply calls old new = AsksBlock s (slice_get blocks x) (effect_of reply) calls old new
  AsksLine blocks s (ops.Drop n x) reply calls old new = (calls ≡ []) × (new ≡ old)
  AsksLine blocks s (ops.Get n t at window) reply calls old new = (calls ≡ []) × (new ≡ old)
  AsksLine blocks s (ops.Put n t at size fill) reply calls old new = (calls ≡ []) × (new ≡ old)
  AsksLine blocks s (ops.Patch n t at from bytes) reply calls old new = (calls ≡ []) × (new ≡ old)
  AsksLine blocks s (ops.Pin n t at) reply calls old new = (calls ≡ []) × (new ≡ old)
  AsksLine blocks s (ops.Unpin n at) reply calls old new = (calls ≡ []) × (new ≡ old)
  AsksLine blocks s ops.Feed reply calls old new = (calls ≡ []) × (new ≡ old)
  AsksLine blocks s (ops.Txg t) reply calls old new = (calls ≡ []) × (new ≡ old)
  AsksLine blocks s (ops.Cap c) reply calls old new = (calls ≡ []) × (new ≡ old)

  -- The device was asked by all operations with their replies, one after another, over so many shards that were these at first, and answered so;
  -- nothing else was done with it.
  abbrev pub AsksLines : (shards : ℕ) → List Ptr → (ℕ → PlainShard) → List KeptRead → List Op → List Reply → List Call → (old new : D) → Type 0
  AsksLines shards blocks s kept [] [] calls old new = (calls ≡ []) × (new ≡ old)
  AsksLines shards blocks s kept [] (reply ∷ replies) calls old new = ⊥
  AsksLines shards blocks s kept (op ∷ ops) [] calls old new = ⊥
  AsksLines shards blocks s kept (op ∷ ops) (reply ∷ replies) calls old new =
      (own rest : List Call) × (next : D) × (calls ≡ own ++ rest) × AsksLine blocks (s (shard_of_line shards blocks op)) op reply own old next
      × AsksLines shards blocks (shards_after_op shards blocks s kept op reply) (kept_after blocks op reply kept) ops replies rest next new
