-- The reads of the cache device that a caller's lines ask for, by their replies.
use Rattle.std.specs.Prelude.{◌≡◌, ◌<◌, ◌≤◌, ◌+◌, ℕ, List, slice_get, Result, Ok, Err}
use Rattle.std.specs.Option.{option_map_or}
use Rattle.blk_ptr.specs.declared.ptr.Ptr.{Ptr}
use Rattle.arc_core.specs.declared.served.ReadFault.{ReadFault}
use Rattle.arc_core.specs.declared.served.ReadFault.TheVariants as fault
use Rattle.arc_core.specs.declared.served.Served.TheVariants as served
use Rattle.vdev_io.specs.declared.device.CacheDev.{Ghosts}
use Rattle.vdev_io.specs.Calls.{Call, Gave, MakesDeviceCall, Read, answered}
use Rattle.trace_text.specs.declared.op.Op.{Op}
use Rattle.trace_text.specs.declared.op.Op.TheVariants as ops
use Rattle.trace_text.specs.declared.reply.Reply.{Reply}
use Rattle.trace_run.specs.declared.get.Got.{Got}
use Rattle.trace_run.specs.Effects.{Effect, Answered, GivenBack, NoEffect, PoolRefused, effect_of}

-- how many bytes a line asks for: those of its block, and none where it asks for no block
abbrev pub size_asked : List Ptr → Op → ℕ
size_asked blocks (ops.Read n t x window) = option_map_or (λ ptr. ptr.key.size) (slice_get blocks x) 0
size_asked blocks (ops.Hold n t x) = option_map_or (λ ptr. ptr.key.size) (slice_get blocks x) 0
size_asked blocks (ops.Drop n x) = 0
size_asked blocks (ops.Get n t at window) = 0
size_asked blocks (ops.Put n t at size fill) = 0
size_asked blocks (ops.Patch n t at from bytes) = 0
size_asked blocks (ops.Pin n t at) = 0
size_asked blocks (ops.Unpin n at) = 0
size_asked blocks ops.Feed = 0
size_asked blocks (ops.Txg t) = 0
size_asked blocks (ops.Cap c) = 0

module _ {D : Type 0} (devices : Ghosts D) where
  -- the device was asked once, for so many bytes, at least one, that lie inside it, and answered so; nothing else was done with it
  pub record WasReadOnce (n : ℕ) (answer : Call) (old new : D) : Type 0 where
    pub place : ℕ
    pub some : 0 < n
    pub inside : place + n ≤ devices.size old
    pub call : MakesDeviceCall devices (answered answer (Read place n)) old new

  -- so it was, or it was not asked
  pub data WasReadAtMostOnce (n : ℕ) (old new : D) : Type 0 where
    never : new ≡ old → WasReadAtMostOnce n old new
    once : (answer : Call) → WasReadOnce n answer old new → WasReadAtMostOnce n old new

  -- What a read of so many bytes asked of the device, by what it came to. Bytes from there took one read, which was done. Where the pool was asked, the
  -- device may have been asked before, once: it failed, or gave other bytes, or what it gave came too late. A hit asks for nothing, nor does a read past the cache.
  abbrev pub AsksFor : ℕ → Effect → (old new : D) → Type 0
  AsksFor n (Answered served.Hit) old new = new ≡ old
  AsksFor n (Answered served.Pool) old new = WasReadAtMostOnce n old new
  AsksFor n (Answered served.L2) old new = WasReadOnce n Gave old new
  AsksFor n (Answered served.Past) old new = new ≡ old
  AsksFor n GivenBack old new = new ≡ old
  AsksFor n (PoolRefused call) old new = WasReadAtMostOnce n old new
  AsksFor n NoEffect old new = new ≡ old

  -- the same of a read before its line is answered; of want of memory nothing is said
  abbrev pub GetAsks : ℕ → Result Got ReadFault → (old new : D) → Type 0
  GetAsks n (Ok got) old new = AsksFor n (Answered got.served) old new
  GetAsks n (Err (fault.PoolFault)) old new = WasReadAtMostOnce n old new
  GetAsks n (Err (fault.Mismatch found)) old new = WasReadAtMostOnce n old new
  GetAsks n (Err (fault.Key why)) old new = new ≡ old
  GetAsks n (Err (fault.NoMemory)) old new = Unit {0}

  -- what a line asked of the device
  abbrev pub LineAsks : List Ptr → Op → Reply → (old new : D) → Type 0
  LineAsks blocks op reply old new = AsksFor (size_asked blocks op) (effect_of reply) old new
