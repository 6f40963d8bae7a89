-- What one caller's run made of the cache device that it was lent, where there is one.
use Rattle.std.specs.Prelude.{◌≡◌, ℕ, List, [], Option, Some, None, IfSome}
use Rattle.vdev_io.specs.declared.device.CacheDev.{Ghosts as DeviceGhosts}
use Rattle.vdev_io.specs.declared.pool.Pool.{Ghosts}
use Rattle.vdev_io.specs.Calls.{Call}
use Rattle.arc_core.specs.declared.served.Restored.{Restored}
use Rattle.trace_text.specs.declared.reply.Reply.{Reply}
use Rattle.trace_text.specs.declared.trace.Trace.{Trace}
use Rattle.trace_run.specs.Effects.{calls_of_all}
use Rattle.trace_run.specs.one_caller.Asking.{AsksLines}
use Rattle.trace_run.specs.one_caller.PlainReport.{ArePlainReplies}
use Rattle.trace_run.specs.one_caller.PlainRun.{images, no_contents, replies_to}
use Rattle.trace_run.specs.Restores.{restored_shard}

module _ {D : Type 0} (devices : DeviceGhosts D) where
  -- the bytes that the device tells: none is told as one of no bytes
  abbrev pub told_lent : Option D → Option (List ℕ)
  told_lent None = Some []
  told_lent (Some device) = devices.told device

  -- The device was asked by the operations with their replies, over shards to which these keys were restored, and answered so; nothing else was done with
  -- it. Where there is none, nothing was.
  abbrev pub AsksLent : Trace → List Restored → List Reply → List Call → (lent back : Option D) → Type 0
  AsksLent trace restored replies calls None None = calls ≡ []
  AsksLent trace restored replies calls None (Some back) = ⊥
  AsksLent trace restored replies calls (Some lent) None = ⊥
  AsksLent trace restored replies calls (Some lent) (Some back) = AsksLines devices trace.config.shards trace.blocks (restored_shard trace.config restored) [] trace.ops replies calls lent back

-- The device was asked just so, and over a pool and a device that tell their bytes the replies are those of the plain run, with the answers of both, but
-- for other contents of one digest.
pub record ReadsAlone {P D : Type 0} (pools : Ghosts P) (devices : DeviceGhosts D) (before : P) (trace : Trace) (restored : List Restored) (replies : List Reply) (lent back : Option D) : Type 0 where
  pub calls : List Call
  pub asks : AsksLent devices trace restored replies calls lent back
  pub plain : IfSome (pools.told before) (λ pool. IfSome (told_lent devices lent) (λ device.
      ArePlainReplies trace.blocks trace.ops (replies_to (images pool device) trace.config.shards trace.blocks (restored_shard trace.config restored) [] no_contents trace.ops (calls_of_all replies) calls) replies))
