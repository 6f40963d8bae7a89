-- What one caller's run made of the cache device, where there is one, and of none.
use Rattle.std.proofs.Common.{◌≡◌, ℕ, List, [], length, Option, Some, None, IfSome, Result, Ok, Err, refl, ap, ◌∙◌}
use Rattle.std.specs.Prelude.{IfOk}
use Rattle.vdev_io.specs.declared.device.CacheDev.{Ghosts as DeviceGhosts}
use Rattle.vdev_io.specs.declared.pool.Pool.{Ghosts}
use Rattle.vdev_io.specs.Calls.{Call}
use Rattle.arc_core.specs.declared.served.Restored.{Restored}
use Rattle.trace_text.specs.declared.reply.Reply.{Reply}
use Rattle.trace_text.specs.declared.trace.Trace.{Trace}
use Rattle.arc_table.specs.Ended.{Ended}
use Rattle.blk_ptr.specs.declared.memory.NoMemory.{NoMemory}
use Rattle.trace_run.specs.one_caller.Alone.{LinesAlone, RanAlone}
use Rattle.trace_run.specs.one_caller.Asking.{AsksLines}
use Rattle.trace_run.specs.one_caller.Lent.{AsksLent, ReadsAlone}
use Rattle.trace_run.specs.Restores.{restored_shard}
use Rattle.trace_run.proofs.one_caller.AlonePlainLemmas.{plain-alone, plain-unlent}

-- what is so of any bytes that are told
if-told : (told : Option (List ℕ)) (F : List ℕ → Type 0) → ((bytes : List ℕ) → told ≡ Some bytes → F bytes) → IfSome told F
if-told None F each = tt
if-told (Some bytes) F each = each bytes refl

module _ {C P D E : Type 0} (pools : Ghosts P) (devices : DeviceGhosts D) (others : DeviceGhosts E) (pool_law : (p : P) (image : List ℕ) → pools.told p ≡ Some image → length image ≡ pools.size p)
    (law : (dev : D) (image : List ℕ) → devices.told dev ≡ Some image → length image ≡ devices.size dev) (trace : Trace) (restored : List Restored) (replies : List Reply) (before after : P)
    (lines : LinesAlone C pools before after trace restored replies) (calls : List Call) where
  told-first : (image : List ℕ) → pools.told before ≡ Some image → pools.told lines.first.pool ≡ Some image
  told-first image told = ap pools.told lines.from ∙ told

  -- over a device that was started
  pub ready-alone : (x y : D) → AsksLines devices trace.config.shards trace.blocks (restored_shard trace.config restored) [] trace.ops replies calls x y → ReadsAlone pools devices before trace restored replies (Some x) (Some y)
  ready-alone x y asks = record {
    calls = calls;
    asks = asks;
    plain = if-told (pools.told before) _ (λ image told. if-told (devices.told x) _ (λ bytes device_told.
        plain-alone pools devices trace restored replies lines.first lines.last calls x y lines.lines lines.alone lines.none lines.opens asks image (told-first image told) (pool_law lines.first.pool image (told-first image told))
        bytes device_told (law x bytes device_told)));
  }

  -- and over none
  pub unlent-alone : (x y : E) → others.size x ≡ 0 → AsksLines others trace.config.shards trace.blocks (restored_shard trace.config restored) [] trace.ops replies calls x y → ReadsAlone pools devices before trace restored replies None None
  unlent-alone x y short asks = record {
    calls = [];
    asks = refl;
    plain = if-told (pools.told before) _ (λ image told.
        plain-unlent pools others trace restored replies lines.first lines.last calls x y lines.lines lines.alone lines.none lines.opens asks image (told-first image told) (pool_law lines.first.pool image (told-first image told)) short);
  }

-- what a run over a device comes to, whatever else is of it
module _ {C P D E T : Type 0} (pools : Ghosts P) (devices : DeviceGhosts D) (others : DeviceGhosts E) (pool_law : (p : P) (image : List ℕ) → pools.told p ≡ Some image → length image ≡ pools.size p)
    (law : (dev : D) (image : List ℕ) → devices.told dev ≡ Some image → length image ≡ devices.size dev) (trace : Trace) (restored : List Restored) (before after : P) (replies : T → List Reply) (closed : T → Ended C) where
  pub ready-read : (x y : D) (result : Result T NoMemory) → IfOk result (λ ran. RanAlone pools before after trace restored (replies ran) (closed ran))
      → IfOk result (λ ran. (calls : List Call) × AsksLines devices trace.config.shards trace.blocks (restored_shard trace.config restored) [] trace.ops (replies ran) calls x y)
      → IfOk result (λ ran. ReadsAlone pools devices before trace restored (replies ran) (Some x) (Some y))
  ready-read x y (Err e) ran asks = tt
  ready-read x y (Ok t) ran asks = ready-alone pools devices others pool_law law trace restored (replies t) before after ran.lines asks.0 x y asks.1

  pub unlent-read : (x y : E) → others.size x ≡ 0 → (result : Result T NoMemory) → IfOk result (λ ran. RanAlone pools before after trace restored (replies ran) (closed ran))
      → IfOk result (λ ran. (calls : List Call) × AsksLines others trace.config.shards trace.blocks (restored_shard trace.config restored) [] trace.ops (replies ran) calls x y)
      → IfOk result (λ ran. ReadsAlone pools devices before trace restored (replies ran) None None)
  unlent-read x y short (Err e) ran asks = tt
  unlent-read x y short (Ok t) ran asks = unlent-alone pools devices others pool_law law trace restored (replies t) before after ran.lines asks.0 x y short asks.1

-- no device is asked nothing
pub unlent-calls : {D : Type 0} (devices : DeviceGhosts D) (trace : Trace) (restored : List Restored) (replies : List Reply) (calls : List Call) (back : Option D) → AsksLent devices trace restored replies calls None back → calls ≡ []
unlent-calls devices trace restored replies calls None asks = asks
unlent-calls devices trace restored replies calls (Some back) asks = absurd asks
