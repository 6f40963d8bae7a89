-- The traces that the generator makes: reads of drawn blocks over a pool of zero bytes.
use Rattle.std.specs.Prelude.{◌≡◌, ℕ, zero, suc, [], ◌+◌, ◌*◌, ◌/◌, ◌%◌, ◌^◌, map, max, replicate}
use Rattle.std.specs.List.{range_with_len}
use Rattle.std.proofs.Common.{lit≤}
use Rattle.blk_ptr.specs.Ptr.{sha256_of}
use Rattle.blk_ptr.specs.declared.digest.Digest.{Digest}
use Rattle.blk_ptr.specs.declared.ptr.Ptr.{Ptr}
use Rattle.arc_core.specs.declared.config.Config.{Config}
use Rattle.trace_text.specs.declared.op.Op.{Op}
use Rattle.trace_text.specs.declared.op.Op.TheVariants.{Read}
use Rattle.trace_text.specs.declared.trace.Trace.{Trace}
use Rattle.dbuf_state.specs.declared.window.Window.{Window}

-- the draw after this one (the example of rand in the C standard, kept to 31 bits)
abbrev pub next_draw : ℕ → ℕ
next_draw x = (x * 1103515245 + 12345) % 2 ^ 31

-- the draws from a seed, which is draw 0
abbrev pub draw : ℕ → ℕ → ℕ
draw seed zero = seed
draw seed (suc i) = next_draw (draw seed i)

-- a window that shows nothing
abbrev pub empty_window : Window
empty_window = record { at = 0; len = 0; short = lit≤ tt }

-- the digest of 512 zero bytes
unfoldable pub zero_digest : Digest
zero_digest = sha256_of (replicate 512 0)

-- block number i: 512 zero bytes, behind those of the blocks before it
abbrev pub generated_block : ℕ → Ptr
generated_block i = record {
  key = record { offset = i * 512; size = 512; birth = 1 };
  digest = zero_digest;
}

-- operation number i reads the drawn block at tick i + 1
abbrev pub generated_read : ℕ → ℕ → ℕ → Op
generated_read seed blocks i = Read 0 (i + 1) (draw seed (suc i) / 65536 % blocks) empty_window

-- one caller, and one shard that has room for a quarter of the blocks, or for 4,096 bytes where that is more
abbrev pub generated_sizes : ℕ → Config
generated_sizes blocks = record {
  callers = 1;
  shards = 1;
  buckets = 256;
  cells = 1;
  c = max 4096 (blocks * 128);
  mintime = 0;
  dbuf_bytes = 0;
  bounds = record { write_max = 8388608; headroom = 2 };
}

-- the trace of this seed, with so many blocks and so many operations
pub record IsGenerated (seed block_count op_count : ℕ) (trace : Trace) : Type 0 where
  pub config : trace.config ≡ generated_sizes block_count
  pub blocks : trace.blocks ≡ map generated_block (range_with_len 0 block_count)
  pub objects : trace.objects ≡ []
  pub ops : trace.ops ≡ map (generated_read seed block_count) (range_with_len 0 op_count)
