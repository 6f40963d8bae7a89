use Rattle.std.proofs.Common.{◌≡◌, map}
use Rattle.std.specs.List.{range_with_len}
use Rattle.trace_text.specs.Generator.{generated_block}
use Rattle.trace_text.proofs.generator.zero_blocks.Given as goal

abbrev pub invariant-loop-number : goal.invariant-loop-number
invariant-loop-number l = l.blocks.items ≡ map generated_block (range_with_len 0 l.number)
