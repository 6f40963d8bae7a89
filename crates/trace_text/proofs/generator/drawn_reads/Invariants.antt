use Rattle.std.proofs.Common.{◌≡◌, ◌<◌, ◌^◌, map}
use Rattle.std.specs.List.{range_with_len}
use Rattle.trace_text.specs.Generator.{draw, generated_read}
use Rattle.trace_text.proofs.generator.drawn_reads.Given as goal

abbrev pub invariant-loop-number : goal.invariant-loop-number
invariant-loop-number l = record {
  made : l.reads.items ≡ map (generated_read l.seed l.blocks) (range_with_len 0 l.number);
  drawn : l.drawn ≡ draw l.seed l.number;
  small : l.drawn < 2 ^ 31;
}
