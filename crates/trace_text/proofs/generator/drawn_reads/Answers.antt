use Rattle.std.proofs.Common.{refl, ap, ◌+◌}
use Rattle.trace_text.specs.Generator.{generated_read}
use Rattle.trace_text.proofs.GeneratorLemmas.{draw-more, made-more, read-drawn}
use Rattle.trace_text.proofs.generator.drawn_reads.Goals as goal

pub loop-number-preserved : goal.loop-number-preserved
loop-number-preserved c =
    let next = draw-more c.args.seed c.loop-number.number c.loop-number.drawn c.next-drawn.result c.loop-number.invariant.drawn c.next-drawn.ensures.next in
    record {
      made = made-more (generated_read c.args.seed c.args.blocks) c.loop-number.reads.items c.push.new.self.items c.loop-number.number _ c.loop-number.invariant.made
          (read-drawn c.args.seed c.args.blocks c.loop-number.number _ c.next-drawn.result _ _ next refl (ap (λ n. n + 1) c.from-t.ensures) refl refl) c.in_ok-push.ensures.items;
      drawn = next;
      small = c.next-drawn.ensures.small;
    }
