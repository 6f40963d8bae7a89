use Rattle.std.proofs.Common.{ℕ, ◌*◌, ap, ◌∙◌}
use Rattle.blk_ptr.specs.declared.digest.Digest.{Digest}
use Rattle.blk_ptr.specs.declared.ptr.Ptr.{Ptr}
use Rattle.trace_text.specs.Generator.{generated_block}
use Rattle.trace_text.proofs.GeneratorLemmas.{made-more}
use Rattle.trace_text.proofs.generator.zero_blocks.Goals as goal

pub loop-number-preserved : goal.loop-number-preserved
loop-number-preserved c =
    let ptr = λ (n : ℕ) (digest : Digest). let made : Ptr = record { key = record { offset = n * 512; size = 512; birth = 1 }; digest = digest } in made in
    made-more generated_block c.loop-number.blocks.items c.push.new.self.items c.loop-number.number (ptr c.from.result c.zero_digest-digest.result) c.loop-number.invariant
    (ap (ptr c.from.result) c.zero_digest-digest.ensures ∙ ap (λ n. generated_block n) c.from.ensures) c.in_ok-push.ensures.items
