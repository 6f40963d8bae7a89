use Rattle.std.proofs.Common.{◌*◌, ◌+◌, arith, below_more}
use Rattle.l2_log.proofs.Numbers.{kept_word, kept_joined}
use Rattle.l2_log.proofs.words.put_words.Goals as goal

pub loop-i-preserved : goal.loop-i-preserved
loop-i-preserved c =
    let at = 8 * c.loop-i.i in
    let kept = c.put_word.ensures.kept in
    record {
      words = below_more _ _
          (λ k h. kept_word (8 * k) _ kept (omega arith) (c.loop-i.invariant.words k h))
          c.put_word.ensures.word;
      kept = kept_joined 0 at at (at + 8) 0 (8 * (c.loop-i.i + 1)) c.args.out.now c.loop-i.out c.put_word.new.out
          c.loop-i.invariant.kept kept (omega arith) (omega arith) (omega arith) (omega arith);
    }
