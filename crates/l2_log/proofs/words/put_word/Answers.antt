use Rattle.std.proofs.Common.{arith}
use Rattle.l2_log.proofs.Numbers.{word_written}
use Rattle.l2_log.proofs.words.put_word.Goals as goal

pub returns-clause-word : goal.returns-clause-word
returns-clause-word c =
    word_written c.args.at c.args.number c.put_bytes.new.out (omega arith) (rw c.write_u64.ensures at c.put_bytes.ensures.there)
