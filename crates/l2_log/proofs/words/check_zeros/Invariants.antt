use Rattle.l2_log.specs.Bytes.{AreZero}
use Rattle.l2_log.proofs.words.check_zeros.Given as goal

abbrev pub invariant-loop-i : goal.invariant-loop-i
invariant-loop-i l = AreZero l.from l.i l.bytes
