use Rattle.std.proofs.Common.{◌+◌, arith}
use Rattle.l2_log.proofs.Numbers.{kept_word, kept_zeros, kept_zeros_behind}
use Rattle.l2_log.proofs.pointer_bytes.put_pointer.Goals as goal
use Rattle.l2_log.specs.PointerBytes.{IsPointer}

pub returns-in-Some-clause-ptr : goal.returns-in-Some-clause-ptr
returns-in-Some-clause-ptr c =
    let at = c.args.at in
    let k1 = c.put_word.ensures.kept in
    let k2 = c.put_word-in-Some.ensures.kept in
    let k3 = c.put_word-in-Some-2.ensures.kept in
    let k4 = c.put_digest.ensures.kept in
    let there : IsPointer c.put_digest.new.out at c.in-Some.ptr = record {
      place = kept_word at _ k4 (omega arith) (kept_word at _ k3 (omega arith) (kept_word at _ k2 (omega arith) c.put_word.ensures.word));
      length = kept_word (at + 8) _ k4 (omega arith) (kept_word (at + 8) _ k3 (omega arith) c.put_word-in-Some.ensures.word);
      count = kept_word (at + 16) _ k4 (omega arith) c.put_word-in-Some-2.ensures.word;
      zeros = kept_zeros (at + 24) (at + 32) k4 (omega arith) (kept_zeros_behind (at + 24) (at + 32) k3 (omega arith)
          (kept_zeros_behind (at + 24) (at + 32) k2 (omega arith) (kept_zeros_behind (at + 24) (at + 32) k1 (omega arith)
          (λ k ge lt. c.requires.zero k (omega arith) (omega arith)))));
      digest = c.put_digest.ensures.digest;
    } in
    rw c.in-Some.is there
