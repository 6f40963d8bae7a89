use Rattle.std.proofs.Common.{ℕ, ◌*◌, ◌<◌, arith, ap, ◌∙◌, List}
use Rattle.blk_ptr.specs.Ptr.{sha256_of}
use Rattle.l2_log.proofs.Numbers.{kept_word, kept_zeros, kept_zeros_behind, front_same}
use Rattle.l2_log.proofs.Pointers.{kept_pointer}
use Rattle.l2_log.proofs.Headers.{one_header}
use Rattle.l2_log.proofs.header.DevHeader.write.Goals as goal

pub returns-clause-spelled : goal.returns-clause-spelled
returns-clause-spelled c =
    let ka = c.put_words.ensures.kept in
    let kb = c.put_pointer.ensures.kept in
    let kd = c.put_pointer-2.ensures.kept in
    let ke = c.put_digest.ensures.kept in
    let numbers = λ (i : ℕ) (lt : i < 9).
    kept_word (8 * i) _ ke (omega arith) (kept_word (8 * i) _ kd (omega arith) (kept_word (8 * i) _ kb (omega arith) (c.put_words.ensures.words i lt))) in
    record {
      whole = omega arith;
      magic = numbers 0 (omega arith);
      version = numbers 1 (omega arith);
      start = numbers 2 (omega arith);
      end = numbers 3 (omega arith);
      hand = numbers 4 (omega arith);
      evict = numbers 5 (omega arith);
      top = numbers 6 (omega arith);
      lap = numbers 7 (omega arith);
      most = numbers 8 (omega arith) ∙ c.most_of.ensures;
      zeros = kept_zeros 72 128 ke (omega arith) (kept_zeros 72 128 kd (omega arith) (kept_zeros 72 128 kb (omega arith)
          (kept_zeros_behind 72 128 ka (omega arith) (λ k ge lt. c.clear.ensures k (omega arith) (omega arith)))));
      newest = kept_pointer 128 _ ke (omega arith) (kept_pointer 128 _ kd (omega arith) c.put_pointer.ensures.ptr);
      second = kept_pointer 192 _ ke (omega arith) c.put_pointer-2.ensures.ptr;
      zeros_behind = kept_zeros 256 480 ke (omega arith) (kept_zeros_behind 256 480 kd (omega arith) (kept_zeros_behind 256 480 kb (omega arith)
          (kept_zeros_behind 256 480 ka (omega arith) (λ k ge lt. c.clear.ensures k (omega arith) (omega arith)))));
      sealed = c.put_digest.ensures.digest ∙ c.digest_before-digest.ensures ∙ ap (λ (bytes : List ℕ). sha256_of bytes)
          (front_same 480 c.put_pointer-2.new.out c.put_digest.new.out ke.len ke.before);
    }

pub returns-clause-only : goal.returns-clause-only
returns-clause-only c =
    λ bytes are is. one_header c.args.self.now bytes c.put_digest.new.out are c.put_digest.ensures.bytes is (returns-clause-spelled c)
