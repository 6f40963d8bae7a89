use Rattle.std.proofs.Common.{ℕ, ◌*◌, ◌<◌, length, List, ap, arith, ◌∙◌}
use Rattle.l2_log.specs.declared.entry.LogEntry.{LogEntry}
use Rattle.l2_log.proofs.Numbers.{kept_word, kept_zeros, kept_zeros_behind}
use Rattle.l2_log.proofs.Pointers.{kept_pointer}
use Rattle.l2_log.proofs.Logs.{one_log_block}
use Rattle.l2_log.proofs.log_block.LogBlock.write.Goals as goal

pub returns-clause-spelled : goal.returns-clause-spelled
returns-clause-spelled c =
    let ka = c.put_words.ensures.kept in
    let kb = c.put_pointer.ensures.kept in
    let ke = c.put_entries.ensures.kept in
    let numbers = λ (i : ℕ) (lt : i < 4).
    kept_word (8 * i) _ ke (omega arith) (kept_word (8 * i) _ kb (omega arith) (c.put_words.ensures.words i lt)) in
    record {
      whole = omega arith;
      magic = numbers 0 (omega arith);
      lap = numbers 1 (omega arith);
      count = numbers 2 (omega arith) ∙ ap (λ (es : List LogEntry). length es) c.as_slice-entries.ensures.entries;
      version = numbers 3 (omega arith) ∙ c.stored_of.ensures;
      zeros = kept_zeros 32 64 ke (omega arith) (kept_zeros 32 64 kb (omega arith)
          (kept_zeros_behind 32 64 ka (omega arith) (λ k ge lt. c.clear.ensures k (omega arith) (omega arith))));
      prev = kept_pointer 64 _ ke (omega arith) c.put_pointer.ensures.ptr;
      entries = rw c.as_slice-entries.ensures.entries at c.put_entries.ensures.entries;
      zeros_behind = rw c.as_slice-entries.ensures.entries at c.put_entries.ensures.zeros;
    }

pub returns-clause-only : goal.returns-clause-only
returns-clause-only c =
    λ bytes are is. one_log_block c.args.self.now bytes c.put_entries.new.out are c.put_entries.ensures.bytes is (returns-clause-spelled c)
