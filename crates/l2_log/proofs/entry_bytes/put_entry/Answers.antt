use Rattle.std.proofs.Common.{◌+◌, arith}
use Rattle.l2_log.specs.Rules.{fields_len, entry_len, is_there}
use Rattle.l2_log.proofs.Numbers.{kept_word, kept_zeros_behind}
use Rattle.l2_log.proofs.EntryRules.{entry_lens, put_pad}
use Rattle.l2_log.proofs.entry_bytes.put_entry.Goals as goal

pub returns-clause-entry : goal.returns-clause-entry
returns-clause-entry c =
    let at = c.args.at in
    let d = is_there c.args.entry.now.digest in
    let lens = entry_lens d in
    let least = lens.least in
    let most = lens.most in
    let k1 = c.put_word.ensures.kept in
    let k2 = c.put_word-2.ensures.kept in
    let k3 = c.put_word-3.ensures.kept in
    let k4 = c.put_word-4.ensures.kept in
    let k5 = c.put_digest_if_any.ensures.kept in
    record {
      offset = kept_word at _ k5 (omega arith) (kept_word at _ k4 (omega arith) (kept_word at _ k3 (omega arith) (kept_word at _ k2 (omega arith) c.put_word.ensures.word)));
      size = kept_word (at + 8) _ k5 (omega arith) (kept_word (at + 8) _ k4 (omega arith) (kept_word (at + 8) _ k3 (omega arith) c.put_word-2.ensures.word));
      birth = kept_word (at + 16) _ k5 (omega arith) (kept_word (at + 16) _ k4 (omega arith) c.put_word-3.ensures.word);
      place = kept_word (at + 24) _ k5 (omega arith) c.put_word-4.ensures.word;
      digest = c.put_digest_if_any.ensures.digest;
      zeros = put_pad at c.args.entry.now.digest _ _ k5 c.put_digest_if_any.ensures.none
          (kept_zeros_behind (at + fields_len d) (at + entry_len d) k4 (omega arith) (kept_zeros_behind (at + fields_len d) (at + entry_len d) k3 (omega arith)
          (kept_zeros_behind (at + fields_len d) (at + entry_len d) k2 (omega arith) (kept_zeros_behind (at + fields_len d) (at + entry_len d) k1 (omega arith)
          (λ k ge lt. c.requires.zero k (omega arith) lt)))));
    }
