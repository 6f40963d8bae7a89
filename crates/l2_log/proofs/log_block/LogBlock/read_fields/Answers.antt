use Rattle.std.proofs.Common.{◌∙◌}
use Rattle.std.proofs.lemmas.Result.{err_from_is_err_and}
use Rattle.l2_log.proofs.Pointers.{pointer_rule}
use Rattle.l2_log.proofs.Logs.{broken_entries, broken_log_end}
use Rattle.l2_log.proofs.log_block.LogBlock.read_fields.Goals as goal

pub returns-in_err-entries : goal.returns-in_err-entries
returns-in_err-entries c =
    let p = err_from_is_err_and c.from_residual-in_err-entries.result c.from_residual-in_err-entries.ensures.1 in
    rw (p.1, p.2) (broken_entries c.args.bytes.now _ _ c.word_at-count.ensures c.requires c.in_ok-check_zeros.ensures
    (pointer_rule c.args.bytes.now 64 _ c.in_ok-prev.ensures) (rw c.word_at-digests.ensures at c.in_err-entries.ensures))

pub returns-in_err-check_zeros-2 : goal.returns-in_err-check_zeros-2
returns-in_err-check_zeros-2 c =
    let p = err_from_is_err_and c.from_residual-in_err-check_zeros-2.result c.from_residual-in_err-check_zeros-2.ensures.1 in
    rw (p.1, p.2) (broken_log_end c.args.bytes.now c.in_ok-entries.entries.items _ _ (c.in_ok-entries.ensures.0 ∙ c.word_at-count.ensures)
    (rw (← c.word_at-count.ensures, ← c.word_at-digests.ensures) c.entry_place.ensures.place) c.requires c.in_ok-check_zeros.ensures
    (pointer_rule c.args.bytes.now 64 _ c.in_ok-prev.ensures) (rw c.word_at-digests.ensures at c.in_ok-entries.ensures.2)
    (rw c.word_at-digests.ensures at c.in_ok-entries.ensures.1) c.in_err-check_zeros-2.ensures)
