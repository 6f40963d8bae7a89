use Rattle.std.proofs.Common.{refl, sym}
use Rattle.std.proofs.lemmas.Result.{err_from_is_err_and}
use Rattle.l2_log.proofs.Headers.{broken_numbers, broken_zeros, broken_newest, broken_second, broken_behind}
use Rattle.l2_log.proofs.Pointers.{pointer_rule}
use Rattle.l2_log.proofs.header.DevHeader.read_fields.Goals as goal

pub returns-in_err-check_numbers : goal.returns-in_err-check_numbers
returns-in_err-check_numbers c =
    let p = err_from_is_err_and c.from_residual.result c.from_residual.ensures.1 in
    rw (p.1, p.2) (broken_numbers c.args.bytes.now _ c.requires.front c.requires.sealed c.in_err-check_numbers.ensures)

pub returns-in_err-check_zeros : goal.returns-in_err-check_zeros
returns-in_err-check_zeros c =
    let p = err_from_is_err_and c.from_residual-in_err-check_zeros.result c.from_residual-in_err-check_zeros.ensures.1 in
    rw (p.1, p.2) (broken_zeros c.args.bytes.now _ c.requires.front c.requires.sealed c.in_ok-check_numbers.ensures c.in_err-check_zeros.ensures)

pub returns-in_err-newest : goal.returns-in_err-newest
returns-in_err-newest c =
    let p = err_from_is_err_and c.from_residual-in_err-newest.result c.from_residual-in_err-newest.ensures.1 in
    rw (p.1, p.2) (broken_newest c.args.bytes.now _ c.requires.front c.requires.sealed c.in_ok-check_numbers.ensures c.in_ok-check_zeros.ensures c.in_err-newest.ensures)

pub returns-in_err-second : goal.returns-in_err-second
returns-in_err-second c =
    let p = err_from_is_err_and c.from_residual-in_err-second.result c.from_residual-in_err-second.ensures.1 in
    rw (p.1, p.2) (broken_second c.args.bytes.now _ c.requires.front c.requires.sealed c.in_ok-check_numbers.ensures c.in_ok-check_zeros.ensures (pointer_rule c.args.bytes.now 128 _ c.in_ok-newest.ensures) c.in_err-second.ensures)

pub returns-in_err-check_zeros-2 : goal.returns-in_err-check_zeros-2
returns-in_err-check_zeros-2 c =
    let p = err_from_is_err_and c.from_residual-in_err-check_zeros-2.result c.from_residual-in_err-check_zeros-2.ensures.1 in
    rw (p.1, p.2) (broken_behind c.args.bytes.now _ c.requires.front c.requires.sealed c.in_ok-check_numbers.ensures c.in_ok-check_zeros.ensures (pointer_rule c.args.bytes.now 128 _ c.in_ok-newest.ensures) (pointer_rule c.args.bytes.now 192 _ c.in_ok-second.ensures) c.in_err-check_zeros-2.ensures)

pub returns : goal.returns
returns c = record {
  whole = c.requires.front.whole;
  magic = c.requires.front.magic;
  version = sym c.word_at.ensures;
  start = (c.in_ok-check_numbers.ensures 16).start refl;
  end = sym c.word_at-2.ensures;
  hand = sym c.word_at-3.ensures;
  evict = sym c.word_at-4.ensures;
  top = sym c.word_at-5.ensures;
  lap = sym c.word_at-6.ensures;
  most = rw c.word_at.ensures ((c.in_ok-check_numbers.ensures 64).most refl);
  zeros = c.in_ok-check_zeros.ensures;
  newest = c.in_ok-newest.ensures;
  second = c.in_ok-second.ensures;
  zeros_behind = c.in_ok-check_zeros-2.ensures;
  sealed = c.requires.sealed;
}

pub invariant_of-result-clause-versioned : goal.invariant_of-result-clause-versioned
invariant_of-result-clause-versioned c = rw c.word_at.ensures c.requires.front.version

pub invariant_of-result-clause-ends : goal.invariant_of-result-clause-ends
invariant_of-result-clause-ends c = rw c.word_at-2.ensures ((c.in_ok-check_numbers.ensures 24).end refl)

pub invariant_of-result-clause-hand_in : goal.invariant_of-result-clause-hand_in
invariant_of-result-clause-hand_in c = rw (c.word_at-2.ensures, c.word_at-3.ensures) ((c.in_ok-check_numbers.ensures 32).hand refl)

pub invariant_of-result-clause-evict_in : goal.invariant_of-result-clause-evict_in
invariant_of-result-clause-evict_in c = rw (c.word_at-2.ensures, c.word_at-4.ensures) ((c.in_ok-check_numbers.ensures 40).evict refl).0

pub invariant_of-result-clause-top_in : goal.invariant_of-result-clause-top_in
invariant_of-result-clause-top_in c = rw (c.word_at-2.ensures, c.word_at-5.ensures) ((c.in_ok-check_numbers.ensures 48).top refl)

pub invariant_of-result-clause-order : goal.invariant_of-result-clause-order
invariant_of-result-clause-order c = rw (c.word_at-3.ensures, c.word_at-4.ensures) ((c.in_ok-check_numbers.ensures 40).evict refl).1

pub invariant_of-result-clause-lapped : goal.invariant_of-result-clause-lapped
invariant_of-result-clause-lapped c = rw c.word_at-6.ensures ((c.in_ok-check_numbers.ensures 56).lap refl)
