use Rattle.std.proofs.Common.{rules}
use Rattle.std.proofs.lemmas.List.{places}
use Rattle.std.proofs.lemmas.Slice.{overwrites}
use Rattle.l2_log.proofs.words.put_bytes.Goals as goal

pub returns-clause-there : goal.returns-clause-there
returns-clause-there c = search (rules, overwrites)

pub returns-clause-kept : goal.returns-clause-kept
returns-clause-kept c = record {
  len = search (rules, overwrites);
  before = λ k ge lt. search (rules, places);
  behind = λ k ge. search (rules, places);
}
