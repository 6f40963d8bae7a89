use Rattle.std.proofs.Common.{◌≡◌, take}
use Rattle.std.specs.List.{AllByRecursion}
use Rattle.arc_check.specs.Judging.{IsLegalFrom, ends_from, log_opening}
use Rattle.arc_check.proofs.judge.check.Given as goal

-- the histories so far are legal, and their ends are told
abbrev pub invariant-loop-number : goal.invariant-loop-number
invariant-loop-number l = record {
  legal : AllByRecursion (IsLegalFrom (log_opening l.log.config)) (take l.number l.log.histories);
  ends : l.ends.items ≡ ends_from (log_opening l.log.config) (take l.number l.log.histories);
}
