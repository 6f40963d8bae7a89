use Rattle.std.proofs.Common.{◌≡◌}
use Rattle.cache_tests.proofs.turns.count_up.Given as goal

abbrev pub invariant-loop : goal.invariant-loop
invariant-loop g l = l.party ≡ l.fn.party
