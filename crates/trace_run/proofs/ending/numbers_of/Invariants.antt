use Rattle.std.proofs.Common.{◌≡◌, map, take}
use Rattle.trace_run.proofs.ending.numbers_of.Given as goal

-- the numbers of the parties so far
abbrev pub invariant-loop-party : goal.invariant-loop-party
invariant-loop-party g l = l.numbers.items ≡ map (λ p. p.number) (take l.party-index l.parties)
