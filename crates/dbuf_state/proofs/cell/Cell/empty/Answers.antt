use Rattle.std.proofs.Common.{arith}
use Rattle.dbuf_state.proofs.FitLemmas.{emptying-done, emptying-more, emptying-none, emptying-within}
use Rattle.dbuf_state.proofs.cell.Cell.empty.Goals as goal

pub clear-requires-clause-within : goal.clear-requires-clause-within
clear-requires-clause-within g c = emptying-within c.loop-place.place c.len-place-end.result c.args.self.now c.loop-place.self c.loop-place.invariant c.loop-place-test.true

pub clear-requires-clause-none : goal.clear-requires-clause-none
clear-requires-clause-none g c = emptying-none c.loop-place.place c.len-place-end.result c.args.self.now c.loop-place.self c.loop-place.invariant c.loop-place-test.true

pub loop-place-preserved : goal.loop-place-preserved
loop-place-preserved g c = emptying-more c.loop-place.place c.len-place-end.result c.args.self.now c.loop-place.self c.clear.new.self c.loop-place.invariant c.loop-place-test.true c.clear.ensures

pub returns : goal.returns
returns g c = emptying-done c.loop-place.place c.len-place-end.result c.args.self.now c.loop-place.self c.loop-place.invariant (omega (arith, c.loop-place-test.false))
