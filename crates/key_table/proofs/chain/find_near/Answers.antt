use Rattle.std.proofs.Common.{sym}
use Rattle.key_table.proofs.chain.find_near.Goals as goal

pub returns-in-Some-clause-found : goal.returns-in-Some-clause-found
returns-in-Some-clause-found g c = (c.in-Some.slot.now, sym c.in-Some.ensures, c.is.ensures.0 c.if-is.true)
