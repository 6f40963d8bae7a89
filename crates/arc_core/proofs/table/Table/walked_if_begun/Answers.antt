use Rattle.std.proofs.Common.{subst}
use Rattle.arc_core.specs.FeedWalk.{IsWalk}
use Rattle.arc_core.proofs.table.Table.walked_if_begun.Goals as goal

pub walked-requires : goal.walked-requires
walked-requires c = subst (IsWalk c.args.self.now.shard) c.in-Some.is c.requires

pub returns-in-Some : goal.returns-in-Some
returns-in-Some c = c.walked.ensures.walk
