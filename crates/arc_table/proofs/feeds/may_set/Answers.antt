use Rattle.arc_table.proofs.feeder.FeedEvents.{may_is}
use Rattle.arc_table.proofs.feeds.may_set.Goals as goal

pub returns : goal.returns
returns c = may_is c.legal.result c.args.n c.args.key c.args.shard.now.now c.requires.number c.requires.writing c.legal.ensures
