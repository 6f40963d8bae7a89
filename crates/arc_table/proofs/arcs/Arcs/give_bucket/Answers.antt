use Rattle.arc_table.specs.declared.item.Item.TheVariants as item
use Rattle.arc_table.proofs.Boards.{given_same}
use Rattle.arc_table.proofs.arcs.Arcs.give_bucket.Goals as goal

pub give-requires-clause-rule : goal.give-requires-clause-rule
give-requires-clause-rule g c =
    given_same g.C.Keeps c.args.party.now c.args.taken.turn (item.Bucket c.args.taken.bucket) c.requires.held.same
