use Rattle.arc_table.specs.InHand.{made_since}
use Rattle.arc_table.specs.declared.item.Item.TheVariants as item
use Rattle.arc_table.proofs.Boards.{given_same}
use Rattle.arc_table.proofs.Taking.{in_range, still_taken}
use Rattle.arc_table.proofs.arcs.Arcs.give_both.Goals as goal

pub give_shard-requires-clause-range : goal.give_shard-requires-clause-range
give_shard-requires-clause-range g c =
    let m = g.C.Keeps in
    in_range m c.args.self.now.config c.args.key (made_since c.args.both.hand.before.value c.args.both.shard) c.args.both c.args.party.now c.requires.made c.requires.party.config

pub give-requires-clause-rule : goal.give-requires-clause-rule
give-requires-clause-rule g c =
    let m = g.C.Keeps in
    given_same m c.give_shard.new.party c.args.both.hand.own.turn (item.Bucket c.args.both.hand.own.bucket)
    (still_taken m c.args.self.now.config c.args.key (made_since c.args.both.hand.before.value c.args.both.shard) c.args.both c.args.party.now c.requires.made c.requires.party.config c.give_shard.new.party c.give_shard.ensures).1
