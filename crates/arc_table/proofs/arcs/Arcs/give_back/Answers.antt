use Rattle.std.proofs.Common.{[], refl}
use Rattle.arc_table.proofs.OneEvent.{makes_these, none_made, none_since}
use Rattle.arc_table.proofs.arcs.Arcs.give_back.Goals as goal

pub give_both-requires-clause-made : goal.give_both-requires-clause-made
give_both-requires-clause-made g c =
    let m = g.C.Keeps in
    none_made m c.args.self.now.config c.args.key c.args.both c.args.party.now c.requires.taken c.requires.party.config c.requires.taken.kind.valid c.args.both refl refl refl refl refl

pub returns : goal.returns
returns g c =
    let m = g.C.Keeps in
    let b = c.args.both in
    makes_these m c.args.self.now.config c.args.key b.hand.before.value b.shard b.shard [] c.args.party.now c.give_both.new.party c.requires.taken.new (none_since b.shard) c.give_both.ensures
