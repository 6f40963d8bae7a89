use Rattle.arc_table.specs.Holding.{ptr_of}
use Rattle.arc_table.proofs.Reached.{listed_still}
use Rattle.arc_table.proofs.arcs.Arcs.try_drop.Goals as goal

pub drop_taken-requires-clause-hold : goal.drop_taken-requires-clause-hold
drop_taken-requires-clause-hold g c =
    let m = g.C.Keeps in
    let b = c.in-Taken.both in
    let h = c.args.hold in
    listed_still m c.args.self.now.config h.key b.hand.own.bucket b.shard c.args.party.now c.try_both.new.party c.in-Taken.ensures.takes c.requires.party.config c.in-Taken.ensures.kind.valid h.owner (ptr_of h) c.requires.hold
