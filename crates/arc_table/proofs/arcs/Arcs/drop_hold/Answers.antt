use Rattle.arc_table.specs.Holding.{ptr_of}
use Rattle.arc_table.proofs.Reached.{listed_still}
use Rattle.arc_table.proofs.Taking.{still_party}
use Rattle.arc_table.proofs.arcs.Arcs.drop_hold.Goals as goal

pub drop_taken-requires-clause-party : goal.drop_taken-requires-clause-party
drop_taken-requires-clause-party g c =
    let m = g.C.Keeps in
    let b = c.take_both-both in
    still_party m c.args.self.now c.args.hold.key b.result.hand.own.bucket b.result.shard c.args.party.now b.new.party b.ensures.takes c.requires.party

pub drop_taken-requires-clause-hold : goal.drop_taken-requires-clause-hold
drop_taken-requires-clause-hold g c =
    let m = g.C.Keeps in
    let b = c.take_both-both in
    let h = c.args.hold in
    listed_still m c.args.self.now.config h.key b.result.hand.own.bucket b.result.shard c.args.party.now b.new.party b.ensures.takes c.requires.party.config b.ensures.kind.valid h.owner (ptr_of h) c.requires.hold
