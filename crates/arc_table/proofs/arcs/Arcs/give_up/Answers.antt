use Rattle.arc_table.specs.Holding.{ptr_of}
use Rattle.arc_table.proofs.Reached.{listed_still}
use Rattle.arc_table.proofs.arcs.Arcs.give_up.Goals as goal

pub release_taken-requires-clause-hold : goal.release_taken-requires-clause-hold
release_taken-requires-clause-hold g c =
    let m = g.C.Keeps in
    let b = c.take_both-both in
    let h = c.args.hold in
    listed_still m c.args.self.now.config h.key b.result.hand.own.bucket b.result.shard c.args.party.now b.new.party b.ensures.takes c.requires.party.config b.ensures.kind.valid h.owner (ptr_of h) c.requires.hold

pub returns : goal.returns
returns g c =
    let b = c.take_both-both in
    let r = c.release_taken.ensures in
    (r.0, record { chain = b.result.hand.own.bucket; before = b.result.shard; reached = b.new.party; takes = b.ensures.takes; makes = r.1 })
