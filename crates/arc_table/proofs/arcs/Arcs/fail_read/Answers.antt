use Rattle.arc_table.proofs.reads.ArriveEvents.{reading_taken}
use Rattle.arc_table.proofs.arcs.Arcs.fail_read.Goals as goal

pub fail_taken-requires-clause-reading : goal.fail_taken-requires-clause-reading
fail_taken-requires-clause-reading g c =
    let m = g.C.Keeps in
    let b = c.take_both-both in
    reading_taken m c.args.self.now.config c.args.key b.result.hand.own.bucket b.result.shard c.args.party.now b.new.party b.ensures.takes c.args.key c.requires.reading
