use Rattle.arc_table.specs.declared.item.Item.TheVariants as item
use Rattle.arc_table.specs.Geometry.{bucket_turn}
use Rattle.arc_table.proofs.Taking.{both_taken, no_shard_yet, still_party, took_party}
use Rattle.arc_table.proofs.arcs.Arcs.take_both.Goals as goal

pub take_shard-requires-clause-party : goal.take_shard-requires-clause-party
take_shard-requires-clause-party g c =
    let m = g.C.Keeps in
    let b = c.take_bucket-own in
    took_party m c.args.self.now (bucket_turn c.args.self.now.config c.args.key) (item.Bucket b.result.bucket) c.args.party.now b.new.party b.ensures.takes c.requires.party

pub take_shard-requires-clause-free : goal.take_shard-requires-clause-free
take_shard-requires-clause-free g c =
    let m = g.C.Keeps in
    let b = c.take_bucket-own in
    no_shard_yet m c.args.self.now.config c.args.key (item.Bucket b.result.bucket) c.args.party.now b.new.party
    b.ensures.valid b.ensures.takes c.requires.look

pub returns-clause-takes : goal.returns-clause-takes
returns-clause-takes g c =
    let m = g.C.Keeps in
    let b = c.take_bucket-own in
    let s = c.take_shard in
    both_taken m c.args.self.now.config c.args.key b.result s.result c.args.party.now b.new.party s.new.party s.ensures.own b.ensures.takes s.ensures.takes

pub returns-clause-party : goal.returns-clause-party
returns-clause-party g c =
    let m = g.C.Keeps in
    let s = c.take_shard in
    still_party m c.args.self.now c.args.key s.result.hand.own.bucket s.result.shard c.args.party.now s.new.party (returns-clause-takes g c) c.requires.party
