use Rattle.std.proofs.Common.{refl, subst}
use Rattle.arc_core.specs.PlainShard.{entry_of}
use Rattle.hash_chain.specs.Chain.{header_at}
use Rattle.arc_table.specs.declared.in_hand.Taken.{Taken}
use Rattle.arc_table.specs.declared.item.Item.TheVariants as item
use Rattle.arc_table.specs.Geometry.{bucket_turn}
use Rattle.arc_table.specs.pact.Headed.{IsHead}
use Rattle.arc_table.proofs.reads.ReadyBlocks.{found_cached, not_found}
use Rattle.arc_table.proofs.Reached.{heads}
use Rattle.arc_table.proofs.Taking.{both_taken, no_shard_yet, still_party, took_party}
use Rattle.arc_table.proofs.arcs.Arcs.take_ready.Goals as goal

pub take_shard-requires-clause-party : goal.take_shard-requires-clause-party
take_shard-requires-clause-party g c =
    let m = g.C.Keeps in
    let b = c.take_bucket-own in
    took_party m c.args.self.now (bucket_turn c.args.self.now.config c.args.ptr.now.key) (item.Bucket b.result.bucket) c.args.party.now b.new.party b.ensures.takes c.requires.party

pub take_shard-requires-clause-free : goal.take_shard-requires-clause-free
take_shard-requires-clause-free g c =
    let m = g.C.Keeps in
    let b = c.take_bucket-own in
    no_shard_yet m c.args.self.now.config c.args.ptr.now.key (item.Bucket b.result.bucket) c.args.party.now b.new.party
    b.ensures.valid b.ensures.takes c.requires.look

pub returns-clause-takes : goal.returns-clause-takes
returns-clause-takes g c =
    let m = g.C.Keeps in
    let b = c.take_bucket-own in
    let s = c.take_shard in
    let own = s.ensures.own in
    both_taken m c.args.self.now.config c.args.ptr.now.key b.result s.result c.args.party.now b.new.party s.new.party own b.ensures.takes s.ensures.takes

pub returns-clause-party : goal.returns-clause-party
returns-clause-party g c =
    let m = g.C.Keeps in
    let s = c.take_shard in
    still_party m c.args.self.now c.args.ptr.now.key s.result.hand.own.bucket s.result.shard c.args.party.now s.new.party (returns-clause-takes g c) c.requires.party

pub returns-clause-here : goal.returns-clause-here
returns-clause-here g c =
    let m = g.C.Keeps in
    let ptr = c.args.ptr.now in
    let b = c.take_bucket-own in
    let s = c.take_shard in
    let own = s.ensures.own in
    let head = heads m c.args.self.now.config ptr.key s.result.hand.own.bucket s.result.shard c.args.party.now s.new.party (returns-clause-takes g c) c.requires.party.config b.ensures.valid ptr.key refl in
    found_cached ptr s.result.shard.now b.result.bucket.headers c.find_ready-ready.result
    (subst (λ (x : Taken). IsHead (entry_of ptr.key s.result.shard.now) (header_at ptr.key x.bucket.headers)) own head) c.find_ready-ready.ensures.there

pub returns-clause-elsewhere : goal.returns-clause-elsewhere
returns-clause-elsewhere g c =
    let m = g.C.Keeps in
    let ptr = c.args.ptr.now in
    let b = c.take_bucket-own in
    let s = c.take_shard in
    let own = s.ensures.own in
    let head = heads m c.args.self.now.config ptr.key s.result.hand.own.bucket s.result.shard c.args.party.now s.new.party (returns-clause-takes g c) c.requires.party.config b.ensures.valid ptr.key refl in
    not_found ptr s.result.shard.now b.result.bucket.headers c.find_ready-ready.result
    (subst (λ (x : Taken). IsHead (entry_of ptr.key s.result.shard.now) (header_at ptr.key x.bucket.headers)) own head) c.find_ready-ready.ensures.there
