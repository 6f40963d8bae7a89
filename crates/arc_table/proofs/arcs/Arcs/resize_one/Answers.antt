use Rattle.std.proofs.Common.{ℕ, [], ◌∙◌, subst}
use Rattle.blk_ptr.specs.declared.key.Key.{Key}
use Rattle.arc_core.specs.declared.event.Event.TheVariants.{Resize}
use Rattle.arc_table.specs.Both.{Does, Makes}
use Rattle.arc_table.specs.scans.Ending.{DoesRoomy, MakesRoomy}
use Rattle.arc_table.specs.Resizing.{ResizesOne, key_in}
use Rattle.arc_table.proofs.Afterwards.{stays_party}
use Rattle.arc_table.proofs.Reached.{reached}
use Rattle.arc_table.proofs.CapacityEvents.{key_own, on_err, on_ok, one_stays}
use Rattle.arc_table.proofs.scans.RoomyGives.{only_bucket}
use Rattle.arc_table.proofs.arcs.Arcs.resize_one.Goals as goal

pub resize_taken-requires-clause-others : goal.resize_taken-requires-clause-others
resize_taken-requires-clause-others g c =
    let m = g.C.Keeps in
    let b = c.take_both-both in
    only_bucket c.args.self.now.config c.key_in-key.result c.args.party.now.held b.new.party.held b.ensures.kind.valid
    (reached m c.args.self.now.config c.key_in-key.result b.result.hand.own.bucket b.result.shard c.args.party.now b.new.party b.ensures.takes).held c.requires.look

pub resize_taken-requires-clause-feeder : goal.resize_taken-requires-clause-feeder
resize_taken-requires-clause-feeder g c =
    let m = g.C.Keeps in
    let b = c.take_both-both in
    (reached m c.args.self.now.config c.key_in-key.result b.result.hand.own.bucket b.result.shard c.args.party.now b.new.party b.ensures.takes).number ∙ c.requires.feeder

pub returns-clause-ok : goal.returns-clause-ok
returns-clause-ok g c =
    let m = g.C.Keeps in
    let b = c.take_both-both in
    let config = c.args.self.now.config in
    let k = c.key_in-key.result in
    let p = c.args.party.now in
    let r = c.resize_taken.new.party in
    let number = (reached m config k b.result.hand.own.bucket b.result.shard p b.new.party b.ensures.takes).number in
    on_ok c.resize_taken.result (MakesRoomy m config k b.result.shard (Resize b.new.party.number c.args.c) b.new.party r) (ResizesOne m config p.number c.args.c c.args.shard p r)
    (λ (made : MakesRoomy m config k b.result.shard (Resize b.new.party.number c.args.c) b.new.party r). record {
      own = key_own config c.args.shard b.ensures.kind.valid c.requires.shard;
      does = subst (λ (x : Key). DoesRoomy m config x (Resize p.number c.args.c) p r) c.key_in-key.ensures record {
        chain = b.result.hand.own.bucket;
        before = b.result.shard;
        reached = b.new.party;
        takes = b.ensures.takes;
        makes = subst (λ (n : ℕ). MakesRoomy m config k b.result.shard (Resize n c.args.c) b.new.party r) number made;
      };
    }) c.resize_taken.ensures.ok

pub returns-clause-err : goal.returns-clause-err
returns-clause-err g c =
    let m = g.C.Keeps in
    let b = c.take_both-both in
    let config = c.args.self.now.config in
    let k = c.key_in-key.result in
    let p = c.args.party.now in
    let r = c.resize_taken.new.party in
    on_err c.resize_taken.result (Makes m config k b.result.shard [] b.new.party r) (Does m config (key_in c.args.shard) [] p r)
    (λ (made : Makes m config k b.result.shard [] b.new.party r). subst (λ (x : Key). Does m config x [] p r) c.key_in-key.ensures record { chain = b.result.hand.own.bucket; before = b.result.shard; reached = b.new.party; takes = b.ensures.takes; makes = made }) c.resize_taken.ensures.err

pub returns-clause-party : goal.returns-clause-party
returns-clause-party g c =
    let m = g.C.Keeps in
    let config = c.args.self.now.config in
    stays_party c.args.self.now c.args.party.now c.resize_taken.new.party (one_stays m config c.take_both-both.ensures.kind.valid c.args.party.now.number c.args.c c.args.shard c.args.party.now c.resize_taken.new.party c.requires.party.config c.resize_taken.result (returns-clause-ok g c) (returns-clause-err g c)) c.requires.party

pub returns-clause-number : goal.returns-clause-number
returns-clause-number g c =
    let m = g.C.Keeps in
    let config = c.args.self.now.config in
    (one_stays m config c.take_both-both.ensures.kind.valid c.args.party.now.number c.args.c c.args.shard c.args.party.now c.resize_taken.new.party c.requires.party.config c.resize_taken.result (returns-clause-ok g c) (returns-clause-err g c)).number

pub returns-clause-held : goal.returns-clause-held
returns-clause-held g c =
    let m = g.C.Keeps in
    let config = c.args.self.now.config in
    (one_stays m config c.take_both-both.ensures.kind.valid c.args.party.now.number c.args.c c.args.shard c.args.party.now c.resize_taken.new.party c.requires.party.config c.resize_taken.result (returns-clause-ok g c) (returns-clause-err g c)).held
