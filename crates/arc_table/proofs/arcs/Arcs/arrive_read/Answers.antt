use Rattle.std.proofs.Common.{sym, ◌∙◌}
use Rattle.std.proofs.lemmas.Option.{none-some}
use Rattle.arc_table.specs.Making.{IsTaken}
use Rattle.arc_table.proofs.reads.ArriveEvents.{comes_by, header_read, not_come, read_by, reading_taken}
use Rattle.arc_table.proofs.arcs.Arcs.arrive_read.Goals as goal

pub unreachable-requires : goal.unreachable-requires
unreachable-requires g c =
    let m = g.C.Keeps in
    let b = c.take_both-both in
    let k = c.args.ptr.now.key in
    let config = c.args.self.now.config in
    let reading = reading_taken m config k b.result.hand.own.bucket b.result.shard c.args.party.now b.new.party b.ensures.takes k c.requires.reading in
    let taken : IsTaken m config k b.result b.new.party = record { kind = b.ensures.kind; new = b.ensures.new; from = c.args.party.now; takes = b.ensures.takes } in
    let there = header_read m config k b.result b.new.party taken b.ensures.party.config b.ensures.kind.valid reading in
    none-some there.0 (sym c.in_default.ensures.absent ∙ there.1)

pub arrive_taken-requires-clause-reading : goal.arrive_taken-requires-clause-reading
arrive_taken-requires-clause-reading g c =
    let m = g.C.Keeps in
    let b = c.take_both-both in
    reading_taken m c.args.self.now.config c.args.ptr.now.key b.result.hand.own.bucket b.result.shard c.args.party.now b.new.party b.ensures.takes c.args.ptr.now.key c.requires.reading

pub arrive_taken-requires-clause-comes : goal.arrive_taken-requires-clause-comes
arrive_taken-requires-clause-comes g c =
    let m = g.C.Keeps in
    let b = c.take_both-both in
    let k = c.args.ptr.now.key in
    let config = c.args.self.now.config in
    let reading = reading_taken m config k b.result.hand.own.bucket b.result.shard c.args.party.now b.new.party b.ensures.takes k c.requires.reading in
    let taken : IsTaken m config k b.result b.new.party = record { kind = b.ensures.kind; new = b.ensures.new; from = c.args.party.now; takes = b.ensures.takes } in
    let same = b.ensures.party.config in
    sym (comes_by m config k b.result b.new.party taken same b.ensures.kind.valid reading c.args.fetched.from c.at.result.now c.may_come.result (c.in-Some.ensures.found.1 ∙ c.at.ensures.place) c.may_come.ensures)
    ∙ c.if-not-may_come.false

pub returns-then-not-may_come-clause-cleared : goal.returns-then-not-may_come-clause-cleared
returns-then-not-may_come-clause-cleared g c =
    let m = g.C.Keeps in
    let b = c.take_both-both in
    let k = c.args.ptr.now.key in
    let config = c.args.self.now.config in
    let reading = reading_taken m config k b.result.hand.own.bucket b.result.shard c.args.party.now b.new.party b.ensures.takes k c.requires.reading in
    let read = read_by m config k b.result.hand.own.bucket b.result.shard c.args.party.now b.new.party b.ensures.takes c.requires.party.config b.ensures.kind.valid reading in
    let taken : IsTaken m config k b.result b.new.party = record { kind = b.ensures.kind; new = b.ensures.new; from = c.args.party.now; takes = b.ensures.takes } in
    let same = b.ensures.party.config in
    let told = comes_by m config k b.result b.new.party taken same b.ensures.kind.valid reading c.args.fetched.from c.at.result.now c.may_come.result (c.in-Some.ensures.found.1 ∙ c.at.ensures.place) c.may_come.ensures in
    let none = not_come b.new.party.number k c.args.fetched.from b.result.shard.now read (sym told ∙ c.if-not-may_come.true) in (
      none.0,
      record {
        does = record { chain = b.result.hand.own.bucket; before = b.result.shard; reached = b.new.party; takes = b.ensures.takes; makes = c.give_back.ensures };
        cleared = none.1;
      },
    )
