use Rattle.std.proofs.Common.{◌≡◌, ◌+◌, ◌≤◌, length, ap, arith}
use Rattle.turn_table.specs.Places.{Place}
use Rattle.turn_examples.specs.declared.refusals.Clerk.{Clerk}
use Rattle.turn_examples.specs.Refusals.{clerk}
use Rattle.turn_examples.proofs.RefusalLaws.{gives_count}
use Rattle.turn_examples.proofs.refusals.count_one.Goals as goal

pub give-requires-clause-rule : goal.give-requires-clause-rule
give-requires-clause-rule g c =
    let p : Place Clerk = c.take_count-count.new.party in
    let told : p.own.told ≡ c.args.party.now.own.told = ap (λ (q : Place Clerk). q.own.told) c.take_count-count.ensures in
    let notes : length p.own.notes ≡ length c.args.party.now.own.notes = ap (λ (q : Place Clerk). length q.own.notes) c.take_count-count.ensures in
    let count : p.own.count ≡ c.take_count-count.result = ap (λ (q : Place Clerk). q.own.count) c.take_count-count.ensures in
    let owed = c.requires.owed in
    gives_count p c.take_count-count.result p.own (let o : c.take_count-count.result + p.own.told ≡ p.own.count + p.own.told = omega arith in o) (let o : p.own.told ≤ length p.own.notes = omega arith in o)

pub give-requires-2-clause-rule : goal.give-requires-2-clause-rule
give-requires-2-clause-rule g c =
    let p : Place Clerk = c.take_count-count.new.party in
    let u : Clerk = clerk p.own.notes (p.own.told + 1) p.own.count in
    let told : p.own.told ≡ c.args.party.now.own.told = ap (λ (q : Place Clerk). q.own.told) c.take_count-count.ensures in
    let notes : length p.own.notes ≡ length c.args.party.now.own.notes = ap (λ (q : Place Clerk). length q.own.notes) c.take_count-count.ensures in
    let count : p.own.count ≡ c.take_count-count.result = ap (λ (q : Place Clerk). q.own.count) c.take_count-count.ensures in
    let owed = c.requires.owed in
    let more : c.in-Some.more ≡ c.take_count-count.result + 1 = omega arith in
    gives_count p c.in-Some.more u (let o : c.in-Some.more + p.own.told ≡ p.own.count + u.told = omega arith in o) (let o : u.told ≤ length u.notes = omega arith in o)
