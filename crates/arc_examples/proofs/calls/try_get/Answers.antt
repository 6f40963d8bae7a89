use Rattle.arc_examples.proofs.Gets.{busy-before, hit-got, none-before}
use Rattle.arc_examples.proofs.calls.try_get.Goals as goal

pub returns-in-Held-clause-held : goal.returns-in-Held-clause-held
returns-in-Held-clause-held c =
    let a = c.in-Held.ensures.answer in
    hit-got _ c.args.arcs.now c.args.ptr.now c.args.tick c.args.party.now c.try_hit.new.party c.requires c.in-Held.hold a.0 a.1 a.2

pub returns-in-NotHere-clause-none : goal.returns-in-NotHere-clause-none
returns-in-NotHere-clause-none c = none-before _ c.args.arcs.now c.args.ptr.now.key c.args.party.now c.try_hit.new.party c.requires c.in-NotHere.ensures.answer.0

pub returns-in-Other-clause-none : goal.returns-in-Other-clause-none
returns-in-Other-clause-none c = none-before _ c.args.arcs.now c.args.ptr.now.key c.args.party.now c.try_hit.new.party c.requires c.in-Other.ensures.answer.0

pub returns-in-Reading-clause-none : goal.returns-in-Reading-clause-none
returns-in-Reading-clause-none c = none-before _ c.args.arcs.now c.args.ptr.now.key c.args.party.now c.try_hit.new.party c.requires c.in-Reading.ensures.answer.0

pub returns-in-Busy-clause-none : goal.returns-in-Busy-clause-none
returns-in-Busy-clause-none c = busy-before _ c.args.arcs.now c.args.ptr.now.key c.args.party.now c.try_hit.new.party c.requires c.in-Busy.owner c.in-Busy.ensures.answer.0

pub returns-in-NoMemory-clause-none : goal.returns-in-NoMemory-clause-none
returns-in-NoMemory-clause-none c = none-before _ c.args.arcs.now c.args.ptr.now.key c.args.party.now c.try_hit.new.party c.requires c.in-NoMemory.ensures.answer
