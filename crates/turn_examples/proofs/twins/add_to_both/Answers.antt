use Rattle.turn_examples.proofs.Both.{same_copy, first_known, gives_first, gives_second}
use Rattle.turn_examples.proofs.twins.add_to_both.Goals as goal

pub prove_eq-unreachable-requires : goal.prove_eq-unreachable-requires
prove_eq-unreachable-requires g c =
    let p = c.take_copy-first.new.party in
    c.if-prove_eq.true
    (same_copy p c.take_copy-first.result c.take_copy-second.result
    (first_known c.take_copy-first.result c.take_copy-second.result 0 c.args.party.now p c.take_copy-second.new.party c.take_copy-first.ensures.party c.take_copy-second.ensures.party) c.take_copy-second.ensures.free)

pub give_with-requires-clause-rule : goal.give_with-requires-clause-rule
give_with-requires-clause-rule g c =
    gives_first c.take_copy-first.result c.take_copy-second.result _ c.args.party.now c.take_copy-first.new.party c.take_copy-second.new.party c.take_copy-first.ensures.party c.take_copy-second.ensures.party

pub give_with-requires-2-clause-rule : goal.give_with-requires-2-clause-rule
give_with-requires-2-clause-rule g c =
    gives_second c.take_copy-first.result c.take_copy-second.result _ c.args.party.now c.take_copy-first.new.party c.take_copy-second.new.party c.take_copy-first.ensures.party c.take_copy-second.ensures.party c.give_with.new.party c.give_with.ensures
