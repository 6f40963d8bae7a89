-- A pin that is taken back, by what the call on the dbuf answers.
use Rattle.trace_run.proofs.deeds.ObjectAnswers.{stands-again, unpin-done, unpin-refused}
use Rattle.trace_run.proofs.objects.unpin_line.Goals as goal

pub returns-in-Ok-clause-stands : goal.returns-in-Ok-clause-stands
returns-in-Ok-clause-stands g c = λ kept stands.
    let d = unpin-done c.args.arcs.now.config stands.valid c.args.at c.args.party.now c.unhold.new.party stands.of.config (stands.seen, stands.cells) c.in-Ok.field-0 c.in-Ok.ensures.answer in
    stands-again c.args.arcs.now kept c.args.party.now c.unhold.new.party d.1 stands c.unhold.ensures.party c.unhold.ensures.free c.unhold.ensures.claims

pub returns-in-Ok-clause-did : goal.returns-in-Ok-clause-did
returns-in-Ok-clause-did g c =
    let stands = c.requires.1 in
    let d = unpin-done c.args.arcs.now.config stands.valid c.args.at c.args.party.now c.unhold.new.party stands.of.config (stands.seen, stands.cells) c.in-Ok.field-0 c.in-Ok.ensures.answer in
    d.0

pub returns-in_ok-refusal_of-in-Err-clause-stands : goal.returns-in_ok-refusal_of-in-Err-clause-stands
returns-in_ok-refusal_of-in-Err-clause-stands g c = λ kept stands.
    let d = unpin-refused c.args.arcs.now.config stands.valid c.args.at c.args.party.now c.unhold.new.party stands.of.config (stands.seen, stands.cells) (Unit {0}) c.in-Err.fault c.in_ok-refusal_of-in-Err.field-0 c.in_ok-refusal_of-in-Err.ensures c.in-Err.ensures.answer in
    stands-again c.args.arcs.now kept c.args.party.now c.unhold.new.party d.1 stands c.unhold.ensures.party c.unhold.ensures.free c.unhold.ensures.claims

pub returns-in_ok-refusal_of-in-Err-clause-did : goal.returns-in_ok-refusal_of-in-Err-clause-did
returns-in_ok-refusal_of-in-Err-clause-did g c =
    let stands = c.requires.1 in
    (unpin-refused c.args.arcs.now.config stands.valid c.args.at c.args.party.now c.unhold.new.party stands.of.config (stands.seen, stands.cells) (Unit {0}) c.in-Err.fault c.in_ok-refusal_of-in-Err.field-0 c.in_ok-refusal_of-in-Err.ensures c.in-Err.ensures.answer).0
