-- A write of a part of a block, by what the call on the dbuf answers.
use Rattle.arc_table.specs.Reading.{outside}
use Rattle.trace_run.proofs.deeds.ObjectAnswers.{patch-done, patch-refused, stands-again}
use Rattle.trace_run.proofs.objects.patch_line.Goals as goal

pub returns-in-Ok-clause-stands : goal.returns-in-Ok-clause-stands
returns-in-Ok-clause-stands g c = λ kept stands.
    let laws = g.met.D.CacheDev g.world.𝓛 g.world.𝓜 g.world.𝓡 ((λ s x. x), (λ x. x), (λ x. x), λ x. x) in
    let d = patch-done c.args.arcs.now.config stands.valid c.args.at c.args.t c.args.party.now c.patch.new.party stands.of.config (stands.seen, stands.cells) g.P.Pool g.D.CacheDev (λ dev image told. laws.told_len dev image told) (outside c.args.pool.now c.args.device.now) (outside c.patch.new.pool c.patch.new.cache) c.args.from c.args.bytes.now c.in-Ok.field-0 c.in-Ok.ensures.answer in
    stands-again c.args.arcs.now kept c.args.party.now c.patch.new.party d.1 stands c.patch.ensures.party c.patch.ensures.free c.patch.ensures.claims

pub returns-in-Ok-clause-did : goal.returns-in-Ok-clause-did
returns-in-Ok-clause-did g c =
    let laws = g.met.D.CacheDev g.world.𝓛 g.world.𝓜 g.world.𝓡 ((λ s x. x), (λ x. x), (λ x. x), λ x. x) in
    let stands = c.requires.1 in
    let d = patch-done c.args.arcs.now.config stands.valid c.args.at c.args.t c.args.party.now c.patch.new.party stands.of.config (stands.seen, stands.cells) g.P.Pool g.D.CacheDev (λ dev image told. laws.told_len dev image told) (outside c.args.pool.now c.args.device.now) (outside c.patch.new.pool c.patch.new.cache) c.args.from c.args.bytes.now c.in-Ok.field-0 c.in-Ok.ensures.answer in
    d.0

pub returns-in_ok-refusal_of-in-Err-clause-stands : goal.returns-in_ok-refusal_of-in-Err-clause-stands
returns-in_ok-refusal_of-in-Err-clause-stands g c = λ kept stands.
    let laws = g.met.D.CacheDev g.world.𝓛 g.world.𝓜 g.world.𝓡 ((λ s x. x), (λ x. x), (λ x. x), λ x. x) in
    let d = patch-refused c.args.arcs.now.config stands.valid c.args.at c.args.t c.args.party.now c.patch.new.party stands.of.config (stands.seen, stands.cells) g.P.Pool g.D.CacheDev (λ dev image told. laws.told_len dev image told) (outside c.args.pool.now c.args.device.now) (outside c.patch.new.pool c.patch.new.cache) (Unit {0}) c.args.from c.args.bytes.now c.in-Err.fault c.in_ok-refusal_of-in-Err.field-0 c.in_ok-refusal_of-in-Err.ensures c.in-Err.ensures.answer in
    stands-again c.args.arcs.now kept c.args.party.now c.patch.new.party d.1 stands c.patch.ensures.party c.patch.ensures.free c.patch.ensures.claims

pub returns-in_ok-refusal_of-in-Err-clause-did : goal.returns-in_ok-refusal_of-in-Err-clause-did
returns-in_ok-refusal_of-in-Err-clause-did g c =
    let laws = g.met.D.CacheDev g.world.𝓛 g.world.𝓜 g.world.𝓡 ((λ s x. x), (λ x. x), (λ x. x), λ x. x) in
    let stands = c.requires.1 in
    (patch-refused c.args.arcs.now.config stands.valid c.args.at c.args.t c.args.party.now c.patch.new.party stands.of.config (stands.seen, stands.cells) g.P.Pool g.D.CacheDev (λ dev image told. laws.told_len dev image told) (outside c.args.pool.now c.args.device.now) (outside c.patch.new.pool c.patch.new.cache) (Unit {0}) c.args.from c.args.bytes.now c.in-Err.fault c.in_ok-refusal_of-in-Err.field-0 c.in_ok-refusal_of-in-Err.ensures c.in-Err.ensures.answer).0
