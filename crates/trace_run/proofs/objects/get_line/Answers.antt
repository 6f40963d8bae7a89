-- A read of a window of a block, by what the call on the dbuf answers.
use Rattle.std.proofs.Common.{◌≡◌, sym, subst}
use Rattle.std.proofs.lemmas.Result.{IfOk-weaker}
use Rattle.arc_table.specs.Reading.{outside}
use Rattle.trace_run.specs.dbufs.ObjectLines.{DidGet}
use Rattle.trace_text.specs.declared.reply.Reply.{Reply}
use Rattle.trace_text.specs.declared.reply.Reply.TheVariants.{Got}
use Rattle.trace_run.specs.KeptBlocks.{Stands}
use Rattle.trace_run.proofs.deeds.ObjectAnswers.{get-refused, got-done, stands-again}
use Rattle.trace_run.proofs.objects.get_line.Goals as goal

pub returns-in-Ok-clause-stands : goal.returns-in-Ok-clause-stands
returns-in-Ok-clause-stands g c = λ kept stands.
    let laws = g.met.D.CacheDev g.world.𝓛 g.world.𝓜 g.world.𝓡 ((λ s x. x), (λ x. x), (λ x. x), λ x. x) in
    let d = got-done c.args.arcs.now.config stands.valid c.args.at c.args.t c.args.party.now c.get.new.party stands.of.config (stands.seen, stands.cells) g.P.Pool g.D.CacheDev (λ dev image told. laws.told_len dev image told) (outside c.args.pool.now c.args.device.now) (outside c.get.new.pool c.get.new.cache) c.args.w (c.in-Ok.size, c.in-Ok.shown) c.in-Ok.ensures.answer in
    let again = stands-again c.args.arcs.now kept c.args.party.now c.get.new.party d.1 stands c.get.ensures.party c.get.ensures.free c.get.ensures.claims in
    IfOk-weaker c.got.result (λ reply. reply ≡ Got c.in-Ok.size c.in-Ok.shown) (λ reply. Stands c.args.arcs.now c.get.new.party kept) (λ reply same. again) c.got.ensures

pub returns-in-Ok-clause-did : goal.returns-in-Ok-clause-did
returns-in-Ok-clause-did g c =
    let laws = g.met.D.CacheDev g.world.𝓛 g.world.𝓜 g.world.𝓡 ((λ s x. x), (λ x. x), (λ x. x), λ x. x) in
    let stands = c.requires.1 in
    let d = got-done c.args.arcs.now.config stands.valid c.args.at c.args.t c.args.party.now c.get.new.party stands.of.config (stands.seen, stands.cells) g.P.Pool g.D.CacheDev (λ dev image told. laws.told_len dev image told) (outside c.args.pool.now c.args.device.now) (outside c.get.new.pool c.get.new.cache) c.args.w (c.in-Ok.size, c.in-Ok.shown) c.in-Ok.ensures.answer in
    let did : Reply → Type 0 = DidGet g.P.Pool g.D.CacheDev c.args.arcs.now.config c.args.at c.args.t (outside c.args.pool.now c.args.device.now) (outside c.get.new.pool c.get.new.cache) c.args.party.now c.get.new.party c.args.w in
    IfOk-weaker c.got.result (λ reply. reply ≡ Got c.in-Ok.size c.in-Ok.shown) did (λ reply same. subst did (sym same) d.0) c.got.ensures

pub returns-in_ok-refusal_of-in-Err-clause-stands : goal.returns-in_ok-refusal_of-in-Err-clause-stands
returns-in_ok-refusal_of-in-Err-clause-stands g c = λ kept stands.
    let laws = g.met.D.CacheDev g.world.𝓛 g.world.𝓜 g.world.𝓡 ((λ s x. x), (λ x. x), (λ x. x), λ x. x) in
    let d = get-refused c.args.arcs.now.config stands.valid c.args.at c.args.t c.args.party.now c.get.new.party stands.of.config (stands.seen, stands.cells) g.P.Pool g.D.CacheDev (λ dev image told. laws.told_len dev image told) (outside c.args.pool.now c.args.device.now) (outside c.get.new.pool c.get.new.cache) c.args.w c.in-Err.fault c.in_ok-refusal_of-in-Err.field-0 c.in_ok-refusal_of-in-Err.ensures c.in-Err.ensures.answer in
    stands-again c.args.arcs.now kept c.args.party.now c.get.new.party d.1 stands c.get.ensures.party c.get.ensures.free c.get.ensures.claims

pub returns-in_ok-refusal_of-in-Err-clause-did : goal.returns-in_ok-refusal_of-in-Err-clause-did
returns-in_ok-refusal_of-in-Err-clause-did g c =
    let laws = g.met.D.CacheDev g.world.𝓛 g.world.𝓜 g.world.𝓡 ((λ s x. x), (λ x. x), (λ x. x), λ x. x) in
    let stands = c.requires.1 in
    (get-refused c.args.arcs.now.config stands.valid c.args.at c.args.t c.args.party.now c.get.new.party stands.of.config (stands.seen, stands.cells) g.P.Pool g.D.CacheDev (λ dev image told. laws.told_len dev image told) (outside c.args.pool.now c.args.device.now) (outside c.get.new.pool c.get.new.cache) c.args.w c.in-Err.fault c.in_ok-refusal_of-in-Err.field-0 c.in_ok-refusal_of-in-Err.ensures c.in-Err.ensures.answer).0
