use Rattle.std.proofs.Common.{[], map, sym, ap, ◌∙◌}
use Rattle.dbuf_cells.specs.Turns.{PartyPlace}
use Rattle.trace_run.proofs.EndSteps.{have, q-stands}
use Rattle.trace_run.proofs.syncs.SyncFront.{sync-front}
use Rattle.trace_run.proofs.syncs.SyncJoined.{sync-joined, sync-last, sync-leaves}
use Rattle.trace_run.proofs.callers.TurnLemmas.{all-may, may-join}
use Rattle.trace_run.proofs.syncing.sync_joined.Goals as goal

pub join_all-requires-clause-party : goal.join_all-requires-clause-party
join_all-requires-clause-party g c = may-join c.args.arcs.now [] c.args.feeder c.requires.may.stands c.requires.may.alone

pub join_all-requires-clause-others : goal.join_all-requires-clause-others
join_all-requires-clause-others g c = all-may c.args.arcs.now c.args.callers.items c.requires.may.apart

pub sync-came-requires-clause-party : goal.sync-came-requires-clause-party
sync-came-requires-clause-party g c κs within = (q-stands c.args.arcs.now c.args.feeder c.args.callers.items c.requires.may.stands c.requires.may.alone c.requires.may.apart c.requires.may.everyone c.requires.may.count c.requires.may.differ c.join_all.new.party c.join_all.ensures).of

pub sync-came-requires-clause-feeder : goal.sync-came-requires-clause-feeder
sync-came-requires-clause-feeder g c κs within = (have c.args.arcs.now c.args.feeder c.args.callers.items c.requires.may.stands c.requires.may.alone c.requires.may.apart c.requires.may.everyone c.requires.may.count c.requires.may.differ c.join_all.new.party c.join_all.ensures).number ∙ c.requires.feeder

pub sync-came-requires-clause-free : goal.sync-came-requires-clause-free
sync-came-requires-clause-free g c κs within = (q-stands c.args.arcs.now c.args.feeder c.args.callers.items c.requires.may.stands c.requires.may.alone c.requires.may.apart c.requires.may.everyone c.requires.may.count c.requires.may.differ c.join_all.new.party c.join_all.ensures).free

pub part_all-requires-clause-party : goal.part_all-requires-clause-party
part_all-requires-clause-party g c = (c.sync-came.ensures.party, c.sync-came.ensures.free)

pub part_all-requires-clause-numbers : goal.part_all-requires-clause-numbers
part_all-requires-clause-numbers g c =
    sync-last c.args.arcs.now c.args.feeder c.args.callers.items c.requires.may.stands c.requires.may.alone c.requires.may.apart c.requires.may.everyone c.requires.may.count c.requires.may.differ c.join_all.new.party c.join_all.ensures
    c.requires.feeder c.sync-came.new.party c.sync-came.ensures.party c.sync-came.ensures.free c.sync-came.ensures.claims c.in_ok-numbers.numbers.items (c.in_ok-numbers.ensures ∙ ap (map (λ (p : PartyPlace). p.number)) c.deref.ensures.value)
    c.args.tick g.P.Pool c.args.group c.args.next c.args.pool.now c.sync-came.new.pool c.sync-came.result (sym c.wants_memory.ensures ∙ c.if-wants_memory.false) c.sync-came.ensures.answer

-- ---- the pool

pub returns-then-wants_memory-clause-front : goal.returns-then-wants_memory-clause-front
returns-then-wants_memory-clause-front g c =
    let laws = g.met.P.Pool g.world.𝓛 g.world.𝓜 g.world.𝓡 ((λ s x. x), (λ x. x), (λ x. x), λ x. x) in
    sync-front g.P.Pool (λ pool image told. laws.told_len pool image told) c.args.arcs.now.config c.args.group c.args.tick c.args.next c.args.pool.now c.sync-came.new.pool c.join_all.new.party c.sync-came.new.party c.sync-came.result c.requires.inside c.sync-came.ensures.answer

pub returns-then-wants_memory-clause-still : goal.returns-then-wants_memory-clause-still
returns-then-wants_memory-clause-still g c = λ unwritten.
    sync-leaves c.args.arcs.now c.args.feeder c.args.callers.items c.requires.may.stands c.requires.may.alone c.requires.may.apart c.requires.may.everyone c.requires.may.count c.requires.may.differ c.join_all.new.party c.join_all.ensures
    g.P.Pool c.args.group c.args.tick c.args.next c.args.pool.now c.sync-came.new.pool c.sync-came.new.party unwritten c.sync-came.result c.sync-came.ensures.answer

pub returns-in_err-callers-clause-front : goal.returns-in_err-callers-clause-front
returns-in_err-callers-clause-front g c =
    let laws = g.met.P.Pool g.world.𝓛 g.world.𝓜 g.world.𝓡 ((λ s x. x), (λ x. x), (λ x. x), λ x. x) in
    sync-front g.P.Pool (λ pool image told. laws.told_len pool image told) c.args.arcs.now.config c.args.group c.args.tick c.args.next c.args.pool.now c.sync-came.new.pool c.join_all.new.party c.sync-came.new.party c.sync-came.result c.requires.inside c.sync-came.ensures.answer

pub returns-in_err-callers-clause-still : goal.returns-in_err-callers-clause-still
returns-in_err-callers-clause-still g c = λ unwritten.
    sync-leaves c.args.arcs.now c.args.feeder c.args.callers.items c.requires.may.stands c.requires.may.alone c.requires.may.apart c.requires.may.everyone c.requires.may.count c.requires.may.differ c.join_all.new.party c.join_all.ensures
    g.P.Pool c.args.group c.args.tick c.args.next c.args.pool.now c.sync-came.new.pool c.sync-came.new.party unwritten c.sync-came.result c.sync-came.ensures.answer

pub returns-clause-front : goal.returns-clause-front
returns-clause-front g c =
    let laws = g.met.P.Pool g.world.𝓛 g.world.𝓜 g.world.𝓡 ((λ s x. x), (λ x. x), (λ x. x), λ x. x) in
    sync-front g.P.Pool (λ pool image told. laws.told_len pool image told) c.args.arcs.now.config c.args.group c.args.tick c.args.next c.args.pool.now c.sync-came.new.pool c.join_all.new.party c.sync-came.new.party c.sync-came.result c.requires.inside c.sync-came.ensures.answer

pub returns-clause-still : goal.returns-clause-still
returns-clause-still g c = λ unwritten.
    sync-leaves c.args.arcs.now c.args.feeder c.args.callers.items c.requires.may.stands c.requires.may.alone c.requires.may.apart c.requires.may.everyone c.requires.may.count c.requires.may.differ c.join_all.new.party c.join_all.ensures
    g.P.Pool c.args.group c.args.tick c.args.next c.args.pool.now c.sync-came.new.pool c.sync-came.new.party unwritten c.sync-came.result c.sync-came.ensures.answer

-- ---- the sync

pub returns-clause-synced : goal.returns-clause-synced
returns-clause-synced g c =
    sync-joined c.args.arcs.now c.args.feeder c.args.callers.items c.requires.may.stands c.requires.may.alone c.requires.may.apart c.requires.may.everyone c.requires.may.count c.requires.may.differ c.join_all.new.party c.join_all.ensures
    c.requires.feeder c.sync-came.new.party c.sync-came.ensures.party c.sync-came.ensures.free c.sync-came.ensures.claims c.in_ok-numbers.numbers.items (c.in_ok-numbers.ensures ∙ ap (map (λ (p : PartyPlace). p.number)) c.deref.ensures.value)
    c.args.tick g.P.Pool c.args.group c.args.next c.args.pool.now c.sync-came.new.pool c.in_ok-callers.callers.items c.part_all.new.party c.in_ok-callers.ensures c.sync-came.result (sym c.wants_memory.ensures ∙ c.if-wants_memory.false) c.sync-came.ensures.answer

pub returns-clause-some : goal.returns-clause-some
returns-clause-some g c = sym c.wants_memory.ensures ∙ c.if-wants_memory.false
