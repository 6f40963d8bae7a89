use Rattle.std.proofs.Common.{Ok, refl, ap, ◌∙◌, subst}
use Rattle.arc_table.specs.Reading.{outside}
use Rattle.dbuf_cells.specs.declared.kept.Kept.TheVariants.{Loose}
use Rattle.trace_run.proofs.GetLemmas.{PoolDid, adds, alone-fault-asks, fault-calls, fault-cause, fault-did, fault-stands, got-asks, held-calls, held-did, held-got, held-stands, lists, ok-valid, past-did, past-got, past-stands, pool-did}
use Rattle.trace_run.proofs.DeviceReadLemmas.{DeviceDid, fault-asks, read-asks}
use Rattle.trace_run.proofs.ReadLemmas.{AddsRead}
use Rattle.trace_run.proofs.ReadStands.{ListsAnswer}
use Rattle.trace_run.proofs.get.get.Goals as goal

pub returns-in-Ok-Held-clause-stands : goal.returns-in-Ok-Held-clause-stands
returns-in-Ok-Held-clause-stands g c = λ kept stands.
    held-stands g.C.Keeps c.args.arcs.now g.P.Pool g.D.CacheDev c.args.ptr.now c.args.t c.args.block
    (outside c.args.pool.now c.args.device.now) (outside c.read.new.pool c.read.new.cache) c.args.party.now c.read.new.party kept stands c.read.result c.read.ensures.answer c.in-Ok-Held.hold c.in-Ok-Held.served (c.in-Ok-Held.is ∙ ap Ok c.in-Ok-Held.field-0-is)

pub returns-in-Ok-Held-clause-did : goal.returns-in-Ok-Held-clause-did
returns-in-Ok-Held-clause-did g c =
    held-did g.C.Keeps c.args.arcs.now g.P.Pool g.D.CacheDev c.args.ptr.now c.args.t c.args.block
    (outside c.args.pool.now c.args.device.now) (outside c.read.new.pool c.read.new.cache) c.args.party.now c.read.new.party c.requires.0 c.requires.1 c.read.result c.read.ensures.answer c.in-Ok-Held.hold c.in-Ok-Held.served (c.in-Ok-Held.is ∙ ap Ok c.in-Ok-Held.field-0-is)

pub returns-in-Ok-Held-clause-got : goal.returns-in-Ok-Held-clause-got
returns-in-Ok-Held-clause-got g c =
    held-got g.C.Keeps c.args.arcs.now g.P.Pool g.D.CacheDev c.args.ptr.now c.args.t c.args.block
    (outside c.args.pool.now c.args.device.now) (outside c.read.new.pool c.read.new.cache) c.args.party.now c.read.new.party c.requires.0 c.requires.1 c.read.result c.read.ensures.answer c.in-Ok-Held.hold c.in-Ok-Held.served (c.in-Ok-Held.is ∙ ap Ok c.in-Ok-Held.field-0-is)

pub returns-in-Ok-Past-clause-stands : goal.returns-in-Ok-Past-clause-stands
returns-in-Ok-Past-clause-stands g c = λ kept stands.
    let m = g.C.Keeps in
    let before = outside c.args.pool.now c.args.device.now in
    let after = outside c.read.new.pool c.read.new.cache in
    past-stands m c.args.arcs.now g.P.Pool g.D.CacheDev c.args.ptr.now c.args.t c.args.block before after c.args.party.now c.read.new.party kept stands c.read.result c.read.ensures.answer
    (subst (ListsAnswer c.args.ptr.now c.args.party.now c.read.new.party) (c.in-Ok-Past.is ∙ ap Ok c.in-Ok-Past.field-0-is)
    (lists m c.args.arcs.now g.P.Pool g.D.CacheDev c.args.ptr.now c.args.t c.args.block before after c.args.party.now c.read.new.party kept stands c.read.result c.read.ensures.answer))
    (record { block = c.args.block; kept = Loose c.args.ptr.now.key c.in-Ok-Past.bytes }) refl tt

pub returns-in-Ok-Past-clause-did : goal.returns-in-Ok-Past-clause-did
returns-in-Ok-Past-clause-did g c =
    let m = g.C.Keeps in
    let before = outside c.args.pool.now c.args.device.now in
    let after = outside c.read.new.pool c.read.new.cache in
    past-did m c.args.arcs.now g.P.Pool g.D.CacheDev c.args.ptr.now c.args.t c.args.block before after c.args.party.now c.read.new.party c.requires.0 c.requires.1 c.read.result c.read.ensures.answer
    (subst (AddsRead m c.args.arcs.now.config c.requires.1.valid g.P.Pool g.D.CacheDev c.args.ptr.now c.args.t c.args.party.now c.read.new.party) (c.in-Ok-Past.is ∙ ap Ok c.in-Ok-Past.field-0-is)
    (adds m c.args.arcs.now g.P.Pool g.D.CacheDev c.args.ptr.now c.args.t c.args.block before after c.args.party.now c.read.new.party c.requires.0 c.requires.1 c.read.result c.read.ensures.answer))

pub returns-in-Err-clause-stands : goal.returns-in-Err-clause-stands
returns-in-Err-clause-stands g c = λ kept stands.
    fault-stands g.C.Keeps c.args.arcs.now g.P.Pool g.D.CacheDev c.args.ptr.now c.args.t c.args.block
    (outside c.args.pool.now c.args.device.now) (outside c.read.new.pool c.read.new.cache) c.args.party.now c.read.new.party kept stands c.read.result c.read.ensures.answer c.in-Err.fault c.in-Err.is

pub returns-in-Err-clause-did : goal.returns-in-Err-clause-did
returns-in-Err-clause-did g c =
    fault-did g.C.Keeps c.args.arcs.now g.P.Pool g.D.CacheDev c.args.ptr.now c.args.t c.args.block
    (outside c.args.pool.now c.args.device.now) (outside c.read.new.pool c.read.new.cache) c.args.party.now c.read.new.party c.requires.0 c.requires.1 c.read.result c.read.ensures.answer c.in-Err.fault c.in-Err.is

pub returns-in-Ok-Held-clause-valid : goal.returns-in-Ok-Held-clause-valid
returns-in-Ok-Held-clause-valid g c =
    ok-valid g.C.Keeps g.P.Pool g.D.CacheDev c.args.arcs.now.config c.args.ptr.now c.args.t
    (outside c.args.pool.now c.args.device.now) (outside c.read.new.pool c.read.new.cache) c.args.party.now c.read.new.party c.read.result _ c.in-Ok-Held.is c.read.ensures.answer

pub returns-in-Ok-Past-clause-valid : goal.returns-in-Ok-Past-clause-valid
returns-in-Ok-Past-clause-valid g c =
    ok-valid g.C.Keeps g.P.Pool g.D.CacheDev c.args.arcs.now.config c.args.ptr.now c.args.t
    (outside c.args.pool.now c.args.device.now) (outside c.read.new.pool c.read.new.cache) c.args.party.now c.read.new.party c.read.result _ c.in-Ok-Past.is c.read.ensures.answer

-- ---- the reads of the pool

pub returns-in-Ok-Held-clause-calls : goal.returns-in-Ok-Held-clause-calls
returns-in-Ok-Held-clause-calls g c =
    held-calls g.P.Pool c.args.ptr.now c.args.pool.now c.read.new.pool c.in-Ok-Held.hold c.in-Ok-Held.served (subst (PoolDid g.P.Pool c.args.ptr.now c.args.pool.now c.read.new.pool) (c.in-Ok-Held.is ∙ ap Ok c.in-Ok-Held.field-0-is)
    (pool-did g.C.Keeps g.P.Pool g.D.CacheDev c.args.arcs.now.config c.args.ptr.now c.args.t
    (outside c.args.pool.now c.args.device.now) (outside c.read.new.pool c.read.new.cache) c.args.party.now c.read.new.party c.read.result c.read.ensures.answer))

pub returns-in-Ok-Past-clause-got : goal.returns-in-Ok-Past-clause-got
returns-in-Ok-Past-clause-got g c =
    past-got g.P.Pool c.args.ptr.now c.args.pool.now c.read.new.pool c.args.block (Loose c.args.ptr.now.key c.in-Ok-Past.bytes) refl (subst (PoolDid g.P.Pool c.args.ptr.now c.args.pool.now c.read.new.pool) (c.in-Ok-Past.is ∙ ap Ok c.in-Ok-Past.field-0-is)
    (pool-did g.C.Keeps g.P.Pool g.D.CacheDev c.args.arcs.now.config c.args.ptr.now c.args.t
    (outside c.args.pool.now c.args.device.now) (outside c.read.new.pool c.read.new.cache) c.args.party.now c.read.new.party c.read.result c.read.ensures.answer))

pub returns-in-Ok-Past-clause-calls : goal.returns-in-Ok-Past-clause-calls
returns-in-Ok-Past-clause-calls g c =
    let did = subst (PoolDid g.P.Pool c.args.ptr.now c.args.pool.now c.read.new.pool) (c.in-Ok-Past.is ∙ ap Ok c.in-Ok-Past.field-0-is)
    (pool-did g.C.Keeps g.P.Pool g.D.CacheDev c.args.arcs.now.config c.args.ptr.now c.args.t
    (outside c.args.pool.now c.args.device.now) (outside c.read.new.pool c.read.new.cache) c.args.party.now c.read.new.party c.read.result c.read.ensures.answer) in
    (c.read.new.pool, did.call, refl)

pub returns-in-Err-clause-cause : goal.returns-in-Err-clause-cause
returns-in-Err-clause-cause g c =
    fault-cause g.P.Pool c.args.ptr.now c.args.pool.now c.read.new.pool c.in-Err.fault (subst (PoolDid g.P.Pool c.args.ptr.now c.args.pool.now c.read.new.pool) c.in-Err.is
    (pool-did g.C.Keeps g.P.Pool g.D.CacheDev c.args.arcs.now.config c.args.ptr.now c.args.t
    (outside c.args.pool.now c.args.device.now) (outside c.read.new.pool c.read.new.cache) c.args.party.now c.read.new.party c.read.result c.read.ensures.answer))

pub returns-in-Err-clause-calls : goal.returns-in-Err-clause-calls
returns-in-Err-clause-calls g c =
    fault-calls g.P.Pool c.args.ptr.now c.args.pool.now c.read.new.pool c.in-Err.fault (subst (PoolDid g.P.Pool c.args.ptr.now c.args.pool.now c.read.new.pool) c.in-Err.is
    (pool-did g.C.Keeps g.P.Pool g.D.CacheDev c.args.arcs.now.config c.args.ptr.now c.args.t
    (outside c.args.pool.now c.args.device.now) (outside c.read.new.pool c.read.new.cache) c.args.party.now c.read.new.party c.read.result c.read.ensures.answer))

-- ---- what the device was asked for

pub returns-in-Ok-Held-clause-asks : goal.returns-in-Ok-Held-clause-asks
returns-in-Ok-Held-clause-asks g c = λ all.
    let laws = g.met.D.CacheDev g.world.𝓛 g.world.𝓜 g.world.𝓡 ((λ s x. x), (λ x. x), (λ x. x), λ x. x) in
    got-asks g.C.Keeps c.args.arcs.now g.P.Pool g.D.CacheDev c.args.ptr.now c.args.t c.args.block
    (outside c.args.pool.now c.args.device.now) (outside c.read.new.pool c.read.new.cache) c.args.party.now c.read.new.party c.requires.0 c.requires.1 c.read.result c.read.ensures.answer (λ dev image told. laws.told_len dev image told) all _ (c.in-Ok-Held.is ∙ ap Ok c.in-Ok-Held.field-0-is)

pub returns-in-Ok-Past-clause-asks : goal.returns-in-Ok-Past-clause-asks
returns-in-Ok-Past-clause-asks g c = λ all.
    let laws = g.met.D.CacheDev g.world.𝓛 g.world.𝓜 g.world.𝓡 ((λ s x. x), (λ x. x), (λ x. x), λ x. x) in
    got-asks g.C.Keeps c.args.arcs.now g.P.Pool g.D.CacheDev c.args.ptr.now c.args.t c.args.block
    (outside c.args.pool.now c.args.device.now) (outside c.read.new.pool c.read.new.cache) c.args.party.now c.read.new.party c.requires.0 c.requires.1 c.read.result c.read.ensures.answer (λ dev image told. laws.told_len dev image told) all _ (c.in-Ok-Past.is ∙ ap Ok c.in-Ok-Past.field-0-is)

pub returns-in-Err-clause-asks : goal.returns-in-Err-clause-asks
returns-in-Err-clause-asks g c = λ all.
    let laws = g.met.D.CacheDev g.world.𝓛 g.world.𝓜 g.world.𝓡 ((λ s x. x), (λ x. x), (λ x. x), λ x. x) in
    alone-fault-asks g.C.Keeps c.args.arcs.now g.P.Pool g.D.CacheDev c.args.ptr.now c.args.t c.args.block
    (outside c.args.pool.now c.args.device.now) (outside c.read.new.pool c.read.new.cache) c.args.party.now c.read.new.party c.requires.0 c.requires.1 c.read.result c.read.ensures.answer (λ dev image told. laws.told_len dev image told) all c.in-Err.fault c.in-Err.is

-- ---- the reads of the device

pub returns-in-Ok-Held-clause-asked : goal.returns-in-Ok-Held-clause-asked
returns-in-Ok-Held-clause-asked g c =
    subst (DeviceDid g.D.CacheDev c.args.ptr.now.key.size c.args.device.now c.read.new.cache) (c.in-Ok-Held.is ∙ ap Ok c.in-Ok-Held.field-0-is)
    (read-asks g.C.Keeps g.P.Pool g.D.CacheDev c.args.arcs.now.config c.args.ptr.now c.args.t
    (outside c.args.pool.now c.args.device.now) (outside c.read.new.pool c.read.new.cache) c.args.party.now c.read.new.party c.read.result c.read.ensures.answer)

pub returns-in-Ok-Past-clause-asked : goal.returns-in-Ok-Past-clause-asked
returns-in-Ok-Past-clause-asked g c =
    subst (DeviceDid g.D.CacheDev c.args.ptr.now.key.size c.args.device.now c.read.new.cache) (c.in-Ok-Past.is ∙ ap Ok c.in-Ok-Past.field-0-is)
    (read-asks g.C.Keeps g.P.Pool g.D.CacheDev c.args.arcs.now.config c.args.ptr.now c.args.t
    (outside c.args.pool.now c.args.device.now) (outside c.read.new.pool c.read.new.cache) c.args.party.now c.read.new.party c.read.result c.read.ensures.answer)

pub returns-in-Err-clause-asked : goal.returns-in-Err-clause-asked
returns-in-Err-clause-asked g c =
    fault-asks g.D.CacheDev c.args.ptr.now.key.size c.args.device.now c.read.new.cache c.in-Err.fault (subst (DeviceDid g.D.CacheDev c.args.ptr.now.key.size c.args.device.now c.read.new.cache) c.in-Err.is
    (read-asks g.C.Keeps g.P.Pool g.D.CacheDev c.args.arcs.now.config c.args.ptr.now c.args.t
    (outside c.args.pool.now c.args.device.now) (outside c.read.new.pool c.read.new.cache) c.args.party.now c.read.new.party c.read.result c.read.ensures.answer))
