use Rattle.std.proofs.Common.{[], ◌∷◌, arith}
use Rattle.std.proofs.lemmas.Result.{err_from_is_err_and}
use Rattle.vdev_io.specs.Calls.{Flush, Write}
use Rattle.vdev_io.proofs.CallLemmas.{asked_behind, asked_once, makes_flush, up_to_wider}
use Rattle.vdev_io.specs.declared.fault.Failed.{Failed}
use Rattle.l2_dev.proofs.CallLaws.{wrote_flushed}
use Rattle.l2_dev.proofs.Puts.{written_flushed}
use Rattle.l2_dev.proofs.write.write_through.Goals as goal

pub returns-clause-wrote : goal.returns-clause-wrote
returns-clause-wrote g c =
    let d = g.D.CacheDev in
    wrote_flushed d.told d.has_sectors d.may_leave d.moment d.left_since c.args.offset c.args.bytes.now c.args.dev.now c.write_at.new.dev c.flush.new.self c.write_at.ensures.wrote c.flush.ensures.kind c.flush.ensures.told
    c.flush.ensures.crash c.flush.ensures.time.later c.flush.ensures.since

pub returns-clause-told : goal.returns-clause-told
returns-clause-told g c =
    let d = g.D.CacheDev in
    let laws = g.met.D.CacheDev g.world.𝓛 g.world.𝓜 g.world.𝓡 ((λ s x. x), (λ x. x), (λ x. x), λ x. x) in
    written_flushed (Unit {0}) Failed (Unit {0}) Failed c.args.offset c.args.bytes.now (d.told c.args.dev.now) (d.told c.write_at.new.dev) (d.told c.flush.new.self) _ c.flush.result
    (λ image told. let n = laws.told_len c.args.dev.now image told in omega (arith, n, c.requires.inside)) c.in_ok-write_at.ensures.told c.flush.ensures.told

pub returns-in_err-write_at-clause-calls : goal.returns-in_err-write_at-clause-calls
returns-in_err-write_at-clause-calls g c =
    let d = g.D.CacheDev in
    let e = err_from_is_err_and c.from_residual.result c.from_residual.ensures.1 in
    rw e.1 (up_to_wider d (Write c.args.offset c.args.bytes.now ∷ []) (Flush ∷ []) c.args.dev.now c.write_at.new.dev c.in_err-write_at.ensures.calls)

pub returns-clause-calls : goal.returns-clause-calls
returns-clause-calls g c =
    let d = g.D.CacheDev in
    let e = c.flush.ensures in
    asked_behind d (Write c.args.offset c.args.bytes.now ∷ []) (Flush ∷ []) c.args.dev.now c.write_at.new.dev c.flush.new.self c.flush.result c.in_ok-write_at.ensures.calls
    (asked_once d Flush c.write_at.new.dev c.flush.new.self c.flush.result (makes_flush d c.write_at.new.dev c.flush.new.self c.flush.result e.size e.kind e.told e.crash e.durable e.failed e.reads e.others e.fault))
