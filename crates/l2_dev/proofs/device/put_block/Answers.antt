use Rattle.std.proofs.Common.{arith}
use Rattle.std.proofs.lemmas.Result.{err_from_is_err_and}
use Rattle.vdev_io.specs.declared.fault.Failed.{Failed}
use Rattle.l2_dev.specs.declared.fault.DevErr.{DevErr}
use Rattle.l2_dev.proofs.Puts.{written_err, written_torn}
use Rattle.l2_dev.proofs.device.put_block.Goals as goal

pub returns-in_err-write_at-clause-written : goal.returns-in_err-write_at-clause-written
returns-in_err-write_at-clause-written g c =
    let d = g.D.CacheDev in
    let e = err_from_is_err_and c.from_residual.result c.from_residual.ensures.1 in
    rw e.1 (written_err (Unit {0}) Failed (Unit {0}) DevErr c.args.entry.place c.args.bytes.now (d.told c.args.dev.now) (d.told c.write_at.new.dev) _ _ c.in_err-write_at.ensures.told)

pub returns-in_err-push-clause-written : goal.returns-in_err-push-clause-written
returns-in_err-push-clause-written g c =
    let d = g.D.CacheDev in
    let laws = g.met.D.CacheDev g.world.𝓛 g.world.𝓜 g.world.𝓡 ((λ s x. x), (λ x. x), (λ x. x), λ x. x) in
    let e = err_from_is_err_and c.from_residual-in_err-push.result c.from_residual-in_err-push.ensures.1 in
    rw e.1
    (written_torn (Unit {0}) Failed (Unit {0}) DevErr c.args.entry.place c.args.bytes.now (d.told c.args.dev.now) (d.told c.write_at.new.dev) _ _ (λ image told. let n = laws.told_len c.args.dev.now image told in omega (arith, n, c.requires.inside))
    c.in_ok-write_at.ensures.told)

pub returns-in_err-write_at-clause-calls : goal.returns-in_err-write_at-clause-calls
returns-in_err-write_at-clause-calls g c =
    let p = err_from_is_err_and c.from_residual.result c.from_residual.ensures.1 in
    rw (p.1, p.2) c.in_err-write_at.ensures.calls

pub returns-in_err-push-clause-calls : goal.returns-in_err-push-clause-calls
returns-in_err-push-clause-calls g c =
    let p = err_from_is_err_and c.from_residual-in_err-push.result c.from_residual-in_err-push.ensures.1 in
    rw (p.1, p.2) c.in_ok-write_at.ensures.calls
