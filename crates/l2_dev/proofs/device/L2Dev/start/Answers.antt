use Rattle.std.proofs.Common.{◌≡◌, ℕ, ◌-◌, ◌%◌, subst, arith}
use Rattle.l2_dev.specs.Rebuilding.{IsStarted, ring_end_of}
use Rattle.l2_dev.proofs.Starts.{start_keeps, started_rebuilt}
use Rattle.l2_dev.proofs.device.L2Dev.start.Goals as goal

pub returns-in-Ok-clause-started : goal.returns-in-Ok-clause-started
returns-in-Ok-clause-started g c =
    let at = c.len-len.ensures in
    let end : c.len-len.result - c.len-len.result % 512 ≡ ring_end_of (g.D.CacheDev.size c.args.dev) = omega (arith, at) in
    let started = c.in-Ok.ensures.started in (
      started.0,
      started.1,
      λ image told. subst (λ (e : ℕ). IsStarted e image started.0 c.in-Ok.field-0.cursor c.in-Ok.field-0.restored.items c.in-Ok.field-0.stop) end (started.2 image told),
    )

pub returns-in-Ok-clause-rebuilt : goal.returns-in-Ok-clause-rebuilt
returns-in-Ok-clause-rebuilt g c =
    let started = returns-in-Ok-clause-started g c in
    λ image told.
    started_rebuilt (ring_end_of (g.D.CacheDev.size c.args.dev)) image started.0 c.in-Ok.field-0.cursor c.in-Ok.field-0.restored.items c.in-Ok.field-0.stop (started.2 image told)

pub returns-in-Ok-clause-crash : goal.returns-in-Ok-clause-crash
returns-in-Ok-clause-crash g c =
    let d = g.D.CacheDev in
    let at = c.len-len.ensures in
    let end : c.len-len.result - c.len-len.result % 512 ≡ ring_end_of (g.D.CacheDev.size c.args.dev) = omega (arith, at) in
    let started = returns-in-Ok-clause-started g c in
    start_keeps d.size d.told d.has_sectors d.may_leave d.moment d.left_since d.faults c.args.dev c.rebuild.new.dev (ring_end_of (d.size c.args.dev)) started.0 c.in-Ok.field-0.cursor c.in-Ok.field-0.restored.items
    c.in-Ok.field-0.stop c.rebuild.ensures.read (rw (← end) c.in-Ok.ensures.opened) started.2
