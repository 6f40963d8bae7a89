use Rattle.std.proofs.Common.{inr, arith}
use Rattle.std.proofs.lemmas.Result.{err_from_is_err_and}
use Rattle.l2_dev.proofs.Begins.{begin_failed, begin_kept, dropped_of, opened_planned, opened_header}
use Rattle.l2_dev.proofs.Cursors.{base_at_rest}
use Rattle.l2_dev.proofs.Puts.{written_err, written_ok}
use Rattle.vdev_io.specs.declared.fault.Failed.{Failed}
use Rattle.l2_dev.specs.declared.fault.DevErr.{DevErr}
use Rattle.l2_dev.proofs.device.L2Dev.begin.Goals as goal

pub returns-in_err-write_header-clause-dropped : goal.returns-in_err-write_header-clause-dropped
returns-in_err-write_header-clause-dropped g c =
    λ h.
    let plan = c.room-plan.result in
    (plan, c.room-plan.ensures.plan, dropped_of plan c.args.self.now.cursor.ring.live c.args.dropped.now.items c.reserve.new.self.items c.take.new.dropped.items c.in_ok-reserve.ensures.items c.take.ensures.dropped)

pub returns-clause-dropped : goal.returns-clause-dropped
returns-clause-dropped g c =
    λ h.
    let plan = c.room-plan.result in
    (plan, c.room-plan.ensures.plan, dropped_of plan c.args.self.now.cursor.ring.live c.args.dropped.now.items c.reserve.new.self.items c.take.new.dropped.items c.in_ok-reserve.ensures.items c.take.ensures.dropped)

pub returns-in_err-write_header-clause-crash : goal.returns-in_err-write_header-clause-crash
returns-in_err-write_header-clause-crash g c =
    λ p kept below.
    let d = g.D.CacheDev in
    let laws = g.met.D.CacheDev g.world.𝓛 g.world.𝓜 g.world.𝓡 ((λ s x. x), (λ x. x), (λ x. x), λ x. x) in
    let dev = c.args.self.now.dev in
    let cursor = c.args.self.now.cursor in
    let is = c.room-plan.ensures.kept in
    let end = is.sound.ends.long in
    let e = err_from_is_err_and c.from_residual-in_err-write_header.result c.from_residual-in_err-write_header.ensures.1 in
    rw e.1
    (inr (begin_failed d.told d.has_sectors d.may_leave d.moment d.left_since c.args.n dev c.write_header.new.dev cursor c.take.new.self p c.header-header.result c.write_header.result kept (c.take.ensures.planned c.args.n c.room-plan.ensures.plan)
    (base_at_rest cursor.ring cursor.base cursor.pending cursor.ready is c.requires.none) below c.header-header.ensures.header c.write_header.ensures.written
    record {
      told_left = laws.leaves_told dev;
      now_only = λ x yes left. laws.only_now dev x yes left;
      long = λ x left. let len = laws.leaves_len dev x left in omega (arith, len, c.requires.whole);
    } c.take.ensures.ready))

pub returns-clause-crash : goal.returns-clause-crash
returns-clause-crash g c =
    λ p kept below.
    let d = g.D.CacheDev in
    let laws = g.met.D.CacheDev g.world.𝓛 g.world.𝓜 g.world.𝓡 ((λ s x. x), (λ x. x), (λ x. x), λ x. x) in
    let dev = c.args.self.now.dev in
    let cursor = c.args.self.now.cursor in
    let is = c.room-plan.ensures.kept in
    let end = is.sound.ends.long in
    let same = c.open.ensures.same in
    inr (begin_kept d.told d.has_sectors d.may_leave d.moment d.left_since c.args.n dev c.write_header.new.dev cursor c.open.new.self p c.header-header.result _ kept
    (opened_planned c.args.n cursor c.take.new.self c.open.new.self (c.take.ensures.planned c.args.n c.room-plan.ensures.plan) same.0 same.1 same.2 same.3 same.4)
    (base_at_rest cursor.ring cursor.base cursor.pending cursor.ready is c.requires.none) below
    (opened_header c.take.new.self c.open.new.self c.header-header.result c.header-header.ensures.header same.0 same.1 same.2 same.3)
    c.in_ok-write_header.ensures.written c.in_ok-write_header.ensures.written.done
    record {
      told_left = laws.leaves_told dev;
      now_only = λ x yes left. laws.only_now dev x yes left;
      long = λ x left. let len = laws.leaves_len dev x left in omega (arith, len, c.requires.whole);
    })

pub returns-in_err-write_header-clause-written : goal.returns-in_err-write_header-clause-written
returns-in_err-write_header-clause-written g c =
    λ h.
    let d = g.D.CacheDev in
    let e = err_from_is_err_and c.from_residual-in_err-write_header.result c.from_residual-in_err-write_header.ensures.1 in
    let w = c.in_err-write_header.ensures.written in
    rw e.1 (
      c.header-header.result,
      c.header-header.ensures.header,
      record {
        sector = w.sector;
        is = w.is;
        wrote = w.wrote;
        image = written_err (Unit {0}) Failed (Unit {0}) DevErr 0 w.sector (d.told c.args.self.now.dev) (d.told c.write_header.new.dev) _ _ c.in_err-write_header.ensures.written.image;
        done = tt;
      },
    )

pub returns-clause-written : goal.returns-clause-written
returns-clause-written g c =
    λ h.
    let d = g.D.CacheDev in
    let same = c.open.ensures.same in
    let w = c.in_ok-write_header.ensures.written in (
      c.header-header.result,
      opened_header c.take.new.self c.open.new.self c.header-header.result c.header-header.ensures.header same.0 same.1 same.2 same.3,
      record {
        sector = w.sector;
        is = w.is;
        wrote = w.wrote;
        image = written_ok (Unit {0}) Failed (Unit {0}) DevErr 0 w.sector (d.told c.args.self.now.dev) (d.told c.write_header.new.dev) _ _ w.image;
        done = w.done;
      },
    )

pub returns-clause-planned : goal.returns-clause-planned
returns-clause-planned g c =
    λ h.
    let same = c.open.ensures.same in
    opened_planned c.args.n c.args.self.now.cursor c.take.new.self c.open.new.self (c.take.ensures.planned c.args.n c.room-plan.ensures.plan) same.0 same.1 same.2 same.3 same.4

pub returns-in_err-write_header-clause-calls : goal.returns-in_err-write_header-clause-calls
returns-in_err-write_header-clause-calls g c =
    λ h.
    let e = err_from_is_err_and c.from_residual-in_err-write_header.result c.from_residual-in_err-write_header.ensures.1 in
    let w = c.in_err-write_header.ensures.calls in
    rw e.1 (w.0, c.header-header.result, w.1, c.header-header.ensures.header, w.2)

pub returns-clause-calls : goal.returns-clause-calls
returns-clause-calls g c =
    λ h.
    let same = c.open.ensures.same in
    let w = c.in_ok-write_header.ensures.calls in (
      w.0,
      c.header-header.result,
      w.1,
      opened_header c.take.new.self c.open.new.self c.header-header.result c.header-header.ensures.header same.0 same.1 same.2 same.3,
      w.2,
    )
