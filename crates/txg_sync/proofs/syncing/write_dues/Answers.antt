use Rattle.std.proofs.Common.{◌≡◌, ℕ, suc, ◌+◌, List, Err, ap, slice_index_or, subst, arith}
use Rattle.std.proofs.lemmas.Result.{err_from_is_err_and}
use Rattle.vdev_io.specs.declared.fault.IoFault.{IoFault}
use Rattle.txg_sync.specs.declared.due.Due.{Due}
use Rattle.txg_sync.proofs.Gathering.{drop-next}
use Rattle.txg_sync.proofs.Loop.{HasWritten, begins-writing, cell-here, place-most, stops-here, writes-on}
use Rattle.txg_sync.proofs.syncing.write_dues.Goals as goal

pub loop-due-init : goal.loop-due-init
loop-due-init g c = let r = c.requires in
    begins-writing g.P.Pool c.args.arcs.now c.args.group c.args.tick c.args.next c.args.cells.now c.args.dues.now c.args.pool.now c.args.party.now r.hand r.due r.once r.aligned r.fits

pub write_due-requires-clause-cell : goal.write_due-requires-clause-cell
write_due-requires-clause-cell g c κs within =
    let none : Due = record { at = record { object = 0; block = 0 }; cell = 0 } in
    let index = c.loop-due.due-index in
    let dues : List Due = c.args.dues.now in
    cell-here g.P.Pool c.args.arcs.now c.args.group c.args.tick c.args.next c.args.cells.now dues c.args.pool.now c.args.party.now
    c.loop-due.cells c.loop-due.cells index c.loop-due.place 0 c.loop-due.pool c.loop-due.pool c.loop-due.party c.loop-due.party (slice_index_or dues index none) c.loop-due.invariant (drop-next dues index none (omega arith)) c.requires.all

pub returns-in_err-place-clause-answer : goal.returns-in_err-place-clause-answer
returns-in_err-place-clause-answer g c =
    let none : Due = record { at = record { object = 0; block = 0 }; cell = 0 } in
    let index = c.loop-due.due-index in
    let dues : List Due = c.args.dues.now in
    let p = err_from_is_err_and c.from_residual.result c.from_residual.ensures.1 in
    let a = c.in_err-place.ensures.answer in
    rw (p.1, p.2) (stops-here g.P.Pool c.args.arcs.now c.args.group c.args.tick c.args.next c.args.cells.now dues c.args.pool.now c.args.party.now
    c.loop-due.cells c.write_due.new.cells index c.loop-due.place 0 c.loop-due.pool c.write_due.new.pool c.loop-due.party c.write_due.new.party (slice_index_or dues index none) c.loop-due.invariant (drop-next dues index none (omega arith)) c.requires.all
    a.cell a.news_are a.does.0 c.in_err-place.field-0.0 a.does.1 c.in_err-place.ensures.size c.in_err-place.ensures.reads c.in_err-place.ensures.fault (λ is. c.in_err-place.ensures.failed (ap (λ (why : IoFault). Err why) is)))

pub overflow_add-place : goal.overflow_add-place
overflow_add-place g c =
    let none : Due = record { at = record { object = 0; block = 0 }; cell = 0 } in
    let index = c.loop-due.due-index in
    let dues : List Due = c.args.dues.now in
    let most = place-most g.P.Pool c.args.arcs.now c.args.group c.args.tick c.args.next c.args.cells.now dues c.args.pool.now c.args.party.now
    c.loop-due.cells c.write_due.new.cells index c.loop-due.place c.in_ok-place.field-0 c.loop-due.pool c.write_due.new.pool c.loop-due.party c.write_due.new.party (slice_index_or dues index none) c.loop-due.invariant (drop-next dues index none (omega arith)) c.requires.all c.in_ok-place.ensures.answer in
    let long = c.requires.length in
    omega arith

pub loop-due-preserved : goal.loop-due-preserved
loop-due-preserved g c =
    let none : Due = record { at = record { object = 0; block = 0 }; cell = 0 } in
    let index = c.loop-due.due-index in
    let dues : List Due = c.args.dues.now in
    let next : suc index ≡ index + 1 = omega arith in
    subst (λ (n : ℕ). HasWritten g.P.Pool c.args.arcs.now c.args.group c.args.tick c.args.next c.args.cells.now c.write_due.new.cells dues n c.args.pool.now c.write_due.new.pool c.args.party.now c.write_due.new.party (c.loop-due.place + c.in_ok-place.field-0)) next
    (writes-on g.P.Pool c.args.arcs.now c.args.group c.args.tick c.args.next c.args.cells.now dues c.args.pool.now c.args.party.now
    c.loop-due.cells c.write_due.new.cells index c.loop-due.place c.in_ok-place.field-0 c.loop-due.pool c.write_due.new.pool c.loop-due.party c.write_due.new.party (slice_index_or dues index none) c.loop-due.invariant (drop-next dues index none (omega arith)) c.requires.all
    c.in_ok-place.ensures.answer record { size = c.in_ok-place.ensures.size; reads = c.in_ok-place.ensures.reads; faults = c.in_ok-place.ensures.fault } c.in_ok-place.ensures.wrote)
