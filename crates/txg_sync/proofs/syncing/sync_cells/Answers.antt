use Rattle.std.proofs.Common.{◌≡◌, ◌-◌, ◌≤◌, List, length, refl, sym, ap, ◌∙◌, subst, arith}
use Rattle.std.proofs.lemmas.Result.{err_from_is_err_and}
use Rattle.dbuf_cells.specs.Turns.{OnHeap}
use Rattle.txg_sync.specs.Syncing.{AreAllDirty, Same}
use Rattle.txg_sync.specs.InHand.{AreDueIn}
use Rattle.txg_sync.specs.Items.{AreApart, need_of}
use Rattle.txg_sync.specs.declared.due.Due.{Due}
use Rattle.txg_sync.proofs.Dirty.{all-apart, all-due, count-most}
use Rattle.txg_sync.proofs.Ended.{dues-claims, dues-may-give, dues-number, dues-stopped, dues-written, may-give-all, nothing-done, sized-all}
use Rattle.txg_sync.proofs.syncing.sync_cells.Goals as goal

pub returns-in_default-clause-hand : goal.returns-in_default-clause-hand
returns-in_default-clause-hand g c = may-give-all c.args.arcs.now c.args.tick c.args.cells.now c.args.cells.now c.args.party.now c.args.party.now _ Same (nothing-done c.args.arcs.now c.args.tick c.args.cells.now c.args.party.now c.requires.hand)

pub need_of-need-requires : goal.need_of-need-requires
need_of-need-requires g c = subst (AreDueIn c.args.cells.now) (sym c.deref.ensures.value) (all-due c.args.cells.now c.in-Ok.dues.items c.in-Ok.ensures.known c.in-Ok.ensures.all)

pub returns-then-need-from-clause-hand : goal.returns-then-need-from-clause-hand
returns-then-need-from-clause-hand g c = may-give-all c.args.arcs.now c.args.tick c.args.cells.now c.args.cells.now c.args.party.now c.args.party.now _ Same (nothing-done c.args.arcs.now c.args.tick c.args.cells.now c.args.party.now c.requires.hand)

pub write_dues-requires-clause-due : goal.write_dues-requires-clause-due
write_dues-requires-clause-due g c κs within = subst (AreDueIn c.args.cells.now) (sym c.deref-2.ensures.value) (all-due c.args.cells.now c.in-Ok.dues.items c.in-Ok.ensures.known c.in-Ok.ensures.all)

pub write_dues-requires-clause-once : goal.write_dues-requires-clause-once
write_dues-requires-clause-once g c κs within = subst AreApart (sym c.deref-2.ensures.value) (all-apart c.args.cells.now c.in-Ok.dues.items c.in-Ok.ensures.known c.in-Ok.ensures.all)

pub returns-in_err-behind-clause-hand : goal.returns-in_err-behind-clause-hand
returns-in_err-behind-clause-hand g c = dues-may-give g.P.Pool c.args.arcs.now c.args.group c.args.tick c.args.next c.args.cells.now c.write_dues.new.cells c.args.pool.now c.write_dues.new.pool c.args.party.now c.write_dues.new.party c.deref-2.result.now c.write_dues.result c.write_dues.ensures.answer

pub returns-in_err-behind-clause-answer : goal.returns-in_err-behind-clause-answer
returns-in_err-behind-clause-answer g c =
    let cells : List OnHeap = c.args.cells.now in
    let dues : List Due = c.deref-2.result.now in
    let dirty : AreAllDirty cells dues = subst (AreAllDirty cells) (sym c.deref-2.ensures.value) record { rising = c.in-Ok.ensures.rising; all = c.in-Ok.ensures.all } in
    let fits : need_of cells dues ≤ g.P.Pool.size c.args.pool.now - c.args.next =
    let full = c.if-need-from.false in
    let need = c.need_of-need.ensures in
    let there = ap (need_of cells) (c.deref.ensures.value ∙ sym c.deref-2.ensures.value) in
    let from = c.from.ensures in
    let size = c.len.ensures in
    let inside = c.requires.inside in
    omega arith in
    let p = err_from_is_err_and c.from_residual.result c.from_residual.ensures.1 in
    rw (p.1, p.2) (dues-stopped g.P.Pool c.args.arcs.now c.args.group c.args.tick c.args.next cells c.write_dues.new.cells c.args.pool.now c.write_dues.new.pool c.args.party.now c.write_dues.new.party dues dirty fits c.in_err-behind.field-0.0 c.in_err-behind.ensures.answer)

pub overflow_cast-result : goal.overflow_cast-result
overflow_cast-result g c =
    let most = count-most c.args.cells.now c.in-Ok.dues.items (all-due c.args.cells.now c.in-Ok.dues.items c.in-Ok.ensures.known c.in-Ok.ensures.all) in
    let len = c.len-2.ensures in
    let same = c.in-Ok.dues.ok.0 in
    let full = c.if-need-from.false in
    let need = c.need_of-need.ensures in
    let there = ap (need_of c.args.cells.now) c.deref.ensures.value in
    let from = c.from.ensures in
    let size = c.len.ensures in
    let long = c.requires.length in
    omega arith

pub returns-clause-hand : goal.returns-clause-hand
returns-clause-hand g c = dues-may-give g.P.Pool c.args.arcs.now c.args.group c.args.tick c.args.next c.args.cells.now c.write_dues.new.cells c.args.pool.now c.write_dues.new.pool c.args.party.now c.write_dues.new.party c.deref-2.result.now c.write_dues.result c.write_dues.ensures.answer

pub returns-in_err-behind-clause-claims : goal.returns-in_err-behind-clause-claims
returns-in_err-behind-clause-claims g c = dues-claims g.P.Pool c.args.arcs.now c.args.group c.args.tick c.args.next c.args.cells.now c.write_dues.new.cells c.args.pool.now c.write_dues.new.pool c.args.party.now c.write_dues.new.party c.deref-2.result.now c.write_dues.result c.write_dues.ensures.answer

pub returns-clause-claims : goal.returns-clause-claims
returns-clause-claims g c = dues-claims g.P.Pool c.args.arcs.now c.args.group c.args.tick c.args.next c.args.cells.now c.write_dues.new.cells c.args.pool.now c.write_dues.new.pool c.args.party.now c.write_dues.new.party c.deref-2.result.now c.write_dues.result c.write_dues.ensures.answer

pub returns-in_err-behind-clause-number : goal.returns-in_err-behind-clause-number
returns-in_err-behind-clause-number g c = dues-number g.P.Pool c.args.arcs.now c.args.group c.args.tick c.args.next c.args.cells.now c.write_dues.new.cells c.args.pool.now c.write_dues.new.pool c.args.party.now c.write_dues.new.party c.deref-2.result.now c.write_dues.result c.write_dues.ensures.answer

pub returns-clause-number : goal.returns-clause-number
returns-clause-number g c = dues-number g.P.Pool c.args.arcs.now c.args.group c.args.tick c.args.next c.args.cells.now c.write_dues.new.cells c.args.pool.now c.write_dues.new.pool c.args.party.now c.write_dues.new.party c.deref-2.result.now c.write_dues.result c.write_dues.ensures.answer

pub returns-clause-answer : goal.returns-clause-answer
returns-clause-answer g c =
    let cells : List OnHeap = c.args.cells.now in
    let dues : List Due = c.deref-2.result.now in
    let dirty : AreAllDirty cells dues = subst (AreAllDirty cells) (sym c.deref-2.ensures.value) record { rising = c.in-Ok.ensures.rising; all = c.in-Ok.ensures.all } in
    let fits : need_of cells dues ≤ g.P.Pool.size c.args.pool.now - c.args.next =
    let full = c.if-need-from.false in
    let need = c.need_of-need.ensures in
    let there = ap (need_of cells) (c.deref.ensures.value ∙ sym c.deref-2.ensures.value) in
    let from = c.from.ensures in
    let size = c.len.ensures in
    let inside = c.requires.inside in
    omega arith in
    let sized = sized-all cells dues (subst (AreDueIn cells) (sym c.deref-2.ensures.value) (all-due cells c.in-Ok.dues.items c.in-Ok.ensures.known c.in-Ok.ensures.all)) in
    let many : c.len-2.result ≡ length dues =
    let len = c.len-2.ensures in
    let same = c.in-Ok.dues.ok.0 in
    let there = ap (λ (l : List Due). length l) c.deref-2.ensures.value in
    omega arith in
    dues-written g.P.Pool c.args.arcs.now c.args.group c.args.tick c.args.next cells c.write_dues.new.cells c.args.pool.now c.write_dues.new.pool c.args.party.now c.write_dues.new.party dues dirty fits c.in_ok-behind.behind
    record { blocks = c.len-2.result; bytes = c.in_ok-behind.behind - c.args.next; next = c.in_ok-behind.behind } sized c.in_ok-behind.ensures.answer many refl refl
