use Rattle.std.proofs.Common.{◌≡◌, Bool, true, inl, inr, map, sym, ap, subst}
use Rattle.std.specs.Prelude.{IfOk, Ok, is_some}
use Rattle.trace_run.specs.dbufs.ObjectLines.{on_object}
use Rattle.trace_text.specs.declared.op.Op.{Op}
use Rattle.trace_text.specs.declared.op.Op.TheVariants as ops
use Rattle.arc_table.specs.Reading.{outside}
use Rattle.trace_run.specs.callers.WorkLines.{DidWith, at_work}
use Rattle.trace_run.specs.KeptBlocks.{read_of}
use Rattle.trace_run.proofs.callers.CallerActLemmas.{same-caller}
use Rattle.trace_run.proofs.DeviceReadLemmas.{block-asks, drop-asks}
use Rattle.trace_run.proofs.LineLemmas.{drop-line, hold-line, read-line}
use Rattle.trace_run.proofs.RunLemmas.{got}
use Rattle.trace_run.proofs.WorkLemmas.{object-ok, plain-ok}
use Rattle.std.proofs.Common.{[], refl}
use Rattle.trace_run.proofs.one_caller.AskingLemmas.{device-same}
use Rattle.trace_run.proofs.one_caller.AskingLines.{hold-line-asks, read-line-asks}
use Rattle.trace_run.proofs.lines.line.Goals as goal

pub returns-in-Read-clause-did : goal.returns-in-Read-clause-did
returns-in-Read-clause-did g c =
    let kept = map read_of c.args.kept.now in
    let q = c.read_line.new.party in
    let b = c.read_line.new.pool in
    let before = outside c.args.pool.now c.args.device.now in
    let now = outside b c.read_line.new.device in
    let there = got c.args.blocks.now c.in-Read.x _ (rw c.in-Read.is at c.requires.declared) in
    subst (λ (op : Op). IfOk c.read_line.result (λ reply. DidWith g.P.Pool g.D.CacheDev c.args.arcs.now.config c.args.blocks.now op reply (at_work c.args.party.now kept before) (at_work q kept now))) (sym c.in-Read.is)
    (plain-ok g.P.Pool g.D.CacheDev c.args.arcs.now.config c.args.blocks.now c.args.party.now q before now kept kept (ops.Read c.in-Read.n c.in-Read.t c.in-Read.x c.in-Read.w) c.read_line.result refl
    (read-line c.args.arcs.now.config g.P.Pool c.args.blocks.now c.args.party.now q c.args.pool.now b c.in-Read.n c.in-Read.t c.in-Read.x c.in-Read.w _ kept c.read_line.result
    (rw c.in-Read.is at (same-caller c.args.party.now.number c.args.op.now c.requires.own)) there
    c.read_line.ensures.answer c.read_line.ensures.did c.read_line.ensures.found c.read_line.ensures.range c.read_line.ensures.calls c.read_line.ensures.pool)
    (block-asks g.D.CacheDev c.args.blocks.now c.in-Read.x _ c.args.device.now c.read_line.new.device c.read_line.result there c.read_line.ensures.asked)
    (read-line-asks c.args.arcs.now.config g.D.CacheDev c.args.blocks.now c.args.party.now c.args.device.now c.read_line.new.device c.in-Read.n c.in-Read.t c.in-Read.x c.in-Read.w _ c.read_line.result there c.read_line.ensures.asks))

pub returns-in-Hold-clause-did : goal.returns-in-Hold-clause-did
returns-in-Hold-clause-did g c =
    let kept = map read_of c.args.kept.now in
    let then = map read_of c.hold_line.new.kept in
    let q = c.hold_line.new.party in
    let b = c.hold_line.new.pool in
    let before = outside c.args.pool.now c.args.device.now in
    let now = outside b c.hold_line.new.device in
    let there = got c.args.blocks.now c.in-Hold.x _ (rw c.in-Hold.is at c.requires.declared) in
    subst (λ (op : Op). IfOk c.hold_line.result (λ reply. DidWith g.P.Pool g.D.CacheDev c.args.arcs.now.config c.args.blocks.now op reply (at_work c.args.party.now kept before) (at_work q then now))) (sym c.in-Hold.is)
    (plain-ok g.P.Pool g.D.CacheDev c.args.arcs.now.config c.args.blocks.now c.args.party.now q before now kept then (ops.Hold c.in-Hold.n c.in-Hold.t c.in-Hold.x) c.hold_line.result refl
    (hold-line c.args.arcs.now.config g.P.Pool c.args.blocks.now c.args.party.now q c.args.pool.now b c.in-Hold.n c.in-Hold.t c.in-Hold.x _ kept then c.hold_line.result
    (rw c.in-Hold.is at (same-caller c.args.party.now.number c.args.op.now c.requires.own)) there
    c.hold_line.ensures.answer c.hold_line.ensures.kept c.hold_line.ensures.did c.hold_line.ensures.found c.hold_line.ensures.range c.hold_line.ensures.calls c.hold_line.ensures.pool)
    (block-asks g.D.CacheDev c.args.blocks.now c.in-Hold.x _ c.args.device.now c.hold_line.new.device c.hold_line.result there c.hold_line.ensures.asked)
    (hold-line-asks c.args.arcs.now.config g.D.CacheDev c.args.blocks.now c.args.party.now c.args.device.now c.hold_line.new.device c.in-Hold.n c.in-Hold.t c.in-Hold.x _ c.hold_line.result there c.hold_line.ensures.asks))

pub returns-in-Drop-clause-did : goal.returns-in-Drop-clause-did
returns-in-Drop-clause-did g c =
    let kept = map read_of c.args.kept.now in
    let then = map read_of c.drop_line.new.kept in
    let q = c.drop_line.new.party in
    let same = outside c.args.pool.now c.args.device.now in
    subst (λ (op : Op). DidWith g.P.Pool g.D.CacheDev c.args.arcs.now.config c.args.blocks.now op c.drop_line.result (at_work c.args.party.now kept same) (at_work q then same)) (sym c.in-Drop.is)
    (plain-ok g.P.Pool g.D.CacheDev c.args.arcs.now.config c.args.blocks.now c.args.party.now q same same kept then (ops.Drop c.in-Drop.n c.in-Drop.x) (Ok c.drop_line.result) refl
    (drop-line c.args.arcs.now.config g.P.Pool c.args.blocks.now c.args.party.now q c.args.pool.now c.args.pool.now c.in-Drop.n c.in-Drop.x kept then c.drop_line.result
    (rw c.in-Drop.is at (same-caller c.args.party.now.number c.args.op.now c.requires.own)) c.requires.named
    c.drop_line.ensures.answer c.drop_line.ensures.kept c.drop_line.ensures.drops c.drop_line.ensures.none c.drop_line.ensures.calls)
    (drop-asks g.D.CacheDev 0 c.args.device.now _ 0 c.in-Drop.x c.drop_line.result c.drop_line.ensures.answer) (λ all. ([], (refl, refl))))

-- one on an object
pub returns-in-Get-clause-did : goal.returns-in-Get-clause-did
returns-in-Get-clause-did g c =
    let some : Op → Bool = λ op. is_some (on_object op) in
    let on : some c.args.op.now ≡ true = elim c.in-Get.is [
      | inl get ↦ ap some get.4
      | inr other ↦ elim other [
        | inl put ↦ ap some put.5
        | inr other ↦ elim other [
          | inl patch ↦ ap some patch.5
          | inr other ↦ elim other [
            | inl pin ↦ ap some pin.3
            | inr unpin ↦ ap some unpin.2
          ]
        ]
      ]
    ] in
    object-ok g.P.Pool g.D.CacheDev c.args.arcs.now.config c.args.blocks.now c.args.party.now c.object_line.new.party (outside c.args.pool.now c.args.device.now) (outside c.object_line.new.pool c.object_line.new.device) (map read_of c.args.kept.now) c.args.op.now
    c.object_line.result c.requires.own on c.object_line.ensures.pool c.object_line.ensures.device c.object_line.ensures.did

pub returns-in-Drop-clause-device : goal.returns-in-Drop-clause-device
returns-in-Drop-clause-device g c = device-same g.D.CacheDev c.args.device.now
