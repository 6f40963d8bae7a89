use Rattle.std.proofs.Common.{None, get_or, refl, sym, ◌∙◌, subst}
use Rattle.turn_table.specs.Board.{IsAmong}
use Rattle.arc_core.specs.declared.served.Restored.{Restored}
use Rattle.std.specs.Prelude.{Err}
use Rattle.arc_table.specs.declared.restores.RestoreStop.{RestoreStop}
use Rattle.arc_table.specs.feeder.Feeding.{AnswersRestore}
use Rattle.arc_table.proofs.feeder.FeedEvents.{element_at, restored_more, stopped_at}
use Rattle.arc_table.proofs.arcs.Arcs.restore.Goals as goal

pub restore_one-requires-clause-look : goal.restore_one-requires-clause-look
restore_one-requires-clause-look g c = λ i among. c.requires.look i (subst (IsAmong i) c.loop-done.invariant.held among)

pub restore_one-requires-clause-key : goal.restore_one-requires-clause-key
restore_one-requires-clause-key g c =
    let d : Restored = record { key = record { offset = 0; size = 0; birth = 0 }; place = 0; digest = None } in
    c.requires.keys c.loop-done.done (get_or c.args.list.now c.loop-done.done d) (element_at c.args.list.now c.loop-done.done d c.loop-done-test.true)

pub returns-in-Err : goal.returns-in-Err
returns-in-Err g c =
    let m = g.C.Keeps in
    let d : Restored = record { key = record { offset = 0; size = 0; birth = 0 }; place = 0; digest = None } in
    let i = c.loop-done.invariant in
    subst (λ (x : RestoreStop). AnswersRestore m c.args.self.now.config c.args.list.now c.args.party.now c.restore_one.new.party (Err x)) (sym c.after.ensures)
    (stopped_at m c.args.self.now.config c.args.party.now.number c.args.list.now c.loop-done.done d c.in-Err.refused c.args.party.now c.loop-done.party c.restore_one.new.party c.loop-done-test.true refl i.restored c.in-Err.ensures.answer)

pub loop-done-preserved : goal.loop-done-preserved
loop-done-preserved g c =
    let m = g.C.Keeps in
    let d : Restored = record { key = record { offset = 0; size = 0; birth = 0 }; place = 0; digest = None } in
    let i = c.loop-done.invariant in
    let e = c.in-Ok.ensures in record {
      party = e.party;
      number = e.number ∙ i.number;
      held = e.held ∙ i.held;
      restored = restored_more m c.args.self.now.config c.args.party.now.number c.args.list.now c.loop-done.done d c.args.party.now c.loop-done.party c.restore_one.new.party c.loop-done-test.true i.number i.restored e.answer;
    }
