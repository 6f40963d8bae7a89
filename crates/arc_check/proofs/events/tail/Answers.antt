use Rattle.std.proofs.Common.{subst, sym}
use Rattle.arc_check.specs.Reading.{IsTailRead}
use Rattle.arc_check.specs.declared.words.Name.{Name}
use Rattle.arc_check.proofs.events.tail.Goals as goal

pub returns-in-Hit : goal.returns-in-Hit
returns-in-Hit c =
    subst (λ (m : Name). IsTailRead c.args.parties m c.args.n c.args.key c.args.fields.now c.hit.new.fields c.hit.result) (sym c.in-Hit.is) (c.hit.ensures c.args.parties)

pub returns-in-Miss : goal.returns-in-Miss
returns-in-Miss c =
    subst (λ (m : Name). IsTailRead c.args.parties m c.args.n c.args.key c.args.fields.now c.miss.new.fields c.miss.result) (sym c.in-Miss.is) (c.miss.ensures c.args.parties)

pub returns-in-Arrive : goal.returns-in-Arrive
returns-in-Arrive c =
    subst (λ (m : Name). IsTailRead c.args.parties m c.args.n c.args.key c.args.fields.now c.arrive.new.fields c.arrive.result) (sym c.in-Arrive.is) (c.arrive.ensures c.args.parties)

pub returns-in-Fail : goal.returns-in-Fail
returns-in-Fail c =
    subst (λ (m : Name). IsTailRead c.args.parties m c.args.n c.args.key c.args.fields.now c.fail.new.fields c.fail.result) (sym c.in-Fail.is) (c.fail.ensures c.args.parties)

pub returns-in-Past : goal.returns-in-Past
returns-in-Past c =
    subst (λ (m : Name). IsTailRead c.args.parties m c.args.n c.args.key c.args.fields.now c.past.new.fields c.past.result) (sym c.in-Past.is) (c.past.ensures c.args.parties)

pub returns-in-Insert : goal.returns-in-Insert
returns-in-Insert c =
    subst (λ (m : Name). IsTailRead c.args.parties m c.args.n c.args.key c.args.fields.now c.insert.new.fields c.insert.result) (sym c.in-Insert.is) (c.insert.ensures c.args.parties)

pub returns-in-Release : goal.returns-in-Release
returns-in-Release c =
    subst (λ (m : Name). IsTailRead c.args.parties m c.args.n c.args.key c.args.fields.now c.release.new.fields c.release.result) (sym c.in-Release.is) (c.release.ensures c.args.parties)

pub returns-in-Set : goal.returns-in-Set
returns-in-Set c =
    subst (λ (m : Name). IsTailRead c.args.parties m c.args.n c.args.key c.args.fields.now c.set.new.fields c.set.result) (sym c.in-Set.is) (c.set.ensures c.args.parties)

pub returns-in-Leave : goal.returns-in-Leave
returns-in-Leave c =
    subst (λ (m : Name). IsTailRead c.args.parties m c.args.n c.args.key c.args.fields.now c.leave.new.fields c.leave.result) (sym c.in-Leave.is) (c.leave.ensures c.args.parties)

pub returns-in-Restore : goal.returns-in-Restore
returns-in-Restore c =
    subst (λ (m : Name). IsTailRead c.args.parties m c.args.n c.args.key c.args.fields.now c.restore.new.fields c.restore.result) (sym c.in-Restore.is) (c.restore.ensures c.args.parties)
