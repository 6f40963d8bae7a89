use Rattle.std.proofs.Common.{◌∙◌, IsTrue, IfSome, IfNone, sym, ap, subst}
use Rattle.arc_core.specs.ShardLog.{AreAllNamed, IsUnnamed}
use Rattle.arc_core.specs.ShardModel.{log_in}
use Rattle.arc_core.specs.Sparing.{next_victim}
use Rattle.arc_core.specs.Step.{legal}
use Rattle.arc_core.proofs.CursorEnds.{if-all-named, if-unnamed}
use Rattle.arc_core.proofs.shard.Shard.victim.Goals as goal

pub returns-clause-some : goal.returns-clause-some
returns-clause-some c =
    let log = log_in c.self.inside in
    let e = c.args.e.now in
    let ok : IsTrue (legal log.now e) = subst (λ l. IsTrue (legal l.now e)) (sym c.self.view_is) c.requires in
    let is = c.next_victim.ensures.value ∙ ap (λ l. next_victim l.now l.marked e) (sym c.self.view_is) in
    subst (λ l. IfSome c.next_victim.result (λ k. IsUnnamed k e l)) c.self.view_is (if-unnamed log e c.next_victim.result c.self.invariant.replayed.sound ok is)

pub returns-clause-none : goal.returns-clause-none
returns-clause-none c =
    let log = log_in c.self.inside in
    let e = c.args.e.now in
    let ok : IsTrue (legal log.now e) = subst (λ l. IsTrue (legal l.now e)) (sym c.self.view_is) c.requires in
    let is = c.next_victim.ensures.value ∙ ap (λ l. next_victim l.now l.marked e) (sym c.self.view_is) in
    subst (λ l. IfNone c.next_victim.result (AreAllNamed e l)) c.self.view_is (if-all-named log e c.next_victim.result c.self.invariant.replayed.sound ok is)
