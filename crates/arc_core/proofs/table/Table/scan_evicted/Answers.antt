use Rattle.std.proofs.Common.{◌∙◌, sym, subst}
use Rattle.arc_core.specs.declared.table.scan.Kind.{Kind}
use Rattle.arc_core.specs.Cursor.{IsScanOf}
use Rattle.arc_core.specs.Rules.{evicted}
use Rattle.arc_core.specs.Sound.{IsTidy}
use Rattle.arc_core.proofs.CursorSteps.{from-mfu, from-mru}
use Rattle.arc_core.proofs.table.Table.scan_evicted.Goals as goal

pub evicted_of-requires : goal.evicted_of-requires
evicted_of-requires c =
    let s = c.args.self.now.shard in
    let tidy = subst (λ t. IsTidy t.shard) c.self.view_is c.self.invariant.tidy in
    let can = c.requires in
    let from = from-mru c.args.about s tidy c.args.scan.now can.at c.args.key can.scan can.z can.next (sym c.is_at.ensures ∙ c.if-is_at.true) in
    record { on = can.scan.mru.next_on c.args.key from.next; size = from.le; room = from.room }

pub evicted_of-requires-else-is_at : goal.evicted_of-requires-else-is_at
evicted_of-requires-else-is_at c =
    let s = c.args.self.now.shard in
    let tidy = subst (λ t. IsTidy t.shard) c.self.view_is c.self.invariant.tidy in
    let can = c.requires in
    let from = from-mfu c.args.about s tidy c.args.scan.now can.at c.args.key can.scan can.z can.next (sym c.is_at.ensures ∙ c.if-is_at.false) in
    record { on = can.scan.mfu.next_on c.args.key from.next; size = from.le; room = from.room }

pub returns-then-is_at : goal.returns-then-is_at
returns-then-is_at c t z at chosen =
    let s = c.args.self.now.shard in
    let tidy = subst (λ t. IsTidy t.shard) c.self.view_is c.self.invariant.tidy in
    let from = from-mru c.args.about s tidy c.args.scan.now t c.args.key at z chosen (sym c.is_at.ensures ∙ c.if-is_at.true) in
    subst (λ (y : Kind). IsScanOf c.args.about s (record c.args.scan.now { mru = y }) (evicted c.args.key t)) (sym c.evicted_of.ensures) from.scan

pub returns-else-is_at : goal.returns-else-is_at
returns-else-is_at c t z at chosen =
    let s = c.args.self.now.shard in
    let tidy = subst (λ t. IsTidy t.shard) c.self.view_is c.self.invariant.tidy in
    let from = from-mfu c.args.about s tidy c.args.scan.now t c.args.key at z chosen (sym c.is_at.ensures ∙ c.if-is_at.false) in
    subst (λ (y : Kind). IsScanOf c.args.about s (record c.args.scan.now { mfu = y }) (evicted c.args.key t)) (sym c.evicted_of-else-is_at.ensures) from.scan
