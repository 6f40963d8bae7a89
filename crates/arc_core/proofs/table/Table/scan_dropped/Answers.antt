use Rattle.std.proofs.Common.{◌∙◌, sym, ap, subst}
use Rattle.blk_ptr.specs.declared.state.State.TheVariants.{Mfu, MfuGhost, Mru, MruGhost}
use Rattle.arc_core.specs.declared.table.scan.Kind.{Kind}
use Rattle.arc_core.specs.Cursor.{IsScanOf, is_at}
use Rattle.arc_core.specs.Rules.{dropped}
use Rattle.arc_core.specs.Scan.{kind_in}
use Rattle.arc_core.specs.Sound.{IsTidy}
use Rattle.arc_core.proofs.CursorSteps.{drop-on, drops-mfu, drops-mru}
use Rattle.arc_core.proofs.table.Table.scan_dropped.Goals as goal

pub dropped_of-requires : goal.dropped_of-requires
dropped_of-requires c =
    let s = c.args.self.now.shard in
    let tidy = subst (λ t. IsTidy t.shard) c.self.view_is c.self.invariant.tidy in
    let can = c.requires in
    let here = sym c.is_at.ensures ∙ c.if-is_at.true in
    let from = drops-mru c.args.about s tidy c.args.scan.now can.at c.args.key can.scan can.next (ap (λ o. is_at o c.args.key) (sym c.oldest_ghost.ensures) ∙ here) in
    record { on = drop-on _ _ c.args.scan.now.mru (kind_in Mru MruGhost can.at) c.args.key can.scan.mru from.next; size = from.le }

pub dropped_of-requires-else-is_at : goal.dropped_of-requires-else-is_at
dropped_of-requires-else-is_at c =
    let s = c.args.self.now.shard in
    let tidy = subst (λ t. IsTidy t.shard) c.self.view_is c.self.invariant.tidy in
    let can = c.requires in
    let other = sym c.is_at.ensures ∙ c.if-is_at.false in
    let from = drops-mfu c.args.about s tidy c.args.scan.now can.at c.args.key can.scan can.next (ap (λ o. is_at o c.args.key) (sym c.oldest_ghost.ensures) ∙ other) in
    record { on = drop-on _ _ c.args.scan.now.mfu (kind_in Mfu MfuGhost can.at) c.args.key can.scan.mfu from.next; size = from.le }

pub returns-then-is_at : goal.returns-then-is_at
returns-then-is_at c t at chosen =
    let s = c.args.self.now.shard in
    let tidy = subst (λ t. IsTidy t.shard) c.self.view_is c.self.invariant.tidy in
    let here = sym c.is_at.ensures ∙ c.if-is_at.true in
    let from = drops-mru c.args.about s tidy c.args.scan.now t c.args.key at chosen (ap (λ o. is_at o c.args.key) (sym c.oldest_ghost.ensures) ∙ here) in
    subst (λ (y : Kind). IsScanOf c.args.about s (record c.args.scan.now { mru = y }) (dropped c.args.key t)) (sym c.dropped_of.ensures) from.scan

pub returns-else-is_at : goal.returns-else-is_at
returns-else-is_at c t at chosen =
    let s = c.args.self.now.shard in
    let tidy = subst (λ t. IsTidy t.shard) c.self.view_is c.self.invariant.tidy in
    let other = sym c.is_at.ensures ∙ c.if-is_at.false in
    let from = drops-mfu c.args.about s tidy c.args.scan.now t c.args.key at chosen (ap (λ o. is_at o c.args.key) (sym c.oldest_ghost.ensures) ∙ other) in
    subst (λ (y : Kind). IsScanOf c.args.about s (record c.args.scan.now { mfu = y }) (dropped c.args.key t)) (sym c.dropped_of-else-is_at.ensures) from.scan
