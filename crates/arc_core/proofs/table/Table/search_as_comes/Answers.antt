use Rattle.std.proofs.Common.{◌<◌, ◌^◌, Some, length, arith, sym, ap, subst}
use Rattle.blk_ptr.specs.declared.key.Key.{Key}
use Rattle.blk_ptr.specs.declared.state.State.{State}
use Rattle.arc_core.specs.Changes.{gone}
use Rattle.arc_core.specs.Cursor.{IsScanOf}
use Rattle.arc_core.specs.Search.{AtRoom}
use Rattle.arc_core.specs.Sound.{IsTidy}
use Rattle.arc_core.specs.Sparing.{victims_of_entry}
use Rattle.arc_core.proofs.CursorEnds.{at-entry}
use Rattle.arc_core.proofs.table.Table.search_as_comes.Goals as goal

pub returns : goal.returns
returns c e key comes off sound =
    let s = c.args.self.now.shard in
    let p = c.args.p in
    let m = c.args.self.now.marked in
    let x = c.scan_without.result in
    let tidy = subst (λ t. IsTidy t.shard) c.self.view_is c.self.invariant.tidy in
    let few : length s.entries < 2 ^ 64 = omega (arith, c.self.invariant.few, ap (λ t. length t.shard.entries) c.self.view_is) in
    let scan = subst (λ (k : Key). IsScanOf (Some k) s x (record (gone k s) { p = p })) (sym key) c.scan_without.ensures in
    subst (λ (k : Key). AtRoom (Some k) s m k.size c.args.comes (victims_of_entry e (record s { p = p })) x) key
    (subst (λ (u : State). AtRoom (Some e.key) s m e.key.size u (victims_of_entry e (record s { p = p })) x) comes
    (at-entry s p e m tidy off sound few x scan))
