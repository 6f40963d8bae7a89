use Rattle.std.proofs.Common.{◌≡◌, ◌∙◌, ◌<◌, ◌≤◌, ◌^◌, ◌-◌, None, length, option_map, arith, Some, sym, ap, subst}
use Rattle.arc_core.specs.declared.table.scan.Scan.{Scan}
use Rattle.arc_core.specs.Changes.{gone}
use Rattle.arc_core.specs.Cursor.{IsScanOf, scan_at, size_by, with_size}
use Rattle.arc_core.specs.PlainShard.{entry_of}
use Rattle.arc_core.specs.Sound.{IsTidy}
use Rattle.arc_core.proofs.CursorStart.{scan-at-le, scan-without-none, scan-without-some}
use Rattle.arc_core.proofs.table.Table.scan_without.Goals as goal

pub take_size-requires : goal.take_size-requires
take_size-requires c =
    let s = c.args.self.now.shard in
    let k = c.args.key in
    let e = c.in-Some.entry.now in
    let tidy = subst (λ t. IsTidy t.shard) c.self.view_is c.self.invariant.tidy in
    let item : entry_of k s ≡ Some e = sym c.requires ∙ ap (option_map (λ r. r.now)) c.in-Some.is in
    let is = c.scan_but-scan.ensures ∙ ap (λ n. scan_at (Some k) n c.args.p s) c.c.ensures in
    subst (λ (x : Scan). k.size ≤ size_by e.state x) (sym is) (scan-at-le s k s.c c.args.p e tidy item)

pub returns-in-Some : goal.returns-in-Some
returns-in-Some c =
    let s = c.args.self.now.shard in
    let k = c.args.key in
    let e = c.in-Some.entry.now in
    let tidy = subst (λ t. IsTidy t.shard) c.self.view_is c.self.invariant.tidy in
    let item : entry_of k s ≡ Some e = sym c.requires ∙ ap (option_map (λ r. r.now)) c.in-Some.is in
    let is = c.scan_but-scan.ensures ∙ ap (λ n. scan_at (Some k) n c.args.p s) c.c.ensures in
    let few : length s.entries < 2 ^ 65 = omega (arith, c.self.invariant.few, ap (λ t. length t.shard.entries) c.self.view_is) in
    subst (λ (x : Scan). IsScanOf (Some k) s x (record (gone k s) { p = c.args.p }))
    (ap (λ (x : Scan). with_size e.state (size_by e.state x - k.size) x) (sym is) ∙ sym c.take_size.ensures)
    (scan-without-some s k c.args.p e tidy few item)

pub returns-in_default : goal.returns-in_default
returns-in_default c =
    let s = c.args.self.now.shard in
    let k = c.args.key in
    let tidy = subst (λ t. IsTidy t.shard) c.self.view_is c.self.invariant.tidy in
    let item : entry_of k s ≡ None = sym c.requires ∙ ap (option_map (λ r. r.now)) c.in_default.is in
    let is = c.scan_but-scan.ensures ∙ ap (λ n. scan_at (Some k) n c.args.p s) c.c.ensures in
    let few : length s.entries < 2 ^ 65 = omega (arith, c.self.invariant.few, ap (λ t. length t.shard.entries) c.self.view_is) in
    subst (λ (x : Scan). IsScanOf (Some k) s x (record (gone k s) { p = c.args.p })) (sym is)
    (scan-without-none s k c.args.p tidy few item)
