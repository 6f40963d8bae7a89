use Rattle.std.proofs.Common.{◌∙◌, sym, subst}
use Rattle.arc_core.specs.Sound.{IsTidy}
use Rattle.arc_core.proofs.CursorRuns.{chosen-dropped, fewer-dropped, trim-found, trim-more, trim-none}
use Rattle.arc_core.proofs.table.Table.unmarked_drop.Goals as goal

pub loop-key-init : goal.loop-key-init
loop-key-init c = λ vs on. on

pub scan_dropped-requires : goal.scan_dropped-requires
scan_dropped-requires c =
    let s = c.args.self.now.shard in
    let tidy = subst (λ t. IsTidy t.shard) c.self.view_is c.self.invariant.tidy in
    let on = c.loop-key.invariant c.requires.0 c.requires.1 in
    record { at = on.at; scan = on.scan; next = sym (chosen-dropped c.args.about s tidy c.loop-key.scan on.at on.scan) ∙ sym c.next_dropped.ensures ∙ c.in-Some.is }

pub returns-then-not-is_marked : goal.returns-then-not-is_marked
returns-then-not-is_marked c vs start =
    let s = c.args.self.now.shard in
    let tidy = subst (λ t. IsTidy t.shard) c.self.view_is c.self.invariant.tidy in
    let on = c.loop-key.invariant vs start in
    let chosen = sym (chosen-dropped c.args.about s tidy c.loop-key.scan on.at on.scan) ∙ sym c.next_dropped.ensures ∙ c.in-Some.is in
    record { on = on; value = trim-found c.args.about s c.args.self.now.marked vs c.loop-key.scan on c.in-Some.key chosen (sym c.is_marked.ensures ∙ c.if-not-is_marked.true) }

pub loop-key-preserved : goal.loop-key-preserved
loop-key-preserved c vs start =
    let s = c.args.self.now.shard in
    let tidy = subst (λ t. IsTidy t.shard) c.self.view_is c.self.invariant.tidy in
    let on = c.loop-key.invariant vs start in
    let chosen = sym (chosen-dropped c.args.about s tidy c.loop-key.scan on.at on.scan) ∙ sym c.next_dropped.ensures ∙ c.in-Some.is in
    trim-more c.args.about s c.args.self.now.marked vs c.loop-key.scan on c.scan_dropped.new.scan c.in-Some.key chosen (sym c.is_marked.ensures ∙ c.if-not-is_marked.false)
    (c.scan_dropped.ensures on.at on.scan chosen)

pub loop-key-smaller : goal.loop-key-smaller
loop-key-smaller c =
    let s = c.args.self.now.shard in
    let tidy = subst (λ t. IsTidy t.shard) c.self.view_is c.self.invariant.tidy in
    let on = c.loop-key.invariant c.requires.0 c.requires.1 in
    let x = c.loop-key.scan in
    let chosen = sym (chosen-dropped c.args.about s tidy x on.at on.scan) ∙ sym c.next_dropped.ensures ∙ c.in-Some.is in
    fewer-dropped c.args.about s x c.scan_dropped.new.scan on.at c.in-Some.key on.scan chosen (c.scan_dropped.ensures on.at on.scan chosen)

pub returns : goal.returns
returns c vs start =
    let s = c.args.self.now.shard in
    let tidy = subst (λ t. IsTidy t.shard) c.self.view_is c.self.invariant.tidy in
    let on = c.loop-key.invariant vs start in
    record { on = on; value = trim-none c.args.about s c.args.self.now.marked vs c.loop-key.scan on (sym (chosen-dropped c.args.about s tidy c.loop-key.scan on.at on.scan) ∙ sym c.next_dropped.ensures ∙ c.in_default.is) }
