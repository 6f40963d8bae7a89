use Rattle.std.proofs.Common.{◌∙◌, sym, subst}
use Rattle.arc_core.specs.Sound.{IsTidy}
use Rattle.arc_core.proofs.CursorRuns.{chosen-evicted, fewer-evicted, room-found, room-more}
use Rattle.arc_core.proofs.table.Table.unmarked_eviction.Goals as goal

pub loop-key-init : goal.loop-key-init
loop-key-init c = λ comes vs on. on

pub scan_evicted-requires : goal.scan_evicted-requires
scan_evicted-requires c =
    let s = c.args.self.now.shard in
    let tidy = subst (λ t. IsTidy t.shard) c.self.view_is c.self.invariant.tidy in
    let on = c.loop-key.invariant c.requires.0 c.requires.1 c.requires.2 in
    record { at = on.at; z = c.args.z; scan = on.scan; next = sym (chosen-evicted c.args.about s tidy c.args.z c.loop-key.scan on.at on.scan) ∙ sym c.next_evicted.ensures ∙ c.in-Some.is }

pub returns-then-not-is_marked : goal.returns-then-not-is_marked
returns-then-not-is_marked c comes vs start =
    let s = c.args.self.now.shard in
    let m = c.args.self.now.marked in
    let tidy = subst (λ t. IsTidy t.shard) c.self.view_is c.self.invariant.tidy in
    let on = c.loop-key.invariant comes vs start in
    let chosen = sym (chosen-evicted c.args.about s tidy c.args.z c.loop-key.scan on.at on.scan) ∙ sym c.next_evicted.ensures ∙ c.in-Some.is in
    record {
      on = on;
      some = λ k is. room-found c.args.about s m c.args.z comes vs c.loop-key.scan on c.in-Some.key chosen (sym c.is_marked.ensures ∙ c.if-not-is_marked.true);
      none = λ is. cc;
    }

pub loop-key-preserved : goal.loop-key-preserved
loop-key-preserved c comes vs start =
    let s = c.args.self.now.shard in
    let m = c.args.self.now.marked in
    let tidy = subst (λ t. IsTidy t.shard) c.self.view_is c.self.invariant.tidy in
    let on = c.loop-key.invariant comes vs start in
    let chosen = sym (chosen-evicted c.args.about s tidy c.args.z c.loop-key.scan on.at on.scan) ∙ sym c.next_evicted.ensures ∙ c.in-Some.is in
    room-more c.args.about s m c.args.z comes vs c.loop-key.scan on c.scan_evicted.new.scan c.in-Some.key chosen (sym c.is_marked.ensures ∙ c.if-not-is_marked.false)
    (c.scan_evicted.ensures on.at c.args.z on.scan chosen)

pub loop-key-smaller : goal.loop-key-smaller
loop-key-smaller c =
    let s = c.args.self.now.shard in
    let tidy = subst (λ t. IsTidy t.shard) c.self.view_is c.self.invariant.tidy in
    let on = c.loop-key.invariant c.requires.0 c.requires.1 c.requires.2 in
    let x = c.loop-key.scan in
    let chosen = sym (chosen-evicted c.args.about s tidy c.args.z x on.at on.scan) ∙ sym c.next_evicted.ensures ∙ c.in-Some.is in
    fewer-evicted c.args.about s x c.scan_evicted.new.scan c.args.z on.at c.in-Some.key on.scan chosen (c.scan_evicted.ensures on.at c.args.z on.scan chosen)

pub returns : goal.returns
returns c comes vs start =
    let s = c.args.self.now.shard in
    let tidy = subst (λ t. IsTidy t.shard) c.self.view_is c.self.invariant.tidy in
    let on = c.loop-key.invariant comes vs start in
    record {
      on = on;
      some = λ k is. cc;
      none = λ is. sym (chosen-evicted c.args.about s tidy c.args.z c.loop-key.scan on.at on.scan) ∙ sym c.next_evicted.ensures ∙ c.in_default.is;
    }
