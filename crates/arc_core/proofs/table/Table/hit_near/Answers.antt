use Rattle.std.proofs.Common.{◌≡◌, ◌+◌, ◌<◌, ◌^◌, rules, sym, ap, subst, ◌∙◌}
use Rattle.arc_lists.proofs.Standing.{and_left}
use Rattle.arc_core.specs.declared.entry.Entry.{Entry}
use Rattle.arc_core.specs.PlainShard.{PlainShard, holds_of}
use Rattle.arc_core.specs.PlainTable.{PlainTable}
use Rattle.arc_core.proofs.Accesses.{accessed-keeps}
use Rattle.arc_core.specs.Changes.{one_more}
use Rattle.arc_core.specs.Edits.{placed}
use Rattle.arc_core.specs.Rules.{accessed}
use Rattle.arc_core.specs.Sound.{IsSoundEntry}
use Rattle.arc_core.proofs.Evictions.{found}
use Rattle.arc_core.proofs.Legal.{hit-count, hit-writes, number-lt}
use Rattle.arc_core.proofs.table.Table.hit_near.Goals as goal

pub place_near-requires-clause-takes : goal.place_near-requires-clause-takes
place_near-requires-clause-takes c tidy e item p now =
    let s = c.args.self.now.shard in
    let mintime : s.mintime ≡ c.self.inside.mintime = sym (ap (λ (t : PlainTable). t.shard.mintime) c.self.view_is) in
    let count = hit-count c.args.t c.args.key s e tidy (sym item) c.requires.counts in (
      number-lt c.args.n (and_left _ _ c.requires.legal),
      rw now (subst (λ m. holds_of (accessed m c.args.t e) + 1 < 2 ^ 32) mintime count),
    )

pub place_near-requires-clause-sound : goal.place_near-requires-clause-sound
place_near-requires-clause-sound c tidy e made item gave =
    let s = c.args.self.now.shard in
    let made_is : made ≡ one_more c.args.n (accessed c.self.inside.mintime c.args.t e) = search rules in
    let is : made ≡ one_more c.args.n (accessed s.mintime c.args.t e) = made_is ∙ ap (λ m. one_more c.args.n (accessed m c.args.t e)) (ap (λ (t : PlainTable). t.shard.mintime) c.self.view_is) in
    let writes = hit-writes c.args.n c.args.t c.args.key s e tidy (sym item) c.requires.legal in
    (ap (λ (x : Entry). x.key) is ∙ (accessed-keeps e.state s.mintime c.args.t e).key ∙ (found c.args.key s e tidy (sym item)).key, subst IsSoundEntry (sym is) writes.sound)

pub returns : goal.returns
returns c =
    let s = c.args.self.now.shard in
    let e = c.place_near.ensures.placed.0 in
    let made = c.place_near.ensures.placed.1 in
    let gave = c.place_near.ensures.placed.3 in
    let made_is : made ≡ one_more c.args.n (accessed c.self.inside.mintime c.args.t e) = search rules in
    let is : made ≡ one_more c.args.n (accessed s.mintime c.args.t e) = made_is ∙ ap (λ m. one_more c.args.n (accessed m c.args.t e)) (ap (λ (t : PlainTable). t.shard.mintime) c.self.view_is) in
    let writes = hit-writes c.args.n c.args.t c.args.key s e c.place_near.ensures.tidy (sym c.place_near.ensures.placed.2) c.requires.legal in
    c.place_near.ensures.placed.4 ∙ ap (λ (s : PlainShard). record c.args.self.now { shard = s }) (ap (λ e. placed e s) is ∙ writes.effect)
