use Rattle.std.proofs.Common.{◌≡◌, rules, sym, ap, subst, ◌∙◌}
use Rattle.arc_lists.proofs.Standing.{and_left, and_right}
use Rattle.arc_core.specs.declared.entry.Entry.{Entry}
use Rattle.arc_core.specs.PlainShard.{PlainShard, is_cell, is_number}
use Rattle.arc_core.specs.Changes.{one_less, one_more}
use Rattle.arc_core.specs.Edits.{placed}
use Rattle.arc_core.specs.Sound.{IsSoundEntry}
use Rattle.arc_core.proofs.Counting.{hand-count}
use Rattle.arc_core.proofs.Evictions.{found}
use Rattle.arc_core.proofs.Legal.{cell-lt, hand-writes, holding}
use Rattle.arc_core.proofs.table.Table.hand.Goals as goal

pub place-requires-clause-takes : goal.place-requires-clause-takes
place-requires-clause-takes c tidy e item p now =
    let s = c.args.self.now.shard in
    let rest = and_right (is_number c.args.n) _ c.requires.legal in
    let h = holding c.args.n c.args.key s e tidy (sym item) (and_left _ _ c.requires.legal) (and_right (is_cell c.args.to) _ rest) in
    let count = hand-count c.args.n c.args.key c.args.to s e tidy (sym item) c.requires.legal c.requires.counts in
    rw now (h.lt, (h.some, (cell-lt c.args.to (and_left (is_cell c.args.to) _ rest), count)))

pub place-requires-clause-sound : goal.place-requires-clause-sound
place-requires-clause-sound c tidy e made item gave =
    let s = c.args.self.now.shard in
    let is : made ≡ one_more c.args.to (one_less c.args.n e) = search rules in
    let writes = hand-writes c.args.n c.args.key c.args.to s e tidy (sym item) c.requires.legal in
    (ap (λ (x : Entry). x.key) is ∙ (found c.args.key s e tidy (sym item)).key, subst IsSoundEntry (sym is) writes.sound)

pub returns : goal.returns
returns c =
    let s = c.args.self.now.shard in
    let e = c.place.ensures.placed.0 in
    let made = c.place.ensures.placed.1 in
    let gave = c.place.ensures.placed.3 in
    let is : made ≡ one_more c.args.to (one_less c.args.n e) = search rules in
    let writes = hand-writes c.args.n c.args.key c.args.to s e c.place.ensures.tidy (sym c.place.ensures.placed.2) c.requires.legal in
    c.place.ensures.placed.4 ∙ ap (λ (s : PlainShard). record c.args.self.now { shard = s }) (ap (λ e. placed e s) is ∙ writes.effect)
