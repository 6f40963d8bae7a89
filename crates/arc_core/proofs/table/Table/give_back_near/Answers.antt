use Rattle.std.proofs.Common.{◌≡◌, rules, sym, ap, subst, ◌∙◌}
use Rattle.arc_core.specs.declared.entry.Entry.{Entry}
use Rattle.arc_core.specs.PlainShard.{PlainShard}
use Rattle.arc_core.specs.Changes.{one_less}
use Rattle.arc_core.specs.Edits.{placed}
use Rattle.arc_core.specs.Sound.{IsSoundEntry}
use Rattle.arc_core.proofs.Evictions.{found}
use Rattle.arc_core.proofs.Legal.{drop-writes}
use Rattle.arc_core.proofs.table.Table.give_back_near.Goals as goal

pub place_near-requires-clause-sound : goal.place_near-requires-clause-sound
place_near-requires-clause-sound c tidy e made item gave =
    let s = c.args.self.now.shard in
    let is : made ≡ one_less c.args.n e = search rules in
    let writes = drop-writes c.args.n c.args.key s e tidy (sym item) c.requires in
    (ap (λ (x : Entry). x.key) is ∙ (found c.args.key s e tidy (sym item)).key, subst IsSoundEntry (sym is) writes.sound)

pub returns : goal.returns
returns c =
    let s = c.args.self.now.shard in
    let e = c.place_near.ensures.placed.0 in
    let made = c.place_near.ensures.placed.1 in
    let gave = c.place_near.ensures.placed.3 in
    let is : made ≡ one_less c.args.n e = search rules in
    let writes = drop-writes c.args.n c.args.key s e c.place_near.ensures.tidy (sym c.place_near.ensures.placed.2) c.requires in
    c.place_near.ensures.placed.4 ∙ ap (λ (s : PlainShard). record c.args.self.now { shard = s }) (ap (λ e. placed e s) is ∙ writes.effect)
