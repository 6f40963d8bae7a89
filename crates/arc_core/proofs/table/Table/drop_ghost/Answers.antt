use Rattle.std.proofs.Common.{◌≡◌, true, is_some, rules, sym, ap, subst, ◌∙◌}
use Rattle.blk_ptr.specs.declared.state.State.TheVariants.{L2Only}
use Rattle.arc_lists.proofs.Tables.{some_is}
use Rattle.arc_core.specs.declared.entry.Entry.{Entry}
use Rattle.arc_core.specs.Edits.{is_droppable, placed}
use Rattle.arc_core.specs.Sound.{IsSoundEntry}
use Rattle.arc_core.proofs.Evictions.{IsSoundEntry-l2_only, dropped-placed, found, passes}
use Rattle.arc_core.proofs.table.Table.drop_ghost.Goals as goal

pub place-requires-clause-sound : goal.place-requires-clause-sound
place-requires-clause-sound c tidy e made item gave =
    let s = c.args.self.now.shard in
    let at = found c.args.key s e tidy (sym item) in
    let same : c.in-Some.entry.now ≡ e = some_is (c.in-Some.ensures.value ∙ item) in
    let place : is_some e.place ≡ true = ap (λ (x : Entry). is_some x.place) (sym same) ∙ sym c.is_some.ensures ∙ c.if-is_some.true in
    let is : made ≡ record e { state = L2Only } = search rules in
    (ap (λ (x : Entry). x.key) is ∙ at.key, subst IsSoundEntry (sym is) (IsSoundEntry-l2_only e (passes is_droppable c.args.key s e item c.requires.droppable) place at.sound))

pub returns-in-Some-clause-shard : goal.returns-in-Some-clause-shard
returns-in-Some-clause-shard c =
    let s = c.args.self.now.shard in
    let e = c.place.ensures.placed.0 in
    let made = c.place.ensures.placed.1 in
    let item = c.place.ensures.placed.2 in
    let gave = c.place.ensures.placed.3 in
    let same : c.in-Some.entry.now ≡ e = some_is (c.in-Some.ensures.value ∙ item) in
    let place : is_some e.place ≡ true = ap (λ (x : Entry). is_some x.place) (sym same) ∙ sym c.is_some.ensures ∙ c.if-is_some.true in
    let is : made ≡ record e { state = L2Only } = search rules in
    ap (λ t. t.shard) c.place.ensures.placed.4 ∙ ap (λ e. placed e s) is ∙ sym (dropped-placed c.args.key s e item place)
