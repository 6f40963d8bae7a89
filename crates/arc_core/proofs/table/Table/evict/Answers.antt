use Rattle.std.proofs.Common.{◌≡◌, rules, sym, ap, subst, ◌∙◌}
use Rattle.arc_lists.proofs.Standing.{and_left}
use Rattle.arc_core.specs.declared.entry.Entry.{Entry}
use Rattle.arc_core.specs.PlainShard.{PlainShard, is_unheld}
use Rattle.arc_core.specs.Edits.{is_evictable, placed}
use Rattle.arc_core.specs.Rules.{evicted_state}
use Rattle.arc_core.specs.Sound.{IsSoundEntry}
use Rattle.arc_core.proofs.Evictions.{IsSoundEntry-evicted, evicted-placed, found, passes}
use Rattle.arc_core.proofs.table.Table.evict.Goals as goal

pub place-requires-clause-sound : goal.place-requires-clause-sound
place-requires-clause-sound c tidy e made item gave =
    let s = c.args.self.now.shard in
    let at = found c.args.key s e tidy (sym item) in
    let is : made ≡ record e { state = evicted_state e.state } = search rules in
    (ap (λ (x : Entry). x.key) is ∙ at.key, subst IsSoundEntry (sym is) (IsSoundEntry-evicted e (passes is_evictable c.args.key s e item c.requires.evictable) at.sound))

pub returns : goal.returns
returns c =
    let s = c.args.self.now.shard in
    let e = c.place.ensures.placed.0 in
    let made = c.place.ensures.placed.1 in
    let item = c.place.ensures.placed.2 in
    let gave = c.place.ensures.placed.3 in
    let is : made ≡ record e { state = evicted_state e.state } = search rules in
    let unheld = and_left (is_unheld e) _ (passes is_evictable c.args.key s e item c.requires.evictable) in
    c.place.ensures.placed.4 ∙ ap (λ (s : PlainShard). record c.args.self.now { shard = s }) (ap (λ e. placed e s) is ∙ sym (evicted-placed c.args.key s e item unheld))
