use Rattle.std.proofs.Common.{◌≡◌, IsTrue, None, option_map, refl, sym, ap, subst, ◌∙◌}
use Rattle.arc_core.specs.declared.entry.Entry.{Entry}
use Rattle.arc_core.specs.Changes.{come}
use Rattle.arc_core.specs.Edits.{is_off}
use Rattle.arc_core.specs.PlainShard.{PlainShard, entry_of}
use Rattle.arc_core.specs.Rules.{target_after, trimmed, with_room}
use Rattle.arc_core.specs.Sound.{IsSoundEntry}
use Rattle.arc_core.specs.Step.{entry_to_read, taken_in}
use Rattle.arc_core.proofs.Evictions.{gone-absent, is_none_of}
use Rattle.arc_core.proofs.Legal.{miss-off, miss-sound}
use Rattle.arc_core.proofs.table.Table.miss.Goals as goal

pub take_in-requires-clause-off : goal.take_in-requires-clause-off
take_in-requires-clause-off c =
    let is = c.entry_to_read-entry.ensures ∙ ap (entry_to_read c.args.n c.args.key c.args.t) c.find-old.ensures.value in
    subst (λ e. IsTrue (is_off e)) (sym is) (miss-off c.args.n c.args.key c.args.t c.args.self.now.shard c.requires.legal)

pub take_in-requires-clause-sound : goal.take_in-requires-clause-sound
take_in-requires-clause-sound c =
    let is = c.entry_to_read-entry.ensures ∙ ap (entry_to_read c.args.n c.args.key c.args.t) c.find-old.ensures.value in
    subst IsSoundEntry (sym is) (miss-sound c.args.n c.args.key c.args.t c.args.self.now.shard c.requires.legal)

pub bring_in-requires-clause-sound : goal.bring_in-requires-clause-sound
bring_in-requires-clause-sound c =
    let is = c.entry_to_read-entry.ensures ∙ ap (entry_to_read c.args.n c.args.key c.args.t) c.find-old.ensures.value in
    subst IsSoundEntry (sym is) (miss-sound c.args.n c.args.key c.args.t c.args.self.now.shard c.requires.legal)

pub returns-else-is_there-clause-shard : goal.returns-else-is_there-clause-shard
returns-else-is_there-clause-shard c =
    let s = c.args.self.now.shard in
    let k = c.args.key in
    let e : Entry = entry_to_read c.args.n k c.args.t (entry_of k s) in
    let is = c.entry_to_read-entry.ensures ∙ ap (entry_to_read c.args.n k c.args.t) c.find-old.ensures.value in
    let none : entry_of k s ≡ None = sym c.find-old.ensures.value ∙ ap (option_map (λ e. e.now)) (is_none_of _ (sym c.is_some-is_there.ensures ∙ c.if-is_there.false)) in
    let target : s.p ≡ target_after k s = rw none refl in
    c.bring_in.ensures.shard ∙ ap (λ (x : Entry). trimmed (come x (with_room x.key.size s))) is
    ∙ ap (λ (x : PlainShard). trimmed (come e (with_room k.size x))) (sym (gone-absent k s c.find-old.ensures.tidy none))
    ∙ ap (λ p. taken_in e (record s { p = p })) target
