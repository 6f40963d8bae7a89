use Rattle.std.proofs.Common.{◌∙◌, ap, length, refl, sym}
use Rattle.std.proofs.lemmas.Bool.{false≢true}
use Rattle.std.specs.Option.{option_map}
use Rattle.std.specs.Prelude.{IsTrue, ◌&&◌}
use Rattle.arc_core.specs.PlainShard.{entry_is, entry_of, is_resident, keeps_digest}
use Rattle.arc_core.specs.Step.{is_missing, reads}
use Rattle.arc_core.specs.View.{view_of}
use Rattle.arc_table.specs.declared.hits.Standing.TheVariants as standing
use Rattle.arc_table.proofs.Holders.{held_still}
use Rattle.arc_table.proofs.Taking.{tells}
use Rattle.arc_core.specs.ShardLog.{ShardLog}
use Rattle.arc_table.proofs.reads.ReadyBlocks.{block_cached}
use Rattle.arc_table.proofs.Reached.{heads, sound_log}
use Rattle.arc_table.proofs.arcs.Arcs.try_hit.Goals as goal

pub returns-in-Missing-clause-answer : goal.returns-in-Missing-clause-answer
returns-in-Missing-clause-answer g c =
    let m = g.C.Keeps in
    let b = c.in-Taken.both in
    let e = c.in-Taken.ensures in
    let log = sound_log m c.args.self.now.config c.args.ptr.now.key b.hand.own.bucket b.shard c.args.party.now c.try_both.new.party e.takes c.requires.party.config e.kind.valid in
    let shown = c.entry-found.ensures ∙ ap (λ (l : ShardLog). option_map view_of (entry_of c.args.ptr.now.key l.now)) c.deref-shard.ensures in
    let stood = c.in-Missing.ensures b.shard.now log.replayed.sound shown in
    let f = c.front_of-front in
    let k = c.args.ptr.now.key in (
      record { chain = b.hand.own.bucket; before = b.shard; reached = c.try_both.new.party; takes = e.takes; makes = c.give_back.ensures },
      tells m (λ s. IsTrue (is_missing k s)) c.args.self.now.config k b.hand.own.bucket b.shard c.args.party.now c.try_both.new.party c.give_back.new.party f.result e.takes c.requires.party.config e.kind.valid f.ensures.shard (f.ensures.len ∙ ap (λ (l : ShardLog). length l.history) c.deref-shard.ensures) c.give_back.ensures stood,
    )

pub returns-in-Other-clause-answer : goal.returns-in-Other-clause-answer
returns-in-Other-clause-answer g c =
    let m = g.C.Keeps in
    let b = c.in-Taken.both in
    let e = c.in-Taken.ensures in
    let log = sound_log m c.args.self.now.config c.args.ptr.now.key b.hand.own.bucket b.shard c.args.party.now c.try_both.new.party e.takes c.requires.party.config e.kind.valid in
    let shown = c.entry-found.ensures ∙ ap (λ (l : ShardLog). option_map view_of (entry_of c.args.ptr.now.key l.now)) c.deref-shard.ensures in
    let stood = c.in-Other.ensures b.shard.now log.replayed.sound shown in
    let f = c.front_of-front in
    let k = c.args.ptr.now.key in (
      record { chain = b.hand.own.bucket; before = b.shard; reached = c.try_both.new.party; takes = e.takes; makes = c.give_back-in-Other.ensures },
      stood.0,
      tells m (λ s. IsTrue (entry_is (λ e. is_resident e && keeps_digest c.in-Other.kept e) k s)) c.args.self.now.config k b.hand.own.bucket b.shard c.args.party.now c.try_both.new.party c.give_back-in-Other.new.party f.result e.takes c.requires.party.config e.kind.valid f.ensures.shard (f.ensures.len ∙ ap (λ (l : ShardLog). length l.history) c.deref-shard.ensures) c.give_back-in-Other.ensures stood.1,
    )

pub returns-in-Reading-clause-answer : goal.returns-in-Reading-clause-answer
returns-in-Reading-clause-answer g c =
    let m = g.C.Keeps in
    let b = c.in-Taken.both in
    let e = c.in-Taken.ensures in
    let log = sound_log m c.args.self.now.config c.args.ptr.now.key b.hand.own.bucket b.shard c.args.party.now c.try_both.new.party e.takes c.requires.party.config e.kind.valid in
    let shown = c.entry-found.ensures ∙ ap (λ (l : ShardLog). option_map view_of (entry_of c.args.ptr.now.key l.now)) c.deref-shard.ensures in
    let stood = c.in-Reading.ensures b.shard.now log.replayed.sound shown in
    let f = c.front_of-front in
    let k = c.args.ptr.now.key in (
      record { chain = b.hand.own.bucket; before = b.shard; reached = c.try_both.new.party; takes = e.takes; makes = c.give_back-in-Reading.ensures },
      tells m (λ s. IsTrue (entry_is (reads c.in-Reading.owner) k s)) c.args.self.now.config k b.hand.own.bucket b.shard c.args.party.now c.try_both.new.party c.give_back-in-Reading.new.party f.result e.takes c.requires.party.config e.kind.valid f.ensures.shard (f.ensures.len ∙ ap (λ (l : ShardLog). length l.history) c.deref-shard.ensures) c.give_back-in-Reading.ensures stood,
    )

pub returns-in-Missing-clause-holder : goal.returns-in-Missing-clause-holder
returns-in-Missing-clause-holder g c n listed =
    let m = g.C.Keeps in
    let b = c.in-Taken.both in
    let e = c.in-Taken.ensures in
    let log = sound_log m c.args.self.now.config c.args.ptr.now.key b.hand.own.bucket b.shard c.args.party.now c.try_both.new.party e.takes c.requires.party.config e.kind.valid in
    let shown = c.entry-found.ensures ∙ ap (λ (l : ShardLog). option_map view_of (entry_of c.args.ptr.now.key l.now)) c.deref-shard.ensures in
    let stood = c.in-Missing.ensures b.shard.now log.replayed.sound shown in
    held_still m c.args.self.now.config b.hand.own.bucket b.shard c.args.ptr.now c.args.party.now c.try_both.new.party e.takes c.requires.party.config e.kind.valid n listed (standing.Missing) stood

pub returns-in-Other-clause-holder : goal.returns-in-Other-clause-holder
returns-in-Other-clause-holder g c n listed =
    let m = g.C.Keeps in
    let b = c.in-Taken.both in
    let e = c.in-Taken.ensures in
    let log = sound_log m c.args.self.now.config c.args.ptr.now.key b.hand.own.bucket b.shard c.args.party.now c.try_both.new.party e.takes c.requires.party.config e.kind.valid in
    let shown = c.entry-found.ensures ∙ ap (λ (l : ShardLog). option_map view_of (entry_of c.args.ptr.now.key l.now)) c.deref-shard.ensures in
    let stood = c.in-Other.ensures b.shard.now log.replayed.sound shown in
    held_still m c.args.self.now.config b.hand.own.bucket b.shard c.args.ptr.now c.args.party.now c.try_both.new.party e.takes c.requires.party.config e.kind.valid n listed (standing.Other c.in-Other.kept) stood

pub returns-in-Reading-clause-holder : goal.returns-in-Reading-clause-holder
returns-in-Reading-clause-holder g c n listed =
    let m = g.C.Keeps in
    let b = c.in-Taken.both in
    let e = c.in-Taken.ensures in
    let log = sound_log m c.args.self.now.config c.args.ptr.now.key b.hand.own.bucket b.shard c.args.party.now c.try_both.new.party e.takes c.requires.party.config e.kind.valid in
    let shown = c.entry-found.ensures ∙ ap (λ (l : ShardLog). option_map view_of (entry_of c.args.ptr.now.key l.now)) c.deref-shard.ensures in
    let stood = c.in-Reading.ensures b.shard.now log.replayed.sound shown in
    held_still m c.args.self.now.config b.hand.own.bucket b.shard c.args.ptr.now c.args.party.now c.try_both.new.party e.takes c.requires.party.config e.kind.valid n listed (standing.Reading c.in-Reading.owner) stood

pub hit_taken-requires-clause-here : goal.hit_taken-requires-clause-here
hit_taken-requires-clause-here g c =
    let m = g.C.Keeps in
    let b = c.in-Taken.both in
    let e = c.in-Taken.ensures in
    let k = c.args.ptr.now.key in
    let same = block_cached c.args.ptr.now b.shard.now b.hand.own.bucket.headers (heads m c.args.self.now.config k b.hand.own.bucket b.shard c.args.party.now c.try_both.new.party e.takes c.requires.party.config e.kind.valid k refl) in
    sym same ∙ sym c.in-Some.ensures.there

pub unreachable-requires : goal.unreachable-requires
unreachable-requires g c =
    let m = g.C.Keeps in
    let b = c.in-Taken.both in
    let e = c.in-Taken.ensures in
    let log = sound_log m c.args.self.now.config c.args.ptr.now.key b.hand.own.bucket b.shard c.args.party.now c.try_both.new.party e.takes c.requires.party.config e.kind.valid in
    let shown = c.entry-found.ensures ∙ ap (λ (l : ShardLog). option_map view_of (entry_of c.args.ptr.now.key l.now)) c.deref-shard.ensures in
    let stood = c.in-Here.ensures b.shard.now log.replayed.sound shown in
    let k = c.args.ptr.now.key in
    let same = block_cached c.args.ptr.now b.shard.now b.hand.own.bucket.headers (heads m c.args.self.now.config k b.hand.own.bucket b.shard c.args.party.now c.try_both.new.party e.takes c.requires.party.config e.kind.valid k refl) in
    absurd (false≢true (c.in_default.ensures.there ∙ (same ∙ stood)))
