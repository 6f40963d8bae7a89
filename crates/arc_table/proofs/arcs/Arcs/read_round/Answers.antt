use Rattle.std.proofs.Common.{[], refl, ap, ◌∙◌, subst}
use Rattle.std.specs.Prelude.{IfNone, IfSome}
use Rattle.std.specs.Option.{option_map}
use Rattle.arc_core.specs.PlainShard.{entry_of}
use Rattle.arc_core.specs.View.{view_of}
use Rattle.arc_table.specs.Reading.{outside}
use Rattle.arc_table.specs.pact.Standing.{IsCachedWith}
use Rattle.arc_table.proofs.reads.AfterRead.{answers_stays}
use Rattle.arc_table.proofs.Afterwards.{does_stays, stays_free, stays_party}
use Rattle.arc_table.proofs.Reached.{reached, sound_log}
use Rattle.arc_table.proofs.scans.RoomyGives.{only_bucket}
use Rattle.arc_table.proofs.reads.Rounds.{does_these, missed_reading, missed_stays, none_stays, round_hit, round_missed, round_none, round_past}
use Rattle.arc_core.specs.ShardLog.{ShardLog}
use Rattle.arc_table.proofs.arcs.Arcs.read_round.Goals as goal

pub miss_taken-requires-clause-others : goal.miss_taken-requires-clause-others
miss_taken-requires-clause-others g c =
    let m = g.C.Keeps in
    let b = c.take_ready-both in
    only_bucket c.args.self.now.config c.args.ptr.key c.args.party.now.held b.new.party.held b.ensures.kind.valid
    (reached m c.args.self.now.config c.args.ptr.key b.result.0.hand.own.bucket b.result.0.shard c.args.party.now b.new.party b.ensures.takes).held c.requires.look

pub read_past-requires-clause-look : goal.read_past-requires-clause-look
read_past-requires-clause-look g c κs within =
    let m = g.C.Keeps in
    let b = c.take_ready-both in
    stays_free c.args.self.now c.args.party.now c.past_taken.new.party
    (does_stays m c.args.self.now.config b.ensures.kind.valid c.args.ptr.key _ c.args.party.now c.past_taken.new.party c.requires.party.config
    (does_these m c.args.self.now.config c.args.ptr.key b.result.0.hand.own.bucket b.result.0.shard c.args.party.now b.new.party c.past_taken.new.party b.ensures.takes _ c.in-Ok-past_taken.ensures.ok))
    c.requires.look

pub end_miss-requires-clause-party : goal.end_miss-requires-clause-party
end_miss-requires-clause-party g c κs within =
    let m = g.C.Keeps in
    let b = c.take_ready-both in
    stays_party c.args.self.now c.args.party.now c.miss_taken.new.party
    (missed_stays m c.args.self.now.config c.args.ptr.key b.result.0.hand.own.bucket b.result.0.shard c.args.party.now b.new.party c.miss_taken.new.party b.ensures.takes b.ensures.kind.valid c.requires.party.config c.args.tick c.in-Ok-miss_taken.ensures.ok)
    c.requires.party

pub end_miss-requires-clause-look : goal.end_miss-requires-clause-look
end_miss-requires-clause-look g c κs within =
    let m = g.C.Keeps in
    let b = c.take_ready-both in
    stays_free c.args.self.now c.args.party.now c.miss_taken.new.party
    (missed_stays m c.args.self.now.config c.args.ptr.key b.result.0.hand.own.bucket b.result.0.shard c.args.party.now b.new.party c.miss_taken.new.party b.ensures.takes b.ensures.kind.valid c.requires.party.config c.args.tick c.in-Ok-miss_taken.ensures.ok)
    c.requires.look

pub end_miss-requires-clause-reading : goal.end_miss-requires-clause-reading
end_miss-requires-clause-reading g c κs within =
    let m = g.C.Keeps in
    let b = c.take_ready-both in
    missed_reading m c.args.self.now.config c.args.ptr.key b.result.0.hand.own.bucket b.result.0.shard c.args.party.now b.new.party c.miss_taken.new.party b.ensures.takes b.ensures.kind.valid c.requires.party.config c.args.tick c.in-Ok-miss_taken.ensures.ok

pub returns-in-Reading-clause-answer : goal.returns-in-Reading-clause-answer
returns-in-Reading-clause-answer g c =
    let m = g.C.Keeps in
    let b = c.take_ready-both in
    let log = sound_log m c.args.self.now.config c.args.ptr.key b.result.0.hand.own.bucket b.result.0.shard c.args.party.now b.new.party b.ensures.takes c.requires.party.config b.ensures.kind.valid in
    let shown = c.entry-found.ensures ∙ ap (λ (l : ShardLog). option_map view_of (entry_of c.args.ptr.key l.now)) c.deref.ensures in
    let stood = c.in-Reading.ensures b.result.0.shard.now log.replayed.sound shown in (
      record {
        does = does_these m c.args.self.now.config c.args.ptr.key b.result.0.hand.own.bucket b.result.0.shard c.args.party.now b.new.party c.give_back.new.party b.ensures.takes [] c.give_back.ensures;
        owner = c.in-Reading.owner;
        reading = stood;
      },
      refl,
    )

pub returns-in-Reading-clause-party : goal.returns-in-Reading-clause-party
returns-in-Reading-clause-party g c =
    let m = g.C.Keeps in
    let b = c.take_ready-both in
    stays_party c.args.self.now c.args.party.now c.give_back.new.party (none_stays m c.args.self.now.config c.args.ptr.key b.result.0.hand.own.bucket b.result.0.shard c.args.party.now b.new.party c.give_back.new.party b.ensures.takes b.ensures.kind.valid c.requires.party.config c.give_back.ensures) c.requires.party

pub returns-in-Reading-clause-held : goal.returns-in-Reading-clause-held
returns-in-Reading-clause-held g c =
    let m = g.C.Keeps in
    let b = c.take_ready-both in
    (none_stays m c.args.self.now.config c.args.ptr.key b.result.0.hand.own.bucket b.result.0.shard c.args.party.now b.new.party c.give_back.new.party b.ensures.takes b.ensures.kind.valid c.requires.party.config c.give_back.ensures).held

pub unreachable-requires : goal.unreachable-requires
unreachable-requires g c =
    let m = g.C.Keeps in
    let b = c.take_ready-both in
    let log = sound_log m c.args.self.now.config c.args.ptr.key b.result.0.hand.own.bucket b.result.0.shard c.args.party.now b.new.party b.ensures.takes c.requires.party.config b.ensures.kind.valid in
    let shown = c.entry-found.ensures ∙ ap (λ (l : ShardLog). option_map view_of (entry_of c.args.ptr.key l.now)) c.deref.ensures in
    let stood = c.in-Here.ensures b.result.0.shard.now log.replayed.sound shown in
    subst (λ o. IfNone o (IsCachedWith c.args.ptr b.result.0.shard.now → ⊥)) c.in_default.is b.ensures.elsewhere stood

pub hit_taken-requires-clause-here : goal.hit_taken-requires-clause-here
hit_taken-requires-clause-here g c =
    subst (λ o. IfSome o (λ ready. IsCachedWith c.args.ptr c.take_ready-both.result.0.shard.now)) c.in-Some.is c.take_ready-both.ensures.here

pub returns-in-Ok-clause-answer : goal.returns-in-Ok-clause-answer
returns-in-Ok-clause-answer g c =
    let m = g.C.Keeps in
    let b = c.take_ready-both in
    let here = subst (λ o. IfSome o (λ ready. IsCachedWith c.args.ptr c.take_ready-both.result.0.shard.now)) c.in-Some.is c.take_ready-both.ensures.here in
    round_hit m g.P.Pool g.D.CacheDev c.args.self.now.config c.args.ptr c.args.tick b.result.0.hand.own.bucket b.result.0.shard c.args.party.now b.new.party c.hit_taken.new.party b.ensures.takes
    (outside c.args.pool.now c.args.cache.now) c.in-Ok.hold here c.in-Ok.ensures.ok c.in-Ok.ensures.hold

pub returns-in-Err-clause-answer : goal.returns-in-Err-clause-answer
returns-in-Err-clause-answer g c =
    let m = g.C.Keeps in
    let b = c.take_ready-both in
    round_none m g.P.Pool g.D.CacheDev c.args.self.now.config c.args.ptr c.args.tick b.result.0.hand.own.bucket b.result.0.shard c.args.party.now b.new.party c.hit_taken.new.party b.ensures.takes
    (outside c.args.pool.now c.args.cache.now) c.in-Err.ensures.err

pub returns-in-Ok-past_taken-clause-answer : goal.returns-in-Ok-past_taken-clause-answer
returns-in-Ok-past_taken-clause-answer g c =
    let m = g.C.Keeps in
    let b = c.take_ready-both in
    let log = sound_log m c.args.self.now.config c.args.ptr.key b.result.0.hand.own.bucket b.result.0.shard c.args.party.now b.new.party b.ensures.takes c.requires.party.config b.ensures.kind.valid in
    let shown = c.entry-found.ensures ∙ ap (λ (l : ShardLog). option_map view_of (entry_of c.args.ptr.key l.now)) c.deref.ensures in
    let stood = c.in-Other.ensures b.result.0.shard.now log.replayed.sound shown in
    round_past m g.P.Pool g.D.CacheDev c.args.self.now.config c.args.ptr c.args.tick b.result.0.hand.own.bucket b.result.0.shard c.args.party.now b.new.party c.past_taken.new.party b.ensures.takes
    (outside c.args.pool.now c.args.cache.now) (outside c.read_past.new.pool c.args.cache.now) c.in-Other.kept c.read_past.result stood c.in-Ok-past_taken.ensures.ok refl c.read_past.ensures

pub returns-in-Err-past_taken-clause-answer : goal.returns-in-Err-past_taken-clause-answer
returns-in-Err-past_taken-clause-answer g c =
    let m = g.C.Keeps in
    let b = c.take_ready-both in
    round_none m g.P.Pool g.D.CacheDev c.args.self.now.config c.args.ptr c.args.tick b.result.0.hand.own.bucket b.result.0.shard c.args.party.now b.new.party c.past_taken.new.party b.ensures.takes
    (outside c.args.pool.now c.args.cache.now) c.in-Err-past_taken.ensures.err

pub returns-in-Ok-miss_taken-clause-answer : goal.returns-in-Ok-miss_taken-clause-answer
returns-in-Ok-miss_taken-clause-answer g c =
    let m = g.C.Keeps in
    let b = c.take_ready-both in
    let log = sound_log m c.args.self.now.config c.args.ptr.key b.result.0.hand.own.bucket b.result.0.shard c.args.party.now b.new.party b.ensures.takes c.requires.party.config b.ensures.kind.valid in
    let shown = c.entry-found.ensures ∙ ap (λ (l : ShardLog). option_map view_of (entry_of c.args.ptr.key l.now)) c.deref.ensures in
    let stood = c.in-Missing.ensures b.result.0.shard.now log.replayed.sound shown in
    round_missed m g.P.Pool g.D.CacheDev c.args.self.now.config c.args.ptr c.args.tick b.result.0.hand.own.bucket b.result.0.shard c.args.party.now b.new.party c.miss_taken.new.party b.ensures.takes
    (outside c.args.pool.now c.args.cache.now) (outside c.end_miss.new.pool c.end_miss.new.cache) c.entry-found.result c.end_miss.new.party c.end_miss.result stood c.in-Ok-miss_taken.ensures.ok
    shown c.end_miss.ensures.answer

pub returns-in-Err-miss_taken-clause-answer : goal.returns-in-Err-miss_taken-clause-answer
returns-in-Err-miss_taken-clause-answer g c =
    let m = g.C.Keeps in
    let b = c.take_ready-both in
    round_none m g.P.Pool g.D.CacheDev c.args.self.now.config c.args.ptr c.args.tick b.result.0.hand.own.bucket b.result.0.shard c.args.party.now b.new.party c.miss_taken.new.party b.ensures.takes
    (outside c.args.pool.now c.args.cache.now) c.in-Err-miss_taken.ensures.err

pub returns-in-Ok-clause-party : goal.returns-in-Ok-clause-party
returns-in-Ok-clause-party g c =
    let m = g.C.Keeps in
    let b = c.take_ready-both in
    stays_party c.args.self.now c.args.party.now c.hit_taken.new.party (answers_stays m c.args.self.now.config b.ensures.kind.valid g.P.Pool g.D.CacheDev c.args.ptr c.args.tick (outside c.args.pool.now c.args.cache.now) (outside c.args.pool.now c.args.cache.now) c.args.party.now c.hit_taken.new.party _ c.requires.party.config (returns-in-Ok-clause-answer g c)) c.requires.party

pub returns-in-Ok-clause-held : goal.returns-in-Ok-clause-held
returns-in-Ok-clause-held g c =
    let m = g.C.Keeps in
    let b = c.take_ready-both in
    (answers_stays m c.args.self.now.config b.ensures.kind.valid g.P.Pool g.D.CacheDev c.args.ptr c.args.tick (outside c.args.pool.now c.args.cache.now) (outside c.args.pool.now c.args.cache.now) c.args.party.now c.hit_taken.new.party _ c.requires.party.config (returns-in-Ok-clause-answer g c)).held

pub returns-in-Err-clause-party : goal.returns-in-Err-clause-party
returns-in-Err-clause-party g c =
    let m = g.C.Keeps in
    let b = c.take_ready-both in
    stays_party c.args.self.now c.args.party.now c.hit_taken.new.party (answers_stays m c.args.self.now.config b.ensures.kind.valid g.P.Pool g.D.CacheDev c.args.ptr c.args.tick (outside c.args.pool.now c.args.cache.now) (outside c.args.pool.now c.args.cache.now) c.args.party.now c.hit_taken.new.party _ c.requires.party.config (returns-in-Err-clause-answer g c)) c.requires.party

pub returns-in-Err-clause-held : goal.returns-in-Err-clause-held
returns-in-Err-clause-held g c =
    let m = g.C.Keeps in
    let b = c.take_ready-both in
    (answers_stays m c.args.self.now.config b.ensures.kind.valid g.P.Pool g.D.CacheDev c.args.ptr c.args.tick (outside c.args.pool.now c.args.cache.now) (outside c.args.pool.now c.args.cache.now) c.args.party.now c.hit_taken.new.party _ c.requires.party.config (returns-in-Err-clause-answer g c)).held

pub returns-in-Ok-past_taken-clause-party : goal.returns-in-Ok-past_taken-clause-party
returns-in-Ok-past_taken-clause-party g c =
    let m = g.C.Keeps in
    let b = c.take_ready-both in
    stays_party c.args.self.now c.args.party.now c.past_taken.new.party (answers_stays m c.args.self.now.config b.ensures.kind.valid g.P.Pool g.D.CacheDev c.args.ptr c.args.tick (outside c.args.pool.now c.args.cache.now) (outside c.read_past.new.pool c.args.cache.now) c.args.party.now c.past_taken.new.party _ c.requires.party.config (returns-in-Ok-past_taken-clause-answer g c)) c.requires.party

pub returns-in-Ok-past_taken-clause-held : goal.returns-in-Ok-past_taken-clause-held
returns-in-Ok-past_taken-clause-held g c =
    let m = g.C.Keeps in
    let b = c.take_ready-both in
    (answers_stays m c.args.self.now.config b.ensures.kind.valid g.P.Pool g.D.CacheDev c.args.ptr c.args.tick (outside c.args.pool.now c.args.cache.now) (outside c.read_past.new.pool c.args.cache.now) c.args.party.now c.past_taken.new.party _ c.requires.party.config (returns-in-Ok-past_taken-clause-answer g c)).held

pub returns-in-Err-past_taken-clause-party : goal.returns-in-Err-past_taken-clause-party
returns-in-Err-past_taken-clause-party g c =
    let m = g.C.Keeps in
    let b = c.take_ready-both in
    stays_party c.args.self.now c.args.party.now c.past_taken.new.party (answers_stays m c.args.self.now.config b.ensures.kind.valid g.P.Pool g.D.CacheDev c.args.ptr c.args.tick (outside c.args.pool.now c.args.cache.now) (outside c.args.pool.now c.args.cache.now) c.args.party.now c.past_taken.new.party _ c.requires.party.config (returns-in-Err-past_taken-clause-answer g c)) c.requires.party

pub returns-in-Err-past_taken-clause-held : goal.returns-in-Err-past_taken-clause-held
returns-in-Err-past_taken-clause-held g c =
    let m = g.C.Keeps in
    let b = c.take_ready-both in
    (answers_stays m c.args.self.now.config b.ensures.kind.valid g.P.Pool g.D.CacheDev c.args.ptr c.args.tick (outside c.args.pool.now c.args.cache.now) (outside c.args.pool.now c.args.cache.now) c.args.party.now c.past_taken.new.party _ c.requires.party.config (returns-in-Err-past_taken-clause-answer g c)).held

pub returns-in-Ok-miss_taken-clause-party : goal.returns-in-Ok-miss_taken-clause-party
returns-in-Ok-miss_taken-clause-party g c =
    let m = g.C.Keeps in
    let b = c.take_ready-both in
    stays_party c.args.self.now c.args.party.now c.end_miss.new.party (answers_stays m c.args.self.now.config b.ensures.kind.valid g.P.Pool g.D.CacheDev c.args.ptr c.args.tick (outside c.args.pool.now c.args.cache.now) (outside c.end_miss.new.pool c.end_miss.new.cache) c.args.party.now c.end_miss.new.party _ c.requires.party.config (returns-in-Ok-miss_taken-clause-answer g c)) c.requires.party

pub returns-in-Ok-miss_taken-clause-held : goal.returns-in-Ok-miss_taken-clause-held
returns-in-Ok-miss_taken-clause-held g c =
    let m = g.C.Keeps in
    let b = c.take_ready-both in
    (answers_stays m c.args.self.now.config b.ensures.kind.valid g.P.Pool g.D.CacheDev c.args.ptr c.args.tick (outside c.args.pool.now c.args.cache.now) (outside c.end_miss.new.pool c.end_miss.new.cache) c.args.party.now c.end_miss.new.party _ c.requires.party.config (returns-in-Ok-miss_taken-clause-answer g c)).held

pub returns-in-Err-miss_taken-clause-party : goal.returns-in-Err-miss_taken-clause-party
returns-in-Err-miss_taken-clause-party g c =
    let m = g.C.Keeps in
    let b = c.take_ready-both in
    stays_party c.args.self.now c.args.party.now c.miss_taken.new.party (answers_stays m c.args.self.now.config b.ensures.kind.valid g.P.Pool g.D.CacheDev c.args.ptr c.args.tick (outside c.args.pool.now c.args.cache.now) (outside c.args.pool.now c.args.cache.now) c.args.party.now c.miss_taken.new.party _ c.requires.party.config (returns-in-Err-miss_taken-clause-answer g c)) c.requires.party

pub returns-in-Err-miss_taken-clause-held : goal.returns-in-Err-miss_taken-clause-held
returns-in-Err-miss_taken-clause-held g c =
    let m = g.C.Keeps in
    let b = c.take_ready-both in
    (answers_stays m c.args.self.now.config b.ensures.kind.valid g.P.Pool g.D.CacheDev c.args.ptr c.args.tick (outside c.args.pool.now c.args.cache.now) (outside c.args.pool.now c.args.cache.now) c.args.party.now c.miss_taken.new.party _ c.requires.party.config (returns-in-Err-miss_taken-clause-answer g c)).held

pub miss_taken-requires-clause-missing : goal.miss_taken-requires-clause-missing
miss_taken-requires-clause-missing g c =
    let m = g.C.Keeps in
    let b = c.take_ready-both in
    let log = sound_log m c.args.self.now.config c.args.ptr.key b.result.0.hand.own.bucket b.result.0.shard c.args.party.now b.new.party b.ensures.takes c.requires.party.config b.ensures.kind.valid in
    let shown = c.entry-found.ensures ∙ ap (λ (l : ShardLog). option_map view_of (entry_of c.args.ptr.key l.now)) c.deref.ensures in
    let stood = c.in-Missing.ensures b.result.0.shard.now log.replayed.sound shown in
    stood

pub past_taken-requires-clause-kept : goal.past_taken-requires-clause-kept
past_taken-requires-clause-kept g c =
    let m = g.C.Keeps in
    let b = c.take_ready-both in
    let log = sound_log m c.args.self.now.config c.args.ptr.key b.result.0.hand.own.bucket b.result.0.shard c.args.party.now b.new.party b.ensures.takes c.requires.party.config b.ensures.kind.valid in
    let shown = c.entry-found.ensures ∙ ap (λ (l : ShardLog). option_map view_of (entry_of c.args.ptr.key l.now)) c.deref.ensures in
    let stood = c.in-Other.ensures b.result.0.shard.now log.replayed.sound shown in
    stood.1

pub miss_taken-requires-clause-found : goal.miss_taken-requires-clause-found
miss_taken-requires-clause-found g c = c.entry-found.ensures ∙ ap (λ (l : ShardLog). option_map view_of (entry_of c.args.ptr.key l.now)) c.deref.ensures
