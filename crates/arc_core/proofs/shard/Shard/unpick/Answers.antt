use Rattle.std.proofs.lemmas.List.{length-take}
use Rattle.std.proofs.Common.{length, take, refl, sym, ap, subst, ◌∙◌, arith}
use Rattle.arc_core.specs.ShardLog.{MayUnpick}
use Rattle.arc_core.specs.ShardModel.{log_in}
use Rattle.arc_core.specs.Owed.{owed_of}
use Rattle.arc_core.specs.Replay.{replay}
use Rattle.arc_core.specs.ShardLog.{ShardLog}
use Rattle.arc_core.proofs.Making.{none-halted, none-marked}
use Rattle.arc_core.proofs.Unpicking.{before-scan, front-legal, sound-unpicked}
use Rattle.arc_core.proofs.shard.Shard.unpick.Goals as goal

pub invariant_of-self : goal.invariant_of-self
invariant_of-self c =
    let kept = c.self.invariant in
    let s = c.self.inside in
    let log = log_in s in
    let may : MayUnpick c.args.len log = subst (MayUnpick c.args.len) (sym c.self.view_is) c.requires in
    let now = ap (λ t. t.shard) c.unpick.ensures.now in
    let before = before-scan log c.args.len may kept.replayed.replayed (λ is. refl) in
    record {
      replayed = record {
        sound = rw now (sound-unpicked s.table.shard kept.replayed.sound);
        replayed = rw (c.truncate.ensures.events, now) (sym before);
        legal = rw c.truncate.ensures.events (front-legal log c.args.len kept.replayed.legal);
      };
      room = omega (arith, kept.room, ap owed_of now, c.truncate.ensures.room);
      few = omega (arith, kept.few, ap owed_of now, ap length c.truncate.ensures.events, length-take c.args.len s.history.events);
      marked = none-marked _ _ (ap (λ t. t.marked) c.unpick.ensures.now);
      halts = none-halted _ _ _ c.forget.ensures;
    }

pub returns : goal.returns
returns c =
    let s = c.self.inside in
    let log = log_in s in
    let may : MayUnpick c.args.len log = subst (MayUnpick c.args.len) (sym c.self.view_is) c.requires in
    let before = before-scan log c.args.len may c.self.invariant.replayed.replayed (λ is. refl) in
    record {
      now = ap (λ t. t.shard) c.unpick.ensures.now ∙ before ∙ ap (λ (l : ShardLog). replay l.opening (take c.args.len l.history)) c.self.view_is;
      history = c.truncate.ensures.events ∙ ap (λ (l : ShardLog). take c.args.len l.history) c.self.view_is;
      opening = ap (λ (l : ShardLog). l.opening) c.self.view_is;
      event_room = omega (arith, ap (λ (l : ShardLog). l.event_room) c.self.view_is, ap (λ t. t.marks) c.unpick.ensures.now);
      entry_room = omega (arith, ap (λ (l : ShardLog). l.entry_room) c.self.view_is, ap (λ t. t.spare) c.unpick.ensures.now);
      marked = ap (λ t. t.marked) c.unpick.ensures.now;
    }
