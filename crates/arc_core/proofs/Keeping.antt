-- A shard keeps its invariant through an event.
use Rattle.std.proofs.Common.{◌≡◌, ℕ, ◌+◌, ◌≤◌, true, IsTrue, [], ◌∷◌, ◌++◌, refl, sym, ap, subst, ◌∙◌, arith, length}
use Rattle.blk_ptr.specs.declared.key.Key.{Key}
use Rattle.arc_lists.specs.Queues.{IsSequenceOf}
use Rattle.arc_core.specs.declared.shard.Shard.TheInside.{Inside}
use Rattle.arc_core.specs.declared.event.Event.{Event}
use Rattle.arc_core.specs.declared.event.Event.TheVariants.{Miss}
use Rattle.arc_core.specs.Halts.{AreHalts}
use Rattle.arc_core.specs.Owed.{owed_of, room_for}
use Rattle.arc_core.specs.PlainShard.{PlainShard, members}
use Rattle.arc_core.specs.Replay.{is_legal_history, replay}
use Rattle.arc_core.specs.Rules.{with_target_for}
use Rattle.arc_core.specs.ShardModel.{ShardKeeps, log_in}
use Rattle.arc_core.specs.Sound.{IsSound, IsTidy}
use Rattle.arc_core.specs.Step.{after, legal, read_entry}
use Rattle.arc_core.proofs.Frames.{frame-taken_in, target-within}
use Rattle.arc_core.proofs.Stepping.{legal-append, replay-append}

-- after an event that is legal, keeps the shard sound, and takes no more room than it may
pub ShardKeeps-step : (s n : Inside) (e : Event) → ShardKeeps s → IsTrue (legal s.table.shard e) → n.table.shard ≡ after s.table.shard e → IsSound n.table.shard → n.opened ≡ s.opened
    → n.history.events ≡ s.history.events ++ e ∷ [] → length n.history.events ≡ length s.history.events + 1 → n.history.room + 1 ≡ s.history.room → n.spare_events + room_for e ≡ s.spare_events → IsSequenceOf (members n.table.shard) n.table.marked → AreHalts n.table.shard n.table.marked n.halts
    → owed_of (after s.table.shard e) + 1 ≤ owed_of s.table.shard + room_for e → ShardKeeps n
ShardKeeps-step s n e kept ok step sound opened history len capacity spare marked halts owed =
    let opening = (log_in s).opening in
    let replayed : replay opening (s.history.events ++ e ∷ []) ≡ after s.table.shard e = replay-append opening s.history.events (e ∷ []) ∙ ap (λ (t : PlainShard). after t e) kept.replayed.replayed in
    let lawful : is_legal_history opening (s.history.events ++ e ∷ []) ≡ true = legal-append opening s.history.events e kept.replayed.legal (subst (λ t. legal t e ≡ true) (sym kept.replayed.replayed) ok) in
    record {
      replayed = record {
        sound = sound;
        replayed = rw (opened, history) (replayed ∙ sym step);
        legal = rw (opened, history) lawful;
      };
      room = omega (arith, kept.room, len, capacity, spare, owed, ap owed_of step);
      few = omega (arith, kept.few, len, spare, owed, ap owed_of step);
      marked = marked;
      halts = halts;
    }

-- a miss moves the target within its bounds, and keeps the rest of the frame
pub sound-miss : (n t : ℕ) (k : Key) (s u : PlainShard) → IsSound s → u ≡ after s (Miss n k t) → IsTidy u → IsSound u
sound-miss n t k s u sound is tidy =
    let frame = frame-taken_in (read_entry n k t s) (with_target_for k s) in
    let within = target-within k s sound.target_low sound.target_high in
    record {
      tidy = tidy;
      target_low = rw (is, frame.p, frame.c) within.0;
      target_high = rw (is, frame.p, frame.c) within.1;
      feed = rw (is, frame.phase, frame.picked) sound.feed;
      picks = rw (is, frame.picked) sound.picks;
      passed = rw is refl;
    }
