use Rattle.std.proofs.Common.{◌≡◌, ◌+◌, ◌<◌, ◌^◌, length, take, drop}
use Rattle.arc_core.specs.Replay.{replay}
use Rattle.arc_check.specs.Judging.{IsLegalFrom, log_opening}
use Rattle.arc_check.proofs.judge.play.Given as goal

-- the shard is what the events so far, which are legal, made of it
abbrev pub invariant-loop-index : goal.invariant-loop-index
invariant-loop-index l = record {
  few : l.index + length l.event-iterator < 2 ^ 32;
  left : drop l.index l.history ≡ l.event-iterator;
  now : l.shard.now ≡ replay (log_opening l.fn.config) (take l.index l.history);
  legal : IsLegalFrom (log_opening l.fn.config) (take l.index l.history);
}
