use Rattle.std.proofs.Common.{ap}
use Rattle.arc_core.specs.ShardLog.{ShardLog}
use Rattle.arc_check.proofs.Playing.{made-there, room-for-any, still-legal, told-no}
use Rattle.arc_check.proofs.judge.try_event.Goals as goal

-- each of these is given, since the search for it would go through the events
pub returns-then-not-legal : goal.returns-then-not-legal
returns-then-not-legal c = told-no _ _ c.legal.ensures.1 c.if-not-legal.true

pub step-requires-clause-legal : goal.step-requires-clause-legal
step-requires-clause-legal c = still-legal c.args.event _ _ (ap (λ (log : ShardLog). log.now) c.in_ok-reserve.ensures.log) (c.legal.ensures.0 c.if-not-legal.false)

pub step-requires-clause-room : goal.step-requires-clause-room
step-requires-clause-room c = room-for-any c.args.event _ c.in_ok-reserve.ensures.events c.in_ok-reserve.ensures.entries

pub returns : goal.returns
returns c = made-there c.args.event _ _ (ap (λ (log : ShardLog). log.now) c.in_ok-reserve.ensures.log) _ (c.legal.ensures.0 c.if-not-legal.false) c.step.ensures.now
