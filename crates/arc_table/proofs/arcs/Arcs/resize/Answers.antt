use Rattle.std.proofs.Common.{◌<◌, ap, ◌∙◌, subst}
use Rattle.turn_table.specs.Board.{IsAmong}
use Rattle.arc_core.specs.declared.config.Config.{Config}
use Rattle.arc_core.specs.Config.{IsConfig}
use Rattle.arc_table.specs.Cache.{Cache}
use Rattle.arc_table.proofs.CapacityEvents.{key_own}
use Rattle.arc_table.proofs.arcs.Arcs.resize.Goals as goal

pub resize_one-requires-clause-look : goal.resize_one-requires-clause-look
resize_one-requires-clause-look g c i among = c.requires.look i (subst (IsAmong i) c.loop-shard.invariant.held among)

pub returns-in-Err-clause-free : goal.returns-in-Err-clause-free
returns-in-Err-clause-free g c i among = c.requires.look i (subst (IsAmong i) (c.in-Err.ensures.held ∙ c.loop-shard.invariant.held) among)

pub returns-in-Err-clause-answer : goal.returns-in-Err-clause-answer
returns-in-Err-clause-answer g c =
    let same = ap (λ (x : Cache). x.config) c.self.view_is in
    let below : c.loop-shard.shard < c.args.self.now.config.shards = subst (λ (x : Config). c.loop-shard.shard < x.shards) same c.loop-shard-test.true in
    record {
      below = below;
      reached = c.loop-shard.party;
      resized = c.loop-shard.invariant.resized;
      own = key_own c.args.self.now.config c.loop-shard.shard (subst IsConfig same c.self.invariant.valid) below;
      stopped = c.in-Err.ensures.err;
    }

pub returns-clause-free : goal.returns-clause-free
returns-clause-free g c i among = c.requires.look i (subst (IsAmong i) c.loop-shard.invariant.held among)
