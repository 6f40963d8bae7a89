use Rattle.trace_run.proofs.DeviceReadLemmas.{refused-asks}
use Rattle.trace_run.proofs.LineLemmas.{hold-did, hold-refused}
use Rattle.trace_run.specs.Reads.{now_of}
use Rattle.blk_ptr.specs.Hash.{shard_of}
use Rattle.trace_run.proofs.one_caller.AskingLemmas.{asks-refused}
use Rattle.trace_run.proofs.lines.hold_line.Goals as goal

pub returns-in_ok-push-in-Ok-clause-did : goal.returns-in_ok-push-in-Ok-clause-did
returns-in_ok-push-in-Ok-clause-did g c =
    hold-did c.args.arcs.now.config c.args.party.now c.get.new.party c.args.t c.args.ptr.now c.in-Ok.field-0.served c.in-Ok.ensures.did

pub returns-in_ok-refusal_of-in-Err-clause-did : goal.returns-in_ok-refusal_of-in-Err-clause-did
returns-in_ok-refusal_of-in-Err-clause-did g c =
    hold-refused c.args.arcs.now.config c.args.party.now c.get.new.party c.args.t c.args.ptr.now c.in-Err.fault c.in_ok-refusal_of-in-Err.field-0
    c.in_ok-refusal_of-in-Err.ensures.ok c.in-Err.ensures.did

pub returns-in_ok-refusal_of-in-Err-clause-asks : goal.returns-in_ok-refusal_of-in-Err-clause-asks
returns-in_ok-refusal_of-in-Err-clause-asks g c = λ all.
    asks-refused g.D.CacheDev (now_of c.args.arcs.now.config (shard_of c.args.arcs.now.config.shards c.args.ptr.now.key) c.args.party.now) c.args.ptr.now c.args.device.now c.get.new.device c.in-Err.fault c.in_ok-refusal_of-in-Err.field-0
    c.in_ok-refusal_of-in-Err.ensures.ok (c.in-Err.ensures.asks all)

pub returns-in_ok-refusal_of-in-Err-clause-asked : goal.returns-in_ok-refusal_of-in-Err-clause-asked
returns-in_ok-refusal_of-in-Err-clause-asked g c =
    refused-asks g.D.CacheDev c.args.ptr.now.key.size c.in-Err.fault c.in_ok-refusal_of-in-Err.field-0 c.args.device.now c.get.new.device c.in_ok-refusal_of-in-Err.ensures.ok c.in-Err.ensures.asked
