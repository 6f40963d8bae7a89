use Rattle.std.proofs.Common.{arith}
use Rattle.arc_paper.proofs.Roomy.{IsRoomy-none, lists-none}
use Rattle.arc_paper.proofs.directory.Directory.new.Goals as goal

pub invariant_of-result : goal.invariant_of-result
invariant_of-result c =
    IsRoomy-none (record { queues = c.in_ok-new.field-0; table = c.in_ok-with_room.field-0; room = c.args.room }) c.in_ok-new.ensures c.in_ok-with_room.ensures (omega arith)

pub returns : goal.returns
returns c = lists-none c.in_ok-new.field-0 c.args.room c.in_ok-new.ensures
