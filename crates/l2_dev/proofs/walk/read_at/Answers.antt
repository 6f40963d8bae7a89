use Rattle.std.proofs.Common.{length}
use Rattle.vdev_io.proofs.CallLemmas.{makes_read}
use Rattle.l2_dev.proofs.walk.read_at.Goals as goal

pub returns-clause-call : goal.returns-clause-call
returns-clause-call g c =
    let e = c.read.ensures in
    makes_read g.D.CacheDev c.args.offset (length c.args.buf.now) c.args.dev.now c.read.new.self c.read.result e.size e.kind e.told e.crash e.counted e.others e.fault
