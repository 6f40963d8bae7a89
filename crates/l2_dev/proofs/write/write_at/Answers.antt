use Rattle.vdev_io.specs.Calls.{Write}
use Rattle.vdev_io.proofs.CallLemmas.{asked_once, makes_write}
use Rattle.l2_dev.proofs.CallLaws.{wrote_once}
use Rattle.l2_dev.proofs.write.write_at.Goals as goal

pub returns-clause-wrote : goal.returns-clause-wrote
returns-clause-wrote g c =
    let d = g.D.CacheDev in
    wrote_once d.told d.has_sectors d.may_leave d.moment d.left_since c.args.offset c.args.bytes.now c.args.dev.now c.write.new.self c.write.result c.write.ensures.kind c.write.ensures.told c.write.ensures.crash
    c.write.ensures.time.later c.write.ensures.since

pub returns-clause-calls : goal.returns-clause-calls
returns-clause-calls g c =
    let d = g.D.CacheDev in
    let e = c.write.ensures in
    asked_once d (Write c.args.offset c.args.bytes.now) c.args.dev.now c.write.new.self c.write.result
    (makes_write d c.args.offset c.args.bytes.now c.args.dev.now c.write.new.self c.write.result e.size e.kind e.told e.crash e.reads e.others e.fault)
