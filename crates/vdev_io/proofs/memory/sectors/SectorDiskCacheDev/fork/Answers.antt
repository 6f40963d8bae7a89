-- A fork leaves the record of calls as it was.
use Rattle.std.proofs.Common.{sym, ap}
use Rattle.vdev_io.specs.SectorDisk.{Disk}
use Rattle.vdev_io.proofs.DiskLemmas.{stands-same}
use Rattle.vdev_io.proofs.memory.sectors.SectorDiskCacheDev.fork.Goals as goal

pub returns-clause-time : goal.returns-clause-time
returns-clause-time c =
    let begun = c.in_ok-begin_other.ensures.begun in
    stands-same c.args.self.now c.begin_other.new.self (sym (ap (λ (d : Disk). d.calls) begun)) (sym (ap (λ (d : Disk). d.opening) begun))
