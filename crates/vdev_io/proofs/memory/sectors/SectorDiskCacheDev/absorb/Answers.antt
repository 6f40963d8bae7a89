-- Nothing is recorded.
use Rattle.std.proofs.Common.{sym, ap}
use Rattle.vdev_io.specs.SectorDisk.{Disk}
use Rattle.vdev_io.proofs.DiskLemmas.{stands-same}
use Rattle.vdev_io.proofs.memory.sectors.SectorDiskCacheDev.absorb.Goals as goal

pub returns-clause-time : goal.returns-clause-time
returns-clause-time c =
    let new : Disk = record {
      opening = c.self.inside.opening.items;
      calls = c.self.inside.journal.calls;
      tells = c.self.inside.tells;
      left = c.self.inside.journal.left;
      room = c.self.inside.journal.room;
      full = c.self.inside.full;
      faults = c.saturating_add-self-inside.result;
      reads = c.saturating_add-self-inside-2.result;
      other_calls = c.self.inside.other_calls;
    } in
    stands-same c.args.self.now new (ap (λ (d : Disk). d.calls) (sym c.self.view_is)) (ap (λ (d : Disk). d.opening) (sym c.self.view_is))
