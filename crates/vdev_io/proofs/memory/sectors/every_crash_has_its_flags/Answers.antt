use Rattle.vdev_io.proofs.CrashLaws.{crash_has_flags}
use Rattle.vdev_io.proofs.memory.sectors.every_crash_has_its_flags.Goals as goal

pub returns : goal.returns
returns c = crash_has_flags
