use Rattle.l2_dev.proofs.NewestLaws.{newest_is_restored}
use Rattle.l2_dev.proofs.laws.newest_is_restored.Goals as goal

pub returns : goal.returns
returns g c = let d = g.D.CacheDev in newest_is_restored d.told d.has_sectors d.may_leave
