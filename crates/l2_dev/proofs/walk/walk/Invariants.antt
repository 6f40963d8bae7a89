use Rattle.std.proofs.Common.{◌≡◌, ◌-◌, ◌≤◌, ℕ, List, length, map, Some}
use Rattle.std.specs.List.{All, AllByRecursion}
use Rattle.vdev_io.specs.Calls.{MakesDeviceCalls}
use Rattle.l2_log.specs.Rules.{log_len}
use Rattle.l2_dev.specs.Asking.{visit_read}
use Rattle.l2_dev.specs.Chain.{Visit, IsHeld, numbers_in, ring_len}
use Rattle.l2_dev.specs.Reading.{OnlyRead}
use Rattle.l2_dev.specs.Walking.{HasCome, IsFit}
use Rattle.l2_dev.proofs.walk.walk.Given as goal

abbrev pub invariant-loop-next : goal.invariant-loop-next
invariant-loop-next g l = record {
  read : OnlyRead g.D.CacheDev.size g.D.CacheDev.told g.D.CacheDev.has_sectors g.D.CacheDev.may_leave g.D.CacheDev.moment g.D.CacheDev.left_since g.D.CacheDev.faults l.initial.dev l.dev;
  len : length l.bytes.items ≡ log_len;
  short : l.walked ≤ ring_len l.header;
  fit : All (IsFit (numbers_in l.header)) l.found.items;
  come : (visits : List Visit) × HasCome l.header visits l.next l.behind l.walked l.found.items × MakesDeviceCalls g.D.CacheDev (map visit_read visits) l.initial.dev l.dev
      × ((image : List ℕ) → g.D.CacheDev.told l.initial.dev ≡ Some image → AllByRecursion (IsHeld image) visits);
}

abbrev pub decreases-loop-next : goal.decreases-loop-next
decreases-loop-next g l = ring_len l.header - l.walked
