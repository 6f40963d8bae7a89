use Rattle.std.proofs.Common.{◌≡◌, ◌≤◌, []}
use Rattle.device_tests.proofs.cache_device.tools.after_feeds.Given as goal

abbrev pub invariant-loop-number : goal.invariant-loop-number
invariant-loop-number g l = record {
  whole : l.l2.cursor.ring.end ≤ g.D.CacheDev.size l.l2.dev;
  none : l.l2.cursor.pending ≡ [];
}
