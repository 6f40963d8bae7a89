use Rattle.std.proofs.Common.{◌≡◌, ◌≤◌}
use Rattle.l2_feed.specs.Crashes.{KeepsOwn}
use Rattle.l2_feed.proofs.Asking.{RunsAsked}
use Rattle.l2_feed.proofs.Writing.{RunsSo}
use Rattle.l2_feed.proofs.batch.write_runs.Given as goal

abbrev pub invariant-loop-number : goal.invariant-loop-number
invariant-loop-number g l = record {
  size : g.D.CacheDev.size l.l2.dev ≡ g.D.CacheDev.size l.fn.l2.dev;
  faults : g.D.CacheDev.faults l.fn.l2.dev ≤ g.D.CacheDev.faults l.l2.dev;
  asks : RunsAsked g.D.CacheDev l.blocks l.number l.fn.l2.cursor l.l2.cursor l.fn.l2.dev l.l2.dev;
  crash : KeepsOwn g.D.CacheDev.told g.D.CacheDev.has_sectors g.D.CacheDev.may_leave l.fn.l2.dev l.l2.dev l.fn.l2.cursor l.l2.cursor;
  so : RunsSo g.C.Keeps l.arcs l.blocks l.number l.fn.written l.written l.fn.l2.cursor l.l2.cursor l.fn.party l.party;
}
