use Rattle.std.proofs.Common.{◌≡◌, ◌+◌, drop}
use Rattle.l2_feed.specs.Runs.{bytes_of}
use Rattle.l2_feed.proofs.batch.bytes_of.Given as goal

abbrev pub invariant-loop-picked : goal.invariant-loop-picked
invariant-loop-picked l = (l.bytes + bytes_of (drop l.picked-index l.blocks) ≡ bytes_of l.blocks)
