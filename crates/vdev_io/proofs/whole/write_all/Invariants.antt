use Rattle.std.proofs.Common.{◌≡◌, ◌-◌, ◌≤◌, length, take}
use Rattle.std.specs.Io.KnownBytes.{Appends}
use Rattle.vdev_io.proofs.whole.write_all.Given as goal

-- the front of the text is written
abbrev pub invariant-loop-at : goal.invariant-loop-at
invariant-loop-at g l =
    let sink = g.K.Sink in
    record {
      within : l.at ≤ length l.text;
      written : Appends (sink.written l.fn.sink) (sink.written l.sink) (take l.at l.text);
      unfailed : sink.faults l.sink ≡ sink.faults l.fn.sink;
    }

abbrev pub decreases-loop-at : goal.decreases-loop-at
decreases-loop-at g l = length l.text - l.at
