use Rattle.std.proofs.Common.{◌≡◌, ◌+◌, ◌-◌, ◌<◌, ◌≤◌, length}
use Rattle.std.specs.Io.KnownBytes.{Consumes}
use Rattle.vdev_io.proofs.whole.read_all.Given as goal

-- the text so far is what the source gave
abbrev pub invariant-loop-piece : goal.invariant-loop-piece
invariant-loop-piece g l =
    let source = g.S.Source in
    record {
      consumed : Consumes (source.left l.fn.source) (source.left l.source) l.text.items;
      short : length l.text.items ≤ l.most + 1;
      piece : 0 < length l.piece.items;
      unfailed : source.faults l.source ≡ source.faults l.fn.source;
    }

abbrev pub decreases-loop-piece : goal.decreases-loop-piece
decreases-loop-piece g l = l.most + 1 - length l.text.items
