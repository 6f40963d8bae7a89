use Rattle.std.proofs.Common.{◌+◌, length-take, arith}
use Rattle.vdev_io.proofs.StreamLemmas.{more_taken}
use Rattle.vdev_io.proofs.whole.read_all.Goals as goal

pub returns-in_err-read_piece-clause-took : goal.returns-in_err-read_piece-clause-took
returns-in_err-read_piece-clause-took g c = more_taken _ _ _ c.loop-piece.text.items _ (c.args.most + 1) c.loop-piece.invariant.consumed c.read_piece.ensures.took
    (omega (arith, length-take c.min-room.result c.deref_mut.result.now, c.min-room.ensures))
