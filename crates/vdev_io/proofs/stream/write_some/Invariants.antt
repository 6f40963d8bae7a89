use Rattle.std.specs.Io.KnownBytes.{Keeps}
use Rattle.vdev_io.proofs.stream.write_some.Given as goal

-- an interrupted write took nothing
abbrev pub invariant-loop : goal.invariant-loop
invariant-loop g l = Keeps (g.W.Write.contents l.initial.writer) (g.W.Write.contents l.writer)
