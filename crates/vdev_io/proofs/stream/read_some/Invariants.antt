use Rattle.std.specs.Io.KnownBytes.{Keeps}
use Rattle.vdev_io.proofs.stream.read_some.Given as goal

-- an interrupted read took nothing
abbrev pub invariant-loop : goal.invariant-loop
invariant-loop g l = Keeps (g.R.Read.remaining l.initial.reader) (g.R.Read.remaining l.reader)
