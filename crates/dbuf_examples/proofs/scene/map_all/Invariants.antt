use Rattle.dbuf_examples.specs.Mapped.{IsMapped}
use Rattle.dbuf_examples.proofs.scene.map_all.Given as goal

abbrev pub invariant-loop-block : goal.invariant-loop-block
invariant-loop-block l = record { mapped : IsMapped l.cell }
