use Rattle.std.specs.Prelude.{IsTrue}
use Rattle.l2_dev.proofs.EndLaws.{more_collides}
use Rattle.l2_dev.proofs.laws.more_is_a_collision.Goals as goal

pub returns : goal.returns
returns c = λ made. more_collides (λ block. IsTrue (made block))
