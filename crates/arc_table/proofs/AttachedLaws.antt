-- The turns and the views stay those of the scene.
use Rattle.std.proofs.Common.{◌≡◌}
use Rattle.turn_table.specs.Board.{Turn, free}
use Rattle.arc_table.specs.declared.item.Item.{Item}

module _ {C : Type 0} where
  pub free_same : (u v : Item C) → ◌≡◌ {A = Turn (Item C)} (free u) (free v) → u ≡ v
  free_same u v q = cc
