-- The rows of places. No public clause cites this module.
use Rattle.std.specs.Prelude.{◌≡◌, ℕ, List, []}
use Rattle.std.specs.declared.collections.VecDeque.{VecDeque}
use Rattle.key_table.specs.PlainTable.{HasKey, IsAmong, Row, row}

module _ {A : Type 0} where
  -- the row of the number has these places, or it has none and there is no row
  pub record IsFound (n : ℕ) (rows : List (Row ℕ (VecDeque ℕ A))) (ps : List ℕ) : Type 0 where
    pub held : (d : VecDeque ℕ A) → IsAmong (row n d) rows → d.items ≡ ps
    pub absent : (HasKey n rows → ⊥) → ps ≡ []
