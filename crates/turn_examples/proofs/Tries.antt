-- Tries that were lost, where a lost try tells nothing.
use Rattle.std.proofs.Common.{◌≡◌, ℕ, List, refl}
use Rattle.turn_table.specs.Board.{Board}
use Rattle.turn_table.specs.Places.{Place}
use Rattle.turn_table.specs.Moments.{Loses}
use Rattle.turn_table.proofs.Losses.{loses_keep}

module _ {V W : Type 0} (holds : Board V W → Type 0) where
  pub loses_none : (i : ℕ) (owners : List ℕ) (p q : Place W) → Loses holds (λ n i m w. w) i owners p q → q ≡ p
  loses_none i owners p q l = loses_keep holds (λ n i m w. w) i (λ z. z ≡ p) (λ z m t e. e) owners p q l refl
