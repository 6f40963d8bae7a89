-- Blocks that no block pointer tells apart.
use Rattle.std.specs.Prelude.{◌≡◌, ℕ, List, length}
use Rattle.blk_ptr.specs.Ptr.{sha256_of}

-- two contents of one length and one SHA-256: any block pointer that is of the one is of the other
pub record AreAlike (bytes others : List ℕ) : Type 0 where
  pub size : length bytes ≡ length others
  pub digest : sha256_of bytes ≡ sha256_of others
