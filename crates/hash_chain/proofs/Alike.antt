-- Blocks that no block pointer tells apart: which are alike, and what of one holds of the other.
use Rattle.std.proofs.Common.{ℕ, List, refl, sym, ◌∙◌}
use Rattle.blk_ptr.specs.declared.ptr.Ptr.{Ptr}
use Rattle.blk_ptr.specs.Ptr.{IsOf}
use Rattle.hash_chain.specs.Alike.{AreAlike}

-- each content is alike to itself
pub alike_same : (bytes : List ℕ) → AreAlike bytes bytes
alike_same bytes = record { size = refl; digest = refl }

-- the other way round
pub alike_turned : (bytes others : List ℕ) → AreAlike bytes others → AreAlike others bytes
alike_turned bytes others alike = record { size = sym alike.size; digest = sym alike.digest }

-- a block pointer that is of the one is of the other
pub alike_is_of : (bytes others : List ℕ) (ptr : Ptr) → AreAlike bytes others → IsOf others ptr → IsOf bytes ptr
alike_is_of bytes others ptr alike is = record { size = alike.size ∙ is.size; digest = alike.digest ∙ is.digest }

-- two contents of one block pointer are alike
pub alike_of : (bytes others : List ℕ) (ptr : Ptr) → IsOf bytes ptr → IsOf others ptr → AreAlike bytes others
alike_of bytes others ptr is other = record { size = is.size ∙ sym other.size; digest = is.digest ∙ sym other.digest }
