-- What a read of one block may be answered.
use Rattle.std.specs.Prelude.{◌≡◌, ◌≢◌, ℕ, List, length, Option, Ok, Err, IfSome}
use Rattle.blk_ptr.specs.declared.digest.Digest.{Digest}
use Rattle.blk_ptr.specs.declared.ptr.Ptr.{Ptr}
use Rattle.blk_ptr.specs.Ptr.{sha256_of, range_of, IsOf, IsPlainRead, IsSameOrCollides}
use Rattle.arc_core.specs.declared.served.Served.{Served}
use Rattle.arc_core.specs.declared.served.Served.TheVariants as served

-- the bytes came from the pool in this call
abbrev pub IsFromPool : Served → Type 0
IsFromPool served.Hit = ⊥
IsFromPool served.L2 = ⊥
IsFromPool served.Pool = Unit {0}
IsFromPool served.Past = Unit {0}

-- where a pool tells its bytes, those in the pointer's range are of the pointer
abbrev pub TellsBlock : (image : Option (List ℕ)) → Ptr → Type 0
TellsBlock image ptr = IfSome image (λ told. IsOf (range_of told ptr.key) ptr)

-- The bytes that a read gives are of the pointer. Over a pool that tells its bytes they are those in the key's range, where they came from
-- there in this call. Wherever they came from, a plain read gives the same ones if it gives any, or two contents have one digest.
pub record IsReadOf (image : Option (List ℕ)) (ptr : Ptr) (from : Served) (bytes : List ℕ) : Type 0 where
  pub of : IsOf bytes ptr
  pub range : IsFromPool from → IfSome image (λ told. bytes ≡ range_of told ptr.key)
  pub plain : IfSome image (λ told. (others : List ℕ) → IsPlainRead told ptr (Ok others) → IsSameOrCollides bytes others)

-- The digest that was found is that of the bytes that were read, and it isn't the pointer's. Over a pool that tells its
-- bytes a plain read finds it too.
pub record IsMismatch (image : Option (List ℕ)) (ptr : Ptr) (found : Digest) : Type 0 where
  pub bytes : List ℕ
  pub size : length bytes ≡ ptr.key.size
  pub digest : found ≡ sha256_of bytes
  pub other : found ≢ ptr.digest
  pub plain : IfSome image (λ told. IsPlainRead told ptr (Err found))
