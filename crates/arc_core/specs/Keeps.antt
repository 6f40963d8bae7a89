-- What a cell of the layer above keeps of the cache, as plain data: its holds, and what its owners say of it.
use Rattle.std.specs.Prelude.{ℕ, List, count_by}
use Rattle.blk_ptr.specs.Order.{key_eq}
use Rattle.blk_ptr.specs.declared.key.Key.{Key}
use Rattle.blk_ptr.specs.declared.ptr.Ptr.{Ptr}

-- how many of these holds are on the key, whatever their digests
abbrev pub holds_on : Key → List Ptr → ℕ
holds_on key holds = count_by (λ hold. key_eq key hold.key) holds
