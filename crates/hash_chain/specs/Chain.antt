-- A bucket as plain data: a finite map from keys to headers.
use Rattle.std.specs.Prelude.{◌≡◌, ℕ, if◌then◌else◌, List, [], ◌∷◌, Option, Some, None, IfSome}
use Rattle.std.specs.Option.{option_map}
use Rattle.std.specs.declared.alloc.Global.{Global}
use Rattle.std.specs.declared.sync.Arc.{Arc}
use Rattle.blk_ptr.specs.declared.key.Key.{Key}
use Rattle.blk_ptr.specs.Order.{key_eq}
use Rattle.hash_chain.specs.declared.header.Header.{Header}
use Rattle.hash_chain.specs.Alike.{AreAlike}
use Rattle.hash_chain.specs.Keeping.{spare_or, with_spare, without_spare}

-- what a bucket is to its user: its headers, and for how many more it has room
pub record Chain : Type 0 where
  pub headers : List Header
  pub spare : ℕ

-- the header that the key has
abbrev pub header_at : Key → List Header → Option Header
header_at k [] = None
header_at k (h ∷ hs) = if key_eq h.key k then Some h else header_at k hs

-- in gs the key k has o, and every other key has what it has in hs
abbrev pub IsWith : Key → Option Header → List Header → List Header → Type 0
IsWith k o hs gs = (j : Key) → header_at j gs ≡ (if key_eq k j then o else header_at j hs)

-- where there is a header and it has a block, these bytes are alike to the block's
abbrev pub IsAlikeTo : Option Header → List ℕ → Type 0
IsAlikeTo o bytes = IfSome o (λ h. IfSome h.block (λ kept. AreAlike bytes kept.block.value))

-- the bytes of the owner that a header lends next: the spare one, or else one more of its block
abbrev pub bytes_lent : Header → Option (List ℕ)
bytes_lent h = option_map (λ kept. (spare_or kept.spare kept.block).value) h.block

-- a header whose spare owner was taken
abbrev pub lent : Header → Header
lent h = record h { block = option_map without_spare h.block }

-- a header to which an owner was given back, with near which place its entry stands
abbrev pub given : Arc (List ℕ) Global → ℕ → Header → Header
given owner near h = record h { block = option_map (with_spare owner near) h.block }
