-- A header whose block a read asks for.
use Rattle.std.specs.Prelude.{◌≡◌, ℕ, ◌-◌, ◌^◌, ◌<◌, Bool, false, ◌&&◌, is_some, IfSome, IsSome, List, length, slice_get}
use Rattle.std.specs.Option.{option_map_or}
use Rattle.blk_ptr.specs.declared.digest.Digest.{Digest}
use Rattle.blk_ptr.specs.declared.ptr.Ptr.{Ptr}
use Rattle.blk_ptr.specs.Order.{digest_eq}
use Rattle.hash_chain.specs.declared.header.Header.{Header}
use Rattle.hash_chain.specs.Chain.{header_at}

-- a header has a block, and says that its digest is this one
abbrev pub keeps_block : Digest → Header → Bool
keeps_block d h = is_some h.block && option_map_or (λ kept. digest_eq kept d) h.digest false

-- the pointer's key has such a header
abbrev pub has_block : Ptr → List Header → Bool
has_block ptr hs = option_map_or (keeps_block ptr.digest) (header_at ptr.key hs) false

-- the header of the pointer's key stands there, and has a block
pub record IsReady (ptr : Ptr) (at : ℕ) (hs : List Header) : Type 0 where
  pub within : at < length hs
  pub found : header_at ptr.key hs ≡ slice_get hs at
  pub key : IfSome (slice_get hs at) (λ h. h.key ≡ ptr.key)
  pub block : IfSome (slice_get hs at) (λ h. IsSome h.block)

-- near which place of its shard the entry of a header's key stood when that was last said, if it was
abbrev pub said_near : Header → ℕ
said_near h = option_map_or (λ kept. kept.near) h.block (2 ^ 64 - 1)
