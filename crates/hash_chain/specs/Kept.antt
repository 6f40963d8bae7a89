-- What is always true of a bucket.
use Rattle.std.specs.Prelude.{◌≡◌, ℕ, ◌*◌, ◌/◌, ◌%◌, ◌^◌, Bool, List, [], ◌∷◌, map, Option, Some, None}
use Rattle.blk_ptr.specs.declared.key.Key.{Key}
use Rattle.blk_ptr.specs.Order.{key_eq}
use Rattle.blk_ptr.specs.Hash.{hash_of_key}
use Rattle.hash_chain.specs.declared.bucket.TheConstants.{SPREAD}
use Rattle.hash_chain.specs.declared.header.Header.{Header}
use Rattle.hash_chain.specs.Chain.{header_at}

-- the headers of a bucket: the first, if there is one, and the others
abbrev pub all_of : Option Header → List Header → List Header
all_of None hs = hs
all_of (Some h) hs = h ∷ hs

-- whether j is the key k
abbrev pub is_key : Key → Key → Bool
is_key k j = key_eq j k

-- the tag of a key: the highest byte of its hash of 64 bits, spread once more
unfoldable pub tag_of_key : Key → ℕ
tag_of_key key = hash_of_key key * SPREAD % 2 ^ 64 / 2 ^ 56

abbrev pub keys_of : List Header → List Key
keys_of hs = map (λ h. h.key) hs

-- no key stands twice
abbrev pub AreOnce : List Header → Type 0
AreOnce [] = Unit {0}
AreOnce (h ∷ hs) = (header_at h.key hs ≡ None) × AreOnce hs
