-- Keys and digests compared: which are the same, and which key is the smaller one.
use Rattle.std.specs.Prelude.{ℕ, Bool, ◌&&◌, ◌==◌}
use Rattle.std.specs.Ordering.{nat_cmp, ordering_then, is_lt}
use Rattle.std.specs.Str.{bytes_eq}
use Rattle.std.specs.declared.cmp.Ordering.{Ordering}
use Rattle.blk_ptr.specs.declared.key.Key.{Key}
use Rattle.blk_ptr.specs.declared.digest.Digest.{Digest}

-- the two keys are one
abbrev pub key_eq : Key → Key → Bool
key_eq a b = a.offset == b.offset && (a.size == b.size && a.birth == b.birth)

-- keys go by offset, then by size, then by birth
abbrev pub key_cmp : Key → Key → Ordering
key_cmp a b = ordering_then (nat_cmp a.offset b.offset) (ordering_then (nat_cmp a.size b.size) (nat_cmp a.birth b.birth))

-- the first key goes before the second
abbrev pub key_lt : Key → Key → Bool
key_lt a b = is_lt (key_cmp a b)

-- the two digests are one
abbrev pub digest_eq : Digest → Digest → Bool
digest_eq a b = bytes_eq a.0 b.0
