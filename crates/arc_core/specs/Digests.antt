-- Digests that are kept, compared.
use Rattle.std.specs.Prelude.{Bool, true, false, Option, Some, None}
use Rattle.blk_ptr.specs.declared.digest.Digest.{Digest}
use Rattle.blk_ptr.specs.Order.{digest_eq}

-- two kept digests are one
abbrev pub same_digest : Option Digest → Option Digest → Bool
same_digest None None = true
same_digest (Some a) (Some b) = digest_eq a b
same_digest _ _ = false
