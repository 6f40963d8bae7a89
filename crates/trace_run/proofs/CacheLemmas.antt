-- What an access says of the shard, and the entry of bytes that are cached.
use Rattle.std.proofs.Common.{◌≡◌, ℕ, Bool, true, false, if◌then◌else◌, List, Option, Some, None, inl, inr, refl, ap}
use Rattle.std.proofs.lemmas.Slice.Eq.{bytes_eq-Decides}
use Rattle.std.specs.Option.{option_and_then}
use Rattle.blk_ptr.specs.declared.digest.Digest.{Digest}
use Rattle.blk_ptr.specs.declared.ptr.Ptr.{Ptr}
use Rattle.blk_ptr.specs.Order.{digest_eq}
use Rattle.arc_lists.proofs.Tables.{cases_true}
use Rattle.arc_core.specs.declared.entry.Entry.{Entry}
use Rattle.arc_core.specs.PlainShard.{PlainShard, is_resident, resident_digest}
use Rattle.trace_run.specs.one_caller.Access as access
use Rattle.trace_run.specs.one_caller.Access.{access_of, access_by}

-- ---- what an access says of the shard

-- digests that compare alike are one
pub digest_eq-is : (a b : Digest) → digest_eq a b ≡ true → a ≡ b
digest_eq-is a b same = ap (λ (bytes : List ℕ). record { 0 = bytes }) ((bytes_eq-Decides a.0 b.0).0 same)

-- a hit found bytes of the digest that is asked for
found-hit : (asked : Digest) (o : Option Digest) → access_by asked o ≡ access.Hit → o ≡ Some asked
found-hit asked None is = cc
found-hit asked (Some kept) is = elim (cases_true (digest_eq kept asked)) [
  | inl same ↦ ap (λ (d : Digest). Some d) (digest_eq-is kept asked same)
  | inr differs ↦
      let other : access.Past kept ≡ access.Hit = rw differs at is in
      cc
]

pub access-hit : (s : PlainShard) (ptr : Ptr) → access_of s ptr ≡ access.Hit → resident_digest ptr.key s ≡ Some ptr.digest
access-hit s ptr is = found-hit ptr.digest (resident_digest ptr.key s) is

-- ---- the entry of a key

-- the digest of an entry whose bytes are cached and at rest
abbrev pub digest_of_resident : Option Entry → Option Digest
digest_of_resident = option_and_then (λ (e : Entry). if is_resident e then e.digest else None)

if_some : (b : Bool) (o : Option Digest) (d : Digest) → (if b then o else None) ≡ Some d → (b ≡ true) × (o ≡ Some d)
if_some true o d there = (refl, there)
if_some false o d there = cc

-- resident bytes have an entry
pub resident-entry : (o : Option Entry) (d : Digest) → digest_of_resident o ≡ Some d → (e : Entry) × (o ≡ Some e) × (is_resident e ≡ true) × (e.digest ≡ Some d)
resident-entry None d there = cc
resident-entry (Some e) d there = let parts = if_some (is_resident e) e.digest d there in (e, refl, parts.0, parts.1)
