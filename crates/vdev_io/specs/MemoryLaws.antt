-- That the cache device in memory is one: what it tells has its length, and a crash may leave it.
use Rattle.std.specs.Prelude.{◌≡◌, ℕ, List, length, Bool, true, false, Option, Some, None}
use Rattle.std.proofs.Common.{sym, ap, subst}
use Rattle.vdev_io.specs.Untold.{untold}
use Rattle.vdev_io.specs.Memory.{MemoryCache, CallLog, told_by, MayBeLeft}

or_else : List ℕ → Option (List ℕ) → List ℕ
or_else bytes None = bytes
or_else bytes (Some image) = image

told_is : (tells : Bool) (flushed : Bool) (bytes image : List ℕ) (reads other_calls : ℕ) (log : CallLog) →
    told_by record { bytes = bytes; flushed = flushed; tells = tells; reads = reads; other_calls = other_calls; log = log } ≡ Some image → bytes ≡ image
unfolding or_else
told_is true flushed bytes image reads other_calls log e = ap (or_else bytes) e
told_is false flushed bytes image reads other_calls log e = untold image e

left : (flushed : Bool) (bytes image : List ℕ) → bytes ≡ image → MayBeLeft flushed bytes image
left true bytes image e = sym e
left false bytes image e = ap length (sym e)

-- what an object tells outright has its length
pub some_has_len : (bytes image : List ℕ) → Some bytes ≡ Some image → length image ≡ length bytes
unfolding or_else
some_has_len bytes image e = ap length (sym (ap (or_else bytes) e))

pub told_has_len : (cache : MemoryCache) (image : List ℕ) → told_by cache ≡ Some image → length image ≡ length cache.bytes
told_has_len cache image e = ap length (sym (told_is cache.tells cache.flushed cache.bytes image cache.reads cache.other_calls cache.log e))

pub told_may_be_left : (cache : MemoryCache) (image : List ℕ) → told_by cache ≡ Some image → MayBeLeft cache.flushed cache.bytes image
told_may_be_left cache image e = left cache.flushed cache.bytes image (told_is cache.tells cache.flushed cache.bytes image cache.reads cache.other_calls cache.log e)

pub left_has_len : (flushed : Bool) (bytes c : List ℕ) → MayBeLeft flushed bytes c → length c ≡ length bytes
left_has_len true bytes c e = ap length e
left_has_len false bytes c e = e

yes : Bool → Type 0
yes true = Unit {0}
yes false = ⊥

-- it is no disk of sectors
pub not_sectors : {P : Type 0} → false ≡ true → P
unfolding yes
not_sectors e = absurd (subst yes (sym e) tt)
