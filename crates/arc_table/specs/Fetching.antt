-- Where the bytes of a block come from, with no turn held.
use Rattle.std.specs.Prelude.{◌≡◌, ◌≢◌, ℕ, ◌+◌, ◌≤◌, IfSome, List, [], ◌∷◌, length, take, drop, Option, Some, Result, Ok, Err}
use Rattle.blk_ptr.specs.declared.key.Key.{Key}
use Rattle.blk_ptr.specs.declared.ptr.Ptr.{Ptr}
use Rattle.blk_ptr.specs.declared.digest.Digest.{Digest}
use Rattle.blk_ptr.specs.Ptr.{IsOf, range_of, sha256_of}
use Rattle.arc_core.specs.declared.event.FailedAt.TheVariants as failed
use Rattle.arc_core.specs.declared.event.Origin.{Origin}
use Rattle.arc_core.specs.declared.event.Origin.TheVariants as origin
use Rattle.arc_core.specs.declared.shard.EntryView.{EntryView}
use Rattle.vdev_io.specs.declared.device.CacheDev.{Ghosts as DeviceGhosts}
use Rattle.vdev_io.specs.Calls.{Asked, Call, Failed, Gave, MakesDeviceCalls, Read, answered}
use Rattle.vdev_io.specs.Faults.{CountsOne, Rose}
use Rattle.arc_table.specs.declared.fetch.Fetched.{Fetched}
use Rattle.arc_table.specs.declared.fetch.Unfetched.{Unfetched}
use Rattle.arc_table.specs.declared.fetch.Unfetched.TheVariants as unfetched

-- the bytes of an image from this place on, as many as the key's block has
abbrev pub bytes_from : List ℕ → (place : ℕ) → Key → List ℕ
bytes_from image place key = take key.size (drop place image)

-- Bytes were read, as many as the key's block has, and this is their digest.
pub record IsFound (key : Key) (found : Digest) : Type 0 where
  pub bytes : List ℕ
  pub size : length bytes ≡ key.size
  pub digest : found ≡ sha256_of bytes

-- The pool gave no bytes of the pointer: it failed, by its count of faults before and now; or it gave bytes of another digest, which are
-- those that it tells
abbrev pub FailsPool : (before now : ℕ) → Option (List ℕ) → Ptr → Unfetched → Type 0
FailsPool before now told ptr (unfetched.PoolFault) = Rose before now
FailsPool before now told ptr (unfetched.Mismatch found) = (found ≢ ptr.digest) × IsFound ptr.key found × IfSome told (λ image. found ≡ sha256_of (range_of image ptr.key))
FailsPool before now told ptr (unfetched.NoMemory at) = Unit {0}

-- the pool was read, by its count of reads before and now, unless memory was refused first
abbrev pub CountsPool : Unfetched → (before now : ℕ) → Type 0
CountsPool (unfetched.NoMemory failed.Unread) before now = now ≡ before
CountsPool _ before now = CountsOne before now

-- one fault more was counted exactly where the pool failed
abbrev pub CountsPoolFault : {T : Type 0} → (before now : ℕ) → Result T Unfetched → Type 0
CountsPoolFault before now (Ok t) = now ≡ before
CountsPoolFault before now (Err (unfetched.PoolFault)) = CountsOne before now
CountsPoolFault before now (Err (unfetched.Mismatch found)) = now ≡ before
CountsPoolFault before now (Err (unfetched.NoMemory at)) = now ≡ before

-- a read of a range compares no digest
abbrev pub IsNoMismatch : Unfetched → Type 0
IsNoMismatch (unfetched.Mismatch found) = ⊥
IsNoMismatch _ = Unit {0}

-- ---- the cache device

-- the call that reads a key's block at this place
abbrev pub read_at : (place : ℕ) → Key → Asked
read_at place key = Read place key.size

-- The place at which the device is to be asked for the pointer, by what was known of its key: the range lies inside the device, and a digest that
-- was known of the bytes there is the pointer's.
pub record IsToAsk (ptr : Ptr) (found : Option EntryView) (size place : ℕ) : Type 0 where
  pub entry : EntryView
  pub known : found ≡ Some entry
  pub at : entry.place ≡ Some place
  pub inside : place + ptr.key.size ≤ size
  pub digest : (d : Digest) → entry.digest ≡ Some d → d ≡ ptr.digest

-- there is no such place
abbrev pub IsNotToAsk : Ptr → Option EntryView → (size : ℕ) → Type 0
IsNotToAsk ptr found size = (place : ℕ) → ¬ IsToAsk ptr found size place

module _ {D : Type 0} (device : DeviceGhosts D) where
  -- The device was asked once, at the place at which it is to be, and answered so; nothing else was done with it.
  pub record IsAsked (ptr : Ptr) (found : Option EntryView) (place : ℕ) (answer : Call) (old new : D) : Type 0 where
    pub due : IsToAsk ptr found (device.size old) place
    pub calls : MakesDeviceCalls device (answered answer (read_at place ptr.key) ∷ []) old new

  -- The device did not serve the pointer. There is no place at which it is to be asked, and it was not. Or it was asked, and that call failed;
  -- or it gave other bytes, which are those that it tells.
  pub data Unserved (ptr : Ptr) (found : Option EntryView) (old new : D) : Type 0 where
    unasked : IsNotToAsk ptr found (device.size old) → new ≡ old → Unserved ptr found old new
    faulty : (place : ℕ) → IsAsked ptr found place Failed old new → Unserved ptr found old new
    other_bytes : (place : ℕ) → IsAsked ptr found place Gave old new → IfSome (device.told old) (λ image. ¬ IsOf (bytes_from image place ptr.key) ptr) → Unserved ptr found old new

  -- The bytes came from the device, which was asked once: they are of the pointer, and are those that it tells at the place.
  pub record CameFromCache (ptr : Ptr) (found : Option EntryView) (bytes : List ℕ) (old new : D) : Type 0 where
    pub of : IsOf bytes ptr
    pub place : ℕ
    pub asked : IsAsked ptr found place Gave old new
    pub stand : IfSome (device.told old) (λ image. bytes ≡ bytes_from image place ptr.key)

  -- memory was refused before the block was had: the device was not asked, or it was once, at the place at which it is to be
  pub data IsAskedAtMost (ptr : Ptr) (found : Option EntryView) (old new : D) : Type 0 where
    never : new ≡ old → IsAskedAtMost ptr found old new
    once : (place : ℕ) (answer : Call) → IsAsked ptr found place answer old new → IsAskedAtMost ptr found old new

  -- where bytes were had from there, the device served the pointer or did not
  abbrev pub ServesOrNot : Ptr → Option EntryView → Origin → List ℕ → (old new : D) → Type 0
  ServesOrNot ptr found (origin.L2) bytes old new = CameFromCache ptr found bytes old new
  ServesOrNot ptr found (origin.Pool) bytes old new = Unserved ptr found old new

  -- what a fetch did with the device: it served, or it did not and the pool was read; or memory was refused before either had
  abbrev pub AsksDevice : Ptr → Option EntryView → Result Fetched Unfetched → (old new : D) → Type 0
  AsksDevice ptr found (Ok f) old new = ServesOrNot ptr found f.from f.block.value old new
  AsksDevice ptr found (Err (unfetched.NoMemory failed.Unread)) old new = IsAskedAtMost ptr found old new
  AsksDevice ptr found (Err _) old new = Unserved ptr found old new

-- ---- a block that was fetched

-- the bytes came from the pool: they are of the pointer and are those that the pool tells in its range, and it was read once, by its
-- count of reads before and now
pub record CameFromPool (ptr : Ptr) (bytes : List ℕ) (told : Option (List ℕ)) (before now : ℕ) : Type 0 where
  pub of : IsOf bytes ptr
  pub range : IfSome told (λ image. bytes ≡ range_of image ptr.key)
  pub read : CountsOne before now

-- where bytes of the pointer were had, with the pool's image and count of reads
abbrev pub HasFetched : Ptr → Origin → List ℕ → (told : Option (List ℕ)) → (before now : ℕ) → Type 0
HasFetched ptr (origin.Pool) bytes told before now = CameFromPool ptr bytes told before now
HasFetched ptr (origin.L2) bytes told before now = IsOf bytes ptr × (now ≡ before)

abbrev pub origin_of : Fetched → Origin
origin_of f = f.from

-- the pool was not read: the device served the block, or memory was refused first
abbrev pub WasUnread : {T : Type 0} → (T → Origin) → Result T Unfetched → Type 0
WasUnread from (Ok t) = from t ≡ origin.L2
WasUnread from (Err (unfetched.NoMemory failed.Unread)) = Unit {0}
WasUnread from (Err _) = ⊥
