-- What `read` answers: how often the party waited for another one's read, and then which events it made, and why.
use Rattle.std.specs.Prelude.{◌≡◌, ◌≢◌, ◌≤◌, ℕ, zero, suc, IsTrue, IfSome, List, [], ◌∷◌, Option, Result, Ok, Err}
use Rattle.std.specs.Option.{option_map}
use Rattle.blk_ptr.specs.declared.key.Key.{Key}
use Rattle.blk_ptr.specs.declared.key.KeyFault.{KeyFault}
use Rattle.blk_ptr.specs.declared.digest.Digest.{Digest}
use Rattle.blk_ptr.specs.declared.ptr.Ptr.{Ptr}
use Rattle.blk_ptr.specs.Key.{IsFirstKeyFault, IsValid}
use Rattle.blk_ptr.specs.Ptr.{IsOf, range_of, sha256_of}
use Rattle.vdev_io.specs.declared.device.CacheDev.{Ghosts as DeviceGhosts}
use Rattle.vdev_io.specs.declared.pool.Pool.{Ghosts as PoolGhosts}
use Rattle.vdev_io.specs.Device.{LeavesSame, LeavesNothingNew}
use Rattle.arc_core.specs.declared.config.Config.{Config}
use Rattle.arc_core.specs.declared.event.Event.TheVariants.{Hit, Miss, Arrive, Fail, Past}
use Rattle.arc_core.specs.declared.event.FailedAt.{FailedAt}
use Rattle.arc_core.specs.declared.event.FailedAt.TheVariants as failed
use Rattle.arc_core.specs.declared.event.Origin.{Origin}
use Rattle.arc_core.specs.declared.event.Origin.TheVariants as origin
use Rattle.arc_core.specs.declared.served.ReadFault.{ReadFault}
use Rattle.arc_core.specs.declared.served.ReadFault.TheVariants as fault
use Rattle.arc_core.specs.declared.served.Served.{Served}
use Rattle.arc_core.specs.declared.served.Served.TheVariants as served
use Rattle.arc_core.specs.declared.shard.EntryView.{EntryView}
use Rattle.arc_core.specs.PlainShard.{entry_is, entry_of}
use Rattle.arc_core.specs.ShardLog.{ShardLog}
use Rattle.arc_core.specs.Step.{is_missing, reads}
use Rattle.arc_core.specs.View.{view_of}
use Rattle.turn_table.specs.Places.{Place}
use Rattle.arc_table.specs.declared.fetch.Unfetched.{Unfetched}
use Rattle.arc_table.specs.declared.fetch.Unfetched.TheVariants as unfetched
use Rattle.arc_table.specs.declared.hold.Hold.{Hold}
use Rattle.arc_table.specs.declared.read.Read.{Read}
use Rattle.arc_table.specs.declared.read.Read.TheVariants as gave
use Rattle.arc_table.specs.declared.read.Round.{Round}
use Rattle.arc_table.specs.declared.read.Round.TheVariants as round
use Rattle.arc_table.specs.declared.view.Known.{Known}
use Rattle.arc_table.specs.Arriving.{FindsCleared}
use Rattle.arc_table.specs.Both.{Does}
use Rattle.arc_table.specs.scans.Ending.{DoesRoomy}
use Rattle.arc_table.specs.Fetching.{CameFromCache, IsAskedAtMost, IsFound, Unserved}
use Rattle.arc_table.specs.Holding.{IsHeld, IsHoldOf}
use Rattle.arc_table.specs.Items.{Meanings}
use Rattle.vdev_io.specs.Calls.{Failed, Gave, MakesCall}
use Rattle.arc_table.specs.pact.Standing.{IsCachedWith}

-- ---- words

-- the pool and the cache device that are handed in
pub record Outside (P D : Type 0) : Type 0 where
  pub pool : P
  pub device : D

abbrev pub outside : {P D : Type 0} → P → D → Outside P D
outside pool device = record { pool = pool; device = device }

-- what was known of the key
abbrev pub known_at : Key → ShardLog → Option EntryView
known_at k l = option_map view_of (entry_of k l.now)

-- a pointer with this key and this digest
abbrev pub ptr_with : Key → Digest → Ptr
ptr_with k d = record { key = k; digest = d }

-- where bytes came from, as it is answered; what a read answers that had none, and where its entry failed
abbrev pub served_as : Origin → Served
served_as (origin.Pool) = served.Pool
served_as (origin.L2) = served.L2

abbrev pub fault_of : Unfetched → ReadFault
fault_of (unfetched.PoolFault) = fault.PoolFault
fault_of (unfetched.Mismatch found) = fault.Mismatch found
fault_of (unfetched.NoMemory at) = fault.NoMemory

abbrev pub failed_at : Unfetched → FailedAt
failed_at (unfetched.PoolFault) = failed.Pool
failed_at (unfetched.Mismatch found) = failed.Pool
failed_at (unfetched.NoMemory at) = at

-- the device has its length and its kind, tells the same, may leave the same at a crash, counts no fewer faults, and was asked for no write, no flush and no fork
pub record KeepsDevice {D : Type 0} (device : DeviceGhosts D) (old new : D) : Type 0 where
  pub size : device.size new ≡ device.size old
  pub kind : device.has_sectors new ≡ device.has_sectors old
  pub told : device.told new ≡ device.told old
  pub crash : LeavesSame (device.may_leave old) (device.may_leave new)
  pub time : LeavesNothingNew (device.moment old) (device.moment new) (device.left_since old) (device.left_since new)
  pub faults : device.faults old ≤ device.faults new
  pub others : device.other_calls new ≡ device.other_calls old

module _ {P : Type 0} (pools : PoolGhosts P) where
  -- the pool was read once and gave these bytes, which are of the pointer: where it tells its bytes, they are those in the key's range
  pub record GivesBlock (ptr : Ptr) (old new : P) (bytes : List ℕ) : Type 0 where
    pub call : MakesCall pools Gave old new
    pub of : IsOf bytes ptr
    pub told : IfSome (pools.told old) (λ image. bytes ≡ range_of image ptr.key)

  -- It was read once and gave bytes of this digest, which isn't the pointer's: where it tells its bytes, it is the digest of those in the
  -- key's range
  pub record GivesOthers (ptr : Ptr) (old new : P) (found : Digest) : Type 0 where
    pub call : MakesCall pools Gave old new
    pub bytes : IsFound ptr.key found
    pub other : found ≢ ptr.digest
    pub told : IfSome (pools.told old) (λ image. found ≡ sha256_of (range_of image ptr.key))

  -- What the pool gave to a read past the cache, which keeps bytes of this digest: the block; or it failed, or gave bytes of another digest; or
  -- memory was refused after it. In each case it was read once
  abbrev pub EndsPast : Ptr → (kept : Digest) → (old new : P) → Result Read ReadFault → Type 0
  EndsPast ptr kept old new (Ok (gave.Past block digest)) = (digest ≡ kept) × GivesBlock ptr old new block.value
  EndsPast ptr kept old new (Ok (gave.Held hold from)) = ⊥
  EndsPast ptr kept old new (Err (fault.PoolFault)) = MakesCall pools Failed old new
  EndsPast ptr kept old new (Err (fault.Mismatch digest)) = GivesOthers ptr old new digest
  EndsPast ptr kept old new (Err (fault.Key why)) = ⊥
  EndsPast ptr kept old new (Err (fault.NoMemory)) = MakesCall pools Gave old new

-- ---- waiting

module _ {C : Type 0} (m : Meanings C) where
  -- the party took the key's bucket and its shard, found a number reading the key, and gave both back without an event
  pub record FindsReading (g : Config) (k : Key) (p q : Place (Known C)) : Type 0 where
    pub does : Does m g k [] p q
    pub owner : ℕ
    pub reading : IsTrue (entry_is (reads owner) k does.before.now)

  -- so it was so many times, one after the other
  abbrev pub Waits : Config → Key → (times : ℕ) → Place (Known C) → Place (Known C) → Type 0
  Waits g k zero p q = q ≡ p
  Waits g k (suc times) p q = (r : Place (Known C)) × Waits g k times p r × FindsReading g k r q

  -- a hold of the party's, which was p and is q, on the pointer's block
  abbrev pub IsHeldOf : Config → Ptr → (p q : Place (Known C)) → Hold → Type 0
  IsHeldOf g ptr p q hold = IsHoldOf ptr p.number hold × IsHeld g q hold

-- ---- the end of a read that was begun

module _ {C P : Type 0} (m : Meanings C) (pools : PoolGhosts P) where
  -- the entry failed, and the pool was not read: memory was refused
  pub record FailsUnread (g : Config) (ptr : Ptr) (old new : P) (p q : Place (Known C)) (result : Result Read ReadFault) : Type 0 where
    pub answer : result ≡ Err fault.NoMemory
    pub none : new ≡ old
    pub does : Does m g ptr.key (Fail p.number ptr.key failed.Unread ∷ []) p q

  -- the entry failed where the pool was read
  abbrev pub FailsAtPool : Config → Ptr → Place (Known C) → Place (Known C) → Type 0
  FailsAtPool g ptr p q = Does m g ptr.key (Fail p.number ptr.key failed.Pool ∷ []) p q

  -- How a read ends that read the pool, once: the block arrived, and is held; or the pool failed, or gave bytes of another digest, or memory
  -- was refused after it, and the entry failed
  abbrev pub EndsAtPool : Config → Ptr → (old new : P) → Place (Known C) → Place (Known C) → Result Read ReadFault → Type 0
  EndsAtPool g ptr old new p q (Ok (gave.Held hold served.Pool)) = Does m g ptr.key (Arrive p.number ptr.key ptr.digest origin.Pool ∷ []) p q × IsHeldOf m g ptr p q hold × GivesBlock pools ptr old new hold.block.value
  EndsAtPool g ptr old new p q (Ok (gave.Held hold served.Hit)) = ⊥
  EndsAtPool g ptr old new p q (Ok (gave.Held hold served.L2)) = ⊥
  EndsAtPool g ptr old new p q (Ok (gave.Held hold served.Past)) = ⊥
  EndsAtPool g ptr old new p q (Ok (gave.Past block kept)) = ⊥
  EndsAtPool g ptr old new p q (Err (fault.PoolFault)) = FailsAtPool g ptr p q × MakesCall pools Failed old new
  EndsAtPool g ptr old new p q (Err (fault.Mismatch digest)) = FailsAtPool g ptr p q × GivesOthers pools ptr old new digest
  EndsAtPool g ptr old new p q (Err (fault.Key why)) = ⊥
  EndsAtPool g ptr old new p q (Err (fault.NoMemory)) = FailsAtPool g ptr p q × MakesCall pools Gave old new

  -- how a read ends that goes to the pool: it reads it, or memory was refused first
  pub data GoesToPool (g : Config) (ptr : Ptr) (old new : P) (p q : Place (Known C)) (result : Result Read ReadFault) : Type 0 where
    read : EndsAtPool g ptr old new p q result → GoesToPool g ptr old new p q result
    unread : FailsUnread g ptr old new p q result → GoesToPool g ptr old new p q result

module _ {C D : Type 0} (m : Meanings C) (devices : DeviceGhosts D) where
  -- The party turns to the pool, by what was known of the key right before its miss: there was no place on the cache device, or the device
  -- did not serve it. Or the device gave bytes of the pointer, and the feeder has cleared the place since: bytes from there may not arrive any more.
  pub data TurnsToPool (g : Config) (ptr : Ptr) (found : Option EntryView) (old new : D) (p q : Place (Known C)) : Type 0 where
    unserved : Unserved devices ptr found old new → q ≡ p → TurnsToPool g ptr found old new p q
    cleared : (bytes : List ℕ) → CameFromCache devices ptr found bytes old new → FindsCleared m g ptr.key p q → TurnsToPool g ptr found old new p q

module _ {C P D : Type 0} (m : Meanings C) (pools : PoolGhosts P) (devices : DeviceGhosts D) where
  -- the block arrived from the place on the cache device that was known of it, and is held; the pool was not read
  pub record ArrivesFromDevice (g : Config) (ptr : Ptr) (found : Option EntryView) (before now : Outside P D) (p q : Place (Known C)) (hold : Hold) : Type 0 where
    pub bytes : CameFromCache devices ptr found hold.block.value before.device now.device
    pub none : now.pool ≡ before.pool
    pub does : Does m g ptr.key (Arrive p.number ptr.key ptr.digest origin.L2 ∷ []) p q
    pub held : IsHeldOf m g ptr p q hold

  -- How a read ends that the party, now p, has begun by a miss, where this was known of the key right before it: from the cache device; or
  -- from the pool, for one of the causes above; or memory was refused before either had served it
  pub data EndsMiss (g : Config) (ptr : Ptr) (found : Option EntryView) (before now : Outside P D) (p q : Place (Known C)) (result : Result Read ReadFault) : Type 0 where
    from_device : (hold : Hold) → result ≡ Ok (gave.Held hold served.L2) → ArrivesFromDevice g ptr found before now p q hold → EndsMiss g ptr found before now p q result
    from_pool : (back : Place (Known C)) → TurnsToPool m devices g ptr found before.device now.device p back → GoesToPool m pools g ptr before.pool now.pool back q result → EndsMiss g ptr found before now p q result
    from_none : IsAskedAtMost devices ptr found before.device now.device → FailsUnread m pools g ptr before.pool now.pool p q result → EndsMiss g ptr found before now p q result

  -- ---- a read

  -- What a read answers that has not to wait any more, in one of four ways.
  -- A hit, where the bytes are cached with the pointer's digest: the party lists the hold, and the outside is as it was.
  -- A miss, where they are not cached, behind the passes of its scan, and its end.
  -- A read past the cache, which keeps bytes of another digest than the pointer's: the device was not asked.
  -- Or memory was refused before any of these, and all is as it was.
  pub data Answers (g : Config) (ptr : Ptr) (t : ℕ) (before now : Outside P D) (p q : Place (Known C)) (result : Result Read ReadFault) : Type 0 where
    hit : (hold : Hold) → result ≡ Ok (gave.Held hold served.Hit) → (d : Does m g ptr.key (Hit p.number ptr.key t ∷ []) p q) → IsCachedWith ptr d.before.now → IsHeldOf m g ptr p q hold → now ≡ before → Answers g ptr t before now p q result
    missed : (r : Place (Known C)) (d : DoesRoomy m g ptr.key (Miss p.number ptr.key t) p r) → IsTrue (is_missing ptr.key d.before.now) → EndsMiss g ptr (known_at ptr.key d.before) before now r q result → Answers g ptr t before now p q result
    past : (kept : Digest) → kept ≢ ptr.digest → (d : Does m g ptr.key (Past p.number ptr.key kept ∷ []) p q) → IsCachedWith (ptr_with ptr.key kept) d.before.now → now.device ≡ before.device → EndsPast pools ptr kept before.pool now.pool result → Answers g ptr t before now p q result
    no_memory : result ≡ Err fault.NoMemory → Does m g ptr.key [] p q → now ≡ before → Answers g ptr t before now p q result

  -- What `read` answers. The key names no block of the pool: this is the first test that it fails, and all is as it was. Or it names one, and
  -- the party waited so often, was r then, and had its answer.
  pub data AnswersRead (g : Config) (ptr : Ptr) (t : ℕ) (before now : Outside P D) (p q : Place (Known C)) (result : Result Read ReadFault) : Type 0 where
    refused : (why : KeyFault) → result ≡ Err (fault.Key why) → IsFirstKeyFault (pools.size before.pool) ptr.key why → q ≡ p → now ≡ before → AnswersRead g ptr t before now p q result
    answered : IsValid (pools.size before.pool) ptr.key → (times : ℕ) (r : Place (Known C)) → Waits m g ptr.key times p r → Answers g ptr t before now r q result → AnswersRead g ptr t before now p q result

  -- one round of a read: an answer, or the key was being read, and the outside is as it was
  abbrev pub AnswersRound : Config → Ptr → (tick : ℕ) → (before now : Outside P D) → Place (Known C) → Place (Known C) → Round → Type 0
  AnswersRound g ptr t before now p q (round.Answered result) = Answers g ptr t before now p q result
  AnswersRound g ptr t before now p q (round.Reading) = FindsReading m g ptr.key p q × (now ≡ before)
