-- How a read ends that was begun by a miss: what was fetched and the event that ended it make its answer.
use Rattle.std.proofs.Common.{◌≡◌, ℕ, List, [], ◌∷◌, Option, Ok, Err, refl, sym, subst}
use Rattle.std.specs.Prelude.{IfOk, Result}
use Rattle.blk_ptr.specs.declared.ptr.Ptr.{Ptr}
use Rattle.vdev_io.specs.declared.device.CacheDev.{Ghosts as DeviceGhosts}
use Rattle.vdev_io.specs.declared.pool.Pool.{Ghosts as PoolGhosts}
use Rattle.arc_core.specs.declared.config.Config.{Config}
use Rattle.arc_core.specs.declared.event.Event.TheVariants.{Arrive, Fail}
use Rattle.arc_core.specs.declared.event.FailedAt.TheVariants as failed
use Rattle.arc_core.specs.declared.event.Origin.{Origin}
use Rattle.arc_core.specs.declared.event.Origin.TheVariants as origin
use Rattle.arc_core.specs.declared.served.Served.{Served}
use Rattle.arc_core.specs.declared.shard.EntryView.{EntryView}
use Rattle.turn_table.specs.Places.{Place}
use Rattle.arc_table.specs.declared.fetch.Fetched.{Fetched}
use Rattle.arc_table.specs.declared.fetch.Unfetched.{Unfetched}
use Rattle.arc_table.specs.declared.fetch.Unfetched.TheVariants as unfetched
use Rattle.arc_table.specs.declared.hold.Hold.{Hold}
use Rattle.arc_table.specs.declared.read.Read.TheVariants as gave
use Rattle.arc_table.specs.declared.view.Known.{Known}
use Rattle.arc_table.specs.Both.{Does}
use Rattle.arc_table.specs.Fetching.{AsksDevice, CameFromCache, CameFromPool, CountsPool, CountsPoolFault, FailsPool, HasFetched, IsAskedAtMost, ServesOrNot, Unserved, WasUnread, faulty, never, once, origin_of, other_bytes, unasked}
use Rattle.arc_table.specs.Items.{Meanings}
use Rattle.vdev_io.specs.Calls.{Failed, Gave, KeepsPool}
use Rattle.arc_table.specs.Reading.{EndsMiss, GivesBlock, GoesToPool, IsHeldOf, Outside, failed_at, fault_of, from_device, from_none, from_pool, read, served_as, unread, unserved}

-- ---- what a fetch did to the pool

-- a pool whose read failed to give a block, for this cause
pub record Unread {P : Type 0} (pools : PoolGhosts P) (ptr : Ptr) (old new : P) (why : Unfetched) : Type 0 where
  pub keeps : KeepsPool pools old new
  pub fails : FailsPool (pools.faults old) (pools.faults new) (pools.told old) ptr why
  pub counted : CountsPool why (pools.reads old) (pools.reads new)
  pub fault : CountsPoolFault {T = Fetched} (pools.faults old) (pools.faults new) (Err why)
  pub none : WasUnread origin_of (Err why) → new ≡ old

module _ {P : Type 0} (pools : PoolGhosts P) where
  pub gives_block : (ptr : Ptr) (old new : P) (bytes all : List ℕ) → KeepsPool pools old new → CameFromPool ptr all (pools.told old) (pools.reads old) (pools.reads new)
      → pools.faults new ≡ pools.faults old → bytes ≡ all → GivesBlock pools ptr old new bytes
  gives_block ptr old new bytes all keeps came fault is = subst (GivesBlock pools ptr old new) (sym is)
      record { call = record { keeps = keeps; reads = came.read; faults = fault }; of = came.of; told = came.range }

module _ {C P : Type 0} (m : Meanings C) (pools : PoolGhosts P) (g : Config) (ptr : Ptr) where
  -- the entry failed where the fetch did
  pub fails_so : (old new : P) (p q : Place (Known C)) (why : Unfetched) → Unread pools ptr old new why → Does m g ptr.key (Fail p.number ptr.key (failed_at why) ∷ []) p q
      → GoesToPool m pools g ptr old new p q (Err (fault_of why))
  fails_so old new p q (unfetched.PoolFault) u does = read (does, record { keeps = u.keeps; reads = u.counted; faults = u.fault })
  fails_so old new p q (unfetched.Mismatch found) u does = read (does, record { call = record { keeps = u.keeps; reads = u.counted; faults = u.fault }; bytes = u.fails.1; other = u.fails.0; told = u.fails.2 })
  fails_so old new p q (unfetched.NoMemory failed.Pool) u does = read (does, record { keeps = u.keeps; reads = u.counted; faults = u.fault })
  fails_so old new p q (unfetched.NoMemory failed.Unread) u does = unread record { answer = refl; none = u.none tt; does = does }

-- ---- what a fetch did with the device

-- it did not serve, and the block was fetched from the pool
pub asks_pool : {D : Type 0} (devices : DeviceGhosts D) (ptr : Ptr) (found : Option EntryView) (old new : D) (result : Result Fetched Unfetched) → IfOk result (λ f. f.from ≡ origin.Pool) → Unserved devices ptr found old new
    → AsksDevice devices ptr found result old new
asks_pool devices ptr found old new (Ok f) from why = subst (λ (o : Origin). ServesOrNot devices ptr found o f.block.value old new) (sym from) why
asks_pool devices ptr found old new (Err (unfetched.PoolFault)) from why = why
asks_pool devices ptr found old new (Err (unfetched.Mismatch digest)) from why = why
asks_pool devices ptr found old new (Err (unfetched.NoMemory failed.Pool)) from why = why
asks_pool devices ptr found old new (Err (unfetched.NoMemory failed.Unread)) from why = at_most why
  where
    at_most : Unserved devices ptr found old new → IsAskedAtMost devices ptr found old new
    at_most (unasked none same) = never same
    at_most (faulty place asked) = once place Failed asked
    at_most (other_bytes place asked others) = once place Gave asked

module _ {C P D : Type 0} (m : Meanings C) (pools : PoolGhosts P) (devices : DeviceGhosts D) (g : Config) (ptr : Ptr) (found : Option EntryView) (before now : Outside P D) where
  -- a read fails whose fetch did
  pub miss_fails : (p q : Place (Known C)) (why : Unfetched) → AsksDevice devices ptr found (Err why) before.device now.device → Unread pools ptr before.pool now.pool why
      → Does m g ptr.key (Fail p.number ptr.key (failed_at why) ∷ []) p q → EndsMiss m pools devices g ptr found before now p q (Err (fault_of why))
  miss_fails p q (unfetched.PoolFault) cause u does = from_pool p (unserved cause refl) (fails_so m pools g ptr before.pool now.pool p q unfetched.PoolFault u does)
  miss_fails p q (unfetched.Mismatch digest) cause u does = from_pool p (unserved cause refl) (fails_so m pools g ptr before.pool now.pool p q (unfetched.Mismatch digest) u does)
  miss_fails p q (unfetched.NoMemory failed.Pool) cause u does = from_pool p (unserved cause refl) (fails_so m pools g ptr before.pool now.pool p q (unfetched.NoMemory failed.Pool) u does)
  miss_fails p q (unfetched.NoMemory failed.Unread) cause u does = from_none cause record { answer = refl; none = u.none tt; does = does }

  -- a block that was fetched has arrived
  pub miss_arrives : (p q : Place (Known C)) (hold : Hold) (bytes : List ℕ) (from : Origin) (s : Served) → s ≡ served_as from → hold.block.value ≡ bytes → KeepsPool pools before.pool now.pool
      → HasFetched ptr from bytes (pools.told before.pool) (pools.reads before.pool) (pools.reads now.pool)
      → pools.faults now.pool ≡ pools.faults before.pool → ServesOrNot devices ptr found from bytes before.device now.device → (from ≡ origin.L2 → now.pool ≡ before.pool)
      → Does m g ptr.key (Arrive p.number ptr.key ptr.digest from ∷ []) p q → IsHeldOf m g ptr p q hold → EndsMiss m pools devices g ptr found before now p q (Ok (gave.Held hold s))
  miss_arrives p q hold bytes (origin.Pool) s so is keeps has fault asked none does held =
      subst (λ (x : Served). EndsMiss m pools devices g ptr found before now p q (Ok (gave.Held hold x))) (sym so)
      (from_pool p (unserved asked refl) (read (does, held, gives_block pools ptr before.pool now.pool hold.block.value bytes keeps has fault is)))
  miss_arrives p q hold bytes (origin.L2) s so is keeps has fault asked none does held =
      from_device hold (λ z. Ok (gave.Held hold (so z))) record { bytes = subst (λ (x : List ℕ). CameFromCache devices ptr found x before.device now.device) (sym is) asked; none = none refl; does = does; held = held }
