-- What `sync` answers.
use Rattle.std.specs.Prelude.{◌≡◌, ◌⊎◌, ℕ, suc, ◌+◌, ◌-◌, ◌<◌, ◌≤◌, List, [], ◌∷◌, ◌++◌, length, Option, None, Some, Result, Ok, Err, IsPermutation, IsSortedBy, Bool}
use Rattle.std.specs.List.{AllByRecursion}
use Rattle.blk_ptr.specs.Size.{IsBlockSize}
use Rattle.vdev_io.specs.Device.{IsTorn}
use Rattle.vdev_io.specs.Faults.{CountsOne, counted_more}
use Rattle.vdev_io.specs.declared.pool.Pool.{Ghosts}
use Rattle.arc_core.specs.declared.config.Config.{Config}
use Rattle.arc_table.specs.Both.{Does}
use Rattle.dbuf_cells.specs.Turns.{OnHeap, PartyPlace, dbuf_meanings}
use Rattle.txg_sync.specs.Items.{SyncItem, at_place, bytes_of_due, due_lt, dues_from, items_from, need_of, tells_written, none_held}
use Rattle.txg_sync.specs.Turns.{SyncsCells}
use Rattle.txg_sync.specs.declared.due.Due.{Due}
use Rattle.txg_sync.specs.declared.syncing.SyncFault.{SyncFault}
use Rattle.txg_sync.specs.declared.syncing.SyncFault.TheVariants as fault
use Rattle.txg_sync.specs.declared.syncing.Synced.{Synced}

-- nothing besides
abbrev pub Same : PartyPlace → PartyPlace → Type 0
Same p q = q ≡ p

-- these are all dirty blocks of the cells, each once, by rising Oids
pub record AreAllDirty (cells : List OnHeap) (dues : List Due) : Type 0 where
  pub rising : IsSortedBy due_lt dues
  pub all : IsPermutation (dues_from 0 cells) dues

-- each of these blocks has a size that a block may have
abbrev pub AreSized : List OnHeap → List Due → Type 0
AreSized cells = AllByRecursion (λ due. IsBlockSize (length (bytes_of_due cells due)))

-- the bucket and the shard of the block's key were taken and given back, without an event
abbrev pub Looked : Config → SyncItem → PartyPlace → PartyPlace → Type 0
Looked g x p q = Does dbuf_meanings g x.ptr.key [] p q

-- the next one's range may have any bytes, and no other byte is changed
abbrev pub TellsTorn : SyncItem → (before now : Option (List ℕ)) → Type 0
TellsTorn x None now = now ≡ None
TellsTorn x (Some old) None = ⊥
TellsTorn x (Some old) (Some new) = IsTorn x.ptr.key.offset (length x.bytes) old new

-- the pool has its length and counts no read, and it counts no fault
pub record IsUnharmed {P : Type 0} (pool : Ghosts P) (before now : P) : Type 0 where
  pub size : pool.size now ≡ pool.size before
  pub reads : pool.reads now ≡ pool.reads before
  pub faults : pool.faults now ≡ pool.faults before

-- the pool has its length and counts no read, and it counts one fault
pub record HasFailedOnce {P : Type 0} (pool : Ghosts P) (before now : P) : Type 0 where
  pub size : pool.size now ≡ pool.size before
  pub reads : pool.reads now ≡ pool.reads before
  pub faults : CountsOne (pool.faults before) (pool.faults now)

-- ---- what was done with the pool, whatever is said of the turns: `Turns cells blocks Besides` is to say that all cells were so, and that these blocks
-- were inserted and noted, and nothing else was done but what stands in `Besides`

module _ {P : Type 0} (pool : Ghosts P) (group next : ℕ) (before now : P) (g : Config) (Turns : List OnHeap → List SyncItem → (PartyPlace → PartyPlace → Type 0) → Type 0) where
  -- Ok: all dirty blocks were written, one behind the other
  pub record WritesAll (done : Synced) : Type 0 where
    pub cells : List OnHeap
    pub dues : List Due
    pub dirty : AreAllDirty cells dues
    -- each has a size that a block may have
    pub sized : AreSized cells dues
    pub fits : need_of cells dues ≤ pool.size before - next
    -- these blocks' dbufs keep a hold, and the others' none, since their keys were there already
    pub held : Due → Bool
    pub turns : Turns cells (items_from held group next cells dues) Same
    pub told : pool.told now ≡ tells_written (items_from held group next cells dues) (pool.told before)
    pub outside : IsUnharmed pool before now
    -- it was asked for a write of each, and for nothing else
    pub others : pool.other_calls now ≡ counted_more (length dues) (pool.other_calls before)
    pub blocks : done.blocks ≡ length dues
    pub bytes : done.bytes ≡ need_of cells dues
    pub next_is : done.next ≡ next + need_of cells dues

  -- PoolFull: they need more bytes than are left, and nothing was written
  pub record IsFull (need left : ℕ) : Type 0 where
    pub cells : List OnHeap
    pub dues : List Due
    pub dirty : AreAllDirty cells dues
    pub need_is : need ≡ need_of cells dues
    pub left_is : left ≡ pool.size before - next
    pub full : left < need
    pub turns : Turns cells [] Same
    pub told : pool.told now ≡ pool.told before
    pub outside : IsUnharmed pool before now
    pub others : pool.other_calls now ≡ pool.other_calls before

  -- A stop at one of them: those before it were written and are clean, it and those behind it are dirty as before. What the pool tells is `Told` of the one
  -- in hand, and of what the pool told once those before it were written.
  pub record StopsAt (Told : SyncItem → Option (List ℕ) → Type 0) (Besides : SyncItem → PartyPlace → PartyPlace → Type 0) : Type 0 where
    pub cells : List OnHeap
    pub done : List Due
    pub due : Due
    pub rest : List Due
    pub dirty : AreAllDirty cells (done ++ due ∷ rest)
    pub fits : need_of cells (done ++ due ∷ rest) ≤ pool.size before - next
    pub held : Due → Bool
    pub turns : Turns cells (items_from held group next cells done) (Besides (at_place none_held group (next + need_of cells done) cells due))
    pub told : Told (at_place none_held group (next + need_of cells done) cells due) (tells_written (items_from held group next cells done) (pool.told before))

  -- PoolFault: its write failed, once
  pub record FailsAt : Type 0 where
    pub stops : StopsAt (λ x old. TellsTorn x old (pool.told now)) (λ x. Same)
    pub outside : HasFailedOnce pool before now
    -- it was asked for a write of each block before it, and of it, and for nothing else
    pub others : pool.other_calls now ≡ counted_more (suc (length stops.done)) (pool.other_calls before)

  -- NoMemory before one was reached
  pub record RefusedFirst : Type 0 where
    pub cells : List OnHeap
    pub turns : Turns cells [] Same
    pub told : pool.told now ≡ pool.told before

  -- NoMemory at one: it was not written; or it was, and was not inserted
  abbrev pub RefusedAt : Type 0
  RefusedAt = StopsAt (λ x old. pool.told now ≡ old) (λ x. Same)
      ⊎ StopsAt (λ x old. pool.told now ≡ tells_written (x ∷ []) old) (Looked g)

  pub record IsMemoryRefused : Type 0 where
    pub outside : IsUnharmed pool before now
    pub stops : RefusedFirst ⊎ RefusedAt

  abbrev pub AnswersWith : Result Synced SyncFault → Type 0
  AnswersWith (Ok done) = WritesAll done
  AnswersWith (Err (fault.PoolFull need left)) = IsFull need left
  AnswersWith (Err fault.PoolFault) = FailsAt
  AnswersWith (Err fault.NoMemory) = IsMemoryRefused

-- ---- the answer

-- no cell was taken, and the pool wasn't touched
pub record IsUntouched {P : Type 0} (before now : P) (p q : PartyPlace) : Type 0 where
  pub party : q ≡ p
  pub pool : now ≡ before

abbrev pub AnswersSync : {P : Type 0} → Ghosts P → Config → (group tick next : ℕ) → (before now : P) → (p q : PartyPlace) → Result Synced SyncFault → Type 0
AnswersSync pool g group tick next before now p q result =
    AnswersWith pool group next before now g (λ cells xs Besides. SyncsCells g tick cells xs Besides p q) result
    ⊎ ((result ≡ Err fault.NoMemory) × IsUntouched before now p q)
