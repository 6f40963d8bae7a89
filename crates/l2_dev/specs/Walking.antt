-- A walk along the chain, as far as it has come.
use Rattle.std.specs.Prelude.{◌≡◌, ℕ, ◌*◌, List, ◌++◌, length, true, Option}
use Rattle.std.specs.List.{AllByRecursion}
use Rattle.blk_ptr.specs.Key.{IsWellFormed}
use Rattle.l2_log.specs.Rules.{log_len}
use Rattle.l2_log.specs.declared.pointer.LogPtr.{LogPtr}
use Rattle.l2_log.specs.declared.log_block.LogBlock.{LogBlock}
use Rattle.l2_log.specs.declared.header.DevHeader.{DevHeader}
use Rattle.l2_ring.specs.declared.live.Written.{Written}
use Rattle.l2_ring.specs.declared.plan.Plan.{Plan}
use Rattle.l2_ring.specs.Stays.{stays}
use Rattle.l2_dev.specs.declared.stop.Stop.{Stop}
use Rattle.l2_dev.specs.declared.stop.Stop.TheVariants.{Zero, Short, Header, Outside, Evicted, Block, Length, DevFault}
use Rattle.l2_dev.specs.declared.walk.WalkEnd.{WalkEnd}
use Rattle.l2_dev.specs.declared.walk.WalkEnd.TheVariants as ends
use Rattle.l2_dev.specs.Chain.{Visit, IsChain, IsPassed, IsHeld, IsLinked, pointer_behind, numbers_in}
use Rattle.l2_dev.specs.Restoring.{found_in}

-- a log block with the pointer that named it
abbrev pub visit_of : LogPtr → LogBlock → Visit
visit_of ptr block = record { ptr = ptr; block = block }

-- the walk ends for a reason with P, or memory was refused
abbrev pub EndsWith : (Stop → Type 0) → WalkEnd → Type 0
EndsWith P (ends.Stop why) = P why
EndsWith P ends.NoMemory = Unit {0}

-- a rebuild of a device that is long enough may end for this reason
abbrev pub IsOfRebuild : Stop → Type 0
IsOfRebuild Zero = Unit {0}
IsOfRebuild (Short len) = ⊥
IsOfRebuild (Header fault) = Unit {0}
IsOfRebuild (Outside place) = Unit {0}
IsOfRebuild (Evicted place) = Unit {0}
IsOfRebuild (Block fault) = Unit {0}
IsOfRebuild (Length walked) = Unit {0}
IsOfRebuild DevFault = Unit {0}

-- an entry that may be live: it lies in the part that its lap asks for, and its key is one of a block
pub record IsFit (numbers : Plan) (written : Written) : Type 0 where
  pub stays : stays numbers written ≡ true
  pub formed : IsWellFormed written.live.key

-- a walk from the header has visited these log blocks, of so many bytes, and two pointers lead on from there
pub record HasCome (header : DevHeader) (visits : List Visit) (next behind : Option LogPtr) (walked : ℕ) (found : List Written) : Type 0 where
  pub linked : (rest : List Visit) → IsLinked next behind rest → IsLinked header.newest header.second (visits ++ rest)
  pub leads : (rest : List Visit) → pointer_behind header.newest header.second (visits ++ rest) ≡ pointer_behind next behind rest
  pub passed : AllByRecursion (IsPassed header) visits
  pub bytes : walked ≡ log_len * length visits
  pub entries : found ≡ found_in (numbers_in header) visits

-- the walk visits a log block here
pub record IsVisited (image : List ℕ) (header : DevHeader) (visit : Visit) : Type 0 where
  pub passed : IsPassed header visit
  pub held : IsHeld image visit

-- the walk along the chain of the header visited these log blocks, found these entries, and ended for this reason
abbrev pub HasWalked : List ℕ → DevHeader → List Visit → List Written → Stop → Type 0
HasWalked image header visits found why = IsChain image header visits why × (found ≡ found_in (numbers_in header) visits)
