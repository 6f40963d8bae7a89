-- How far the search for an event's victims has come, as the code keeps it. No public clause cites this module.
use Rattle.std.specs.Prelude.{◌≡◌, ℕ, ◌+◌, ◌≤◌, Bool, true, false, if◌then◌else◌, List, [], ◌∷◌, ◌++◌, Option, Some, None}
use Rattle.blk_ptr.specs.declared.key.Key.{Key}
use Rattle.blk_ptr.specs.declared.state.State.{State}
use Rattle.arc_lists.specs.Sequences.{stands_on}
use Rattle.arc_core.specs.declared.entry.Entry.{Entry}
use Rattle.arc_core.specs.declared.table.scan.Scan.{Scan}
use Rattle.arc_core.specs.declared.table.search.Search.{Search}
use Rattle.arc_core.specs.Cursor.{IsScanOf, first_unmarked, size_by, with_size}
use Rattle.arc_core.specs.Edits.{is_droppable, is_evictable}
use Rattle.arc_core.specs.PlainShard.{PlainShard}
use Rattle.arc_core.specs.Rules as Rules
use Rattle.arc_core.specs.Sparing.{dropped_by_trim, drops, evictions}

-- how many entries pass a test
abbrev pub count : (Entry → Bool) → List Entry → ℕ
count test [] = 0
count test (e ∷ es) = (if test e then 1 else 0) + count test es

-- what is marked in the first list is marked in the second
abbrev pub Covers : List Key → List Key → Type 0
Covers marked more = (k : Key) → stands_on k marked ≡ true → stands_on k more ≡ true

-- of the victims these are left: the others are marked, so whatever is marked beside, the first that isn't is among these
abbrev pub AreLeft : (marked vs rest : List Key) → Type 0
AreLeft marked vs rest = (more : List Key) → Covers marked more → first_unmarked more vs ≡ first_unmarked more rest

-- The search stands where room is made: in this other shard so many bytes are still to have room, and in the shard behind that what
-- comes in has come.
pub record AtRoom (about : Option Key) (s : PlainShard) (marked : List Key) (z : ℕ) (comes : State) (vs : List Key) (x : Scan) : Type 0 where
  pub at : PlainShard
  pub turns : ℕ
  pub behind : PlainShard
  pub scan : IsScanOf about s x at
  pub enough : count is_evictable at.entries ≤ turns
  pub left : AreLeft marked vs (evictions turns z at ++ dropped_by_trim behind)
  pub enters : (y : Scan) → IsScanOf about s y (Rules.evicting turns z at) → IsScanOf about s (with_size comes (size_by comes y + z) y) behind

-- the search stands where ghosts are dropped
pub record AtTrim (about : Option Key) (s : PlainShard) (marked vs : List Key) (x : Scan) : Type 0 where
  pub at : PlainShard
  pub turns : ℕ
  pub scan : IsScanOf about s x at
  pub enough : count is_droppable at.entries ≤ turns
  pub left : AreLeft marked vs (drops turns at)

-- what was found where room is made, and where the search stands then
pub record IsRoomSearched (about : Option Key) (s : PlainShard) (marked : List Key) (z : ℕ) (comes : State) (vs : List Key) (x : Scan) (found : Option Key) : Type 0 where
  pub on : AtRoom about s marked z comes vs x
  pub some : (k : Key) → found ≡ Some k → found ≡ first_unmarked marked vs
  pub none : found ≡ None → Rules.next_evicted z on.at ≡ None

-- and where ghosts are dropped
pub record IsTrimSearched (about : Option Key) (s : PlainShard) (marked vs : List Key) (x : Scan) (found : Option Key) : Type 0 where
  pub on : AtTrim about s marked vs x
  pub value : found ≡ first_unmarked marked vs

-- the search for these victims stands here
abbrev pub StandsBy : (trims : Bool) → PlainShard → (marked vs : List Key) → Search → Type 0
StandsBy true s marked vs x = AtTrim x.about s marked vs x.scan
StandsBy false s marked vs x = AtRoom x.about s marked x.z x.comes vs x.scan

abbrev pub Stands : PlainShard → (marked vs : List Key) → Search → Type 0
Stands s marked vs x = StandsBy x.trims s marked vs x

-- the search behind all that room evicts
abbrev pub entered : Search → Search
entered x = record x { trims = true; scan = with_size x.comes (size_by x.comes x.scan + x.z) x.scan }

-- the first victim that isn't marked, where room is made alone or trim too; where room is made and none was found, ghosts are dropped now
pub record IsFound (s : PlainShard) (marked vs : List Key) (trimmed : Bool) (x : Search) (found : Option Key) : Type 0 where
  pub stands : Stands s marked vs x
  pub some : (k : Key) → found ≡ Some k → found ≡ first_unmarked marked vs
  pub none : found ≡ None → x.trims ≡ true
  pub all : trimmed ≡ true → found ≡ first_unmarked marked vs
