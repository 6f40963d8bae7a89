-- The forks of the cache device that callers at work read: each has one of its own in each group, or none where it was refused.
use Rattle.std.specs.Prelude.{◌≡◌, ℕ, suc, List, [], ◌∷◌, ◌++◌, filter, Option, None, Some, Result, Ok, Err, IfOk, length}
use Rattle.blk_ptr.specs.declared.ptr.Ptr.{Ptr}
use Rattle.vdev_io.specs.declared.device.CacheDev.{Ghosts}
use Rattle.vdev_io.specs.declared.fault.IoFault.{IoFault}
use Rattle.vdev_io.specs.Faults.{CountsIoFault, sum_of_counts}
use Rattle.trace_run.specs.Devices.{WasOnlyRead}
use Rattle.trace_run.specs.Feeds.{AreFedReplies, AsksOfFeeds, FeedDone, is_feed}
use Rattle.trace_run.specs.Lines.{replies_where}
use Rattle.trace_run.specs.dbufs.Objects.{Line, ops_of, replies_of}
use Rattle.trace_run.specs.RunWork.{lines_of_caller}
use Rattle.trace_run.specs.callers.Together.{GroupLines}
use Rattle.trace_run.specs.callers.WorkLines.{AsksGiven}

-- the fork that was made, where it was
abbrev pub fork_of : {D : Type 0} → Result D IoFault → Option D
fork_of (Ok fork) = Some fork
fork_of (Err why) = None

module _ {D : Type 0} (devices : Ghosts D) where
  -- a fork of a device: it has the device's length, tells nothing, and counted nothing yet
  pub record IsDeviceFork (device fork : D) : Type 0 where
    pub size : devices.size fork ≡ devices.size device
    pub told : devices.told fork ≡ None
    pub reads : devices.reads fork ≡ 0
    pub faults : devices.faults fork ≡ 0
    pub others : devices.other_calls fork ≡ 0

  -- The device was asked for a fork once, and this came of it. It counts one fault where it failed, and nothing else.
  pub record ForksOnce (answer : Result D IoFault) (old new : D) : Type 0 where
    pub fork : IfOk answer (IsDeviceFork old)
    pub keeps : WasOnlyRead devices old new
    pub reads : devices.reads new ≡ devices.reads old
    pub faults : CountsIoFault (devices.faults old) (devices.faults new) answer
    pub others : devices.other_calls new ≡ sum_of_counts (devices.other_calls old) 1

  -- a caller was given this fork; where there is no device, none
  abbrev pub GivesFork : Option D → (old new : Option D) → Type 0
  GivesFork fork None None = fork ≡ None
  GivesFork fork None (Some new) = ⊥
  GivesFork fork (Some old) None = ⊥
  GivesFork fork (Some old) (Some new) = (answer : Result D IoFault) × (fork ≡ fork_of answer) × ForksOnce answer old new

  -- these forks were given, one after another
  abbrev pub GivesForks : List (Option D) → (old new : Option D) → Type 0
  GivesForks [] old new = new ≡ old
  GivesForks (fork ∷ forks) old new = (next : Option D) × GivesFork fork old next × GivesForks forks next new

  -- a fork was taken back, and the device counts what it counted
  pub record TakesBack (fork old new : D) : Type 0 where
    pub keeps : WasOnlyRead devices old new
    pub reads : devices.reads new ≡ sum_of_counts (devices.reads old) (devices.reads fork)
    pub faults : devices.faults new ≡ sum_of_counts (devices.faults old) (devices.faults fork)
    pub others : devices.other_calls new ≡ devices.other_calls old

  -- so it was where there is one, and nothing else was done
  abbrev pub TakesForkBack : Option D → (old new : Option D) → Type 0
  TakesForkBack fork None None = Unit {0}
  TakesForkBack fork None (Some new) = ⊥
  TakesForkBack fork (Some old) None = ⊥
  TakesForkBack None (Some old) (Some new) = new ≡ old
  TakesForkBack (Some fork) (Some old) (Some new) = TakesBack fork old new

  -- these were, one after another
  abbrev pub TakesForksBack : List (Option D) → (old new : Option D) → Type 0
  TakesForksBack [] old new = new ≡ old
  TakesForksBack (fork ∷ forks) old new = (next : Option D) × TakesForkBack fork old next × TakesForksBack forks next new

  -- Each caller, by its number from this one on, asked what it was given for the reads of its own lines, and left it so.
  abbrev pub AllAsk : List Ptr → (own : ℕ → List Line) → (n : ℕ) → (given left : List (Option D)) → Type 0
  AllAsk blocks own n [] [] = Unit {0}
  AllAsk blocks own n [] (last ∷ lasts) = ⊥
  AllAsk blocks own n (fork ∷ forks) [] = ⊥
  AllAsk blocks own n (fork ∷ forks) (last ∷ lasts) = AsksGiven devices blocks (own n) fork last × AllAsk blocks own (suc n) forks lasts

  -- Each caller was given a fork of the device as a group began, or none where it was refused: then the device was as lent. Its lines asked its fork for their
  -- reads, and the device, as it was later, took each back.
  pub record HaveRead (blocks : List Ptr) (callers : ℕ) (own : ℕ → List Line) (old lent later new : Option D) : Type 0 where
    pub forks : List (Option D)
    pub count : length forks ≡ callers
    pub given : GivesForks forks old lent
    pub done : List (Option D)
    pub asked : AllAsk blocks own 0 forks done
    pub back : TakesForksBack done later new

  -- Callers did their lines of a group at once. Each was given a fork of the device as it was then, or none where it was refused or there is no device:
  -- that is asked for once. Its lines asked the fork for just their reads. Meanwhile the device was asked for the calls of these feeds, which the lines `feed` of the group are answered by. Then
  -- it took each fork back, by rising caller. Nothing else was done with it.
  pub record UsedAtOnce (blocks : List Ptr) (callers : ℕ) (lines : List Line) (feeds : List FeedDone) (old new : Option D) : Type 0 where
    pub lent : Option D
    pub later : Option D
    pub read : HaveRead blocks callers (λ n. lines_of_caller n lines) old lent later new
    pub fed : AsksOfFeeds devices feeds lent later
    pub answered : AreFedReplies old (filter is_feed (ops_of lines)) feeds (replies_where is_feed (ops_of lines) (replies_of lines))

  -- so they did these groups, one after another
  abbrev pub UsedInGroups : List Ptr → (callers : ℕ) → List GroupLines → List FeedDone → (old new : Option D) → Type 0
  UsedInGroups blocks callers [] feeds old new = (feeds ≡ []) × (new ≡ old)
  UsedInGroups blocks callers (group ∷ groups) feeds old new =
      (next : Option D) × (here behind : List FeedDone) × (feeds ≡ here ++ behind) × UsedAtOnce blocks callers group.lines here old next × UsedInGroups blocks callers groups behind next new
