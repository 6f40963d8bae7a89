-- Which calls of the device a batch makes, one after another, and how each was answered.
use Rattle.std.specs.Prelude.{◌≡◌, ◌⊎◌, ℕ, zero, suc, ◌+◌, ◌*◌, List, [], ◌∷◌, ◌++◌, map, take, drop, Some, Result, Ok, Err}
use Rattle.vdev_io.specs.Calls.{Asked, DeviceCall, Failed, Gave, Write, answered}
use Rattle.arc_table.specs.declared.picks.Picked.{Picked as Block}
use Rattle.l2_log.specs.Rules.{log_len}
use Rattle.l2_log.specs.HeaderBytes.{SpellsHeader}
use Rattle.l2_log.specs.declared.header.DevHeader.{DevHeader}
use Rattle.l2_log.specs.declared.pointer.LogPtr.{LogPtr}
use Rattle.l2_ring.specs.Ring.{numbers_of, with_hand}
use Rattle.l2_dev.specs.declared.fault.DevErr.{DevErr}
use Rattle.l2_dev.specs.declared.fault.DevErr.TheVariants as err
use Rattle.l2_dev.specs.declared.report.FeedStop.{FeedStop}
use Rattle.l2_dev.specs.declared.report.FeedStop.TheVariants as stop
use Rattle.l2_dev.specs.Asking.{header_calls, log_calls}
use Rattle.l2_dev.specs.Chain.{numbers_in}
use Rattle.l2_dev.specs.Cursor.{CursorState}
use Rattle.l2_dev.specs.PromiseLaws.{IsHeaderFrom}
use Rattle.l2_feed.specs.Runs.{HasWritten, IsLogOf, bytes_of, most}

-- ---- how calls were answered

-- each of these was done
abbrev pub all_gave : List Asked → List DeviceCall
all_gave asked = map (answered Gave) asked

-- these were asked for up to one that failed; those before it were done, and those behind it were not asked for
pub record UpToFailed (asked : List Asked) (calls : List DeviceCall) : Type 0 where
  pub done : List Asked
  pub failed : Asked
  pub left : List Asked
  pub whole : asked ≡ done ++ failed ∷ left
  pub calls_are : calls ≡ all_gave done ++ answered Failed failed ∷ []

-- some first ones of these were asked for, and each was done
pub record FirstGave (asked : List Asked) (calls : List DeviceCall) : Type 0 where
  pub done : List Asked
  pub left : List Asked
  pub whole : asked ≡ done ++ left
  pub calls_are : calls ≡ all_gave done

-- ---- one run, which lies at the hand

-- the blocks are written side by side, from this place on
abbrev pub puts_of : (place : ℕ) → List Block → List Asked
puts_of place [] = []
puts_of place (b ∷ bs) = Write place b.block.value ∷ puts_of (place + b.key.size) bs

-- the calls of puts that were answered so
abbrev pub PutsCalls : {T : Type 0} → Result T DevErr → (cursor : CursorState) → (run : List Block) → List DeviceCall → Type 0
PutsCalls (Ok value) cursor run calls = calls ≡ all_gave (puts_of cursor.ring.hand run)
PutsCalls (Err err.DevFault) cursor run calls = UpToFailed (puts_of cursor.ring.hand run) calls
PutsCalls (Err err.NoMemory) cursor run calls = FirstGave (puts_of cursor.ring.hand run) calls

-- the blocks are written, and behind them the log block that tells of them, which is flushed
pub record AsksLog (cursor : CursorState) (run : List Block) (asked : List Asked) : Type 0 where
  pub ptr : LogPtr
  pub log : IsLogOf cursor.ring.lap cursor.ring.hand cursor.second run ptr
  pub asked_are : asked ≡ puts_of cursor.ring.hand run ++ log_calls (cursor.ring.hand + bytes_of run) log.bytes

-- a header of version 2 with the numbers of the cursor and this hand, which names the log block of this pointer, and then the one that was the newest
pub record NamesLog (cursor : CursorState) (hand : ℕ) (ptr : LogPtr) (header : DevHeader) : Type 0 where
  pub end : header.end ≡ cursor.ring.end
  pub numbers : numbers_in header ≡ with_hand (numbers_of cursor.ring) hand
  pub newest : header.newest ≡ Some ptr
  pub second : header.second ≡ cursor.newest
  pub version : header.version ≡ 2

-- and then the header that names that log block is written, and flushed
pub record AsksRun (cursor : CursorState) (run : List Block) (asked : List Asked) : Type 0 where
  pub front : List Asked
  pub log : AsksLog cursor run front
  pub sector : List ℕ
  pub header : DevHeader
  pub is : SpellsHeader sector header
  pub names : NamesLog cursor (cursor.ring.hand + (bytes_of run + log_len)) log.ptr header
  pub asked_are : asked ≡ front ++ header_calls sector

-- how far a run came that was lost: its blocks, its log block, or its header
abbrev pub AsksSome : (cursor : CursorState) → (run : List Block) → List Asked → Type 0
AsksSome cursor run asked = (asked ≡ puts_of cursor.ring.hand run) ⊎ AsksLog cursor run asked ⊎ AsksRun cursor run asked

-- The calls of a run that was lost for this fault. Where the device failed, the last one failed. Where memory was refused, it was behind one of the
-- blocks, or behind all of them.
abbrev pub LostCalls : DevErr → (cursor : CursorState) → (run : List Block) → List DeviceCall → Type 0
LostCalls err.DevFault cursor run calls = (asked : List Asked) × AsksSome cursor run asked × UpToFailed asked calls
LostCalls err.NoMemory cursor run calls = FirstGave (puts_of cursor.ring.hand run) calls

-- the calls of a run that was answered so
abbrev pub RunCalls : {T : Type 0} → Result T DevErr → (cursor : CursorState) → (run : List Block) → List DeviceCall → Type 0
RunCalls (Ok place) cursor run calls = (asked : List Asked) × AsksRun cursor run asked × (calls ≡ all_gave asked)
RunCalls (Err fault) cursor run calls = LostCalls fault cursor run calls

-- ---- the runs of a batch

-- so many runs of these blocks were written one after another, and these were asked for
abbrev pub AskRuns : (count : ℕ) → (blocks : List Block) → (old now : CursorState) → List Asked → Type 0
AskRuns zero blocks old now asked = (now ≡ old) × (asked ≡ [])
AskRuns (suc count) blocks old now asked =
    let run = take most blocks in
    (next : CursorState) × (first : List Asked) × (more : List Asked) × (asked ≡ first ++ more) × HasWritten run old next × AsksRun old run first × AskRuns count (drop most blocks) next now more

-- the calls of the run where a batch ends so; at Done there is no such run
abbrev pub EndCalls : FeedStop → (cursor : CursorState) → (run : List Block) → List DeviceCall → Type 0
EndCalls stop.Done cursor run calls = calls ≡ []
EndCalls stop.DevFault cursor run calls = LostCalls err.DevFault cursor run calls
EndCalls stop.NoMemory cursor run calls = LostCalls err.NoMemory cursor run calls

-- the calls of the runs of a batch that ended so: those of so many that were committed, and of the one that was lost
pub record RunsCalls (old : CursorState) (blocks : List Block) (count : ℕ) (end : FeedStop) (calls : List DeviceCall) : Type 0 where
  pub now : CursorState
  pub asked : List Asked
  pub last : List DeviceCall
  pub whole : AskRuns count blocks old now asked
  pub ended : EndCalls end now (take most (drop (count * most) blocks)) last
  pub calls_are : calls ≡ all_gave asked ++ last

-- ---- a batch

-- a header with the numbers and the pointers of this cursor is written, and flushed
pub record AsksHeader (cursor : CursorState) (asked : List Asked) : Type 0 where
  pub sector : List ℕ
  pub header : DevHeader
  pub is : SpellsHeader sector header
  pub from : IsHeaderFrom cursor header
  pub asked_are : asked ≡ header_calls sector

-- the calls of a plan that was taken, and answered so: the cursor has it now
abbrev pub PlanCalls : {T : Type 0} → Result T DevErr → (cursor : CursorState) → List DeviceCall → Type 0
PlanCalls (Err err.DevFault) cursor calls = (asked : List Asked) × AsksHeader cursor asked × UpToFailed asked calls
PlanCalls (Err err.NoMemory) cursor calls = (asked : List Asked) × AsksHeader cursor asked × (calls ≡ all_gave asked)
PlanCalls (Ok value) cursor calls = (asked : List Asked) × AsksHeader cursor asked × (calls ≡ all_gave asked)

-- The calls of a batch whose plan was taken, so that the cursor was this, and of which so many runs were committed: the header, and then the runs;
-- or the header alone, where the device failed at it.
abbrev pub BatchCalls : (begun : CursorState) → (blocks : List Block) → (count : ℕ) → (end : FeedStop) → List DeviceCall → Type 0
BatchCalls begun blocks count end calls =
    ((end ≡ stop.DevFault) × (count ≡ 0) × (asked : List Asked) × AsksHeader begun asked × UpToFailed asked calls)
    ⊎ ((asked : List Asked) × (more : List DeviceCall) × AsksHeader begun asked × RunsCalls begun blocks count end more × (calls ≡ all_gave asked ++ more))
