-- In which order a feed does what it does: shard by shard, and in each the picks, the places that are taken, and the picks' settling; and with which
-- calls of the device.
use Rattle.std.specs.Prelude.{◌≡◌, ◌≢◌, ◌⊎◌, ℕ, zero, suc, ◌<◌, true, List, [], ◌∷◌, ◌++◌, length, map, Result, Ok, Err, OnOk}
use Rattle.std.proofs.Common.{inl, inr}
use Rattle.std.specs.List.{AllByRecursion, filter}
use Rattle.blk_ptr.specs.declared.memory.NoMemory.{NoMemory}
use Rattle.arc_core.specs.declared.event.Why.{Why}
use Rattle.arc_core.specs.declared.event.Why.TheVariants as why
use Rattle.arc_table.specs.declared.picks.Picked.{Picked as Block}
use Rattle.vdev_io.specs.Calls.{DeviceCall}
use Rattle.l2_ring.specs.declared.live.Written.{Written}
use Rattle.l2_ring.specs.Ring.{HasPlan, IsSound, numbers_of, with_hand}
use Rattle.l2_ring.specs.Stays.{AreLive, falls, live_of}
use Rattle.l2_dev.specs.declared.fault.DevErr.{DevErr}
use Rattle.l2_dev.specs.declared.fault.DevErr.TheVariants as err
use Rattle.l2_dev.specs.declared.report.FeedStop.{FeedStop}
use Rattle.l2_dev.specs.declared.report.FeedStop.TheVariants as stop
use Rattle.l2_dev.specs.Cursor.{CursorState}
use Rattle.l2_dev.specs.Planned.{HasPlanned}
use Rattle.l2_feed.specs.Acts.{Act, Picked, Refused, Unpicked}
use Rattle.l2_feed.specs.Asking.{BatchCalls, PlanCalls}
use Rattle.l2_feed.specs.Runs.{AreCleared, AreLeft, AreLogs, AreRuns, AreWhole, batch_len, run_place}

-- for which reason a key is left where a feed ends so
abbrev pub why_of : FeedStop → Why
why_of stop.Done = why.Gone
why_of stop.DevFault = why.Device
why_of stop.NoMemory = why.Memory

-- how a feed ends after this fault
abbrev pub stop_of : DevErr → FeedStop
stop_of err.DevFault = stop.DevFault
stop_of err.NoMemory = stop.NoMemory

-- memory was refused for taking a place
abbrev pub IsRefusal : Act → Type 0
IsRefusal (Refused k place) = Unit {0}
IsRefusal _ = ⊥

-- memory was refused for taking none of the places
abbrev pub NoneRefused : List Act → Type 0
NoneRefused = AllByRecursion (λ act. ¬ IsRefusal act)

-- blocks are left exactly where a feed ends before its time
abbrev pub LeavesSome : FeedStop → List Block → Type 0
LeavesSome stop.Done left = left ≡ []
LeavesSome _ left = 0 < length left

-- A plan for n bytes was begun: it was taken, and the places of what it drops were asked back; at Ok none was refused, and blocks may be put. Or
-- memory was refused for it, and nothing has changed.
pub record TakesPlan (old new : CursorState) (n : ℕ) (acts : List Act) (calls : List DeviceCall) (result : Result (Unit {0}) DevErr) : Type 0 where
  pub sound : IsSound old.ring
  pub placed : AreLive (numbers_of old.ring) old.ring.live
  pub planned : HasPlanned n old new
  pub cleared : AreCleared (map live_of (filter (falls planned.plan) old.ring.live)) acts
  pub opened : OnOk result (NoneRefused acts × (new.ready ≡ true))
  pub asks : PlanCalls result new calls

abbrev pub HasBegun : (old new : CursorState) → ℕ → List Act → List DeviceCall → Result (Unit {0}) DevErr → Type 0
HasBegun old new n acts calls result = ((new ≡ old) × (acts ≡ []) × (result ≡ Err err.NoMemory) × (calls ≡ [])) ⊎ TakesPlan old new n acts calls result

-- the first fault of a begin and of the clears behind it
abbrev pub first_fault : Result (Unit {0}) DevErr → Result (Unit {0}) NoMemory → Result (Unit {0}) DevErr
first_fault (Err fault) taken = Err fault
first_fault (Ok u) (Err refused) = Err err.NoMemory
first_fault (Ok u) (Ok v) = Ok u

-- how a feed ends after this answer
abbrev pub end_of : Result (Unit {0}) DevErr → FeedStop
end_of (Ok u) = stop.Done
end_of (Err fault) = stop_of fault

-- So many runs of these blocks were committed and set, and the blocks that are left were left, for the reason of the end: these are the acts. What
-- is live is what was live and the entries of the runs, the hand stands behind them, and nothing else of the ring has changed.
pub record HaveRun (old new : CursorState) (blocks : List Block) (acts : List Act) (end : FeedStop) : Type 0 where
  pub count : ℕ
  pub sets : List Act
  pub entries : List Written
  pub left : List Block
  pub runs : AreRuns old.ring.lap old.ring.hand count blocks sets entries left
  pub leaves : List Act
  pub lefts : AreLeft (why_of end) left leaves
  pub settled : acts ≡ sets ++ leaves
  pub some : LeavesSome end left
  pub live_is : new.ring.live ≡ old.ring.live ++ entries
  pub numbers : HasPlan (with_hand (numbers_of old.ring) (run_place old.ring.hand count blocks)) old.ring new.ring
  pub base : new.base ≡ new.ring.hand
  pub logs : AreLogs old.ring.lap old.ring.hand blocks count (old.newest, old.second) (new.newest, new.second)
  pub pending : new.pending ≡ []

-- What became of a batch of these blocks: the plan for them was taken, and the places of what it drops were asked back; then the runs were written,
-- none of them where memory was refused for taking a place.
pub record IsWritten (old new : CursorState) (blocks : List Block) (clears settles : List Act) (end : FeedStop) : Type 0 where
  pub sound : IsSound old.ring
  pub placed : AreLive (numbers_of old.ring) old.ring.live
  pub begun : CursorState
  pub planned : HasPlanned (batch_len blocks) old begun
  pub cleared : AreCleared (map live_of (filter (falls planned.plan) old.ring.live)) clears
  pub ran : HaveRun begun new blocks settles end
  pub refused : NoneRefused clears ⊎ ((ran.count ≡ 0) × (end ≢ stop.Done))

-- Memory was refused for the plan: nothing of the device changed, and all blocks were left.
pub record IsUnwritten (old new : CursorState) (blocks : List Block) (clears settles : List Act) (end : FeedStop) : Type 0 where
  pub same : new ≡ old
  pub none : clears ≡ []
  pub lefts : AreLeft why.Memory blocks settles
  pub ended : end ≡ stop.NoMemory

-- the calls of a batch of which this became: none, where memory was refused for its plan
abbrev pub WrittenCalls : {old new : CursorState} {blocks : List Block} {clears settles : List Act} {end : FeedStop}
    → IsWritten old new blocks clears settles end ⊎ IsUnwritten old new blocks clears settles end → List DeviceCall → Type 0
WrittenCalls {blocks = blocks} {end = end} (inl written) calls = BatchCalls written.begun blocks written.ran.count end calls
WrittenCalls (inr unwritten) calls = calls ≡ []

-- a shard of which something was picked: blocks of their keys' sizes
pub record FedBatch (shard : ℕ) (old new : CursorState) (acts : List Act) (calls : List DeviceCall) (end : FeedStop) : Type 0 where
  pub blocks : List Block
  pub some : 0 < length blocks
  pub whole : AreWhole blocks
  pub clears : List Act
  pub settles : List Act
  pub acts_are : acts ≡ Picked shard blocks ∷ (clears ++ settles)
  pub written : IsWritten old new blocks clears settles end ⊎ IsUnwritten old new blocks clears settles end
  pub asks : WrittenCalls written calls

-- One shard was fed: nothing was picked, and the device is as it was; or memory was refused for picking, which ends the feed; or a batch was
-- picked.
abbrev pub FedShard : (shard : ℕ) → (old new : CursorState) → List Act → List DeviceCall → FeedStop → Type 0
FedShard shard old new acts calls end =
    ((acts ≡ Picked shard [] ∷ []) × (new ≡ old) × (end ≡ stop.Done) × (calls ≡ []))
    ⊎ ((acts ≡ Unpicked shard ∷ []) × (new ≡ old) × (end ≡ stop.NoMemory) × (calls ≡ []))
    ⊎ FedBatch shard old new acts calls end

-- So many shards were fed from this one on, by rising number: each to its end, up to the one where the feed ended, behind which nothing was done.
abbrev pub AreFed : (shard count : ℕ) → (old new : CursorState) → List Act → List DeviceCall → FeedStop → Type 0
AreFed shard zero old new acts calls end = (acts ≡ []) × (new ≡ old) × (end ≡ stop.Done) × (calls ≡ [])
AreFed shard (suc count) old new acts calls end =
    ((end ≢ stop.Done) × FedShard shard old new acts calls end)
    ⊎ ((first : List Act) × (more : List Act) × (between : CursorState) × (front : List DeviceCall) × (behind : List DeviceCall) × (acts ≡ first ++ more) × (calls ≡ front ++ behind)
    × FedShard shard old between first front stop.Done × AreFed (suc shard) count between new more behind end)
