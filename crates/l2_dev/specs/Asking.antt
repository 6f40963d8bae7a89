-- Which calls of the device below a start, a begin, a put and a commit make, one after another, and how each was answered.
use Rattle.std.specs.Prelude.{◌≡◌, ℕ, ◌⊎◌, List, [], ◌∷◌, ◌++◌, map, Option, Some, Result, Ok, Err, IsErrOf, IfOk}
use Rattle.vdev_io.specs.declared.device.CacheDev.{Ghosts}
use Rattle.vdev_io.specs.Calls.{Call, Gave, Failed, Asked, Read, Write, Flush, DeviceCall, answered, MakesAll, MakesUpTo, MakesAsked}
use Rattle.l2_log.specs.Rules.{header_len, log_len}
use Rattle.l2_log.specs.HeaderBytes.{SpellsHeader}
use Rattle.l2_log.specs.declared.pointer.LogPtr.{LogPtr}
use Rattle.l2_log.specs.declared.log_block.LogBlock.{LogBlock}
use Rattle.l2_log.specs.declared.header.DevHeader.{DevHeader}
use Rattle.l2_dev.specs.declared.fault.DevErr.{DevErr}
use Rattle.l2_dev.specs.declared.fault.DevErr.TheVariants.{DevFault, NoMemory}
use Rattle.l2_dev.specs.declared.stop.Stop.{Stop}
use Rattle.l2_dev.specs.declared.stop.Stop.TheVariants as stop
use Rattle.l2_dev.specs.declared.walk.WalkEnd.{WalkEnd}
use Rattle.l2_dev.specs.declared.walk.WalkEnd.TheVariants as ends
use Rattle.l2_dev.specs.Chain.{Visit, pointer_behind}
use Rattle.l2_dev.specs.Cursor.{CursorState}
use Rattle.l2_dev.specs.Planned.{IsBlockOf, IsHeaderWith}
use Rattle.l2_dev.specs.PromiseLaws.{IsHeaderFrom}

-- the header is written to the first sector, and flushed
abbrev pub header_calls : List ℕ → List Asked
header_calls sector = Write 0 sector ∷ Flush ∷ []

-- a log block is written at this place, and flushed
abbrev pub log_calls : ℕ → List ℕ → List Asked
log_calls place bytes = Write place bytes ∷ Flush ∷ []

-- These were asked for: all of them where the answer is Ok, and up to the one that failed at a fault of the device. Where memory was
-- refused, these first ones were asked for and done.
abbrev pub AsksFor : {D T : Type 0} → Ghosts D → (all refused : List Asked) → (old new : D) → Result T DevErr → Type 0
AsksFor device all refused old new (Ok value) = MakesAll device all old new
AsksFor device all refused old new (Err DevFault) = MakesUpTo device all old new
AsksFor device all refused old new (Err NoMemory) = MakesAll device refused old new

-- a begin writes the header with the numbers and pointers of the cursor, and flushes
abbrev pub BeginAsks : {D T E : Type 0} → Ghosts D → CursorState → (old new : D) → Result T E → Type 0
BeginAsks device after old new result = (sector : List ℕ) × (header : DevHeader) × SpellsHeader sector header × IsHeaderFrom after header × MakesAsked device (header_calls sector) old new result

-- the log block of the pending entries is written at the hand, and flushed; at Ok this is the pointer to it
abbrev pub LogAsks : {D E : Type 0} → Ghosts D → CursorState → (old new : D) → Result LogPtr E → Type 0
LogAsks device cursor old new result = (bytes : List ℕ) × (block : LogBlock) × (ptr : LogPtr) × IsBlockOf cursor bytes ptr block × IfOk result (λ told. told ≡ ptr)
    × MakesAsked device (log_calls cursor.ring.hand bytes) old new result

-- A commit writes the log block of the pending entries at the hand, flushes, writes the header that names it, and flushes. It asks
-- for nothing of the header where the log block's calls failed.
abbrev pub CommitAsks : {D T : Type 0} → Ghosts D → CursorState → (old new : D) → Result T DevErr → Type 0
CommitAsks device cursor old new result = (bytes : List ℕ) × (block : LogBlock) × (ptr : LogPtr) × IsBlockOf cursor bytes ptr block
    × ((IsErrOf result DevFault × MakesUpTo device (log_calls cursor.ring.hand bytes) old new)
    ⊎ ((sector : List ℕ) × (header : DevHeader) × SpellsHeader sector header × IsHeaderWith cursor ptr header
    × MakesAsked device (log_calls cursor.ring.hand bytes ++ header_calls sector) old new result))

-- the log block of a pointer is read
abbrev pub read_log : Call → LogPtr → DeviceCall
read_log answer ptr = answered answer (Read ptr.place log_len)

-- the log block of a visit was read
abbrev pub visit_read : Visit → DeviceCall
visit_read v = read_log Gave v.ptr

-- the read that ended a walk at this pointer: one that was refused for its bytes, or that failed
abbrev pub last_read : Stop → Option LogPtr → List DeviceCall
last_read (stop.Block fault) (Some ptr) = read_log Gave ptr ∷ []
last_read stop.DevFault (Some ptr) = read_log Failed ptr ∷ []
last_read why pointer = []

-- the reads of a walk from this header: one of each log block that it visited, and the one that ended it
abbrev pub walk_reads : DevHeader → List Visit → Stop → List DeviceCall
walk_reads header visits why = map visit_read visits ++ last_read why (pointer_behind header.newest header.second visits)

-- the read of the header
abbrev pub header_read : Call → DeviceCall
header_read answer = answered answer (Read 0 header_len)

-- how the read of a header was answered that was not had
abbrev pub unread_answer : Stop → Call
unread_answer stop.DevFault = Failed
unread_answer why = Gave

-- the read that a step of a walk made that went no further, at this pointer
abbrev pub end_reads : LogPtr → WalkEnd → List DeviceCall
end_reads ptr (ends.Stop why) = last_read why (Some ptr)
end_reads ptr ends.NoMemory = read_log Gave ptr ∷ []

-- reads of the header or of log blocks, of which none but the last failed
abbrev pub AreReads : List DeviceCall → Type 0
AreReads [] = Unit {0}
AreReads (call ∷ []) = (at : ℕ) × (n : ℕ) × (call.asked ≡ Read at n)
AreReads (call ∷ next ∷ calls) = ((at : ℕ) × (n : ℕ) × (call ≡ answered Gave (Read at n))) × AreReads (next ∷ calls)
