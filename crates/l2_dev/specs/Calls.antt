-- What a begin, a put and a commit promise of every crash.
use Rattle.std.specs.Prelude.{◌≡◌, ℕ, ◌≤◌, ◌⊎◌, List, [], ◌∷◌, ◌++◌, Bool, Option, Some, Result, MatchResult, IsErrOf, IfSome}
use Rattle.blk_ptr.specs.declared.key.Key.{Key}
use Rattle.l2_log.specs.Rules.{header_len, log_len}
use Rattle.vdev_io.specs.Faults.{Rose}
use Rattle.l2_dev.specs.declared.fault.DevErr.{DevErr}
use Rattle.l2_dev.specs.declared.fault.DevErr.TheVariants.{DevFault, NoMemory}
use Rattle.vdev_io.specs.Device.{IsTorn, IsWritten, put}
use Rattle.l2_log.specs.declared.pointer.LogPtr.{LogPtr}
use Rattle.l2_log.specs.declared.log_block.LogBlock.{LogBlock}
use Rattle.l2_dev.specs.Planned.{IsBlockOf, IsHeaderWith}
use Rattle.l2_dev.specs.Steps.{Wrote, HasFlushed}
use Rattle.l2_dev.specs.PromiseLaws.{left_by, with_block, IsHeaderFrom}
use Rattle.blk_ptr.specs.Ptr.{sha256_of}
use Rattle.l2_log.specs.HeaderBytes.{IsHeader}
use Rattle.l2_log.specs.declared.header.DevHeader.{DevHeader}
use Rattle.l2_dev.specs.Chain.{Visit}
use Rattle.l2_dev.specs.Standing.{Candidate, Kept, IsNamed, leading, staying}
use Rattle.l2_dev.specs.Cursor.{CursorState, numbers_from}
use Rattle.l2_dev.specs.Promise.{Promise, IsOf, AreGood, KeepsPromise, LeftAmong, LeavesOnlyWith}

-- such a header with a list and entries: each crash since the old device leaves it or one of those before it, and each of
-- these restores what is live both before and after
pub record LeavesWith {D : Type 0} (moment : D → ℕ) (since : D → ℕ → List ℕ → Type 0) (Such : DevHeader → Type 0) (end : ℕ) (old new : D) (p : Promise) (blocks : List Visit) (kept live : List Kept) (candidate : Candidate) : Type 0 where
  pub header : DevHeader
  pub such : Such header
  pub named : IsNamed end candidate header
  pub of : IsOf blocks kept candidate
  pub good : AreGood end live (candidate ∷ p.candidates)
  pub crash : LeavesOnlyWith moment since old new (LeftAmong end (candidate ∷ p.candidates))

-- the promise with these candidates and without what was pending
abbrev pub forgotten : Promise → List Candidate → Promise
forgotten p candidates = record { candidates = candidates; blocks = p.blocks; kept = p.kept; pending = [] }

-- the promise with one more pending entry
abbrev pub with_put : Kept → Promise → Promise
with_put k p = record { candidates = p.candidates; blocks = p.blocks; kept = p.kept; pending = k ∷ p.pending }

-- what a begin keeps: nothing changed where memory was refused; else each crash leaves the header of the cursor with what the plan leaves, or one before it,
-- and after Ok that header alone
abbrev pub BeginKeeps : {D : Type 0} → (D → Option (List ℕ)) → (D → Bool) → (D → List ℕ → Type 0) → (D → ℕ) → (D → ℕ → List ℕ → Type 0)
    → D → D → CursorState → CursorState → Promise → Result (Unit {0}) DevErr → Type 0
BeginKeeps tells has_sectors leaves moment since old new cursor after p result =
    IsErrOf result NoMemory
    ⊎ ((k : Candidate) × LeavesWith moment since (IsHeaderFrom after) after.ring.end old new p (leading (numbers_from after) p.blocks) (staying (numbers_from after) p.kept) (staying (numbers_from after) p.kept) k
    × MatchResult result (λ _. KeepsPromise tells has_sectors leaves new after (left_by (numbers_from after) p (k ∷ [])))
    (λ _. KeepsPromise tells has_sectors leaves new after (left_by (numbers_from after) p (k ∷ p.candidates))))

-- the entry of a put, with the block's bytes
abbrev pub put_entry : Key → ℕ → List ℕ → ℕ → Kept
put_entry key place bytes lap = record { written = record { live = record { key = key; place = place; digest = Some (sha256_of bytes) }; lap = lap }; bytes = bytes }

-- what a put keeps: each crash leaves what one before it might; at Ok the entry is pending, and else nothing is
pub record PutKeeps {D : Type 0} (tells : D → Option (List ℕ)) (has_sectors : D → Bool) (leaves : D → List ℕ → Type 0) (moment : D → ℕ) (since : D → ℕ → List ℕ → Type 0)
    (old new : D) (cursor after : CursorState) (p : Promise) (key : Key) (bytes : List ℕ) (result : Result ℕ DevErr) : Type 0 where
  pub crash : LeavesOnlyWith moment since old new (LeftAmong cursor.ring.end p.candidates)
  pub kept : MatchResult result
      (λ place. KeepsPromise tells has_sectors leaves new after (with_put (put_entry key place bytes cursor.ring.lap) p))
      (λ _. KeepsPromise tells has_sectors leaves new after (forgotten p p.candidates))

-- the log block tells of the pending entries, in the order of their puts, and stands behind their blocks
pub record IsCommitBlock (cursor : CursorState) (v : Visit) : Type 0 where
  pub place : v.ptr.place ≡ cursor.ring.hand
  pub entries : v.block.entries ≡ cursor.pending
  pub prev : v.block.prev ≡ cursor.second

-- what a commit keeps: each crash leaves the header of the cursor with the new log block, or one before it. At Ok it is that header alone, and the pending entries are live.
-- After an error nothing is pending, and where that header's write was begun, it may stand there still.
abbrev pub CommitKeeps : {D : Type 0} → (D → Option (List ℕ)) → (D → Bool) → (D → List ℕ → Type 0) → (D → ℕ) → (D → ℕ → List ℕ → Type 0)
    → D → D → CursorState → CursorState → Promise → Result (Unit {0}) DevErr → Type 0
CommitKeeps tells has_sectors leaves moment since old new cursor after p result = MatchResult result
    (λ _. (v : Visit) × (k : Candidate) × IsCommitBlock cursor v
    × LeavesWith moment since (IsHeaderWith cursor v.ptr) after.ring.end old new p (v ∷ p.blocks) (p.pending ++ p.kept) p.kept k × KeepsPromise tells has_sectors leaves new after (with_block v p (k ∷ [])))
    (λ _. (LeavesOnlyWith moment since old new (LeftAmong after.ring.end p.candidates) × KeepsPromise tells has_sectors leaves new after (forgotten p p.candidates))
    ⊎ ((v : Visit) × (k : Candidate) × IsCommitBlock cursor v
    × LeavesWith moment since (IsHeaderWith cursor v.ptr) after.ring.end old new p (v ∷ p.blocks) (p.pending ++ p.kept) p.kept k × KeepsPromise tells has_sectors leaves new after (forgotten p (k ∷ p.candidates))))

-- the count of faults did not fall, and the device's failure was told only where it rose
pub record HasDevCause {T : Type 0} (before now : ℕ) (result : Result T DevErr) : Type 0 where
  pub kept : before ≤ now
  pub rose : IsErrOf result DevFault → Rose before now

-- what the write of a log block does: nothing, where memory was refused; else its bytes were written behind the pending blocks, or in part, and flushed at Ok
abbrev pub LogWritten : {D : Type 0} → (D → Option (List ℕ)) → (D → Bool) → (D → List ℕ → Type 0) → (D → ℕ) → (D → ℕ → List ℕ → Type 0)
    → CursorState → D → D → Result LogPtr DevErr → Type 0
LogWritten tells has_sectors leaves moment since cursor old new result =
    ((new ≡ old) × IsErrOf result NoMemory)
    ⊎ ((bytes : List ℕ) × (block : LogBlock) × (ptr : LogPtr) × IsBlockOf cursor bytes ptr block × Wrote tells has_sectors leaves moment since cursor.ring.hand bytes old new
    × MatchResult result (λ told. (told ≡ ptr) × IfSome (tells old) (λ image. HasFlushed tells leaves new (put cursor.ring.hand bytes image))) (λ e. e ≡ DevFault)
    × IsWritten cursor.ring.hand bytes (tells old) (tells new) result)

-- the pointer names the log block of the pending entries; where the device tells its image, that log block stands behind their blocks, the header that names
-- it in the first sector, and all else is as before
abbrev pub HasCommitWritten : Option (List ℕ) → Option (List ℕ) → CursorState → LogPtr → Type 0
HasCommitWritten before now cursor ptr = (bytes : List ℕ) × (block : LogBlock) × (sector : List ℕ) × (header : DevHeader)
    × IsBlockOf cursor bytes ptr block × IsHeader sector header × IsHeaderWith cursor ptr header
    × IfSome before (λ image. now ≡ Some (put 0 sector (put cursor.ring.hand bytes image)))

-- this range of the image may hold any bytes now, and all else is as before
abbrev pub LeavesTorn : ℕ → ℕ → List ℕ → Option (List ℕ) → Type 0
LeavesTorn at n image now = (left : List ℕ) × (now ≡ Some left) × IsTorn at n image left

-- what a commit that the device failed leaves of the image that was told: the range of the log block may hold any bytes; or
-- the log block of the pending entries stands there, and the first sector may hold any bytes
abbrev pub IsCommitLeft : Option (List ℕ) → Option (List ℕ) → CursorState → Type 0
IsCommitLeft before now cursor = (bytes : List ℕ) × (block : LogBlock) × (ptr : LogPtr) × IsBlockOf cursor bytes ptr block
    × IfSome before (λ image. LeavesTorn cursor.ring.hand log_len image now ⊎ LeavesTorn 0 header_len (put cursor.ring.hand bytes image) now)
