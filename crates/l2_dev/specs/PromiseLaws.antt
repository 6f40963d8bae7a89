-- What a plan and a commit make of what is promised of a device.
use Rattle.std.specs.Prelude.{◌≡◌, List, [], ◌∷◌, ◌++◌}
use Rattle.l2_log.specs.declared.header.DevHeader.{DevHeader}
use Rattle.l2_ring.specs.declared.plan.Plan.{Plan}
use Rattle.l2_dev.specs.Chain.{Visit, numbers_in}
use Rattle.l2_dev.specs.Standing.{Candidate, leading, staying}
use Rattle.l2_dev.specs.Cursor.{CursorState, numbers_from}
use Rattle.l2_dev.specs.Promise.{Promise}

-- the list and the live entries that a plan leaves
abbrev pub left_by : Plan → Promise → List Candidate → Promise
left_by plan p candidates = record { candidates = candidates; blocks = leading plan p.blocks; kept = staying plan p.kept; pending = [] }

-- a header of version 2 with the cursor's numbers and pointers
pub record IsHeaderFrom (cursor : CursorState) (header : DevHeader) : Type 0 where
  pub end : header.end ≡ cursor.ring.end
  pub numbers : numbers_in header ≡ numbers_from cursor
  pub newest : header.newest ≡ cursor.newest
  pub second : header.second ≡ cursor.second
  pub version : header.version ≡ 2

-- the list and the live entries with one more log block
abbrev pub with_block : Visit → Promise → List Candidate → Promise
with_block v p candidates = record { candidates = candidates; blocks = v ∷ p.blocks; kept = p.pending ++ p.kept; pending = [] }
