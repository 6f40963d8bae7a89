-- What the calls of a cache device do to the image that it tells, and to what a crash may leave of it.
use Rattle.std.specs.Prelude.{◌≡◌, ℕ, ◌+◌, ◌-◌, ◌*◌, ◌<◌, ◌≤◌, ◌⊎◌, ◌↔◌, List, ◌++◌, length, take, drop, slice_index, Option, None, Some, Result, MatchResult}
use Rattle.blk_ptr.specs.Size.{sector}

-- the image with these bytes from this place on
abbrev pub put : ℕ → List ℕ → List ℕ → List ℕ
put at bytes image = take at image ++ bytes ++ drop (at + length bytes) image

-- any bytes in this range, and the same elsewhere
pub record IsTorn (at n : ℕ) (old new : List ℕ) : Type 0 where
  pub len : length new ≡ length old
  pub before : take at new ≡ take at old
  pub behind : drop (at + n) new ≡ drop (at + n) old

-- what a write of these bytes leaves of the image that was told: at Ok it has the bytes, and otherwise any bytes there
abbrev pub IsWritten : {T E : Type 0} → ℕ → List ℕ → Option (List ℕ) → Option (List ℕ) → Result T E → Type 0
IsWritten at bytes None new result = new ≡ None
IsWritten at bytes (Some old) None result = ⊥
IsWritten at bytes (Some old) (Some new) result =
    MatchResult result (λ _. new ≡ put at bytes old) (λ _. IsTorn at (length bytes) old new)

-- a crash leaves this and nothing else
abbrev pub LeavesOnly : List ℕ → (List ℕ → Type 0) → Type 0
LeavesOnly image leaves = (c : List ℕ) → leaves c → c ≡ image

-- a crash leaves no more than before
abbrev pub LeavesNoMore : (List ℕ → Type 0) → (List ℕ → Type 0) → Type 0
LeavesNoMore old new = (c : List ℕ) → new c → old c

-- a crash leaves the same as before
abbrev pub LeavesSame : (List ℕ → Type 0) → (List ℕ → Type 0) → Type 0
LeavesSame old new = (c : List ℕ) → old c ↔ new c

-- a byte of sector k in this range
pub record IsInSector (at n k place : ℕ) : Type 0 where
  pub from : at ≤ place
  pub to : place < at + n
  pub least : k * sector ≤ place
  pub most : place < (k + 1) * sector

-- each sector of the range is old or has these bytes, each by itself, and all else is the same
pub record IsTornBySector (at : ℕ) (bytes old new : List ℕ) : Type 0 where
  pub torn : IsTorn at (length bytes) old new
  pub sectors : (k : ℕ) → ((i : ℕ) → IsInSector at (length bytes) k i → slice_index new i ≡ slice_index old i)
      ⊎ ((i : ℕ) → IsInSector at (length bytes) k i → slice_index new i ≡ slice_index bytes (i - at))

-- what a crash leaves now it left before, but for what a write of these bytes may do to each sector
abbrev pub FollowsBySector : ℕ → List ℕ → (List ℕ → Type 0) → (List ℕ → Type 0) → Type 0
FollowsBySector at bytes old new = (c : List ℕ) → new c → (d : List ℕ) × old d × IsTornBySector at bytes d c

-- time goes on: what a crash since an earlier moment may have left, it may have left still
pub record Elapses (before now : ℕ) (past since : ℕ → List ℕ → Type 0) : Type 0 where
  pub later : before ≤ now
  pub keeps : (t : ℕ) (c : List ℕ) → t ≤ before → past t c → since t c

-- a crash since an earlier moment left what it may have left before, or what it may leave now
abbrev pub ElapsesTo : ℕ → (ℕ → List ℕ → Type 0) → (ℕ → List ℕ → Type 0) → (List ℕ → Type 0) → Type 0
ElapsesTo before past since leaves = (t : ℕ) (c : List ℕ) → t ≤ before → since t c → past t c ⊎ leaves c

-- time goes on, and no crash leaves anything that none left before
pub record LeavesNothingNew (before now : ℕ) (past since : ℕ → List ℕ → Type 0) : Type 0 where
  pub later : before ≤ now
  pub same : (t : ℕ) (c : List ℕ) → t ≤ before → past t c ↔ since t c
