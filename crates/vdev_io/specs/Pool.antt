-- What a write does to the bytes that a pool tells.
use Rattle.std.specs.Prelude.{◌≡◌, ℕ, List, length, Option, None, Some, Result, Ok, Err}
use Rattle.vdev_io.specs.Device.{put, IsTorn}
use Rattle.vdev_io.specs.declared.fault.IoFault.{IoFault}
use Rattle.vdev_io.specs.declared.fault.IoFault.TheVariants.{Failed, NoMemory}

-- What a write of these bytes leaves of the told ones: at Ok they stand in its range and nothing else changed, where memory
-- was refused nothing changed at all, and where it failed its range may have any bytes.
abbrev pub WritesOrRefuses : {T : Type 0} → ℕ → List ℕ → Option (List ℕ) → Option (List ℕ) → Result T IoFault → Type 0
WritesOrRefuses at bytes None new result = new ≡ None
WritesOrRefuses at bytes (Some old) None result = ⊥
WritesOrRefuses at bytes (Some old) (Some new) (Ok _) = new ≡ put at bytes old
WritesOrRefuses at bytes (Some old) (Some new) (Err NoMemory) = new ≡ old
WritesOrRefuses at bytes (Some old) (Some new) (Err Failed) = IsTorn at (length bytes) old new
