-- The bytes that a reply shows, by where they lie.
use Rattle.std.specs.Prelude.{ℕ, ◌≤◌, List, take}
use Rattle.trace_text.specs.declared.shown_bytes.Room.{Room}
use Rattle.trace_text.specs.declared.shown_bytes.Room.TheVariants.{Inside, Heap}

-- the bytes
abbrev pub bytes_in : Room → List ℕ
bytes_in (Inside len room) = take len room
bytes_in (Heap bytes) = bytes.value

-- no more bytes are in use than there are
abbrev pub IsFilled : Room → Type 0
IsFilled (Inside len room) = len ≤ 22
IsFilled (Heap bytes) = Unit {0}
