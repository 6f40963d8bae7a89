-- An event of a cell as a run of bytes, and back: its kind, who did it, which block, and what else its kind says.
use Rattle.std.specs.Prelude.{◌≡◌, ℕ, ◌<◌, ◌≤◌, ◌^◌, ◌==◌, nat_lt, nat_le, ◌&&◌, Bool, true, false, if◌then◌else◌, List, [], ◌++◌, length, take, drop}
use Rattle.blk_ptr.specs.declared.ptr.Ptr.{Ptr}
use Rattle.varint.specs.Number.{number_bytes, taken_bytes, taken_number}
use Rattle.dbuf_state.specs.declared.event.CellEvent.{CellEvent}
use Rattle.dbuf_state.specs.declared.event.CellEvent.TheVariants.{Get, Put, Patch, Pin, Unpin, Load, Evict, Synced, End}
use Rattle.dbuf_state.specs.declared.oid.Oid.{Oid}
use Rattle.dbuf_state.specs.declared.packed.Head.{Head}

-- ---- writing

abbrev pub no_oid : Oid
no_oid = record { object = 0; block = 0 }

-- what each event begins with
abbrev pub head_bytes : (kind n : ℕ) → Oid → List ℕ
head_bytes kind n at = number_bytes kind ++ number_bytes n ++ number_bytes at.object ++ number_bytes at.block

abbrev pub put_bytes : (size fill : ℕ) → List ℕ
put_bytes size fill = number_bytes size ++ number_bytes fill

abbrev pub patch_bytes : ℕ → List ℕ → List ℕ
patch_bytes from bytes = number_bytes from ++ number_bytes (length bytes) ++ bytes

abbrev pub ptr_bytes : Ptr → List ℕ
ptr_bytes ptr = number_bytes ptr.key.offset ++ number_bytes ptr.key.size ++ number_bytes ptr.key.birth ++ ptr.digest.0

-- a Load and a Synced have two kinds each: of those that keep a hold, and of those that don't
abbrev pub load_kind : (held : Bool) → ℕ
load_kind held = if held then 9 else 3

abbrev pub synced_kind : (held : Bool) → ℕ
synced_kind held = if held then 10 else 8

abbrev pub event_bytes : CellEvent → List ℕ
event_bytes (Get n at) = head_bytes 0 n at
event_bytes (Pin n at) = head_bytes 1 n at
event_bytes (Unpin n at) = head_bytes 2 n at
event_bytes (Load n at held) = head_bytes (load_kind held) n at
event_bytes (Evict n at) = head_bytes 4 n at
event_bytes (End n) = head_bytes 5 n no_oid
event_bytes (Put n at size fill) = head_bytes 6 n at ++ put_bytes size fill
event_bytes (Patch n at from bytes) = head_bytes 7 n at ++ patch_bytes from bytes
event_bytes (Synced n at ptr held) = head_bytes (synced_kind held) n at ++ ptr_bytes ptr

-- ---- reading

abbrev pub narrow : ℕ → ℕ
narrow x = if nat_lt x (2 ^ 32) then x else 0

abbrev pub byte : ℕ → ℕ
byte x = if nat_lt x (2 ^ 8) then x else 0

abbrev pub taken_head : List ℕ → Head × List ℕ
taken_head xs =
    let kind = taken_number xs in
    let n = taken_number kind.1 in
    let object = taken_number n.1 in
    let block = taken_number object.1 in
    (record { kind = kind.0; n = narrow n.0; at = record { object = object.0; block = block.0 } }, block.1)

-- an event of a kind that has nothing but its head
abbrev pub plain_event : Head → CellEvent
plain_event h =
    if h.kind == 0 then Get h.n h.at
    else (if h.kind == 1 then Pin h.n h.at
    else (if h.kind == 2 then Unpin h.n h.at
    else (if h.kind == 3 then Load h.n h.at false
    else (if h.kind == 9 then Load h.n h.at true
    else (if h.kind == 4 then Evict h.n h.at
    else End h.n)))))

abbrev pub taken_put : Head → List ℕ → CellEvent × List ℕ
taken_put h xs =
    let size = taken_number xs in
    let fill = taken_number size.1 in
    (Put h.n h.at (narrow size.0) (byte fill.0), fill.1)

-- so many bytes that a patch writes, where there are as many
abbrev pub taken_shown : ℕ → List ℕ → List ℕ × List ℕ
taken_shown len xs = if nat_le len 64 && nat_le len (length xs) then (take len xs, drop len xs) else ([], xs)

abbrev pub taken_patch : Head → List ℕ → CellEvent × List ℕ
taken_patch h xs =
    let from = taken_number xs in
    let len = taken_number from.1 in
    let shown = taken_shown (narrow len.0) len.1 in
    (Patch h.n h.at (narrow from.0) shown.0, shown.1)

abbrev pub taken_synced : Head → (held : Bool) → List ℕ → CellEvent × List ℕ
taken_synced h held xs =
    let offset = taken_number xs in
    let size = taken_number offset.1 in
    let birth = taken_number size.1 in
    let digest = taken_bytes birth.1 in
    (Synced h.n h.at (record { key = record { offset = offset.0; size = size.0; birth = birth.0 }; digest = record { 0 = digest.0 } }) held, digest.1)

-- the event of which the head was read, and what is left behind it
abbrev pub taken_tail : Head → List ℕ → CellEvent × List ℕ
taken_tail h xs =
    if h.kind == 6 then taken_put h xs
    else (if h.kind == 7 then taken_patch h xs
    else (if h.kind == 8 then taken_synced h false xs
    else (if h.kind == 10 then taken_synced h true xs
    else (plain_event h, xs))))

-- the event that stands at the front, and what is left behind it
abbrev pub taken_event : List ℕ → CellEvent × List ℕ
taken_event xs = taken_tail (taken_head xs).0 (taken_head xs).1

-- ---- what fits

pub record HeadFits (number : ℕ) (at : Oid) : Type 0 where
  pub n : number < 2 ^ 32
  pub object : at.object < 2 ^ 64
  pub block : at.block < 2 ^ 64

pub record PtrFits (ptr : Ptr) : Type 0 where
  pub offset : ptr.key.offset < 2 ^ 64
  pub size : ptr.key.size < 2 ^ 64
  pub birth : ptr.key.birth < 2 ^ 64
  pub digest : length ptr.digest.0 ≡ 32

-- the numbers of an event fit, so that it is read back
abbrev pub IsPackable : CellEvent → Type 0
IsPackable (Get n at) = HeadFits n at
IsPackable (Pin n at) = HeadFits n at
IsPackable (Unpin n at) = HeadFits n at
IsPackable (Load n at held) = HeadFits n at
IsPackable (Evict n at) = HeadFits n at
IsPackable (End n) = HeadFits n no_oid
IsPackable (Put n at size fill) = HeadFits n at × ((size < 2 ^ 32) × (fill < 2 ^ 8))
IsPackable (Patch n at from bytes) = HeadFits n at × ((from < 2 ^ 32) × (length bytes ≤ 64))
IsPackable (Synced n at ptr held) = HeadFits n at × PtrFits ptr
