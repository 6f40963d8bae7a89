-- How the events, the opening and the claims of a cell are written as numbers, and how they are read back.
use Rattle.std.specs.Prelude.{◌≡◌, ℕ, zero, suc, ◌==◌, Bool, if◌then◌else◌, List, [], ◌∷◌, ◌++◌, length, take, drop, slice_index}
use Rattle.blk_ptr.specs.declared.ptr.Ptr.{Ptr}
use Rattle.dbuf_state.specs.declared.dbuf.Content.{Content}
use Rattle.dbuf_state.specs.declared.dbuf.Content.TheVariants.{Clean, Dirty}
use Rattle.dbuf_state.specs.declared.dbuf.Dbuf.{Dbuf}
use Rattle.dbuf_state.specs.declared.event.CellEvent.{CellEvent}
use Rattle.dbuf_state.specs.declared.event.CellEvent.TheVariants.{Get, Put, Patch, Pin, Unpin, Load, Evict, Synced, End}
use Rattle.dbuf_state.specs.declared.oid.Oid.{Oid}
use Rattle.dbuf_state.specs.declared.state.DbState.{DbState}
use Rattle.dbuf_state.specs.declared.state.DbState.TheVariants.{Uncached, Read, Fill, Cached, Evicting}
use Rattle.dbuf_state.specs.declared.state.Mapping.{Mapping}

-- a pointer: its key, and its digest behind the number of the digest's bytes
abbrev pub ptr_numbers : Ptr → List ℕ
ptr_numbers p = p.key.offset ∷ (p.key.size ∷ (p.key.birth ∷ (length p.digest.0 ∷ p.digest.0)))

-- whether the dbuf keeps a hold
abbrev pub held_number : Bool → ℕ
held_number held = if held then 1 else 0

-- an event: who, which kind, and what it says
abbrev pub event_numbers : CellEvent → List ℕ
event_numbers (Get n at) = n ∷ (0 ∷ (at.object ∷ (at.block ∷ [])))
event_numbers (Put n at size fill) = n ∷ (1 ∷ (at.object ∷ (at.block ∷ (size ∷ (fill ∷ [])))))
event_numbers (Patch n at from bytes) = n ∷ (2 ∷ (at.object ∷ (at.block ∷ (from ∷ bytes))))
event_numbers (Pin n at) = n ∷ (3 ∷ (at.object ∷ (at.block ∷ [])))
event_numbers (Unpin n at) = n ∷ (4 ∷ (at.object ∷ (at.block ∷ [])))
event_numbers (Load n at held) = n ∷ (5 ∷ (at.object ∷ (at.block ∷ (held_number held ∷ []))))
event_numbers (Evict n at) = n ∷ (6 ∷ (at.object ∷ (at.block ∷ [])))
event_numbers (Synced n at ptr held) = n ∷ (7 ∷ (at.object ∷ (at.block ∷ (held_number held ∷ ptr_numbers ptr))))
event_numbers (End n) = n ∷ (8 ∷ [])

-- mapped Oids, one after the other
abbrev pub mapping_numbers : List Mapping → List ℕ
mapping_numbers [] = []
mapping_numbers (m ∷ ms) = m.at.object ∷ (m.at.block ∷ ptr_numbers m.ptr) ++ mapping_numbers ms

abbrev pub opening_numbers : ℕ → List Mapping → List ℕ
opening_numbers limit ms = limit ∷ mapping_numbers ms

-- ---- reading them back

abbrev pub oid_in : List ℕ → Oid
oid_in xs = record { object = slice_index xs 0; block = slice_index xs 1 }

abbrev pub ptr_in : List ℕ → Ptr
ptr_in xs = record {
  key = record { offset = slice_index xs 0; size = slice_index xs 1; birth = slice_index xs 2 };
  digest = record { 0 = take (slice_index xs 3) (drop 4 xs) };
}

abbrev pub event_of_kind : ℕ → ℕ → List ℕ → CellEvent
event_of_kind n kind xs =
    if kind == 0 then Get n (oid_in xs) else (
    if kind == 1 then Put n (oid_in xs) (slice_index xs 2) (slice_index xs 3) else (
    if kind == 2 then Patch n (oid_in xs) (slice_index xs 2) (drop 3 xs) else (
    if kind == 3 then Pin n (oid_in xs) else (
    if kind == 4 then Unpin n (oid_in xs) else (
    if kind == 5 then Load n (oid_in xs) (slice_index xs 2 == 1) else (
    if kind == 6 then Evict n (oid_in xs) else (
    if kind == 7 then Synced n (oid_in xs) (ptr_in (drop 3 xs)) (slice_index xs 2 == 1) else End n)))))))

-- the event that is written so
abbrev pub event_in : List ℕ → CellEvent
event_in xs = event_of_kind (slice_index xs 0) (slice_index xs 1) (drop 2 xs)

-- at most so many mapped Oids, as far as the numbers go
abbrev pub mappings_in : ℕ → List ℕ → List Mapping
mappings_in zero xs = []
mappings_in (suc most) [] = []
mappings_in (suc most) (x ∷ xs) =
    record { at = oid_in (x ∷ xs); ptr = ptr_in (drop 2 (x ∷ xs)) } ∷ mappings_in most (drop (slice_index (x ∷ xs) 5) (drop 6 (x ∷ xs)))

-- who did it
abbrev pub number_of : CellEvent → ℕ
number_of (Get n at) = n
number_of (Put n at size fill) = n
number_of (Patch n at from bytes) = n
number_of (Pin n at) = n
number_of (Unpin n at) = n
number_of (Load n at held) = n
number_of (Evict n at) = n
number_of (Synced n at ptr held) = n
number_of (End n) = n

-- each event begins with who did it
abbrev pub AreEventsNumbered : Type 0
AreEventsNumbered = (e : CellEvent) → (rest : List ℕ) × (event_numbers e ≡ number_of e ∷ rest)

-- each is read back as what was written
abbrev pub AreEventsRead : Type 0
AreEventsRead = (e : CellEvent) → event_in (event_numbers e) ≡ e

abbrev pub AreMappingsRead : Type 0
AreMappingsRead = (ms : List Mapping) → mappings_in (length (mapping_numbers ms)) (mapping_numbers ms) ≡ ms

-- ---- claims: the Oids whose dbufs a number is reading, each with its pointer

abbrev pub claim_in : ℕ → Oid → Content → DbState → List Mapping
claim_in n at (Dirty bytes) state = []
claim_in n at (Clean ptr) Uncached = []
claim_in n at (Clean ptr) (Read m) = if m == n then record { at = at; ptr = ptr } ∷ [] else []
claim_in n at (Clean ptr) Fill = []
claim_in n at (Clean ptr) Cached = []
claim_in n at (Clean ptr) Evicting = []

abbrev pub claims_in : {H : Type 0} → ℕ → List (Dbuf H) → List Mapping
claims_in n [] = []
claims_in n (d ∷ ds) = claim_in n d.at d.content d.state ++ claims_in n ds
