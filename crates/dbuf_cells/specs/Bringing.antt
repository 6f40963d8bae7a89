-- A dbuf's bytes are brought: its block is marked in one turn of its cell, read with no cell in hand, and kept in a second turn.
use Rattle.std.specs.Prelude.{◌≡◌, ℕ, Bool, true, false, if◌then◌else◌, List, [], ◌∷◌, ◌++◌, Some, Result, Ok, Err}
use Rattle.blk_ptr.specs.declared.ptr.Ptr.{Ptr}
use Rattle.vdev_io.specs.declared.device.CacheDev.{Ghosts as DeviceGhosts}
use Rattle.vdev_io.specs.declared.pool.Pool.{Ghosts as PoolGhosts}
use Rattle.arc_core.specs.declared.config.Config.{Config}
use Rattle.arc_core.specs.declared.event.Event.{Event}
use Rattle.arc_core.specs.declared.event.Event.TheVariants.{Drop, Hand}
use Rattle.arc_core.specs.declared.served.ReadFault.{ReadFault}
use Rattle.arc_table.specs.Both.{Does}
use Rattle.arc_table.specs.Fronts.{list_at}
use Rattle.arc_table.specs.Geometry.{cell_number}
use Rattle.arc_table.specs.Reading.{AnswersRead, Outside}
use Rattle.arc_table.specs.declared.read.Read.{Read}
use Rattle.arc_table.specs.declared.read.Read.TheVariants as gave
use Rattle.dbuf_state.specs.Faults.{fault_of}
use Rattle.dbuf_state.specs.Numbers.{mapping_numbers}
use Rattle.dbuf_state.specs.Oids.{oid_eq}
use Rattle.dbuf_state.specs.Outline.{is_cached_at, mapped_at}
use Rattle.dbuf_state.specs.declared.event.CellEvent.{CellEvent}
use Rattle.dbuf_state.specs.declared.event.CellEvent.TheVariants.{Load}
use Rattle.dbuf_state.specs.declared.fault.DbufFault.{DbufFault}
use Rattle.dbuf_state.specs.declared.fault.DbufFault.TheVariants as fault
use Rattle.dbuf_state.specs.declared.oid.Oid.{Oid}
use Rattle.dbuf_state.specs.declared.state.Mapped.TheVariants.{Clean}
use Rattle.dbuf_state.specs.declared.state.Mapping.{Mapping}
use Rattle.dbuf_cells.specs.Turns.{CellTurn, OnHeap, PartyPlace, dbuf_meanings, outline_in}

-- the party claims the block in the cell: it alone brings the bytes of this pointer
pub record Claims (i : ℕ) (at : Oid) (ptr : Ptr) (p : PartyPlace) : Type 0 where
  pub front : List Mapping
  pub back : List Mapping
  pub listed : list_at i p.own.ledger.claims ≡ mapping_numbers (front ++ record { at = at; ptr = ptr } ∷ back)

-- the party claims no bytes of the block: its mark there is gone
abbrev pub IsUnmarked : (i : ℕ) → Oid → PartyPlace → Type 0
IsUnmarked i at p = (ptr : Ptr) → ¬ Claims i at ptr p

-- what a read gave goes to the cell c: a hold by a Hand, and a block that was read past the cache without an event
abbrev pub handed : (n c : ℕ) → Read → List Event
handed n c (gave.Held hold from) = Hand n hold.key c ∷ []
handed n c (gave.Past block kept) = []

-- it gave a hold, and not a block past the cache
abbrev pub gives_hold : Read → Bool
gives_hold (gave.Held hold from) = true
gives_hold (gave.Past block kept) = false

-- an event was made
abbrev pub is_some_made : List Event → Bool
is_some_made [] = false
is_some_made (e ∷ es) = true

-- Which dbufs keep a hold once the block was brought, where they kept holds so: of a block that was loaded, its own does where a hold was handed to the cell.
abbrev pub held_behind : Oid → (loads : List CellEvent) → (hands : List Event) → (Oid → Bool) → Oid → Bool
held_behind at [] hands held b = held b
held_behind at (e ∷ loads) hands held b = if oid_eq at b then is_some_made hands else held b

-- what a read gave is given back by who read it
abbrev pub DropsRead : Config → Read → PartyPlace → PartyPlace → Type 0
DropsRead g (gave.Held hold from) p q = Does dbuf_meanings g hold.key (Drop p.number hold.key ∷ []) p q
DropsRead g (gave.Past block kept) p q = q ≡ p

module _ {P D : Type 0} (pools : PoolGhosts P) (devices : DeviceGhosts D) (g : Config) (i : ℕ) (at : Oid) (t : ℕ) (before now : Outside P D) where
  -- The party p took the cell, which was so: the block was clean with this pointer, and uncached. It marked the block and gave the cell back,
  -- and then read the pointer, with this answer; it is q.
  pub record Reads (ptr : Ptr) (cell : OnHeap) (p q : PartyPlace) (answer : Result Read ReadFault) : Type 0 where
    pub pointer : mapped_at at (outline_in cell) ≡ Some (Clean ptr)
    pub uncached : is_cached_at at (outline_in cell) ≡ false
    pub marked : PartyPlace
    pub turn : CellTurn g i cell [] [] p marked
    pub claims : Claims i at ptr marked
    pub answered : AnswersRead dbuf_meanings pools devices g ptr t before now marked q answer

  -- How the party p, which took the cell, came to have it with the block's bytes. They were there: it goes on in the same turn. Or it read them,
  -- is `back` then, and has taken the cell, which is `mid`, again: its turn begins with a Load, and what was read goes to the cell. The Load says
  -- whether the dbuf keeps a hold: it does but where the block was read past the cache.
  pub data Brings (cell : OnHeap) (p back : PartyPlace) (mid : OnHeap) (loads : List CellEvent) (hands : List Event) : Type 0 where
    here : back ≡ p → mid ≡ cell → loads ≡ [] → hands ≡ [] → now ≡ before → Brings cell p back mid loads hands
    loaded : (ptr : Ptr) (read : Read) → Reads ptr cell p back (Ok read) → mapped_at at (outline_in mid) ≡ Some (Clean ptr) → loads ≡ Load p.number at (gives_hold read) ∷ [] → hands ≡ handed p.number (cell_number g i) read
        → Brings cell p back mid loads hands

  -- Nothing was brought: the read was refused, and the mark taken back in a second turn. Or memory was refused behind the read: the mark was
  -- taken back, and then what was read given back.
  pub data FailsToLoad (cell : OnHeap) (p q : PartyPlace) (why : DbufFault) : Type 0 where
    refused : (ptr : Ptr) (cause : ReadFault) (back : PartyPlace) (mid : OnHeap) → Reads ptr cell p back (Err cause) → CellTurn g i mid [] [] back q → IsUnmarked i at q → why ≡ fault_of cause → FailsToLoad cell p q why
    no_memory : (ptr : Ptr) (read : Read) (back : PartyPlace) (mid : OnHeap) (free : PartyPlace) → Reads ptr cell p back (Ok read) → CellTurn g i mid [] [] back free → IsUnmarked i at free → DropsRead g read free q → why ≡ fault.NoMemory
        → FailsToLoad cell p q why
