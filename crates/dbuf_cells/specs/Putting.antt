-- What `put` answers.
use Rattle.std.specs.Prelude.{◌≡◌, ◌⊎◌, ℕ, Bool, true, false, List, [], ◌∷◌, Some, Result, Ok, Err}
use Rattle.blk_ptr.specs.declared.ptr.Ptr.{Ptr}
use Rattle.arc_core.specs.declared.config.Config.{Config}
use Rattle.arc_core.specs.declared.event.Event.{Event}
use Rattle.arc_core.specs.declared.event.Event.TheVariants.{Release}
use Rattle.arc_table.specs.Geometry.{cell_number}
use Rattle.dbuf_state.specs.Outline.{Outline, is_cached_at, mapped_at}
use Rattle.dbuf_state.specs.declared.event.CellEvent.TheVariants.{Put}
use Rattle.dbuf_state.specs.declared.fault.DbufFault.{DbufFault}
use Rattle.dbuf_state.specs.declared.fault.DbufFault.TheVariants as fault
use Rattle.dbuf_state.specs.declared.oid.Oid.{Oid}
use Rattle.dbuf_state.specs.declared.state.Mapped.TheVariants.{Clean}
use Rattle.dbuf_cells.specs.Places.{cell_of}
use Rattle.dbuf_cells.specs.Turns.{CellTurn, OnHeap, OnceAtRest, Operates, PartyPlace, held_in, outline_in}

-- Of a clean and cached block the hold that its dbuf kept is given up by the cell's number c. It kept none where the block was loose, dirty, uncached or not mapped.
pub data Releases (c : ℕ) (at : Oid) (held : Bool) (o : Outline) (es : List Event) : Type 0 where
  no_hold : held ≡ false → es ≡ [] → Releases c at held o es
  one_hold : held ≡ true → (ptr : Ptr) (sole : Bool) → mapped_at at o ≡ Some (Clean ptr) → is_cached_at at o ≡ true → es ≡ Release c ptr.key sole ∷ [] → Releases c at held o es

-- In one turn of the cell the block became so many bytes of this value, what it kept was given up, and what was over the limit was evicted.
pub record Puts (g : Config) (i : ℕ) (at : Oid) (size fill : ℕ) (before : OnHeap) (p q : PartyPlace) : Type 0 where
  pub es : List Event
  pub releases : Releases (cell_number g i) at (held_in before at) (outline_in before) es
  pub operates : Operates g i before (held_in before) (Put p.number at size fill ∷ []) es p q

-- Or memory was refused: before any turn, or with the cell in hand, which is as before.
abbrev pub AnswersPut : {T : Type 0} → Config → Oid → (size fill : ℕ) → (p q : PartyPlace) → Result T DbufFault → Type 0
AnswersPut g at size fill p q (Ok done) = OnceAtRest g at p q (Puts g (cell_of g.cells at) at size fill)
AnswersPut g at size fill p q (Err fault.NoMemory) = (q ≡ p) ⊎ OnceAtRest g at p q (λ before r s. CellTurn g (cell_of g.cells at) before [] [] r s)
AnswersPut g at size fill p q (Err (fault.NoBlock named)) = ⊥
AnswersPut g at size fill p q (Err (fault.Range end most)) = ⊥
AnswersPut g at size fill p q (Err (fault.NoPin named)) = ⊥
AnswersPut g at size fill p q (Err (fault.Read why)) = ⊥
