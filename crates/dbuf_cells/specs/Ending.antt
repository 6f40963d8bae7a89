-- What `end_cells` answers.
use Rattle.std.specs.Prelude.{◌≡◌, ℕ, zero, suc, ◌<◌, Bool, List, [], ◌∷◌, ◌++◌, IsPermutation, IsSortedBy, Result, Ok, Err}
use Rattle.std.specs.List.{filter}
use Rattle.blk_ptr.specs.declared.ptr.Ptr.{Ptr}
use Rattle.arc_core.specs.declared.config.Config.{Config}
use Rattle.arc_core.specs.declared.event.Event.{Event}
use Rattle.arc_table.specs.Geometry.{cell_number}
use Rattle.dbuf_state.specs.Oids.{oid_lt}
use Rattle.dbuf_state.specs.Outline.{Outline, OutlineDbuf}
use Rattle.dbuf_state.specs.declared.event.CellEvent.TheVariants.{End}
use Rattle.dbuf_state.specs.declared.oid.Oid.{Oid}
use Rattle.dbuf_state.specs.declared.state.Mapped.TheVariants.{Clean}
use Rattle.dbuf_cells.specs.Turns.{CellTurn, OnHeap, PartyPlace, drops_if, held_in, outline_in}

abbrev pub lower_oid : OutlineDbuf → OutlineDbuf → Bool
lower_oid a b = oid_lt a.at b.at

-- these are all dbufs of a cell that have the bytes of a clean block, each once, by rising Oids
pub record AreAllCached (o : Outline) (ds : List OutlineDbuf) : Type 0 where
  pub rising : IsSortedBy lower_oid ds
  pub all : IsPermutation (filter (λ d. d.cached) o.dbufs) ds

-- of each of these dbufs that kept a hold, in this order, it was dropped with the cell's number c, on the key of its pointer
abbrev pub DropsEach : (c : ℕ) → (held : Oid → Bool) → List OutlineDbuf → List Event → Type 0
DropsEach c held [] es = es ≡ []
DropsEach c held (d ∷ ds) es = (ptr : Ptr) × (drops : List Event) × (rest : List Event) × (d.mapped ≡ Clean ptr) × (es ≡ drops ++ rest) × (drops ≡ drops_if (held d.at) c ptr.key) × DropsEach c held ds rest

-- In one turn of the cell all that its dbufs kept was given back, and that the cell ended was noted, and nothing else.
pub record EndsCell (g : Config) (i : ℕ) (p q : PartyPlace) : Type 0 where
  pub before : OnHeap
  pub kept : List OutlineDbuf
  pub drops : List Event
  pub all : AreAllCached (outline_in before) kept
  pub dropped : DropsEach (cell_number g i) (held_in before) kept drops
  pub turn : CellTurn g i before (End p.number ∷ []) drops p q

-- so many cells were ended, one after the other, from the cell i on
abbrev pub EndsFrom : Config → (i count : ℕ) → PartyPlace → PartyPlace → Type 0
EndsFrom g i zero p q = q ≡ p
EndsFrom g i (suc count) p q = (r : PartyPlace) × EndsCell g i p r × EndsFrom g (suc i) count r q

-- the party took the cell and gave it back as it was
abbrev pub Untouched : Config → (i : ℕ) → (p q : PartyPlace) → Type 0
Untouched g i p q = (before : OnHeap) × CellTurn g i before [] [] p q

-- The cells of lower numbers were ended. At the next one memory was refused, and it is as before.
pub record StopsAtCell (g : Config) (p q : PartyPlace) : Type 0 where
  pub ended : ℕ
  pub below : ended < g.cells
  pub reached : PartyPlace
  pub ends : EndsFrom g 0 ended p reached
  pub next : Untouched g ended reached q

-- all cells were ended by rising numbers, or memory was refused at one of them
abbrev pub AnswersEnd : {T E : Type 0} → Config → (p q : PartyPlace) → Result T E → Type 0
AnswersEnd g p q (Ok done) = EndsFrom g 0 g.cells p q
AnswersEnd g p q (Err why) = StopsAtCell g p q
