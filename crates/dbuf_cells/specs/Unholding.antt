-- What `unhold` answers.
use Rattle.std.specs.Prelude.{◌≡◌, ℕ, false, [], ◌∷◌, Result, Ok, Err}
use Rattle.arc_core.specs.declared.config.Config.{Config}
use Rattle.dbuf_state.specs.Outline.{has_pin_at}
use Rattle.dbuf_state.specs.declared.event.CellEvent.TheVariants.{Unpin}
use Rattle.dbuf_state.specs.declared.fault.DbufFault.{DbufFault}
use Rattle.dbuf_state.specs.declared.fault.DbufFault.TheVariants as fault
use Rattle.dbuf_state.specs.declared.oid.Oid.{Oid}
use Rattle.dbuf_cells.specs.Places.{cell_of}
use Rattle.dbuf_cells.specs.Turns.{CellTurn, OnHeap, OnceAtRest, Operates, PartyPlace, held_in, outline_in}

-- The party had no pin there, or memory was refused, and the cell is as before.
abbrev pub NotUnholds : Config → (i : ℕ) → Oid → OnHeap → (p q : PartyPlace) → DbufFault → Type 0
NotUnholds g i at before p q (fault.NoPin named) = (named ≡ at) × CellTurn g i before [] [] p q × (has_pin_at p.number at (outline_in before) ≡ false)
NotUnholds g i at before p q fault.NoMemory = CellTurn g i before [] [] p q
NotUnholds g i at before p q (fault.NoBlock named) = ⊥
NotUnholds g i at before p q (fault.Range end size) = ⊥
NotUnholds g i at before p q (fault.Read why) = ⊥

-- In one turn of the cell a pin of the party's went, and what was over the limit was evicted; or none went, for one of these causes.
abbrev pub Unholds : {T : Type 0} → Config → (i : ℕ) → Oid → OnHeap → (p q : PartyPlace) → Result T DbufFault → Type 0
Unholds g i at before p q (Ok done) = Operates g i before (held_in before) (Unpin p.number at ∷ []) [] p q
Unholds g i at before p q (Err why) = NotUnholds g i at before p q why

-- the party waited so often, took the block's cell, which was so then, and had its answer
abbrev pub AnswersUnhold : {T : Type 0} → Config → Oid → (p q : PartyPlace) → Result T DbufFault → Type 0
AnswersUnhold g at p q result = OnceAtRest g at p q (λ before r s. Unholds g (cell_of g.cells at) at before r s result)
