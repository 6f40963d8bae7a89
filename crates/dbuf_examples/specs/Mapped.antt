-- Cells that only map blocks, so that they may move into a cache.
use Rattle.std.specs.Prelude.{◌≡◌, ℕ, [], map}
use Rattle.arc_table.specs.Cache.{Cache}
use Rattle.arc_examples.specs.Ready.{IsReady}
use Rattle.dbuf_state.specs.CellLog.{CellLog, fresh}
use Rattle.dbuf_state.specs.declared.dbuf.Content.TheVariants.{Clean}
use Rattle.dbuf_state.specs.declared.state.DbState.TheVariants.{Uncached}
use Rattle.dbuf_cells.specs.Turns.{OnHeap, PartyPlace}
use Rattle.dbuf_cells.specs.declared.kept.Kept.{Kept}

-- nothing was done to the cell but that blocks were mapped
pub record IsMapped (c : CellLog Kept) : Type 0 where
  pub history : c.history ≡ []
  pub dbufs : c.dbufs ≡ map (λ m. fresh m.at (Clean m.ptr) Uncached) c.opening

-- the party is ready for a call, and has this number
pub record IsOne (cache : Cache) (n : ℕ) (p : PartyPlace) : Type 0 where
  pub ready : IsReady cache p
  pub number : p.number ≡ n
