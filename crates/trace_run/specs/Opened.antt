-- The parties of a cache that has just been made.
use Rattle.std.specs.Prelude.{◌≡◌, ℕ, ◌<◌, List, [], length, map}
use mathlib.Core.Option.{some}
use lib.ListN.{get_elem?}
use Rattle.turn_table.specs.Places.{HasNumber, Place}
use Rattle.arc_table.specs.declared.view.Known.{Known}
use Rattle.arc_table.specs.Cache.{Cache}
use Rattle.arc_table.specs.Geometry.{parties_of}
use Rattle.arc_table.specs.Views.{no_ledger}
use Rattle.dbuf_cells.specs.declared.kept.Kept.{Kept}
use Rattle.dbuf_state.specs.CellLog.{CellLog, fresh}
use Rattle.dbuf_state.specs.declared.dbuf.Content.TheVariants.{Clean}
use Rattle.dbuf_state.specs.declared.state.DbState.TheVariants as state
use Rattle.dbuf_state.specs.declared.state.Mapping.{Mapping}
use Rattle.trace_run.specs.KeptBlocks.{Stands}
use Rattle.trace_run.specs.Deeds.{HasToldAll}
use Rattle.trace_run.specs.Making.{MadeItsOwn}

-- a cell at its start: it has this limit and maps this, and nothing was done to it
pub record HasBegun (limit : ℕ) (opening : List Mapping) (cell : CellLog Kept) : Type 0 where
  pub limit_is : cell.limit ≡ limit
  pub opening_is : cell.opening ≡ opening
  pub dbufs : cell.dbufs ≡ map (λ m. fresh m.at (Clean m.ptr) state.Uncached) opening
  pub history : cell.history ≡ []

module _ {C : Type 0} where
  -- A party that has done nothing yet, and seen nothing: it is one of so many as the cache has, and has begun nothing.
  pub record IsNew (cache : Cache) (p : Place (Known C)) : Type 0 where
    pub parties : p.parties ≡ parties_of cache.config
    pub begun : p.own.ledger ≡ no_ledger
    pub seen : p.own.seen ≡ []
    pub stands : Stands cache p []
    pub told : HasToldAll cache.config [] [] p
    pub only : MadeItsOwn cache.config p

  -- it is alone under its number
  pub record IsOpened (cache : Cache) (n : ℕ) (p : Place (Known C)) : Type 0 where
    pub number : p.number ≡ n
    pub joined : p.joined ≡ []
    pub new : IsNew cache p

  -- the parties of the callers and that of the feeder, by their numbers
  pub record AreOpened (cache : Cache) (ps : List (Place (Known C))) : Type 0 where
    pub count : length ps ≡ parties_of cache.config
    pub each : (n : ℕ) (p : Place (Known C)) → get_elem? ps n ≡ some p → IsOpened cache n p

  -- the first party, which those of the numbers from 1 on and below this one have joined
  pub record HasJoined (cache : Cache) (count : ℕ) (p : Place (Known C)) : Type 0 where
    pub number : p.number ≡ 0
    pub has : (n : ℕ) → n < count → HasNumber n p
    pub low : (n : ℕ) → HasNumber n p → n < count
    pub new : IsNew cache p
