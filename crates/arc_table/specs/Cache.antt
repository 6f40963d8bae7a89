-- The cache and its parties, as their calls see them.
use Rattle.std.specs.Prelude.{◌≡◌, List}
use Rattle.arc_core.specs.declared.config.Config.{Config}
use Rattle.arc_core.specs.Config.{IsConfig}
use Rattle.turn_table.specs.Places.{Place, Row, newcomers}
use Rattle.turn_table.specs.Places as places
use Rattle.arc_table.specs.declared.about.About.{About}
use Rattle.arc_table.specs.declared.view.Known.{Known}
use Rattle.arc_table.specs.Geometry.{parties_of, turns_of}
use Rattle.arc_table.specs.Views.{newcomer}

-- a cache: its row of turns, and the numbers with which it was made
pub record Cache : Type 0 where
  pub row : Row
  pub config : Config

-- what is always so of it
pub record IsCache (row : Row) (config : Config) : Type 0 where
  pub valid : IsConfig config
  pub turns : row.turns ≡ turns_of config
  pub parties : row.parties ≡ parties_of config

module _ {C : Type 0} where
  -- the party is one of this cache
  pub record IsPartyOf (cache : Cache) (p : Place (Known C)) : Type 0 where
    pub row : places.IsPartyOf cache.row p
    pub config : p.own.about.config ≡ cache.config

  -- the parties of a cache at its start, by their numbers
  abbrev pub all_newcomers : Cache → About → List (Place (Known C))
  all_newcomers cache about = newcomers cache.row.table (parties_of cache.config) (newcomer about) 0 (parties_of cache.config)
