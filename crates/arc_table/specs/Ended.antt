-- What is left of a cache that is closed.
use Rattle.std.specs.Prelude.{◌≡◌, List, [], ◌∷◌, ◌++◌, length, map, ◌*◌}
use Rattle.hash_chain.specs.Chain.{Chain}
use Rattle.arc_core.specs.declared.config.Config.{Config}
use Rattle.arc_core.specs.ShardLog.{ShardLog}
use Rattle.turn_table.specs.Board.{opening}
use Rattle.turn_table.specs.Places.{Place, ShowAll}
use Rattle.arc_table.specs.declared.item.Item.{Item}
use Rattle.arc_table.specs.declared.item.Item.TheVariants as item
use Rattle.arc_table.specs.declared.view.Known.{Known}
use Rattle.arc_table.specs.Cache.{Cache, IsPartyOf}
use Rattle.arc_table.specs.Geometry.{parties_of}
use Rattle.arc_table.specs.Items.{Meanings}
use Rattle.arc_table.specs.pact.Rule.{Pact}

-- the numbers with which a cache was made, and the shards and the cells that it had at its end, by their numbers
pub record Ended (C : Type 0) : Type 0 where
  pub config : Config
  pub shards : List ShardLog
  pub cells : List C

module _ {C : Type 0} where
  -- these are parties of the cache, and hold no turn
  abbrev pub AreAtRest : Cache → List (Place (Known C)) → Type 0
  AreAtRest cache [] = Unit {0}
  AreAtRest cache (p ∷ ps) = IsPartyOf cache p × (p.held ≡ []) × AreAtRest cache ps

  -- the cells among these values, the buckets' headers, and the shards
  abbrev pub cells_in : List (Item C) → List C
  cells_in [] = []
  cells_in (item.Cell c ∷ vs) = c ∷ cells_in vs
  cells_in (item.Bucket b ∷ vs) = cells_in vs
  cells_in (item.Shard l ∷ vs) = cells_in vs

  abbrev pub chains_in : List (Item C) → List Chain
  chains_in [] = []
  chains_in (item.Cell c ∷ vs) = chains_in vs
  chains_in (item.Bucket b ∷ vs) = b ∷ chains_in vs
  chains_in (item.Shard l ∷ vs) = chains_in vs

  abbrev pub shards_in : List (Item C) → List ShardLog
  shards_in [] = []
  shards_in (item.Cell c ∷ vs) = shards_in vs
  shards_in (item.Bucket b ∷ vs) = shards_in vs
  shards_in (item.Shard l ∷ vs) = l ∷ shards_in vs

module _ {C : Type 0} (m : Meanings C) where
  -- The cache ended with its numbers and with these cells and shards: with its buckets, by the numbers of the turns, they meet the pact with all turns free and with what these parties know
  pub record Ends (cache : Cache) (ps : List (Place (Known C))) (e : Ended C) : Type 0 where
    pub config : e.config ≡ cache.config
    pub views : List (Known C)
    pub buckets : List Chain
    pub parties : length views ≡ parties_of cache.config
    pub shown : ShowAll views ps
    pub cells : length e.cells ≡ cache.config.cells
    pub chains : length buckets ≡ cache.config.shards * cache.config.buckets
    pub shards : length e.shards ≡ cache.config.shards
    pub pact : Pact m (opening (map item.Cell e.cells ++ (map item.Bucket buckets ++ map item.Shard e.shards)) views)
