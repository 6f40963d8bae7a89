-- What the turns have when the cache is made.
use Rattle.std.specs.Prelude.{◌≡◌, ℕ, List, [], length, map}
use mathlib.Core.Option.{some}
use lib.ListN.{get_elem?}
use Rattle.arc_core.specs.declared.config.Config.{Config}
use Rattle.arc_core.specs.ShardLog.{ShardLog, opening_log}
use Rattle.arc_table.specs.declared.about.About.{About}
use Rattle.arc_table.specs.declared.item.Item.{Item}
use Rattle.arc_table.specs.declared.item.Item.TheVariants as item
use Rattle.arc_table.specs.Geometry.{IsBucket, IsShard, turns_of}
use Rattle.arc_table.specs.Items.{Meanings, no_chain}

-- a shard at its start
pub record IsOpeningLog (g : Config) (l : ShardLog) : Type 0 where
  pub now : l.now ≡ (opening_log g.c g.mintime g.bounds).now
  pub opening : l.opening ≡ (opening_log g.c g.mintime g.bounds).opening
  pub history : l.history ≡ []

-- so many shards at their start
abbrev pub AreOpeningLogs : Config → ℕ → List ShardLog → Type 0
AreOpeningLogs g n ls = (length ls ≡ n) × ((i : ℕ) (l : ShardLog) → get_elem? ls i ≡ some l → IsOpeningLog g l)

module _ {C : Type 0} (m : Meanings C) where
  -- what is settled about a cache that is made of these cells
  abbrev pub about_of : Config → List C → About
  about_of g cells = record { config = g; openings = map m.opening cells }

  -- a cell that may move in: it is sound and empty, without entries and claims
  pub record IsFreshCell (c : C) : Type 0 where
    pub sound : m.sound c
    pub holds : m.holds c ≡ []
    pub entries : m.entries c ≡ []
    pub claims : (n : ℕ) → m.claims c n ≡ []

  -- the cells that may move in: as many as the configuration says
  pub record AreFreshCells (g : Config) (cells : List C) : Type 0 where
    pub count : length cells ≡ g.cells
    pub each : (i : ℕ) (c : C) → get_elem? cells i ≡ some c → IsFreshCell c

module _ {C : Type 0} where
  -- a turn's value at the start: its cell, an empty bucket, or a shard at its start
  abbrev pub IsFresh : Config → List C → ℕ → Item C → Type 0
  IsFresh g cells i (item.Cell c) = get_elem? cells i ≡ some c
  IsFresh g cells i (item.Bucket b) = IsBucket g i × (b ≡ no_chain)
  IsFresh g cells i (item.Shard l) = IsShard g i × IsOpeningLog g l

  pub record AreFresh (g : Config) (cells : List C) (values : List (Item C)) : Type 0 where
    pub count : length values ≡ turns_of g
    pub each : (i : ℕ) (v : Item C) → get_elem? values i ≡ some v → IsFresh g cells i v
