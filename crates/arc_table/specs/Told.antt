-- What it means that what a party did stands in what it has seen of the shards.
use Rattle.std.specs.Prelude.{ℕ, List}
use Rattle.blk_ptr.specs.Hash.{shard_of}
use Rattle.arc_core.specs.declared.config.Config.{Config}
use Rattle.arc_core.specs.Operations.{Act, Tell, acts_in, moments, own_moments}
use Rattle.turn_table.specs.Places.{Place}
use Rattle.arc_table.specs.declared.view.Known.{Known}
use Rattle.arc_table.specs.Telling.{opening_of}
use Rattle.arc_table.specs.Seen.{seen_of}

module _ {C : Type 0} where
  -- In each shard, the events of the party's own number are those of these acts, one after another, each once.
  abbrev pub IsTold : Config → List Act → Place (Known C) → Type 0
  IsTold g acts p = (shard : ℕ) → Tell (acts_in (shard_of g.shards) shard p.number acts) (own_moments p.number (moments (opening_of g) (seen_of g shard p)))
