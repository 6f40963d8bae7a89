-- Where the scans of a shard stand between two calls. No public clause cites this module.
use Rattle.std.specs.Prelude.{◌≡◌, List, Option, Some, None}
use Rattle.blk_ptr.specs.declared.key.Key.{Key}
use Rattle.arc_core.specs.declared.shard.halts.Halts.{Halts}
use Rattle.arc_core.specs.declared.shard.halts.Sought.{Sought}
use Rattle.arc_core.specs.declared.event.Event.{Event}
use Rattle.arc_core.specs.declared.table.search.Search.{Search}
use Rattle.arc_core.specs.FeedWalk.{IsWalk}
use Rattle.arc_core.specs.PlainShard.{PlainShard}
use Rattle.arc_core.specs.Search.{Stands}
use Rattle.arc_core.specs.Sparing.{victims}

-- neither has begun
pub record AreForgotten (h : Halts) : Type 0 where
  pub event : h.sought.event ≡ None
  pub walk : h.walk ≡ None

-- a search for the victims of an event, if it has begun
abbrev pub IsSoughtFor : PlainShard → (marked : List Key) → Option Event → Search → Type 0
IsSoughtFor s marked None x = Unit {0}
IsSoughtFor s marked (Some e) x = Stands s marked (victims s e) x

abbrev pub IsSought : PlainShard → (marked : List Key) → Sought → Type 0
IsSought s marked v = IsSoughtFor s marked v.event v.search

pub record AreHalts (s : PlainShard) (marked : List Key) (h : Halts) : Type 0 where
  pub sought : IsSought s marked h.sought
  pub walk : IsWalk s h.walk
