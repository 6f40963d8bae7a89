-- What a front tells that a call answers.
use Rattle.std.specs.Prelude.{◌≡◌, IsTrue, List, length, map}
use Rattle.blk_ptr.specs.declared.key.Key.{Key}
use Rattle.blk_ptr.specs.Hash.{shard_of}
use Rattle.arc_core.specs.declared.config.Config.{Config}
use Rattle.arc_core.specs.declared.event.Event.{Event}
use Rattle.arc_core.specs.PlainShard.{PlainShard, opening_shard}
use Rattle.arc_core.specs.Replay.{is_legal_history, replay}
use Rattle.turn_table.specs.Places.{Place}
use Rattle.arc_table.specs.declared.front.Front.{Front}
use Rattle.arc_table.specs.declared.view.Known.{Known}
use Rattle.arc_table.specs.declared.view.Line.TheVariants as line
use Rattle.arc_table.specs.Fronts.{StartsWith, front_of}
use Rattle.arc_table.specs.Geometry.{shard_turn}

-- a shard of this cache before all events
abbrev pub opening_of : Config → PlainShard
opening_of g = opening_shard g.c g.mintime g.bounds

module _ {C : Type 0} where
  -- The front is of the key's shard: it is all that the party has seen of it since the call, where it is q, and begins with what it had
  -- seen before, where it was p. P is so of the shard after the front's events, which are legal.
  pub record Tells (P : PlainShard → Type 0) (g : Config) (k : Key) (p q : Place (Known C)) (front : Front) : Type 0 where
    pub events : List Event
    pub shard : front.shard ≡ shard_of g.shards k
    pub len : front.len ≡ length events
    pub seen : front_of (shard_turn g k) q.own.seen ≡ map line.Event events
    pub had : StartsWith (map line.Event events) (front_of (shard_turn g k) p.own.seen)
    pub legal : IsTrue (is_legal_history (opening_of g) events)
    pub so : P (replay (opening_of g) events)
