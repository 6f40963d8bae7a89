-- The buckets that a call has in hand, each by its turn.
use Rattle.std.specs.Prelude.{ℕ, List, ◌∷◌, drop, length, map}
use Rattle.arc_core.specs.declared.event.Event.{Event}
use Rattle.arc_core.specs.ShardLog.{ShardLog}
use Rattle.hash_chain.specs.Chain.{Chain}
use Rattle.arc_table.specs.declared.in_hand.Hand.{Hand}

abbrev pub buckets_of : Hand → List (ℕ × Chain)
buckets_of hand = (hand.own.turn, hand.own.bucket) ∷ map (λ t. (t.turn, t.bucket)) hand.victims.items

-- the events made since a shard was so
abbrev pub made_since : ShardLog → ShardLog → List Event
made_since before l = drop (length before.history) l.history
