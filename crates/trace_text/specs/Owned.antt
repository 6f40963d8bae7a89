-- The history of a shard, in a list of its own or in the shard.
use Rattle.std.specs.Prelude.{ℕ, List, [], Option, Some, None, slice_get}
use Rattle.std.specs.Arc.{arc_value}
use Rattle.arc_core.specs.ShardLog.{ShardLog}
use Rattle.arc_core.specs.declared.event.Event.{Event}
use Rattle.trace_text.specs.declared.items.Events.{Events}
use Rattle.trace_text.specs.declared.items.Events.TheVariants.{Listed, InShard}

-- the history of a shard, where there is one
abbrev pub history_of : Option ShardLog → List Event
history_of (Some log) = log.history
history_of None = []

-- the history of the shard of this number, counted from 0
abbrev pub history_at : List ShardLog → ℕ → List Event
history_at logs number = history_of (slice_get logs number)

-- the events that lie there
abbrev pub events_in : Events → List Event
events_in (Listed events) = events.events
events_in (InShard shards number) = history_at (arc_value shards).items number
