-- The keys that were found on the cache device: the shards begin with them.
use Rattle.std.specs.Prelude.{ℕ, ◌==◌, if◌then◌else◌, List, [], ◌∷◌, ◌++◌, Option, None, Some}
use Rattle.blk_ptr.specs.Hash.{shard_of}
use Rattle.arc_core.specs.declared.config.Config.{Config}
use Rattle.arc_core.specs.declared.event.Event.{Event}
use Rattle.arc_core.specs.declared.event.Event.TheVariants.{Restore}
use Rattle.arc_core.specs.declared.served.Restored.{Restored}
use Rattle.arc_core.specs.PlainShard.{PlainShard}
use Rattle.arc_core.specs.Replay.{replay}
use Rattle.arc_table.specs.Telling.{opening_of}
use Rattle.trace_text.specs.declared.op.Op.{Op}
use Rattle.trace_text.specs.declared.rebuilt.Rebuilt.{Rebuilt}
use Rattle.trace_text.specs.declared.reply.Reply.{Reply}
use Rattle.trace_run.specs.FeedEvents.{events_of_lines}
use Rattle.trace_run.specs.Feeds.{FeedDone}

-- the keys that were found, where a device was handed in
abbrev pub found_keys : Option Rebuilt → List Restored
found_keys None = []
found_keys (Some rebuilt) = rebuilt.list

-- the feeder's restores of those of these keys that belong to the shard of this number, in their order
abbrev pub restores_in : Config → List Restored → (shard : ℕ) → List Event
restores_in config [] shard = []
restores_in config (r ∷ rs) shard =
    if shard_of config.shards r.key == shard then (Restore config.callers r.key r.place r.digest ∷ restores_in config rs shard) else restores_in config rs shard

-- what each shard is behind them
abbrev pub restored_shard : Config → List Restored → (shard : ℕ) → PlainShard
restored_shard config restored shard = replay (opening_of config) (restores_in config restored shard)

-- all events that the feeder makes in a shard: the restores, and then what the lines ask for, which were answered by these feeds
abbrev pub events_by_feeder : Config → List Restored → List Op → List Reply → List FeedDone → (shard : ℕ) → List Event
events_by_feeder config restored ops replies feeds shard = restores_in config restored shard ++ events_of_lines config shard ops replies feeds
