-- What the shards of a run end with.
use Rattle.std.specs.Prelude.{List, map}
use Rattle.arc_core.specs.declared.config.Config.{Config}
use Rattle.arc_core.specs.declared.event.Event.{Event}
use Rattle.arc_core.specs.Replay.{replay}
use Rattle.arc_table.specs.Telling.{opening_of}
use Rattle.trace_text.specs.declared.ends.ShardEnd.{ShardEnd}
use Rattle.arc_check.specs.Judging.{end_of}

-- what the shards with these histories end with
abbrev pub ends_of : Config → List (List Event) → List ShardEnd
ends_of config histories = map (λ history. end_of (replay (opening_of config) history)) histories
