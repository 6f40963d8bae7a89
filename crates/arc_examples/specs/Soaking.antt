-- What a soak tells of the shards at its end.
use Rattle.std.specs.Prelude.{ℕ, List, count_by, length, sum_by}
use Rattle.arc_core.specs.Operations.{is_pass}
use Rattle.arc_core.specs.ShardLog.{ShardLog}

-- how many events their histories have
abbrev pub events_of : List ShardLog → ℕ
events_of = sum_by (λ s. length s.history)

-- how many of them are passes
abbrev pub passes_of : List ShardLog → ℕ
passes_of = sum_by (λ s. count_by is_pass s.history)
