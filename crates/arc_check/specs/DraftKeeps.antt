-- What a log in the making means, and what it keeps.
use Rattle.std.specs.Prelude.{◌≡◌, ◌≤◌, ◌<◌, MatchOption, vec_len}
use Rattle.arc_core.specs.Config.{IsConfig}
use Rattle.arc_check.specs.declared.draft.Draft.TheInside.{Inside}
use Rattle.arc_check.specs.LogText.{LogContent}

abbrev pub content_in : Inside → LogContent
content_in s = record { config = s.config; bounded = s.bounded; closed = s.closed.items; events = s.events.events; count = s.count }

pub record DraftKeeps (s : Inside) : Type 0 where
  -- no history is closed before the sizes are read, and one shard at least is left then
  pub shards : MatchOption s.config (vec_len s.closed ≡ 0) (λ z. IsConfig z × (vec_len s.closed < z.shards))
  pub few : s.count ≤ 1000000
