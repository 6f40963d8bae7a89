-- That the printed form of histories, behind a head, is a log with these histories.
use Rattle.std.specs.Prelude.{◌≡◌, ℕ, ◌+◌, ◌≤◌, List, [], ◌∷◌, ◌++◌, length, codes, Some, IfSome}
use Rattle.std.specs.List.{AllByRecursion}
use Rattle.blk_ptr.specs.Hash.{shard_of}
use Rattle.arc_core.specs.Config.{IsConfig}
use Rattle.arc_core.specs.declared.config.Config.{Config}
use Rattle.arc_core.specs.declared.event.Event.{Event}
use Rattle.arc_core.specs.Operations.{event_key}
use Rattle.trace_text.specs.EventText.{history_lines}
use Rattle.trace_text.specs.Grammar.{lines_of, longest_text}
use Rattle.arc_check.specs.LogText.{AddAllToLog, LogContent, IsEventOf, IsLogText, empty_log, log_parties_of}

-- the lines of a head say this configuration, and no event
pub record IsHead (head : List ℕ) (config : Config) : Type 0 where
  pub content : LogContent
  pub lines : AddAllToLog empty_log (lines_of head) content
  pub sized : content.config ≡ Some config
  pub closed : content.closed ≡ []
  pub events : content.events ≡ []
  pub count : content.count ≡ 0

-- an event whose numbers are in range and whose key is of this shard
pub record IsEventAt (config : Config) (shard : ℕ) (e : Event) : Type 0 where
  pub ranged : IsEventOf (log_parties_of config) e
  pub key : IfSome (event_key e) (λ key. shard_of config.shards key ≡ shard)

-- the same of each event of these histories, the first of which is that of this shard
abbrev pub AreAt : Config → ℕ → List (List Event) → Type 0
AreAt config shard [] = Unit {0}
AreAt config shard (events ∷ histories) = AllByRecursion (IsEventAt config shard) events × AreAt config (shard + 1) histories

-- how many events there are in all
abbrev pub events_in : List (List Event) → ℕ
events_in [] = 0
events_in (events ∷ histories) = length events + events_in histories

-- a head and the printed form of histories behind it
abbrev pub log_text : List ℕ → List (List Event) → List ℕ
log_text head histories = head ++ (codes "\n" ++ history_lines 0 histories)

-- a head followed by the printed form of histories is these histories, where the text is short and the events are few and in range
abbrev pub IsReadBack : Type 0
IsReadBack = (head : List ℕ) (config : Config) (histories : List (List Event)) → IsHead head config → IsConfig config → length histories ≡ config.shards
    → AreAt config 0 histories → events_in histories ≤ 1000000 → length (log_text head histories) ≤ longest_text
    → IsLogText (log_text head histories) (record { config = config; histories = histories })
