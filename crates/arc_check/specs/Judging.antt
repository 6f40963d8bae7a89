-- Whether the histories of a log are legal, and where the first that isn't goes wrong. What an event may be, and what it does, is the
-- table of events of `arc_core`.
use Rattle.std.specs.Prelude.{◌≡◌, ℕ, Bool, true, false, IsTrue, List, [], ◌∷◌, Some, map, slice_get, take}
use Rattle.std.specs.List.{AllByRecursion}
use Rattle.blk_ptr.specs.declared.state.State.TheVariants as state
use Rattle.arc_core.specs.declared.config.Config.{Config}
use Rattle.arc_core.specs.declared.event.Event.{Event}
use Rattle.arc_core.specs.PlainShard.{PlainShard, opening_shard, size_in}
use Rattle.arc_core.specs.Replay.{is_legal_history, replay}
use Rattle.arc_core.specs.Step.{after, legal}
use Rattle.trace_text.specs.declared.ends.ShardEnd.{ShardEnd}
use Rattle.arc_check.specs.declared.judge.Played.{Played}
use Rattle.arc_check.specs.declared.judge.Played.TheVariants.{Ended, Stuck}
use Rattle.arc_check.specs.declared.log.Log.{Log}
use Rattle.arc_check.specs.declared.verdict.Verdict.{Verdict}
use Rattle.arc_check.specs.declared.verdict.Verdict.TheVariants.{Legal, Illegal}

-- a shard of this cache before all events
abbrev pub log_opening : Config → PlainShard
log_opening config = opening_shard config.c config.mintime config.bounds

-- what a shard ends with: its capacity, its target, and the bytes of each state
abbrev pub end_of : PlainShard → ShardEnd
end_of s = record {
  c = s.c;
  p = s.p;
  sizes = size_in state.Anon s ∷ size_in state.Mru s ∷ size_in state.MruGhost s ∷ size_in state.Mfu s ∷ size_in state.MfuGhost s ∷ size_in state.L2Only s ∷ [];
}

-- the history is legal from this opening on
abbrev pub IsLegalFrom : PlainShard → List Event → Type 0
IsLegalFrom opening history = IsTrue (is_legal_history opening history)

-- the event of this number is the first that may not come: those before it are a legal history, and after them it is not legal
pub record IsStuckAt (opening : PlainShard) (history : List Event) (index : ℕ) : Type 0 where
  pub event : Event
  pub there : slice_get history index ≡ Some event
  pub before : IsLegalFrom opening (take index history)
  pub stuck : legal (replay opening (take index history)) event ≡ false

-- the history of this shard is the first that isn't legal, and the event of this number the first of it that may not come
pub record IsFirstStuck (opening : PlainShard) (histories : List (List Event)) (shard index : ℕ) : Type 0 where
  pub history : List Event
  pub there : slice_get histories shard ≡ Some history
  pub before : AllByRecursion (IsLegalFrom opening) (take shard histories)
  pub stuck : IsStuckAt opening history index

-- what these histories end with
abbrev pub ends_from : PlainShard → List (List Event) → List ShardEnd
ends_from opening histories = map (λ history. end_of (replay opening history)) histories

-- each history is legal, and the ends are those of their replays; or the first event that may not come
abbrev pub IsVerdict : Log → Verdict → Type 0
IsVerdict log (Legal ends) = AllByRecursion (IsLegalFrom (log_opening log.config)) log.histories × (ends ≡ ends_from (log_opening log.config) log.histories)
IsVerdict log (Illegal shard index) = IsFirstStuck (log_opening log.config) log.histories shard index

-- what becomes of one history
abbrev pub IsPlayed : PlainShard → List Event → Played → Type 0
IsPlayed opening history (Ended end) = IsLegalFrom opening history × (end ≡ end_of (replay opening history))
IsPlayed opening history (Stuck index) = IsStuckAt opening history index

-- an event is made where it may come, and nothing else where it may not
abbrev pub IsTried : Event → PlainShard → PlainShard → Bool → Type 0
IsTried e old new true = IsTrue (legal old e) × (new ≡ after old e)
IsTried e old new false = legal old e ≡ false
