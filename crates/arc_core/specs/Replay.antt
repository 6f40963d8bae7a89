-- Histories: lists of events, each of which is legal when it comes.
use Rattle.std.specs.Prelude.{◌≡◌, Bool, true, ◌&&◌, IsTrue, List, [], ◌∷◌, ◌++◌}
use Rattle.arc_core.specs.declared.event.Event.{Event}
use Rattle.arc_core.specs.PlainShard.{PlainShard}
use Rattle.arc_core.specs.Step.{legal, after}

-- the shard after a history, from a shard before it
abbrev pub replay : PlainShard → List Event → PlainShard
replay s [] = s
replay s (e ∷ es) = replay (after s e) es

-- each event of the history is legal when it comes
abbrev pub is_legal_history : PlainShard → List Event → Bool
is_legal_history s [] = true
is_legal_history s (e ∷ es) = legal s e && is_legal_history (after s e) es

-- what begins a legal history is legal
abbrev pub IsPrefixLegal : Type 0
IsPrefixLegal = (s : PlainShard) (front rest : List Event) → IsTrue (is_legal_history s (front ++ rest)) → IsTrue (is_legal_history s front)

-- replaying a history in two parts is replaying it at once
abbrev pub IsReplayInParts : Type 0
IsReplayInParts = (s : PlainShard) (front rest : List Event) → replay s (front ++ rest) ≡ replay (replay s front) rest
