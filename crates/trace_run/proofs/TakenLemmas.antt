-- The histories of the first shards.
use Rattle.std.proofs.Common.{◌≡◌, ℕ, zero, suc, ◌+◌, ◌<◌, List, [], ◌∷◌, ◌++◌, length, map, take, refl, ap, arith, add-one}
use Rattle.arc_core.specs.ShardLog.{ShardLog}
use Rattle.arc_core.specs.declared.event.Event.{Event}
use Rattle.trace_text.specs.Owned.{history_at}

abbrev taken : List ShardLog → ℕ → List (List Event)
taken logs i = map (λ log. log.history) (take i logs)

next-taken : (logs : List ShardLog) (i : ℕ) → i < length logs → taken logs (suc i) ≡ taken logs i ++ history_at logs i ∷ []
next-taken [] i lt = absurd (omega arith)
next-taken (log ∷ logs) zero lt = refl
next-taken (log ∷ logs) (suc i) lt = ap (λ (hs : List (List Event)). log.history ∷ hs) (next-taken logs i (omega arith))

-- one shard more
pub one-taken : (logs : List ShardLog) (i : ℕ) → i < length logs
    → map (λ log. log.history) (take (i + 1) logs) ≡ map (λ log. log.history) (take i logs) ++ history_at logs i ∷ []
one-taken logs i lt = rw (add-one i) (next-taken logs i lt)
