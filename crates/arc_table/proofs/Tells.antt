-- Lists of acts and of moments, one behind another.
use Rattle.std.proofs.Common.{◌≡◌, List, [], ◌∷◌, ◌++◌, refl, sym, ap, ◌∙◌, append_assoc, append-nil}
use Rattle.arc_core.specs.declared.event.Event.{Event}
use Rattle.arc_core.specs.Operations.{Act, Moment, StandsFor, Tell, moments}
use Rattle.arc_core.specs.PlainShard.{PlainShard}
use Rattle.arc_core.specs.Replay.{replay}
use Rattle.arc_core.specs.Step.{after}

pub Tell-append : (xs ys : List Act) (ms ns : List Moment) → Tell xs ms → Tell ys ns → Tell (xs ++ ys) (ms ++ ns)
Tell-append [] ys ms ns first rest = rw first rest
Tell-append (x ∷ xs) ys ms ns first rest =
    (first.0, first.1 ++ ns, ap (λ (l : List Moment). l ++ ns) first.2 ∙ append_assoc first.0 first.1 ns, first.3, Tell-append xs ys first.1 ns first.4 rest)

pub Tell-one : (act : Act) (ms : List Moment) → StandsFor act ms → Tell (act ∷ []) ms
Tell-one act ms stands = (ms, [], sym (append-nil ms), stands, refl)

pub moments-append : (s : PlainShard) (front rest : List Event) → moments s (front ++ rest) ≡ moments s front ++ moments (replay s front) rest
moments-append s [] rest = refl
moments-append s (e ∷ es) rest = ap (λ (ms : List Moment). record { before = s; event = e } ∷ ms) (moments-append (after s e) es rest)
