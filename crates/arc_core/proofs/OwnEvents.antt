-- A number's events, read off the moments of a history.
use Rattle.std.proofs.Common.{◌≡◌, ℕ, Bool, true, false, not, ◌&&◌, ◌==◌, if◌then◌else◌, List, [], ◌∷◌, map, refl, sym, ap, ◌∙◌}
use Rattle.arc_core.specs.declared.event.Event.{Event}
use Rattle.arc_core.specs.PlainShard.{PlainShard}
use Rattle.arc_core.specs.Operations.{is_pass, moments, number_of, own_events, own_moments}
use Rattle.arc_core.specs.Step.{after}

-- the events of a number's moments are its events
pub own-events-are : (n : ℕ) (s : PlainShard) (es : List Event) → map (λ m. m.event) (own_moments n (moments s es)) ≡ own_events n es
own-events-are n s [] = refl
own-events-are n s (e ∷ es) = go (number_of e == n && not (is_pass e)) (own-events-are n (after s e) es)
  where
    go : (b : Bool) → map (λ m. m.event) (own_moments n (moments (after s e) es)) ≡ own_events n es
        → map (λ m. m.event) (if b then record { before = s; event = e } ∷ own_moments n (moments (after s e) es) else own_moments n (moments (after s e) es)) ≡ (if b then e ∷ own_events n es else own_events n es)
    go true rest = ap (λ (l : List Event). e ∷ l) rest
    go false rest = rest

-- where a number has no moments it has no events
pub no-own-events : (n : ℕ) (s : PlainShard) (es : List Event) → own_moments n (moments s es) ≡ [] → own_events n es ≡ []
no-own-events n s es none = sym (own-events-are n s es) ∙ ap (map (λ m. m.event)) none
