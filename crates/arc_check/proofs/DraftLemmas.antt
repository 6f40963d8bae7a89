-- A log in the making: histories that are closed, and the shard in hand.
use Rattle.std.proofs.Common.{◌≡◌, ℕ, zero, suc, ◌+◌, ◌-◌, ◌<◌, ◌≤◌, eqb, false, List, [], ◌∷◌, ◌++◌, length, refl, ap, ◌∙◌, sym, arith, append_assoc, length-append, replicate}
use Rattle.std.proofs.lemmas.Bool.{eq-eqb, eqb-true}
use Rattle.std.proofs.lemmas.List.{length-replicate}
use Rattle.trace_text.proofs.SplitLemmas.{false-from_not}
use Rattle.arc_core.specs.declared.event.Event.{Event}
use Rattle.arc_check.specs.LogText.{LogContent, at_shard, histories_to}

-- an empty history more behind empty ones
abbrev empty : List Event
empty = []

rep-push : (k : ℕ) → replicate k empty ++ empty ∷ [] ≡ replicate (suc k) empty
rep-push zero = refl
rep-push (suc k) = ap (λ (hs : List (List Event)). empty ∷ hs) (rep-push k)

-- one empty history more
pub close-more : (old : List (List Event)) (events : List Event) (closed more : List (List Event)) (n m : ℕ)
    → closed ≡ old ++ events ∷ replicate (n - (length old + 1)) [] → more ≡ closed ++ [] ∷ [] → length old + 1 ≤ n → m ≡ n + 1
    → more ≡ old ++ events ∷ replicate (m - (length old + 1)) []
close-more old events closed more n m is adds low next =
    let k : ℕ = n - (length old + 1) in
    let tail : List (List Event) = events ∷ replicate k [] in
    let longer : m - (length old + 1) ≡ suc k = omega (arith, low, next) in
    adds ∙ ap (λ (hs : List (List Event)). hs ++ [] ∷ []) is ∙ append_assoc old tail ([] ∷ [])
    ∙ ap (λ (hs : List (List Event)). old ++ events ∷ hs) (rep-push k ∙ ap (λ i. replicate i empty) (sym longer))

-- the first history that is closed
pub close-first : (old : List (List Event)) (events : List Event) (closed : List (List Event)) (n : ℕ) → closed ≡ old ++ events ∷ [] → n ≡ length old + 1
    → closed ≡ old ++ events ∷ replicate (n - (length old + 1)) []
close-first old events closed n is size =
    let none : 0 ≡ n - (length old + 1) = omega (arith, size) in is ∙ ap (λ i. old ++ events ∷ replicate i []) none

-- how many histories there are
pub close-length : (old : List (List Event)) (events : List Event) (n : ℕ) → length old < n → length (old ++ events ∷ replicate (n - (length old + 1)) []) ≡ n
close-length old events n low =
    omega (arith, low, length-append old (events ∷ replicate (n - (length old + 1)) []), length-replicate (n - (length old + 1)) empty)

-- the shard in hand stays
pub at-same : (shard : ℕ) (said : LogContent) → shard ≡ length said.closed → at_shard shard said ≡ said
at-same shard said same = rw (eq-eqb shard (length said.closed) same) refl

-- a greater shard is taken in hand
pub at-more : (shard : ℕ) (said : LogContent) → length said.closed < shard → at_shard shard said ≡ record said { closed = histories_to shard said; events = [] }
at-more shard said more =
    let no : eqb shard (length said.closed) ≡ false = false-from_not _ (λ same. omega (arith, eqb-true shard (length said.closed) same, more)) in
    rw no refl
