-- Each event of a closed cache has a number that it may have, and each pass stands in front of what it was passed for.
use Rattle.std.proofs.Common.{◌≡◌, ℕ, suc, IsTrue, List, [], ◌∷◌, refl, sym, subst, inl, inr}
use Rattle.std.specs.List.{AllByRecursion}
use mathlib.Core.Option.{some, some-injective, some-ne-none}
use lib.ListN.{get_elem?}
use Rattle.arc_lists.proofs.Tables.{cases_true}
use Rattle.arc_core.specs.declared.event.Event.{Event}
use Rattle.arc_core.specs.Operations.{are_passes_placed, goes_on, is_pass, number_of, scan_goes_on}

-- each pass of these events is followed by an event with which its number's scan goes on
abbrev pub EachGoesOn : List Event → Type 0
EachGoesOn es = (z : ℕ) (e : Event) → get_elem? es z ≡ some e → IsTrue (is_pass e) → (x : Event) × (get_elem? es (suc z) ≡ some x) × IsTrue (goes_on (number_of e) x)

goes-first : (n : ℕ) (es : List Event) (x : Event) → get_elem? es 0 ≡ some x → IsTrue (goes_on n x) → IsTrue (scan_goes_on n es)
goes-first n [] x at goes = absurd (some-ne-none x (sym at))
goes-first n (y ∷ ys) x at goes = subst (λ (e : Event). IsTrue (goes_on n e)) (sym (some-injective y x at)) goes

pub placed-of : (es : List Event) → EachGoesOn es → IsTrue (are_passes_placed es)
placed-of [] each = refl
placed-of (e ∷ es) each =
    let rest : IsTrue (are_passes_placed es) = placed-of es (λ z x at pass. each (suc z) x at pass) in
    elim (cases_true (is_pass e)) [
      | inl pass ↦
          let next = each 0 e refl pass in
          let goes : IsTrue (scan_goes_on (number_of e) es) = goes-first (number_of e) es next.0 next.1 next.2 in
          rw (pass, goes, rest) refl
      | inr none ↦ rw (none, rest) refl
    ]

-- a fact of each event, by its place
pub all-by-place : (P : Event → Type 0) (es : List Event) → ((z : ℕ) (e : Event) → get_elem? es z ≡ some e → P e) → AllByRecursion P es
all-by-place P [] each = tt
all-by-place P (e ∷ es) each = (each 0 e refl, all-by-place P es (λ z x at. each (suc z) x at))
