-- The lines of a text, from its first newline.
use Rattle.std.proofs.Common.{◌≡◌, ℕ, zero, suc, ◌+◌, ◌-◌, ◌<◌, Bool, true, false, eqb, List, [], ◌∷◌, length, get_or, take, drop, refl, ap, ◌∙◌, sym, arith, add-one, Some, None}
use Rattle.std.proofs.lemmas.List.Splits.{slice_split-cons_yes, slice_split-cons_no}
use Rattle.std.proofs.lemmas.List.{drop-drop}
use Rattle.std.specs.List.{onto_first}
use Rattle.memchr.specs.Find.{IsFirstByte, is_byte}
use Rattle.arc_lint.specs.Shown.{line_in}
use Rattle.trace_text.specs.Grammar.{lines_of}

-- a test that is not true is false
false-from_not : (b : Bool) → (b ≡ true → ⊥) → b ≡ false
false-from_not true h = absurd (h refl)
false-from_not false h = refl

-- the first line ends at the first newline
split-at_place : (xs : List ℕ) (i : ℕ) → i < length xs → ((k : ℕ) → k < i → eqb (get_or xs k 0) 10 ≡ true → ⊥) → eqb (get_or xs i 0) 10 ≡ true
    → lines_of xs ≡ take i xs ∷ lines_of (drop (i + 1) xs)
split-at_place [] i lt before here = absurd (omega arith)
split-at_place (x ∷ xs) zero lt before here = slice_split-cons_yes (λ y. eqb y 10) x xs here
split-at_place (x ∷ xs) (suc i) lt before here =
    let rest = split-at_place xs i (omega arith) (λ k l. before (suc k) (omega arith)) here in
    let no = false-from_not _ (before zero (omega arith)) in
    let rest' : lines_of xs ≡ take i xs ∷ lines_of (drop (suc i) xs) = rw (← add-one i) rest in
    let front : onto_first x (lines_of xs) ≡ take (suc i) (x ∷ xs) ∷ lines_of (drop (suc i) xs) = ap (onto_first x) rest' in
    rw (add-one (suc i)) (slice_split-cons_no (λ y. eqb y 10) x xs no ∙ front)

-- with no newline there is one line
split-no_place : (xs : List ℕ) → ((k : ℕ) → k < length xs → eqb (get_or xs k 0) 10 ≡ true → ⊥) → lines_of xs ≡ xs ∷ []
split-no_place [] none = refl
split-no_place (x ∷ xs) none =
    let rest = split-no_place xs (λ k l. none (suc k) (omega arith)) in
    slice_split-cons_no (λ y. eqb y 10) x xs (false-from_not _ (none zero (omega arith))) ∙ ap (onto_first x) rest

-- the first line, where the search for its end found this
pub first-found : (xs : List ℕ) (i : ℕ) → IsFirstByte (is_byte 10) xs (Some i) → take i xs ≡ line_in xs 1
first-found xs i found = sym (ap (λ lines. get_or lines 0 []) (split-at_place xs i (omega (arith, found.0.high)) (λ k lt. found.0.before k (omega arith) lt) found.1))

pub first-whole : (xs : List ℕ) → IsFirstByte (is_byte 10) xs None → xs ≡ line_in xs 1
first-whole xs none = sym (ap (λ lines. get_or lines 0 []) (split-no_place xs (λ k lt. none k (omega arith) lt)))

-- behind its first newline a text has the lines from the second on
pub next-found : (text rest : List ℕ) (at place number counter : ℕ) → rest ≡ drop at text → IsFirstByte (is_byte 10) rest (Some place) → counter < number
    → get_or (lines_of (drop at text)) (number - counter) [] ≡ get_or (lines_of (drop (at + (place + 1)) text)) (number - (counter + 1)) []
next-found text rest at place number counter is found lt =
    let split = split-at_place rest place (omega (arith, found.0.high)) (λ k l. found.0.before k (omega arith) l) found.1 in
    let less : number - counter ≡ suc (number - (counter + 1)) = omega arith in
    rw (less, ← is, split, is, drop-drop (place + 1) at text) refl

-- with no newline there is no second line
pub next-missing : (text rest : List ℕ) (at number counter : ℕ) → rest ≡ drop at text → IsFirstByte (is_byte 10) rest None → counter < number
    → [] ≡ get_or (lines_of (drop at text)) (number - counter) []
next-missing text rest at number counter is none lt =
    let split = split-no_place rest (λ k l. none k (omega arith) l) in
    let less : number - counter ≡ suc (number - (counter + 1)) = omega arith in
    rw (less, ← is, split) refl
