-- The lines that a party made: how they grow, and which they are in the end.
use Rattle.std.proofs.Common.{◌≡◌, ◌≢◌, ℕ, zero, suc, ◌+◌, ◌<◌, ◌==◌, true, false, if◌then◌else◌, List, [], ◌∷◌, ◌++◌, length, refl, sym, ap, ◌∙◌, subst, inl, inr, arith, append-nil, eq-eqb}
use Rattle.std.proofs.lemmas.Bool.{eqb-true, false≢true}
use mathlib.Core.Option.{some, some-injective, some-ne-none}
use lib.ListN.{get_elem?}
use Rattle.arc_lists.proofs.Standing.{and_left, and_right, both}
use Rattle.arc_lists.proofs.Tables.{cases_true}
use Rattle.arc_table.specs.declared.view.Line.{Line}
use Rattle.arc_table.specs.declared.view.Mine.{Mine}
use Rattle.arc_table.specs.Fronts.{StartsWith}
use Rattle.arc_table.specs.Views.{mines_from}
use Rattle.arc_table.proofs.TableLaws.{there}
use Rattle.trace_run.specs.MadeLines.{is_at, is_listed, made_from}

-- ---- what is listed

at-same : (turn place : ℕ) (a : Mine) → a.turn ≡ turn → a.place ≡ place → is_at turn place a ≡ true
at-same turn place a t p = both (a.turn == turn) (a.place == place) (eq-eqb a.turn turn t) (eq-eqb a.place place p)

-- a line that is listed stands in the list
pub listed-at : (turn place : ℕ) (mines : List Mine) → is_listed turn place mines ≡ true → (j : ℕ) × (a : Mine) × (get_elem? mines j ≡ some a) × (a.turn ≡ turn) × (a.place ≡ place)
listed-at turn place [] listed = absurd (false≢true listed)
listed-at turn place (a ∷ rest_of) listed = elim (cases_true (is_at turn place a)) [
  | inl here ↦ (0, a, refl, eqb-true a.turn turn (and_left (a.turn == turn) (a.place == place) here), eqb-true a.place place (and_right (a.turn == turn) (a.place == place) here))
  | inr other ↦ let rest = listed-at turn place rest_of (rw other at listed) in (suc rest.0, rest.1, rest.2, rest.3, rest.4)
]

pub at-listed : (turn place : ℕ) (mines : List Mine) (j : ℕ) (a : Mine) → get_elem? mines j ≡ some a → a.turn ≡ turn → a.place ≡ place → is_listed turn place mines ≡ true
at-listed turn place [] j a at t p = absurd (some-ne-none a (sym at))
at-listed turn place (x ∷ xs) zero a at t p =
    let is : x ≡ a = some-injective x a at in
    let here : is_at turn place x ≡ true = subst (λ (y : Mine). is_at turn place y ≡ true) (sym is) (at-same turn place a t p) in
    rw here refl
at-listed turn place (x ∷ xs) (suc j) a at t p = elim (cases_true (is_at turn place x)) [
  | inl here ↦ rw here refl
  | inr other ↦ rw other (at-listed turn place xs j a at t p)
]

pub listed-none : (turn place : ℕ) (mines : List Mine) → ((j : ℕ) (a : Mine) → get_elem? mines j ≡ some a → a.turn ≡ turn → a.place ≡ place → ⊥) → is_listed turn place mines ≡ false
listed-none turn place mines never = elim (cases_true (is_listed turn place mines)) [
  | inl listed ↦ let h = listed-at turn place mines listed in absurd (never h.0 h.1 h.2 h.3 h.4)
  | inr none ↦ none
]

pub listed-both : (turn place : ℕ) (xs ys : List Mine) → is_listed turn place ys ≡ false → is_listed turn place (xs ++ ys) ≡ is_listed turn place xs
listed-both turn place [] ys none = none
listed-both turn place (x ∷ xs) ys none = elim (cases_true (is_at turn place x)) [
  | inl here ↦ rw here refl
  | inr other ↦ rw other (listed-both turn place xs ys none)
]

listed-later : (turn place : ℕ) (xs ys : List Mine) → is_listed turn place ys ≡ true → is_listed turn place (xs ++ ys) ≡ true
listed-later turn place [] ys some_listed = some_listed
listed-later turn place (x ∷ xs) ys some_listed = elim (cases_true (is_at turn place x)) [
  | inl here ↦ rw here refl
  | inr other ↦ rw other (listed-later turn place xs ys some_listed)
]

-- the lines of a cell that was given back
pub mines-turn : (turn place count y : ℕ) (a : Mine) → get_elem? (mines_from turn place count) y ≡ some a → a.turn ≡ turn
mines-turn turn place zero y a at = absurd (some-ne-none a (sym at))
mines-turn turn place (suc count) zero a at = ap (λ (x : Mine). x.turn) (sym (some-injective _ a at))
mines-turn turn place (suc count) (suc y) a at = mines-turn turn (suc place) count y a at

-- they are of no other turn
pub listed-back : (turn place i from count : ℕ) (mines : List Mine) → turn ≢ i → is_listed turn place (mines ++ mines_from i from count) ≡ is_listed turn place mines
listed-back turn place i from count mines differs =
    listed-both turn place mines (mines_from i from count) (listed-none turn place (mines_from i from count) (λ y a at t p. differs (sym t ∙ mines-turn i from count y a at)))

-- ---- the lines

pub made-append : (turn place : ℕ) (mines : List Mine) (xs ys : List Line) → made_from turn place mines (xs ++ ys) ≡ made_from turn place mines xs ++ made_from turn (place + length xs) mines ys
made-append turn place mines [] ys = ap (λ (n : ℕ). made_from turn n mines ys) (let e : place ≡ place + length {A = Line} [] = omega arith in e)
made-append turn place mines (x ∷ xs) ys =
    let next : suc place + length xs ≡ place + length (x ∷ xs) = omega arith in
    let rest : made_from turn (suc place) mines (xs ++ ys) ≡ made_from turn (suc place) mines xs ++ made_from turn (place + length (x ∷ xs)) mines ys =
    made-append turn (suc place) mines xs ys ∙ ap (λ (n : ℕ). made_from turn (suc place) mines xs ++ made_from turn n mines ys) next in
    elim (cases_true (is_listed turn place mines)) [
      | inl here ↦ rw here (ap (λ (l : List Line). x ∷ l) rest)
      | inr other ↦ rw other rest
    ]

pub made-none : (turn place : ℕ) (mines : List Mine) (ls : List Line) → ((y : ℕ) → y < length ls → is_listed turn (place + y) mines ≡ false) → made_from turn place mines ls ≡ []
made-none turn place mines [] never = refl
made-none turn place mines (l ∷ ls) never =
    let here : is_listed turn place mines ≡ false = ap (λ (n : ℕ). is_listed turn n mines) (let e : place ≡ place + 0 = omega arith in e) ∙ never 0 (omega arith) in
    rw here (made-none turn (suc place) mines ls (λ y below. ap (λ (n : ℕ). is_listed turn n mines) (let e : suc place + y ≡ place + suc y = omega arith in e) ∙ never (suc y) (omega (arith, below))))

pub made-all : (turn place : ℕ) (mines : List Mine) (ls : List Line) → ((y : ℕ) → y < length ls → is_listed turn (place + y) mines ≡ true) → made_from turn place mines ls ≡ ls
made-all turn place mines [] always = refl
made-all turn place mines (l ∷ ls) always =
    let here : is_listed turn place mines ≡ true = ap (λ (n : ℕ). is_listed turn n mines) (let e : place ≡ place + 0 = omega arith in e) ∙ always 0 (omega arith) in
    rw here (ap (λ (k : List Line). l ∷ k) (made-all turn (suc place) mines ls (λ y below. ap (λ (n : ℕ). is_listed turn n mines) (let e : suc place + y ≡ place + suc y = omega arith in e) ∙ always (suc y) (omega (arith, below)))))

pub made-same : (turn place : ℕ) (xs ys : List Mine) (ls : List Line) → ((y : ℕ) → y < length ls → is_listed turn (place + y) xs ≡ is_listed turn (place + y) ys) → made_from turn place xs ls ≡ made_from turn place ys ls
made-same turn place xs ys [] same = refl
made-same turn place xs ys (l ∷ ls) same =
    let here : is_listed turn place xs ≡ is_listed turn place ys =
    ap (λ (n : ℕ). is_listed turn n xs) (let e : place ≡ place + 0 = omega arith in e) ∙ (same 0 (omega arith) ∙ ap (λ (n : ℕ). is_listed turn n ys) (let e : place + 0 ≡ place = omega arith in e)) in
    let rest : made_from turn (suc place) xs ls ≡ made_from turn (suc place) ys ls = made-same turn (suc place) xs ys ls (λ y below.
    let e : suc place + y ≡ place + suc y = omega arith in
    ap (λ (n : ℕ). is_listed turn n xs) e ∙ (same (suc y) (omega (arith, below)) ∙ ap (λ (n : ℕ). is_listed turn n ys) (sym e))) in
    (λ i. if here i then (l ∷ rest i) else rest i)

-- all lines of this turn stand below this place
abbrev pub AreBelow : (turn place : ℕ) → List Mine → Type 0
AreBelow turn place mines = (j : ℕ) (a : Mine) → get_elem? mines j ≡ some a → a.turn ≡ turn → a.place < place

-- what was made is the same in more of the history
pub made-grown : (turn : ℕ) (mines : List Mine) (front more : List Line) → StartsWith more front → AreBelow turn (length front) mines → made_from turn 0 mines more ≡ made_from turn 0 mines front
made-grown turn mines front more starts below =
    ap (made_from turn 0 mines) starts.1
    ∙ (made-append turn 0 mines front starts.0
    ∙ (ap (λ (l : List Line). made_from turn 0 mines front ++ l)
    (made-none turn (0 + length front) mines starts.0 (λ y inside. listed-none turn ((0 + length front) + y) mines (λ j a at t p. let b = below j a at t in omega (arith, b, p))))
    ∙ append-nil (made_from turn 0 mines front)))

-- More was made: of this turn the lines that stand at the end of the history.
pub made-more : (turn : ℕ) (mines news : List Mine) (front history es : List Line) → StartsWith history front → AreBelow turn (length front) mines
    → ((y : ℕ) (a : Mine) → get_elem? news y ≡ some a → (a.turn ≡ turn) × (a.place ≡ length history + y)) → length news ≡ length es
    → made_from turn 0 (mines ++ news) (history ++ es) ≡ made_from turn 0 mines front ++ es
made-more turn mines news front history es starts below each long =
    made-append turn 0 (mines ++ news) history es
    ∙ (λ i. (before ∙ made-grown turn mines front history starts below) i ++ later i)
  where
    before : made_from turn 0 (mines ++ news) history ≡ made_from turn 0 mines history
    before = made-same turn 0 (mines ++ news) mines history (λ y inside. listed-both turn (0 + y) mines news (listed-none turn (0 + y) news (λ j a at t p. let h = (each j a at).1 in omega (arith, h, p, inside))))

    later : made_from turn (0 + length history) (mines ++ news) es ≡ es
    later = made-all turn (0 + length history) (mines ++ news) es (λ y inside.
        let a = there news y (omega (arith, inside, long)) in
        let h = each y a.0 a.1 in
        listed-later turn ((0 + length history) + y) mines news (at-listed turn ((0 + length history) + y) news y a.0 a.1 h.0 (h.1 ∙ omega arith)))

-- Lines of another turn make no difference.
pub made-else : (turn other : ℕ) (mines news : List Mine) (front : List Line) → other ≢ turn → ((y : ℕ) (a : Mine) → get_elem? news y ≡ some a → a.turn ≡ other) → made_from turn 0 (mines ++ news) front ≡ made_from turn 0 mines front
made-else turn other mines news front differs each =
    made-same turn 0 (mines ++ news) mines front (λ y inside. listed-both turn (0 + y) mines news (listed-none turn (0 + y) news (λ j a at t p. differs (sym (each j a at) ∙ t))))
