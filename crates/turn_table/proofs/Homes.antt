-- Each place is the home of one turn.
use Rattle.std.proofs.Common.{◌≡◌, ℕ, ◌+◌, ◌*◌, ◌/◌, ◌%◌, ◌<◌, ◌≤◌, sym, ap, ◌∙◌, subst, arith}
use Rattle.std.proofs.lemmas.Nat.{div-mul-add, mod-mul-add, mod_below, div_below}
use Rattle.atomic_table.specs.Seated.{TableId}
use Rattle.turn_table.specs.Homes.{home, room}
use Rattle.turn_table.specs.Standings.{IsRow}

-- a number by its digits
digits : (i : ℕ) → i ≡ i / 256 * 256 + (i / 16 % 16 * 16 + i % 16)
digits i = omega arith

high_of : (a b d : ℕ) → b < 16 → d < 16 → (a * 256 + (b * 16 + d)) / 256 ≡ a
high_of a b d below below' = div-mul-add a 256 (b * 16 + d) (omega arith)

middle_of : (a b d : ℕ) → b < 16 → d < 16 → (a * 256 + (b * 16 + d)) / 16 % 16 ≡ b
middle_of a b d below below' =
    ap (λ n. n / 16 % 16) (let e : a * 256 + (b * 16 + d) ≡ (a * 16 + b) * 16 + d = omega arith in e)
    ∙ (ap (λ n. n % 16) (div-mul-add (a * 16 + b) 16 d below') ∙ mod-mul-add a 16 b below)

low_of : (a b d : ℕ) → b < 16 → d < 16 → (a * 256 + (b * 16 + d)) % 16 ≡ d
low_of a b d below below' =
    ap (λ n. n % 16) (let e : a * 256 + (b * 16 + d) ≡ (a * 16 + b) * 16 + d = omega arith in e) ∙ mod-mul-add (a * 16 + b) 16 d below'

-- the home of a turn's home is the turn
pub home_twice : (i : ℕ) → home (home i) ≡ i
unfolding home
home_twice i =
    let a : ℕ = i / 256 in
    let b : ℕ = i / 16 % 16 in
    let d : ℕ = i % 16 in
    let b_below : b < 16 = mod_below (i / 16) 16 (omega arith) in
    let d_below : d < 16 = mod_below i 16 (omega arith) in
    let is : home i ≡ a * 256 + (d * 16 + b) = omega arith in
    let high : home i / 256 ≡ a = ap (λ n. n / 256) is ∙ high_of a d b d_below b_below in
    let middle : home i / 16 % 16 ≡ d = ap (λ n. n / 16 % 16) is ∙ middle_of a d b d_below b_below in
    let low : home i % 16 ≡ b = ap (λ n. n % 16) is ∙ low_of a d b d_below b_below in
    let whole = digits i in
    omega arith

pub home_same : (i j : ℕ) → home i ≡ home j → i ≡ j
home_same i j e = sym (home_twice i) ∙ (ap home e ∙ home_twice j)

pub home_within : (n i : ℕ) → i < room n → home i < room n
unfolding home room
home_within n i below =
    let row : i / 256 < (n + 255) / 256 = div_below i 256 ((n + 255) / 256) (omega arith) below in
    omega arith

-- there is room for each turn
pub has_room : (n : ℕ) → n ≤ room n
unfolding room
has_room n = omega arith

-- the home of each turn is there
pub home_below : (n i : ℕ) → i < n → home i < room n
home_below n i below = home_within n i (let a = has_room n in omega arith)

pub some_room : (n : ℕ) → 0 < n → 0 < room n
some_room n some = let a = has_room n in omega arith

-- a word of a row
pub at_home : {id : TableId} {turns counted parties i word : ℕ} → IsRow id turns counted parties → word ≡ home i → i < id.words → word < id.words
at_home {id} {turns} {counted} {parties} {i} {word} row at near =
    subst (λ (z : ℕ × ℕ). z.0 < z.1) (λ k. (sym at k, sym row.words k)) (home_within turns i (subst (λ (n : ℕ). i < n) row.words near))
