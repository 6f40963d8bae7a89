-- Until the end, a number's pins are its Pins less its Unpins.
use Rattle.std.proofs.Common.{◌≡◌, ℕ, ◌+◌, ◌-◌, ◌<◌, Bool, true, false, not, ◌&&◌, ◌==◌, nat_le, nat_lt, if◌then◌else◌, cond, List, [], ◌∷◌, map, replicate, Option, Some, None, inl, inr, refl, sym, ap, subst, ◌∙◌, arith}
use Rattle.std.proofs.lemmas.Bool.{false≢true}
use Rattle.std.proofs.lemmas.Bool.Decides.{nat_tests}
use Rattle.std.proofs.lemmas.List.Sums.{sum_by-cons}
use Rattle.std.specs.List.{AllByRecursion, list_all}
use Rattle.std.specs.Option.{option_map, option_map_or}
use Rattle.std.specs.Prelude.{count_by}
use Rattle.dbuf_state.specs.declared.event.CellEvent.{CellEvent}
use Rattle.dbuf_state.specs.declared.event.CellEvent.TheVariants.{Get, Put, Patch, Pin, Unpin, Load, Evict, Synced, End}
use Rattle.dbuf_state.specs.declared.oid.Oid.{Oid}
use Rattle.dbuf_state.specs.declared.pins.PinCount.{PinCount}
use Rattle.dbuf_state.specs.declared.state.Mapping.{Mapping}
use Rattle.dbuf_state.specs.History.{Leads}
use Rattle.dbuf_state.specs.Objects.{Cached, Dirty, IsLegal, PlainCell, PlainDbuf, after, changed, dbuf_at, dbuf_oid, effect, evicted, fresh_dbuf, has_bytes, is_due, loaded, opened, opening_cell, patched, touched, use_of, used_at, with_block, with_pins}
use Rattle.dbuf_state.specs.Oids.{item_at, oid_eq, with_item}
use Rattle.dbuf_state.specs.Outline.{ArePinsCounted, PinsAreCounted, has_pin_at, is_end, is_pin_of, is_unpin_of, outline_after, outline_dbuf, outline_of, pins_at}
use Rattle.dbuf_state.specs.Outline as outline
use Rattle.dbuf_state.specs.Pins.{has_pin, pinned, pins_of, unpinned}
use Rattle.dbuf_state.proofs.Changes.{view-found}
use Rattle.dbuf_state.proofs.IndexLemmas.{and-both, and-parts, bool_cases}
use Rattle.dbuf_state.proofs.OutlineLemmas.{leads-outline}

-- ---- one row of pins: each number stands there once, with at least one pin

abbrev is_row : List PinCount → Bool
is_row [] = true
is_row (p ∷ ps) = nat_lt 0 p.count && (not (has_pin p.n ps) && is_row ps)

same_number : (m n : ℕ) → (m == n) ≡ true → m ≡ n
same_number m n h = grind (arith, nat_tests)

not-true : (b : Bool) → not b ≡ true → b ≡ false
not-true true h = sym h
not-true false h = refl

-- a number that isn't listed has no pins
none-of : (n : ℕ) (ps : List PinCount) → has_pin n ps ≡ false → pins_of n ps ≡ 0
none-of n [] h = refl
none-of n (p ∷ ps) h = elim (bool_cases (p.n == n)) [
  | inl is ↦ let yes : has_pin n (p ∷ ps) ≡ true = rw is refl in absurd (false≢true (sym h ∙ yes))
  | inr other ↦ rw other (none-of n ps (rw other at h))
]

some-of : (n : ℕ) (ps : List PinCount) → is_row ps ≡ true → has_pin n ps ≡ nat_lt 0 (pins_of n ps)
some-of n [] row = refl
some-of n (p ∷ ps) row = elim (bool_cases (p.n == n)) [
  | inl is ↦ rw is (sym (and-parts (nat_lt 0 p.count) _ row).0)
  | inr other ↦ rw other (some-of n ps (and-parts (not (has_pin p.n ps)) _ (and-parts (nat_lt 0 p.count) _ row).1).1)
]

pinned-own : (n : ℕ) (ps : List PinCount) → pins_of n (pinned n ps) ≡ pins_of n ps + 1
pinned-own n [] = let is : (n == n) ≡ true = grind (arith, nat_tests) in rw is refl
pinned-own n (p ∷ ps) = elim (bool_cases (p.n == n)) [
  | inl is ↦ rw (is, is) refl
  | inr other ↦ rw (other, other) (pinned-own n ps)
]

pinned-other : (m n : ℕ) (ps : List PinCount) → (m == n) ≡ false → pins_of n (pinned m ps) ≡ pins_of n ps
pinned-other m n [] far = rw far refl
pinned-other m n (p ∷ ps) far = elim (bool_cases (p.n == m)) [
  | inl is ↦
      let far' : (p.n == n) ≡ false = ap (λ (x : ℕ). x == n) (same_number p.n m is) ∙ far in
      rw (is, far') refl
  | inr other ↦ elim (bool_cases (p.n == n)) [
    | inl here ↦ rw (other, here) refl
    | inr there ↦ rw (other, there) (pinned-other m n ps far)
  ]
]

pinned-has : (m k : ℕ) (ps : List PinCount) → (m == k) ≡ false → has_pin k (pinned m ps) ≡ has_pin k ps
pinned-has m k [] far = rw far refl
pinned-has m k (p ∷ ps) far = elim (bool_cases (p.n == m)) [
  | inl is ↦
      let far' : (p.n == k) ≡ false = ap (λ (x : ℕ). x == k) (same_number p.n m is) ∙ far in
      rw (is, far') refl
  | inr other ↦ elim (bool_cases (p.n == k)) [
    | inl here ↦ rw (other, here) refl
    | inr there ↦ rw (other, there) (pinned-has m k ps far)
  ]
]

turned : (a b : ℕ) → (a == b) ≡ false → (b == a) ≡ false
turned a b h = grind (arith, nat_tests)

pinned-row : (m : ℕ) (ps : List PinCount) → is_row ps ≡ true → is_row (pinned m ps) ≡ true
pinned-row m [] row = refl
pinned-row m (p ∷ ps) row =
    let one = and-parts (nat_lt 0 p.count) _ row in
    let two = and-parts (not (has_pin p.n ps)) _ one.1 in
    elim (bool_cases (p.n == m)) [
      | inl is ↦ rw is (and-both _ _ (let more : nat_lt 0 (p.count + 1) ≡ true = grind (arith, nat_tests) in more) one.1)
      | inr other ↦ rw other (and-both _ _ one.0 (and-both _ _ (ap not (pinned-has m p.n ps (turned p.n m other)) ∙ two.0) (pinned-row m ps two.1)))
    ]

unpinned-own : (n : ℕ) (ps : List PinCount) → is_row ps ≡ true → has_pin n ps ≡ true → pins_of n (unpinned n ps) + 1 ≡ pins_of n ps
unpinned-own n [] row has = absurd (false≢true has)
unpinned-own n (p ∷ ps) row has =
    let one = and-parts (nat_lt 0 p.count) _ row in
    let two = and-parts (not (has_pin p.n ps)) _ one.1 in
    elim (bool_cases (p.n == n)) [
      | inl is ↦
          let none : pins_of n ps ≡ 0 = none-of n ps (ap (λ (x : ℕ). has_pin x ps) (sym (same_number p.n n is)) ∙ not-true (has_pin p.n ps) two.0) in
          elim (bool_cases (nat_le p.count 1)) [
            | inl last ↦ rw (is, last) (let few : p.count ≡ 1 = only p.count one.0 last in omega (arith, none, few))
            | inr more ↦ rw (is, more, is) (let many : 1 < p.count = past p.count more in omega arith)
          ]
      | inr other ↦ rw (other, other) (unpinned-own n ps two.1 (rw other at has))
    ]
  where
    only : (k : ℕ) → nat_lt 0 k ≡ true → nat_le k 1 ≡ true → k ≡ 1
    only k a b = grind (arith, nat_tests)

    past : (k : ℕ) → nat_le k 1 ≡ false → 1 < k
    past k a = grind (arith, nat_tests)

unpinned-other : (m n : ℕ) (ps : List PinCount) → (m == n) ≡ false → pins_of n (unpinned m ps) ≡ pins_of n ps
unpinned-other m n [] far = refl
unpinned-other m n (p ∷ ps) far = elim (bool_cases (p.n == m)) [
  | inl is ↦
      let far' : (p.n == n) ≡ false = ap (λ (x : ℕ). x == n) (same_number p.n m is) ∙ far in
      elim (bool_cases (nat_le p.count 1)) [
        | inl last ↦ rw (is, last, far') refl
        | inr more ↦ rw (is, more, far') refl
      ]
  | inr other ↦ elim (bool_cases (p.n == n)) [
    | inl here ↦ rw (other, here) refl
    | inr there ↦ rw (other, there) (unpinned-other m n ps far)
  ]
]

unpinned-has : (m k : ℕ) (ps : List PinCount) → has_pin k ps ≡ false → has_pin k (unpinned m ps) ≡ false
unpinned-has m k [] none = refl
unpinned-has m k (p ∷ ps) none = elim (bool_cases (p.n == k)) [
  | inl here ↦ let yes : has_pin k (p ∷ ps) ≡ true = rw here refl in absurd (false≢true (sym none ∙ yes))
  | inr there ↦
      let none' : has_pin k ps ≡ false = rw there at none in
      elim (bool_cases (p.n == m)) [
        | inl is ↦ elim (bool_cases (nat_le p.count 1)) [
          | inl last ↦ rw (is, last) none'
          | inr more ↦ rw (is, more, there) none'
        ]
        | inr other ↦ rw (other, there) (unpinned-has m k ps none')
      ]
]

unpinned-row : (m : ℕ) (ps : List PinCount) → is_row ps ≡ true → is_row (unpinned m ps) ≡ true
unpinned-row m [] row = refl
unpinned-row m (p ∷ ps) row =
    let one = and-parts (nat_lt 0 p.count) _ row in
    let two = and-parts (not (has_pin p.n ps)) _ one.1 in
    elim (bool_cases (p.n == m)) [
      | inl is ↦ elim (bool_cases (nat_le p.count 1)) [
        | inl last ↦ rw (is, last) two.1
        | inr more ↦ rw (is, more) (and-both _ _ (less p.count more) one.1)
      ]
      | inr other ↦ rw other (and-both _ _ one.0 (and-both _ _ (ap not (unpinned-has m p.n ps (not-true (has_pin p.n ps) two.0))) (unpinned-row m ps two.1)))
    ]
  where
    less : (k : ℕ) → nat_le k 1 ≡ false → nat_lt 0 (k - 1) ≡ true
    less k a = grind (arith, nat_tests)

-- ---- the pins on what may be a dbuf

abbrev count_in : ℕ → Option PlainDbuf → ℕ
count_in n o = option_map_or (λ d. pins_of n d.pins) o 0

abbrev AreRows : List PlainDbuf → Type 0
AreRows ds = AllByRecursion (λ d. is_row d.pins ≡ true) ds

row-at : (at : Oid) (ds : List PlainDbuf) (d : PlainDbuf) → AreRows ds → item_at dbuf_oid at ds ≡ Some d → is_row d.pins ≡ true
row-at at [] d rows found = let clash : None ≡ Some d = found in cc
row-at at (x ∷ ds) d rows found = elim (bool_cases (oid_eq at x.at)) [
  | inl is ↦ let same : Some x ≡ Some d = rw is at found in subst (λ (y : PlainDbuf). is_row y.pins ≡ true) (let e : x ≡ d = cc in e) rows.0
  | inr other ↦ row-at at ds d rows.1 (rw other at found)
]

rows-changed : (at : Oid) (f : PlainDbuf → PlainDbuf) (ds : List PlainDbuf) → ((d : PlainDbuf) → is_row d.pins ≡ true → is_row (f d).pins ≡ true) → AreRows ds → AreRows (changed at f ds)
rows-changed at f [] keeps rows = rows
rows-changed at f (d ∷ ds) keeps rows = elim (bool_cases (oid_eq at d.at)) [
  | inl is ↦ rw is (keeps d rows.0, rows.1)
  | inr other ↦ rw other (rows.0, rows-changed at f ds keeps rows.1)
]

-- a change of an Oid's dbuf that leaves its Oid, as it is found there and elsewhere
found-own : (at : Oid) (f : PlainDbuf → PlainDbuf) (ds : List PlainDbuf) → ((d : PlainDbuf) → (f d).at ≡ d.at) → item_at dbuf_oid at (changed at f ds) ≡ option_map f (item_at dbuf_oid at ds)
found-own at f [] keeps = refl
found-own at f (d ∷ ds) keeps = elim (bool_cases (oid_eq at d.at)) [
  | inl is ↦ rw (is, keeps d, is) refl
  | inr other ↦ rw (other, other) (found-own at f ds keeps)
]

same_oid : (a b : Oid) → oid_eq a b ≡ true → a ≡ b
same_oid a b e = grind (arith, nat_tests)

found-other : (at b : Oid) (f : PlainDbuf → PlainDbuf) (ds : List PlainDbuf) → ((d : PlainDbuf) → (f d).at ≡ d.at) → oid_eq at b ≡ false → item_at dbuf_oid at (changed b f ds) ≡ item_at dbuf_oid at ds
found-other at b f [] keeps far = refl
found-other at b f (d ∷ ds) keeps far = elim (bool_cases (oid_eq b d.at)) [
  | inl is ↦
      let far' : oid_eq at d.at ≡ false = ap (oid_eq at) (sym (same_oid b d.at is)) ∙ far in
      rw (is, keeps d, far') refl
  | inr other ↦ elim (bool_cases (oid_eq at d.at)) [
    | inl here ↦ rw (other, here) refl
    | inr there ↦ rw (other, there) (found-other at b f ds keeps far)
  ]
]

-- a change that leaves the pins leaves the count everywhere
count-kept : (n : ℕ) (at b : Oid) (f : PlainDbuf → PlainDbuf) (ds : List PlainDbuf) → ((d : PlainDbuf) → (f d).at ≡ d.at) → ((d : PlainDbuf) → (f d).pins ≡ d.pins)
    → count_in n (item_at dbuf_oid at (changed b f ds)) ≡ count_in n (item_at dbuf_oid at ds)
count-kept n at b f [] keeps same = refl
count-kept n at b f (d ∷ ds) keeps same = elim (bool_cases (oid_eq b d.at)) [
  | inl is ↦ elim (bool_cases (oid_eq at d.at)) [
    | inl here ↦ rw (is, keeps d, here) (ap (pins_of n) (same d))
    | inr there ↦ rw (is, keeps d, there) refl
  ]
  | inr other ↦ elim (bool_cases (oid_eq at d.at)) [
    | inl here ↦ rw (other, here) refl
    | inr there ↦ rw (other, there) (count-kept n at b f ds keeps same)
  ]
]

-- so does a block that is put
count-put : (n : ℕ) (at b : Oid) (f : PlainDbuf → PlainDbuf) (new : PlainDbuf) (ds : List PlainDbuf) → ((d : PlainDbuf) → (f d).at ≡ d.at) → ((d : PlainDbuf) → (f d).pins ≡ d.pins) → new.pins ≡ []
    → count_in n (item_at dbuf_oid at (with_item dbuf_oid b f new ds)) ≡ count_in n (item_at dbuf_oid at ds)
count-put n at b f new [] keeps same none = elim (bool_cases (oid_eq at new.at)) [
  | inl here ↦ rw here (ap (pins_of n) none)
  | inr there ↦ rw there refl
]
count-put n at b f new (d ∷ ds) keeps same none = elim (bool_cases (oid_eq b d.at)) [
  | inl is ↦ elim (bool_cases (oid_eq at d.at)) [
    | inl here ↦ rw (is, keeps d, here) (ap (pins_of n) (same d))
    | inr there ↦ rw (is, keeps d, there) refl
  ]
  | inr other ↦ elim (bool_cases (oid_eq at d.at)) [
    | inl here ↦ rw (other, here) refl
    | inr there ↦ rw (other, there) (count-put n at b f new ds keeps same none)
  ]
]

rows-put : (b : Oid) (f : PlainDbuf → PlainDbuf) (new : PlainDbuf) (ds : List PlainDbuf) → ((d : PlainDbuf) → is_row d.pins ≡ true → is_row (f d).pins ≡ true) → is_row new.pins ≡ true → AreRows ds → AreRows (with_item dbuf_oid b f new ds)
rows-put b f new [] keeps first rows = (first, tt)
rows-put b f new (d ∷ ds) keeps first rows = elim (bool_cases (oid_eq b d.at)) [
  | inl is ↦ rw is (keeps d rows.0, rows.1)
  | inr other ↦ rw other (rows.0, rows-put b f new ds keeps first rows.1)
]

-- ---- one event

abbrev one_if : Bool → ℕ
one_if b = if b then 1 else 0

-- the dbufs of an Oid's pins before and after
abbrev at_in : Oid → List PlainDbuf → Option PlainDbuf
at_in at ds = item_at dbuf_oid at ds

count-pin : (n m : ℕ) (at b : Oid) (ds : List PlainDbuf) (d : PlainDbuf) → at_in b ds ≡ Some d
    → count_in n (at_in at (changed b (with_pins (pinned m)) ds)) ≡ count_in n (at_in at ds) + one_if (m == n && oid_eq at b)
count-pin n m at b ds d found = elim (bool_cases (oid_eq at b)) [
  | inl here ↦
      let there : at_in at ds ≡ Some d = ap (λ (x : Oid). at_in x ds) (same_oid at b here) ∙ found in
      let now : at_in at (changed b (with_pins (pinned m)) ds) ≡ Some (with_pins (pinned m) d) =
      ap (λ (x : Oid). at_in at (changed x (with_pins (pinned m)) ds)) (sym (same_oid at b here)) ∙ (found-own at (with_pins (pinned m)) ds (λ d. refl) ∙ ap (option_map (with_pins (pinned m))) there) in
      rw (now, there, here) (elim (bool_cases (m == n)) [
        | inl own ↦ rw own (ap (λ (x : ℕ). pins_of n (pinned x d.pins)) (same_number m n own) ∙ pinned-own n d.pins)
        | inr other ↦ rw other (pinned-other m n d.pins other ∙ (let e : pins_of n d.pins ≡ pins_of n d.pins + 0 = omega arith in e))
      ])
  | inr far ↦
      let none : one_if (m == n && oid_eq at b) ≡ 0 = ap one_if (no (m == n) far) in
      let same : count_in n (at_in at (changed b (with_pins (pinned m)) ds)) ≡ count_in n (at_in at ds) = ap (count_in n) (found-other at b (with_pins (pinned m)) ds (λ d. refl) far) in
      omega arith
]
  where
    no : (x : Bool) → oid_eq at b ≡ false → (x && oid_eq at b) ≡ false
    no true h = h
    no false h = refl

count-unpin : (n m : ℕ) (at b : Oid) (ds : List PlainDbuf) (d : PlainDbuf) → AreRows ds → at_in b ds ≡ Some d → has_pin m d.pins ≡ true
    → count_in n (at_in at (changed b (with_pins (unpinned m)) ds)) + one_if (m == n && oid_eq at b) ≡ count_in n (at_in at ds)
count-unpin n m at b ds d rows found has = elim (bool_cases (oid_eq at b)) [
  | inl here ↦
      let there : at_in at ds ≡ Some d = ap (λ (x : Oid). at_in x ds) (same_oid at b here) ∙ found in
      let now : at_in at (changed b (with_pins (unpinned m)) ds) ≡ Some (with_pins (unpinned m) d) =
      ap (λ (x : Oid). at_in at (changed x (with_pins (unpinned m)) ds)) (sym (same_oid at b here)) ∙ (found-own at (with_pins (unpinned m)) ds (λ d. refl) ∙ ap (option_map (with_pins (unpinned m))) there) in
      rw (now, there, here) (elim (bool_cases (m == n)) [
        | inl own ↦
            let same = same_number m n own in
            rw own (ap (λ (x : ℕ). pins_of n (unpinned x d.pins) + 1) same ∙ unpinned-own n d.pins (row-at b ds d rows found) (ap (λ (x : ℕ). has_pin x d.pins) (sym same) ∙ has))
        | inr other ↦ rw other (let e : pins_of n (unpinned m d.pins) ≡ pins_of n d.pins = unpinned-other m n d.pins other in omega arith)
      ])
  | inr far ↦
      let none : one_if (m == n && oid_eq at b) ≡ 0 = ap one_if (no (m == n) far) in
      let same : count_in n (at_in at (changed b (with_pins (unpinned m)) ds)) ≡ count_in n (at_in at ds) = ap (count_in n) (found-other at b (with_pins (unpinned m)) ds (λ d. refl) far) in
      omega arith
]
  where
    no : (x : Bool) → oid_eq at b ≡ false → (x && oid_eq at b) ≡ false
    no true h = h
    no false h = refl

count-touched : (n tick : ℕ) (at : Oid) (used : Option Oid) (ds : List PlainDbuf) → count_in n (at_in at (touched tick used ds)) ≡ count_in n (at_in at ds)
count-touched n tick at None ds = refl
count-touched n tick at (Some b) ds = count-kept n at b (used_at tick) ds (λ d. refl) (λ d. refl)

rows-touched : (tick : ℕ) (used : Option Oid) (ds : List PlainDbuf) → AreRows ds → AreRows (touched tick used ds)
rows-touched tick None ds rows = rows
rows-touched tick (Some b) ds rows = rows-changed b (used_at tick) ds (λ d row. row) rows

-- the dbuf that a test asks for is there
tested : (test : PlainDbuf → Bool) (b : Oid) (ds : List PlainDbuf) → option_map_or test (at_in b ds) false ≡ true → (d : PlainDbuf) × (at_in b ds ≡ Some d) × (test d ≡ true)
tested test b ds h = go (at_in b ds) refl h
  where
    go : (o : Option PlainDbuf) → at_in b ds ≡ o → option_map_or test o false ≡ true → (d : PlainDbuf) × (at_in b ds ≡ Some d) × (test d ≡ true)
    go None is h = absurd (false≢true h)
    go (Some d) is h = (d, is, h)

count-effect : (c : PlainCell) (e : CellEvent) (base : List ℕ) (n : ℕ) (at : Oid) → AreRows c.dbufs → IsLegal c e → is_end e ≡ false
    → count_in n (at_in at (effect base c.dbufs e)) + one_if (is_unpin_of n at e) ≡ count_in n (at_in at c.dbufs) + one_if (is_pin_of n at e)
count-effect c (Get m b) base n at rows legal goes = refl
count-effect c (Put m b size fill) base n at rows legal goes = ap (λ (x : ℕ). x + 0) (count-put n at b (with_block (λ _. Dirty (replicate size fill))) (fresh_dbuf b (Dirty (replicate size fill))) c.dbufs (λ d. refl) (λ d. refl) refl)
count-effect c (Patch m b from bytes) base n at rows legal goes = ap (λ (x : ℕ). x + 0) (count-kept n at b (with_block (λ _. Dirty (patched from bytes base))) c.dbufs (λ d. refl) (λ d. refl))
count-effect c (Pin m b) base n at rows legal goes =
    let there = tested (λ d. has_bytes d.block) b c.dbufs (and-parts (not (is_due c)) _ legal).1 in
    let one = count-pin n m at b c.dbufs there.0 there.1 in omega arith
count-effect c (Unpin m b) base n at rows legal goes =
    let there = tested (λ d. has_pin m d.pins) b c.dbufs (and-parts (not (is_due c)) _ legal).1 in
    let one = count-unpin n m at b c.dbufs there.0 rows there.1 there.2 in omega arith
count-effect c (Load m b held) base n at rows legal goes = ap (λ (x : ℕ). x + 0) (count-kept n at b (with_block loaded) c.dbufs (λ d. refl) (λ d. refl))
count-effect c (Evict m b) base n at rows legal goes = ap (λ (x : ℕ). x + 0) (count-kept n at b (with_block evicted) c.dbufs (λ d. refl) (λ d. refl))
count-effect c (Synced m b ptr held) base n at rows legal goes = ap (λ (x : ℕ). x + 0) (count-kept n at b (with_block (λ _. Cached ptr)) c.dbufs (λ d. refl) (λ d. refl))
count-effect c (End m) base n at rows legal goes = absurd (false≢true (sym goes))

rows-effect : (base : List ℕ) (ds : List PlainDbuf) (e : CellEvent) → is_end e ≡ false → AreRows ds → AreRows (effect base ds e)
rows-effect base ds (Get m b) goes rows = rows
rows-effect base ds (Put m b size fill) goes rows = rows-put b (with_block (λ _. Dirty (replicate size fill))) (fresh_dbuf b (Dirty (replicate size fill))) ds (λ d row. row) refl rows
rows-effect base ds (Patch m b from bytes) goes rows = rows-changed b (with_block (λ _. Dirty (patched from bytes base))) ds (λ d row. row) rows
rows-effect base ds (Pin m b) goes rows = rows-changed b (with_pins (pinned m)) ds (λ d row. pinned-row m d.pins row) rows
rows-effect base ds (Unpin m b) goes rows = rows-changed b (with_pins (unpinned m)) ds (λ d row. unpinned-row m d.pins row) rows
rows-effect base ds (Load m b held) goes rows = rows-changed b (with_block loaded) ds (λ d row. row) rows
rows-effect base ds (Evict m b) goes rows = rows-changed b (with_block evicted) ds (λ d row. row) rows
rows-effect base ds (Synced m b ptr held) goes rows = rows-changed b (with_block (λ _. Cached ptr)) ds (λ d row. row) rows
rows-effect base ds (End m) goes rows = absurd (false≢true (sym goes))

-- ---- histories

counted : (p : CellEvent → Bool) (e : CellEvent) (es : List CellEvent) → count_by p (e ∷ es) ≡ one_if (p e) + count_by p es
counted p e es = sum_by-cons (λ x. cond {A = ℕ} (p x) 1 0) e es

pub record Counted (n : ℕ) (at : Oid) (before : ℕ) (es : List CellEvent) (end : PlainCell) : Type 0 where
  pub count : count_in n (dbuf_at at end) + count_by (is_unpin_of n at) es ≡ before + count_by (is_pin_of n at) es
  pub rows : AreRows end.dbufs

leads-counted : (n : ℕ) (at : Oid) (c : PlainCell) (es : List CellEvent) (bases : List (List ℕ)) (end : PlainCell) → AreRows c.dbufs → Leads c es bases end
    → list_all (λ e. not (is_end e)) es ≡ true → Counted n at (count_in n (dbuf_at at c)) es end
leads-counted n at c [] bases end rows leads goes = subst (Counted n at (count_in n (dbuf_at at c)) []) (sym leads.1) (record { count = refl; rows = rows })
leads-counted n at c (e ∷ es) bases end rows leads goes =
    let parts = and-parts (not (is_end e)) _ goes in
    let going = not-true (is_end e) parts.0 in
    let base = leads.1.0 in
    let next : PlainCell = after base c e in
    let later = leads-counted n at next es leads.1.1 end (rows-touched (c.events + 1) (use_of e) _ (rows-effect base c.dbufs e going rows)) leads.1.4 parts.1 in
    let now = count-effect c e base n at rows leads.0 going in
    let touch = count-touched n (c.events + 1) at (use_of e) (effect base c.dbufs e) in
    record {
      count = (let u = counted (is_unpin_of n at) e es in let p = counted (is_pin_of n at) e es in let l = later.count in omega arith);
      rows = later.rows;
    }

opened-rows : (ms : List Mapping) → AreRows (map opened ms)
opened-rows [] = tt
opened-rows (m ∷ ms) = (refl, opened-rows ms)

opened-none : (n : ℕ) (at : Oid) (ms : List Mapping) → count_in n (at_in at (map opened ms)) ≡ 0
opened-none n at [] = refl
opened-none n at (m ∷ ms) = elim (bool_cases (oid_eq at m.at)) [
  | inl here ↦ rw here refl
  | inr there ↦ rw there (opened-none n at ms)
]

-- the pins of a plain cell and of its outline
pins-found : (n : ℕ) (o : Option PlainDbuf) → option_map_or (λ (d : outline.OutlineDbuf). pins_of n d.pins) (option_map outline_dbuf o) 0 ≡ count_in n o
pins-found n None = refl
pins-found n (Some d) = refl

has-found : (n : ℕ) (at : Oid) (ds : List PlainDbuf) → AreRows ds → option_map_or (λ (d : outline.OutlineDbuf). has_pin n d.pins) (option_map outline_dbuf (at_in at ds)) false ≡ nat_lt 0 (count_in n (at_in at ds))
has-found n at ds rows = go (at_in at ds) refl
  where
    go : (o : Option PlainDbuf) → at_in at ds ≡ o → option_map_or (λ (d : outline.OutlineDbuf). has_pin n d.pins) (option_map outline_dbuf o) false ≡ nat_lt 0 (count_in n o)
    go None is = refl
    go (Some d) is = some-of n d.pins (row-at at ds d rows is)

pub pins-are-counted : PinsAreCounted
pins-are-counted limit opening es bases end n at leads goes =
    let all = leads-counted n at (opening_cell limit opening) es bases end (opened-rows opening) leads goes in
    let none = opened-none n at opening in
    let found = view-found dbuf_oid outline.dbuf_oid outline_dbuf (λ d. refl) at end.dbufs in
    let pins : pins_at n at (outline_of end) ≡ count_in n (dbuf_at at end) = ap (λ (o : Option outline.OutlineDbuf). option_map_or (λ (d : outline.OutlineDbuf). pins_of n d.pins) o 0) found ∙ pins-found n (dbuf_at at end) in
    let has : has_pin_at n at (outline_of end) ≡ nat_lt 0 (count_in n (dbuf_at at end)) = ap (λ (o : Option outline.OutlineDbuf). option_map_or (λ (d : outline.OutlineDbuf). has_pin n d.pins) o false) found ∙ has-found n at end.dbufs all.rows in
    subst (ArePinsCounted n at es) (leads-outline (opening_cell limit opening) es bases end leads)
    (record {
      count = (let count = all.count in omega arith);
      some = has ∙ ap (nat_lt 0) (sym pins);
    })
