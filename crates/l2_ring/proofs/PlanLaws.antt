-- What is left under a plan, whether a lap begins or not, of ranges that lie where their laps ask for. The laws are of plain
-- numbers; no call is named.
use Rattle.std.specs.Prelude.{◌≡◌, ℕ, ◌+◌, ◌-◌, ◌*◌, ◌<◌, ◌≤◌, ◌⊎◌, min, max, List, [], ◌∷◌, Bool, true, false, length, suc}
use Rattle.std.proofs.Common.{inl, inr, refl, ap, ◌&&◌, ◌||◌, leb, eqb, arith}
use Rattle.std.proofs.lemmas.Bool.{cases_lt, false≢true, leb-true, le-leb, eqb-true, eq-eqb, and_parts, and_from}
use Rattle.std.specs.List.{AllByRecursion}
use Rattle.l2_log.specs.Rules.{ring_start, log_len}
use Rattle.l2_ring.specs.declared.plan.Plan.{Plan}
use Rattle.l2_ring.specs.Ring.{RingState, IsPlanFor, numbers_of, straight_plan, with_hand, wrapped_plan, last_lap}
use Rattle.l2_ring.specs.Stays.{lies_within, stays_at}
use Rattle.l2_ring.specs.Ranges.{Range, IsWithin, Stays, IsOlder, IsInOrder}

within_tells : (from to : ℕ) (r : Range) → lies_within from to r.place r.size ≡ true → IsWithin from to r
within_tells from to r e =
    let p = and_parts (leb from r.place) (leb (r.place + r.size) to) e in
    record { begins = leb-true from r.place p.0; ends = leb-true (r.place + r.size) to p.1 }

tells_within : (from to : ℕ) (r : Range) → IsWithin from to r → lies_within from to r.place r.size ≡ true
tells_within from to r w = and_from (leb from r.place) (leb (r.place + r.size) to) (le-leb from r.place w.begins) (le-leb (r.place + r.size) to w.ends)

either : (a b : Bool) → (a || b) ≡ true → (a ≡ true) ⊎ (b ≡ true)
either true b e = inl refl
either false b e = inr e

or_left : (a b : Bool) → a ≡ true → (a || b) ≡ true
or_left true b e = refl
or_left false b e = absurd (false≢true e)

or_right : (a b : Bool) → b ≡ true → (a || b) ≡ true
or_right true b e = refl
or_right false b e = e

-- the test and the fact agree
pub stays_tells : (plan : Plan) (r : Range) → stays_at plan r.lap r.place r.size ≡ true → Stays plan r
stays_tells plan r e =
    let lower : Bool = lies_within ring_start plan.hand r.place r.size in
    let upper : Bool = lies_within plan.evict plan.top r.place r.size in
    elim (either (lower && eqb r.lap plan.lap) (upper && eqb (r.lap + 1) plan.lap) e) [
      | inl a ↦ let p = and_parts lower (eqb r.lap plan.lap) a in inl (within_tells ring_start plan.hand r p.0, eqb-true r.lap plan.lap p.1)
      | inr b ↦ let p = and_parts upper (eqb (r.lap + 1) plan.lap) b in inr (within_tells plan.evict plan.top r p.0, eqb-true (r.lap + 1) plan.lap p.1)
    ]

pub tells_stays : (plan : Plan) (r : Range) → Stays plan r → stays_at plan r.lap r.place r.size ≡ true
tells_stays plan r (inl s) =
    or_left (lies_within ring_start plan.hand r.place r.size && eqb r.lap plan.lap) (lies_within plan.evict plan.top r.place r.size && eqb (r.lap + 1) plan.lap)
    (and_from (lies_within ring_start plan.hand r.place r.size) (eqb r.lap plan.lap) (tells_within ring_start plan.hand r s.0) (eq-eqb r.lap plan.lap s.1))
tells_stays plan r (inr s) =
    or_right (lies_within ring_start plan.hand r.place r.size && eqb r.lap plan.lap) (lies_within plan.evict plan.top r.place r.size && eqb (r.lap + 1) plan.lap)
    (and_from (lies_within plan.evict plan.top r.place r.size) (eqb (r.lap + 1) plan.lap) (tells_within plan.evict plan.top r s.0) (eq-eqb (r.lap + 1) plan.lap s.1))

-- the plan as numbers: it goes on where it is, or it begins the next lap
pub record GoesOn (ring : RingState) (n : ℕ) (plan : Plan) : Type 0 where
  pub hand : plan.hand ≡ ring.hand
  pub evict : ring.evict ≤ plan.evict
  pub room : ring.hand + n ≤ plan.evict
  pub top : plan.top ≡ ring.top
  pub lap : plan.lap ≡ ring.lap

pub record Wraps (ring : RingState) (n : ℕ) (plan : Plan) : Type 0 where
  pub hand : plan.hand ≡ ring_start
  pub evict : plan.evict ≡ ring_start + n
  pub top : plan.top ≡ ring.hand
  pub lap : plan.lap ≡ ring.lap + 1

goes_by : (ring : RingState) (n : ℕ) (plan : Plan) → plan ≡ straight_plan ring n → GoesOn ring n plan
goes_by ring n plan e =
    let evict : plan.evict ≡ max ring.evict (ring.hand + n) = ap (λ (p : Plan). p.evict) e in
    record {
      hand = ap (λ (p : Plan). p.hand) e;
      evict = omega arith;
      room = omega arith;
      top = ap (λ (p : Plan). p.top) e;
      lap = ap (λ (p : Plan). p.lap) e;
    }

wraps_by : (ring : RingState) (n : ℕ) (plan : Plan) → plan ≡ wrapped_plan ring n → ring.lap + 1 ≤ last_lap → Wraps ring n plan
wraps_by ring n plan e before =
    let lap : plan.lap ≡ min (ring.lap + 1) last_lap = ap (λ (p : Plan). p.lap) e in
    record {
      hand = ap (λ (p : Plan). p.hand) e;
      evict = ap (λ (p : Plan). p.evict) e;
      top = ap (λ (p : Plan). p.top) e;
      lap = omega arith;
    }

pub plan_cases : (ring : RingState) (n : ℕ) (plan : Plan) → IsPlanFor ring n plan → plan.lap < last_lap → GoesOn ring n plan ⊎ Wraps ring n plan
plan_cases ring n plan for below =
    elim (cases_lt ring.end (ring.hand + n)) [
      | inl over ↦
          let e = for.wrapped over in
          let lap : plan.lap ≡ min (ring.lap + 1) last_lap = ap (λ (p : Plan). p.lap) e in
          inr (wraps_by ring n plan e (omega arith))
      | inr fits ↦ inl (goes_by ring n plan (for.straight fits))
    ]

-- what stays in a plan lay where its lap asked for before
pub stayed_before : (ring : RingState) (n : ℕ) (plan : Plan) (r : Range) → IsPlanFor ring n plan → plan.lap < last_lap → 0 < r.size
    → Stays plan r → Stays (numbers_of ring) r
stayed_before ring n plan r for below some stays =
    elim (plan_cases ring n plan for below) [
      | inl on ↦ elim stays [
        | inl low ↦ let b = low.0.begins in let e = low.0.ends in let l = low.1 in let h = on.hand in let k = on.lap in
            inl (record { begins = omega arith; ends = omega arith }, omega arith)
        | inr up ↦ let b = up.0.begins in let e = up.0.ends in let l = up.1 in let h = on.evict in let t = on.top in let k = on.lap in
            inr (record { begins = omega arith; ends = omega arith }, omega arith)
      ]
      | inr wraps ↦ elim stays [
        | inl low ↦ let b = low.0.begins in let e = low.0.ends in let h = wraps.hand in absurd (omega arith)
        | inr up ↦ let b = up.0.begins in let e = up.0.ends in let l = up.1 in let h = wraps.evict in let t = wraps.top in let k = wraps.lap in
            inl (record { begins = omega arith; ends = omega arith }, omega arith)
      ]
    ]

-- what was written before a range that the plan drops, it drops too
falls_by : (ring : RingState) (n : ℕ) (plan : Plan) (x y : Range) → GoesOn ring n plan ⊎ Wraps ring n plan → 0 < y.size
    → Stays (numbers_of ring) x → (¬ Stays plan x) → IsOlder x y → ¬ Stays plan y
falls_by ring n plan x y for some here gone older stays =
    elim for [
      | inl on ↦ let h = on.hand in let v = on.evict in let t = on.top in let k = on.lap in elim here [
        | inl low ↦ let b = low.0.begins in let e = low.0.ends in let l = low.1 in
            gone (inl (record { begins = omega arith; ends = omega arith }, omega arith))
        | inr up ↦ let b = up.0.begins in let e = up.0.ends in let l = up.1 in
            elim (cases_lt x.place plan.evict) [
              | inr ge ↦ gone (inr (record { begins = omega arith; ends = omega arith }, omega arith))
              | inl lt ↦ elim stays [
                | inl s ↦ let m = s.1 in elim older [ inl o ↦ absurd (omega arith) | inr o ↦ let q = o.0 in absurd (omega arith) ]
                | inr s ↦ let m = s.1 in let sb = s.0.begins in elim older [ inl o ↦ absurd (omega arith) | inr o ↦ let q = o.1 in absurd (omega arith) ]
              ]
            ]
      ]
      | inr wraps ↦ let h = wraps.hand in let v = wraps.evict in let t = wraps.top in let k = wraps.lap in elim stays [
        | inl s ↦ let sb = s.0.begins in let se = s.0.ends in absurd (omega arith)
        | inr s ↦ let m = s.1 in let sb = s.0.begins in let se = s.0.ends in elim here [
          | inr up ↦ let l = up.1 in elim older [ inl o ↦ absurd (omega arith) | inr o ↦ let q = o.0 in absurd (omega arith) ]
          | inl low ↦ let b = low.0.begins in let e = low.0.ends in let l = low.1 in elim older [
            | inl o ↦ absurd (omega arith)
            | inr o ↦ let q = o.1 in gone (inr (record { begins = omega arith; ends = omega arith }, omega arith))
          ]
        ]
      ]
    ]

-- a plan drops the oldest first
pub older_falls : (ring : RingState) (n : ℕ) (plan : Plan) (x y : Range) → IsPlanFor ring n plan → plan.lap < last_lap → 0 < y.size
    → Stays (numbers_of ring) x → (¬ Stays plan x) → IsOlder x y → ¬ Stays plan y
older_falls ring n plan x y for below some here gone older = falls_by ring n plan x y (plan_cases ring n plan for below) some here gone older

-- a plan that wraps in the last lap drops all that lay where its lap asked for
last_falls : (ring : RingState) (n : ℕ) (plan : Plan) (y : Range) → ring.hand ≤ ring.evict → last_lap < ring.lap + 1 → plan ≡ wrapped_plan ring n → 0 < y.size
    → Stays (numbers_of ring) y → ¬ Stays plan y
last_falls ring n plan y order last is some here stays =
    let h : plan.hand ≡ ring_start = ap (λ (p : Plan). p.hand) is in
    let t : plan.top ≡ ring.hand = ap (λ (p : Plan). p.top) is in
    let k : plan.lap ≡ min (ring.lap + 1) last_lap = ap (λ (p : Plan). p.lap) is in
    elim stays [
      | inl s ↦ let sb = s.0.begins in let se = s.0.ends in absurd (omega arith)
      | inr s ↦ let m = s.1 in let se = s.0.ends in elim here [
        | inl low ↦ let l = low.1 in absurd (omega arith)
        | inr up ↦ let b = up.0.begins in absurd (omega arith)
      ]
    ]

-- in any lap a plan drops the oldest first of what lay where its lap asked for
pub older_falls_always : (ring : RingState) (n : ℕ) (plan : Plan) (x y : Range) → IsPlanFor ring n plan → ring.hand ≤ ring.evict → 0 < y.size
    → Stays (numbers_of ring) x → Stays (numbers_of ring) y → (¬ Stays plan x) → IsOlder x y → ¬ Stays plan y
older_falls_always ring n plan x y for order some here there gone older =
    elim (cases_lt ring.end (ring.hand + n)) [
      | inl over ↦ elim (cases_lt last_lap (ring.lap + 1)) [
        | inl last ↦ last_falls ring n plan y order last (for.wrapped over) some there
        | inr before ↦ falls_by ring n plan x y (inr (wraps_by ring n plan (for.wrapped over) before)) some here gone older
      ]
      | inr fits ↦ falls_by ring n plan x y (inl (goes_by ring n plan (for.straight fits))) some here gone older
    ]

-- a hand further on keeps all that lies where its lap asks for
pub stays_further : (plan : Plan) (hand : ℕ) (r : Range) → plan.hand ≤ hand → Stays plan r → Stays (with_hand plan hand) r
stays_further plan hand r le (inl low) = let e = low.0.ends in inl (record { begins = low.0.begins; ends = omega arith }, low.1)
stays_further plan hand r le (inr up) = inr (record { begins = up.0.begins; ends = up.0.ends }, up.1)

-- what lies where its lap asks for was written before all that is written from the hand on in this lap
pub older_than_new : (plan : Plan) (x y : Range) → x.lap ≡ plan.lap → plan.hand ≤ x.place → Stays plan y → IsOlder x y
older_than_new plan x y lap from (inl low) = let e = low.0.ends in let l = low.1 in inr (omega arith, omega arith)
older_than_new plan x y lap from (inr up) = let l = up.1 in inl (omega arith)

-- an older range beside one that lay where its lap asks for, by a hand further on, lay there too
pub stays_beside : (plan : Plan) (hand : ℕ) (x y : Range) → Stays plan x → y.lap ≡ x.lap → y.place + y.size ≤ x.place → Stays (with_hand plan hand) y → Stays plan y
stays_beside plan hand x y (inl low) lap ends (inl s) = let e = low.0.ends in inl (record { begins = s.0.begins; ends = omega arith }, s.1)
stays_beside plan hand x y (inl low) lap ends (inr s) = inr (record { begins = s.0.begins; ends = s.0.ends }, s.1)
stays_beside plan hand x y (inr up) lap ends (inl s) = let l = up.1 in let m = s.1 in absurd (omega arith)
stays_beside plan hand x y (inr up) lap ends (inr s) = inr (record { begins = s.0.begins; ends = s.0.ends }, s.1)

-- what is written between the hand and the evict mark meets nothing that lies where its lap asks for
pub written_aside : (plan : Plan) (at n : ℕ) (r : Range) → plan.hand ≤ at → at + n ≤ plan.evict → Stays plan r
    → (r.place + r.size ≤ at) ⊎ (at + n ≤ r.place)
written_aside plan at n r from to (inl low) = let e = low.0.ends in inl (omega arith)
written_aside plan at n r from to (inr up) = let b = up.0.begins in inr (omega arith)

-- how many log blocks may lie below a range: in the lower part also those of the upper one
abbrev Below : Plan → Range → ℕ → Type 0
Below plan x n =
    ((x.lap ≡ plan.lap) × (log_len * n + ring_start ≤ x.place + (plan.top - plan.evict)))
    ⊎ ((x.lap + 1 ≡ plan.lap) × (log_len * n + plan.evict ≤ x.place))

one_below : (plan : Plan) (x y : Range) (n : ℕ) → Stays plan x → Stays plan y → y.size ≡ log_len → IsOlder x y → Below plan y n → Below plan x (suc n)
one_below plan x y n (inl low) here size (inl older) (inl b) = let l = low.1 in let k = b.0 in absurd (omega arith)
one_below plan x y n (inl low) here size (inr older) (inl b) = let l = low.1 in let o = older.1 in let k = b.1 in inl (l, omega arith)
one_below plan x y n (inl low) (inl other) size older (inr b) = let l = other.1 in let k = b.0 in absurd (omega arith)
one_below plan x y n (inl low) (inr up) size older (inr b) =
    let l = low.1 in let f = low.0.begins in let e = up.0.ends in let k = b.1 in inl (l, omega arith)
one_below plan x y n (inr up) here size (inl older) (inl b) = let l = up.1 in let k = b.0 in absurd (omega arith)
one_below plan x y n (inr up) here size (inr older) (inl b) = let l = up.1 in let o = older.0 in let k = b.0 in absurd (omega arith)
one_below plan x y n (inr up) here size (inl older) (inr b) = let l = up.1 in let k = b.0 in absurd (omega arith)
one_below plan x y n (inr up) here size (inr older) (inr b) = let l = up.1 in let o = older.1 in let k = b.1 in inr (l, omega arith)

-- ranges in their order, each where its lap asks for, of the length of a log block
pub record AreLogs (plan : Plan) (ranges : List Range) : Type 0 where
  pub stay : AllByRecursion (Stays plan) ranges
  pub sizes : AllByRecursion (λ (r : Range). r.size ≡ log_len) ranges
  pub ordered : IsInOrder ranges

all_below : (plan : Plan) (x : Range) (rs : List Range) → AreLogs plan (x ∷ rs) → Below plan x (length rs)
all_below plan x [] logs = elim logs.stay.0 [
  | inl low ↦ let b = low.0.begins in inl (low.1, omega arith)
  | inr up ↦ let b = up.0.begins in inr (up.1, omega arith)
]
all_below plan x (y ∷ rs) logs =
    let rest = all_below plan y rs record { stay = logs.stay.1; sizes = logs.sizes.1; ordered = logs.ordered.1 } in
    one_below plan x y (length rs) logs.stay.0 logs.stay.1.0 logs.sizes.1.0 logs.ordered.0.0 rest

-- log blocks that lie where their laps ask for, each written before the one ahead of it, are no longer than the ring
pub logs_fit : (plan : Plan) (end : ℕ) (rs : List Range) → plan.hand ≤ plan.evict → plan.hand ≤ end → plan.top ≤ end → ring_start ≤ end → ring_start ≤ plan.evict
    → AreLogs plan rs → log_len * length rs ≤ end - ring_start
logs_fit plan end [] order hand top long far logs = omega arith
logs_fit plan end (x ∷ rs) order hand top long far logs =
    let size = logs.sizes.0 in
    elim (all_below plan x rs logs) [
      | inl b ↦ let k = b.0 in let q = b.1 in elim logs.stay.0 [
        | inl low ↦ let e = low.0.ends in omega arith
        | inr up ↦ let l = up.1 in absurd (omega arith)
      ]
      | inr b ↦ let k = b.0 in let q = b.1 in elim logs.stay.0 [
        | inl low ↦ let l = low.1 in absurd (omega arith)
        | inr up ↦ let e = up.0.ends in omega arith
      ]
    ]
