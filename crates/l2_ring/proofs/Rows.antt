-- Entries from the oldest to the newest, and what a plan drops of them.
use Rattle.std.proofs.Common.{◌≡◌, ℕ, ◌+◌, ◌-◌, ◌<◌, ◌≤◌, Bool, true, false, not, cond, suc, zero, List, [], ◌∷◌, ◌++◌, length, take, drop, get_or, refl, ap, sym, subst, ◌∙◌, arith}
use Rattle.std.proofs.lemmas.Bool.{false≢true}
use Rattle.std.specs.List.{AllByRecursion, filter}
use Rattle.std.proofs.lemmas.List.{drop_more, get_or-take, get_or_default, length-take, take_more}
use Rattle.std.proofs.lemmas.List.Elements.{All-head, All-tail}
use Rattle.std.proofs.lemmas.List.Filters.{length-filter_more}
use Rattle.l2_ring.specs.declared.live.Written.{Written}
use Rattle.l2_ring.specs.declared.plan.Plan.{Plan}
use Rattle.l2_ring.specs.Ranges.{IsOlder, range_of}
use Rattle.l2_ring.specs.Ring.{RingState, IsPlanFor, numbers_of}
use Rattle.l2_ring.specs.Stays.{stays, falls, AreLive}
use Rattle.l2_ring.specs.Queue.{AreOldestFirst, DropsFront, IsPlanOver, fallen}
use Rattle.l2_ring.proofs.PlanLaws.{stays_tells, tells_stays, older_falls_always}

-- where an older entry stays, the newer one does
newer_stays : (ring : RingState) (n : ℕ) (plan : Plan) (old new : Written) (b : Bool) → IsPlanFor ring n plan → ring.hand ≤ ring.evict → 0 < old.live.key.size
    → stays (numbers_of ring) old ≡ true → stays (numbers_of ring) new ≡ true → IsOlder (range_of new) (range_of old) → stays plan old ≡ true → stays plan new ≡ b → b ≡ true
newer_stays ring n plan old new true for order some there here older keeps is = refl
newer_stays ring n plan old new false for order some there here older keeps is =
    absurd (older_falls_always ring n plan (range_of new) (range_of old) for order some
    (stays_tells (numbers_of ring) (range_of new) here) (stays_tells (numbers_of ring) (range_of old) there)
    (λ s. false≢true (sym is ∙ tells_stays plan (range_of new) s)) older (stays_tells plan (range_of old) keeps))

-- so where the first stays, all do
pub all_stay : (ring : RingState) (n : ℕ) (plan : Plan) (w : Written) (ws : List Written) → IsPlanFor ring n plan → ring.hand ≤ ring.evict → AreOldestFirst (w ∷ ws)
    → AreLive (numbers_of ring) (w ∷ ws) → stays plan w ≡ true → AllByRecursion (λ (x : Written). stays plan x ≡ true) (w ∷ ws)
all_stay ring n plan w [] for order row live keeps = (keeps, tt)
all_stay ring n plan w (v ∷ vs) for order row live keeps =
    let P : Written → Type 0 = λ x. stays (numbers_of ring) x ≡ true in
    let rest : AreLive (numbers_of ring) (v ∷ vs) = All-tail P w (v ∷ vs) live in
    let next : stays plan v ≡ true = newer_stays ring n plan w v (stays plan v) for order row.0 (All-head P w (v ∷ vs) live) (All-head P v vs rest) row.1 keeps refl in
    (keeps, all_stay ring n plan v vs for order row.2 rest next)

none_fall : (plan : Plan) (ws : List Written) → AllByRecursion (λ (x : Written). stays plan x ≡ true) ws → filter (falls plan) ws ≡ []
none_fall plan [] all = refl
none_fall plan (w ∷ ws) all = ap (λ (b : Bool). cond (not b) (w ∷ filter (falls plan) ws) (filter (falls plan) ws)) all.0 ∙ none_fall plan ws all.1

all_kept : (plan : Plan) (ws : List Written) → AllByRecursion (λ (x : Written). stays plan x ≡ true) ws → filter (stays plan) ws ≡ ws
all_kept plan [] all = refl
all_kept plan (w ∷ ws) all =
    ap (λ (b : Bool). cond b (w ∷ filter (stays plan) ws) (filter (stays plan) ws)) all.0 ∙ ap (λ (xs : List Written). w ∷ xs) (all_kept plan ws all.1)

front_if : (ring : RingState) (n : ℕ) (plan : Plan) (w : Written) (ws : List Written) (b : Bool) → IsPlanFor ring n plan → ring.hand ≤ ring.evict → AreOldestFirst (w ∷ ws)
    → AreLive (numbers_of ring) (w ∷ ws) → stays plan w ≡ b → DropsFront plan ws → DropsFront plan (w ∷ ws)
front_if ring n plan w ws true for order row live is rest =
    let all = all_stay ring n plan w ws for order row live is in
    let none : fallen plan (w ∷ ws) ≡ zero = ap (λ (b : Bool). cond (not b) (suc (fallen plan ws)) zero) is in
    record {
      some = omega arith;
      falls_first = none_fall plan (w ∷ ws) all ∙ sym (ap (λ (k : ℕ). take k (w ∷ ws)) none);
      stays_behind = all_kept plan (w ∷ ws) all ∙ sym (ap (λ (k : ℕ). drop k (w ∷ ws)) none);
    }
front_if ring n plan w ws false for order row live is rest =
    let one : fallen plan (w ∷ ws) ≡ suc (fallen plan ws) = ap (λ (b : Bool). cond (not b) (suc (fallen plan ws)) zero) is in
    let some = rest.some in
    record {
      some = omega arith;
      falls_first = ap (λ (b : Bool). cond (not b) (w ∷ filter (falls plan) ws) (filter (falls plan) ws)) is ∙ ap (λ (xs : List Written). w ∷ xs) rest.falls_first
          ∙ sym (ap (λ (k : ℕ). take k (w ∷ ws)) one);
      stays_behind = ap (λ (b : Bool). cond b (w ∷ filter (stays plan) ws) (filter (stays plan) ws)) is ∙ rest.stays_behind ∙ sym (ap (λ (k : ℕ). drop k (w ∷ ws)) one);
    }

front_by : (ring : RingState) (n : ℕ) (plan : Plan) (ws : List Written) → IsPlanFor ring n plan → ring.hand ≤ ring.evict → AreOldestFirst ws → AreLive (numbers_of ring) ws → DropsFront plan ws
front_by ring n plan [] for order row live = record { some = omega arith; falls_first = refl; stays_behind = refl }
front_by ring n plan (w ∷ ws) for order row live =
    front_if ring n plan w ws (stays plan w) for order row live refl
    (front_by ring n plan ws for order row.2 (All-tail (λ (x : Written). stays (numbers_of ring) x ≡ true) w ws live))

-- of entries in order a plan drops the front
pub front_falls : (plan : Plan) (ws : List Written) → IsPlanOver ws plan → AreOldestFirst ws → DropsFront plan ws
front_falls plan ws over row = front_by over.ring over.plan_of.0 plan ws over.plan_of.1 over.order row over.placed

-- what is left behind a front is in order
pub rest_in_order : (k : ℕ) (ws : List Written) → AreOldestFirst ws → AreOldestFirst (drop k ws)
rest_in_order zero ws row = row
rest_in_order (suc k) [] row = tt
rest_in_order (suc k) (w ∷ ws) row = rest_in_order k ws row.2

-- one entry more, written after the last
pub one_more : (ws : List Written) (w : Written) → AreOldestFirst ws → 0 < w.live.key.size
    → ((d : Written) → 0 < length ws → IsOlder (range_of w) (range_of (get_or ws (length ws - 1) d))) → AreOldestFirst (ws ++ w ∷ [])
one_more [] w row some after = (some, tt, tt)
one_more (x ∷ []) w row some after = (row.0, after x (omega arith), (some, tt, tt))
one_more (x ∷ y ∷ ws) w row some after =
    let place : length (x ∷ y ∷ ws) - 1 ≡ suc (length (y ∷ ws) - 1) = omega arith in (
      row.0,
      row.1,
      one_more (y ∷ ws) w row.2 some
          (λ d lt. subst (λ (i : ℕ). IsOlder (range_of w) (range_of (get_or (x ∷ y ∷ ws) i d))) place (after d (omega arith))),
    )

fallen_if : (plan : Plan) (w : Written) (ws : List Written) (b : Bool) → stays plan w ≡ b → fallen plan (w ∷ ws) ≡ cond b zero (suc (fallen plan ws))
fallen_if plan w ws true e = ap (λ (b : Bool). cond (not b) (suc (fallen plan ws)) zero) e
fallen_if plan w ws false e = ap (λ (b : Bool). cond (not b) (suc (fallen plan ws)) zero) e

-- the first entry stays: nothing at the front falls
pub fallen_none : (plan : Plan) (w : Written) (ws : List Written) → stays plan w ≡ true → fallen plan (w ∷ ws) ≡ 0
fallen_none plan w ws e = fallen_if plan w ws true e

-- the first entry falls
pub fallen_one : (plan : Plan) (w : Written) (ws : List Written) → stays plan w ≡ false → fallen plan (w ∷ ws) ≡ fallen plan ws + 1
fallen_one plan w ws e = let s : fallen plan (w ∷ ws) ≡ suc (fallen plan ws) = fallen_if plan w ws false e in omega arith

most_if : (plan : Plan) (w : Written) (ws : List Written) (b : Bool) → stays plan w ≡ b → fallen plan ws ≤ length ws → fallen plan (w ∷ ws) ≤ length (w ∷ ws)
most_if plan w ws true e le = let n : fallen plan (w ∷ ws) ≡ 0 = fallen_none plan w ws e in omega arith
most_if plan w ws false e le = let s : fallen plan (w ∷ ws) ≡ fallen plan ws + 1 = fallen_one plan w ws e in omega arith

-- no more fall at the front than there are
pub fallen_most : (plan : Plan) (ws : List Written) → fallen plan ws ≤ length ws
fallen_most plan [] = omega arith
fallen_most plan (w ∷ ws) = most_if plan w ws (stays plan w) refl (fallen_most plan ws)

-- of the entries from i on, the first stays: nothing more falls at the front
pub fallen_end : (plan : Plan) (ws : List Written) (i : ℕ) (w : Written) → i < length ws → stays plan (get_or ws i w) ≡ true → fallen plan (drop i ws) ≡ 0
fallen_end plan ws i w lt is =
    ap (λ (vs : List Written). fallen plan vs) (drop_more ws i w lt) ∙ fallen_none plan (get_or ws i w) (drop (i + 1) ws) is

-- or it falls
pub fallen_next : (plan : Plan) (ws : List Written) (i : ℕ) (w : Written) → i < length ws → stays plan (get_or ws i w) ≡ false → fallen plan (drop i ws) ≡ fallen plan (drop (i + 1) ws) + 1
fallen_next plan ws i w lt is =
    ap (λ (vs : List Written). fallen plan vs) (drop_more ws i w lt) ∙ fallen_one plan (get_or ws i w) (drop (i + 1) ws) is

count_if : {X : Type 0} (p : X → Bool) (x : X) (xs : List X) (i : ℕ) (b : Bool) → length (filter p (take i xs)) ≤ length (filter p xs)
    → length (cond b (x ∷ filter p (take i xs)) (filter p (take i xs))) ≤ length (cond b (x ∷ filter p xs) (filter p xs))
count_if p x xs i true le = omega arith
count_if p x xs i false le = le

-- what falls of the first i is no more than what falls of all
pub front_count : {X : Type 0} (p : X → Bool) (xs : List X) (i : ℕ) → length (filter p (take i xs)) ≤ length (filter p xs)
front_count p xs zero = omega arith
front_count p [] (suc i) = omega arith
front_count p (x ∷ xs) (suc i) = count_if p x xs i (p x) (front_count p xs i)

-- one more entry: it falls
pub count_one : (plan : Plan) (ws : List Written) (i : ℕ) (d w : Written) → i < length ws → get_or ws i d ≡ w → stays plan w ≡ false
    → length (filter (falls plan) (take (i + 1) ws)) ≡ length (filter (falls plan) (take i ws)) + 1
count_one plan ws i d w lt e is =
    length-filter_more (falls plan) ws i d lt ∙ ap (λ (v : Written). length (filter (falls plan) (take i ws)) + cond (falls plan v) 1 0) e
    ∙ ap (λ (b : Bool). length (filter (falls plan) (take i ws)) + cond (not b) 1 0) is

-- or it stays
pub count_same : (plan : Plan) (ws : List Written) (i : ℕ) (d w : Written) → i < length ws → get_or ws i d ≡ w → stays plan w ≡ true
    → length (filter (falls plan) (take (i + 1) ws)) ≡ length (filter (falls plan) (take i ws))
count_same plan ws i d w lt e is =
    let same : length (filter (falls plan) (take (i + 1) ws)) ≡ length (filter (falls plan) (take i ws)) + 0 =
    length-filter_more (falls plan) ws i d lt ∙ ap (λ (v : Written). length (filter (falls plan) (take i ws)) + cond (falls plan v) 1 0) e
    ∙ ap (λ (b : Bool). length (filter (falls plan) (take i ws)) + cond (not b) 1 0) is in omega arith

-- a front has as many entries as fall
pub front_length : (plan : Plan) (ws : List Written) → DropsFront plan ws → length (filter (falls plan) ws) ≡ fallen plan ws
front_length plan ws front =
    let some = front.some in
    ap (λ (vs : List Written). length vs) front.falls_first ∙ omega (arith, length-take (fallen plan ws) ws)

-- the first entries are in order, and so is one more
pub row_next : (ws : List Written) (i : ℕ) (d : Written) → i < length ws → AreOldestFirst (take i ws) → 0 < (get_or ws i d).live.key.size
    → (0 < i → IsOlder (range_of (get_or ws i d)) (range_of (get_or ws (i - 1) d))) → AreOldestFirst (take (i + 1) ws)
row_next ws i d lt row some after =
    let w : Written = get_or ws i d in
    let len : length (take i ws) ≡ i = omega (arith, length-take i ws) in
    let last : (e : Written) → 0 < i → get_or ws (i - 1) d ≡ get_or (take i ws) (length (take i ws) - 1) e =
    λ e more. let below : i - 1 < i = omega arith in let inside : i - 1 < length ws = omega arith in
    get_or_default ws (i - 1) d e inside ∙ sym (get_or-take i ws (i - 1) e below) ∙ ap (λ (n : ℕ). get_or (take i ws) (n - 1) e) (sym len) in
    subst (λ (vs : List Written). AreOldestFirst vs) (sym (take_more ws i d lt))
    (one_more (take i ws) w row some (λ e more. let from : 0 < i = omega arith in subst (λ (v : Written). IsOlder (range_of w) (range_of v)) (last e from) (after from)))

pub of_not : (value b : Bool) → value ≡ not b → value ≡ false → b ≡ true
of_not value true e none = refl
of_not value false e none = absurd (false≢true (sym none ∙ e))
