-- What is left of a standing list under a plan, whether a lap begins or not, and what one more log block makes of it.
use Rattle.std.specs.Prelude.{◌≡◌, ℕ, ◌+◌, ◌*◌, ◌<◌, ◌≤◌, List, [], ◌∷◌, ◌++◌, length, Bool, true, false, cond, ◌&&◌, map, reverse, Option, Some}
use Rattle.std.proofs.Common.{refl, sym, ap, subst, ◌∙◌, leb, arith}
use Rattle.std.proofs.lemmas.Bool.{false≢true}
use Rattle.std.proofs.lemmas.List.{length-map}
use Rattle.std.proofs.lemmas.List.Elements.{filter-append}
use Rattle.std.specs.List.{AllByRecursion, filter}
use Rattle.l2_log.specs.Rules.{log_len}
use Rattle.l2_log.specs.declared.entry.LogEntry.{LogEntry}
use Rattle.l2_log.specs.declared.pointer.LogPtr.{LogPtr}
use Rattle.l2_log.specs.declared.header.DevHeader.{DevHeader}
use Rattle.l2_ring.specs.declared.live.Written.{Written}
use Rattle.l2_ring.specs.declared.plan.Plan.{Plan}
use Rattle.l2_ring.specs.Ring.{RingState, IsPlanFor, numbers_of, last_lap}
use Rattle.l2_ring.specs.Stays.{stays, stays_at}
use Rattle.l2_ring.specs.Ranges.{Range, Stays, IsOlder, IsInOrder, range_of}
use Rattle.l2_ring.proofs.PlanLaws.{stays_tells, tells_stays, stayed_before, older_falls, logs_fit}
use Rattle.l2_dev.specs.Chain.{Visit, IsPassed, IsLinked, numbers_in, ring_len}
use Rattle.l2_dev.specs.Restoring.{valid_of, found_in, told_by, written_in, is_valid}
use Rattle.l2_dev.specs.Standing.{IsOrderly, passed_ranges, block_range, leading}
use Rattle.l2_dev.proofs.ListLaws.{FailsOn, filter_yes, filter_none, filter_alike, filter_both, filter_all, all_append, all_left, all_right, all_weaker, all_two, all_map, all_unmap, map_filter}

-- the test whether a plan keeps a range
abbrev pub keeps : Plan → Range → Bool
keeps plan range = stays_at plan range.lap range.place range.size

not_kept : (plan : Plan) (r : Range) → keeps plan r ≡ false → ¬ Stays plan r
not_kept plan r e s = false≢true (sym e ∙ tells_stays plan r s)

falls_if : (plan : Plan) (r : Range) (b : Bool) → keeps plan r ≡ b → ¬ Stays plan r → b ≡ false
falls_if plan r true e gone = absurd (gone (stays_tells plan r e))
falls_if plan r false e gone = refl

falls_of : (plan : Plan) (r : Range) → (¬ Stays plan r) → keeps plan r ≡ false
falls_of plan r gone = falls_if plan r (keeps plan r) refl gone

-- ranges have some bytes
abbrev pub HaveBytes : List Range → Type 0
HaveBytes ranges = AllByRecursion (λ (r : Range). 0 < r.size) ranges

-- behind a range that the plan drops, it drops all
pub all_behind_fall : (ring : RingState) (n : ℕ) (plan : Plan) (x : Range) (rs : List Range) → IsPlanFor ring n plan → plan.lap < last_lap
    → Stays (numbers_of ring) x → keeps plan x ≡ false → HaveBytes rs → AllByRecursion (IsOlder x) rs → AllByRecursion (λ (r : Range). keeps plan r ≡ false) rs
all_behind_fall ring n plan x rs for below here gone some older =
    all_two (λ (r : Range). 0 < r.size) (IsOlder x) (λ (r : Range). keeps plan r ≡ false) rs
    (λ (r : Range) bytes old. falls_of plan r (older_falls ring n plan x r for below bytes here (not_kept plan x gone) old)) some older

-- a plan keeps the front of ranges in their order
pub plan_fails_on : (ring : RingState) (n : ℕ) (plan : Plan) (rs : List Range) → IsPlanFor ring n plan → plan.lap < last_lap
    → AllByRecursion (Stays (numbers_of ring)) rs → HaveBytes rs → IsInOrder rs → FailsOn (keeps plan) rs
plan_fails_on ring n plan [] for below here some ordered = tt
plan_fails_on ring n plan (x ∷ rs) for below here some ordered = (
  λ gone. all_behind_fall ring n plan x rs for below here.0 gone some.1 ordered.0,
  plan_fails_on ring n plan rs for below here.1 some.1 ordered.1,
)

-- the same of entries
pub entries_fail_on : (plan : Plan) (ws : List Written) → FailsOn (keeps plan) (map range_of ws) → FailsOn (stays plan) ws
entries_fail_on plan [] on = tt
entries_fail_on plan (w ∷ ws) on = (
  λ gone. all_unmap (λ (r : Range). keeps plan r ≡ false) range_of ws (on.0 gone),
  entries_fail_on plan ws on.1,
)

ordered_if : (p : Range → Bool) (x : Range) (rs : List Range) (b : Bool) → AllByRecursion (IsOlder x) (filter p rs) → IsInOrder (filter p rs) → IsInOrder (cond b (x ∷ filter p rs) (filter p rs))
ordered_if p x rs true older rest = (older, rest)
ordered_if p x rs false older rest = rest

-- what is left of ranges in their order is in its order
pub filter_ordered : (p : Range → Bool) (rs : List Range) → IsInOrder rs → IsInOrder (filter p rs)
filter_ordered p [] ordered = tt
filter_ordered p (x ∷ rs) ordered = ordered_if p x rs (p x) (filter_all (IsOlder x) p rs ordered.0) (filter_ordered p rs ordered.1)

pub ordered_right : (xs ys : List Range) → IsInOrder (xs ++ ys) → IsInOrder ys
ordered_right [] ys ordered = ordered
ordered_right (x ∷ xs) ys ordered = ordered_right xs ys ordered.1

pub ordered_left : (xs ys : List Range) → IsInOrder (xs ++ ys) → IsInOrder xs
ordered_left [] ys ordered = tt
ordered_left (x ∷ xs) ys ordered = (all_left (IsOlder x) xs ys ordered.0, ordered_left xs ys ordered.1)

-- entries have some bytes
entry_bytes : (lap : ℕ) (es : List LogEntry) → AllByRecursion (λ (w : Written). 0 < w.live.key.size) (map (written_in lap) es)
entry_bytes lap [] = tt
entry_bytes lap (e ∷ es) = let sized = e.formed.sized.1 in (omega arith, entry_bytes lap es)

pub told_bytes : (v : Visit) → AllByRecursion (λ (w : Written). 0 < w.live.key.size) (told_by v)
told_bytes v = entry_bytes v.block.lap (reverse v.block.entries)

told_lap_of : (lap : ℕ) (es : List LogEntry) → AllByRecursion (λ (w : Written). w.lap ≡ lap) (map (written_in lap) es)
told_lap_of lap [] = tt
told_lap_of lap (e ∷ es) = (refl, told_lap_of lap es)

pub told_lap : (v : Visit) → AllByRecursion (λ (w : Written). w.lap ≡ v.block.lap) (told_by v)
told_lap v = told_lap_of v.block.lap (reverse v.block.entries)

passed_bytes_of : (numbers : Plan) (v : Visit) → HaveBytes (block_range v ∷ map range_of (valid_of numbers v))
passed_bytes_of numbers v = (
  omega arith,
  all_map (λ (r : Range). 0 < r.size) range_of (valid_of numbers v)
      (filter_all (λ (w : Written). 0 < w.live.key.size) (is_valid numbers v.ptr.place) (told_by v) (told_bytes v)),
)

pub passed_bytes : (numbers : Plan) (vs : List Visit) → HaveBytes (passed_ranges numbers vs)
passed_bytes numbers [] = tt
passed_bytes numbers (v ∷ vs) =
    all_append (λ (r : Range). 0 < r.size) (block_range v ∷ map range_of (valid_of numbers v)) (passed_ranges numbers vs) (passed_bytes_of numbers v) (passed_bytes numbers vs)

-- the entries are among the ranges
pub found_among : (P : Range → Type 0) (numbers : Plan) (vs : List Visit) → AllByRecursion P (passed_ranges numbers vs) → AllByRecursion (λ (w : Written). P (range_of w)) (found_in numbers vs)
found_among P numbers [] all = tt
found_among P numbers (v ∷ vs) all =
    all_append (λ (w : Written). P (range_of w)) (valid_of numbers v) (found_in numbers vs)
    (all_unmap P range_of (valid_of numbers v) (all_left P (map range_of (valid_of numbers v)) (passed_ranges numbers vs) all.1))
    (found_among P numbers vs (all_right P (map range_of (valid_of numbers v)) (passed_ranges numbers vs) all.1))

-- each log block lies where its lap asks for
abbrev pub BlocksStay : Plan → List Visit → Type 0
BlocksStay numbers visits = AllByRecursion (λ (v : Visit). Stays numbers (block_range v)) visits

and_if : (a b c : Bool) → (a ≡ true → b ≡ true) → (a && c) ≡ (a && (b && c))
and_if true b c f = ap (λ (t : Bool). t && c) (sym (f refl))
and_if false b c f = refl

valid_alike : (ring : RingState) (n : ℕ) (plan : Plan) (place : ℕ) (ws : List Written) → IsPlanFor ring n plan → plan.lap < last_lap
    → AllByRecursion (λ (w : Written). 0 < w.live.key.size) ws
    → AllByRecursion (λ (w : Written). is_valid plan place w ≡ (stays plan w && is_valid (numbers_of ring) place w)) ws
valid_alike ring n plan place [] for below some = tt
valid_alike ring n plan place (w ∷ ws) for below some = (
  and_if (stays plan w) (stays (numbers_of ring) w) (leb (w.live.place + w.live.key.size) place)
      (λ e. tells_stays (numbers_of ring) (range_of w) (stayed_before ring n plan (range_of w) for below some.0 (stays_tells plan (range_of w) e))),
  valid_alike ring n plan place ws for below some.1,
)

-- the valid entries of a log block in a plan are those valid before that the plan keeps
valid_after : (ring : RingState) (n : ℕ) (plan : Plan) (v : Visit) → IsPlanFor ring n plan → plan.lap < last_lap
    → valid_of plan v ≡ filter (stays plan) (valid_of (numbers_of ring) v)
valid_after ring n plan v for below =
    filter_alike (is_valid plan v.ptr.place) (λ (w : Written). stays plan w && is_valid (numbers_of ring) v.ptr.place w) (told_by v)
    (valid_alike ring n plan v.ptr.place (told_by v) for below (told_bytes v))
    ∙ sym (filter_both (stays plan) (is_valid (numbers_of ring) v.ptr.place) (told_by v))

found_after_if : (ring : RingState) (n : ℕ) (plan : Plan) (v : Visit) (vs : List Visit) (b : Bool) → IsPlanFor ring n plan → plan.lap < last_lap
    → Stays (numbers_of ring) (block_range v) → IsOrderly (numbers_of ring) (v ∷ vs)
    → keeps plan (block_range v) ≡ b → found_in plan (leading plan vs) ≡ filter (stays plan) (found_in (numbers_of ring) vs)
    → found_in plan (cond b (v ∷ leading plan vs) []) ≡ filter (stays plan) (found_in (numbers_of ring) (v ∷ vs))
found_after_if ring n plan v vs true for below here ordered e rest =
    ap (λ (ws : List Written). ws ++ found_in plan (leading plan vs)) (valid_after ring n plan v for below)
    ∙ ap (λ (ws : List Written). filter (stays plan) (valid_of (numbers_of ring) v) ++ ws) rest
    ∙ sym (filter-append (stays plan) (valid_of (numbers_of ring) v) (found_in (numbers_of ring) vs))
found_after_if ring n plan v vs false for below here ordered e rest =
    let behind : List Range = map range_of (valid_of (numbers_of ring) v) ++ passed_ranges (numbers_of ring) vs in
    let some = (passed_bytes (numbers_of ring) (v ∷ vs)).1 in
    let fall = all_behind_fall ring n plan (block_range v) behind for below here e some ordered.0 in
    let among = found_among (λ (r : Range). keeps plan r ≡ false) (numbers_of ring) (v ∷ vs) (e, fall) in
    sym (filter_none (stays plan) (found_in (numbers_of ring) (v ∷ vs)) among)

-- what is found along the front that a plan leaves is what was found before, as far as the plan keeps it
pub found_after : (ring : RingState) (n : ℕ) (plan : Plan) (vs : List Visit) → IsPlanFor ring n plan → plan.lap < last_lap
    → BlocksStay (numbers_of ring) vs → IsOrderly (numbers_of ring) vs
    → found_in plan (leading plan vs) ≡ filter (stays plan) (found_in (numbers_of ring) vs)
found_after ring n plan [] for below here ordered = refl
found_after ring n plan (v ∷ vs) for below here ordered =
    found_after_if ring n plan v vs (keeps plan (block_range v)) for below here.0 ordered refl
    (found_after ring n plan vs for below here.1 (ordered_right (block_range v ∷ map range_of (valid_of (numbers_of ring) v)) (passed_ranges (numbers_of ring) vs) ordered))

passed_after_if : (ring : RingState) (n : ℕ) (plan : Plan) (v : Visit) (vs : List Visit) (b : Bool) → IsPlanFor ring n plan → plan.lap < last_lap
    → Stays (numbers_of ring) (block_range v) → IsOrderly (numbers_of ring) (v ∷ vs)
    → keeps plan (block_range v) ≡ b → passed_ranges plan (leading plan vs) ≡ filter (keeps plan) (passed_ranges (numbers_of ring) vs)
    → passed_ranges plan (cond b (v ∷ leading plan vs) []) ≡ filter (keeps plan) (passed_ranges (numbers_of ring) (v ∷ vs))
passed_after_if ring n plan v vs true for below here ordered e rest =
    let old : List Range = map range_of (valid_of (numbers_of ring) v) in
    let valid : map range_of (valid_of plan v) ≡ filter (keeps plan) old =
    ap (λ (ws : List Written). map range_of ws) (valid_after ring n plan v for below) ∙ map_filter range_of (keeps plan) (valid_of (numbers_of ring) v) in
    ap (λ (rs : List Range). block_range v ∷ rs ++ passed_ranges plan (leading plan vs)) valid
    ∙ ap (λ (rs : List Range). block_range v ∷ filter (keeps plan) old ++ rs) rest
    ∙ ap (λ (rs : List Range). block_range v ∷ rs) (sym (filter-append (keeps plan) old (passed_ranges (numbers_of ring) vs)))
    ∙ sym (filter_yes (keeps plan) (block_range v) (old ++ passed_ranges (numbers_of ring) vs) e)
passed_after_if ring n plan v vs false for below here ordered e rest =
    let behind : List Range = map range_of (valid_of (numbers_of ring) v) ++ passed_ranges (numbers_of ring) vs in
    let some = (passed_bytes (numbers_of ring) (v ∷ vs)).1 in
    let fall = all_behind_fall ring n plan (block_range v) behind for below here e some ordered.0 in
    sym (filter_none (keeps plan) (block_range v ∷ behind) (e, fall))

-- and so it is with the ranges
passed_after : (ring : RingState) (n : ℕ) (plan : Plan) (vs : List Visit) → IsPlanFor ring n plan → plan.lap < last_lap
    → BlocksStay (numbers_of ring) vs → IsOrderly (numbers_of ring) vs
    → passed_ranges plan (leading plan vs) ≡ filter (keeps plan) (passed_ranges (numbers_of ring) vs)
passed_after ring n plan [] for below here ordered = refl
passed_after ring n plan (v ∷ vs) for below here ordered =
    passed_after_if ring n plan v vs (keeps plan (block_range v)) for below here.0 ordered refl
    (passed_after ring n plan vs for below here.1 (ordered_right (block_range v ∷ map range_of (valid_of (numbers_of ring) v)) (passed_ranges (numbers_of ring) vs) ordered))

-- so the front is orderly
pub orderly_after : (ring : RingState) (n : ℕ) (plan : Plan) (vs : List Visit) → IsPlanFor ring n plan → plan.lap < last_lap
    → BlocksStay (numbers_of ring) vs → IsOrderly (numbers_of ring) vs → IsOrderly plan (leading plan vs)
orderly_after ring n plan vs for below here ordered =
    subst IsInOrder (sym (passed_after ring n plan vs for below here ordered)) (filter_ordered (keeps plan) (passed_ranges (numbers_of ring) vs) ordered)

leading_all_if : (P : Visit → Type 0) (plan : Plan) (v : Visit) (vs : List Visit) (b : Bool) → P v → AllByRecursion P (leading plan vs) → AllByRecursion P (cond b (v ∷ leading plan vs) [])
leading_all_if P plan v vs true h rest = (h, rest)
leading_all_if P plan v vs false h rest = tt

-- what holds of all log blocks holds of those of the front
pub leading_all : (P : Visit → Type 0) (plan : Plan) (vs : List Visit) → AllByRecursion P vs → AllByRecursion P (leading plan vs)
leading_all P plan [] all = tt
leading_all P plan (v ∷ vs) all = leading_all_if P plan v vs (keeps plan (block_range v)) all.0 (leading_all P plan vs all.1)

leading_stay_if : (plan : Plan) (v : Visit) (vs : List Visit) (b : Bool) → keeps plan (block_range v) ≡ b → BlocksStay plan (leading plan vs) → BlocksStay plan (cond b (v ∷ leading plan vs) [])
leading_stay_if plan v vs true e rest = (stays_tells plan (block_range v) e, rest)
leading_stay_if plan v vs false e rest = tt

-- the log blocks of the front stay in the plan
pub leading_stay : (plan : Plan) (vs : List Visit) → BlocksStay plan (leading plan vs)
leading_stay plan [] = tt
leading_stay plan (v ∷ vs) = leading_stay_if plan v vs (keeps plan (block_range v)) refl (leading_stay plan vs)

leading_linked_if : (a b : Option LogPtr) (plan : Plan) (v : Visit) (vs : List Visit) (t : Bool) → a ≡ Some v.ptr → IsLinked b v.block.prev (leading plan vs) → IsLinked a b (cond t (v ∷ leading plan vs) [])
leading_linked_if a b plan v vs true at rest = (at, rest)
leading_linked_if a b plan v vs false at rest = tt

-- the same pointers lead along the front
pub leading_linked : (a b : Option LogPtr) (plan : Plan) (vs : List Visit) → IsLinked a b vs → IsLinked a b (leading plan vs)
leading_linked a b plan [] linked = tt
leading_linked a b plan (v ∷ vs) linked = leading_linked_if a b plan v vs (keeps plan (block_range v)) linked.0 (leading_linked b v.block.prev plan vs linked.1)

blocks_among : (P : Range → Type 0) (numbers : Plan) (vs : List Visit) → AllByRecursion P (passed_ranges numbers vs) → AllByRecursion P (map block_range vs)
blocks_among P numbers [] all = tt
blocks_among P numbers (v ∷ vs) all =
    (all.0, blocks_among P numbers vs (all_right P (map range_of (valid_of numbers v)) (passed_ranges numbers vs) all.1))

blocks_ordered : (numbers : Plan) (vs : List Visit) → IsOrderly numbers vs → IsInOrder (map block_range vs)
blocks_ordered numbers [] ordered = tt
blocks_ordered numbers (v ∷ vs) ordered = (
  blocks_among (IsOlder (block_range v)) numbers vs (all_right (IsOlder (block_range v)) (map range_of (valid_of numbers v)) (passed_ranges numbers vs) ordered.0),
  blocks_ordered numbers vs (ordered_right (map range_of (valid_of numbers v)) (passed_ranges numbers vs) ordered.1),
)

all_logs : (vs : List Visit) → AllByRecursion (λ (r : Range). r.size ≡ log_len) (map block_range vs)
all_logs [] = tt
all_logs (v ∷ vs) = (refl, all_logs vs)

-- the log blocks of a standing list are no longer than the ring
pub standing_fits : (header : DevHeader) (vs : List Visit) → BlocksStay (numbers_in header) vs → IsOrderly (numbers_in header) vs → log_len * length vs ≤ ring_len header
standing_fits header vs here ordered =
    let hand = header.hand_in.to in
    let top = header.top_in.to in
    let long = header.ends.long in
    let order = header.order in
    let evict = header.evict_in.from in
    let fit = logs_fit (numbers_in header) header.end (map block_range vs) order hand top (omega arith) evict
    record { stay = all_map (Stays (numbers_in header)) block_range vs here; sizes = all_logs vs; ordered = blocks_ordered (numbers_in header) vs ordered } in
    let len = length-map vs block_range in
    subst (λ (n : ℕ). log_len * n ≤ ring_len header) len fit

-- the log blocks that a header passes lie where their laps ask for
pub block_stays : (header : DevHeader) (vs : List Visit) → AllByRecursion (IsPassed header) vs → BlocksStay (numbers_in header) vs
block_stays header vs passed = all_weaker (IsPassed header) (λ (v : Visit). Stays (numbers_in header) (block_range v)) vs (λ v p. p.placed.part) passed

map_append_ordered : (xs : List Written) (rs : List Range) → IsInOrder (map range_of xs ++ rs) → (ys : List Written) → ((P : Range → Type 0) → AllByRecursion P rs → AllByRecursion (λ (w : Written). P (range_of w)) ys)
    → IsInOrder (map range_of ys) → IsInOrder (map range_of (xs ++ ys))
map_append_ordered [] rs ordered ys among rest = rest
map_append_ordered (x ∷ xs) rs ordered ys among rest = (
  all_map (IsOlder (range_of x)) range_of (xs ++ ys)
      (all_append (λ (w : Written). IsOlder (range_of x) (range_of w)) xs ys
      (all_unmap (IsOlder (range_of x)) range_of xs (all_left (IsOlder (range_of x)) (map range_of xs) rs ordered.0))
      (among (IsOlder (range_of x)) (all_right (IsOlder (range_of x)) (map range_of xs) rs ordered.0))),
  map_append_ordered xs rs ordered.1 ys among rest,
)

-- the valid entries are in order
pub found_ordered : (numbers : Plan) (vs : List Visit) → IsOrderly numbers vs → IsInOrder (map range_of (found_in numbers vs))
found_ordered numbers [] ordered = tt
found_ordered numbers (v ∷ vs) ordered =
    map_append_ordered (valid_of numbers v) (passed_ranges numbers vs) ordered.1 (found_in numbers vs) (λ P all. found_among P numbers vs all)
    (found_ordered numbers vs (ordered_right (block_range v ∷ map range_of (valid_of numbers v)) (passed_ranges numbers vs) ordered))
