-- What one more log block, behind the blocks that it tells of, makes of a standing list.
use Rattle.std.specs.Prelude.{◌≡◌, ℕ, ◌+◌, ◌≤◌, List, [], ◌∷◌, ◌++◌, Bool, true, false, ◌&&◌, map}
use Rattle.std.proofs.Common.{inl, inr, refl, sym, ap, subst, ◌∙◌, leb, arith}
use Rattle.std.proofs.lemmas.Bool.{leb-true, le-leb, and_parts, and_from}
use Rattle.std.specs.List.{AllByRecursion, filter}
use Rattle.l2_log.specs.Rules.{ring_start, log_len}
use Rattle.l2_ring.specs.declared.live.Written.{Written}
use Rattle.l2_ring.specs.declared.plan.Plan.{Plan}
use Rattle.l2_ring.specs.Ring.{with_hand}
use Rattle.l2_ring.specs.Stays.{stays}
use Rattle.l2_ring.specs.Ranges.{Range, Stays, IsOlder, IsInOrder, range_of}
use Rattle.l2_ring.proofs.PlanLaws.{stays_tells, tells_stays, stays_further, older_than_new, stays_beside}
use Rattle.l2_dev.specs.Chain.{Visit}
use Rattle.l2_dev.specs.Restoring.{valid_of, found_in, told_by, is_valid}
use Rattle.l2_dev.specs.Standing.{IsOrderly, passed_ranges, block_range, IsRow}
use Rattle.l2_dev.proofs.ListLaws.{filter_alike, filter_whole, all_passes, all_append, all_map, all_weaker}
use Rattle.l2_dev.proofs.StandingLaws.{BlocksStay, told_lap}

-- two tests that follow from each other are one
pub same_test : (a b : Bool) → (a ≡ true → b ≡ true) → (b ≡ true → a ≡ true) → a ≡ b
same_test true b f g = sym (f refl)
same_test false true f g = g refl
same_test false false f g = refl

beside_if : (a b c : Bool) → (c ≡ true → a ≡ b) → (a && c) ≡ (b && c)
beside_if a b true f = ap (λ (t : Bool). t && true) (f refl)
beside_if true true false f = refl
beside_if true false false f = refl
beside_if false true false f = refl
beside_if false false false f = refl

valid_further : (numbers : Plan) (hand : ℕ) (v : Visit) (w : Written) → Stays numbers (block_range v) → numbers.hand ≤ hand → w.lap ≡ v.block.lap
    → is_valid (with_hand numbers hand) v.ptr.place w ≡ is_valid numbers v.ptr.place w
valid_further numbers hand v w here le lap =
    beside_if (stays (with_hand numbers hand) w) (stays numbers w) (leb (w.live.place + w.live.key.size) v.ptr.place)
    (λ ends.
    same_test (stays (with_hand numbers hand) w) (stays numbers w)
    (λ e. tells_stays numbers (range_of w) (stays_beside numbers hand (block_range v) (range_of w) here lap
    (leb-true (w.live.place + w.live.key.size) v.ptr.place ends) (stays_tells (with_hand numbers hand) (range_of w) e)))
    (λ e. tells_stays (with_hand numbers hand) (range_of w) (stays_further numbers hand (range_of w) le (stays_tells numbers (range_of w) e))))

valid_all_further : (numbers : Plan) (hand : ℕ) (v : Visit) (ws : List Written) → Stays numbers (block_range v) → numbers.hand ≤ hand
    → AllByRecursion (λ (w : Written). w.lap ≡ v.block.lap) ws
    → AllByRecursion (λ (w : Written). is_valid (with_hand numbers hand) v.ptr.place w ≡ is_valid numbers v.ptr.place w) ws
valid_all_further numbers hand v [] here le laps = tt
valid_all_further numbers hand v (w ∷ ws) here le laps = (valid_further numbers hand v w here le laps.0, valid_all_further numbers hand v ws here le laps.1)

valid_of_further : (numbers : Plan) (hand : ℕ) (v : Visit) → Stays numbers (block_range v) → numbers.hand ≤ hand → valid_of (with_hand numbers hand) v ≡ valid_of numbers v
valid_of_further numbers hand v here le =
    filter_alike (is_valid (with_hand numbers hand) v.ptr.place) (is_valid numbers v.ptr.place) (told_by v)
    (valid_all_further numbers hand v (told_by v) here le (told_lap v))

-- a hand further on changes nothing of what is found along log blocks that lie where their laps ask for
pub found_further : (numbers : Plan) (hand : ℕ) (vs : List Visit) → BlocksStay numbers vs → numbers.hand ≤ hand → found_in (with_hand numbers hand) vs ≡ found_in numbers vs
found_further numbers hand [] here le = refl
found_further numbers hand (v ∷ vs) here le =
    ap (λ (ws : List Written). ws ++ found_in (with_hand numbers hand) vs) (valid_of_further numbers hand v here.0 le)
    ∙ ap (λ (ws : List Written). valid_of numbers v ++ ws) (found_further numbers hand vs here.1 le)

pub passed_further : (numbers : Plan) (hand : ℕ) (vs : List Visit) → BlocksStay numbers vs → numbers.hand ≤ hand → passed_ranges (with_hand numbers hand) vs ≡ passed_ranges numbers vs
passed_further numbers hand [] here le = refl
passed_further numbers hand (v ∷ vs) here le =
    ap (λ (ws : List Written). block_range v ∷ map range_of ws ++ passed_ranges (with_hand numbers hand) vs) (valid_of_further numbers hand v here.0 le)
    ∙ ap (λ (rs : List Range). block_range v ∷ map range_of (valid_of numbers v) ++ rs) (passed_further numbers hand vs here.1 le)

pub blocks_further : (numbers : Plan) (hand : ℕ) (vs : List Visit) → BlocksStay numbers vs → numbers.hand ≤ hand → BlocksStay (with_hand numbers hand) vs
blocks_further numbers hand vs here le =
    all_weaker (λ (v : Visit). Stays numbers (block_range v)) (λ (v : Visit). Stays (with_hand numbers hand) (block_range v)) vs (λ v s. stays_further numbers hand (block_range v) le s) here

valid_stay_if : (numbers : Plan) (place : ℕ) (ws : List Written) → AllByRecursion (λ (w : Written). Stays numbers (range_of w)) (filter (is_valid numbers place) ws)
valid_stay_if numbers place ws =
    all_weaker (λ (w : Written). is_valid numbers place w ≡ true) (λ (w : Written). Stays numbers (range_of w)) (filter (is_valid numbers place) ws)
    (λ w e. stays_tells numbers (range_of w) (and_parts (stays numbers w) (leb (w.live.place + w.live.key.size) place) e).0) (all_passes (is_valid numbers place) ws)

-- all that a walk passes lies where its lap asks for
pub passed_stay : (numbers : Plan) (vs : List Visit) → BlocksStay numbers vs → AllByRecursion (Stays numbers) (passed_ranges numbers vs)
passed_stay numbers [] here = tt
passed_stay numbers (v ∷ vs) here = (
  here.0,
  all_append (Stays numbers) (map range_of (valid_of numbers v)) (passed_ranges numbers vs)
      (all_map (Stays numbers) range_of (valid_of numbers v) (valid_stay_if numbers v.ptr.place (told_by v))) (passed_stay numbers vs here.1),
)

-- ranges in their order behind others that are all newer
pub ordered_append : (xs ys : List Range) → IsInOrder xs → IsInOrder ys → AllByRecursion (λ (x : Range). AllByRecursion (IsOlder x) ys) xs → IsInOrder (xs ++ ys)
ordered_append [] ys ox oy newer = oy
ordered_append (x ∷ xs) ys ox oy newer = (all_append (IsOlder x) xs ys ox.0 newer.0, ordered_append xs ys ox.1 oy newer.1)

-- what was written in this lap from the hand on, as a row that ends at a place
pub record IsNew (numbers : Plan) (hand : ℕ) (w : Written) : Type 0 where
  pub lap : w.lap ≡ numbers.lap
  pub from : numbers.hand ≤ w.live.place
  pub to : w.live.place + w.live.key.size ≤ hand

row_from : (base hand : ℕ) (ws : List Written) → IsRow base hand ws → base ≤ hand
row_from base hand [] row = omega arith
row_from base hand (w ∷ ws) row = let e = row.0 in let rest = row_from base w.live.place ws row.1 in omega arith

row_new_to : (numbers : Plan) (end hand : ℕ) (ws : List Written) → hand ≤ end → AllByRecursion (λ (w : Written). w.lap ≡ numbers.lap) ws → IsRow numbers.hand hand ws
    → AllByRecursion (IsNew numbers end) ws
row_new_to numbers end hand [] le laps row = tt
row_new_to numbers end hand (w ∷ ws) le laps row =
    let e = row.0 in
    let from = row_from numbers.hand w.live.place ws row.1 in (
      record { lap = laps.0; from = from; to = omega arith },
      row_new_to numbers end w.live.place ws (omega arith) laps.1 row.1,
    )

-- a row from the hand on is new
pub row_new : (numbers : Plan) (hand : ℕ) (ws : List Written) → AllByRecursion (λ (w : Written). w.lap ≡ numbers.lap) ws → IsRow numbers.hand hand ws → AllByRecursion (IsNew numbers hand) ws
row_new numbers hand ws laps row = row_new_to numbers hand hand ws (omega arith) laps row

older_new : (numbers : Plan) (x : Range) (hand : ℕ) (ws : List Written) → x.lap ≡ numbers.lap → hand ≤ x.place → AllByRecursion (IsNew numbers hand) ws → AllByRecursion (IsOlder x) (map range_of ws)
older_new numbers x hand [] lap le all = tt
older_new numbers x hand (w ∷ ws) lap le all =
    let l = all.0.lap in let t = all.0.to in (inr (l ∙ sym lap, omega arith), older_new numbers x hand ws lap le all.1)

row_ordered : (numbers : Plan) (hand : ℕ) (ws : List Written) → AllByRecursion (λ (w : Written). w.lap ≡ numbers.lap) ws → IsRow numbers.hand hand ws → IsInOrder (map range_of ws)
row_ordered numbers hand [] laps row = tt
row_ordered numbers hand (w ∷ ws) laps row =
    (older_new numbers (range_of w) w.live.place ws laps.0 (omega arith) (row_new numbers w.live.place ws laps.1 row.1), row_ordered numbers w.live.place ws laps.1 row.1)

-- new ranges are newer than all that lies where its lap asks for
newer_all : (numbers : Plan) (hand : ℕ) (ws : List Written) (rs : List Range) → AllByRecursion (IsNew numbers hand) ws → AllByRecursion (Stays numbers) rs
    → AllByRecursion (λ (x : Range). AllByRecursion (IsOlder x) rs) (map range_of ws)
newer_all numbers hand [] rs new here = tt
newer_all numbers hand (w ∷ ws) rs new here =
    (all_weaker (Stays numbers) (IsOlder (range_of w)) rs (λ r s. older_than_new numbers (range_of w) r new.0.lap new.0.from s) here, newer_all numbers hand ws rs new.1 here)

-- a row of new entries in front of entries in their order
pub row_in_front : (numbers : Plan) (hand : ℕ) (ws : List Written) (rs : List Range) → AllByRecursion (λ (w : Written). w.lap ≡ numbers.lap) ws → IsRow numbers.hand hand ws
    → AllByRecursion (Stays numbers) rs → IsInOrder rs → IsInOrder (map range_of ws ++ rs)
row_in_front numbers hand ws rs laps row here ordered =
    ordered_append (map range_of ws) rs (row_ordered numbers hand ws laps row) ordered (newer_all numbers hand ws rs (row_new numbers hand ws laps row) here)

-- new entries lie in the lower part once the hand has passed them
pub row_stays : (numbers : Plan) (hand further : ℕ) (ws : List Written) → ring_start ≤ numbers.hand → hand ≤ further → AllByRecursion (IsNew numbers hand) ws
    → AllByRecursion (λ (w : Written). Stays (with_hand numbers further) (range_of w)) ws
row_stays numbers hand further [] start le new = tt
row_stays numbers hand further (w ∷ ws) start le new =
    let f = new.0.from in let t = new.0.to in
    (inl (record { begins = omega arith; ends = omega arith }, new.0.lap), row_stays numbers hand further ws start le new.1)

-- a log block that was written at the end of the row, with the row's entries
pub record IsNewBlock (numbers : Plan) (hand : ℕ) (v : Visit) : Type 0 where
  pub place : v.ptr.place ≡ hand
  pub lap : v.block.lap ≡ numbers.lap
  pub start : ring_start ≤ numbers.hand
  pub row : IsRow numbers.hand hand (told_by v)

pub new_laps : (numbers : Plan) (hand : ℕ) (v : Visit) → IsNewBlock numbers hand v → AllByRecursion (λ (w : Written). w.lap ≡ numbers.lap) (told_by v)
new_laps numbers hand v new =
    all_weaker (λ (w : Written). w.lap ≡ v.block.lap) (λ (w : Written). w.lap ≡ numbers.lap) (told_by v) (λ w e. e ∙ new.lap) (told_lap v)

new_valid : (numbers : Plan) (hand place further : ℕ) (ws : List Written) → ring_start ≤ numbers.hand → place ≡ hand → hand ≤ further → AllByRecursion (IsNew numbers hand) ws
    → AllByRecursion (λ (w : Written). is_valid (with_hand numbers further) place w ≡ true) ws
new_valid numbers hand place further [] start at le new = tt
new_valid numbers hand place further (w ∷ ws) start at le new =
    let f = new.0.from in let t = new.0.to in (
      and_from (stays (with_hand numbers further) w) (leb (w.live.place + w.live.key.size) place)
          (tells_stays (with_hand numbers further) (range_of w) (inl (record { begins = omega arith; ends = omega arith }, new.0.lap)))
          (le-leb (w.live.place + w.live.key.size) place (omega arith)),
      new_valid numbers hand place further ws start at le new.1,
    )

-- all that a new log block tells of is valid
pub new_all_valid : (numbers : Plan) (hand further : ℕ) (v : Visit) → hand ≤ further → IsNewBlock numbers hand v → valid_of (with_hand numbers further) v ≡ told_by v
new_all_valid numbers hand further v le new =
    filter_whole (is_valid (with_hand numbers further) v.ptr.place) (told_by v)
    (new_valid numbers hand v.ptr.place further (told_by v) new.start new.place le (row_new numbers hand (told_by v) (new_laps numbers hand v new) new.row))

-- with a new log block in front a list stays orderly
pub orderly_with : (numbers : Plan) (hand further : ℕ) (v : Visit) (vs : List Visit) → hand + log_len ≤ further → IsNewBlock numbers hand v → BlocksStay numbers vs
    → IsOrderly numbers vs → IsOrderly (with_hand numbers further) (v ∷ vs)
orderly_with numbers hand further v vs le new here ordered =
    let laps = new_laps numbers hand v new in
    let from = row_from numbers.hand hand (told_by v) new.row in
    let at = new.place in
    let there = passed_stay numbers vs here in
    let behind : IsInOrder (map range_of (told_by v) ++ passed_ranges numbers vs) = row_in_front numbers hand (told_by v) (passed_ranges numbers vs) laps new.row there ordered in
    let older : AllByRecursion (IsOlder (block_range v)) (map range_of (told_by v) ++ passed_ranges numbers vs) =
    all_append (IsOlder (block_range v)) (map range_of (told_by v)) (passed_ranges numbers vs)
    (older_new numbers (block_range v) hand (told_by v) new.lap (omega arith) (row_new numbers hand (told_by v) laps new.row))
    (all_weaker (Stays numbers) (IsOlder (block_range v)) (passed_ranges numbers vs) (λ r s. older_than_new numbers (block_range v) r new.lap (omega arith) s) there) in
    let rest : passed_ranges (with_hand numbers further) vs ≡ passed_ranges numbers vs = passed_further numbers further vs here (omega arith) in
    let valid : valid_of (with_hand numbers further) v ≡ told_by v = new_all_valid numbers hand further v (omega arith) new in
    subst (λ (ws : List Written). IsInOrder (block_range v ∷ map range_of ws ++ passed_ranges (with_hand numbers further) vs)) (sym valid)
    (subst (λ (rs : List Range). IsInOrder (block_range v ∷ map range_of (told_by v) ++ rs)) (sym rest) (older, behind))

-- it is found in front of all that was found before
pub found_with : (numbers : Plan) (hand further : ℕ) (v : Visit) (vs : List Visit) → hand + log_len ≤ further → IsNewBlock numbers hand v → BlocksStay numbers vs
    → found_in (with_hand numbers further) (v ∷ vs) ≡ told_by v ++ found_in numbers vs
found_with numbers hand further v vs le new here =
    let from = row_from numbers.hand hand (told_by v) new.row in
    ap (λ (ws : List Written). ws ++ found_in (with_hand numbers further) vs) (new_all_valid numbers hand further v (omega arith) new)
    ∙ ap (λ (ws : List Written). told_by v ++ ws) (found_further numbers further vs here (omega arith))

-- and it lies where its lap asks for
pub new_block_stays : (numbers : Plan) (hand further : ℕ) (v : Visit) → hand + log_len ≤ further → IsNewBlock numbers hand v → Stays (with_hand numbers further) (block_range v)
new_block_stays numbers hand further v le new =
    let from = row_from numbers.hand hand (told_by v) new.row in
    let at = new.place in
    let start = new.start in
    inl (record { begins = omega arith; ends = omega arith }, new.lap)
