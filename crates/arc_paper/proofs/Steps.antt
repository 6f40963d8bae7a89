-- The code's parts of a step are the publication's.
use Rattle.std.proofs.Common.{◌≡◌, ℕ, ◌+◌, ◌-◌, ◌*◌, ◌<◌, min, Bool, true, false, cond, ◌&&◌, eqb, ltb, leb, List, ◌∷◌, length, inl, inr, sym, ◌∙◌, ap, subst, arith}
use Rattle.std.proofs.lemmas.Bool.{cases_Bool, cond-true, cond-false, or_left, or_right, or_from}
use Rattle.arc_paper.specs.Arc.{Arc, but_last, demote_t1, demote_t2, from_b1, from_b2, is_hit, move_of, replace, room_in_all, room_in_recent, room_made, stands_in, step, takes_t1, to_t1, without}
use Rattle.arc_paper.specs.Bounds.{IsBounded, times_in}
use Rattle.arc_paper.specs.Directory.{Lists, admitted, arc_of, copies, count_of, demoted, promoted, shortened}
use Rattle.arc_paper.specs.Stepping.{replaced, roomed, roomed_in_all, roomed_in_recent}
use Rattle.arc_paper.specs.declared.queue.Queue.TheVariants.{T1, T2, B1, B2}
use Rattle.arc_paper.proofs.Bounding.{HasRoom, IsBounded-lowered, IsBounded-raised, Shrunk, Shrunk-b1, Shrunk-b2, room-made}
use Rattle.arc_paper.proofs.Counting.{absent_of_times, standing_of_times, times-split, times_of_standing, without-absent}

-- ---- REPLACE

-- what REPLACE leaves, for a page that is in B2 or not
abbrev replace_if : Bool → Arc → Arc
replace_if in_b2 s = cond (takes_t1 in_b2 s) (demote_t1 s) (demote_t2 s)

replaced-is : (in_b2 : Bool) (p : ℕ) (d : Lists) → arc_of (replaced in_b2 p d) p ≡ replace_if in_b2 (arc_of d p)
replaced-is in_b2 p d = elim (cases_Bool (takes_t1 in_b2 (arc_of d p))) [
  | inl takes ↦ ap (λ (r : Lists). arc_of r p) (cond-true _ (demoted T1 d) (demoted T2 d) takes) ∙ sym (cond-true _ (demote_t1 (arc_of d p)) (demote_t2 (arc_of d p)) takes)
  | inr leaves ↦ ap (λ (r : Lists). arc_of r p) (cond-false _ (demoted T1 d) (demoted T2 d) leaves) ∙ sym (cond-false _ (demote_t1 (arc_of d p)) (demote_t2 (arc_of d p)) leaves)
]

replaced-replace : (in_b2 : Bool) (x p : ℕ) (d : Lists) → stands_in d.b2 x ≡ in_b2 → arc_of (replaced in_b2 p d) p ≡ replace x (arc_of d p)
replaced-replace in_b2 x p d h = replaced-is in_b2 p d ∙ ap (λ b. replace_if b (arc_of d p)) (sym h)

pub room-replaced : (in_b2 : Bool) (p : ℕ) (d : Lists) → (replaced in_b2 p d).room ≡ d.room
room-replaced in_b2 p d = elim (cases_Bool (takes_t1 in_b2 (arc_of d p))) [
  | inl takes ↦ ap (λ (r : Lists). r.room) (cond-true _ (demoted T1 d) (demoted T2 d) takes)
  | inr leaves ↦ ap (λ (r : Lists). r.room) (cond-false _ (demoted T1 d) (demoted T2 d) leaves)
]

-- ---- a page that is cached

pub step-t1 : (c x p : ℕ) (d : Lists) → IsBounded c (arc_of d p) → stands_in d.t1 x ≡ true → step c x (arc_of d p) ≡ arc_of (promoted T1 x d) p
step-t1 c x p d kept here =
    let once = kept.once x in
    let some = times_of_standing x d.t1 here in
    let out : without x d.t2 ≡ d.t2 = without-absent x d.t2 (omega arith) in
    cond-true (is_hit x (arc_of d p)) _ _ (or_left _ _ here) ∙ ap (λ (l : List ℕ). record { t1 = without x d.t1; t2 = x ∷ l; b1 = d.b1; b2 = d.b2; p = p }) out

pub hit-t1 : (x p : ℕ) (d : Lists) → stands_in d.t1 x ≡ true → is_hit x (arc_of d p) ≡ true
hit-t1 x p d here = or_left _ _ here

pub step-t2 : (c x p : ℕ) (d : Lists) → IsBounded c (arc_of d p) → stands_in d.t2 x ≡ true → step c x (arc_of d p) ≡ arc_of (promoted T2 x d) p
step-t2 c x p d kept here =
    let once = kept.once x in
    let some = times_of_standing x d.t2 here in
    let out : without x d.t1 ≡ d.t1 = without-absent x d.t1 (omega arith) in
    cond-true (is_hit x (arc_of d p)) _ _ (or_right _ _ here) ∙ ap (λ (l : List ℕ). record { t1 = l; t2 = x ∷ without x d.t2; b1 = d.b1; b2 = d.b2; p = p }) out

pub hit-t2 : (x p : ℕ) (d : Lists) → stands_in d.t2 x ≡ true → is_hit x (arc_of d p) ≡ true
hit-t2 x p d here = or_right _ _ here

-- ---- a page that is not

pub miss : (x p : ℕ) (d : Lists) → times_in x d.t1 ≡ 0 → times_in x d.t2 ≡ 0 → is_hit x (arc_of d p) ≡ false
miss x p d first second = or_from _ _ (absent_of_times x d.t1 first) (absent_of_times x d.t2 second)

pub miss-b1 : (c x p : ℕ) (d : Lists) → IsBounded c (arc_of d p) → stands_in d.b1 x ≡ true → is_hit x (arc_of d p) ≡ false
miss-b1 c x p d kept here =
    let once = kept.once x in
    let some = times_of_standing x d.b1 here in
    miss x p d (omega arith) (omega arith)

pub miss-b2 : (c x p : ℕ) (d : Lists) → IsBounded c (arc_of d p) → stands_in d.b2 x ≡ true → is_hit x (arc_of d p) ≡ false
miss-b2 c x p d kept here =
    let once = kept.once x in
    let some = times_of_standing x d.b2 here in
    miss x p d (omega arith) (omega arith)

pub miss-new : (x p : ℕ) (d : Lists) → copies x d ≡ 0 → is_hit x (arc_of d p) ≡ false
miss-new x p d none = miss x p d (omega arith) (omega arith)

abbrev pub target_b1 : ℕ → ℕ → Lists → ℕ
target_b1 c p d = min c (p + move_of (length d.b1) (length d.b2))

abbrev pub target_b2 : ℕ → Lists → ℕ
target_b2 p d = p - move_of (length d.b2) (length d.b1)

pub step-b1 : (c x p : ℕ) (d : Lists) → IsBounded c (arc_of d p) → stands_in d.b1 x ≡ true
    → step c x (arc_of d p) ≡ arc_of (promoted B1 x (replaced false (target_b1 c p d) d)) (target_b1 c p d)
step-b1 c x p d kept here =
    let once = kept.once x in
    let some = times_of_standing x d.b1 here in
    let out : stands_in d.b2 x ≡ false = absent_of_times x d.b2 (omega arith) in
    cond-false (is_hit x (arc_of d p)) _ _ (miss-b1 c x p d kept here) ∙ cond-true (stands_in d.b1 x) _ _ here
    ∙ ap (from_b1 x) (sym (replaced-replace false x (target_b1 c p d) d out))

pub step-b2 : (c x p : ℕ) (d : Lists) → IsBounded c (arc_of d p) → stands_in d.b2 x ≡ true
    → step c x (arc_of d p) ≡ arc_of (promoted B2 x (replaced true (target_b2 p d) d)) (target_b2 p d)
step-b2 c x p d kept here =
    let once = kept.once x in
    let some = times_of_standing x d.b2 here in
    let out : stands_in d.b1 x ≡ false = absent_of_times x d.b1 (omega arith) in
    cond-false (is_hit x (arc_of d p)) _ _ (miss-b2 c x p d kept here) ∙ cond-false (stands_in d.b1 x) _ _ out ∙ cond-true (stands_in d.b2 x) _ _ here
    ∙ ap (from_b2 x) (sym (replaced-replace true x (target_b2 p d) d here))

-- after REPLACE the page is still in its ghost list
pub still-b1 : (c x p : ℕ) (d : Lists) → 0 < c → IsBounded c (arc_of d p) → stands_in d.b1 x ≡ true → stands_in (replaced false (target_b1 c p d) d).b1 x ≡ true
still-b1 c x p d some kept here =
    let once = kept.once x in
    let some_here = times_of_standing x d.b1 here in
    let out : stands_in d.b2 x ≡ false = absent_of_times x d.b2 (omega arith) in
    let s : Arc = arc_of d (target_b1 c p d) in
    let shrunk : Shrunk s (replace x s) = Shrunk-b1 c x s some (IsBounded-raised c (arc_of d p) kept) some_here in
    let same : arc_of (replaced false (target_b1 c p d) d) (target_b1 c p d) ≡ replace x s = replaced-replace false x (target_b1 c p d) d out in
    standing_of_times x _ (subst (λ (r : Arc). 0 < times_in x r.b1) (sym same) (omega (arith, shrunk.b1 x)))

pub still-b2 : (c x p : ℕ) (d : Lists) → 0 < c → IsBounded c (arc_of d p) → stands_in d.b2 x ≡ true → stands_in (replaced true (target_b2 p d) d).b2 x ≡ true
still-b2 c x p d some kept here =
    let some_here = times_of_standing x d.b2 here in
    let s : Arc = arc_of d (target_b2 p d) in
    let shrunk : Shrunk s (replace x s) = Shrunk-b2 c x s some (IsBounded-lowered c (arc_of d p) kept) here in
    let same : arc_of (replaced true (target_b2 p d) d) (target_b2 p d) ≡ replace x s = replaced-replace true x (target_b2 p d) d here in
    standing_of_times x _ (subst (λ (r : Arc). 0 < times_in x r.b2) (sym same) (omega (arith, shrunk.b2 x)))

-- ---- a page that is in none

roomed-recent : (c x p : ℕ) (d : Lists) → copies x d ≡ 0 → arc_of (roomed_in_recent c p d) p ≡ room_in_recent c x (arc_of d p)
roomed-recent c x p d none = elim (cases_Bool (ltb (length d.t1) c)) [
  | inl below ↦
      ap (λ (r : Lists). arc_of r p) (cond-true (ltb (length d.t1) c) _ _ below)
      ∙ replaced-replace false x p (shortened B1 d) (absent_of_times x d.b2 (omega arith))
      ∙ sym (cond-true (ltb (length d.t1) c) _ _ below)
  | inr above ↦
      ap (λ (r : Lists). arc_of r p) (cond-false (ltb (length d.t1) c) _ _ above)
      ∙ sym (cond-false (ltb (length d.t1) c) _ _ above)
]

roomed-all : (c x p : ℕ) (d : Lists) → copies x d ≡ 0 → arc_of (roomed_in_all c p d) p ≡ room_in_all c x (arc_of d p)
roomed-all c x p d none = elim (cases_Bool (eqb (count_of d) (2 * c))) [
  | inl at ↦
      ap (λ (r : Lists). arc_of (replaced false p r) p) (cond-true (eqb (count_of d) (2 * c)) _ _ at)
      ∙ replaced-replace false x p (shortened B2 d) (absent_of_times x (but_last d.b2) (omega (arith, times-split x d.b2)))
      ∙ ap (replace x) (sym (cond-true (eqb (count_of d) (2 * c)) _ _ at))
  | inr less ↦
      ap (λ (r : Lists). arc_of (replaced false p r) p) (cond-false (eqb (count_of d) (2 * c)) _ _ less)
      ∙ replaced-replace false x p d (absent_of_times x d.b2 (omega arith))
      ∙ ap (replace x) (sym (cond-false (eqb (count_of d) (2 * c)) _ _ less))
]

roomed-is : (c x p : ℕ) (d : Lists) → copies x d ≡ 0 → arc_of (roomed c p d) p ≡ room_made c x (arc_of d p)
roomed-is c x p d none =
    let recent = length d.t1 + length d.b1 in
    let many = ltb recent c && leb c (count_of d) in
    elim (cases_Bool (eqb recent c)) [
      | inl at ↦
          ap (λ (r : Lists). arc_of r p) (cond-true (eqb recent c) _ _ at) ∙ roomed-recent c x p d none ∙ sym (cond-true (eqb recent c) _ _ at)
      | inr differs ↦
          let inner : arc_of (cond many (roomed_in_all c p d) d) p ≡ cond many (room_in_all c x (arc_of d p)) (arc_of d p) = elim (cases_Bool many) [
            | inl all_full ↦ ap (λ (r : Lists). arc_of r p) (cond-true many _ _ all_full) ∙ roomed-all c x p d none ∙ sym (cond-true many _ _ all_full)
            | inr not_many ↦ ap (λ (r : Lists). arc_of r p) (cond-false many _ _ not_many) ∙ sym (cond-false many _ _ not_many)
          ] in
          ap (λ (r : Lists). arc_of r p) (cond-false (eqb recent c) _ _ differs) ∙ inner ∙ sym (cond-false (eqb recent c) _ _ differs)
    ]

pub step-new : (c x p : ℕ) (d : Lists) → copies x d ≡ 0 → step c x (arc_of d p) ≡ arc_of (admitted x (roomed c p d)) p
step-new c x p d none =
    cond-false (is_hit x (arc_of d p)) _ _ (miss-new x p d none)
    ∙ cond-false (stands_in d.b1 x) _ _ (absent_of_times x d.b1 (omega arith))
    ∙ cond-false (stands_in d.b2 x) _ _ (absent_of_times x d.b2 (omega arith))
    ∙ ap (to_t1 x) (sym (roomed-is c x p d none))

pub room-roomed : (c p : ℕ) (d : Lists) → (roomed c p d).room ≡ d.room
room-roomed c p d =
    let recent = length d.t1 + length d.b1 in
    let many = ltb recent c && leb c (count_of d) in
    elim (cases_Bool (eqb recent c)) [
      | inl at ↦ ap (λ (r : Lists). r.room) (cond-true (eqb recent c) _ _ at) ∙ elim (cases_Bool (ltb (length d.t1) c)) [
        | inl below ↦ ap (λ (r : Lists). r.room) (cond-true (ltb (length d.t1) c) _ _ below) ∙ room-replaced false p (shortened B1 d)
        | inr above ↦ ap (λ (r : Lists). r.room) (cond-false (ltb (length d.t1) c) _ _ above)
      ]
      | inr differs ↦ ap (λ (r : Lists). r.room) (cond-false (eqb recent c) _ _ differs) ∙ elim (cases_Bool many) [
        | inl all_full ↦ ap (λ (r : Lists). r.room) (cond-true many _ _ all_full) ∙ elim (cases_Bool (eqb (count_of d) (2 * c))) [
          | inl at ↦ ap (λ (r : Lists). (replaced false p r).room) (cond-true (eqb (count_of d) (2 * c)) _ _ at) ∙ room-replaced false p (shortened B2 d)
          | inr less ↦ ap (λ (r : Lists). (replaced false p r).room) (cond-false (eqb (count_of d) (2 * c)) _ _ less) ∙ room-replaced false p d
        ]
        | inr not_many ↦ ap (λ (r : Lists). r.room) (cond-false many _ _ not_many)
      ]
    ]

-- once there is room the page is still in none, and there is memory for it
pub absent-roomed : (c x p : ℕ) (d : Lists) → 0 < c → IsBounded c (arc_of d p) → copies x d ≡ 0 → copies x (roomed c p d) ≡ 0
absent-roomed c x p d some kept none =
    let room : HasRoom c (arc_of d p) (arc_of (roomed c p d) p) = subst (HasRoom c (arc_of d p)) (sym (roomed-is c x p d none)) (room-made c x (arc_of d p) some kept) in
    omega (arith, room.times x)

pub count-roomed : (c x p : ℕ) (d : Lists) → 0 < c → IsBounded c (arc_of d p) → copies x d ≡ 0 → count_of (roomed c p d) < 2 * c
count-roomed c x p d some kept none =
    let room : HasRoom c (arc_of d p) (arc_of (roomed c p d) p) = subst (HasRoom c (arc_of d p)) (sym (roomed-is c x p d none)) (room-made c x (arc_of d p) some kept) in
    room.all
