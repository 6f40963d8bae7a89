-- The bounds hold after any pages.
use Rattle.std.proofs.Common.{◌≡◌, ℕ, ◌+◌, ◌*◌, ◌<◌, ◌≤◌, Bool, true, false, ◌&&◌, eqb, ltb, leb, List, [], ◌∷◌, length, ◌⊎◌, inl, inr, refl, sym, ◌∙◌, subst, arith, length-append}
use Rattle.std.proofs.lemmas.Bool.{cases_Bool, cases_lt, cases_eq, eqb-true, eqb-false, ltb-true, ltb-false, leb-true, leb-false, false≢true, cond-true, cond-false, and_parts, and_cases, or_cases, or_parts}
use Rattle.arc_paper.specs.Arc.{Arc, after, but_last, case_cached, demote_t1, demote_t2, fresh, from_b1, from_b2, is_hit, last_of, lowered, raised, replace, room_in_all, room_in_recent, room_made, stands_in, step, takes_t1, to_t1, total, without}
use Rattle.arc_paper.specs.Bounds.{AreBoundsKept, IsBounded, times, times_in}
use Rattle.arc_paper.proofs.Counting.{length-but_last, length-last_of, length-without, one_if-other, one_if-same, times-append, times-cons, times-split, times-without_other, times-without_same, times_of_absent, times_of_standing}

-- ---- REPLACE

-- a page went from T1 to B1, or from T2 to B2
abbrev pub IsMoved : Arc → Arc → Type 0
IsMoved s t =
    ((length t.t1 + 1 ≡ length s.t1) × (length t.b1 ≡ length s.b1 + 1) × (length t.t2 ≡ length s.t2) × (length t.b2 ≡ length s.b2))
    ⊎ ((length t.t2 + 1 ≡ length s.t2) × (length t.b2 ≡ length s.b2 + 1) × (length t.t1 ≡ length s.t1) × (length t.b1 ≡ length s.b1))

-- one page of the cache became a ghost
pub record Shrunk (s t : Arc) : Type 0 where
  pub target : t.p ≡ s.p
  pub times : (y : ℕ) → times y t ≡ times y s
  pub b1 : (y : ℕ) → times_in y s.b1 ≤ times_in y t.b1
  pub b2 : (y : ℕ) → times_in y s.b2 ≤ times_in y t.b2
  pub moved : IsMoved s t

-- of a list that isn't empty
length-but_last_some : (xs : List ℕ) → 0 < length xs → length (but_last xs) + 1 ≡ length xs
length-but_last_some xs some = omega (arith, length-but_last xs)

length-last_of_some : (xs : List ℕ) → 0 < length xs → length (last_of xs) ≡ 1
length-last_of_some xs some = omega (arith, length-but_last xs, length-last_of xs)

Shrunk-t1 : (s : Arc) → 0 < length s.t1 → Shrunk s (demote_t1 s)
Shrunk-t1 s some = record {
  target = refl;
  times = λ y. omega (arith, times-split y s.t1, times-append y (last_of s.t1) s.b1);
  b1 = λ y. omega (arith, times-append y (last_of s.t1) s.b1);
  b2 = λ y. omega arith;
  moved = inl (length-but_last_some s.t1 some, omega (arith, length-last_of_some s.t1 some, length-append (last_of s.t1) s.b1), refl, refl);
}

Shrunk-t2 : (s : Arc) → 0 < length s.t2 → Shrunk s (demote_t2 s)
Shrunk-t2 s some = record {
  target = refl;
  times = λ y. omega (arith, times-split y s.t2, times-append y (last_of s.t2) s.b2);
  b1 = λ y. omega arith;
  b2 = λ y. omega (arith, times-append y (last_of s.t2) s.b2);
  moved = inr (length-but_last_some s.t2 some, omega (arith, length-last_of_some s.t2 some, length-append (last_of s.t2) s.b2), refl, refl);
}

-- T2 isn't empty where REPLACE takes its last page
some-t2 : (c : ℕ) (in_b2 : Bool) (s : Arc) → 0 < c → s.p ≤ c → length s.t1 + length s.t2 ≡ c → (in_b2 ≡ false → length s.t1 < c)
    → takes_t1 in_b2 s ≡ false → 0 < length s.t2
some-t2 c in_b2 s some target full below takes = elim (cases_lt 0 (length s.t2)) [
  | inl more ↦ more
  | inr none ↦ absurd (elim (and_cases _ _ takes) [
    | inl empty ↦ let e : length s.t1 ≤ 0 = ltb-false 0 (length s.t1) empty in omega arith
    | inr rest ↦
        let parts = or_parts _ _ rest in
        let at_least : length s.t1 ≤ s.p = ltb-false s.p (length s.t1) parts.0 in
        elim (and_cases _ _ parts.1) [
          | inl other ↦ let less : length s.t1 < c = below other in omega arith
          | inr differs ↦ eqb-false (length s.t1) s.p differs (omega arith)
        ]
  ])
]

Shrunk-replace : (c x : ℕ) (s : Arc) → 0 < c → s.p ≤ c → length s.t1 + length s.t2 ≡ c → (stands_in s.b2 x ≡ false → length s.t1 < c)
    → Shrunk s (replace x s)
Shrunk-replace c x s some target full below =
    let test = takes_t1 (stands_in s.b2 x) s in
    elim (cases_Bool test) [
      | inl takes ↦
          let more : 0 < length s.t1 = ltb-true 0 (length s.t1) ((and_parts _ _ takes).0) in
          subst (Shrunk s) (sym (cond-true test (demote_t1 s) (demote_t2 s) takes)) (Shrunk-t1 s more)
      | inr leaves ↦
          let more = some-t2 c (stands_in s.b2 x) s some target full below leaves in
          subst (Shrunk s) (sym (cond-false test (demote_t1 s) (demote_t2 s) leaves)) (Shrunk-t2 s more)
    ]

-- ---- I

once-at : (x y a : ℕ) → (y ≡ x → a ≤ 1) → ((y ≡ x → ⊥) → a ≤ 1) → a ≤ 1
once-at x y a same other = elim (cases_eq y x) [ inl e ↦ same e | inr differs ↦ other differs ]

cached-times : (x : ℕ) (s : Arc) → is_hit x s ≡ true → 0 < times_in x s.t1 + times_in x s.t2
cached-times x s hit = elim (or_cases _ _ hit) [
  | inl here ↦ omega (arith, times_of_standing x s.t1 here)
  | inr here ↦ omega (arith, times_of_standing x s.t2 here)
]

IsBounded-cached : (c x : ℕ) (s : Arc) → is_hit x s ≡ true → IsBounded c s → IsBounded c (case_cached x s)
IsBounded-cached c x s hit kept =
    let here = cached-times x s hit in
    let most = kept.once x in
    let first = length-without x s.t1 in
    let second = length-without x s.t2 in
    record {
      once = λ y. once-at x y _
          (λ e. subst (λ z. times z (case_cached x s) ≤ 1) (sym e)
          (omega (arith, times-without_same x s.t1, times-without_same x s.t2, times-cons x x (without x s.t2), one_if-same x)))
          (λ differs. omega (
            arith,
            kept.once y,
            times-without_other x y s.t1 differs,
            times-without_other x y s.t2 differs,
            times-cons y x (without x s.t2),
            one_if-other x y (λ e. differs (sym e)),
          ));
      recent = omega (arith, kept.recent);
      cached = omega (arith, kept.cached);
      all = omega (arith, kept.all);
      full = λ some. omega (arith, kept.full some);
      target = kept.target;
    }

-- ---- II and III

-- a page leaves B1 for T2
IsBounded-from_b1 : (c x : ℕ) (s t : Arc) → IsBounded c s → 0 < times_in x s.b1 → s.p ≤ c → Shrunk s t → IsBounded c (from_b1 x t)
IsBounded-from_b1 c x s t kept here target shrunk =
    let most = kept.once x in
    let same = shrunk.times x in
    let still = shrunk.b1 x in
    let full = kept.full (omega (arith, length-without x s.b1)) in
    let left = length-without x t.b1 in
    record {
      once = λ y. once-at x y _
          (λ e. subst (λ z. times z (from_b1 x t) ≤ 1) (sym e)
          (omega (arith, times-without_same x t.b1, times-cons x x t.t2, one_if-same x)))
          (λ differs. omega (arith, kept.once y, shrunk.times y, times-without_other x y t.b1 differs, times-cons y x t.t2, one_if-other x y (λ e. differs (sym e))));
      recent = elim shrunk.moved [ inl m ↦ omega (arith, kept.recent, m.0, m.1) | inr m ↦ omega (arith, kept.recent, m.2, m.3) ];
      cached = elim shrunk.moved [ inl m ↦ omega (arith, m.0, m.2) | inr m ↦ omega (arith, m.0, m.2) ];
      all = elim shrunk.moved [ inl m ↦ omega (arith, kept.all, m.0, m.1, m.2, m.3) | inr m ↦ omega (arith, kept.all, m.0, m.1, m.2, m.3) ];
      full = λ some. elim shrunk.moved [ inl m ↦ omega (arith, m.0, m.2) | inr m ↦ omega (arith, m.0, m.2) ];
      target = omega (arith, shrunk.target);
    }

IsBounded-from_b2 : (c x : ℕ) (s t : Arc) → IsBounded c s → 0 < times_in x s.b2 → s.p ≤ c → Shrunk s t → IsBounded c (from_b2 x t)
IsBounded-from_b2 c x s t kept here target shrunk =
    let most = kept.once x in
    let same = shrunk.times x in
    let still = shrunk.b2 x in
    let full = kept.full (omega (arith, length-without x s.b2)) in
    let left = length-without x t.b2 in
    record {
      once = λ y. once-at x y _
          (λ e. subst (λ z. times z (from_b2 x t) ≤ 1) (sym e)
          (omega (arith, times-without_same x t.b2, times-cons x x t.t2, one_if-same x)))
          (λ differs. omega (arith, kept.once y, shrunk.times y, times-without_other x y t.b2 differs, times-cons y x t.t2, one_if-other x y (λ e. differs (sym e))));
      recent = elim shrunk.moved [ inl m ↦ omega (arith, kept.recent, m.0, m.1) | inr m ↦ omega (arith, kept.recent, m.2, m.3) ];
      cached = elim shrunk.moved [ inl m ↦ omega (arith, m.0, m.2) | inr m ↦ omega (arith, m.0, m.2) ];
      all = elim shrunk.moved [ inl m ↦ omega (arith, kept.all, m.0, m.1, m.2, m.3) | inr m ↦ omega (arith, kept.all, m.0, m.1, m.2, m.3) ];
      full = λ some. elim shrunk.moved [ inl m ↦ omega (arith, m.0, m.2) | inr m ↦ omega (arith, m.0, m.2) ];
      target = omega (arith, shrunk.target);
    }

-- a target within the capacity doesn't matter to the other bounds
IsBounded-target : (c p : ℕ) (s : Arc) → p ≤ c → IsBounded c s → IsBounded c (record s { p = p })
IsBounded-target c p s target kept = record { once = kept.once; recent = kept.recent; cached = kept.cached; all = kept.all; full = kept.full; target = target }

pub IsBounded-raised : (c : ℕ) (s : Arc) → IsBounded c s → IsBounded c (raised c s)
IsBounded-raised c s kept = IsBounded-target c _ s (omega arith) kept

pub IsBounded-lowered : (c : ℕ) (s : Arc) → IsBounded c s → IsBounded c (lowered s)
IsBounded-lowered c s kept = IsBounded-target c _ s (omega (arith, kept.target)) kept

pub Shrunk-b1 : (c x : ℕ) (s : Arc) → 0 < c → IsBounded c s → 0 < times_in x s.b1 → Shrunk s (replace x s)
Shrunk-b1 c x s some kept here =
    let ghosts : 0 < length s.b1 = omega (arith, length-without x s.b1) in
    Shrunk-replace c x s some kept.target (kept.full (omega arith)) (λ _. omega (arith, kept.recent))

pub Shrunk-b2 : (c x : ℕ) (s : Arc) → 0 < c → IsBounded c s → stands_in s.b2 x ≡ true → Shrunk s (replace x s)
Shrunk-b2 c x s some kept here =
    let ghosts : 0 < length s.b2 = omega (arith, length-without x s.b2, times_of_standing x s.b2 here) in
    Shrunk-replace c x s some kept.target (kept.full (omega arith)) (λ out. absurd (false≢true (sym out ∙ here)))

-- ---- IV

-- there is room for one more page, which is in none of the lists
pub record HasRoom (c : ℕ) (s t : Arc) : Type 0 where
  pub times : (y : ℕ) → times y t ≤ times y s
  pub recent : length t.t1 + length t.b1 < c
  pub cached : length t.t1 + length t.t2 < c
  pub all : total t < 2 * c
  pub full : 0 < length t.b1 + length t.b2 → length t.t1 + length t.t2 + 1 ≡ c
  pub target : t.p ≤ c

shrunk-room : (c : ℕ) (s r t : Arc) → IsBounded c s → length r.t1 + length r.t2 ≡ c → length r.t1 + length r.b1 < c → total r < 2 * c → r.p ≡ s.p
    → ((y : ℕ) → times y r ≤ times y s) → Shrunk r t → HasRoom c s t
shrunk-room c s r t kept full recent all target fewer shrunk = record {
  times = λ y. omega (arith, fewer y, shrunk.times y);
  recent = elim shrunk.moved [ inl m ↦ omega (arith, m.0, m.1) | inr m ↦ omega (arith, m.2, m.3) ];
  cached = elim shrunk.moved [ inl m ↦ omega (arith, m.0, m.2) | inr m ↦ omega (arith, m.0, m.2) ];
  all = elim shrunk.moved [ inl m ↦ omega (arith, m.0, m.1, m.2, m.3) | inr m ↦ omega (arith, m.0, m.1, m.2, m.3) ];
  full = λ some. elim shrunk.moved [ inl m ↦ omega (arith, m.0, m.2) | inr m ↦ omega (arith, m.0, m.2) ];
  target = omega (arith, kept.target, shrunk.target);
}

room-recent : (c x : ℕ) (s : Arc) → 0 < c → IsBounded c s → length s.t1 + length s.b1 ≡ c → HasRoom c s (room_in_recent c x s)
room-recent c x s some kept at = elim (cases_Bool (ltb (length s.t1) c)) [
  | inl below ↦
      let less : length s.t1 < c = ltb-true (length s.t1) c below in
      let r : Arc = record s { b1 = but_last s.b1 } in
      let full : length s.t1 + length s.t2 ≡ c = kept.full (omega arith) in
      let left = length-but_last_some s.b1 (omega arith) in
      let fewer : (y : ℕ) → times y r ≤ times y s = λ y. omega (arith, times-split y s.b1) in
      subst (HasRoom c s) (sym (cond-true (ltb (length s.t1) c) _ _ below))
      (shrunk-room c s r (replace x r) kept full (omega arith) (omega (arith, kept.all)) refl fewer (Shrunk-replace c x r some kept.target full (λ _. less)))
  | inr above ↦
      let no_less : c ≤ length s.t1 = ltb-false (length s.t1) c above in
      let left = length-but_last_some s.t1 (omega arith) in
      subst (HasRoom c s) (sym (cond-false (ltb (length s.t1) c) _ _ above)) (record {
        times = λ y. omega (arith, times-split y s.t1);
        recent = omega arith;
        cached = omega (arith, kept.cached);
        all = omega (arith, kept.all);
        full = λ ghosts. omega (arith, kept.full ghosts);
        target = kept.target;
      })
]

room-all : (c x : ℕ) (s : Arc) → 0 < c → IsBounded c s → length s.t1 + length s.b1 < c → c ≤ total s → HasRoom c s (room_in_all c x s)
room-all c x s some kept below many =
    let full : length s.t1 + length s.t2 ≡ c = elim (cases_lt 0 (length s.b1 + length s.b2)) [
      | inl ghosts ↦ kept.full ghosts
      | inr none ↦ omega (arith, kept.cached)
    ] in
    elim (cases_Bool (eqb (total s) (2 * c))) [
      | inl at ↦
          let most : total s ≡ 2 * c = eqb-true (total s) (2 * c) at in
          let r : Arc = record s { b2 = but_last s.b2 } in
          let left = length-but_last_some s.b2 (omega arith) in
          let fewer : (y : ℕ) → times y r ≤ times y s = λ y. omega (arith, times-split y s.b2) in
          subst (λ r. HasRoom c s (replace x r)) (sym (cond-true (eqb (total s) (2 * c)) _ _ at))
          (shrunk-room c s r (replace x r) kept full below (omega arith) refl fewer (Shrunk-replace c x r some kept.target full (λ _. omega arith)))
      | inr less ↦
          let not_most : total s ≡ 2 * c → ⊥ = eqb-false (total s) (2 * c) less in
          let fewer : total s < 2 * c = omega (arith, kept.all) in
          subst (λ r. HasRoom c s (replace x r)) (sym (cond-false (eqb (total s) (2 * c)) _ _ less))
          (shrunk-room c s s (replace x s) kept full below fewer refl (λ y. omega arith) (Shrunk-replace c x s some kept.target full (λ _. omega arith)))
    ]

pub room-made : (c x : ℕ) (s : Arc) → 0 < c → IsBounded c s → HasRoom c s (room_made c x s)
room-made c x s some kept =
    let recent = length s.t1 + length s.b1 in
    elim (cases_Bool (eqb recent c)) [
      | inl at ↦ subst (HasRoom c s) (sym (cond-true (eqb recent c) _ _ at)) (room-recent c x s some kept (eqb-true recent c at))
      | inr not_at ↦
          let differs : recent ≡ c → ⊥ = eqb-false recent c not_at in
          let below : recent < c = omega (arith, kept.recent) in
          subst (HasRoom c s) (sym (cond-false (eqb recent c) _ _ not_at))
          (elim (cases_Bool (ltb recent c && leb c (total s))) [
            | inl many ↦ subst (HasRoom c s) (sym (cond-true (ltb recent c && leb c (total s)) _ _ many))
                (room-all c x s some kept below (leb-true c (total s) ((and_parts _ _ many).1)))
            | inr few ↦
                let fewer : total s < c = elim (and_cases _ _ few) [
                  | inl reached ↦ let above : c ≤ recent = ltb-false recent c reached in absurd (omega arith)
                  | inr less ↦ leb-false c (total s) less
                ] in
                subst (HasRoom c s) (sym (cond-false (ltb recent c && leb c (total s)) _ _ few)) (record {
                  times = λ y. omega arith;
                  recent = below;
                  cached = omega arith;
                  all = omega arith;
                  full = λ ghosts. let full = kept.full ghosts in absurd (omega arith);
                  target = kept.target;
                })
          ])
    ]

IsBounded-to_t1 : (c x : ℕ) (s t : Arc) → IsBounded c s → times x s ≡ 0 → HasRoom c s t → IsBounded c (to_t1 x t)
IsBounded-to_t1 c x s t kept absent room = record {
  once = λ y. once-at x y _
      (λ e. subst (λ z. times z (to_t1 x t) ≤ 1) (sym e) (omega (arith, room.times x, times-cons x x t.t1, one_if-same x)))
      (λ differs. omega (arith, kept.once y, room.times y, times-cons y x t.t1, one_if-other x y (λ e. differs (sym e))));
  recent = omega (arith, room.recent);
  cached = omega (arith, room.cached);
  all = omega (arith, room.all);
  full = λ ghosts. omega (arith, room.full ghosts);
  target = room.target;
}

-- ---- a step

pub IsBounded-step : (c x : ℕ) (s : Arc) → 0 < c → IsBounded c s → IsBounded c (step c x s)
IsBounded-step c x s some kept = elim (cases_Bool (is_hit x s)) [
  | inl hit ↦ subst (IsBounded c) (sym (cond-true (is_hit x s) _ _ hit)) (IsBounded-cached c x s hit kept)
  | inr miss ↦ subst (IsBounded c) (sym (cond-false (is_hit x s) _ _ miss)) (elim (cases_Bool (stands_in s.b1 x)) [
    | inl first ↦
        let here = times_of_standing x s.b1 first in
        let more = IsBounded-raised c s kept in
        subst (IsBounded c) (sym (cond-true (stands_in s.b1 x) _ _ first))
        (IsBounded-from_b1 c x (raised c s) (replace x (raised c s)) more here more.target (Shrunk-b1 c x (raised c s) some more here))
    | inr other ↦ subst (IsBounded c) (sym (cond-false (stands_in s.b1 x) _ _ other)) (elim (cases_Bool (stands_in s.b2 x)) [
      | inl second ↦
          let less = IsBounded-lowered c s kept in
          subst (IsBounded c) (sym (cond-true (stands_in s.b2 x) _ _ second))
          (IsBounded-from_b2 c x (lowered s) (replace x (lowered s)) less (times_of_standing x s.b2 second) less.target
          (Shrunk-b2 c x (lowered s) some less second))
      | inr new ↦
          let out = or_parts _ _ miss in
          let absent : times x s ≡ 0 = omega (arith, times_of_absent x s.t1 out.0, times_of_absent x s.t2 out.1, times_of_absent x s.b1 other, times_of_absent x s.b2 new) in
          subst (IsBounded c) (sym (cond-false (stands_in s.b2 x) _ _ new))
          (IsBounded-to_t1 c x s (room_made c x s) kept absent (room-made c x s some kept))
    ])
  ])
]

IsBounded-after : (c : ℕ) (pages : List ℕ) (s : Arc) → 0 < c → IsBounded c s → IsBounded c (after c pages s)
IsBounded-after c [] s some kept = kept
IsBounded-after c (x ∷ pages) s some kept = IsBounded-after c pages (step c x s) some (IsBounded-step c x s some kept)

pub IsBounded-fresh : (c : ℕ) → 0 < c → IsBounded c fresh
IsBounded-fresh c some = record {
  once = λ y. omega arith;
  recent = omega arith;
  cached = omega arith;
  all = omega arith;
  full = λ ghosts. absurd (omega arith);
  target = omega arith;
}

pub bounds-kept : AreBoundsKept
bounds-kept c pages some = IsBounded-after c pages fresh some (IsBounded-fresh c some)
