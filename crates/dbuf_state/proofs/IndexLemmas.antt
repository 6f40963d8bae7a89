-- The ranks and the sizes of standings, as one is written or added, and what the least rank says of them.
use Rattle.std.proofs.Common.{◌≡◌, ◌≢◌, ℕ, zero, suc, ◌+◌, ◌-◌, ◌*◌, ◌^◌, ◌<◌, ◌≤◌, Bool, true, false, not, ◌&&◌, ◌||◌, ◌⊎◌, IsTrue, List, [], ◌∷◌, ◌++◌, length, map, set, get_or, replicate, Option, Some, None, refl, sym, ap, subst, ◌∙◌, inl, inr, arith, get_or-set_same, get_or-set_other, nat_lt, nat_eq}
use Rattle.std.proofs.lemmas.Bool.Decides.{nat_tests}
use Rattle.std.proofs.lemmas.List.{get_or-map, get_or_past, get_or_push, length-append, length-map, map-append, map-set}
use Rattle.std.specs.List.{AllByRecursion, list_all, list_any}
use Rattle.dbuf_state.specs.declared.rank.Rank.{Rank}
use Rattle.dbuf_state.specs.declared.standing.Standing.{Standing}
use Rattle.dbuf_state.specs.Oids.{oid_eq, oid_lt}
use Rattle.dbuf_state.specs.Index.{kept_rank, use_rank}
use Rattle.dbuf_state.specs.Ranks.{IsLeast, is_no_later, padded, rank_at}
use Rattle.dbuf_state.specs.Standings.{candidate_bytes, candidate_size, is_candidate, is_evictable, is_first_kept, is_oldest, is_oldest_use, is_over}
use Rattle.dbuf_state.proofs.RankLemmas.{Row}

pub and-both : (a b : Bool) → a ≡ true → b ≡ true → (a && b) ≡ true
and-both true true ea eb = refl
and-both true false ea eb = eb
and-both false b ea eb = ea

pub and-parts : (a b : Bool) → (a && b) ≡ true → (a ≡ true) × (b ≡ true)
and-parts true b e = (refl, e)
and-parts false b e = cc

or-parts : (a b : Bool) → (a || b) ≡ true → (a ≡ true) ⊎ (b ≡ true)
or-parts true b e = inl refl
or-parts false b e = inr e

or-left : (a b : Bool) → a ≡ true → (a || b) ≡ true
or-left true b e = refl
or-left false b e = cc

or-right : (a b : Bool) → b ≡ true → (a || b) ≡ true
or-right true b e = refl
or-right false b e = e

pub bool_cases : (b : Bool) → (b ≡ true) ⊎ (b ≡ false)
bool_cases true = inl refl
bool_cases false = inr refl

eqb-true : (a b : ℕ) → nat_eq a b ≡ true → a ≡ b
eqb-true a b e = grind (arith, nat_tests)

within_or_past : (a b : ℕ) → (a < b) ⊎ (b ≤ a)
within_or_past a b = grind (arith, nat_tests)

at-none : (m k : ℕ) → rank_at (replicate m None) k ≡ None
at-none zero k = refl
at-none (suc m) zero = refl
at-none (suc m) (suc k) = at-none m k

at-append : (r : Row) (m k : ℕ) → rank_at (r ++ replicate m None) k ≡ rank_at r k
at-append [] m k = at-none m k
at-append (x ∷ r) m zero = refl
at-append (x ∷ r) m (suc k) = at-append r m k

pub at-padded : (n : ℕ) (r xs : Row) → ((k : ℕ) → rank_at r k ≡ rank_at xs k) → (k : ℕ) → rank_at (padded n r) k ≡ rank_at xs k
at-padded n r xs same k = at-append r (n - length r) k ∙ same k

pub length-padded : (n m : ℕ) (r : Row) → m ≤ length r → m ≤ length (padded n r)
length-padded n m r le = omega (arith, length-append r (replicate (n - length r) None))

equal_or_not : (a b : ℕ) → (a ≡ b) ⊎ (a ≢ b)
equal_or_not a b = grind (arith, nat_tests)

pub at-set : (r xs : Row) (i : ℕ) (x : Option Rank) → i < length r → i < length xs → ((k : ℕ) → rank_at r k ≡ rank_at xs k) → (k : ℕ) → rank_at (set r i x) k ≡ rank_at (set xs i x) k
at-set r xs i x inr_ inx same k = elim (equal_or_not k i) [
  | inl e ↦ subst (λ z. rank_at (set r i x) z ≡ rank_at (set xs i x) z) (sym e) (get_or-set_same r i x None inr_ ∙ sym (get_or-set_same xs i x None inx))
  | inr ne ↦ get_or-set_other r i k x None ne ∙ (same k ∙ sym (get_or-set_other xs i k x None ne))
]

pub at-push : (r xs : Row) (i : ℕ) (x : Option Rank) → i < length r → length xs ≡ i → ((k : ℕ) → rank_at r k ≡ rank_at xs k) → (k : ℕ) → rank_at (set r i x) k ≡ rank_at (xs ++ x ∷ []) k
at-push r xs i x inr_ len same k = elim (equal_or_not k i) [
  | inl e ↦ subst (λ z. rank_at (set r i x) z ≡ rank_at (xs ++ x ∷ []) z) (sym e) (get_or-set_same r i x None inr_ ∙ sym (get_or_push xs x None i len))
  | inr ne ↦ get_or-set_other r i k x None ne ∙ (same k ∙ at-left xs x k (λ e. ne (e ∙ len)))
]
  where
    at-left : (ys : Row) (y : Option Rank) (j : ℕ) → j ≢ length ys → rank_at ys j ≡ rank_at (ys ++ y ∷ []) j
    at-left [] y zero ne = absurd (ne refl)
    at-left [] y (suc j) ne = refl
    at-left (z ∷ ys) y zero ne = refl
    at-left (z ∷ ys) y (suc j) ne = at-left ys y j (λ e. ne (ap suc e))

-- ---- sizes

pub bytes-set : (ss : List Standing) (i : ℕ) (s d : Standing) → i < length ss → d ≡ get_or ss i d → candidate_bytes (set ss i s) + candidate_size d ≡ candidate_bytes ss + candidate_size s
bytes-set [] i s d within read = absurd (omega arith)
bytes-set (x ∷ ss) zero s d within read = subst (λ z. (candidate_size s + candidate_bytes ss) + candidate_size z ≡ (candidate_size x + candidate_bytes ss) + candidate_size s) (sym read) (omega arith)
bytes-set (x ∷ ss) (suc i) s d within read = omega (arith, bytes-set ss i s d (omega arith) read)

pub bytes-push : (ss : List Standing) (s : Standing) → candidate_bytes (ss ++ s ∷ []) ≡ candidate_bytes ss + candidate_size s
bytes-push [] s = omega arith
bytes-push (x ∷ ss) s = omega (arith, bytes-push ss s)

pub bytes-le : (ss : List Standing) → AllByRecursion (λ s. candidate_size s < 2 ^ 64) ss → candidate_bytes ss ≤ length ss * (2 ^ 64 - 1)
bytes-le [] h = omega arith
bytes-le (s ∷ ss) h = omega (arith, h.0, bytes-le ss h.1)

-- one of the sizes is within their sum
pub size-le : (ss : List Standing) (i : ℕ) (d : Standing) → i < length ss → d ≡ get_or ss i d → candidate_size d ≤ candidate_bytes ss
size-le [] i d within read = absurd (omega arith)
size-le (x ∷ ss) zero d within read = subst (λ z. candidate_size z ≤ candidate_size x + candidate_bytes ss) (sym read) (omega arith)
size-le (x ∷ ss) (suc i) d within read = omega (arith, size-le ss i d (omega arith) read)

pub sized-set : (ss : List Standing) (i : ℕ) (s : Standing) → candidate_size s < 2 ^ 64 → AllByRecursion (λ s. candidate_size s < 2 ^ 64) ss → AllByRecursion (λ s. candidate_size s < 2 ^ 64) (set ss i s)
sized-set [] i s here h = h
sized-set (x ∷ ss) zero s here h = (here, h.1)
sized-set (x ∷ ss) (suc i) s here h = (h.0, sized-set ss i s here h.1)

pub sized-push : (ss : List Standing) (s : Standing) → candidate_size s < 2 ^ 64 → AllByRecursion (λ s. candidate_size s < 2 ^ 64) ss → AllByRecursion (λ s. candidate_size s < 2 ^ 64) (ss ++ s ∷ [])
sized-push [] s here h = (here, tt)
sized-push (x ∷ ss) s here h = (h.0, sized-push ss s here h.1)

-- ---- what the least rank says

-- where no rank goes before this one, no standing has a rank that does
below-all : (f : Standing → Option Rank) (r : Option Rank) (ss : List Standing) → ((k : ℕ) → is_no_later r (rank_at (map f ss) k) ≡ true) → list_all (λ s. is_no_later r (f s)) ss ≡ true
below-all f r [] h = refl
below-all f r (s ∷ ss) h = and-both _ _ (h 0) (below-all f r ss (λ k. h (suc k)))

all-mono : (p q : Standing → Bool) → ((s : Standing) → p s ≡ true → q s ≡ true) → (ss : List Standing) → list_all p ss ≡ true → list_all q ss ≡ true
all-mono p q more [] h = refl
all-mono p q more (s ∷ ss) h = let parts = and-parts (p s) (list_all p ss) h in and-both _ _ (more s parts.0) (all-mono p q more ss parts.1)

any-mono : (p q : Standing → Bool) → ((s : Standing) → p s ≡ true → q s ≡ true) → (ss : List Standing) → list_any p ss ≡ true → list_any q ss ≡ true
any-mono p q more [] h = h
any-mono p q more (s ∷ ss) h = elim (or-parts (p s) (list_any p ss) h) [
  | inl here ↦ or-left _ _ (more s here)
  | inr there ↦ or-right _ _ (any-mono p q more ss there)
]

-- it is this rank
abbrev is_rank : Rank → Option Rank → Bool
is_rank r None = false
is_rank r (Some x) = nat_eq x.order r.order && oid_eq r.at x.at

is_rank-of : (r : Rank) (x : Option Rank) → x ≡ Some r → is_rank r x ≡ true
is_rank-of r None e = cc
is_rank-of r (Some x) e = subst (λ (z : Option Rank). is_rank r z ≡ true) (sym e) (grind (arith, nat_tests))

among-any : (f : Standing → Option Rank) (r : Rank) (ss : List Standing) (k : ℕ) → rank_at (map f ss) k ≡ Some r → list_any (λ s. is_rank r (f s)) ss ≡ true
among-any f r [] k e = cc
among-any f r (s ∷ ss) zero e = or-left _ _ (is_rank-of r (f s) e)
among-any f r (s ∷ ss) (suc k) e = or-right _ _ (among-any f r ss k e)

-- the least rank of a row is the least one of the standings whose ranks the row has
least-below : (f : Standing → Option Rank) (r : Option Rank) (row : Row) (ss : List Standing) → IsLeast r row → ((k : ℕ) → rank_at row k ≡ rank_at (map f ss) k) → list_all (λ s. is_no_later r (f s)) ss ≡ true
least-below f r row ss h same = below-all f r ss (λ k. subst (λ (z : Option Rank). is_no_later r z ≡ true) (same k) (at k))
  where
    past : (x : Option Rank) → x ≡ None → is_no_later r x ≡ true
    past None e = refl
    past (Some x) e = cc

    at : (k : ℕ) → is_no_later r (rank_at row k) ≡ true
    at k = elim (within_or_past k (length row)) [ inl within ↦ h.below k within | inr beyond ↦ past (rank_at row k) (get_or_past row k None beyond) ]

least-among : (f : Standing → Option Rank) (r : Rank) (row : Row) (ss : List Standing) → IsLeast (Some r) row → ((k : ℕ) → rank_at row k ≡ rank_at (map f ss) k) → list_any (λ s. is_rank r (f s)) ss ≡ true
least-among f r row ss h same = elim (within_or_past 0 (length row)) [
  | inl some ↦ let k = h.among some in among-any f r ss k.0 (sym (same k.0) ∙ k.2)
  | inr none ↦ let no : Some r ≡ None = h.none (omega arith) in cc
]

-- ---- the candidate that was used longest ago

spares : (r : Rank) (s : Standing) → is_no_later (Some r) (use_rank s) ≡ true → not (is_candidate s && nat_lt s.used r.order) ≡ true
spares r s h = elim (bool_cases (is_candidate s)) [
  | inl holds ↦ let h' = rw holds at h in rw holds (grind (arith, nat_tests))
  | inr fails ↦ rw fails refl
]

is_its : (r : Rank) (ss : List Standing) → is_oldest_use r.order ss ≡ true → (s : Standing) → is_rank r (use_rank s) ≡ true → (oid_eq r.at s.at && (is_candidate s && is_oldest_use s.used ss)) ≡ true
is_its r ss all s h = elim (bool_cases (is_candidate s)) [
  | inl holds ↦
      let h' = rw holds at h in
      let parts = and-parts _ _ h' in
      let same : s.used ≡ r.order = eqb-true s.used r.order parts.0 in
      and-both _ _ parts.1 (and-both _ _ holds (subst (λ z. is_oldest_use z ss ≡ true) (sym same) all))
  | inr fails ↦ let h' : false ≡ true = rw fails at h in cc
]

pub oldest-is : (r : Rank) (row : Row) (ss : List Standing) → IsLeast (Some r) row → ((k : ℕ) → rank_at row k ≡ rank_at (map use_rank ss) k) → is_oldest r.at ss ≡ true
oldest-is r row ss h same =
    let all = all-mono _ (λ s. not (is_candidate s && nat_lt s.used r.order)) (spares r) ss (least-below use_rank (Some r) row ss h same) in
    any-mono (λ s. is_rank r (use_rank s)) _ (is_its r ss all) ss (least-among use_rank r row ss h same)

nobody : (s : Standing) → is_no_later None (use_rank s) ≡ true → candidate_size s ≡ 0
nobody s h = elim (bool_cases (is_candidate s)) [
  | inl holds ↦ let h' : false ≡ true = rw holds at h in cc
  | inr fails ↦ rw fails refl
]

no-bytes : (ss : List Standing) → list_all (λ s. is_no_later None (use_rank s)) ss ≡ true → candidate_bytes ss ≡ 0
no-bytes [] h = refl
no-bytes (s ∷ ss) h =
    let parts = and-parts (is_no_later None (use_rank s)) (list_all (λ s. is_no_later None (use_rank s)) ss) h in
    omega (arith, nobody s parts.0, no-bytes ss parts.1)

pub no-candidates : (row : Row) (ss : List Standing) → IsLeast None row → ((k : ℕ) → rank_at row k ≡ rank_at (map use_rank ss) k) → candidate_bytes ss ≡ 0
no-candidates row ss h same = no-bytes ss (least-below use_rank None row ss h same)

pub evictable-is : (limit : ℕ) (r : Rank) (row : Row) (ss : List Standing) → limit < candidate_bytes ss → IsLeast (Some r) row → ((k : ℕ) → rank_at row k ≡ rank_at (map use_rank ss) k) → IsTrue (is_evictable limit r.at ss)
evictable-is limit r row ss over h same = and-both _ _ (over_test limit (candidate_bytes ss) over) (oldest-is r row ss h same)
  where
    over_test : (a b : ℕ) → a < b → nat_lt a b ≡ true
    over_test a b lt = grind (arith, nat_tests)

pub not_over : (limit : ℕ) (ss : List Standing) → candidate_bytes ss ≤ limit → IsTrue (not (is_over limit ss))
not_over limit ss within = not_lt limit (candidate_bytes ss) within
  where
    not_lt : (a b : ℕ) → b ≤ a → not (nat_lt a b) ≡ true
    not_lt a b le = grind (arith, nat_tests)

-- ---- the first kept block

kept-spares : (r : Rank) (s : Standing) → r.order ≡ 0 → is_no_later (Some r) (kept_rank s) ≡ true → not (s.kept && oid_lt s.at r.at) ≡ true
kept-spares r s zero_ h = elim (bool_cases s.kept) [
  | inl holds ↦ let h' = rw holds at h in rw holds (grind (arith, nat_tests))
  | inr fails ↦ rw fails refl
]

is_its-kept : (r : Rank) (s : Standing) → is_rank r (kept_rank s) ≡ true → ((oid_eq r.at s.at && s.kept) ≡ true) × (r.order ≡ 0)
is_its-kept r s h = elim (bool_cases s.kept) [
  | inl holds ↦
      let h' = rw holds at h in
      let parts = and-parts _ _ h' in
      (and-both _ _ parts.1 holds, sym (eqb-true 0 r.order parts.0))
  | inr fails ↦ let h' : false ≡ true = rw fails at h in cc
]

any-fact : (p : Standing → Bool) (n : ℕ) → ((s : Standing) → p s ≡ true → n ≡ 0) → (ss : List Standing) → list_any p ss ≡ true → n ≡ 0
any-fact p n says [] h = cc
any-fact p n says (s ∷ ss) h = elim (or-parts (p s) (list_any p ss) h) [ inl here ↦ says s here | inr there ↦ any-fact p n says ss there ]

pub first-is : (r : Rank) (row : Row) (ss : List Standing) → IsLeast (Some r) row → ((k : ℕ) → rank_at row k ≡ rank_at (map kept_rank ss) k) → IsTrue (is_first_kept r.at ss)
first-is r row ss h same =
    let among = least-among kept_rank r row ss h same in
    let order = any-fact (λ s. is_rank r (kept_rank s)) r.order (λ s e. (is_its-kept r s e).1) ss among in
    and-both _ _
    (any-mono (λ s. is_rank r (kept_rank s)) _ (λ s e. (is_its-kept r s e).0) ss among)
    (all-mono _ (λ s. not (s.kept && oid_lt s.at r.at)) (λ s. kept-spares r s order) ss (least-below kept_rank (Some r) row ss h same))

not-kept : (s : Standing) → is_no_later None (kept_rank s) ≡ true → not s.kept ≡ true
not-kept s h = elim (bool_cases s.kept) [
  | inl holds ↦ let h' : false ≡ true = rw holds at h in cc
  | inr fails ↦ rw fails refl
]

pub none-kept : (row : Row) (ss : List Standing) → IsLeast None row → ((k : ℕ) → rank_at row k ≡ rank_at (map kept_rank ss) k) → IsTrue (list_all (λ s. not s.kept) ss)
none-kept row ss h same = all-mono _ (λ s. not s.kept) not-kept ss (least-below kept_rank None row ss h same)

-- ---- one standing more, and one written

pub pushed : (f : Standing → Option Rank) (row new : Row) (ss after : List Standing) (s : Standing) (x : Option Rank) (i : ℕ)
    → ((k : ℕ) → rank_at row k ≡ rank_at (map f ss) k) → i ≡ length ss → i < length row → x ≡ f s → new ≡ set row i x → after ≡ ss ++ s ∷ []
    → (k : ℕ) → rank_at new k ≡ rank_at (map f after) k
pushed f row new ss after s x i same len within ranked written added k =
    ap (λ (r : Row). rank_at r k) written
    ∙ (at-push row (map f ss) i x within (length-map ss f ∙ sym len) same k
    ∙ ap (λ (r : Row). rank_at r k) (ap (λ (z : Option Rank). map f ss ++ z ∷ []) ranked ∙ (sym (map-append f ss (s ∷ [])) ∙ ap (map f) (sym added))))

pub rewritten : (f : Standing → Option Rank) (row new : Row) (ss after : List Standing) (s : Standing) (x : Option Rank) (i : ℕ)
    → ((k : ℕ) → rank_at row k ≡ rank_at (map f ss) k) → i < length ss → i < length row → x ≡ f s → new ≡ set row i x → after ≡ set ss i s
    → (k : ℕ) → rank_at new k ≡ rank_at (map f after) k
rewritten f row new ss after s x i same inside within ranked written added k =
    ap (λ (r : Row). rank_at r k) written
    ∙ (at-set row (map f ss) i x within (omega (arith, length-map ss f)) same k
    ∙ ap (λ (r : Row). rank_at r k) (ap (λ (z : Option Rank). set (map f ss) i z) ranked ∙ (sym (map-set f ss i s) ∙ ap (map f) (sym added))))

-- what stands at a dbuf's place
pub rank-of : (f : Standing → Option Rank) (row : Row) (ss : List Standing) (i : ℕ) (d : Standing) → ((k : ℕ) → rank_at row k ≡ rank_at (map f ss) k) → i < length ss → d ≡ get_or ss i d → rank_at row i ≡ f d
rank-of f row ss i d same within read = same i ∙ (get_or-map f ss i d None within ∙ ap f (sym read))
