-- How a row of turns begins: all turns are free, and the first party has every number.
use Rattle.std.proofs.Common.{◌≡◌, ◌≢◌, ℕ, zero, suc, ◌+◌, ◌-◌, ◌<◌, ◌≤◌, List, [], ◌∷◌, ◌++◌, map, length, get_or, set, replicate, true, Option, Some, None, refl, sym, ap, ◌∙◌, subst, arith}
use mathlib.Core.Option.{some, some-injective, some-ne-none}
use lib.ListN.{get_elem?}
use Rattle.atomic_table.specs.Table.{Splits, opening as table_opening}
use Rattle.atomic_table.specs.Seated.{TableId}
use Rattle.atomic_table.proofs.Lists.{set_again}
use Rattle.turn_table.specs.Board.{Turn, free, taken, Board, numbered, opening}
use Rattle.turn_table.specs.Homes.{home, room, Laid}
use Rattle.turn_table.specs.Standings.{kept_from, whole, whole_place, AllApart, AllKept, StandsAt, Sits, TurnsKeep, left_with, leaving}
use Rattle.turn_table.specs.Places.{newcomer, newcomers, Place, Apart, IsLast, stayed, parted}
use Rattle.turn_table.specs.declared.standing.Kept.{Kept}
use Rattle.turn_table.specs.declared.standing.Standing.{Standing}
use Rattle.turn_table.proofs.Homes.{home_below}
use Rattle.turn_table.proofs.Rows.{within}
use Rattle.turn_table.proofs.Seats.{parts}

length_map : {A B : Type 0} (f : A → B) (l : List A) → length (map f l) ≡ length l
length_map f [] = refl
length_map f (x ∷ xs) = ap suc (length_map f xs)

length_replicate : {A : Type 0} (n : ℕ) (a : A) → length (replicate n a) ≡ n
length_replicate zero a = refl
length_replicate (suc n) a = ap suc (length_replicate n a)

zero_at : (n i : ℕ) → i < n → get_elem? {A = ℕ} (replicate n 0) i ≡ some 0
zero_at zero i below = absurd (omega arith)
zero_at (suc n) zero below = refl
zero_at (suc n) (suc i) below = zero_at n i (omega arith)

module _ {A : Type 0} where
  pub get_any : (l : List A) (i : ℕ) (d e : A) → i < length l → get_or l i d ≡ get_or l i e
  get_any [] i d e below = absurd (omega arith)
  get_any (x ∷ xs) zero d e below = refl
  get_any (x ∷ xs) (suc i) d e below = get_any xs i d e (omega arith)

  pub get_beyond : (l : List A) (i : ℕ) (d : A) → length l ≤ i → get_or l i d ≡ d
  get_beyond [] i d from = refl
  get_beyond (x ∷ xs) zero d from = absurd (omega arith)
  get_beyond (x ∷ xs) (suc i) d from = get_beyond xs i d (omega arith)

  pub get_else : (l : List A) (i k : ℕ) (a d : A) → k ≢ i → get_or (set l i a) k d ≡ get_or l k d
  get_else [] i k a d far = refl
  get_else (x ∷ xs) zero zero a d far = absurd (far refl)
  get_else (x ∷ xs) zero (suc k) a d far = refl
  get_else (x ∷ xs) (suc i) zero a d far = refl
  get_else (x ∷ xs) (suc i) (suc k) a d far = get_else xs i k a d (λ e. far (ap suc e))

  pub at_left : (xs ys : List A) (i : ℕ) → i < length xs → get_elem? (xs ++ ys) i ≡ get_elem? xs i
  at_left [] ys i below = absurd (omega arith)
  at_left (x ∷ xs) ys zero below = refl
  at_left (x ∷ xs) ys (suc i) below = at_left xs ys i (omega arith)

  pub at_last : (xs : List A) (a : A) → get_elem? (xs ++ a ∷ []) (length xs) ≡ some a
  at_last [] a = refl
  at_last (x ∷ xs) a = at_last xs a

module _ {W : Type 0} (f : ℕ → W) where
  pub numbered_at : (n k j : ℕ) → j < k → get_elem? (numbered f n k) j ≡ some (f (n + j))
  numbered_at n zero j h = absurd (omega arith)
  numbered_at n (suc k) zero h = ap (λ m. some (f m)) (let e : n ≡ n + 0 = omega arith in e)
  numbered_at n (suc k) (suc j) h = numbered_at (suc n) k j (omega arith) ∙ ap (λ m. some (f m)) (let e : suc n + j ≡ n + suc j = omega arith in e)

  pub numbered_length : (n k : ℕ) → length (numbered f n k) ≡ k
  numbered_length n zero = refl
  numbered_length n (suc k) = ap suc (numbered_length (suc n) k)

  from_kept : (p n k : ℕ) → n + k ≤ p → AllKept (numbered f 0 p) (λ _. 0) 0 (kept_from f n k)
  from_kept p n zero h = tt
  from_kept p n (suc k) h = ((refl, numbered_at 0 p n (omega arith) ∙ ap (λ m. some (f m)) (let e : 0 + n ≡ n = omega arith in e)), from_kept p (suc n) k (omega arith))

  from_apart : (m n k : ℕ) → m < n → Apart m (kept_from f n k)
  from_apart m n zero h = tt
  from_apart m n (suc k) h = ((λ e. absurd (omega arith)), from_apart m (suc n) k (omega arith))

  from_all_apart : (n k : ℕ) → AllApart (kept_from f n k)
  from_all_apart n zero = tt
  from_all_apart n (suc k) = (from_apart n (suc n) k (omega arith), from_all_apart (suc n) k)

  pub newcomers_last : (id : TableId) (p n k : ℕ) → newcomers id p f n k ++ newcomer id p (n + k) (f (n + k)) ∷ [] ≡ newcomers id p f n (suc k)
  newcomers_last id p n zero = ap (λ m. newcomer id p m (f m) ∷ []) (let e : n + 0 ≡ n = omega arith in e)
  newcomers_last id p n (suc k) = ap (λ l. newcomer id p n (f n) ∷ l) (ap (λ m. newcomers id p f (suc n) k ++ newcomer id p m (f m) ∷ []) (let e : n + suc k ≡ suc n + k = omega arith in e) ∙ newcomers_last id p (suc n) k)

module _ {V : Type 0} where
  -- each turn is free with its value
  free_with : (vs : List V) (i : ℕ) (t : Turn V) → get_elem? (map free vs) i ≡ some t → (v : V) × (get_elem? vs i ≡ some v) × (free v ≡ t)
  free_with [] i t e = absurd (some-ne-none t (sym e))
  free_with (v ∷ vs) zero t e = (v, refl, some-injective (free v) t e)
  free_with (v ∷ vs) (suc i) t e = free_with vs i t e

  home_at : (xs : List (Option V)) (i : ℕ) (x : Option V) → get_elem? xs i ≡ some x → get_elem? (map some xs) i ≡ some (some x)
  home_at [] i x e = absurd (some-ne-none x (sym e))
  home_at (y ∷ ys) zero x e = ap some e
  home_at (y ∷ ys) (suc i) x e = home_at ys i x e

  pub read_home : (vs : List V) (i : ℕ) (v : V) → get_elem? vs i ≡ some v → get_or (map Some vs) i None ≡ Some v
  read_home [] i v at = absurd (some-ne-none v (sym at))
  read_home (u ∷ us) zero v at = ap (λ z. Some z) (some-injective u v at)
  read_home (u ∷ us) (suc i) v at = read_home us i v at

  pub read_past : (vs : List V) (i : ℕ) → length vs ≤ i → get_or (map Some vs) i None ≡ None
  read_past [] zero from = refl
  read_past [] (suc i) from = refl
  read_past (v ∷ vs) zero from = absurd (omega arith)
  read_past (v ∷ vs) (suc i) from = read_past vs i (omega arith)

  stands_at : (vs : List V) (xs : List (Option V)) → Laid xs vs → (i : ℕ) (t : Turn V) → get_elem? (map free vs) i ≡ some t → StandsAt (replicate (room (length vs)) 0) (map some xs) (home i) t
  stands_at vs xs laid i t e =
      let f = free_with vs i t e in
      subst (StandsAt (replicate (room (length vs)) 0) (map some xs) (home i)) f.2
      (zero_at (room (length vs)) (home i) (home_below (length vs) i (within vs i f.0 f.1)), home_at xs (home i) (Some f.0) (laid.each i f.0 f.1))

  none_taken : (vs : List V) (i n : ℕ) → get_elem? (map free vs) i ≡ some (taken n) → ⊥
  none_taken [] i n e = some-ne-none (taken n) (sym e)
  none_taken (v ∷ vs) zero n e = let f : free v ≡ taken n = some-injective (free v) (taken n) e in absurd (cc)
  none_taken (v ∷ vs) (suc i) n e = none_taken vs i n e

module _ {V W : Type 0} (holds : Board V W → Type 0) where
  opens_at : (p size : ℕ) (f : ℕ → W) (vs : List V) (xs : List (Option V)) → 0 < p → length vs ≡ size → Laid xs vs → holds (opening vs (numbered f 0 p)) → TurnsKeep holds p size (table_opening (replicate (room (length vs)) 0) xs (whole p f))
  opens_at p size f vs xs some_party sized laid rule = record {
    turns = map free vs;
    views = numbered f 0 p;
    seat = λ _. 0;
    stands = record {
      words = length_replicate (room (length vs)) 0 ∙ ap room (sym (length_map free vs));
      homes = length_map some xs ∙ (laid.long ∙ ap room (sym (length_map free vs)));
      each = stands_at vs xs laid;
      spare = λ i from below. let same : length (map free vs) ≡ length vs = length_map free vs in
          home_at xs (home i) None (laid.spare i (omega arith) (subst (λ (n : ℕ). i < room n) same below));
    };
    rule = rule;
    long = length_map free vs ∙ sized;
    count = numbered_length f 0 p;
    seats = only;
    owners = λ i n e. absurd (none_taken vs i n e);
  }
    where
      first : Sits p (map free vs) (numbered f 0 p) (λ _. 0) 0 (whole p f)
      first = record {
        all = refl;
        own_at = refl;
        own_is = numbered_at f 0 p 0 some_party ∙ ap (λ m. some (f m)) (let e : 0 + 0 ≡ 0 = omega arith in e);
        joined = from_kept f p 1 (p - 1) (omega arith);
        own_apart = from_apart f 0 1 (p - 1) (omega arith);
        joined_apart = from_all_apart f 1 (p - 1);
        held = tt;
        once = tt;
      }

      only : (id : ℕ) (x : Standing W) → get_elem? (whole p f ∷ []) id ≡ some x → x.live ≡ true → Sits p (map free vs) (numbered f 0 p) (λ _. 0) id x
      only zero x e alive = subst (Sits p (map free vs) (numbered f 0 p) (λ _. 0) 0) (some-injective (whole p f) x e) first
      only (suc id) x e alive = absurd (some-ne-none x (sym e))

  pub opens : (p size : ℕ) (f : ℕ → W) (vs : List V) (ws : List ℕ) (xs : List (Option V)) → 0 < p → length vs ≡ size → ws ≡ replicate (room (length vs)) 0 → Laid xs vs → holds (opening vs (numbered f 0 p))
      → TurnsKeep holds p size (table_opening ws xs (whole p f))
  opens p size f vs ws xs some_party sized words laid rule =
      subst (λ (z : List ℕ). TurnsKeep holds p size (table_opening z xs (whole p f))) (sym words) (opens_at p size f vs xs some_party sized laid rule)

  -- the party that joined last goes its way, and nothing is learned
  pub deals : (p size id : ℕ) (x : Standing W) (k : Kept W) (ks : List (Kept W)) → x.live ≡ true → x.held ≡ [] → x.joined ≡ k ∷ ks → Splits (TurnsKeep holds p size) id x (left_with x) (leaving (λ w. w) x)
  deals p size id x k ks live free_x last =
      parts holds p size (λ w. w) id x k ks live free_x last (λ b h ne _ at. subst (λ (l : List W). holds record { turns = b.turns; views = l }) (sym (set_again b.views k.number k.view at)) h)

-- the party of the number n parts from the first one
module _ {W : Type 0} (f : ℕ → W) (id : TableId) (p n : ℕ) (h : n < p) where
  step_of : p - n ≡ suc (p - (n + 1))
  step_of = omega arith

  pub deal_last : (v : Place W) → v ≡ whole_place id p f n (p - n) → IsLast n v.joined
  deal_last v e = subst (λ (z : Place W). IsLast n z.joined) (sym (e ∙ ap (whole_place id p f n) step_of)) refl

  pub deal_stays : (v : Place W) → v ≡ whole_place id p f n (p - n) → stayed v ≡ whole_place id p f (n + 1) (p - (n + 1))
  deal_stays v e = ap stayed (e ∙ ap (whole_place id p f n) step_of) ∙ ap (λ m. whole_place id p f m (p - (n + 1))) (let k : suc n ≡ n + 1 = omega arith in k)

  pub deal_goes : (v : Place W) → v ≡ whole_place id p f n (p - n) → parted (λ w. w) v v.joined ≡ newcomer id p n (f n)
  deal_goes v e = ap (λ (z : Place W). parted (λ w. w) z z.joined) (e ∙ ap (whole_place id p f n) step_of)

pub newcomers_next : {W : Type 0} (f : ℕ → W) (id : TableId) (p n : ℕ) → 1 ≤ n → newcomers id p f 1 (n - 1) ++ newcomer id p n (f n) ∷ [] ≡ newcomers id p f 1 (n + 1 - 1)
newcomers_next f id p n h = ap (λ m. newcomers id p f 1 (n - 1) ++ newcomer id p m (f m) ∷ []) (let e : n ≡ 1 + (n - 1) = omega arith in e) ∙ (newcomers_last f id p 1 (n - 1) ∙ ap (newcomers id p f 1) (let e : suc (n - 1) ≡ n + 1 - 1 = omega arith in e))

-- once all have parted, the first one stands before the others
pub dealt : {W : Type 0} (f : ℕ → W) (id : TableId) (p n : ℕ) (v : Place W) (l : List (Place W)) → 0 < p → n ≡ p → v ≡ whole_place id p f n (p - n) → l ≡ newcomers id p f 1 (n - 1) → v ∷ l ≡ newcomers id p f 0 p
dealt {W} f id p n v l some_party end e g =
    let a : v ≡ newcomer id p 0 (f 0) = e ∙ ap (whole_place id p f n) (let k : p - n ≡ 0 = omega arith in k) in
    let b : l ≡ newcomers id p f 1 (p - 1) = g ∙ ap (λ m. newcomers id p f 1 (m - 1)) end in
    let c : v ∷ l ≡ newcomers id p f 0 (suc (p - 1)) = λ i. a i ∷ b i in
    c ∙ ap (newcomers id p f 0) (let k : suc (p - 1) ≡ p = omega arith in k)
