-- Each event keeps the lists of holds and readings in agreement with the shard.
use Rattle.std.proofs.Common.{◌≡◌, ◌≢◌, ◌⊎◌, ◌==◌, if◌then◌else◌, ℕ, zero, suc, ◌+◌, ◌<◌, ◌≤◌, List, [], ◌∷◌, sum, get_or, Bool, true, false, not, cond, Option, Some, None, refl, sym, ap, ◌∙◌, subst, inl, inr, ⊎_elim, eq-eqb, ne_eqb, arith}
use Rattle.std.specs.Prelude.{IsTrue, ◌&&◌, ◌||◌, is_none, is_some, nat_lt, IsSomeAnd}
use Rattle.std.specs.Option.{option_map, option_map_or, option_and_then}
use Rattle.std.proofs.lemmas.Bool.Decides.{nat_tests}
use Rattle.std.proofs.lemmas.List.Sums.{sum_by-cons}
use Rattle.std.proofs.lemmas.Option.{none-some}
use mathlib.Core.Option.{some, some-injective, some-ne-none}
use mathlib.Core.Logic.{dite}
use native.Mathlib.Decide.{dec_le, ℕ_discrete}
use lib.ListN.{get_elem?}
use Rattle.blk_ptr.specs.declared.key.Key.{Key}
use Rattle.blk_ptr.specs.declared.digest.Digest.{Digest}
use Rattle.blk_ptr.specs.declared.ptr.Ptr.{Ptr}
use Rattle.blk_ptr.specs.Order.{key_eq}
use Rattle.blk_ptr.proofs.Keys.{key_eq-is, key_eq-same}
use Rattle.arc_core.specs.declared.entry.Entry.{Entry}
use Rattle.arc_core.specs.declared.event.Event.{Event}
use Rattle.arc_core.specs.declared.event.Event.TheVariants.{Pass, Hit, Miss, Arrive, Fail, Drop, Past, Hand, Insert, Release, Pick, FeedEnd, Set, Leave, Clear, Restore, Resize}
use Rattle.arc_core.specs.Changing.{gained, handed, hold_for, lost, without_place}
use Rattle.arc_core.specs.Changes.{pick_of}
use Rattle.arc_core.specs.declared.entry.Picked.{Picked}
use Rattle.blk_ptr.specs.Key.{is_well_formed}
use Rattle.arc_core.specs.Keeps.{holds_on}
use Rattle.arc_core.specs.Operations.{event_key, is_about}
use Rattle.arc_core.specs.PlainShard.{PlainShard, count_of, entry_is, entry_of, held_by, is_absent, is_at_rest, is_free, holds_of, is_cell, is_number, is_resident, is_unheld, numbers}
use Rattle.blk_ptr.specs.State.{is_cached, is_ghost, is_same_state}
use Rattle.blk_ptr.specs.declared.state.State.{State}
use Rattle.blk_ptr.specs.declared.state.State.TheVariants.{Anon, Mru, MruGhost, Mfu, MfuGhost, L2Only}
use Rattle.arc_core.specs.Sparing.{IsSpared}
use Rattle.arc_core.specs.Sound.{IsSound, fits_state}
use Rattle.arc_core.specs.Step.{after, agree, arrived, entry_to_read, hit_entry, holds, is_missing, is_new_here, is_without_bytes, is_writing, legal, may_be_placed, may_come_from, may_set, reads, written_entry}
use Rattle.arc_core.specs.Digests.{same_digest}
use Rattle.arc_core.proofs.Accesses.{accessed-keeps}
use Rattle.arc_core.proofs.Counting.{counting, held-cached, held-kept}
use Rattle.arc_core.proofs.Others.{own-entry, sparing}
use Rattle.arc_core.proofs.Sparing.{spared-held}
use Rattle.arc_table.specs.Booking.{AreBooked, IsBookedAfter, digest_at, holds_after, readings_after, with_hold, without_hold, without_reading}
use Rattle.arc_table.specs.pact.Counted.{IsRead, Rests, readings_of}
use Rattle.arc_table.proofs.Bookings.{begun_reading, from_without, holds_cons, readings_cons, reading_without, without_else, reading_else}
use Rattle.arc_table.proofs.ShardGives.{entry_sound, option_case}

-- ---- tests

some_is : {A : Type 0} (a b : A) → ◌≡◌ {A = Option A} (Some a) (Some b) → a ≡ b
some_is a b q = cc

pub both : (a b : Bool) → IsTrue (a && b) → IsTrue a × IsTrue b
both true b h = (refl, h)
both false b h = absurd (cc)

and_true : (a b : Bool) → IsTrue a → IsTrue b → IsTrue (a && b)
and_true true b h k = k
and_true false b h k = h

pub not_zero : (x : ℕ) → IsTrue (not (x == 0)) → 0 < x
not_zero x h = grind (arith, nat_tests)

zero_not : (x : ℕ) → 0 < x → IsTrue (not (x == 0))
zero_not x h = grind (arith, nat_tests)

below_true : (x y : ℕ) → IsTrue (nat_lt x y) → x < y
below_true x y h = grind (arith, nat_tests)

pub at_rest : (b : Bool) → IsTrue (not b) → b ≡ false
at_rest false h = refl
at_rest true h = absurd (cc)

-- a test that an entry passes
pub there_is : (test : Entry → Bool) (k : Key) (s : PlainShard) → IsTrue (entry_is test k s) → (x : Entry) × (entry_of k s ≡ Some x) × IsTrue (test x)
there_is test k s h = ⊎_elim
    (λ e. let f : false ≡ true = sym (ap (λ (o : Option Entry). option_map_or test o false) e) ∙ h in absurd (cc))
    (λ x. (x.0, x.1, sym (ap (λ (o : Option Entry). option_map_or test o false) x.1) ∙ h))
    (option_case (entry_of k s))

-- ---- sums of counts

sum_cons : (x : ℕ) (xs : List ℕ) → sum (x ∷ xs) ≡ x + sum xs
sum_cons x xs = sum_by-cons (λ (y : ℕ). y) x xs

pub one_le : (xs : List ℕ) (a : ℕ) → get_or xs a 0 ≤ sum xs
one_le [] a = omega arith
one_le (x ∷ xs) zero = let e = sum_cons x xs in omega arith
one_le (x ∷ xs) (suc a) = let e = sum_cons x xs in let r = one_le xs a in omega arith

pub two_le : (xs : List ℕ) (a c : ℕ) → a ≢ c → get_or xs a 0 + get_or xs c 0 ≤ sum xs
two_le [] a c far = omega arith
two_le (x ∷ xs) zero zero far = absurd (far refl)
two_le (x ∷ xs) zero (suc c) far = let e = sum_cons x xs in let r = one_le xs c in omega arith
two_le (x ∷ xs) (suc a) zero far = let e = sum_cons x xs in let r = one_le xs a in omega arith
two_le (x ∷ xs) (suc a) (suc c) far = let e = sum_cons x xs in let r = two_le xs a c (λ q. far (ap suc q)) in omega arith

-- ---- one more, one less

abbrev mark : Bool → ℕ
mark b = cond b 1 0

abbrev flag : Bool → ℕ
flag b = if b then 1 else 0

gain : (m n : ℕ) (k j : Key) (d : Digest) (hs : List Ptr) → holds_on k (if m == n then with_hold j (Some d) hs else hs) ≡ holds_on k hs + hold_for n j m k
gain m n k j d hs = go (m == n) (key_eq k j) refl
  where
    go : (c t : Bool) → key_eq k j ≡ t → holds_on k (if c then with_hold j (Some d) hs else hs) ≡ holds_on k hs + (if c && key_eq k j then 1 else 0)
    go false t e = omega arith
    go true true e = let a = holds_cons k record { key = j; digest = d } hs in
        let x : mark (key_eq k j) ≡ 1 = ap mark e in
        let y : flag (key_eq k j) ≡ 1 = ap flag e in omega arith
    go true false e = let a = holds_cons k record { key = j; digest = d } hs in
        let x : mark (key_eq k j) ≡ 0 = ap mark e in
        let y : flag (key_eq k j) ≡ 0 = ap flag e in omega arith

gain_reading : (m n : ℕ) (k j : Key) (ks : List Key) → readings_of k (if m == n then j ∷ ks else ks) ≡ readings_of k ks + hold_for n j m k
gain_reading m n k j ks = go (m == n) (key_eq k j) refl
  where
    go : (c t : Bool) → key_eq k j ≡ t → readings_of k (if c then j ∷ ks else ks) ≡ readings_of k ks + (if c && key_eq k j then 1 else 0)
    go false t e = omega arith
    go true true e = let a = readings_cons k j ks in let x : mark (key_eq k j) ≡ 1 = ap mark e in let y : flag (key_eq k j) ≡ 1 = ap flag e in omega arith
    go true false e = let a = readings_cons k j ks in let x : mark (key_eq k j) ≡ 0 = ap mark e in let y : flag (key_eq k j) ≡ 0 = ap flag e in omega arith

less : (j : Key) (hs : List Ptr) → 0 < holds_on j hs → holds_on j (without_hold j hs) + 1 ≡ holds_on j hs
less j [] some_hold = let z : holds_on j [] ≡ 0 = refl in absurd (omega arith)
less j (x ∷ hs) some_hold = go (λ h. less j hs h) (key_eq j x.key) refl
  where
    go : (0 < holds_on j hs → holds_on j (without_hold j hs) + 1 ≡ holds_on j hs) → (c : Bool) → key_eq j x.key ≡ c → holds_on j (if c then hs else (x ∷ without_hold j hs)) + 1 ≡ holds_on j (x ∷ hs)
    go ih true e = let a = holds_cons j x hs in let y : mark (key_eq j x.key) ≡ 1 = ap mark e in omega arith
    go ih false e = let a = holds_cons j x hs in let b = holds_cons j x (without_hold j hs) in let y : mark (key_eq j x.key) ≡ 0 = ap mark e in
        let r = ih (omega arith) in omega arith

less_reading : (j : Key) (ks : List Key) → 0 < readings_of j ks → readings_of j (without_reading j ks) + 1 ≡ readings_of j ks
less_reading j [] some_reading = let z : readings_of j [] ≡ 0 = refl in absurd (omega arith)
less_reading j (x ∷ ks) some_reading = go (λ h. less_reading j ks h) (key_eq j x) refl
  where
    go : (0 < readings_of j ks → readings_of j (without_reading j ks) + 1 ≡ readings_of j ks) → (c : Bool) → key_eq j x ≡ c → readings_of j (if c then ks else (x ∷ without_reading j ks)) + 1 ≡ readings_of j (x ∷ ks)
    go ih true e = let a = readings_cons j x ks in let y : mark (key_eq j x) ≡ 1 = ap mark e in omega arith
    go ih false e = let a = readings_cons j x ks in let b = readings_cons j x (without_reading j ks) in let y : mark (key_eq j x) ≡ 0 = ap mark e in
        let r = ih (omega arith) in omega arith

loss : (m n : ℕ) (k j : Key) (hs : List Ptr) → (m ≡ n → 0 < holds_on j hs) → holds_on k (if m == n then without_hold j hs else hs) + hold_for n j m k ≡ holds_on k hs
loss m n k j hs some_hold = dite (ℕ_discrete m n)
    (λ q. subst (λ c. holds_on k (if c then without_hold j hs else hs) + (if c && key_eq k j then 1 else 0) ≡ holds_on k hs) (sym (eq-eqb m n q)) (go (some_hold q) (key_eq k j) refl))
    (λ q. subst (λ c. holds_on k (if c then without_hold j hs else hs) + (if c && key_eq k j then 1 else 0) ≡ holds_on k hs) (sym (ne_eqb m n q)) (omega arith))
  where
    go : 0 < holds_on j hs → (t : Bool) → key_eq k j ≡ t → holds_on k (without_hold j hs) + (if key_eq k j then 1 else 0) ≡ holds_on k hs
    go h true e = let y : flag (key_eq k j) ≡ 1 = ap flag e in
        subst (λ (z : Key). holds_on z (without_hold j hs) + (if key_eq k j then 1 else 0) ≡ holds_on z hs) (sym (key_eq-is k j e)) (let a = less j hs h in omega arith)
    go h false e = let y : flag (key_eq k j) ≡ 0 = ap flag e in let a = without_else k j hs e in omega arith

loss_reading : (m n : ℕ) (k j : Key) (ks : List Key) → (m ≡ n → 0 < readings_of j ks) → readings_of k (if m == n then without_reading j ks else ks) + hold_for n j m k ≡ readings_of k ks
loss_reading m n k j ks some_reading = dite (ℕ_discrete m n)
    (λ q. subst (λ c. readings_of k (if c then without_reading j ks else ks) + (if c && key_eq k j then 1 else 0) ≡ readings_of k ks) (sym (eq-eqb m n q)) (go (some_reading q) (key_eq k j) refl))
    (λ q. subst (λ c. readings_of k (if c then without_reading j ks else ks) + (if c && key_eq k j then 1 else 0) ≡ readings_of k ks) (sym (ne_eqb m n q)) (omega arith))
  where
    go : 0 < readings_of j ks → (t : Bool) → key_eq k j ≡ t → readings_of k (without_reading j ks) + (if key_eq k j then 1 else 0) ≡ readings_of k ks
    go h true e = let y : flag (key_eq k j) ≡ 1 = ap flag e in
        subst (λ (z : Key). readings_of z (without_reading j ks) + (if key_eq k j then 1 else 0) ≡ readings_of z ks) (sym (key_eq-is k j e)) (let a = less_reading j ks h in omega arith)
    go h false e = let y : flag (key_eq k j) ≡ 0 = ap flag e in let a = reading_else k j ks e in omega arith

-- ---- what is counted stands in the list

hold_there : (k : Key) (hs : List Ptr) → 0 < holds_on k hs → (q : ℕ) × (h : Ptr) × (get_elem? hs q ≡ some h) × (k ≡ h.key)
hold_there k [] some_hold = let z : holds_on k [] ≡ 0 = refl in absurd (omega arith)
hold_there k (x ∷ hs) some_hold = go (λ h. hold_there k hs h) (key_eq k x.key) refl
  where
    go : (0 < holds_on k hs → (q : ℕ) × (h : Ptr) × (get_elem? hs q ≡ some h) × (k ≡ h.key)) → (c : Bool) → key_eq k x.key ≡ c → (q : ℕ) × (h : Ptr) × (get_elem? (x ∷ hs) q ≡ some h) × (k ≡ h.key)
    go ih true e = (0, x, refl, key_eq-is k x.key e)
    go ih false e = let a = holds_cons k x hs in let y : mark (key_eq k x.key) ≡ 0 = ap mark e in let r = ih (omega arith) in (suc r.0, r.1, r.2, r.3)

reading_there : (k : Key) (ks : List Key) → 0 < readings_of k ks → (q : ℕ) × (get_elem? ks q ≡ some k)
reading_there k [] some_reading = let z : readings_of k [] ≡ 0 = refl in absurd (omega arith)
reading_there k (x ∷ ks) some_reading = go (λ h. reading_there k ks h) (key_eq k x) refl
  where
    go : (0 < readings_of k ks → (q : ℕ) × (get_elem? ks q ≡ some k)) → (c : Bool) → key_eq k x ≡ c → (q : ℕ) × (get_elem? (x ∷ ks) q ≡ some k)
    go ih true e = (0, ap some (sym (key_eq-is k x e)))
    go ih false e = let a = readings_cons k x ks in let y : mark (key_eq k x) ≡ 0 = ap mark e in let r = ih (omega arith) in (suc r.0, r.1)

-- a hold or a reading in the list is counted
hold_counts : (hs : List Ptr) (q : ℕ) (h : Ptr) → get_elem? hs q ≡ some h → 0 < holds_on h.key hs
hold_counts [] q h e = absurd (some-ne-none h (sym e))
hold_counts (x ∷ hs) zero h e = let a = holds_cons h.key x hs in let is : x ≡ h = some-injective x h e in
    let y : mark (key_eq h.key x.key) ≡ 1 = ap mark (ap (λ (z : Ptr). key_eq h.key z.key) is ∙ key_eq-same h.key) in omega arith
hold_counts (x ∷ hs) (suc q) h e = let a = holds_cons h.key x hs in let r = hold_counts hs q h e in omega arith

reading_counts : (ks : List Key) (q : ℕ) (k : Key) → get_elem? ks q ≡ some k → 0 < readings_of k ks
reading_counts [] q k e = absurd (some-ne-none k (sym e))
reading_counts (x ∷ ks) zero k e = let a = readings_cons k x ks in let is : x ≡ k = some-injective x k e in
    let y : mark (key_eq k x) ≡ 1 = ap mark (ap (key_eq k) is ∙ key_eq-same k) in omega arith
reading_counts (x ∷ ks) (suc q) k e = let a = readings_cons k x ks in let r = reading_counts ks q k e in omega arith

-- ---- holds: the new ones, and the old

abbrev IsNew : PlainShard → Event → Ptr → Type 0
IsNew s (Hit n k t) h = (k ≡ h.key) × (digest_at k s ≡ Some h.digest)
IsNew s (Arrive n k d from) h = (k ≡ h.key) × (d ≡ h.digest)
IsNew s (Insert n k d t) h = (k ≡ h.key) × (d ≡ h.digest)
IsNew s (Hand n k to) h = (k ≡ h.key) × (digest_at k s ≡ Some h.digest)
IsNew s _ h = ⊥

abbrev NewOrOld : PlainShard → Event → List Ptr → Ptr → Type 0
NewOrOld s e hs h = IsNew s e h ⊎ ((r : ℕ) × (get_elem? hs r ≡ some h))

digest_is : (d d' : Digest) → ◌≡◌ {A = Option Digest} (Some d) (Some d') → d ≡ d'
digest_is d d' q = cc

from_with : (j : Key) (o : Option Digest) (hs : List Ptr) (q : ℕ) (h : Ptr) → get_elem? (with_hold j o hs) q ≡ some h → ((j ≡ h.key) × (o ≡ Some h.digest)) ⊎ ((r : ℕ) × (get_elem? hs r ≡ some h))
from_with j None hs q h e = inr (q, e)
from_with j (Some d) hs zero h e = let is : record { key = j; digest = d } ≡ h = some-injective record { key = j; digest = d } h e in inl (ap (λ (x : Ptr). x.key) is, ap (λ (x : Ptr). Some x.digest) is)
from_with j (Some d) hs (suc q) h e = inr (q, e)

choose : {A : Type 0} (b : Bool) (P : A → Type 0) (x y : A) → P x → P y → P (if b then x else y)
choose true P x y p q = p
choose false P x y p q = q

new_or_old : (m : ℕ) (s : PlainShard) (e : Event) (hs : List Ptr) (q : ℕ) (h : Ptr) → get_elem? (holds_after m s e hs) q ≡ some h → NewOrOld s e hs h
new_or_old m s (Hit n k t) hs q h = choose (m == n) (λ (l : List Ptr). get_elem? l q ≡ some h → NewOrOld s (Hit n k t) hs h) (with_hold k (digest_at k s) hs) hs (λ e. from_with k (digest_at k s) hs q h e) (λ e. inr (q, e))
new_or_old m s (Arrive n k d from) hs q h = choose (m == n) (λ (l : List Ptr). get_elem? l q ≡ some h → NewOrOld s (Arrive n k d from) hs h) (with_hold k (Some d) hs) hs (λ e. ⊎_elim (λ p. inl (p.0, digest_is d h.digest p.1)) inr (from_with k (Some d) hs q h e)) (λ e. inr (q, e))
new_or_old m s (Insert n k d t) hs q h = choose (m == n) (λ (l : List Ptr). get_elem? l q ≡ some h → NewOrOld s (Insert n k d t) hs h) (with_hold k (Some d) hs) hs (λ e. ⊎_elim (λ p. inl (p.0, digest_is d h.digest p.1)) inr (from_with k (Some d) hs q h e)) (λ e. inr (q, e))
new_or_old m s (Drop n k) hs q h = choose (m == n) (λ (l : List Ptr). get_elem? l q ≡ some h → NewOrOld s (Drop n k) hs h) (without_hold k hs) hs (λ e. inr (from_without k hs q h e)) (λ e. inr (q, e))
new_or_old m s (Release n k sole) hs q h = choose (m == n) (λ (l : List Ptr). get_elem? l q ≡ some h → NewOrOld s (Release n k sole) hs h) (without_hold k hs) hs (λ e. inr (from_without k hs q h e)) (λ e. inr (q, e))
new_or_old m s (Hand n k to) hs q h =
    let left : List Ptr = if m == n then without_hold k hs else hs in
    let was : (r : ℕ) → get_elem? left r ≡ some h → (t : ℕ) × (get_elem? hs t ≡ some h) = λ r. choose (m == n) (λ (l : List Ptr). get_elem? l r ≡ some h → (t : ℕ) × (get_elem? hs t ≡ some h)) (without_hold k hs) hs (λ e. from_without k hs r h e) (λ e. (r, e)) in
    choose (m == to) (λ (l : List Ptr). get_elem? l q ≡ some h → NewOrOld s (Hand n k to) hs h) (with_hold k (digest_at k s) left) left
    (λ e. ⊎_elim inl (λ r. inr (was r.0 r.1)) (from_with k (digest_at k s) left q h e)) (λ e. inr (was q e))
new_or_old m s (Pass n k owner) hs q h = λ e. inr (q, e)
new_or_old m s (Miss n k t) hs q h = λ e. inr (q, e)
new_or_old m s (Fail n k at) hs q h = λ e. inr (q, e)
new_or_old m s (Past n k kept) hs q h = λ e. inr (q, e)
new_or_old m s (Pick n k) hs q h = λ e. inr (q, e)
new_or_old m s (FeedEnd n) hs q h = λ e. inr (q, e)
new_or_old m s (Set n k place) hs q h = λ e. inr (q, e)
new_or_old m s (Leave n k why) hs q h = λ e. inr (q, e)
new_or_old m s (Clear n k) hs q h = λ e. inr (q, e)
new_or_old m s (Restore n k place d) hs q h = λ e. inr (q, e)
new_or_old m s (Resize n c) hs q h = λ e. inr (q, e)

-- the entry that a legal event finds
module _ (s : PlainShard) (sound : IsSound s) where
  -- an entry that some number holds at rest has bytes and a digest
  digest_there : (k : Key) (x : Entry) (n : ℕ) → entry_of k s ≡ Some x → IsTrue (holds n x) → (d : Digest) × (digest_at k s ≡ Some d)
  digest_there k x n e h = let c = (held-cached s k x n sound e h).1 in (c.0, ap (option_and_then (λ (y : Entry). y.digest)) e ∙ c.1)

  -- so has one whose bytes are cached at rest
  of_digest : (k : Key) (x : Entry) (o : Option Digest) → entry_of k s ≡ Some x → x.digest ≡ o → IsTrue (is_some o) → (d : Digest) × (digest_at k s ≡ Some d)
  of_digest k x None e q r = absurd (cc)
  of_digest k x (Some d) e q r = (d, ap (option_and_then (λ (y : Entry). y.digest)) e ∙ q)

  either_of : (a b : Bool) → a ≡ false → IsTrue (a || b) → IsTrue b
  either_of false b q h = h
  either_of true b q h = absurd (cc)

  by_state : (k : Key) (x : Entry) (state : State) → entry_of k s ≡ Some x → IsTrue (is_cached state) → x.reading ≡ false → IsTrue (fits_state state x) → (d : Digest) × (digest_at k s ≡ Some d)
  by_state k x Mru e cached rest fits = of_digest k x x.digest e refl (both (is_at_rest x) (is_some x.digest) fits).1
  by_state k x Mfu e cached rest fits = of_digest k x x.digest e refl (either_of x.reading (is_some x.digest) rest fits)
  by_state k x Anon e cached rest fits = absurd (cc)
  by_state k x MruGhost e cached rest fits = absurd (cc)
  by_state k x MfuGhost e cached rest fits = absurd (cc)
  by_state k x L2Only e cached rest fits = absurd (cc)

  resident_digest : (k : Key) (x : Entry) → entry_of k s ≡ Some x → IsTrue (is_resident x) → (d : Digest) × (digest_at k s ≡ Some d)
  resident_digest k x e h = let parts = both (is_cached x.state) (is_at_rest x) h in
      by_state k x x.state e parts.0 (at_rest x.reading parts.1) (entry_sound k s.entries x sound.tidy.entries e).state

  -- an entry that is being read has no hold in the lists, one at rest no reading; and one hold in all where it is being read
  module _ (is_own : Key → Type 0) (hs : ℕ → List Ptr) (rs : ℕ → List Key) (b : AreBooked is_own s hs rs) where
    none_held : (m : ℕ) (k : Key) (x : Entry) → m < numbers → is_own k → entry_of k s ≡ Some x → x.reading ≡ true → holds_on k (hs m) ≡ 0
    none_held m k x below own e reading = go (dec_le 1 (holds_on k (hs m)))
      where
        go : Dec (1 ≤ holds_on k (hs m)) → holds_on k (hs m) ≡ 0
        go (no h) = omega arith
        go (yes h) = let t = hold_there k (hs m) h in
            let r = b.rests m t.0 t.1 below (subst is_own t.3 own) t.2 in
            let same : r.entry ≡ x = some_is r.entry x (sym r.there ∙ (ap (λ (z : Key). entry_of z s) (sym t.3) ∙ e)) in
            let f : false ≡ true = sym r.rest ∙ (ap (λ (y : Entry). y.reading) same ∙ reading) in absurd (cc)

    none_read : (m : ℕ) (k : Key) (x : Entry) → m < numbers → is_own k → entry_of k s ≡ Some x → x.reading ≡ false → readings_of k (rs m) ≡ 0
    none_read m k x below own e rest = go (dec_le 1 (readings_of k (rs m)))
      where
        go : Dec (1 ≤ readings_of k (rs m)) → readings_of k (rs m) ≡ 0
        go (no h) = omega arith
        go (yes h) = let t = reading_there k (rs m) h in
            let r = b.reads m t.0 k below own t.1 in
            let same : r.entry ≡ x = some_is r.entry x (sym r.there ∙ e) in
            let f : true ≡ false = sym r.reading ∙ (ap (λ (y : Entry). y.reading) same ∙ rest) in absurd (cc)

    count_is : (m : ℕ) (k : Key) (x : Entry) → entry_of k s ≡ Some x → count_of m k s ≡ held_by m x
    count_is m k x e = ap (λ (o : Option Entry). option_map_or (held_by m) o 0) e

    -- n holds it at rest, so a hold is listed; n reads it, so a reading is
    hold_listed : (n : ℕ) (k : Key) → n < numbers → is_own k → IsTrue (entry_is (holds n) k s) → 0 < holds_on k (hs n)
    hold_listed n k below own ok = let x = there_is (holds n) k s ok in let parts = both (is_at_rest x.0) (not (held_by n x.0 == 0)) x.2 in
        let some_hold = not_zero (held_by n x.0) parts.1 in let c = count_is n k x.0 x.1 in let a = b.counts n k below own in let z = none_read n k x.0 below own x.1 (at_rest x.0.reading parts.0) in omega arith

    reading_listed : (n : ℕ) (k : Key) (x : Entry) → n < numbers → is_own k → entry_of k s ≡ Some x → IsTrue (reads n x) → 0 < readings_of k (rs n)
    reading_listed n k x below own e ok = let parts = both x.reading (not (held_by n x == 0)) ok in
        let some_hold = not_zero (held_by n x) parts.1 in let c = count_is n k x e in let a = b.counts n k below own in let z = none_held n k x below own e parts.0 in omega arith

    -- ---- the counts add up

    abbrev Tallies : Event → ℕ → Key → Type 0
    Tallies e m k = holds_on k (holds_after m s e (hs m)) + readings_of k (readings_after m e (rs m)) + lost e m k ≡ holds_on k (hs m) + readings_of k (rs m) + gained e m k

    gained_hold : (m n : ℕ) (k j : Key) (l : List Ptr) → ((d : Digest) × (digest_at j s ≡ Some d)) → holds_on k (if m == n then with_hold j (digest_at j s) l else l) ≡ holds_on k l + hold_for n j m k
    gained_hold m n k j l d = subst (λ (o : Option Digest). holds_on k (if m == n then with_hold j o l else l) ≡ holds_on k l + hold_for n j m k) (sym d.1) (gain m n k j d.0 l)

    number_of_party : (n : ℕ) (c : Bool) → IsTrue (is_number n && c) → n < numbers
    number_of_party n c ok = below_true n numbers (both (is_number n) c ok).0

    tally : (e : Event) → IsTrue (legal s e) → ((j : Key) → event_key e ≡ Some j → is_own j) → (m : ℕ) (k : Key) → Tallies e m k
    tally (Hit n j t) ok own m k = let x = there_is is_resident j s (both (is_number n) (entry_is is_resident j s) ok).1 in let a = gained_hold m n k j (hs m) (resident_digest j x.0 x.1 x.2) in omega arith
    tally (Miss n j t) ok own m k = let a = gain_reading m n k j (rs m) in omega arith
    tally (Arrive n j d from) ok own m k =
        let x = there_is (λ y. reads n y && may_come_from from y) j s (both (is_number n) (entry_is (λ y. reads n y && may_come_from from y) j s) ok).1 in
        let r = both (reads n x.0) (may_come_from from x.0) x.2 in
        let a = gain m n k j d (hs m) in
        let c = loss_reading m n k j (rs m) (λ q. subst (λ (z : ℕ). 0 < readings_of j (rs z)) (sym q) (reading_listed n j x.0 (number_of_party n _ ok) (own j refl) x.1 r.0)) in omega arith
    tally (Fail n j at) ok own m k =
        let x = there_is (reads n) j s (both (is_number n) (entry_is (reads n) j s) ok).1 in
        let c = loss_reading m n k j (rs m) (λ q. subst (λ (z : ℕ). 0 < readings_of j (rs z)) (sym q) (reading_listed n j x.0 (number_of_party n _ ok) (own j refl) x.1 x.2)) in omega arith
    tally (Drop n j) ok own m k =
        let h = both (is_number n) (entry_is (holds n) j s) ok in
        let c = loss m n k j (hs m) (λ q. subst (λ (z : ℕ). 0 < holds_on j (hs z)) (sym q) (hold_listed n j (number_of_party n _ ok) (own j refl) h.1)) in omega arith
    tally (Release n j sole) ok own m k =
        let x = there_is (λ y. holds n y && agree sole (holds_of y == 1)) j s (both (is_number n) (entry_is (λ y. holds n y && agree sole (holds_of y == 1)) j s) ok).1 in
        let r = both (holds n x.0) (agree sole (holds_of x.0 == 1)) x.2 in
        let held : IsTrue (entry_is (holds n) j s) = ap (λ (o : Option Entry). option_map_or (holds n) o false) x.1 ∙ r.0 in
        let c = loss m n k j (hs m) (λ q. subst (λ (z : ℕ). 0 < holds_on j (hs z)) (sym q) (hold_listed n j (number_of_party n _ ok) (own j refl) held)) in omega arith
    tally (Insert n j d t) ok own m k = let a = gain m n k j d (hs m) in omega arith
    tally (Hand n j to) ok own m k =
        let h = both (is_cell to) (entry_is (holds n) j s) (both (is_number n) (is_cell to && entry_is (holds n) j s) ok).1 in
        let x = there_is (holds n) j s h.1 in
        let left : List Ptr = if m == n then without_hold j (hs m) else hs m in
        let c = loss m n k j (hs m) (λ q. subst (λ (z : ℕ). 0 < holds_on j (hs z)) (sym q) (hold_listed n j (number_of_party n _ ok) (own j refl) h.1)) in
        let a = gained_hold m to k j left (digest_there j x.0 n x.1 x.2) in omega arith
    tally (Pass n j owner) ok own m k = refl
    tally (Past n j kept) ok own m k = refl
    tally (Pick n j) ok own m k = refl
    tally (FeedEnd n) ok own m k = refl
    tally (Set n j place) ok own m k = refl
    tally (Leave n j why) ok own m k = refl
    tally (Clear n j) ok own m k = refl
    tally (Restore n j place d) ok own m k = refl
    tally (Resize n c) ok own m k = refl

    counts_after : (e : Event) → IsTrue (legal s e) → ((j : Key) → event_key e ≡ Some j → is_own j) → (m : ℕ) (k : Key) → m < numbers → is_own k
        → count_of m k (after s e) ≡ holds_on k (holds_after m s e (hs m)) + readings_of k (readings_after m e (rs m))
    counts_after e ok own m k below own_k = let c = counting s e m k sound ok below in let a = b.counts m k below own_k in let t = tally e ok own m k in omega arith

    -- ---- holds rest

    some_and : (o : Option Entry) (P : Entry → Type 0) → IsSomeAnd o P → (y : Entry) × (o ≡ Some y) × P y
    some_and None P h = absurd h
    some_and (Some y) P h = (y, refl, h)

    old_rests : (e : Event) → IsTrue (legal s e) → ((j : Key) → event_key e ≡ Some j → is_own j) → (m q r : ℕ) (h : Ptr) → m < numbers → is_own h.key → get_elem? (holds_after m s e (hs m)) q ≡ some h → get_elem? (hs m) r ≡ some h → Rests (after s e) h
    old_rests e ok own m q r h below own_k there was =
        let x = b.rests m r h below own_k was in
        let one = hold_counts (hs m) r h was in
        let a = b.counts m h.key below own_k in
        let c = count_is m h.key x.entry x.there in
        let held : IsTrue (holds m x.entry) = and_true (is_at_rest x.entry) (not (held_by m x.entry == 0)) (ap not x.rest) (zero_not (held_by m x.entry) (omega arith)) in
        let then_one = hold_counts (holds_after m s e (hs m)) q h there in
        let d = counts_after e ok own m h.key below own_k in
        let kept = some_and (entry_of h.key (after s e)) (λ y. IsTrue (is_resident y) × (y.digest ≡ x.entry.digest)) (held-kept s e h.key x.entry m m sound ok x.there held (omega arith)) in
        record { entry = kept.0; there = kept.1; rest = at_rest kept.0.reading (both (is_cached kept.0.state) (is_at_rest kept.0) kept.2.0).1; digest = kept.2.1 ∙ x.digest }

    -- an entry that has the digest
    digest_entry : (k : Key) (d : Digest) → digest_at k s ≡ Some d → (x : Entry) × (entry_of k s ≡ Some x) × (x.digest ≡ Some d)
    digest_entry k d e = ⊎_elim
        (λ q. absurd (none-some d (sym (ap (option_and_then (λ (y : Entry). y.digest)) q) ∙ e)))
        (λ x. (x.0, x.1, sym (ap (option_and_then (λ (y : Entry). y.digest)) x.1) ∙ e))
        (option_case (entry_of k s))

    new_rests : (e : Event) → IsTrue (legal s e) → (h : Ptr) → IsNew s e h → Rests (after s e) h
    new_rests (Hit n j t) ok h new =
        let x = digest_entry j h.digest new.1 in
        let y = there_is is_resident j s (both (is_number n) (entry_is is_resident j s) ok).1 in
        let same : y.0 ≡ x.0 = some_is y.0 x.0 (sym y.1 ∙ x.1) in
        let rest : x.0.reading ≡ false = ap (λ (z : Entry). z.reading) (sym same) ∙ at_rest y.0.reading (both (is_cached y.0.state) (is_at_rest y.0) y.2).1 in
        let kept = accessed-keeps x.0.state s.mintime t x.0 in
        record {
          entry = hit_entry n s.mintime t x.0;
          there = ap (λ (z : Key). entry_of z (after s (Hit n j t))) (sym new.0) ∙ (own-entry s (Hit n j t) j sound ok refl ∙ ap (option_map (hit_entry n s.mintime t)) x.1);
          rest = kept.reading ∙ rest;
          digest = kept.digest ∙ x.2;
        }
    new_rests (Arrive n j d from) ok h new =
        let x = there_is (λ y. reads n y && may_come_from from y) j s (both (is_number n) (entry_is (λ y. reads n y && may_come_from from y) j s) ok).1 in
        record {
          entry = arrived d x.0;
          there = ap (λ (z : Key). entry_of z (after s (Arrive n j d from))) (sym new.0) ∙ (own-entry s (Arrive n j d from) j sound ok refl ∙ ap (option_map (arrived d)) x.1);
          rest = refl;
          digest = ap Some new.1;
        }
    new_rests (Insert n j d t) ok h new = record {
      entry = written_entry n j d t;
      there = ap (λ (z : Key). entry_of z (after s (Insert n j d t))) (sym new.0) ∙ own-entry s (Insert n j d t) j sound ok refl;
      rest = refl;
      digest = ap Some new.1;
    }
    new_rests (Hand n j to) ok h new =
        let x = digest_entry j h.digest new.1 in
        let y = there_is (holds n) j s (both (is_cell to) (entry_is (holds n) j s) (both (is_number n) (is_cell to && entry_is (holds n) j s) ok).1).1 in
        let same : y.0 ≡ x.0 = some_is y.0 x.0 (sym y.1 ∙ x.1) in
        record {
          entry = handed n to x.0;
          there = ap (λ (z : Key). entry_of z (after s (Hand n j to))) (sym new.0) ∙ (own-entry s (Hand n j to) j sound ok refl ∙ ap (option_map (handed n to)) x.1);
          rest = ap (λ (z : Entry). z.reading) (sym same) ∙ at_rest y.0.reading (both (is_at_rest y.0) (not (held_by n y.0 == 0)) y.2).0;
          digest = x.2;
        }
    new_rests (Pass n j owner) ok h new = absurd new
    new_rests (Miss n j t) ok h new = absurd new
    new_rests (Fail n j at) ok h new = absurd new
    new_rests (Drop n j) ok h new = absurd new
    new_rests (Release n j sole) ok h new = absurd new
    new_rests (Past n j kept) ok h new = absurd new
    new_rests (Pick n j) ok h new = absurd new
    new_rests (FeedEnd n) ok h new = absurd new
    new_rests (Set n j place) ok h new = absurd new
    new_rests (Leave n j why) ok h new = absurd new
    new_rests (Clear n j) ok h new = absurd new
    new_rests (Restore n j place d) ok h new = absurd new
    new_rests (Resize n c) ok h new = absurd new

    rests_after : (e : Event) → IsTrue (legal s e) → ((j : Key) → event_key e ≡ Some j → is_own j) → (m q : ℕ) (h : Ptr) → m < numbers → is_own h.key → get_elem? (holds_after m s e (hs m)) q ≡ some h → Rests (after s e) h
    rests_after e ok own m q h below own_k there = ⊎_elim (new_rests e ok h) (λ r. old_rests e ok own m q r.0 h below own_k there r.1) (new_or_old m s e (hs m) q h there)

    -- ---- readings go on

    abbrev NewReading : Event → Key → Type 0
    NewReading (Miss n j t) k = j ≡ k
    NewReading _ k = ⊥

    abbrev BegunOrOld : Event → List Key → Key → Type 0
    BegunOrOld e ks k = NewReading e k ⊎ ((r : ℕ) × (get_elem? ks r ≡ some k))

    begun_or_old : (m : ℕ) (e : Event) (ks : List Key) (q : ℕ) (k : Key) → get_elem? (readings_after m e ks) q ≡ some k → BegunOrOld e ks k
    begun_or_old m (Miss n j t) ks q k = choose (m == n) (λ (l : List Key). get_elem? l q ≡ some k → BegunOrOld (Miss n j t) ks k) (j ∷ ks) ks (λ e. begun_reading j ks q k e) (λ e. inr (q, e))
    begun_or_old m (Arrive n j d from) ks q k = choose (m == n) (λ (l : List Key). get_elem? l q ≡ some k → BegunOrOld (Arrive n j d from) ks k) (without_reading j ks) ks (λ e. inr (reading_without j ks q k e)) (λ e. inr (q, e))
    begun_or_old m (Fail n j at) ks q k = choose (m == n) (λ (l : List Key). get_elem? l q ≡ some k → BegunOrOld (Fail n j at) ks k) (without_reading j ks) ks (λ e. inr (reading_without j ks q k e)) (λ e. inr (q, e))
    begun_or_old m (Hit n j t) ks q k = λ e. inr (q, e)
    begun_or_old m (Drop n j) ks q k = λ e. inr (q, e)
    begun_or_old m (Release n j sole) ks q k = λ e. inr (q, e)
    begun_or_old m (Insert n j d t) ks q k = λ e. inr (q, e)
    begun_or_old m (Hand n j to) ks q k = λ e. inr (q, e)
    begun_or_old m (Pass n j owner) ks q k = λ e. inr (q, e)
    begun_or_old m (Past n j kept) ks q k = λ e. inr (q, e)
    begun_or_old m (Pick n j) ks q k = λ e. inr (q, e)
    begun_or_old m (FeedEnd n) ks q k = λ e. inr (q, e)
    begun_or_old m (Set n j place) ks q k = λ e. inr (q, e)
    begun_or_old m (Leave n j why) ks q k = λ e. inr (q, e)
    begun_or_old m (Clear n j) ks q k = λ e. inr (q, e)
    begun_or_old m (Restore n j place d) ks q k = λ e. inr (q, e)
    begun_or_old m (Resize n c) ks q k = λ e. inr (q, e)

    new_reads : (e : Event) → IsTrue (legal s e) → (k : Key) → NewReading e k → IsRead (after s e) k
    new_reads (Miss n j t) ok k new = record { entry = entry_to_read n j t (entry_of j s); there = ap (λ (z : Key). entry_of z (after s (Miss n j t))) (sym new) ∙ own-entry s (Miss n j t) j sound ok refl; reading = refl }
    new_reads (Hit n j t) ok k new = absurd new
    new_reads (Arrive n j d from) ok k new = absurd new
    new_reads (Fail n j at) ok k new = absurd new
    new_reads (Drop n j) ok k new = absurd new
    new_reads (Release n j sole) ok k new = absurd new
    new_reads (Insert n j d t) ok k new = absurd new
    new_reads (Hand n j to) ok k new = absurd new
    new_reads (Pass n j owner) ok k new = absurd new
    new_reads (Past n j kept) ok k new = absurd new
    new_reads (Pick n j) ok k new = absurd new
    new_reads (FeedEnd n) ok k new = absurd new
    new_reads (Set n j place) ok k new = absurd new
    new_reads (Leave n j why) ok k new = absurd new
    new_reads (Clear n j) ok k new = absurd new
    new_reads (Restore n j place d) ok k new = absurd new
    new_reads (Resize n c) ok k new = absurd new

    -- a test that only an entry at rest passes isn't passed by one that is being read
    clash : (test : Entry → Bool) (k : Key) (x : Entry) → entry_of k s ≡ Some x → x.reading ≡ true → ((y : Entry) → IsTrue (test y) → y.reading ≡ false) → IsTrue (entry_is test k s) → ⊥
    clash test k x e reading rests ok = let y = there_is test k s ok in let same : y.0 ≡ x = some_is y.0 x (sym y.1 ∙ e) in
        let f : false ≡ true = sym (rests y.0 y.2) ∙ (ap (λ (z : Entry). z.reading) same ∙ reading) in absurd (cc)

    -- an entry of a state without bytes is at rest
    bare_rests : (x : Entry) (state : State) → IsTrue (is_without_bytes state) → IsTrue (fits_state state x) → x.reading ≡ false
    bare_rests x MruGhost h fits = at_rest x.reading (both (is_at_rest x) (is_unheld x && is_some x.digest) fits).0
    bare_rests x MfuGhost h fits = at_rest x.reading (both (is_at_rest x) (is_unheld x && is_some x.digest) fits).0
    bare_rests x L2Only h fits = at_rest x.reading (both (is_at_rest x) (is_unheld x && is_some x.place) fits).0
    bare_rests x Anon h fits = absurd (cc)
    bare_rests x Mru h fits = absurd (cc)
    bare_rests x Mfu h fits = absurd (cc)

    module _ (k : Key) (x : Entry) (e : entry_of k s ≡ Some x) (reading : x.reading ≡ true) where
      key_is : (j : Key) → ◌≡◌ {A = Option Key} (Some j) (Some k) → j ≡ k
      key_is j q = cc

      -- the entry is as it was, or in it only the place changed
      as_was : (v : Event) → entry_of k (after s v) ≡ entry_of k s → IsRead (after s v) k
      as_was v same = record { entry = x; there = same ∙ e; reading = reading }

      -- an entry that is being read has one hold in all
      one_hold_in_all : sum x.holds ≡ 1
      one_hold_in_all = let fits = entry_sound k s.entries x sound.tidy.entries e in
          is_one (holds_of x) (both (holds_of x == 1) (is_none x.digest) (either_of (is_at_rest x) (holds_of x == 1 && is_none x.digest) (ap not reading) fits.reading)).0
        where
          is_one : (n : ℕ) → IsTrue (n == 1) → n ≡ 1
          is_one n h = grind (arith, nat_tests)

      -- it is not missing, and not new here
      not_missing : (n t : ℕ) → ¬ IsTrue (is_missing k s)
      not_missing n t h = let fits = entry_sound k s.entries x sound.tidy.entries e in
          let bare : IsTrue (is_without_bytes x.state) = ap (λ (o : Option Entry). option_map_or (λ (y : Entry). is_without_bytes y.state) o true) (sym e) ∙ h in
          let f : true ≡ false = sym reading ∙ bare_rests x x.state bare fits.state in absurd (cc)

      not_l2 : is_same_state x.state L2Only ≡ true → ⊥
      not_l2 h = let fits = entry_sound k s.entries x sound.tidy.entries e in go x.state h fits.state
        where
          go : (state : State) → is_same_state state L2Only ≡ true → IsTrue (fits_state state x) → ⊥
          go L2Only q fits = let f : true ≡ false = sym reading ∙ bare_rests x L2Only refl fits in absurd (cc)
          go Anon q fits = absurd (cc)
          go Mru q fits = absurd (cc)
          go MruGhost q fits = absurd (cc)
          go Mfu q fits = absurd (cc)
          go MfuGhost q fits = absurd (cc)

      own_read : (v : Event) → IsTrue (legal s v) → event_key v ≡ Some k → ((m q : ℕ) → m < numbers → is_own k → get_elem? (readings_after m v (rs m)) q ≡ some k → IsRead (after s v) k)
      own_read (Pass n j owner) ok q m r below own there = as_was (Pass n j owner) (own-entry s (Pass n j owner) k sound ok q)
      own_read (Pick n j) ok q m r below own there = as_was (Pick n j) (own-entry s (Pick n j) k sound ok q)
      own_read (Leave n j why) ok q m r below own there = as_was (Leave n j why) (own-entry s (Leave n j why) k sound ok q)
      own_read (Past n j kept) ok q m r below own there = as_was (Past n j kept) (own-entry s (Past n j kept) k sound ok q)
      own_read (Hit n j t) ok q m r below own there = absurd (clash is_resident k x e reading (λ y h. at_rest y.reading (both (is_cached y.state) (is_at_rest y) h).1)
          (subst (λ (z : Key). IsTrue (entry_is is_resident z s)) (key_is j q) (both (is_number n) (entry_is is_resident j s) ok).1))
      own_read (Drop n j) ok q m r below own there = absurd (clash (holds n) k x e reading (λ y h. at_rest y.reading (both (is_at_rest y) (not (held_by n y == 0)) h).0)
          (subst (λ (z : Key). IsTrue (entry_is (holds n) z s)) (key_is j q) (both (is_number n) (entry_is (holds n) j s) ok).1))
      own_read (Release n j sole) ok q m r below own there = absurd (clash (λ y. holds n y && agree sole (holds_of y == 1)) k x e reading
          (λ y h. at_rest y.reading (both (is_at_rest y) (not (held_by n y == 0)) (both (holds n y) (agree sole (holds_of y == 1)) h).0).0)
          (subst (λ (z : Key). IsTrue (entry_is (λ y. holds n y && agree sole (holds_of y == 1)) z s)) (key_is j q) (both (is_number n) (entry_is (λ y. holds n y && agree sole (holds_of y == 1)) j s) ok).1))
      own_read (Hand n j to) ok q m r below own there = absurd (clash (holds n) k x e reading (λ y h. at_rest y.reading (both (is_at_rest y) (not (held_by n y == 0)) h).0)
          (subst (λ (z : Key). IsTrue (entry_is (holds n) z s)) (key_is j q) (both (is_cell to) (entry_is (holds n) j s) (both (is_number n) (is_cell to && entry_is (holds n) j s) ok).1).1))
      own_read (Miss n j t) ok q m r below own there = absurd (not_missing n t (subst (λ (z : Key). IsTrue (is_missing z s)) (key_is j q) (both (is_well_formed j) (is_missing j s) (both (is_number n) (is_well_formed j && is_missing j s) ok).1).1))
      own_read (Insert n j d t) ok q m r below own there = absurd (not_l2
          (ap (λ (o : Option Entry). option_map_or (λ (y : Entry). is_same_state y.state L2Only) o true) (sym e) ∙ subst (λ (z : Key). IsTrue (is_new_here z s)) (key_is j q) (both (is_well_formed j) (is_new_here j s) (both (is_cell n) (is_well_formed j && is_new_here j s) ok).1).1))
      own_read (Restore n j place d) ok q m r below own there =
          let h : IsTrue (is_absent k s) = subst (λ (z : Key). IsTrue (is_absent z s)) (key_is j q) (both (is_well_formed j) (is_absent j s) (both (is_number n) (is_well_formed j && is_absent j s) ok).1).1 in
          let f : false ≡ true = ap (λ (o : Option Entry). not (is_some o)) (sym e) ∙ h in absurd (cc)
      own_read (Clear n j) ok q m r below own there = cleared (is_same_state x.state L2Only) refl
        where
          now : entry_of k (after s (Clear n j)) ≡ without_place x
          now = own-entry s (Clear n j) k sound ok q ∙ ap (option_and_then without_place) e

          cleared : (c : Bool) → is_same_state x.state L2Only ≡ c → IsRead (after s (Clear n j)) k
          cleared true h = absurd (not_l2 h)
          cleared false h = record { entry = record x { place = None }; there = now ∙ ap (λ (c : Bool). if c then None else Some (record x { place = None })) h; reading = reading }
      own_read (Set n j place) ok q m r below own there = absurd (set_clash (pick_of k s.picked) refl)
        where
          may : IsTrue (may_set k s)
          may = subst (λ (z : Key). IsTrue (may_set z s)) (key_is j q) (both (is_writing s.phase) (may_set j s) (both (is_number n) (is_writing s.phase && may_set j s) ok).1).1

          set_clash : (o : Option Picked) → pick_of k s.picked ≡ o → ⊥
          set_clash None f = let g : false ≡ true = sym (ap (λ (z : Option Picked). option_map_or (λ (pick : Picked). entry_is (may_be_placed pick) k s) z false) f) ∙ may in absurd (cc)
          set_clash (Some pick) f = clash (may_be_placed pick) k x e reading
              (λ y h. at_rest y.reading (both (is_at_rest y) (same_digest y.digest pick.digest && is_none y.place) (both (is_cached y.state || is_ghost y.state) (is_at_rest y && (same_digest y.digest pick.digest && is_none y.place)) h).1).0)
              (sym (ap (λ (z : Option Picked). option_map_or (λ (pick : Picked). entry_is (may_be_placed pick) k s) z false) f) ∙ may)
      own_read (FeedEnd n) ok q m r below own there = absurd (none-some k q)
      own_read (Resize n c) ok q m r below own there = absurd (none-some k q)
      own_read (Fail n j at) ok q m r below own there =
          let c = counts_after (Fail n j at) ok (λ i f. subst is_own (sym (ap_key i f)) own) m k below own in
          let one = reading_counts (readings_after m (Fail n j at) (rs m)) r k there in
          let none : count_of m k (after s (Fail n j at)) ≡ 0 = ap (λ (o : Option Entry). option_map_or (held_by m) o 0) (own-entry s (Fail n j at) k sound ok q) in absurd (omega arith)
        where
          ap_key : (i : Key) → ◌≡◌ {A = Option Key} (Some j) (Some i) → i ≡ k
          ap_key i f = some_is i k (sym f ∙ q)
      own_read (Arrive n j d from) ok q m r below own there = absurd (dite (ℕ_discrete m n) same_number other_number)
        where
          ap_key : (i : Key) → ◌≡◌ {A = Option Key} (Some j) (Some i) → i ≡ k
          ap_key i f = some_is i k (sym f ∙ q)

          then_count : count_of m k (after s (Arrive n j d from)) ≡ holds_on k (holds_after m s (Arrive n j d from) (hs m)) + readings_of k (readings_after m (Arrive n j d from) (rs m))
          then_count = counts_after (Arrive n j d from) ok (λ i f. subst is_own (sym (ap_key i f)) own) m k below own

          now_count : count_of m k (after s (Arrive n j d from)) ≡ held_by m x
          now_count = let c = counting s (Arrive n j d from) m k sound ok below in let d' = count_is m k x e in omega arith

          one : 0 < readings_of k (readings_after m (Arrive n j d from) (rs m))
          one = reading_counts (readings_after m (Arrive n j d from) (rs m)) r k there

          all_one : sum x.holds ≡ 1
          all_one = one_hold_in_all

          same_number : m ≡ n → ⊥
          same_number is =
              let a = gain m n k j d (hs m) in
              let both_same : IsTrue ((m == n) && key_eq k j) = and_true (m == n) (key_eq k j) (eq-eqb m n is) (ap (λ (z : Key). key_eq z j) (sym (key_is j q)) ∙ key_eq-same j) in
              let f : hold_for n j m k ≡ 1 = ap flag both_same in
              let h = one_le x.holds m in let t = then_count in let c = now_count in let o = one in let w = all_one in omega arith

          other_number : m ≢ n → ⊥
          other_number far =
              let y = there_is (λ z. reads n z && may_come_from from z) j s (both (is_number n) (entry_is (λ z. reads n z && may_come_from from z) j s) ok).1 in
              let same : y.0 ≡ x = some_is y.0 x (sym y.1 ∙ (ap (λ (z : Key). entry_of z s) (key_is j q) ∙ e)) in
              let held : IsTrue (not (held_by n y.0 == 0)) = (both y.0.reading (not (held_by n y.0 == 0)) (both (reads n y.0) (may_come_from from y.0) y.2).0).1 in
              let some_hold : 0 < held_by n x = subst (λ (z : Entry). 0 < held_by n z) same (not_zero (held_by n y.0) held) in
              let h = two_le x.holds m n far in let t = then_count in let c = now_count in let o = one in let w = all_one in omega arith

    reads_after : (v : Event) → IsTrue (legal s v) → ((j : Key) → event_key v ≡ Some j → is_own j) → (m q : ℕ) (k : Key) → m < numbers → is_own k → get_elem? (readings_after m v (rs m)) q ≡ some k → IsRead (after s v) k
    reads_after v ok own m q k below own_k there = ⊎_elim (new_reads v ok k) (λ r. old r) (begun_or_old m v (rs m) q k there)
      where
        old : ((r : ℕ) × (get_elem? (rs m) r ≡ some k)) → IsRead (after s v) k
        old r = let x = b.reads m r.0 k below own_k r.1 in by_key (is_about k v) refl
          where
            of_key : (o : Option Key) → event_key v ≡ o → option_map_or (key_eq k) o false ≡ true → event_key v ≡ Some k
            of_key None f h = absurd (cc)
            of_key (Some j) f h = f ∙ ap Some (sym (key_eq-is k j h))

            by_key : (c : Bool) → is_about k v ≡ c → IsRead (after s v) k
            by_key true f = let x = b.reads m r.0 k below own_k r.1 in own_read k x.entry x.there x.reading v ok (of_key (event_key v) refl f) m q below own_k there
            by_key false f =
                let x = b.reads m r.0 k below own_k r.1 in
                let busy : is_free x.entry ≡ false = never (is_unheld x.entry) (is_at_rest x.entry) (ap not x.reading) in
                let spares = subst (λ (o : Option Entry). IsSpared o (entry_of k (after s v))) x.there (sparing s v k sound ok (ap not f)) in
                record { entry = x.entry; there = spared-held x.entry (entry_of k (after s v)) busy spares; reading = x.reading }
              where
                never : (a c : Bool) → c ≡ false → a && c ≡ false
                never true c h = h
                never false c h = refl

-- each event keeps the lists in agreement with the shard
pub booked_after : IsBookedAfter
booked_after is_own s v hs rs sound ok own b = record {
  counts = λ m k below own_k. counts_after s sound is_own hs rs b v ok own m k below own_k;
  rests = λ m q h below own_k there. rests_after s sound is_own hs rs b v ok own m q h below own_k there;
  reads = λ m q k below own_k there. reads_after s sound is_own hs rs b v ok own m q k below own_k there;
}
