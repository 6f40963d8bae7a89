-- What events do to the lists of holds and readings of a number, and that they go on to agree with the shard.
use Rattle.std.proofs.Common.{◌≡◌, ◌≢◌, ◌⊎◌, ◌==◌, if◌then◌else◌, ℕ, zero, suc, ◌+◌, List, [], ◌∷◌, Bool, true, false, cond, Option, Some, None, refl, sym, ap, ◌∙◌, subst, inl, inr, ⊎_elim, ne_eqb, arith}
use Rattle.std.specs.Prelude.{IsTrue, ◌&&◌}
use Rattle.std.proofs.lemmas.List.Sums.{sum_by-cons}
use mathlib.Core.Option.{some, some-injective, some-ne-none}
use lib.ListN.{get_elem?}
use Rattle.blk_ptr.specs.declared.key.Key.{Key}
use Rattle.blk_ptr.specs.declared.digest.Digest.{Digest}
use Rattle.blk_ptr.specs.declared.ptr.Ptr.{Ptr}
use Rattle.blk_ptr.specs.Order.{key_eq}
use Rattle.blk_ptr.proofs.Keys.{key_eq-is}
use Rattle.arc_core.specs.declared.event.Event.{Event}
use Rattle.arc_core.specs.declared.event.Event.TheVariants.{Pass, Hit, Miss, Arrive, Fail, Drop, Past, Hand, Insert, Release, Pick, FeedEnd, Set, Leave, Clear, Restore, Resize}
use Rattle.arc_core.specs.Keeps.{holds_on}
use Rattle.arc_core.specs.Operations.{event_key, number_of}
use Rattle.arc_core.specs.PlainShard.{PlainShard}
use Rattle.arc_core.specs.Replay.{is_legal_history, replay}
use Rattle.arc_core.specs.Sound.{IsSound}
use Rattle.arc_core.specs.Step.{after, legal}
use Rattle.arc_core.proofs.Soundness.{IsSound-after}
use Rattle.arc_table.specs.Booking.{AreBooked, IsBookedAfter, digest_at, holds_after, readings_after, with_hold, without_hold, without_reading}
use Rattle.arc_table.specs.pact.Counted.{readings_of}
use Rattle.arc_table.specs.ShardGiving.{holds_through, readings_through}

-- ---- a number that the events are not of

-- the event gives this number no hold
abbrev pub IsNotGiven : ℕ → Event → Type 0
IsNotGiven m (Hand n k to) = m ≢ to
IsNotGiven m _ = Unit {0}

skip : {A : Type 0} (m n : ℕ) (x y : A) → m ≢ n → (if m == n then x else y) ≡ y
skip m n x y h = subst (λ b. (if b then x else y) ≡ y) (sym (ne_eqb m n h)) refl

pub holds_else : (m : ℕ) (s : PlainShard) (e : Event) (hs : List Ptr) → m ≢ number_of e → IsNotGiven m e → holds_after m s e hs ≡ hs
holds_else m s (Hit n k t) hs h g = skip m n (with_hold k (digest_at k s) hs) hs h
holds_else m s (Arrive n k d from) hs h g = skip m n (with_hold k (Some d) hs) hs h
holds_else m s (Drop n k) hs h g = skip m n (without_hold k hs) hs h
holds_else m s (Release n k sole) hs h g = skip m n (without_hold k hs) hs h
holds_else m s (Insert n k d t) hs h g = skip m n (with_hold k (Some d) hs) hs h
holds_else m s (Hand n k to) hs h g = skip m to (with_hold k (digest_at k s) (if m == n then without_hold k hs else hs)) (if m == n then without_hold k hs else hs) g ∙ skip m n (without_hold k hs) hs h
holds_else m s (Pass n k owner) hs h g = refl
holds_else m s (Miss n k t) hs h g = refl
holds_else m s (Fail n k at) hs h g = refl
holds_else m s (Past n k kept) hs h g = refl
holds_else m s (Pick n k) hs h g = refl
holds_else m s (FeedEnd n) hs h g = refl
holds_else m s (Set n k place) hs h g = refl
holds_else m s (Leave n k why) hs h g = refl
holds_else m s (Clear n k) hs h g = refl
holds_else m s (Restore n k place d) hs h g = refl
holds_else m s (Resize n c) hs h g = refl

pub readings_else : (m : ℕ) (e : Event) (ks : List Key) → m ≢ number_of e → readings_after m e ks ≡ ks
readings_else m (Miss n k t) ks h = skip m n (k ∷ ks) ks h
readings_else m (Arrive n k d from) ks h = skip m n (without_reading k ks) ks h
readings_else m (Fail n k at) ks h = skip m n (without_reading k ks) ks h
readings_else m (Hit n k t) ks h = refl
readings_else m (Drop n k) ks h = refl
readings_else m (Release n k sole) ks h = refl
readings_else m (Insert n k d t) ks h = refl
readings_else m (Hand n k to) ks h = refl
readings_else m (Pass n k owner) ks h = refl
readings_else m (Past n k kept) ks h = refl
readings_else m (Pick n k) ks h = refl
readings_else m (FeedEnd n) ks h = refl
readings_else m (Set n k place) ks h = refl
readings_else m (Leave n k why) ks h = refl
readings_else m (Clear n k) ks h = refl
readings_else m (Restore n k place d) ks h = refl
readings_else m (Resize n c) ks h = refl

-- a number that reads nothing and begins no reading
abbrev pub IsNoMiss : ℕ → Event → Type 0
IsNoMiss m (Miss n k t) = m ≢ n
IsNoMiss m _ = Unit {0}

both : {A : Type 0} (b : Bool) (x : A) → (if b then x else x) ≡ x
both true x = refl
both false x = refl

pub readings_none : (m : ℕ) (e : Event) → IsNoMiss m e → readings_after m e [] ≡ []
readings_none m (Miss n k t) h = skip m n (k ∷ []) [] h
readings_none m (Arrive n k d from) h = both (m == n) []
readings_none m (Fail n k at) h = both (m == n) []
readings_none m (Hit n k t) h = refl
readings_none m (Drop n k) h = refl
readings_none m (Release n k sole) h = refl
readings_none m (Insert n k d t) h = refl
readings_none m (Hand n k to) h = refl
readings_none m (Pass n k owner) h = refl
readings_none m (Past n k kept) h = refl
readings_none m (Pick n k) h = refl
readings_none m (FeedEnd n) h = refl
readings_none m (Set n k place) h = refl
readings_none m (Leave n k why) h = refl
readings_none m (Clear n k) h = refl
readings_none m (Restore n k place d) h = refl
readings_none m (Resize n c) h = refl

-- over all events made
abbrev pub AllNotOf : ℕ → List Event → Type 0
AllNotOf m [] = Unit {0}
AllNotOf m (e ∷ es) = ((m ≢ number_of e) × IsNotGiven m e) × AllNotOf m es

pub holds_through_else : (m : ℕ) (s : PlainShard) (es : List Event) (hs : List Ptr) → AllNotOf m es → holds_through m s es hs ≡ hs
holds_through_else m s [] hs all = refl
holds_through_else m s (e ∷ es) hs all = holds_through_else m (after s e) es (holds_after m s e hs) all.1 ∙ holds_else m s e hs all.0.0 all.0.1

pub readings_through_else : (m : ℕ) (es : List Event) (ks : List Key) → AllNotOf m es → readings_through m es ks ≡ ks
readings_through_else m [] ks all = refl
readings_through_else m (e ∷ es) ks all = readings_through_else m es (readings_after m e ks) all.1 ∙ readings_else m e ks all.0.0

abbrev pub AllNoMiss : ℕ → List Event → Type 0
AllNoMiss m [] = Unit {0}
AllNoMiss m (e ∷ es) = IsNoMiss m e × AllNoMiss m es

pub readings_through_none : (m : ℕ) (es : List Event) → AllNoMiss m es → readings_through m es [] ≡ []
readings_through_none m [] all = refl
readings_through_none m (e ∷ es) all = ap (readings_through m es) (readings_none m e all.0) ∙ readings_through_none m es all.1

-- ---- keys that the events are not of

-- the event is of none of these keys
abbrev pub IsFar : Key → Event → Type 0
IsFar k e = (j : Key) → event_key e ≡ Some j → key_eq k j ≡ false

-- one more in a list that is counted
pub holds_cons : (k : Key) (x : Ptr) (hs : List Ptr) → holds_on k (x ∷ hs) ≡ cond (key_eq k x.key) 1 0 + holds_on k hs
holds_cons k x hs = sum_by-cons (λ (h : Ptr). cond (key_eq k h.key) 1 0) x hs

pub readings_cons : (k x : Key) (ks : List Key) → readings_of k (x ∷ ks) ≡ cond (key_eq k x) 1 0 + readings_of k ks
readings_cons k x ks = sum_by-cons (λ (j : Key). cond (key_eq k j) 1 0) x ks

nothing : (b : Bool) (n : ℕ) → b ≡ false → cond b 1 0 + n ≡ n
nothing b n h = subst (λ c. cond c 1 0 + n ≡ n) (sym h) (omega arith)

pub with_else : (k j : Key) (o : Option Digest) (hs : List Ptr) → key_eq k j ≡ false → holds_on k (with_hold j o hs) ≡ holds_on k hs
with_else k j None hs h = refl
with_else k j (Some d) hs h = holds_cons k record { key = j; digest = d } hs ∙ nothing (key_eq k j) (holds_on k hs) h

far_same : (k j i : Key) → key_eq j i ≡ true → key_eq k j ≡ false → key_eq k i ≡ false
far_same k j i e h = subst (λ (x : Key). key_eq k x ≡ false) (key_eq-is j i e) h

pub without_else : (k j : Key) (hs : List Ptr) → key_eq k j ≡ false → holds_on k (without_hold j hs) ≡ holds_on k hs
without_else k j [] h = refl
without_else k j (x ∷ hs) h = by_test (without_else k j hs h) (key_eq j x.key) refl
  where
    by_test : holds_on k (without_hold j hs) ≡ holds_on k hs → (b : Bool) → key_eq j x.key ≡ b → holds_on k (if b then hs else (x ∷ without_hold j hs)) ≡ holds_on k (x ∷ hs)
    by_test ih true e = let f = far_same k j x.key e h in sym (holds_cons k x hs ∙ nothing (key_eq k x.key) (holds_on k hs) f)
    by_test ih false e = holds_cons k x (without_hold j hs) ∙ (ap (λ n. cond (key_eq k x.key) 1 0 + n) ih ∙ sym (holds_cons k x hs))

pub reading_else : (k j : Key) (ks : List Key) → key_eq k j ≡ false → readings_of k (without_reading j ks) ≡ readings_of k ks
reading_else k j [] h = refl
reading_else k j (x ∷ ks) h = by_test (reading_else k j ks h) (key_eq j x) refl
  where
    by_test : readings_of k (without_reading j ks) ≡ readings_of k ks → (b : Bool) → key_eq j x ≡ b → readings_of k (if b then ks else (x ∷ without_reading j ks)) ≡ readings_of k (x ∷ ks)
    by_test ih true e = let f = far_same k j x e h in sym (readings_cons k x ks ∙ nothing (key_eq k x) (readings_of k ks) f)
    by_test ih false e = readings_cons k x (without_reading j ks) ∙ (ap (λ n. cond (key_eq k x) 1 0 + n) ih ∙ sym (readings_cons k x ks))

choose : {A : Type 0} (b : Bool) (f : A → ℕ) (x y : A) (n : ℕ) → f x ≡ n → f y ≡ n → f (if b then x else y) ≡ n
choose true f x y n p q = p
choose false f x y n p q = q

pub holds_far : (m : ℕ) (s : PlainShard) (e : Event) (k : Key) (hs : List Ptr) → IsFar k e → holds_on k (holds_after m s e hs) ≡ holds_on k hs
holds_far m s (Hit n j t) k hs h = choose (m == n) (holds_on k) (with_hold j (digest_at j s) hs) hs (holds_on k hs) (with_else k j (digest_at j s) hs (h j refl)) refl
holds_far m s (Arrive n j d from) k hs h = choose (m == n) (holds_on k) (with_hold j (Some d) hs) hs (holds_on k hs) (with_else k j (Some d) hs (h j refl)) refl
holds_far m s (Drop n j) k hs h = choose (m == n) (holds_on k) (without_hold j hs) hs (holds_on k hs) (without_else k j hs (h j refl)) refl
holds_far m s (Release n j sole) k hs h = choose (m == n) (holds_on k) (without_hold j hs) hs (holds_on k hs) (without_else k j hs (h j refl)) refl
holds_far m s (Insert n j d t) k hs h = choose (m == n) (holds_on k) (with_hold j (Some d) hs) hs (holds_on k hs) (with_else k j (Some d) hs (h j refl)) refl
holds_far m s (Hand n j to) k hs h =
    let left : List Ptr = if m == n then without_hold j hs else hs in
    let l : holds_on k left ≡ holds_on k hs = choose (m == n) (holds_on k) (without_hold j hs) hs (holds_on k hs) (without_else k j hs (h j refl)) refl in
    choose (m == to) (holds_on k) (with_hold j (digest_at j s) left) left (holds_on k hs) (with_else k j (digest_at j s) left (h j refl) ∙ l) l
holds_far m s (Pass n j owner) k hs h = refl
holds_far m s (Miss n j t) k hs h = refl
holds_far m s (Fail n j at) k hs h = refl
holds_far m s (Past n j kept) k hs h = refl
holds_far m s (Pick n j) k hs h = refl
holds_far m s (FeedEnd n) k hs h = refl
holds_far m s (Set n j place) k hs h = refl
holds_far m s (Leave n j why) k hs h = refl
holds_far m s (Clear n j) k hs h = refl
holds_far m s (Restore n j place d) k hs h = refl
holds_far m s (Resize n c) k hs h = refl

pub readings_far : (m : ℕ) (e : Event) (k : Key) (ks : List Key) → IsFar k e → readings_of k (readings_after m e ks) ≡ readings_of k ks
readings_far m (Miss n j t) k ks h = choose (m == n) (readings_of k) (j ∷ ks) ks (readings_of k ks) (readings_cons k j ks ∙ nothing (key_eq k j) (readings_of k ks) (h j refl)) refl
readings_far m (Arrive n j d from) k ks h = choose (m == n) (readings_of k) (without_reading j ks) ks (readings_of k ks) (reading_else k j ks (h j refl)) refl
readings_far m (Fail n j at) k ks h = choose (m == n) (readings_of k) (without_reading j ks) ks (readings_of k ks) (reading_else k j ks (h j refl)) refl
readings_far m (Hit n j t) k ks h = refl
readings_far m (Drop n j) k ks h = refl
readings_far m (Release n j sole) k ks h = refl
readings_far m (Insert n j d t) k ks h = refl
readings_far m (Hand n j to) k ks h = refl
readings_far m (Pass n j owner) k ks h = refl
readings_far m (Past n j kept) k ks h = refl
readings_far m (Pick n j) k ks h = refl
readings_far m (FeedEnd n) k ks h = refl
readings_far m (Set n j place) k ks h = refl
readings_far m (Leave n j why) k ks h = refl
readings_far m (Clear n j) k ks h = refl
readings_far m (Restore n j place d) k ks h = refl
readings_far m (Resize n c) k ks h = refl

abbrev pub AllFar : Key → List Event → Type 0
AllFar k [] = Unit {0}
AllFar k (e ∷ es) = IsFar k e × AllFar k es

pub holds_through_far : (m : ℕ) (s : PlainShard) (es : List Event) (k : Key) (hs : List Ptr) → AllFar k es → holds_on k (holds_through m s es hs) ≡ holds_on k hs
holds_through_far m s [] k hs all = refl
holds_through_far m s (e ∷ es) k hs all = holds_through_far m (after s e) es k (holds_after m s e hs) all.1 ∙ holds_far m s e k hs all.0

pub readings_through_far : (m : ℕ) (es : List Event) (k : Key) (ks : List Key) → AllFar k es → readings_of k (readings_through m es ks) ≡ readings_of k ks
readings_through_far m [] k ks all = refl
readings_through_far m (e ∷ es) k ks all = readings_through_far m es k (readings_after m e ks) all.1 ∙ readings_far m e k ks all.0

-- ---- where the holds and the readings come from

-- it is of an event's key, or was there before
abbrev pub ComesOf : Event → List Ptr → Ptr → Type 0
ComesOf e hs h = (event_key e ≡ Some h.key) ⊎ ((q : ℕ) × (get_elem? hs q ≡ some h))

abbrev pub ReadOf : Event → List Key → Key → Type 0
ReadOf e ks k = (event_key e ≡ Some k) ⊎ ((q : ℕ) × (get_elem? ks q ≡ some k))

from_with : (j : Key) (o : Option Digest) (hs : List Ptr) (q : ℕ) (h : Ptr) → get_elem? (with_hold j o hs) q ≡ some h → (j ≡ h.key) ⊎ ((r : ℕ) × (get_elem? hs r ≡ some h))
from_with j None hs q h e = inr (q, e)
from_with j (Some d) hs zero h e = inl (ap (λ (x : Ptr). x.key) (some-injective record { key = j; digest = d } h e))
from_with j (Some d) hs (suc q) h e = inr (q, e)

pub from_without : (j : Key) (hs : List Ptr) (q : ℕ) (h : Ptr) → get_elem? (without_hold j hs) q ≡ some h → (r : ℕ) × (get_elem? hs r ≡ some h)
from_without j [] q h e = absurd (some-ne-none h (sym e))
from_without j (x ∷ hs) q h e = by_test (λ r f. from_without j hs r h f) (key_eq j x.key) q e
  where
    by_test : ((r : ℕ) → get_elem? (without_hold j hs) r ≡ some h → (t : ℕ) × (get_elem? hs t ≡ some h)) → (b : Bool) (q : ℕ) → get_elem? (if b then hs else (x ∷ without_hold j hs)) q ≡ some h → (r : ℕ) × (get_elem? (x ∷ hs) r ≡ some h)
    by_test ih true q f = (suc q, f)
    by_test ih false zero f = (0, f)
    by_test ih false (suc q) f = let r = ih q f in (suc r.0, r.1)

pub reading_without : (j : Key) (ks : List Key) (q : ℕ) (k : Key) → get_elem? (without_reading j ks) q ≡ some k → (r : ℕ) × (get_elem? ks r ≡ some k)
reading_without j [] q k e = absurd (some-ne-none k (sym e))
reading_without j (x ∷ ks) q k e = by_test (λ r f. reading_without j ks r k f) (key_eq j x) q e
  where
    by_test : ((r : ℕ) → get_elem? (without_reading j ks) r ≡ some k → (t : ℕ) × (get_elem? ks t ≡ some k)) → (b : Bool) (q : ℕ) → get_elem? (if b then ks else (x ∷ without_reading j ks)) q ≡ some k → (r : ℕ) × (get_elem? (x ∷ ks) r ≡ some k)
    by_test ih true q f = (suc q, f)
    by_test ih false zero f = (0, f)
    by_test ih false (suc q) f = let r = ih q f in (suc r.0, r.1)

there_both : {A : Type 0} (b : Bool) (P : A → Type 0) (x y : A) → P x → P y → P (if b then x else y)
there_both true P x y p q = p
there_both false P x y p q = q

pub holds_come : (m : ℕ) (s : PlainShard) (e : Event) (hs : List Ptr) (q : ℕ) (h : Ptr) → get_elem? (holds_after m s e hs) q ≡ some h → ComesOf e hs h
holds_come m s (Hit n k t) hs q h = there_both (m == n) (λ (l : List Ptr). get_elem? l q ≡ some h → ComesOf (Hit n k t) hs h) (with_hold k (digest_at k s) hs) hs (λ e. ⊎_elim (λ p. inl (ap Some p)) inr (from_with k (digest_at k s) hs q h e)) (λ e. inr (q, e))
holds_come m s (Arrive n k d from) hs q h = there_both (m == n) (λ (l : List Ptr). get_elem? l q ≡ some h → ComesOf (Arrive n k d from) hs h) (with_hold k (Some d) hs) hs (λ e. ⊎_elim (λ p. inl (ap Some p)) inr (from_with k (Some d) hs q h e)) (λ e. inr (q, e))
holds_come m s (Insert n k d t) hs q h = there_both (m == n) (λ (l : List Ptr). get_elem? l q ≡ some h → ComesOf (Insert n k d t) hs h) (with_hold k (Some d) hs) hs (λ e. ⊎_elim (λ p. inl (ap Some p)) inr (from_with k (Some d) hs q h e)) (λ e. inr (q, e))
holds_come m s (Drop n k) hs q h = there_both (m == n) (λ (l : List Ptr). get_elem? l q ≡ some h → ComesOf (Drop n k) hs h) (without_hold k hs) hs (λ e. inr (from_without k hs q h e)) (λ e. inr (q, e))
holds_come m s (Release n k sole) hs q h = there_both (m == n) (λ (l : List Ptr). get_elem? l q ≡ some h → ComesOf (Release n k sole) hs h) (without_hold k hs) hs (λ e. inr (from_without k hs q h e)) (λ e. inr (q, e))
holds_come m s (Hand n k to) hs q h =
    let left : List Ptr = if m == n then without_hold k hs else hs in
    let was : (r : ℕ) → get_elem? left r ≡ some h → (t : ℕ) × (get_elem? hs t ≡ some h) = λ r. there_both (m == n) (λ (l : List Ptr). get_elem? l r ≡ some h → (t : ℕ) × (get_elem? hs t ≡ some h)) (without_hold k hs) hs (λ e. from_without k hs r h e) (λ e. (r, e)) in
    there_both (m == to) (λ (l : List Ptr). get_elem? l q ≡ some h → ComesOf (Hand n k to) hs h) (with_hold k (digest_at k s) left) left
    (λ e. ⊎_elim (λ p. inl (ap Some p)) (λ r. inr (was r.0 r.1)) (from_with k (digest_at k s) left q h e)) (λ e. inr (was q e))
holds_come m s (Pass n k owner) hs q h = λ e. inr (q, e)
holds_come m s (Miss n k t) hs q h = λ e. inr (q, e)
holds_come m s (Fail n k at) hs q h = λ e. inr (q, e)
holds_come m s (Past n k kept) hs q h = λ e. inr (q, e)
holds_come m s (Pick n k) hs q h = λ e. inr (q, e)
holds_come m s (FeedEnd n) hs q h = λ e. inr (q, e)
holds_come m s (Set n k place) hs q h = λ e. inr (q, e)
holds_come m s (Leave n k why) hs q h = λ e. inr (q, e)
holds_come m s (Clear n k) hs q h = λ e. inr (q, e)
holds_come m s (Restore n k place d) hs q h = λ e. inr (q, e)
holds_come m s (Resize n c) hs q h = λ e. inr (q, e)

pub begun_reading : (j : Key) (ks : List Key) (q : ℕ) (k : Key) → get_elem? (j ∷ ks) q ≡ some k → (j ≡ k) ⊎ ((r : ℕ) × (get_elem? ks r ≡ some k))
begun_reading j ks zero k e = inl (some-injective j k e)
begun_reading j ks (suc q) k e = inr (q, e)

pub readings_come : (m : ℕ) (e : Event) (ks : List Key) (q : ℕ) (k : Key) → get_elem? (readings_after m e ks) q ≡ some k → ReadOf e ks k
readings_come m (Miss n j t) ks q k = there_both (m == n) (λ (l : List Key). get_elem? l q ≡ some k → ReadOf (Miss n j t) ks k) (j ∷ ks) ks (λ e. ⊎_elim (λ p. inl (ap Some p)) inr (begun_reading j ks q k e)) (λ e. inr (q, e))
readings_come m (Arrive n j d from) ks q k = there_both (m == n) (λ (l : List Key). get_elem? l q ≡ some k → ReadOf (Arrive n j d from) ks k) (without_reading j ks) ks (λ e. inr (reading_without j ks q k e)) (λ e. inr (q, e))
readings_come m (Fail n j at) ks q k = there_both (m == n) (λ (l : List Key). get_elem? l q ≡ some k → ReadOf (Fail n j at) ks k) (without_reading j ks) ks (λ e. inr (reading_without j ks q k e)) (λ e. inr (q, e))
readings_come m (Hit n j t) ks q k = λ e. inr (q, e)
readings_come m (Drop n j) ks q k = λ e. inr (q, e)
readings_come m (Release n j sole) ks q k = λ e. inr (q, e)
readings_come m (Insert n j d t) ks q k = λ e. inr (q, e)
readings_come m (Hand n j to) ks q k = λ e. inr (q, e)
readings_come m (Pass n j owner) ks q k = λ e. inr (q, e)
readings_come m (Past n j kept) ks q k = λ e. inr (q, e)
readings_come m (Pick n j) ks q k = λ e. inr (q, e)
readings_come m (FeedEnd n) ks q k = λ e. inr (q, e)
readings_come m (Set n j place) ks q k = λ e. inr (q, e)
readings_come m (Leave n j why) ks q k = λ e. inr (q, e)
readings_come m (Clear n j) ks q k = λ e. inr (q, e)
readings_come m (Restore n j place d) ks q k = λ e. inr (q, e)
readings_come m (Resize n c) ks q k = λ e. inr (q, e)

-- all of these events are of keys that meet P
abbrev pub AllOwn : (Key → Type 0) → List Event → Type 0
AllOwn P [] = Unit {0}
AllOwn P (e ∷ es) = ((k : Key) → event_key e ≡ Some k → P k) × AllOwn P es

pub holds_through_come : (P : Key → Type 0) (m : ℕ) (s : PlainShard) (es : List Event) (hs : List Ptr) (q : ℕ) (h : Ptr) → AllOwn P es → get_elem? (holds_through m s es hs) q ≡ some h → P h.key ⊎ ((r : ℕ) × (get_elem? hs r ≡ some h))
holds_through_come P m s [] hs q h all e = inr (q, e)
holds_through_come P m s (x ∷ es) hs q h all e = ⊎_elim inl (λ r. ⊎_elim (λ f. inl (all.0 h.key f)) inr (holds_come m s x hs r.0 h r.1)) (holds_through_come P m (after s x) es (holds_after m s x hs) q h all.1 e)

pub readings_through_come : (P : Key → Type 0) (m : ℕ) (es : List Event) (ks : List Key) (q : ℕ) (k : Key) → AllOwn P es → get_elem? (readings_through m es ks) q ≡ some k → P k ⊎ ((r : ℕ) × (get_elem? ks r ≡ some k))
readings_through_come P m [] ks q k all e = inr (q, e)
readings_through_come P m (x ∷ es) ks q k all e = ⊎_elim inl (λ r. ⊎_elim (λ f. inl (all.0 k f)) inr (readings_come m x ks r.0 k r.1)) (readings_through_come P m es (readings_after m x ks) q k all.1 e)

-- ---- all events made keep the lists in agreement with the shard

pub booked_through : IsBookedAfter → (P : Key → Type 0) (s : PlainShard) (es : List Event) (holds : ℕ → List Ptr) (readings : ℕ → List Key) → IsSound s → IsTrue (is_legal_history s es) → AllOwn P es
    → AreBooked P s holds readings → AreBooked P (replay s es) (λ m. holds_through m s es (holds m)) (λ m. readings_through m es (readings m))
booked_through law P s [] holds readings sound legal_all all b = b
booked_through law P s (e ∷ es) holds readings sound legal_all all b =
    let here = both_true (legal s e) (is_legal_history (after s e) es) legal_all in
    booked_through law P (after s e) es (λ m. holds_after m s e (holds m)) (λ m. readings_after m e (readings m)) (IsSound-after s e sound here.0) here.1 all.1 (law P s e holds readings sound here.0 all.0 b)
  where
    both_true : (a b : Bool) → IsTrue (a && b) → IsTrue a × IsTrue b
    both_true true b h = (refl, h)
    both_true false b h = absurd (cc)
