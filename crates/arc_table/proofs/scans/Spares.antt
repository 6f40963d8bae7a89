-- The headers of keys that an event evicted or dropped say what their entries do, one after the other.
use Rattle.std.proofs.Common.{◌≡◌, ◌≢◌, ◌⊎◌, ◌==◌, if◌then◌else◌, ℕ, suc, ◌+◌, ◌<◌, List, [], ◌∷◌, length, set, get_or, Bool, true, false, cond, Option, Some, None, refl, sym, ap, ◌∙◌, subst, inl, inr, ⊎_elim, eq-eqb, ne_eqb, arith}
use Rattle.std.specs.Prelude.{IsTrue, IsSome, is_some, ◌&&◌, ◌||◌}
use Rattle.std.specs.Option.{option_map}
use Rattle.std.specs.List.{position_from}
use Rattle.std.proofs.lemmas.Option.{none-some}
use mathlib.Core.Logic.{dite}
use native.Mathlib.Decide.{ℕ_discrete}
use Rattle.blk_ptr.specs.declared.key.Key.{Key}
use Rattle.blk_ptr.specs.Order.{key_eq}
use Rattle.blk_ptr.specs.State.{is_cached}
use Rattle.blk_ptr.proofs.Keys.{key_eq-is}
use Rattle.arc_lists.specs.Sequences.{stands_on}
use Rattle.arc_core.specs.declared.config.Config.{Config}
use Rattle.arc_core.specs.declared.entry.Entry.{Entry}
use Rattle.arc_core.specs.PlainShard.{PlainShard, entry_of, is_at_rest}
use Rattle.arc_core.specs.Sparing.{IsSpared, may_go}
use Rattle.arc_core.specs.View.{view_of}
use Rattle.arc_core.proofs.Sparing.{spared-same}
use Rattle.hash_chain.specs.declared.header.Header.{Header}
use Rattle.hash_chain.specs.Chain.{Chain, IsWith, header_at}
use Rattle.arc_table.specs.declared.in_hand.Taken.{Taken}
use Rattle.arc_table.specs.Fronts.{item_at}
use Rattle.arc_table.specs.Geometry.{bucket_turn}
use Rattle.arc_table.specs.pact.Headed.{IsHead, Says}
use Rattle.arc_table.specs.scans.Scanning.{AllPairs, AreApart, pairs_of}
use Rattle.arc_table.specs.scans.Sparing.{AreHeadsBut, spared_header, turn_place, turns_in, with_bucket}

some_same : {A : Type 0} (x y : A) → ◌≡◌ {A = Option A} (Some x) (Some y) → x ≡ y
some_same x y q = cc

-- ---- the bucket of a turn in a list

abbrev pub IsPlaceOf : ℕ → List Taken → ℕ → Type 0
IsPlaceOf j ts i = (w : Taken) → w ≡ get_or ts i w
    → (item_at j (pairs_of ts) ≡ Some w.bucket) × ((new : Chain) → pairs_of (set ts i record { turn = w.turn; bucket = new }) ≡ with_bucket j new (pairs_of ts))

find_turn : (ts : List Taken) (n m j : ℕ) → position_from (λ t. t.turn == j) n ts ≡ Some m → (i : ℕ) × (m ≡ n + i) × IsPlaceOf j ts i
find_turn [] n m j e = absurd (none-some m e)
find_turn (t ∷ ts) n m j e = dite (ℕ_discrete t.turn j)
    (λ q. let is : n ≡ m = some_same n m (subst (λ (b : Bool). cond b (Some n) (position_from (λ t. t.turn == j) (n + 1) ts) ≡ Some m) (eq-eqb t.turn j q) e) in (
      0,
      (let o : m ≡ n + 0 = omega arith in o),
      λ w at.
          let yes : (j == t.turn) ≡ true = eq-eqb j t.turn (sym q) in (
            subst (λ (b : Bool). (if b then Some t.bucket else item_at j (pairs_of ts)) ≡ Some w.bucket) (sym yes) (ap (λ (x : Taken). Some x.bucket) (sym at)),
            λ new. subst (λ (b : Bool). (w.turn, new) ∷ pairs_of ts ≡ (if b then (t.turn, new) ∷ pairs_of ts else ((t.turn, t.bucket) ∷ with_bucket j new (pairs_of ts)))) (sym yes)
                (ap (λ (x : Taken). (x.turn, new) ∷ pairs_of ts) at),
          ),
    ))
    (λ q. let rest = find_turn ts (n + 1) m j (subst (λ (b : Bool). cond b (Some n) (position_from (λ t. t.turn == j) (n + 1) ts) ≡ Some m) (ne_eqb t.turn j q) e) in
    let at = rest.1 in (
      suc rest.0,
      (let o : m ≡ n + suc rest.0 = omega arith in o),
      λ w is.
          let no : (j == t.turn) ≡ false = ne_eqb j t.turn (λ r. q (sym r)) in
          let inside = rest.2 w is in (
            subst (λ (b : Bool). (if b then Some t.bucket else item_at j (pairs_of ts)) ≡ Some w.bucket) (sym no) inside.0,
            λ new. subst (λ (b : Bool). (t.turn, t.bucket) ∷ pairs_of (set ts rest.0 record { turn = w.turn; bucket = new }) ≡ (if b then (t.turn, new) ∷ pairs_of ts else ((t.turn, t.bucket) ∷ with_bucket j new (pairs_of ts)))) (sym no)
                (ap (λ (l : List (ℕ × Chain)). (t.turn, t.bucket) ∷ l) (inside.1 new)),
          ),
    ))

pub found_turn : (ts : List Taken) (j i : ℕ) → turn_place j ts ≡ Some i → IsPlaceOf j ts i
found_turn ts j i e = let f = find_turn ts 0 i j e in let is : i ≡ f.0 = let a = f.1 in omega arith in subst (IsPlaceOf j ts) (sym is) f.2

find_below : (ts : List Taken) (n m j : ℕ) → position_from (λ t. t.turn == j) n ts ≡ Some m → m < n + length ts
find_below [] n m j e = absurd (none-some m e)
find_below (t ∷ ts) n m j e = dite (ℕ_discrete t.turn j)
    (λ q. let is : n ≡ m = some_same n m (subst (λ (b : Bool). cond b (Some n) (position_from (λ t. t.turn == j) (n + 1) ts) ≡ Some m) (eq-eqb t.turn j q) e) in omega arith)
    (λ q. let h = find_below ts (n + 1) m j (subst (λ (b : Bool). cond b (Some n) (position_from (λ t. t.turn == j) (n + 1) ts) ≡ Some m) (ne_eqb t.turn j q) e) in omega arith)

pub turn_below : (ts : List Taken) (j i : ℕ) → turn_place j ts ≡ Some i → i < length ts
turn_below ts j i e = let h = find_below ts 0 i j e in omega arith

pub no_turn : (ts : List Taken) (n j : ℕ) → position_from (λ t. t.turn == j) n ts ≡ None → item_at j (pairs_of ts) ≡ None
no_turn [] n j e = refl
no_turn (t ∷ ts) n j e = dite (ℕ_discrete t.turn j)
    (λ q. absurd (none-some n (sym (subst (λ (b : Bool). cond b (Some n) (position_from (λ t. t.turn == j) (n + 1) ts) ≡ None) (eq-eqb t.turn j q) e))))
    (λ q. subst (λ (b : Bool). (if b then Some t.bucket else item_at j (pairs_of ts)) ≡ None) (sym (ne_eqb j t.turn (λ r. q (sym r))))
    (no_turn ts (n + 1) j (subst (λ (b : Bool). cond b (Some n) (position_from (λ t. t.turn == j) (n + 1) ts) ≡ None) (ne_eqb t.turn j q) e)))

-- the first of a list, where it has the turn and where it hasn't
pub at_first : (j : ℕ) (v : ℕ × Chain) (vs : List (ℕ × Chain)) (b : Chain) → v.0 ≡ j → item_at j (v ∷ vs) ≡ Some b → (v.1 ≡ b) × ((new : Chain) → (v.0, new) ∷ vs ≡ with_bucket j new (v ∷ vs))
at_first j v vs b q e = let yes : (j == v.0) ≡ true = eq-eqb j v.0 (sym q) in (
  some_same v.1 b (subst (λ (t : Bool). (if t then Some v.1 else item_at j vs) ≡ Some b) yes e),
  λ new. subst (λ (t : Bool). (v.0, new) ∷ vs ≡ (if t then (v.0, new) ∷ vs else (v ∷ with_bucket j new vs))) (sym yes) refl,
)

pub past_first : (j : ℕ) (v : ℕ × Chain) (vs : List (ℕ × Chain)) (b : Chain) → ¬ (v.0 ≡ j) → item_at j (v ∷ vs) ≡ Some b → (item_at j vs ≡ Some b) × ((new : Chain) → v ∷ with_bucket j new vs ≡ with_bucket j new (v ∷ vs))
past_first j v vs b q e = let no : (j == v.0) ≡ false = ne_eqb j v.0 (λ r. q (sym r)) in (
  subst (λ (t : Bool). (if t then Some v.1 else item_at j vs) ≡ Some b) no e,
  λ new. subst (λ (t : Bool). v ∷ with_bucket j new vs ≡ (if t then (v.0, new) ∷ vs else (v ∷ with_bucket j new vs))) (sym no) refl,
)

-- ---- one header

pub spared_says : (o o' : Option Entry) (h : Option Header) → IsHead o h → IsSpared o o' → IsHead o' (spared_header (option_map view_of o') h)
spared_says None None h head spared = tt
spared_says None (Some e') h head spared = absurd (none-some e' (sym spared))
spared_says (Some e) None h head spared = tt
spared_says (Some e) (Some e') None head spared = absurd head
spared_says (Some e) (Some e') (Some h) head spared = by_state (is_cached e'.state) refl
  where
    same_but_state : (e' ≡ e) ⊎ (IsTrue (may_go e) × (is_cached e'.state ≡ false) × (e' ≡ record e { state = e'.state })) → (e'.reading ≡ e.reading) × (e'.place ≡ e.place) × (e'.digest ≡ e.digest)
    same_but_state (inl is) = (ap (λ (x : Entry). x.reading) is, ap (λ (x : Entry). x.place) is, ap (λ (x : Entry). x.digest) is)
    same_but_state (inr lost) = (ap (λ (x : Entry). x.reading) lost.2, ap (λ (x : Entry). x.place) lost.2, ap (λ (x : Entry). x.digest) lost.2)

    cached_same : is_cached e'.state ≡ true → (e' ≡ e) ⊎ (IsTrue (may_go e) × (is_cached e'.state ≡ false) × (e' ≡ record e { state = e'.state })) → e' ≡ e
    cached_same t (inl is) = is
    cached_same t (inr lost) = absurd (cc)

    by_state : (b : Bool) → is_cached e'.state ≡ b → IsHead (Some e') (if b then Some h else Some (record h { state = e'.state; block = None }))
    by_state true t = let is : e' ≡ e = cached_same t spared in subst (λ (x : Entry). Says x h) (sym is) head
    by_state false f = let same = same_but_state spared in record {
      state = refl;
      reading = head.reading ∙ sym same.0;
      place = head.place ∙ sym same.1;
      digest = head.digest ∙ sym same.2;
      block = ap (λ (b : Bool). b && is_at_rest e') f;
    }

-- ---- the headers of a hand

module _ (g : Config) (before after : PlainShard) (key : Key) (rest : List Key) where
  drop_key : (k : Key) → key_eq key k ≡ false → IsTrue (stands_on k (key ∷ rest)) → IsTrue (stands_on k rest)
  drop_key k far h = ap (λ (b : Bool). b || stands_on k rest) (sym far) ∙ h

  -- a bucket of another turn
  heads_else : (j : ℕ) (b : Chain) → j ≢ bucket_turn g key → AreHeadsBut g before after (key ∷ rest) j b → AreHeadsBut g before after rest j b
  heads_else j b far h = record {
    heads = λ k is. ⊎_elim
        (λ (old : IsTrue (stands_on k (key ∷ rest)) × IsHead (entry_of k before) (header_at k b.headers) × IsSpared (entry_of k before) (entry_of k after)). by_key k is (key_eq key k) refl old)
        (λ (new : IsHead (entry_of k after) (header_at k b.headers)). inr new)
        (h.heads k is);
    own = h.own;
  }
    where
      by_key : (k : Key) → bucket_turn g k ≡ j → (t : Bool) → key_eq key k ≡ t → IsTrue (stands_on k (key ∷ rest)) × IsHead (entry_of k before) (header_at k b.headers) × IsSpared (entry_of k before) (entry_of k after)
          → (IsTrue (stands_on k rest) × IsHead (entry_of k before) (header_at k b.headers) × IsSpared (entry_of k before) (entry_of k after)) ⊎ IsHead (entry_of k after) (header_at k b.headers)
      by_key k is true t old = absurd (far (sym is ∙ ap (bucket_turn g) (sym (key_eq-is key k t))))
      by_key k is false t old = inl (drop_key k t old.0, old.1, old.2)

  all_else : (vs : List (ℕ × Chain)) → item_at (bucket_turn g key) vs ≡ None → AllPairs (AreHeadsBut g before after (key ∷ rest)) vs → AllPairs (AreHeadsBut g before after rest) vs
  all_else [] none all = tt
  all_else (v ∷ vs) none all = dite (ℕ_discrete (bucket_turn g key) v.0)
      (λ q. absurd (none-some v.1 (sym none ∙ subst (λ (t : Bool). (if t then Some v.1 else item_at (bucket_turn g key) vs) ≡ Some v.1) (sym (eq-eqb (bucket_turn g key) v.0 q)) refl)))
      (λ q. (heads_else v.0 v.1 (λ r. q (sym r)) all.0, all_else vs (subst (λ (t : Bool). (if t then Some v.1 else item_at (bucket_turn g key) vs) ≡ None) (ne_eqb (bucket_turn g key) v.0 q) none) all.1))

  module _ (b new : Chain) (with : IsWith key (spared_header (option_map view_of (entry_of key after)) (header_at key b.headers)) b.headers new.headers) where
    -- the bucket of the key's turn
    heads_here : (j : ℕ) → j ≡ bucket_turn g key → AreHeadsBut g before after (key ∷ rest) j b → AreHeadsBut g before after rest j new
    heads_here j here h = record {
      heads = λ k is. by_key k is (key_eq key k) refl;
      own = λ k x there. own_by k x (key_eq key k) refl there;
    }
      where
        now_says : (IsTrue (stands_on key (key ∷ rest)) × IsHead (entry_of key before) (header_at key b.headers) × IsSpared (entry_of key before) (entry_of key after)) ⊎ IsHead (entry_of key after) (header_at key b.headers)
            → IsHead (entry_of key after) (spared_header (option_map view_of (entry_of key after)) (header_at key b.headers))
        now_says (inl old) = spared_says (entry_of key before) (entry_of key after) (header_at key b.headers) old.1 old.2
        now_says (inr late) = spared_says (entry_of key after) (entry_of key after) (header_at key b.headers) late (spared-same (entry_of key after))

        new_here : (k : Key) → key_eq key k ≡ true → header_at k new.headers ≡ spared_header (option_map view_of (entry_of key after)) (header_at key b.headers)
        new_here k t = with k ∙ ap (λ (x : Bool). if x then spared_header (option_map view_of (entry_of key after)) (header_at key b.headers) else header_at k b.headers) t

        new_else : (k : Key) → key_eq key k ≡ false → header_at k new.headers ≡ header_at k b.headers
        new_else k f = with k ∙ ap (λ (x : Bool). if x then spared_header (option_map view_of (entry_of key after)) (header_at key b.headers) else header_at k b.headers) f

        by_key : (k : Key) → bucket_turn g k ≡ j → (t : Bool) → key_eq key k ≡ t
            → (IsTrue (stands_on k rest) × IsHead (entry_of k before) (header_at k new.headers) × IsSpared (entry_of k before) (entry_of k after)) ⊎ IsHead (entry_of k after) (header_at k new.headers)
        by_key k is true t = inr (subst (IsHead (entry_of k after)) (sym (new_here k t))
            (subst (λ (x : Key). IsHead (entry_of x after) (spared_header (option_map view_of (entry_of key after)) (header_at key b.headers))) (key_eq-is key k t) (now_says (h.heads key (sym here)))))
        by_key k is false t = ⊎_elim
            (λ (old : IsTrue (stands_on k (key ∷ rest)) × IsHead (entry_of k before) (header_at k b.headers) × IsSpared (entry_of k before) (entry_of k after)). inl (drop_key k t old.0, subst (IsHead (entry_of k before)) (sym (new_else k t)) old.1, old.2))
            (λ (late : IsHead (entry_of k after) (header_at k b.headers)). inr (subst (IsHead (entry_of k after)) (sym (new_else k t)) late))
            (h.heads k is)

        own_by : (k : Key) (x : Header) (t : Bool) → key_eq key k ≡ t → header_at k new.headers ≡ Some x → j ≡ bucket_turn g k
        own_by k x true t there = here ∙ ap (bucket_turn g) (key_eq-is key k t)
        own_by k x false t there = h.own k x (sym (new_else k t) ∙ there)

    pub heads_step : (vs : List (ℕ × Chain)) → AreApart vs → AllPairs (AreHeadsBut g before after (key ∷ rest)) vs → item_at (bucket_turn g key) vs ≡ Some b
        → AllPairs (AreHeadsBut g before after rest) (with_bucket (bucket_turn g key) new vs)
    heads_step [] apart all there = tt
    heads_step (v ∷ vs) apart all there = dite (ℕ_discrete v.0 (bucket_turn g key))
        (λ q. let f = at_first (bucket_turn g key) v vs b q there in
        subst (AllPairs (AreHeadsBut g before after rest)) (f.1 new)
        (heads_here v.0 q (subst (AreHeadsBut g before after (key ∷ rest) v.0) f.0 all.0), all_else vs (subst (λ (x : ℕ). item_at x vs ≡ None) q apart.0) all.1))
        (λ q. let f = past_first (bucket_turn g key) v vs b q there in
        subst (AllPairs (AreHeadsBut g before after rest)) (f.1 new)
        (heads_else v.0 v.1 q all.0, heads_step vs apart.1 all.1 f.0))

-- the turns stay
pub with_turns : (j : ℕ) (new : Chain) (vs : List (ℕ × Chain)) → turns_in (with_bucket j new vs) ≡ turns_in vs
with_turns j new [] = refl
with_turns j new (v ∷ vs) = by_test (with_turns j new vs) (j == v.0)
  where
    by_test : turns_in (with_bucket j new vs) ≡ turns_in vs → (t : Bool) → turns_in (if t then (v.0, new) ∷ vs else (v ∷ with_bucket j new vs)) ≡ v.0 ∷ turns_in vs
    by_test ih true = refl
    by_test ih false = ap (λ (l : List ℕ). v.0 ∷ l) ih

-- whether a turn is among buckets in hand
some_place : (o : Option ℕ) → IsTrue (is_some o) → (i : ℕ) × (o ≡ Some i)
some_place None h = absurd (cc)
some_place (Some i) h = (i, refl)

no_place : (o : Option ℕ) → is_some o ≡ false → o ≡ None
no_place None h = refl
no_place (Some i) h = absurd (cc)

in_list : (ts : List Taken) (n m j : ℕ) → position_from (λ t. t.turn == j) n ts ≡ Some m → IsSome (item_at j (pairs_of ts))
in_list [] n m j e = absurd (none-some m e)
in_list (t ∷ ts) n m j e = dite (ℕ_discrete t.turn j)
    (λ q. subst (λ (b : Bool). IsSome (if b then Some t.bucket else item_at j (pairs_of ts))) (sym (eq-eqb j t.turn (sym q))) refl)
    (λ q. subst (λ (b : Bool). IsSome (if b then Some t.bucket else item_at j (pairs_of ts))) (sym (ne_eqb j t.turn (λ r. q (sym r))))
    (in_list ts (n + 1) m j (subst (λ (b : Bool). cond b (Some n) (position_from (λ t. t.turn == j) (n + 1) ts) ≡ Some m) (ne_eqb t.turn j q) e)))

pub hand_has : (j : ℕ) (v : ℕ × Chain) (ts : List Taken) → ¬ (v.0 ≡ j) → IsTrue (is_some (turn_place j ts)) → IsSome (item_at j (v ∷ pairs_of ts))
hand_has j v ts q h = let p = some_place (turn_place j ts) h in subst (λ (t : Bool). IsSome (if t then Some v.1 else item_at j (pairs_of ts))) (sym (ne_eqb j v.0 (λ r. q (sym r)))) (in_list ts 0 p.0 j p.1)

pub hand_has_first : (j : ℕ) (v : ℕ × Chain) (ts : List Taken) → v.0 ≡ j → IsSome (item_at j (v ∷ pairs_of ts))
hand_has_first j v ts q = subst (λ (t : Bool). IsSome (if t then Some v.1 else item_at j (pairs_of ts))) (sym (eq-eqb j v.0 (sym q))) refl

pub hand_lacks : (j : ℕ) (v : ℕ × Chain) (ts : List Taken) → ¬ (v.0 ≡ j) → is_some (turn_place j ts) ≡ false → item_at j (v ∷ pairs_of ts) ≡ None
hand_lacks j v ts q h = subst (λ (t : Bool). (if t then Some v.1 else item_at j (pairs_of ts)) ≡ None) (sym (ne_eqb j v.0 (λ r. q (sym r)))) (no_turn ts 0 j (no_place (turn_place j ts) h))
