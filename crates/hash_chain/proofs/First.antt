-- A header in front of others: what holds of the whole list, from what holds of the others.
use Rattle.std.proofs.Common.{◌≡◌, if◌then◌else◌, ℕ, zero, suc, ◌+◌, ◌-◌, ◌<◌, List, [], ◌∷◌, ◌++◌, length, take, set, get_or, map, Bool, false, not, Option, Some, None, refl, sym, ap, ◌∙◌, subst, ⊎_elim, arith, IfSome, IfNone}
use Rattle.std.specs.Prelude.{slice_get, option_to_list, is_some, MatchOption}
use Rattle.std.specs.List.{position, swap_remove}
use Rattle.std.proofs.lemmas.List.{take-map}
use Rattle.blk_ptr.specs.declared.key.Key.{Key}
use Rattle.blk_ptr.specs.Order.{key_eq}
use Rattle.blk_ptr.proofs.Keys.{key_eq-is}
use Rattle.hash_chain.specs.declared.header.Header.{Header}
use Rattle.hash_chain.specs.Chain.{Chain, header_at, IsWith}
use Rattle.hash_chain.specs.Kept.{all_of, is_key, keys_of, tag_of_key, AreOnce}
use Rattle.hash_chain.proofs.Headers.{cases, some_none, true_false, here, there, found, changed, left_of, finds, get_value, map_add, some_is, without_last}

-- a place of the whole list is one of the others, one further
get_cons : (f : Header) (hs : List Header) (i : ℕ) → 0 < i → slice_get (f ∷ hs) i ≡ slice_get hs (i - 1)
get_cons f hs zero after = absurd (omega arith)
get_cons f hs (suc i) after = let same : i ≡ suc i - 1 = omega arith in ap (slice_get hs) same

set_cons : (f : Header) (hs : List Header) (i : ℕ) (h : Header) → 0 < i → set (f ∷ hs) i h ≡ f ∷ set hs (i - 1) h
set_cons f hs zero h after = absurd (omega arith)
set_cons f hs (suc i) h after = let same : i ≡ suc i - 1 = omega arith in ap (λ n. f ∷ set hs n h) same

get_after : (o : Option Header) (hs : List Header) (i : ℕ) → IfNone o (hs ≡ []) → 0 < i → i < length (all_of o hs) → slice_get (all_of o hs) i ≡ slice_get hs (i - 1)
get_after None hs i none after below = absurd (let nothing : length hs ≡ 0 = ap length none in omega arith)
get_after (Some f) hs i none after below = get_cons f hs i after

-- such a place is a place of the others
pub below_after : (o : Option Header) (hs : List Header) (i : ℕ) → IfNone o (hs ≡ []) → 0 < i → i < length (all_of o hs) → i - 1 < length hs
below_after None hs i none after below = omega arith
below_after (Some f) hs i none after below = omega arith

-- the header that stands at such a place
pub at_after : (o : Option Header) (hs : List Header) (i : ℕ) (h : Header) → IfNone o (hs ≡ []) → 0 < i → i < length (all_of o hs) → h ≡ get_or hs (i - 1) h → slice_get (all_of o hs) i ≡ Some h
at_after o hs i h none after below is = get_after o hs i none after below ∙ get_value hs (i - 1) h (below_after o hs i none after below) is

pub append_after : (o : Option Header) (hs : List Header) (h : Header) → all_of o (hs ++ h ∷ []) ≡ all_of o hs ++ h ∷ []
append_after None hs h = refl
append_after (Some f) hs h = refl

pub set_after : (o : Option Header) (hs : List Header) (i : ℕ) (h : Header) → IfNone o (hs ≡ []) → 0 < i → i < length (all_of o hs) → set (all_of o hs) i h ≡ all_of o (set hs (i - 1) h)
set_after None hs i h none after below = absurd (let nothing : length hs ≡ 0 = ap length none in omega arith)
set_after (Some f) hs i h none after below = set_cons f hs i h after

-- another header of the same key, not at the first place
pub record ChangedAfter (o : Option Header) (hs gs : List Header) (h : Header) : Type 0 where
  pub keys : keys_of gs ≡ keys_of hs
  pub once : AreOnce (all_of o gs)
  pub none : IfNone o (gs ≡ [])
  pub map : IsWith h.key (Some h) (all_of o hs) (all_of o gs)

pub changed_after : (o : Option Header) (hs : List Header) (i : ℕ) (h : Header) → AreOnce (all_of o hs) → IfNone o (hs ≡ []) → 0 < i → i < length (all_of o hs)
    → IfSome (slice_get (all_of o hs) i) (λ g. g.key ≡ h.key) → ChangedAfter o hs (set hs (i - 1) h) h
changed_after None hs i h once none after below same = absurd (let nothing : length hs ≡ 0 = ap length none in omega arith)
changed_after (Some f) hs i h once none after below same =
    let r = changed (f ∷ hs) i h once below same in
    let to : set (f ∷ hs) i h ≡ f ∷ set hs (i - 1) h = set_cons f hs i h after in
    record {
      keys = tails f.key (keys_of (set hs (i - 1) h)) (keys_of hs) (sym (ap keys_of to) ∙ r.keys);
      once = subst AreOnce to r.once;
      none = tt;
      map = subst (IsWith h.key (Some h) (f ∷ hs)) to r.map;
    }
  where
    tails : (k : Key) (ks ls : List Key) → k ∷ ks ≡ k ∷ ls → ks ≡ ls
    tails k ks ls e = cc

-- a header whose key is that of the one that stands there
pub keeps_key : (o : Option Header) (m n : Header) → o ≡ Some m → n.key ≡ m.key → IfSome o (λ g. g.key ≡ n.key)
keeps_key o m n at same = subst (λ (z : Option Header). IfSome z (λ g. g.key ≡ n.key)) (sym at) (sym same)

-- where there is a first, nothing is said of there being none
pub none_not : (o : Option Header) (P : Type 0) (none : Bool) → is_some o ≡ not none → none ≡ false → IfNone o P
none_not None P none is off = absurd (true_false (sym (is ∙ ap not off)))
none_not (Some f) P none is off = tt

-- what is left once the header g went, which was not the first
pub record LeftAfter (o : Option Header) (hs gs : List Header) (ks : List Key) (g : Header) : Type 0 where
  pub keys : ks ≡ keys_of gs
  pub once : AreOnce (all_of o gs)
  pub none : IfNone o (gs ≡ [])
  pub map : IsWith g.key None (all_of o hs) (all_of o gs)

pub left_after : (o : Option Header) (hs : List Header) (ks : List Key) (i : ℕ) (g d : Header) (e : Key) → AreOnce (all_of o hs) → IfNone o (hs ≡ []) → ks ≡ keys_of hs
    → slice_get hs i ≡ Some g → LeftAfter o hs (swap_remove hs i d) (swap_remove ks i e) g
left_after None hs ks i g d e once none is at = absurd (some_none g (sym at ∙ ap (λ (l : List Header). slice_get l i) none))
left_after (Some f) hs ks i g d e once none is at =
    let l = left_of hs ks i g d e once.1 is at in
    let own : header_at g.key hs ≡ Some g = found hs i g once.1 at in
    let apart : key_eq g.key f.key ≡ false = ⊎_elim
    (λ t. absurd (some_none g (sym own ∙ subst (λ (k : Key). header_at k hs ≡ None) (sym (key_eq-is g.key f.key t)) once.0))) (λ n. n) (cases (key_eq g.key f.key)) in
    record {
      keys = l.keys;
      once = (l.map f.key ∙ subst (λ b. (if b then None else header_at f.key hs) ≡ None) (sym apart) once.0, l.once);
      none = tt;
      map = λ j. ⊎_elim
          (λ t. here j f (swap_remove hs i d) t ∙ sym (subst (λ b. (if b then None else header_at j (f ∷ hs)) ≡ Some f) (sym (subst (λ (k : Key). key_eq g.key k ≡ false) (key_eq-is f.key j t) apart)) (here j f hs t)))
          (λ n. there j f (swap_remove hs i d) n ∙ (l.map j ∙ ap (λ (o : Option Header). if key_eq g.key j then None else o) (sym (there j f hs n))))
          (cases (key_eq f.key j));
    }

-- what is left once the first went, and the last of the others took its place
pub record LeftOfFirst (o : Option Header) (hs gs : List Header) (l : Option Header) (f : Header) : Type 0 where
  pub once : AreOnce (all_of l gs)
  pub none : IfNone l (gs ≡ [])
  pub map : IsWith f.key None (all_of o hs) (all_of l gs)

last_first : (f : Header) (hs gs : List Header) (l : Option Header) → AreOnce (f ∷ hs) → hs ≡ gs ++ option_to_list l → IfNone l (gs ≡ []) → LeftOfFirst (Some f) hs gs l f
last_first f hs gs None once is none = record {
  once = subst AreOnce (sym none) tt;
  none = none;
  map = λ j. subst (λ (z : List Header × List Header). header_at j z.0 ≡ (if key_eq f.key j then None else header_at j (f ∷ z.1))) (λ k. (sym none k, sym nothing k)) (alone j);
}
  where
    nothing : hs ≡ []
    nothing = is ∙ ap (λ (z : List Header). z ++ []) none

    alone : (j : Key) → header_at j [] ≡ (if key_eq f.key j then None else (if key_eq f.key j then Some f else None))
    alone j = ⊎_elim
        (λ t. sym (subst (λ b. (if b then None else (if b then Some f else None)) ≡ None) (sym t) refl))
        (λ n. sym (subst (λ b. (if b then None else (if b then Some f else None)) ≡ None) (sym n) refl))
        (cases (key_eq f.key j))
last_first f hs gs (Some l) once is none =
    let two = without_last gs l (subst AreOnce is once.1) in
    let moved : (j : Key) → header_at j hs ≡ header_at j (l ∷ gs) = λ j. ap (header_at j) is ∙ map_add gs l two.1 j in
    record {
      once = (two.1, two.0);
      none = tt;
      map = λ j. ⊎_elim
          (λ t. sym (moved j) ∙ (subst (λ (k : Key). header_at k hs ≡ None) (key_eq-is f.key j t) once.0 ∙ sym (subst (λ b. (if b then None else header_at j (f ∷ hs)) ≡ None) (sym t) refl)))
          (λ n. sym (moved j) ∙ (sym (there j f hs n) ∙ sym (subst (λ b. (if b then None else header_at j (f ∷ hs)) ≡ header_at j (f ∷ hs)) (sym n) refl)))
          (cases (key_eq f.key j));
    }

pub left_first : (o : Option Header) (hs gs : List Header) (l : Option Header) (f : Header) → o ≡ Some f → AreOnce (all_of o hs) → hs ≡ gs ++ option_to_list l → IfNone l (gs ≡ [])
    → LeftOfFirst o hs gs l f
left_first o hs gs l f is once rest none =
    subst (λ (z : Option Header). LeftOfFirst z hs gs l f) (sym is) (last_first f hs gs l (subst (λ (z : Option Header). AreOnce (all_of z hs)) is once) rest none)

-- what a `pop` of the others leaves of them, of their keys and of their tags
pub none_popped : (l : Option Header) (hs gs : List Header) (n m : ℕ) (Q : Header → Type 0) → MatchOption l ((n ≡ 0) × (m ≡ 0)) Q → gs ≡ take (n - 1) hs → IfNone l (gs ≡ [])
none_popped None hs gs n m Q empty rest = rest ∙ ap (λ k. take (k - 1) hs) empty.0
none_popped (Some l) hs gs n m Q empty rest = tt

pub keys_popped : (hs gs : List Header) (ks ls : List Key) (n m : ℕ) → ks ≡ keys_of hs → gs ≡ take (n - 1) hs → ls ≡ take (m - 1) ks → m ≡ n → ls ≡ keys_of gs
keys_popped hs gs ks ls n m is left rest same =
    rest ∙ (ap (λ k. take (k - 1) ks) same ∙ (ap (take (n - 1)) is ∙ (take-map (λ (h : Header). h.key) (n - 1) hs ∙ ap keys_of (sym left))))

pub tags_popped : (ks ls : List Key) (ts us : List ℕ) (n m : ℕ) → ts ≡ map tag_of_key ks → ls ≡ take (n - 1) ks → us ≡ take (m - 1) ts → m ≡ n → us ≡ map tag_of_key ls
tags_popped ks ls ts us n m is left rest same =
    rest ∙ (ap (λ k. take (k - 1) ts) same ∙ (ap (take (n - 1)) is ∙ (take-map tag_of_key (n - 1) ks ∙ ap (map tag_of_key) (sym left))))

-- a search of the others, where the first has another key
pub finds_after : (f : Header) (hs : List Header) (ks : List Key) (k : Key) (r : Option ℕ) → ks ≡ keys_of hs → r ≡ position (is_key k) ks → false ≡ key_eq f.key k
    → IfSome r (λ i. (i + 1 < length (f ∷ hs)) × (header_at k (f ∷ hs) ≡ slice_get (f ∷ hs) (i + 1))) × IfSome r (λ i. IfSome (slice_get (f ∷ hs) (i + 1)) (λ h. h.key ≡ k)) × IfNone r (header_at k (f ∷ hs) ≡ None)
finds_after f hs ks k (Some i) is e other =
    let r = finds hs ks k (Some i) is e in
    let next : slice_get hs i ≡ slice_get (f ∷ hs) (i + 1) = let one : i ≡ i + 1 - 1 = omega arith in ap (slice_get hs) one ∙ sym (get_cons f hs (i + 1) (omega arith)) in
    ((omega (arith, r.0.0), there k f hs (sym other) ∙ (r.0.1 ∙ next)), subst (λ (o : Option Header). IfSome o (λ h. h.key ≡ k)) next r.1, tt)
finds_after f hs ks k None is e other = let r = finds hs ks k None is e in (tt, tt, there k f hs (sym other) ∙ r.2)

-- The header m at a place that is not the first becomes n, of the same key: what the bucket is then
module _ (o : Option Header) (hs : List Header) (i : ℕ) (m n : Header) (once : AreOnce (all_of o hs)) (none : IfNone o (hs ≡ [])) (after : 0 < i) (below : i < length (all_of o hs)) (is : m ≡ get_or hs (i - 1) m) (same : n.key ≡ m.key) where
  pub became : ChangedAfter o hs (set hs (i - 1) n) n
  became = changed_after o hs i n once none after below (keeps_key (slice_get (all_of o hs) i) m n (at_after o hs i m none after below is) same)

  module _ (spare : ℕ) (to : Header → Header) (made : n ≡ to m) (b : Chain) (view : record { headers = all_of o hs; spare = spare } ≡ b) (h : Header) (at : slice_get b.headers i ≡ Some h) where
    at_it : m ≡ h
    at_it = some_is m h (sym (at_after o hs i m none after below is) ∙ subst (λ (c : Chain). slice_get c.headers i ≡ Some h) (sym view) at)

    it : n ≡ to h
    it = made ∙ ap to at_it

    pub became_headers : record { headers = all_of o (set hs (i - 1) n); spare = spare } ≡ record b { headers = set b.headers i (to h) }
    became_headers = subst (λ (c : Chain). ◌≡◌ {A = Chain} (record { headers = all_of o (set hs (i - 1) n); spare = spare }) (record c { headers = set c.headers i (to h) })) view
        (ap (λ (l : List Header). record { headers = l; spare = spare }) (sym (set_after o hs i n none after below) ∙ ap (set (all_of o hs) i) it))

    pub became_map : IsWith h.key (Some (to h)) b.headers (all_of o (set hs (i - 1) n))
    became_map = subst (λ (c : Chain). IsWith h.key (Some (to h)) c.headers (all_of o (set hs (i - 1) n))) view
        (subst (λ (z : Key × Header). IsWith z.0 (Some z.1) (all_of o hs) (all_of o (set hs (i - 1) n))) (λ z. ((same ∙ ap (λ (x : Header). x.key) at_it) z, it z)) became.map)
