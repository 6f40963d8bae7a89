-- Tags beside keys: where a search over the tags stops, and what the tags are once a place was freed.
use Rattle.std.proofs.Common.{◌≡◌, ◌⊎◌, ℕ, zero, suc, ◌+◌, ◌-◌, ◌<◌, ◌≤◌, List, [], ◌∷◌, ◌++◌, length, map, get_or, set, take, Bool, true, false, not, eqb, Option, Some, None, refl, sym, ap, ◌∙◌, subst, inl, inr, ⊎_elim, arith, cond}
use Rattle.std.specs.Prelude.{slice_get}
use Rattle.std.specs.List.{position, position_from, prefix_len, swap_remove}
use Rattle.std.specs.Simd.Lanes.{mask_l}
use lib.Lanes.{chunk}
use Rattle.std.proofs.lemmas.Bool.{eq-eqb}
use Rattle.std.proofs.lemmas.Bool.Decides.{nat_tests}
use Rattle.std.proofs.lemmas.Iterator.Adapters.{position_from-zero}
use Rattle.std.proofs.lemmas.List.{get_or-map, length-map, map-append, map-set, take-map}
use Rattle.std.proofs.lemmas.Option.{get_or_from_slice_get, slice_get-get_or, slice_get_within}
use Rattle.std.proofs.lemmas.Simd.{none_from_empty_mask, run_in_chunk_fails}
use Rattle.blk_ptr.specs.declared.key.Key.{Key}
use Rattle.blk_ptr.specs.Order.{key_eq}
use Rattle.blk_ptr.proofs.Keys.{key_eq-same, key_eq-is}
use Rattle.hash_chain.specs.declared.header.Header.{Header}
use Rattle.hash_chain.specs.Kept.{is_key, keys_of, tag_of_key}

true_false : true ≡ false → ⊥
true_false e = cc

cases : (b : Bool) → (b ≡ true) ⊎ (b ≡ false)
cases true = inl refl
cases false = inr refl

-- a place is before another or not
split_at : (n j : ℕ) → (j < n) ⊎ (n ≤ j)
split_at n j = grind (arith, nat_tests)

-- the key stands at no place before n
abbrev pub IsNotBefore : List Key → Key → ℕ → Type 0
IsNotBefore ks k n = (j : ℕ) → j < n → slice_get ks j ≡ Some k → ⊥

has_tag : (ks : List Key) (k : Key) (j : ℕ) → slice_get ks j ≡ Some k → get_or (map tag_of_key ks) j 0 ≡ tag_of_key k
has_tag ks k j at = get_or-map tag_of_key ks j k 0 (slice_get_within ks j k at) ∙ ap tag_of_key (get_or_from_slice_get ks j k k at)

-- of 16 lanes, none has the tag
pub no_tag : (ts : List ℕ) (at t : ℕ) → at + 16 ≤ length ts → mask_l (map (λ x. eqb x t) (chunk at 16 ts)) ≡ 0 → (j : ℕ) → at ≤ j → j < at + 16 → get_or ts j 0 ≡ t → ⊥
no_tag ts at t room empty j low high same = true_false (sym (eq-eqb _ _ same) ∙ none_from_empty_mask (λ x. eqb x t) ts at 16 0 room empty j low high)

-- and so of those before the first that has it
pub before_tag : (ts : List ℕ) (at t r : ℕ) → at + 16 ≤ length ts → r ≡ prefix_len (λ x. not (eqb x t)) (chunk at 16 ts) → (j : ℕ) → at ≤ j → j < at + r → get_or ts j 0 ≡ t → ⊥
before_tag ts at t r room counted j low high same = true_false (sym (eq-eqb _ _ same) ∙ run_in_chunk_fails (λ x. eqb x t) ts at 16 r 0 room counted j low high)

-- among other tags stands no key that has this one
pub none_more : (ts : List ℕ) (ks : List Key) (k : Key) (t from to : ℕ) → ts ≡ map tag_of_key ks → t ≡ tag_of_key k
    → IsNotBefore ks k from → ((j : ℕ) → from ≤ j → j < to → get_or ts j 0 ≡ t → ⊥) → IsNotBefore ks k to
none_more ts ks k t from to tags is none others j below there = elim (split_at from j) [
  | inl before ↦ none j before there
  | inr behind ↦ others j behind below (ap (λ xs. get_or xs j 0) tags ∙ (has_tag ks k j there ∙ sym is))
]

-- a key that has the tag, and isn't the one
pub not_here : (ks : List Key) (k d : Key) (p : ℕ) → false ≡ key_eq (get_or ks p d) k → IsNotBefore ks k p → IsNotBefore ks k (p + 1)
not_here ks k d p other none j below there = elim (split_at p j) [
  | inl before ↦ none j before there
  | inr behind ↦ let same : j ≡ p = omega (arith, below, behind) in
      let is : get_or ks p d ≡ k = subst (λ (i : ℕ). get_or ks i d ≡ k) same (get_or_from_slice_get ks j k d there) in
      true_false (sym (key_eq-same k) ∙ (subst (λ (q : Key). key_eq q k ≡ false) is (sym other)))
]

first : (ks : List Key) (k : Key) (n p : ℕ) → slice_get ks p ≡ Some k → IsNotBefore ks k p → position_from (is_key k) n ks ≡ Some (n + p)
first [] k n p at none = absurd (nothing at)
  where
    nothing : ◌≡◌ {A = Option Key} None (Some k) → ⊥
    nothing e = cc
first (x ∷ xs) k n zero at none =
    let same : x ≡ k = cc in
    let yes : key_eq x k ≡ true = subst (λ (q : Key). key_eq q k ≡ true) (sym same) (key_eq-same k) in
    let near : n ≡ n + 0 = omega arith in
    subst (λ b. cond b (Some n) (position_from (is_key k) (n + 1) xs) ≡ Some (n + 0)) (sym yes) (ap Some near)
first (x ∷ xs) k n (suc p) at none =
    let rest : position_from (is_key k) (n + 1) xs ≡ Some (n + 1 + p) = first xs k (n + 1) p at (λ j below. none (suc j) (omega arith)) in
    let far : n + 1 + p ≡ n + suc p = omega arith in
    ⊎_elim
    (λ yes. absurd (none zero (omega arith) (ap Some (key_eq-is x k yes))))
    (λ no. subst (λ b. cond b (Some n) (position_from (is_key k) (n + 1) xs) ≡ Some (n + suc p)) (sym no) (rest ∙ ap Some far))
    (cases (key_eq x k))

nowhere : (ks : List Key) (k : Key) (n : ℕ) → ((j : ℕ) → slice_get ks j ≡ Some k → ⊥) → position_from (is_key k) n ks ≡ None
nowhere [] k n none = refl
nowhere (x ∷ xs) k n none = ⊎_elim
    (λ yes. absurd (none zero (ap Some (key_eq-is x k yes))))
    (λ no. subst (λ b. cond b (Some n) (position_from (is_key k) (n + 1) xs) ≡ None) (sym no) (nowhere xs k (n + 1) (λ j. none (suc j))))
    (cases (key_eq x k))

-- the first place with the key
pub is_here : (ks : List Key) (k d : Key) (p : ℕ) → p < length ks → true ≡ key_eq (get_or ks p d) k → IsNotBefore ks k p → Some p ≡ position (is_key k) ks
is_here ks k d p within same none =
    let at : slice_get ks p ≡ Some k = slice_get-get_or ks p d within ∙ ap Some (key_eq-is (get_or ks p d) k (sym same)) in
    let from_front : 0 + p ≡ p = omega arith in
    sym (position_from-zero (is_key k) ks ∙ (first ks k 0 p at none ∙ ap Some from_front))

-- the key of a header, among the keys
key_there : (hs : List Header) (d : Header) (k : Key) (p : ℕ) → p < length hs → get_or (keys_of hs) p k ≡ (get_or hs p d).key
key_there hs d k p within = get_or-map (λ (h : Header). h.key) hs p d k within

as_many : (hs : List Header) → length (keys_of hs) ≡ length hs
as_many hs = length-map hs (λ (h : Header). h.key)

-- the first header with the key
pub is_header : (hs : List Header) (k : Key) (d : Header) (p : ℕ) → p < length hs → true ≡ key_eq (get_or hs p d).key k → IsNotBefore (keys_of hs) k p → Some p ≡ position (is_key k) (keys_of hs)
is_header hs k d p within same none = is_here (keys_of hs) k k p (let n = as_many hs in omega arith) (same ∙ ap (λ (q : Key). key_eq q k) (sym (key_there hs d k p within))) none

-- a header that has the tag, and another key
pub no_header : (hs : List Header) (k : Key) (d : Header) (p : ℕ) → p < length hs → false ≡ key_eq (get_or hs p d).key k → IsNotBefore (keys_of hs) k p → IsNotBefore (keys_of hs) k (p + 1)
no_header hs k d p within other none = not_here (keys_of hs) k k p (other ∙ ap (λ (q : Key). key_eq q k) (sym (key_there hs d k p within))) none

-- no place with the key
pub is_nowhere : (ks : List Key) (k : Key) (n : ℕ) → length ks ≤ n → IsNotBefore ks k n → None ≡ position (is_key k) ks
is_nowhere ks k n all none = sym (position_from-zero (is_key k) ks ∙ nowhere ks k 0 (λ j at. none j (let less = slice_get_within ks j k at in omega arith) at))

-- one more key, with its tag
pub tags_with : (ts us : List ℕ) (ks ls : List Key) (k : Key) {t : ℕ} → us ≡ ts ++ t ∷ [] → ls ≡ ks ++ k ∷ [] → ts ≡ map tag_of_key ks → t ≡ tag_of_key k → us ≡ map tag_of_key ls
tags_with ts us ks ls k {t} tags keys is same = tags ∙ (ap (λ xs. xs ++ t ∷ []) is ∙ (ap (λ x. map tag_of_key ks ++ x ∷ []) same ∙ (sym (map-append tag_of_key ks (k ∷ [])) ∙ ap (map tag_of_key) (sym keys))))

-- the last tag takes a freed place, as the last key does
pub tags_without : (ts : List ℕ) (ks : List Key) (i t : ℕ) (k : Key) → ts ≡ map tag_of_key ks → i < length ks → swap_remove ts i t ≡ map tag_of_key (swap_remove ks i k)
tags_without ts ks i t k tags within =
    let long : length (map tag_of_key ks) ≡ length ks = length-map ks tag_of_key in
    let last : get_or (map tag_of_key ks) (length ks - 1) t ≡ tag_of_key (get_or ks (length ks - 1) k) = get_or-map tag_of_key ks (length ks - 1) k t (omega arith) in
    ap (λ xs. swap_remove xs i t) tags ∙ (subst (λ n. take (n - 1) (set (map tag_of_key ks) i (get_or (map tag_of_key ks) (n - 1) t)) ≡ map tag_of_key (swap_remove ks i k)) (sym long)
    (ap (λ x. take (length ks - 1) (set (map tag_of_key ks) i x)) last ∙ (ap (take (length ks - 1)) (sym (map-set tag_of_key ks i (get_or ks (length ks - 1) k))) ∙ take-map tag_of_key (length ks - 1) (set ks i (get_or ks (length ks - 1) k)))))
