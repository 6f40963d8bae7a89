-- Headers by their keys: what an edit of the list changes of the map.
use Rattle.std.proofs.Common.{◌≡◌, ◌⊎◌, if◌then◌else◌, ℕ, zero, suc, ◌+◌, ◌-◌, ◌<◌, List, [], ◌∷◌, ◌++◌, length, take, get_or, set, Bool, true, false, Option, Some, None, refl, sym, ap, ◌∙◌, subst, inl, inr, ⊎_elim, arith, length-append, cond, IfSome, IfNone}
use Rattle.std.specs.Prelude.{slice_get}
use Rattle.std.specs.List.{position, position_from, swap_remove}
use Rattle.std.proofs.lemmas.Iterator.Adapters.{position_from-zero}
use mathlib.Core.Logic.{dite}
use native.Mathlib.Decide.{ℕ_discrete}
use Rattle.blk_ptr.specs.declared.key.Key.{Key}
use Rattle.blk_ptr.specs.Order.{key_eq}
use Rattle.blk_ptr.proofs.Keys.{key_eq-same, key_eq-sym, key_eq-is}
use Rattle.hash_chain.specs.declared.header.Header.{Header}
use Rattle.hash_chain.specs.Chain.{header_at, IsWith}
use Rattle.hash_chain.specs.Kept.{is_key, keys_of, AreOnce}

pub cases : (b : Bool) → (b ≡ true) ⊎ (b ≡ false)
cases true = inl refl
cases false = inr refl

pub some_none : {A : Type 0} (a : A) → ◌≡◌ {A = Option A} (Some a) None → ⊥
some_none a e = cc

pub true_false : true ≡ false → ⊥
true_false e = cc

-- the first header of a list has the key, or another one has what the key has
pub here : (k : Key) (h : Header) (hs : List Header) → key_eq h.key k ≡ true → header_at k (h ∷ hs) ≡ Some h
here k h hs e = subst (λ b. (if b then Some h else header_at k hs) ≡ Some h) (sym e) refl

pub there : (k : Key) (h : Header) (hs : List Header) → key_eq h.key k ≡ false → header_at k (h ∷ hs) ≡ header_at k hs
there k h hs e = subst (λ b. (if b then Some h else header_at k hs) ≡ header_at k hs) (sym e) refl

-- a key that has nothing is not the first header's
not_first : (k : Key) (h : Header) (hs : List Header) → header_at k (h ∷ hs) ≡ None → (key_eq h.key k ≡ false) × (header_at k hs ≡ None)
not_first k h hs e = ⊎_elim (λ t. absurd (some_none h (sym (here k h hs t) ∙ e))) (λ f. (f, sym (there k h hs f) ∙ e)) (cases (key_eq h.key k))

-- a header of the list is what its key has
pub found : (hs : List Header) (i : ℕ) (h : Header) → AreOnce hs → slice_get hs i ≡ Some h → header_at h.key hs ≡ Some h
found [] i h once at = absurd (some_none h (sym at))
found (g ∷ gs) zero h once at = subst (λ (z : Header). header_at z.key (g ∷ gs) ≡ Some z) (same g h at) (here g.key g gs (key_eq-same g.key))
  where
    same : (a b : Header) → ◌≡◌ {A = Option Header} (Some a) (Some b) → a ≡ b
    same a b e = cc
found (g ∷ gs) (suc i) h once at =
    let rest : header_at h.key gs ≡ Some h = found gs i h once.1 at in
    ⊎_elim
    (λ t. absurd (some_none h (sym rest ∙ subst (λ (k : Key). header_at k gs ≡ None) (key_eq-is g.key h.key t) once.0)))
    (λ f. there h.key g gs f ∙ rest)
    (cases (key_eq g.key h.key))

-- what a key has is a header of that key
pub has_key : (k : Key) (hs : List Header) (o : Option Header) → header_at k hs ≡ o → IfSome o (λ h. h.key ≡ k)
has_key k [] o e = subst (λ (z : Option Header). IfSome z (λ h. h.key ≡ k)) e tt
has_key k (g ∷ gs) o e = ⊎_elim
    (λ t. subst (λ (z : Option Header). IfSome z (λ h. h.key ≡ k)) (sym (here k g gs t) ∙ e) (key_eq-is g.key k t))
    (λ f. has_key k gs o (sym (there k g gs f) ∙ e))
    (cases (key_eq g.key k))

-- one more header, of a key that has none
pub map_add : (hs : List Header) (h : Header) → header_at h.key hs ≡ None → IsWith h.key (Some h) hs (hs ++ h ∷ [])
map_add [] h none j = refl
map_add (g ∷ gs) h none j =
    let n = not_first h.key g gs none in
    let rest : header_at j (gs ++ h ∷ []) ≡ (if key_eq h.key j then Some h else header_at j gs) = map_add gs h n.1 j in
    ⊎_elim
    (λ t. let other : key_eq h.key j ≡ false = subst (λ (k : Key). key_eq h.key k ≡ false) (key_eq-is g.key j t) (key_eq-sym h.key g.key ∙ n.0) in
    here j g (gs ++ h ∷ []) t ∙ (sym (here j g gs t) ∙ sym (subst (λ b. (if b then Some h else header_at j (g ∷ gs)) ≡ header_at j (g ∷ gs)) (sym other) refl)))
    (λ f. there j g (gs ++ h ∷ []) f ∙ (rest ∙ ap (λ (o : Option Header). if key_eq h.key j then Some h else o) (sym (there j g gs f))))
    (cases (key_eq g.key j))

pub once_add : (hs : List Header) (h : Header) → AreOnce hs → header_at h.key hs ≡ None → AreOnce (hs ++ h ∷ [])
once_add [] h once none = (refl, tt)
once_add (g ∷ gs) h once none =
    let n = not_first h.key g gs none in (
      map_add gs h n.1 g.key ∙ (subst (λ b. (if b then Some h else header_at g.key gs) ≡ header_at g.key gs) (sym (key_eq-sym h.key g.key ∙ n.0)) refl ∙ once.0),
      once_add gs h once.1 n.1,
    )

-- Of a list whose last header is h: what it has without that one
pub without_last : (hs : List Header) (h : Header) → AreOnce (hs ++ h ∷ []) → AreOnce hs × (header_at h.key hs ≡ None)
without_last [] h once = (tt, refl)
without_last (g ∷ gs) h once =
    let rest = without_last gs h once.1 in
    let none : header_at g.key (gs ++ h ∷ []) ≡ None = once.0 in
    let split : header_at g.key (gs ++ h ∷ []) ≡ (if key_eq h.key g.key then Some h else header_at g.key gs) = map_add gs h rest.1 g.key in
    ⊎_elim
    (λ t. absurd (some_none h (sym (split ∙ subst (λ b. (if b then Some h else header_at g.key gs) ≡ Some h) (sym t) refl) ∙ none)))
    (λ f. let apart : header_at g.key gs ≡ None = sym (split ∙ subst (λ b. (if b then Some h else header_at g.key gs) ≡ header_at g.key gs) (sym f) refl) ∙ none in
    ((apart, rest.0), there h.key g gs (key_eq-sym g.key h.key ∙ f) ∙ rest.1))
    (cases (key_eq h.key g.key))

-- the header g at i is h from then on, whose key is g's or a new one
module _ (h : Header) where
  abbrev Instead : Header → List Header → List Header → Type 0
  Instead g hs gs = (j : Key) → header_at j gs ≡ (if key_eq h.key j then Some h else (if key_eq g.key j then None else header_at j hs))

  pub map_set : (hs : List Header) (i : ℕ) (g : Header) → AreOnce hs → slice_get hs i ≡ Some g → (g.key ≡ h.key) ⊎ (header_at h.key hs ≡ None) → Instead g hs (set hs i h)
  map_set [] i g once at new j = absurd (some_none g (sym at))
  map_set (f ∷ fs) zero g once at new j =
      let same : f ≡ g = only f g at in
      ⊎_elim
      (λ t. here j h fs t ∙ sym (subst (λ b. (if b then Some h else (if key_eq g.key j then None else header_at j (f ∷ fs))) ≡ Some h) (sym t) refl))
      (λ n. there j h fs n ∙ sym (subst (λ b. (if b then Some h else (if key_eq g.key j then None else header_at j (f ∷ fs))) ≡ header_at j fs) (sym n) (gone same)))
      (cases (key_eq h.key j))
    where
      only : (a b : Header) → ◌≡◌ {A = Option Header} (Some a) (Some b) → a ≡ b
      only a b e = cc

      gone : f ≡ g → (if key_eq g.key j then None else header_at j (f ∷ fs)) ≡ header_at j fs
      gone same = ⊎_elim
          (λ t. subst (λ b. (if b then None else header_at j (f ∷ fs)) ≡ header_at j fs) (sym t) (sym (subst (λ (k : Key). header_at k fs ≡ None) (ap (λ (z : Header). z.key) same ∙ key_eq-is g.key j t) once.0)))
          (λ n. subst (λ b. (if b then None else header_at j (f ∷ fs)) ≡ header_at j fs) (sym n) (there j f fs (subst (λ (z : Header). key_eq z.key j ≡ false) (sym same) n)))
          (cases (key_eq g.key j))
  map_set (f ∷ fs) (suc i) g once at new j =
      let here_g : header_at g.key fs ≡ Some g = found fs i g once.1 at in
      let not_g : key_eq g.key f.key ≡ false = ⊎_elim
      (λ t. absurd (some_none g (sym here_g ∙ subst (λ (k : Key). header_at k fs ≡ None) (sym (key_eq-is g.key f.key t)) once.0))) (λ n. n) (cases (key_eq g.key f.key)) in
      let not_h : key_eq h.key f.key ≡ false = ⊎_elim (λ e. subst (λ (k : Key). key_eq k f.key ≡ false) e not_g) (λ n. key_eq-sym h.key f.key ∙ (not_first h.key f fs n).0) new in
      let rest = map_set fs i g once.1 at (⊎_elim inl (λ n. inr (not_first h.key f fs n).1) new) j in
      ⊎_elim
      (λ t. here j f (set fs i h) t ∙ sym (subst (λ (z : Bool × Bool). (if z.0 then Some h else (if z.1 then None else header_at j (f ∷ fs))) ≡ Some f)
      (λ k. (sym (subst (λ (q : Key). key_eq h.key q ≡ false) (key_eq-is f.key j t) not_h) k, sym (subst (λ (q : Key). key_eq g.key q ≡ false) (key_eq-is f.key j t) not_g) k)) (here j f fs t)))
      (λ n. there j f (set fs i h) n ∙ (rest ∙ ap (λ (o : Option Header). if key_eq h.key j then Some h else (if key_eq g.key j then None else o)) (sym (there j f fs n))))
      (cases (key_eq f.key j))

  pub once_set : (hs : List Header) (i : ℕ) (g : Header) → AreOnce hs → slice_get hs i ≡ Some g → (g.key ≡ h.key) ⊎ (header_at h.key hs ≡ None) → AreOnce (set hs i h)
  once_set [] i g once at new = tt
  once_set (f ∷ fs) zero g once at new = (
    ⊎_elim
        (λ e. subst (λ (k : Key). header_at k fs ≡ None) (ap (λ (z : Header). z.key) (only f g at) ∙ e) once.0)
        (λ n. (not_first h.key f fs n).1)
        new,
    once.1,
  )
    where
      only : (a b : Header) → ◌≡◌ {A = Option Header} (Some a) (Some b) → a ≡ b
      only a b e = cc
  once_set (f ∷ fs) (suc i) g once at new =
      let here_g : header_at g.key fs ≡ Some g = found fs i g once.1 at in
      let not_g : key_eq g.key f.key ≡ false = ⊎_elim
      (λ t. absurd (some_none g (sym here_g ∙ subst (λ (k : Key). header_at k fs ≡ None) (sym (key_eq-is g.key f.key t)) once.0))) (λ n. n) (cases (key_eq g.key f.key)) in
      let not_h : key_eq h.key f.key ≡ false = ⊎_elim (λ e. subst (λ (k : Key). key_eq k f.key ≡ false) e not_g) (λ n. key_eq-sym h.key f.key ∙ (not_first h.key f fs n).0) new in
      let new' : (g.key ≡ h.key) ⊎ (header_at h.key fs ≡ None) = ⊎_elim inl (λ n. inr (not_first h.key f fs n).1) new in (
        map_set fs i g once.1 at new' f.key ∙ (subst (λ (z : Bool × Bool). (if z.0 then Some h else (if z.1 then None else header_at f.key fs)) ≡ header_at f.key fs) (λ k. (sym not_h k, sym not_g k)) refl ∙ once.0),
        once_set fs i g once.1 at new',
      )

  pub keys_set : (hs : List Header) (i : ℕ) → keys_of (set hs i h) ≡ set (keys_of hs) i h.key
  keys_set [] i = refl
  keys_set (f ∷ fs) zero = refl
  keys_set (f ∷ fs) (suc i) = ap (λ l. f.key ∷ l) (keys_set fs i)

-- what `swap_remove` leaves
module _ {A : Type 0} where
  last_of : (xs : List A) → 0 < length xs → (init : List A) × (l : A) × (xs ≡ init ++ l ∷ [])
  last_of [] h = absurd (omega arith)
  last_of (x ∷ []) h = ([], x, refl)
  last_of (x ∷ y ∷ ys) h = let r = last_of (y ∷ ys) (omega arith) in (x ∷ r.0, r.1, ap (λ l. x ∷ l) r.2)

  long : (init : List A) (l : A) → length (init ++ l ∷ []) - 1 ≡ length init
  long init l = let e = length-append init (l ∷ []) in omega arith

  get_last : (init : List A) (l d : A) → get_or (init ++ l ∷ []) (length init) d ≡ l
  get_last [] l d = refl
  get_last (x ∷ xs) l d = get_last xs l d

  take_all : (init ys : List A) → take (length init) (init ++ ys) ≡ init
  take_all [] ys = refl
  take_all (x ∷ xs) ys = ap (λ l. x ∷ l) (take_all xs ys)

  take_set : (init : List A) (l m : A) (i : ℕ) → i < length init → take (length init) (set (init ++ l ∷ []) i m) ≡ set init i m
  take_set [] l m i h = absurd (omega arith)
  take_set (x ∷ xs) l m zero h = ap (λ z. m ∷ z) (take_all xs (l ∷ []))
  take_set (x ∷ xs) l m (suc i) h = ap (λ z. x ∷ z) (take_set xs l m i (omega arith))

  take_set_last : (init : List A) (l m : A) → take (length init) (set (init ++ l ∷ []) (length init) m) ≡ init
  take_set_last [] l m = refl
  take_set_last (x ∷ xs) l m = ap (λ z. x ∷ z) (take_set_last xs l m)

  swapped : (init : List A) (l d : A) (i : ℕ) → swap_remove (init ++ l ∷ []) i d ≡ take (length init) (set (init ++ l ∷ []) i l)
  swapped init l d i = λ k. take (long init l k) (set (init ++ l ∷ []) i ((ap (λ n. get_or (init ++ l ∷ []) n d) (long init l) ∙ get_last init l d) k))

  swap_at : (init : List A) (l d : A) (i : ℕ) → i < length init → swap_remove (init ++ l ∷ []) i d ≡ set init i l
  swap_at init l d i h = swapped init l d i ∙ take_set init l l i h

  swap_last : (init : List A) (l d : A) (i : ℕ) → i ≡ length init → swap_remove (init ++ l ∷ []) i d ≡ init
  swap_last init l d i e = swapped init l d i ∙ (ap (λ n. take (length init) (set (init ++ l ∷ []) n l)) e ∙ take_set_last init l l)

  get_front : (init : List A) (l g : A) (i : ℕ) → i < length init → slice_get (init ++ l ∷ []) i ≡ Some g → slice_get init i ≡ Some g
  get_front [] l g i h e = absurd (omega arith)
  get_front (x ∷ xs) l g zero h e = e
  get_front (x ∷ xs) l g (suc i) h e = get_front xs l g i (omega arith) e

  get_end : (init : List A) (l g : A) (i : ℕ) → i ≡ length init → slice_get (init ++ l ∷ []) i ≡ Some g → l ≡ g
  get_end init l g i at e = last_is init (subst (λ (n : ℕ). slice_get (init ++ l ∷ []) n ≡ Some g) at e)
    where
      last_is : (init : List A) → slice_get (init ++ l ∷ []) (length init) ≡ Some g → l ≡ g
      last_is [] e = cc
      last_is (x ∷ xs) e = last_is xs e

pub keys_append : (hs gs : List Header) → keys_of (hs ++ gs) ≡ keys_of hs ++ keys_of gs
keys_append [] gs = refl
keys_append (h ∷ hs) gs = ap (λ l. h.key ∷ l) (keys_append hs gs)

keys_long : (hs : List Header) → length (keys_of hs) ≡ length hs
keys_long [] = refl
keys_long (h ∷ hs) = ap suc (keys_long hs)

-- what is left once the header g at i went, of the headers and of their keys
pub record Left (hs gs : List Header) (ks : List Key) (g : Header) : Type 0 where
  pub keys : ks ≡ keys_of gs
  pub once : AreOnce gs
  pub map : IsWith g.key None hs gs

module _ (init : List Header) (l : Header) (i : ℕ) (g d : Header) (e : Key) (once : AreOnce (init ++ l ∷ [])) (at : slice_get (init ++ l ∷ []) i ≡ Some g) where
  abbrev All : List Header
  All = init ++ l ∷ []

  left_keys : (ks : List Key) → ks ≡ keys_of All → swap_remove ks i e ≡ swap_remove (keys_of init ++ l.key ∷ []) i e
  left_keys ks is = ap (λ (z : List Key). swap_remove z i e) (is ∙ keys_append init (l ∷ []))

  left_before : (ks : List Key) → ks ≡ keys_of All → i < length init → Left All (swap_remove All i d) (swap_remove ks i e) g
  left_before ks is near =
      let two = without_last init l once in
      let at' : slice_get init i ≡ Some g = get_front init l g i near at in
      let is_set : swap_remove All i d ≡ set init i l = swap_at init l d i near in
      let here_g : header_at g.key init ≡ Some g = found init i g two.0 at' in
      subst (λ (z : List Header × List Key). Left All z.0 z.1 g) (λ k. (sym is_set k, sym (left_keys ks is ∙ (swap_at (keys_of init) l.key e i (let n = keys_long init in omega arith) ∙ sym (keys_set l init i))) k))
      record {
        keys = refl;
        once = once_set l init i g two.0 at' (inr two.1);
        map = λ j. map_set l init i g two.0 at' (inr two.1) j ∙ (same j (two.1) here_g ∙ ap (λ (o : Option Header). if key_eq g.key j then None else o) (sym (map_add init l two.1 j)));
      }
    where
      same : (j : Key) → header_at l.key init ≡ None → header_at g.key init ≡ Some g
          → (if key_eq l.key j then Some l else (if key_eq g.key j then None else header_at j init)) ≡ (if key_eq g.key j then None else (if key_eq l.key j then Some l else header_at j init))
      same j none here_g = ⊎_elim
          (λ t. let other : key_eq g.key j ≡ false = ⊎_elim
          (λ u. absurd (some_none g (sym here_g ∙ subst (λ (k : Key). header_at k init ≡ None) (key_eq-is l.key j t ∙ sym (key_eq-is g.key j u)) none))) (λ n. n) (cases (key_eq g.key j)) in
          subst (λ (z : Bool × Bool). (if z.0 then Some l else (if z.1 then None else header_at j init)) ≡ (if z.1 then None else (if z.0 then Some l else header_at j init))) (λ k. (sym t k, sym other k)) refl)
          (λ f. subst (λ b. (if b then Some l else (if key_eq g.key j then None else header_at j init)) ≡ (if key_eq g.key j then None else (if b then Some l else header_at j init))) (sym f) refl)
          (cases (key_eq l.key j))

  left_end : (ks : List Key) → ks ≡ keys_of All → i ≡ length init → Left All (swap_remove All i d) (swap_remove ks i e) g
  left_end ks is end =
      let two = without_last init l once in
      let same : l ≡ g = get_end init l g i end at in
      subst (λ (z : List Header × List Key × Header). Left All z.0 z.1 z.2) (λ k. (sym (swap_last init l d i end) k, sym (left_keys ks is ∙ swap_last (keys_of init) l.key e i (end ∙ sym (keys_long init))) k, same k))
      record {
        keys = refl;
        once = two.0;
        map = λ j. gone j two.1 ∙ ap (λ (o : Option Header). if key_eq l.key j then None else o) (sym (map_add init l two.1 j));
      }
    where
      gone : (j : Key) → header_at l.key init ≡ None → header_at j init ≡ (if key_eq l.key j then None else (if key_eq l.key j then Some l else header_at j init))
      gone j none = ⊎_elim
          (λ t. subst (λ (k : Key). header_at k init ≡ None) (key_eq-is l.key j t) none ∙ sym (subst (λ b. (if b then None else (if b then Some l else header_at j init)) ≡ None) (sym t) refl))
          (λ f. sym (subst (λ b. (if b then None else (if b then Some l else header_at j init)) ≡ header_at j init) (sym f) refl))
          (cases (key_eq l.key j))

-- the header at i goes
pub left_of : (hs : List Header) (ks : List Key) (i : ℕ) (g d : Header) (e : Key) → AreOnce hs → ks ≡ keys_of hs → slice_get hs i ≡ Some g → Left hs (swap_remove hs i d) (swap_remove ks i e) g
left_of hs ks i g d e once is at =
    let below : i < length hs = get_below hs i g at in
    let s = last_of hs (omega arith) in
    let P : List Header → Type 0 = λ z. AreOnce z → ks ≡ keys_of z → slice_get z i ≡ Some g → i < length z → Left z (swap_remove z i d) (swap_remove ks i e) g in
    subst P (sym s.2) (λ once is at near. dite (ℕ_discrete i (length s.0))
    (λ end. left_end s.0 s.1 i g d e once at ks is end)
    (λ ne. left_before s.0 s.1 i g d e once at ks is (let n = length-append s.0 (s.1 ∷ []) in omega arith))) once is at below
  where
    get_below : (hs : List Header) (i : ℕ) (g : Header) → slice_get hs i ≡ Some g → i < length hs
    get_below [] i g e = absurd (some_none g (sym e))
    get_below (h ∷ hs) zero g e = omega arith
    get_below (h ∷ hs) (suc i) g e = let b = get_below hs i g e in omega arith

-- where a search over the keys stops
find_some : (hs : List Header) (n m : ℕ) (k : Key) → position_from (is_key k) n (keys_of hs) ≡ Some m → (i : ℕ) × (m ≡ n + i) × (i < length hs) × (header_at k hs ≡ slice_get hs i)
find_some [] n m k e = absurd (none_some m e)
  where
    none_some : (m : ℕ) → ◌≡◌ {A = Option ℕ} None (Some m) → ⊥
    none_some m e = cc
find_some (h ∷ hs) n m k e = ⊎_elim
    (λ t. let is : ◌≡◌ {A = Option ℕ} (Some n) (Some m) = subst (λ b. cond b (Some n) (position_from (is_key k) (n + 1) (keys_of hs)) ≡ Some m) t e in
    let same : n ≡ m = cc in
    (0, (let o : m ≡ n + 0 = omega arith in o), (let o : 0 < length (h ∷ hs) = omega arith in o), here k h hs t))
    (λ f. let rest = find_some hs (n + 1) m k (subst (λ b. cond b (Some n) (position_from (is_key k) (n + 1) (keys_of hs)) ≡ Some m) f e) in
    let at = rest.1 in
    let below = rest.2 in
    (suc rest.0, (let o : m ≡ n + suc rest.0 = omega arith in o), (let o : suc rest.0 < length (h ∷ hs) = omega arith in o), there k h hs f ∙ rest.3))
    (cases (key_eq h.key k))

find_none : (hs : List Header) (n : ℕ) (k : Key) → position_from (is_key k) n (keys_of hs) ≡ None → header_at k hs ≡ None
find_none [] n k e = refl
find_none (h ∷ hs) n k e = ⊎_elim
    (λ t. absurd (some_none n (subst (λ b. cond b (Some n) (position_from (is_key k) (n + 1) (keys_of hs)) ≡ None) t e)))
    (λ f. there k h hs f ∙ find_none hs (n + 1) k (subst (λ b. cond b (Some n) (position_from (is_key k) (n + 1) (keys_of hs)) ≡ None) f e))
    (cases (key_eq h.key k))

pub finds : (hs : List Header) (ks : List Key) (k : Key) (r : Option ℕ) → ks ≡ keys_of hs → r ≡ position (is_key k) ks → IfSome r (λ i. (i < length hs) × (header_at k hs ≡ slice_get hs i)) × IfSome r (λ i. IfSome (slice_get hs i) (λ h. h.key ≡ k)) × IfNone r (header_at k hs ≡ None)
finds hs ks k (Some m) is e =
    let f = find_some hs 0 m k (sym (position_from-zero (is_key k) (keys_of hs)) ∙ (ap (position (is_key k)) (sym is) ∙ sym e)) in
    let same : m ≡ f.0 = let a = f.1 in omega arith in
    (subst (λ (i : ℕ). (i < length hs) × (header_at k hs ≡ slice_get hs i)) (sym same) (f.2, f.3), subst (λ (i : ℕ). IfSome (slice_get hs i) (λ h. h.key ≡ k)) (sym same) (has_key k hs (slice_get hs f.0) f.3), tt)
finds hs ks k None is e = (tt, tt, find_none hs 0 k (sym (position_from-zero (is_key k) (keys_of hs)) ∙ (ap (position (is_key k)) (sym is) ∙ sym e)))

-- the header that stands at a place
pub get_value : (hs : List Header) (i : ℕ) (h : Header) → i < length hs → h ≡ get_or hs i h → slice_get hs i ≡ Some h
get_value [] i h below e = absurd (omega arith)
get_value (g ∷ gs) zero h below e = ap Some (sym e)
get_value (g ∷ gs) (suc i) h below e = get_value gs i h (omega arith) e

-- another header of the same key at i
pub record Changed (hs gs : List Header) (h : Header) : Type 0 where
  pub keys : keys_of gs ≡ keys_of hs
  pub once : AreOnce gs
  pub map : IsWith h.key (Some h) hs gs

pub changed : (hs : List Header) (i : ℕ) (h : Header) → AreOnce hs → i < length hs → IfSome (slice_get hs i) (λ g. g.key ≡ h.key) → Changed hs (set hs i h) h
changed hs i h once below same =
    let s = some_there hs i below in
    let is : s.0.key ≡ h.key = subst (λ (o : Option Header). IfSome o (λ g. g.key ≡ h.key)) s.1 same in
    record {
      keys = keys_set h hs i ∙ (ap (set (keys_of hs) i) (sym is) ∙ keys_again hs i s.0 s.1);
      once = once_set h hs i s.0 once s.1 (inl is);
      map = λ j. map_set h hs i s.0 once s.1 (inl is) j ∙ merged s.0 is j;
    }
  where
    some_there : (hs : List Header) (i : ℕ) → i < length hs → (g : Header) × (slice_get hs i ≡ Some g)
    some_there [] i below = absurd (omega arith)
    some_there (g ∷ gs) zero below = (g, refl)
    some_there (g ∷ gs) (suc i) below = some_there gs i (omega arith)

    keys_again : (hs : List Header) (i : ℕ) (g : Header) → slice_get hs i ≡ Some g → set (keys_of hs) i g.key ≡ keys_of hs
    keys_again [] i g e = refl
    keys_again (f ∷ fs) zero g e = ap (λ (k : Key). k ∷ keys_of fs) (key_same f g e)
      where
        key_same : (f g : Header) → ◌≡◌ {A = Option Header} (Some f) (Some g) → g.key ≡ f.key
        key_same f g e = let same : f ≡ g = cc in sym (ap (λ (z : Header). z.key) same)
    keys_again (f ∷ fs) (suc i) g e = ap (λ l. f.key ∷ l) (keys_again fs i g e)

    merged : (g : Header) → g.key ≡ h.key → (j : Key) → (if key_eq h.key j then Some h else (if key_eq g.key j then None else header_at j hs)) ≡ (if key_eq h.key j then Some h else header_at j hs)
    merged g is j = ⊎_elim
        (λ t. subst (λ b. (if b then Some h else (if key_eq g.key j then None else header_at j hs)) ≡ (if b then Some h else header_at j hs)) (sym t) refl)
        (λ f. subst (λ (z : Bool × Bool). (if z.0 then Some h else (if z.1 then None else header_at j hs)) ≡ (if z.0 then Some h else header_at j hs)) (λ k. (sym f k, sym (subst (λ (q : Key). key_eq q j ≡ false) (sym is) f) k)) refl)
        (cases (key_eq h.key j))

pub some_is : (a b : Header) → ◌≡◌ {A = Option Header} (Some a) (Some b) → a ≡ b
some_is a b e = cc

-- the header at i put there once more
pub set_same : (hs : List Header) (i : ℕ) (h : Header) → slice_get hs i ≡ Some h → set hs i h ≡ hs
set_same [] i h at = refl
set_same (g ∷ gs) zero h at = let same : g ≡ h = cc in ap (λ (z : Header). z ∷ gs) (sym same)
set_same (g ∷ gs) (suc i) h at = ap (λ l. g ∷ l) (set_same gs i h at)
