-- A walk from the last node toward the head.
use Rattle.std.proofs.Common.{◌≡◌, ℕ, suc, ◌<◌, ◌≤◌, Bool, true, false, not, cond, nat_eq, List, [], ◌∷◌, ◌++◌, length, reverse, Option, Some, None, MatchOption, IsSome, is_some, inl, inr, refl, sym, ap, subst, ◌∙◌, arith, length-append}
use Rattle.std.specs.Option.{option_map_or}
use Rattle.std.proofs.lemmas.Bool.{eq-eqb, eqb-true, false≢true}
use Rattle.std.proofs.lemmas.List.{reverse-append}
use Rattle.blk_ptr.specs.declared.key.Key.{Key}
use Rattle.blk_ptr.specs.Order.{key_eq}
use Rattle.blk_ptr.proofs.Keys.{key_eq-is, key_eq-same}
use Rattle.arc_links.specs.PlainLinks.{AreApart, Placed, element_at, in_front, last_place, placed}
use Rattle.arc_links.proofs.Places.{AreApart-front, behind, element_at-append_front, element_at-head, is_some_of, split_at, still_there}
use Rattle.arc_lists.specs.Room.{or_else}
use Rattle.arc_lists.specs.LastKeys.{last_key}
use Rattle.arc_lists.specs.Sequences.{is_distinct, oldest_unskipped, stands_on}
use Rattle.arc_lists.specs.Walks.{ahead_of, first_of}
use Rattle.arc_lists.proofs.Placing.{keys_of, node-stands}
use Rattle.arc_lists.proofs.Standing.{and_left, and_right, not_true_is}
use Rattle.arc_lists.proofs.Tables.{cases_true, some_is}

-- the nodes up to the one at a place
abbrev pub up_to : ℕ → List (Placed Key) → List (Placed Key)
up_to p [] = []
up_to p (n ∷ ns) = cond (nat_eq n.place p) (n ∷ []) (n ∷ up_to p ns)

-- the keys up to the node at a place, or none
abbrev pub keys_up_to : Option ℕ → List (Placed Key) → List Key
keys_up_to None ns = []
keys_up_to (Some p) ns = keys_of (up_to p ns)

pub up_to-front : (p : ℕ) (k : Key) (ns : List (Placed Key)) → element_at p ns ≡ Some k → keys_of (up_to p ns) ≡ keys_of (in_front p ns) ++ k ∷ []
up_to-front p k [] there = absurd (cc)
up_to-front p k (n ∷ ns) there = elim (cases_true (nat_eq n.place p)) [
  | inl same ↦
      let is : n.element ≡ k = some_is (rw same at there) in
      rw same (ap (λ z. z ∷ []) is)
  | inr differs ↦ rw differs (ap (λ l. n.element ∷ l) (up_to-front p k ns (rw differs at there)))
]

-- the last of some nodes is one of them, and the nodes up to it are all of them
pub last-there : (ns : List (Placed Key)) (p : ℕ) → AreApart ns → last_place ns ≡ Some p → IsSome (element_at p ns) × (up_to p ns ≡ ns)
last-there [] p apart last = absurd (cc)
last-there (n ∷ []) p apart last =
    let is : n.place ≡ p = some_is last in
    (subst (λ q. IsSome (element_at q (n ∷ []))) is (ap is_some (element_at-head n [])), same_cond (nat_eq n.place p) (n ∷ []))
  where
    same_cond : (b : Bool) (l : List (Placed Key)) → cond b l l ≡ l
    same_cond true l = refl
    same_cond false l = refl
last-there (n ∷ m ∷ ms) p apart last =
    let rest = last-there (m ∷ ms) p apart.1 last in
    let differ : nat_eq n.place p ≡ false = elim (cases_true (nat_eq n.place p)) [
      | inl same ↦
          let off : element_at p (m ∷ ms) ≡ None = subst (λ q. element_at q (m ∷ ms) ≡ None) (eqb-true _ _ same) apart.0 in
          absurd (false≢true (sym (ap is_some off) ∙ rest.0))
      | inr apart ↦ apart
    ] in
    (still_there p n (m ∷ ms) rest.0, rw differ (ap (λ l. n ∷ l) rest.1))

pub last-none : (ns : List (Placed Key)) → last_place ns ≡ None → ns ≡ []
last-none [] none = refl
last-none (n ∷ []) none = absurd (cc)
last-none (n ∷ m ∷ ms) none = absurd (cc (last-none (m ∷ ms) none))

up_to-append : (p : ℕ) (xs ys : List (Placed Key)) → IsSome (element_at p xs) → up_to p (xs ++ ys) ≡ up_to p xs
up_to-append p [] ys there = absurd (false≢true there)
up_to-append p (x ∷ xs) ys there = elim (cases_true (nat_eq x.place p)) [
  | inl same ↦ rw same refl
  | inr differs ↦ rw differs (ap (λ l. x ∷ l) (up_to-append p xs ys (rw differs at there)))
]

-- the node in front of one is there, and the nodes up to it are those in front of that one
pub front-there : (at p : ℕ) (ns : List (Placed Key)) → AreApart ns → IsSome (element_at at ns) → last_place (in_front at ns) ≡ Some p → IsSome (element_at p ns) × (up_to p ns ≡ in_front at ns)
front-there at p ns apart there last =
    let x = is_some_of (element_at at ns) there in
    let front = in_front at ns in
    let rest = placed at x.0 ∷ behind at ns in
    let cut = split_at at ns x.0 x.1 in
    let apart' : AreApart front = AreApart-front front rest (subst AreApart cut apart) in
    let end = last-there front p apart' last in
    let found : element_at p ns ≡ element_at p front = ap (element_at p) cut ∙ element_at-append_front p front rest end.0 in
    (ap is_some found ∙ end.0, ap (up_to p) cut ∙ up_to-append p front rest end.0 ∙ end.1)

length-keys : (ns : List (Placed Key)) → length (keys_of ns) ≡ length ns
length-keys [] = refl
length-keys (n ∷ ns) = ap (λ k. suc k) (length-keys ns)

-- there are fewer nodes in front of it
pub front-fewer : (at p : ℕ) (ns : List (Placed Key)) → AreApart ns → IsSome (element_at at ns) → last_place (in_front at ns) ≡ Some p → suc (length (in_front p ns)) ≤ length (in_front at ns)
front-fewer at p ns apart there last =
    let near = front-there at p ns apart there last in
    let x = is_some_of (element_at p ns) near.0 in
    let keys = ap length (up_to-front p x.0 ns x.1) in
    omega (arith, keys, length-append (keys_of (in_front p ns)) (x.0 ∷ []), length-keys (in_front p ns), length-keys (up_to p ns), ap length near.1)

-- ---- the oldest key

-- the last key decides where it isn't skipped, and where it is, those in front of it do
pub oldest-end : (skips : Key → Bool) (ks : List Key) (k : Key) → oldest_unskipped skips (ks ++ k ∷ []) ≡ cond (skips k) (oldest_unskipped skips ks) (Some k)
oldest-end skips ks k = elim (cases_true (skips k)) [
  | inl skipped ↦ rw (reverse-append ks (k ∷ [])) (rw skipped refl)
  | inr chosen ↦ rw (reverse-append ks (k ∷ [])) (rw chosen refl)
]

-- the walk in hand at the node of a place, or at its end
pub there-last : (ns : List (Placed Key)) (o : Option ℕ) → AreApart ns → o ≡ last_place ns → MatchOption o (Unit {0}) (λ p. IsSome (element_at p ns))
there-last ns None apart is = tt
there-last ns (Some p) apart is = (last-there ns p apart (sym is)).0

pub there-front : (ns : List (Placed Key)) (at : ℕ) (o : Option ℕ) → AreApart ns → IsSome (element_at at ns) → o ≡ last_place (in_front at ns) → MatchOption o (Unit {0}) (λ p. IsSome (element_at p ns))
there-front ns at None apart there is = tt
there-front ns at (Some p) apart there is = (front-there at p ns apart there (sym is)).0

pub init-keys : (ns : List (Placed Key)) (o : Option ℕ) → AreApart ns → o ≡ last_place ns → keys_up_to o ns ≡ keys_of ns
init-keys ns None apart is = sym (ap keys_of (last-none ns (sym is)))
init-keys ns (Some p) apart is = ap keys_of (last-there ns p apart (sym is)).1

pub next-keys : (ns : List (Placed Key)) (at : ℕ) (o : Option ℕ) → AreApart ns → IsSome (element_at at ns) → o ≡ last_place (in_front at ns) → keys_up_to o ns ≡ keys_of (in_front at ns)
next-keys ns at None apart there is = sym (ap keys_of (last-none (in_front at ns) (sym is)))
next-keys ns at (Some p) apart there is = ap keys_of (front-there at p ns apart there (sym is)).1

-- how many nodes are still to be met
pub fewer : (ns : List (Placed Key)) (at : ℕ) (o : Option ℕ) → AreApart ns → IsSome (element_at at ns) → o ≡ last_place (in_front at ns)
    → option_map_or (λ p. suc (length (in_front p ns))) o 0 < option_map_or (λ p. suc (length (in_front p ns))) (Some at) 0
fewer ns at None apart there is = omega arith
fewer ns at (Some p) apart there is = omega (arith, front-fewer at p ns apart there (sym is))

-- what the key in hand decides
pub chosen : (skips : Key → Bool) (ns : List (Placed Key)) (at : ℕ) (k : Key) → element_at at ns ≡ Some k → skips k ≡ false → oldest_unskipped skips (keys_up_to (Some at) ns) ≡ Some k
chosen skips ns at k there kept = ap (oldest_unskipped skips) (up_to-front at k ns there) ∙ oldest-end skips (keys_of (in_front at ns)) k ∙ ap (λ b. cond b (oldest_unskipped skips (keys_of (in_front at ns))) (Some k)) kept

pub skipped : (skips : Key → Bool) (ns : List (Placed Key)) (at : ℕ) (k : Key) → element_at at ns ≡ Some k → skips k ≡ true
    → oldest_unskipped skips (keys_up_to (Some at) ns) ≡ oldest_unskipped skips (keys_of (in_front at ns))
skipped skips ns at k there passed = ap (oldest_unskipped skips) (up_to-front at k ns there) ∙ oldest-end skips (keys_of (in_front at ns)) k ∙ ap (λ b. cond b (oldest_unskipped skips (keys_of (in_front at ns))) (Some k)) passed

-- ---- the key in front of one

last_key-of : (ns : List (Placed Key)) (p : ℕ) (k : Key) → AreApart ns → last_place ns ≡ Some p → element_at p ns ≡ Some k → last_key ns ≡ Some k
last_key-of [] p k apart last there = absurd (cc)
last_key-of (n ∷ []) p k apart last there =
    let test : nat_eq n.place p ≡ true = eq-eqb n.place p (some_is last) in
    rw test at there
last_key-of (n ∷ m ∷ ms) p k apart last there =
    let rest = last-there (m ∷ ms) p apart.1 last in
    let differ : nat_eq n.place p ≡ false = elim (cases_true (nat_eq n.place p)) [
      | inl same ↦
          let off : element_at p (m ∷ ms) ≡ None = subst (λ q. element_at q (m ∷ ms) ≡ None) (eqb-true _ _ same) apart.0 in
          absurd (false≢true (sym (ap is_some off) ∙ rest.0))
      | inr apart ↦ apart
    ] in
    last_key-of (m ∷ ms) p k apart.1 last (rw differ at there)

pub last_key-none : (ns : List (Placed Key)) → last_place ns ≡ None → last_key ns ≡ None
last_key-none ns none = ap last_key (last-none ns none)

pub last_key-is : (ns : List (Placed Key)) (p : ℕ) (k : Key) → AreApart ns → last_place ns ≡ Some p → element_at p ns ≡ Some k → last_key ns ≡ Some k
last_key-is ns p k apart last there = last_key-of ns p k apart last there

-- the last of those in front of a node
pub front_key-is : (at p : ℕ) (ns : List (Placed Key)) (k : Key) → AreApart ns → IsSome (element_at at ns) → last_place (in_front at ns) ≡ Some p → element_at p ns ≡ Some k → last_key (in_front at ns) ≡ Some k
front_key-is at p ns k apart there last found =
    let x = is_some_of (element_at at ns) there in
    let front = in_front at ns in
    let rest = placed at x.0 ∷ behind at ns in
    let cut = split_at at ns x.0 x.1 in
    let apart' : AreApart front = AreApart-front front rest (subst AreApart cut apart) in
    let end = last-there front p apart' last in
    let here : element_at p front ≡ Some k = sym (ap (element_at p) cut ∙ element_at-append_front p front rest end.0) ∙ found in
    last_key-of front p k apart' last here

-- the last key is the first one, read from the last on
pub last-first : (ns : List (Placed Key)) → last_key ns ≡ first_of (reverse (keys_of ns))
last-first [] = refl
last-first (n ∷ []) = refl
last-first (n ∷ m ∷ ms) =
    last-first (m ∷ ms) ∙ sym (ap first_of (reverse-append (n.element ∷ []) (keys_of (m ∷ ms))) ∙ first-front (reverse (keys_of (m ∷ ms))) n.element (some (keys_of ms) m.element))
  where
    first-front : (ks : List Key) (k : Key) → IsSome (first_of ks) → first_of (ks ++ k ∷ []) ≡ first_of ks
    first-front [] k there = absurd (false≢true there)
    first-front (x ∷ xs) k there = refl

    some : (ks : List Key) (k : Key) → IsSome (first_of (reverse (k ∷ ks)))
    some ks k = ap (λ l. is_some (first_of l)) (reverse-append (k ∷ []) ks) ∙ some-end (reverse ks) k
      where
        some-end : (ks : List Key) (k : Key) → IsSome (first_of (ks ++ k ∷ []))
        some-end [] k = refl
        some-end (x ∷ xs) k = refl

-- the key in front of a node's key is that of the last node in front of it
ahead-from : (last : Option Key) (at : ℕ) (k : Key) (ns : List (Placed Key)) → is_distinct (keys_of ns) ≡ true → element_at at ns ≡ Some k
    → ahead_of last k (keys_of ns) ≡ or_else (last_key (in_front at ns)) last
ahead-from last at k [] once there = absurd (cc)
ahead-from last at k (n ∷ ns) once there = elim (cases_true (nat_eq n.place at)) [
  | inl same ↦
      let is : n.element ≡ k = some_is (rw same at there) in
      let test : key_eq n.element k ≡ true = rw is (key_eq-same k) in
      rw (same, test) refl
  | inr differs ↦
      let later : element_at at ns ≡ Some k = rw differs at there in
      let alone : stands_on n.element (keys_of ns) ≡ false = not_true_is _ (and_left _ _ once) in
      let test : key_eq n.element k ≡ false = elim (cases_true (key_eq n.element k)) [
        | inl found ↦ absurd (false≢true (sym alone ∙ subst (λ h. stands_on h (keys_of ns) ≡ true) (sym (key_eq-is n.element k found)) (node-stands at k ns later)))
        | inr passed ↦ passed
      ] in
      rw (differs, test) (ahead-from (Some n.element) at k ns (and_right (not (stands_on n.element (keys_of ns))) _ once) later ∙ grow n (in_front at ns))
]
  where
    grow : (n : Placed Key) (ms : List (Placed Key)) → or_else (last_key ms) (Some n.element) ≡ or_else (last_key (n ∷ ms)) last
    grow n [] = refl
    grow n (m ∷ ms) = same (last_key (m ∷ ms)) (full m ms)
      where
        full : (m : Placed Key) (ms : List (Placed Key)) → IsSome (last_key (m ∷ ms))
        full m [] = refl
        full m (o ∷ os) = full o os

        same : (o : Option Key) → IsSome o → or_else o (Some n.element) ≡ or_else o last
        same None there = absurd (false≢true there)
        same (Some x) there = refl

or_else-none : (o : Option Key) → or_else o None ≡ o
or_else-none None = refl
or_else-none (Some x) = refl

pub ahead-is : (at : ℕ) (k : Key) (ns : List (Placed Key)) → is_distinct (keys_of ns) ≡ true → element_at at ns ≡ Some k → ahead_of None k (keys_of ns) ≡ last_key (in_front at ns)
ahead-is at k ns once there = ahead-from None at k ns once there ∙ or_else-none (last_key (in_front at ns))
