-- The nodes of the picks, and the rows by which they are found.
use Rattle.std.proofs.Common.{◌≡◌, ◌≢◌, ℕ, ◌+◌, ◌<◌, true, false, nat_eq, List, [], ◌∷◌, ◌++◌, length, map, reverse, Some, None, is_some, inl, inr, refl, sym, ap, subst, ◌∙◌, arith}
use Rattle.std.specs.Prelude.{sum_by}
use Rattle.std.proofs.lemmas.Bool.{eqb-true}
use Rattle.std.proofs.lemmas.List.{reverse-append}
use Rattle.std.proofs.lemmas.List.Sums.{sum_by-cons}
use Rattle.blk_ptr.specs.declared.key.Key.{Key}
use Rattle.blk_ptr.specs.Order.{key_eq}
use Rattle.blk_ptr.proofs.Keys.{key_eq-is, key_eq-same}
use Rattle.arc_links.specs.PlainLinks.{AreApart, Placed, element_at, last_place, placed, without_place}
use Rattle.arc_links.proofs.Places.{AreApart-without, element_at-head, element_at-other, element_at-without_other, element_at-without_same, none_is, without_place-absent}
use Rattle.key_table.specs.PlainTable.{AreApart as AreRowsApart, Gains, HasKey, IsAmong, Loses, Row, row}
use Rattle.arc_lists.specs.declared.name.Name.{Name}
use Rattle.arc_lists.specs.Walks.{first_of}
use Rattle.arc_lists.proofs.Tables.{cases_true, some_is}
use Rattle.arc_core.specs.declared.entry.Picked.{Picked}
use Rattle.arc_core.specs.Changes.{pick_of, without_pick}
use Rattle.arc_core.specs.seats.KeyRows.{name}
use Rattle.arc_core.specs.PickPlaces.{AreIndexed}
use Rattle.arc_core.proofs.Feeding.{pick_of-append}

-- the picks of some nodes, in their order
abbrev pub in_order : List (Placed Picked) → List Picked
in_order nodes = reverse (map (λ (n : Placed Picked). n.element) nodes)

pub in_order-head : (n : Placed Picked) (ns : List (Placed Picked)) → in_order (n ∷ ns) ≡ in_order ns ++ n.element ∷ []
in_order-head n ns = reverse-append (n.element ∷ []) (map (λ (m : Placed Picked). m.element) ns)

-- ---- the last pick

pick-front : (k : Key) (x p : Picked) (xs : List Picked) → pick_of k xs ≡ Some x → pick_of k (xs ++ p ∷ []) ≡ Some x
pick-front k x p [] is = cc
pick-front k x p (y ∷ ys) is = elim (cases_true (key_eq y.key k)) [
  | inl same ↦ rw same (rw same at is)
  | inr differs ↦ rw differs (pick-front k x p ys (rw differs at is))
]

pick-last : (k : Key) (p : Picked) (xs : List Picked) → pick_of k xs ≡ None → key_eq p.key k ≡ true → pick_of k (xs ++ p ∷ []) ≡ Some p
pick-last k p [] none is = rw is refl
pick-last k p (y ∷ ys) none is = elim (cases_true (key_eq y.key k)) [
  | inl same ↦ absurd (cc (rw same at none))
  | inr differs ↦ rw differs (pick-last k p ys (rw differs at none) is)
]

pick-none : (k : Key) (p : Picked) (xs : List Picked) → pick_of k xs ≡ None → key_eq p.key k ≡ false → pick_of k (xs ++ p ∷ []) ≡ None
pick-none k p xs none other = none_is (pick_of k (xs ++ p ∷ [])) (pick_of-append k xs p (ap is_some none) other)

without-front : (k : Key) (x p : Picked) (xs : List Picked) → pick_of k xs ≡ Some x → without_pick k (xs ++ p ∷ []) ≡ without_pick k xs ++ p ∷ []
without-front k x p [] is = absurd (cc)
without-front k x p (y ∷ ys) is = elim (cases_true (key_eq y.key k)) [
  | inl same ↦ rw same refl
  | inr differs ↦ rw differs (ap (λ l. y ∷ l) (without-front k x p ys (rw differs at is)))
]

without-last : (k : Key) (p : Picked) (xs : List Picked) → pick_of k xs ≡ None → key_eq p.key k ≡ true → without_pick k (xs ++ p ∷ []) ≡ xs
without-last k p [] none is = rw is refl
without-last k p (y ∷ ys) none is = elim (cases_true (key_eq y.key k)) [
  | inl same ↦ absurd (cc (rw same at none))
  | inr differs ↦ rw differs (ap (λ l. y ∷ l) (without-last k p ys (rw differs at none) is))
]

-- ---- a pick that goes

pub without-none : (k : Key) (xs : List Picked) → pick_of k xs ≡ None → without_pick k xs ≡ xs
without-none k [] none = refl
without-none k (y ∷ ys) none = elim (cases_true (key_eq y.key k)) [
  | inl same ↦ absurd (cc (rw same at none))
  | inr differs ↦ rw differs (ap (λ l. y ∷ l) (without-none k ys (rw differs at none)))
]

pub bytes-without : (k : Key) (x : Picked) (xs : List Picked) → pick_of k xs ≡ Some x
    → sum_by (λ (p : Picked). p.key.size) (without_pick k xs) + x.key.size ≡ sum_by (λ (p : Picked). p.key.size) xs
bytes-without k x [] is = absurd (cc)
bytes-without k x (y ∷ ys) is = elim (cases_true (key_eq y.key k)) [
  | inl same ↦
      let here : y ≡ x = some_is (rw same at is) in
      rw same (omega (arith, sum_by-cons (λ (p : Picked). p.key.size) y ys, ap (λ (p : Picked). p.key.size) here))
  | inr differs ↦
      rw differs
      (omega (
        arith,
        bytes-without k x ys (rw differs at is),
        sum_by-cons (λ (p : Picked). p.key.size) y ys,
        sum_by-cons (λ (p : Picked). p.key.size) y (without_pick k ys),
      ))
]

-- the first pick is one of them
pub fewer : (k : Key) (xs : List Picked) → Some k ≡ first_of (map (λ (p : Picked). p.key) xs) → length (without_pick k xs) < length xs
fewer k [] is = absurd (cc)
fewer k (y ∷ ys) is =
    let test : key_eq y.key k ≡ true = subst (λ j. key_eq y.key j ≡ true) (sym (some_is is)) (key_eq-same y.key) in
    rw test (omega arith)

pub none-first : (xs : List Picked) → None ≡ first_of (map (λ (p : Picked). p.key) xs) → xs ≡ []
none-first [] is = refl
none-first (y ∷ ys) is = absurd (cc)

-- ---- the nodes

-- a pick of the key stands at this place alone
abbrev pub IsOnlyAt : Key → ℕ → List (Placed Picked) → Type 0
IsOnlyAt k at nodes = (p : ℕ) (y : Picked) → element_at p nodes ≡ Some y → key_eq y.key k ≡ true → p ≡ at

place-differs : (p q : ℕ) (y : Picked) (ns : List (Placed Picked)) → element_at p ns ≡ None → element_at q ns ≡ Some y → p ≢ q
place-differs p q y ns free there same = absurd (cc (sym there ∙ ap (λ z. element_at z ns) (sym same) ∙ free))

-- what stands at a place does so behind one more node
later : (q : ℕ) (y : Picked) (n : Placed Picked) (ns : List (Placed Picked)) → element_at n.place ns ≡ None → element_at q ns ≡ Some y → element_at q (n ∷ ns) ≡ Some y
later q y n ns free there = element_at-other q n ns (place-differs n.place q y ns free there) ∙ there

only-behind : (k : Key) (at : ℕ) (n : Placed Picked) (ns : List (Placed Picked)) → element_at n.place ns ≡ None → IsOnlyAt k at (n ∷ ns) → IsOnlyAt k at ns
only-behind k at n ns free only p y there same = only p y (later p y n ns free there) same

-- a key that no node has is not picked
pub node-none : (k : Key) (ns : List (Placed Picked)) → AreApart ns → ((p : ℕ) (y : Picked) → element_at p ns ≡ Some y → key_eq y.key k ≡ true → ⊥) → pick_of k (in_order ns) ≡ None
node-none k [] apart none = refl
node-none k (n ∷ ns) apart none =
    let rest = node-none k ns apart.1 (λ p y there same. none p y (later p y n ns apart.0 there) same) in
    ap (pick_of k) (in_order-head n ns) ∙ elim (cases_true (key_eq n.element.key k)) [
      | inl same ↦ absurd (none n.place n.element (element_at-head n ns) same)
      | inr differs ↦ pick-none k n.element (in_order ns) rest differs
    ]

-- behind the only node of a key it has no other one
none-behind : (k : Key) (at : ℕ) (n : Placed Picked) (ns : List (Placed Picked)) → AreApart (n ∷ ns) → IsOnlyAt k at (n ∷ ns) → n.place ≡ at → pick_of k (in_order ns) ≡ None
none-behind k at n ns apart only here =
    node-none k ns apart.1 (λ p y there same. place-differs n.place p y ns apart.0 there (here ∙ sym (only p y (later p y n ns apart.0 there) same)))

-- the pick of a key is what its only node has
pub node-pick : (k : Key) (at : ℕ) (x : Picked) (ns : List (Placed Picked)) → AreApart ns → IsOnlyAt k at ns → element_at at ns ≡ Some x → key_eq x.key k ≡ true → pick_of k (in_order ns) ≡ Some x
node-pick k at x [] apart only there is = absurd (cc)
node-pick k at x (n ∷ ns) apart only there is =
    ap (pick_of k) (in_order-head n ns) ∙ elim (cases_true (nat_eq n.place at)) [
      | inl same ↦
          let here : n.element ≡ x = some_is (rw same at there) in
          pick-last k n.element (in_order ns) (none-behind k at n ns apart only (eqb-true _ _ same)) (subst (λ (p : Picked). key_eq p.key k ≡ true) (sym here) is)
          ∙ ap (λ p. Some p) here
      | inr differs ↦ pick-front k x n.element (in_order ns) (node-pick k at x ns apart.1 (only-behind k at n ns apart.0 only) (rw differs at there) is)
    ]

-- without its only node a key isn't picked, and the other picks are as before
pub node-gone : (k : Key) (at : ℕ) (x : Picked) (ns : List (Placed Picked)) → AreApart ns → IsOnlyAt k at ns → element_at at ns ≡ Some x → key_eq x.key k ≡ true
    → in_order (without_place at ns) ≡ without_pick k (in_order ns)
node-gone k at x [] apart only there is = absurd (cc)
node-gone k at x (n ∷ ns) apart only there is = elim (cases_true (nat_eq n.place at)) [
  | inl same ↦
      let here : n.place ≡ at = eqb-true _ _ same in
      let element : n.element ≡ x = some_is (rw same at there) in
      let off : element_at at ns ≡ None = subst (λ p. element_at p ns ≡ None) here apart.0 in
      rw same
      (ap in_order (without_place-absent at ns off)
      ∙ sym (without-last k n.element (in_order ns) (none-behind k at n ns apart only here) (subst (λ (p : Picked). key_eq p.key k ≡ true) (sym element) is))
      ∙ ap (without_pick k) (sym (in_order-head n ns)))
  | inr differs ↦
      let rest : element_at at ns ≡ Some x = rw differs at there in
      let only' = only-behind k at n ns apart.0 only in
      rw differs
      (in_order-head n (without_place at ns) ∙ ap (λ l. l ++ n.element ∷ []) (node-gone k at x ns apart.1 only' rest is)
      ∙ sym (without-front k x n.element (in_order ns) (node-pick k at x ns apart.1 only' rest is)) ∙ ap (without_pick k) (sym (in_order-head n ns)))
]

-- ---- the last node has the first pick

-- the pick at a place is the first one
pub record IsFirst (at : ℕ) (ns : List (Placed Picked)) : Type 0 where
  pub pick : Picked
  pub there : element_at at ns ≡ Some pick
  pub first : first_of (map (λ (p : Picked). p.key) (in_order ns)) ≡ Some pick.key

first-front : (k : Key) (xs : List Picked) (p : Picked) → first_of (map (λ (q : Picked). q.key) xs) ≡ Some k → first_of (map (λ (q : Picked). q.key) (xs ++ p ∷ [])) ≡ Some k
first-front k [] p is = absurd (cc)
first-front k (x ∷ xs) p is = is

pub last-first : (at : ℕ) (ns : List (Placed Picked)) → AreApart ns → Some at ≡ last_place ns → IsFirst at ns
last-first at [] apart is = absurd (cc)
last-first at (n ∷ []) apart is =
    subst (λ p. IsFirst p (n ∷ [])) (sym (some_is is)) (record { pick = n.element; there = element_at-head n []; first = refl })
last-first at (n ∷ m ∷ ms) apart is =
    let rest = last-first at (m ∷ ms) apart.1 is in
    record {
      pick = rest.pick;
      there = later at rest.pick n (m ∷ ms) apart.0 rest.there;
      first = ap (λ l. first_of (map (λ (p : Picked). p.key) l)) (in_order-head n (m ∷ ms)) ∙ first-front rest.pick.key (in_order (m ∷ ms)) n.element rest.first;
    }

pub first-none : (ns : List (Placed Picked)) → None ≡ last_place ns → None ≡ first_of (map (λ (p : Picked). p.key) (in_order ns))
first-none [] is = refl
first-none (n ∷ []) is = absurd (cc)
first-none (n ∷ m ∷ ms) is = absurd (no-last m ms is)
  where
    no-last : (m : Placed Picked) (ms : List (Placed Picked)) → None ≡ last_place (m ∷ ms) → ⊥
    no-last m [] is = cc
    no-last m (o ∷ os) is = no-last o os is

-- ---- the rows

-- a key has one row
one-row : (rows : List (Row Name ℕ)) (k : Key) (p q : ℕ) → AreRowsApart rows → IsAmong (row (name k) p) rows → IsAmong (row (name k) q) rows → p ≡ q
one-row [] k p q apart one other = absurd one
one-row (r ∷ rows) k p q apart (inl e) (inl f) = ap (λ (w : Row Name ℕ). w.value) (sym e ∙ f)
one-row (r ∷ rows) k p q apart (inl e) (inr f) = absurd (apart.0 (q, subst (λ j. IsAmong (row j q) rows) (sym (ap (λ (w : Row Name ℕ). w.key) e)) f))
one-row (r ∷ rows) k p q apart (inr e) (inl f) = absurd (apart.0 (p, subst (λ j. IsAmong (row j p) rows) (sym (ap (λ (w : Row Name ℕ). w.key) f)) e))
one-row (r ∷ rows) k p q apart (inr e) (inr f) = one-row rows k p q apart.1 e f

-- a node's row by its key
row-of : (nodes : List (Placed Picked)) (rows : List (Row Name ℕ)) (at : ℕ) (pick : Picked) (k : Key) → AreIndexed nodes rows → element_at at nodes ≡ Some pick → pick.key ≡ k → IsAmong (row (name k) at) rows
row-of nodes rows at pick k indexed there is = subst (λ j. IsAmong (row (name j) at) rows) is (indexed.listed at pick there)

pub only-at : (nodes : List (Placed Picked)) (rows : List (Row Name ℕ)) (k : Key) (at : ℕ) → AreIndexed nodes rows → IsAmong (row (name k) at) rows → IsOnlyAt k at nodes
only-at nodes rows k at indexed among p y there same = one-row rows k p at indexed.rows_apart (row-of nodes rows p y k indexed there (key_eq-is y.key k same)) among

-- the pick of a key that has a row
pub found : (nodes : List (Placed Picked)) (rows : List (Row Name ℕ)) (k : Key) (at : ℕ) (x : Picked) → AreIndexed nodes rows → IsAmong (row (name k) at) rows → element_at at nodes ≡ Some x
    → pick_of k (in_order nodes) ≡ Some x
found nodes rows k at x indexed among there =
    let p = indexed.placed k at among in
    let is : p.0 ≡ x = some_is (sym p.1 ∙ there) in
    node-pick k at x nodes indexed.apart (only-at nodes rows k at indexed among) there (subst (λ (y : Picked). key_eq y.key k ≡ true) is (subst (λ j. key_eq p.0.key j ≡ true) p.2 (key_eq-same p.0.key)))

-- and of one that has none
pub not-found : (nodes : List (Placed Picked)) (rows : List (Row Name ℕ)) (k : Key) → AreIndexed nodes rows → (HasKey (name k) rows → ⊥) → pick_of k (in_order nodes) ≡ None
not-found nodes rows k indexed none =
    node-none k nodes indexed.apart (λ p y there same. none (p, row-of nodes rows p y k indexed there (key_eq-is y.key k same)))

-- a key that isn't picked has no row
pub no-row : (nodes : List (Placed Picked)) (rows : List (Row Name ℕ)) (k : Key) → AreIndexed nodes rows → pick_of k (in_order nodes) ≡ None → HasKey (name k) rows → ⊥
no-row nodes rows k indexed none has =
    let p = indexed.placed k has.0 has.1 in
    absurd (cc (sym (found nodes rows k has.0 p.0 indexed has.1 p.1) ∙ none))

pub gone : (nodes : List (Placed Picked)) (rows : List (Row Name ℕ)) (k : Key) (at : ℕ) (x : Picked) → AreIndexed nodes rows → IsAmong (row (name k) at) rows → element_at at nodes ≡ Some x
    → in_order (without_place at nodes) ≡ without_pick k (in_order nodes)
gone nodes rows k at x indexed among there =
    let p = indexed.placed k at among in
    let is : p.0 ≡ x = some_is (sym p.1 ∙ there) in
    node-gone k at x nodes indexed.apart (only-at nodes rows k at indexed among) there (subst (λ (y : Picked). key_eq y.key k ≡ true) is (subst (λ j. key_eq p.0.key j ≡ true) p.2 (key_eq-same p.0.key)))

-- ---- a pick that comes, and one that goes

pub comes : (nodes : List (Placed Picked)) (old new : List (Row Name ℕ)) (at : ℕ) (pick : Picked) → AreIndexed nodes old → element_at at nodes ≡ None → AreRowsApart new → Gains old new (row (name pick.key) at)
    → AreIndexed (placed at pick ∷ nodes) new
comes nodes old new at pick indexed free apart gains = record {
  apart = (free, indexed.apart);
  rows_apart = apart;
  placed = λ k q among. elim ((gains (row (name k) q)).0 among) [
    | inl is ↦
        let key : pick.key ≡ k = ap (λ (w : Row Name ℕ). w.key.0) (sym is) in
        let place : at ≡ q = ap (λ (w : Row Name ℕ). w.value) (sym is) in
        (pick, subst (λ p. element_at p (placed at pick ∷ nodes) ≡ Some pick) place (element_at-head (placed at pick) nodes), key)
    | inr before ↦
        let p = indexed.placed k q before in
        (p.0, later q p.0 (placed at pick) nodes free p.1, p.2)
  ];
  listed = λ q y there. elim (cases_true (nat_eq at q)) [
    | inl same ↦
        let is : pick ≡ y = some_is (rw same at there) in
        let place : at ≡ q = eqb-true _ _ same in
        (gains (row (name y.key) q)).1 (inl (ap (λ (p : Picked). row (name p.key) q) (sym is) ∙ ap (λ p. row (name pick.key) p) (sym place)))
    | inr differs ↦ (gains (row (name y.key) q)).1 (inr (indexed.listed q y (rw differs at there)))
  ];
}

pub goes : (nodes : List (Placed Picked)) (old new : List (Row Name ℕ)) (k : Key) (at : ℕ) → AreIndexed nodes old → IsAmong (row (name k) at) old → AreRowsApart new → Loses old new (name k)
    → AreIndexed (without_place at nodes) new
goes nodes old new k at indexed among apart loses = record {
  apart = AreApart-without at nodes indexed.apart;
  rows_apart = apart;
  placed = λ j q there.
      let was = (loses (row (name j) q)).0 there in
      let p = indexed.placed j q was.1 in
      let here = indexed.placed k at among in
      let differ : q ≢ at = λ e.
      let same : p.0 ≡ here.0 = some_is (sym p.1 ∙ ap (λ z. element_at z nodes) e ∙ here.1) in
      was.0 (ap name (sym p.2 ∙ ap (λ (y : Picked). y.key) same ∙ here.2)) in
      (p.0, element_at-without_other q at nodes differ ∙ p.1, p.2);
  listed = λ q y there.
      let differ : q ≢ at = λ e. absurd (cc (sym there ∙ ap (λ z. element_at z (without_place at nodes)) e ∙ element_at-without_same at nodes)) in
      let before = indexed.listed q y (sym (element_at-without_other q at nodes differ) ∙ there) in
      (loses (row (name y.key) q)).1 (λ e. differ (one-row old k q at indexed.rows_apart (subst (λ n. IsAmong (row n q) old) e before) among), before);
}
