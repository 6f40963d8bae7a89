-- The rows of keys and the keys in rising order.
use Rattle.std.proofs.Common.{◌≡◌, ℕ, ◌+◌, ◌<◌, IsSome, Bool, true, false, ◌||◌, List, [], ◌∷◌, ◌++◌, length, Option, Some, None, IfSome, IfNone, is_some, inl, inr, refl, sym, ap, subst, ◌∙◌, arith}
use Rattle.std.proofs.lemmas.Bool.{false≢true}
use Rattle.blk_ptr.specs.declared.key.Key.{Key}
use Rattle.blk_ptr.specs.Order.{key_eq}
use Rattle.blk_ptr.proofs.Keys.{key_eq-is, key_eq-same}
use Rattle.key_table.specs.PlainTable.{AreApart, Gains, HasKey, Loses, Row, row}
use Rattle.arc_lists.specs.declared.name.Name.{Name}
use Rattle.arc_lists.specs.ByKey.{with_item}
use Rattle.arc_lists.specs.Sequences.{stands_on}
use Rattle.arc_lists.proofs.Names.{one}
use Rattle.arc_lists.proofs.Rising.{absent-row, length-listed, listed, listed-gains, listed-loses, row-item}
use Rattle.arc_lists.proofs.Tables.{cases_true, length-with_item, length-without}
use Rattle.arc_core.specs.seats.KeyRows.{AreListed, key_in, name}
use Rattle.arc_core.proofs.Feeding.{has_key-stands}

pub spells : (r : Row Name (Unit {0})) → name (key_in r) ≡ r.key
spells r = refl

-- the keys of the rows
abbrev pub named : List (Row Name (Unit {0})) → List Key
named rows = listed (λ (k : Key). k) name key_in spells one rows

pub length-named : (rows : List (Row Name (Unit {0}))) → length (named rows) ≡ length rows
length-named rows = length-listed (λ (k : Key). k) name key_in spells one rows

pub named-there : (rows : List (Row Name (Unit {0}))) (k : Key) → AreApart rows → HasKey (name k) rows → stands_on k (named rows) ≡ true
named-there rows k apart has = sym (has_key-stands k (named rows)) ∙ ap is_some (row-item (λ (j : Key). j) name key_in spells one rows (row (name k) has.0) apart has.1)

pub named-off : (rows : List (Row Name (Unit {0}))) (k : Key) → AreApart rows → (HasKey (name k) rows → ⊥) → stands_on k (named rows) ≡ false
named-off rows k apart none = sym (has_key-stands k (named rows)) ∙ absent-row (λ (j : Key). j) name key_in spells one rows (row (name k) tt) apart none

pub no-name : (rows : List (Row Name (Unit {0}))) (k : Key) → AreApart rows → stands_on k (named rows) ≡ false → HasKey (name k) rows → ⊥
no-name rows k apart off has = false≢true (sym off ∙ named-there rows k apart has)

-- ---- what a look finds

pub found-is : {A : Type 0} (o : Option A) (P : A → Type 0) (rows : List (Row Name (Unit {0}))) (k : Key) → AreApart rows → ((a : A) → P a → HasKey (name k) rows) → IfSome o P → IfNone o (HasKey (name k) rows → ⊥)
    → is_some o ≡ stands_on k (named rows)
found-is None P rows k apart into some none = sym (named-off rows k apart none)
found-is (Some a) P rows k apart into some none = sym (named-there rows k apart (into a some))

pub found-has : {A : Type 0} (o : Option A) (P : A → Type 0) (Q : Type 0) → ((a : A) → P a → Q) → IfSome o P → is_some o ≡ true → Q
found-has None P Q into some is = absurd (false≢true is)
found-has (Some a) P Q into some is = into a some

pub found-none : {A : Type 0} (o : Option A) (Q : Type 0) → IfNone o Q → is_some o ≡ false → Q
found-none None Q none is = none
found-none (Some a) Q none is = absurd (false≢true (sym is))

pub none-stands : (rows : List (Row Name (Unit {0}))) (k : Key) → length rows ≡ 0 → stands_on k (named rows) ≡ false
none-stands [] k none = refl
none-stands (r ∷ rows) k none = absurd (omega (arith, none))

-- ---- a key that comes, and one that goes

pub key-comes : (old new : List (Row Name (Unit {0}))) (k : Key) → AreApart old → AreApart new → stands_on k (named old) ≡ false → Gains old new (row (name k) tt) → named new ≡ with_item (λ (j : Key). j) k (named old)
key-comes old new k apart apart' off gains = listed-gains (λ (j : Key). j) name key_in spells one old new (row (name k) tt) apart apart' (no-name old k apart off) gains

pub longer : (old new : List (Row Name (Unit {0}))) (k : Key) → AreApart old → AreApart new → stands_on k (named old) ≡ false → Gains old new (row (name k) tt) → length new ≡ length old + 1
longer old new k apart apart' off gains =
    omega (arith, length-named old, length-named new, ap length (key-comes old new k apart apart' off gains), length-with_item (λ (j : Key). j) k (named old))

pub shorter : (old new : List (Row Name (Unit {0}))) (k : Key) → AreApart old → AreApart new → HasKey (name k) old → Loses old new (name k) → length new + 1 ≡ length old
shorter old new k apart apart' has loses =
    omega (
      arith,
      length-named old,
      length-named new,
      ap length (listed-loses (λ (j : Key). j) name key_in spells one old new k apart apart' loses),
      length-without (λ (j : Key). j) k (named old) k (row-item (λ (j : Key). j) name key_in spells one old (row (name k) has.0) apart has.1),
    )

-- ---- the list of the keys in the order in which they came

or_right : (a b : Bool) → (a || b) ≡ true → a ≡ false → b ≡ true
or_right true b is off = absurd (false≢true (sym off))
or_right false b is off = is

apart-eq : (j k : Key) → (name k ≡ name j → ⊥) → key_eq j k ≡ false
apart-eq j k differ = elim (cases_true (key_eq j k)) [
  | inl same ↦ absurd (differ (ap name (sym (key_eq-is j k same))))
  | inr differs ↦ differs
]

pub listed-off : (old new : List (Row Name (Unit {0}))) (k : Key) (order : List Key) → AreListed old (k ∷ order) → AreApart new → Loses old new (name k) → AreListed new order
listed-off old new k order listed apart loses = record {
  apart = apart;
  each = λ j has.
      let was = (loses (row (name j) has.0)).0 has.1 in
      or_right (key_eq k j) (stands_on j order) (listed.each j (has.0, was.1)) (apart-eq k j was.0);
}

pub listed-past : (rows : List (Row Name (Unit {0}))) (k : Key) (order : List Key) → AreListed rows (k ∷ order) → (HasKey (name k) rows → ⊥) → AreListed rows order
listed-past rows k order listed none = record {
  apart = listed.apart;
  each = λ j has. or_right (key_eq k j) (stands_on j order) (listed.each j has) (apart-eq k j (λ e. none (subst (λ n. HasKey n rows) e has)));
}

stands-swap : (j k : Key) (order : List Key) → stands_on j (order ++ k ∷ []) ≡ true → stands_on j (k ∷ order) ≡ true
stands-swap j k [] there = there
stands-swap j k (x ∷ xs) there = elim (cases_true (key_eq x j)) [
  | inl same ↦ rw same (or_true (key_eq k j))
  | inr differs ↦ rw differs (stands-swap j k xs (rw differs at there))
]
  where
    or_true : (b : Bool) → (b || true) ≡ true
    or_true true = refl
    or_true false = refl

pub listed-swap : (rows : List (Row Name (Unit {0}))) (all order : List Key) (k : Key) → all ≡ order ++ k ∷ [] → AreListed rows all → AreListed rows (k ∷ order)
listed-swap rows all order k is listed = record { apart = listed.apart; each = λ j has. stands-swap j k order (subst (λ l. stands_on j l ≡ true) is (listed.each j has)) }

pub listed-none : (rows : List (Row Name (Unit {0}))) → AreListed rows [] → rows ≡ []
listed-none [] listed = refl
listed-none (r ∷ rows) listed = absurd (false≢true (listed.each r.key.0 (r.value, inl refl)))

-- where nothing could be taken, nothing is left
pub none-left : (o : Option Key) (xs : List Key) (n : ℕ) → length xs ≡ n → (0 < n → IsSome o) → o ≡ None → xs ≡ []
none-left o [] n len some none = refl
none-left o (x ∷ xs) n len some none = absurd (false≢true (sym (ap is_some none) ∙ some (omega (arith, len))))

stands-end : (j k : Key) (order : List Key) → stands_on j (order ++ k ∷ []) ≡ (stands_on j order || key_eq k j)
stands-end j k [] = or_false (key_eq k j)
  where
    or_false : (b : Bool) → (b || false) ≡ b
    or_false true = refl
    or_false false = refl
stands-end j k (x ∷ xs) = elim (cases_true (key_eq x j)) [
  | inl same ↦ rw same refl
  | inr differs ↦ rw differs (stands-end j k xs)
]

or_true_left : (a b : Bool) → a ≡ true → (a || b) ≡ true
or_true_left a b is = rw is refl

or_true_right : (a b : Bool) → b ≡ true → (a || b) ≡ true
or_true_right true b is = refl
or_true_right false b is = is

pub listed-comes : (old new : List (Row Name (Unit {0}))) (k : Key) (order order' : List Key) → AreListed old order → AreApart new → Gains old new (row (name k) tt) → order' ≡ order ++ k ∷ [] → AreListed new order'
listed-comes old new k order order' listed apart gains is = record {
  apart = apart;
  each = λ j has. sym (ap (stands_on j) (sym is)) ∙ stands-end j k order ∙ elim ((gains (row (name j) has.0)).0 has.1) [
    | inl same ↦
        let at : j ≡ k = ap (λ (r : Row Name (Unit {0})). r.key.0) same in
        or_true_right (stands_on j order) (key_eq k j) (subst (λ h. key_eq k h ≡ true) (sym at) (key_eq-same k))
    | inr before ↦ or_true_left (stands_on j order) (key_eq k j) (listed.each j (has.0, before))
  ];
}

pub no-rows : (rows : List (Row Name (Unit {0}))) → length rows ≡ 0 → rows ≡ []
no-rows [] none = refl
no-rows (r ∷ rows) none = absurd (omega (arith, none))
