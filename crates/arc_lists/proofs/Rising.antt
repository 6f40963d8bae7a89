-- Rows in no order, put in rising order of their keys: what a table by key is as a rising list, and what a row that comes, goes or changes does to it.
use Rattle.std.proofs.Common.{◌≡◌, true, false, List, [], ◌∷◌, length, map, Option, Some, None, is_some, ◌⊎◌, inl, inr, refl, suc, sym, ap, subst, ◌∙◌, arith}
use Rattle.std.proofs.lemmas.Bool.{false≢true}
use Rattle.blk_ptr.specs.declared.key.Key.{Key}
use Rattle.blk_ptr.specs.Order.{key_eq, key_lt}
use Rattle.blk_ptr.proofs.Keys.{key_eq-is, key_eq-same, key_eq-sym, key_lt-flip}
use Rattle.key_table.specs.PlainTable.{AreApart, Changes, Gains, HasKey, IsAmong, Loses, Row, row}
use Rattle.arc_lists.specs.ByKey.{IsRising, has_key, in_order, item_at, with_change, with_item, without}
use Rattle.arc_lists.proofs.Tables.{cases_true, some_is, absent_below, item-above, IsRising-with_change, IsRising-with_item, IsRising-without, item_at-with_change_other, item_at-with_change_same, item_at-with_item_other, item_at-with_item_same, item_at-without_other, item_at-without_same, length-with_item}

some_or_none : {A : Type 0} (o : Option A) → ((a : A) × (o ≡ Some a)) ⊎ (o ≡ None)
some_or_none None = inr refl
some_or_none (Some a) = inl (a, refl)

some_not_none : {A : Type 0} {a : A} → Some a ≡ None → ⊥
some_not_none e = cc

none_has : {A : Type 0} (o : Option A) → ((a : A) → o ≡ Some a → ⊥) → o ≡ None
none_has None none = refl
none_has (Some a) none = absurd (none a refl)

module _ {X : Type 0} (key_of : X → Key) where
  here : (x : X) (xs : List X) → item_at key_of (key_of x) (x ∷ xs) ≡ Some x
  here x xs = rw (key_eq-same (key_of x)) refl

  past : (k : Key) (x : X) (xs : List X) → key_eq (key_of x) k ≡ false → item_at key_of k (x ∷ xs) ≡ item_at key_of k xs
  past k x xs differs = rw differs refl

  -- two rising lists that have the same item for each key are one
  pub rising-same : (xs ys : List X) → IsRising key_of xs → IsRising key_of ys → ((k : Key) → item_at key_of k xs ≡ item_at key_of k ys) → xs ≡ ys
  rising-same [] [] one two same = refl
  rising-same [] (y ∷ ys) one two same = absurd (some_not_none (sym (here y ys) ∙ sym (same (key_of y))))
  rising-same (x ∷ xs) [] one two same = absurd (some_not_none (sym (here x xs) ∙ same (key_of x)))
  rising-same (x ∷ xs) (y ∷ ys) one two same = elim (cases_true (key_eq (key_of y) (key_of x))) [
    | inl equal ↦
        let key : key_of y ≡ key_of x = key_eq-is (key_of y) (key_of x) equal in
        let at : Some x ≡ Some y = sym (here x xs) ∙ same (key_of x) ∙ ap (λ k. item_at key_of k (y ∷ ys)) (sym key) ∙ here y ys in
        let rest : xs ≡ ys = rising-same xs ys one.1 two.1 (λ k. elim (cases_true (key_eq (key_of x) k)) [
          | inl is ↦
              let first : item_at key_of k xs ≡ None = subst (λ h. item_at key_of h xs ≡ None) (key_eq-is (key_of x) k is) (absent_below key_of (key_of x) xs one.0) in
              let second : item_at key_of k ys ≡ None = subst (λ h. item_at key_of h ys ≡ None) (key ∙ key_eq-is (key_of x) k is) (absent_below key_of (key_of y) ys two.0) in
              first ∙ sym second
          | inr other ↦
              let other' : key_eq (key_of y) k ≡ false = subst (λ h. key_eq h k ≡ false) (sym key) other in
              sym (past k x xs other) ∙ same k ∙ past k y ys other'
        ]) in
        ap (λ z. z ∷ xs) (some_is at) ∙ ap (λ l. y ∷ l) rest
    | inr differ ↦
        let lower : key_lt (key_of y) (key_of x) ≡ true =
        item-above key_of (key_of y) (key_of x) ys x two.0 (sym (past (key_of x) y ys differ) ∙ sym (same (key_of x)) ∙ here x xs) in
        let differ' : key_eq (key_of x) (key_of y) ≡ false = key_eq-sym (key_of x) (key_of y) ∙ differ in
        let upper : key_lt (key_of x) (key_of y) ≡ true =
        item-above key_of (key_of x) (key_of y) xs y one.0 (sym (past (key_of y) x xs differ') ∙ same (key_of y) ∙ here y ys) in
        absurd (false≢true (sym (key_lt-flip (key_of y) (key_of x) lower) ∙ upper))
  ]

  pub length-in_order : (xs : List X) → length (in_order key_of xs) ≡ length xs
  length-in_order [] = refl
  length-in_order (x ∷ xs) = omega (arith, length-with_item key_of x (in_order key_of xs), length-in_order xs)

module _ {K V X : Type 0} (key_of : X → Key) (spell : Key → K) (item : Row K V → X) (spells : (r : Row K V) → spell (key_of (item r)) ≡ r.key) (one : (j k : Key) → spell j ≡ spell k → j ≡ k) where
  -- the items of the rows, in rising order
  abbrev pub listed : List (Row K V) → List X
  listed rows = in_order key_of (map item rows)

  -- an item of the list is that of a row
  pub record FromRow (rows : List (Row K V)) (k : Key) (x : X) : Type 0 where
    pub from : Row K V
    pub among : IsAmong from rows
    pub is : item from ≡ x
    pub key : key_of x ≡ k

  row_key : (r : Row K V) (k : Key) → key_of (item r) ≡ k → r.key ≡ spell k
  row_key r k is = sym (spells r) ∙ ap spell is

  absent-from : (rows : List (Row K V)) (r : Row K V) → ((k : Key) (x : X) → item_at key_of k (listed rows) ≡ Some x → FromRow rows k x) → (HasKey r.key rows → ⊥)
      → has_key key_of (key_of (item r)) (listed rows) ≡ false
  absent-from rows r each none = ap is_some (none_has (item_at key_of (key_of (item r)) (listed rows)) (λ x found.
      let f = each (key_of (item r)) x found in
      let key : f.from.key ≡ r.key = row_key f.from (key_of (item r)) (ap key_of f.is ∙ f.key) ∙ spells r in
      none (f.from.value, subst (λ k. IsAmong (row k f.from.value) rows) key f.among)))

  pub from-row : (rows : List (Row K V)) → AreApart rows → (k : Key) (x : X) → item_at key_of k (listed rows) ≡ Some x → FromRow rows k x
  from-row [] apart k x found = absurd (some_not_none (sym found))
  from-row (r ∷ rows) apart k x found =
      let absent = absent-from rows r (from-row rows apart.1) apart.0 in
      elim (cases_true (key_eq (key_of (item r)) k)) [
        | inl same ↦
            let key : key_of (item r) ≡ k = key_eq-is (key_of (item r)) k same in
            let is : item r ≡ x = some_is (sym (item_at-with_item_same key_of (item r) (listed rows) absent) ∙ ap (λ h. item_at key_of h (listed (r ∷ rows))) key ∙ found) in
            record { from = r; among = inl refl; is = is; key = ap key_of (sym is) ∙ key }
        | inr differs ↦
            let f = from-row rows apart.1 k x (sym (item_at-with_item_other key_of k (item r) (listed rows) differs) ∙ found) in
            record { from = f.from; among = inr f.among; is = f.is; key = f.key }
      ]

  pub absent-row : (rows : List (Row K V)) (r : Row K V) → AreApart rows → (HasKey r.key rows → ⊥) → has_key key_of (key_of (item r)) (listed rows) ≡ false
  absent-row rows r apart none = absent-from rows r (from-row rows apart) none

  -- and each row's item is in the list
  pub row-item : (rows : List (Row K V)) (r : Row K V) → AreApart rows → IsAmong r rows → item_at key_of (key_of (item r)) (listed rows) ≡ Some (item r)
  row-item [] r apart there = absurd there
  row-item (x ∷ rows) r apart (inl e) =
      subst (λ z. item_at key_of (key_of (item z)) (listed (x ∷ rows)) ≡ Some (item z)) e (item_at-with_item_same key_of (item x) (listed rows) (absent-row rows x apart.1 apart.0))
  row-item (x ∷ rows) r apart (inr there) =
      let differs : key_eq (key_of (item x)) (key_of (item r)) ≡ false = elim (cases_true (key_eq (key_of (item x)) (key_of (item r)))) [
        | inl same ↦
            let key : r.key ≡ x.key = sym (spells r) ∙ ap spell (sym (key_eq-is (key_of (item x)) (key_of (item r)) same)) ∙ spells x in
            absurd (apart.0 (r.value, subst (λ k. IsAmong (row k r.value) rows) key there))
        | inr apart ↦ apart
      ] in
      item_at-with_item_other key_of (key_of (item r)) (item x) (listed rows) differs ∙ row-item rows r apart.1 there

  pub rising-listed : (rows : List (Row K V)) → AreApart rows → IsRising key_of (listed rows)
  rising-listed [] apart = tt
  rising-listed (r ∷ rows) apart = IsRising-with_item key_of (item r) (listed rows) (rising-listed rows apart.1) (absent-row rows r apart.1 apart.0)

  pub length-listed : (rows : List (Row K V)) → length (listed rows) ≡ length rows
  length-listed rows = length-in_order key_of (map item rows) ∙ mapped rows
    where
      mapped : (rows : List (Row K V)) → length (map item rows) ≡ length rows
      mapped [] = refl
      mapped (r ∷ rows) = ap (λ n. suc n) (mapped rows)

  -- a key's item is there where its row is
  pub item-there : (rows : List (Row K V)) (k : Key) (r : Row K V) → AreApart rows → IsAmong r rows → key_of (item r) ≡ k → item_at key_of k (listed rows) ≡ Some (item r)
  item-there rows k r apart there is = subst (λ h. item_at key_of h (listed rows) ≡ Some (item r)) is (row-item rows r apart there)

  pub has-row : (rows : List (Row K V)) (k : Key) (x : X) → AreApart rows → item_at key_of k (listed rows) ≡ Some x → HasKey (spell k) rows
  has-row rows k x apart found =
      let f = from-row rows apart k x found in
      (f.from.value, subst (λ h. IsAmong (row h f.from.value) rows) (row_key f.from k (ap key_of f.is ∙ f.key)) f.among)

  -- the item of a key, where the other list has the rows of this one with that key, and no others of it
  same-item : (old new : List (Row K V)) (k : Key) → AreApart old → AreApart new
      → ((r : Row K V) → key_of (item r) ≡ k → IsAmong r old → IsAmong r new) → ((r : Row K V) → key_of (item r) ≡ k → IsAmong r new → IsAmong r old)
      → item_at key_of k (listed new) ≡ item_at key_of k (listed old)
  same-item old new k apart apart' into back = elim (some_or_none (item_at key_of k (listed old))) [
    | inl found ↦
        let f = from-row old apart k found.0 found.1 in
        let at = ap key_of f.is ∙ f.key in
        item-there new k f.from apart' (into f.from at f.among) at ∙ ap (λ z. Some z) f.is ∙ sym found.1
    | inr none ↦ none_has (item_at key_of k (listed new)) (λ x found.
        let f = from-row new apart' k x found in
        let at = ap key_of f.is ∙ f.key in
        some_not_none (sym (item-there old k f.from apart (back f.from at f.among) at) ∙ none)) ∙ sym none
  ]

  -- a row that comes
  pub listed-gains : (old new : List (Row K V)) (r : Row K V) → AreApart old → AreApart new → (HasKey r.key old → ⊥) → Gains old new r → listed new ≡ with_item key_of (item r) (listed old)
  listed-gains old new r apart apart' none gains =
      let absent = absent-row old r apart none in
      rising-same key_of (listed new) (with_item key_of (item r) (listed old)) (rising-listed new apart') (IsRising-with_item key_of (item r) (listed old) (rising-listed old apart) absent)
      (λ k. elim (cases_true (key_eq (key_of (item r)) k)) [
        | inl same ↦
            let is = key_eq-is (key_of (item r)) k same in
            item-there new k r apart' ((gains r).1 (inl refl)) is ∙ sym (subst (λ h. item_at key_of h (with_item key_of (item r) (listed old)) ≡ Some (item r)) is (item_at-with_item_same key_of (item r) (listed old) absent))
        | inr differs ↦
            same-item old new k apart apart' (λ s at there. (gains s).1 (inr there)) (λ s at there. left s k differs at ((gains s).0 there))
            ∙ sym (item_at-with_item_other key_of k (item r) (listed old) differs)
      ])
    where
      left : (s : Row K V) (k : Key) → key_eq (key_of (item r)) k ≡ false → key_of (item s) ≡ k → (s ≡ r) ⊎ IsAmong s old → IsAmong s old
      left s k differs at (inl e) = absurd (false≢true (sym differs ∙ subst (λ h. key_eq h k ≡ true) (sym at ∙ ap (λ z. key_of (item z)) e) (key_eq-same k)))
      left s k differs at (inr there) = there

  -- a row that goes
  pub listed-loses : (old new : List (Row K V)) (k : Key) → AreApart old → AreApart new → Loses old new (spell k) → listed new ≡ without key_of k (listed old)
  listed-loses old new k apart apart' loses =
      rising-same key_of (listed new) (without key_of k (listed old)) (rising-listed new apart') (IsRising-without key_of k (listed old) (rising-listed old apart))
      (λ j. elim (cases_true (key_eq j k)) [
        | inl same ↦
            let is = key_eq-is j k same in
            let none : item_at key_of j (listed new) ≡ None = none_has (item_at key_of j (listed new)) (λ x found.
            let f = from-row new apart' j x found in
            ((loses f.from).0 f.among).0 (row_key f.from k (ap key_of f.is ∙ f.key ∙ is))) in
            none ∙ sym (subst (λ h. item_at key_of h (without key_of k (listed old)) ≡ None) (sym is) (item_at-without_same key_of k (listed old) (rising-listed old apart)))
        | inr differs ↦
            same-item old new j apart apart' (λ s at there. (loses s).1 (λ e. false≢true (sym differs ∙ subst (λ h. key_eq j h ≡ true) (one j k (ap spell (sym at) ∙ spells s ∙ e)) (key_eq-same j)), there))
            (λ s at there. ((loses s).0 there).1)
            ∙ sym (item_at-without_other key_of j k (listed old) differs)
      ])

  -- a row with another value
  pub listed-changes : (old new : List (Row K V)) (r : Row K V) → AreApart old → AreApart new → HasKey r.key old → Changes old new r
      → listed new ≡ with_change key_of (key_of (item r)) (λ _. item r) (listed old)
  listed-changes old new r apart apart' has changes =
      let k = key_of (item r) in
      let keeps : (x : X) → key_eq (key_of x) k ≡ true → key_of (item r) ≡ key_of x = λ x same. sym (key_eq-is (key_of x) k same) in
      let before = row r.key has.0 in
      let at : key_of (item before) ≡ k = one (key_of (item before)) k (spells before ∙ sym (spells r)) in
      rising-same key_of (listed new) (with_change key_of k (λ _. item r) (listed old)) (rising-listed new apart') (IsRising-with_change key_of k (λ _. item r) (listed old) keeps (rising-listed old apart))
      (λ j. elim (cases_true (key_eq j k)) [
        | inl same ↦
            let is = key_eq-is j k same in
            item-there new j r apart' ((changes r).1 (inl refl)) (sym is)
            ∙ sym (subst (λ h. item_at key_of h (with_change key_of k (λ _. item r) (listed old)) ≡ Some (item r)) (sym is)
            (item_at-with_change_same key_of k (λ _. item r) (listed old) (item before) (key_eq-same k) (item-there old k before apart has.1 at)))
        | inr differs ↦
            same-item old new j apart apart'
            (λ s at there. (changes s).1 (inr (λ e. false≢true (sym differs ∙ subst (λ h. key_eq j h ≡ true) (one j k (ap spell (sym at) ∙ spells s ∙ e ∙ sym (spells r))) (key_eq-same j)), there)))
            (λ s at there. left s j differs at ((changes s).0 there))
            ∙ sym (item_at-with_change_other key_of j k (λ _. item r) (listed old) keeps differs)
      ])
    where
      left : (s : Row K V) (j : Key) → key_eq j (key_of (item r)) ≡ false → key_of (item s) ≡ j → (s ≡ r) ⊎ ((s.key ≡ r.key → ⊥) × IsAmong s old) → IsAmong s old
      left s j differs at (inl e) = absurd (false≢true (sym differs ∙ subst (λ h. key_eq j h ≡ true) (sym at ∙ ap (λ z. key_of (item z)) e) (key_eq-same j)))
      left s j differs at (inr both) = both.1
