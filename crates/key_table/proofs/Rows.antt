-- The rows in a list of slots.
use Rattle.std.proofs.Common.{◌≡◌, ◌≢◌, ℕ, zero, suc, List, [], ◌∷◌, length, get_or, set, Option, Some, None, is_some, count_by, cond, ◌⊎◌, inl, inr, refl, sym, ap, subst, ◌∙◌, arith}
use Rattle.std.proofs.lemmas.List.Sums.{sum_by-cons}
use Rattle.slab.specs.Slab.{Slab, Updates, get, slab_len}
use Rattle.key_table.specs.declared.chain.Slot.{Slot}
use Rattle.key_table.specs.Chains.{row_of, rows_in}
use Rattle.key_table.specs.Indexes.{AreSingle}
use Rattle.key_table.specs.PlainTable.{AreApart, Changes, Gains, IsAmong, Loses, Row, row}
use Rattle.std.proofs.lemmas.Bool.{cases_eq}
use Rattle.key_table.proofs.Places.{some_is, some_not_none}

module _ {K V : Type 0} where
  -- what a slot holds is a row
  pub among-slot : (slots : List (Option (Slot K V))) (p : ℕ) (s : Slot K V) → get_or slots p None ≡ Some s → IsAmong (row_of s) (rows_in slots)
  among-slot [] p s read = absurd (some_not_none (sym read))
  among-slot (None ∷ slots) zero s read = absurd (some_not_none (sym read))
  among-slot (Some t ∷ slots) zero s read = inl (ap (λ z. row_of z) (some_is read))
  among-slot (None ∷ slots) (suc p) s read = among-slot slots p s read
  among-slot (Some t ∷ slots) (suc p) s read = inr (among-slot slots p s read)

  -- and each row is held by a slot
  pub slot-among : (slots : List (Option (Slot K V))) (r : Row K V) → IsAmong r (rows_in slots) → (p : ℕ) × (s : Slot K V) × (get_or slots p None ≡ Some s) × (row_of s ≡ r)
  slot-among [] r there = absurd there
  slot-among (None ∷ slots) r there = let rest = slot-among slots r there in (suc rest.0, rest.1, rest.2, rest.3)
  slot-among (Some t ∷ slots) r (inl e) = (0, t, refl, e)
  slot-among (Some t ∷ slots) r (inr there) = let rest = slot-among slots r there in (suc rest.0, rest.1, rest.2, rest.3)

  apart-in : (slots : List (Option (Slot K V))) → ((p q : ℕ) (a b : Slot K V) → get_or slots p None ≡ Some a → get_or slots q None ≡ Some b → a.key ≡ b.key → p ≡ q)
      → AreApart (rows_in slots)
  apart-in [] single = tt
  apart-in (None ∷ slots) single = apart-in slots (λ p q a b x y e. let same : suc p ≡ suc q = single (suc p) (suc q) a b x y e in omega (arith, same))
  apart-in (Some t ∷ slots) single = (
    λ has.
        let held = slot-among slots (row t.key has.0) has.1 in
        let same : 0 ≡ suc held.0 = single 0 (suc held.0) t held.1 refl held.2 (ap (λ (r : Row K V). r.key) (sym held.3)) in
        omega (arith, same),
    apart-in slots (λ p q a b x y e. let same : suc p ≡ suc q = single (suc p) (suc q) a b x y e in omega (arith, same)),
  )

  -- slots with one key each hold rows that are apart
  pub apart : (s : Slab (Slot K V)) → AreSingle s → AreApart (rows_in s.slots)
  apart s single = apart-in s.slots single

  -- there are as many rows as slots that hold one
  length-rows : (slots : List (Option (Slot K V))) → length (rows_in slots) ≡ count_by is_some slots
  length-rows [] = refl
  length-rows (None ∷ slots) = omega (arith, length-rows slots, sum_by-cons (λ o. cond (is_some o) 1 0) None slots)
  length-rows (Some t ∷ slots) = omega (arith, length-rows slots, sum_by-cons (λ o. cond (is_some o) 1 0) (Some t) slots)

  -- another value in a slot makes no other number of rows
  pub count-set : (slots : List (Option (Slot K V))) (p : ℕ) (a b : Slot K V) → get_or slots p None ≡ Some a → count_by is_some (set slots p (Some b)) ≡ count_by is_some slots
  count-set [] p a b read = refl
  count-set (None ∷ slots) zero a b read = absurd (some_not_none (sym read))
  count-set (Some t ∷ slots) zero a b read =
      omega (arith, sum_by-cons (λ o. cond (is_some o) 1 0) (Some t) slots, sum_by-cons (λ o. cond (is_some o) 1 0) (Some b) slots)
  count-set (None ∷ slots) (suc p) a b read =
      omega (arith, count-set slots p a b read, sum_by-cons (λ o. cond (is_some o) 1 0) None slots, sum_by-cons (λ o. cond (is_some o) 1 0) None (set slots p (Some b)))
  count-set (Some t ∷ slots) (suc p) a b read =
      omega (arith, count-set slots p a b read, sum_by-cons (λ o. cond (is_some o) 1 0) (Some t) slots, sum_by-cons (λ o. cond (is_some o) 1 0) (Some t) (set slots p (Some b)))

  pub len : (s : Slab (Slot K V)) → length (rows_in s.slots) ≡ slab_len s
  len s = length-rows s.slots

  -- a slot that is filled gives a row more
  pub gained : (s t : Slab (Slot K V)) (p : ℕ) (n : Slot K V) → get s p ≡ None → Updates s t p (Some n) → Gains (rows_in s.slots) (rows_in t.slots) (row_of n)
  gained s t p n free updates x = (
    λ there.
        let held = slot-among t.slots x there in
        elim (cases_eq held.0 p) [
          | inl same ↦ inl (sym held.3 ∙ ap (λ z. row_of z) (some_is (sym held.2 ∙ ap (get t) same ∙ updates.changed)))
          | inr differ ↦ inr (subst (λ z. IsAmong z (rows_in s.slots)) held.3 (among-slot s.slots held.0 held.1 (sym (updates.others held.0 differ) ∙ held.2)))
        ],
    λ either. into either,
  )
    where
      into : (x ≡ row_of n) ⊎ IsAmong x (rows_in s.slots) → IsAmong x (rows_in t.slots)
      into (inl new) = subst (λ z. IsAmong z (rows_in t.slots)) (sym new) (among-slot t.slots p n updates.changed)
      into (inr old) =
          let held = slot-among s.slots x old in
          let differ : held.0 ≢ p = λ same. some_not_none (sym held.2 ∙ ap (get s) same ∙ free) in
          subst (λ z. IsAmong z (rows_in t.slots)) held.3 (among-slot t.slots held.0 held.1 (updates.others held.0 differ ∙ held.2))

  -- a slot that is emptied takes its key's row along
  pub lost : (s t : Slab (Slot K V)) (p : ℕ) (n : Slot K V) → AreSingle s → get s p ≡ Some n → Updates s t p None → Loses (rows_in s.slots) (rows_in t.slots) n.key
  lost s t p n single read updates x = (
    λ there.
        let held = slot-among t.slots x there in
        let differ : held.0 ≢ p = λ same. some_not_none (sym held.2 ∙ ap (get t) same ∙ updates.changed) in
        let before : get s held.0 ≡ Some held.1 = sym (updates.others held.0 differ) ∙ held.2 in (
          λ key. differ (single held.0 p held.1 n before read (ap (λ (r : Row K V). r.key) held.3 ∙ key)),
          subst (λ z. IsAmong z (rows_in s.slots)) held.3 (among-slot s.slots held.0 held.1 before),
        ),
    λ both.
        let held = slot-among s.slots x both.1 in
        let differ : held.0 ≢ p = λ same.
        both.0 (ap (λ (r : Row K V). r.key) (sym held.3) ∙ ap (λ (z : Slot K V). z.key) (some_is (sym held.2 ∙ ap (get s) same ∙ read))) in
        subst (λ z. IsAmong z (rows_in t.slots)) held.3 (among-slot t.slots held.0 held.1 (updates.others held.0 differ ∙ held.2)),
  )

  -- a slot whose value is another changes its key's row
  pub changed : (s t : Slab (Slot K V)) (p : ℕ) (n m : Slot K V) → AreSingle s → get s p ≡ Some n → m.key ≡ n.key → Updates s t p (Some m) → Changes (rows_in s.slots) (rows_in t.slots) (row_of m)
  changed s t p n m single read key updates x = (
    λ there.
        let held = slot-among t.slots x there in
        elim (cases_eq held.0 p) [
          | inl same ↦ inl (sym held.3 ∙ ap (λ z. row_of z) (some_is (sym held.2 ∙ ap (get t) same ∙ updates.changed)))
          | inr differ ↦
              let before : get s held.0 ≡ Some held.1 = sym (updates.others held.0 differ) ∙ held.2 in
              inr (
                λ is. differ (single held.0 p held.1 n before read (ap (λ (r : Row K V). r.key) held.3 ∙ is ∙ key)),
                subst (λ z. IsAmong z (rows_in s.slots)) held.3 (among-slot s.slots held.0 held.1 before),
              )
        ],
    λ either. into either,
  )
    where
      into : (x ≡ row_of m) ⊎ ((x.key ≡ m.key → ⊥) × IsAmong x (rows_in s.slots)) → IsAmong x (rows_in t.slots)
      into (inl new) = subst (λ z. IsAmong z (rows_in t.slots)) (sym new) (among-slot t.slots p m updates.changed)
      into (inr both) =
          let held = slot-among s.slots x both.1 in
          let differ : held.0 ≢ p = λ same.
          both.0 (ap (λ (r : Row K V). r.key) (sym held.3) ∙ ap (λ (z : Slot K V). z.key) (some_is (sym held.2 ∙ ap (get s) same ∙ read)) ∙ sym key) in
          subst (λ z. IsAmong z (rows_in t.slots)) held.3 (among-slot t.slots held.0 held.1 (updates.others held.0 differ ∙ held.2))
