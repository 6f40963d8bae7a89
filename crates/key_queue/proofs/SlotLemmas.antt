-- Slots that come, that are emptied and that go, and what becomes of the pairs and the places.
use Rattle.std.proofs.Common.{◌≡◌, ℕ, suc, ◌+◌, ◌<◌, nat_eq, Bool, true, false, ◌&&◌, is_some, MatchOption, List, [], ◌∷◌, ◌++◌, length, get_or, set, Option, Some, None, ◌⊎◌, inl, inr, refl, sym, ap, subst, ◌∙◌, arith, eqb-true, eq-eqb, length-append, drop, ◌-◌, ◌≤◌}
use Rattle.std.proofs.lemmas.Bool.{false≢true, true≢false}
use Rattle.std.proofs.lemmas.List.{append-nil}
use Rattle.key_queue.specs.declared.slot.Slot.{Slot}
use Rattle.key_queue.specs.Pairs.{IsTaken, Lacks}
use Rattle.key_queue.specs.Slots.{IsTrimmed, is_under, pairs, places, with_value}

cases : (b : Bool) → (b ≡ true) ⊎ (b ≡ false)
cases true = inl refl
cases false = inr refl

module _ {X : Type 0} where
  pub put-at : (front back : List X) (x y : X) → set (front ++ x ∷ back) (length front) y ≡ front ++ y ∷ back
  put-at [] back x y = refl
  put-at (z ∷ zs) back x y = ap (λ (l : List X). z ∷ l) (put-at zs back x y)

  pub read-at : (front back : List X) (x d : X) → get_or (front ++ x ∷ back) (length front) d ≡ x
  read-at [] back x d = refl
  read-at (z ∷ zs) back x d = read-at zs back x d

  none-is : (o : Option X) → is_some o ≡ false → o ≡ None
  none-is None e = refl
  none-is (Some x) e = absurd (true≢false e)

  value-of : (o : Option X) → is_some o ≡ true → (x : X) × (o ≡ Some x)
  value-of None e = absurd (false≢true e)
  value-of (Some x) e = (x, refl)

both : (a b : Bool) → a && b ≡ true → (a ≡ true) × (b ≡ true)
both true b e = (refl, e)
both false b e = absurd (false≢true e)

never-cons : {X : Type 0} (x : X) (xs : List X) → [] ≡ x ∷ xs → ⊥
never-cons x xs e = let n : 0 ≡ suc (length xs) = ap length e in omega (arith, n)

module _ {T : Type 0} where
  with_value-append : (n : ℕ) (o : Option T) (xs ys : List (ℕ × T)) → with_value n o (xs ++ ys) ≡ with_value n o xs ++ ys
  with_value-append n None xs ys = refl
  with_value-append n (Some v) xs ys = refl

  pub pairs-append : (a b : List (Slot T)) → pairs (a ++ b) ≡ pairs a ++ pairs b
  pairs-append [] b = refl
  pairs-append (s ∷ ss) b = ap (with_value s.number s.value) (pairs-append ss b) ∙ with_value-append s.number s.value (pairs ss) (pairs b)

  -- the first slot is at its place, or it is not under the number
  listed : (n p : ℕ) (s : Slot T) (ss : List (Slot T)) → is_under n s ≡ true → places n p (s ∷ ss) ≡ p ∷ places n (suc p) ss
  listed n p s ss y = rw y refl

  unlisted : (n p : ℕ) (s : Slot T) (ss : List (Slot T)) → is_under n s ≡ false → places n p (s ∷ ss) ≡ places n (suc p) ss
  unlisted n p s ss differs = rw differs refl

  pub places-append : (n p q : ℕ) (a b : List (Slot T)) → q ≡ p + length a → places n p (a ++ b) ≡ places n p a ++ places n q b
  places-append n p q [] b is = let e : p ≡ q = omega (arith, is) in ap (λ z. places n z b) e
  places-append n p q (s ∷ ss) b is =
      let rest = places-append n (suc p) q ss b (omega (arith, is)) in
      elim (cases (is_under n s)) [
        | inl y ↦ listed n p s (ss ++ b) y ∙ (ap (λ l. p ∷ l) rest ∙ ap (λ l. l ++ places n q b) (sym (listed n p s ss y)))
        | inr differs ↦ unlisted n p s (ss ++ b) differs ∙ (rest ∙ ap (λ l. l ++ places n q b) (sym (unlisted n p s ss differs)))
      ]

  -- a slot without a value is under no number
  empty-under : (n : ℕ) (s : Slot T) → is_some s.value ≡ false → is_under n s ≡ false
  empty-under n s none = elim (cases (nat_eq s.number n)) [
    | inl y ↦ rw (y, none) refl
    | inr differs ↦ rw differs refl
  ]

  -- a slot is under no number but its own
  other-under : (m : ℕ) (s : Slot T) → (m ≡ s.number → ⊥) → is_under m s ≡ false
  other-under m s other = elim (cases (nat_eq s.number m)) [
    | inl y ↦ absurd (other (sym (eqb-true s.number m y)))
    | inr differs ↦ rw differs refl
  ]

  -- ---- a slot comes

  module _ (n p q : ℕ) (ss : List (Slot T)) (v : T) (is : q ≡ p + length ss) where
    abbrev slot : Slot T
    slot = record { number = n; value = Some v }

    pub pushed-places : places n p (ss ++ slot ∷ []) ≡ places n p ss ++ q ∷ []
    pushed-places = places-append n p q ss (slot ∷ []) is ∙ ap (λ l. places n p ss ++ l) (listed n q slot [] same)
      where
        same : is_under n slot ≡ true
        same = rw (eq-eqb n n refl) refl

    pub pushed-others : (m : ℕ) → (m ≡ n → ⊥) → places m p (ss ++ slot ∷ []) ≡ places m p ss
    pushed-others m other = places-append m p q ss (slot ∷ []) is ∙ (ap (λ l. places m p ss ++ l) (unlisted m q slot [] (other-under m slot other)) ∙ append-nil (places m p ss))

  -- ---- a slot is emptied

  -- the oldest slot under a number
  pub record IsCut (n p q : ℕ) (ps : List ℕ) (ss : List (Slot T)) : Type 0 where
    pub front : List (Slot T)
    pub back : List (Slot T)
    pub slot : Slot T
    pub value : T
    pub is : ss ≡ front ++ slot ∷ back
    pub place : q ≡ p + length front
    pub number : slot.number ≡ n
    pub held : slot.value ≡ Some value
    pub before : places n p front ≡ []
    pub rest : ps ≡ places n (suc q) back

  pub cut : (n p q : ℕ) (ps : List ℕ) (ss : List (Slot T)) → places n p ss ≡ q ∷ ps → IsCut n p q ps ss
  cut n p q ps [] e = absurd (never-cons q ps e)
  cut n p q ps (s ∷ ss) e = elim (cases (is_under n s)) [
    | inl y ↦
        let are : p ∷ places n (suc p) ss ≡ q ∷ ps = sym (listed n p s ss y) ∙ e in
        let first : p ≡ q = ap (λ l. get_or l 0 0) are in
        let under = both (nat_eq s.number n) (is_some s.value) y in
        let v = value-of s.value under.1 in
        record {
          front = [];
          back = ss;
          slot = s;
          value = v.0;
          is = refl;
          place = omega (arith, first);
          number = eqb-true s.number n under.0;
          held = v.1;
          before = refl;
          rest = sym (ap (λ l. drop 1 l) are) ∙ ap (λ z. places n (suc z) ss) first;
        }
    | inr differs ↦
        let later = cut n (suc p) q ps ss (sym (unlisted n p s ss differs) ∙ e) in
        record {
          front = s ∷ later.front;
          back = later.back;
          slot = later.slot;
          value = later.value;
          is = ap (λ (l : List (Slot T)). s ∷ l) later.is;
          place = omega (arith, later.place);
          number = later.number;
          held = later.held;
          before = unlisted n p s later.front differs ∙ later.before;
          rest = later.rest;
        }
  ]

  with_value-lacks : (n k : ℕ) (o : Option T) (xs : List (ℕ × T)) → nat_eq k n && is_some o ≡ false → Lacks n xs → Lacks n (with_value k o xs)
  with_value-lacks n k None xs e rest = rest
  with_value-lacks n k (Some v) xs e rest = (λ same. true≢false (sym (rw (eq-eqb k n same) refl) ∙ e), rest)

  -- without a place a number has no pair
  pub lacks : (n p : ℕ) (ss : List (Slot T)) → places n p ss ≡ [] → Lacks n (pairs ss)
  lacks n p [] e = tt
  lacks n p (s ∷ ss) e = elim (cases (is_under n s)) [
    | inl y ↦ absurd (never-cons p (places n (suc p) ss) (sym e ∙ listed n p s ss y))
    | inr differs ↦ with_value-lacks n s.number s.value (pairs ss) differs (lacks n (suc p) ss (sym (unlisted n p s ss differs) ∙ e))
  ]

  module _ (n p q : ℕ) (ps : List ℕ) (ss : List (Slot T)) (c : IsCut n p q ps ss) where
    abbrev pub emptied : Slot T
    emptied = record c.slot { value = None }

    abbrev pub remaining : List (Slot T)
    remaining = c.front ++ emptied ∷ c.back

    pub cut-set : set ss (q - p) emptied ≡ remaining
    cut-set =
        let e : q - p ≡ length c.front = omega (arith, c.place) in
        rw (e, c.is) (put-at c.front c.back c.slot emptied)

    pub cut-read : (d : Slot T) → get_or ss (q - p) d ≡ c.slot
    cut-read d =
        let e : q - p ≡ length c.front = omega (arith, c.place) in
        rw (e, c.is) (read-at c.front c.back c.slot d)

    pub cut-within : q - p < length ss
    cut-within = let l = length-append c.front (c.slot ∷ c.back) in let a = ap (λ l. length l) c.is in omega (arith, c.place, l, a)

    pub cut-after : p ≤ q
    cut-after = omega (arith, c.place)

    -- the places of this number are the rest, and those of every other stay
    pub cut-places : places n p remaining ≡ ps
    cut-places = places-append n p q c.front (emptied ∷ c.back) c.place
        ∙ (ap (λ l. l ++ places n q (emptied ∷ c.back)) c.before ∙ (unlisted n q emptied c.back (empty-under n emptied refl) ∙ sym c.rest))

    pub cut-others : (m : ℕ) → (m ≡ n → ⊥) → places m p remaining ≡ places m p ss
    cut-others m other =
        let gone = unlisted m q emptied c.back (empty-under m emptied refl) in
        let kept = unlisted m q c.slot c.back (other-under m c.slot (λ same. other (same ∙ c.number))) in
        places-append m p q c.front (emptied ∷ c.back) c.place
        ∙ (ap (λ l. places m p c.front ++ l) (gone ∙ sym kept) ∙ (sym (places-append m p q c.front (c.slot ∷ c.back) c.place) ∙ ap (λ l. places m p l) (sym c.is)))

    pub cut-taken : IsTaken n c.value (pairs ss) (pairs remaining)
    cut-taken = record {
      front = pairs c.front;
      back = pairs c.back;
      before = ap (λ l. pairs l) c.is
          ∙ (pairs-append c.front (c.slot ∷ c.back)
          ∙ (ap (λ o. pairs c.front ++ with_value c.slot.number o (pairs c.back)) c.held ∙ ap (λ (k : ℕ). pairs c.front ++ (k, c.value) ∷ pairs c.back) c.number));
      after = pairs-append c.front (emptied ∷ c.back);
      oldest = lacks n p c.front c.before;
    }

  -- ---- the first pair

  -- where the first slot has a value it has one still when another value comes
  pub trimmed-pushed : (ss : List (Slot T)) (n : ℕ) (v : T) → IsTrimmed ss → IsTrimmed (ss ++ record { number = n; value = Some v } ∷ [])
  trimmed-pushed [] n v trim = refl
  trimmed-pushed (x ∷ xs) n v trim = trim

  -- where the first slot has a value, its pair is the first
  pub first-pair : (ss : List (Slot T)) (s : Slot T) → 0 < length ss → s ≡ get_or ss 0 s → IsTrimmed ss → (w : T) × (xs : List (ℕ × T)) × (pairs ss ≡ (s.number, w) ∷ xs)
  first-pair [] s some is trim = absurd (omega (arith, some))
  first-pair (x ∷ xs) s some is trim =
      let v = value-of x.value trim in
      (v.0, pairs xs, ap (λ o. with_value x.number o (pairs xs)) v.1 ∙ ap (λ (z : Slot T). (z.number, v.0) ∷ pairs xs) (sym is))

  module _ (n : ℕ) (v w : T) (xs old new : List (ℕ × T)) (is : old ≡ (n, w) ∷ xs) where
    first-from : (front back : List (ℕ × T)) → old ≡ front ++ (n, v) ∷ back → new ≡ front ++ back → Lacks n front → old ≡ (n, v) ∷ new
    first-from [] back before then oldest = before ∙ ap (λ l. (n, v) ∷ l) (sym then)
    first-from (x ∷ front) back before then oldest = absurd (oldest.0 (ap (λ (l : List (ℕ × T)). (get_or l 0 (n, w)).0) (sym before ∙ is)))

    first-taken : IsTaken n v old new → old ≡ (n, v) ∷ new
    first-taken t = first-from t.front t.back t.before t.after t.oldest

    first-there : Lacks n old → ⊥
    first-there none = (subst (Lacks n) is none).0 refl

  -- what is taken of the first pair's number is the first pair
  pub first-popped : (n : ℕ) (w : T) (xs all old new : List (ℕ × T)) → all ≡ old → old ≡ (n, w) ∷ xs → (r : Option T)
      → MatchOption r (Lacks n old × (new ≡ old)) (λ v. IsTaken n v old new) → MatchOption r ((all ≡ []) × (new ≡ [])) (λ v. (k : ℕ) × (all ≡ (k, v) ∷ new))
  first-popped n w xs all old new same is None answer = absurd (first-there n w w xs old new is answer.0)
  first-popped n w xs all old new same is (Some v) answer = (n, same ∙ first-taken n v w xs old new is answer)
