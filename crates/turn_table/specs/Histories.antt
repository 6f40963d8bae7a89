-- Histories behind turns that only grow, told by the numbers of turns and parties: what each party has seen of them, and whose each entry is. A rule over turns may have this as a part.
use Rattle.std.specs.Prelude.{◌≡◌, ◌⊎◌, ◌==◌, if◌then◌else◌, ℕ, zero, suc, ◌<◌, List, [], ◌∷◌, length, nat_lt, slice_get, Some}
use mathlib.Core.List.{IsPrefix}

module _ {A : Type 0} where
  -- what was seen of the history of the turn i
  abbrev pub front_of : ℕ → List (List A) → List A
  front_of i [] = []
  front_of zero (x ∷ xs) = x
  front_of (suc i) (x ∷ xs) = front_of i xs

  -- h was seen of the turn i
  abbrev pub put : ℕ → List A → List (List A) → List (List A)
  put zero h [] = h ∷ []
  put zero h (x ∷ xs) = h ∷ xs
  put (suc i) h [] = [] ∷ put i h []
  put (suc i) h (x ∷ xs) = x ∷ put i h xs

  abbrev pub longer : List A → List A → List A
  longer x y = if nat_lt (length x) (length y) then y else x

  -- of each history the longer of what two have seen
  abbrev pub seen_by_both : List (List A) → List (List A) → List (List A)
  seen_by_both [] ys = ys
  seen_by_both (x ∷ xs) [] = x ∷ xs
  seen_by_both (x ∷ xs) (y ∷ ys) = longer x y ∷ seen_by_both xs ys

-- Of the entries of a history, and of what a party has written down of an entry of its own: the turn, the place in that turn's history, and whether it fits the entry
module _ {A M : Type 0} (turn_of place_of : M → ℕ) (fits : M → A → Type 0) where
  -- one of these stands at the place p of the turn i
  abbrev pub HasPlace : ℕ → ℕ → List M → Type 0
  HasPlace i p [] = ⊥
  HasPlace i p (m ∷ ms) = ((turn_of m ≡ i) × (place_of m ≡ p)) ⊎ HasPlace i p ms

  -- an entry that m fits stands where m says
  abbrev pub IsAt : (ℕ → List A) → M → Type 0
  IsAt history m = (x : A) × (slice_get (history (turn_of m)) (place_of m) ≡ Some x) × fits m x

  -- each of these stands where it says, in what the party n has seen, and the place is n's
  abbrev pub AllStand : (ℕ → List A) → (ℕ → ℕ → ℕ) → (ℕ → List A) → ℕ → List M → Type 0
  AllStand history owner seen n [] = Unit {0}
  AllStand history owner seen n (m ∷ ms) = (IsAt history m × (place_of m < length (seen (turn_of m))) × (owner (turn_of m) (place_of m) ≡ n)) × AllStand history owner seen n ms

  -- those of one turn stand in the order in which they were made
  abbrev pub IsAfterAll : M → List M → Type 0
  IsAfterAll m [] = Unit {0}
  IsAfterAll m (k ∷ ks) = (turn_of k ≡ turn_of m → place_of m < place_of k) × IsAfterAll m ks

  abbrev pub Rises : List M → Type 0
  Rises [] = Unit {0}
  Rises (m ∷ ms) = IsAfterAll m ms × Rises ms

  -- these are written of the entries xs of the turn i, one after the other, from the place p on
  abbrev pub AreMade : ℕ → ℕ → List A → List M → Type 0
  AreMade i p [] [] = Unit {0}
  AreMade i p (x ∷ xs) (m ∷ ms) = ((turn_of m ≡ i) × (place_of m ≡ p) × fits m x) × AreMade i (suc p) xs ms
  AreMade i p _ _ = ⊥

  -- Each history begins with what each party has seen of it. Each place of it belongs to one party, in whose list it stands, in rising order, and who has seen it
  pub record Logged (parties : ℕ) (history : ℕ → List A) (owner : ℕ → ℕ → ℕ) (seen : ℕ → ℕ → List A) (mine : ℕ → List M) : Type 0 where
    pub begins : (n i : ℕ) → n < parties → IsPrefix (seen n i) (history i)
    pub places : (i p : ℕ) → p < length (history i) → (owner i p < parties) × HasPlace i p (mine (owner i p))
    pub stand : (n : ℕ) → n < parties → AllStand history owner (seen n) n (mine n)
    pub rises : (n : ℕ) → n < parties → Rises (mine n)

-- the places of the turn i from p on become n's
abbrev pub with_owner : (ℕ → ℕ → ℕ) → ℕ → ℕ → ℕ → ℕ → ℕ → ℕ
with_owner owner i p n j q = if j == i then (if nat_lt q p then owner j q else n) else owner j q
