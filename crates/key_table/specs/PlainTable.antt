-- A table as plain data: its rows, and the room that is left. The order of the rows says nothing.
use Rattle.std.specs.Prelude.{◌≡◌, ℕ, ◌↔◌, List, [], ◌∷◌, ◌⊎◌, refl}
use Rattle.std.specs.Coded.{Coded, code_by, coded×, coded_ℕ, coded_list}

pub record Row (K V : Type 0) : Type 0 where
  pub key : K
  pub value : V

pub record PlainTable (K V : Type 0) : Type 0 where
  pub rows : List (Row K V)
  -- for how many more rows there is room
  pub spare : ℕ

-- a row is stored as the pair of its fields, and so is a table
abbrev pub row_code : {K V : Type 0} → Coded K → Coded V → Coded (Row K V)
row_code {K} {V} key value = code_by (K × V) (coded× key value) (λ r. (r.key, r.value)) (λ p. record { key = p.0; value = p.1 }) (λ _. refl)

abbrev pub table_code : {K V : Type 0} → Coded K → Coded V → Coded (PlainTable K V)
table_code {K} {V} key value =
    code_by
    (List (Row K V) × ℕ)
    (coded× (coded_list (row_code key value)) coded_ℕ)
    (λ t. (t.rows, t.spare))
    (λ p. record { rows = p.0; spare = p.1 })
    (λ _. refl)

module _ {K V : Type 0} where
  -- no row, and no room
  abbrev pub no_rows : PlainTable K V
  no_rows = record { rows = []; spare = 0 }

  -- the row of a key and a value
  abbrev pub row : K → V → Row K V
  row k v = record { key = k; value = v }

  -- the row is one of these
  abbrev pub IsAmong : Row K V → List (Row K V) → Type 0
  IsAmong r [] = ⊥
  IsAmong r (x ∷ xs) = (x ≡ r) ⊎ IsAmong r xs

  -- a row has the key
  abbrev pub HasKey : K → List (Row K V) → Type 0
  HasKey k rows = (v : V) × IsAmong (row k v) rows

  -- no two rows have one key
  abbrev pub AreApart : List (Row K V) → Type 0
  AreApart [] = Unit {0}
  AreApart (x ∷ xs) = (HasKey x.key xs → ⊥) × AreApart xs

  -- the new rows are the old ones and this one
  abbrev pub Gains : List (Row K V) → List (Row K V) → Row K V → Type 0
  Gains old new r = (x : Row K V) → IsAmong x new ↔ ((x ≡ r) ⊎ IsAmong x old)

  -- the new rows are the old ones without that of this key
  abbrev pub Loses : List (Row K V) → List (Row K V) → K → Type 0
  Loses old new k = (x : Row K V) → IsAmong x new ↔ ((x.key ≡ k → ⊥) × IsAmong x old)

  -- the new rows are the old ones with this one for that of its key
  abbrev pub Changes : List (Row K V) → List (Row K V) → Row K V → Type 0
  Changes old new r = (x : Row K V) → IsAmong x new ↔ ((x ≡ r) ⊎ ((x.key ≡ r.key → ⊥) × IsAmong x old))
