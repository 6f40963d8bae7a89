-- Lists of items in rising order of their keys, one item a key: a table by key, as plain data.
use Rattle.std.specs.Prelude.{ℕ, Bool, IsTrue, if◌then◌else◌, List, [], ◌∷◌, Option, Some, None, is_some}
use Rattle.std.specs.List.{prefix_len}
use Rattle.blk_ptr.specs.declared.key.Key.{Key}
use Rattle.blk_ptr.specs.Order.{key_eq, key_lt}

module _ {X : Type 0} (key_of : X → Key) where
  -- the item that has the key
  abbrev pub item_at : Key → List X → Option X
  item_at k [] = None
  item_at k (x ∷ xs) = if key_eq (key_of x) k then Some x else item_at k xs

  -- some item has the key
  abbrev pub has_key : Key → List X → Bool
  has_key k xs = is_some (item_at k xs)

  -- the table with one more item, before the first item of a greater key
  abbrev pub with_item : X → List X → List X
  with_item x [] = x ∷ []
  with_item x (y ∷ ys) = if key_lt (key_of x) (key_of y) then x ∷ (y ∷ ys) else (y ∷ with_item x ys)

  -- the table without the item of the key
  abbrev pub without : Key → List X → List X
  without k [] = []
  without k (x ∷ xs) = if key_eq (key_of x) k then xs else (x ∷ without k xs)

  -- the table in which the item of the key is changed
  abbrev pub with_change : Key → (X → X) → List X → List X
  with_change k change [] = []
  with_change k change (x ∷ xs) = if key_eq (key_of x) k then change x ∷ xs else (x ∷ with_change k change xs)

  -- every item has a greater key than this one
  abbrev pub IsAbove : Key → List X → Type 0
  IsAbove k [] = Unit {0}
  IsAbove k (x ∷ xs) = IsTrue (key_lt k (key_of x)) × IsAbove k xs

  -- the keys rise, so each stands once
  abbrev pub IsRising : List X → Type 0
  IsRising [] = Unit {0}
  IsRising (x ∷ xs) = IsAbove (key_of x) xs × IsRising xs

  -- how many items have smaller keys: where the key stands in a rising table, or would stand
  abbrev pub rank : Key → List X → ℕ
  rank k = prefix_len (λ x. key_lt (key_of x) k)

  -- the items of a list as a table
  abbrev pub in_order : List X → List X
  in_order [] = []
  in_order (x ∷ xs) = with_item x (in_order xs)
