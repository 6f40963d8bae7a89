-- Oids compared, and a list of items each of which has an Oid of its own, as plain data.
use Rattle.std.specs.Prelude.{Bool, ◌&&◌, ◌||◌, ◌==◌, if◌then◌else◌, nat_lt, List, [], ◌∷◌, Option, Some, None, is_some, true, not}
use Rattle.dbuf_state.specs.declared.oid.Oid.{Oid}

-- the two Oids are one
abbrev pub oid_eq : Oid → Oid → Bool
oid_eq a b = a.object == b.object && a.block == b.block

-- the first Oid goes before the second: by the object, then by the block
abbrev pub oid_lt : Oid → Oid → Bool
oid_lt a b = nat_lt a.object b.object || (a.object == b.object && nat_lt a.block b.block)

module _ {X : Type 0} (oid_of : X → Oid) where
  -- the item of the Oid
  abbrev pub item_at : Oid → List X → Option X
  item_at at [] = None
  item_at at (x ∷ xs) = if oid_eq at (oid_of x) then Some x else item_at at xs

  -- there is one
  abbrev pub has_item : Oid → List X → Bool
  has_item at xs = is_some (item_at at xs)

  -- the list in which the item of the Oid is changed
  abbrev pub with_change : Oid → (X → X) → List X → List X
  with_change at change [] = []
  with_change at change (x ∷ xs) = if oid_eq at (oid_of x) then change x ∷ xs else (x ∷ with_change at change xs)

  -- the list in which the item of the Oid is changed, or to which it is added where there is none
  abbrev pub with_item : Oid → (X → X) → X → List X → List X
  with_item at change new [] = new ∷ []
  with_item at change new (x ∷ xs) = if oid_eq at (oid_of x) then change x ∷ xs else (x ∷ with_item at change new xs)

  -- no two items have one Oid
  abbrev pub is_distinct : List X → Bool
  is_distinct [] = true
  is_distinct (x ∷ xs) = not (has_item (oid_of x) xs) && is_distinct xs
