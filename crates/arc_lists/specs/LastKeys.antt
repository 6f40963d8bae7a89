-- The last of some nodes.
use Rattle.std.specs.Prelude.{◌≡◌, ℕ, List, [], ◌∷◌, Option, Some, None}
use Rattle.blk_ptr.specs.declared.key.Key.{Key}
use Rattle.arc_links.specs.PlainLinks.{Placed, element_at, in_front}

-- the key of the last node
abbrev pub last_key : List (Placed Key) → Option Key
last_key [] = None
last_key (n ∷ []) = Some n.element
last_key (n ∷ m ∷ ns) = last_key (m ∷ ns)

-- the key has a node, and this is the key in front of it
abbrev pub IsAheadIn : Key → List (Placed Key) → Option Key → Type 0
IsAheadIn k ns ahead = (at : ℕ) × (element_at at ns ≡ Some k) × (ahead ≡ last_key (in_front at ns))
