-- A linked list as plain data: its nodes from the head, each an element with the place that is its own, and the room that is left.
use Rattle.std.specs.Prelude.{◌≡◌, ℕ, not, nat_eq, if◌then◌else◌, List, [], ◌∷◌, Option, Some, None, map, filter, refl}
use Rattle.std.specs.Coded.{Coded, code_by, coded×, coded_ℕ, coded_list}

pub record Placed (T : Type 0) : Type 0 where
  pub place : ℕ
  pub element : T

pub record PlainLinks (T : Type 0) : Type 0 where
  pub nodes : List (Placed T)
  -- for how many more nodes there is room
  pub spare : ℕ

-- a node is stored as the pair of its fields, and so are the links
abbrev pub placed_code : {T : Type 0} → Coded T → Coded (Placed T)
placed_code {T} code =
    code_by (ℕ × T) (coded× coded_ℕ code) (λ n. (n.place, n.element)) (λ p. record { place = p.0; element = p.1 }) (λ _. refl)

abbrev pub links_code : {T : Type 0} → Coded T → Coded (PlainLinks T)
links_code {T} code =
    code_by
    (List (Placed T) × ℕ)
    (coded× (coded_list (placed_code code)) coded_ℕ)
    (λ l. (l.nodes, l.spare))
    (λ p. record { nodes = p.0; spare = p.1 })
    (λ _. refl)

module _ {T : Type 0} where
  -- no node, and no room
  abbrev pub no_links : PlainLinks T
  no_links = record { nodes = []; spare = 0 }

  -- a node of its own
  abbrev pub placed : ℕ → T → Placed T
  placed p x = record { place = p; element = x }

  -- the plain list: the elements from the head
  abbrev pub elements : PlainLinks T → List T
  elements l = map (λ n. n.element) l.nodes

  -- the element of the node at a place
  abbrev pub element_at : ℕ → List (Placed T) → Option T
  element_at at [] = None
  element_at at (n ∷ ns) = if nat_eq n.place at then Some n.element else element_at at ns

  -- the nodes without the one at a place
  abbrev pub without_place : ℕ → List (Placed T) → List (Placed T)
  without_place at = filter (λ n. not (nat_eq n.place at))

  -- the nodes in front of the one at a place, from the head
  abbrev pub in_front : ℕ → List (Placed T) → List (Placed T)
  in_front at [] = []
  in_front at (n ∷ ns) = if nat_eq n.place at then [] else (n ∷ in_front at ns)

  -- the place of the last node
  abbrev pub last_place : List (Placed T) → Option ℕ
  last_place [] = None
  last_place (n ∷ []) = Some n.place
  last_place (n ∷ m ∷ ns) = last_place (m ∷ ns)

  -- each place is that of one node
  abbrev pub AreApart : List (Placed T) → Type 0
  AreApart [] = Unit {0}
  AreApart (n ∷ ns) = (element_at n.place ns ≡ None) × AreApart ns
