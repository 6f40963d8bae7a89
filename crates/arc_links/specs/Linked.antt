-- How the nodes of a list are linked in a slab. No public clause cites this module.
use Rattle.std.specs.Prelude.{◌≡◌, ℕ, zero, suc, ◌+◌, ◌^◌, ◌<◌, ◌≤◌, nat_eq, if◌then◌else◌, List, [], ◌∷◌, length, Option, Some, None, slice_index_or}
use Rattle.std.specs.Option.{option_map_or}
use Rattle.slab.specs.Slab.{Slab, get, slab_len}
use Rattle.arc_links.specs.declared.links.Links.TheInside.{Inside}
use Rattle.arc_links.specs.declared.node.Node.{Node}
use Rattle.arc_links.specs.Nodes.{no_place}
use Rattle.arc_links.specs.PlainLinks.{AreApart, Placed, PlainLinks, placed}

module _ {T : Type 0} where
  -- a node of the slab
  abbrev pub node : T → ℕ → ℕ → Node T
  node x toward_head toward_last = record { element = x; toward_head = toward_head; toward_last = toward_last }

  -- the nodes that are met from this link on, toward the last: so many at most
  abbrev pub walk : ℕ → List (Option (Node T)) → ℕ → List (Placed T)
  walk zero slots at = []
  walk (suc n) slots at =
      if nat_eq at no_place then [] else option_map_or (λ (m : Node T). placed at m.element ∷ walk n slots m.toward_last) (slice_index_or slots at None) []

  -- these nodes stand one after another, the first behind the node at `before` and the last, at `end`, in front of the link `next`
  abbrev pub IsSegment : Slab (Node T) → ℕ → ℕ → List (Placed T) → ℕ → ℕ → Type 0
  IsSegment s before first [] end next = (before ≡ end) × (first ≡ next)
  IsSegment s before first (n ∷ ns) end next =
      (first ≡ n.place) × (n.place < no_place) × (after : ℕ) × (get s n.place ≡ Some (node n.element before after)) × IsSegment s n.place after ns end next

  -- the list that the slab holds
  abbrev pub nodes_of : Inside T → List (Placed T)
  nodes_of l = walk (slab_len l.nodes) l.nodes.slots l.head

  abbrev pub plain : Inside T → PlainLinks T
  plain l = record { nodes = nodes_of l; spare = l.spare }

  pub record IsLinked (l : Inside T) : Type 0 where
    -- the nodes from the head are linked both ways, and end at the last
    pub linked : IsSegment l.nodes no_place l.head (nodes_of l) l.last no_place
    pub apart : AreApart (nodes_of l)
    pub count : length (nodes_of l) ≤ slab_len l.nodes
    -- there is room for those that may come
    pub room : slab_len l.nodes + l.spare ≤ l.nodes.capacity
    pub fits : slab_len l.nodes + l.spare < 2 ^ 64
