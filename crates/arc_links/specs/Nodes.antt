-- Links from node to node.
use Rattle.std.specs.Prelude.{ℕ, ◌-◌, ◌^◌, nat_eq, if◌then◌else◌, Option, Some, None}
use Rattle.arc_links.specs.declared.node.Node.{Node}

-- the link of a node that has no neighbour on that side
abbrev pub no_place : ℕ
no_place = 2 ^ 64 - 1

-- the place that a link names
abbrev pub neighbour_of : ℕ → Option ℕ
neighbour_of link = if nat_eq link no_place then None else Some link

module _ {T : Type 0} where
  -- the neighbour toward the head is at this place
  abbrev pub facing_head : ℕ → Node T → Node T
  facing_head to n = record n { toward_head = to }

  -- the neighbour toward the last is at this place
  abbrev pub facing_last : ℕ → Node T → Node T
  facing_last to n = record n { toward_last = to }
