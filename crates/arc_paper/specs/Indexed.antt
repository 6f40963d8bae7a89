-- The index of the lists: where each page stands.
use Rattle.std.specs.Prelude.{◌≡◌, ℕ, ◌+◌, ◌-◌, ◌≤◌, ◌^◌, List, ◌∷◌, Some, length}
use Rattle.arc_links.specs.PlainLinks.{AreApart as ArePlacesApart, element_at, placed, without_place}
use Rattle.key_table.specs.PlainTable.{AreApart, IsAmong, Row, row}
use Rattle.arc_paper.specs.declared.directory.Directory.TheInside.{Inside}
use Rattle.arc_paper.specs.declared.queue.Queue.{Queue}
use Rattle.arc_paper.specs.declared.queues.Queues.{Queues}
use Rattle.arc_paper.specs.declared.spot.Spot.{Spot}
use Rattle.arc_paper.specs.Directory.{IsDirectory, Lists, count_of}
use Rattle.arc_paper.specs.Queues.{links_in, nodes_in, pages_of, with_links}

abbrev pub spot : Queue → ℕ → Spot
spot queue at = record { queue = queue; at = at }

-- each page of a list has the row of its place, and each row is that of a page there
pub record IsIndex (q : Queues) (rows : List (Row ℕ Spot)) : Type 0 where
  pub places : (queue : Queue) → ArePlacesApart (nodes_in queue q)
  pub apart : AreApart rows
  pub listed : (queue : Queue) (at x : ℕ) → element_at at (nodes_in queue q) ≡ Some x → IsAmong (row x (spot queue at)) rows
  pub found : (x : ℕ) (s : Spot) → IsAmong (row x s) rows → element_at s.at (nodes_in s.queue q) ≡ Some x

-- the lists without the node at this spot
abbrev pub without_node : Spot → Queues → Queues
without_node s q = let l = links_in s.queue q in with_links s.queue (record { nodes = without_place s.at l.nodes; spare = l.spare + 1 }) q

-- the lists with a page more, at the head of this one
abbrev pub with_node : Queue → ℕ → ℕ → Queues → Queues
with_node queue at x q = let l = links_in queue q in with_links queue (record { nodes = placed at x ∷ l.nodes; spare = l.spare - 1 }) q

-- the page at this spot went to the head of a list
pub record IsMoved (s : Spot) (to : Queue) (old new : Queues) : Type 0 where
  pub page : ℕ
  pub at : ℕ
  pub was : element_at s.at (nodes_in s.queue old) ≡ Some page
  pub moved : new ≡ with_node to at page (without_node s old)

-- the lists that the nodes are
abbrev pub lists_of : Queues → ℕ → Lists
lists_of q room = record {
  t1 = pages_of q.t1.nodes;
  t2 = pages_of q.t2.nodes;
  b1 = pages_of q.b1.nodes;
  b2 = pages_of q.b2.nodes;
  room = room;
}

abbrev pub lists_in : Inside → Lists
lists_in d = lists_of d.queues d.room

pub record IsRoomy (d : Inside) : Type 0 where
  pub lists : IsDirectory (lists_in d)
  pub index : IsIndex d.queues d.table.rows
  pub room : d.room ≤ 2 ^ 31
  -- there is room for all in each list, and in the table
  pub nodes : (queue : Queue) → d.room ≤ length (nodes_in queue d.queues) + (links_in queue d.queues).spare
  pub rows : d.room ≤ count_of (lists_in d) + d.table.spare
