-- The four lists as nodes with places.
use Rattle.std.specs.Prelude.{ℕ, List, map}
use Rattle.arc_links.specs.PlainLinks.{Placed, PlainLinks}
use Rattle.arc_paper.specs.declared.queue.Queue.{Queue}
use Rattle.arc_paper.specs.declared.queue.Queue.TheVariants.{T1, T2, B1, B2}
use Rattle.arc_paper.specs.declared.queues.Queues.{Queues}

-- the list of this name
abbrev pub links_in : Queue → Queues → PlainLinks ℕ
links_in T1 q = q.t1
links_in T2 q = q.t2
links_in B1 q = q.b1
links_in B2 q = q.b2

-- the lists with this one in its place
abbrev pub with_links : Queue → PlainLinks ℕ → Queues → Queues
with_links T1 l q = record q { t1 = l }
with_links T2 l q = record q { t2 = l }
with_links B1 l q = record q { b1 = l }
with_links B2 l q = record q { b2 = l }

abbrev pub nodes_in : Queue → Queues → List (Placed ℕ)
nodes_in queue q = (links_in queue q).nodes

-- the pages of nodes
abbrev pub pages_of : List (Placed ℕ) → List ℕ
pages_of nodes = map (λ n. n.element) nodes
