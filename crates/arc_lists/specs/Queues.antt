-- The four sequences as four linked lists, and the six sizes as numbers that are counted along the way.
use Rattle.std.specs.Prelude.{◌≡◌, ℕ, ◌+◌, ◌-◌, ◌<◌, ◌≤◌, Bool, true, false, IsTrue, is_some, List, [], ◌∷◌, length, Option, Some, None, MatchOption}
use Rattle.std.specs.List.{AllByRecursion}
use Rattle.blk_ptr.specs.declared.key.Key.{Key}
use Rattle.blk_ptr.specs.declared.state.State.{State}
use Rattle.blk_ptr.specs.declared.state.State.TheVariants.{Anon, Mru, MruGhost, Mfu, MfuGhost, L2Only}
use Rattle.blk_ptr.specs.State.{is_same_state}
use Rattle.arc_links.specs.PlainLinks.{AreApart, Placed, PlainLinks, element_at, elements, no_links, placed, without_place}
use Rattle.arc_lists.specs.declared.member.Member.{Member}
use Rattle.arc_lists.specs.declared.queues.Queues.{Queues}
use Rattle.arc_lists.specs.declared.sizes.Sizes.{Sizes}
use Rattle.arc_lists.specs.ByKey.{has_key, item_at}
use Rattle.arc_lists.specs.Members.{member, member_key}
use Rattle.arc_lists.specs.Posts.{Post, Standing, post, post_key}
use Rattle.arc_lists.specs.Sequences.{Sequences, is_distinct, sequence_of, stands_on}

-- four empty lists
abbrev pub no_queues : Queues
no_queues = record { mru = no_links; mru_ghost = no_links; mfu = no_links; mfu_ghost = no_links }

-- the sequences that the lists hold
abbrev pub sequences_in : Queues → Sequences
sequences_in q = record { mru = elements q.mru; mru_ghost = elements q.mru_ghost; mfu = elements q.mfu; mfu_ghost = elements q.mfu_ghost }

-- the nodes of a state's sequence
abbrev pub nodes_of : State → Queues → List (Placed Key)
nodes_of Mru q = q.mru.nodes
nodes_of MruGhost q = q.mru_ghost.nodes
nodes_of Mfu q = q.mfu.nodes
nodes_of MfuGhost q = q.mfu_ghost.nodes
nodes_of _ q = []

-- a list with one more node at its head, and one without the node at a place
abbrev pub with_node : ℕ → Key → PlainLinks Key → PlainLinks Key
with_node p k l = record l { nodes = placed p k ∷ l.nodes; spare = l.spare - 1 }

abbrev pub without_node : ℕ → PlainLinks Key → PlainLinks Key
without_node at l = record l { nodes = without_place at l.nodes; spare = l.spare + 1 }

-- the lists where a key was put at the head of a state's
abbrev pub pushed : State → Key → ℕ → Queues → Queues
pushed Mru k p q = record q { mru = with_node p k q.mru }
pushed MruGhost k p q = record q { mru_ghost = with_node p k q.mru_ghost }
pushed Mfu k p q = record q { mfu = with_node p k q.mfu }
pushed MfuGhost k p q = record q { mfu_ghost = with_node p k q.mfu_ghost }
pushed _ k p q = q

-- the lists where the node at a place was taken off a state's
abbrev pub removed : State → ℕ → Queues → Queues
removed Mru at q = record q { mru = without_node at q.mru }
removed MruGhost at q = record q { mru_ghost = without_node at q.mru_ghost }
removed Mfu at q = record q { mfu = without_node at q.mfu }
removed MfuGhost at q = record q { mfu_ghost = without_node at q.mfu_ghost }
removed _ at q = q

-- a key was put at the head of a state's list, at a place where no node stood, where the state has a list
abbrev pub IsPushed : State → Key → Option ℕ → Queues → Queues → Type 0
IsPushed Anon k at old new = (at ≡ None) × (new ≡ old)
IsPushed L2Only k at old new = (at ≡ None) × (new ≡ old)
IsPushed s k at old new = (p : ℕ) × (at ≡ Some p) × (element_at p (nodes_of s old) ≡ None) × (new ≡ pushed s k p old)

-- a key was put at the head of a state's list where it is unheld, and else the lists stay
abbrev pub IsEntered : Bool → State → Key → Option ℕ → Queues → Queues → Type 0
IsEntered true s k at old new = IsPushed s k at old new
IsEntered false s k at old new = (at ≡ None) × (new ≡ old)

-- a state's list has a node at the place, where there is one
abbrev pub IsOn : State → Option ℕ → Queues → Type 0
IsOn s None q = Unit {0}
IsOn s (Some p) q = IsTrue (is_some (element_at p (nodes_of s q)))

-- the lists without the node at a place of a state's, where there is one
abbrev pub left : State → Option ℕ → Queues → Queues
left s None q = q
left s (Some p) q = removed s p q

-- each list has its nodes still
pub record HaveSameNodes (old new : Queues) : Type 0 where
  pub mru : new.mru.nodes ≡ old.mru.nodes
  pub mru_ghost : new.mru_ghost.nodes ≡ old.mru_ghost.nodes
  pub mfu : new.mfu.nodes ≡ old.mfu.nodes
  pub mfu_ghost : new.mfu_ghost.nodes ≡ old.mfu_ghost.nodes

-- each list has room for so many keys in all
pub record HaveCapacity (n : ℕ) (q : Queues) : Type 0 where
  pub mru : n ≤ q.mru.spare + length q.mru.nodes
  pub mru_ghost : n ≤ q.mru_ghost.spare + length q.mru_ghost.nodes
  pub mfu : n ≤ q.mfu.spare + length q.mfu.nodes
  pub mfu_ghost : n ≤ q.mfu_ghost.spare + length q.mfu_ghost.nodes

-- each list has room for one more key
pub record HaveRoom (q : Queues) : Type 0 where
  pub mru : 0 < q.mru.spare
  pub mru_ghost : 0 < q.mru_ghost.spare
  pub mfu : 0 < q.mfu.spare
  pub mfu_ghost : 0 < q.mfu_ghost.spare

-- each place of a list is that of one node
pub record AreNodesApart (q : Queues) : Type 0 where
  pub mru : AreApart q.mru.nodes
  pub mru_ghost : AreApart q.mru_ghost.nodes
  pub mfu : AreApart q.mfu.nodes
  pub mfu_ghost : AreApart q.mfu_ghost.nodes

-- a key stands at its place on its state's list, or, where it has none, not there
abbrev pub IsPlaced : Key → Standing → Queues → Type 0
IsPlaced k s q = MatchOption s.at (stands_on k (sequence_of s.state (sequences_in q)) ≡ false) (λ p. element_at p (nodes_of s.state q) ≡ Some k)

-- and so does each that is there
abbrev pub ArePlaced : List Post → Queues → Type 0
ArePlaced posts q = (k : Key) (s : Standing) → item_at post_key k posts ≡ Some (post k s) → IsPlaced k s q

-- the key stands on no sequence but that of this state
abbrev pub IsOnlyOn : State → Key → Sequences → Type 0
IsOnlyOn s k q = (t : State) → is_same_state s t ≡ false → stands_on k (sequence_of t q) ≡ false

-- what is counted for a state
abbrev pub size_at : State → Sizes → ℕ
size_at Anon z = z.anon
size_at Mru z = z.mru
size_at MruGhost z = z.mru_ghost
size_at Mfu z = z.mfu
size_at MfuGhost z = z.mfu_ghost
size_at L2Only z = z.l2_only

-- a sequence names members alone, each once
pub record IsSequenceOf (ms : List Member) (keys : List Key) : Type 0 where
  pub once : IsTrue (is_distinct keys)
  pub members : AllByRecursion (λ k. IsTrue (has_key member_key k ms)) keys

pub record AreSequencesOf (ms : List Member) (q : Sequences) : Type 0 where
  pub mru : IsSequenceOf ms q.mru
  pub mru_ghost : IsSequenceOf ms q.mru_ghost
  pub mfu : IsSequenceOf ms q.mfu
  pub mfu_ghost : IsSequenceOf ms q.mfu_ghost

-- each key on a sequence is a member in the state of that sequence
abbrev pub AreInState : List Member → Sequences → Type 0
AreInState ms q = (s : State) (k : Key) → IsTrue (stands_on k (sequence_of s q)) → item_at member_key k ms ≡ Some (member k s)
