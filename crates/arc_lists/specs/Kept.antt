-- What whoever has the members, the linked lists and the sizes keeps of them.
use Rattle.std.specs.Prelude.{◌≡◌, ℕ, ◌+◌, ◌^◌, ◌<◌, ◌≤◌, length}
use Rattle.std.specs.List.{AllByRecursion}
use Rattle.blk_ptr.specs.Size.{largest_block}
use Rattle.blk_ptr.specs.declared.state.State.{State}
use Rattle.arc_lists.specs.declared.queues.Queues.{Queues}
use Rattle.arc_lists.specs.declared.sizes.Sizes.{Sizes}
use Rattle.arc_lists.specs.ByKey.{IsRising}
use Rattle.arc_lists.specs.Members.{size_of}
use Rattle.arc_lists.specs.Posts.{Posts, members_of, post_key}
use Rattle.arc_lists.specs.Queues.{AreInState, AreNodesApart, ArePlaced, AreSequencesOf, HaveCapacity, sequences_in, size_at}

-- the members with the places of their nodes, the linked lists, the sizes, the target and the capacity
pub record Parts : Type 0 where
  pub members : Posts
  pub queues : Queues
  pub sizes : Sizes
  pub p : ℕ
  pub c : ℕ

pub record ListsKeep (l : Parts) : Type 0 where
  -- the members rise by their keys, and none is larger than a block
  pub rising : IsRising post_key l.members.posts
  pub small : AllByRecursion (λ m. m.key.size ≤ largest_block) (members_of l.members.posts)
  -- each size that is counted along the way is the sum that it stands for
  pub sizes : (s : State) → size_at s l.sizes ≡ size_of s (members_of l.members.posts)
  -- there is room for the members that may come on each sequence
  pub few : length l.members.posts + l.members.spare < 2 ^ 64
  pub queues : HaveCapacity (length l.members.posts + l.members.spare) l.queues
  -- the sequences name members alone, each once
  pub listed : AreSequencesOf (members_of l.members.posts) (sequences_in l.queues)
  -- and each member on the sequence of its own state alone
  pub stated : AreInState (members_of l.members.posts) (sequences_in l.queues)
  -- each member's node is found at its place, and no other node stands there
  pub placed : ArePlaced l.members.posts l.queues
  pub apart : AreNodesApart l.queues
