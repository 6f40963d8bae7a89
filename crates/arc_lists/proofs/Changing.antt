-- What a key that changes its state makes of the lists: it is taken out, and put in again.
use Rattle.std.proofs.Common.{◌≡◌, ℕ, ◌+◌, ◌-◌, ◌≤◌, Bool, false, List, Option, Some, if◌then◌else◌, is_some, ap, arith, refl, sym, ◌∙◌}
use Rattle.blk_ptr.specs.Size.{largest_block}
use Rattle.blk_ptr.specs.State.{is_same_state}
use Rattle.blk_ptr.specs.declared.key.Key.{Key}
use Rattle.blk_ptr.specs.declared.state.State.{State}
use Rattle.blk_ptr.specs.declared.state.State.TheVariants.{Anon, Mru, MruGhost, Mfu, MfuGhost, L2Only}
use Rattle.arc_lists.specs.declared.queues.Queues.{Queues}
use Rattle.arc_lists.specs.declared.sizes.Sizes.{Sizes}
use Rattle.arc_lists.specs.ByKey.{IsRising, has_key, item_at, with_change, with_item, without}
use Rattle.arc_lists.specs.Kept.{ListsKeep, Parts}
use Rattle.arc_lists.specs.Members.{member, share_of}
use Rattle.arc_lists.specs.Posts.{Post, Standing, Posts, members_of, post, post_key, standing}
use Rattle.arc_lists.specs.Queues.{HaveRoom, IsEntered, left, sequences_in, size_at}
use Rattle.arc_lists.specs.Sequences.{put_at_head, taken_off}
use Rattle.arc_lists.proofs.Keeping.{ListsKeep-put, ListsKeep-take_out, left-of, length-members, rising-members, sequences-entered}
use Rattle.arc_lists.proofs.Placing.{member-at}
use Rattle.arc_lists.proofs.SizeSums.{size_of-without}
use Rattle.arc_lists.proofs.Standing.{HaveRoom-more}
use Rattle.arc_lists.proofs.Tables.{item_at-without_same, with_item-without}

-- the sizes where a state has so many bytes less
abbrev smaller : State → ℕ → Sizes → Sizes
smaller s z r = record {
  anon = r.anon - (if is_same_state s Anon then z else 0);
  mru = r.mru - (if is_same_state s Mru then z else 0);
  mru_ghost = r.mru_ghost - (if is_same_state s MruGhost then z else 0);
  mfu = r.mfu - (if is_same_state s Mfu then z else 0);
  mfu_ghost = r.mfu_ghost - (if is_same_state s MfuGhost then z else 0);
  l2_only = r.l2_only - (if is_same_state s L2Only then z else 0);
}

smaller-at : (s t : State) (z : ℕ) (r : Sizes) → size_at t (smaller s z r) ≡ size_at t r - (if is_same_state s t then z else 0)
smaller-at s Anon z r = refl
smaller-at s Mru z r = refl
smaller-at s MruGhost z r = refl
smaller-at s Mfu z r = refl
smaller-at s MfuGhost z r = refl
smaller-at s L2Only z r = refl

-- the lists without the key
abbrev pub without_it : (l : Parts) (k : Key) (s : Standing) → Parts
without_it l k s = record {
  members = record { posts = without post_key k l.members.posts; spare = l.members.spare + 1 };
  queues = left s.state s.at l.queues;
  sizes = smaller s.state k.size l.sizes;
  p = l.p;
  c = l.c;
}

kept_without : (l : Parts) (k : Key) (s : Standing) → ListsKeep l → item_at post_key k l.members.posts ≡ Some (post k s) → ListsKeep (without_it l k s)
kept_without l k s kept item = ListsKeep-take_out l (without_it l k s) k s kept item refl less refl
  where
    less : (t : State) → size_at t (smaller s.state k.size l.sizes) + share_of t (member k s.state) ≡ size_at t l.sizes
    less t = omega (arith, smaller-at s.state t k.size l.sizes, kept.sizes t, size_of-without t k (members_of l.members.posts) (member k s.state) (member-at k l.members.posts s item))

-- there is room for a key then
pub room_without : (l : Parts) (k : Key) (s : Standing) → ListsKeep l → item_at post_key k l.members.posts ≡ Some (post k s) → HaveRoom (left s.state s.at l.queues)
room_without l k s kept item =
    let n = kept_without l k s kept item in
    let posts = without post_key k l.members.posts in
    HaveRoom-more (members_of posts) _ (left s.state s.at l.queues) (rising-members posts n.rising) n.listed (omega (arith, length-members posts)) n.queues

-- the posts with another standing are those without the key and with it
posts_are : (posts : List Post) (k : Key) (r s : Standing) → IsRising post_key posts → item_at post_key k posts ≡ Some (post k s)
    → with_change post_key k (λ _. post k r) posts ≡ with_item post_key (post k r) (without post_key k posts)
posts_are posts k r s rising item = sym (with_item-without post_key (post k r) posts rising (ap is_some item))

abbrev pub posts_with : List Post → ℕ → Posts
posts_with posts spare = record { posts = posts; spare = spare }

posts_same : (ps qs : List Post) (m n : ℕ) → ps ≡ qs → m ≡ n → posts_with ps m ≡ posts_with qs n
posts_same ps qs m n one two = ap (λ z. posts_with z m) one ∙ ap (λ z. posts_with qs z) two

pub ListsKeep-change_state : (l n : Parts) (k : Key) (before : Standing) (s : State) (at : Option ℕ) (unheld : Bool) → ListsKeep l → item_at post_key k l.members.posts ≡ Some (post k before)
    → k.size ≤ largest_block → n.members ≡ posts_with (with_change post_key k (λ _. post k (standing s at)) l.members.posts) l.members.spare
    → ((t : State) → size_at t n.sizes + share_of t (member k before.state) ≡ size_at t l.sizes + share_of t (member k s))
    → IsEntered unheld s k at (left before.state before.at l.queues) n.queues → ListsKeep n
ListsKeep-change_state l n k before s at unheld kept item small is sizes entered =
    let m = without_it l k before in
    let gone = kept_without l k before kept item in
    let absent : has_key post_key k m.members.posts ≡ false = ap is_some (item_at-without_same post_key k l.members.posts kept.rising) in
    let came : n.members ≡ posts_with (with_item post_key (post k (standing s at)) m.members.posts) (m.members.spare - 1) =
    is ∙ posts_same _ _ _ _ (posts_are l.members.posts k (standing s at) before kept.rising item) (omega arith) in
    ListsKeep-put m n k s at unheld gone (omega arith) absent small came
    (λ t. omega (arith, sizes t, smaller-at before.state t k.size l.sizes, kept.sizes t, size_of-without t k (members_of l.members.posts) (member k before.state) (member-at k l.members.posts before item)))
    entered (room_without l k before kept item)

-- and what the sequences are then
pub changed-sequences : (l : Parts) (k : Key) (before : Standing) (s : State) (at : Option ℕ) (unheld : Bool) (q : Queues) → ListsKeep l → item_at post_key k l.members.posts ≡ Some (post k before)
    → IsEntered unheld s k at (left before.state before.at l.queues) q
    → sequences_in q ≡ (if unheld then put_at_head s k (taken_off k (sequences_in l.queues)) else taken_off k (sequences_in l.queues))
changed-sequences l k before s at unheld q kept item entered =
    sequences-entered unheld s k at (left before.state before.at l.queues) q entered ∙ ap (λ z. if unheld then put_at_head s k z else z) (left-of l k before kept item).sequences
