-- Where the nodes of the members stand, and what a node that comes or goes does to that.
use Rattle.std.proofs.Common.{◌≡◌, ◌≢◌, ℕ, true, false, not, nat_eq, List, [], ◌∷◌, map, Option, Some, None, MatchOption, option_map, ◌⊎◌, inl, inr, refl, sym, ap, subst, ◌∙◌, arith}
use Rattle.std.proofs.lemmas.Bool.{eqb-true, false≢true}
use Rattle.blk_ptr.specs.declared.key.Key.{Key}
use Rattle.blk_ptr.specs.declared.state.State.{State}
use Rattle.blk_ptr.specs.declared.state.State.TheVariants.{Anon, Mru, MruGhost, Mfu, MfuGhost, L2Only}
use Rattle.blk_ptr.specs.Order.{key_eq}
use Rattle.blk_ptr.proofs.Keys.{key_eq-is, key_eq-same}
use Rattle.arc_links.specs.PlainLinks.{AreApart, Placed, element_at, placed, without_place}
use Rattle.arc_links.proofs.Places.{AreApart-without, element_at-head, element_at-other, element_at-without_other, length-without, without_place-absent}
use Rattle.arc_lists.specs.declared.queues.Queues.{Queues}
use Rattle.arc_lists.specs.ByKey.{item_at, with_item, without}
use Rattle.arc_lists.specs.Members.{member, member_key}
use Rattle.arc_lists.specs.Posts.{Post, Standing, member_of, members_of, post, post_key, standing}
use Rattle.arc_lists.specs.Queues.{AreNodesApart, HaveCapacity, HaveRoom, IsOnlyOn, IsPlaced, nodes_of, pushed, removed, sequences_in}
use Rattle.arc_lists.specs.Sequences.{has_sequence, is_distinct, put_at_head, sequence_of, stands_on, taken_off, without_key}
use Rattle.arc_lists.proofs.InState.{left}
use Rattle.arc_lists.proofs.Standing.{and_left, and_right, not_true_is, or_left_false, or_right_false, without_key-absent}
use Rattle.arc_lists.proofs.Tables.{cases_true, some_is, item_at-map, map-with_item, map-without}

-- the keys of some nodes
abbrev pub keys_of : List (Placed Key) → List Key
keys_of = map (λ n. n.element)

-- ---- one list

-- a node's key stands on the list
pub node-stands : (p : ℕ) (k : Key) (ns : List (Placed Key)) → element_at p ns ≡ Some k → stands_on k (keys_of ns) ≡ true
node-stands p k [] there = absurd (cc)
node-stands p k (n ∷ ns) there = elim (cases_true (nat_eq n.place p)) [
  | inl same ↦
      let is : n.element ≡ k = some_is (rw same at there) in
      rw (is, key_eq-same k) refl
  | inr differs ↦ elim (cases_true (key_eq n.element k)) [
    | inl found ↦ rw found refl
    | inr passed ↦ rw passed (node-stands p k ns (rw differs at there))
  ]
]

-- a key that stands nowhere stands nowhere without a node
pub off-without : (at : ℕ) (k : Key) (ns : List (Placed Key)) → stands_on k (keys_of ns) ≡ false → stands_on k (keys_of (without_place at ns)) ≡ false
off-without at k [] off = refl
off-without at k (n ∷ ns) off =
    let rest = off-without at k ns (or_right_false (key_eq n.element k) _ off) in
    elim (cases_true (nat_eq n.place at)) [
      | inl same ↦ rw same rest
      | inr differs ↦ rw (differs, or_left_false (key_eq n.element k) _ off) rest
    ]

-- the keys without the node of one are the keys without that one
pub keys-without : (at : ℕ) (k : Key) (ns : List (Placed Key)) → AreApart ns → is_distinct (keys_of ns) ≡ true → element_at at ns ≡ Some k
    → keys_of (without_place at ns) ≡ without_key k (keys_of ns)
keys-without at k [] apart once there = refl
keys-without at k (n ∷ ns) apart once there = elim (cases_true (nat_eq n.place at)) [
  | inl same ↦
      let is : n.element ≡ k = some_is (rw same at there) in
      let test : key_eq n.element k ≡ true = rw is (key_eq-same k) in
      let off : element_at at ns ≡ None = subst (λ p. element_at p ns ≡ None) (eqb-true _ _ same) apart.0 in
      let alone : stands_on k (keys_of ns) ≡ false = subst (λ h. stands_on h (keys_of ns) ≡ false) is (not_true_is _ (and_left _ _ once)) in
      rw (same, test) (ap keys_of (without_place-absent at ns off) ∙ sym (without_key-absent k (keys_of ns) alone))
  | inr differs ↦
      let later : element_at at ns ≡ Some k = rw differs at there in
      let alone : stands_on n.element (keys_of ns) ≡ false = not_true_is _ (and_left _ _ once) in
      let test : key_eq n.element k ≡ false = elim (cases_true (key_eq n.element k)) [
        | inl found ↦ absurd (false≢true (sym alone ∙ subst (λ h. stands_on h (keys_of ns) ≡ true) (sym (key_eq-is n.element k found)) (node-stands at k ns later)))
        | inr passed ↦ passed
      ] in
      rw (differs, test) (ap (λ l. n.element ∷ l) (keys-without at k ns apart.1 (and_right (not (stands_on n.element (keys_of ns))) _ once) later))
]

-- two keys have two places
places-differ : (p r : ℕ) (j k : Key) (ns : List (Placed Key)) → element_at p ns ≡ Some j → element_at r ns ≡ Some k → key_eq k j ≡ false → p ≢ r
places-differ p r j k ns one two differs same =
    let is : j ≡ k = some_is (sym one ∙ ap (λ z. element_at z ns) same ∙ two) in
    false≢true (sym differs ∙ subst (λ h. key_eq k h ≡ true) (sym is) (key_eq-same k))

free-differs : (p r : ℕ) (j : Key) (ns : List (Placed Key)) → element_at p ns ≡ Some j → element_at r ns ≡ None → r ≢ p
free-differs p r j ns there free same = absurd (cc (sym there ∙ ap (λ z. element_at z ns) (sym same) ∙ free))

-- ---- the four

pub sequence-nodes : (s : State) (q : Queues) → sequence_of s (sequences_in q) ≡ keys_of (nodes_of s q)
sequence-nodes Anon q = refl
sequence-nodes Mru q = refl
sequence-nodes MruGhost q = refl
sequence-nodes Mfu q = refl
sequence-nodes MfuGhost q = refl
sequence-nodes L2Only q = refl

pub sequences-pushed : (s : State) (k : Key) (p : ℕ) (q : Queues) → sequences_in (pushed s k p q) ≡ put_at_head s k (sequences_in q)
sequences-pushed Anon k p q = refl
sequences-pushed Mru k p q = refl
sequences-pushed MruGhost k p q = refl
sequences-pushed Mfu k p q = refl
sequences-pushed MfuGhost k p q = refl
sequences-pushed L2Only k p q = refl

-- a list of another state, or of this one, after a node came
pushed-cases : (s t : State) (k : Key) (p : ℕ) (q : Queues) → (nodes_of t (pushed s k p q) ≡ nodes_of t q) ⊎ ((s ≡ t) × (nodes_of t (pushed s k p q) ≡ placed p k ∷ nodes_of t q))
pushed-cases Mru Mru k p q = inr (refl, refl)
pushed-cases MruGhost MruGhost k p q = inr (refl, refl)
pushed-cases Mfu Mfu k p q = inr (refl, refl)
pushed-cases MfuGhost MfuGhost k p q = inr (refl, refl)
pushed-cases s t k p q = inl refl

-- and after one went
removed-cases : (s t : State) (at : ℕ) (q : Queues) → (nodes_of t (removed s at q) ≡ nodes_of t q) ⊎ ((s ≡ t) × (nodes_of t (removed s at q) ≡ without_place at (nodes_of t q)))
removed-cases Mru Mru at q = inr (refl, refl)
removed-cases MruGhost MruGhost at q = inr (refl, refl)
removed-cases Mfu Mfu at q = inr (refl, refl)
removed-cases MfuGhost MfuGhost at q = inr (refl, refl)
removed-cases s t at q = inl refl

-- where a key stands on a list, by the list's nodes alone
abbrev IsPlacedIn : Key → Option ℕ → List (Placed Key) → Type 0
IsPlacedIn k at ns = MatchOption at (stands_on k (keys_of ns) ≡ false) (λ p. element_at p ns ≡ Some k)

into-nodes : (k : Key) (s : Standing) (q : Queues) → IsPlaced k s q → IsPlacedIn k s.at (nodes_of s.state q)
into-nodes k s q placed = subst (λ l. MatchOption s.at (stands_on k l ≡ false) (λ p. element_at p (nodes_of s.state q) ≡ Some k)) (sequence-nodes s.state q) placed

from-nodes : (k : Key) (s : Standing) (q : Queues) → IsPlacedIn k s.at (nodes_of s.state q) → IsPlaced k s q
from-nodes k s q placed = subst (λ l. MatchOption s.at (stands_on k l ≡ false) (λ p. element_at p (nodes_of s.state q) ≡ Some k)) (sym (sequence-nodes s.state q)) placed

beside-new : (j k : Key) (at : Option ℕ) (p : ℕ) (ns : List (Placed Key)) → element_at p ns ≡ None → key_eq k j ≡ false → IsPlacedIn j at ns → IsPlacedIn j at (placed p k ∷ ns)
beside-new j k None p ns free differs off = rw differs off
beside-new j k (Some r) p ns free differs there = element_at-other r (placed p k) ns (free-differs r p j ns there free) ∙ there

beside-gone : (j k : Key) (at : Option ℕ) (p : ℕ) (ns : List (Placed Key)) → element_at p ns ≡ Some k → key_eq k j ≡ false → IsPlacedIn j at ns → IsPlacedIn j at (without_place p ns)
beside-gone j k None p ns gone differs off = off-without p j ns off
beside-gone j k (Some r) p ns gone differs there = element_at-without_other r p ns (places-differ r p j k ns there gone differs) ∙ there

-- another key stays where it stands when a node comes
pub stays-pushed : (s : State) (j k : Key) (r : Standing) (p : ℕ) (q : Queues) → element_at p (nodes_of s q) ≡ None → key_eq k j ≡ false → IsPlaced j r q → IsPlaced j r (pushed s k p q)
stays-pushed s j k r p q free differs placed = from-nodes j r (pushed s k p q) (elim (pushed-cases s r.state k p q) [
  | inl same ↦ subst (IsPlacedIn j r.at) (sym same) (into-nodes j r q placed)
  | inr here ↦ subst (IsPlacedIn j r.at) (sym here.1)
      (beside-new j k r.at p (nodes_of r.state q) (subst (λ t. element_at p (nodes_of t q) ≡ None) here.0 free) differs (into-nodes j r q placed))
])

-- and when a node goes
pub stays-removed : (s : State) (j k : Key) (r : Standing) (p : ℕ) (q : Queues) → element_at p (nodes_of s q) ≡ Some k → key_eq k j ≡ false → IsPlaced j r q → IsPlaced j r (removed s p q)
stays-removed s j k r p q gone differs placed = from-nodes j r (removed s p q) (elim (removed-cases s r.state p q) [
  | inl same ↦ subst (IsPlacedIn j r.at) (sym same) (into-nodes j r q placed)
  | inr here ↦ subst (IsPlacedIn j r.at) (sym here.1)
      (beside-gone j k r.at p (nodes_of r.state q) (subst (λ t. element_at p (nodes_of t q) ≡ Some k) here.0 gone) differs (into-nodes j r q placed))
])

-- a key that came stands at its place
pub placed-new : (s : State) (k : Key) (p : ℕ) (q : Queues) → has_sequence s ≡ true → IsPlaced k (standing s (Some p)) (pushed s k p q)
placed-new Mru k p q has = element_at-head (placed p k) q.mru.nodes
placed-new MruGhost k p q has = element_at-head (placed p k) q.mru_ghost.nodes
placed-new Mfu k p q has = element_at-head (placed p k) q.mfu.nodes
placed-new MfuGhost k p q has = element_at-head (placed p k) q.mfu_ghost.nodes
placed-new Anon k p q has = absurd (false≢true has)
placed-new L2Only k p q has = absurd (false≢true has)

pub apart-of : (s : State) (q : Queues) → AreNodesApart q → AreApart (nodes_of s q)
apart-of Anon q apart = tt
apart-of Mru q apart = apart.mru
apart-of MruGhost q apart = apart.mru_ghost
apart-of Mfu q apart = apart.mfu
apart-of MfuGhost q apart = apart.mfu_ghost
apart-of L2Only q apart = tt

pub apart-pushed : (s : State) (k : Key) (p : ℕ) (q : Queues) → element_at p (nodes_of s q) ≡ None → AreNodesApart q → AreNodesApart (pushed s k p q)
apart-pushed Mru k p q free apart = record { mru = (free, apart.mru); mru_ghost = apart.mru_ghost; mfu = apart.mfu; mfu_ghost = apart.mfu_ghost }
apart-pushed MruGhost k p q free apart = record { mru = apart.mru; mru_ghost = (free, apart.mru_ghost); mfu = apart.mfu; mfu_ghost = apart.mfu_ghost }
apart-pushed Mfu k p q free apart = record { mru = apart.mru; mru_ghost = apart.mru_ghost; mfu = (free, apart.mfu); mfu_ghost = apart.mfu_ghost }
apart-pushed MfuGhost k p q free apart = record { mru = apart.mru; mru_ghost = apart.mru_ghost; mfu = apart.mfu; mfu_ghost = (free, apart.mfu_ghost) }
apart-pushed Anon k p q free apart = apart
apart-pushed L2Only k p q free apart = apart

pub apart-removed : (s : State) (at : ℕ) (q : Queues) → AreNodesApart q → AreNodesApart (removed s at q)
apart-removed Mru at q apart = record { mru = AreApart-without at q.mru.nodes apart.mru; mru_ghost = apart.mru_ghost; mfu = apart.mfu; mfu_ghost = apart.mfu_ghost }
apart-removed MruGhost at q apart = record { mru = apart.mru; mru_ghost = AreApart-without at q.mru_ghost.nodes apart.mru_ghost; mfu = apart.mfu; mfu_ghost = apart.mfu_ghost }
apart-removed Mfu at q apart = record { mru = apart.mru; mru_ghost = apart.mru_ghost; mfu = AreApart-without at q.mfu.nodes apart.mfu; mfu_ghost = apart.mfu_ghost }
apart-removed MfuGhost at q apart = record { mru = apart.mru; mru_ghost = apart.mru_ghost; mfu = apart.mfu; mfu_ghost = AreApart-without at q.mfu_ghost.nodes apart.mfu_ghost }
apart-removed Anon at q apart = apart
apart-removed L2Only at q apart = apart

pub room-pushed : (s : State) (k : Key) (p n : ℕ) (q : Queues) → HaveRoom q → HaveCapacity n q → HaveCapacity n (pushed s k p q)
room-pushed Mru k p n q room had = record { mru = omega (arith, had.mru, room.mru); mru_ghost = had.mru_ghost; mfu = had.mfu; mfu_ghost = had.mfu_ghost }
room-pushed MruGhost k p n q room had = record { mru = had.mru; mru_ghost = omega (arith, had.mru_ghost, room.mru_ghost); mfu = had.mfu; mfu_ghost = had.mfu_ghost }
room-pushed Mfu k p n q room had = record { mru = had.mru; mru_ghost = had.mru_ghost; mfu = omega (arith, had.mfu, room.mfu); mfu_ghost = had.mfu_ghost }
room-pushed MfuGhost k p n q room had = record { mru = had.mru; mru_ghost = had.mru_ghost; mfu = had.mfu; mfu_ghost = omega (arith, had.mfu_ghost, room.mfu_ghost) }
room-pushed Anon k p n q room had = had
room-pushed L2Only k p n q room had = had

pub room-removed : (s : State) (k : Key) (at n : ℕ) (q : Queues) → AreNodesApart q → element_at at (nodes_of s q) ≡ Some k → HaveCapacity n q → HaveCapacity n (removed s at q)
room-removed Mru k at n q apart there had = record { mru = omega (arith, had.mru, length-without at q.mru.nodes k apart.mru there); mru_ghost = had.mru_ghost; mfu = had.mfu; mfu_ghost = had.mfu_ghost }
room-removed MruGhost k at n q apart there had = record { mru = had.mru; mru_ghost = omega (arith, had.mru_ghost, length-without at q.mru_ghost.nodes k apart.mru_ghost there); mfu = had.mfu; mfu_ghost = had.mfu_ghost }
room-removed Mfu k at n q apart there had = record { mru = had.mru; mru_ghost = had.mru_ghost; mfu = omega (arith, had.mfu, length-without at q.mfu.nodes k apart.mfu there); mfu_ghost = had.mfu_ghost }
room-removed MfuGhost k at n q apart there had = record { mru = had.mru; mru_ghost = had.mru_ghost; mfu = had.mfu; mfu_ghost = omega (arith, had.mfu_ghost, length-without at q.mfu_ghost.nodes k apart.mfu_ghost there) }
room-removed Anon k at n q apart there had = had
room-removed L2Only k at n q apart there had = had

-- the sequences without a key whose node went, where it stood on no other
pub sequences-removed : (s : State) (k : Key) (at : ℕ) (q : Queues) → AreNodesApart q → is_distinct (sequence_of s (sequences_in q)) ≡ true → IsOnlyOn s k (sequences_in q)
    → element_at at (nodes_of s q) ≡ Some k → sequences_in (removed s at q) ≡ taken_off k (sequences_in q)
sequences-removed Mru k at q apart once only there =
    rw (keys-without at k q.mru.nodes apart.mru once there, left Mru MruGhost k (sequences_in q) only refl, left Mru Mfu k (sequences_in q) only refl, left Mru MfuGhost k (sequences_in q) only refl) refl
sequences-removed MruGhost k at q apart once only there =
    rw (keys-without at k q.mru_ghost.nodes apart.mru_ghost once there, left MruGhost Mru k (sequences_in q) only refl, left MruGhost Mfu k (sequences_in q) only refl, left MruGhost MfuGhost k (sequences_in q) only refl) refl
sequences-removed Mfu k at q apart once only there =
    rw (keys-without at k q.mfu.nodes apart.mfu once there, left Mfu Mru k (sequences_in q) only refl, left Mfu MruGhost k (sequences_in q) only refl, left Mfu MfuGhost k (sequences_in q) only refl) refl
sequences-removed MfuGhost k at q apart once only there =
    rw (keys-without at k q.mfu_ghost.nodes apart.mfu_ghost once there, left MfuGhost Mru k (sequences_in q) only refl, left MfuGhost MruGhost k (sequences_in q) only refl, left MfuGhost Mfu k (sequences_in q) only refl) refl
sequences-removed Anon k at q apart once only there = absurd (cc)
sequences-removed L2Only k at q apart once only there = absurd (cc)

-- ---- the posts

pub member-at : (k : Key) (posts : List Post) (s : Standing) → item_at post_key k posts ≡ Some (post k s) → item_at member_key k (members_of posts) ≡ Some (member k s.state)
member-at k posts s item = item_at-map post_key member_key member_of (λ p. refl) k posts ∙ ap (option_map member_of) item

pub members-come : (k : Key) (s : Standing) (posts : List Post) → members_of (with_item post_key (post k s) posts) ≡ with_item member_key (member k s.state) (members_of posts)
members-come k s posts = map-with_item post_key member_key member_of (λ p. refl) (post k s) posts

pub members-go : (k : Key) (posts : List Post) → members_of (without post_key k posts) ≡ without member_key k (members_of posts)
members-go k posts = map-without post_key member_key member_of (λ p. refl) k posts
