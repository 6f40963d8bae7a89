-- What a key that comes, goes, is put on its sequence or taken off keeps of the lists' invariant.
use Rattle.std.proofs.Common.{◌≡◌, ℕ, suc, ◌+◌, ◌-◌, ◌<◌, ◌≤◌, ◌^◌, Bool, true, false, List, [], ◌∷◌, length, Option, Some, None, IsTrue, IsSome, MatchOption, is_some, option_map, if◌then◌else◌, ◌⊎◌, inl, inr, refl, sym, ap, subst, ◌∙◌, arith}
use Rattle.std.specs.List.{AllByRecursion}
use Rattle.std.proofs.lemmas.Bool.{false≢true}
use Rattle.blk_ptr.specs.Size.{largest_block}
use Rattle.blk_ptr.specs.declared.key.Key.{Key}
use Rattle.blk_ptr.specs.declared.state.State.{State}
use Rattle.blk_ptr.specs.declared.state.State.TheVariants.{Anon, Mru, MruGhost, Mfu, MfuGhost, L2Only}
use Rattle.blk_ptr.specs.Order.{key_eq}
use Rattle.blk_ptr.proofs.Keys.{key_eq-is, key_eq-sym}
use Rattle.arc_links.specs.PlainLinks.{AreApart, element_at}
use Rattle.arc_lists.specs.declared.member.Member.{Member}
use Rattle.arc_lists.specs.declared.queues.Queues.{Queues}
use Rattle.arc_lists.specs.ByKey.{IsAbove, IsRising, has_key, item_at, with_item, without}
use Rattle.arc_lists.specs.Kept.{ListsKeep, Parts}
use Rattle.arc_lists.specs.Members.{member, member_key, share_of, size_of}
use Rattle.arc_lists.specs.Posts.{Post, Standing, Posts, member_of, members_of, post, post_key, standing}
use Rattle.arc_lists.specs.Queues.{AreInState, AreNodesApart, ArePlaced, AreSequencesOf, HaveCapacity, HaveRoom, HaveSameNodes, IsEntered, IsOn, IsOnlyOn, IsPlaced, left, nodes_of, pushed, sequences_in, size_at}
use Rattle.arc_lists.specs.Sequences.{Sequences, has_sequence, is_distinct, put_at_head, sequence_of, stands, stands_on, taken_off}
use Rattle.arc_lists.proofs.InState.{AreInState-head, AreInState-with_item, AreInState-without, only_on}
use Rattle.arc_lists.proofs.Placing.{apart-pushed, apart-removed, member-at, members-come, members-go, placed-new, room-pushed, room-removed, sequences-pushed, sequences-removed, stays-pushed, stays-removed}
use Rattle.arc_lists.proofs.SizeSums.{size_of-with_item, size_of-without, size_of-le}
use Rattle.arc_lists.proofs.Standing.{AreSequencesOf-head, AreSequencesOf-with_item, AreSequencesOf-without, HaveCapacity-le, IsOff, off_absent, without_key-absent}
use Rattle.arc_lists.proofs.Tables.{cases_true, some_is, item_at-map, All-with_item, All-without, IsRising-with_item, IsRising-without, item_at-with_item_other, item_at-with_item_same, item_at-without_other, item_at-without_same, length-with_item, length-without}

pub length-members : (posts : List Post) → length (members_of posts) ≡ length posts
length-members [] = refl
length-members (p ∷ posts) = ap (λ n. suc n) (length-members posts)

-- every size is far from the end of its type
pub size_at-lt : (l : Parts) (s : State) (z : ℕ) → ListsKeep l → z < 2 ^ 64 → size_at s l.sizes + z < 2 ^ 90
size_at-lt l s z kept small =
    omega (arith, kept.sizes s, size_of-le s (members_of l.members.posts) kept.small, length-members l.members.posts, kept.few)

pub rising-members : (posts : List Post) → IsRising post_key posts → IsRising member_key (members_of posts)
rising-members [] rising = tt
rising-members (p ∷ posts) rising = (above p.key posts rising.0, rising-members posts rising.1)
  where
    above : (k : Key) (posts : List Post) → IsAbove post_key k posts → IsAbove member_key k (members_of posts)
    above k [] up = tt
    above k (p ∷ posts) up = (up.0, above k posts up.1)

pub no-member : (posts : List Post) (k : Key) → has_key post_key k posts ≡ false → has_key member_key k (members_of posts) ≡ false
no-member posts k absent = ap is_some (item_at-map post_key member_key member_of (λ p. refl) k posts) ∙ none (item_at post_key k posts) absent
  where
    none : (o : Option Post) → is_some o ≡ false → is_some (option_map member_of o) ≡ false
    none None off = refl
    none (Some p) off = off

-- a key that is a member has a post
pub post-of : (posts : List Post) (k : Key) → IsSome (item_at member_key k (members_of posts)) → IsSome (item_at post_key k posts)
post-of posts k there = some (item_at post_key k posts) (sym (ap is_some (item_at-map post_key member_key member_of (λ p. refl) k posts)) ∙ there)
  where
    some : (o : Option Post) → IsSome (option_map member_of o) → IsSome o
    some None off = off
    some (Some p) off = refl

-- the invariant, from what the members are
kept-of : (n : Parts) (posts : List Post) (spare : ℕ) → n.members ≡ record { posts = posts; spare = spare } → IsRising post_key posts
    → AllByRecursion (λ m. m.key.size ≤ largest_block) (members_of posts) → ((s : State) → size_at s n.sizes ≡ size_of s (members_of posts)) → length posts + spare < 2 ^ 64
    → HaveCapacity (length posts + spare) n.queues → AreSequencesOf (members_of posts) (sequences_in n.queues) → AreInState (members_of posts) (sequences_in n.queues)
    → ArePlaced posts n.queues → AreNodesApart n.queues → ListsKeep n
kept-of n posts spare is rising small sizes few queues listed stated placed apart =
    let p : posts ≡ n.members.posts = ap (λ m. m.posts) (sym is) in
    let s : spare ≡ n.members.spare = ap (λ m. m.spare) (sym is) in
    record {
      rising = subst (IsRising post_key) p rising;
      small = subst (λ ps. AllByRecursion (λ m. m.key.size ≤ largest_block) (members_of ps)) p small;
      sizes = λ t. subst (λ ps. size_at t n.sizes ≡ size_of t (members_of ps)) p (sizes t);
      few = subst (λ z. length n.members.posts + z < 2 ^ 64) s (subst (λ ps. length ps + spare < 2 ^ 64) p few);
      queues = subst (λ z. HaveCapacity (length n.members.posts + z) n.queues) s (subst (λ ps. HaveCapacity (length ps + spare) n.queues) p queues);
      listed = subst (λ ps. AreSequencesOf (members_of ps) (sequences_in n.queues)) p listed;
      stated = subst (λ ps. AreInState (members_of ps) (sequences_in n.queues)) p stated;
      placed = subst (λ ps. ArePlaced ps n.queues) p placed;
      apart = apart;
    }

-- the posts where one comes, goes or changes: who else is there
module _ (k : Key) (posts : List Post) where
  placed-come : (r : Standing) (q q' : Queues) → has_key post_key k posts ≡ false → ((j : Key) (s : Standing) → key_eq k j ≡ false → IsPlaced j s q → IsPlaced j s q') → IsPlaced k r q'
      → ArePlaced posts q → ArePlaced (with_item post_key (post k r) posts) q'
  placed-come r q q' absent stays here placed j s item = elim (cases_true (key_eq k j)) [
    | inl same ↦
        let is = key_eq-is k j same in
        let at : post k r ≡ post j s = some_is (sym (item_at-with_item_same post_key (post k r) posts absent) ∙ ap (λ h. item_at post_key h (with_item post_key (post k r) posts)) is ∙ item) in
        subst (λ (p : Post). IsPlaced p.key p.standing q') at here
    | inr differs ↦ stays j s differs (placed j s (sym (item_at-with_item_other post_key j (post k r) posts differs) ∙ item))
  ]

  placed-go : (q q' : Queues) → IsRising post_key posts → ((j : Key) (s : Standing) → key_eq k j ≡ false → IsPlaced j s q → IsPlaced j s q') → ArePlaced posts q → ArePlaced (without post_key k posts) q'
  placed-go q q' rising stays placed j s item = elim (cases_true (key_eq j k)) [
    | inl same ↦ absurd (cc (sym (subst (λ h. item_at post_key h (without post_key k posts) ≡ None) (sym (key_eq-is j k same)) (item_at-without_same post_key k posts rising)) ∙ item))
    | inr differs ↦ stays j s (key_eq-sym k j ∙ differs) (placed j s (sym (item_at-without_other post_key j k posts differs) ∙ item))
  ]

off-each : (s : State) (q : Sequences) {k : Key} → IsOff k q → stands_on k (sequence_of s q) ≡ false
off-each Anon q off = refl
off-each Mru q off = off.mru
off-each MruGhost q off = off.mru_ghost
off-each Mfu q off = off.mfu
off-each MfuGhost q off = off.mfu_ghost
off-each L2Only q off = refl

-- ---- a key comes

-- and stands on no sequence
pub ListsKeep-put_held : (l n : Parts) (k : Key) (s : State) → ListsKeep l → 0 < l.members.spare → has_key post_key k l.members.posts ≡ false → k.size ≤ largest_block
    → n.members ≡ record { posts = with_item post_key (post k (standing s None)) l.members.posts; spare = l.members.spare - 1 }
    → ((t : State) → size_at t n.sizes ≡ size_at t l.sizes + share_of t (member k s)) → n.queues ≡ l.queues → ListsKeep n
ListsKeep-put_held l n k s kept some absent small is sizes queues =
    let posts = l.members.posts in
    let ms = members_of posts in
    let r = standing s None in
    let come = members-come k r posts in
    let more = length-with_item post_key (post k r) posts in
    let absent' = no-member posts k absent in
    let off = off_absent ms k (sequences_in l.queues) absent' kept.listed in
    let here : IsPlaced k r l.queues = off-each s (sequences_in l.queues) off in
    kept-of n (with_item post_key (post k r) posts) (l.members.spare - 1) is (IsRising-with_item post_key (post k r) posts kept.rising absent)
    (subst (AllByRecursion (λ m. m.key.size ≤ largest_block)) (sym come) (All-with_item member_key _ (member k s) ms small kept.small))
    (λ t. sizes t ∙ subst (λ z. size_at t l.sizes + share_of t (member k s) ≡ size_of t z) (sym come) (omega (arith, kept.sizes t, size_of-with_item t (member k s) ms)))
    (omega (arith, kept.few, more, some))
    (subst (HaveCapacity _) (sym queues) (HaveCapacity-le _ _ l.queues (omega (arith, more, some)) kept.queues))
    (subst (λ q. AreSequencesOf (members_of (with_item post_key (post k r) posts)) (sequences_in q)) (sym queues) (subst (λ z. AreSequencesOf z (sequences_in l.queues)) (sym come) (AreSequencesOf-with_item (member k s) ms (sequences_in l.queues) absent' kept.listed)))
    (subst (λ q. AreInState (members_of (with_item post_key (post k r) posts)) (sequences_in q)) (sym queues) (subst (λ z. AreInState z (sequences_in l.queues)) (sym come) (AreInState-with_item (member k s) ms (sequences_in l.queues) absent' kept.stated)))
    (subst (ArePlaced (with_item post_key (post k r) posts)) (sym queues) (placed-come k posts r l.queues l.queues absent (λ j t differs placed. placed) here kept.placed))
    (subst AreNodesApart (sym queues) kept.apart)

-- and stands at the head of its state's
pub ListsKeep-put_free : (l n : Parts) (k : Key) (s : State) (p : ℕ) → ListsKeep l → 0 < l.members.spare → has_key post_key k l.members.posts ≡ false → k.size ≤ largest_block
    → n.members ≡ record { posts = with_item post_key (post k (standing s (Some p))) l.members.posts; spare = l.members.spare - 1 }
    → ((t : State) → size_at t n.sizes ≡ size_at t l.sizes + share_of t (member k s)) → n.queues ≡ pushed s k p l.queues
    → has_sequence s ≡ true → element_at p (nodes_of s l.queues) ≡ None → HaveRoom l.queues → ListsKeep n
ListsKeep-put_free l n k s p kept some absent small is sizes queues has free room =
    let posts = l.members.posts in
    let ms = members_of posts in
    let r = standing s (Some p) in
    let come = members-come k r posts in
    let more = length-with_item post_key (post k r) posts in
    let absent' = no-member posts k absent in
    let q = pushed s k p l.queues in
    let seq = sequences-pushed s k p l.queues in
    let off = off_absent ms k (sequences_in l.queues) absent' kept.listed in
    let item = item_at-with_item_same member_key (member k s) ms absent' in
    let there : IsTrue (has_key member_key k (with_item member_key (member k s) ms)) = ap is_some item in
    let listed : AreSequencesOf (with_item member_key (member k s) ms) (sequences_in q) =
    subst (AreSequencesOf (with_item member_key (member k s) ms)) (sym seq) (AreSequencesOf-head s _ k (sequences_in l.queues) there off (AreSequencesOf-with_item (member k s) ms (sequences_in l.queues) absent' kept.listed)) in
    let stated : AreInState (with_item member_key (member k s) ms) (sequences_in q) =
    subst (AreInState (with_item member_key (member k s) ms)) (sym seq) (AreInState-head s _ k (sequences_in l.queues) item (AreInState-with_item (member k s) ms (sequences_in l.queues) absent' kept.stated)) in
    kept-of n (with_item post_key (post k r) posts) (l.members.spare - 1) is (IsRising-with_item post_key (post k r) posts kept.rising absent)
    (subst (AllByRecursion (λ m. m.key.size ≤ largest_block)) (sym come) (All-with_item member_key _ (member k s) ms small kept.small))
    (λ t. sizes t ∙ subst (λ z. size_at t l.sizes + share_of t (member k s) ≡ size_of t z) (sym come) (omega (arith, kept.sizes t, size_of-with_item t (member k s) ms)))
    (omega (arith, kept.few, more, some))
    (subst (HaveCapacity _) (sym queues) (HaveCapacity-le _ _ q (omega (arith, more, some)) (room-pushed s k p _ l.queues room kept.queues)))
    (subst (λ z. AreSequencesOf (members_of (with_item post_key (post k r) posts)) (sequences_in z)) (sym queues) (subst (λ z. AreSequencesOf z (sequences_in q)) (sym come) listed))
    (subst (λ z. AreInState (members_of (with_item post_key (post k r) posts)) (sequences_in z)) (sym queues) (subst (λ z. AreInState z (sequences_in q)) (sym come) stated))
    (subst (ArePlaced (with_item post_key (post k r) posts)) (sym queues)
    (placed-come k posts r l.queues q absent (λ j t differs placed. stays-pushed s j k t p l.queues free differs placed) (placed-new s k p l.queues has) kept.placed))
    (subst AreNodesApart (sym queues) (apart-pushed s k p l.queues free kept.apart))

-- what entering the lists did
pub record Stayed (unheld : Bool) (s : State) (at : Option ℕ) (old new : Queues) : Type 0 where
  pub at_is : at ≡ None
  pub same : new ≡ old
  pub head : (k : Key) (q : Sequences) → (if unheld then put_at_head s k q else q) ≡ q

pub record Came (unheld : Bool) (s : State) (k : Key) (at : Option ℕ) (old new : Queues) : Type 0 where
  pub place : ℕ
  pub at_is : at ≡ Some place
  pub free : element_at place (nodes_of s old) ≡ None
  pub new_is : new ≡ pushed s k place old
  pub has : has_sequence s ≡ true
  pub head : (q : Sequences) → (if unheld then put_at_head s k q else q) ≡ put_at_head s k q

pub entered-cases : (unheld : Bool) (s : State) (k : Key) (at : Option ℕ) (old new : Queues) → IsEntered unheld s k at old new → Stayed unheld s at old new ⊎ Came unheld s k at old new
entered-cases false s k at old new entered = inl (record { at_is = entered.0; same = entered.1; head = λ j q. refl })
entered-cases true Anon k at old new entered = inl (record { at_is = entered.0; same = entered.1; head = λ j q. refl })
entered-cases true L2Only k at old new entered = inl (record { at_is = entered.0; same = entered.1; head = λ j q. refl })
entered-cases true Mru k at old new entered = inr (record { place = entered.0; at_is = entered.1; free = entered.2; new_is = entered.3; has = refl; head = λ q. refl })
entered-cases true MruGhost k at old new entered = inr (record { place = entered.0; at_is = entered.1; free = entered.2; new_is = entered.3; has = refl; head = λ q. refl })
entered-cases true Mfu k at old new entered = inr (record { place = entered.0; at_is = entered.1; free = entered.2; new_is = entered.3; has = refl; head = λ q. refl })
entered-cases true MfuGhost k at old new entered = inr (record { place = entered.0; at_is = entered.1; free = entered.2; new_is = entered.3; has = refl; head = λ q. refl })

pub sequences-entered : (unheld : Bool) (s : State) (k : Key) (at : Option ℕ) (old new : Queues) → IsEntered unheld s k at old new
    → sequences_in new ≡ (if unheld then put_at_head s k (sequences_in old) else sequences_in old)
sequences-entered unheld s k at old new entered = elim (entered-cases unheld s k at old new entered) [
  | inl stayed ↦ ap sequences_in stayed.same ∙ sym (stayed.head k (sequences_in old))
  | inr came ↦ ap sequences_in came.new_is ∙ sequences-pushed s k came.place old ∙ sym (came.head (sequences_in old))
]

pub ListsKeep-put : (l n : Parts) (k : Key) (s : State) (at : Option ℕ) (unheld : Bool) → ListsKeep l → 0 < l.members.spare → has_key post_key k l.members.posts ≡ false → k.size ≤ largest_block
    → n.members ≡ record { posts = with_item post_key (post k (standing s at)) l.members.posts; spare = l.members.spare - 1 }
    → ((t : State) → size_at t n.sizes ≡ size_at t l.sizes + share_of t (member k s)) → IsEntered unheld s k at l.queues n.queues → HaveRoom l.queues → ListsKeep n
ListsKeep-put l n k s at unheld kept some absent small is sizes entered room = elim (entered-cases unheld s k at l.queues n.queues entered) [
  | inl stayed ↦ ListsKeep-put_held l n k s kept some absent small
      (subst (λ o. n.members ≡ record { posts = with_item post_key (post k (standing s o)) l.members.posts; spare = l.members.spare - 1 }) stayed.at_is is) sizes stayed.same
  | inr came ↦ ListsKeep-put_free l n k s came.place kept some absent small
      (subst (λ o. n.members ≡ record { posts = with_item post_key (post k (standing s o)) l.members.posts; spare = l.members.spare - 1 }) came.at_is is) sizes came.new_is came.has came.free room
]

-- ---- where a member stands

on_some : (k : Key) (q : Sequences) → stands k q ≡ true → (t : State) × (stands_on k (sequence_of t q) ≡ true)
on_some k q there = elim (cases_true (stands_on k q.mru)) [
  | inl on ↦ (Mru, on)
  | inr a ↦ elim (cases_true (stands_on k q.mru_ghost)) [
    | inl on ↦ (MruGhost, on)
    | inr b ↦ elim (cases_true (stands_on k q.mfu)) [
      | inl on ↦ (Mfu, on)
      | inr d ↦
          let last : stands_on k q.mfu_ghost ≡ true = rw (a, b, d) at there in
          (MfuGhost, last)
    ]
  ]
]

-- a member that stands on a sequence does so on its state's, at its place
pub record OnPlace (l : Parts) (k : Key) (s : Standing) : Type 0 where
  pub place : ℕ
  pub at_is : s.at ≡ Some place
  pub node : element_at place (nodes_of s.state l.queues) ≡ Some k
  pub on : stands_on k (sequence_of s.state (sequences_in l.queues)) ≡ true

abbrev OnPlaceAt : Parts → Key → Standing → Option ℕ → Type 0
OnPlaceAt l k s at = (p : ℕ) × (at ≡ Some p) × (element_at p (nodes_of s.state l.queues) ≡ Some k) × (stands_on k (sequence_of s.state (sequences_in l.queues)) ≡ true)

pub on-place : (l : Parts) (k : Key) (s : Standing) → ListsKeep l → item_at post_key k l.members.posts ≡ Some (post k s) → stands k (sequences_in l.queues) ≡ true → OnPlace l k s
on-place l k s kept item there =
    let some = on_some k (sequences_in l.queues) there in
    let same : s.state ≡ some.0 = ap (λ (m : Member). m.state) (some_is (sym (member-at k l.members.posts s item) ∙ kept.stated some.0 k some.1)) in
    let on : stands_on k (sequence_of s.state (sequences_in l.queues)) ≡ true = subst (λ t. stands_on k (sequence_of t (sequences_in l.queues)) ≡ true) (sym same) some.1 in
    let found = go s.at on (kept.placed k s item) in
    record { place = found.0; at_is = found.1; node = found.2; on = found.3 }
  where
    go : (at : Option ℕ) → stands_on k (sequence_of s.state (sequences_in l.queues)) ≡ true
        → MatchOption at (stands_on k (sequence_of s.state (sequences_in l.queues)) ≡ false) (λ p. element_at p (nodes_of s.state l.queues) ≡ Some k) → OnPlaceAt l k s at
    go None on off = absurd (false≢true (sym off ∙ on))
    go (Some p) on node = (p, refl, node, on)

pub is-on : (l : Parts) (k : Key) (s : Standing) → ListsKeep l → item_at post_key k l.members.posts ≡ Some (post k s) → IsOn s.state s.at l.queues
is-on l k s kept item = go s.at (kept.placed k s item)
  where
    go : (at : Option ℕ) → MatchOption at (stands_on k (sequence_of s.state (sequences_in l.queues)) ≡ false) (λ p. element_at p (nodes_of s.state l.queues) ≡ Some k) → IsOn s.state at l.queues
    go None off = tt
    go (Some p) node = ap is_some node

pub distinct-of : (s : State) (ms : List Member) (q : Sequences) → AreSequencesOf ms q → is_distinct (sequence_of s q) ≡ true
distinct-of Anon ms q listed = refl
distinct-of Mru ms q listed = listed.mru.once
distinct-of MruGhost ms q listed = listed.mru_ghost.once
distinct-of Mfu ms q listed = listed.mfu.once
distinct-of MfuGhost ms q listed = listed.mfu_ghost.once
distinct-of L2Only ms q listed = refl

off-all : (k : Key) (q : Sequences) → IsOff k q → q ≡ taken_off k q
off-all k q off = rw (without_key-absent k q.mru off.mru, without_key-absent k q.mru_ghost off.mru_ghost, without_key-absent k q.mfu off.mfu, without_key-absent k q.mfu_ghost off.mfu_ghost) refl

off-of : (k : Key) (s : State) (q : Sequences) → IsOnlyOn s k q → stands_on k (sequence_of s q) ≡ false → IsOff k q
off-of k Anon q only off = record { mru = only Mru refl; mru_ghost = only MruGhost refl; mfu = only Mfu refl; mfu_ghost = only MfuGhost refl }
off-of k L2Only q only off = record { mru = only Mru refl; mru_ghost = only MruGhost refl; mfu = only Mfu refl; mfu_ghost = only MfuGhost refl }
off-of k Mru q only off = record { mru = off; mru_ghost = only MruGhost refl; mfu = only Mfu refl; mfu_ghost = only MfuGhost refl }
off-of k MruGhost q only off = record { mru = only Mru refl; mru_ghost = off; mfu = only Mfu refl; mfu_ghost = only MfuGhost refl }
off-of k Mfu q only off = record { mru = only Mru refl; mru_ghost = only MruGhost refl; mfu = off; mfu_ghost = only MfuGhost refl }
off-of k MfuGhost q only off = record { mru = only Mru refl; mru_ghost = only MruGhost refl; mfu = only Mfu refl; mfu_ghost = off }

-- the lists after a member's node went, where it had one
pub record Left (l : Parts) (k : Key) (s : Standing) (q : Queues) : Type 0 where
  pub sequences : sequences_in q ≡ taken_off k (sequences_in l.queues)
  pub stays : (j : Key) (r : Standing) → key_eq k j ≡ false → IsPlaced j r l.queues → IsPlaced j r q
  pub apart : AreNodesApart q
  pub room : (n : ℕ) → HaveCapacity n l.queues → HaveCapacity n q

pub left-of : (l : Parts) (k : Key) (s : Standing) → ListsKeep l → item_at post_key k l.members.posts ≡ Some (post k s) → Left l k s (left s.state s.at l.queues)
left-of l k s kept item = go s.at (kept.placed k s item)
  where
    only : IsOnlyOn s.state k (sequences_in l.queues)
    only = only_on s.state (members_of l.members.posts) k (sequences_in l.queues) (member-at k l.members.posts s item) kept.stated

    go : (at : Option ℕ) → MatchOption at (stands_on k (sequence_of s.state (sequences_in l.queues)) ≡ false) (λ p. element_at p (nodes_of s.state l.queues) ≡ Some k) → Left l k s (left s.state at l.queues)
    go None off = record {
      sequences = off-all k (sequences_in l.queues) (off-of k s.state (sequences_in l.queues) only off);
      stays = λ j r differs placed. placed;
      apart = kept.apart;
      room = λ n had. had;
    }
    go (Some p) node = record {
      sequences = sequences-removed s.state k p l.queues kept.apart (distinct-of s.state (members_of l.members.posts) (sequences_in l.queues) kept.listed) only node;
      stays = λ j r differs placed. stays-removed s.state j k r p l.queues node differs placed;
      apart = apart-removed s.state p l.queues kept.apart;
      room = λ n had. room-removed s.state k p n l.queues kept.apart node had;
    }

-- ---- a key goes

pub ListsKeep-take_out : (l n : Parts) (k : Key) (s : Standing) → ListsKeep l → item_at post_key k l.members.posts ≡ Some (post k s)
    → n.members ≡ record { posts = without post_key k l.members.posts; spare = l.members.spare + 1 }
    → ((t : State) → size_at t n.sizes + share_of t (member k s.state) ≡ size_at t l.sizes) → n.queues ≡ left s.state s.at l.queues → ListsKeep n
ListsKeep-take_out l n k s kept item is sizes queues =
    let posts = l.members.posts in
    let ms = members_of posts in
    let q = left s.state s.at l.queues in
    let gone = left-of l k s kept item in
    let go = members-go k posts in
    let fewer = length-without post_key k posts (post k s) item in
    let at = member-at k posts s item in
    kept-of n (without post_key k posts) (l.members.spare + 1) is (IsRising-without post_key k posts kept.rising)
    (subst (AllByRecursion (λ m. m.key.size ≤ largest_block)) (sym go) (All-without member_key _ k ms kept.small))
    (λ t. subst (λ z. size_at t n.sizes ≡ size_of t z) (sym go) (omega (arith, kept.sizes t, sizes t, size_of-without t k ms (member k s.state) at)))
    (omega (arith, kept.few, fewer))
    (subst (HaveCapacity _) (sym queues) (HaveCapacity-le _ _ q (omega (arith, fewer)) (gone.room _ kept.queues)))
    (subst (λ z. AreSequencesOf (members_of (without post_key k posts)) (sequences_in z)) (sym queues)
    (subst (λ z. AreSequencesOf z (sequences_in q)) (sym go) (subst (AreSequencesOf (without member_key k ms)) (sym gone.sequences) (AreSequencesOf-without k ms (sequences_in l.queues) kept.listed))))
    (subst (λ z. AreInState (members_of (without post_key k posts)) (sequences_in z)) (sym queues)
    (subst (λ z. AreInState z (sequences_in q)) (sym go) (subst (AreInState (without member_key k ms)) (sym gone.sequences) (AreInState-without k ms (sequences_in l.queues) kept.stated))))
    (subst (ArePlaced (without post_key k posts)) (sym queues) (placed-go k posts l.queues q kept.rising gone.stays kept.placed))
    (subst AreNodesApart (sym queues) gone.apart)

-- ---- more room

same-sequences : (old new : Queues) → HaveSameNodes old new → sequences_in new ≡ sequences_in old
same-sequences old new same = rw (same.mru, same.mru_ghost, same.mfu, same.mfu_ghost) refl

same-nodes : (s : State) (old new : Queues) → HaveSameNodes old new → nodes_of s new ≡ nodes_of s old
same-nodes Anon old new same = refl
same-nodes Mru old new same = same.mru
same-nodes MruGhost old new same = same.mru_ghost
same-nodes Mfu old new same = same.mfu
same-nodes MfuGhost old new same = same.mfu_ghost
same-nodes L2Only old new same = refl

pub ListsKeep-reserve : (l : Parts) (m : Posts) (q : Queues) (n : ℕ) → ListsKeep l → m.posts ≡ l.members.posts → m.spare ≤ n → length l.members.posts + n < 2 ^ 64
    → HaveSameNodes l.queues q → HaveCapacity (length l.members.posts + n) q → ListsKeep record { members = m; queues = q; sizes = l.sizes; p = l.p; c = l.c }
ListsKeep-reserve l m q n kept is spare few same room =
    let seq = sym (same-sequences l.queues q same) in
    let after : Parts = record { members = m; queues = q; sizes = l.sizes; p = l.p; c = l.c } in
    kept-of after l.members.posts m.spare (ap (λ ps. record { posts = ps; spare = m.spare }) is) kept.rising kept.small kept.sizes (omega (arith, few, spare))
    (HaveCapacity-le _ _ q (omega (arith, spare)) room)
    (subst (AreSequencesOf (members_of l.members.posts)) seq kept.listed) (subst (AreInState (members_of l.members.posts)) seq kept.stated)
    (λ k s item. moved k s (kept.placed k s item))
    (record {
      mru = subst AreApart (sym same.mru) kept.apart.mru;
      mru_ghost = subst AreApart (sym same.mru_ghost) kept.apart.mru_ghost;
      mfu = subst AreApart (sym same.mfu) kept.apart.mfu;
      mfu_ghost = subst AreApart (sym same.mfu_ghost) kept.apart.mfu_ghost;
    })
  where
    moved : (k : Key) (s : Standing) → IsPlaced k s l.queues → IsPlaced k s q
    moved k s placed = go s.at placed
      where
        go : (at : Option ℕ) → MatchOption at (stands_on k (sequence_of s.state (sequences_in l.queues)) ≡ false) (λ p. element_at p (nodes_of s.state l.queues) ≡ Some k)
            → MatchOption at (stands_on k (sequence_of s.state (sequences_in q)) ≡ false) (λ p. element_at p (nodes_of s.state q) ≡ Some k)
        go None off = ap (λ z. stands_on k (sequence_of s.state z)) (same-sequences l.queues q same) ∙ off
        go (Some p) node = ap (element_at p) (same-nodes s.state l.queues q same) ∙ node
