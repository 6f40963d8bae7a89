-- A scan ends: all headers in hand say what their entries do, and all may be given back.
use Rattle.std.proofs.Common.{◌≡◌, ◌≢◌, ◌⊎◌, ◌==◌, if◌then◌else◌, ℕ, List, [], ◌∷◌, ◌++◌, Bool, true, false, Option, Some, None, refl, sym, ap, ◌∙◌, subst, inl, inr, eq-eqb, ne_eqb, arith}
use Rattle.std.specs.Prelude.{IsTrue, IsSome, not, nat_lt}
use Rattle.std.proofs.lemmas.Option.{none-some}
use Rattle.std.proofs.lemmas.Bool.Decides.{nat_tests}
use mathlib.Core.Logic.{dite}
use native.Mathlib.Decide.{ℕ_discrete}
use Rattle.blk_ptr.specs.declared.key.Key.{Key}
use Rattle.arc_lists.specs.Sequences.{stands_on}
use Rattle.arc_core.specs.declared.config.Config.{Config}
use Rattle.arc_core.specs.declared.entry.Entry.{Entry}
use Rattle.arc_core.specs.declared.event.Event.{Event}
use Rattle.arc_core.specs.Operations.{event_key, is_about}
use Rattle.arc_core.specs.PlainShard.{PlainShard, entry_of}
use Rattle.arc_core.specs.ShardLog.{ShardLog}
use Rattle.arc_core.specs.Sparing.{IsSpared}
use Rattle.arc_core.proofs.Others.{sparing}
use Rattle.hash_chain.specs.Chain.{Chain, header_at}
use Rattle.hash_chain.specs.declared.header.Header.{Header}
use Rattle.turn_table.specs.Places.{Place, gave_back}
use Rattle.arc_table.specs.declared.in_hand.Hand.{Hand}
use Rattle.arc_table.specs.declared.scan.Scan.{Scan}
use Rattle.arc_table.specs.declared.item.Item.TheVariants as item
use Rattle.arc_table.specs.declared.view.Known.{Known}
use Rattle.arc_table.specs.scans.Ending.{HasMade}
use Rattle.arc_table.specs.Fronts.{item_at, list_at, without_item}
use Rattle.arc_table.specs.Geometry.{IsBucket, IsShard, bucket_turn, shard_turn}
use Rattle.arc_table.specs.pact.Headed.{IsHead}
use Rattle.arc_table.specs.InHand.{buckets_of, made_since}
use Rattle.arc_table.specs.Items.{Meanings}
use Rattle.arc_table.specs.scans.Scanning.{AllPairs, AreApart, IsBucketOf, IsInHand, IsKnownBucket, pairs_of, won_all}
use Rattle.arc_table.specs.ShardGiving.{IsGivenShard, after_shard, buckets_in, listed_through}
use Rattle.arc_table.specs.scans.Sparing.{AreHeadsBut, turns_in}
use Rattle.arc_table.specs.TableLaws.{item_here}
use Rattle.arc_table.specs.Views.{after_won}
use Rattle.arc_table.proofs.OneEvent.{made_is}
use Rattle.arc_table.proofs.scans.Scans.{added_among, among_without, each_held, is_there, item_front, item_past, pair_at, some_front, some_is}
use Rattle.arc_table.proofs.scans.ScanGives.{about_is, apart_turns, same_some, scan_given}
use Rattle.arc_table.proofs.ShardGives.{front_items, listed_at}

not_true : (b : Bool) → b ≡ false → IsTrue (not b)
not_true b h = ap not h

-- a turn that is none of these
far_none : (x : ℕ) (vs : List (ℕ × Chain)) → item_at x vs ≡ None → AllPairs (λ j b. j ≢ x) vs
far_none x [] h = tt
far_none x (v ∷ vs) h = dite (ℕ_discrete x v.0)
    (λ q. absurd (none-some v.1 (sym h ∙ subst (λ (t : Bool). (if t then Some v.1 else item_at x vs) ≡ Some v.1) (sym (eq-eqb x v.0 q)) refl)))
    (λ q. ((λ r. q (sym r)), far_none x vs (subst (λ (t : Bool). (if t then Some v.1 else item_at x vs) ≡ None) (ne_eqb x v.0 q) h)))

both_pairs : (P Q R : ℕ → Chain → Type 0) (vs : List (ℕ × Chain)) → ((j : ℕ) (b : Chain) → P j b → Q j b → R j b) → AllPairs P vs → AllPairs Q vs → AllPairs R vs
both_pairs P Q R [] f p q = tt
both_pairs P Q R (v ∷ vs) f p q = (f v.0 v.1 p.0 q.0, both_pairs P Q R vs f p.1 q.1)

-- ---- what is so once the event is made

module _ {C : Type 0} (m : Meanings C) (g : Config) (e : Event) (passes : List Event) (p q : Place (Known C)) (l : ShardLog) (chain : Chain) (s : Scan) (h : HasMade m g e passes p q l chain s) where
  now_before : PlainShard
  now_before = s.both.hand.before.value.now

  entries_before : (k : Key) → entry_of k l.now ≡ entry_of k s.both.hand.before.value.now
  entries_before k = ap (entry_of k) h.scan.now

  -- a key that the event is not about
  other : (k : Key) (x : Option Header) → is_about k e ≡ false → IsHead (entry_of k s.both.hand.before.value.now) x
      → (IsTrue (stands_on k s.marked.items) × IsHead (entry_of k s.both.hand.before.value.now) x × IsSpared (entry_of k s.both.hand.before.value.now) (entry_of k s.both.shard.now)) ⊎ IsHead (entry_of k s.both.shard.now) x
  other k x far head = by_mark (stands_on k s.marked.items) refl
    where
      by_mark : (t : Bool) → stands_on k s.marked.items ≡ t → (IsTrue (stands_on k s.marked.items) × IsHead (entry_of k s.both.hand.before.value.now) x × IsSpared (entry_of k s.both.hand.before.value.now) (entry_of k s.both.shard.now)) ⊎ IsHead (entry_of k s.both.shard.now) x
      by_mark true t = inl (t, head, subst (λ (y : Option Entry × Option Entry). IsSpared y.0 y.1) (λ z. (entries_before k z, ap (entry_of k) (sym h.makes.now) z)) (sparing l.now e k h.scan.replayed.sound h.legal (not_true (is_about k e) far)))
      by_mark false t = inr (subst (λ (y : Option Entry). IsHead y x) (sym (ap (entry_of k) h.makes.now ∙ (h.named k (not_true (is_about k e) far) (sym (h.keys k) ∙ t) ∙ entries_before k))) head)

  -- the own bucket
  own_heads : AreHeadsBut g s.both.hand.before.value.now s.both.shard.now s.marked.items s.both.hand.own.turn s.both.hand.own.bucket
  own_heads = record {
    heads = λ k is. by_about k is (is_about k e) refl;
    own = λ k x there. own_by k x (is_about k e) refl there;
  }
    where
      by_about : (k : Key) → bucket_turn g k ≡ s.both.hand.own.turn → (t : Bool) → is_about k e ≡ t
          → (IsTrue (stands_on k s.marked.items) × IsHead (entry_of k s.both.hand.before.value.now) (header_at k s.both.hand.own.bucket.headers) × IsSpared (entry_of k s.both.hand.before.value.now) (entry_of k s.both.shard.now))
          ⊎ IsHead (entry_of k s.both.shard.now) (header_at k s.both.hand.own.bucket.headers)
      by_about k is true t = inr (h.own_header k (about_is k (event_key e) t))
      by_about k is false t = other k (header_at k s.both.hand.own.bucket.headers) t (subst (IsHead (entry_of k s.both.hand.before.value.now)) (sym (h.other_headers k t)) (h.may.buckets.0.heads k is))

      own_by : (k : Key) (x : Header) (t : Bool) → is_about k e ≡ t → header_at k s.both.hand.own.bucket.headers ≡ Some x → s.both.hand.own.turn ≡ bucket_turn g k
      own_by k x true t there = h.about k (about_is k (event_key e) t)
      own_by k x false t there = h.may.buckets.0.own k x (sym (h.other_headers k t) ∙ there)

  -- the other buckets
  won_heads : AllPairs (AreHeadsBut g s.both.hand.before.value.now s.both.shard.now s.marked.items) (pairs_of s.both.hand.victims.items)
  won_heads = both_pairs (IsBucketOf g s.both.turn s.both.hand.before.value.now) (λ j b. j ≢ s.both.hand.own.turn) (AreHeadsBut g s.both.hand.before.value.now s.both.shard.now s.marked.items) (pairs_of s.both.hand.victims.items)
      (λ j b bucket far. record { heads = λ k is. by_about j b bucket far k is (is_about k e) refl; own = bucket.own })
      h.scan.buckets (far_none s.both.hand.own.turn (pairs_of s.both.hand.victims.items) h.scan.apart.0)
    where
      by_about : (j : ℕ) (b : Chain) → IsBucketOf g s.both.turn s.both.hand.before.value.now j b → j ≢ s.both.hand.own.turn → (k : Key) → bucket_turn g k ≡ j → (t : Bool) → is_about k e ≡ t
          → (IsTrue (stands_on k s.marked.items) × IsHead (entry_of k s.both.hand.before.value.now) (header_at k b.headers) × IsSpared (entry_of k s.both.hand.before.value.now) (entry_of k s.both.shard.now))
          ⊎ IsHead (entry_of k s.both.shard.now) (header_at k b.headers)
      by_about j b bucket far k is true t = absurd (far (sym is ∙ sym (h.about k (about_is k (event_key e) t))))
      by_about j b bucket far k is false t = other k (header_at k b.headers) t (bucket.heads k is)

  pub all_heads : AllPairs (AreHeadsBut g s.both.hand.before.value.now s.both.shard.now s.marked.items) (buckets_of s.both.hand)
  all_heads = (own_heads, won_heads)

  pub marked_in_hand : (k : Key) → IsTrue (stands_on k s.marked.items) → IsSome (item_at (bucket_turn g k) (buckets_of s.both.hand))
  marked_in_hand k t = let x = some_is (item_at (bucket_turn g k) (((s.both.hand.own.turn, chain) ∷ []) ++ pairs_of s.both.hand.victims.items)) (h.scan.in_hand k (sym (h.keys k) ∙ t)) in
      same_some (bucket_turn g k) (((s.both.hand.own.turn, chain) ∷ []) ++ pairs_of s.both.hand.victims.items) (buckets_of s.both.hand) x.0 refl x.1

  pub hand_apart : AreApart (buckets_of s.both.hand)
  hand_apart = apart_turns (buckets_of s.both.hand) (((s.both.hand.own.turn, chain) ∷ []) ++ pairs_of s.both.hand.victims.items) refl h.scan.apart

  -- ---- once the victims' headers are right

  module _ (hand : Hand) (turns : turns_in (buckets_of hand) ≡ turns_in (buckets_of s.both.hand)) (before : hand.before ≡ s.both.hand.before)
      (heads : AllPairs (AreHeadsBut g s.both.hand.before.value.now s.both.shard.now []) (buckets_of hand)) where
    -- the range and the shard of each
    abbrev IsRanged : ℕ → Chain → Type 0
    IsRanged j b = IsBucket g j × ((k : Key) → bucket_turn g k ≡ j → s.both.turn ≡ shard_turn g k)

    ranged : AllPairs IsRanged (buckets_of s.both.hand)
    ranged = ((h.may.buckets.0.range, h.may.buckets.0.shard), all_ranged (pairs_of s.both.hand.victims.items) h.scan.buckets)
      where
        all_ranged : (vs : List (ℕ × Chain)) → AllPairs (IsBucketOf g s.both.turn s.both.hand.before.value.now) vs → AllPairs IsRanged vs
        all_ranged [] all = tt
        all_ranged (v ∷ vs) all = ((all.0.range, all.0.shard), all_ranged vs all.1)

    along : (xs ys : List (ℕ × Chain)) → turns_in xs ≡ turns_in ys → AllPairs IsRanged ys → AllPairs IsRanged xs
    along [] ys e' all = tt
    along (x ∷ xs) [] e' all = absurd (cc)
    along (x ∷ xs) (y ∷ ys) e' all = (subst (λ (j : ℕ). IsRanged j x.1) (sym (first x.0 y.0 (turns_in xs) (turns_in ys) e')) all.0, along xs ys (rest x.0 y.0 (turns_in xs) (turns_in ys) e') all.1)
      where
        first : (a b : ℕ) (xs ys : List ℕ) → (a ∷ xs) ≡ (b ∷ ys) → a ≡ b
        first a b xs ys r = cc

        rest : (a b : ℕ) (xs ys : List ℕ) → (a ∷ xs) ≡ (b ∷ ys) → xs ≡ ys
        rest a b xs ys r = cc

    buckets : AllPairs (IsBucketOf g s.both.turn s.both.shard.now) (buckets_of hand)
    buckets = both_pairs IsRanged (AreHeadsBut g s.both.hand.before.value.now s.both.shard.now []) (IsBucketOf g s.both.turn s.both.shard.now) (buckets_of hand)
        (λ j b r a. record { range = r.0; shard = r.1; heads = λ k is. settled k b (a.heads k is); own = a.own })
        (along (buckets_of hand) (buckets_of s.both.hand) turns ranged) heads
      where
        settled : (k : Key) (b : Chain) → (IsTrue (stands_on k []) × IsHead (entry_of k s.both.hand.before.value.now) (header_at k b.headers) × IsSpared (entry_of k s.both.hand.before.value.now) (entry_of k s.both.shard.now)) ⊎ IsHead (entry_of k s.both.shard.now) (header_at k b.headers)
            → IsHead (entry_of k s.both.shard.now) (header_at k b.headers)
        settled k b (inl old) = absurd (let t : false ≡ true = old.0 in cc)
        settled k b (inr new) = new

    pub may_give : IsGivenShard g q s.both.turn (buckets_of hand) s.both.hand.before.value (passes ++ e ∷ []) s.both.shard
    may_give = scan_given m g s.both.turn ((s.both.hand.own.turn, chain) ∷ []) s.both.hand.before.value p q h.may l l.marked (pairs_of s.both.hand.victims.items) passes h.scan
        e s.both.shard (buckets_of hand) h.takes h.legal h.named h.makes.now h.makes.history h.makes.opening h.actor
        (λ k is. subst (λ (x : ℕ). IsSome (item_at x (((s.both.hand.own.turn, chain) ∷ []) ++ pairs_of s.both.hand.victims.items))) (h.about k is) (is_there (item_at s.both.hand.own.turn (((s.both.hand.own.turn, chain) ∷ []) ++ pairs_of s.both.hand.victims.items)) chain (item_here s.both.hand.own.turn chain (pairs_of s.both.hand.victims.items))))
        turns buckets

    pub made_events : made_since s.both.hand.before.value s.both.shard ≡ passes ++ e ∷ []
    made_events = made_is s.both.hand.before.value s.both.shard (passes ++ e ∷ []) (may_give.history)

    -- ---- what the party has in hand, once the shard is given back

    -- what it knew of the buckets
    known_kept : (w : Known C) (j x : ℕ) (b : Chain) → IsKnownBucket w x → IsKnownBucket (after_won m j (item.Bucket b) w) x
    known_kept w j x b k = (by_test (x == j) k.0, by_list (x == j) k.1)
      where
        by_test : (t : Bool) → IsSome (item_at x w.records) → IsSome (if t then Some (item.Bucket b) else item_at x w.records)
        by_test true r = refl
        by_test false r = r

        by_list : (t : Bool) → list_at x w.listed ≡ [] → (if t then [] else list_at x w.listed) ≡ []
        by_list true r = refl
        by_list false r = r

    known_here : (w : Known C) (j : ℕ) (b : Chain) → IsKnownBucket (after_won m j (item.Bucket b) w) j
    known_here w j b = (
      subst (λ (t : Bool). IsSome (if t then Some (item.Bucket b) else item_at j w.records)) (sym (eq-eqb j j refl)) refl,
      subst (λ (t : Bool). (if t then [] else list_at j w.listed) ≡ []) (sym (eq-eqb j j refl)) refl,
    )

    won_kept : (vs : List (ℕ × Chain)) (w : Known C) (x : ℕ) → IsKnownBucket w x → IsKnownBucket (won_all m vs w) x
    won_kept [] w x k = k
    won_kept (v ∷ vs) w x k = won_kept vs (after_won m v.0 (item.Bucket v.1) w) x (known_kept w v.0 x v.1 k)

    won_known : (vs : List (ℕ × Chain)) (w : Known C) → AllPairs (λ j b. IsKnownBucket (won_all m vs w) j) vs
    won_known [] w = tt
    won_known (v ∷ vs) w = (won_kept vs (after_won m v.0 (item.Bucket v.1) w) v.0 (known_here w v.0 v.1), won_known vs (after_won m v.0 (item.Bucket v.1) w))

    known : (j : ℕ) (b : Chain) → item_at j (buckets_of hand) ≡ Some b → IsKnownBucket q.own j
    known j b there = subst (λ (x : Place (Known C)). IsKnownBucket x.own j) (sym h.scan.place) (by_place (none_or_some (item_at j ((s.both.hand.own.turn, chain) ∷ []))))
      where
        none_or_some : (o : Option Chain) → (o ≡ None) ⊎ IsSome o
        none_or_some None = inl refl
        none_or_some (Some x) = inr refl

        vs : List (ℕ × Chain)
        vs = pairs_of s.both.hand.victims.items

        in_all : (x : Chain) × (item_at j (((s.both.hand.own.turn, chain) ∷ []) ++ pairs_of s.both.hand.victims.items) ≡ Some x)
        in_all = some_is (item_at j (((s.both.hand.own.turn, chain) ∷ []) ++ pairs_of s.both.hand.victims.items)) (same_some j (buckets_of hand) (((s.both.hand.own.turn, chain) ∷ []) ++ pairs_of s.both.hand.victims.items) b turns there)

        by_place : (item_at j ((s.both.hand.own.turn, chain) ∷ []) ≡ None) ⊎ IsSome (item_at j ((s.both.hand.own.turn, chain) ∷ [])) → IsKnownBucket (won_all m (pairs_of s.both.hand.victims.items) p.own) j
        by_place (inl none) = pair_at (λ x c. IsKnownBucket (won_all m (pairs_of s.both.hand.victims.items) p.own) x) (pairs_of s.both.hand.victims.items) j in_all.0 (won_known (pairs_of s.both.hand.victims.items) p.own)
            (sym (item_past j ((s.both.hand.own.turn, chain) ∷ []) (pairs_of s.both.hand.victims.items) none) ∙ in_all.1)
        by_place (inr some) = let x = some_is (item_at j ((s.both.hand.own.turn, chain) ∷ [])) some in
            won_kept (pairs_of s.both.hand.victims.items) p.own j (pair_at (λ x c. IsKnownBucket p.own x) ((s.both.hand.own.turn, chain) ∷ []) j x.0 h.may.first_known x.1)

    abbrev given_place : List Event → Place (Known C)
    given_place es = gave_back q s.both.turn (after_shard m (buckets_of hand) s.both.turn s.both.hand.before.value es s.both.shard q.own)

    each_in_hand : (es : List Event) (j : ℕ) (b : Chain) → item_at j (buckets_of hand) ≡ Some b → IsInHand m (given_place es) j b
    each_in_hand es j b there =
        let in_range = may_give.in_hand j b there in
        let range = in_range.1 in
        let shard : IsShard g s.both.turn = h.may.range in
        let apart : j ≢ s.both.turn = (λ is. let a = range.1 in let d = shard.0 in omega arith) in
        let k = known j b there in
        let r = some_is (item_at j q.own.records) k.0 in record {
          held = among_without s.both.turn j q.held apart in_range.0;
          same = record {
            recorded = front_items j (buckets_of hand) b (without_item s.both.turn q.own.records) there;
            listed = listed_at q.own.about.config s.both.hand.before.value.now es j q.own.records r.0 q.own.listed q.own.listed r.1 ∙ no_cell j range k.1;
          };
        }
      where
        no_cell : (x : ℕ) → IsBucket g x → list_at x q.own.listed ≡ [] → Rattle.arc_table.specs.ShardGiving.listed_after q.own.about.config s.both.hand.before.value.now es x (list_at x q.own.listed) ≡ []
        no_cell x range none = ap (λ (t : Bool). if t then Rattle.arc_table.specs.ShardGiving.holds_through (Rattle.arc_table.specs.Geometry.cell_number q.own.about.config x) s.both.hand.before.value.now es (list_at x q.own.listed) else list_at x q.own.listed) (past_cells x range) ∙ none
          where
            past_cells : (x : ℕ) → IsBucket g x → nat_lt x q.own.about.config.cells ≡ false
            past_cells x range = let a = range.0 in
                let c : q.own.about.config ≡ g = Rattle.arc_table.proofs.scans.Scans.scan_config m g s.both.turn ((s.both.hand.own.turn, chain) ∷ []) s.both.hand.before.value p h.may q l l.marked (pairs_of s.both.hand.victims.items) passes h.scan in
                let same : q.own.about.config.cells ≡ g.cells = ap (λ (z : Config). z.cells) c in
                search (nat_tests, arith)

    all_at : (P : ℕ → Chain → Type 0) (vs : List (ℕ × Chain)) → AreApart vs → ((j : ℕ) (b : Chain) → item_at j vs ≡ Some b → P j b) → AllPairs P vs
    all_at P [] apart f = tt
    all_at P (v ∷ vs) apart f = (f v.0 v.1 (item_here v.0 v.1 vs), all_at P vs apart.1 (λ j b there. f j b (past j b there (dite_turn j))))
      where
        dite_turn : (j : ℕ) → (j ≡ v.0) ⊎ (j ≢ v.0)
        dite_turn j = dite (ℕ_discrete j v.0) (λ r. inl r) (λ r. inr r)

        past : (j : ℕ) (b : Chain) → item_at j vs ≡ Some b → (j ≡ v.0) ⊎ (j ≢ v.0) → item_at j (v ∷ vs) ≡ Some b
        past j b there (inl is) = absurd (none-some b (sym apart.0 ∙ (ap (λ (x : ℕ). item_at x vs) (sym is) ∙ there)))
        past j b there (inr far) = subst (λ (t : Bool). (if t then Some v.1 else item_at j vs) ≡ Some b) (sym (ne_eqb j v.0 far)) there

    pub all_in_hand : (es : List Event) → AllPairs (IsInHand m (given_place es)) (buckets_of hand)
    all_in_hand es = all_at (IsInHand m (given_place es)) (buckets_of hand) (apart_turns (buckets_of hand) (buckets_of s.both.hand) turns hand_apart) (each_in_hand es)

    pub still_apart : AreApart (buckets_of hand)
    still_apart = apart_turns (buckets_of hand) (buckets_of s.both.hand) turns hand_apart

-- what a give of the shard leaves, told of the shard as it was in hand before its lists were kept
pub gave_shard : {C : Type 0} (m : Meanings C) (p q : Place (Known C)) (i : ℕ) (vs : List (ℕ × Chain)) (before before' l l' : ShardLog) → before' ≡ before → l' ≡ l
    → q ≡ gave_back p i (after_shard m vs i before' (made_since before' l') l' p.own) → q ≡ gave_back p i (after_shard m vs i before (made_since before l) l p.own)
gave_shard m p q i vs before before' l l' e f gave =
    subst (λ (x : ShardLog × ShardLog). q ≡ gave_back p i (after_shard m vs i x.0 (made_since x.0 x.1) x.1 p.own)) (λ z. (e z, f z)) gave
