-- That a place which is the newest live one of its key stays so: shard by shard, and over all of them.
use Rattle.std.proofs.Common.{◌≡◌, ◌⊎◌, ℕ, zero, suc, ◌+◌, not, IsTrue, List, [], ◌∷◌, ◌++◌, is_some, map, take, drop, Some, inl, inr, refl, sym, ap, ◌∙◌, subst, ⊎_elim}
use Rattle.std.specs.List.{filter}
use Rattle.std.proofs.lemmas.Bool.{false≢true}
use Rattle.arc_lists.proofs.Standing.{and_left, and_right}
use Rattle.arc_lists.proofs.Tables.{cases_true}
use Rattle.blk_ptr.specs.declared.key.Key.{Key}
use Rattle.blk_ptr.specs.Order.{key_eq}
use Rattle.blk_ptr.proofs.Keys.{key_eq-is, key_eq-same}
use Rattle.arc_core.specs.declared.config.Config.{Config}
use Rattle.arc_core.specs.declared.entry.Picked.{Picked as Pick_of}
use Rattle.arc_core.specs.Changes.{pick_of}
use Rattle.arc_core.specs.Sound.{are_distinct_picks}
use Rattle.vdev_io.specs.Calls.{DeviceCall}
use Rattle.turn_table.specs.Places.{Place}
use Rattle.arc_table.specs.declared.picks.Picked.{Picked as Block}
use Rattle.arc_table.specs.declared.view.Known.{Known}
use Rattle.arc_table.specs.Items.{Meanings}
use Rattle.arc_table.specs.feeder.Listing.{picks_of}
use Rattle.arc_table.specs.feeder.Picking.{ArePicksOf, nth_shard_turn}
use Rattle.arc_table.proofs.feeder.PickLaws.{few_picks}
use Rattle.l2_log.specs.Rules.{log_len}
use Rattle.l2_ring.specs.declared.live.Written.{Written}
use Rattle.l2_ring.specs.declared.plan.Plan.{Plan}
use Rattle.l2_ring.specs.Stays.{falls, live_of, stays}
use Rattle.l2_dev.specs.declared.report.FeedStop.{FeedStop}
use Rattle.l2_dev.specs.declared.report.FeedStop.TheVariants as stop
use Rattle.l2_dev.specs.Cursor.{CursorState}
use Rattle.l2_feed.specs.Acts.{Act, Absent, Cleared, DoesActs, Left, Picked, Placed, Refused, Unpicked, keys_of}
use Rattle.l2_feed.specs.Places.{IsAmongActs, IsAmongKeys, IsLive, IsNewest, KeepsNewest, WasNewest, place_seen}
use Rattle.l2_feed.specs.Runs.{AreRuns, AreSet, bytes_of, most, row_of}
use Rattle.l2_feed.specs.Shape.{AreFed, FedBatch, FedShard, IsUnwritten, IsWritten}
use Rattle.l2_feed.proofs.Keeping.{IsDropped, WasAsked, acts_split, asked_back, clears_give_none, in_either, in_left, in_right, key_in, lefts_give_none, live_after, live_either, place_in}
use Rattle.l2_feed.proofs.Owning.{key_behind, key_front, row_key, runs_key}
use Rattle.l2_feed.proofs.Stepped.{Knows}
use Rattle.l2_feed.proofs.Taking.{act_knows, acts_away, acts_knows, acts_takes, picked_none}

-- ---- lists of live entries

newest_live : (k : Key) (x : ℕ) (ws : List Written) → IsNewest k x ws → IsLive k x ws
newest_live k x [] new = new
newest_live k x (w ∷ ws) (inl new) = inr (newest_live k x ws new)
newest_live k x (w ∷ ws) (inr one) = inl one.0

newest_left : (k : Key) (x : ℕ) (a b : List Written) → IsNewest k x a → ((y : ℕ) → ¬ IsLive k y b) → IsNewest k x (a ++ b)
newest_left k x [] b new none = absurd new
newest_left k x (w ∷ a) b (inl new) none = inl (newest_left k x a b new none)
newest_left k x (w ∷ a) b (inr one) none = inr (one.0, (λ y live. ⊎_elim (one.1 y) (none y) (live_either k y a b live)))

newest_right : (k : Key) (x : ℕ) (a b : List Written) → IsNewest k x b → IsNewest k x (a ++ b)
newest_right k x [] b new = new
newest_right k x (w ∷ a) b new = inl (newest_right k x a b new)

kept_live : (plan : Plan) (k : Key) (x : ℕ) (ws : List Written) → IsLive k x (filter (stays plan) ws) → IsLive k x ws
kept_live plan k x [] live = live
kept_live plan k x (w ∷ ws) live = elim (cases_true (stays plan w)) [
  | inl keeps ↦ ⊎_elim (λ (is : (w.live.key ≡ k) × (w.live.place ≡ x)). inl is) (λ (more : IsLive k x (filter (stays plan) ws)). inr (kept_live plan k x ws more)) (rw keeps at live)
  | inr drops ↦ inr (kept_live plan k x ws (rw drops at live))
]

newest_or_dropped : (plan : Plan) (k : Key) (x : ℕ) (ws : List Written) → IsNewest k x ws → IsNewest k x (filter (stays plan) ws) ⊎ IsDropped k x (map live_of (filter (falls plan) ws))
newest_or_dropped plan k x [] new = absurd new
newest_or_dropped plan k x (w ∷ ws) (inl new) = elim (cases_true (stays plan w)) [
  | inl keeps ↦ rw keeps (⊎_elim (λ (l : IsNewest k x (filter (stays plan) ws)). inl (inl l)) (λ (r : IsDropped k x (map live_of (filter (falls plan) ws))). inr r) (newest_or_dropped plan k x ws new))
  | inr drops ↦ rw drops (⊎_elim (λ (l : IsNewest k x (filter (stays plan) ws)). inl l) (λ (r : IsDropped k x (map live_of (filter (falls plan) ws))). inr (inr r)) (newest_or_dropped plan k x ws new))
]
newest_or_dropped plan k x (w ∷ ws) (inr one) = elim (cases_true (stays plan w)) [
  | inl keeps ↦ rw keeps (inl (inr (one.0, (λ y live. one.1 y (kept_live plan k y ws live)))))
  | inr drops ↦ rw drops (inr (inl one.0))
]

-- ---- the keys of a batch

some_or_none : (k : Key) (bs : List Block) → IsAmongKeys k (keys_of bs) ⊎ (¬ IsAmongKeys k (keys_of bs))
some_or_none k [] = inr (λ among. among)
some_or_none k (b ∷ bs) = elim (cases_true (key_eq b.key k)) [
  | inl same ↦ inl (inl (key_eq-is b.key k same))
  | inr other ↦ ⊎_elim (λ (l : IsAmongKeys k (keys_of bs)). inl (inr l))
      (λ (r : ¬ IsAmongKeys k (keys_of bs)). inr (λ among. ⊎_elim (λ (is : b.key ≡ k). false≢true (sym other ∙ (ap (λ (j : Key). key_eq j k) is ∙ key_eq-same k))) r among))
      (some_or_none k bs)
]

-- no key twice
abbrev AreApart : List Block → Type 0
AreApart [] = Unit {0}
AreApart (b ∷ bs) = (¬ IsAmongKeys b.key (keys_of bs)) × AreApart bs

there : (g : Config) (turn : ℕ) (k : Key) (picks : List Pick_of) (bs : List Block) → ArePicksOf g turn picks bs → IsAmongKeys k (keys_of bs) → IsTrue (is_some (pick_of k picks))
there g turn k [] [] are among = absurd among
there g turn k [] (b ∷ bs) are among = absurd are
there g turn k (x ∷ xs) [] are among = absurd among
there g turn k (x ∷ xs) (b ∷ bs) are among = elim (cases_true (key_eq x.key k)) [
  | inl same ↦ rw same refl
  | inr other ↦ rw other (⊎_elim (λ (is : b.key ≡ k). absurd (false≢true (sym other ∙ (ap (λ (j : Key). key_eq j k) (sym are.0.key ∙ is) ∙ key_eq-same k)))) (λ (more : IsAmongKeys k (keys_of bs)). there g turn k xs bs are.1 more) among)
]

apart_blocks : (g : Config) (turn : ℕ) (picks : List Pick_of) (bs : List Block) → ArePicksOf g turn picks bs → IsTrue (are_distinct_picks picks) → AreApart bs
apart_blocks g turn [] [] are ok = tt
apart_blocks g turn [] (b ∷ bs) are ok = absurd are
apart_blocks g turn (x ∷ xs) [] are ok = absurd are
apart_blocks g turn (x ∷ xs) (b ∷ bs) are ok = (
  (λ among. false≢true (sym (ap not (there g turn x.key xs bs are.1 (subst (λ (j : Key). IsAmongKeys j (keys_of bs)) are.0.key among))) ∙ and_left (not (is_some (pick_of x.key xs))) (are_distinct_picks xs) ok)),
  apart_blocks g turn xs bs are.1 (and_right (not (is_some (pick_of x.key xs))) (are_distinct_picks xs) ok),
)

apart_behind : (n : ℕ) (bs : List Block) → AreApart bs → AreApart (drop n bs)
apart_behind zero bs apart = apart
apart_behind (suc n) [] apart = apart
apart_behind (suc n) (b ∷ bs) apart = apart_behind n bs apart.1

apart_front : (n : ℕ) (bs : List Block) → AreApart bs → AreApart (take n bs)
apart_front zero bs apart = tt
apart_front (suc n) [] apart = tt
apart_front (suc n) (b ∷ bs) apart = ((λ among. apart.0 (key_front b.key n bs among)), apart_front n bs apart.1)

not_both : (n : ℕ) (k : Key) (bs : List Block) → AreApart bs → IsAmongKeys k (keys_of (take n bs)) → IsAmongKeys k (keys_of (drop n bs)) → ⊥
not_both zero k bs apart front behind = front
not_both (suc n) k [] apart front behind = front
not_both (suc n) k (b ∷ bs) apart (inl is) behind = apart.0 (subst (λ (j : Key). IsAmongKeys j (keys_of bs)) (sym is) (key_behind k n bs behind))
not_both (suc n) k (b ∷ bs) apart (inr front) behind = not_both n k bs apart.1 front behind

-- ---- what a run gives is newest

set_key : (place : ℕ) (k : Key) (x : ℕ) (bs : List Block) (acts : List Act) → AreSet place bs acts → IsAmongActs (Placed k x) acts → IsAmongKeys k (keys_of bs)
set_key place k x [] [] are among = among
set_key place k x (b ∷ bs) (Placed j y ∷ acts) are (inl is) = let key : j ≡ k = ap (λ (a : Act). key_in a) is in inl (sym are.0.0 ∙ key)
set_key place k x (b ∷ bs) (Placed j y ∷ acts) are (inr among) = inr (set_key (place + b.key.size) k x bs acts are.1 among)
set_key place k x (b ∷ bs) (Left j w ∷ acts) are (inl is) = cc
set_key place k x (b ∷ bs) (Left j w ∷ acts) are (inr among) = inr (set_key (place + b.key.size) k x bs acts are.1 among)
set_key place k x [] (a ∷ acts) are among = absurd are
set_key place k x (b ∷ bs) [] are among = absurd are
set_key place k x (b ∷ bs) (Picked s keys ∷ acts) are among = absurd are
set_key place k x (b ∷ bs) (Unpicked s ∷ acts) are among = absurd are
set_key place k x (b ∷ bs) (Cleared j y ∷ acts) are among = absurd are
set_key place k x (b ∷ bs) (Absent j y ∷ acts) are among = absurd are
set_key place k x (b ∷ bs) (Refused j y ∷ acts) are among = absurd are

set_newest : (lap place : ℕ) (k : Key) (x : ℕ) (bs : List Block) (acts : List Act) → AreApart bs → AreSet place bs acts → IsAmongActs (Placed k x) acts → IsNewest k x (row_of lap place bs)
set_newest lap place k x [] [] apart are among = among
set_newest lap place k x (b ∷ bs) (Placed j y ∷ acts) apart are (inl is) =
    let key : j ≡ k = ap (λ (a : Act). key_in a) is in
    let at : y ≡ x = ap (λ (a : Act). place_in a) is in
    let own : b.key ≡ k = sym are.0.0 ∙ key in
    inr ((own, sym are.0.1 ∙ at), (λ z live. apart.0 (subst (λ (i : Key). IsAmongKeys i (keys_of bs)) (sym own) (row_key lap (place + b.key.size) k z bs live))))
set_newest lap place k x (b ∷ bs) (Placed j y ∷ acts) apart are (inr among) = inl (set_newest lap (place + b.key.size) k x bs acts apart.1 are.1 among)
set_newest lap place k x (b ∷ bs) (Left j w ∷ acts) apart are (inl is) = cc
set_newest lap place k x (b ∷ bs) (Left j w ∷ acts) apart are (inr among) = inl (set_newest lap (place + b.key.size) k x bs acts apart.1 are.1 among)
set_newest lap place k x [] (a ∷ acts) apart are among = absurd are
set_newest lap place k x (b ∷ bs) [] apart are among = absurd are
set_newest lap place k x (b ∷ bs) (Picked s keys ∷ acts) apart are among = absurd are
set_newest lap place k x (b ∷ bs) (Unpicked s ∷ acts) apart are among = absurd are
set_newest lap place k x (b ∷ bs) (Cleared j y ∷ acts) apart are among = absurd are
set_newest lap place k x (b ∷ bs) (Absent j y ∷ acts) apart are among = absurd are
set_newest lap place k x (b ∷ bs) (Refused j y ∷ acts) apart are among = absurd are

runs_newest : (lap hand count : ℕ) (k : Key) (x : ℕ) (bs : List Block) (acts : List Act) (ws : List Written) (left : List Block) → AreApart bs → AreRuns lap hand count bs acts ws left → IsAmongActs (Placed k x) acts → IsNewest k x ws
runs_newest lap hand zero k x bs acts ws left apart are among = absurd (subst (IsAmongActs (Placed k x)) are.0 among)
runs_newest lap hand (suc n) k x bs acts ws left apart (some, sets, more, behind, is, entries, set, rest) among =
    subst (IsNewest k x) (sym entries) (⊎_elim
    (λ (here : IsAmongActs (Placed k x) sets). newest_left k x (row_of lap hand (take most bs)) behind (set_newest lap hand k x (take most bs) sets (apart_front most bs apart) set here)
    (λ y live. not_both most k bs apart (set_key hand k x (take most bs) sets set here) (runs_key lap (hand + (bytes_of (take most bs) + log_len)) n k y (drop most bs) more behind left rest live)))
    (λ (far : IsAmongActs (Placed k x) more). newest_right k x (row_of lap hand (take most bs)) behind (runs_newest lap (hand + (bytes_of (take most bs) + log_len)) n k x (drop most bs) more behind left (apart_behind most bs apart) rest far))
    (in_either (Placed k x) sets more (subst (IsAmongActs (Placed k x)) is among)))

-- ---- one shard

module _ {C : Type 0} (m : Meanings C) (g : Config) where
  module _ (shard : ℕ) (old new : CursorState) (acts : List Act) (calls : List DeviceCall) (end : FeedStop) (p q : Place (Known C)) (knows : Knows g p) (did : DoesActs m g acts p q) where
    module _ (f : FedBatch shard old new acts calls end) where
      again : DoesActs m g (Picked shard f.blocks ∷ (f.clears ++ f.settles)) p q
      again = subst (λ (l : List Act). DoesActs m g l p q) f.acts_are did

      apart : AreApart f.blocks
      apart =
          let d = again.1 in
          let few = few_picks m g (nth_shard_turn g shard) p again.0 d.0 d.1 (knows.valid, knows.config, knows.feeder) d.2 in
          subst AreApart d.3 (apart_blocks g (nth_shard_turn g shard) (picks_of (nth_shard_turn g shard) again.0) d.2.gained d.2.blocks few.apart)

      gives_newest : (k : Key) (x : ℕ) → IsAmongActs (Placed k x) acts → IsNewest k x new.ring.live
      gives_newest k x among = go f.written (subst (IsAmongActs (Placed k x)) f.acts_are among)
        where
          behind : IsWritten old new f.blocks f.clears f.settles end → IsAmongActs (Placed k x) f.clears ⊎ IsAmongActs (Placed k x) f.settles → IsNewest k x new.ring.live
          behind w (inl clear) = absurd (clears_give_none k x _ f.clears w.cleared clear)
          behind w (inr settle) = ⊎_elim
              (λ (set : IsAmongActs (Placed k x) w.ran.sets). subst (IsNewest k x) (sym (live_after w)) (newest_right k x (filter (stays w.planned.plan) old.ring.live) w.ran.entries
              (runs_newest w.begun.ring.lap w.begun.ring.hand w.ran.count k x f.blocks w.ran.sets w.ran.entries w.ran.left apart w.ran.runs set)))
              (λ (leave : IsAmongActs (Placed k x) w.ran.leaves). absurd (lefts_give_none _ k x w.ran.left w.ran.leaves w.ran.lefts leave))
              (in_either (Placed k x) w.ran.sets w.ran.leaves (subst (IsAmongActs (Placed k x)) w.ran.settled settle))

          go : IsWritten old new f.blocks f.clears f.settles end ⊎ IsUnwritten old new f.blocks f.clears f.settles end → IsAmongActs (Placed k x) (Picked shard f.blocks ∷ (f.clears ++ f.settles)) → IsNewest k x new.ring.live
          go w (inl is) = cc
          go (inl w) (inr more) = behind w (in_either (Placed k x) f.clears f.settles more)
          go (inr u) (inr more) = ⊎_elim
              (λ (clear : IsAmongActs (Placed k x) f.clears). absurd (subst (IsAmongActs (Placed k x)) u.none clear))
              (λ (settle : IsAmongActs (Placed k x) f.settles). absurd (lefts_give_none _ k x f.blocks f.settles u.lefts settle))
              (in_either (Placed k x) f.clears f.settles more)

      batch_newest : KeepsNewest g acts old.ring.live new.ring.live q
      batch_newest k x (inr given) at = inl (gives_newest k x given)
      batch_newest k x (inl live) at = go f.written
        where
          among : (act : Act) → IsAmongActs act f.clears → IsAmongActs act acts
          among act here = subst (IsAmongActs act) (sym f.acts_are) (inr (in_left act f.clears f.settles here))

          asked : WasAsked k x f.clears → IsNewest k x new.ring.live ⊎ IsAmongActs (Refused k x) acts
          asked (inl (inl a)) = inl (gives_newest k x (acts_away m g acts p q knows did k x (inl (among (Cleared k x) a)) at))
          asked (inl (inr a)) = inl (gives_newest k x (acts_away m g acts p q knows did k x (inr (among (Absent k x) a)) at))
          asked (inr a) = inr (among (Refused k x) a)

          -- where the key was picked, it has its place of the batch
          own : IsAmongKeys k (keys_of f.blocks) → IsNewest k x new.ring.live
          own key = ⊎_elim
              (λ (was : place_seen g again.0 k ≡ Some x). let none = picked_none m g p again.0 knows shard f.blocks k again.1 key in cc)
              (λ (given : IsAmongActs (Placed k x) (f.clears ++ f.settles)). gives_newest k x (subst (IsAmongActs (Placed k x)) (sym f.acts_are) (inr given)))
              (acts_takes m g (f.clears ++ f.settles) again.0 q (act_knows m g p again.0 knows (Picked shard f.blocks) again.1) again.2 k x at)

          stayed : (w : IsWritten old new f.blocks f.clears f.settles end) → IsNewest k x (filter (stays w.planned.plan) old.ring.live) → IsNewest k x new.ring.live
          stayed w kept = elim (some_or_none k f.blocks) [
            | inl key ↦ own key
            | inr none ↦ subst (IsNewest k x) (sym (live_after w)) (newest_left k x (filter (stays w.planned.plan) old.ring.live) w.ran.entries kept
                (λ y entry. none (runs_key w.begun.ring.lap w.begun.ring.hand w.ran.count k y f.blocks w.ran.sets w.ran.entries w.ran.left w.ran.runs entry)))
          ]

          go : IsWritten old new f.blocks f.clears f.settles end ⊎ IsUnwritten old new f.blocks f.clears f.settles end → IsNewest k x new.ring.live ⊎ IsAmongActs (Refused k x) acts
          go (inr u) = inl (subst (λ (c : CursorState). IsNewest k x c.ring.live) (sym u.same) live)
          go (inl w) = ⊎_elim
              (λ (kept : IsNewest k x (filter (stays w.planned.plan) old.ring.live)). inl (stayed w kept))
              (λ (dropped : IsDropped k x (map live_of (filter (falls w.planned.plan) old.ring.live))). asked (asked_back k x (map live_of (filter (falls w.planned.plan) old.ring.live)) f.clears w.cleared dropped))
              (newest_or_dropped w.planned.plan k x old.ring.live live)

    one_given : (act : Act) (k : Key) (x : ℕ) → IsAmongActs (Placed k x) (act ∷ []) → act ≡ Placed k x
    one_given act k x (inl is) = is
    one_given act k x (inr none) = absurd none

    shard_newest : FedShard shard old new acts calls end → KeepsNewest g acts old.ring.live new.ring.live q
    shard_newest (inl f) k x (inl live) at = inl (subst (λ (c : CursorState). IsNewest k x c.ring.live) (sym f.1) live)
    shard_newest (inl f) k x (inr given) at = let is = one_given (Picked shard []) k x (subst (IsAmongActs (Placed k x)) f.0 given) in cc
    shard_newest (inr (inl f)) k x (inl live) at = inl (subst (λ (c : CursorState). IsNewest k x c.ring.live) (sym f.1) live)
    shard_newest (inr (inl f)) k x (inr given) at = let is = one_given (Unpicked shard) k x (subst (IsAmongActs (Placed k x)) f.0 given) in cc
    shard_newest (inr (inr f)) k x was at = batch_newest f k x was at

  -- ---- all shards

  newest_then : (a b : List Act) (old mid new : List Written) (r q : Place (Known C)) → Knows g r → DoesActs m g b r q → KeepsNewest g a old mid r → KeepsNewest g b mid new q → KeepsNewest g (a ++ b) old new q
  newest_then a b old mid new r q knows did first next k x was at = start was
    where
      behind : IsNewest k x new ⊎ IsAmongActs (Refused k x) b → IsNewest k x new ⊎ IsAmongActs (Refused k x) (a ++ b)
      behind (inl live) = inl live
      behind (inr refused) = inr (in_right (Refused k x) a b refused)

      between : IsNewest k x mid ⊎ IsAmongActs (Refused k x) a → IsNewest k x new ⊎ IsAmongActs (Refused k x) (a ++ b)
      between (inl live) = behind (next k x (inl live) at)
      between (inr refused) = inr (in_left (Refused k x) a b refused)

      had : WasNewest old a k x → IsNewest k x new ⊎ IsAmongActs (Refused k x) (a ++ b)
      had w = ⊎_elim (λ (far : place_seen g r k ≡ Some x). between (first k x w far)) (λ (given : IsAmongActs (Placed k x) b). behind (next k x (inr given) at)) (acts_takes m g b r q knows did k x at)

      start : WasNewest old (a ++ b) k x → IsNewest k x new ⊎ IsAmongActs (Refused k x) (a ++ b)
      start (inl live) = had (inl live)
      start (inr given) = ⊎_elim (λ (l : IsAmongActs (Placed k x) a). had (inr l)) (λ (s : IsAmongActs (Placed k x) b). behind (next k x (inr s) at)) (in_either (Placed k x) a b given)

  pub fed_newest : (shard count : ℕ) (old new : CursorState) (acts : List Act) (calls : List DeviceCall) (end : FeedStop) (p q : Place (Known C)) → Knows g p → DoesActs m g acts p q → AreFed shard count old new acts calls end → KeepsNewest g acts old.ring.live new.ring.live q
  fed_newest shard zero old new acts calls end p q knows did fed k x (inl live) at = inl (subst (λ (c : CursorState). IsNewest k x c.ring.live) (sym fed.1) live)
  fed_newest shard zero old new acts calls end p q knows did fed k x (inr given) at = absurd (subst (IsAmongActs (Placed k x)) fed.0 given)
  fed_newest shard (suc n) old new acts calls end p q knows did (inl ends) k x was at = shard_newest shard old new acts calls end p q knows did ends.1 k x was at
  fed_newest shard (suc n) old new acts calls end p q knows did (inr (first, more, between, front, behind, is, asked, one, rest)) k x was at =
      let s = acts_split m g first more p q (subst (λ (l : List Act). DoesActs m g l p q) is did) in
      let knew : Knows g s.0 = acts_knows m g first p s.0 knows s.1 in
      subst (λ (l : List Act). KeepsNewest g l old.ring.live new.ring.live q) (sym is)
      (newest_then first more old.ring.live between.ring.live new.ring.live s.0 q knew s.2 (shard_newest shard old between first front stop.Done p s.0 knows s.1 one) (fed_newest (suc shard) n between new more behind end s.0 q knew s.2 rest)) k x was at
