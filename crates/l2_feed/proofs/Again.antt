-- That a place which a feed took is live for its key again only where the key was picked behind that.
use Rattle.std.proofs.Common.{◌≡◌, ◌⊎◌, ℕ, zero, suc, ◌<◌, ◌≤◌, Bool, true, not, List, [], ◌∷◌, ◌++◌, map, Some, inl, inr, refl, sym, ap, ◌∙◌, subst, ⊎_elim}
use Rattle.std.specs.List.{AllByRecursion, filter}
use Rattle.std.proofs.lemmas.Bool.{false≢true}
use Rattle.std.proofs.lemmas.List.Elements.{recursion_from_All}
use Rattle.arc_lists.proofs.Tables.{cases_true}
use Rattle.blk_ptr.specs.declared.key.Key.{Key}
use Rattle.arc_core.specs.declared.config.Config.{Config}
use Rattle.vdev_io.specs.Calls.{DeviceCall}
use Rattle.turn_table.specs.Places.{Place}
use Rattle.arc_table.specs.declared.view.Known.{Known}
use Rattle.arc_table.specs.Items.{Meanings}
use Rattle.l2_ring.specs.declared.live.Written.{Written}
use Rattle.l2_ring.specs.declared.plan.Plan.{Plan}
use Rattle.l2_ring.specs.RangeLaws.{HaveOneRange}
use Rattle.l2_ring.proofs.RangeLaws.{fall_together}
use Rattle.l2_ring.specs.Ring.{numbers_of}
use Rattle.l2_ring.specs.Stays.{falls, live_of, stays}
use Rattle.l2_dev.specs.declared.report.FeedStop.{FeedStop}
use Rattle.l2_dev.specs.declared.report.FeedStop.TheVariants as stop
use Rattle.l2_dev.specs.Cursor.{CursorState}
use Rattle.l2_feed.specs.Acts.{Act, Absent, Cleared, DoesActs, Left, Picked, Placed, Refused, Unpicked, keys_of}
use Rattle.l2_feed.specs.Places.{GivesAgain, IsAmongActs, IsAmongKeys, IsLive, WasPicked, place_seen}
use Rattle.l2_feed.specs.Shape.{AreFed, FedBatch, FedShard, IsUnwritten, IsWritten}
use Rattle.l2_feed.proofs.Keeping.{IsDropped, acts_split, clears_give_none, in_either, kept_was, live_after, live_either}
use Rattle.l2_feed.proofs.Owning.{none_left, none_settled, runs_key, taken_dropped}
use Rattle.l2_feed.proofs.Stepped.{Knows}
use Rattle.l2_feed.proofs.Taking.{act_knows, acts_had, acts_knows, picked_none}

-- ---- one range

-- an entry with this place for the key
abbrev IsEntryAt : Key → ℕ → Written → Type 0
IsEntryAt k x w = (w.live.key ≡ k) × (w.live.place ≡ x)

-- an entry that stays, and one that falls, of those that lie where their laps ask for
abbrev Found : (Written → Bool) → Plan → Key → ℕ → Type 0
Found test numbers k x = (w : Written) × IsEntryAt k x w × (test w ≡ true) × (stays numbers w ≡ true)

found_kept : (plan numbers : Plan) (k : Key) (x : ℕ) (ws : List Written) → AllByRecursion (λ w. stays numbers w ≡ true) ws → IsLive k x (filter (stays plan) ws) → Found (stays plan) numbers k x
found_kept plan numbers k x [] placed live = absurd live
found_kept plan numbers k x (w ∷ ws) placed live = elim (cases_true (stays plan w)) [
  | inl keeps ↦ ⊎_elim (λ (is : (w.live.key ≡ k) × (w.live.place ≡ x)). (w, is, keeps, placed.0)) (λ (more : IsLive k x (filter (stays plan) ws)). found_kept plan numbers k x ws placed.1 more) (rw keeps at live)
  | inr drops ↦ found_kept plan numbers k x ws placed.1 (rw drops at live)
]

found_dropped : (plan numbers : Plan) (k : Key) (x : ℕ) (ws : List Written) → AllByRecursion (λ w. stays numbers w ≡ true) ws → IsDropped k x (map live_of (filter (falls plan) ws)) → Found (falls plan) numbers k x
found_dropped plan numbers k x [] placed dropped = absurd dropped
found_dropped plan numbers k x (w ∷ ws) placed dropped = elim (cases_true (stays plan w)) [
  | inl keeps ↦ found_dropped plan numbers k x ws placed.1 (rw keeps at dropped)
  | inr drops ↦ ⊎_elim (λ (is : (w.live.key ≡ k) × (w.live.place ≡ x)). (w, is, ap not drops, placed.0)) (λ (more : IsDropped k x (map live_of (filter (falls plan) ws))). found_dropped plan numbers k x ws placed.1 more) (rw drops at dropped)
]

-- a range doesn't both stay and fall
one_range : (plan numbers : Plan) (k : Key) (x : ℕ) → 0 < k.size → numbers.hand ≤ numbers.evict → Found (stays plan) numbers k x → Found (falls plan) numbers k x → ⊥
one_range plan numbers k x some order kept dropped =
    let a = kept.0 in
    let b = dropped.0 in
    let one : HaveOneRange a b = record { place = kept.1.1 ∙ sym dropped.1.1; size = ap (λ (j : Key). j.size) (kept.1.0 ∙ sym dropped.1.0); some = subst (λ (j : Key). 0 < j.size) (sym kept.1.0) some } in
    let same : falls plan a ≡ falls plan b = fall_together numbers plan a b order kept.3 dropped.3 one in
    false≢true (sym (ap not kept.2) ∙ (same ∙ dropped.2))

-- ---- lists of acts

never_again : (acts : List Act) (after : List Written) → ((k : Key) (x : ℕ) → IsAmongActs (Cleared k x) acts → 0 < k.size → IsLive k x after → ⊥) → GivesAgain acts after
never_again [] after never = tt
never_again (Cleared k x ∷ acts) after never = ((λ some live. absurd (never k x (inl refl) some live)), never_again acts after (λ j y among some live. never j y (inr among) some live))
never_again (Picked s bs ∷ acts) after never = never_again acts after (λ j y among some live. never j y (inr among) some live)
never_again (Unpicked s ∷ acts) after never = never_again acts after (λ j y among some live. never j y (inr among) some live)
never_again (Absent k x ∷ acts) after never = never_again acts after (λ j y among some live. never j y (inr among) some live)
never_again (Refused k x ∷ acts) after never = never_again acts after (λ j y among some live. never j y (inr among) some live)
never_again (Placed k x ∷ acts) after never = never_again acts after (λ j y among some live. never j y (inr among) some live)
never_again (Left k w ∷ acts) after never = never_again acts after (λ j y among some live. never j y (inr among) some live)

picked_right : (k : Key) (a b : List Act) → WasPicked k b → WasPicked k (a ++ b)
picked_right k [] b was = was
picked_right k (Picked s bs ∷ a) b was = inr (picked_right k a b was)
picked_right k (Unpicked s ∷ a) b was = picked_right k a b was
picked_right k (Cleared j x ∷ a) b was = picked_right k a b was
picked_right k (Absent j x ∷ a) b was = picked_right k a b was
picked_right k (Refused j x ∷ a) b was = picked_right k a b was
picked_right k (Placed j x ∷ a) b was = picked_right k a b was
picked_right k (Left j w ∷ a) b was = picked_right k a b was

picked_left : (k : Key) (a b : List Act) → WasPicked k a → WasPicked k (a ++ b)
picked_left k [] b was = absurd was
picked_left k (Picked s bs ∷ a) b (inl among) = inl among
picked_left k (Picked s bs ∷ a) b (inr was) = inr (picked_left k a b was)
picked_left k (Unpicked s ∷ a) b was = picked_left k a b was
picked_left k (Cleared j x ∷ a) b was = picked_left k a b was
picked_left k (Absent j x ∷ a) b was = picked_left k a b was
picked_left k (Refused j x ∷ a) b was = picked_left k a b was
picked_left k (Placed j x ∷ a) b was = picked_left k a b was
picked_left k (Left j w ∷ a) b was = picked_left k a b was

module _ (mid after : List Written) (b : List Act) (new : (k : Key) (x : ℕ) → IsLive k x after → IsLive k x mid ⊎ WasPicked k b) (then : GivesAgain b after) where
  again_then : (a : List Act) → ((k : Key) (x : ℕ) → IsAmongActs (Cleared k x) a → 0 < k.size → IsLive k x mid → ⊥) → GivesAgain (a ++ b) after
  again_then [] never = then
  again_then (Cleared k x ∷ a) never = (
    (λ some live. picked_right k a b (⊎_elim (λ (was : IsLive k x mid). absurd (never k x (inl refl) some was)) (λ (picked : WasPicked k b). picked) (new k x live))),
    again_then a (λ j y among some live. never j y (inr among) some live),
  )
  again_then (Picked s bs ∷ a) never = again_then a (λ j y among some live. never j y (inr among) some live)
  again_then (Unpicked s ∷ a) never = again_then a (λ j y among some live. never j y (inr among) some live)
  again_then (Absent k x ∷ a) never = again_then a (λ j y among some live. never j y (inr among) some live)
  again_then (Refused k x ∷ a) never = again_then a (λ j y among some live. never j y (inr among) some live)
  again_then (Placed k x ∷ a) never = again_then a (λ j y among some live. never j y (inr among) some live)
  again_then (Left k w ∷ a) never = again_then a (λ j y among some live. never j y (inr among) some live)

not_first : (act : Act) (k : Key) (x : ℕ) → (act ≡ Cleared k x → ⊥) → IsAmongActs (Cleared k x) (act ∷ []) → ⊥
not_first act k x differs (inl is) = differs is
not_first act k x differs (inr none) = none

-- ---- one shard

module _ {C : Type 0} (m : Meanings C) (g : Config) where
  module _ (shard : ℕ) (old new : CursorState) (acts : List Act) (calls : List DeviceCall) (end : FeedStop) where
    -- what is live afterwards was so before, or was picked
    batch_new : FedBatch shard old new acts calls end → (k : Key) (x : ℕ) → IsLive k x new.ring.live → IsLive k x old.ring.live ⊎ WasPicked k acts
    batch_new f k x live = go f.written
      where
        go : IsWritten old new f.blocks f.clears f.settles end ⊎ IsUnwritten old new f.blocks f.clears f.settles end → IsLive k x old.ring.live ⊎ WasPicked k acts
        go (inr u) = inl (subst (λ (c : CursorState). IsLive k x c.ring.live) u.same live)
        go (inl w) = ⊎_elim
            (λ (kept : IsLive k x (filter (stays w.planned.plan) old.ring.live)). inl (kept_was w.planned.plan k x old.ring.live kept))
            (λ (entry : IsLive k x w.ran.entries). inr (subst (WasPicked k) (sym f.acts_are) (inl (runs_key w.begun.ring.lap w.begun.ring.hand w.ran.count k x f.blocks w.ran.sets w.ran.entries w.ran.left w.ran.runs entry))))
            (live_either k x (filter (stays w.planned.plan) old.ring.live) w.ran.entries (subst (IsLive k x) (live_after w) live))

    shard_new : FedShard shard old new acts calls end → (k : Key) (x : ℕ) → IsLive k x new.ring.live → IsLive k x old.ring.live ⊎ WasPicked k acts
    shard_new (inl f) k x live = inl (subst (λ (c : CursorState). IsLive k x c.ring.live) f.1 live)
    shard_new (inr (inl f)) k x live = inl (subst (λ (c : CursorState). IsLive k x c.ring.live) f.1 live)
    shard_new (inr (inr f)) k x live = batch_new f k x live

    module _ (p q : Place (Known C)) (knows : Knows g p) (did : DoesActs m g acts p q) where
      batch_lost : FedBatch shard old new acts calls end → (k : Key) (x : ℕ) → IsAmongActs (Cleared k x) acts → 0 < k.size → IsLive k x new.ring.live → ⊥
      batch_lost f k x among some live = go f.written (subst (IsAmongActs (Cleared k x)) f.acts_are among)
        where
          again : DoesActs m g (Picked shard f.blocks ∷ (f.clears ++ f.settles)) p q
          again = subst (λ (l : List Act). DoesActs m g l p q) f.acts_are did

          -- a key of the batch has no place when the clears begin
          own : IsWritten old new f.blocks f.clears f.settles end → IsAmongActs (Cleared k x) f.clears → IsAmongKeys k (keys_of f.blocks) → ⊥
          own w clear key =
              let knew : Knows g again.0 = act_knows m g p again.0 knows (Picked shard f.blocks) again.1 in
              let cut = acts_split m g f.clears f.settles again.0 q again.2 in
              let none = picked_none m g p again.0 knows shard f.blocks k again.1 key in
              ⊎_elim (λ (there : place_seen g again.0 k ≡ Some x). cc) (λ (given : IsAmongActs (Placed k x) f.clears). clears_give_none k x _ f.clears w.cleared given)
              (acts_had m g f.clears again.0 cut.0 knew cut.1 k x clear)

          cleared : IsWritten old new f.blocks f.clears f.settles end → IsAmongActs (Cleared k x) f.clears → ⊥
          cleared w clear =
              let placed = recursion_from_All _ old.ring.live w.placed in
              let dropped = found_dropped w.planned.plan (numbers_of old.ring) k x old.ring.live placed (taken_dropped k x (map live_of (filter (falls w.planned.plan) old.ring.live)) f.clears w.cleared clear) in
              ⊎_elim
              (λ (kept : IsLive k x (filter (stays w.planned.plan) old.ring.live)). one_range w.planned.plan (numbers_of old.ring) k x some w.sound.order (found_kept w.planned.plan (numbers_of old.ring) k x old.ring.live placed kept) dropped)
              (λ (entry : IsLive k x w.ran.entries). own w clear (runs_key w.begun.ring.lap w.begun.ring.hand w.ran.count k x f.blocks w.ran.sets w.ran.entries w.ran.left w.ran.runs entry))
              (live_either k x (filter (stays w.planned.plan) old.ring.live) w.ran.entries (subst (IsLive k x) (live_after w) live))

          go : IsWritten old new f.blocks f.clears f.settles end ⊎ IsUnwritten old new f.blocks f.clears f.settles end → IsAmongActs (Cleared k x) (Picked shard f.blocks ∷ (f.clears ++ f.settles)) → ⊥
          go w (inl is) = cc
          go (inl w) (inr more) = ⊎_elim (cleared w) (λ (settle : IsAmongActs (Cleared k x) f.settles). none_settled k x w settle) (in_either (Cleared k x) f.clears f.settles more)
          go (inr u) (inr more) = ⊎_elim
              (λ (clear : IsAmongActs (Cleared k x) f.clears). subst (IsAmongActs (Cleared k x)) u.none clear)
              (λ (settle : IsAmongActs (Cleared k x) f.settles). none_left k x u settle)
              (in_either (Cleared k x) f.clears f.settles more)

      shard_lost : FedShard shard old new acts calls end → (k : Key) (x : ℕ) → IsAmongActs (Cleared k x) acts → 0 < k.size → IsLive k x new.ring.live → ⊥
      shard_lost (inl f) k x among some live = not_first (Picked shard []) k x (λ is. cc) (subst (IsAmongActs (Cleared k x)) f.0 among)
      shard_lost (inr (inl f)) k x among some live = not_first (Unpicked shard) k x (λ is. cc) (subst (IsAmongActs (Cleared k x)) f.0 among)
      shard_lost (inr (inr f)) k x among some live = batch_lost f k x among some live

  -- ---- all shards

  fed_new : (shard count : ℕ) (old new : CursorState) (acts : List Act) (calls : List DeviceCall) (end : FeedStop) → AreFed shard count old new acts calls end → (k : Key) (x : ℕ) → IsLive k x new.ring.live → IsLive k x old.ring.live ⊎ WasPicked k acts
  fed_new shard zero old new acts calls end fed k x live = inl (subst (λ (c : CursorState). IsLive k x c.ring.live) fed.1 live)
  fed_new shard (suc n) old new acts calls end (inl ends) k x live = shard_new shard old new acts calls end ends.1 k x live
  fed_new shard (suc n) old new acts calls end (inr (first, more, between, front, behind, is, asked, one, rest)) k x live =
      subst (λ (l : List Act). IsLive k x old.ring.live ⊎ WasPicked k l) (sym is) (⊎_elim
      (λ (was : IsLive k x between.ring.live). ⊎_elim (λ (had : IsLive k x old.ring.live). inl had) (λ (picked : WasPicked k first). inr (picked_left k first more picked)) (shard_new shard old between first front stop.Done one k x was))
      (λ (picked : WasPicked k more). inr (picked_right k first more picked))
      (fed_new (suc shard) n between new more behind end rest k x live))

  pub fed_again : (shard count : ℕ) (old new : CursorState) (acts : List Act) (calls : List DeviceCall) (end : FeedStop) (p q : Place (Known C)) → Knows g p → DoesActs m g acts p q → AreFed shard count old new acts calls end → GivesAgain acts new.ring.live
  fed_again shard zero old new acts calls end p q knows did fed = subst (λ (l : List Act). GivesAgain l new.ring.live) (sym fed.0) tt
  fed_again shard (suc n) old new acts calls end p q knows did (inl ends) = never_again acts new.ring.live (shard_lost shard old new acts calls end p q knows did ends.1)
  fed_again shard (suc n) old new acts calls end p q knows did (inr (first, more, between, front, behind, is, asked, one, rest)) =
      let s = acts_split m g first more p q (subst (λ (l : List Act). DoesActs m g l p q) is did) in
      let then : Knows g s.0 = acts_knows m g first p s.0 knows s.1 in
      subst (λ (l : List Act). GivesAgain l new.ring.live) (sym is)
      (again_then between.ring.live new.ring.live more (fed_new (suc shard) n between new more behind end rest) (fed_again (suc shard) n between new more behind end s.0 q then s.2 rest)
      first (shard_lost shard old between first front stop.Done p s.0 knows s.1 one))
