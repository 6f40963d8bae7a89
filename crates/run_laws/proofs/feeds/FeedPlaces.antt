-- What a feed makes of the places that keys have on the cache device, as the shards have them: each place that a key has behind it stands in the ring, and was the key's before, or the feed gave it. So it is as long as memory was refused for
-- taking none (l2arc_evict and l2arc_write_done, for a single thread).
use Rattle.std.proofs.Common.{◌≡◌, ◌≢◌, ◌⊎◌, ◌++◌, ℕ, zero, suc, Bool, true, false, not, IsTrue, List, [], ◌∷◌, map, Option, None, Some, append_assoc, inl, inr, refl, sym, ap, ◌∙◌, subst, ⊎_elim, eq-eqb}
use Rattle.std.specs.Prelude.{◌==◌, if◌then◌else◌}
use Rattle.std.specs.List.{filter}
use Rattle.std.specs.Option.{option_and_then, option_map_or}
use Rattle.std.proofs.lemmas.Bool.{and_parts, cases_Bool, false≢true}
use Rattle.blk_ptr.specs.Hash.{shard_of}
use Rattle.blk_ptr.specs.Order.{key_eq}
use Rattle.blk_ptr.specs.declared.key.Key.{Key}
use Rattle.blk_ptr.proofs.Keys.{key_eq-is}
use Rattle.arc_core.specs.declared.config.Config.{Config}
use Rattle.arc_core.specs.declared.entry.Entry.{Entry}
use Rattle.arc_core.specs.declared.event.Event.{Event}
use Rattle.arc_core.specs.declared.event.Event.TheVariants as event
use Rattle.arc_core.specs.PlainShard.{PlainShard, entry_of, place_of}
use Rattle.arc_core.specs.Replay.{is_legal_history, replay}
use Rattle.arc_core.specs.Sound.{IsSound}
use Rattle.arc_core.specs.Step.{after, legal}
use Rattle.arc_core.proofs.Others.{own-entry}
use Rattle.arc_core.proofs.Places.{taking-places}
use Rattle.arc_core.proofs.Stepping.{prefix-legal, replay-append}
use Rattle.arc_table.specs.feeder.Feeding.{has_place}
use Rattle.l2_ring.specs.declared.live.Live.{Live}
use Rattle.l2_ring.specs.declared.live.Written.{Written}
use Rattle.l2_ring.specs.Stays.{falls, live_of, stays}
use Rattle.l2_dev.specs.Cursor.{CursorState}
use Rattle.l2_dev.specs.declared.report.FeedStop.{FeedStop}
use Rattle.l2_dev.specs.declared.report.FeedStop.TheVariants as stop
use Rattle.l2_feed.specs.Acts.{Act, Absent, Cleared, Left, Picked, Placed, Refused, Unpicked, keys_of}
use Rattle.l2_feed.specs.Alone.{AreOfShards, events_at, shards_after}
use Rattle.l2_feed.specs.Places.{IsAmongActs, IsLive}
use Rattle.l2_feed.specs.Plain.{all_after}
use Rattle.l2_feed.specs.Runs.{AreCleared}
use Rattle.l2_feed.specs.Shape.{AreFed, FedBatch, FedShard, IsUnwritten, IsWritten, NoneRefused, why_of}
use Rattle.l2_feed.specs.Told.{events_of, shard_of_act}
use Rattle.l2_feed.proofs.Between.{give_none}
use Rattle.l2_feed.proofs.Keeping.{IsDropped, clears_give_none, in_either, kept_or_dropped, lefts_give_none, live_after, live_left, live_right, runs_live}
use Rattle.l2_feed.proofs.Plain.{after_two, none_two, of_two}
use Rattle.l2_feed.proofs.Stepped.{sound_front, taking}
use Rattle.l2_feed.proofs.Taking.{none_placed, placed_only}
use Rattle.vdev_io.specs.Calls.{DeviceCall}
use Rattle.run_laws.proofs.feeds.PlacesGo.{GiveNone, if-gives}

-- each place that a key has in these shards is live for it
abbrev pub PlacesLive : Config → (s : ℕ → PlainShard) → List Written → Type 0
PlacesLive g s live = (k : Key) (x : ℕ) → place_of k (s (shard_of g.shards k)) ≡ Some x → IsLive k x live

one-act : (a : Act) (k : Key) (x : ℕ) → IsAmongActs (Placed k x) (a ∷ []) → a ≡ Placed k x
one-act a k x (inl is) = is
one-act a k x (inr none) = absurd none

picks-give : (n : ℕ) (ks : List Key) → GiveNone (map (event.Pick n) ks ++ event.FeedEnd n ∷ [])
picks-give n [] = ((λ j. refl), tt)
picks-give n (k ∷ ks) = ((λ j. refl), picks-give n ks)

not-some : {X : Type 0} (x : X) (o : Option X) → o ≡ Some x → o ≡ None → ⊥
not-some {X} x o some none = let clash : ◌≡◌ {A = Option X} (Some x) None = sym some ∙ none in cc

module _ (g : Config) (n : ℕ) (k : Key) where
  abbrev pub sh : ℕ
  sh = shard_of g.shards k

  abbrev pub place_in : (ℕ → PlainShard) → Option ℕ
  place_in s = place_of k (s sh)

  -- these acts of n may be done, as far as the key's shard goes
  pub record MayDo (s : ℕ → PlainShard) (acts : List Act) : Type 0 where
    pub sound : IsSound (s sh)
    pub legal : IsTrue (is_legal_history (s sh) (events_at g n sh acts))

  -- the events of an act in the key's shard
  abbrev here_of : Act → List Event
  here_of act = if shard_of_act g act == sh then events_of n act else []

  after-act : (s : ℕ → PlainShard) (act : Act) → shards_after g n s act sh ≡ replay (s sh) (here_of act)
  after-act s act = elim (cases_Bool (shard_of_act g act == sh)) [
    | inl its ↦ rw its refl
    | inr other ↦ rw other refl
  ]

  pub after-acts : (acts : List Act) (s : ℕ → PlainShard) → all_after g n s acts sh ≡ replay (s sh) (events_at g n sh acts)
  after-acts [] s = refl
  after-acts (act ∷ acts) s = after-acts acts (shards_after g n s act) ∙ (ap (λ (p : PlainShard). replay p (events_at g n sh acts)) (after-act s act) ∙ sym (replay-append (s sh) (here_of act) (events_at g n sh acts)))

  events-two : (a b : List Act) → events_at g n sh (a ++ b) ≡ events_at g n sh a ++ events_at g n sh b
  events-two [] b = refl
  events-two (act ∷ a) b = ap (λ (es : List Event). here_of act ++ es) (events-two a b) ∙ sym (append_assoc (here_of act) (events_at g n sh a) (events_at g n sh b))

  first-legal : (s : ℕ → PlainShard) (act : Act) (acts : List Act) → MayDo s (act ∷ acts) → IsTrue (is_legal_history (s sh) (here_of act))
  first-legal s act acts may = prefix-legal (s sh) (here_of act) (events_at g n sh acts) may.legal

  rest-may : (s : ℕ → PlainShard) (act : Act) (acts : List Act) → MayDo s (act ∷ acts) → MayDo (shards_after g n s act) acts
  rest-may s act acts may =
      let parts = sound_front (s sh) (here_of act) (events_at g n sh acts) may.sound may.legal in
      record {
        sound = subst IsSound (sym (after-act s act)) parts.0;
        legal = subst (λ (p : PlainShard). IsTrue (is_legal_history p (events_at g n sh acts))) (sym (after-act s act)) parts.1;
      }

  two-may : (s : ℕ → PlainShard) (a b : List Act) → MayDo s (a ++ b) → MayDo s a × MayDo (all_after g n s a) b
  two-may s a b may =
      let whole : IsTrue (is_legal_history (s sh) (events_at g n sh a ++ events_at g n sh b)) = subst (λ (es : List Event). IsTrue (is_legal_history (s sh) es)) (events-two a b) may.legal in
      let parts = sound_front (s sh) (events_at g n sh a) (events_at g n sh b) may.sound whole in (
        record { sound = may.sound; legal = prefix-legal (s sh) (events_at g n sh a) (events_at g n sh b) whole },
        record {
          sound = subst IsSound (sym (after-acts a s)) parts.0;
          legal = subst (λ (p : PlainShard). IsTrue (is_legal_history p (events_at g n sh b))) (sym (after-acts a s)) parts.1;
        },
      )

  -- ---- one act

  module _ (s : ℕ → PlainShard) (act : Act) (acts : List Act) (may : MayDo s (act ∷ acts)) (x : ℕ) where
    -- one that gives no place
    none-takes : GiveNone (events_of n act) → place_in (shards_after g n s act) ≡ Some x → place_in s ≡ Some x
    none-takes none at =
        taking (s sh) (here_of act) k x may.sound (first-legal s act acts may) (give_none k (here_of act) (if-gives (shard_of_act g act == sh) (events_of n act) none)) (sym (ap (place_of k) (after-act s act)) ∙ at)

  -- one that gives a place
  set-takes : (s : ℕ → PlainShard) (j : Key) (y : ℕ) (acts : List Act) → MayDo s (Placed j y ∷ acts) → (x : ℕ) → place_in (shards_after g n s (Placed j y)) ≡ Some x → (place_in s ≡ Some x) ⊎ (Placed j y ≡ Placed k x)
  set-takes s j y acts may x at = go (shard_of g.shards j == sh) refl (first-legal s (Placed j y) acts may) (sym (ap (place_of k) (after-act s (Placed j y))) ∙ at)
    where
      set-here : IsTrue (legal (s sh) (event.Set n j y)) → place_of k (after (s sh) (event.Set n j y)) ≡ Some x → (place_in s ≡ Some x) ⊎ (Placed j y ≡ Placed k x)
      set-here ok there = elim (cases_Bool (key_eq k j)) [
        | inl same ↦
            let is : k ≡ j = key_eq-is k j same in
            let own = own-entry (s sh) (event.Set n j y) j may.sound ok refl in
            let value : x ≡ y = placed_only x y (entry_of j (s sh)) (sym (ap (option_and_then (λ (e : Entry). e.place)) own) ∙ subst (λ (i : Key). place_of i (after (s sh) (event.Set n j y)) ≡ Some x) is there) in
            inr (λ i. Placed (sym is i) (sym value i))
        | inr other ↦ inl (⊎_elim (λ (kept : place_of k (after (s sh) (event.Set n j y)) ≡ place_of k (s sh)). sym kept ∙ there)
            (λ (gone : place_of k (after (s sh) (event.Set n j y)) ≡ None). absurd (not-some x (place_of k (after (s sh) (event.Set n j y))) there gone)) (taking-places (s sh) (event.Set n j y) k may.sound ok (ap not other)))
      ]

      go : (b : Bool) → (shard_of g.shards j == sh) ≡ b → IsTrue (is_legal_history (s sh) (if b then (event.Set n j y ∷ []) else [])) → place_of k (replay (s sh) (if b then (event.Set n j y ∷ []) else [])) ≡ Some x
          → (place_in s ≡ Some x) ⊎ (Placed j y ≡ Placed k x)
      go true is ok there = set-here (and_parts (legal (s sh) (event.Set n j y)) true ok).0 there
      go false is ok there = inl there

  act-takes : (s : ℕ → PlainShard) (act : Act) (acts : List Act) → MayDo s (act ∷ acts) → (x : ℕ) → place_in (shards_after g n s act) ≡ Some x → (place_in s ≡ Some x) ⊎ (act ≡ Placed k x)
  act-takes s (Picked shard blocks) acts may x at = inl (none-takes s (Picked shard blocks) acts may x (picks-give n (keys_of blocks)) at)
  act-takes s (Unpicked shard) acts may x at = inl (none-takes s (Unpicked shard) acts may x tt at)
  act-takes s (Cleared j y) acts may x at = inl (none-takes s (Cleared j y) acts may x ((λ i. refl), tt) at)
  act-takes s (Absent j y) acts may x at = inl (none-takes s (Absent j y) acts may x tt at)
  act-takes s (Refused j y) acts may x at = inl (none-takes s (Refused j y) acts may x tt at)
  act-takes s (Left j w) acts may x at = inl (none-takes s (Left j w) acts may x ((λ i. refl), tt) at)
  act-takes s (Placed j y) acts may x at = set-takes s j y acts may x at

  -- where the key's place was taken it has none
  clear-gone : (s : ℕ → PlainShard) (y : ℕ) (acts : List Act) → MayDo s (Cleared k y ∷ acts) → (x : ℕ) → place_in (shards_after g n s (Cleared k y)) ≡ Some x → ⊥
  clear-gone s y acts may x at =
      let its : (sh == sh) ≡ true = eq-eqb sh sh refl in
      let ok : IsTrue (is_legal_history (s sh) (event.Clear n k ∷ [])) = rw its at (first-legal s (Cleared k y) acts may) in
      let own = own-entry (s sh) (event.Clear n k) k may.sound (and_parts (legal (s sh) (event.Clear n k)) true ok).0 refl in
      let none : place_of k (after (s sh) (event.Clear n k)) ≡ None = ap (option_and_then (λ (e : Entry). e.place)) own ∙ none_placed (entry_of k (s sh)) in
      let there : place_of k (replay (s sh) (here_of (Cleared k y))) ≡ Some x = sym (ap (place_of k) (after-act s (Cleared k y))) ∙ at in
      let here : place_of k (after (s sh) (event.Clear n k)) ≡ Some x = rw its at there in
      not-some x (place_of k (after (s sh) (event.Clear n k))) here none

  -- where it was not there it was another one, or none
  absent-gone : (s : ℕ → PlainShard) (x : ℕ) → has_place x k (s sh) ≡ false → place_in s ≡ Some x → ⊥
  absent-gone s x has at =
      let off : (x == x) ≡ false = subst (λ (o : Option ℕ). option_map_or (λ y. y == x) o false ≡ false) at has in
      false≢true (sym off ∙ eq-eqb x x refl)

  -- ---- a list of acts

  -- a place that the key has afterwards it had before, or the acts gave it
  pub acts-take : (acts : List Act) (s : ℕ → PlainShard) → MayDo s acts → (x : ℕ) → place_in (all_after g n s acts) ≡ Some x → (place_in s ≡ Some x) ⊎ IsAmongActs (Placed k x) acts
  acts-take [] s may x at = inl at
  acts-take (act ∷ acts) s may x at = ⊎_elim
      (λ (there : place_in (shards_after g n s act) ≡ Some x). ⊎_elim (λ (had : place_in s ≡ Some x). inl had) (λ (gave : act ≡ Placed k x). inr (inl gave)) (act-takes s act acts may x there))
      (λ (among : IsAmongActs (Placed k x) acts). inr (inr among))
      (acts-take acts (shards_after g n s act) (rest-may s act acts may) x at)

  -- a place that was asked back the key has no more
  acts-cleared : (ls : List Live) (acts : List Act) (s : ℕ → PlainShard) → MayDo s acts → AreCleared ls acts → NoneRefused acts → AreOfShards g n s acts → (x : ℕ) → IsDropped k x ls → place_in (all_after g n s acts) ≡ Some x → ⊥
  acts-cleared [] acts s may are none of x dropped at = dropped
  acts-cleared (l ∷ ls) (Cleared j y ∷ acts) s may are none of x (inl is) at =
      let key : j ≡ k = are.0.0 ∙ is.0 in
      let mine : MayDo s (Cleared k y ∷ acts) = subst (λ (i : Key). MayDo s (Cleared i y ∷ acts)) key may in
      let there : place_in (all_after g n (shards_after g n s (Cleared k y)) acts) ≡ Some x = subst (λ (i : Key). place_in (all_after g n (shards_after g n s (Cleared i y)) acts) ≡ Some x) key at in
      ⊎_elim (λ (had : place_in (shards_after g n s (Cleared k y)) ≡ Some x). clear-gone s y acts mine x had) (λ (among : IsAmongActs (Placed k x) acts). clears_give_none k x ls acts are.1 among)
      (acts-take acts (shards_after g n s (Cleared k y)) (rest-may s (Cleared k y) acts mine) x there)
  acts-cleared (l ∷ ls) (Absent j y ∷ acts) s may are none of x (inl is) at =
      let has : has_place x k (s sh) ≡ false = subst (λ (z : ℕ × Key). has_place z.0 z.1 (s (shard_of g.shards z.1)) ≡ false) (λ i. ((are.0.1 ∙ is.1) i, (are.0.0 ∙ is.0) i)) of.0 in
      ⊎_elim (λ (had : place_in (shards_after g n s (Absent j y)) ≡ Some x). absent-gone s x has (none-takes s (Absent j y) acts may x tt had)) (λ (among : IsAmongActs (Placed k x) acts). clears_give_none k x ls acts are.1 among)
      (acts-take acts (shards_after g n s (Absent j y)) (rest-may s (Absent j y) acts may) x at)
  acts-cleared (l ∷ ls) (Refused j y ∷ acts) s may are none of x dropped at = none.0 tt
  acts-cleared (l ∷ ls) (Cleared j y ∷ acts) s may are none of x (inr more) at = acts-cleared ls acts (shards_after g n s (Cleared j y)) (rest-may s (Cleared j y) acts may) are.1 none.1 of.1 x more at
  acts-cleared (l ∷ ls) (Absent j y ∷ acts) s may are none of x (inr more) at = acts-cleared ls acts (shards_after g n s (Absent j y)) (rest-may s (Absent j y) acts may) are.1 none.1 of.1 x more at
  acts-cleared (l ∷ ls) [] s may are none of x dropped at = are
  acts-cleared (l ∷ ls) (Picked i bs ∷ acts) s may are none of x dropped at = are
  acts-cleared (l ∷ ls) (Unpicked i ∷ acts) s may are none of x dropped at = are
  acts-cleared (l ∷ ls) (Placed j y ∷ acts) s may are none of x dropped at = are
  acts-cleared (l ∷ ls) (Left j w ∷ acts) s may are none of x dropped at = are

-- ---- a feed

module _ (g : Config) (n : ℕ) where
  abbrev pub AllMay : (s : ℕ → PlainShard) → List Act → Type 0
  AllMay s acts = (k : Key) → MayDo g n k s acts

  module _ (shard : ℕ) (old new : CursorState) (acts : List Act) (calls : List DeviceCall) (end : FeedStop) (ended : end ≢ stop.NoMemory) (none : NoneRefused acts) (s : ℕ → PlainShard) (of : AreOfShards g n s acts) (may : AllMay s acts)
      (live : PlacesLive g s old.ring.live) where
    -- one act that gives no place leaves what is live
    one-live : (act : Act) → ((k : Key) (x : ℕ) → act ≡ Placed k x → ⊥) → acts ≡ act ∷ [] → new ≡ old → PlacesLive g (all_after g n s acts) new.ring.live
    one-live act not is same k x at = subst (λ (c : CursorState). IsLive k x c.ring.live) (sym same)
        (⊎_elim (λ (had : place_in g n k s ≡ Some x). live k x had) (λ (among : IsAmongActs (Placed k x) acts). absurd (not k x (one-act act k x (subst (IsAmongActs (Placed k x)) is among)))) (acts-take g n k acts s (may k) x at))

    module _ (f : FedBatch shard old new acts calls end) where
      abbrev pick : Act
      pick = Picked shard f.blocks

      abbrev s1 : ℕ → PlainShard
      s1 = shards_after g n s pick

      abbrev s2 : ℕ → PlainShard
      s2 = all_after g n s1 f.clears

      its-of : AreOfShards g n s1 f.clears
      its-of = (of_two g n s1 f.clears f.settles (subst (AreOfShards g n s) f.acts_are of).1).0

      its-none : NoneRefused f.clears
      its-none = (none_two f.clears f.settles (subst NoneRefused f.acts_are none).1).0

      all-may : (k : Key) → MayDo g n k s (pick ∷ (f.clears ++ f.settles))
      all-may k = subst (MayDo g n k s) f.acts_are (may k)

      two : (k : Key) → MayDo g n k s1 f.clears × MayDo g n k s2 f.settles
      two k = two-may g n k s1 f.clears f.settles (rest-may g n k s pick (f.clears ++ f.settles) (all-may k))

      -- a place that is kept stands still
      kept-live : (w : IsWritten old new f.blocks f.clears f.settles end) (k : Key) (x : ℕ) → place_in g n k s2 ≡ Some x → IsLive k x new.ring.live
      kept-live w k x at =
          let ls : List Live = map live_of (filter (falls w.planned.plan) old.ring.live) in
          let before : place_in g n k s1 ≡ Some x = ⊎_elim (λ (had : place_in g n k s1 ≡ Some x). had) (λ (among : IsAmongActs (Placed k x) f.clears). absurd (clears_give_none k x ls f.clears w.cleared among)) (acts-take g n k f.clears s1 (two k).0 x at) in
          let first : place_in g n k s ≡ Some x = none-takes g n k s pick (f.clears ++ f.settles) (all-may k) x (picks-give n (keys_of f.blocks)) before in
          ⊎_elim
          (λ (stays_live : IsLive k x (filter (stays w.planned.plan) old.ring.live)). subst (IsLive k x) (sym (live_after w)) (live_left k x (filter (stays w.planned.plan) old.ring.live) w.ran.entries stays_live))
          (λ (dropped : IsDropped k x ls). absurd (acts-cleared g n k ls f.clears s1 (two k).0 w.cleared its-none its-of x dropped at))
          (kept_or_dropped w.planned.plan k x old.ring.live (live k x first))

      -- and so does one that is given
      given-live : (w : IsWritten old new f.blocks f.clears f.settles end) (k : Key) (x : ℕ) → IsAmongActs (Placed k x) f.settles → IsLive k x new.ring.live
      given-live w k x among = ⊎_elim
          (λ (set : IsAmongActs (Placed k x) w.ran.sets). subst (IsLive k x) (sym (live_after w)) (live_right k x (filter (stays w.planned.plan) old.ring.live) w.ran.entries (runs_live w.begun.ring.lap w.begun.ring.hand w.ran.count k x f.blocks w.ran.sets w.ran.entries w.ran.left w.ran.runs set)))
          (λ (leave : IsAmongActs (Placed k x) w.ran.leaves). absurd (lefts_give_none (why_of end) k x w.ran.left w.ran.leaves w.ran.lefts leave))
          (in_either (Placed k x) w.ran.sets w.ran.leaves (subst (IsAmongActs (Placed k x)) w.ran.settled among))

      final-is : all_after g n s acts ≡ all_after g n s2 f.settles
      final-is = ap (all_after g n s) f.acts_are ∙ after_two g n s1 f.clears f.settles

      batch-live : PlacesLive g (all_after g n s acts) new.ring.live
      batch-live k x at = go f.written
        where
          last : place_in g n k (all_after g n s2 f.settles) ≡ Some x
          last = sym (ap (place_in g n k) final-is) ∙ at

          go : IsWritten old new f.blocks f.clears f.settles end ⊎ IsUnwritten old new f.blocks f.clears f.settles end → IsLive k x new.ring.live
          go (inl w) = ⊎_elim (λ (had : place_in g n k s2 ≡ Some x). kept-live w k x had) (λ (among : IsAmongActs (Placed k x) f.settles). given-live w k x among) (acts-take g n k f.settles s2 (two k).1 x last)
          go (inr u) = absurd (ended u.ended)

    shard-live : FedShard shard old new acts calls end → PlacesLive g (all_after g n s acts) new.ring.live
    shard-live (inl f) = one-live (Picked shard []) (λ k x is. cc) f.0 f.1
    shard-live (inr (inl f)) = absurd (ended f.2)
    shard-live (inr (inr f)) = batch-live f

  not-memory : stop.Done ≡ stop.NoMemory → ⊥
  not-memory is = let clash : stop.Done ≡ stop.NoMemory = is in cc

  -- behind a feed that memory was refused nowhere each place that a key has is live for it, where it was so before
  pub fed-live : (shard count : ℕ) (old new : CursorState) (acts : List Act) (calls : List DeviceCall) (end : FeedStop) → AreFed shard count old new acts calls end → end ≢ stop.NoMemory → NoneRefused acts
      → (s : ℕ → PlainShard) → AreOfShards g n s acts → AllMay s acts → PlacesLive g s old.ring.live → PlacesLive g (all_after g n s acts) new.ring.live
  fed-live shard zero old new acts calls end fed ended none s of may live =
      subst (λ (z : List Act × CursorState). PlacesLive g (all_after g n s z.0) z.1.ring.live) (λ i. (sym fed.0 i, sym fed.1 i)) live
  fed-live shard (suc count) old new acts calls end (inl ends) ended none s of may live = shard-live shard old new acts calls end ended none s of may live ends.1
  fed-live shard (suc count) old new acts calls end (inr (first, more, between, front, behind, is, asked, one, rest)) ended none s of may live =
      let nones = none_two first more (subst NoneRefused is none) in
      let ofs = of_two g n s first more (subst (AreOfShards g n s) is of) in
      let mays : (k : Key) → MayDo g n k s first × MayDo g n k (all_after g n s first) more = λ k. two-may g n k s first more (subst (MayDo g n k s) is (may k)) in
      let mid : PlacesLive g (all_after g n s first) between.ring.live = shard-live shard old between first front stop.Done not-memory nones.0 s ofs.0 (λ k. (mays k).0) live one in
      let last : PlacesLive g (all_after g n (all_after g n s first) more) new.ring.live = fed-live (suc shard) count between new more behind end rest ended nones.1 (all_after g n s first) ofs.1 (λ k. (mays k).1) mid in
      subst (λ (t : ℕ → PlainShard). PlacesLive g t new.ring.live) (sym (ap (all_after g n s) is ∙ after_two g n s first more)) last
