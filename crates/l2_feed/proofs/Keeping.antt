-- That a feed keeps what it must of the places on the device: shard by shard, and over all of them.
use Rattle.std.proofs.Common.{◌≡◌, ◌⊎◌, ℕ, zero, suc, ◌+◌, List, [], ◌∷◌, ◌++◌, map, take, drop, Some, inl, inr, refl, sym, ap, ◌∙◌, subst, ⊎_elim}
use Rattle.std.specs.List.{filter}
use Rattle.arc_lists.proofs.Tables.{cases_true}
use Rattle.blk_ptr.specs.declared.key.Key.{Key}
use Rattle.arc_core.specs.declared.config.Config.{Config}
use Rattle.arc_core.specs.declared.event.Why.{Why}
use Rattle.vdev_io.specs.Calls.{DeviceCall}
use Rattle.turn_table.specs.Places.{Place}
use Rattle.arc_table.specs.declared.picks.Picked.{Picked as Block}
use Rattle.arc_table.specs.declared.view.Known.{Known}
use Rattle.arc_table.specs.Items.{Meanings}
use Rattle.l2_log.specs.Rules.{log_len}
use Rattle.l2_ring.specs.declared.live.Live.{Live}
use Rattle.l2_ring.specs.declared.live.Written.{Written}
use Rattle.l2_ring.specs.declared.plan.Plan.{Plan}
use Rattle.l2_ring.specs.Stays.{falls, live_of, stays}
use Rattle.l2_dev.specs.declared.report.FeedStop.{FeedStop}
use Rattle.l2_dev.specs.declared.report.FeedStop.TheVariants as stop
use Rattle.l2_dev.specs.Cursor.{CursorState}
use Rattle.l2_feed.specs.Acts.{Act, Absent, Cleared, DoesActs, Left, Picked, Placed, Refused, Unpicked}
use Rattle.l2_feed.specs.Places.{IsAmongActs, IsLive, KeepsPlaces, WasGiven, place_seen}
use Rattle.l2_feed.specs.Runs.{AreCleared, AreLeft, AreRuns, AreSet, bytes_of, most, row_of}
use Rattle.l2_feed.specs.Shape.{AreFed, FedBatch, FedShard, IsUnwritten, IsWritten}
use Rattle.l2_feed.proofs.Stepped.{Knows}
use Rattle.l2_feed.proofs.Taking.{acts_away, acts_knows, acts_takes}

-- ---- lists

pub in_left : (act : Act) (a b : List Act) → IsAmongActs act a → IsAmongActs act (a ++ b)
in_left act [] b among = absurd among
in_left act (x ∷ a) b (inl is) = inl is
in_left act (x ∷ a) b (inr among) = inr (in_left act a b among)

pub in_right : (act : Act) (a b : List Act) → IsAmongActs act b → IsAmongActs act (a ++ b)
in_right act [] b among = among
in_right act (x ∷ a) b among = inr (in_right act a b among)

pub in_either : (act : Act) (a b : List Act) → IsAmongActs act (a ++ b) → IsAmongActs act a ⊎ IsAmongActs act b
in_either act [] b among = inr among
in_either act (x ∷ a) b (inl is) = inl (inl is)
in_either act (x ∷ a) b (inr among) = ⊎_elim (λ (l : IsAmongActs act a). inl (inr l)) (λ (r : IsAmongActs act b). inr r) (in_either act a b among)

pub live_left : (k : Key) (x : ℕ) (a b : List Written) → IsLive k x a → IsLive k x (a ++ b)
live_left k x [] b live = absurd live
live_left k x (w ∷ a) b (inl is) = inl is
live_left k x (w ∷ a) b (inr live) = inr (live_left k x a b live)

pub live_right : (k : Key) (x : ℕ) (a b : List Written) → IsLive k x b → IsLive k x (a ++ b)
live_right k x [] b live = live
live_right k x (w ∷ a) b live = inr (live_right k x a b live)

pub live_either : (k : Key) (x : ℕ) (a b : List Written) → IsLive k x (a ++ b) → IsLive k x a ⊎ IsLive k x b
live_either k x [] b live = inr live
live_either k x (w ∷ a) b (inl is) = inl (inl is)
live_either k x (w ∷ a) b (inr live) = ⊎_elim (λ (l : IsLive k x a). inl (inr l)) (λ (r : IsLive k x b). inr r) (live_either k x a b live)

-- ---- what a plan keeps, and what it drops

-- the place is among these
abbrev pub IsDropped : Key → ℕ → List Live → Type 0
IsDropped k x [] = ⊥
IsDropped k x (l ∷ ls) = ((l.key ≡ k) × (l.place ≡ x)) ⊎ IsDropped k x ls

pub kept_or_dropped : (plan : Plan) (k : Key) (x : ℕ) (ws : List Written) → IsLive k x ws → IsLive k x (filter (stays plan) ws) ⊎ IsDropped k x (map live_of (filter (falls plan) ws))
kept_or_dropped plan k x [] live = absurd live
kept_or_dropped plan k x (w ∷ ws) live = elim (cases_true (stays plan w)) [
  | inl keeps ↦ rw keeps (⊎_elim (λ (is : (w.live.key ≡ k) × (w.live.place ≡ x)). inl (inl is)) (λ (more : IsLive k x ws). ⊎_elim (λ (l : IsLive k x (filter (stays plan) ws)). inl (inr l)) (λ (r : IsDropped k x (map live_of (filter (falls plan) ws))). inr r) (kept_or_dropped plan k x ws more)) live)
  | inr drops ↦ rw drops (⊎_elim (λ (is : (w.live.key ≡ k) × (w.live.place ≡ x)). inr (inl is)) (λ (more : IsLive k x ws). ⊎_elim (λ (l : IsLive k x (filter (stays plan) ws)). inl l) (λ (r : IsDropped k x (map live_of (filter (falls plan) ws))). inr (inr r)) (kept_or_dropped plan k x ws more)) live)
]

pub kept_was : (plan : Plan) (k : Key) (x : ℕ) (ws : List Written) → IsLive k x (filter (stays plan) ws) → IsLive k x ws
kept_was plan k x [] live = live
kept_was plan k x (w ∷ ws) live = elim (cases_true (stays plan w)) [
  | inl keeps ↦ ⊎_elim (λ (is : (w.live.key ≡ k) × (w.live.place ≡ x)). inl is) (λ (more : IsLive k x (filter (stays plan) ws)). inr (kept_was plan k x ws more)) (rw keeps at live)
  | inr drops ↦ inr (kept_was plan k x ws (rw drops at live))
]

pub dropped_was : (plan : Plan) (k : Key) (x : ℕ) (ws : List Written) → IsDropped k x (map live_of (filter (falls plan) ws)) → IsLive k x ws
dropped_was plan k x [] dropped = dropped
dropped_was plan k x (w ∷ ws) dropped = elim (cases_true (stays plan w)) [
  | inl keeps ↦ inr (dropped_was plan k x ws (rw keeps at dropped))
  | inr drops ↦ ⊎_elim (λ (is : (w.live.key ≡ k) × (w.live.place ≡ x)). inl is) (λ (more : IsDropped k x (map live_of (filter (falls plan) ws))). inr (dropped_was plan k x ws more)) (rw drops at dropped)
]

-- ---- the acts of a batch

-- the place was taken, or it was not there, or memory was refused for taking it
abbrev pub WasAsked : Key → ℕ → List Act → Type 0
WasAsked k x acts = (IsAmongActs (Cleared k x) acts ⊎ IsAmongActs (Absent k x) acts) ⊎ IsAmongActs (Refused k x) acts

asked_more : (k : Key) (x : ℕ) (a : Act) (acts : List Act) → WasAsked k x acts → WasAsked k x (a ∷ acts)
asked_more k x a acts (inl (inl among)) = inl (inl (inr among))
asked_more k x a acts (inl (inr among)) = inl (inr (inr among))
asked_more k x a acts (inr among) = inr (inr among)

-- each dropped place was asked back
pub asked_back : (k : Key) (x : ℕ) (ls : List Live) (acts : List Act) → AreCleared ls acts → IsDropped k x ls → WasAsked k x acts
asked_back k x [] [] are dropped = absurd dropped
asked_back k x (l ∷ ls) (Cleared j y ∷ acts) are (inl is) = inl (inl (inl (λ i. Cleared ((are.0.0 ∙ is.0) i) ((are.0.1 ∙ is.1) i))))
asked_back k x (l ∷ ls) (Absent j y ∷ acts) are (inl is) = inl (inr (inl (λ i. Absent ((are.0.0 ∙ is.0) i) ((are.0.1 ∙ is.1) i))))
asked_back k x (l ∷ ls) (Refused j y ∷ acts) are (inl is) = inr (inl (λ i. Refused ((are.0.0 ∙ is.0) i) ((are.0.1 ∙ is.1) i)))
asked_back k x (l ∷ ls) (Cleared j y ∷ acts) are (inr more) = asked_more k x (Cleared j y) acts (asked_back k x ls acts are.1 more)
asked_back k x (l ∷ ls) (Absent j y ∷ acts) are (inr more) = asked_more k x (Absent j y) acts (asked_back k x ls acts are.1 more)
asked_back k x (l ∷ ls) (Refused j y ∷ acts) are (inr more) = asked_more k x (Refused j y) acts (asked_back k x ls acts are.1 more)
asked_back k x [] (a ∷ acts) are dropped = absurd are
asked_back k x (l ∷ ls) [] are dropped = absurd are
asked_back k x (l ∷ ls) (Picked s keys ∷ acts) are dropped = absurd are
asked_back k x (l ∷ ls) (Unpicked s ∷ acts) are dropped = absurd are
asked_back k x (l ∷ ls) (Placed j y ∷ acts) are dropped = absurd are
asked_back k x (l ∷ ls) (Left j w ∷ acts) are dropped = absurd are

pub clears_give_none : (k : Key) (x : ℕ) (ls : List Live) (acts : List Act) → AreCleared ls acts → IsAmongActs (Placed k x) acts → ⊥
clears_give_none k x [] [] are among = among
clears_give_none k x (l ∷ ls) (Cleared j y ∷ acts) are (inl is) = cc
clears_give_none k x (l ∷ ls) (Absent j y ∷ acts) are (inl is) = cc
clears_give_none k x (l ∷ ls) (Refused j y ∷ acts) are (inl is) = cc
clears_give_none k x (l ∷ ls) (Cleared j y ∷ acts) are (inr among) = clears_give_none k x ls acts are.1 among
clears_give_none k x (l ∷ ls) (Absent j y ∷ acts) are (inr among) = clears_give_none k x ls acts are.1 among
clears_give_none k x (l ∷ ls) (Refused j y ∷ acts) are (inr among) = clears_give_none k x ls acts are.1 among
clears_give_none k x [] (a ∷ acts) are among = are
clears_give_none k x (l ∷ ls) [] are among = are
clears_give_none k x (l ∷ ls) (Picked s keys ∷ acts) are among = are
clears_give_none k x (l ∷ ls) (Unpicked s ∷ acts) are among = are
clears_give_none k x (l ∷ ls) (Placed j y ∷ acts) are among = are
clears_give_none k x (l ∷ ls) (Left j w ∷ acts) are among = are

pub lefts_give_none : (reason : Why) (k : Key) (x : ℕ) (bs : List Block) (acts : List Act) → AreLeft reason bs acts → IsAmongActs (Placed k x) acts → ⊥
lefts_give_none reason k x [] [] are among = among
lefts_give_none reason k x (b ∷ bs) (Left j w ∷ acts) are (inl is) = cc
lefts_give_none reason k x (b ∷ bs) (Left j w ∷ acts) are (inr among) = lefts_give_none reason k x bs acts are.1 among
lefts_give_none reason k x [] (a ∷ acts) are among = are
lefts_give_none reason k x (b ∷ bs) [] are among = are
lefts_give_none reason k x (b ∷ bs) (Picked s keys ∷ acts) are among = are
lefts_give_none reason k x (b ∷ bs) (Unpicked s ∷ acts) are among = are
lefts_give_none reason k x (b ∷ bs) (Cleared j y ∷ acts) are among = are
lefts_give_none reason k x (b ∷ bs) (Absent j y ∷ acts) are among = are
lefts_give_none reason k x (b ∷ bs) (Refused j y ∷ acts) are among = are
lefts_give_none reason k x (b ∷ bs) (Placed j y ∷ acts) are among = are

-- the key and the place of an act that gives one
abbrev pub none_key : Key
none_key = record { offset = 0; size = 0; birth = 0 }

abbrev pub key_in : Act → Key
key_in (Placed k x) = k
key_in _ = none_key

abbrev pub place_in : Act → ℕ
place_in (Placed k x) = x
place_in _ = 0

-- a place that a run gives is one of its entries'
set_live : (lap place : ℕ) (k : Key) (x : ℕ) (bs : List Block) (acts : List Act) → AreSet place bs acts → IsAmongActs (Placed k x) acts → IsLive k x (row_of lap place bs)
set_live lap place k x [] [] are among = among
set_live lap place k x (b ∷ bs) (Placed j y ∷ acts) are (inl is) =
    let key : j ≡ k = ap (λ (a : Act). key_in a) is in
    let at : y ≡ x = ap (λ (a : Act). place_in a) is in
    inl (sym are.0.0 ∙ key, sym are.0.1 ∙ at)
set_live lap place k x (b ∷ bs) (Placed j y ∷ acts) are (inr among) = inr (set_live lap (place + b.key.size) k x bs acts are.1 among)
set_live lap place k x (b ∷ bs) (Left j w ∷ acts) are (inl is) = cc
set_live lap place k x (b ∷ bs) (Left j w ∷ acts) are (inr among) = inr (set_live lap (place + b.key.size) k x bs acts are.1 among)
set_live lap place k x [] (a ∷ acts) are among = absurd are
set_live lap place k x (b ∷ bs) [] are among = absurd are
set_live lap place k x (b ∷ bs) (Picked s keys ∷ acts) are among = absurd are
set_live lap place k x (b ∷ bs) (Unpicked s ∷ acts) are among = absurd are
set_live lap place k x (b ∷ bs) (Cleared j y ∷ acts) are among = absurd are
set_live lap place k x (b ∷ bs) (Absent j y ∷ acts) are among = absurd are
set_live lap place k x (b ∷ bs) (Refused j y ∷ acts) are among = absurd are

pub runs_live : (lap hand count : ℕ) (k : Key) (x : ℕ) (bs : List Block) (acts : List Act) (ws : List Written) (left : List Block) → AreRuns lap hand count bs acts ws left → IsAmongActs (Placed k x) acts → IsLive k x ws
runs_live lap hand zero k x bs acts ws left are among = absurd (subst (IsAmongActs (Placed k x)) are.0 among)
runs_live lap hand (suc n) k x bs acts ws left (some, sets, more, behind, is, entries, set, rest) among =
    subst (IsLive k x) (sym entries) (⊎_elim
    (λ (here : IsAmongActs (Placed k x) sets). live_left k x (row_of lap hand (take most bs)) behind (set_live lap hand k x (take most bs) sets set here))
    (λ (there : IsAmongActs (Placed k x) more). live_right k x (row_of lap hand (take most bs)) behind (runs_live lap (hand + (bytes_of (take most bs) + log_len)) n k x (drop most bs) more behind left rest there))
    (in_either (Placed k x) sets more (subst (IsAmongActs (Placed k x)) is among)))

-- ---- one shard

-- what is live behind a batch
pub live_after : {old new : CursorState} {blocks : List Block} {clears settles : List Act} {end : FeedStop} → (w : IsWritten old new blocks clears settles end) → new.ring.live ≡ filter (stays w.planned.plan) old.ring.live ++ w.ran.entries
live_after w = w.ran.live_is ∙ ap (λ (ws : List Written). ws ++ w.ran.entries) w.planned.live

module _ {C : Type 0} (m : Meanings C) (g : Config) where
  module _ (shard : ℕ) (old new : CursorState) (acts : List Act) (calls : List DeviceCall) (end : FeedStop) (p q : Place (Known C)) (knows : Knows g p) (did : DoesActs m g acts p q) where
    -- a place that the batch gives is live afterwards
    batch_gives : (f : FedBatch shard old new acts calls end) (k : Key) (x : ℕ) → IsAmongActs (Placed k x) acts → IsLive k x new.ring.live
    batch_gives f k x among = go f.written (subst (IsAmongActs (Placed k x)) f.acts_are among)
      where
        behind : IsWritten old new f.blocks f.clears f.settles end → IsAmongActs (Placed k x) f.clears ⊎ IsAmongActs (Placed k x) f.settles → IsLive k x new.ring.live
        behind w (inl clear) = absurd (clears_give_none k x _ f.clears w.cleared clear)
        behind w (inr settle) = ⊎_elim
            (λ (set : IsAmongActs (Placed k x) w.ran.sets). subst (IsLive k x) (sym (live_after w)) (live_right k x _ w.ran.entries (runs_live w.begun.ring.lap w.begun.ring.hand w.ran.count k x f.blocks w.ran.sets w.ran.entries w.ran.left w.ran.runs set)))
            (λ (leave : IsAmongActs (Placed k x) w.ran.leaves). absurd (lefts_give_none _ k x w.ran.left w.ran.leaves w.ran.lefts leave))
            (in_either (Placed k x) w.ran.sets w.ran.leaves (subst (IsAmongActs (Placed k x)) w.ran.settled settle))

        go : IsWritten old new f.blocks f.clears f.settles end ⊎ IsUnwritten old new f.blocks f.clears f.settles end → IsAmongActs (Placed k x) (Picked shard f.blocks ∷ (f.clears ++ f.settles)) → IsLive k x new.ring.live
        go w (inl is) = cc
        go (inl w) (inr more) = behind w (in_either (Placed k x) f.clears f.settles more)
        go (inr u) (inr more) = ⊎_elim
            (λ (clear : IsAmongActs (Placed k x) f.clears). absurd (subst (IsAmongActs (Placed k x)) u.none clear))
            (λ (settle : IsAmongActs (Placed k x) f.settles). absurd (lefts_give_none _ k x f.blocks f.settles u.lefts settle))
            (in_either (Placed k x) f.clears f.settles more)

    batch_kept : FedBatch shard old new acts calls end → KeepsPlaces g acts old.ring.live new.ring.live q
    batch_kept f k x (inr given) at = inl (batch_gives f k x given)
    batch_kept f k x (inl live) at = go f.written
      where
        among : (act : Act) → IsAmongActs act f.clears → IsAmongActs act acts
        among act here = subst (IsAmongActs act) (sym f.acts_are) (inr (in_left act f.clears f.settles here))

        asked : WasAsked k x f.clears → IsLive k x new.ring.live ⊎ IsAmongActs (Refused k x) acts
        asked (inl (inl a)) = inl (batch_gives f k x (acts_away m g acts p q knows did k x (inl (among (Cleared k x) a)) at))
        asked (inl (inr a)) = inl (batch_gives f k x (acts_away m g acts p q knows did k x (inr (among (Absent k x) a)) at))
        asked (inr a) = inr (among (Refused k x) a)

        go : IsWritten old new f.blocks f.clears f.settles end ⊎ IsUnwritten old new f.blocks f.clears f.settles end → IsLive k x new.ring.live ⊎ IsAmongActs (Refused k x) acts
        go (inr u) = inl (subst (λ (c : CursorState). IsLive k x c.ring.live) (sym u.same) live)
        go (inl w) = ⊎_elim
            (λ (kept : IsLive k x (filter (stays w.planned.plan) old.ring.live)). inl (subst (IsLive k x) (sym (live_after w)) (live_left k x (filter (stays w.planned.plan) old.ring.live) w.ran.entries kept)))
            (λ (dropped : IsDropped k x (map live_of (filter (falls w.planned.plan) old.ring.live))). asked (asked_back k x (map live_of (filter (falls w.planned.plan) old.ring.live)) f.clears w.cleared dropped))
            (kept_or_dropped w.planned.plan k x old.ring.live live)

    one_act : (act : Act) (k : Key) (x : ℕ) → IsAmongActs (Placed k x) (act ∷ []) → act ≡ Placed k x
    one_act act k x (inl is) = is
    one_act act k x (inr none) = absurd none

    pub shard_kept : FedShard shard old new acts calls end → KeepsPlaces g acts old.ring.live new.ring.live q
    shard_kept (inl f) k x (inl live) at = inl (subst (λ (c : CursorState). IsLive k x c.ring.live) (sym f.1) live)
    shard_kept (inl f) k x (inr given) at = let is = one_act (Picked shard []) k x (subst (IsAmongActs (Placed k x)) f.0 given) in cc
    shard_kept (inr (inl f)) k x (inl live) at = inl (subst (λ (c : CursorState). IsLive k x c.ring.live) (sym f.1) live)
    shard_kept (inr (inl f)) k x (inr given) at = let is = one_act (Unpicked shard) k x (subst (IsAmongActs (Placed k x)) f.0 given) in cc
    shard_kept (inr (inr f)) k x was at = batch_kept f k x was at

  -- ---- all shards

  pub acts_split : (a b : List Act) (p q : Place (Known C)) → DoesActs m g (a ++ b) p q → (r : Place (Known C)) × DoesActs m g a p r × DoesActs m g b r q
  acts_split [] b p q did = (p, refl, did)
  acts_split (x ∷ a) b p q did = let r = acts_split a b did.0 q did.2 in (r.0, (did.0, did.1, r.1), r.2)

  kept_then : (a b : List Act) (old mid new : List Written) (r q : Place (Known C)) → Knows g r → DoesActs m g b r q → KeepsPlaces g a old mid r → KeepsPlaces g b mid new q → KeepsPlaces g (a ++ b) old new q
  kept_then a b old mid new r q knows did first then k x was at = start was
    where
      behind : IsLive k x new ⊎ IsAmongActs (Refused k x) b → IsLive k x new ⊎ IsAmongActs (Refused k x) (a ++ b)
      behind (inl live) = inl live
      behind (inr refused) = inr (in_right (Refused k x) a b refused)

      between : IsLive k x mid ⊎ IsAmongActs (Refused k x) a → IsLive k x new ⊎ IsAmongActs (Refused k x) (a ++ b)
      between (inl live) = behind (then k x (inl live) at)
      between (inr refused) = inr (in_left (Refused k x) a b refused)

      had : WasGiven old a k x → IsLive k x new ⊎ IsAmongActs (Refused k x) (a ++ b)
      had w = ⊎_elim (λ (there : place_seen g r k ≡ Some x). between (first k x w there)) (λ (given : IsAmongActs (Placed k x) b). behind (then k x (inr given) at)) (acts_takes m g b r q knows did k x at)

      start : WasGiven old (a ++ b) k x → IsLive k x new ⊎ IsAmongActs (Refused k x) (a ++ b)
      start (inl live) = had (inl live)
      start (inr given) = ⊎_elim (λ (l : IsAmongActs (Placed k x) a). had (inr l)) (λ (r : IsAmongActs (Placed k x) b). behind (then k x (inr r) at)) (in_either (Placed k x) a b given)

  pub fed_kept : (shard count : ℕ) (old new : CursorState) (acts : List Act) (calls : List DeviceCall) (end : FeedStop) (p q : Place (Known C)) → Knows g p → DoesActs m g acts p q → AreFed shard count old new acts calls end → KeepsPlaces g acts old.ring.live new.ring.live q
  fed_kept shard zero old new acts calls end p q knows did fed k x (inl live) at = inl (subst (λ (c : CursorState). IsLive k x c.ring.live) (sym fed.1) live)
  fed_kept shard zero old new acts calls end p q knows did fed k x (inr given) at = absurd (subst (IsAmongActs (Placed k x)) fed.0 given)
  fed_kept shard (suc n) old new acts calls end p q knows did (inl ends) k x was at = shard_kept shard old new acts calls end p q knows did ends.1 k x was at
  fed_kept shard (suc n) old new acts calls end p q knows did (inr (first, more, between, front, behind, is, asked, one, rest)) k x was at =
      let s = acts_split first more p q (subst (λ (l : List Act). DoesActs m g l p q) is did) in
      let then : Knows g s.0 = acts_knows m g first p s.0 knows s.1 in
      subst (λ (l : List Act). KeepsPlaces g l old.ring.live new.ring.live q) (sym is)
      (kept_then first more old.ring.live between.ring.live new.ring.live s.0 q then s.2 (shard_kept shard old between first front stop.Done p s.0 knows s.1 one) (fed_kept (suc shard) n between new more behind end s.0 q then s.2 rest)) k x was at
