-- That a feed takes just such places as were live before it, or as it gave itself.
use Rattle.std.proofs.Common.{◌≡◌, ◌⊎◌, ℕ, zero, suc, ◌+◌, List, [], ◌∷◌, ◌++◌, map, take, drop, Some, inl, inr, sym, ap, ◌∙◌, subst, ⊎_elim, arith, cond}
use Rattle.std.specs.Prelude.{count_by}
use Rattle.std.proofs.lemmas.List.Sums.{sum_by-cons}
use Rattle.std.specs.List.{filter}
use Rattle.blk_ptr.specs.declared.key.Key.{Key}
use Rattle.arc_core.specs.declared.config.Config.{Config}
use Rattle.vdev_io.specs.Calls.{DeviceCall}
use Rattle.turn_table.specs.Places.{Place}
use Rattle.arc_table.specs.declared.picks.Picked.{Picked as Block}
use Rattle.arc_table.specs.declared.view.Known.{Known}
use Rattle.arc_table.specs.Items.{Meanings}
use Rattle.l2_ring.specs.declared.live.Live.{Live}
use Rattle.l2_ring.specs.declared.live.Written.{Written}
use Rattle.l2_ring.specs.Stays.{falls, live_of, stays}
use Rattle.l2_dev.specs.declared.report.FeedStop.{FeedStop}
use Rattle.l2_dev.specs.declared.report.FeedStop.TheVariants as stop
use Rattle.l2_dev.specs.Cursor.{CursorState}
use Rattle.l2_feed.specs.Acts.{Act, Absent, Cleared, DoesActs, Left, Picked, Placed, Refused, Unpicked, keys_of}
use Rattle.l2_feed.specs.Places.{IsAmongActs, IsAmongKeys, IsLive, TakesOwn, WasGiven, place_seen}
use Rattle.l2_feed.specs.Runs.{AreCleared, AreRuns, bytes_of, most, row_of}
use Rattle.l2_log.specs.Rules.{log_len}
use Rattle.l2_feed.specs.Shape.{AreFed, FedBatch, FedShard, IsUnwritten, IsWritten}
use Rattle.l2_feed.specs.Sums.{is_cleared}
use Rattle.l2_feed.proofs.Counting.{cleared-append, left-none, runs-none}
use Rattle.l2_feed.proofs.Keeping.{IsDropped, acts_split, dropped_was, in_either, in_left, in_right, kept_was, live_after, live_either}
use Rattle.l2_feed.proofs.Stepped.{Knows}
use Rattle.l2_feed.proofs.Taking.{act_knows, acts_had, acts_knows, acts_takes, picked_none}

-- a place that is live afterwards, and that the key has then, was live before, or was given
abbrev pub FromPlaces : {C : Type 0} → Config → List Act → (before after : List Written) → Place (Known C) → Type 0
FromPlaces g acts before after q = (k : Key) (x : ℕ) → IsLive k x after → place_seen g q k ≡ Some x → WasGiven before acts k x

-- ---- whose the entries of a run are

pub row_key : (lap place : ℕ) (k : Key) (x : ℕ) (bs : List Block) → IsLive k x (row_of lap place bs) → IsAmongKeys k (keys_of bs)
row_key lap place k x [] live = live
row_key lap place k x (b ∷ bs) (inl is) = inl is.0
row_key lap place k x (b ∷ bs) (inr live) = inr (row_key lap (place + b.key.size) k x bs live)

pub key_front : (k : Key) (n : ℕ) (bs : List Block) → IsAmongKeys k (keys_of (take n bs)) → IsAmongKeys k (keys_of bs)
key_front k zero bs among = absurd among
key_front k (suc n) [] among = among
key_front k (suc n) (b ∷ bs) (inl is) = inl is
key_front k (suc n) (b ∷ bs) (inr among) = inr (key_front k n bs among)

pub key_behind : (k : Key) (n : ℕ) (bs : List Block) → IsAmongKeys k (keys_of (drop n bs)) → IsAmongKeys k (keys_of bs)
key_behind k zero bs among = among
key_behind k (suc n) [] among = among
key_behind k (suc n) (b ∷ bs) among = inr (key_behind k n bs among)

pub runs_key : (lap hand count : ℕ) (k : Key) (x : ℕ) (bs : List Block) (acts : List Act) (ws : List Written) (left : List Block) → AreRuns lap hand count bs acts ws left → IsLive k x ws → IsAmongKeys k (keys_of bs)
runs_key lap hand zero k x bs acts ws left are live = absurd (subst (IsLive k x) are.1 live)
runs_key lap hand (suc n) k x bs acts ws left (some, sets, more, behind, is, entries, set, rest) live = ⊎_elim
    (λ (here : IsLive k x (row_of lap hand (take most bs))). key_front k most bs (row_key lap hand k x (take most bs) here))
    (λ (there : IsLive k x behind). key_behind k most bs (runs_key lap (hand + (bytes_of (take most bs) + log_len)) n k x (drop most bs) more behind left rest there))
    (live_either k x (row_of lap hand (take most bs)) behind (subst (IsLive k x) entries live))

-- ---- what was taken

abbrev none_key : Key
none_key = record { offset = 0; size = 0; birth = 0 }

abbrev key_in : Act → Key
key_in (Cleared k x) = k
key_in _ = none_key

abbrev place_in : Act → ℕ
place_in (Cleared k x) = x
place_in _ = 0

pub taken_dropped : (k : Key) (x : ℕ) (ls : List Live) (acts : List Act) → AreCleared ls acts → IsAmongActs (Cleared k x) acts → IsDropped k x ls
taken_dropped k x [] [] are among = among
taken_dropped k x (l ∷ ls) (Cleared j y ∷ acts) are (inl is) =
    let key : j ≡ k = ap (λ (a : Act). key_in a) is in
    let at : y ≡ x = ap (λ (a : Act). place_in a) is in
    inl (sym are.0.0 ∙ key, sym are.0.1 ∙ at)
taken_dropped k x (l ∷ ls) (Absent j y ∷ acts) are (inl is) = cc
taken_dropped k x (l ∷ ls) (Refused j y ∷ acts) are (inl is) = cc
taken_dropped k x (l ∷ ls) (Cleared j y ∷ acts) are (inr among) = inr (taken_dropped k x ls acts are.1 among)
taken_dropped k x (l ∷ ls) (Absent j y ∷ acts) are (inr among) = inr (taken_dropped k x ls acts are.1 among)
taken_dropped k x (l ∷ ls) (Refused j y ∷ acts) are (inr among) = inr (taken_dropped k x ls acts are.1 among)
taken_dropped k x [] (a ∷ acts) are among = absurd are
taken_dropped k x (l ∷ ls) [] are among = absurd are
taken_dropped k x (l ∷ ls) (Picked s keys ∷ acts) are among = absurd are
taken_dropped k x (l ∷ ls) (Unpicked s ∷ acts) are among = absurd are
taken_dropped k x (l ∷ ls) (Placed j y ∷ acts) are among = absurd are
taken_dropped k x (l ∷ ls) (Left j w ∷ acts) are among = absurd are

-- an act that takes a place is counted
pub taken_counted : (k : Key) (x : ℕ) (acts : List Act) → IsAmongActs (Cleared k x) acts → count_by is_cleared acts ≡ 0 → ⊥
taken_counted k x [] among none = among
taken_counted k x (Cleared j y ∷ acts) (inl is) none = let e : count_by is_cleared (Cleared j y ∷ acts) ≡ 1 + count_by is_cleared acts = sum_by-cons (λ z. cond {A = ℕ} (is_cleared z) 1 0) (Cleared j y) acts in omega arith
taken_counted k x (Cleared j y ∷ acts) (inr among) none = let e : count_by is_cleared (Cleared j y ∷ acts) ≡ 1 + count_by is_cleared acts = sum_by-cons (λ z. cond {A = ℕ} (is_cleared z) 1 0) (Cleared j y) acts in omega arith
taken_counted k x (Absent j y ∷ acts) (inl is) none = cc
taken_counted k x (Refused j y ∷ acts) (inl is) none = cc
taken_counted k x (Placed j y ∷ acts) (inl is) none = cc
taken_counted k x (Left j w ∷ acts) (inl is) none = cc
taken_counted k x (Picked s keys ∷ acts) (inl is) none = cc
taken_counted k x (Unpicked s ∷ acts) (inl is) none = cc
taken_counted k x (Absent j y ∷ acts) (inr among) none = taken_counted k x acts among none
taken_counted k x (Refused j y ∷ acts) (inr among) none = taken_counted k x acts among none
taken_counted k x (Placed j y ∷ acts) (inr among) none = taken_counted k x acts among none
taken_counted k x (Left j w ∷ acts) (inr among) none = taken_counted k x acts among none
taken_counted k x (Picked s keys ∷ acts) (inr among) none = taken_counted k x acts among none
taken_counted k x (Unpicked s ∷ acts) (inr among) none = taken_counted k x acts among none

pub none_settled : (k : Key) (x : ℕ) {old new : CursorState} {blocks : List Block} {clears settles : List Act} {end : FeedStop} → IsWritten old new blocks clears settles end → IsAmongActs (Cleared k x) settles → ⊥
none_settled k x {old} {new} {blocks} {clears} {settles} {end} w settle =
    let a = (runs-none w.begun.ring.lap w.begun.ring.hand w.ran.count blocks w.ran.sets w.ran.entries w.ran.left w.ran.runs).1 in
    let b = (left-none _ w.ran.left w.ran.leaves w.ran.lefts).1 in
    let c = cleared-append w.ran.sets w.ran.leaves in
    let e = ap (count_by is_cleared) w.ran.settled in
    taken_counted k x settles settle (omega arith)

pub none_left : (k : Key) (x : ℕ) {old new : CursorState} {blocks : List Block} {clears settles : List Act} {end : FeedStop} → IsUnwritten old new blocks clears settles end → IsAmongActs (Cleared k x) settles → ⊥
none_left k x {old} {new} {blocks} {clears} {settles} {end} u settle = taken_counted k x settles settle (left-none _ blocks settles u.lefts).1

given_left : (before : List Written) (a b : List Act) (k : Key) (x : ℕ) → WasGiven before a k x → WasGiven before (a ++ b) k x
given_left before a b k x (inl live) = inl live
given_left before a b k x (inr given) = inr (in_left (Placed k x) a b given)

module _ {C : Type 0} (m : Meanings C) (g : Config) where
  module _ (shard : ℕ) (old new : CursorState) (acts : List Act) (calls : List DeviceCall) (end : FeedStop) (p q : Place (Known C)) (knows : Knows g p) (did : DoesActs m g acts p q) where
    batch_from : FedBatch shard old new acts calls end → FromPlaces g acts old.ring.live new.ring.live q
    batch_from f k x live at = go f.written
      where
        again : DoesActs m g (Picked shard f.blocks ∷ (f.clears ++ f.settles)) p q
        again = subst (λ (l : List Act). DoesActs m g l p q) f.acts_are did

        own : IsAmongKeys k (keys_of f.blocks) → WasGiven old.ring.live acts k x
        own among = ⊎_elim
            (λ (there : place_seen g again.0 k ≡ Some x). let none = picked_none m g p again.0 knows shard f.blocks k again.1 among in cc)
            (λ (given : IsAmongActs (Placed k x) (f.clears ++ f.settles)). inr (subst (IsAmongActs (Placed k x)) (sym f.acts_are) (inr given)))
            (acts_takes m g (f.clears ++ f.settles) again.0 q (act_knows m g p again.0 knows (Picked shard f.blocks) again.1) again.2 k x at)

        go : IsWritten old new f.blocks f.clears f.settles end ⊎ IsUnwritten old new f.blocks f.clears f.settles end → WasGiven old.ring.live acts k x
        go (inr u) = inl (subst (λ (c : CursorState). IsLive k x c.ring.live) u.same live)
        go (inl w) = ⊎_elim
            (λ (kept : IsLive k x (filter (stays w.planned.plan) old.ring.live)). inl (kept_was w.planned.plan k x old.ring.live kept))
            (λ (entry : IsLive k x w.ran.entries). own (runs_key w.begun.ring.lap w.begun.ring.hand w.ran.count k x f.blocks w.ran.sets w.ran.entries w.ran.left w.ran.runs entry))
            (live_either k x (filter (stays w.planned.plan) old.ring.live) w.ran.entries (subst (IsLive k x) (live_after w) live))

    shard_from : FedShard shard old new acts calls end → FromPlaces g acts old.ring.live new.ring.live q
    shard_from (inl f) k x live at = inl (subst (λ (c : CursorState). IsLive k x c.ring.live) f.1 live)
    shard_from (inr (inl f)) k x live at = inl (subst (λ (c : CursorState). IsLive k x c.ring.live) f.1 live)
    shard_from (inr (inr f)) k x live at = batch_from f k x live at

    batch_own : FedBatch shard old new acts calls end → TakesOwn acts old.ring.live
    batch_own f k x among = go f.written (subst (IsAmongActs (Cleared k x)) f.acts_are among)
      where
        go : IsWritten old new f.blocks f.clears f.settles end ⊎ IsUnwritten old new f.blocks f.clears f.settles end → IsAmongActs (Cleared k x) (Picked shard f.blocks ∷ (f.clears ++ f.settles)) → WasGiven old.ring.live acts k x
        go w (inl is) = cc
        go (inl w) (inr more) = ⊎_elim
            (λ (clear : IsAmongActs (Cleared k x) f.clears). inl (dropped_was w.planned.plan k x old.ring.live (taken_dropped k x (map live_of (filter (falls w.planned.plan) old.ring.live)) f.clears w.cleared clear)))
            (λ (settle : IsAmongActs (Cleared k x) f.settles). absurd (none_settled k x w settle))
            (in_either (Cleared k x) f.clears f.settles more)
        go (inr u) (inr more) = ⊎_elim
            (λ (clear : IsAmongActs (Cleared k x) f.clears). absurd (subst (IsAmongActs (Cleared k x)) u.none clear))
            (λ (settle : IsAmongActs (Cleared k x) f.settles). absurd (none_left k x u settle))
            (in_either (Cleared k x) f.clears f.settles more)

    one_taken : (act : Act) (k : Key) (x : ℕ) → IsAmongActs (Cleared k x) (act ∷ []) → act ≡ Cleared k x
    one_taken act k x (inl is) = is
    one_taken act k x (inr none) = absurd none

    shard_own : FedShard shard old new acts calls end → TakesOwn acts old.ring.live
    shard_own (inl f) k x among = let is = one_taken (Picked shard []) k x (subst (IsAmongActs (Cleared k x)) f.0 among) in cc
    shard_own (inr (inl f)) k x among = let is = one_taken (Unpicked shard) k x (subst (IsAmongActs (Cleared k x)) f.0 among) in cc
    shard_own (inr (inr f)) k x among = batch_own f k x among

  -- ---- all shards

  module _ (a b : List Act) (old mid new : List Written) (r q : Place (Known C)) (knows : Knows g r) (did : DoesActs m g b r q) (first : FromPlaces g a old mid r) where
    from_then : FromPlaces g b mid new q → FromPlaces g (a ++ b) old new q
    from_then then k x live at = start (then k x live at)
      where
        start : WasGiven mid b k x → WasGiven old (a ++ b) k x
        start (inr given) = inr (in_right (Placed k x) a b given)
        start (inl live) = ⊎_elim
            (λ (there : place_seen g r k ≡ Some x). given_left old a b k x (first k x live there))
            (λ (given : IsAmongActs (Placed k x) b). inr (in_right (Placed k x) a b given))
            (acts_takes m g b r q knows did k x at)

    own_then : TakesOwn a old → TakesOwn b mid → TakesOwn (a ++ b) old
    own_then one then k x among = start (in_either (Cleared k x) a b among)
      where
        back : IsAmongActs (Cleared k x) b → WasGiven mid b k x → WasGiven old (a ++ b) k x
        back taken (inr given) = inr (in_right (Placed k x) a b given)
        back taken (inl live) = ⊎_elim
            (λ (there : place_seen g r k ≡ Some x). given_left old a b k x (first k x live there))
            (λ (given : IsAmongActs (Placed k x) b). inr (in_right (Placed k x) a b given))
            (acts_had m g b r q knows did k x taken)

        start : IsAmongActs (Cleared k x) a ⊎ IsAmongActs (Cleared k x) b → WasGiven old (a ++ b) k x
        start (inl here) = given_left old a b k x (one k x here)
        start (inr there) = back there (then k x there)

  pub fed_owns : (shard count : ℕ) (old new : CursorState) (acts : List Act) (calls : List DeviceCall) (end : FeedStop) (p q : Place (Known C)) → Knows g p → DoesActs m g acts p q → AreFed shard count old new acts calls end
      → FromPlaces g acts old.ring.live new.ring.live q × TakesOwn acts old.ring.live
  fed_owns shard zero old new acts calls end p q knows did fed =
      ((λ k x live at. inl (subst (λ (c : CursorState). IsLive k x c.ring.live) fed.1 live)), (λ k x among. absurd (subst (IsAmongActs (Cleared k x)) fed.0 among)))
  fed_owns shard (suc n) old new acts calls end p q knows did (inl ends) = (shard_from shard old new acts calls end p q knows did ends.1, shard_own shard old new acts calls end p q knows did ends.1)
  fed_owns shard (suc n) old new acts calls end p q knows did (inr (first, more, between, front, behind, is, asked, one, rest)) =
      let s = acts_split m g first more p q (subst (λ (l : List Act). DoesActs m g l p q) is did) in
      let then : Knows g s.0 = acts_knows m g first p s.0 knows s.1 in
      let from = shard_from shard old between first front stop.Done p s.0 knows s.1 one in
      let own = shard_own shard old between first front stop.Done p s.0 knows s.1 one in
      let tail = fed_owns (suc shard) n between new more behind end s.0 q then s.2 rest in
      subst (λ (l : List Act). FromPlaces g l old.ring.live new.ring.live q × TakesOwn l old.ring.live) (sym is)
      (from_then first more old.ring.live between.ring.live new.ring.live s.0 q then s.2 from tail.0, own_then first more old.ring.live between.ring.live new.ring.live s.0 q then s.2 from own tail.1)
