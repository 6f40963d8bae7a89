-- That a feed had written the block of each key at the place that it gave it: part by part, with the acts as they stand in what the feeder has seen.
use Rattle.std.proofs.Common.{◌≡◌, ◌⊎◌, ℕ, zero, suc, ◌+◌, true, false, IsTrue, List, [], ◌∷◌, ◌++◌, take, drop, Option, Some, None, inl, inr, refl, sym, ap, ◌∙◌, subst}
use Rattle.std.specs.Prelude.{◌&&◌, ◌||◌, is_none}
use Rattle.std.specs.Option.{option_and_then, option_map_or}
use Rattle.std.proofs.lemmas.Bool.{false≢true}
use Rattle.std.proofs.lemmas.List.{take-append-drop}
use Rattle.std.proofs.lemmas.Slice.Eq.{bytes_eq-Decides}
use Rattle.blk_ptr.specs.declared.digest.Digest.{Digest}
use Rattle.blk_ptr.specs.declared.key.Key.{Key}
use Rattle.blk_ptr.specs.Order.{key_eq}
use Rattle.blk_ptr.specs.State.{is_cached, is_ghost}
use Rattle.blk_ptr.proofs.Keys.{key_eq-same}
use Rattle.vdev_io.specs.Calls.{Asked, DeviceCall, Gave, Write, answered}
use Rattle.arc_lists.proofs.Standing.{and_left, and_right}
use Rattle.arc_core.specs.declared.config.Config.{Config}
use Rattle.arc_core.specs.declared.entry.Entry.{Entry}
use Rattle.arc_core.specs.declared.entry.Picked.{Picked as Pick_of}
use Rattle.arc_core.specs.declared.event.Event.TheVariants as event
use Rattle.arc_core.specs.declared.event.Why.{Why}
use Rattle.arc_core.specs.Changes.{pick_of, without_pick}
use Rattle.arc_core.specs.Digests.{same_digest}
use Rattle.arc_core.specs.PlainShard.{PlainShard, entry_is, entry_of, is_at_rest, is_number}
use Rattle.arc_core.specs.Step.{is_writing, legal, may_be_placed, may_set}
use Rattle.turn_table.specs.Places.{Place}
use Rattle.arc_table.specs.declared.feeds.Cleared.TheVariants as answer
use Rattle.arc_table.specs.declared.picks.Picked.{Picked as Block}
use Rattle.arc_table.specs.declared.view.Known.{Known}
use Rattle.arc_table.specs.Both.{Does}
use Rattle.arc_table.specs.Geometry.{shard_turn}
use Rattle.arc_table.specs.Items.{Meanings}
use Rattle.arc_table.specs.feeder.Listing.{IsFeederOf, PicksAre, picks_of}
use Rattle.arc_table.specs.feeder.Picking.{ArePicksOf, IsBlockOf, nth_shard_turn}
use Rattle.arc_table.proofs.feeder.PicksAfter.{clear_picks, leave_picks, picks_found, same_picks, set_picks}
use Rattle.l2_log.specs.Rules.{log_len}
use Rattle.l2_ring.specs.declared.live.Live.{Live}
use Rattle.l2_ring.specs.declared.live.Written.{Written}
use Rattle.l2_dev.specs.Asking.{header_calls, log_calls}
use Rattle.l2_dev.specs.declared.report.FeedStop.{FeedStop}
use Rattle.l2_dev.specs.declared.report.FeedStop.TheVariants as stop
use Rattle.l2_dev.specs.Cursor.{CursorState}
use Rattle.l2_feed.specs.Acts.{Act, Absent, Cleared, DoesAct, DoesActs, Left, Picked, Placed, Refused, Unpicked}
use Rattle.l2_feed.specs.Asking.{AskRuns, AsksRun, BatchCalls, all_gave, puts_of}
use Rattle.l2_feed.specs.Runs.{AreCleared, AreLeft, AreRuns, AreSet, bytes_of, most}
use Rattle.l2_feed.specs.Shape.{AreFed, FedBatch, FedShard, IsUnwritten, IsWritten, WrittenCalls}
use Rattle.l2_feed.specs.Told.{AreTold, IsAmongCalls}
use Rattle.l2_feed.proofs.Keeping.{acts_split}
use Rattle.l2_feed.proofs.Settling.{first_gone, first_own}
use Rattle.l2_feed.proofs.Stepped.{Knows}
use Rattle.l2_feed.proofs.Taking.{act_knows, acts_knows}
use Rattle.l2_feed.proofs.Telling.{act_told, told_none, told_then}

-- ---- calls

-- each of these calls is among those
abbrev pub AreIn : List DeviceCall → List DeviceCall → Type 0
AreIn some calls = (c : DeviceCall) → IsAmongCalls c some → IsAmongCalls c calls

in_front : (a b : List DeviceCall) → AreIn a (a ++ b)
in_front [] b c among = absurd among
in_front (x ∷ a) b c (inl is) = inl is
in_front (x ∷ a) b c (inr among) = inr (in_front a b c among)

in_behind : (a b : List DeviceCall) → AreIn b (a ++ b)
in_behind [] b c among = among
in_behind (x ∷ a) b c among = inr (in_behind a b c among)

gave_front : (a b : List Asked) → AreIn (all_gave a) (all_gave (a ++ b))
gave_front [] b c among = absurd among
gave_front (x ∷ a) b c (inl is) = inl is
gave_front (x ∷ a) b c (inr among) = inr (gave_front a b c among)

gave_behind : (a b : List Asked) → AreIn (all_gave b) (all_gave (a ++ b))
gave_behind [] b c among = among
gave_behind (x ∷ a) b c among = inr (gave_behind a b c among)

-- the blocks of a run are among what it asks for
run_in : (cursor : CursorState) (run : List Block) (asked : List Asked) → AsksRun cursor run asked → AreIn (all_gave (puts_of cursor.ring.hand run)) (all_gave asked)
run_in cursor run asked asks c among =
    let log : IsAmongCalls c (all_gave asks.front) =
    subst (λ (l : List Asked). IsAmongCalls c (all_gave l)) (sym asks.log.asked_are) (gave_front (puts_of cursor.ring.hand run) (log_calls (cursor.ring.hand + bytes_of run) asks.log.log.bytes) c among) in
    subst (λ (l : List Asked). IsAmongCalls c (all_gave l)) (sym asks.asked_are) (gave_front asks.front (header_calls asks.sector) c log)

-- ---- one key that is set

digest_is : (a b : Option Digest) → same_digest a b ≡ true → a ≡ b
digest_is None None same = refl
digest_is None (Some b) same = absurd (false≢true same)
digest_is (Some a) None same = absurd (false≢true same)
digest_is (Some a) (Some b) same = ap (λ (bytes : List ℕ). Some (record { 0 = bytes })) ((bytes_eq-Decides a.0 b.0).0 same)

-- an entry that may be placed has the digest of the pick
placed_digest : (pick : Pick_of) (o : Option Entry) → option_map_or (may_be_placed pick) o false ≡ true → option_and_then (λ e. e.digest) o ≡ pick.digest
placed_digest pick None may = absurd (false≢true may)
placed_digest pick (Some e) may =
    let same : same_digest e.digest pick.digest && is_none e.place ≡ true = and_right (is_at_rest e) (same_digest e.digest pick.digest && is_none e.place) (and_right (is_cached e.state || is_ghost e.state) _ may) in
    digest_is e.digest pick.digest (and_left (same_digest e.digest pick.digest) (is_none e.place) same)

module _ (g : Config) (turn : ℕ) (k : Key) (s : PlainShard) (b : Block) (bs : List Block) (key : b.key ≡ k) where
  first_block : (picks : List Pick_of) → ArePicksOf g turn picks (b ∷ bs) → option_map_or (λ pick. entry_is (may_be_placed pick) k s) (pick_of k picks) false ≡ true → IsBlockOf k s b.block.value
  first_block [] are may = absurd are
  first_block (x ∷ xs) are may =
      let here : key_eq x.key k ≡ true = ap (λ (j : Key). key_eq j k) (sym are.0.key ∙ key) ∙ key_eq-same k in
      record {
        digest = placed_digest x (entry_of k s) (rw here at may) ∙ are.0.digest;
        size = are.0.size ∙ ap (λ (j : Key). j.size) (sym are.0.key ∙ key);
      }

module _ {C : Type 0} (m : Meanings C) (g : Config) (calls : List DeviceCall) where
  -- what the party lists of the shard of this turn are the picks of these blocks
  abbrev Lists : (turn : ℕ) → List Block → Place (Known C) → Type 0
  Lists turn blocks p = ArePicksOf g turn (picks_of turn p) blocks

  abbrev feeder_of : (p : Place (Known C)) → Knows g p → IsFeederOf g p
  feeder_of p knows = (knows.valid, knows.config, knows.feeder)

  same_number : (p r : Place (Known C)) → Knows g p → Knows g r → r.number ≡ p.number
  same_number p r knows then = then.feeder ∙ sym knows.feeder

  module _ (turn : ℕ) (b : Block) (bs : List Block) (k : Key) (p r : Place (Known C)) (knows : Knows g p) (key : b.key ≡ k) (lists : Lists turn (b ∷ bs) p) where
    own : turn ≡ shard_turn g k
    own = first_own g turn b bs (picks_of turn p) lists ∙ ap (shard_turn g) key

    -- the key leaves the list
    list_less : PicksAre (shard_turn g k) (without_pick k (picks_of (shard_turn g k) p)) p r → Lists turn bs r
    list_less are =
        let now : picks_of turn r ≡ without_pick b.key (picks_of turn p) =
        subst (λ (t : ℕ). picks_of t r ≡ without_pick k (picks_of t p)) (sym own) are.here ∙ ap (λ (j : Key). without_pick j (picks_of turn p)) (sym key) in
        subst (λ (l : List Pick_of). ArePicksOf g turn l bs) (sym now) (first_gone g turn b bs (picks_of turn p) lists)

    set_block : (x : ℕ) (d : Does m g k (event.Set p.number k x ∷ []) p r) → IsBlockOf k d.before.now b.block.value
    set_block x d =
        let s : PlainShard = d.before.now in
        let ok : IsTrue (legal s (event.Set p.number k x)) = and_left (legal s (event.Set p.number k x)) true d.makes.legal in
        let may : may_set k s ≡ true = and_right (is_writing s.phase) (may_set k s) (and_right (is_number p.number) _ ok) in
        let listed : s.picked ≡ picks_of turn p = picks_found m g k (event.Set p.number k x ∷ []) p r (feeder_of p knows) d ∙ ap (λ (t : ℕ). picks_of t p) (sym own) in
        first_block g turn k s b bs key (picks_of turn p) lists (subst (λ (l : List Pick_of). option_map_or (λ pick. entry_is (may_be_placed pick) k s) (pick_of k l) false ≡ true) listed may)

    placed_one : (x : ℕ) → DoesAct m g (Placed k x) p r → IsAmongCalls (answered Gave (Write x b.block.value)) calls → AreTold g calls (Placed k x ∷ []) p r × Lists turn bs r
    placed_one x d wrote = (
      act_told m g p r knows calls (Placed k x) d (record { bytes = b.block.value; block = set_block x d; call = wrote }),
      list_less (set_picks m g k p r (feeder_of p knows) x true d),
    )

    left_one : (w : Why) → DoesAct m g (Left k w) p r → AreTold g calls (Left k w ∷ []) p r × Lists turn bs r
    left_one w d = (act_told m g p r knows calls (Left k w) d tt, list_less (leave_picks m g k p r (feeder_of p knows) w (w, inl refl, d)))

  -- ---- lists of acts

  -- one act, and then others
  act_then : (act : Act) (acts : List Act) (p r q : Place (Known C)) → Knows g p → DoesAct m g act p r → AreTold g calls (act ∷ []) p r → AreTold g calls acts r q → AreTold g calls (act ∷ acts) p q
  act_then act acts p r q knows d one rest = told_then g calls (act ∷ []) acts p r q (same_number p r knows (act_knows m g p r knows act d)) one rest

  -- places that are taken
  clears_told : (turn : ℕ) (blocks : List Block) (ls : List Live) (acts : List Act) (p q : Place (Known C)) → Knows g p → Lists turn blocks p → AreCleared ls acts → DoesActs m g acts p q → AreTold g calls acts p q × Lists turn blocks q
  clears_told turn blocks [] [] p q knows lists are did = (told_none g calls p q did, subst (Lists turn blocks) (sym did) lists)
  clears_told turn blocks (l ∷ ls) (Cleared k x ∷ acts) p q knows lists are (r, d, more) =
      let rest = clears_told turn blocks ls acts r q (act_knows m g p r knows (Cleared k x) d) (subst (λ (ps : List Pick_of). ArePicksOf g turn ps blocks) (sym (clear_picks m g k p r (feeder_of p knows) x answer.Done d turn)) lists) are.1 more in
      (act_then (Cleared k x) acts p r q knows d (act_told m g p r knows calls (Cleared k x) d tt) rest.0, rest.1)
  clears_told turn blocks (l ∷ ls) (Absent k x ∷ acts) p q knows lists are (r, d, more) =
      let rest = clears_told turn blocks ls acts r q (act_knows m g p r knows (Absent k x) d) (subst (λ (ps : List Pick_of). ArePicksOf g turn ps blocks) (sym (clear_picks m g k p r (feeder_of p knows) x (answer.Not d.0) d.1 turn)) lists) are.1 more in
      (act_then (Absent k x) acts p r q knows d (act_told m g p r knows calls (Absent k x) d tt) rest.0, rest.1)
  clears_told turn blocks (l ∷ ls) (Refused k x ∷ acts) p q knows lists are (r, d, more) =
      let rest = clears_told turn blocks ls acts r q (act_knows m g p r knows (Refused k x) d) (subst (λ (ps : List Pick_of). ArePicksOf g turn ps blocks) (sym (same_picks m g k [] p r (feeder_of p knows) d refl turn)) lists) are.1 more in
      (act_then (Refused k x) acts p r q knows d (act_told m g p r knows calls (Refused k x) d tt) rest.0, rest.1)
  clears_told turn blocks [] (a ∷ acts) p q knows lists are did = absurd are
  clears_told turn blocks (l ∷ ls) [] p q knows lists are did = absurd are
  clears_told turn blocks (l ∷ ls) (Picked shard keys ∷ acts) p q knows lists are did = absurd are
  clears_told turn blocks (l ∷ ls) (Unpicked shard ∷ acts) p q knows lists are did = absurd are
  clears_told turn blocks (l ∷ ls) (Placed k x ∷ acts) p q knows lists are did = absurd are
  clears_told turn blocks (l ∷ ls) (Left k w ∷ acts) p q knows lists are did = absurd are

  -- keys that are left
  lefts_told : (reason : Why) (bs : List Block) (acts : List Act) (p q : Place (Known C)) → Knows g p → AreLeft reason bs acts → DoesActs m g acts p q → AreTold g calls acts p q
  lefts_told reason [] [] p q knows are did = told_none g calls p q did
  lefts_told reason (b ∷ bs) (Left k w ∷ acts) p q knows are (r, d, more) =
      act_then (Left k w) acts p r q knows d (act_told m g p r knows calls (Left k w) d tt) (lefts_told reason bs acts r q (act_knows m g p r knows (Left k w) d) are.1 more)
  lefts_told reason [] (a ∷ acts) p q knows are did = absurd are
  lefts_told reason (b ∷ bs) [] p q knows are did = absurd are
  lefts_told reason (b ∷ bs) (Picked shard keys ∷ acts) p q knows are did = absurd are
  lefts_told reason (b ∷ bs) (Unpicked shard ∷ acts) p q knows are did = absurd are
  lefts_told reason (b ∷ bs) (Cleared k x ∷ acts) p q knows are did = absurd are
  lefts_told reason (b ∷ bs) (Absent k x ∷ acts) p q knows are did = absurd are
  lefts_told reason (b ∷ bs) (Refused k x ∷ acts) p q knows are did = absurd are
  lefts_told reason (b ∷ bs) (Placed k x ∷ acts) p q knows are did = absurd are

  -- keys of a run that was written
  sets_told : (turn place : ℕ) (bs rest : List Block) (acts : List Act) (p q : Place (Known C)) → Knows g p → Lists turn (bs ++ rest) p → AreSet place bs acts → AreIn (all_gave (puts_of place bs)) calls → DoesActs m g acts p q
      → AreTold g calls acts p q × Lists turn rest q
  sets_told turn place [] rest [] p q knows lists are wrote did = (told_none g calls p q did, subst (Lists turn rest) (sym did) lists)
  sets_told turn place (b ∷ bs) rest (Placed k x ∷ acts) p q knows lists are wrote (r, d, more) =
      let here : IsAmongCalls (answered Gave (Write x b.block.value)) calls = subst (λ (y : ℕ). IsAmongCalls (answered Gave (Write y b.block.value)) calls) (sym are.0.1) (wrote (answered Gave (Write place b.block.value)) (inl refl)) in
      let one = placed_one turn b (bs ++ rest) k p r knows (sym are.0.0) lists x d here in
      let then = sets_told turn (place + b.key.size) bs rest acts r q (act_knows m g p r knows (Placed k x) d) one.1 are.1 (λ c among. wrote c (inr among)) more in
      (act_then (Placed k x) acts p r q knows d one.0 then.0, then.1)
  sets_told turn place (b ∷ bs) rest (Left k w ∷ acts) p q knows lists are wrote (r, d, more) =
      let one = left_one turn b (bs ++ rest) k p r knows (sym are.0.0) lists w d in
      let then = sets_told turn (place + b.key.size) bs rest acts r q (act_knows m g p r knows (Left k w) d) one.1 are.1 (λ c among. wrote c (inr among)) more in
      (act_then (Left k w) acts p r q knows d one.0 then.0, then.1)
  sets_told turn place [] rest (a ∷ acts) p q knows lists are wrote did = absurd are
  sets_told turn place (b ∷ bs) rest [] p q knows lists are wrote did = absurd are
  sets_told turn place (b ∷ bs) rest (Picked shard keys ∷ acts) p q knows lists are wrote did = absurd are
  sets_told turn place (b ∷ bs) rest (Unpicked shard ∷ acts) p q knows lists are wrote did = absurd are
  sets_told turn place (b ∷ bs) rest (Cleared k x ∷ acts) p q knows lists are wrote did = absurd are
  sets_told turn place (b ∷ bs) rest (Absent k x ∷ acts) p q knows lists are wrote did = absurd are
  sets_told turn place (b ∷ bs) rest (Refused k x ∷ acts) p q knows lists are wrote did = absurd are

  -- some acts, and then others
  both_told : (a b : List Act) (p r q : Place (Known C)) → Knows g p → DoesActs m g a p r → AreTold g calls a p r → (Knows g r → AreTold g calls b r q) → AreTold g calls (a ++ b) p q
  both_told a b p r q knows did one rest = let then = acts_knows m g a p r knows did in told_then g calls a b p r q (same_number p r knows then) one (rest then)

  -- run after run
  runs_told : (turn lap hand count : ℕ) (blocks : List Block) (acts : List Act) (ws : List Written) (left : List Block) (old now : CursorState) (asked : List Asked) (p q : Place (Known C)) → Knows g p → Lists turn blocks p
      → AreRuns lap hand count blocks acts ws left → old.ring.hand ≡ hand → AskRuns count blocks old now asked → AreIn (all_gave asked) calls → DoesActs m g acts p q → AreTold g calls acts p q
  runs_told turn lap hand zero blocks acts ws left old now asked p q knows lists are at asks wrote did =
      subst (λ (l : List Act). AreTold g calls l p q) (sym are.0) (told_none g calls p q (subst (λ (l : List Act). DoesActs m g l p q) are.0 did))
  runs_told turn lap hand (suc n) blocks acts ws left old now asked p q knows lists (some, sets, more, behind, is, entries, set, rest) at (next, first, later, asked_are, put, asks, others) wrote did =
      let run : List Block = take most blocks in
      let inside : AreIn (all_gave (first ++ later)) calls = subst (λ (l : List Asked). AreIn (all_gave l) calls) asked_are wrote in
      let puts : AreIn (all_gave (puts_of hand run)) calls =
      λ c among. inside c (gave_front first later c (run_in old run first asks c (subst (λ (x : ℕ). IsAmongCalls c (all_gave (puts_of x run))) (sym at) among))) in
      let s = acts_split m g sets more p q (subst (λ (l : List Act). DoesActs m g l p q) is did) in
      let one = sets_told turn hand run (drop most blocks) sets p s.0 knows (subst (λ (bs : List Block). Lists turn bs p) (sym (take-append-drop most blocks)) lists) set puts s.1 in
      let hand_then : next.ring.hand ≡ hand + (bytes_of run + log_len) = put.hand ∙ ap (λ (x : ℕ). x + (bytes_of run + log_len)) at in
      subst (λ (l : List Act). AreTold g calls l p q) (sym is)
      (both_told sets more p s.0 q knows s.1 one.0
      (λ then. runs_told turn lap (hand + (bytes_of run + log_len)) n (drop most blocks) more behind left next now later s.0 q then one.1 rest hand_then others (λ c among. inside c (gave_behind first later c among)) s.2))

  -- ---- a shard

  module _ (shard : ℕ) (old new : CursorState) (acts : List Act) (own_calls : List DeviceCall) (end : FeedStop) (p q : Place (Known C)) (knows : Knows g p) (did : DoesActs m g acts p q) (within : AreIn own_calls calls) where
    -- what the runs of a batch asked for, and that it is among the calls
    abbrev RunsIn : (begun : CursorState) → (count : ℕ) → List Block → Type 0
    RunsIn begun count blocks = (now : CursorState) × (asked : List Asked) × AskRuns count blocks begun now asked × AreIn (all_gave asked) calls

    runs_in : (begun : CursorState) (count : ℕ) (blocks : List Block) → BatchCalls begun blocks count end own_calls → RunsIn begun count blocks
    runs_in begun count blocks (inl failed) = (begun, [], subst (λ (n : ℕ). AskRuns n blocks begun begun []) (sym failed.1) (refl, refl), (λ c among. absurd among))
    runs_in begun count blocks (inr (asked, more, header, runs, is)) = (
      runs.now,
      runs.asked,
      runs.whole,
      (λ c among. within c (subst (IsAmongCalls c) (sym is) (in_behind (all_gave asked) more c (subst (IsAmongCalls c) (sym runs.calls_are) (in_front (all_gave runs.asked) runs.last c among))))),
    )

    batch_told : FedBatch shard old new acts own_calls end → AreTold g calls acts p q
    batch_told f = subst (λ (l : List Act). AreTold g calls l p q) (sym f.acts_are)
        (act_then (Picked shard f.blocks) (f.clears ++ f.settles) p all.0 q knows all.1 (act_told m g p all.0 knows calls (Picked shard f.blocks) all.1 tt) (go f.written f.asks))
      where
        all : DoesActs m g (Picked shard f.blocks ∷ (f.clears ++ f.settles)) p q
        all = subst (λ (l : List Act). DoesActs m g l p q) f.acts_are did

        then : Knows g all.0
        then = act_knows m g p all.0 knows (Picked shard f.blocks) all.1

        lists : Lists (nth_shard_turn g shard) f.blocks all.0
        lists = subst (λ (bs : List Block). Lists (nth_shard_turn g shard) bs all.0) all.1.3 all.1.2.blocks

        go : (w : IsWritten old new f.blocks f.clears f.settles end ⊎ IsUnwritten old new f.blocks f.clears f.settles end) → WrittenCalls w own_calls → AreTold g calls (f.clears ++ f.settles) all.0 q
        go (inl w) asks =
            let s = acts_split m g f.clears f.settles all.0 q all.2 in
            let one = clears_told (nth_shard_turn g shard) f.blocks _ f.clears all.0 s.0 then lists w.cleared s.1 in
            let t = acts_split m g w.ran.sets w.ran.leaves s.0 q (subst (λ (l : List Act). DoesActs m g l s.0 q) w.ran.settled s.2) in
            let r = runs_in w.begun w.ran.count f.blocks asks in
            both_told f.clears f.settles all.0 s.0 q then s.1 one.0
            (λ at_s. subst (λ (l : List Act). AreTold g calls l s.0 q) (sym w.ran.settled)
            (both_told w.ran.sets w.ran.leaves s.0 t.0 q at_s t.1
            (runs_told (nth_shard_turn g shard) w.begun.ring.lap w.begun.ring.hand w.ran.count f.blocks w.ran.sets w.ran.entries w.ran.left w.begun r.0 r.1 s.0 t.0 at_s one.1 w.ran.runs refl r.2 r.3 t.1)
            (λ at_t. lefts_told _ w.ran.left w.ran.leaves t.0 q at_t w.ran.lefts t.2)))
        go (inr u) asks =
            let s = acts_split m g f.clears f.settles all.0 q all.2 in
            let none = told_none g calls all.0 s.0 (subst (λ (l : List Act). DoesActs m g l all.0 s.0) u.none s.1) in
            both_told f.clears f.settles all.0 s.0 q then s.1 (subst (λ (l : List Act). AreTold g calls l all.0 s.0) (sym u.none) none) (λ at_s. lefts_told _ f.blocks f.settles s.0 q at_s u.lefts s.2)

    -- one act alone, which gives no place
    alone_told : (act : Act) → acts ≡ act ∷ [] → ((r : Place (Known C)) (d : DoesAct m g act p r) → AreTold g calls (act ∷ []) p r) → AreTold g calls acts p q
    alone_told act is told =
        let all : DoesActs m g (act ∷ []) p q = subst (λ (l : List Act). DoesActs m g l p q) is did in
        subst (λ (l : List Act). AreTold g calls l p q) (sym is) (act_then act [] p all.0 q knows all.1 (told all.0 all.1) (told_none g calls all.0 q all.2))

    shard_told : FedShard shard old new acts own_calls end → AreTold g calls acts p q
    shard_told (inl f) = alone_told (Picked shard []) f.0 (λ r d. act_told m g p r knows calls (Picked shard []) d tt)
    shard_told (inr (inl f)) = alone_told (Unpicked shard) f.0 (λ r d. act_told m g p r knows calls (Unpicked shard) d tt)
    shard_told (inr (inr f)) = batch_told f

  -- ---- all shards

  pub fed_told : (shard count : ℕ) (old new : CursorState) (acts : List Act) (own_calls : List DeviceCall) (end : FeedStop) (p q : Place (Known C)) → Knows g p → DoesActs m g acts p q → AreFed shard count old new acts own_calls end → AreIn own_calls calls
      → AreTold g calls acts p q
  fed_told shard zero old new acts own_calls end p q knows did fed within =
      subst (λ (l : List Act). AreTold g calls l p q) (sym fed.0) (told_none g calls p q (subst (λ (l : List Act). DoesActs m g l p q) fed.0 did))
  fed_told shard (suc n) old new acts own_calls end p q knows did (inl ends) within = shard_told shard old new acts own_calls end p q knows did within ends.1
  fed_told shard (suc n) old new acts own_calls end p q knows did (inr (first, more, between, front, behind, is, asked, one, rest)) within =
      let s = acts_split m g first more p q (subst (λ (l : List Act). DoesActs m g l p q) is did) in
      let inside : AreIn (front ++ behind) calls = subst (λ (l : List DeviceCall). AreIn l calls) asked within in
      subst (λ (l : List Act). AreTold g calls l p q) (sym is)
      (both_told first more p s.0 q knows s.1 (shard_told shard old between first front stop.Done p s.0 knows s.1 (λ c among. inside c (in_front front behind c among)) one)
      (λ then. fed_told (suc shard) n between new more behind end s.0 q then s.2 rest (λ c among. inside c (in_behind front behind c among))))
