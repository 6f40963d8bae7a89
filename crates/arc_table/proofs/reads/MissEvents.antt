-- A read of a block that isn't cached begins: the party has just taken the key's bucket and its shard.
use Rattle.std.proofs.Common.{◌≡◌, if◌then◌else◌, ℕ, ◌<◌, List, [], ◌∷◌, ◌++◌, length, Bool, true, false, Option, Some, None, refl, sym, ap, ◌∙◌, subst, inl, inr, arith, append-nil, append_assoc, eq-eqb}
use Rattle.std.specs.Prelude.{IsTrue, IsSome, ◌&&◌, is_some}
use Rattle.std.specs.Option.{option_and_then, option_map, option_map_or}
use Rattle.std.proofs.lemmas.Bool.Decides.{nat_tests}
use Rattle.blk_ptr.specs.declared.key.Key.{Key}
use Rattle.blk_ptr.specs.Key.{is_well_formed}
use Rattle.blk_ptr.specs.declared.state.State.TheVariants.{Anon, Mfu}
use Rattle.blk_ptr.specs.Order.{key_eq}
use Rattle.blk_ptr.proofs.Keys.{key_eq-same, key_eq-sym}
use Rattle.arc_lists.proofs.Standing.{and_right, both as both_true}
use Rattle.arc_core.specs.declared.config.Config.{Config}
use Rattle.arc_core.specs.Config.{IsConfig}
use Rattle.arc_core.specs.declared.entry.Entry.{Entry}
use Rattle.arc_core.specs.declared.event.Event.{Event}
use Rattle.arc_core.specs.declared.event.Event.TheVariants.{Miss}
use Rattle.arc_core.specs.declared.shard.EntryView.{EntryView}
use Rattle.arc_core.specs.Operations.{event_key, is_about}
use Rattle.arc_core.specs.PlainShard.{PlainShard, entry_of, is_number, is_resident}
use Rattle.arc_core.specs.Replay.{is_legal_history, replay}
use Rattle.arc_core.specs.ShardLog.{IsReplayed, Makes as makes_one, ShardLog}
use Rattle.arc_core.specs.Step.{after, entry_to_read, is_missing, legal}
use Rattle.arc_core.specs.View.{view_of}
use Rattle.arc_core.proofs.Others.{own-entry}
use Rattle.arc_core.proofs.Stepping.{replay-append}
use Rattle.hash_chain.specs.Chain.{Chain, IsWith, header_at}
use Rattle.hash_chain.specs.declared.header.Header.{Header}
use Rattle.turn_table.specs.Board.{IsAmong}
use Rattle.turn_table.specs.Places.{Place}
use Rattle.arc_table.specs.declared.about.About.{About}
use Rattle.arc_table.specs.declared.both.Both.{Both}
use Rattle.arc_table.specs.declared.scan.Scan.{Scan}
use Rattle.arc_table.specs.declared.item.Item.TheVariants as item
use Rattle.arc_table.specs.declared.view.Known.{Known}
use Rattle.arc_table.specs.Both.{Makes, TakesBoth}
use Rattle.arc_table.specs.Cache.{Cache, IsPartyOf}
use Rattle.arc_table.specs.scans.Ending.{GivesAll, HasMade, MakesRoomy}
use Rattle.arc_table.specs.scans.Evicting.{HasScanned, KeepsBoth, MayBegin}
use Rattle.arc_table.specs.Fronts.{item_at, list_at}
use Rattle.arc_table.specs.Geometry.{IsBucket, bucket_turn, parties_of, shard_turn}
use Rattle.arc_table.specs.pact.Headed.{IsHead, Says}
use Rattle.arc_table.specs.InHand.{buckets_of, made_since}
use Rattle.arc_table.specs.Items.{Meanings}
use Rattle.arc_table.specs.Making.{IsMade, IsTaken}
use Rattle.arc_table.specs.scans.Scanning.{takes_room, AllPairs, ArePasses, IsBucketOf, MayScan, Scans, after_scan, pairs_of}
use Rattle.arc_table.specs.ShardGiving.{IsActor, IsGivenShard}
use Rattle.arc_table.specs.scans.Sparing.{turns_in}
use Rattle.arc_table.specs.TableLaws.{item_else, item_here, list_else, list_here}
use Rattle.arc_table.proofs.OneEvent.{made_is, none_given}
use Rattle.arc_table.proofs.Ranges.{bucket_range, shard_range}
use Rattle.arc_table.proofs.Reached.{bucket_below, fresh, heads, number_below, own_entries, own_headers, reached, sound_log}
use Rattle.arc_table.proofs.Rows.{same_shard}
use Rattle.arc_table.proofs.scans.Scans.{replayed_more, scan_number, won_about}

-- ---- the party may scan

module _ {C : Type 0} (m : Meanings C) (g : Config) (k : Key) (b : Both) (q : Place (Known C)) (t : IsTaken m g k b q) (same : q.own.about.config ≡ g) (valid : IsConfig g) where
  chain : Chain
  chain = b.hand.own.bucket

  from_config : t.from.own.about.config ≡ g
  from_config = ap (λ (a : About). a.config) (sym (reached m g k b.hand.own.bucket b.shard t.from q t.takes).about) ∙ same

  may_here : ((j : ℕ) → IsAmong j q.held → IsBucket g j → j ≡ bucket_turn g k) → MayScan g (shard_turn g k) ((bucket_turn g k, b.hand.own.bucket) ∷ []) b.shard q
  may_here others =
      let r = reached m g k b.hand.own.bucket b.shard t.from q t.takes in record {
        config = same;
        number = number_below m g k b.hand.own.bucket b.shard t.from q t.takes from_config valid;
        range = shard_range g k valid;
        among = subst (IsAmong (shard_turn g k)) (sym r.held) (inl refl);
        recorded = ap (item_at (shard_turn g k)) r.records ∙ item_here (shard_turn g k) (item.Shard b.shard) ((bucket_turn g k, item.Bucket b.hand.own.bucket) ∷ t.from.own.records);
        listed = ap (list_at (shard_turn g k)) r.listed ∙ list_here (shard_turn g k) [] ((bucket_turn g k, []) ∷ t.from.own.listed);
        under = ap Rattle.arc_table.specs.Views.under_of r.records;
        sound = sound_log m g k b.hand.own.bucket b.shard t.from q t.takes from_config valid;
        entries = own_entries m g k b.hand.own.bucket b.shard t.from q t.takes from_config valid;
        others = λ j held bucket. subst (λ (x : Bool). IsSome (if x then Some b.hand.own.bucket else None)) (sym (eq-eqb j (bucket_turn g k) (others j held bucket))) refl;
        held = (subst (IsAmong (bucket_turn g k)) (sym r.held) (inr (inl refl)), tt);
        first_known = (
          (
            is_there (ap (item_at (bucket_turn g k)) r.records ∙ (item_else (shard_turn g k) (bucket_turn g k) (item.Shard b.shard) ((bucket_turn g k, item.Bucket b.hand.own.bucket) ∷ t.from.own.records) (bucket_below g k valid)
                ∙ item_here (bucket_turn g k) (item.Bucket b.hand.own.bucket) t.from.own.records)),
            ap (list_at (bucket_turn g k)) r.listed ∙ (list_else (shard_turn g k) (bucket_turn g k) ([]) ((bucket_turn g k, []) ∷ t.from.own.listed) (bucket_below g k valid) ∙ list_here (bucket_turn g k) [] t.from.own.listed),
          ),
          tt,
        );
        buckets = (
          record {
            range = bucket_range g k valid;
            shard = λ j is. same_shard g k j valid (sym is);
            heads = λ j is. heads m g k b.hand.own.bucket b.shard t.from q t.takes from_config valid j is;
            own = λ j h there. own_headers m g k b.hand.own.bucket b.shard t.from q t.takes from_config valid j h there;
          },
          tt,
        );
        fresh = fresh m g k b.hand.own.bucket b.shard t.from q t.takes from_config valid;
      }
    where
      is_there : {X : Type 0} {o : Option X} {x : X} → o ≡ Some x → IsSome o
      is_there {X} {o} {x} e = subst (λ (z : Option X). IsSome z) (sym e) refl

  pub may_taken : ((j : ℕ) → IsAmong j q.held → IsBucket g j → j ≡ bucket_turn g k) → MayBegin g b q
  may_taken others = subst (λ (x : ℕ × ℕ × ShardLog). MayScan g x.0 ((x.1, b.hand.own.bucket) ∷ []) x.2 q) (λ z. (sym t.kind.turn z, sym t.kind.own z, sym t.new z)) (may_here others)

  -- ---- memory was refused

  pub none_roomier : (back : Both) → KeepsBoth b back → back.hand.own ≡ b.hand.own → IsMade m g k (made_since back.hand.before.value back.shard) back q
  none_roomier back keeps own =
      let before : back.hand.before.value ≡ b.shard = ap (λ x. x.value) keeps.before ∙ t.new in
      let none : made_since back.hand.before.value back.shard ≡ [] = made_is back.hand.before.value back.shard [] (keeps.history ∙ (ap (λ (l : ShardLog). l.history) (sym before) ∙ sym (append-nil back.hand.before.value.history))) in
      let give = none_given m g k b.hand.own.bucket b.shard t.from q t.takes from_config valid back.shard keeps.now keeps.history keeps.opening in
      subst (λ (es : List Event). IsMade m g k es back q) (sym none) record {
        kind = record { valid = valid; own = keeps.own ∙ t.kind.own; turn = keeps.turn ∙ t.kind.turn; alone = keeps.victims ∙ t.kind.alone };
        from = t.from;
        chain = b.hand.own.bucket;
        takes = subst (λ (l : ShardLog). TakesBoth m g k b.hand.own.bucket l t.from q) (sym before) t.takes;
        legal = refl;
        now = keeps.now ∙ ap (λ (l : ShardLog). l.now) (sym before);
        history = keeps.history ∙ (ap (λ (l : ShardLog). l.history) (sym before) ∙ sym (append-nil back.hand.before.value.history));
        given = subst (λ (x : Config × Chain × ShardLog). IsGivenShard x.0 q (shard_turn g k) ((bucket_turn g k, x.1) ∷ []) x.2 [] back.shard) (λ z. (sym same z, (sym own z).bucket, sym before z)) give;
      }

-- ---- the event

-- a party's number is one of a shard's
number_is : (g : Config) (n : ℕ) → IsConfig g → n < parties_of g → is_number n ≡ true
number_is g n valid below = let c = valid.counts.callers.1 in search (nat_tests, arith)

pub miss_legal : {C : Type 0} (m : Meanings C) (g : Config) (k : Key) (b : Both) (q : Place (Known C)) (t : IsTaken m g k b q) (same : q.own.about.config ≡ g) (valid : IsConfig g) (n tick : ℕ) → n ≡ q.number
    → IsTrue (is_well_formed k) → IsTrue (is_missing k b.shard.now) → IsTrue (legal b.shard.now (Miss n k tick))
miss_legal m g k b q t same valid n tick is formed missing =
    let below = number_below m g k b.hand.own.bucket b.shard t.from q t.takes (from_config m g k b q t same valid) valid in
    both_true (is_number n) _ (number_is g n valid (subst (λ (x : ℕ). x < parties_of g) (sym is) below)) (both_true _ _ formed missing)

-- the header of an entry that is being read
reading_says : (n : ℕ) (k : Key) (t : ℕ) (o : Option Entry) (x : Entry) → x ≡ entry_to_read n k t o → Says x (record { key = k; state = x.state; reading = true; place = x.place; digest = x.digest; block = None })
reading_says n k t o x is = record {
  state = refl;
  reading = ap (λ (e : Entry). e.reading) (sym is);
  place = refl;
  digest = refl;
  block = ap is_resident is ∙ and_false (Rattle.blk_ptr.specs.State.is_cached (entry_to_read n k t o).state);
}
  where
    and_false : (c : Bool) → (c && false) ≡ false
    and_false true = refl
    and_false false = refl

pub suffix_legal : (s : PlainShard) (front rest : List Event) → is_legal_history s (front ++ rest) ≡ true → is_legal_history (replay s front) rest ≡ true
suffix_legal s [] rest h = h
suffix_legal s (e ∷ front) rest h = suffix_legal (after s e) front rest (and_right (legal s e) (is_legal_history (after s e) (front ++ rest)) h)

-- what all this makes, by the words of the key
pub makes_roomy : {C : Type 0} (m : Meanings C) (g : Config) (k : Key) (b : Both) (q q' r : Place (Known C)) (kind : b.turn ≡ shard_turn g k) (own : b.hand.own.turn ≡ bucket_turn g k) (new : b.hand.before.value ≡ b.shard)
    (e : Event) (s : Scan) (s' : Scan) (scanned : HasScanned m g b e q q' s) → IsReplayed b.shard → makes_one e s.both.shard s'.both.shard → s'.both.turn ≡ s.both.turn → s'.both.hand.own.turn ≡ s.both.hand.own.turn
    → s'.both.hand.victims ≡ s.both.hand.victims → s'.both.hand.before ≡ s.both.hand.before
    → GivesAll m s'.both.turn (turns_in (buckets_of s'.both.hand)) s'.both.hand.before.value (made_since s'.both.hand.before.value s'.both.shard) s'.both.shard q' r
    → MakesRoomy m g k b.shard e q r
makes_roomy {C} m g k b q q' r kind own new e s s' h replayed makes turn first victims before gives =
    let es : List Event = h.passes ++ e ∷ [] in
    let was : s'.both.hand.before.value ≡ b.shard = ap (λ x. x.value) (before ∙ h.before) ∙ new in
    let was_then : s.both.hand.before.value ≡ b.shard = ap (λ x. x.value) h.before ∙ new in
    let history : s'.both.shard.history ≡ b.shard.history ++ es = makes.history ∙ (ap (λ (l : List Event). l ++ e ∷ []) (h.scan.history ∙ ap (λ (l : ShardLog). l.history ++ h.passes) was_then) ∙ append_assoc b.shard.history h.passes (e ∷ [])) in
    let opening : s'.both.shard.opening ≡ b.shard.opening = makes.opening ∙ (h.scan.opening ∙ ap (λ (l : ShardLog). l.opening) was_then) in
    let last = replayed_more e s.both.shard s'.both.shard h.scan.replayed h.legal makes.now makes.history makes.opening in
    let made : made_since s'.both.hand.before.value s'.both.shard ≡ es = made_is s'.both.hand.before.value s'.both.shard es (history ∙ ap (λ (l : ShardLog). l.history ++ es) (sym was)) in
    let turn_is : s'.both.turn ≡ shard_turn g k = turn ∙ (h.turn ∙ kind) in
    let turns_are : turns_in (buckets_of s'.both.hand) ≡ bucket_turn g k ∷ turns_in (pairs_of s.both.hand.victims.items) =
    (λ z. (first ∙ (h.own ∙ own)) z ∷ turns_in (pairs_of (victims z).items)) in
    let place : q' ≡ after_scan m g (shard_turn g k) (length b.shard.history) (pairs_of s.both.hand.victims.items) h.passes q =
    h.scan.place ∙ (λ z. after_scan m g ((h.turn ∙ kind) z) (length (was_then z).history) (pairs_of s.both.hand.victims.items) h.passes q) in
    record {
      won = pairs_of s.both.hand.victims.items;
      passes = h.passes;
      after = s'.both.shard;
      buckets = all_ranges (pairs_of s.both.hand.victims.items) h.scan.buckets;
      first = subst (λ (j : ℕ). item_at j (pairs_of s.both.hand.victims.items) ≡ None) (h.own ∙ own) h.scan.apart.0;
      apart = h.scan.apart.1;
      own = subst (λ (i : ℕ). ArePasses g q.number i h.passes) (h.turn ∙ kind) h.scan.passes;
      others = h.scan.others;
      legal = subst (λ (x : PlainShard). is_legal_history x es ≡ true) (replayed.replayed)
          (suffix_legal b.shard.opening b.shard.history es (subst (λ (x : PlainShard × List Event). is_legal_history x.0 x.1 ≡ true) (λ z. (opening z, history z)) last.legal));
      now = sym last.replayed ∙ (ap (λ (x : PlainShard × List Event). replay x.0 x.1) (λ z. (opening z, history z)) ∙ (replay-append b.shard.opening b.shard.history es ∙ ap (λ (x : PlainShard). replay x es) replayed.replayed));
      history = history;
      gives = subst (λ (x : ℕ × List ℕ × ShardLog × List Event × Place (Known C)). GivesAll m x.0 x.1 x.2 x.3 s'.both.shard x.4 r) (λ z. (turn_is z, turns_are z, was z, made z, place z)) gives;
    }
  where
    all_ranges : (vs : List (ℕ × Chain)) → AllPairs (IsBucketOf g s.both.turn s.both.hand.before.value.now) vs → AllPairs (λ j b. IsBucket g j) vs
    all_ranges [] all = tt
    all_ranges (v ∷ vs) all = (all.0.range, all_ranges vs all.1)

-- an event of a key whose victims are named is made, and the key has this header, which says what the entry does
pub event_made : {C : Type 0} (m : Meanings C) (g : Config) (k : Key) (b : Both) (e : Event) (q q' : Place (Known C)) (s s' : Scan) (h : HasScanned m g b e q q' s) → b.turn ≡ shard_turn g k → b.hand.own.turn ≡ bucket_turn g k → IsTrue (takes_room e)
    → event_key e ≡ Some k → IsActor g q'.number q'.held (shard_turn g k) e → makes_one e s.both.shard s'.both.shard → s'.both.turn ≡ s.both.turn → s'.both.hand.own.turn ≡ s.both.hand.own.turn → s'.both.hand.victims ≡ s.both.hand.victims
    → s'.both.hand.before ≡ s.both.hand.before → s'.marked ≡ s.marked → (o : Header) → IsHead (entry_of k s'.both.shard.now) (Some o) → IsWith k (Some o) s.both.hand.own.bucket.headers s'.both.hand.own.bucket.headers
    → HasMade m g e h.passes q q' s.both.shard s.both.hand.own.bucket s'
event_made {C} m g k b e q q' s s' h kind own takes key actor makes turn first victims before marked o head with =
    let is_k : (j : Key) → event_key e ≡ Some j → k ≡ j = λ j is. one k j (sym key ∙ is) in
    let apart : (j : Key) → is_about j e ≡ key_eq j k = λ j. ap (λ (x : Option Key). option_map_or (key_eq j) x false) key in record {
      may = subst (λ (y : ℕ × ℕ × ShardLog). MayScan g y.0 ((y.1, s.both.hand.own.bucket) ∷ []) y.2 q) (λ z. (sym turn z, sym first z, (sym before z).value)) h.may;
      scan = subst (λ (y : ℕ × ℕ × ShardLog × List (ℕ × Chain)). Scans m g y.0 ((y.1, s.both.hand.own.bucket) ∷ []) y.2 q q' s.both.shard s.both.shard.marked y.3 h.passes) (λ z. (sym turn z, sym first z, (sym before z).value, pairs_of (sym victims z).items)) h.scan;
      takes = takes;
      legal = h.legal;
      named = h.named;
      makes = makes;
      keys = λ j. ap (λ v. Rattle.arc_lists.specs.Sequences.stands_on j v.items) marked ∙ h.room.marked j;
      actor = subst (λ (i : ℕ). IsActor g q'.number q'.held i e) (sym (turn ∙ (h.turn ∙ kind))) actor;
      about = λ j is. first ∙ (h.own ∙ (own ∙ ap (bucket_turn g) (is_k j is)));
      own_header = λ j is. subst (λ (y : Key). IsHead (entry_of y s'.both.shard.now) (header_at y s'.both.hand.own.bucket.headers)) (is_k j is)
          (subst (IsHead (entry_of k s'.both.shard.now)) (sym (with k ∙ ap (λ (t : Bool). if t then Some o else header_at k s.both.hand.own.bucket.headers) (key_eq-same k))) head);
      other_headers = λ j far. with j ∙ ap (λ (t : Bool). if t then Some o else header_at j s.both.hand.own.bucket.headers) (key_eq-sym k j ∙ (sym (apart j) ∙ far));
    }
  where
    one : (x y : Key) → ◌≡◌ {A = Option Key} (Some x) (Some y) → x ≡ y
    one x y r = cc

-- the party's number is the same behind a scan
pub same_number : {C : Type 0} (m : Meanings C) (g : Config) (b : Both) (e : Event) (q q' : Place (Known C)) (s : Scan) (h : HasScanned m g b e q q' s) → q'.number ≡ q.number
same_number m g b e q q' s h = scan_number m g s.both.turn ((s.both.hand.own.turn, s.both.hand.own.bucket) ∷ []) s.both.hand.before.value q h.may q' s.both.shard s.both.shard.marked (pairs_of s.both.hand.victims.items) h.passes h.scan

-- the event of a miss, with the header that says that it is being read
pub miss_made : {C : Type 0} (m : Meanings C) (g : Config) (k : Key) (b : Both) (q q' : Place (Known C)) (n tick : ℕ) (s s' : Scan) (h : HasScanned m g b (Miss n k tick) q q' s) → b.turn ≡ shard_turn g k → b.hand.own.turn ≡ bucket_turn g k → n ≡ q.number
    → makes_one (Miss n k tick) s.both.shard s'.both.shard → s'.both.turn ≡ s.both.turn → s'.both.hand.own.turn ≡ s.both.hand.own.turn → s'.both.hand.victims ≡ s.both.hand.victims → s'.both.hand.before ≡ s.both.hand.before
    → s'.marked ≡ s.marked → (x : Entry) → entry_of k s'.both.shard.now ≡ Some x
    → IsWith k (Some (record { key = k; state = x.state; reading = true; place = x.place; digest = x.digest; block = None })) s.both.hand.own.bucket.headers s'.both.hand.own.bucket.headers
    → HasMade m g (Miss n k tick) h.passes q q' s.both.shard s.both.hand.own.bucket s'
miss_made {C} m g k b q q' n tick s s' h kind own number makes turn first victims before marked x there with =
    let e : Event = Miss n k tick in
    let entry : x ≡ entry_to_read n k tick (entry_of k s.both.shard.now) = one_entry x (entry_to_read n k tick (entry_of k s.both.shard.now)) (sym there ∙ (ap (entry_of k) makes.now ∙ own-entry s.both.shard.now e k h.scan.replayed.sound h.legal refl)) in
    let mine : n ≡ q'.number = number ∙ sym (same_number m g b e q q' s h) in
    event_made m g k b e q q' s s' h kind own refl refl record { acts = inl mine; fit = mine; feeder = λ f. absurd (cc); own = λ j is. ap (shard_turn g) (one k j is) } makes turn first victims before marked
    (record { key = k; state = x.state; reading = true; place = x.place; digest = x.digest; block = None })
    (subst (λ (y : Option Entry). IsHead y (Some (record { key = k; state = x.state; reading = true; place = x.place; digest = x.digest; block = None }))) (sym there) (reading_says n k tick (entry_of k s.both.shard.now) x entry)) with
  where
    one : (x y : Key) → ◌≡◌ {A = Option Key} (Some x) (Some y) → x ≡ y
    one x y r = cc

    one_entry : (x y : Entry) → ◌≡◌ {A = Option Entry} (Some x) (Some y) → x ≡ y
    one_entry x y r = cc

-- no event was made in the end
pub none_makes : {C : Type 0} (m : Meanings C) (g : Config) (k : Key) (b back : Both) (q q' r : Place (Known C)) → KeepsBoth b back → b.hand.before.value ≡ b.shard → q' ≡ q
    → Makes m g k back.hand.before.value (made_since back.hand.before.value back.shard) q' r → Makes m g k b.shard [] q r
none_makes {C} m g k b back q q' r keeps new same =
    let before : back.hand.before.value ≡ b.shard = ap (λ x. x.value) keeps.before ∙ new in
    let none : made_since back.hand.before.value back.shard ≡ [] = made_is back.hand.before.value back.shard [] (keeps.history ∙ (ap (λ (l : ShardLog). l.history) (sym before) ∙ sym (append-nil back.hand.before.value.history))) in
    subst (λ (x : ShardLog × List Event × Place (Known C)). Makes m g k x.0 x.1 x.2 r) (λ z. (before z, none z, same z))

-- the key's entry once it is being read
pub miss_entry : (n tick : ℕ) (k : Key) (l l' : ShardLog) → IsReplayed l → IsTrue (legal l.now (Miss n k tick)) → makes_one (Miss n k tick) l l' → entry_of k l'.now ≡ Some (entry_to_read n k tick (entry_of k l.now))
miss_entry n tick k l l' replayed ok makes = ap (entry_of k) makes.now ∙ own-entry l.now (Miss n k tick) k replayed.sound ok refl

-- its header, as it is made of what was shown of the key before
pub reading_is : (n tick : ℕ) (k : Key) (found : Option EntryView) (o : Option Entry) → found ≡ option_map view_of o
    → ◌≡◌ {A = Header} (record { key = k; state = if is_some found then Mfu else Anon; reading = true; place = option_and_then (λ v. v.place) found; digest = None; block = None })
    (record { key = k; state = (entry_to_read n k tick o).state; reading = true; place = (entry_to_read n k tick o).place; digest = None; block = None })
reading_is n tick k found None is = ap (λ (f : Option EntryView). let h : Header = record { key = k; state = if is_some f then Mfu else Anon; reading = true; place = option_and_then (λ v. v.place) f; digest = None; block = None } in h) is
reading_is n tick k found (Some e) is = ap (λ (f : Option EntryView). let h : Header = record { key = k; state = if is_some f then Mfu else Anon; reading = true; place = option_and_then (λ v. v.place) f; digest = None; block = None } in h) is

-- a scan changes no entry
pub scanned_entry : {C : Type 0} (m : Meanings C) (g : Config) (k : Key) (b : Both) (e : Event) (q q' : Place (Known C)) (s : Scan) → HasScanned m g b e q q' s → b.hand.before.value ≡ b.shard → entry_of k s.both.shard.now ≡ entry_of k b.shard.now
scanned_entry m g k b e q q' s h new = ap (entry_of k) h.scan.now ∙ ap (λ (l : ShardLog). entry_of k l.now) (ap (λ x. x.value) h.before ∙ new)

-- a party that has scanned is one of its cache still
pub scanned_party : {C : Type 0} (m : Meanings C) (g : Config) (b : Both) (e : Event) (cache : Cache) (q q' : Place (Known C)) (s : Scan) → HasScanned m g b e q q' s → IsPartyOf cache q → IsPartyOf cache q'
scanned_party {C} m g b e cache q q' s h of = record {
  row = (ap (λ (x : Place (Known C)). x.table) h.scan.place ∙ of.row.0, ap (λ (x : Place (Known C)). x.parties) h.scan.place ∙ of.row.1);
  config = ap (λ (x : Place (Known C)). x.own.about.config) h.scan.place ∙ (ap (λ (a : About). a.config) (won_about m (pairs_of s.both.hand.victims.items) q.own) ∙ of.config);
}

-- the shard was the replay of its history when it was taken
pub scanned_replayed : {C : Type 0} (m : Meanings C) (g : Config) (b : Both) (e : Event) (q q' : Place (Known C)) (s : Scan) → HasScanned m g b e q q' s → b.hand.before.value ≡ b.shard → IsReplayed b.shard
scanned_replayed m g b e q q' s h new = subst IsReplayed (ap (λ x. x.value) h.before ∙ new) h.may.sound.replayed
