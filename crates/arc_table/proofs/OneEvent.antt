-- One event on the bucket of its own key: the shard may be given back where the header in hand says what the entry does after it.
use Rattle.std.proofs.Common.{◌≡◌, ◌≢◌, if◌then◌else◌, ℕ, zero, suc, ◌-◌, ◌<◌, List, [], ◌∷◌, ◌++◌, drop, length, Bool, true, false, Option, Some, None, refl, sym, ap, ◌∙◌, subst, inl, inr, eq-eqb, ne_eqb, append-nil, arith}
use Rattle.std.specs.Prelude.{IsTrue, ◌&&◌, not}
use Rattle.std.specs.Option.{option_map_or}
use Rattle.std.proofs.lemmas.Option.{none-some}
use mathlib.Core.Option.{some, some-injective, some-ne-none}
use mathlib.Core.Logic.{dite}
use native.Mathlib.Decide.{ℕ_discrete}
use lib.ListN.{get_elem?}
use Rattle.blk_ptr.specs.declared.key.Key.{Key}
use Rattle.blk_ptr.specs.declared.ptr.Ptr.{Ptr}
use Rattle.blk_ptr.specs.Order.{key_eq}
use Rattle.blk_ptr.proofs.Keys.{key_eq-is, key_eq-sym}
use Rattle.arc_core.specs.declared.config.Config.{Config}
use Rattle.arc_core.specs.Config.{IsConfig}
use Rattle.arc_core.specs.declared.entry.Entry.{Entry}
use Rattle.arc_core.specs.declared.entry.Picked.{Picked}
use Rattle.arc_core.specs.declared.event.Event.{Event}
use Rattle.arc_core.specs.declared.event.Event.TheVariants.{Pass, Hit, Miss, Arrive, Fail, Drop, Past, Hand, Insert, Release, Pick, FeedEnd, Set, Leave, Clear, Restore, Resize}
use Rattle.arc_core.specs.Changes.{without_pick, writing_phase}
use Rattle.arc_core.specs.Changing.{keeps_passed}
use Rattle.arc_core.specs.Operations.{event_key}
use Rattle.arc_core.specs.PlainShard.{PlainShard, entry_of, numbers}
use Rattle.arc_core.specs.Replay.{is_legal_history, replay}
use Rattle.arc_core.specs.ShardLog.{ShardLog, IsReplayed}
use Rattle.arc_core.specs.Sound.{IsSound}
use Rattle.arc_core.specs.Sparing.{victims}
use Rattle.arc_core.specs.Step as step
use Rattle.arc_core.specs.Step.{after, legal}
use Rattle.arc_core.proofs.Frames.{frame-cleared, frame-fitted}
use Rattle.arc_core.proofs.Others.{frame-kept, sparing-others}
use Rattle.arc_core.proofs.Soundness.{IsSound-after}
use Rattle.arc_core.proofs.Stepping.{legal-append, replay-append}
use Rattle.hash_chain.specs.Chain.{Chain, IsWith, header_at}
use Rattle.hash_chain.specs.declared.header.Header.{Header}
use Rattle.turn_table.specs.Board.{IsAmong}
use Rattle.turn_table.specs.Places.{Place}
use Rattle.arc_table.specs.declared.about.About.{About}
use Rattle.arc_table.specs.declared.both.Both.{Both}
use Rattle.arc_table.specs.declared.in_hand.Hand.{Hand as TheHand}
use Rattle.arc_table.specs.declared.item.Item.TheVariants as item
use Rattle.arc_table.specs.declared.view.Known.{Known}
use Rattle.arc_table.specs.declared.view.Note.{Note}
use Rattle.arc_table.specs.Both.{Makes, TakesBoth}
use Rattle.arc_table.specs.Fronts.{item_at, list_at}
use Rattle.arc_table.specs.Geometry.{IsBucket, bucket_turn, shard_turn}
use Rattle.arc_table.specs.pact.Headed.{IsHead}
use Rattle.arc_table.specs.Holding.{IsListed}
use Rattle.arc_table.specs.InHand.{made_since}
use Rattle.arc_table.specs.Items.{Meanings}
use Rattle.arc_table.specs.pact.Logged.{is_picking}
use Rattle.arc_table.specs.Making.{IsMade, IsTaken}
use Rattle.arc_table.specs.ShardGiving.{ArePassesNoted, IsActor, IsGivenShard, SameHead, passes_in}
use Rattle.arc_table.specs.TableLaws.{item_here, list_here}
use Rattle.arc_table.proofs.Ranges.{bucket_range}
use Rattle.arc_table.proofs.Reached.{IsHolding, fresh, heads, holding, number_below, own_entries, own_headers, own_number_is, reached, sound_log}
use Rattle.arc_table.proofs.Rows.{same_shard}
use Rattle.arc_table.proofs.ShardGives.{head_alike}

-- ---- the events in question

-- An event that changes its own key's entry alone, and is no part of a scan
abbrev pub is_lone : Event → Bool
is_lone (Pass n k owner) = false
is_lone (Hit n k t) = true
is_lone (Miss n k t) = false
is_lone (Arrive n k d from) = true
is_lone (Fail n k at) = true
is_lone (Drop n k) = true
is_lone (Past n k kept) = true
is_lone (Hand n k to) = true
is_lone (Insert n k d t) = false
is_lone (Release n k sole) = true
is_lone (Pick n k) = false
is_lone (FeedEnd n) = false
is_lone (Set n k place) = true
is_lone (Leave n k why) = true
is_lone (Clear n k) = true
is_lone (Restore n k place d) = true
is_lone (Resize n c) = false

none_evicted : (s : PlainShard) (e : Event) → is_lone e ≡ true → victims s e ≡ []
none_evicted s (Pass n k owner) h = absurd (cc)
none_evicted s (Hit n k t) h = refl
none_evicted s (Miss n k t) h = absurd (cc)
none_evicted s (Arrive n k d from) h = refl
none_evicted s (Fail n k at) h = refl
none_evicted s (Drop n k) h = refl
none_evicted s (Past n k kept) h = refl
none_evicted s (Hand n k to) h = refl
none_evicted s (Insert n k d t) h = absurd (cc)
none_evicted s (Release n k sole) h = refl
none_evicted s (Pick n k) h = absurd (cc)
none_evicted s (FeedEnd n) h = absurd (cc)
none_evicted s (Set n k place) h = refl
none_evicted s (Leave n k why) h = refl
none_evicted s (Clear n k) h = refl
none_evicted s (Restore n k place d) h = refl
none_evicted s (Resize n c) h = absurd (cc)

forgets : (e : Event) → is_lone e ≡ true → IsTrue (not (keeps_passed e))
forgets (Pass n k owner) h = absurd (cc)
forgets (Pick n k) h = absurd (cc)
forgets (Hit n k t) h = refl
forgets (Miss n k t) h = refl
forgets (Arrive n k d from) h = refl
forgets (Fail n k at) h = refl
forgets (Drop n k) h = refl
forgets (Past n k kept) h = refl
forgets (Hand n k to) h = refl
forgets (Insert n k d t) h = refl
forgets (Release n k sole) h = refl
forgets (FeedEnd n) h = refl
forgets (Set n k place) h = refl
forgets (Leave n k why) h = refl
forgets (Clear n k) h = refl
forgets (Restore n k place d) h = refl
forgets (Resize n c) h = refl

no_passes : (g : Config) (i len q : ℕ) (notes : List Note) (e : Event) → is_lone e ≡ true → ArePassesNoted g i len q notes (e ∷ [])
no_passes g i len q notes (Pass n k owner) h = absurd (cc)
no_passes g i len q notes (_) h = tt

no_pass : (e : Event) → is_lone e ≡ true → passes_in (e ∷ []) ≡ 0
no_pass (Pass n k owner) h = absurd (cc)
no_pass (Hit n k t) h = refl
no_pass (Miss n k t) h = refl
no_pass (Arrive n k d from) h = refl
no_pass (Fail n k at) h = refl
no_pass (Drop n k) h = refl
no_pass (Past n k kept) h = refl
no_pass (Hand n k to) h = refl
no_pass (Insert n k d t) h = refl
no_pass (Release n k sole) h = refl
no_pass (Pick n k) h = refl
no_pass (FeedEnd n) h = refl
no_pass (Set n k place) h = refl
no_pass (Leave n k why) h = refl
no_pass (Clear n k) h = refl
no_pass (Restore n k place d) h = refl
no_pass (Resize n c) h = refl

-- ---- only a pick begins picks

abbrev pub is_pick : Event → Bool
is_pick (Pick n k) = true
is_pick _ = false

not_writing : (picks : List Picked) → is_picking (writing_phase picks) ≡ false
not_writing [] = refl
not_writing (x ∷ xs) = refl

pub stays_settled : (s : PlainShard) (e : Event) → is_pick e ≡ false → is_picking s.phase ≡ false → is_picking (after s e).phase ≡ false
stays_settled s (Pick n k) h settled = absurd (cc)
stays_settled s (FeedEnd n) h settled = not_writing s.picked
stays_settled s (Set n k place) h settled = not_writing (without_pick k s.picked)
stays_settled s (Leave n k why) h settled = not_writing (without_pick k s.picked)
stays_settled s (Clear n k) h settled = ap is_picking (frame-cleared k s).phase ∙ settled
stays_settled s (Restore n k place d) h settled = settled
stays_settled s (Resize n c) h settled = ap is_picking (frame-fitted (Rattle.arc_core.specs.Rules.resized c s)).phase ∙ settled
stays_settled s (Pass n k owner) h settled = ap is_picking ((frame-kept s (Pass n k owner)).phase refl) ∙ settled
stays_settled s (Hit n k t) h settled = ap is_picking ((frame-kept s (Hit n k t)).phase refl) ∙ settled
stays_settled s (Miss n k t) h settled = ap is_picking ((frame-kept s (Miss n k t)).phase refl) ∙ settled
stays_settled s (Arrive n k d from) h settled = ap is_picking ((frame-kept s (Arrive n k d from)).phase refl) ∙ settled
stays_settled s (Fail n k at) h settled = ap is_picking ((frame-kept s (Fail n k at)).phase refl) ∙ settled
stays_settled s (Drop n k) h settled = ap is_picking ((frame-kept s (Drop n k)).phase refl) ∙ settled
stays_settled s (Past n k kept) h settled = ap is_picking ((frame-kept s (Past n k kept)).phase refl) ∙ settled
stays_settled s (Hand n k to) h settled = ap is_picking ((frame-kept s (Hand n k to)).phase refl) ∙ settled
stays_settled s (Insert n k d t) h settled = ap is_picking ((frame-kept s (Insert n k d t)).phase refl) ∙ settled
stays_settled s (Release n k sole) h settled = ap is_picking ((frame-kept s (Release n k sole)).phase refl) ∙ settled

lone_no_pick : (e : Event) → is_lone e ≡ true → is_pick e ≡ false
lone_no_pick (Pick n k) h = absurd (cc)
lone_no_pick (_) h = refl

-- ---- lists and heads

pub some_is : {X : Type 0} (x y : X) → ◌≡◌ {A = Option X} (Some x) (Some y) → x ≡ y
some_is x y q = cc

one_item : {X : Type 0} (i j : ℕ) (x y : X) → item_at j ((i, x) ∷ []) ≡ Some y → (j ≡ i) × (x ≡ y)
one_item {X} i j x y e = dite (ℕ_discrete j i)
    (λ q. (q, same x y (subst (λ (b : Bool). (if b then Some x else None) ≡ Some y) (eq-eqb j i q) e)))
    (λ q. absurd (none-some y (subst (λ (b : Bool). (if b then Some x else None) ≡ Some y) (ne_eqb j i q) e)))
  where
    same : (x y : X) → ◌≡◌ {A = Option X} (Some x) (Some y) → x ≡ y
    same x y q = cc

pub same_head : (o : Option Entry) → SameHead o o
same_head None = tt
same_head (Some e) = record { key = refl; state = refl; reading = refl; place = refl; digest = refl }

drop_front : {A : Type 0} (xs ys : List A) → drop (length xs) (xs ++ ys) ≡ ys
drop_front [] ys = refl
drop_front (x ∷ xs) ys = drop_front xs ys

-- the events made since are those that were appended
pub made_is : (before l : ShardLog) (es : List Event) → l.history ≡ before.history ++ es → made_since before l ≡ es
made_is before l es e = ap (drop (length before.history)) e ∙ drop_front before.history es

only_at : {A : Type 0} (x : A) (j : ℕ) (y : A) → get_elem? (x ∷ []) j ≡ some y → x ≡ y
only_at x zero y e = some-injective x y e
only_at x (suc j) y e = absurd (some-ne-none y (sym e))

lone_legal : (s : PlainShard) (e : Event) → IsTrue (legal s e) → IsTrue (is_legal_history s (e ∷ []))
lone_legal s e ok = ap (λ (b : Bool). b && true) ok

-- ---- the give

module _ {C : Type 0} (m : Meanings C) (g : Config) (k : Key) (chain : Chain) (before : ShardLog) (p q : Place (Known C)) (t : TakesBoth m g k chain before p q) (same : p.own.about.config ≡ g) (valid : IsConfig g) where
  recorded : item_at (shard_turn g k) q.own.records ≡ Some (item.Shard before)
  recorded = ap (item_at (shard_turn g k)) (reached m g k chain before p q t).records ∙ item_here (shard_turn g k) (item.Shard before) ((bucket_turn g k, item.Bucket chain) ∷ p.own.records)

  listed : list_at (shard_turn g k) q.own.listed ≡ []
  listed = ap (list_at (shard_turn g k)) (reached m g k chain before p q t).listed ∙ list_here (shard_turn g k) [] ((bucket_turn g k, []) ∷ p.own.listed)

  has_bucket : IsAmong (bucket_turn g k) q.held
  has_bucket = subst (IsAmong (bucket_turn g k)) (sym (reached m g k chain before p q t).held) (inr (inl refl))

  module _ (given : Chain) where
    in_hand : (j : ℕ) (b : Chain) → item_at j ((bucket_turn g k, given) ∷ []) ≡ Some b → IsAmong j q.held × IsBucket g j
    in_hand j b e = let h = one_item (bucket_turn g k) j given b e in
        subst (λ (x : ℕ). IsAmong x q.held × IsBucket g x) (sym h.0) (has_bucket, bucket_range g k valid)

    in_shard : (j : Key) (b : Chain) → item_at (bucket_turn g j) ((bucket_turn g k, given) ∷ []) ≡ Some b → shard_turn g k ≡ shard_turn g j
    in_shard j b e = same_shard g k j valid (sym (one_item (bucket_turn g k) (bucket_turn g j) given b e).0)

  -- no event: only the room of the shard may have changed
  pub none_given : (l : ShardLog) → l.now ≡ before.now → l.history ≡ before.history → l.opening ≡ before.opening
      → IsGivenShard g q (shard_turn g k) ((bucket_turn g k, chain) ∷ []) before [] l
  none_given l now history opening =
      let log = sound_log m g k chain before p q t same valid in record {
        recorded = recorded;
        listed = listed;
        history = history ∙ sym (append-nil before.history);
        opening = opening;
        replayed = subst (λ (x : PlainShard × PlainShard × List Event). IsReplayed record { now = x.0; opening = x.1; history = x.2; event_room = l.event_room; entry_room = l.entry_room; marked = l.marked })
            (λ z. (sym now z, sym opening z, sym history z)) record { sound = log.replayed.sound; replayed = log.replayed.replayed; legal = log.replayed.legal };
        passed = ap (λ (s : PlainShard). s.passed) now ∙ log.passed;
        settled = ap (λ (s : PlainShard). is_picking s.phase) now ∙ log.settled;
        actors = λ j e f. absurd (some-ne-none e (sym f));
        own_entries = λ j e f. own_entries m g k chain before p q t same valid j e (ap (entry_of j) (sym now) ∙ f);
        in_hand = in_hand chain;
        in_shard = in_shard chain;
        heads_in = λ j b f. let h = one_item (bucket_turn g k) (bucket_turn g j) chain b f in
            subst (λ (x : PlainShard × Chain). IsHead (entry_of j x.0) (header_at j x.1.headers)) (λ z. (sym now z, h.1 z)) (heads m g k chain before p q t same valid j h.0);
        heads_out = λ j own f. subst (λ (s : PlainShard). SameHead (entry_of j before.now) (entry_of j s)) (sym now) (same_head (entry_of j before.now));
        own_headers = λ j b x h f e. let one = one_item (bucket_turn g k) j chain b f in one.0 ∙ own_headers m g k chain before p q t same valid x h (ap (λ (c : Chain). header_at x c.headers) one.1 ∙ e);
        noted = tt;
        fresh = λ j y a e is. let near = fresh m g k chain before p q t same valid j y a e is in omega arith;
      }

  module _ (e : Event) (l : ShardLog) (given : Chain) (o : Option Header)
      (lone : is_lone e ≡ true) (about : event_key e ≡ Some k) (ok : IsTrue (legal before.now e))
      (now : l.now ≡ after before.now e) (history : l.history ≡ before.history ++ e ∷ []) (opening : l.opening ≡ before.opening)
      (actor : IsActor g q.number q.held (shard_turn g k) e) (with : IsWith k o chain.headers given.headers) (head : IsHead (entry_of k l.now) o) where
    -- the entries of other keys stay
    spared : (j : Key) → key_eq k j ≡ false → entry_of j l.now ≡ entry_of j before.now
    spared j far = ap (entry_of j) now ∙ sparing-others before.now e j (sound_log m g k chain before p q t same valid).replayed.sound ok
        (ap not (ap (λ (x : Option Key). option_map_or (key_eq j) x false) about ∙ (key_eq-sym j k ∙ far)))
        (ap (λ (ks : List Key). not (Rattle.arc_lists.specs.Sequences.stands_on j ks)) (none_evicted before.now e lone))

    -- and so do their headers
    other_header : (j : Key) → key_eq k j ≡ false → header_at j given.headers ≡ header_at j chain.headers
    other_header j far = with j ∙ ap (λ (b : Bool). if b then o else header_at j chain.headers) far

    own_header : (j : Key) → key_eq k j ≡ true → header_at j given.headers ≡ o
    own_header j here = with j ∙ ap (λ (b : Bool). if b then o else header_at j chain.headers) here

    head_in : (j : Key) → bucket_turn g j ≡ bucket_turn g k → (b : Bool) → key_eq k j ≡ b → IsHead (entry_of j l.now) (header_at j given.headers)
    head_in j is true here = subst (IsHead (entry_of j l.now)) (sym (own_header j here)) (subst (λ (x : Key). IsHead (entry_of x l.now) o) (key_eq-is k j here) head)
    head_in j is false far = subst (λ (x : Option Entry × Option Header). IsHead x.0 x.1) (λ z. (sym (spared j far) z, sym (other_header j far) z)) (heads m g k chain before p q t same valid j is)

    head_out : (j : Key) → bucket_turn g j ≢ bucket_turn g k → (b : Bool) → key_eq k j ≡ b → SameHead (entry_of j before.now) (entry_of j l.now)
    head_out j apart true here = absurd (apart (ap (bucket_turn g) (sym (key_eq-is k j here))))
    head_out j apart false far = subst (SameHead (entry_of j before.now)) (sym (spared j far)) (same_head (entry_of j before.now))

    header_own : (j : Key) (h : Header) → (b : Bool) → key_eq k j ≡ b → header_at j given.headers ≡ Some h → bucket_turn g k ≡ bucket_turn g j
    header_own j h true here is = ap (bucket_turn g) (key_eq-is k j here)
    header_own j h false far is = own_headers m g k chain before p q t same valid j h (sym (other_header j far) ∙ is)

    entry_own : (j : Key) (x : Entry) → (b : Bool) → key_eq k j ≡ b → entry_of j l.now ≡ Some x → shard_turn g k ≡ shard_turn g j
    entry_own j x true here is = ap (shard_turn g) (key_eq-is k j here)
    entry_own j x false far is = own_entries m g k chain before p q t same valid j x (sym (spared j far) ∙ is)

    not_at : (j : ℕ) → item_at j ((bucket_turn g k, given) ∷ []) ≡ None → j ≢ bucket_turn g k
    not_at j f is = none-some given (sym f ∙ subst (λ (b : Bool). (if b then Some given else None) ≡ Some given) (sym (eq-eqb j (bucket_turn g k) is)) refl)

    replayed : IsReplayed l
    replayed = let log = (sound_log m g k chain before p q t same valid).replayed in record {
      sound = subst IsSound (sym now) (IsSound-after before.now e log.sound ok);
      replayed = ap (λ (x : PlainShard × List Event). replay x.0 x.1) (λ z. (opening z, history z)) ∙ (replay-append before.opening before.history (e ∷ []) ∙ (ap (λ (s : PlainShard). after s e) log.replayed ∙ sym now));
      legal = subst (λ (x : PlainShard × List Event). IsTrue (is_legal_history x.0 x.1)) (λ z. (sym opening z, sym history z))
          (legal-append before.opening before.history e log.legal (subst (λ (s : PlainShard). IsTrue (legal s e)) (sym log.replayed) ok));
    }

    pub one_given : IsGivenShard g q (shard_turn g k) ((bucket_turn g k, given) ∷ []) before (e ∷ []) l
    one_given = let log = sound_log m g k chain before p q t same valid in record {
      recorded = recorded;
      listed = listed;
      history = history;
      opening = opening;
      replayed = replayed;
      passed = ap (λ (s : PlainShard). s.passed) now ∙ (frame-kept before.now e).passed (forgets e lone);
      settled = ap (λ (s : PlainShard). is_picking s.phase) now ∙ stays_settled before.now e (lone_no_pick e lone) log.settled;
      actors = λ j x f. subst (IsActor g q.number q.held (shard_turn g k)) (only_at e j x f) actor;
      own_entries = λ j x f. entry_own j x (key_eq k j) refl f;
      in_hand = in_hand given;
      in_shard = in_shard given;
      heads_in = λ j b f. let h = one_item (bucket_turn g k) (bucket_turn g j) given b f in
          subst (λ (c : Chain). IsHead (entry_of j l.now) (header_at j c.headers)) h.1 (head_in j h.0 (key_eq k j) refl);
      heads_out = λ j own f. head_out j (not_at (bucket_turn g j) f) (key_eq k j) refl;
      own_headers = λ j b x h f is. let one = one_item (bucket_turn g k) j given b f in
          one.0 ∙ header_own x h (key_eq k x) refl (ap (λ (c : Chain). header_at x c.headers) one.1 ∙ is);
      noted = no_passes g (shard_turn g k) (length before.history) (length q.own.notes - passes_in (e ∷ [])) q.own.notes e lone;
      fresh = λ j y a f is. let near = fresh m g k chain before p q t same valid j y a f is in let none = no_pass e lone in omega arith;
    }

-- ---- an event of which the headers say nothing

same_with : (k : Key) (hs : List Header) → IsWith k (header_at k hs) hs hs
same_with k hs j = by_test (key_eq k j) refl
  where
    by_test : (b : Bool) → key_eq k j ≡ b → header_at j hs ≡ (if b then header_at k hs else header_at j hs)
    by_test true here = ap (λ (x : Key). header_at x hs) (sym (key_eq-is k j here))
    by_test false far = refl

module _ {C : Type 0} (m : Meanings C) (g : Config) (k : Key) (b : Both) (q : Place (Known C)) (t : IsTaken m g k b q) (same : q.own.about.config ≡ g) (valid : IsConfig g) where
  taken : TakesBoth m g k b.hand.own.bucket b.shard t.from q
  taken = t.takes

  same_from : t.from.own.about.config ≡ g
  same_from = ap (λ (a : About). a.config) (sym (reached m g k b.hand.own.bucket b.shard t.from q taken).about) ∙ same

  -- the bucket and the shard are so once the event is made
  module _ (e : Event) (after : Both) (o : Option Header) (kept : after.hand.before ≡ b.hand.before) (alone : after.hand.victims ≡ b.hand.victims) (turns : (after.turn ≡ b.turn) × (after.hand.own.turn ≡ b.hand.own.turn))
      (lone : is_lone e ≡ true) (about : event_key e ≡ Some k) (ok : IsTrue (legal b.shard.now e))
      (now : after.shard.now ≡ step.after b.shard.now e) (history : after.shard.history ≡ b.shard.history ++ e ∷ []) (opening : after.shard.opening ≡ b.shard.opening)
      (actor : IsActor g q.number q.held (shard_turn g k) e) (with : IsWith k o b.hand.own.bucket.headers after.hand.own.bucket.headers) (head : IsHead (entry_of k after.shard.now) o) where
    before_is : b.shard ≡ after.hand.before.value
    before_is = sym t.new ∙ ap (λ s. s.value) (sym kept)

    pub one_made : IsMade m g k (made_since after.hand.before.value after.shard) after q
    one_made = subst (λ (es : List Event). IsMade m g k es after q) (sym (made_is after.hand.before.value after.shard (e ∷ []) (history ∙ ap (λ (l : ShardLog). l.history ++ e ∷ []) before_is))) record {
      kind = record { valid = valid; own = turns.1 ∙ t.kind.own; turn = turns.0 ∙ t.kind.turn; alone = ap (λ v. v.items) alone ∙ t.kind.alone };
      from = t.from;
      chain = b.hand.own.bucket;
      takes = subst (λ (l : ShardLog). TakesBoth m g k b.hand.own.bucket l t.from q) before_is taken;
      legal = subst (λ (l : ShardLog). IsTrue (is_legal_history l.now (e ∷ []))) before_is (lone_legal b.shard.now e ok);
      now = now ∙ ap (λ (l : ShardLog). step.after l.now e) before_is;
      history = history ∙ ap (λ (l : ShardLog). l.history ++ e ∷ []) before_is;
      given = subst (λ (c : Config). IsGivenShard c q (shard_turn g k) ((bucket_turn g k, after.hand.own.bucket) ∷ []) after.hand.before.value (e ∷ []) after.shard) (sym same)
          (subst (λ (l : ShardLog). IsGivenShard g q (shard_turn g k) ((bucket_turn g k, after.hand.own.bucket) ∷ []) l (e ∷ []) after.shard) before_is
          (one_given m g k b.hand.own.bucket b.shard t.from q taken same_from valid e after.shard after.hand.own.bucket o lone about ok now history opening actor with head));
    }

  -- no event: only the room of the shard may have changed
  pub none_made : (after : Both) → after.hand ≡ b.hand → after.turn ≡ b.turn → after.shard.now ≡ b.shard.now → after.shard.history ≡ b.shard.history → after.shard.opening ≡ b.shard.opening
      → IsMade m g k (made_since after.hand.before.value after.shard) after q
  none_made after hand turn now history opening =
      let before_is : b.shard ≡ after.hand.before.value = sym t.new ∙ ap (λ (h : TheHand). h.before.value) (sym hand) in
      let grown : after.shard.history ≡ b.shard.history ++ [] = history ∙ sym (append-nil b.shard.history) in
      subst (λ (es : List Event). IsMade m g k es after q) (sym (made_is after.hand.before.value after.shard [] (grown ∙ ap (λ (l : ShardLog). l.history ++ []) before_is))) record {
        kind = record { valid = valid; own = ap (λ (h : TheHand). h.own.turn) hand ∙ t.kind.own; turn = turn ∙ t.kind.turn; alone = ap (λ (h : TheHand). h.victims.items) hand ∙ t.kind.alone };
        from = t.from;
        chain = b.hand.own.bucket;
        takes = subst (λ (l : ShardLog). TakesBoth m g k b.hand.own.bucket l t.from q) before_is taken;
        legal = refl;
        now = now ∙ ap (λ (l : ShardLog). l.now) before_is;
        history = grown ∙ ap (λ (l : ShardLog). l.history ++ []) before_is;
        given = subst (λ (x : Config × (TheHand × ShardLog)). IsGivenShard x.0 q (shard_turn g k) ((bucket_turn g k, x.1.0.own.bucket) ∷ []) x.1.1 [] after.shard) (λ z. (sym same z, (sym hand z, before_is z)))
            (none_given m g k b.hand.own.bucket b.shard t.from q taken same_from valid after.shard now history opening);
      }

  -- an event of which the headers say nothing
  pub alike_made : (e : Event) (after : Both) → after.hand ≡ b.hand → after.turn ≡ b.turn → is_lone e ≡ true → event_key e ≡ Some k → IsTrue (legal b.shard.now e)
      → after.shard.now ≡ step.after b.shard.now e → after.shard.history ≡ b.shard.history ++ e ∷ [] → after.shard.opening ≡ b.shard.opening
      → IsActor g q.number q.held (shard_turn g k) e → SameHead (entry_of k b.shard.now) (entry_of k (step.after b.shard.now e))
      → IsMade m g k (made_since after.hand.before.value after.shard) after q
  alike_made e after hand turn lone about ok now history opening actor alike =
      one_made e after (header_at k b.hand.own.bucket.headers) (ap (λ (h : TheHand). h.before) hand) (ap (λ (h : TheHand). h.victims) hand) (turn, ap (λ (h : TheHand). h.own.turn) hand) lone about ok now history opening actor
      (subst (λ (h : TheHand). IsWith k (header_at k b.hand.own.bucket.headers) b.hand.own.bucket.headers h.own.bucket.headers) (sym hand) (same_with k b.hand.own.bucket.headers))
      (subst (λ (s : PlainShard). IsHead (entry_of k s) (header_at k b.hand.own.bucket.headers)) (sym now)
      (head_alike (entry_of k b.shard.now) (entry_of k (step.after b.shard.now e)) (header_at k b.hand.own.bucket.headers) alike
      (heads m g k b.hand.own.bucket b.shard t.from q taken same_from valid k refl)))

  -- what the shard is, and what a listed hold says of it
  pub taken_sound : IsSound b.shard.now
  taken_sound = (sound_log m g k b.hand.own.bucket b.shard t.from q taken same_from valid).replayed.sound

  pub taken_few : q.number < numbers
  taken_few = let a = number_below m g k b.hand.own.bucket b.shard t.from q taken same_from valid in let c = valid.counts.callers.1 in omega arith

  pub taken_number : q.own.number ≡ q.number
  taken_number = own_number_is m g k b.hand.own.bucket b.shard t.from q taken same_from valid

  pub taken_head : IsHead (entry_of k b.shard.now) (header_at k b.hand.own.bucket.headers)
  taken_head = heads m g k b.hand.own.bucket b.shard t.from q taken same_from valid k refl

  pub taken_holding : (n : ℕ) (x : Ptr) → x.key ≡ k → IsListed g q n x → IsHolding n x b.shard.now
  taken_holding n x is listed = holding m g k b.hand.own.bucket b.shard t.from q taken same_from valid n x (ap (shard_turn g) is) listed

-- the events made are these
pub makes_these : {C : Type 0} (m : Meanings C) (g : Config) (k : Key) (was before l : ShardLog) (es : List Event) (q r : Place (Known C)) → was ≡ before → l.history ≡ before.history ++ es
    → Makes m g k was (made_since was l) q r → Makes m g k before es q r
makes_these {C} m g k was before l es q r is history = subst (λ (x : ShardLog × List Event). Makes m g k x.0 x.1 q r) (λ z. (is z, (ap (λ (x : ShardLog). made_since x l) is ∙ made_is before l es history) z))

pub none_since : (l : ShardLog) → l.history ≡ l.history ++ []
none_since l = sym (append-nil l.history)
