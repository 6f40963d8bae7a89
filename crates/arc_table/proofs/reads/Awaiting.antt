-- A key that is being read stays so until its reader ends the read, and its place on the cache device stays or is cleared.
use Rattle.std.proofs.Common.{◌≡◌, ◌≢◌, ◌⊎◌, ◌==◌, if◌then◌else◌, cond, ℕ, zero, suc, ◌+◌, ◌-◌, ◌<◌, ◌≤◌, List, [], ◌∷◌, ◌++◌, drop, length, map, sum, get_or, Bool, true, false, Option, Some, None, refl, sym, ap, ◌∙◌, subst, inl, inr, ⊎_elim, eq-eqb, ne_eqb, arith, length-append}
use Rattle.std.specs.Prelude.{IsTrue, ◌&&◌, ◌||◌, not, is_none, is_some, nat_lt}
use Rattle.std.specs.Option.{option_and_then, option_map_or}
use Rattle.std.proofs.lemmas.Bool.Decides.{nat_tests}
use Rattle.std.proofs.lemmas.List.{get_or-set_same, length-map}
use mathlib.Core.Option.{some, some-injective, some-ne-none}
use mathlib.Core.Logic.{dite}
use native.Mathlib.Decide.{ℕ_discrete}
use lib.ListN.{get_elem?}
use Rattle.blk_ptr.specs.declared.key.Key.{Key}
use Rattle.blk_ptr.specs.declared.ptr.Ptr.{Ptr}
use Rattle.blk_ptr.specs.declared.state.State.{State}
use Rattle.blk_ptr.specs.declared.state.State.TheVariants.{Anon, Mru, MruGhost, Mfu, MfuGhost, L2Only}
use Rattle.blk_ptr.specs.Key.{is_well_formed}
use Rattle.blk_ptr.specs.Order.{key_eq}
use Rattle.blk_ptr.specs.State.{is_cached, is_ghost, is_same_state}
use Rattle.blk_ptr.proofs.Keys.{key_eq-is, key_eq-same}
use Rattle.arc_core.specs.declared.config.Config.{Config}
use Rattle.arc_core.specs.Config.{IsConfig}
use Rattle.arc_core.specs.declared.entry.Entry.{Entry}
use Rattle.arc_core.specs.declared.entry.Picked.{Picked}
use Rattle.arc_core.specs.declared.event.Event.{Event}
use Rattle.arc_core.specs.declared.event.Event.TheVariants.{Pass, Hit, Miss, Arrive, Fail, Drop, Past, Hand, Insert, Release, Pick, FeedEnd, Set, Leave, Clear, Restore, Resize}
use Rattle.arc_core.specs.Changes.{pick_of}
use Rattle.arc_core.specs.Changing.{entry_after}
use Rattle.arc_core.specs.Digests.{same_digest}
use Rattle.arc_core.specs.Keeps.{holds_on}
use Rattle.arc_core.specs.Operations.{event_key, is_about, number_of}
use Rattle.arc_core.specs.PlainShard.{PlainShard, count_of, entry_is, entry_of, held_by, holds_of, is_absent, is_at_rest, is_free, is_number, is_unheld, numbers, no_holds, one_hold, place_of}
use Rattle.arc_core.specs.Replay.{is_legal_history, replay}
use Rattle.arc_core.specs.Rules.{access}
use Rattle.arc_core.specs.ShardLog.{ShardLog}
use Rattle.arc_core.specs.Sound.{IsSound}
use Rattle.arc_core.specs.Sparing.{IsSpared}
use Rattle.arc_core.specs.Step.{after, entry_to_read, is_writing, legal, may_be_placed, may_set}
use Rattle.arc_core.proofs.Others.{own-entry, sparing}
use Rattle.arc_core.proofs.Soundness.{IsSound-after}
use Rattle.arc_core.proofs.Sparing.{spared-held}
use Rattle.arc_core.proofs.Stepping.{prefix-legal, replay-append}
use Rattle.hash_chain.specs.Chain.{Chain}
use Rattle.turn_table.specs.Places.{Place, gave_back}
use Rattle.arc_table.specs.declared.item.Item.TheVariants as item
use Rattle.arc_table.specs.declared.view.Known.{Known}
use Rattle.arc_table.specs.declared.view.Ledger.{Ledger}
use Rattle.arc_table.specs.declared.view.Line.{Line}
use Rattle.arc_table.specs.declared.view.Line.TheVariants as line
use Rattle.arc_table.specs.declared.view.Mine.{Mine}
use Rattle.arc_table.specs.Arriving.{FindsCleared, IsReading}
use Rattle.arc_table.specs.Booking.{AreBooked, holds_after, readings_after}
use Rattle.arc_table.specs.Both.{Does, Makes, TakesBoth}
use Rattle.arc_table.specs.pact.Counted.{IsRead, readings_of}
use Rattle.arc_table.specs.scans.Ending.{DoesRoomy, MakesRoomy}
use Rattle.arc_table.specs.Fronts.{front_of}
use Rattle.arc_table.specs.Geometry.{parties_of, shard_turn}
use Rattle.arc_table.specs.Items.{Meanings, lines_in}
use Rattle.arc_table.specs.pact.Logged.{IsOwn}
use Rattle.arc_table.specs.scans.Scanning.{ArePasses, after_scan, gave_all, won_all}
use Rattle.arc_table.specs.ShardGiving.{after_shard, mines_of, passes_in, readings_through}
use Rattle.arc_table.specs.TableLaws.{within}
use Rattle.arc_table.proofs.TableLaws.{front_here}
use Rattle.arc_table.specs.Telling.{opening_of}
use Rattle.arc_table.specs.Views.{after_same, after_won}
use Rattle.arc_table.proofs.reads.ArriveEvents.{IsReadBy}
use Rattle.arc_table.proofs.Begun.{InEither, front, in_either, rest}
use Rattle.arc_table.proofs.BookedAfter.{at_rest, booked_after, both, there_is, two_le, one_le}
use Rattle.arc_table.proofs.Bookings.{readings_cons}
use Rattle.arc_table.proofs.reads.MissEvents.{suffix_legal}
use Rattle.arc_table.proofs.PassMines.{mines_of_are}
use Rattle.arc_table.proofs.Reached.{before_shard, had_seen, moment, number_below, own_number_is, reached, scene, scene_config, second, shard_is, shown, sound_log}
use Rattle.arc_table.proofs.scans.Scans.{won_mine}
use Rattle.arc_table.proofs.ShardGives.{entry_sound}

-- ---- one event

-- only the number n reads the key, as it lists it
abbrev readings_by : (n : ℕ) → Key → ℕ → List Key
readings_by n k m = if m == n then k ∷ [] else []

abbrev no_holds_by : ℕ → List Ptr
no_holds_by m = []

module _ (n : ℕ) (k : Key) (s : PlainShard) (sound : IsSound s) (number : n < numbers) (r : IsReadBy n k s) where
  -- an entry that is being read has one hold in all
  one_in_all : sum r.entry.holds ≡ 1
  one_in_all = is_one (holds_of r.entry) (both (holds_of r.entry == 1) (is_none r.entry.digest) (either (is_at_rest r.entry) (holds_of r.entry == 1 && is_none r.entry.digest) (ap not r.reading) (entry_sound k s.entries r.entry sound.tidy.entries r.there).reading)).0
    where
      is_one : (x : ℕ) → IsTrue (x == 1) → x ≡ 1
      is_one x h = grind (arith, nat_tests)

      either : (a b : Bool) → a ≡ false → IsTrue (a || b) → IsTrue b
      either true b e h = absurd (cc)
      either false b e h = h

  count_there : (m : ℕ) → count_of m k s ≡ held_by m r.entry
  count_there m = ap (λ (o : Option Entry). option_map_or (held_by m) o 0) r.there

  counts_by : (m : ℕ) → count_of m k s ≡ readings_of k (readings_by n k m)
  counts_by m = dite (ℕ_discrete m n)
      (λ q.
      let list : readings_by n k m ≡ k ∷ [] = ap (λ (b : Bool). if b then k ∷ [] else []) (eq-eqb m n q) in
      let one : readings_of k (readings_by n k m) ≡ 1 = ap (readings_of k) list ∙ (readings_cons k k [] ∙ ap (λ (b : Bool). cond {A = ℕ} b 1 0 + 0) (key_eq-same k)) in
      let same : held_by m r.entry ≡ held_by n r.entry = ap (λ (x : ℕ). held_by x r.entry) q in
      let most = one_le r.entry.holds n in let all = one_in_all in let some_hold = r.held in let c = count_there m in omega arith)
      (λ far.
      let list : readings_by n k m ≡ [] = ap (λ (b : Bool). if b then k ∷ [] else []) (ne_eqb m n far) in
      let none : readings_of k (readings_by n k m) ≡ 0 = ap (readings_of k) list in
      let most = two_le r.entry.holds m n far in let all = one_in_all in let some_hold = r.held in let c = count_there m in omega arith)

  booked : AreBooked (λ j. j ≡ k) s no_holds_by (readings_by n k)
  booked = record {
    counts = λ m j below own. subst (λ (x : Key). count_of m x s ≡ holds_on x (no_holds_by m) + readings_of x (readings_by n k m)) (sym own) (let none : holds_on k (no_holds_by m) ≡ 0 = refl in let c = counts_by m in omega arith);
    rests = λ m j h below own there. absurd (some-ne-none h (sym there));
    reads = λ m j x below own there. subst (IsRead s) (sym own) record { entry = r.entry; there = r.there; reading = r.reading };
  }

  -- another number's event lists nothing for n
  not_its : (v : Event) (ks : List Key) → number_of v ≢ n → readings_after n v ks ≡ ks
  not_its (Miss a j t) ks far = ap (λ (b : Bool). if b then j ∷ ks else ks) (ne_eqb n a (λ e. far (sym e)))
  not_its (Arrive a j d from) ks far = ap (λ (b : Bool). if b then Rattle.arc_table.specs.Booking.without_reading j ks else ks) (ne_eqb n a (λ e. far (sym e)))
  not_its (Fail a j at) ks far = ap (λ (b : Bool). if b then Rattle.arc_table.specs.Booking.without_reading j ks else ks) (ne_eqb n a (λ e. far (sym e)))
  not_its (Pass a j owner) ks far = refl
  not_its (Hit a j t) ks far = refl
  not_its (Drop a j) ks far = refl
  not_its (Past a j kept) ks far = refl
  not_its (Hand a j to) ks far = refl
  not_its (Insert a j d t) ks far = refl
  not_its (Release a j sole) ks far = refl
  not_its (Pick a j) ks far = refl
  not_its (FeedEnd a) ks far = refl
  not_its (Set a j place) ks far = refl
  not_its (Leave a j why) ks far = refl
  not_its (Clear a j) ks far = refl
  not_its (Restore a j place d) ks far = refl
  not_its (Resize a c) ks far = refl

  module _ (v : Event) (ok : IsTrue (legal s v)) (far : number_of v ≢ n) where
    -- an event about the key
    own_read : event_key v ≡ Some k → IsReadBy n k (after s v)
    own_read key =
        let a = booked_after (λ (j : Key). j ≡ k) s v no_holds_by (readings_by n k) sound ok (λ j e. some_is j k (sym e ∙ key)) booked in
        let its : readings_after n v (readings_by n k n) ≡ k ∷ [] = not_its v (readings_by n k n) far ∙ ap (λ (b : Bool). if b then k ∷ [] else []) (eq-eqb n n refl) in
        let x = a.reads n 0 k number refl (ap (λ (ks : List Key). get_elem? ks 0) its) in
        let c = a.counts n k number refl in
        let one : readings_of k (readings_after n v (readings_by n k n)) ≡ 1 = ap (readings_of k) its ∙ (readings_cons k k [] ∙ ap (λ (b : Bool). cond {A = ℕ} b 1 0 + 0) (key_eq-same k)) in
        let there : count_of n k (after s v) ≡ held_by n x.entry = ap (λ (o : Option Entry). option_map_or (held_by n) o 0) x.there in
        record { entry = x.entry; there = x.there; reading = x.reading; held = omega arith }
      where
        some_is : (x y : Key) → ◌≡◌ {A = Option Key} (Some x) (Some y) → x ≡ y
        some_is x y e = cc

    -- another key's event leaves the entry as it was
    other_same : is_about k v ≡ false → entry_of k (after s v) ≡ Some r.entry
    other_same f =
        let busy : is_free r.entry ≡ false = never (is_unheld r.entry) (is_at_rest r.entry) (ap not r.reading) in
        spared-held r.entry (entry_of k (after s v)) busy (subst (λ (o : Option Entry). IsSpared o (entry_of k (after s v))) r.there (sparing s v k sound ok (ap not f)))
      where
        never : (a c : Bool) → c ≡ false → a && c ≡ false
        never true c h = h
        never false c h = refl

    other_read : is_about k v ≡ false → IsReadBy n k (after s v)
    other_read f = record { entry = r.entry; there = other_same f; reading = r.reading; held = r.held }

-- the place of a key goes, or is as it was
abbrev pub KeepsPlace : Option ℕ → Option ℕ → Type 0
KeepsPlace old new = (new ≡ None) ⊎ (new ≡ old)

module _ (k : Key) (s : PlainShard) (sound : IsSound s) (x : Entry) (there : entry_of k s ≡ Some x) (reading : x.reading ≡ true) where
  some_key : (j : Key) → ◌≡◌ {A = Option Key} (Some j) (Some k) → j ≡ k
  some_key j e = cc

  abbrev place_is : (o : Option Entry) → Option ℕ
  place_is o = option_and_then (λ e. e.place) o

  -- no place is set on what is being read
  no_set : IsTrue (may_set k s) → ⊥
  no_set may = by_pick (pick_of k s.picked) refl
    where
      by_pick : (o : Option Picked) → pick_of k s.picked ≡ o → ⊥
      by_pick None f = let g : false ≡ true = sym (ap (λ (z : Option Picked). option_map_or (λ (pick : Picked). entry_is (may_be_placed pick) k s) z false) f) ∙ may in absurd (cc)
      by_pick (Some pick) f =
          let y = there_is (may_be_placed pick) k s (sym (ap (λ (z : Option Picked). option_map_or (λ (pick : Picked). entry_is (may_be_placed pick) k s) z false) f) ∙ may) in
          let rests : y.0.reading ≡ false = at_rest y.0.reading (both (is_at_rest y.0) (same_digest y.0.digest pick.digest && is_none y.0.place) (both (is_cached y.0.state || is_ghost y.0.state) (is_at_rest y.0 && (same_digest y.0.digest pick.digest && is_none y.0.place)) y.2).1).0 in
          let same : y.0 ≡ x = one_entry y.0 x (sym y.1 ∙ there) in
          let g : false ≡ true = sym rests ∙ (ap (λ (z : Entry). z.reading) same ∙ reading) in absurd (cc)
        where
          one_entry : (a b : Entry) → ◌≡◌ {A = Option Entry} (Some a) (Some b) → a ≡ b
          one_entry a b e = cc

  access_place : (state : State) (t : ℕ) → (access state s.mintime t x).place ≡ x.place
  access_place Mru t = by_time (nat_lt (x.last + s.mintime) t)
    where
      by_time : (b : Bool) → (if b then record x { state = Mfu; last = t } else x).place ≡ x.place
      by_time true = refl
      by_time false = refl
  access_place Mfu t = refl
  access_place Anon t = refl
  access_place MruGhost t = refl
  access_place MfuGhost t = refl
  access_place L2Only t = refl

  after_place : (v : Event) → IsTrue (legal s v) → event_key v ≡ Some k → KeepsPlace x.place (place_is (entry_after s.mintime v (Some x)))
  after_place (Pass a j owner) ok key = inr refl
  after_place (Hit a j t) ok key = inr (access_place x.state t)
  after_place (Miss a j t) ok key = inr refl
  after_place (Arrive a j d from) ok key = inr refl
  after_place (Fail a j at) ok key = inl refl
  after_place (Drop a j) ok key = inr refl
  after_place (Past a j kept) ok key = inr refl
  after_place (Hand a j to) ok key = inr refl
  after_place (Insert a j d t) ok key = inl refl
  after_place (Release a j true) ok key = inl refl
  after_place (Release a j false) ok key = inr refl
  after_place (Pick a j) ok key = inr refl
  after_place (FeedEnd a) ok key = inr refl
  after_place (Leave a j why) ok key = inr refl
  after_place (Clear a j) ok key = inl (gone (is_same_state x.state L2Only))
    where
      gone : (c : Bool) → place_is (if c then None else Some (record x { place = None })) ≡ None
      gone true = refl
      gone false = refl
  after_place (Set a j place) ok key = absurd (no_set (subst (λ (z : Key). IsTrue (may_set z s)) (some_key j key) (both (is_writing s.phase) (may_set j s) (both (is_number a) (is_writing s.phase && may_set j s) ok).1).1))
  after_place (Restore a j place d) ok key =
      let h : IsTrue (is_absent k s) = subst (λ (z : Key). IsTrue (is_absent z s)) (some_key j key) (both (is_well_formed j) (is_absent j s) (both (is_number a) (is_well_formed j && is_absent j s) ok).1).1 in
      let f : false ≡ true = ap (λ (o : Option Entry). not (is_some o)) (sym there) ∙ h in absurd (cc)
  after_place (Resize a c) ok key = inr refl

-- ---- many events

-- the number n reads the key, whose place is this one, or was cleared since
pub record IsAwaited (n : ℕ) (k : Key) (place : Option ℕ) (s : PlainShard) : Type 0 where
  pub read : IsReadBy n k s
  pub place_now : KeepsPlace place (place_of k s)

kept_then : (a b c : Option ℕ) → KeepsPlace a b → KeepsPlace b c → KeepsPlace a c
kept_then a b c h (inl e) = inl e
kept_then a b c (inl f) (inr e) = inl (e ∙ f)
kept_then a b c (inr f) (inr e) = inr (e ∙ f)

one_more_event : (n : ℕ) (k : Key) (place : Option ℕ) (s : PlainShard) (v : Event) → IsSound s → n < numbers → IsTrue (legal s v) → number_of v ≢ n → IsAwaited n k place s → IsAwaited n k place (after s v)
one_more_event n k place s v sound number ok far w = by_key (is_about k v) refl
  where
    of_key : (o : Option Key) → event_key v ≡ o → option_map_or (key_eq k) o false ≡ true → event_key v ≡ Some k
    of_key None f h = absurd (cc)
    of_key (Some j) f h = f ∙ ap (λ (z : Key). let o : Option Key = Some z in o) (sym (key_eq-is k j h))

    there_place : place_of k s ≡ w.read.entry.place
    there_place = ap (option_and_then (λ (e : Entry). e.place)) w.read.there

    by_key : (c : Bool) → is_about k v ≡ c → IsAwaited n k place (after s v)
    by_key false f = record {
      read = other_read n k s sound number w.read v ok far f;
      place_now = subst (KeepsPlace place) (there_place ∙ sym (ap (option_and_then (λ (e : Entry). e.place)) (other_same n k s sound number w.read v ok far f))) w.place_now;
    }
    by_key true f =
        let key = of_key (event_key v) refl f in
        let now : entry_of k (after s v) ≡ entry_after s.mintime v (Some w.read.entry) = own-entry s v k sound ok key ∙ ap (entry_after s.mintime v) w.read.there in record {
          read = own_read n k s sound number w.read v ok far key;
          place_now = kept_then place (place_of k s) (place_of k (after s v)) w.place_now
              (subst (λ (z : Option ℕ × Option ℕ). KeepsPlace z.0 z.1) (λ z. (sym there_place z, sym (ap (option_and_then (λ (e : Entry). e.place)) now) z)) (after_place k s sound w.read.entry w.read.there w.read.reading v ok key));
        }

pub awaited_through : (n : ℕ) (k : Key) (place : Option ℕ) (es : List Event) (s : PlainShard) → IsSound s → n < numbers → IsTrue (is_legal_history s es) → ((j : ℕ) (e : Event) → get_elem? es j ≡ some e → number_of e ≢ n)
    → IsAwaited n k place s → IsAwaited n k place (replay s es)
awaited_through n k place [] s sound number ok far w = w
awaited_through n k place (e ∷ es) s sound number ok far w =
    let two = both (legal s e) (is_legal_history (after s e) es) ok in
    awaited_through n k place es (after s e) (IsSound-after s e sound two.0) number two.1 (λ j x there. far (suc j) x there) (one_more_event n k place s e sound number two.0 (far 0 e refl) w)

pub sound_through : (es : List Event) (s : PlainShard) → IsSound s → IsTrue (is_legal_history s es) → IsSound (replay s es)
sound_through [] s sound ok = sound
sound_through (e ∷ es) s sound ok = let two = both (legal s e) (is_legal_history (after s e) es) ok in sound_through es (after s e) (IsSound-after s e sound two.0) two.1

-- ---- what the reader knows

module _ {C : Type 0} where
  -- The party is reading the key: it has seen this much of the shard's history, where the key is being read by it, with this place or none,
  -- and has no line of its own behind that
  pub record Awaits (g : Config) (k : Key) (place : Option ℕ) (p : Place (Known C)) : Type 0 where
    pub history : List Event
    pub seen : front_of (shard_turn g k) p.own.seen ≡ map line.Event history
    pub sound : IsSound (replay (opening_of g) history)
    pub awaited : IsAwaited p.number k place (replay (opening_of g) history)
    pub lines : (j : ℕ) (a : Mine) → get_elem? p.own.mine j ≡ some a → a.turn ≡ shard_turn g k → a.place < length history

-- the events that a list begins with, and then has
events_behind : (xs ys : List Event) (more : List Line) → ◌≡◌ {A = List Line} (map line.Event xs) (map line.Event ys ++ more) → xs ≡ ys ++ drop (length ys) xs
events_behind xs [] more e = refl
events_behind [] (y ∷ ys) more e = absurd (cc)
events_behind (x ∷ xs) (y ∷ ys) more e =
    let h : line.Event x ≡ line.Event y = cc in
    let same : x ≡ y = one_event x y h in
    let t : ◌≡◌ {A = List Line} (map line.Event xs) (map line.Event ys ++ more) = cc in
    (λ z. same z ∷ events_behind xs ys more t z)
  where
    one_event : (a b : Event) → line.Event a ≡ line.Event b → a ≡ b
    one_event a b q = cc

get_behind : {A : Type 0} (xs ys : List A) (j : ℕ) (a : A) → get_elem? ys j ≡ some a → get_elem? (xs ++ ys) (length xs + j) ≡ some a
get_behind [] ys j a e = subst (λ (i : ℕ). get_elem? ys i ≡ some a) (let i : j ≡ 0 + j = omega arith in i) e
get_behind (x ∷ xs) ys j a e = subst (λ (i : ℕ). get_elem? (x ∷ (xs ++ ys)) i ≡ some a) (let i : suc (length xs + j) ≡ length (x ∷ xs) + j = omega arith in i) (get_behind xs ys j a e)

get_mapped : {A B : Type 0} (f : A → B) (xs : List A) (j : ℕ) (a : A) → get_elem? xs j ≡ some a → get_elem? (map f xs) j ≡ some (f a)
get_mapped f [] j a e = absurd (some-ne-none a (sym e))
get_mapped f (x ∷ xs) zero a e = ap (λ y. some (f y)) (some-injective x a e)
get_mapped f (x ∷ xs) (suc j) a e = get_mapped f xs j a e

module _ {C : Type 0} (m : Meanings C) (g : Config) (k : Key) (chain : Chain) (before : ShardLog) (p q : Place (Known C)) (t : TakesBoth m g k chain before p q) (same : p.own.about.config ≡ g) (valid : IsConfig g) where
  abbrev then : Place (Known C)
  then = before_shard m g k chain before p q t

  number_then : then.number ≡ p.number
  number_then = sym (second m g k chain before p q t).number ∙ (reached m g k chain before p q t).number

  -- the party's lines then
  mine_then : (scene m g k chain before p q t same valid).mine then.number ≡ p.own.mine
  mine_then = sym (shown m g k chain before p q t same valid).mine ∙ (sym (ap (λ (x : Place (Known C)). x.own.mine) t.shard.took) ∙ (reached m g k chain before p q t).mine)

  -- the history of the shard then
  lines_then : lines_in m ((scene m g k chain before p q t same valid).now (shard_turn g k)) ≡ map line.Event before.history
  lines_then = ap (lines_in m) (shard_is m g k chain before p q t same valid)

  -- each line of the party's own is one of the history
  pub lines_within : (j : ℕ) (a : Mine) → get_elem? p.own.mine j ≡ some a → a.turn ≡ shard_turn g k → a.place < length before.history
  lines_within j a there turn =
      let h = (moment m g k chain before p q t).held.logged.stand then.number j a (subst (λ (l : List Mine). get_elem? l j ≡ some a) (sym mine_then) there) in
      let long : length (lines_in m ((scene m g k chain before p q t same valid).now a.turn)) ≡ length before.history =
      ap (λ (x : ℕ). length (lines_in m ((scene m g k chain before p q t same valid).now x))) turn ∙ (ap length lines_then ∙ length-map before.history line.Event) in
      let below = h.0 in omega arith

  module _ (place : Option ℕ) (w : Awaits g k place p) where
    abbrev behind : List Event
    behind = drop (length w.history) before.history

    history_is : before.history ≡ w.history ++ behind
    history_is = let h = had_seen m g k chain before p q t same valid in
        events_behind before.history w.history h.0 (h.1 ∙ ap (λ (l : List Line). l ++ h.0) w.seen)

    -- none of the lines behind what the party had seen is its own
    not_own : (j : ℕ) (e : Event) → get_elem? behind j ≡ some e → number_of e ≢ p.number
    not_own j e there is =
        let sc = scene m g k chain before p q t same valid in
        let i = shard_turn g k in
        let pos : ℕ = length w.history + j in
        let logged = (moment m g k chain before p q t).held.logged in
        let at : get_elem? (lines_in m (sc.now i)) pos ≡ some (line.Event e) =
        ap (λ (l : List Line). get_elem? l pos) lines_then ∙ get_mapped line.Event before.history pos e (ap (λ (l : List Event). get_elem? l pos) history_is ∙ get_behind w.history behind j e there) in
        let of : IsOwn sc.about.config (sc.owner i pos) (line.Event e) = logged.own i pos (line.Event e) at in
        let config : sc.about.config ≡ g = scene_config m g k chain before p q t same valid in
        let parties : parties_of sc.about.config ≡ parties_of g = ap parties_of config in
        let mine_number : p.number < parties_of g = let a = number_below m g k chain before p q t same valid in let b = (reached m g k chain before p q t).number in omega arith in
        let owner : sc.owner i pos ≡ then.number = sym (of.maker (omega arith)) ∙ (is ∙ sym number_then) in
        let h = logged.places i pos (within (lines_in m (sc.now i)) pos (line.Event e) at) in
        let listed : get_elem? p.own.mine h.index ≡ some h.line = subst (λ (l : List Mine). get_elem? l h.index ≡ some h.line) (ap sc.mine owner ∙ mine_then) h.at in
        let below = w.lines h.index h.line listed h.turn in
        let stands = h.place in
        omega arith

    -- the key is being read still, and its place is as the party knew it, or none
    pub awaited_now : IsAwaited p.number k place before.now
    awaited_now =
        let log = sound_log m g k chain before p q t same valid in
        let few : p.number < numbers = let a = number_below m g k chain before p q t same valid in let b = (reached m g k chain before p q t).number in let c = valid.counts.callers.1 in omega arith in
        let legal_all : IsTrue (is_legal_history (opening_of g) (w.history ++ behind)) = subst (λ (x : PlainShard × List Event). IsTrue (is_legal_history x.0 x.1)) (λ z. (log.opening z, history_is z)) log.replayed.legal in
        let now : replay (replay (opening_of g) w.history) behind ≡ before.now =
        sym (replay-append (opening_of g) w.history behind) ∙ (ap (λ (x : PlainShard × List Event). replay x.0 x.1) (λ z. (sym log.opening z, sym history_is z)) ∙ log.replayed.replayed) in
        subst (IsAwaited p.number k place) now
        (awaited_through p.number k place behind (replay (opening_of g) w.history) w.sound few (suffix_legal (opening_of g) w.history behind legal_all) not_own w.awaited)

    -- and a party that gave both back without an event goes on to await it
    pub awaits_again : (r : Place (Known C)) → Makes m g k before [] q r → Awaits g k (place_of k before.now) r
    awaits_again r made =
        let log = sound_log m g k chain before p q t same valid in
        let number : r.number ≡ p.number = ap (λ (x : Place (Known C)). x.number) made.gave ∙ (reached m g k chain before p q t).number in
        let all : made.after.history ≡ before.history = made.history ∙ Rattle.std.proofs.Common.append-nil before.history in
        let mine : r.own.mine ≡ p.own.mine = ap (λ (x : Place (Known C)). x.own.mine) made.gave ∙ (Rattle.std.proofs.Common.append-nil q.own.mine ∙ (reached m g k chain before p q t).mine) in
        let now : replay (opening_of g) before.history ≡ before.now = ap (λ (s : PlainShard). replay s before.history) (sym log.opening) ∙ log.replayed.replayed in record {
          history = before.history;
          seen = ap (λ (x : Place (Known C)). front_of (shard_turn g k) x.own.seen) made.gave ∙ (front_here (shard_turn g k) (map line.Event made.after.history) q.own.seen ∙ ap (map line.Event) all);
          sound = subst IsSound (sym now) log.replayed.sound;
          awaited = subst (λ (x : ℕ × PlainShard). IsAwaited x.0 k (place_of k before.now) x.1) (λ z. (sym number z, sym now z)) record { read = awaited_now.read; place_now = inr refl };
          lines = λ j a there turn. lines_within j a (subst (λ (l : List Mine). get_elem? l j ≡ some a) mine there) turn;
        }

-- ---- after the miss

module _ {C : Type 0} (m : Meanings C) where
  won_number : (vs : List (ℕ × Chain)) (w : Known C) → (won_all m vs w).number ≡ w.number
  won_number [] w = refl
  won_number (v ∷ vs) w = won_number vs (after_won m v.0 (item.Bucket v.1) w)

  won_ledger : (vs : List (ℕ × Chain)) (w : Known C) → (won_all m vs w).ledger ≡ w.ledger
  won_ledger [] w = refl
  won_ledger (v ∷ vs) w = won_ledger vs (after_won m v.0 (item.Bucket v.1) w)

-- buckets given back leave all but the records
pub record GaveAll {C : Type 0} (p r : Place (Known C)) : Type 0 where
  pub number : r.number ≡ p.number
  pub seen : r.own.seen ≡ p.own.seen
  pub mine : r.own.mine ≡ p.own.mine
  pub ledger : r.own.ledger ≡ p.own.ledger

gave_kept : {C : Type 0} (vs : List (ℕ × Chain)) (p : Place (Known C)) → GaveAll p (gave_all vs p)
gave_kept [] p = record { number = refl; seen = refl; mine = refl; ledger = refl }
gave_kept (v ∷ vs) p = let h = gave_kept vs (gave_back p v.0 (after_same v.0 p.own)) in record { number = h.number; seen = h.seen; mine = h.mine; ledger = h.ledger }

-- passes leave what a number reads
through_passes : (g : Config) (n i a t : ℕ) (k : Key) (es : List Event) (ks : List Key) → ArePasses g n i es → readings_through a (es ++ Miss a k t ∷ []) ks ≡ k ∷ ks
through_passes g n i a t k [] ks h = ap (λ (b : Bool). if b then k ∷ ks else ks) (eq-eqb a a refl)
through_passes g n i a t k (Pass b x owner ∷ es) ks h = through_passes g n i a t k es ks h.1
through_passes g n i a t k (_ ∷ es) ks h = absurd h

-- and the entries of the shard
entries_through : (g : Config) (n i : ℕ) (k : Key) (s : PlainShard) (es : List Event) → ArePasses g n i es → entry_of k (replay s es) ≡ entry_of k s
entries_through g n i k s [] h = refl
entries_through g n i k s (Pass b x owner ∷ es) h = entries_through g n i k (after s (Pass b x owner)) es h.1
entries_through g n i k s (_ ∷ es) h = absurd h

held_one : (n : ℕ) → n < numbers → 0 < get_or (one_hold n) n 0
held_one n few = let one : get_or (one_hold n) n 0 ≡ 1 = get_or-set_same no_holds n 1 0 few in omega arith

module _ {C : Type 0} (m : Meanings C) (g : Config) (k : Key) (chain : Chain) (before : ShardLog) (tick : ℕ) (p q r : Place (Known C)) (t : TakesBoth m g k chain before p q) (same : p.own.about.config ≡ g) (valid : IsConfig g)
    (made : MakesRoomy m g k before (Miss q.number k tick) q r) where
  abbrev es : List Event
  es = made.passes ++ Miss q.number k tick ∷ []

  abbrev scanned : Place (Known C)
  scanned = after_scan m g (shard_turn g k) (length before.history) made.won made.passes q

  gave : GaveAll (gave_back scanned (shard_turn g k) (after_shard m made.gives.given (shard_turn g k) before es made.after scanned.own)) r
  gave = subst (GaveAll (gave_back scanned (shard_turn g k) (after_shard m made.gives.given (shard_turn g k) before es made.after scanned.own))) (sym made.gives.gave) (gave_kept made.gives.given _)

  -- the party lists the reading
  pub miss_lists_reading : IsReading k r
  miss_lists_reading =
      let number : scanned.own.number ≡ q.number = won_number m made.won q.own ∙ own_number_is m g k chain before p q t same valid in
      let list : r.own.ledger.readings ≡ k ∷ scanned.own.ledger.readings = ap (λ (l : Ledger). l.readings) gave.ledger
      ∙ (ap (λ (n : ℕ). readings_through n es scanned.own.ledger.readings) number ∙ through_passes g q.number (shard_turn g k) q.number tick k made.passes scanned.own.ledger.readings made.own) in
      (0, ap (λ (ks : List Key). get_elem? ks 0) list)

  -- and awaits the bytes, at the place that the entry had
  pub miss_awaits : Awaits g k (place_of k before.now) r
  miss_awaits =
      let log = sound_log m g k chain before p q t same valid in
      let i = shard_turn g k in
      let few : q.number < numbers = let a = number_below m g k chain before p q t same valid in let c = valid.counts.callers.1 in omega arith in
      let legal_all : IsTrue (is_legal_history before.now es) = made.legal in
      let mid : PlainShard = replay before.now made.passes in
      let mid_sound : IsSound mid = sound_through made.passes before.now log.replayed.sound (prefix-legal before.now made.passes (Miss q.number k tick ∷ []) legal_all) in
      let miss_ok : IsTrue (legal mid (Miss q.number k tick)) = (both (legal mid (Miss q.number k tick)) true (suffix_legal before.now made.passes (Miss q.number k tick ∷ []) legal_all)).0 in
      let entry : entry_of k (replay before.now es) ≡ Some (entry_to_read q.number k tick (entry_of k before.now)) =
      ap (entry_of k) (replay-append before.now made.passes (Miss q.number k tick ∷ []))
      ∙ (own-entry mid (Miss q.number k tick) k mid_sound miss_ok refl ∙ ap (λ (o : Option Entry). Some (entry_to_read q.number k tick o)) (entries_through g q.number i k before.now made.passes made.own)) in
      let now : replay (opening_of g) (before.history ++ es) ≡ replay before.now es =
      replay-append (opening_of g) before.history es ∙ ap (λ (s : PlainShard). replay s es) (ap (λ (s : PlainShard). replay s before.history) (sym log.opening) ∙ log.replayed.replayed) in
      let place : place_of k (replay before.now es) ≡ place_of k before.now = ap (option_and_then (λ (e : Entry). e.place)) entry in
      record {
        history = before.history ++ es;
        seen = ap (front_of i) gave.seen ∙ (front_here i (map line.Event made.after.history) scanned.own.seen ∙ ap (map line.Event) made.history);
        sound = subst IsSound (sym now) (sound_through es before.now log.replayed.sound legal_all);
        awaited = subst (λ (x : ℕ × PlainShard). IsAwaited x.0 k (place_of k before.now) x.1) (λ z. (sym gave.number z, sym now z)) record {
          read = record { entry = entry_to_read q.number k tick (entry_of k before.now); there = entry; reading = refl; held = held_one q.number few };
          place_now = inr place;
        };
        lines = λ j a there turn.
            let long : length (before.history ++ es) ≡ length before.history + length es = length-append before.history es in
            let listed : get_elem? (q.own.mine ++ mines_of i (length before.history) (length scanned.own.notes - passes_in es) es) j ≡ some a =
            subst (λ (l : List Mine). get_elem? l j ≡ some a) (gave.mine ∙ ap (λ (l : List Mine). l ++ mines_of i (length before.history) (length scanned.own.notes - passes_in es) es) (won_mine m made.won q.own)) there in
            line_within long j a turn listed;
      }
    where
      line_within : length (before.history ++ es) ≡ length before.history + length es → (j : ℕ) (a : Mine) → a.turn ≡ shard_turn g k
          → get_elem? (q.own.mine ++ mines_of (shard_turn g k) (length before.history) (length scanned.own.notes - passes_in es) es) j ≡ some a → a.place < length (before.history ++ es)
      line_within long j a turn there = pick (in_either q.own.mine (mines_of (shard_turn g k) (length before.history) (length scanned.own.notes - passes_in es) es) j a there)
        where
          pick : InEither q.own.mine (mines_of (shard_turn g k) (length before.history) (length scanned.own.notes - passes_in es) es) j a → a.place < length (before.history ++ es)
          pick (front e) =
              let below = lines_within m g k chain before p q t same valid j a (subst (λ (l : List Mine). get_elem? l j ≡ some a) (reached m g k chain before p q t).mine e) turn in omega arith
          pick (rest x is e) =
              let news = mines_of_are (shard_turn g k) (length before.history) (length scanned.own.notes - passes_in es) es in
              let h = (news.each x a e).1 in
              let w = within (mines_of (shard_turn g k) (length before.history) (length scanned.own.notes - passes_in es) es) x a e in
              let count = news.long in omega arith

-- ---- what a call that reads rests on

module _ {C : Type 0} (m : Meanings C) (g : Config) (k : Key) (valid : IsConfig g) (tick n : ℕ) (p q : Place (Known C)) (same : p.own.about.config ≡ g) (is_its : n ≡ p.number) (miss : DoesRoomy m g k (Miss n k tick) p q) where
  number_is : n ≡ miss.reached.number
  number_is = is_its ∙ sym (reached m g k miss.chain miss.before p miss.reached miss.takes).number

  made_its : MakesRoomy m g k miss.before (Miss miss.reached.number k tick) miss.reached q
  made_its = subst (λ (x : ℕ). MakesRoomy m g k miss.before (Miss x k tick) miss.reached q) number_is miss.makes

  -- a party lists the reading that it has begun
  pub reading_begun : IsReading k q
  reading_begun = miss_lists_reading m g k miss.chain miss.before tick p miss.reached q miss.takes same valid made_its

  pub begun_awaits : Awaits g k (place_of k miss.before.now) q
  begun_awaits = miss_awaits m g k miss.chain miss.before tick p miss.reached q miss.takes same valid made_its

  -- the place that the entry has at the end of the read is the one that it had at the miss, or the feeder cleared it in between
  pub place_kept : q.own.about.config ≡ g → (vs : List Event) (r : Place (Known C)) (end : Does m g k vs q r) → KeepsPlace (place_of k miss.before.now) (place_of k end.before.now)
  place_kept still vs r end = (awaited_now m g k end.chain end.before q end.reached end.takes still valid (place_of k miss.before.now) begun_awaits).place_now

  -- and where it was found cleared, it has none at the end
  pub place_gone : q.own.about.config ≡ g → (r : Place (Known C)) → r.own.about.config ≡ g → FindsCleared m g k q r → (vs : List Event) (z : Place (Known C)) (end : Does m g k vs r z) → place_of k end.before.now ≡ None
  place_gone still r same_r found vs z end =
      let d = found.does in
      let again = awaits_again m g k d.chain d.before q d.reached d.takes still valid (place_of k miss.before.now) begun_awaits r d.makes in
      none_kept (awaited_now m g k end.chain end.before r end.reached end.takes same_r valid (place_of k d.before.now) again).place_now
    where
      none_kept : KeepsPlace (place_of k found.does.before.now) (place_of k end.before.now) → place_of k end.before.now ≡ None
      none_kept (inl e) = e
      none_kept (inr e) = e ∙ found.cleared

-- a party reads still what it read, once it has taken both and given them back without an event
pub reading_stays : {C : Type 0} (m : Meanings C) (g : Config) (k : Key) (p q : Place (Known C)) → Does m g k [] p q → (j : Key) → IsReading j p → IsReading j q
reading_stays {C} m g k p q d j one =
    (one.0, ap (λ (x : Place (Known C)). get_elem? x.own.ledger.readings one.0) d.makes.gave ∙ (ap (λ (l : Ledger). get_elem? l.readings one.0) (reached m g k d.chain d.before p d.reached d.takes).ledger ∙ one.1))
