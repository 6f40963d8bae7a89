-- A shard is given back, with buckets in hand.
use Rattle.std.proofs.Common.{◌≡◌, ◌≢◌, ◌⊎◌, ◌==◌, if◌then◌else◌, ℕ, zero, suc, ◌+◌, ◌-◌, ◌<◌, ◌≤◌, List, [], ◌∷◌, ◌++◌, length, map, set, Bool, true, false, Option, Some, None, refl, sym, ap, ◌∙◌, subst, inl, inr, ⊎_elim, eq-eqb, ne_eqb, arith, length-set, lt_of_not-le}
use Rattle.std.specs.Prelude.{IsTrue, MatchOption, nat_lt, not, ◌&&◌}
use Rattle.blk_ptr.specs.declared.digest.Digest.{Digest}
use Rattle.blk_ptr.specs.Ptr.{sha256_of}
use Rattle.arc_core.proofs.Others.{frame-kept}
use Rattle.arc_core.proofs.Stepping.{replay-append}
use Rattle.std.specs.Option.{option_map_or}
use Rattle.std.proofs.lemmas.Bool.Decides.{nat_tests}
use Rattle.std.proofs.lemmas.List.{get_or_past, length-map}
use Rattle.std.specs.List.{AllByRecursion}
use Rattle.arc_lists.specs.ByKey as by_key
use Rattle.arc_core.specs.Sound.{IsSoundEntry, IsTidy}
use Rattle.std.proofs.lemmas.Option.{none-some}
use mathlib.Core.Option.{some, some-injective, some-ne-none}
use mathlib.Core.Logic.{dite}
use native.Mathlib.Decide.{dec_le, ℕ_discrete}
use lib.ListN.{get_elem?}
use Rattle.atomic_table.proofs.Lists.{at_set}
use Rattle.blk_ptr.specs.declared.key.Key.{Key}
use Rattle.blk_ptr.specs.declared.ptr.Ptr.{Ptr}
use Rattle.blk_ptr.specs.Order.{key_eq}
use Rattle.blk_ptr.proofs.Keys.{key_eq-is}
use Rattle.arc_core.specs.declared.config.Config.{Config}
use Rattle.arc_core.specs.Config.{IsConfig}
use Rattle.arc_core.specs.declared.entry.Entry.{Entry}
use Rattle.arc_core.specs.declared.event.Event.{Event}
use Rattle.arc_core.specs.declared.event.Event.TheVariants.{Pass, Hit, Miss, Arrive, Fail, Drop, Past, Hand, Insert, Release, Pick, FeedEnd, Set, Leave, Clear, Restore, Resize}
use Rattle.arc_core.specs.Keeps.{holds_on}
use Rattle.arc_core.specs.Operations.{is_of_feed, number_of}
use Rattle.arc_core.specs.PlainShard.{PlainShard, count_of, entry_key, entry_of, held_by, is_resident, numbers}
use Rattle.arc_core.specs.Replay.{is_legal_history, replay}
use Rattle.arc_core.specs.ShardLog.{ShardLog}
use Rattle.arc_core.specs.Step.{after, legal}
use Rattle.hash_chain.specs.Chain.{Chain, header_at}
use Rattle.hash_chain.specs.declared.header.Header.{Header}
use Rattle.turn_table.specs.Board.{Turn, free, taken, Board, IsAmong, IsTaken, Knows}
use Rattle.turn_table.specs.Moments.{MayGive, Stands}
use Rattle.turn_table.specs.Places.{Place}
use Rattle.turn_table.proofs.Moments.{taken_at}
use Rattle.arc_table.specs.declared.item.Item.{Item}
use Rattle.arc_table.specs.declared.item.Item.TheVariants as item
use Rattle.arc_table.specs.declared.view.Known.{Known}
use Rattle.arc_table.specs.declared.view.Ledger.{Ledger}
use Rattle.arc_table.specs.declared.view.Line.{Line}
use Rattle.arc_table.specs.declared.view.Line.TheVariants as line
use Rattle.arc_table.specs.declared.view.Mine.{Mine}
use Rattle.arc_table.specs.declared.view.Note.{Note}
use Rattle.arc_table.specs.pact.Attached.{Attached, IsKind, IsShown}
use Rattle.arc_table.specs.Booking.{AreBooked, IsBookedAfter}
use Rattle.arc_table.specs.pact.Counted.{Counted, IsRead, Rests, begun, readings_of, shard_at}
use Rattle.arc_table.specs.Fronts.{item_at, list_at, put, with_at, without_item}
use Rattle.arc_table.specs.Geometry.{IsBucket, IsCell, IsShard, bucket_turn, cell_number, parties_of, numbers_of, shard_turn, turns_of}
use Rattle.arc_table.specs.pact.Headed.{HasBlock, Headed, IsHead}
use Rattle.arc_table.specs.Items.{Meanings, claims_in, headers_in, holds_in, lines_in, shard_in}
use Rattle.arc_table.specs.pact.Logged.{IsOwn, IsSoundItem, IsSoundLog, Logged}
use Rattle.arc_table.specs.pact.Passed.{IsPassNoted, Passed}
use Rattle.arc_table.specs.pact.Rule.{Pact}
use Rattle.arc_table.specs.pact.Scene.{Scene}
use Rattle.arc_table.specs.ShardGiving.{ActsFor, AreAlike, ArePassesNoted, IsActor, IsGivenShard, SameHead, after_shard, buckets_in, holds_through, ledger_through, listed_after, mines_of, passes_in, readings_through}
use Rattle.arc_table.specs.pact.AttachedLaws.{StillTaken, attached_moved, free_taken, mine, theirs}
use Rattle.arc_table.proofs.AttachedLaws.{free_same}
use Rattle.arc_table.specs.TableLaws.{at_here, at_else, list_here, list_else, same_at, within}
use Rattle.arc_table.proofs.TableLaws.{without_else}
use Rattle.arc_table.proofs.Appending.{AreMines, Appends, append_logged, append_passed, appended, owned, owned_new}
use Rattle.arc_table.proofs.Boards.{bucket_of, in_hand}
use Rattle.arc_table.proofs.Bookings.{AllFar, AllNoMiss, AllNotOf, AllOwn, IsNoMiss, IsNotGiven, booked_through, holds_through_come, holds_through_else, holds_through_far, readings_through_come, readings_through_else, readings_through_far, readings_through_none}
use Rattle.arc_table.proofs.Ranges.{bucket_range}
use Rattle.arc_table.proofs.PassMines.{ArePassesOf, mines_noted, mines_of_are, notes_rise, notes_since}

-- ---- lists and tables

pub option_case : {A : Type 0} (o : Option A) → (o ≡ None) ⊎ ((a : A) × (o ≡ Some a))
option_case None = inl refl
option_case (Some a) = inr (a, refl)

map_join : {A B : Type 0} (f : A → B) (xs ys : List A) → map f (xs ++ ys) ≡ map f xs ++ map f ys
map_join f [] ys = refl
map_join f (x ∷ xs) ys = ap (λ l. f x ∷ l) (map_join f xs ys)

-- records of buckets in hand stand before the others
pub front_items : {C : Type 0} (j : ℕ) (hand : List (ℕ × Chain)) (b : Chain) (rest : List (ℕ × Item C)) → item_at j hand ≡ Some b → item_at j (buckets_in hand ++ rest) ≡ Some (item.Bucket b)
front_items j [] b rest e = absurd (none-some b e)
front_items {C} j (x ∷ hand) b rest e = by_test (front_items j hand b rest) (j == x.0) e
  where
    by_test : (item_at j hand ≡ Some b → item_at j (buckets_in hand ++ rest) ≡ Some (item.Bucket b)) → (t : Bool) → (if t then Some x.1 else item_at j hand) ≡ Some b
        → (if t then Some (item.Bucket x.1) else item_at j (buckets_in hand ++ rest)) ≡ Some (item.Bucket b)
    by_test ih true f = ap (λ (c : Chain). let v : Item C = item.Bucket c in Some v) (cc)
    by_test ih false f = ih f

past_items : {C : Type 0} (j : ℕ) (hand : List (ℕ × Chain)) (rest : List (ℕ × Item C)) → item_at j hand ≡ None → item_at j (buckets_in hand ++ rest) ≡ item_at j rest
past_items j [] rest e = refl
past_items {C} j (x ∷ hand) rest e = by_test (past_items j hand rest) (j == x.0) e
  where
    by_test : (item_at j hand ≡ None → item_at j (buckets_in hand ++ rest) ≡ item_at j rest) → (t : Bool) → (if t then Some x.1 else item_at j hand) ≡ None
        → (if t then Some (item.Bucket x.1) else item_at j (buckets_in hand ++ rest)) ≡ item_at j rest
    by_test ih true f = absurd (none-some x.1 (sym f))
    by_test ih false f = ih f

-- the list of a turn with a record
pub listed_at : {C : Type 0} (g : Config) (s : PlainShard) (es : List Event) (j : ℕ) (records : List (ℕ × Item C)) (x : Item C) (listed rest : List (ℕ × List Ptr)) → item_at j records ≡ Some x
    → list_at j (map (λ (r : ℕ × Item C). (r.0, listed_after g s es r.0 (list_at r.0 listed))) records ++ rest) ≡ listed_after g s es j (list_at j listed)
listed_at g s es j [] x listed rest e = absurd (none-some x e)
listed_at {C} g s es j (r ∷ records) x listed rest e = dite (ℕ_discrete j r.0)
    (λ q. subst (λ b. (if b then listed_after g s es r.0 (list_at r.0 listed) else list_at j (map f records ++ rest)) ≡ listed_after g s es j (list_at j listed)) (sym (eq-eqb j r.0 q)) (ap (λ (z : ℕ). listed_after g s es z (list_at z listed)) (sym q)))
    (λ q. subst (λ b. (if b then listed_after g s es r.0 (list_at r.0 listed) else list_at j (map f records ++ rest)) ≡ listed_after g s es j (list_at j listed)) (sym (ne_eqb j r.0 q))
    (listed_at g s es j records x listed rest (subst (λ b. (if b then Some r.1 else item_at j records) ≡ Some x) (ne_eqb j r.0 q) e)))
  where
    f : ℕ × Item C → ℕ × List Ptr
    f = λ r. (r.0, listed_after g s es r.0 (list_at r.0 listed))

-- ---- heads

alike_resident : (e e' : Entry) → AreAlike e e' → is_resident e' ≡ is_resident e
alike_resident e e' a = λ k. is_resident record e' { state = a.state k; reading = a.reading k }

alike_block : (e e' : Entry) (h : Header) → AreAlike e e' → HasBlock e h → HasBlock e' h
alike_block e e' h a has =
    let P : Bool × Option Digest × Key → Type 0 = λ x. MatchOption h.block (x.0 ≡ false) (λ kept. (x.0 ≡ true) × (x.1 ≡ Some (sha256_of kept.block.value)) × (length kept.block.value ≡ x.2.size)) in
    subst P (λ k. (sym (alike_resident e e' a) k, sym a.digest k, sym a.key k)) has

pub head_alike : (o o' : Option Entry) (h : Option Header) → SameHead o o' → IsHead o h → IsHead o' h
head_alike None None h same head = head
head_alike None (Some e') h same head = absurd same
head_alike (Some e) None h same head = absurd same
head_alike (Some e) (Some e') None same head = head
head_alike (Some e) (Some e') (Some h) same head = record {
  state = head.state ∙ sym same.state;
  reading = head.reading ∙ sym same.reading;
  place = head.place ∙ sym same.place;
  digest = head.digest ∙ sym same.digest;
  block = alike_block e e' h same head.block;
}

-- ---- numbers past all that a shard knows

pub entry_sound : (k : Key) (xs : List Entry) (e : Entry) → AllByRecursion IsSoundEntry xs → by_key.item_at entry_key k xs ≡ Some e → IsSoundEntry e
entry_sound k [] e all h = absurd (none-some e h)
entry_sound k (x ∷ xs) e all h = by_test (entry_sound k xs e all.1) (key_eq x.key k) h
  where
    by_test : (by_key.item_at entry_key k xs ≡ Some e → IsSoundEntry e) → (c : Bool) → (if c then Some x else by_key.item_at entry_key k xs) ≡ Some e → IsSoundEntry e
    by_test ih true f = let q : x ≡ e = cc in subst IsSoundEntry q all.0
    by_test ih false f = ih f

count_past : (s : PlainShard) (a : ℕ) (k : Key) → IsTidy s → numbers ≤ a → count_of a k s ≡ 0
count_past s a k tidy past = ⊎_elim
    (λ e. ap (λ (o : Option Entry). option_map_or (held_by a) o 0) e)
    (λ h. ap (λ (o : Option Entry). option_map_or (held_by a) o 0) h.1 ∙ get_or_past h.0.holds a 0 (let c = (entry_sound k s.entries h.0 tidy.entries h.1).numbers in omega arith))
    (option_case (entry_of k s))

-- ---- events made

-- what comes behind a legal beginning is legal there
rest_legal : (s : PlainShard) (front rest : List Event) → IsTrue (is_legal_history s (front ++ rest)) → IsTrue (is_legal_history (replay s front) rest)
rest_legal s [] rest h = h
rest_legal s (e ∷ es) rest h = rest_legal (after s e) es rest (second (legal s e) (is_legal_history (after s e) (es ++ rest)) h)
  where
    second : (a b : Bool) → IsTrue (a && b) → IsTrue b
    second true b h = h
    second false b h = absurd (cc)

-- what holds of each event holds of all
all_of : (P : Event → Type 0) (Q : List Event → Type 0) → Q [] → ((e : Event) (es : List Event) → P e → Q es → Q (e ∷ es)) → (es : List Event) → ((j : ℕ) (e : Event) → get_elem? es j ≡ some e → P e) → Q es
all_of P Q none more [] each = none
all_of P Q none more (e ∷ es) each = more e es (each 0 e refl) (all_of P Q none more es (λ j x f. each (suc j) x f))

from_events : (es : List Event) (j : ℕ) (l : Line) → get_elem? (map line.Event es) j ≡ some l → (e : Event) × (get_elem? es j ≡ some e) × (line.Event e ≡ l)
from_events [] j l e = absurd (some-ne-none l (sym e))
from_events (x ∷ xs) zero l e = (x, refl, some-injective (line.Event x) l e)
from_events (x ∷ xs) (suc j) l e = from_events xs j l e

-- a number that doesn't act for n has no part in its events
other_acts : (g : Config) (n : ℕ) (held : List ℕ) (m a : ℕ) → m ≢ n → ((j : ℕ) → m ≡ cell_number g j → IsCell g j → ¬ IsAmong j held) → ActsFor g n held a → m ≢ a
other_acts g n held m a far none (inl same) q = far (q ∙ same)
other_acts g n held m a far none (inr cell) q = none cell.0 (q ∙ cell.1) cell.2 cell.3

not_given : (g : Config) (n : ℕ) (held : List ℕ) (i m : ℕ) → m ≢ n → ((j : ℕ) → m ≡ cell_number g j → IsCell g j → ¬ IsAmong j held) → (e : Event) → IsActor g n held i e → IsNotGiven m e
not_given g n held i m far none (Hand a k to) act = other_acts g n held m to far none act.fit
not_given g n held i m far none (Pass a k o) act = tt
not_given g n held i m far none (Hit a k t) act = tt
not_given g n held i m far none (Miss a k t) act = tt
not_given g n held i m far none (Arrive a k d from) act = tt
not_given g n held i m far none (Fail a k at) act = tt
not_given g n held i m far none (Drop a k) act = tt
not_given g n held i m far none (Past a k kept) act = tt
not_given g n held i m far none (Insert a k d t) act = tt
not_given g n held i m far none (Release a k sole) act = tt
not_given g n held i m far none (Pick a k) act = tt
not_given g n held i m far none (FeedEnd a) act = tt
not_given g n held i m far none (Set a k place) act = tt
not_given g n held i m far none (Leave a k why) act = tt
not_given g n held i m far none (Clear a k) act = tt
not_given g n held i m far none (Restore a k place d) act = tt
not_given g n held i m far none (Resize a c) act = tt

no_miss : (g : Config) (n : ℕ) (held : List ℕ) (i m : ℕ) → m ≢ n → (e : Event) → IsActor g n held i e → IsNoMiss m e
no_miss g n held i m far (Miss a k t) act = λ q. far (q ∙ act.fit)
no_miss g n held i m far (Hand a k to) act = tt
no_miss g n held i m far (Pass a k o) act = tt
no_miss g n held i m far (Hit a k t) act = tt
no_miss g n held i m far (Arrive a k d from) act = tt
no_miss g n held i m far (Fail a k at) act = tt
no_miss g n held i m far (Drop a k) act = tt
no_miss g n held i m far (Past a k kept) act = tt
no_miss g n held i m far (Insert a k d t) act = tt
no_miss g n held i m far (Release a k sole) act = tt
no_miss g n held i m far (Pick a k) act = tt
no_miss g n held i m far (FeedEnd a) act = tt
no_miss g n held i m far (Set a k place) act = tt
no_miss g n held i m far (Leave a k why) act = tt
no_miss g n held i m far (Clear a k) act = tt
no_miss g n held i m far (Restore a k place d) act = tt
no_miss g n held i m far (Resize a c) act = tt

module _ (g : Config) (n : ℕ) (held : List ℕ) (i : ℕ) (es : List Event) (acts : (j : ℕ) (e : Event) → get_elem? es j ≡ some e → IsActor g n held i e) where
  pub none_of : (m : ℕ) → m ≢ n → ((j : ℕ) → m ≡ cell_number g j → IsCell g j → ¬ IsAmong j held) → AllNotOf m es
  none_of m far none = all_of (IsActor g n held i) (AllNotOf m) tt (λ e rest act all. ((other_acts g n held m (number_of e) far none act.acts, not_given g n held i m far none e act), all)) es acts

  pub no_misses : (m : ℕ) → m ≢ n → AllNoMiss m es
  no_misses m far = all_of (IsActor g n held i) (AllNoMiss m) tt (λ e rest act all. (no_miss g n held i m far e act, all)) es acts

  pub all_own : AllOwn (λ k. i ≡ shard_turn g k) es
  all_own = all_of (IsActor g n held i) (AllOwn (λ k. i ≡ shard_turn g k)) tt (λ e rest act all. (act.own, all)) es acts

  pub all_far : (k : Key) → ¬ (i ≡ shard_turn g k) → AllFar k es
  all_far k other = all_of (IsActor g n held i) (AllFar k) tt (λ e rest act all. ((λ j f. apart j (act.own j f) (key_eq k j) refl), all)) es acts
    where
      apart : (j : Key) → i ≡ shard_turn g j → (b : Bool) → key_eq k j ≡ b → key_eq k j ≡ false
      apart j own true e = absurd (other (own ∙ ap (shard_turn g) (sym (key_eq-is k j e))))
      apart j own false e = e

  pub passes_own : ArePassesOf n es
  passes_own = passes es acts
    where
      passes : (es : List Event) → ((j : ℕ) (e : Event) → get_elem? es j ≡ some e → IsActor g n held i e) → ArePassesOf n es
      passes [] each = tt
      passes (Pass a k o ∷ es) each = ((each 0 (Pass a k o) refl).fit, passes es (λ j x f. each (suc j) x f))
      passes (_ ∷ es) each = passes es (λ j x f. each (suc j) x f)

  -- where n is not the feeder, what is picked stays
  pub picked_kept : n < parties_of g → n ≢ g.callers → (s : PlainShard) → (replay s es).picked ≡ s.picked
  picked_kept below far s = kept s es acts
    where
      no_feed : (e : Event) → IsActor g n held i e → (b : Bool) → is_of_feed e ≡ b → IsTrue (not b)
      no_feed e act false q = refl
      no_feed e act true q = absurd (not_feeder act.acts (act.feeder q))
        where
          not_feeder : {a : ℕ} → ActsFor g n held a → a ≡ g.callers → ⊥
          not_feeder (inl same) is = far (sym same ∙ is)
          not_feeder (inr cell) is = let c = cell.1 in omega arith

      kept : (s : PlainShard) (es : List Event) → ((j : ℕ) (e : Event) → get_elem? es j ≡ some e → IsActor g n held i e) → (replay s es).picked ≡ s.picked
      kept s [] each = refl
      kept s (e ∷ es) each = kept (after s e) es (λ j x f. each (suc j) x f) ∙ (frame-kept s e).picked (no_feed e (each 0 e refl) (is_of_feed e) refl)

module _ {C : Type 0} (m : Meanings C) (law : IsBookedAfter) (b : Board (Item C) (Known C)) (pact : Pact m b) (p : Place (Known C)) (st : Stands b p) (i : ℕ) (is : IsTaken b i p.number)
    (hand : List (ℕ × Chain)) (before : ShardLog) (es : List Event) (l : ShardLog) (give : IsGivenShard p.own.about.config p i hand before es l)
    (in_range : IsShard p.own.about.config i) (valid : IsConfig p.own.about.config) where
  abbrev n : ℕ
  n = p.number

  abbrev w : Known C
  w = p.own

  abbrev g : Config
  g = w.about.config

  at : Knows b n w
  at = st.shows.0

  shown_before : IsShown pact.scene n w
  shown_before = pact.attached.views n w at

  -- the scene, with what n knows to be settled
  abbrev s : Scene C
  s = record pact.scene { about = w.about }

  same_scene : pact.scene ≡ s
  same_scene = λ k. record pact.scene { about = sym shown_before.about k }

  att : Attached m b s
  att = subst (Attached m b) same_scene pact.attached

  lgd : Logged m s
  lgd = subst (Logged m) same_scene pact.logged

  hdd : Headed s
  hdd = subst Headed same_scene pact.headed

  cnt : Counted m s
  cnt = subst (Counted m) same_scene pact.counted

  psd : Passed m s
  psd = subst (Passed m) same_scene pact.passed

  shown : IsShown s n w
  shown = att.views n w at

  here : (s.now i ≡ item.Shard before) × (list_at i w.listed ≡ s.kept i)
  here = in_hand m b s n i w (item.Shard before) att is at give.recorded

  abbrev v : Item C
  v = item.Shard l

  abbrev u : Known C
  u = after_shard m hand i before es l w

  few : numbers_of g ≤ numbers
  few = let a = valid.counts.callers.1 in let c = valid.counts.cells.1 in omega arith

  party : n < parties_of g
  party = let a = within b.views n w at in let c = att.parties in omega arith

  -- ---- the turns

  abbrev now : ℕ → Item C
  now = with_at (λ j. option_map_or item.Bucket (item_at j hand) (s.now j)) i v

  now_is : now i ≡ v
  now_is = at_here (λ j. option_map_or item.Bucket (item_at j hand) (s.now j)) i v

  now_hand : (j : ℕ) (c : Chain) → item_at j hand ≡ Some c → now j ≡ item.Bucket c
  now_hand j c e = at_else (λ j. option_map_or item.Bucket (item_at j hand) (s.now j)) i j v (λ q. let r = in_range.0 in let k = (give.in_hand j c e).1.1 in omega arith)
      ∙ ap (λ (o : Option Chain). option_map_or item.Bucket o (s.now j)) e

  now_far : (j : ℕ) → j ≢ i → item_at j hand ≡ None → now j ≡ s.now j
  now_far j far e = at_else (λ j. option_map_or item.Bucket (item_at j hand) (s.now j)) i j v far ∙ ap (λ (o : Option Chain). option_map_or item.Bucket o (s.now j)) e

  -- what is no bucket isn't in hand
  not_bucket : (j : ℕ) → ¬ IsBucket g j → item_at j hand ≡ None
  not_bucket j other = ⊎_elim (λ e. e) (λ h. absurd (other (give.in_hand j h.0 h.1).1)) (option_case (item_at j hand))

  -- a turn in hand was a bucket
  was_bucket : (j : ℕ) (c : Chain) → item_at j hand ≡ Some c → (a : Chain) × (s.now j ≡ item.Bucket a)
  was_bucket j c e = let h = (give.in_hand j c e).1 in let k = h.1 in bucket_of m g j (s.now j) (att.kinds j (omega arith)) h

  hand_taken : (j : ℕ) (c : Chain) → item_at j hand ≡ Some c → IsTaken b j n
  hand_taken j c e = taken_at b p j st (give.in_hand j c e).0

  -- where a turn is free or another party's, it is not in hand
  away : (j : ℕ) (t : Turn (Item C)) → get_elem? b.turns j ≡ some t → t ≢ taken n → item_at j hand ≡ None
  away j t e far = ⊎_elim (λ f. f) (λ h. absurd (far (same_at b.turns j t (taken n) e (hand_taken j h.0 h.1)))) (option_case (item_at j hand))

  three : (P : ℕ → Item C → Type 0) → P i v → ((j : ℕ) (c : Chain) → item_at j hand ≡ Some c → P j (item.Bucket c)) → ((j : ℕ) → j ≢ i → P j (s.now j)) → (j : ℕ) → P j (now j)
  three P first second third j = dite (ℕ_discrete j i)
      (λ q. subst (λ (z : ℕ). P z (now z)) (sym q) (subst (P i) (sym now_is) first))
      (λ q. ⊎_elim
      (λ e. subst (P j) (sym (now_far j q e)) (third j q))
      (λ h. subst (P j) (sym (now_hand j h.0 h.1)) (second j h.0 h.1))
      (option_case (item_at j hand)))

  -- ---- histories

  abbrev made : List Line
  made = map line.Event es

  lines : lines_in m v ≡ lines_in m (s.now i) ++ made
  lines = ap (map line.Event) give.history ∙ (map_join line.Event before.history es ∙ ap (λ (x : Item C). lines_in m x ++ made) (sym here.0))

  long : length (lines_in m (s.now i)) ≡ length before.history
  long = ap (λ (x : Item C). length (lines_in m x)) here.0 ∙ length-map before.history line.Event

  abbrev first : ℕ
  first = length w.notes - passes_in es

  abbrev news : List Mine
  news = mines_of i (length before.history) first es

  mines : AreMines i (length (lines_in m (s.now i))) (length made) news
  mines = subst (λ (x : ℕ × ℕ). AreMines i x.0 x.1 news) (λ k. (sym long k, sym (length-map es line.Event) k)) (mines_of_are i (length before.history) first es)

  others_lines : (j : ℕ) → j ≢ i → lines_in m (now j) ≡ lines_in m (s.now j)
  others_lines j far = ⊎_elim
      (λ e. ap (lines_in m) (now_far j far e))
      (λ h. ap (lines_in m) (now_hand j h.0 h.1) ∙ ap (lines_in m) (sym (was_bucket j h.0 h.1).1))
      (option_case (item_at j hand))

  sound_before : IsSoundLog g before
  sound_before = subst (IsSoundItem m w.about i) here.0 (lgd.sound i)

  sound : (j : ℕ) → IsSoundItem m s.about j (now j)
  sound = three (IsSoundItem m s.about) record { opening = give.opening ∙ sound_before.opening; replayed = give.replayed; passed = give.passed; settled = give.settled } (λ j c e. tt) (λ j far. lgd.sound j)

  maker_is : (a : ℕ) → ActsFor g n p.held a → (a < numbers_of g) × (a < parties_of g → a ≡ n)
  maker_is a (inl same) = let k = party in (omega arith, λ below. same)
  maker_is a (inr cell) = let c = cell.1 in let k = cell.2 in (omega arith, λ below. absurd (omega arith))

  own : (j : ℕ) (x : Line) → get_elem? made j ≡ some x → IsOwn g n x
  own j x e = let h = from_events es j x e in let act = give.actors j h.0 h.1 in let k = maker_is (number_of h.0) act.acts in
      subst (IsOwn g n) h.2 record { number = k.0; maker = k.1; feeder = act.feeder }

  appends : Appends m s now i n made news
  appends = record { party = party; here = ap (lines_in m) now_is ∙ lines; others = others_lines; sound = sound; mines = mines; own = own }

  -- ---- the scene afterwards

  abbrev ledger : Ledger
  ledger = ledger_through g.callers n i before.now es l.now (s.ledger n)

  abbrev kept_then : ℕ → List Ptr
  kept_then = λ j. listed_after g before.now es j (s.kept j)

  abbrev t : Scene C
  t = record (appended m s now i n news) { kept = kept_then; ledger = with_at s.ledger n ledger }

  abbrev seen_new : List (List Line)
  seen_new = put i (lines_in m (now i)) (s.seen n)

  shown_u : IsShown t n u
  shown_u = record {
    number = shown.number;
    about = refl;
    seen = (λ k. put i (lines_in m (sym now_is k)) (shown.seen k)) ∙ sym (at_here s.seen n seen_new);
    mine = ap (λ (x : List Mine). x ++ news) shown.mine ∙ sym (at_here s.mine n (s.mine n ++ news));
    ledger = (λ k. ledger_through g.callers (shown.number k) i before.now es l.now (shown.ledger k)) ∙ sym (at_here s.ledger n ledger);
    notes = shown.notes;
  }

  shown_else : (k : ℕ) (z : Known C) → k ≢ n → IsShown s k z → IsShown t k z
  shown_else k z far h = record {
    number = h.number;
    about = h.about;
    seen = h.seen ∙ sym (at_else s.seen n k seen_new far);
    mine = h.mine ∙ sym (at_else s.mine n k (s.mine n ++ news) far);
    ledger = h.ledger ∙ sym (at_else s.ledger n k ledger far);
    notes = h.notes;
  }

  -- what counts as kept stays, where n doesn't have the cell in hand
  kept_away : (j : ℕ) (x : Turn (Item C)) → get_elem? b.turns j ≡ some x → x ≢ taken n → kept_then j ≡ s.kept j
  kept_away j x e far = by_cell (nat_lt j g.cells) refl
    where
      none_there : AllNotOf (cell_number g j) es
      none_there = none_of g n p.held i es give.actors (cell_number g j) (λ q. let k = party in omega arith)
          (λ k q cell among. far (same_at b.turns j x (taken n) e (subst (λ (z : ℕ). IsTaken b z n) (let h : k ≡ j = omega arith in h) (taken_at b p k st among))))

      by_cell : (c : Bool) → nat_lt j g.cells ≡ c → (if c then holds_through (cell_number g j) before.now es (s.kept j) else s.kept j) ≡ s.kept j
      by_cell true q = holds_through_else (cell_number g j) before.now es (s.kept j) none_there
      by_cell false q = refl

  attached : Attached m record { turns = set b.turns i (free v); views = set b.views n u } t
  attached = attached_moved m b s t (set b.turns i (free v)) n w u att at refl shown_u shown_else (length-set b.turns i (free v))
      (λ j below. three (λ z x. z < turns_of g → IsKind g z x) (λ h. in_range) (λ z c e h. (give.in_hand z c e).1) (λ z far h. att.kinds z h) j below)
      (λ j x f. ⊎_elim
      (λ q. let x_is : v ≡ x = free_same v x q.1 in (ap now q.0 ∙ (now_is ∙ x_is), ap kept_then q.0 ∙ (shard_kept ∙ ap (holds_in m) x_is)))
      (λ q. let h = att.free j x q.1 in (now_far j q.0 (away j (free x) q.1 (free_taken x n)) ∙ h.0, kept_away j (free x) q.1 (free_taken x n) ∙ h.1))
      (at_set b.turns i j (free v) (free x) f))
      (λ j k f. ⊎_elim (λ q. absurd (free_taken v k q.1)) (λ q. still j k q.0 q.1) (at_set b.turns i j (free v) (taken k) f))
    where
      shard_kept : kept_then i ≡ holds_in m v
      shard_kept = by_cell (nat_lt i g.cells) refl
        where
          none_kept : s.kept i ≡ []
          none_kept = sym here.1 ∙ give.listed

          by_cell : (c : Bool) → nat_lt i g.cells ≡ c → (if c then holds_through (cell_number g i) before.now es (s.kept i) else s.kept i) ≡ []
          by_cell true q = let a : i < g.cells = grind (arith, nat_tests) in let r = in_range.0 in absurd (omega arith)
          by_cell false q = none_kept

      still : (j k : ℕ) → j ≢ i → IsTaken b j k → StillTaken m b s t n u j k
      still j k far e = dite (ℕ_discrete k n)
          (λ q. let h = att.taken j k e in let same : h.0 ≡ w = same_at b.views n h.0 w (subst (λ (x : ℕ). get_elem? b.views x ≡ some h.0) q h.1) at in
          let recorded : item_at j w.records ≡ Some (s.now j) = ap (λ (y : Known C). item_at j y.records) (sym same) ∙ h.2 in
          mine q
          (⊎_elim
          (λ z. past_items j hand (without_item i w.records) z ∙ (without_else i j w.records far ∙ (recorded ∙ ap Some (sym (now_far j far z)))))
          (λ z. front_items j hand z.0 (without_item i w.records) z.1 ∙ ap Some (sym (now_hand j z.0 z.1)))
          (option_case (item_at j hand)))
          (listed_at g before.now es j w.records (s.now j) w.listed w.listed recorded ∙ ap (listed_after g before.now es j) (ap (λ (y : Known C). list_at j y.listed) (sym same) ∙ h.3)))
          (λ q. let other : taken k ≢ taken n = λ r. q (let z : ◌≡◌ {A = Turn (Item C)} (taken k) (taken n) = r in cc) in theirs q e (now_far j far (away j (taken k) e other)) (kept_away j (taken k) e other))

  -- ---- headers

  shard_now : shard_in g (now i) ≡ l.now
  shard_now = ap (λ (x : Item C). shard_in g x) now_is

  shard_before : shard_in g (s.now i) ≡ before.now
  shard_before = ap (λ (x : Item C). shard_in g x) here.0

  -- the shard of a key: this one, or one that is as it was
  shard_else : (k : Key) → ¬ (i ≡ shard_turn g k) → now (shard_turn g k) ≡ s.now (shard_turn g k)
  shard_else k other = now_far (shard_turn g k) (λ q. other (sym q)) (not_bucket (shard_turn g k) (λ h. let a = h.1 in omega arith))

  -- the shard of a bucket in hand is this one
  bucket_far : (k : Key) → bucket_turn g k ≢ i
  bucket_far k q = let a = (bucket_range g k valid).1 in let r = in_range.0 in omega arith

  bucket_else : (k : Key) → ¬ (i ≡ shard_turn g k) → now (bucket_turn g k) ≡ s.now (bucket_turn g k)
  bucket_else k other = ⊎_elim
      (λ e. now_far (bucket_turn g k) (bucket_far k) e)
      (λ h. absurd (other (give.in_shard k h.0 h.1)))
      (option_case (item_at (bucket_turn g k) hand))

  heads_own : (k : Key) → i ≡ shard_turn g k → IsHead (entry_of k l.now) (header_at k (headers_in (now (bucket_turn g k))))
  heads_own k own_key = ⊎_elim
      (λ e. subst (λ (x : Item C). IsHead (entry_of k l.now) (header_at k (headers_in x))) (sym (now_far (bucket_turn g k) (bucket_far k) e))
      (head_alike (entry_of k before.now) (entry_of k l.now) (header_at k (headers_in (s.now (bucket_turn g k)))) (give.heads_out k own_key e)
      (subst (λ (x : PlainShard). IsHead (entry_of k x) (header_at k (headers_in (s.now (bucket_turn g k))))) (ap (λ (z : ℕ). shard_in g (s.now z)) (sym own_key) ∙ shard_before) (hdd.heads k))))
      (λ h. subst (λ (x : Item C). IsHead (entry_of k l.now) (header_at k (headers_in x))) (sym (now_hand (bucket_turn g k) h.0 h.1)) (give.heads_in k h.0 h.1))
      (option_case (item_at (bucket_turn g k) hand))

  headed : Headed t
  headed = record {
    heads = λ k. dite (ℕ_discrete i (shard_turn g k))
        (λ q. subst (λ (x : PlainShard). IsHead (entry_of k x) (header_at k (headers_in (now (bucket_turn g k))))) (sym (ap (λ (z : ℕ). shard_in g (now z)) (sym q) ∙ shard_now)) (heads_own k q))
        (λ q. subst (λ (x : Item C × Item C). IsHead (entry_of k (shard_in g x.0)) (header_at k (headers_in x.1))) (λ z. (sym (shard_else k q) z, sym (bucket_else k q) z)) (hdd.heads k));
    own_headers = λ j k h. three (λ z x. header_at k (headers_in x) ≡ Some h → z ≡ bucket_turn g k) (λ e. absurd (none-some h e)) (λ z c f e. give.own_headers z c k h f e) (λ z far e. hdd.own_headers z k h e) j;
    own_entries = λ j k h. three (λ z x. entry_of k (shard_in g x) ≡ Some h → z ≡ shard_turn g k) (λ e. give.own_entries k h e) (λ z c f e. absurd (none-some h e)) (λ z far e. hdd.own_entries z k h e) j;
  }

  -- ---- counts

  -- what each number holds and reads, parties and cells alike
  abbrev all_holds : ℕ → List Ptr
  all_holds = λ a. if nat_lt a (parties_of g) then (s.ledger a).holds else (if nat_lt a (numbers_of g) then s.kept (a - parties_of g) else [])

  abbrev all_readings : ℕ → List Key
  all_readings = λ a. if nat_lt a (parties_of g) then (s.ledger a).readings else []

  if_true : {A : Type 0} (c : Bool) (x y : A) → c ≡ true → (if c then x else y) ≡ x
  if_true c x y e = subst (λ z. (if z then x else y) ≡ x) (sym e) refl

  if_false : {A : Type 0} (c : Bool) (x y : A) → c ≡ false → (if c then x else y) ≡ y
  if_false c x y e = subst (λ z. (if z then x else y) ≡ y) (sym e) refl

  is_below : (x y : ℕ) → x < y → nat_lt x y ≡ true
  is_below x y h = grind (arith, nat_tests)

  is_above : (x y : ℕ) → y ≤ x → nat_lt x y ≡ false
  is_above x y h = grind (arith, nat_tests)

  party_holds : (a : ℕ) → a < parties_of g → all_holds a ≡ (s.ledger a).holds
  party_holds a h = if_true (nat_lt a (parties_of g)) (s.ledger a).holds (if nat_lt a (numbers_of g) then s.kept (a - parties_of g) else []) (is_below a (parties_of g) h)

  party_readings : (a : ℕ) → a < parties_of g → all_readings a ≡ (s.ledger a).readings
  party_readings a h = if_true (nat_lt a (parties_of g)) (s.ledger a).readings [] (is_below a (parties_of g) h)

  cell_holds : (j : ℕ) → IsCell g j → all_holds (cell_number g j) ≡ s.kept j
  cell_holds j h = if_false (nat_lt (cell_number g j) (parties_of g)) (s.ledger (cell_number g j)).holds (if nat_lt (cell_number g j) (numbers_of g) then s.kept (cell_number g j - parties_of g) else []) (is_above (cell_number g j) (parties_of g) (omega arith))
      ∙ (if_true (nat_lt (cell_number g j) (numbers_of g)) (s.kept (cell_number g j - parties_of g)) [] (is_below (cell_number g j) (numbers_of g) (omega arith))
      ∙ ap s.kept (omega arith))

  cell_readings : (a : ℕ) → parties_of g ≤ a → all_readings a ≡ []
  cell_readings a h = if_false (nat_lt a (parties_of g)) (s.ledger a).readings [] (is_above a (parties_of g) h)

  other_holds : (a : ℕ) → numbers_of g ≤ a → all_holds a ≡ []
  other_holds a h = if_false (nat_lt a (parties_of g)) (s.ledger a).holds (if nat_lt a (numbers_of g) then s.kept (a - parties_of g) else []) (is_above a (parties_of g) (omega arith))
      ∙ if_false (nat_lt a (numbers_of g)) (s.kept (a - parties_of g)) [] (is_above a (numbers_of g) h)

  -- a number is a party's, a cell's, or none
  data Whose (a : ℕ) : Type 0 where
    partys : a < parties_of g → Whose a
    cells : (j : ℕ) → IsCell g j → a ≡ cell_number g j → Whose a
    nobodys : numbers_of g ≤ a → Whose a

  whose : (a : ℕ) → Whose a
  whose a = by_party (dec_le (parties_of g) a) (dec_le (numbers_of g) a)
    where
      by_party : Dec (parties_of g ≤ a) → Dec (numbers_of g ≤ a) → Whose a
      by_party (no h) d = partys (lt_of_not-le h)
      by_party (yes h) (yes k) = nobodys k
      by_party (yes h) (no k) = let r : a < numbers_of g = lt_of_not-le k in cells (a - parties_of g) (omega arith) (omega arith)

  abbrev OwnKey : Key → Type 0
  OwnKey = λ k. i ≡ shard_turn g k

  -- the shard of an own key was before
  own_before : (k : Key) → OwnKey k → shard_at s k ≡ before.now
  own_before k q = ap (λ (z : ℕ). shard_in g (s.now z)) (sym q) ∙ shard_before

  booked_before : AreBooked OwnKey before.now all_holds all_readings
  booked_before = record {
    counts = λ a k below q. counts a k q (whose a);
    rests = λ a j h below q e. subst (λ (x : PlainShard). Rests x h) (own_before h.key q) (rests a j h e (whose a));
    reads = λ a j k below q e. subst (λ (x : PlainShard). IsRead x k) (own_before k q) (reads a j k e (whose a));
  }
    where
      counts : (a : ℕ) (k : Key) → OwnKey k → Whose a → count_of a k before.now ≡ holds_on k (all_holds a) + readings_of k (all_readings a)
      counts a k q (partys h) = ap (count_of a k) (sym (own_before k q)) ∙ (cnt.parties a k h ∙ (λ z. holds_on k (sym (party_holds a h) z) + readings_of k (sym (party_readings a h) z)))
      counts a k q (cells j h e) = ap (λ (z : ℕ). count_of z k before.now) e ∙ (ap (count_of (cell_number g j) k) (sym (own_before k q)) ∙ (cnt.cells j k h
          ∙ (no_more (holds_on k (s.kept j)) ∙ (λ z. holds_on k (sym (ap all_holds e ∙ cell_holds j h) z) + readings_of k (sym (cell_readings a (omega arith)) z)))))
        where
          no_more : (x : ℕ) → x ≡ x + readings_of k []
          no_more x = let y : readings_of k [] ≡ 0 = refl in omega arith
      counts a k q (nobodys h) = ap (count_of a k) (sym (own_before k q)) ∙ (cnt.others a k h ∙ (λ z. holds_on k (sym (other_holds a h) z) + readings_of k (sym (cell_readings a (omega arith)) z)))

      rests : (a j : ℕ) (h : Ptr) → get_elem? (all_holds a) j ≡ some h → Whose a → Rests (shard_at s h.key) h
      rests a j h e (partys k) = cnt.holds a j h k (subst (λ (x : List Ptr). get_elem? x j ≡ some h) (party_holds a k) e)
      rests a j h e (cells c k f) = cnt.kept c j h k (subst (λ (x : List Ptr). get_elem? x j ≡ some h) (ap all_holds f ∙ cell_holds c k) e)
      rests a j h e (nobodys k) = absurd (some-ne-none h (sym (subst (λ (x : List Ptr). get_elem? x j ≡ some h) (other_holds a k) e)))

      reads : (a j : ℕ) (k : Key) → get_elem? (all_readings a) j ≡ some k → Whose a → IsRead (shard_at s k) k
      reads a j k e (partys h) = cnt.readings a j k h (subst (λ (x : List Key). get_elem? x j ≡ some k) (party_readings a h) e)
      reads a j k e (cells c h f) = absurd (some-ne-none k (sym (subst (λ (x : List Key). get_elem? x j ≡ some k) (cell_readings a (omega arith)) e)))
      reads a j k e (nobodys h) = absurd (some-ne-none k (sym (subst (λ (x : List Key). get_elem? x j ≡ some k) (cell_readings a (omega arith)) e)))

  -- ---- after the events

  abbrev holds_then : ℕ → List Ptr
  holds_then = λ a. holds_through a before.now es (all_holds a)

  abbrev readings_then : ℕ → List Key
  readings_then = λ a. readings_through a es (all_readings a)

  ends : replay before.now es ≡ l.now
  ends = ap (λ (x : PlainShard). replay x es) (sym (ap (λ (x : PlainShard). replay x before.history) give.opening ∙ sound_before.replayed.replayed))
      ∙ (sym (replay-append l.opening before.history es) ∙ (ap (replay l.opening) (sym give.history) ∙ give.replayed.replayed))

  lawful : IsTrue (is_legal_history before.now es)
  lawful = subst (λ (x : PlainShard). IsTrue (is_legal_history x es)) (ap (λ (x : PlainShard). replay x before.history) give.opening ∙ sound_before.replayed.replayed)
      (rest_legal l.opening before.history es (subst (λ (x : List Event). IsTrue (is_legal_history l.opening x)) give.history give.replayed.legal))

  booked : AreBooked OwnKey l.now holds_then readings_then
  booked = subst (λ (x : PlainShard). AreBooked OwnKey x holds_then readings_then) ends
      (booked_through law OwnKey before.now es all_holds all_readings sound_before.replayed.sound lawful (all_own g n p.held i es give.actors) booked_before)

  shard_own : (k : Key) → OwnKey k → shard_at t k ≡ l.now
  shard_own k q = ap (λ (z : ℕ). shard_in g (now z)) (sym q) ∙ shard_now

  shard_other : (k : Key) → ¬ OwnKey k → shard_at t k ≡ shard_at s k
  shard_other k q = ap (λ (x : Item C). shard_in g x) (shard_else k q)

  -- another party's number has no part in the events
  no_part : (a : ℕ) → a < parties_of g → a ≢ n → AllNotOf a es
  no_part a below far = none_of g n p.held i es give.actors a far (λ j q cell among. omega arith)

  -- what the parties hold and read afterwards
  ledger_is : t.ledger n ≡ ledger
  ledger_is = at_here s.ledger n ledger

  ledger_else : (a : ℕ) → a ≢ n → t.ledger a ≡ s.ledger a
  ledger_else a far = at_else s.ledger n a ledger far

  then_holds : (a : ℕ) → a < parties_of g → (t.ledger a).holds ≡ holds_then a
  then_holds a below = dite (ℕ_discrete a n)
      (λ q. ap (λ (z : ℕ). (t.ledger z).holds) q ∙ (ap (λ (x : Ledger). x.holds) ledger_is ∙ (ap (holds_through n before.now es) (sym (party_holds n party)) ∙ ap holds_then (sym q))))
      (λ q. ap (λ (x : Ledger). x.holds) (ledger_else a q) ∙ (sym (party_holds a below) ∙ sym (holds_through_else a before.now es (all_holds a) (no_part a below q))))

  then_readings : (a : ℕ) → a < parties_of g → (t.ledger a).readings ≡ readings_then a
  then_readings a below = dite (ℕ_discrete a n)
      (λ q. ap (λ (z : ℕ). (t.ledger z).readings) q ∙ (ap (λ (x : Ledger). x.readings) ledger_is ∙ (ap (readings_through n es) (sym (party_readings n party)) ∙ ap readings_then (sym q))))
      (λ q. ap (λ (x : Ledger). x.readings) (ledger_else a q) ∙ (sym (party_readings a below) ∙ sym (readings_through_else a es (all_readings a) (no_part a below q))))

  then_kept : (j : ℕ) → IsCell g j → kept_then j ≡ holds_then (cell_number g j)
  then_kept j h = if_true (nat_lt j g.cells) (holds_through (cell_number g j) before.now es (s.kept j)) (s.kept j) (is_below j g.cells h) ∙ ap (holds_through (cell_number g j) before.now es) (sym (cell_holds j h))

  no_readings : (a : ℕ) → parties_of g ≤ a → readings_then a ≡ []
  no_readings a h = ap (readings_through a es) (cell_readings a h) ∙ readings_through_none a es (no_misses g n p.held i es give.actors a (λ q. let k = party in omega arith))

  plus_none : (x : ℕ) (k : Key) (ks : List Key) → ks ≡ [] → x + readings_of k ks ≡ x
  plus_none x k ks e = let y : readings_of k ks ≡ 0 = ap (readings_of k) e in omega arith

  -- a key that is not the shard's own
  other_holds_same : (a : ℕ) (k : Key) → ¬ OwnKey k → holds_on k (holds_then a) ≡ holds_on k (all_holds a)
  other_holds_same a k q = holds_through_far a before.now es k (all_holds a) (all_far g n p.held i es give.actors k q)

  other_readings_same : (a : ℕ) (k : Key) → ¬ OwnKey k → readings_of k (readings_then a) ≡ readings_of k (all_readings a)
  other_readings_same a k q = readings_through_far a es k (all_readings a) (all_far g n p.held i es give.actors k q)

  party_counts : (a : ℕ) (k : Key) → a < parties_of g → count_of a k (shard_at t k) ≡ begun k (t.ledger a)
  party_counts a k below = dite (ℕ_discrete i (shard_turn g k))
      (λ q. ap (count_of a k) (shard_own k q) ∙ (booked.counts a k (let c = few in omega arith) q ∙ same))
      (λ q. ap (count_of a k) (shard_other k q) ∙ (cnt.parties a k below ∙ ((λ z. holds_on k (sym (party_holds a below) z) + readings_of k (sym (party_readings a below) z))
      ∙ ((λ z. sym (other_holds_same a k q) z + sym (other_readings_same a k q) z) ∙ same))))
    where
      same : holds_on k (holds_then a) + readings_of k (readings_then a) ≡ begun k (t.ledger a)
      same = λ z. holds_on k (sym (then_holds a below) z) + readings_of k (sym (then_readings a below) z)

  cell_counts : (j : ℕ) (k : Key) → IsCell g j → count_of (cell_number g j) k (shard_at t k) ≡ holds_on k (kept_then j)
  cell_counts j k h = dite (ℕ_discrete i (shard_turn g k))
      (λ q. ap (count_of (cell_number g j) k) (shard_own k q) ∙ (booked.counts (cell_number g j) k (let c = few in omega arith) q
      ∙ (plus_none (holds_on k (holds_then (cell_number g j))) k (readings_then (cell_number g j)) (no_readings (cell_number g j) (omega arith)) ∙ ap (holds_on k) (sym (then_kept j h)))))
      (λ q. ap (count_of (cell_number g j) k) (shard_other k q) ∙ (cnt.cells j k h ∙ (ap (holds_on k) (sym (cell_holds j h)) ∙ (sym (other_holds_same (cell_number g j) k q) ∙ ap (holds_on k) (sym (then_kept j h))))))

  -- a number that is nobody's has no hold: also one past all numbers
  nobody_counts : (a : ℕ) (k : Key) → numbers_of g ≤ a → count_of a k (shard_at t k) ≡ 0
  nobody_counts a k h = dite (ℕ_discrete i (shard_turn g k)) (λ q. ap (count_of a k) (shard_own k q) ∙ own_key q (dec_le numbers a)) (λ q. ap (count_of a k) (shard_other k q) ∙ cnt.others a k h)
    where
      none_then : holds_then a ≡ []
      none_then = holds_through_else a before.now es (all_holds a) (none_of g n p.held i es give.actors a (λ q. let c = party in omega arith) (λ j q cell among. omega arith)) ∙ other_holds a h

      own_key : OwnKey k → Dec (numbers ≤ a) → count_of a k l.now ≡ 0
      own_key q (no below) = booked.counts a k (lt_of_not-le below) q ∙ (plus_none (holds_on k (holds_then a)) k (readings_then a) (no_readings a (omega arith)) ∙ ap (holds_on k) none_then)
      own_key q (yes past) = count_past l.now a k give.replayed.sound.tidy past

  rests_then : (a j : ℕ) (h : Ptr) → a < numbers → get_elem? (holds_then a) j ≡ some h → ((q : ℕ) → get_elem? (all_holds a) q ≡ some h → Rests (shard_at s h.key) h) → Rests (shard_at t h.key) h
  rests_then a j h below e old = dite (ℕ_discrete i (shard_turn g h.key))
      (λ q. subst (λ (x : PlainShard). Rests x h) (sym (shard_own h.key q)) (booked.rests a j h below q e))
      (λ q. subst (λ (x : PlainShard). Rests x h) (sym (shard_other h.key q)) (⊎_elim (λ r. absurd (q r)) (λ r. old r.0 r.1) (holds_through_come OwnKey a before.now es (all_holds a) j h (all_own g n p.held i es give.actors) e)))

  reads_then : (a j : ℕ) (k : Key) → a < parties_of g → get_elem? (readings_then a) j ≡ some k → IsRead (shard_at t k) k
  reads_then a j k below e = dite (ℕ_discrete i (shard_turn g k))
      (λ q. subst (λ (x : PlainShard). IsRead x k) (sym (shard_own k q)) (booked.reads a j k (let c = few in omega arith) q e))
      (λ q. subst (λ (x : PlainShard). IsRead x k) (sym (shard_other k q))
      (⊎_elim (λ r. absurd (q r)) (λ r. cnt.readings a r.0 k below (subst (λ (x : List Key). get_elem? x r.0 ≡ some k) (party_readings a below) r.1)) (readings_through_come OwnKey a es (all_readings a) j k (all_own g n p.held i es give.actors) e)))

  -- a shard's turn is not in hand, and neither is a cell's
  shard_now_else : (j : ℕ) → IsShard g j → j ≢ i → now j ≡ s.now j
  shard_now_else j h far = now_far j far (not_bucket j (λ k. let a = k.1 in let c = h.0 in omega arith))

  cell_now : (j : ℕ) → IsCell g j → now j ≡ s.now j
  cell_now j h = now_far j (λ q. let r = in_range.0 in omega arith) (not_bucket j (λ k. let a = k.0 in omega arith))

  picked_feeder : g.callers ≡ n → (j : ℕ) → IsShard g j → (shard_in g (now j)).picked ≡ list_at j (t.ledger g.callers).picked
  picked_feeder feeds j h = there ∙ ap (list_at j) (sym list)
    where
      list : (t.ledger g.callers).picked ≡ (i, l.now.picked) ∷ (s.ledger g.callers).picked
      list = ap (λ (z : ℕ). (t.ledger z).picked) feeds ∙ (ap (λ (x : Ledger). x.picked) ledger_is ∙ (if_true (n == g.callers) ((i, l.now.picked) ∷ (s.ledger n).picked) (s.ledger n).picked (eq-eqb n g.callers (sym feeds))
          ∙ ap (λ (z : ℕ). (i, l.now.picked) ∷ (s.ledger z).picked) (sym feeds)))

      there : (shard_in g (now j)).picked ≡ list_at j ((i, l.now.picked) ∷ (s.ledger g.callers).picked)
      there = dite (ℕ_discrete j i)
          (λ q. ap (λ (z : ℕ). (shard_in g (now z)).picked) q ∙ (ap (λ (x : PlainShard). x.picked) shard_now ∙ (sym (list_here i l.now.picked (s.ledger g.callers).picked) ∙ ap (λ (z : ℕ). list_at z ((i, l.now.picked) ∷ (s.ledger g.callers).picked)) (sym q))))
          (λ q. ap (λ (x : Item C). (shard_in g x).picked) (shard_now_else j h q) ∙ (cnt.picked j h ∙ sym (list_else i j l.now.picked (s.ledger g.callers).picked q)))

  picked_else : g.callers ≢ n → (j : ℕ) → IsShard g j → (shard_in g (now j)).picked ≡ list_at j (t.ledger g.callers).picked
  picked_else other j h = there ∙ ap (λ (x : Ledger). list_at j x.picked) (sym (ledger_else g.callers other))
    where
      there : (shard_in g (now j)).picked ≡ list_at j (s.ledger g.callers).picked
      there = dite (ℕ_discrete j i)
          (λ q. ap (λ (z : ℕ). (shard_in g (now z)).picked) q ∙ (ap (λ (x : PlainShard). x.picked) shard_now ∙ (ap (λ (x : PlainShard). x.picked) (sym ends)
          ∙ (picked_kept g n p.held i es give.actors party (λ r. other (sym r)) before.now ∙ (ap (λ (x : PlainShard). x.picked) (sym shard_before) ∙ (cnt.picked i in_range ∙ ap (λ (z : ℕ). list_at z (s.ledger g.callers).picked) (sym q)))))))
          (λ q. ap (λ (x : Item C). (shard_in g x).picked) (shard_now_else j h q) ∙ cnt.picked j h)

  claims_same : (a : ℕ) → (t.ledger a).claims ≡ (s.ledger a).claims
  claims_same a = dite (ℕ_discrete a n)
      (λ q. ap (λ (z : ℕ). (t.ledger z).claims) q ∙ (ap (λ (x : Ledger). x.claims) ledger_is ∙ ap (λ (z : ℕ). (s.ledger z).claims) (sym q)))
      (λ q. ap (λ (x : Ledger). x.claims) (ledger_else a q))

  counted : Counted m t
  counted = record {
    parties = party_counts;
    cells = cell_counts;
    others = nobody_counts;
    holds = λ a j h below e. rests_then a j h (let c = few in omega arith) (subst (λ (x : List Ptr). get_elem? x j ≡ some h) (then_holds a below) e)
        (λ q f. cnt.holds a q h below (subst (λ (x : List Ptr). get_elem? x q ≡ some h) (party_holds a below) f));
    kept = λ c j h cell e. rests_then (cell_number g c) j h (let k = few in omega arith) (subst (λ (x : List Ptr). get_elem? x j ≡ some h) (then_kept c cell) e)
        (λ q f. cnt.kept c q h cell (subst (λ (x : List Ptr). get_elem? x q ≡ some h) (cell_holds c cell) f));
    readings = λ a j k below e. reads_then a j k below (subst (λ (x : List Key). get_elem? x j ≡ some k) (then_readings a below) e);
    picked = λ j h. dite (ℕ_discrete g.callers n) (λ q. picked_feeder q j h) (λ q. picked_else q j h);
    claims = λ j a cell below. ap (λ (x : Item C). claims_in m x a) (cell_now j cell) ∙ (cnt.claims j a cell below ∙ ap (list_at j) (sym (claims_same a)));
    no_claims = λ j a cell past. ap (λ (x : Item C). claims_in m x a) (cell_now j cell) ∙ cnt.no_claims j a cell past;
  }

  passed : Passed m (appended m s now i n news)
  passed = append_passed m s now i n made news appends first record {
    noted = λ q x k e f. let r = from_events es q k f in subst (IsPassNoted g (s.notes n) (owned s.owner i (length (lines_in m (s.now i))) n i) n x) r.2 (noted q x r.0 e r.1);
    before = λ j y x e note. give.fresh j y x (subst (λ (z : List Mine). get_elem? z j ≡ some x) (sym shown.mine) e) note;
    since = λ q y x e note. notes_since i (length before.history) first es q y x e note;
    rise = λ q q' y y' x x' less e f note note'. notes_rise i (length before.history) first es q q' y y' x x' less e f note note';
  } lgd psd
    where
      noted : (q : ℕ) (x : Mine) (e : Event) → get_elem? news q ≡ some x → get_elem? es q ≡ some e → IsPassNoted g (s.notes n) (owned s.owner i (length (lines_in m (s.now i))) n i) n x (line.Event e)
      noted q x e f h = mines_noted g i (length before.history) (s.notes n) (owned s.owner i (length (lines_in m (s.now i))) n i) n
          (λ z above. owned_new s.owner i (length (lines_in m (s.now i))) n z (let c = long in omega arith)) (length before.history) first es (omega arith)
          (subst (λ (z : List Note). ArePassesNoted g i (length before.history) first z es) shown.notes give.noted) (passes_own g n p.held i es give.actors) q x e f h

  shard_given : Pact m record { turns = set b.turns i (free v); views = set b.views n u }
  shard_given =
      let lg = append_logged m s now i n made news appends lgd in record {
        scene = t;
        attached = attached;
        logged = record { sound = lg.sound; seen = lg.seen; places = λ j q below. let h = lg.places j q below in record { party = h.party; index = h.index; line = h.line; at = h.at; turn = h.turn; place = h.place }; stand = lg.stand; rises = lg.rises; own = lg.own };
        headed = headed;
        counted = counted;
        passed = record { noted = passed.noted; rises = passed.rises };
      }

-- a party gives a shard back, with buckets in hand
pub given_shard : {C : Type 0} (m : Meanings C) → IsBookedAfter → (p : Place (Known C)) (i : ℕ) (hand : List (ℕ × Chain)) (before : ShardLog) (es : List Event) (l : ShardLog) → IsGivenShard p.own.about.config p i hand before es l
    → IsShard p.own.about.config i → IsConfig p.own.about.config → MayGive (Pact m) p i (item.Shard l) (after_shard m hand i before es l p.own)
given_shard m law p i hand before es l give in_range valid b pact st is = shard_given m law b pact p st i is hand before es l give in_range valid
