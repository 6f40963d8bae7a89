-- A scan has ended and its event was made: the shard may be given back where the headers in hand say what the entries do.
use Rattle.std.proofs.Common.{◌≡◌, ◌⊎◌, ◌==◌, if◌then◌else◌, ℕ, zero, suc, ◌+◌, ◌-◌, ◌<◌, List, [], ◌∷◌, ◌++◌, length, Bool, true, false, Option, Some, None, refl, sym, ap, ◌∙◌, subst, inl, inr, ⊎_elim, arith, append_assoc, length-append}
use Rattle.std.specs.Prelude.{IsTrue, IsSome, not}
use Rattle.std.specs.Option.{option_map_or}
use Rattle.std.specs.Prelude.{cond}
use Rattle.std.proofs.lemmas.List.Sums.{sum_by-cons}
use Rattle.std.proofs.lemmas.Option.{none-some}
use mathlib.Core.Option.{some, some-injective, some-ne-none}
use lib.ListN.{get_elem?}
use Rattle.blk_ptr.specs.declared.key.Key.{Key}
use Rattle.blk_ptr.specs.Order.{key_eq}
use Rattle.blk_ptr.proofs.Keys.{key_eq-is}
use Rattle.arc_lists.specs.Sequences.{stands_on}
use Rattle.arc_core.specs.declared.config.Config.{Config}
use Rattle.arc_core.specs.declared.entry.Entry.{Entry}
use Rattle.arc_core.specs.declared.event.Event.{Event}
use Rattle.arc_core.specs.declared.event.Event.TheVariants.{Pass, Miss, Insert, Pick, Resize}
use Rattle.arc_core.specs.Operations.{event_key, is_about, is_pass}
use Rattle.arc_core.specs.PlainShard.{PlainShard, entry_of}
use Rattle.arc_core.specs.ShardLog.{ShardLog}
use Rattle.arc_core.specs.Sparing.{IsSpared}
use Rattle.arc_core.specs.Step.{after, legal}
use Rattle.arc_core.proofs.Others.{frame-kept, sparing}
use Rattle.hash_chain.specs.Chain.{Chain}
use Rattle.turn_table.specs.Board.{IsAmong}
use Rattle.turn_table.specs.Places.{Place}
use Rattle.arc_table.specs.declared.view.Known.{Known}
use Rattle.arc_table.specs.declared.view.Mine.{Mine}
use Rattle.arc_table.specs.declared.view.Note.{Note}
use Rattle.arc_table.specs.Fronts.{item_at}
use Rattle.arc_table.specs.Geometry.{bucket_turn, shard_turn}
use Rattle.arc_table.specs.Items.{Meanings}
use Rattle.arc_table.specs.pact.Logged.{is_picking}
use Rattle.arc_table.specs.scans.Scanning.{takes_room, AllPairs, AreApart, ArePasses, IsBucketOf, MayScan, Scans, added, notes_of}
use Rattle.arc_table.specs.scans.Sparing.{turns_in}
use Rattle.arc_table.specs.ShardGiving.{ArePassesNoted, IsActor, IsGivenShard, SameHead, passes_in}
use Rattle.arc_table.specs.Views.{note}
use Rattle.arc_table.proofs.OneEvent.{is_pick, stays_settled}
use Rattle.arc_table.proofs.scans.Scans.{added_among, each_held, item_past, pair_at, replayed_more, scan_listed, scan_number, scan_recorded, some_is, won_mine}

-- ---- passes and their notes

one_count : (e : Event) → is_pass e ≡ false → passes_in (e ∷ []) ≡ 0
one_count (Pass n k owner) h = absurd (cc)
one_count (_) h = refl

passes_count : (g : Config) (n i : ℕ) (es : List Event) (e : Event) → ArePasses g n i es → is_pass e ≡ false → passes_in (es ++ e ∷ []) ≡ length es
passes_count g n i [] e h last = one_count e last
passes_count g n i (Pass a k owner ∷ es) e h last =
    let ih = passes_count g n i es e h.1 last in
    let one : passes_in (Pass a k owner ∷ (es ++ e ∷ [])) ≡ 1 + passes_in (es ++ e ∷ []) = sum_by-cons (λ x. cond (is_pass x) 1 0) (Pass a k owner) (es ++ e ∷ []) in
    omega arith
passes_count g n i (_ ∷ es) e h last = absurd h

notes_long : (g : Config) (n i len : ℕ) (es : List Event) → ArePasses g n i es → length (notes_of g i len es) ≡ length es
notes_long g n i len [] h = refl
notes_long g n i len (Pass a k owner ∷ es) h = ap suc (notes_long g n i len es h.1)
notes_long g n i len (_ ∷ es) h = absurd h

get_behind : {A : Type 0} (xs : List A) (y : A) (ys : List A) → get_elem? (xs ++ y ∷ ys) (length xs) ≡ some y
get_behind [] y ys = refl
get_behind (x ∷ xs) y ys = get_behind xs y ys

length_more : {A : Type 0} (xs : List A) (y : A) → length (xs ++ y ∷ []) ≡ suc (length xs)
length_more [] y = refl
length_more (x ∷ xs) y = ap suc (length_more xs y)

no_more_noted : (g : Config) (i len q : ℕ) (notes : List Note) (e : Event) → is_pass e ≡ false → ArePassesNoted g i len q notes (e ∷ [])
no_more_noted g i len q notes (Pass n k owner) h = absurd (cc)
no_more_noted g i len q notes (_) h = tt

passes_noted : (g : Config) (n i len : ℕ) (front : List Note) (es : List Event) (e : Event) → ArePasses g n i es → is_pass e ≡ false
    → ArePassesNoted g i len (length front) (front ++ notes_of g i len es) (es ++ e ∷ [])
passes_noted g n i len front [] e h last = no_more_noted g i len (length front) (front ++ []) e last
passes_noted g n i len front (Pass a k owner ∷ es) e h last =
    let x : Note = note (bucket_turn g k) owner (Some (i, len)) in (
      get_behind front x (notes_of g i len es),
      subst (λ (y : ℕ × List Note). ArePassesNoted g i len y.0 y.1 (es ++ e ∷ [])) (λ z. (length_more front x z, append_assoc front (x ∷ []) (notes_of g i len es) z))
          (passes_noted g n i len (front ++ x ∷ []) es e h.1 last),
    )
passes_noted g n i len front (_ ∷ es) e h last = absurd h

evict_no_pick : (e : Event) → takes_room e ≡ true → is_pick e ≡ false
evict_no_pick (Pick n k) h = absurd (cc)
evict_no_pick (_) h = refl

evict_no_pass : (e : Event) → takes_room e ≡ true → is_pass e ≡ false
evict_no_pass (Pass n k owner) h = absurd (cc)
evict_no_pass (_) h = refl

pub forgotten : (s : PlainShard) (e : Event) → takes_room e ≡ true → (after s e).passed ≡ []
forgotten s (Miss n k t) h = (frame-kept s (Miss n k t)).passed refl
forgotten s (Insert n k d t) h = (frame-kept s (Insert n k d t)).passed refl
forgotten s (Resize n c) h = (frame-kept s (Resize n c)).passed refl
forgotten s (_) h = absurd (cc)

actor_pass : (g : Config) (n i : ℕ) (held : List ℕ) (es : List Event) (e : Event) → ArePasses g n i es → IsActor g n held i e → (j : ℕ) (x : Event) → get_elem? (es ++ e ∷ []) j ≡ some x → IsActor g n held i x
actor_pass g n i held [] e h last zero x at = subst (IsActor g n held i) (some-injective e x at) last
actor_pass g n i held [] e h last (suc j) x at = absurd (some-ne-none x (sym at))
actor_pass g n i held (Pass a k owner ∷ es) e h last zero x at = subst (IsActor g n held i) (some-injective (Pass a k owner) x at) record {
  acts = inl h.0.0;
  fit = h.0.0;
  feeder = λ f. absurd (cc);
  own = λ y is. h.0.1 ∙ ap (shard_turn g) (is_same k y is);
}
  where
    is_same : (x y : Key) → ◌≡◌ {A = Option Key} (Some x) (Some y) → x ≡ y
    is_same x y q = cc
actor_pass g n i held (Pass a k owner ∷ es) e h last (suc j) x at = actor_pass g n i held es e h.1 last j x at
actor_pass g n i held (_ ∷ es) e h last j x at = absurd h

-- ---- tables with the same turns

same_none : (j : ℕ) (xs ys : List (ℕ × Chain)) → turns_in xs ≡ turns_in ys → item_at j xs ≡ None → item_at j ys ≡ None
same_none j [] [] e none = refl
same_none j [] (y ∷ ys) e none = absurd (cc)
same_none j (x ∷ xs) [] e none = absurd (cc)
same_none j (x ∷ xs) (y ∷ ys) e none = by_test (same_none j xs ys (tails (x.0) (y.0) (turns_in xs) (turns_in ys) e)) (j == x.0) (ap (λ (z : ℕ). j == z) (heads (x.0) (y.0) (turns_in xs) (turns_in ys) e)) none
  where
    heads : (a b : ℕ) (xs ys : List ℕ) → (a ∷ xs) ≡ (b ∷ ys) → a ≡ b
    heads a b xs ys q = cc

    tails : (a b : ℕ) (xs ys : List ℕ) → (a ∷ xs) ≡ (b ∷ ys) → xs ≡ ys
    tails a b xs ys q = cc

    by_test : (item_at j xs ≡ None → item_at j ys ≡ None) → (t : Bool) → t ≡ (j == y.0) → (if t then Some x.1 else item_at j xs) ≡ None → (if (j == y.0) then Some y.1 else item_at j ys) ≡ None
    by_test ih true same f = absurd (none-some x.1 (sym f))
    by_test ih false same f = subst (λ (b : Bool). (if b then Some y.1 else item_at j ys) ≡ None) same (ih f)

none_or_some : (o : Option Chain) → (o ≡ None) ⊎ IsSome o
none_or_some None = inl refl
none_or_some (Some x) = inr refl

pub same_some : (j : ℕ) (xs ys : List (ℕ × Chain)) (b : Chain) → turns_in xs ≡ turns_in ys → item_at j xs ≡ Some b → IsSome (item_at j ys)
same_some j xs ys b e there = ⊎_elim
    (λ (none : item_at j ys ≡ None). absurd (none-some b (sym (same_none j ys xs (sym e) none) ∙ there)))
    (λ (h : IsSome (item_at j ys)). h)
    (none_or_some (item_at j ys))

pub apart_turns : (xs ys : List (ℕ × Chain)) → turns_in xs ≡ turns_in ys → AreApart ys → AreApart xs
apart_turns [] ys e apart = tt
apart_turns (x ∷ xs) [] e apart = absurd (cc)
apart_turns (x ∷ xs) (y ∷ ys) e apart = (
  subst (λ (j : ℕ). item_at j xs ≡ None) (sym (heads x.0 y.0 (turns_in xs) (turns_in ys) e)) (same_none y.0 ys xs (sym (tails x.0 y.0 (turns_in xs) (turns_in ys) e)) apart.0),
  apart_turns xs ys (tails x.0 y.0 (turns_in xs) (turns_in ys) e) apart.1,
)
  where
    heads : (a b : ℕ) (xs ys : List ℕ) → (a ∷ xs) ≡ (b ∷ ys) → a ≡ b
    heads a b xs ys q = cc

    tails : (a b : ℕ) (xs ys : List ℕ) → (a ∷ xs) ≡ (b ∷ ys) → xs ≡ ys
    tails a b xs ys q = cc

same_head : (o : Option Entry) → SameHead o o
same_head None = tt
same_head (Some e) = record { key = refl; state = refl; reading = refl; place = refl; digest = refl }

-- ---- the keys that the event is about

pub about_is : (j : Key) (o : Option Key) → option_map_or (key_eq j) o false ≡ true → o ≡ Some j
about_is j None h = absurd (cc)
about_is j (Some k) h = ap (λ (x : Key). let o : Option Key = Some x in o) (sym (key_eq-is j k h))

spared_there : (o : Option Entry) (x : Entry) → IsSpared o (Some x) → (y : Entry) × (o ≡ Some y)
spared_there None x h = absurd (none-some x (sym h))
spared_there (Some y) x h = (y, refl)

not_false : (b : Bool) → b ≡ false → IsTrue (not b)
not_false b h = ap not h

module _ {C : Type 0} (m : Meanings C) (g : Config) (i : ℕ) (first : List (ℕ × Chain)) (before : ShardLog) (p q : Place (Known C)) (may : MayScan g i first before p)
    (l : ShardLog) (marked : List Key) (vs : List (ℕ × Chain)) (es : List Event) (s : Scans m g i first before p q l marked vs es)
    (e : Event) (l' : ShardLog) (hand : List (ℕ × Chain)) (evicts : takes_room e ≡ true) (ok : IsTrue (legal l.now e))
    (none : (k : Key) → IsTrue (not (is_about k e)) → stands_on k marked ≡ false → entry_of k (after l.now e) ≡ entry_of k l.now)
    (now : l'.now ≡ after l.now e) (history : l'.history ≡ l.history ++ e ∷ []) (opening : l'.opening ≡ l.opening)
    (actor : IsActor g q.number q.held i e) (about : (k : Key) → event_key e ≡ Some k → IsSome (item_at (bucket_turn g k) (first ++ vs)))
    (turns : turns_in hand ≡ turns_in (first ++ vs)) (buckets : AllPairs (IsBucketOf g i l'.now) hand) where
  before_entries : (k : Key) → entry_of k l.now ≡ entry_of k before.now
  before_entries k = ap (entry_of k) s.now

  own_entries : (k : Key) (x : Entry) → (b : Bool) → is_about k e ≡ b → entry_of k l'.now ≡ Some x → i ≡ shard_turn g k
  own_entries k x true is there = actor.own k (about_is k (event_key e) is)
  own_entries k x false is there =
      let kept = sparing l.now e k s.replayed.sound ok (not_false (is_about k e) is) in
      let had = spared_there (entry_of k l.now) x (subst (IsSpared (entry_of k l.now)) (ap (entry_of k) (sym now) ∙ there) kept) in
      may.entries k had.0 (sym (before_entries k) ∙ had.1)

  held_first : (j : ℕ) (b : Chain) → item_at j first ≡ Some b → IsAmong j q.held
  held_first j b there = subst (λ (x : Place (Known C)). IsAmong j x.held) (sym s.place) (added_among vs p.held j (pair_at (λ j b. IsAmong j p.held) first j b may.held there))

  held_won : (j : ℕ) (b : Chain) → item_at j vs ≡ Some b → IsAmong j q.held
  held_won j b there = subst (λ (x : Place (Known C)). IsAmong j x.held) (sym s.place) (pair_at (λ j b. IsAmong j (added vs p.held)) vs j b (each_held vs p.held) there)

  in_hand : (j : ℕ) (b : Chain) → item_at j hand ≡ Some b → IsAmong j q.held
  in_hand j b there = ⊎_elim
      (λ (f : item_at j first ≡ None).
      let x = some_is (item_at j (first ++ vs)) (same_some j hand (first ++ vs) b turns there) in held_won j x.0 (sym (item_past j first vs f) ∙ x.1))
      (λ (f : IsSome (item_at j first)). let x = some_is (item_at j first) f in held_first j x.0 x.1)
      (none_or_some (item_at j first))

  -- a key whose bucket is not in hand is neither marked nor the event's
  out_same : (k : Key) → item_at (bucket_turn g k) hand ≡ None → (b c : Bool) → is_about k e ≡ b → stands_on k marked ≡ c → SameHead (entry_of k before.now) (entry_of k l'.now)
  out_same k out true c is stood =
      let there = some_is (item_at (bucket_turn g k) (first ++ vs)) (about k (about_is k (event_key e) is)) in
      absurd (none-some there.0 (sym (same_none (bucket_turn g k) hand (first ++ vs) turns out) ∙ there.1))
  out_same k out false true is stood =
      let there = some_is (item_at (bucket_turn g k) (first ++ vs)) (s.in_hand k stood) in
      absurd (none-some there.0 (sym (same_none (bucket_turn g k) hand (first ++ vs) turns out) ∙ there.1))
  out_same k out false false is stood =
      let stays : entry_of k l'.now ≡ entry_of k before.now = ap (entry_of k) now ∙ (none k (not_false (is_about k e) is) stood ∙ before_entries k) in
      subst (SameHead (entry_of k before.now)) (sym stays) (same_head (entry_of k before.now))

  notes_are : q.own.notes ≡ p.own.notes ++ notes_of g i (length before.history) es
  notes_are = ap (λ (x : Place (Known C)). x.own.notes) s.place

  notes_before : length q.own.notes - passes_in (es ++ e ∷ []) ≡ length p.own.notes
  notes_before =
      let all : length q.own.notes ≡ length (p.own.notes ++ notes_of g i (length before.history) es) = ap length notes_are in
      let parts : length (p.own.notes ++ notes_of g i (length before.history) es) ≡ length p.own.notes + length (notes_of g i (length before.history) es) = length-append p.own.notes (notes_of g i (length before.history) es) in
      let long : length (notes_of g i (length before.history) es) ≡ length es = notes_long g p.number i (length before.history) es s.passes in
      let count : passes_in (es ++ e ∷ []) ≡ length es = passes_count g p.number i es e s.passes (evict_no_pass e evicts) in
      omega arith

  pub scan_given : IsGivenShard g q i hand before (es ++ e ∷ []) l'
  scan_given = record {
    recorded = scan_recorded m g i first before p may q l marked vs es s;
    listed = scan_listed m g i first before p may q l marked vs es s;
    history = history ∙ (ap (λ (h : List Event). h ++ e ∷ []) s.history ∙ append_assoc before.history es (e ∷ []));
    opening = opening ∙ s.opening;
    replayed = replayed_more e l l' s.replayed ok now history opening;
    passed = ap (λ (x : PlainShard). x.passed) now ∙ forgotten l.now e evicts;
    settled = ap (λ (x : PlainShard). is_picking x.phase) now ∙ stays_settled l.now e (evict_no_pick e evicts) (ap (λ (x : PlainShard). is_picking x.phase) s.now ∙ may.sound.settled);
    actors = λ j x at. subst (λ (n : ℕ). IsActor g n q.held i x) (sym (scan_number m g i first before p may q l marked vs es s))
        (actor_pass g p.number i q.held es e s.passes (subst (λ (n : ℕ). IsActor g n q.held i e) (scan_number m g i first before p may q l marked vs es s) actor) j x at);
    own_entries = λ k x there. own_entries k x (is_about k e) refl there;
    in_hand = λ j b there. (in_hand j b there, (pair_at (IsBucketOf g i l'.now) hand j b buckets there).range);
    in_shard = λ k b there. (pair_at (IsBucketOf g i l'.now) hand (bucket_turn g k) b buckets there).shard k refl;
    heads_in = λ k b there. (pair_at (IsBucketOf g i l'.now) hand (bucket_turn g k) b buckets there).heads k refl;
    heads_out = λ k own out. out_same k out (is_about k e) (stands_on k marked) refl refl;
    own_headers = λ j b k h there is. (pair_at (IsBucketOf g i l'.now) hand j b buckets there).own k h is;
    noted = subst (λ (x : ℕ × List Note). ArePassesNoted g i (length before.history) x.0 x.1 (es ++ e ∷ [])) (λ z. (sym notes_before z, sym notes_are z))
        (passes_noted g p.number i (length before.history) p.own.notes es e s.passes (evict_no_pass e evicts));
    fresh = λ j y a at is. subst (λ (x : ℕ). y < x) (sym notes_before) (may.fresh j y a (subst (λ (x : List Mine). get_elem? x j ≡ some a) (ap (λ (x : Place (Known C)). x.own.mine) s.place ∙ won_mine m vs p.own) at) is);
  }
