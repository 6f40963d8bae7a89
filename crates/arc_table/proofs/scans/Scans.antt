-- What a scan for victims keeps, with each bucket that it wins and each key that it passes.
use Rattle.std.proofs.Common.{◌≡◌, ◌≢◌, ◌⊎◌, ◌==◌, if◌then◌else◌, ℕ, List, [], ◌∷◌, ◌++◌, length, Bool, true, false, Option, Some, None, refl, sym, ap, ◌∙◌, subst, inl, inr, ⊎_elim, eq-eqb, ne_eqb, arith, append_assoc}
use Rattle.std.specs.Prelude.{IsTrue, IsSome}
use Rattle.std.proofs.lemmas.Option.{none-some}
use mathlib.Core.Logic.{dite}
use native.Mathlib.Decide.{ℕ_discrete}
use Rattle.blk_ptr.specs.declared.key.Key.{Key}
use Rattle.arc_lists.specs.Sequences.{stands_on}
use Rattle.arc_core.specs.declared.config.Config.{Config}
use Rattle.arc_core.specs.Config.{IsConfig}
use Rattle.arc_core.specs.declared.event.Event.{Event}
use Rattle.arc_core.specs.declared.event.Event.TheVariants.{Pass, Miss, Insert, Resize}
use Rattle.arc_core.specs.PlainShard.{PlainShard, entry_of}
use Rattle.arc_core.specs.Replay.{is_legal_history, replay}
use Rattle.arc_core.specs.ShardLog.{ShardLog, IsReplayed}
use Rattle.arc_core.specs.Sound.{IsSound}
use Rattle.arc_core.specs.Step.{after, legal}
use Rattle.arc_core.proofs.Soundness.{IsSound-after}
use Rattle.arc_core.proofs.Stepping.{legal-append, replay-append}
use Rattle.hash_chain.specs.Chain.{Chain, header_at}
use Rattle.turn_table.specs.Board.{IsAmong, without}
use Rattle.turn_table.specs.Moments.{WasFree}
use Rattle.turn_table.specs.Places.{IsOther, Place, gave_back, saw, took}
use Rattle.turn_table.proofs.Moments.{taken_at}
use Rattle.arc_table.specs.declared.item.Item.{Item}
use Rattle.arc_table.specs.declared.item.Item.TheVariants as item
use Rattle.arc_table.specs.declared.view.Known.{Known}
use Rattle.arc_table.specs.declared.view.Note.{Note}
use Rattle.arc_table.specs.Cache.{Cache, IsPartyOf}
use Rattle.arc_table.specs.Fronts.{item_at, list_at}
use Rattle.arc_table.specs.Geometry.{IsBucket, IsShard, bucket_turn, shard_turn}
use Rattle.arc_table.specs.pact.Headed.{IsHead}
use Rattle.arc_table.specs.Items.{Meanings, headers_in, shard_in}
use Rattle.arc_table.specs.pact.Rule.{Pact}
use Rattle.arc_table.specs.scans.Scanning.{takes_room, AllPairs, AreApart, AreOfOthers, ArePasses, IsBucketOf, IsInHand, MayScan, Scans, added, notes_of, won_all}
use Rattle.arc_table.specs.TableLaws.{item_else, item_here, list_else}
use Rattle.arc_table.proofs.TableLaws.{without_else}
use Rattle.arc_table.specs.Views.{after_lost, after_same, after_won, note, under_of}
use Rattle.arc_table.proofs.Boards.{in_hand}
use Rattle.arc_table.proofs.Ranges.{bucket_range}
use Rattle.arc_table.proofs.Rows.{same_shard}

-- ---- tables, one behind the other

module _ {X : Type 0} where
  pub item_front : (j : ℕ) (xs ys : List (ℕ × X)) (x : X) → item_at j xs ≡ Some x → item_at j (xs ++ ys) ≡ Some x
  item_front j [] ys x e = absurd (none-some x e)
  item_front j (p ∷ xs) ys x e = by_test (item_front j xs ys x) (j == p.0) e
    where
      by_test : (item_at j xs ≡ Some x → item_at j (xs ++ ys) ≡ Some x) → (b : Bool) → (if b then Some p.1 else item_at j xs) ≡ Some x → (if b then Some p.1 else item_at j (xs ++ ys)) ≡ Some x
      by_test ih true f = f
      by_test ih false f = ih f

  pub item_past : (j : ℕ) (xs ys : List (ℕ × X)) → item_at j xs ≡ None → item_at j (xs ++ ys) ≡ item_at j ys
  item_past j [] ys e = refl
  item_past j (p ∷ xs) ys e = by_test (item_past j xs ys) (j == p.0) e
    where
      by_test : (item_at j xs ≡ None → item_at j (xs ++ ys) ≡ item_at j ys) → (b : Bool) → (if b then Some p.1 else item_at j xs) ≡ None → (if b then Some p.1 else item_at j (xs ++ ys)) ≡ item_at j ys
      by_test ih true f = absurd (none-some p.1 (sym f))
      by_test ih false f = ih f

  pub some_is : (o : Option X) → IsSome o → (x : X) × (o ≡ Some x)
  some_is None h = absurd (cc)
  some_is (Some x) h = (x, refl)

  pub is_there : (o : Option X) (x : X) → o ≡ Some x → IsSome o
  is_there o x e = subst (λ (z : Option X). IsSome z) (sym e) refl

  pub some_front : (j : ℕ) (xs ys : List (ℕ × X)) → IsSome (item_at j xs) → IsSome (item_at j (xs ++ ys))
  some_front j xs ys h = let s = some_is (item_at j xs) h in is_there (item_at j (xs ++ ys)) s.0 (item_front j xs ys s.0 s.1)

  -- the item that a table of one gives
  pub some_last : (j : ℕ) (xs : List (ℕ × X)) (x : X) → IsSome (item_at j (xs ++ (j, x) ∷ []))
  some_last j [] x = is_there (item_at j ((j, x) ∷ [])) x (item_here j x [])
  some_last j (p ∷ xs) x = by_test (some_last j xs x) (j == p.0)
    where
      by_test : IsSome (item_at j (xs ++ (j, x) ∷ [])) → (b : Bool) → IsSome (if b then Some p.1 else item_at j (xs ++ (j, x) ∷ []))
      by_test ih true = refl
      by_test ih false = ih

  pub none_more : (j i : ℕ) (xs : List (ℕ × X)) (x : X) → item_at j xs ≡ None → j ≢ i → item_at j (xs ++ (i, x) ∷ []) ≡ None
  none_more j i xs x e far = item_past j xs ((i, x) ∷ []) e ∙ item_else i j x [] far

-- ---- lists that grow at their end

pub pairs_more : (P : ℕ → Chain → Type 0) (vs ws : List (ℕ × Chain)) → AllPairs P vs → AllPairs P ws → AllPairs P (vs ++ ws)
pairs_more P [] ws h k = k
pairs_more P (v ∷ vs) ws h k = (h.0, pairs_more P vs ws h.1 k)

pub pair_at : (P : ℕ → Chain → Type 0) (vs : List (ℕ × Chain)) (j : ℕ) (b : Chain) → AllPairs P vs → item_at j vs ≡ Some b → P j b
pair_at P [] j b all e = absurd (none-some b e)
pair_at P (v ∷ vs) j b all e = dite (ℕ_discrete j v.0)
    (λ q. let same : v.1 ≡ b = is_same v.1 b (subst (λ (t : Bool). (if t then Some v.1 else item_at j vs) ≡ Some b) (eq-eqb j v.0 q) e) in
    subst (λ (x : ℕ × Chain). P x.0 x.1) (λ z. (sym q z, same z)) all.0)
    (λ q. pair_at P vs j b all.1 (subst (λ (t : Bool). (if t then Some v.1 else item_at j vs) ≡ Some b) (ne_eqb j v.0 q) e))
  where
    is_same : (x y : Chain) → ◌≡◌ {A = Option Chain} (Some x) (Some y) → x ≡ y
    is_same x y q = cc

pub apart_more : (vs : List (ℕ × Chain)) (j : ℕ) (b : Chain) → AreApart vs → item_at j vs ≡ None → AreApart (vs ++ (j, b) ∷ [])
apart_more [] j b apart e = (refl, tt)
apart_more (v ∷ vs) j b apart e = dite (ℕ_discrete j v.0)
    (λ q. absurd (none-some v.1 (sym e ∙ subst (λ (t : Bool). (if t then Some v.1 else item_at j vs) ≡ Some v.1) (sym (eq-eqb j v.0 q)) refl)))
    (λ q. (none_more v.0 j vs b apart.0 (λ r. q (sym r)), apart_more vs j b apart.1 (subst (λ (t : Bool). (if t then Some v.1 else item_at j vs) ≡ None) (ne_eqb j v.0 q) e)))

passes_more : (g : Config) (n i : ℕ) (es : List Event) (k : Key) (owner : ℕ) → ArePasses g n i es → i ≡ shard_turn g k → ArePasses g n i (es ++ Pass n k owner ∷ [])
passes_more g n i [] k owner h own = ((refl, own), tt)
passes_more g n i (Pass a x o ∷ es) k owner h own = (h.0, passes_more g n i es k owner h.1 own)
passes_more g n i (_ ∷ es) k owner h own = absurd h

pub others_more : {C : Type 0} (p : Place (Known C)) (es : List Event) (e : Event) → AreOfOthers p es → AreOfOthers p (e ∷ []) → AreOfOthers p (es ++ e ∷ [])
others_more p [] e h one = one
others_more p (Pass a x o ∷ es) e h one = (h.0, others_more p es e h.1 one)
others_more p (_ ∷ es) e h one = others_more p es e h one

notes_more : (g : Config) (n i len : ℕ) (es : List Event) (k : Key) (owner : ℕ) → ArePasses g n i es
    → notes_of g i len (es ++ Pass n k owner ∷ []) ≡ notes_of g i len es ++ note (bucket_turn g k) owner (Some (i, len)) ∷ []
notes_more g n i len [] k owner h = refl
notes_more g n i len (Pass a x o ∷ es) k owner h = ap (λ (l : List Note). note (bucket_turn g x) o (Some (i, len)) ∷ l) (notes_more g n i len es k owner h.1)
notes_more g n i len (_ ∷ es) k owner h = absurd h

added_more : (vs : List (ℕ × Chain)) (j : ℕ) (b : Chain) (held : List ℕ) → added (vs ++ (j, b) ∷ []) held ≡ j ∷ added vs held
added_more [] j b held = refl
added_more (v ∷ vs) j b held = added_more vs j b (v.0 ∷ held)

-- what was held is held still, and a turn that is held is one of these or was held
pub added_among : (vs : List (ℕ × Chain)) (held : List ℕ) (i : ℕ) → IsAmong i held → IsAmong i (added vs held)
added_among [] held i h = h
added_among (v ∷ vs) held i h = added_among vs (v.0 ∷ held) i (inr h)

pub among_added : (vs : List (ℕ × Chain)) (held : List ℕ) (i : ℕ) → IsAmong i (added vs held) → IsSome (item_at i vs) ⊎ IsAmong i held
among_added [] held i h = inr h
among_added (v ∷ vs) held i h = ⊎_elim
    (λ (s : IsSome (item_at i vs)). inl (here s))
    (λ (a : IsAmong i (v.0 ∷ held)). ⊎_elim (λ (q : v.0 ≡ i). inl (first q)) (λ (b : IsAmong i held). inr b) a)
    (among_added vs (v.0 ∷ held) i h)
  where
    here : IsSome (item_at i vs) → IsSome (item_at i (v ∷ vs))
    here s = by_test (i == v.0)
      where
        by_test : (b : Bool) → IsSome (if b then Some v.1 else item_at i vs)
        by_test true = refl
        by_test false = s

    first : v.0 ≡ i → IsSome (item_at i (v ∷ vs))
    first q = subst (λ (t : Bool). IsSome (if t then Some v.1 else item_at i vs)) (sym (eq-eqb i v.0 (sym q))) refl

-- each of these is held
pub each_held : (vs : List (ℕ × Chain)) (held : List ℕ) → AllPairs (λ j b. IsAmong j (added vs held)) vs
each_held vs held = go vs held
  where
    go : (vs : List (ℕ × Chain)) (held : List ℕ) → AllPairs (λ j b. IsAmong j (added vs held)) vs
    go [] held = tt
    go (v ∷ vs) held = (added_among vs (v.0 ∷ held) v.0 (inl refl), go vs (v.0 ∷ held))

module _ {C : Type 0} (m : Meanings C) where
  won_more : (vs : List (ℕ × Chain)) (j : ℕ) (b : Chain) (w : Known C) → won_all m (vs ++ (j, b) ∷ []) w ≡ after_won m j (item.Bucket b) (won_all m vs w)
  won_more [] j b w = refl
  won_more (v ∷ vs) j b w = won_more vs j b (after_won m v.0 (item.Bucket v.1) w)

  -- what winning buckets leaves as it was
  pub won_under : (vs : List (ℕ × Chain)) (w : Known C) → under_of (won_all m vs w).records ≡ under_of w.records
  won_under [] w = refl
  won_under (v ∷ vs) w = won_under vs (after_won m v.0 (item.Bucket v.1) w)

  pub won_about : (vs : List (ℕ × Chain)) (w : Known C) → (won_all m vs w).about ≡ w.about
  won_about [] w = refl
  won_about (v ∷ vs) w = won_about vs (after_won m v.0 (item.Bucket v.1) w)

  pub won_mine : (vs : List (ℕ × Chain)) (w : Known C) → (won_all m vs w).mine ≡ w.mine
  won_mine [] w = refl
  won_mine (v ∷ vs) w = won_mine vs (after_won m v.0 (item.Bucket v.1) w)

  pub won_records : (vs : List (ℕ × Chain)) (w : Known C) (i : ℕ) → AllPairs (λ j b. i ≢ j) vs → item_at i (won_all m vs w).records ≡ item_at i w.records
  won_records [] w i far = refl
  won_records (v ∷ vs) w i far = won_records vs (after_won m v.0 (item.Bucket v.1) w) i far.1 ∙ item_else v.0 i (item.Bucket v.1) w.records far.0

  pub won_listed : (vs : List (ℕ × Chain)) (w : Known C) (i : ℕ) → AllPairs (λ j b. i ≢ j) vs → list_at i (won_all m vs w).listed ≡ list_at i w.listed
  won_listed [] w i far = refl
  won_listed (v ∷ vs) w i far = won_listed vs (after_won m v.0 (item.Bucket v.1) w) i far.1 ∙ list_else v.0 i ([]) w.listed far.0

-- what is no bucket is none of these
pub far_from : (g : Config) (i k : ℕ) (s : PlainShard) (vs : List (ℕ × Chain)) → (IsBucket g i → ⊥) → AllPairs (IsBucketOf g k s) vs → AllPairs (λ j b. i ≢ j) vs
far_from g i k s [] none all = tt
far_from g i k s (v ∷ vs) none all = ((λ q. none (subst (IsBucket g) (sym q) all.0.range)), far_from g i k s vs none all.1)

shard_no_bucket : (g : Config) (i : ℕ) → IsShard g i → IsBucket g i → ⊥
shard_no_bucket g i shard bucket = let a = shard.0 in let b = bucket.1 in omega arith

-- ---- a history with one event more

pub replayed_more : (e : Event) (l l' : ShardLog) → IsReplayed l → IsTrue (legal l.now e) → l'.now ≡ after l.now e → l'.history ≡ l.history ++ e ∷ [] → l'.opening ≡ l.opening → IsReplayed l'
replayed_more e l l' log ok now history opening = record {
  sound = subst IsSound (sym now) (IsSound-after l.now e log.sound ok);
  replayed = ap (λ (x : PlainShard × List Event). replay x.0 x.1) (λ z. (opening z, history z)) ∙ (replay-append l.opening l.history (e ∷ []) ∙ (ap (λ (s : PlainShard). after s e) log.replayed ∙ sym now));
  legal = subst (λ (x : PlainShard × List Event). IsTrue (is_legal_history x.0 x.1)) (λ z. (sym opening z, sym history z))
      (legal-append l.opening l.history e log.legal (subst (λ (s : PlainShard). IsTrue (legal s e)) (sym log.replayed) ok));
}

pub replayed_same : (l l' : ShardLog) → IsReplayed l → l'.now ≡ l.now → l'.history ≡ l.history → l'.opening ≡ l.opening → IsReplayed l'
replayed_same l l' log now history opening = record {
  sound = subst IsSound (sym now) log.sound;
  replayed = ap (λ (x : PlainShard × List Event). replay x.0 x.1) (λ z. (opening z, history z)) ∙ (log.replayed ∙ sym now);
  legal = subst (λ (x : PlainShard × List Event). IsTrue (is_legal_history x.0 x.1)) (λ z. (sym opening z, sym history z)) log.legal;
}

module _ {C : Type 0} (m : Meanings C) (g : Config) (i : ℕ) (first : List (ℕ × Chain)) (before : ShardLog) (p : Place (Known C)) (may : MayScan g i first before p) where
  no_bucket : IsBucket g i → ⊥
  no_bucket = shard_no_bucket g i may.range

  -- ---- what the party has during a scan

  module _ (q : Place (Known C)) (l : ShardLog) (marked : List Key) (vs : List (ℕ × Chain)) (es : List Event) (s : Scans m g i first before p q l marked vs es) where
    pub scan_far : AllPairs (λ j b. i ≢ j) vs
    scan_far = far_from g i i before.now vs no_bucket s.buckets

    pub scan_number : q.number ≡ p.number
    scan_number = ap (λ (x : Place (Known C)). x.number) s.place

    pub scan_recorded : item_at i q.own.records ≡ Some (item.Shard before)
    scan_recorded = ap (λ (x : Place (Known C)). item_at i x.own.records) s.place ∙ (won_records m vs p.own i scan_far ∙ may.recorded)

    pub scan_listed : list_at i q.own.listed ≡ []
    scan_listed = ap (λ (x : Place (Known C)). list_at i x.own.listed) s.place ∙ (won_listed m vs p.own i scan_far ∙ may.listed)

    pub scan_config : q.own.about.config ≡ g
    scan_config = ap (λ (x : Place (Known C)). x.own.about.config) s.place ∙ (ap (λ a. a.config) (won_about m vs p.own) ∙ may.config)

    pub scan_among : IsAmong i q.held
    scan_among = subst (λ (x : Place (Known C)). IsAmong i x.held) (sym s.place) (added_among vs p.held i may.among)

    pub scan_under : under_of q.own.records ≡ Some (i, length before.history)
    scan_under = ap (λ (x : Place (Known C)). under_of x.own.records) s.place ∙ (won_under m vs p.own ∙ may.under)

    -- a bucket that is not in hand is not held
    pub not_in_hand : (j : ℕ) → IsBucket g j → item_at j (first ++ vs) ≡ None → ¬ IsAmong j q.held
    not_in_hand j bucket none among = ⊎_elim
        (λ (h : IsSome (item_at j vs)). absurd (no_item h))
        (λ (h : IsAmong j p.held). absurd (no_first (may.others j h bucket)))
        (among_added vs p.held j (subst (λ (x : Place (Known C)). IsAmong j x.held) s.place among))
      where
        no_first : IsSome (item_at j first) → ⊥
        no_first h = let x = some_is (item_at j first) h in none-some x.0 (sym none ∙ item_front j first vs x.0 x.1)

        no_item : IsSome (item_at j vs) → ⊥
        no_item h = ⊎_elim
            (λ (f : item_at j first ≡ None). let x = some_is (item_at j vs) h in none-some x.0 (sym none ∙ (item_past j first vs f ∙ x.1)))
            (λ (f : IsSome (item_at j first)). no_first f)
            (none_or_some (item_at j first))
          where
            none_or_some : (o : Option Chain) → (o ≡ None) ⊎ IsSome o
            none_or_some None = inl refl
            none_or_some (Some x) = inr refl

    -- ---- a bucket that was free

    module _ (key : Key) (b : Chain) (valid : IsConfig g) (own : i ≡ shard_turn g key) (f : WasFree (Pact m) q (bucket_turn g key) (item.Bucket b)) where
      then_config : f.held.scene.about.config ≡ g
      then_config = ap (λ a. a.config) (sym (f.held.attached.views q.number q.own f.stands.shows.0).about) ∙ scan_config

      then_shard : f.held.scene.now i ≡ item.Shard before
      then_shard = (in_hand m f.board f.held.scene q.number i q.own (item.Shard before) f.held.attached (taken_at f.board q i f.stands scan_among) f.stands.shows.0 scan_recorded).0

      then_bucket : f.held.scene.now (bucket_turn g key) ≡ item.Bucket b
      then_bucket = (f.held.attached.free (bucket_turn g key) (item.Bucket b) f.turn).0

      shard_is : (k : Key) → bucket_turn g k ≡ bucket_turn g key → i ≡ shard_turn g k
      shard_is k e = own ∙ sym (same_shard g k key valid e)

      pub won_bucket : IsBucketOf g i before.now (bucket_turn g key) b
      won_bucket = record {
        range = bucket_range g key valid;
        shard = shard_is;
        heads = λ k e.
            let here : IsHead (entry_of k (shard_in g (f.held.scene.now (shard_turn g k)))) (header_at k (headers_in (f.held.scene.now (bucket_turn g k)))) =
            subst (λ (c : Config). IsHead (entry_of k (shard_in c (f.held.scene.now (shard_turn c k)))) (header_at k (headers_in (f.held.scene.now (bucket_turn c k))))) then_config (f.held.headed.heads k) in
            let shard : f.held.scene.now (shard_turn g k) ≡ item.Shard before = ap f.held.scene.now (sym (shard_is k e)) ∙ then_shard in
            let bucket : f.held.scene.now (bucket_turn g k) ≡ item.Bucket b = ap f.held.scene.now e ∙ then_bucket in
            subst (λ (z : Item C × Item C). IsHead (entry_of k (shard_in g z.0)) (header_at k (headers_in z.1))) (λ j. (shard j, bucket j)) here;
        own = λ k h there. subst (λ (c : Config). bucket_turn g key ≡ bucket_turn c k) then_config
            (f.held.headed.own_headers (bucket_turn g key) k h (ap (λ (v : Item C). header_at k (headers_in v)) then_bucket ∙ there));
      }

    -- ---- the steps

    -- a key was marked, whose bucket was in hand
    pub scan_marked : (l' : ShardLog) (marked' : List Key) (key : Key) → l'.now ≡ l.now → l'.history ≡ l.history → l'.opening ≡ l.opening
        → ((k : Key) → IsTrue (stands_on k marked') → (key ≡ k) ⊎ IsTrue (stands_on k marked)) → IsSome (item_at (bucket_turn g key) (first ++ vs))
        → Scans m g i first before p q l' marked' vs es
    scan_marked l' marked' key now history opening only there = record {
      place = s.place;
      passes = s.passes;
      others = s.others;
      history = history ∙ s.history;
      opening = opening ∙ s.opening;
      now = now ∙ (s.now ∙ ap (λ (x : PlainShard). record before.now { passed = x.passed }) (sym now));
      replayed = replayed_same l l' s.replayed now history opening;
      buckets = s.buckets;
      apart = s.apart;
      in_hand = λ k h. ⊎_elim (λ (q' : key ≡ k). subst (λ (x : Key). IsSome (item_at (bucket_turn g x) (first ++ vs))) q' there) (λ (a : IsTrue (stands_on k marked)). s.in_hand k a) (only k h);
    }

    -- a bucket was won, and the key was marked
    pub scan_won : (l' : ShardLog) (marked' : List Key) (key : Key) (b : Chain) → l'.now ≡ l.now → l'.history ≡ l.history → l'.opening ≡ l.opening
        → ((k : Key) → IsTrue (stands_on k marked') → (key ≡ k) ⊎ IsTrue (stands_on k marked)) → item_at (bucket_turn g key) (first ++ vs) ≡ None
        → IsBucketOf g i before.now (bucket_turn g key) b
        → Scans m g i first before p (took q (bucket_turn g key) (after_won m (bucket_turn g key) (item.Bucket b) q.own)) l' marked' (vs ++ (bucket_turn g key, b) ∷ []) es
    scan_won l' marked' key b now history opening only none bucket =
        let j : ℕ = bucket_turn g key in record {
          place = ap (λ (x : Place (Known C)). took x j (after_won m j (item.Bucket b) x.own)) s.place
              ∙ ap (λ (x : Known C × List ℕ). let r : Place (Known C) = record { table = p.table; parties = p.parties; number = p.number; own = record x.0 { notes = p.own.notes ++ notes_of g i (length before.history) es }; joined = p.joined; held = x.1 } in r)
              (λ z. (sym (won_more m vs j b p.own) z, sym (added_more vs j b p.held) z));
          passes = s.passes;
          others = s.others;
          history = history ∙ s.history;
          opening = opening ∙ s.opening;
          now = now ∙ (s.now ∙ ap (λ (x : PlainShard). record before.now { passed = x.passed }) (sym now));
          replayed = replayed_same l l' s.replayed now history opening;
          buckets = pairs_more (IsBucketOf g i before.now) vs ((j, b) ∷ []) s.buckets (bucket, tt);
          apart = subst AreApart (append_assoc first vs ((j, b) ∷ [])) (apart_more (first ++ vs) j b s.apart none);
          in_hand = λ k h. subst (λ (hs : List (ℕ × Chain)). IsSome (item_at (bucket_turn g k) hs)) (append_assoc first vs ((j, b) ∷ []))
              (⊎_elim (λ (q' : key ≡ k). subst (λ (x : Key). IsSome (item_at (bucket_turn g x) ((first ++ vs) ++ (j, b) ∷ []))) q' (some_last j (first ++ vs) b))
              (λ (a : IsTrue (stands_on k marked)). some_front (bucket_turn g k) (first ++ vs) ((j, b) ∷ []) (s.in_hand k a))
              (only k h));
        }

    -- a key was passed
    pub scan_passed : (l' : ShardLog) (marked' : List Key) (key : Key) (owner : ℕ) → IsTrue (legal l.now (Pass p.number key owner)) → l'.now ≡ after l.now (Pass p.number key owner)
        → l'.history ≡ l.history ++ Pass p.number key owner ∷ [] → l'.opening ≡ l.opening → marked' ≡ marked → i ≡ shard_turn g key → IsOther owner q
        → Scans m g i first before p (saw q (after_lost (bucket_turn g key) owner q.own)) l' marked' vs (es ++ Pass p.number key owner ∷ [])
    scan_passed l' marked' key owner ok now history opening same own other =
        let j : ℕ = bucket_turn g key in
        let len : ℕ = length before.history in
        let x : Note = note j owner (Some (i, len)) in record {
          place = ap (λ (y : Option (ℕ × ℕ)). saw q (record q.own { notes = q.own.notes ++ note j owner y ∷ [] })) scan_under
              ∙ (ap (λ (y : Place (Known C)). saw y (record y.own { notes = y.own.notes ++ x ∷ [] })) s.place
              ∙ ap (λ (ns : List Note). let r : Place (Known C) = record { table = p.table; parties = p.parties; number = p.number; own = record (won_all m vs p.own) { notes = ns }; joined = p.joined; held = added vs p.held } in r)
              (append_assoc p.own.notes (notes_of g i len es) (x ∷ []) ∙ ap (λ (ns : List Note). p.own.notes ++ ns) (sym (notes_more g p.number i len es key owner s.passes))));
          passes = passes_more g p.number i es key owner s.passes own;
          others = others_more p es (Pass p.number key owner) s.others (subst (IsOther owner) s.place other, tt);
          history = history ∙ (ap (λ (h : List Event). h ++ Pass p.number key owner ∷ []) s.history ∙ append_assoc before.history es (Pass p.number key owner ∷ []));
          opening = opening ∙ s.opening;
          now = now ∙ (ap (λ (y : PlainShard). after y (Pass p.number key owner)) s.now ∙ ap (λ (y : PlainShard). record before.now { passed = y.passed }) (sym now));
          replayed = replayed_more (Pass p.number key owner) l l' s.replayed ok now history opening;
          buckets = s.buckets;
          apart = s.apart;
          in_hand = λ k h. s.in_hand k (subst (λ (ks : List Key). IsTrue (stands_on k ks)) same h);
        }

-- ---- buckets given back, one after the other

pub among_without : (i j : ℕ) (held : List ℕ) → j ≢ i → IsAmong j held → IsAmong j (without i held)
among_without i j [] far h = absurd h
among_without i j (k ∷ ks) far h = dite (ℕ_discrete k i)
    (λ q. subst (λ (b : Bool). IsAmong j (if b then ks else k ∷ without i ks)) (sym (eq-eqb k i q)) (⊎_elim (λ (is : k ≡ j). absurd (far (sym is ∙ q))) (λ (a : IsAmong j ks). a) h))
    (λ q. subst (λ (b : Bool). IsAmong j (if b then ks else k ∷ without i ks)) (sym (ne_eqb k i q)) (⊎_elim (λ (is : k ≡ j). inl is) (λ (a : IsAmong j ks). inr (among_without i j ks far a)) h))

module _ {C : Type 0} (m : Meanings C) where
  -- the others stay in hand
  pub in_hand_else : (p : Place (Known C)) (i j : ℕ) (b : Chain) → j ≢ i → IsInHand m p j b → IsInHand m (gave_back p i (after_same i p.own)) j b
  in_hand_else p i j b far h = record {
    held = among_without i j p.held far h.held;
    same = record { recorded = without_else i j p.own.records far ∙ h.same.recorded; listed = h.same.listed };
  }

  pub all_in_hand_else : (p : Place (Known C)) (i : ℕ) (vs : List (ℕ × Chain)) → item_at i vs ≡ None → AllPairs (IsInHand m p) vs → AllPairs (IsInHand m (gave_back p i (after_same i p.own))) vs
  all_in_hand_else p i [] none all = tt
  all_in_hand_else p i (v ∷ vs) none all = dite (ℕ_discrete i v.0)
      (λ q. absurd (none-some v.1 (sym none ∙ subst (λ (t : Bool). (if t then Some v.1 else item_at i vs) ≡ Some v.1) (sym (eq-eqb i v.0 q)) refl)))
      (λ q. (in_hand_else p i v.0 v.1 (λ r. q (sym r)) all.0, all_in_hand_else p i vs (subst (λ (t : Bool). (if t then Some v.1 else item_at i vs) ≡ None) (ne_eqb i v.0 q) none) all.1))

-- ---- a party of a cache stays one

module _ {C : Type 0} (m : Meanings C) (g : Config) (i : ℕ) (first : List (ℕ × Chain)) (before : ShardLog) (p : Place (Known C)) where
  pub scan_party : (cache : Cache) (q q' : Place (Known C)) (l l' : ShardLog) (marked marked' : List Key) (vs vs' : List (ℕ × Chain)) (es es' : List Event)
      → Scans m g i first before p q l marked vs es → Scans m g i first before p q' l' marked' vs' es' → IsPartyOf cache q → IsPartyOf cache q'
  scan_party cache q q' l l' marked marked' vs vs' es es' s s' of = record {
    row = (ap (λ (x : Place (Known C)). x.table) s'.place ∙ (ap (λ (x : Place (Known C)). x.table) (sym s.place) ∙ of.row.0), ap (λ (x : Place (Known C)). x.parties) s'.place ∙ (ap (λ (x : Place (Known C)). x.parties) (sym s.place) ∙ of.row.1));
    config = ap (λ (x : Place (Known C)). x.own.about.config) s'.place ∙ (ap (λ a. a.config) (won_about m vs' p.own) ∙ (ap (λ a. a.config) (sym (won_about m vs p.own)) ∙ (ap (λ (x : Place (Known C)). x.own.about.config) (sym s.place) ∙ of.config)));
  }

-- an event that takes room is legal as long as only the passed keys change
pub still_legal : (s : PlainShard) (ks : List Key) (e : Event) → takes_room e ≡ true → legal record s { passed = ks } e ≡ legal s e
still_legal s ks (Miss n k t) h = refl
still_legal s ks (Insert n k d t) h = refl
still_legal s ks (Resize n c) h = refl
still_legal s ks (_) h = absurd (cc)
