-- That a feeder which has every number does what the shards say, and sees just its own events.
use Rattle.std.proofs.Common.{◌≡◌, ℕ, Bool, true, false, not, IsTrue, List, [], ◌∷◌, ◌++◌, map, refl, sym, ap, ◌∙◌, subst, eq-eqb, ne_eqb, append-nil, append_assoc}
use Rattle.std.specs.Prelude.{◌==◌, if◌then◌else◌}
use mathlib.Core.Logic.{dite}
use native.Mathlib.Decide.{ℕ_discrete}
use Rattle.blk_ptr.specs.declared.key.Key.{Key}
use Rattle.blk_ptr.specs.Hash.{shard_of}
use Rattle.arc_lists.proofs.Standing.{and_left, and_right}
use Rattle.arc_core.specs.declared.config.Config.{Config}
use Rattle.arc_core.specs.declared.entry.Picked.{Picked as Pick_of}
use Rattle.arc_core.specs.declared.event.Event.{Event}
use Rattle.arc_core.specs.declared.event.Event.TheVariants as event
use Rattle.arc_core.specs.declared.event.Why.{Why}
use Rattle.arc_core.specs.PlainShard.{PlainShard, is_number}
use Rattle.arc_core.specs.Replay.{replay}
use Rattle.arc_core.specs.Step.{after, agree, is_gone, is_writing, legal, may_set}
use Rattle.arc_core.proofs.Stepping.{replay-append}
use Rattle.turn_table.specs.Places.{Place}
use Rattle.arc_table.specs.declared.front.Front.{Front}
use Rattle.arc_table.specs.declared.picks.Picked.{Picked as Block}
use Rattle.arc_table.specs.declared.view.Known.{Known}
use Rattle.arc_table.specs.feeder.Feeding.{has_place}
use Rattle.arc_table.specs.Items.{Meanings}
use Rattle.arc_table.specs.feeder.Listing.{all_picks, picks_of}
use Rattle.arc_table.specs.feeder.Picking.{ArePicks, ArePicksOf}
use Rattle.arc_table.specs.Seen.{HasAll, events_in, seen_of, turn_of}
use Rattle.arc_table.specs.Telling.{Tells, opening_of}
use Rattle.arc_table.proofs.OwnLemmas.{made-all, made-alone, made-now}
use Rattle.arc_table.proofs.feeder.PickLaws.{plain_picks}
use Rattle.arc_table.proofs.SeenLemmas.{events-map}
use Rattle.l2_feed.specs.Acts.{Act, Absent, Cleared, DoesAct, DoesActs, Left, Picked, Placed, Refused, Unpicked, keys_of}
use Rattle.l2_feed.specs.Alone.{AreAlone, AreOfShards, IsOfShards, events_at, listed_by, pick_of_block, picks_from, shards_after, shards_seen}
use Rattle.l2_feed.specs.Told.{events_of, shard_of_act}
use Rattle.l2_feed.proofs.Settling.{own_no_event}
use Rattle.l2_feed.proofs.Stepped.{Knows, Stepped, feeds_stepped, picks_stepped}
use Rattle.l2_feed.proofs.Taking.{act_knows, clear_step, leave_step, none_step, set_step}
use Rattle.l2_feed.proofs.Telling.{gained_keys, idle_before, listed, none_picked, picks_in}

-- ---- what was picked

-- a scan changes no entry, so each key is listed with the digest that it had
scan_listed : (g : Config) (n turn : ℕ) (s : PlainShard) (es : List Event) → ArePicks g n turn es → (replay s es).picked ≡ s.picked ++ map (listed_by s) (picks_in es)
scan_listed g n turn s [] picks = sym (append-nil s.picked)
scan_listed g n turn s (event.Pass a k owner ∷ es) picks = scan_listed g n turn (after s (event.Pass a k owner)) es picks.1
scan_listed g n turn s (event.Pick a k ∷ es) picks =
    scan_listed g n turn (after s (event.Pick a k)) es picks.1 ∙ append_assoc s.picked (listed_by s k ∷ []) (map (listed_by s) (picks_in es))
scan_listed g n turn s (_ ∷ es) picks = absurd picks

picks_are : (g : Config) (turn : ℕ) (picks : List Pick_of) (blocks : List Block) → ArePicksOf g turn picks blocks → map pick_of_block blocks ≡ picks
picks_are g turn [] [] are = refl
picks_are g turn [] (b ∷ bs) are = absurd are
picks_are g turn (x ∷ xs) [] are = absurd are
picks_are g turn (x ∷ xs) (b ∷ bs) are = λ i. record { key = are.0.key i; digest = sym are.0.digest i } ∷ picks_are g turn xs bs are.1 i

picks_all : (n : ℕ) (ks : List Key) → picks_in (map (event.Pick n) ks) ≡ ks
picks_all n [] = refl
picks_all n (k ∷ ks) = ap (λ (l : List Key). k ∷ l) (picks_all n ks)

-- ---- tests

is_not : (b : Bool) → IsTrue (not b) → b ≡ false
is_not false is = refl
is_not true is = cc

agrees : (a b : Bool) → agree a b ≡ true → a ≡ b
agrees true b is = sym is
agrees false true is = cc
agrees false false is = refl

if_replay : (b : Bool) (s : PlainShard) (es : List Event) → (if b then replay s es else s) ≡ replay s (if b then es else [])
if_replay true s es = refl
if_replay false s es = refl

-- ---- one act

module _ {C : Type 0} (m : Meanings C) (g : Config) where
  module _ (p q : Place (Known C)) (knows : Knows g p) (all : HasAll p) (s : ℕ → PlainShard) (same : (shard : ℕ) → s shard ≡ shards_seen g p shard) where
    abbrev n : ℕ
    n = p.number

    -- what it finds, and what it has seen afterwards
    found : (shard : ℕ) (es : List Event) (st : Stepped g shard es p q) → st.before.now ≡ s shard
    found shard es st = made-now g shard st.before es p q st.made all ∙ sym (same shard)

    adds : (act : Act) (es : List Event) → es ≡ events_of n act → Stepped g (shard_of_act g act) es p q → (shard : ℕ) → seen_of g shard q ≡ seen_of g shard p ++ (if shard_of_act g act == shard then events_of n act else [])
    adds act es is st shard =
        let a = made-alone g (shard_of_act g act) st.before es p q st.made all in
        dite (ℕ_discrete (shard_of_act g act) shard)
        (λ here. rw (eq-eqb (shard_of_act g act) shard here) (subst (λ (x : ℕ). seen_of g x q ≡ seen_of g x p ++ events_of n act) here (a.here ∙ ap (λ (l : List Event). seen_of g (shard_of_act g act) p ++ l) is)))
        (λ differs. rw (ne_eqb (shard_of_act g act) shard differs) (a.others shard (λ e. differs (sym e)) ∙ sym (append-nil (seen_of g shard p))))

    abbrev Added : Act → Type 0
    Added act = IsOfShards g s act × ((shard : ℕ) → seen_of g shard q ≡ seen_of g shard p ++ (if shard_of_act g act == shard then events_of n act else [])) × HasAll q

    picked_so : (shard : ℕ) (blocks : List Block) → DoesAct m g (Picked shard blocks) p q → Added (Picked shard blocks)
    picked_so shard blocks d =
        let a = d.2 in
        let es = a.picks ++ event.FeedEnd n ∷ [] in
        let st = picks_stepped m g shard a.picks p q knows a.scan a.feeds a.others in
        let now : a.feeds.before.now ≡ s shard = found shard es st in
        let none : a.feeds.before.now.picked ≡ [] =
        none_picked a.feeds.before.now.phase a.feeds.before.now.picked (idle_before g n (turn_of g shard) a.feeds.before.now a.picks a.scan a.feeds.legal) st.sound.settled st.sound.replayed.sound.feed in
        let plain : a.picks ≡ map (event.Pick n) (all_picks a.feeds.before.now) = plain_picks m g (turn_of g shard) p q d.0 d.1 (knows.valid, knows.config, knows.feeder) a all in
        let keys : picks_in a.picks ≡ all_picks a.feeds.before.now = ap picks_in plain ∙ picks_all n (all_picks a.feeds.before.now) in
        let lists : map pick_of_block a.gained ≡ map (listed_by a.feeds.before.now) (picks_in a.picks) =
        picks_are g (turn_of g shard) (picks_of (turn_of g shard) q) a.gained a.blocks
        ∙ (listed m g p q knows (turn_of g shard) es a.feeds
        ∙ (ap (λ (x : PlainShard). x.picked) (a.feeds.now ∙ replay-append a.feeds.before.now a.picks (event.FeedEnd n ∷ []))
        ∙ (scan_listed g n (turn_of g shard) a.feeds.before.now a.picks a.scan ∙ ap (λ (l : List Pick_of). l ++ map (listed_by a.feeds.before.now) (picks_in a.picks)) none))) in
        let is : es ≡ events_of n (Picked shard blocks) =
        ap (λ (l : List Event). l ++ event.FeedEnd n ∷ []) (plain ∙ ap (map (event.Pick n)) (sym keys ∙ (sym (gained_keys m g p q knows shard d.0 d.1 a) ∙ ap keys_of d.3))) in (
          ap (map pick_of_block) (sym d.3) ∙ (lists ∙ (ap (map (listed_by a.feeds.before.now)) keys ∙ ap picks_from now)),
          adds (Picked shard blocks) es is st,
          made-all g shard st.before es p q st.made all,
        )

    none_so : (act : Act) → events_of n act ≡ [] → Stepped g (shard_of_act g act) [] p q → IsOfShards g s act → Added act
    none_so act is st so = (so, adds act [] (sym is) st, made-all g (shard_of_act g act) st.before [] p q st.made all)

    one_so : (act : Act) (e : Event) → events_of n act ≡ e ∷ [] → Stepped g (shard_of_act g act) (e ∷ []) p q → IsOfShards g s act → Added act
    one_so act e is st so = (so, adds act (e ∷ []) (sym is) st, made-all g (shard_of_act g act) st.before (e ∷ []) p q st.made all)

    -- the front of what the party has seen is all of it
    absent_so : (k : Key) (x : ℕ) (front : Front) → Stepped g (shard_of g.shards k) [] p q → Tells (λ t. IsTrue (not (has_place x k t))) g k p q front → has_place x k (s (shard_of g.shards k)) ≡ false
    absent_so k x front st tells =
        let at = shard_of g.shards k in
        let a = made-alone g at st.before [] p q st.made all in
        let seen : tells.events ≡ seen_of g at p = sym (events-map tells.events) ∙ (ap events_in (sym tells.seen) ∙ (a.here ∙ append-nil (seen_of g at p))) in
        is_not (has_place x k (s at)) (subst (λ (t : PlainShard). IsTrue (not (has_place x k t))) (ap (replay (opening_of g)) seen ∙ sym (same at)) tells.so)

    placed_so : (k : Key) (x : ℕ) → Stepped g (shard_of g.shards k) (event.Set n k x ∷ []) p q → may_set k (s (shard_of g.shards k)) ≡ true
    placed_so k x st =
        let t : PlainShard = st.before.now in
        let ok : IsTrue (legal t (event.Set n k x)) = and_left (legal t (event.Set n k x)) true st.legal in
        subst (λ (y : PlainShard). may_set k y ≡ true) (found (shard_of g.shards k) (event.Set n k x ∷ []) st) (and_right (is_writing t.phase) (may_set k t) (and_right (is_number n) _ ok))

    left_so : (k : Key) (w : Why) → Stepped g (shard_of g.shards k) (event.Leave n k w ∷ []) p q → is_gone w ≡ not (may_set k (s (shard_of g.shards k)))
    left_so k w st =
        let t : PlainShard = st.before.now in
        let ok : IsTrue (legal t (event.Leave n k w)) = and_left (legal t (event.Leave n k w)) true st.legal in
        subst (λ (y : PlainShard). is_gone w ≡ not (may_set k y)) (found (shard_of g.shards k) (event.Leave n k w ∷ []) st)
        (agrees (is_gone w) (not (may_set k t)) (and_right _ (agree (is_gone w) (not (may_set k t))) (and_right (is_writing t.phase) _ (and_right (is_number n) _ ok))))

    pub act_alone : (act : Act) → DoesAct m g act p q → Added act
    act_alone (Picked shard blocks) d = picked_so shard blocks d
    act_alone (Unpicked shard) d = none_so (Unpicked shard) refl (feeds_stepped m g shard [] p q knows d (own_no_event g n)) tt
    act_alone (Cleared k x) d =
        let st = clear_step m g p q knows k d.0 in
        one_so (Cleared k x) (event.Clear n k) refl st (subst (λ (t : PlainShard). has_place x k t ≡ true) (found (shard_of g.shards k) (event.Clear n k ∷ []) st) d.1)
    act_alone (Absent k x) d = let st = none_step m g p q knows k d.1.0 in none_so (Absent k x) refl st (absent_so k x d.0 st d.1.1)
    act_alone (Refused k x) d = none_so (Refused k x) refl (none_step m g p q knows k d) tt
    act_alone (Placed k x) d = let st = set_step m g p q knows k x d in one_so (Placed k x) (event.Set n k x) refl st (placed_so k x st)
    act_alone (Left k w) d = let st = leave_step m g p q knows k w d in one_so (Left k w) (event.Leave n k w) refl st (left_so k w st)

  -- ---- all acts

  abbrev AllAdded : (ℕ → PlainShard) → List Act → (p q : Place (Known C)) → Type 0
  AllAdded s acts p q = AreOfShards g p.number s acts × ((shard : ℕ) → seen_of g shard q ≡ seen_of g shard p ++ events_at g p.number shard acts)

  all_added : (acts : List Act) (p q : Place (Known C)) → Knows g p → HasAll p → (s : ℕ → PlainShard) → ((shard : ℕ) → s shard ≡ shards_seen g p shard) → DoesActs m g acts p q → AllAdded s acts p q
  all_added [] p q knows all s same did = (tt, λ shard. ap (seen_of g shard) did ∙ sym (append-nil (seen_of g shard p)))
  all_added (act ∷ acts) p q knows all s same did =
      let r = did.0 in
      let a = act_alone p r knows all s same act did.1 in
      let behind : Knows g r = act_knows m g p r knows act did.1 in
      let number : r.number ≡ p.number = behind.feeder ∙ sym knows.feeder in
      let next : (shard : ℕ) → shards_after g p.number s act shard ≡ shards_seen g r shard = λ shard.
      if_replay (shard_of_act g act == shard) (s shard) (events_of p.number act)
      ∙ (ap (λ (t : PlainShard). replay t (if shard_of_act g act == shard then events_of p.number act else [])) (same shard)
      ∙ (sym (replay-append (opening_of g) (seen_of g shard p) (if shard_of_act g act == shard then events_of p.number act else [])) ∙ ap (replay (opening_of g)) (sym (a.1 shard)))) in
      let rest = all_added acts r q behind a.2 (shards_after g p.number s act) next did.2 in
      let more = subst (λ (k : ℕ). AreOfShards g k (shards_after g p.number s act) acts × ((shard : ℕ) → seen_of g shard q ≡ seen_of g shard r ++ events_at g k shard acts)) number rest in (
        (a.0, more.0),
        λ shard. more.1 shard ∙ (ap (λ (l : List Event). l ++ events_at g p.number shard acts) (a.1 shard)
            ∙ append_assoc (seen_of g shard p) (if shard_of_act g act == shard then events_of p.number act else []) (events_at g p.number shard acts)),
      )

  pub acts_alone : (acts : List Act) (p q : Place (Known C)) → Knows g p → DoesActs m g acts p q → HasAll p → AreAlone g acts p q
  acts_alone acts p q knows did all = let a = all_added acts p q knows all (shards_seen g p) (λ shard. refl) did in record { of_shards = a.0; seen = a.1 }
