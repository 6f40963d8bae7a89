-- What each act does to the places on the device, and a list of acts.
use Rattle.std.proofs.Common.{◌≡◌, ◌≢◌, ◌⊎◌, ℕ, zero, suc, Bool, true, false, not, List, [], ◌∷◌, ◌++◌, Option, Some, None, inl, inr, refl, sym, ap, ◌∙◌, subst, ⊎_elim, eq-eqb, arith}
use Rattle.std.specs.Prelude.{if◌then◌else◌, ◌==◌}
use Rattle.std.specs.Option.{option_and_then, option_map, option_map_or}
use Rattle.std.proofs.lemmas.Bool.{eqb-true, false≢true}
use mathlib.Core.Option.{some, some-injective, some-ne-none}
use lib.ListN.{get_elem?}
use Rattle.blk_ptr.specs.declared.key.Key.{Key}
use Rattle.blk_ptr.specs.declared.state.State.TheVariants.{L2Only}
use Rattle.blk_ptr.specs.Hash.{shard_of}
use Rattle.blk_ptr.specs.Order.{key_eq}
use Rattle.blk_ptr.specs.State.{is_same_state}
use Rattle.blk_ptr.proofs.Keys.{key_eq-is}
use Rattle.arc_lists.proofs.Standing.{and_left}
use Rattle.arc_lists.proofs.Tables.{cases_true}
use Rattle.arc_core.specs.Changing.{placed_at, without_place}
use Rattle.arc_core.specs.declared.config.Config.{Config}
use Rattle.arc_core.specs.declared.entry.Entry.{Entry}
use Rattle.arc_core.specs.declared.entry.Picked.{Picked as Pick_of}
use Rattle.arc_core.specs.declared.event.Event.{Event}
use Rattle.arc_core.specs.declared.event.Event.TheVariants as event
use Rattle.arc_core.specs.declared.event.Why.{Why}
use Rattle.arc_core.specs.Places.{gives_place}
use Rattle.arc_core.specs.PlainShard.{entry_of, place_of}
use Rattle.arc_core.specs.Replay.{replay}
use Rattle.arc_core.specs.Step.{after, legal}
use Rattle.arc_core.proofs.Others.{own-entry}
use Rattle.turn_table.specs.Places.{Place}
use Rattle.arc_table.specs.declared.picks.Picked.{Picked as Block}
use Rattle.arc_table.specs.declared.view.Known.{Known}
use Rattle.arc_table.specs.Both.{Does}
use Rattle.arc_table.specs.Geometry.{shard_turn}
use Rattle.arc_table.specs.Items.{Meanings}
use Rattle.arc_table.specs.feeder.Listing.{picks_of}
use Rattle.arc_table.specs.feeder.Picking.{ArePicks, ArePicksOf, nth_shard_turn}
use Rattle.arc_table.specs.Seen.{events_in, turn_of}
use Rattle.arc_table.specs.Telling.{opening_of}
use Rattle.arc_table.proofs.feeder.PickLaws.{few_picks}
use Rattle.arc_table.proofs.SeenLemmas.{events-map}
use Rattle.l2_feed.specs.Acts.{Act, Absent, Cleared, DoesAct, DoesActs, Left, Picked, Placed, Refused, Unpicked, keys_of}
use Rattle.l2_feed.specs.Places.{IsAmongActs, IsAmongKeys, place_seen}
use Rattle.arc_table.proofs.Afterwards.{Stays, does_stays, stays_then}
use Rattle.arc_table.proofs.feeder.FeedEnds.{feeds_stays}
use Rattle.l2_feed.proofs.Settling.{own_event, own_no_event}
use Rattle.l2_feed.proofs.Stepped.{GiveNone, Knows, Stepped, does_stepped, feeds_stepped, had_before, here_now, knows_then, picks_stepped, takes_only}

-- ---- events that give no place

no_event : (j : Key) → GiveNone j []
no_event j y e at = absurd (some-ne-none e (sym at))

one_event : (j : Key) (e : Event) → gives_place j e ≡ false → GiveNone j (e ∷ [])
one_event j e none zero v at = subst (λ (x : Event). gives_place j x ≡ false) (some-injective e v at) none
one_event j e none (suc y) v at = absurd (some-ne-none v (sym at))

picks_none : (g : Config) (n turn : ℕ) (j : Key) (es : List Event) → ArePicks g n turn es → GiveNone j (es ++ event.FeedEnd n ∷ [])
picks_none g n turn j [] picks y v at = one_event j (event.FeedEnd n) refl y v at
picks_none g n turn j (event.Pass a k owner ∷ es) picks zero v at = subst (λ (x : Event). gives_place j x ≡ false) (some-injective (event.Pass a k owner) v at) refl
picks_none g n turn j (event.Pass a k owner ∷ es) picks (suc y) v at = picks_none g n turn j es picks.1 y v at
picks_none g n turn j (event.Pick a k ∷ es) picks zero v at = subst (λ (x : Event). gives_place j x ≡ false) (some-injective (event.Pick a k) v at) refl
picks_none g n turn j (event.Pick a k ∷ es) picks (suc y) v at = picks_none g n turn j es picks.1 y v at
picks_none g n turn j (_ ∷ es) picks y v at = absurd picks

-- ---- the key's own event

pub placed_only : (x y : ℕ) (o : Option Entry) → option_and_then (λ (e : Entry). e.place) (option_map (placed_at y) o) ≡ Some x → x ≡ y
placed_only x y None at = cc
placed_only x y (Some e) at = cc

lost_place : (b : Bool) (e : Entry) → option_and_then (λ (f : Entry). f.place) (if b then None else Some (record e { place = None })) ≡ None
lost_place true e = refl
lost_place false e = refl

pub none_placed : (o : Option Entry) → option_and_then (λ (e : Entry). e.place) (option_and_then without_place o) ≡ None
none_placed None = refl
none_placed (Some e) = lost_place (is_same_state e.state L2Only) e

some_place : (x : ℕ) (o : Option ℕ) → option_map_or (λ y. y == x) o false ≡ true → o ≡ Some x
some_place x None is = absurd (false≢true is)
some_place x (Some y) is = ap (λ (z : ℕ). Some z) (eqb-true y x is)

-- ---- picked keys

same_shard : (g : Config) (shard : ℕ) (k : Key) → nth_shard_turn g shard ≡ shard_turn g k → shard_of g.shards k ≡ shard
same_shard g shard k is = omega arith

among_picks : (g : Config) (i : ℕ) (k : Key) (picks : List Pick_of) (blocks : List Block) → ArePicksOf g i picks blocks → IsAmongKeys k (keys_of blocks)
    → (j : ℕ) × (((x : Pick_of) × (get_elem? picks j ≡ some x)) × ((x : Pick_of) → get_elem? picks j ≡ some x → x.key ≡ k)) × (i ≡ shard_turn g k)
among_picks g i k [] [] are among = absurd among
among_picks g i k [] (b ∷ bs) are among = absurd are
among_picks g i k (x ∷ xs) [] are among = absurd among
among_picks g i k (x ∷ xs) (b ∷ bs) are (inl is) = (0, ((x, refl), (λ y at. ap (λ (z : Pick_of). z.key) (sym (some-injective x y at)) ∙ (sym are.0.key ∙ is))), are.0.own ∙ ap (shard_turn g) is)
among_picks g i k (x ∷ xs) (b ∷ bs) are (inr among) = let r = among_picks g i k xs bs are.1 among in (suc r.0, r.1, r.2)

module _ {C : Type 0} (m : Meanings C) (g : Config) where
  -- ---- what an act is as a step

  module _ (p q : Place (Known C)) (knows : Knows g p) where
    abbrev n : ℕ
    n = p.number

    pub none_step : (k : Key) → Does m g k [] p q → Stepped g (shard_of g.shards k) [] p q
    none_step k d = does_stepped m g k [] p q knows (own_no_event g n) d

    pub leave_step : (k : Key) (w : Why) → Does m g k (event.Leave n k w ∷ []) p q → Stepped g (shard_of g.shards k) (event.Leave n k w ∷ []) p q
    leave_step k w d = does_stepped m g k (event.Leave n k w ∷ []) p q knows (own_event g n (event.Leave n k w) refl refl) d

    abbrev pub set_step : (k : Key) (x : ℕ) → Does m g k (event.Set n k x ∷ []) p q → Stepped g (shard_of g.shards k) (event.Set n k x ∷ []) p q
    set_step k x d = does_stepped m g k (event.Set n k x ∷ []) p q knows (own_event g n (event.Set n k x) refl refl) d

    abbrev pub clear_step : (k : Key) → Does m g k (event.Clear n k ∷ []) p q → Stepped g (shard_of g.shards k) (event.Clear n k ∷ []) p q
    clear_step k d = does_stepped m g k (event.Clear n k ∷ []) p q knows (own_event g n (event.Clear n k) refl refl) d

    -- the feeder knows after each act what it knew
    pub act_knows : (act : Act) → DoesAct m g act p q → Knows g q
    act_knows (Picked shard keys) d = let a = d.2 in knows_then g shard (a.picks ++ event.FeedEnd n ∷ []) p q (picks_stepped m g shard a.picks p q knows a.scan a.feeds a.others) knows
    act_knows (Unpicked shard) d = knows_then g shard [] p q (feeds_stepped m g shard [] p q knows d (own_no_event g n)) knows
    act_knows (Cleared k x) d = knows_then g (shard_of g.shards k) (event.Clear n k ∷ []) p q (clear_step k d.0) knows
    act_knows (Absent k x) d = knows_then g (shard_of g.shards k) [] p q (none_step k d.1.0) knows
    act_knows (Refused k x) d = knows_then g (shard_of g.shards k) [] p q (none_step k d) knows
    act_knows (Placed k x) d = knows_then g (shard_of g.shards k) (event.Set n k x ∷ []) p q (set_step k x d) knows
    act_knows (Left k w) d = knows_then g (shard_of g.shards k) (event.Leave n k w ∷ []) p q (leave_step k w d) knows

    pub act_stays : (act : Act) → DoesAct m g act p q → Stays p q
    act_stays (Picked shard blocks) d = feeds_stays m g (nth_shard_turn g shard) (d.2.picks ++ event.FeedEnd n ∷ []) p q d.2.feeds
    act_stays (Unpicked shard) d = feeds_stays m g (nth_shard_turn g shard) [] p q d
    act_stays (Cleared k x) d = does_stays m g knows.valid k (event.Clear n k ∷ []) p q knows.config d.0
    act_stays (Absent k x) d = does_stays m g knows.valid k [] p q knows.config d.1.0
    act_stays (Refused k x) d = does_stays m g knows.valid k [] p q knows.config d
    act_stays (Placed k x) d = does_stays m g knows.valid k (event.Set n k x ∷ []) p q knows.config d
    act_stays (Left k w) d = does_stays m g knows.valid k (event.Leave n k w ∷ []) p q knows.config d

    -- the place that a key has after an act it had before, or the act gave it
    pub act_takes : (act : Act) → DoesAct m g act p q → (j : Key) (x : ℕ) → place_seen g q j ≡ Some x → (place_seen g p j ≡ Some x) ⊎ (act ≡ Placed j x)
    act_takes (Picked shard keys) d j x at =
        let a = d.2 in
        inl (takes_only g shard (a.picks ++ event.FeedEnd n ∷ []) p q knows (picks_stepped m g shard a.picks p q knows a.scan a.feeds a.others) j x (picks_none g n (turn_of g shard) j a.picks a.scan) at)
    act_takes (Unpicked shard) d j x at = inl (takes_only g shard [] p q knows (feeds_stepped m g shard [] p q knows d (own_no_event g n)) j x (no_event j) at)
    act_takes (Cleared k y) d j x at = inl (takes_only g (shard_of g.shards k) (event.Clear n k ∷ []) p q knows (clear_step k d.0) j x (one_event j (event.Clear n k) refl) at)
    act_takes (Absent k y) d j x at = inl (takes_only g (shard_of g.shards k) [] p q knows (none_step k d.1.0) j x (no_event j) at)
    act_takes (Refused k y) d j x at = inl (takes_only g (shard_of g.shards k) [] p q knows (none_step k d) j x (no_event j) at)
    act_takes (Left k w) d j x at = inl (takes_only g (shard_of g.shards k) (event.Leave n k w ∷ []) p q knows (leave_step k w d) j x (one_event j (event.Leave n k w) refl) at)
    act_takes (Placed k y) d j x at = elim (cases_true (key_eq j k)) [
      | inl same ↦
          let s = set_step k y d in
          let is : j ≡ k = key_eq-is j k same in
          let after_it : place_of k (after s.before.now (event.Set n k y)) ≡ Some x = sym (here_now g (shard_of g.shards k) (event.Set n k y ∷ []) p q knows s k refl) ∙ subst (λ (i : Key). place_seen g q i ≡ Some x) is at in
          let own = own-entry s.before.now (event.Set n k y) k s.sound.replayed.sound (and_left (legal s.before.now (event.Set n k y)) true s.legal) refl in
          let value : x ≡ y = placed_only x y (entry_of k s.before.now) (sym (ap (option_and_then (λ (e : Entry). e.place)) own) ∙ after_it) in
          inr (λ i. Placed (sym is i) (sym value i))
      | inr other ↦ inl (takes_only g (shard_of g.shards k) (event.Set n k y ∷ []) p q knows (set_step k y d) j x (one_event j (event.Set n k y) other) at)
    ]

    -- where a place was taken, the key had it before, and has it no more
    pub cleared_had : (k : Key) (x : ℕ) → DoesAct m g (Cleared k x) p q → place_seen g p k ≡ Some x
    cleared_had k x d =
        let s = clear_step k d.0 in
        had_before g (shard_of g.shards k) (event.Clear n k ∷ []) p q knows s k x refl (some_place x (place_of k s.before.now) d.1)

    pub cleared_gone : (k : Key) (x : ℕ) → DoesAct m g (Cleared k x) p q → place_seen g q k ≢ Some x
    cleared_gone k x d at =
        let s = clear_step k d.0 in
        let own = own-entry s.before.now (event.Clear n k) k s.sound.replayed.sound (and_left (legal s.before.now (event.Clear n k)) true s.legal) refl in
        let after_it : place_of k (after s.before.now (event.Clear n k)) ≡ None = ap (option_and_then (λ (e : Entry). e.place)) own ∙ none_placed (entry_of k s.before.now) in
        let now : place_of k (after s.before.now (event.Clear n k)) ≡ Some x = sym (here_now g (shard_of g.shards k) (event.Clear n k ∷ []) p q knows s k refl) ∙ at in
        cc

    -- where it was not there, the key has it not
    pub absent_gone : (k : Key) (x : ℕ) → DoesAct m g (Absent k x) p q → place_seen g q k ≢ Some x
    absent_gone k x d at =
        let t = d.1.1 in
        let seen = ap events_in t.seen ∙ events-map t.events in
        let there : place_of k (replay (opening_of g) t.events) ≡ Some x = sym (ap (λ (l : List Event). place_of k (replay (opening_of g) l)) seen) ∙ at in
        let so : not (option_map_or (λ y. y == x) (place_of k (replay (opening_of g) t.events)) false) ≡ true = t.so in
        let off : not (x == x) ≡ true = subst (λ (o : Option ℕ). not (option_map_or (λ y. y == x) o false) ≡ true) there so in
        false≢true (sym (ap not (eq-eqb x x refl)) ∙ off)

    -- a key that was picked has no place
    pub picked_none : (shard : ℕ) (blocks : List Block) (k : Key) → DoesAct m g (Picked shard blocks) p q → IsAmongKeys k (keys_of blocks) → place_seen g q k ≡ None
    picked_none shard blocks k d among =
        let a = d.2 in
        let s = picks_stepped m g shard a.picks p q knows a.scan a.feeds a.others in
        let few = few_picks m g (nth_shard_turn g shard) p q d.0 d.1 (knows.valid, knows.config, knows.feeder) a in
        let found = among_picks g (nth_shard_turn g shard) k (picks_of (nth_shard_turn g shard) q) a.gained a.blocks (subst (λ (bs : List Block). IsAmongKeys k (keys_of bs)) (sym d.3) among) in
        let x = found.1.0 in
        here_now g shard (a.picks ++ event.FeedEnd n ∷ []) p q knows s k (same_shard g shard k found.2)
        ∙ (ap (place_of k) (sym a.feeds.now) ∙ subst (λ (j : Key). place_of j a.feeds.after.now ≡ None) (found.1.1 x.0 x.1) (few.placeless found.0 x.0 x.1))

  -- ---- a list of acts

  pub acts_knows : (acts : List Act) (p q : Place (Known C)) → Knows g p → DoesActs m g acts p q → Knows g q
  acts_knows [] p q knows did = subst (Knows g) (sym did) knows
  acts_knows (act ∷ acts) p q knows did = acts_knows acts did.0 q (act_knows p did.0 knows act did.1) did.2

  pub acts_stay : (acts : List Act) (p q : Place (Known C)) → Knows g p → DoesActs m g acts p q → Stays p q
  acts_stay [] p q knows did = subst (Stays p) (sym did) (record { table = refl; parties = refl; number = refl; joined = refl; held = refl; about = refl })
  acts_stay (act ∷ acts) p q knows did = stays_then p did.0 q (act_stays p did.0 knows act did.1) (acts_stay acts did.0 q (act_knows p did.0 knows act did.1) did.2)

  pub acts_takes : (acts : List Act) (p q : Place (Known C)) → Knows g p → DoesActs m g acts p q → (j : Key) (x : ℕ) → place_seen g q j ≡ Some x → (place_seen g p j ≡ Some x) ⊎ IsAmongActs (Placed j x) acts
  acts_takes [] p q knows did j x at = inl (subst (λ (r : Place (Known C)). place_seen g r j ≡ Some x) did at)
  acts_takes (act ∷ acts) p q knows did j x at = ⊎_elim
      (λ (there : place_seen g did.0 j ≡ Some x). ⊎_elim (λ (had : place_seen g p j ≡ Some x). inl had) (λ (gave : act ≡ Placed j x). inr (inl gave)) (act_takes p did.0 knows act did.1 j x there))
      (λ (among : IsAmongActs (Placed j x) acts). inr (inr among))
      (acts_takes acts did.0 q (act_knows p did.0 knows act did.1) did.2 j x at)

  -- a place that was taken, or was not there, the key has afterwards only where it was given it again
  pub acts_away : (acts : List Act) (p q : Place (Known C)) → Knows g p → DoesActs m g acts p q → (k : Key) (x : ℕ) → IsAmongActs (Cleared k x) acts ⊎ IsAmongActs (Absent k x) acts → place_seen g q k ≡ Some x
      → IsAmongActs (Placed k x) acts
  acts_away [] p q knows did k x (inl among) at = absurd among
  acts_away [] p q knows did k x (inr among) at = absurd among
  acts_away (act ∷ acts) p q knows did k x (inl (inr among)) at = inr (acts_away acts did.0 q (act_knows p did.0 knows act did.1) did.2 k x (inl among) at)
  acts_away (act ∷ acts) p q knows did k x (inr (inr among)) at = inr (acts_away acts did.0 q (act_knows p did.0 knows act did.1) did.2 k x (inr among) at)
  acts_away (act ∷ acts) p q knows did k x (inl (inl is)) at = ⊎_elim
      (λ (there : place_seen g did.0 k ≡ Some x). absurd (cleared_gone p did.0 knows k x (subst (λ (a : Act). DoesAct m g a p did.0) is did.1) there))
      (λ (among : IsAmongActs (Placed k x) acts). inr among)
      (acts_takes acts did.0 q (act_knows p did.0 knows act did.1) did.2 k x at)
  acts_away (act ∷ acts) p q knows did k x (inr (inl is)) at = ⊎_elim
      (λ (there : place_seen g did.0 k ≡ Some x). absurd (absent_gone p did.0 knows k x (subst (λ (a : Act). DoesAct m g a p did.0) is did.1) there))
      (λ (among : IsAmongActs (Placed k x) acts). inr among)
      (acts_takes acts did.0 q (act_knows p did.0 knows act did.1) did.2 k x at)

  -- a place that is taken the key had at the start, or it was given it
  pub acts_had : (acts : List Act) (p q : Place (Known C)) → Knows g p → DoesActs m g acts p q → (k : Key) (x : ℕ) → IsAmongActs (Cleared k x) acts → (place_seen g p k ≡ Some x) ⊎ IsAmongActs (Placed k x) acts
  acts_had [] p q knows did k x among = absurd among
  acts_had (act ∷ acts) p q knows did k x (inl is) = inl (cleared_had p did.0 knows k x (subst (λ (a : Act). DoesAct m g a p did.0) is did.1))
  acts_had (act ∷ acts) p q knows did k x (inr among) = ⊎_elim
      (λ (there : place_seen g did.0 k ≡ Some x). ⊎_elim (λ (had : place_seen g p k ≡ Some x). inl had) (λ (gave : act ≡ Placed k x). inr (inl gave)) (act_takes p did.0 knows act did.1 k x there))
      (λ (given : IsAmongActs (Placed k x) acts). inr (inr given))
      (acts_had acts did.0 q (act_knows p did.0 knows act did.1) did.2 k x among)
