-- What the feeder lists as picked, as keys are settled one after another and places are taken.
use Rattle.std.proofs.Common.{◌≡◌, ℕ, Bool, true, false, IsTrue, List, [], ◌∷◌, inl, is_some, refl, sym, ap, ◌∙◌, subst}
use mathlib.Core.Option.{some-ne-none}
use Rattle.blk_ptr.specs.declared.key.Key.{Key}
use Rattle.blk_ptr.specs.Order.{key_eq}
use Rattle.blk_ptr.proofs.Keys.{key_eq-same}
use Rattle.arc_core.specs.declared.config.Config.{Config}
use Rattle.arc_core.specs.declared.entry.Picked.{Picked as Pick_of}
use Rattle.arc_core.specs.declared.event.Event.{Event}
use Rattle.arc_core.specs.declared.event.Event.TheVariants as event
use Rattle.arc_core.specs.declared.event.Why.{Why}
use Rattle.arc_core.specs.declared.event.Why.TheVariants as why
use Rattle.arc_core.specs.Changes.{pick_of, without_pick}
use Rattle.arc_core.specs.Operations.{is_pass, number_of}
use Rattle.turn_table.specs.Places.{Place}
use Rattle.arc_table.specs.declared.feeds.Cleared.{Cleared}
use Rattle.arc_table.specs.declared.feeds.Cleared.TheVariants as cleared
use Rattle.arc_table.specs.declared.picks.Picked.{Picked as Block}
use Rattle.arc_table.specs.declared.view.Known.{Known}
use Rattle.arc_table.specs.Both.{Does}
use Rattle.arc_table.specs.Cache.{Cache}
use Rattle.arc_table.specs.feeder.Feeding.{AnswersClear, AnswersSet, IsPicked, Leaves}
use Rattle.arc_table.specs.Geometry.{parties_of, shard_turn}
use Rattle.arc_table.specs.Items.{Meanings}
use Rattle.arc_table.specs.feeder.Listing.{PicksAre, picks_of}
use Rattle.arc_table.specs.Seen.{AreOwnBy, IsNumberOrCell}
use Rattle.arc_table.specs.feeder.Picking.{ArePicksOf}
use Rattle.arc_table.proofs.feeder.PicksAfter.{clear_picks, leave_picks, same_picks, set_picks}
use Rattle.arc_table.proofs.reads.ReadMoments.{own-single-by}
use Rattle.l2_feed.specs.Ready.{IsFeederOn, IsFeeding}
use Rattle.l2_feed.proofs.Acted.{does_on, feeder_of}

-- ---- whose events they are

pub own_event : (g : Config) (n : ℕ) (e : Event) → number_of e ≡ n → is_pass e ≡ false → AreOwnBy (IsNumberOrCell g) (parties_of g) n (e ∷ [])
own_event g n e number pass = own-single-by (IsNumberOrCell g) n e (inl number) pass

pub own_no_event : (g : Config) (n : ℕ) → AreOwnBy (IsNumberOrCell g) (parties_of g) n []
own_no_event g n z e at = absurd (some-ne-none e (sym at))

-- ---- the first of the picks

module _ (g : Config) (turn : ℕ) (b : Block) (bs : List Block) where
  pub first_own : (picks : List Pick_of) → ArePicksOf g turn picks (b ∷ bs) → turn ≡ shard_turn g b.key
  first_own [] h = absurd h
  first_own (k ∷ ks) h = h.0.own

  first_same : (k : Pick_of) → b.key ≡ k.key → key_eq k.key b.key ≡ true
  first_same k is = ap (λ (x : Key). key_eq x b.key) (sym is) ∙ key_eq-same b.key

  first_there : (picks : List Pick_of) → ArePicksOf g turn picks (b ∷ bs) → IsTrue (is_some (pick_of b.key picks))
  first_there [] h = absurd h
  first_there (k ∷ ks) h = rw (first_same k h.0.key) refl

  pub first_gone : (picks : List Pick_of) → ArePicksOf g turn picks (b ∷ bs) → ArePicksOf g turn (without_pick b.key picks) bs
  first_gone [] h = absurd h
  first_gone (k ∷ ks) h = rw (first_same k h.0.key) h.1

module _ {C : Type 0} (cache : Cache) (turn : ℕ) (b : Block) (bs : List Block) (p : Place (Known C)) (f : IsFeeding cache turn (b ∷ bs) p) where
  pub is_picked : IsPicked cache.config p b.key
  is_picked = subst (λ (t : ℕ). IsTrue (is_some (pick_of b.key (picks_of t p)))) (first_own cache.config turn b bs (picks_of turn p) f.here) (first_there cache.config turn b bs (picks_of turn p) f.here)

  pub settled_one : (q : Place (Known C)) → IsFeederOn cache q → PicksAre (shard_turn cache.config b.key) (without_pick b.key (picks_of (shard_turn cache.config b.key) p)) p q → IsFeeding cache turn bs q
  settled_one q on are =
      let own : turn ≡ shard_turn cache.config b.key = first_own cache.config turn b bs (picks_of turn p) f.here in
      let now : picks_of turn q ≡ without_pick b.key (picks_of turn p) = subst (λ (t : ℕ). picks_of t q ≡ without_pick b.key (picks_of t p)) (sym own) are.here in
      record {
        on = on;
        here = subst (λ (l : List Pick_of). ArePicksOf cache.config turn l bs) (sym now) (first_gone cache.config turn b bs (picks_of turn p) f.here);
        others = λ j differs. are.others j (λ is. differs (is ∙ sym own)) ∙ f.others j differs;
      }

-- ---- one key settled

module _ {C : Type 0} (m : Meanings C) (cache : Cache) (turn : ℕ) (b : Block) (bs : List Block) (p q : Place (Known C)) (f : IsFeeding cache turn (b ∷ bs) p) where
  pub left_one : (reason : Why) → Leaves m cache.config b.key reason p q → IsFeeding cache turn bs q
  left_one reason l = settled_one cache turn b bs p f q
      (does_on m cache b.key (event.Leave p.number b.key l.0 ∷ []) p q f.on (own_event cache.config p.number (event.Leave p.number b.key l.0) refl refl) l.2)
      (leave_picks m cache.config b.key p q (feeder_of cache p f.on) reason l)

  pub set_one : (place : ℕ) (result : Bool) → AnswersSet m cache.config b.key place p q result → IsFeeding cache turn bs q
  set_one place true d = settled_one cache turn b bs p f q
      (does_on m cache b.key (event.Set p.number b.key place ∷ []) p q f.on (own_event cache.config p.number (event.Set p.number b.key place) refl refl) d)
      (set_picks m cache.config b.key p q (feeder_of cache p f.on) place true d)
  set_one place false d = settled_one cache turn b bs p f q
      (does_on m cache b.key (event.Leave p.number b.key why.Gone ∷ []) p q f.on (own_event cache.config p.number (event.Leave p.number b.key why.Gone) refl refl) d)
      (set_picks m cache.config b.key p q (feeder_of cache p f.on) place false d)

-- ---- one place taken

module _ {C : Type 0} (cache : Cache) (p q : Place (Known C)) where
  same_feeding : IsFeederOn cache q → ((j : ℕ) → picks_of j q ≡ picks_of j p) → (turn : ℕ) (bs : List Block) → IsFeeding cache turn bs p → IsFeeding cache turn bs q
  same_feeding on same turn bs f = record {
    on = on;
    here = subst (λ (l : List Pick_of). ArePicksOf cache.config turn l bs) (sym (same turn)) f.here;
    others = λ j differs. same j ∙ f.others j differs;
  }

module _ {C : Type 0} (m : Meanings C) (cache : Cache) (k : Key) (p q : Place (Known C)) (on : IsFeederOn cache p) where
  pub kept_none : Does m cache.config k [] p q → IsFeederOn cache q
  kept_none d = does_on m cache k [] p q on (own_no_event cache.config p.number) d

  pub kept_clear : (place : ℕ) (result : Cleared) → AnswersClear m cache.config k place p q result → IsFeederOn cache q
  kept_clear place (cleared.Done) d = does_on m cache k (event.Clear p.number k ∷ []) p q on (own_event cache.config p.number (event.Clear p.number k) refl refl) d.0
  kept_clear place (cleared.Not front) d = kept_none d.0

  pub none_feeding : Does m cache.config k [] p q → (turn : ℕ) (bs : List Block) → IsFeeding cache turn bs p → IsFeeding cache turn bs q
  none_feeding d = same_feeding cache p q (kept_none d) (same_picks m cache.config k [] p q (feeder_of cache p on) d refl)

  pub clear_feeding : (place : ℕ) (result : Cleared) → AnswersClear m cache.config k place p q result → (turn : ℕ) (bs : List Block) → IsFeeding cache turn bs p → IsFeeding cache turn bs q
  clear_feeding place result d = same_feeding cache p q (kept_clear place result d) (clear_picks m cache.config k p q (feeder_of cache p on) place result d)
