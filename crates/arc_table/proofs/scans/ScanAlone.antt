-- The scan of a party that has every number passes no key: nobody else has a bucket.
use Rattle.std.proofs.Common.{◌≡◌, ◌⊎◌, ℕ, ◌<◌, List, [], ◌∷◌, refl, sym, subst, ⊎_elim}
use Rattle.blk_ptr.specs.declared.key.Key.{Key}
use Rattle.arc_core.specs.declared.config.Config.{Config}
use Rattle.arc_core.specs.declared.event.Event.{Event}
use Rattle.arc_core.specs.declared.event.Event.TheVariants.{Pass}
use Rattle.turn_table.specs.declared.standing.Kept.{Kept}
use Rattle.turn_table.specs.Places.{Apart, IsIn, Place}
use Rattle.arc_table.specs.declared.view.Known.{Known}
use Rattle.arc_table.specs.scans.Ending.{DoesRoomy}
use Rattle.arc_table.specs.Items.{Meanings}
use Rattle.arc_table.specs.scans.Scanning.{AreOfOthers, ArePasses}
use Rattle.arc_table.proofs.Reached.{reached}
use Rattle.arc_table.specs.Seen.{HasAll}

module _ {C : Type 0} where
  pub never-in : (n : ℕ) (ks : List (Kept (Known C))) → Apart n ks → ¬ IsIn n ks
  never-in n [] apart there = absurd there
  never-in n (k ∷ ks) apart there = ⊎_elim (λ is. apart.0 is) (λ later. never-in n ks apart.1 later) there

  no-passes : (g : Config) (n i : ℕ) (q : Place (Known C)) (es : List Event) → HasAll q → ArePasses g n i es → AreOfOthers q es → es ≡ []
  no-passes g n i q [] all passes others = refl
  no-passes g n i q (Pass a k owner ∷ es) all passes others =
      let o = others.0 in
      ⊎_elim (λ (is : q.number ≡ owner). absurd (o.1 (sym is))) (λ (joined : IsIn owner q.joined). absurd (never-in owner q.joined o.2 joined)) (all owner o.0)
  no-passes g n i q (_ ∷ es) all passes others = absurd passes

  pub scan-alone : (m : Meanings C) (g : Config) (k : Key) (e : Event) (p r : Place (Known C)) → HasAll p → (d : DoesRoomy m g k e p r) → d.makes.passes ≡ []
  scan-alone m g k e p r all d =
      let then = reached m g k d.chain d.before p d.reached d.takes in
      let there : HasAll d.reached = λ n below. subst (λ (x : ℕ × List (Kept (Known C))). (x.0 ≡ n) ⊎ IsIn n x.1) (λ h. (sym then.number h, sym then.joined h)) (all n (subst (λ (x : ℕ). n < x) then.parties below)) in
      no-passes g d.reached.number _ d.reached d.makes.passes there d.makes.own d.makes.others
