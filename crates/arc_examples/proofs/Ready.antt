-- What a party that is ready may do, and that calls leave it ready.
use Rattle.std.proofs.Common.{◌≡◌, ℕ, ◌∷◌, Bool, if◌then◌else◌, refl, sym, ap, ◌∙◌, subst, eq-eqb}
use Rattle.turn_table.specs.Board.{IsAmong, without}
use Rattle.turn_table.specs.Places.{Place, gave_back, saw, took}
use Rattle.arc_table.specs.declared.item.Item.{Item}
use Rattle.arc_table.specs.declared.view.Known.{Known}
use Rattle.arc_table.specs.Cache.{Cache}
use Rattle.arc_table.specs.Items.{Meanings}
use Rattle.arc_table.specs.Looking.{HasNoLook}
use Rattle.arc_table.specs.Views.{after_lost, after_same, after_won}
use Rattle.arc_table.proofs.Afterwards.{Stays, stays_party}
use Rattle.arc_examples.specs.Ready.{IsAsBefore, IsReady, IsReadyAs}

module _ {C : Type 0} (cache : Cache) where
  pub ready-looks : (p : Place (Known C)) → IsReady cache p → HasNoLook cache p
  ready-looks p r = λ i among. absurd (subst (IsAmong i) r.free among)

  pub ready-stays : (p q : Place (Known C)) → IsReady cache p → Stays p q → IsReadyAs cache p q
  ready-stays p q r s = record { ready = record { valid = r.valid; of = stays_party cache p q s r.of; free = s.held ∙ r.free }; number = s.number }

  pub before-stays : (p q : Place (Known C)) → IsReady cache p → Stays p q → q.own.ledger.holds ≡ p.own.ledger.holds → IsAsBefore cache p q
  before-stays p q r s holds = let a = ready-stays p q r s in record { ready = a.ready; number = a.number; holds = holds }

  pub before-then : (p q r : Place (Known C)) → IsAsBefore cache p q → IsAsBefore cache q r → IsAsBefore cache p r
  before-then p q r a b = record { ready = b.ready; number = b.number ∙ a.number; holds = b.holds ∙ a.holds }

  pub before-same : (p : Place (Known C)) → IsReady cache p → IsAsBefore cache p p
  before-same p r = record { ready = r; number = refl; holds = refl }

-- a turn that is taken and given back as it was, and one that another party has
module _ {C : Type 0} (m : Meanings C) where
  pub look-stays : (i : ℕ) (v : Item C) (p q r : Place (Known C)) → q ≡ took p i (after_won m i v p.own) → r ≡ gave_back q i (after_same i q.own) → Stays p r
  look-stays i v p q r won gave = subst (Stays p) (sym (gave ∙ (λ z. gave_back (won z) i (after_same i (won z).own)))) record {
    table = refl;
    parties = refl;
    number = refl;
    joined = refl;
    held = ap (λ (c : Bool). if c then p.held else (i ∷ without i p.held)) (eq-eqb i i refl);
    about = refl;
  }

  pub look-holds : (i : ℕ) (v : Item C) (p q r : Place (Known C)) → q ≡ took p i (after_won m i v p.own) → r ≡ gave_back q i (after_same i q.own) → r.own.ledger.holds ≡ p.own.ledger.holds
  look-holds i v p q r won gave = ap (λ (x : Place (Known C)). x.own.ledger.holds) gave ∙ ap (λ (x : Place (Known C)). x.own.ledger.holds) won

  pub lost-stays : (i n : ℕ) (p q : Place (Known C)) → q ≡ saw p (after_lost i n p.own) → Stays p q
  lost-stays i n p q is = subst (Stays p) (sym is) record { table = refl; parties = refl; number = refl; joined = refl; held = refl; about = refl }
