-- What a lost try leaves of a party: it is what it was to the cache, and lists what it listed.
use Rattle.std.proofs.Common.{◌≡◌, ℕ, if◌then◌else◌, ◌∷◌, Bool, refl, sym, ap, ◌∙◌, subst, eq-eqb}
use Rattle.blk_ptr.specs.declared.key.Key.{Key}
use Rattle.arc_core.specs.declared.config.Config.{Config}
use Rattle.turn_table.specs.Board.{without}
use Rattle.turn_table.specs.Places.{Place, gave_back}
use Rattle.arc_table.specs.declared.view.Known.{Known}
use Rattle.arc_table.specs.Geometry.{bucket_turn, shard_turn}
use Rattle.arc_table.specs.Items.{Meanings}
use Rattle.arc_table.specs.Trying.{FindsBusy, at_bucket, at_shard}
use Rattle.arc_table.specs.Views.{after_lost, after_same}
use Rattle.arc_table.proofs.Afterwards.{Stays}

module _ {C : Type 0} (m : Meanings C) (g : Config) where
  pub busy-stays : (k : Key) (n : ℕ) (p q : Place (Known C)) → FindsBusy m g k n p q → Stays p q
  busy-stays k n p q (at_bucket taken is) = subst (Stays p) (sym is) record { table = refl; parties = refl; number = refl; joined = refl; held = refl; about = refl }
  busy-stays k n p q (at_shard chain r free is taken gave) =
      let b = bucket_turn g k in
      let s = shard_turn g k in
      subst (Stays p) (sym (gave ∙ (λ z. gave_back (is z) b (after_same b (after_lost s n (is z).own))))) record {
        table = refl;
        parties = refl;
        number = refl;
        joined = refl;
        held = ap (λ (c : Bool). if c then p.held else (b ∷ without b p.held)) (eq-eqb b b refl);
        about = refl;
      }

  pub busy-ledger : (k : Key) (n : ℕ) (p q : Place (Known C)) → FindsBusy m g k n p q → q.own.ledger ≡ p.own.ledger
  busy-ledger k n p q (at_bucket taken is) = ap (λ (x : Place (Known C)). x.own.ledger) is
  busy-ledger k n p q (at_shard chain r free is taken gave) = ap (λ (x : Place (Known C)). x.own.ledger) gave ∙ ap (λ (x : Place (Known C)). x.own.ledger) is
