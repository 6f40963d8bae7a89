-- Tries that were lost one after the other.
use Rattle.std.proofs.Common.{◌≡◌, ℕ, List, [], ◌∷◌, ◌++◌, sym, ap, subst}
use Rattle.turn_table.specs.Board.{Board}
use Rattle.turn_table.specs.Places.{Place, took, saw}
use Rattle.turn_table.specs.Moments.{WasFree, WasTaken, Loses}

module _ {V W : Type 0} (holds : Board V W → Type 0) (lost : ℕ → ℕ → ℕ → W → W) (i : ℕ) where
  pub loses_more : (owners : List ℕ) (m : ℕ) (p q : Place W) → Loses holds lost i owners p q → WasTaken holds q i m → Loses holds lost i (owners ++ m ∷ []) p (saw q (lost q.number i m q.own))
  loses_more [] m p q e h = let same : q ≡ p = e in (subst (λ (z : Place W). WasTaken holds z i m) same h, ap (λ (z : Place W). saw z (lost z.number i m z.own)) same)
  loses_more (k ∷ ks) m p q l h = (l.0, loses_more ks m (saw p (lost p.number i k p.own)) q l.1 h)

  -- what each lost try keeps, all of them keep
  pub loses_keep : (P : Place W → Type 0) → ((p : Place W) (m : ℕ) → WasTaken holds p i m → P p → P (saw p (lost p.number i m p.own))) → (owners : List ℕ) (p q : Place W) → Loses holds lost i owners p q → P p → P q
  loses_keep P step [] p q l h = subst P (sym l) h
  loses_keep P step (m ∷ ms) p q l h = loses_keep P step ms (saw p (lost p.number i m p.own)) q l.1 (step p m l.0 h)

  -- a try that was lost to m, and then others that were lost, and one that was won, are one row of lost tries before a won one
  pub ends_sooner : (won : ℕ → ℕ → V → W → W) (m : ℕ) (p q r : Place W) (v : V) → WasTaken holds p i m → q ≡ saw p (lost p.number i m p.own)
      → (owners : List ℕ) × (w : W) × Loses holds lost i owners q (saw q w) × WasFree holds (saw q w) i v × (r ≡ took q i (won q.number i v w))
      → (owners : List ℕ) × (w : W) × Loses holds lost i owners p (saw p w) × WasFree holds (saw p w) i v × (r ≡ took p i (won p.number i v w))
  ends_sooner won m p q r v first is later =
      let l = subst (λ (z : Place W). (owners : List ℕ) × (w : W) × Loses holds lost i owners z (saw z w) × WasFree holds (saw z w) i v × (r ≡ took z i (won z.number i v w))) is later in
      (m ∷ l.0, l.1, (first, l.2), l.3, l.4)
