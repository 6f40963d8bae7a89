-- What a token of a party has after each step.
use Rattle.std.proofs.Common.{◌≡◌, ℕ, ◌<◌, ◌∷◌, Option, None, refl, sym, ap, ◌∙◌, subst}
use Rattle.atomic_table.specs.Table.{Me, rest}
use Rattle.turn_table.specs.Board.{without}
use Rattle.turn_table.specs.Homes.{home}
use Rattle.turn_table.specs.Standings.{empties, IsParty, taking, giving, seeing}
use Rattle.turn_table.specs.declared.standing.Standing.{Standing}
use Rattle.turn_table.proofs.Rows.{below_without}

module _ {V W : Type 0} where
  pub given_me : (i word : ℕ) (me m1 m2 m3 : Me (Option V) (Standing W)) (v : Option V) (w : W) → m1 ≡ (me.0, (word, None) ∷ empties (without i me.0.held)) → m2 ≡ (m1.0, (word, v) ∷ rest m1.1) → m3 ≡ (giving m2.0 i w, rest m2.1)
      → m3 ≡ (giving me.0 i w, empties (without i me.0.held))
  given_me i word me m1 m2 m3 v w e1 e2 e3 =
      let f : m2 ≡ (me.0, (word, v) ∷ empties (without i me.0.held)) = e2 ∙ ap (λ (m : Me (Option V) (Standing W)). (m.0, (word, v) ∷ rest m.1)) e1 in
      e3 ∙ ap (λ (m : Me (Option V) (Standing W)). (giving m.0 i w, rest m.1)) f

  pub is_giving : (n words i : ℕ) (me m3 : Me (Option V) (Standing W)) (w : W) → IsParty n words me → m3 ≡ (giving me.0 i w, empties (without i me.0.held)) → IsParty n words m3
  is_giving n words i me m3 w p e = subst (IsParty n words) (sym e) record { live = p.live; numbered = p.numbered; parties = p.parties; out = refl; below = below_without words i me.0.held p.below }

  pub is_seeing : (n words : ℕ) (me m3 : Me (Option V) (Standing W)) (w : W) → IsParty n words me → m3 ≡ (seeing me.0 w, me.1) → IsParty n words m3
  is_seeing n words me m3 w p e = subst (IsParty n words) (sym e) record { live = p.live; numbered = p.numbered; parties = p.parties; out = p.out; below = p.below }

  pub is_taking : (n words i word : ℕ) (me m1 m2 : Me (Option V) (Standing W)) (v : Option V) (w : W) → IsParty n words me → i < words → word ≡ home i → m1 ≡ (taking me.0 i w, (word, v) ∷ me.1) → m2 ≡ (m1.0, (word, None) ∷ rest m1.1)
      → IsParty n words m2
  is_taking n words i word me m1 m2 v w p near at e f =
      let g : m2 ≡ (taking me.0 i w, (word, None) ∷ me.1) = f ∙ ap (λ (m : Me (Option V) (Standing W)). (m.0, (word, None) ∷ rest m.1)) e in
      subst (IsParty n words) (sym g) record { live = p.live; numbered = p.numbered; parties = p.parties; out = λ k. (at k, None) ∷ p.out k; below = (near, p.below) }
