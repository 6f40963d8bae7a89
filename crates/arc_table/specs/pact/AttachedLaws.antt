-- The turns and the views stay those of the scene.
use Rattle.std.proofs.Common.{◌≡◌, ◌≢◌, ℕ, ◌<◌, List, length, set, Some, sym, ap, ◌∙◌, subst, ⊎_elim, length-set}
use mathlib.Core.Option.{some}
use lib.ListN.{get_elem?}
use Rattle.atomic_table.proofs.Lists.{at_set, set_here, set_else}
use Rattle.turn_table.specs.Board.{Turn, free, taken, Board, IsTaken, Knows}
use Rattle.arc_table.specs.declared.item.Item.{Item}
use Rattle.arc_table.specs.declared.view.Known.{Known}
use Rattle.arc_table.specs.pact.Attached.{Attached, IsKind, IsShown}
use Rattle.arc_table.specs.Fronts.{item_at, list_at}
use Rattle.arc_table.specs.Geometry.{turns_of}
use Rattle.arc_table.specs.Items.{Meanings, holds_in}
use Rattle.arc_table.specs.pact.Scene.{Scene}
use Rattle.arc_table.specs.TableLaws.{within}

module _ {C : Type 0} where
  pub free_taken : (v : Item C) (k : ℕ) → free v ≢ taken k
  free_taken v k q = cc

  pub taken_same : (n k : ℕ) → ◌≡◌ {A = Turn (Item C)} (taken n) (taken k) → n ≡ k
  taken_same n k q = cc

module _ {C : Type 0} (m : Meanings C) where
  -- the turn j is n's, and what n knows now agrees with the scene; or it is another party's, for which nothing has changed
  pub data StillTaken (b : Board (Item C) (Known C)) (s t : Scene C) (n : ℕ) (u : Known C) (j k : ℕ) : Type 0 where
    mine : k ≡ n → item_at j u.records ≡ Some (t.now j) → list_at j u.listed ≡ t.kept j → StillTaken b s t n u j k
    theirs : k ≢ n → IsTaken b j k → t.now j ≡ s.now j → t.kept j ≡ s.kept j → StillTaken b s t n u j k

  -- A step of the party n, which knew w and knows u: from the scene s to t, from the turns of b to ts
  pub attached_moved : (b : Board (Item C) (Known C)) (s t : Scene C) (ts : List (Turn (Item C))) (n : ℕ) (w u : Known C)
      → Attached m b s → Knows b n w → t.about ≡ s.about → IsShown t n u
      → ((k : ℕ) (z : Known C) → k ≢ n → IsShown s k z → IsShown t k z)
      → length ts ≡ length b.turns
      → ((i : ℕ) → i < turns_of s.about.config → IsKind s.about.config i (t.now i))
      → ((j : ℕ) (x : Item C) → get_elem? ts j ≡ some (free x) → (t.now j ≡ x) × (t.kept j ≡ holds_in m x))
      → ((j k : ℕ) → get_elem? ts j ≡ some (taken k) → StillTaken b s t n u j k)
      → Attached m record { turns = ts; views = set b.views n u } t
  attached_moved b s t ts n w u a at about own others long kinds free_now still = record {
    parties = length-set b.views n u ∙ (a.parties ∙ ap (λ c. Rattle.arc_table.specs.Geometry.parties_of c.config) (sym about));
    turns = long ∙ (a.turns ∙ ap (λ c. turns_of c.config) (sym about));
    kinds = λ i below. subst (λ c. IsKind c.config i (t.now i)) (sym about) (kinds i (subst (λ c. i < turns_of c.config) about below));
    views = λ k z e. ⊎_elim
        (λ p. subst (λ (y : ℕ × Known C). IsShown t y.0 y.1) (λ j. (sym p.0 j, p.1 j)) own)
        (λ p. others k z p.0 (a.views k z p.1))
        (at_set b.views n k u z e);
    free = free_now;
    taken = λ j k e. holder j k (still j k e);
  }
    where
      near : n < length b.views
      near = within b.views n w at

      holder : (j k : ℕ) → StillTaken b s t n u j k → (z : Known C) × (get_elem? (set b.views n u) k ≡ some z) × (item_at j z.records ≡ Some (t.now j)) × (list_at j z.listed ≡ t.kept j)
      holder j k (mine same record_is listed_is) = (u, subst (λ (x : ℕ). get_elem? (set b.views n u) x ≡ some u) (sym same) (set_here b.views n u near), record_is, listed_is)
      holder j k (theirs other is now kept) = let h = a.taken j k is in
          (h.0, set_else b.views n k u other ∙ h.1, h.2 ∙ ap Some (sym now), h.3 ∙ sym kept)
