-- Histories, and what was seen of them.
use Rattle.std.proofs.Common.{ℕ, List, sym, ap, ◌∙◌, subst, ⊎_elim}
use mathlib.Core.Logic.{dite}
use native.Mathlib.Decide.{ℕ_discrete}
use Rattle.arc_table.specs.declared.view.Line.{Line}
use Rattle.arc_table.specs.Fronts.{with_at, front_of, put, seen_by_both, StartsWith}
use Rattle.arc_table.specs.Items.{Meanings, lines_in}
use Rattle.arc_table.specs.pact.Logged.{Logged}
use Rattle.arc_table.specs.pact.Scene.{Scene}
use Rattle.arc_table.specs.TableLaws.{at_here, at_else, starts_whole}
use Rattle.turn_table.proofs.Histories.{front_here, front_else, front_both}

module _ {C : Type 0} (m : Meanings C) where
  -- a party sees something
  abbrev pub with_seen : Scene C → ℕ → List (List Line) → Scene C
  with_seen s n new = record s { seen = with_at s.seen n new }

  -- where what it sees begins the histories, they are as they were
  pub seen_logged : (s : Scene C) (n : ℕ) (new : List (List Line)) → Logged m s → ((i : ℕ) → StartsWith (lines_in m (s.now i)) (front_of i new)) → Logged m (with_seen s n new)
  seen_logged s n new l sees = record {
    sound = l.sound;
    seen = λ k i. dite (ℕ_discrete k n)
        (λ q. subst (λ (x : List (List Line)). StartsWith (lines_in m (s.now i)) (front_of i x)) (sym (ap (with_at s.seen n new) q ∙ at_here s.seen n new)) (sees i))
        (λ q. subst (λ (x : List (List Line)). StartsWith (lines_in m (s.now i)) (front_of i x)) (sym (at_else s.seen n k new q)) (l.seen k i));
    places = λ i p below. let h = l.places i p below in record { party = h.party; index = h.index; line = h.line; at = h.at; turn = h.turn; place = h.place };
    stand = l.stand;
    rises = l.rises;
    own = l.own;
  }

  -- the whole history of a turn begins it
  pub put_begins : (s : Scene C) (n i : ℕ) → Logged m s → (j : ℕ) → StartsWith (lines_in m (s.now j)) (front_of j (put i (lines_in m (s.now i)) (s.seen n)))
  put_begins s n i l j = dite (ℕ_discrete j i)
      (λ q. subst (λ (x : ℕ). StartsWith (lines_in m (s.now x)) (front_of x (put i (lines_in m (s.now i)) (s.seen n)))) (sym q)
      (subst (StartsWith (lines_in m (s.now i))) (sym (front_here i (lines_in m (s.now i)) (s.seen n))) (starts_whole (lines_in m (s.now i)))))
      (λ q. subst (StartsWith (lines_in m (s.now j))) (sym (front_else i j (lines_in m (s.now i)) (s.seen n) q)) (l.seen n j))

  -- what either of two parties has seen begins it
  pub both_begin : (s : Scene C) (n k : ℕ) → Logged m s → (j : ℕ) → StartsWith (lines_in m (s.now j)) (front_of j (seen_by_both (s.seen n) (s.seen k)))
  both_begin s n k l j = ⊎_elim
      (λ e. subst (StartsWith (lines_in m (s.now j))) (sym e) (l.seen n j))
      (λ e. subst (StartsWith (lines_in m (s.now j))) (sym e) (l.seen k j))
      (front_both j (s.seen n) (s.seen k))
