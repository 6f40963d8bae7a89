-- A try and a telling keep the pact.
use Rattle.std.proofs.Common.{◌≡◌, ◌≢◌, ℕ, List, [], ◌∷◌, ◌++◌, set, Some, refl, sym, ap, ◌∙◌, subst, ⊎_elim, length-set}
use mathlib.Core.Option.{some}
use mathlib.Core.Logic.{dite}
use native.Mathlib.Decide.{ℕ_discrete}
use lib.ListN.{get_elem?}
use Rattle.atomic_table.proofs.Lists.{at_set}
use Rattle.turn_table.specs.Board.{free, taken, Board, IsTaken, Knows, KeepsWon, KeepsLost, KeepsLearned}
use Rattle.arc_table.specs.declared.item.Item.{Item}
use Rattle.arc_table.specs.declared.view.Known.{Known}
use Rattle.arc_table.specs.declared.view.Line.{Line}
use Rattle.arc_table.specs.declared.view.Note.{Note}
use Rattle.arc_table.specs.pact.Attached.{Attached, IsShown}
use Rattle.arc_table.specs.Fronts.{item_at, list_at, put, seen_by_both, front_of, StartsWith}
use Rattle.arc_table.specs.Items.{Meanings, holds_in, lines_in}
use Rattle.arc_table.specs.pact.Rule.{Pact}
use Rattle.arc_table.specs.pact.Scene.{Scene}
use Rattle.arc_table.specs.Views.{after_won, after_lost, after_learned, note, under_of}
use Rattle.arc_table.specs.TableLaws.{same_at, at_here, at_else, item_here, item_else, list_here, list_else}
use Rattle.arc_table.specs.pact.AttachedLaws.{StillTaken, attached_moved, free_taken, taken_same, mine, theirs}
use Rattle.arc_table.specs.pact.LoggedLaws.{with_seen, seen_logged, put_begins, both_begin}
use Rattle.arc_table.specs.pact.PassedLaws.{with_note, noted_passed}

module _ {C : Type 0} (m : Meanings C) where
  -- what other parties know is shown, where only what n has seen changes
  seen_else : (s : Scene C) (n : ℕ) (new : List (List Line)) (k : ℕ) (z : Known C) → k ≢ n → IsShown s k z → IsShown (with_seen m s n new) k z
  seen_else s n new k z far h = record { number = h.number; about = h.about; seen = h.seen ∙ sym (at_else s.seen n k new far); mine = h.mine; ledger = h.ledger; notes = h.notes }

  note_else : (s : Scene C) (n : ℕ) (x : Note) (k : ℕ) (z : Known C) → k ≢ n → IsShown s k z → IsShown (with_note m s n x) k z
  note_else s n x k z far h = record { number = h.number; about = h.about; seen = h.seen; mine = h.mine; ledger = h.ledger; notes = h.notes ∙ sym (at_else s.notes n k (s.notes n ++ x ∷ []) far) }

  -- a turn that stays taken, where the party n still has its records
  stays : (b : Board (Item C) (Known C)) (s t : Scene C) (n : ℕ) (w u : Known C) → Attached m b s → Knows b n w → ((j : ℕ) → t.now j ≡ s.now j) → ((j : ℕ) → t.kept j ≡ s.kept j)
      → (j k : ℕ) → (item_at j u.records ≡ item_at j w.records) → (list_at j u.listed ≡ list_at j w.listed) → IsTaken b j k → StillTaken m b s t n u j k
  stays b s t n w u a at now kept j k records listed is = dite (ℕ_discrete k n)
      (λ q. let h = a.taken j k is in let same : h.0 ≡ w = same_at b.views n h.0 w (subst (λ (x : ℕ). get_elem? b.views x ≡ some h.0) q h.1) at in
      mine q (records ∙ (ap (λ (y : Known C). item_at j y.records) (sym same) ∙ (h.2 ∙ ap Some (sym (now j))))) (listed ∙ (ap (λ (y : Known C). list_at j y.listed) (sym same) ∙ (h.3 ∙ sym (kept j)))))
      (λ q. theirs q is (now j) (kept j))

  pub keeps_won : KeepsWon (Pact m) (λ n i v w. after_won m i v w)
  keeps_won b n i v w p e at =
      let s = p.scene in
      let u : Known C = after_won m i v w in
      let a = p.attached in
      let shown = a.views n w at in
      let here = a.free i v e in
      let t : Scene C = with_seen m s n u.seen in
      let own : IsShown t n u = record { number = shown.number; about = shown.about; seen = sym (at_here s.seen n u.seen); mine = shown.mine; ledger = shown.ledger; notes = shown.notes } in record {
        scene = t;
        attached = attached_moved m b s t (set b.turns i (taken n)) n w u a at refl own (seen_else s n u.seen) (length-set b.turns i (taken n)) a.kinds
            (λ j x f. ⊎_elim (λ q. absurd (free_taken x n (sym q.1))) (λ q. a.free j x q.1) (at_set b.turns i j (taken n) (free x) f))
            (λ j k f. ⊎_elim
            (λ q. mine (sym (taken_same n k q.1))
            (ap (λ (z : ℕ). item_at z ((i, v) ∷ w.records)) q.0 ∙ (item_here i v w.records ∙ ap Some (sym here.0 ∙ ap s.now (sym q.0))))
            (ap (λ (z : ℕ). list_at z ((i, holds_in m v) ∷ w.listed)) q.0 ∙ (list_here i (holds_in m v) w.listed ∙ (sym here.1 ∙ ap s.kept (sym q.0)))))
            (λ q. stays b s t n w u a at (λ x. refl) (λ x. refl) j k (item_else i j v w.records q.0) (list_else i j (holds_in m v) w.listed q.0) q.1)
            (at_set b.turns i j (taken n) (taken k) f));
        logged = seen_logged m s n u.seen p.logged
            (λ j. subst (λ (x : Item C × List (List Line)). StartsWith (lines_in m (s.now j)) (front_of j (put i (lines_in m x.0) x.1))) (λ z. (here.0 z, sym shown.seen z)) (put_begins m s n i p.logged j));
        headed = record { heads = p.headed.heads; own_headers = p.headed.own_headers; own_entries = p.headed.own_entries };
        counted = record { parties = p.counted.parties; cells = p.counted.cells; others = p.counted.others; holds = p.counted.holds; kept = p.counted.kept; readings = p.counted.readings; picked = p.counted.picked; claims = p.counted.claims; no_claims = p.counted.no_claims };
        passed = record { noted = p.passed.noted; rises = p.passed.rises };
      }

  pub keeps_lost : KeepsLost (Pact m) (λ n i other w. after_lost i other w)
  keeps_lost b n i other w p e ne at =
      let s = p.scene in
      let u : Known C = after_lost i other w in
      let a = p.attached in
      let shown = a.views n w at in
      let x : Note = note i other (under_of w.records) in
      let t : Scene C = with_note m s n x in
      let own : IsShown t n u = record { number = shown.number; about = shown.about; seen = shown.seen; mine = shown.mine; ledger = shown.ledger; notes = ap (λ (l : List Note). l ++ x ∷ []) shown.notes ∙ sym (at_here s.notes n (s.notes n ++ x ∷ [])) } in record {
        scene = t;
        attached = attached_moved m b s t b.turns n w u a at refl own (note_else s n x) refl a.kinds a.free (λ j k f. stays b s t n w u a at (λ z. refl) (λ z. refl) j k refl refl f);
        logged = record { sound = p.logged.sound; seen = p.logged.seen; places = λ i p' below. let h = p.logged.places i p' below in record { party = h.party; index = h.index; line = h.line; at = h.at; turn = h.turn; place = h.place }; stand = p.logged.stand; rises = p.logged.rises; own = p.logged.own };
        headed = record { heads = p.headed.heads; own_headers = p.headed.own_headers; own_entries = p.headed.own_entries };
        counted = record { parties = p.counted.parties; cells = p.counted.cells; others = p.counted.others; holds = p.counted.holds; kept = p.counted.kept; readings = p.counted.readings; picked = p.counted.picked; claims = p.counted.claims; no_claims = p.counted.no_claims };
        passed = noted_passed m s n x p.passed;
      }

  pub keeps_learned : KeepsLearned (Pact m) after_learned
  keeps_learned b n k w u p ne at at' =
      let s = p.scene in
      let new : Known C = after_learned w u in
      let a = p.attached in
      let shown = a.views n w at in
      let other = a.views k u at' in
      let t : Scene C = with_seen m s n new.seen in
      let own : IsShown t n new = record { number = shown.number; about = shown.about; seen = sym (at_here s.seen n new.seen); mine = shown.mine; ledger = shown.ledger; notes = shown.notes } in record {
        scene = t;
        attached = attached_moved m b s t b.turns n w new a at refl own (seen_else s n new.seen) refl a.kinds a.free (λ j z f. stays b s t n w new a at (λ y. refl) (λ y. refl) j z refl refl f);
        logged = seen_logged m s n new.seen p.logged
            (λ j. subst (λ (x : List (List Line) × List (List Line)). StartsWith (lines_in m (s.now j)) (front_of j (seen_by_both x.0 x.1))) (λ z. (sym shown.seen z, sym other.seen z)) (both_begin m s n k p.logged j));
        headed = record { heads = p.headed.heads; own_headers = p.headed.own_headers; own_entries = p.headed.own_entries };
        counted = record { parties = p.counted.parties; cells = p.counted.cells; others = p.counted.others; holds = p.counted.holds; kept = p.counted.kept; readings = p.counted.readings; picked = p.counted.picked; claims = p.counted.claims; no_claims = p.counted.no_claims };
        passed = record { noted = p.passed.noted; rises = p.passed.rises };
      }
