-- Passes keep their notes while notes are added.
use Rattle.std.proofs.Common.{ℕ, List, [], ◌∷◌, ◌++◌, sym, ap, ◌∙◌, subst}
use mathlib.Core.Logic.{dite}
use native.Mathlib.Decide.{ℕ_discrete}
use Rattle.blk_ptr.specs.declared.key.Key.{Key}
use Rattle.arc_core.specs.declared.config.Config.{Config}
use Rattle.arc_core.specs.declared.event.Event.TheVariants.{Pass}
use Rattle.arc_table.specs.declared.view.Line.{Line}
use Rattle.arc_table.specs.declared.view.Line.TheVariants as line
use Rattle.arc_table.specs.declared.view.Mine.{Mine}
use Rattle.arc_table.specs.declared.view.Note.{Note}
use Rattle.arc_table.specs.Fronts.{with_at}
use Rattle.arc_table.specs.Items.{Meanings}
use Rattle.arc_table.specs.pact.Passed.{IsNoted, IsPassNoted, Passed}
use Rattle.arc_table.specs.pact.Scene.{Scene}
use Rattle.arc_table.specs.TableLaws.{at_here, at_else, get_front}

-- a pass that is noted stays so
pub more_notes : (g : Config) (notes more : List Note) (owner : ℕ → ℕ) (n : ℕ) (a : Mine) (k : Key) (other : ℕ) → IsNoted g notes owner n a k other → IsNoted g (notes ++ more) owner n a k other
more_notes g notes more owner n a k other i = record { index = i.index; length = i.length; noted = i.noted; there = get_front notes more i.index _ i.there; before = i.before; between = i.between }

-- so is each line of a party
pub line_noted : (g : Config) (notes more : List Note) (owner : ℕ → ℕ) (n : ℕ) (a : Mine) (l : Line) → IsPassNoted g notes owner n a l → IsPassNoted g (notes ++ more) owner n a l
line_noted g notes more owner n a (line.Event (Pass by k other)) h = (h.0, more_notes g notes more owner n a k other h.1)
line_noted g notes more owner n a (line.Event _) h = h
line_noted g notes more owner n a (line.Entry ns) h = h

module _ {C : Type 0} (m : Meanings C) where
  -- a party has one more note
  abbrev pub with_note : Scene C → ℕ → Note → Scene C
  with_note s n x = record s { notes = with_at s.notes n (s.notes n ++ x ∷ []) }

  pub noted_passed : (s : Scene C) (n : ℕ) (x : Note) → Passed m s → Passed m (with_note s n x)
  noted_passed s n x p = record {
    noted = λ k j a l at is. let h = p.noted k j a l at is in dite (ℕ_discrete k n)
        (λ q. subst (λ (ns : List Note). IsPassNoted s.about.config ns (s.owner a.turn) k a l) (sym (ap (with_at s.notes n (s.notes n ++ x ∷ [])) q ∙ (at_here s.notes n (s.notes n ++ x ∷ []) ∙ ap (λ (z : ℕ). s.notes z ++ x ∷ []) (sym q))))
        (line_noted s.about.config (s.notes k) (x ∷ []) (s.owner a.turn) k a l h))
        (λ q. subst (λ (ns : List Note). IsPassNoted s.about.config ns (s.owner a.turn) k a l) (sym (at_else s.notes n k (s.notes n ++ x ∷ []) q)) h);
    rises = p.rises;
  }
