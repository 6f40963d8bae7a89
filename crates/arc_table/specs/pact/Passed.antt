-- The fifth part of the pact: for each pass there is a note, and no two passes have the same one.
use Rattle.std.specs.Prelude.{◌≡◌, ℕ, ◌<◌, ◌≤◌, List, Some, None}
use mathlib.Core.Option.{some}
use lib.ListN.{get_elem?}
use Rattle.arc_core.specs.declared.config.Config.{Config}
use Rattle.arc_core.specs.declared.event.Event.TheVariants.{Pass}
use Rattle.arc_table.specs.declared.view.Line.{Line}
use Rattle.arc_table.specs.declared.view.Line.TheVariants as line
use Rattle.arc_table.specs.declared.view.Mine.{Mine}
use Rattle.arc_table.specs.declared.view.Note.{Note}
use Rattle.arc_table.specs.Geometry.{bucket_turn}
use Rattle.arc_table.specs.Items.{Meanings, lines_in}
use Rattle.arc_table.specs.pact.Scene.{Scene}
use Rattle.arc_table.specs.Views.{note}
use Rattle.blk_ptr.specs.declared.key.Key.{Key}

-- A pass of the key by n, which stands at this place of the history of the turn i, is noted: n's note there is of a try on the key's
-- bucket that found this owner; it has the length that the history had when n took the shard; and from that length up to the pass
-- all lines are n's.
pub record IsNoted (g : Config) (notes : List Note) (owner : ℕ → ℕ) (n : ℕ) (a : Mine) (k : Key) (other : ℕ) : Type 0 where
  pub index : ℕ
  pub length : ℕ
  pub noted : a.note ≡ Some index
  pub there : get_elem? notes index ≡ some (note (bucket_turn g k) other (Some (a.turn, length)))
  pub before : length ≤ a.place
  pub between : (p : ℕ) → length ≤ p → p < a.place → owner p ≡ n

-- a line of n's: a pass is noted, and no other line has a note
abbrev pub IsPassNoted : Config → List Note → (ℕ → ℕ) → ℕ → Mine → Line → Type 0
IsPassNoted g notes owner n a (line.Event (Pass by k other)) = (by ≡ n) × IsNoted g notes owner n a k other
IsPassNoted g notes owner n a _ = a.note ≡ None

module _ {C : Type 0} (m : Meanings C) where
  pub record Passed (s : Scene C) : Type 0 where
    pub noted : (n j : ℕ) (a : Mine) (l : Line) → get_elem? (s.mine n) j ≡ some a → get_elem? (lines_in m (s.now a.turn)) a.place ≡ some l
        → IsPassNoted s.about.config (s.notes n) (s.owner a.turn) n a l
    -- within one shard the places of the notes rise, so none stands for two passes
    pub rises : (n j k : ℕ) (a b : Mine) (x y : ℕ) → j < k → get_elem? (s.mine n) j ≡ some a → get_elem? (s.mine n) k ≡ some b → a.turn ≡ b.turn
        → a.note ≡ Some x → b.note ≡ Some y → x < y
