-- All that the rule speaks of, as functions of turns and parties.
use Rattle.std.specs.Prelude.{ℕ, List}
use Rattle.blk_ptr.specs.declared.ptr.Ptr.{Ptr}
use Rattle.arc_table.specs.declared.about.About.{About}
use Rattle.arc_table.specs.declared.item.Item.{Item}
use Rattle.arc_table.specs.declared.view.Line.{Line}
use Rattle.arc_table.specs.declared.view.Note.{Note}
use Rattle.arc_table.specs.declared.view.Mine.{Mine}
use Rattle.arc_table.specs.declared.view.Ledger.{Ledger}

pub record Scene (C : Type 0) : Type 0 where
  pub about : About
  -- by turn: its value now; which party made the line at a place of its history; and the holds that count under a cell's number
  pub now : ℕ → Item C
  pub owner : ℕ → ℕ → ℕ
  pub kept : ℕ → List Ptr
  -- by party: what it has seen, its own lines, what it has begun, and its lost tries
  pub seen : ℕ → List (List Line)
  pub mine : ℕ → List Mine
  pub ledger : ℕ → Ledger
  pub notes : ℕ → List Note
