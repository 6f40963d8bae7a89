-- What `insert` answers.
use Rattle.std.specs.Prelude.{◌≡◌, ℕ, List, [], false}
use Rattle.blk_ptr.specs.declared.key.Key.{Key}
use Rattle.blk_ptr.specs.Ptr.{sha256_of}
use Rattle.arc_core.specs.declared.config.Config.{Config}
use Rattle.arc_core.specs.declared.event.Event.TheVariants.{Insert}
use Rattle.arc_core.specs.Step.{is_new_here}
use Rattle.turn_table.specs.Places.{Place}
use Rattle.arc_table.specs.declared.inserts.Inserted.{Inserted}
use Rattle.arc_table.specs.declared.inserts.Inserted.TheVariants as inserts
use Rattle.arc_table.specs.declared.view.Known.{Known}
use Rattle.arc_table.specs.Both.{Does}
use Rattle.arc_table.specs.scans.Ending.{DoesRoomy}
use Rattle.arc_table.specs.Geometry.{cell_number}
use Rattle.arc_table.specs.Holding.{IsHeld}
use Rattle.arc_table.specs.Items.{Meanings}
use Rattle.arc_table.specs.Telling.{Tells}

module _ {C : Type 0} (m : Meanings C) where
  -- The block is in: the event was made behind the passes of its scan, and the party lists the cell's hold, whose block it is. Or the key
  -- was there, and there is no event
  abbrev pub AnswersInsert : Config → (cell : ℕ) → Key → (bytes : List ℕ) → (tick : ℕ) → Place (Known C) → Place (Known C) → Inserted → Type 0
  AnswersInsert g i k bytes t p q (inserts.Held hold) = DoesRoomy m g k (Insert (cell_number g i) k (sha256_of bytes) t) p q
      × (hold.key ≡ k) × (hold.owner ≡ cell_number g i) × (hold.block.value ≡ bytes) × IsHeld g q hold
  AnswersInsert g i k bytes t p q (inserts.There front) = Does m g k [] p q × Tells (λ s. is_new_here k s ≡ false) g k p q front
