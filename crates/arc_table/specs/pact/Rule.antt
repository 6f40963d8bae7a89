-- The pact: the rule that all turns of the cache and all that the parties know keep between any two steps.
use Rattle.turn_table.specs.Board.{Board}
use Rattle.arc_table.specs.declared.item.Item.{Item}
use Rattle.arc_table.specs.declared.view.Known.{Known}
use Rattle.arc_table.specs.pact.Attached.{Attached}
use Rattle.arc_table.specs.pact.Counted.{Counted}
use Rattle.arc_table.specs.pact.Headed.{Headed}
use Rattle.arc_table.specs.Items.{Meanings}
use Rattle.arc_table.specs.pact.Logged.{Logged}
use Rattle.arc_table.specs.pact.Passed.{Passed}
use Rattle.arc_table.specs.pact.Scene.{Scene}

module _ {C : Type 0} (m : Meanings C) where
  pub record Pact (b : Board (Item C) (Known C)) : Type 0 where
    pub scene : Scene C
    pub attached : Attached m b scene
    pub logged : Logged m scene
    pub headed : Headed scene
    pub counted : Counted m scene
    pub passed : Passed m scene
