-- What the calls that hand a hold on, or give it up for a copy, answer.
use Rattle.std.specs.Prelude.{◌≡◌, ℕ, Bool, [], ◌∷◌, Result, Ok, Err}
use Rattle.arc_core.specs.declared.config.Config.{Config}
use Rattle.arc_core.specs.declared.event.Event.TheVariants.{Hand, Release}
use Rattle.turn_table.specs.Board.{IsAmong}
use Rattle.turn_table.specs.Places.{Place}
use Rattle.arc_table.specs.declared.hold.Hold.{Hold}
use Rattle.arc_table.specs.declared.view.Known.{Known}
use Rattle.arc_table.specs.Both.{Does}
use Rattle.arc_table.specs.Geometry.{IsCell, cell_number}
use Rattle.arc_table.specs.Holding.{IsHeld}
use Rattle.arc_table.specs.Items.{Meanings}

module _ {C : Type 0} where
  -- the number is that of a cell that the party has in hand
  abbrev pub IsCellInHand : Config → Place (Known C) → ℕ → Type 0
  IsCellInHand g p to = (i : ℕ) × (to ≡ cell_number g i) × IsCell g i × IsAmong i p.held

module _ {C : Type 0} (m : Meanings C) where
  -- `hand`: the hold is the cell's, and the party lists it there; or there was no event, and the hold is as before
  abbrev pub AnswersHand : Config → Hold → (to : ℕ) → Place (Known C) → Place (Known C) → Result Hold Hold → Type 0
  AnswersHand g hold to p q (Ok back) = Does m g hold.key (Hand hold.owner hold.key to ∷ []) p q × (back ≡ record hold { owner = to }) × IsHeld g q back
  AnswersHand g hold to p q (Err back) = Does m g hold.key [] p q × (back ≡ hold)

  -- a hold was given up; the event tells whether it was the only one
  abbrev pub Releases : Config → Hold → Place (Known C) → Place (Known C) → Type 0
  Releases g hold p q = (sole : Bool) × Does m g hold.key (Release hold.owner hold.key sole ∷ []) p q
