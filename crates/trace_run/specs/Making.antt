-- Which lines of histories a party made, and that it has seen them.
use Rattle.std.specs.Prelude.{◌≡◌, ℕ, List}
use mathlib.Core.Option.{some}
use lib.ListN.{get_elem?}
use Rattle.arc_core.specs.declared.config.Config.{Config}
use Rattle.turn_table.specs.declared.standing.Kept.{Kept as Joined}
use Rattle.turn_table.specs.Places.{Place}
use Rattle.arc_table.specs.declared.view.Known.{Known}
use Rattle.arc_table.specs.declared.view.Line.{Line}
use Rattle.arc_table.specs.declared.view.Mine.{Mine}
use Rattle.arc_table.specs.Geometry.{IsCell}
use Rattle.arc_table.specs.Seen.{AllSeenBy, AreSeen, AreSeenBy, HasSeenBy, IsNumberOrCell}

-- these lines of shards stand in what was seen, and n made them, with its own number or a cell's
abbrev pub AreEventsSeen : Config → (n : ℕ) → List Mine → List (List Line) → Type 0
AreEventsSeen g = AreSeenBy (IsNumberOrCell g) g

-- none of these lines is of a cell
abbrev pub AreNoEntries : Config → List Mine → Type 0
AreNoEntries g mines = (j : ℕ) (a : Mine) → get_elem? mines j ≡ some a → IsCell g a.turn → ⊥

module _ {C : Type 0} where
  -- so it is of each of these parties
  abbrev pub AllEventsSeen : Config → List (Joined (Known C)) → List (List Line) → Type 0
  AllEventsSeen g = AllSeenBy (IsNumberOrCell g) g

  -- the party has seen all lines of shards that it made, with its own number or a cell's, and those of the parties that it keeps by a join
  abbrev pub HasSeenItsEvents : Config → Place (Known C) → Type 0
  HasSeenItsEvents g = HasSeenBy (IsNumberOrCell g) g

  -- all that the party made are events of shards with its own number, and it has seen them
  pub record MadeItsOwn (g : Config) (p : Place (Known C)) : Type 0 where
    pub events : AreSeen g p.number p.own.mine p.own.seen
    pub entries : AreNoEntries g p.own.mine
