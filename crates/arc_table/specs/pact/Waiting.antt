-- A party that has nobody to wait for.
use Rattle.std.specs.Prelude.{◌≡◌, ℕ, ◌<◌, List, [], ◌∷◌}
use Rattle.turn_table.specs.Places.{HasNumber, Place}
use Rattle.turn_table.specs.declared.standing.Kept.{Kept}
use Rattle.arc_core.specs.declared.config.Config.{Config}
use Rattle.arc_core.specs.Config.{IsConfig}
use Rattle.arc_table.specs.declared.view.Known.{Known}
use Rattle.arc_table.specs.Geometry.{parties_of}

module _ {C : Type 0} where
  -- none of these parties, which another keeps by a join, lists a reading
  abbrev pub NoneReads : List (Kept (Known C)) → Type 0
  NoneReads [] = Unit {0}
  NoneReads (k ∷ ks) = (k.view.ledger.readings ≡ []) × NoneReads ks

  -- The party has every number of a cache with this configuration, as its own or by a join, and lists no reading under any
  pub record HasAllIdle (g : Config) (p : Place (Known C)) : Type 0 where
    pub valid : IsConfig g
    pub all : (n : ℕ) → n < parties_of g → HasNumber n p
    pub own : p.own.ledger.readings ≡ []
    pub joined : NoneReads p.joined
