-- Parties between calls, and open looks.
use Rattle.std.specs.Prelude.{ℕ}
use Rattle.turn_table.specs.Board.{IsAmong}
use Rattle.turn_table.specs.Places.{Place}
use Rattle.arc_table.specs.declared.item.Item.TheVariants as item
use Rattle.arc_table.specs.declared.look.BucketTurn.{BucketTurn}
use Rattle.arc_table.specs.declared.look.Look.{Look}
use Rattle.arc_table.specs.declared.look.Look.TheVariants.{Seen, Busy}
use Rattle.arc_table.specs.declared.view.Known.{Known}
use Rattle.arc_table.specs.Cache.{Cache}
use Rattle.arc_table.specs.Geometry.{IsCell}
use Rattle.arc_table.specs.Giving.{IsAsTaken}
use Rattle.arc_table.specs.Items.{Meanings}

module _ {C : Type 0} where
  -- the party has no open look: it holds cells alone
  abbrev pub HasNoLook : Cache → Place (Known C) → Type 0
  HasNoLook cache p = (i : ℕ) → IsAmong i p.held → IsCell cache.config i

module _ {C : Type 0} (m : Meanings C) where
  -- the look is the party's open one
  pub record IsOpen (look : BucketTurn) (p : Place (Known C)) : Type 0 where
    pub held : IsAmong look.turn p.held
    pub same : IsAsTaken m look.turn (item.Bucket look.bucket) p.own

-- the fact P of an open look, and the fact P of the owner found
abbrev pub IfSeen : Look → (BucketTurn → Type 0) → Type 0
IfSeen (Seen turn) P = P turn
IfSeen (Busy owner) P = Unit {0}

abbrev pub IfLookBusy : Look → (ℕ → Type 0) → Type 0
IfLookBusy (Seen turn) P = Unit {0}
IfLookBusy (Busy owner) P = P owner
