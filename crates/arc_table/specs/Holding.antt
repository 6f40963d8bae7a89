-- What it means that a party has a hold.
use Rattle.std.specs.Prelude.{◌≡◌, ℕ, List}
use mathlib.Core.Option.{some}
use lib.ListN.{get_elem?}
use Rattle.blk_ptr.specs.declared.ptr.Ptr.{Ptr}
use Rattle.blk_ptr.specs.Ptr.{IsOf, sha256_of}
use Rattle.arc_core.specs.declared.config.Config.{Config}
use Rattle.turn_table.specs.Board.{IsAmong}
use Rattle.turn_table.specs.Places.{Place}
use Rattle.arc_table.specs.declared.hold.Hold.{Hold}
use Rattle.arc_table.specs.declared.view.Known.{Known}
use Rattle.arc_table.specs.Fronts.{list_at}
use Rattle.arc_table.specs.Geometry.{IsCell, cell_number}

-- a hold as a party lists it: its key, and the digest of its block
abbrev pub ptr_of : Hold → Ptr
ptr_of h = record { key = h.key; digest = sha256_of h.block.value }

-- the hold is of this pointer, whose bytes its block has, and has this owner
pub record IsHoldOf (ptr : Ptr) (owner : ℕ) (h : Hold) : Type 0 where
  pub key : h.key ≡ ptr.key
  pub owner_is : h.owner ≡ owner
  pub block : IsOf h.block.value ptr

-- it is one of these
abbrev pub IsOneOf : Ptr → List Ptr → Type 0
IsOneOf x xs = (q : ℕ) × (get_elem? xs q ≡ some x)

module _ {C : Type 0} where
  -- The party lists this under a number: among its holds under its own number, or under that of a cell that it has in hand, among what
  -- it lists as kept there
  pub data IsListed (g : Config) (p : Place (Known C)) (n : ℕ) (x : Ptr) : Type 0 where
    own : n ≡ p.number → IsOneOf x p.own.ledger.holds → IsListed g p n x
    cell : (j : ℕ) → n ≡ cell_number g j → IsCell g j → IsAmong j p.held → IsOneOf x (list_at j p.own.listed) → IsListed g p n x

  -- the party lists the hold under its owner's number
  abbrev pub IsHeld : Config → Place (Known C) → Hold → Type 0
  IsHeld g p h = IsListed g p h.owner (ptr_of h)
