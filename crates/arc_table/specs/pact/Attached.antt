-- The first part of the pact: the turns and what each party knows are those of the scene.
use Rattle.std.specs.Prelude.{◌≡◌, ℕ, ◌<◌, length, Some}
use Rattle.turn_table.specs.Board.{Board, IsFree, IsTaken, Knows}
use Rattle.arc_core.specs.declared.config.Config.{Config}
use Rattle.arc_table.specs.declared.item.Item.{Item}
use Rattle.arc_table.specs.declared.item.Item.TheVariants as item
use Rattle.arc_table.specs.declared.view.Known.{Known}
use Rattle.arc_table.specs.Fronts.{item_at, list_at}
use Rattle.arc_table.specs.Geometry.{IsCell, IsBucket, IsShard, parties_of, turns_of}
use Rattle.arc_table.specs.Items.{Meanings, holds_in}
use Rattle.arc_table.specs.pact.Scene.{Scene}

module _ {C : Type 0} where
  -- the value is of the kind that its turn asks for
  abbrev pub IsKind : Config → ℕ → Item C → Type 0
  IsKind g i (item.Cell c) = IsCell g i
  IsKind g i (item.Bucket b) = IsBucket g i
  IsKind g i (item.Shard l) = IsShard g i

  -- what the party n knows is what the scene says of it
  pub record IsShown (s : Scene C) (n : ℕ) (w : Known C) : Type 0 where
    pub number : w.number ≡ n
    pub about : w.about ≡ s.about
    pub seen : w.seen ≡ s.seen n
    pub mine : w.mine ≡ s.mine n
    pub ledger : w.ledger ≡ s.ledger n
    pub notes : w.notes ≡ s.notes n

module _ {C : Type 0} (m : Meanings C) where
  -- a turn's value now is the one at home while the turn is free, and the record of its holder while it is taken; what counts as kept
  -- is what the value keeps, or what the holder lists
  pub record Attached (b : Board (Item C) (Known C)) (s : Scene C) : Type 0 where
    pub parties : length b.views ≡ parties_of s.about.config
    pub turns : length b.turns ≡ turns_of s.about.config
    pub kinds : (i : ℕ) → i < turns_of s.about.config → IsKind s.about.config i (s.now i)
    pub views : (n : ℕ) (w : Known C) → Knows b n w → IsShown s n w
    pub free : (i : ℕ) (v : Item C) → IsFree b i v → (s.now i ≡ v) × (s.kept i ≡ holds_in m v)
    pub taken : (i n : ℕ) → IsTaken b i n → (w : Known C) × Knows b n w × (item_at i w.records ≡ Some (s.now i)) × (list_at i w.listed ≡ s.kept i)
