-- What one moment shows to a party, and what a party owes at a give.
use Rattle.std.specs.Prelude.{◌≡◌, ℕ, List, [], ◌∷◌, length}
use Rattle.turn_table.specs.Board.{free, Board, changed, IsFree, IsTaken}
use Rattle.turn_table.specs.Places.{Place, saw, Apart, IsOther, Shows, AllHeld, AllOnce}

module _ {V W : Type 0} where
  -- The party p is so on this board: there are as many views as parties, what p knows is among them, and so is what each other party knows that p keeps by a join; and the turns that p holds are its own, each once
  pub record Stands (b : Board V W) (p : Place W) : Type 0 where
    pub count : length b.views ≡ p.parties
    pub shows : Shows b.views p
    pub apart : Apart p.number p.joined
    pub held : AllHeld b.turns p.number p.held
    pub once : AllOnce p.held

  module _ (holds : Board V W → Type 0) where
    -- whatever all else is, the party p may give the turn i back with the value v, and knows w from then on
    abbrev pub MayGive : Place W → ℕ → V → W → Type 0
    MayGive p i v w = (b : Board V W) → holds b → Stands b p → IsTaken b i p.number → holds (changed b i (free v) p.number w)

    -- at one moment the rule held, and the party was so
    pub record WasSo (p : Place W) : Type 0 where
      pub board : Board V W
      pub held : holds board
      pub stands : Stands board p

    -- the same, and the turn i was free with the value v
    pub record WasFree (p : Place W) (i : ℕ) (v : V) : Type 0 where
      pub board : Board V W
      pub held : holds board
      pub stands : Stands board p
      pub turn : IsFree board i v

    -- the same, and the party m, another one, had the turn i
    pub record WasTaken (p : Place W) (i m : ℕ) : Type 0 where
      pub board : Board V W
      pub held : holds board
      pub stands : Stands board p
      pub turn : IsTaken board i m
      pub other : IsOther m p

    -- a party that was p lost tries on the turn i to these owners, one after the other, and is q
    abbrev pub Loses : (ℕ → ℕ → ℕ → W → W) → ℕ → List ℕ → Place W → Place W → Type 0
    Loses lost i [] p q = q ≡ p
    Loses lost i (m ∷ ms) p q = WasTaken p i m × Loses lost i ms (saw p (lost p.number i m p.own)) q
