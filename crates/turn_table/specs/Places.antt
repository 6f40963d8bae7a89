-- What parties and rows of turns are to their user: whose number is whose, which turns are held, and what each party knows.
use Rattle.std.specs.Prelude.{◌≡◌, ◌≢◌, ◌⊎◌, ℕ, zero, suc, ◌<◌, List, [], ◌∷◌, ◌++◌, length, take, drop}
use mathlib.Core.Option.{some}
use lib.ListN.{get_elem?}
use Rattle.atomic_table.specs.Seated.{TableId}
use Rattle.turn_table.specs.Board.{Turn, taken, IsAmong, without}
use Rattle.turn_table.specs.declared.standing.Kept.{Kept}

-- What a party is to its user: which row of turns it belongs to, how many parties there are, its number, what it knows, the parties that it keeps by a join and the turns that it holds, each the last first
pub record Place (W : Type 0) : Type 0 where
  pub table : TableId
  pub parties : ℕ
  pub number : ℕ
  pub own : W
  pub joined : List (Kept W)
  pub held : List ℕ

-- What a row of turns is to its user: which it is, and how many turns and parties it has
pub record Row : Type 0 where
  pub table : TableId
  pub turns : ℕ
  pub parties : ℕ

module _ {W : Type 0} where
  -- the party is one of this row
  abbrev pub IsPartyOf : Row → Place W → Type 0
  IsPartyOf r p = (p.table ≡ r.table) × (p.parties ≡ r.parties)

  -- a party that has taken the turn i, given it back, or seen something, and knows w
  abbrev pub took : Place W → ℕ → W → Place W
  took p i w = record { table = p.table; parties = p.parties; number = p.number; own = w; joined = p.joined; held = i ∷ p.held }

  abbrev pub gave_back : Place W → ℕ → W → Place W
  gave_back p i w = record { table = p.table; parties = p.parties; number = p.number; own = w; joined = p.joined; held = without i p.held }

  abbrev pub saw : Place W → W → Place W
  saw p w = record { table = p.table; parties = p.parties; number = p.number; own = w; joined = p.joined; held = p.held }

  abbrev pub kept : ℕ → W → ℕ → Kept W
  kept n w k = record { number = n; view = w; count = k }

  -- the number n is that of one of these
  abbrev pub IsIn : ℕ → List (Kept W) → Type 0
  IsIn n [] = ⊥
  IsIn n (k ∷ ks) = (k.number ≡ n) ⊎ IsIn n ks

  -- the party has the number n, as its own or by a join
  abbrev pub HasNumber : ℕ → Place W → Type 0
  HasNumber n p = (p.number ≡ n) ⊎ IsIn n p.joined

  abbrev pub SomeHas : ℕ → List (Place W) → Type 0
  SomeHas n [] = ⊥
  SomeHas n (p ∷ ps) = HasNumber n p ⊎ SomeHas n ps

  -- none of these parties has the number n
  abbrev pub Apart : ℕ → List (Kept W) → Type 0
  Apart n [] = Unit {0}
  Apart n (k ∷ ks) = (k.number ≢ n) × Apart n ks

  -- the number m is another party's, which p doesn't keep by a join
  abbrev pub IsOther : ℕ → Place W → Type 0
  IsOther m p = (m < p.parties) × (m ≢ p.number) × Apart m p.joined

  -- these are parties of the row, and hold no turn
  abbrev pub AreFree : Row → List (Place W) → Type 0
  AreFree r [] = Unit {0}
  AreFree r (p ∷ ps) = IsPartyOf r p × (p.held ≡ []) × AreFree r ps

  -- these are what the parties of these numbers know
  abbrev pub AllShow : List W → List (Kept W) → Type 0
  AllShow views [] = Unit {0}
  AllShow views (k ∷ ks) = (get_elem? views k.number ≡ some k.view) × AllShow views ks

  -- what a party knows under its own number, and under those that it keeps by a join
  abbrev pub Shows : List W → Place W → Type 0
  Shows views p = (get_elem? views p.number ≡ some p.own) × AllShow views p.joined

  abbrev pub ShowAll : List W → List (Place W) → Type 0
  ShowAll views [] = Unit {0}
  ShowAll views (p ∷ ps) = Shows views p × ShowAll views ps

  -- a party at the start, and k of them, from the number n on, of p parties in all
  abbrev pub newcomer : TableId → ℕ → ℕ → W → Place W
  newcomer id p n w = record { table = id; parties = p; number = n; own = w; joined = []; held = [] }

  abbrev pub newcomers : TableId → ℕ → (ℕ → W) → ℕ → ℕ → List (Place W)
  newcomers id p f n zero = []
  newcomers id p f n (suc k) = newcomer id p n (f n) ∷ newcomers id p f (suc n) k

  -- what another party keeps of this one: it, and then its own by a join
  abbrev pub entries : ℕ → W → List (Kept W) → List (Kept W)
  entries n w ks = kept n w (length ks) ∷ ks

  -- of the parties that one keeps, those that stay once the last has parted
  abbrev pub rest_of : List (Kept W) → List (Kept W)
  rest_of [] = []
  rest_of (k ∷ ks) = drop k.count ks

  -- a party that another has joined, and that knows w
  abbrev pub met : Place W → Place W → W → Place W
  met p q w = record { table = p.table; parties = p.parties; number = p.number; own = w; joined = entries q.number q.own q.joined ++ p.joined; held = p.held }

  -- the party of this number joined last
  abbrev pub IsLast : ℕ → List (Kept W) → Type 0
  IsLast n [] = ⊥
  IsLast n (k ∷ ks) = k.number ≡ n

  -- a party once the party that joined it last has parted, and that party, which knows what f makes of its view
  abbrev pub stayed : Place W → Place W
  stayed p = record { table = p.table; parties = p.parties; number = p.number; own = p.own; joined = rest_of p.joined; held = p.held }

  abbrev pub parted : (W → W) → Place W → List (Kept W) → Place W
  parted f p [] = p
  parted f p (k ∷ ks) = record { table = p.table; parties = p.parties; number = k.number; own = f k.view; joined = take k.count ks; held = [] }

-- each of these numbers, once
abbrev pub AllOnce : List ℕ → Type 0
AllOnce [] = Unit {0}
AllOnce (k ∷ ks) = (¬ IsAmong k ks) × AllOnce ks

-- the party n has each of these turns
abbrev pub AllHeld : {V : Type 0} → List (Turn V) → ℕ → List ℕ → Type 0
AllHeld ts n [] = Unit {0}
AllHeld ts n (i ∷ is) = (get_elem? ts i ≡ some (taken n)) × AllHeld ts n is
