-- What the row of turns keeps besides its user's rule: who has which number, and who holds which turn.
use Rattle.std.specs.Prelude.{◌≡◌, ℕ, zero, suc, ◌-◌, ◌<◌, ◌≤◌, List, [], ◌∷◌, ◌++◌, map, length, take, true, false, Option, Some, None}
use mathlib.Core.Option.{some, none}
use mathlib.Core.Option as maybe
use lib.ListN.{get_elem?}
use Rattle.atomic_table.specs.Table.{State, Step, Me, rest}
use Rattle.atomic_table.specs.Seated.{TableId}
use Rattle.turn_table.specs.Board.{Turn, free, taken, Board, IsAmong, without}
use Rattle.turn_table.specs.Places.{Place, kept, Apart, entries, rest_of, AllOnce, AllHeld}
use Rattle.turn_table.specs.Homes.{home, room}
use Rattle.turn_table.specs.Moments.{WasFree, WasSo, WasTaken}
use Rattle.turn_table.specs.declared.standing.Kept.{Kept}
use Rattle.turn_table.specs.declared.standing.Standing.{Standing}

-- what is always true of a row of turns: words and slots for as many turns as were counted, of which there are some, and some party
pub record IsRow (id : TableId) (turns counted parties : ℕ) : Type 0 where
  pub words : id.words ≡ room turns
  pub slots : id.slots ≡ room turns
  pub count : counted ≡ turns
  pub some_turn : 0 < turns
  pub some_party : 0 < parties

module _ {W : Type 0} where
  abbrev pub place_of : TableId → Standing W → Place W
  place_of z x = record { table = z; parties = x.parties; number = x.number; own = x.own; joined = x.joined; held = x.held }

  -- f n, f (n + 1) and so on, k of them, each by its number
  abbrev pub kept_from : (ℕ → W) → ℕ → ℕ → List (Kept W)
  kept_from f n zero = []
  kept_from f n (suc k) = kept n (f n) 0 ∷ kept_from f (suc n) k

  -- the first party of p, while it keeps k of them, from the number n on
  abbrev pub whole_place : TableId → ℕ → (ℕ → W) → ℕ → ℕ → Place W
  whole_place id p f n k = record { table = id; parties = p; number = 0; own = f 0; joined = kept_from f n k; held = [] }

  -- the first seat of a row has all parties
  abbrev pub whole : ℕ → (ℕ → W) → Standing W
  whole k f = record { live = true; parties = k; number = 0; own = f 0; joined = kept_from f 1 (k - 1); held = [] }

  abbrev pub leaves : (W → W) → Standing W → List (Kept W) → Standing W
  leaves f x [] = record { live = false; parties = 0; number = 0; own = x.own; joined = []; held = [] }
  leaves f x (k ∷ ks) = record { live = true; parties = x.parties; number = k.number; own = f k.view; joined = take k.count ks; held = [] }

  -- no two of these parties have one number
  abbrev pub AllApart : List (Kept W) → Type 0
  AllApart [] = Unit {0}
  AllApart (k ∷ ks) = Apart k.number ks × AllApart ks

  -- a standing after its party has taken the turn i, given it back, or seen something, and knows w
  abbrev pub taking : Standing W → ℕ → W → Standing W
  taking x i w = record { live = x.live; parties = x.parties; number = x.number; own = w; joined = x.joined; held = i ∷ x.held }

  abbrev pub giving : Standing W → ℕ → W → Standing W
  giving x i w = record { live = x.live; parties = x.parties; number = x.number; own = w; joined = x.joined; held = without i x.held }

  abbrev pub seeing : Standing W → W → Standing W
  seeing x w = record { live = x.live; parties = x.parties; number = x.number; own = w; joined = x.joined; held = x.held }

  -- a standing that another has joined, and that knows w
  abbrev pub meeting : Standing W → Standing W → W → Standing W
  meeting x y w = record { live = x.live; parties = x.parties; number = x.number; own = w; joined = entries y.number y.own y.joined ++ x.joined; held = x.held }

  -- a standing that nobody has any more
  abbrev pub spent : W → Standing W
  spent w = record { live = false; parties = 0; number = 0; own = w; joined = []; held = [] }

  -- what a party knows once it has learned what the one that joined it last has seen
  abbrev pub learned_last : (W → W → W) → W → List (Kept W) → W
  learned_last learned w [] = w
  learned_last learned w (k ∷ ks) = learned w k.view

  -- the standing x without the party that joined it last
  abbrev pub left_with : Standing W → Standing W
  left_with x = record { live = x.live; parties = x.parties; number = x.number; own = x.own; joined = rest_of x.joined; held = x.held }

  -- the standing of that party, which knows what f makes of its view
  abbrev pub leaving : (W → W) → Standing W → Standing W
  leaving f x = leaves f x x.joined

  -- each of these parties is kept by the seat id, and knows what the board says
  abbrev pub AllKept : List W → (ℕ → ℕ) → ℕ → List (Kept W) → Type 0
  AllKept views seat id [] = Unit {0}
  AllKept views seat id (k ∷ ks) = ((seat k.number ≡ id) × (get_elem? views k.number ≡ some k.view)) × AllKept views seat id ks

  -- a seat with the number n, that is not spent, holds the turn i
  pub record HasSeat (seats : List (Standing W)) (n i : ℕ) : Type 0 where
    pub id : ℕ
    pub standing : Standing W
    pub at : get_elem? seats id ≡ some standing
    pub live : standing.live ≡ true
    pub number : standing.number ≡ n
    pub among : IsAmong i standing.held

-- each of these numbers is below n
abbrev pub AllBelow : ℕ → List ℕ → Type 0
AllBelow n [] = Unit {0}
AllBelow n (k ∷ ks) = (k < n) × AllBelow n ks

module _ {V : Type 0} where
  -- The word at a place is 0 while its turn is free, and else one more than the number of the turn's holder. The value is in the slot there exactly while the turn is free
  abbrev pub StandsAt : List ℕ → List (maybe.Option (Option V)) → ℕ → Turn V → Type 0
  StandsAt ws hs i (free v) = (get_elem? ws i ≡ some 0) × (get_elem? hs i ≡ some (some (Some v)))
  StandsAt ws hs i (taken n) = (get_elem? ws i ≡ some (suc n)) × (get_elem? hs i ≡ some none)

  -- the words and the slots show these turns, and the slots behind the last one are empty
  pub record AllStand (ws : List ℕ) (hs : List (maybe.Option (Option V))) (ts : List (Turn V)) : Type 0 where
    pub words : length ws ≡ room (length ts)
    pub homes : length hs ≡ room (length ts)
    pub each : (i : ℕ) (t : Turn V) → get_elem? ts i ≡ some t → StandsAt ws hs (home i) t
    pub spare : (i : ℕ) → length ts ≤ i → i < room (length ts) → get_elem? hs (home i) ≡ some (some None)

  -- the slots that are out with a seat, each empty
  abbrev pub empties : List ℕ → List (ℕ × Option V)
  empties held = map (λ i. (home i, None)) held

module _ {V W : Type 0} where
  -- what a seat that is not spent knows is true of the board
  pub record Sits (parties : ℕ) (turns : List (Turn V)) (views : List W) (seat : ℕ → ℕ) (id : ℕ) (x : Standing W) : Type 0 where
    pub all : x.parties ≡ parties
    pub own_at : seat x.number ≡ id
    pub own_is : get_elem? views x.number ≡ some x.own
    pub joined : AllKept views seat id x.joined
    pub own_apart : Apart x.number x.joined
    pub joined_apart : AllApart x.joined
    pub held : AllHeld turns x.number x.held
    pub once : AllOnce x.held

  -- The table stands for a board that meets the user's rule. Each number is one seat's, as its own or by a join, and each taken turn is held by the seat whose own number its word names
  pub record TurnsKeep (holds : Board V W → Type 0) (parties size : ℕ) (s : State (Option V) (Standing W)) : Type 0 where
    pub turns : List (Turn V)
    pub views : List W
    pub seat : ℕ → ℕ
    pub stands : AllStand s.words s.homes turns
    pub rule : holds record { turns = turns; views = views }
    pub long : length turns ≡ size
    pub count : length views ≡ parties
    pub seats : (id : ℕ) (x : Standing W) → get_elem? s.views id ≡ some x → x.live ≡ true → Sits parties turns views seat id x
    pub owners : (i n : ℕ) → get_elem? turns i ≡ some (taken n) → HasSeat s.views n i

-- what is always true of a party: its token holds the slots of just the turns that it has, each empty
pub record IsParty {V W : Type 0} (number words : ℕ) (me : Me (Option V) (Standing W)) : Type 0 where
  pub live : me.0.live ≡ true
  pub numbered : me.0.number ≡ number
  pub parties : me.0.parties < 4294967296
  pub out : me.1 ≡ empties me.0.held
  pub below : AllBelow words me.0.held

-- What each step tells: of the step, the seat before, the number found and the seat after, where the step is at the home of the turn i
module _ {V W : Type 0} where
  -- a try took a free turn with its value, or found it with another party
  abbrev pub tried : (Board V W → Type 0) → (ℕ → ℕ → V → W → W) → (ℕ → ℕ → ℕ → W → W) → Step (Option V) → Me (Option V) (Standing W) → ℕ → Me (Option V) (Standing W) → Type 0
  tried holds won lost p me found after = (i : ℕ) → home i ≡ p.word →
      (found ≡ 0 → (v : V) × ((z : TableId) → WasFree holds (place_of z me.0) i v) × (after ≡ (taking me.0 i (won me.0.number i v me.0.own), (p.word, Some v) ∷ me.1)))
      × ((m : ℕ) → found ≡ suc m → ((z : TableId) → WasTaken holds (place_of z me.0) i m) × (after ≡ (seeing me.0 (lost me.0.number i m me.0.own), me.1)))

  -- a party learned what the one that joined it last has seen, at a moment at which the rule held, with what both knew
  abbrev pub learnt : (Board V W → Type 0) → (W → W → W) → Step (Option V) → Me (Option V) (Standing W) → ℕ → Me (Option V) (Standing W) → Type 0
  learnt holds learned p me found after = ((z : TableId) → WasSo holds (place_of z me.0)) × (after ≡ (seeing me.0 (learned_last learned me.0.own me.0.joined), me.1))

  -- the slot of this turn is now the one taken last
  abbrev pub brought : Step (Option V) → Me (Option V) (Standing W) → ℕ → Me (Option V) (Standing W) → Type 0
  brought p me found after = (i : ℕ) → home i ≡ p.word → after ≡ (me.0, (p.word, None) ∷ empties (without i me.0.held))

  -- the turn was given back
  abbrev pub gave : Option W → Step (Option V) → Me (Option V) (Standing W) → ℕ → Me (Option V) (Standing W) → Type 0
  gave next p me new after = (w : W) → next ≡ Some w → (i : ℕ) → home i ≡ p.word → after ≡ (giving me.0 i w, rest me.1)
