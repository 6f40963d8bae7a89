-- The lines of a history that one party made.
use Rattle.std.specs.Prelude.{◌≡◌, ℕ, suc, ◌<◌, ◌==◌, ◌&&◌, Bool, true, if◌then◌else◌, length, map, List, [], ◌∷◌}
use Rattle.std.specs.List.{list_any}
use mathlib.Core.Option.{some}
use lib.ListN.{get_elem?}
use Rattle.turn_table.specs.Places.{Place}
use Rattle.arc_core.specs.declared.config.Config.{Config}
use Rattle.arc_core.specs.declared.event.Event.{Event}
use Rattle.arc_core.specs.Operations.{is_pass, number_of}
use Rattle.arc_table.specs.declared.view.Known.{Known}
use Rattle.arc_table.specs.declared.view.Line.{Line}
use Rattle.arc_table.specs.declared.view.Line.TheVariants as line
use Rattle.arc_table.specs.declared.view.Mine.{Mine}
use Rattle.arc_table.specs.Fronts.{front_of}
use Rattle.arc_table.specs.Geometry.{parties_of}
use Rattle.arc_table.specs.Seen.{events_in, seen_of, turn_of}

-- a line stands at this place of the history of this turn
abbrev pub is_at : (turn place : ℕ) → Mine → Bool
is_at turn place a = a.turn == turn && a.place == place

-- one of these does
abbrev pub is_listed : (turn place : ℕ) → List Mine → Bool
is_listed turn place = list_any (is_at turn place)

-- those of these lines of a history, which stand from this place on, that are listed
abbrev pub made_from : (turn place : ℕ) → List Mine → List Line → List Line
made_from turn place mines [] = []
made_from turn place mines (l ∷ ls) = if is_listed turn place mines then (l ∷ made_from turn (suc place) mines ls) else made_from turn (suc place) mines ls

module _ {C : Type 0} where
  -- what the party made of the history of a turn, as far as it has seen it
  abbrev pub made_of : (turn : ℕ) → Place (Known C) → List Line
  made_of turn p = made_from turn 0 p.own.mine (front_of turn p.own.seen)

  -- what it made of a shard
  abbrev pub made_in : Config → (shard : ℕ) → Place (Known C) → List Event
  made_in g shard p = events_in (made_of (turn_of g shard) p)

module _ {C : Type 0} where
  -- What the party has seen of a shard are events, and it made those that stand at n's places.
  pub record IsMaker (g : Config) (shard : ℕ) (owner : ℕ → ℕ) (n : ℕ) (p : Place (Known C)) : Type 0 where
    pub events : front_of (turn_of g shard) p.own.seen ≡ map line.Event (seen_of g shard p)
    pub made : (place : ℕ) → place < length (front_of (turn_of g shard) p.own.seen) → is_listed (turn_of g shard) place p.own.mine ≡ (owner place == n)

-- each pass of this history has the number of its place's owner, which is a party
abbrev pub OwnPasses : Config → (owner : ℕ → ℕ) → (history : List Event) → Type 0
OwnPasses g owner history = (place : ℕ) (e : Event) → get_elem? history place ≡ some e → is_pass e ≡ true → (number_of e ≡ owner place) × (owner place < parties_of g)

-- those of these, which stand from this place on, that are n's, where each place has an owner
abbrev pub owned_from : {A : Type 0} → (owner : ℕ → ℕ) → (n place : ℕ) → List A → List A
owned_from owner n place [] = []
owned_from owner n place (x ∷ xs) = if owner place == n then (x ∷ owned_from owner n (suc place) xs) else owned_from owner n (suc place) xs
