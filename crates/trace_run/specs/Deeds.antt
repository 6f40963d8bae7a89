-- What a party did, as what it made of histories tells it.
use Rattle.std.specs.Prelude.{◌≡◌, ◌≢◌, ◌==◌, ◌<◌, ℕ, false, filter, if◌then◌else◌, length, List, [], ◌∷◌, ◌++◌, map}
use Rattle.std.specs.List.{AllByRecursion}
use Rattle.std.specs.Option.{option_map_or}
use Rattle.blk_ptr.specs.Hash.{shard_of}
use Rattle.arc_core.specs.declared.config.Config.{Config}
use Rattle.arc_core.specs.declared.event.Event.{Event}
use Rattle.arc_core.specs.declared.event.Event.TheVariants.{Pass, Hit, Miss, Arrive, Fail, Drop, Past, Hand, Insert, Release, Pick, FeedEnd, Set, Leave, Clear, Restore, Resize}
use Rattle.arc_core.specs.Operations.{Act, GivesBack, MakesPrivate, Writes, acts_in, event_key, number_of}
use Rattle.turn_table.specs.Places.{Place}
use Rattle.arc_table.specs.declared.view.Known.{Known}
use Rattle.arc_table.specs.declared.view.Line.{Line}
use Rattle.arc_table.specs.declared.view.Line.TheVariants as line
use Rattle.arc_table.specs.Fronts.{StartsWith, front_of}
use Rattle.arc_table.specs.Geometry.{IsCell}
use Rattle.arc_table.specs.Seen.{turn_of}
use Rattle.arc_table.specs.Told.{IsTold}
use Rattle.dbuf_state.specs.Numbers.{event_numbers}
use Rattle.dbuf_state.specs.declared.event.CellEvent.{CellEvent}
use Rattle.trace_run.specs.MadeLines.{is_listed, made_in, made_of}

-- the act that an event with a cell's number stands for
abbrev pub act_of_event : Event → List Act
act_of_event (Drop n k) = GivesBack n k ∷ []
act_of_event (Release n k sole) = MakesPrivate n k ∷ []
act_of_event (Insert n k d t) = Writes n t (record { key = k; digest = d }) ∷ []
act_of_event (Pass n k owner) = []
act_of_event (Hit n k t) = []
act_of_event (Miss n k t) = []
act_of_event (Arrive n k d from) = []
act_of_event (Fail n k at) = []
act_of_event (Past n k kept) = []
act_of_event (Hand n k to) = []
act_of_event (Pick n k) = []
act_of_event (FeedEnd n) = []
act_of_event (Set n k place) = []
act_of_event (Leave n k why) = []
act_of_event (Clear n k) = []
act_of_event (Restore n k place d) = []
act_of_event (Resize n c) = []

abbrev pub acts_of_events : List Event → List Act
acts_of_events [] = []
acts_of_events (e ∷ es) = act_of_event e ++ acts_of_events es

-- it stands for one
abbrev pub HasAct : Event → Type 0
HasAct e = (act : Act) × (act_of_event e ≡ act ∷ [])

-- of these events those with this number
abbrev pub with_number : ℕ → List Event → List Event
with_number c = filter (λ e. number_of e == c)

-- the events of these that are of keys of this shard
abbrev pub events_there : Config → (shard : ℕ) → List Event → List Event
events_there g shard = filter (λ e. option_map_or (λ k. shard_of g.shards k == shard) (event_key e) false)

-- what was done to a cell, with the cell's number
pub record Noted : Type 0 where
  pub cell : ℕ
  pub event : CellEvent

abbrev pub noted_in : (i : ℕ) → List CellEvent → List Noted
noted_in i = map (λ e. record { cell = i; event = e })

-- of these what was done to this cell
abbrev pub events_of_cell : (i : ℕ) → List Noted → List CellEvent
events_of_cell i [] = []
events_of_cell i (n ∷ ns) = if n.cell == i then (n.event ∷ events_of_cell i ns) else events_of_cell i ns

abbrev pub lines_of_cell : (i : ℕ) → List Noted → List Line
lines_of_cell i noted = map line.Entry (map event_numbers (events_of_cell i noted))

-- of each cell, t has at least what s had
abbrev pub CellsGrow : Config → (s t : List (List Line)) → Type 0
CellsGrow g s t = (i : ℕ) → IsCell g i → StartsWith (front_of i t) (front_of i s)

module _ {C : Type 0} where
  -- In each shard the events of the party's own number are those of its acts among these, one after another, each once; and those that it made with
  -- another number, a cell's, are those of that number's acts. What it did to each cell is this.
  pub record HasToldAll (g : Config) (did : List Act) (noted : List Noted) (p : Place (Known C)) : Type 0 where
    pub acts : IsTold g did p
    pub cells : (shard c : ℕ) → c ≢ p.number → acts_in (shard_of g.shards) shard c did ≡ acts_of_events (with_number c (made_in g shard p))
    pub kinds : (shard c : ℕ) → c ≢ p.number → AllByRecursion HasAct (with_number c (made_in g shard p))
    pub entries : (i : ℕ) → IsCell g i → made_of i p ≡ lines_of_cell i noted

  -- What the party made with other numbers than its own, those of cells, are these acts, each once; and what it did to each cell is this.
  pub record HasToldOthers (g : Config) (did : List Act) (noted : List Noted) (p : Place (Known C)) : Type 0 where
    pub cells : (shard c : ℕ) → c ≢ p.number → acts_in (shard_of g.shards) shard c did ≡ acts_of_events (with_number c (made_in g shard p))
    pub kinds : (shard c : ℕ) → c ≢ p.number → AllByRecursion HasAct (with_number c (made_in g shard p))
    pub entries : (i : ℕ) → IsCell g i → made_of i p ≡ lines_of_cell i noted

  -- what it made of each shard later stands from this place on
  abbrev pub MakesFrom : Config → (from : ℕ → ℕ) → (p q : Place (Known C)) → Type 0
  MakesFrom g from p q = (shard place : ℕ) → place < from shard → is_listed (turn_of g shard) place q.own.mine ≡ is_listed (turn_of g shard) place p.own.mine

  -- behind all that it had seen
  abbrev pub MakesLater : Config → (p q : Place (Known C)) → Type 0
  MakesLater g p q = MakesFrom g (λ shard. length (front_of (turn_of g shard) p.own.seen)) p q

  -- It knows what it knew of the cells' beginnings, and has seen of each cell and of each shard at least what it had. What it made of shards later stands behind that.
  pub record KeepsCells (g : Config) (p q : Place (Known C)) : Type 0 where
    pub about : q.own.about ≡ p.own.about
    pub fronts : CellsGrow g p.own.seen q.own.seen
    pub shards : (shard : ℕ) → StartsWith (front_of (turn_of g shard) q.own.seen) (front_of (turn_of g shard) p.own.seen)
    pub older : MakesLater g p q

  -- it has seen of each cell just what it had
  abbrev pub SameCells : Config → (p q : Place (Known C)) → Type 0
  SameCells g p q = (i : ℕ) → IsCell g i → front_of i q.own.seen ≡ front_of i p.own.seen

  -- it made nothing with another number than its own, and nothing of a cell, more
  pub record SameMade (g : Config) (p q : Place (Known C)) : Type 0 where
    pub number : q.number ≡ p.number
    pub cells : (shard c : ℕ) → c ≢ p.number → with_number c (made_in g shard q) ≡ with_number c (made_in g shard p)
    pub entries : (i : ℕ) → IsCell g i → made_of i q ≡ made_of i p
    pub keeps : KeepsCells g p q
