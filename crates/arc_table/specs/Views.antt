-- How what a party knows changes: at a won try, at a lost one, and where it learns what another has seen.
use Rattle.std.specs.Prelude.{◌≡◌, ℕ, zero, suc, ◌-◌, List, [], ◌∷◌, ◌++◌, length, Option, Some, None}
use Rattle.std.specs.Option.{option_map_or}
use Rattle.arc_core.specs.declared.config.Config.{Config}
use Rattle.arc_table.specs.declared.about.About.{About}
use Rattle.arc_table.specs.declared.item.Item.{Item}
use Rattle.arc_table.specs.declared.item.Item.TheVariants as item
use Rattle.arc_table.specs.declared.view.Note.{Note}
use Rattle.arc_table.specs.declared.view.Ledger.{Ledger}
use Rattle.arc_table.specs.declared.view.Known.{Known}
use Rattle.arc_table.specs.declared.view.Line.{Line}
use Rattle.arc_table.specs.declared.view.Mine.{Mine}
use Rattle.arc_table.specs.Fronts.{item_at, put, seen_by_both, without_item}
use Rattle.arc_table.specs.Items.{Meanings, claims_in, holds_in, lines_in}

-- a party that has begun nothing
abbrev pub no_ledger : Ledger
no_ledger = record { holds = []; readings = []; picked = []; claims = [] }

-- no cache's numbers
abbrev pub no_config : Config
no_config = record { callers = 0; shards = 0; buckets = 0; cells = 0; c = 0; mintime = 0; dbuf_bytes = 0; bounds = record { write_max = 0; headroom = 0 } }

-- a lost try
abbrev pub note : ℕ → ℕ → Option (ℕ × ℕ) → Note
note i owner under = record { turn = i; owner = owner; under = under }

module _ {C : Type 0} where
  -- a party at the start
  abbrev pub newcomer : About → ℕ → Known C
  newcomer about n = record { number = n; about = about; records = []; listed = []; seen = []; mine = []; ledger = no_ledger; notes = [] }

  -- the shard among the turns that a party holds, with the length that its history had when it was taken
  abbrev pub under_of : List (ℕ × Item C) → Option (ℕ × ℕ)
  under_of [] = None
  under_of ((i, item.Shard l) ∷ rs) = Some (i, length l.history)
  under_of ((i, item.Cell c) ∷ rs) = under_of rs
  under_of ((i, item.Bucket b) ∷ rs) = under_of rs

  -- a party that found the turn i with another
  abbrev pub after_lost : ℕ → ℕ → Known C → Known C
  after_lost i owner w = record w { notes = w.notes ++ note i owner (under_of w.records) ∷ [] }

  -- a party that has learned what another has seen
  abbrev pub after_learned : Known C → Known C → Known C
  after_learned w u = record w { seen = seen_by_both w.seen u.seen }

  -- what no party knows any more
  abbrev pub no_one : Known C
  no_one = newcomer record { config = no_config; openings = [] } 0

  -- What a give may do to what a party knows: its lost tries stay as they are, since a note comes of a try alone
  pub record IsFair (w u : Known C) : Type 0 where
    pub notes : u.notes ≡ w.notes
    pub number : u.number ≡ w.number
    pub about : u.about ≡ w.about

module _ {C : Type 0} (m : Meanings C) where
  -- a party that has taken the turn i with this value: it has the record of it, has seen its history, and lists what a cell keeps
  abbrev pub after_won : ℕ → Item C → Known C → Known C
  after_won i v w = record w { records = (i, v) ∷ w.records; listed = (i, holds_in m v) ∷ w.listed; seen = put i (lines_in m v) w.seen }

-- ---- what a party knows once it has given a turn back

-- the lines of a turn from this place on, so many, none of which is a pass
abbrev pub mines_from : (turn place count : ℕ) → List Mine
mines_from turn place zero = []
mines_from turn place (suc count) = record { turn = turn; place = place; note = None } ∷ mines_from turn (suc place) count

module _ {C : Type 0} where
  -- a party that has given the turn i back as it found it
  abbrev pub after_same : ℕ → Known C → Known C
  after_same i w = record w { records = without_item i w.records }

module _ {C : Type 0} (m : Meanings C) where
  -- the history that a turn in hand had when it was taken
  abbrev pub recorded : ℕ → Known C → List Line
  recorded i w = option_map_or (lines_in m) (item_at i w.records) []

  -- A party that has given a cell back with this value: the entries made since it was taken are its own, and its claim there is the value's
  abbrev pub after_cell : ℕ → Item C → Known C → Known C
  after_cell i v w = record w {
    records = without_item i w.records;
    seen = put i (lines_in m v) w.seen;
    mine = w.mine ++ mines_from i (length (recorded i w)) (length (lines_in m v) - length (recorded i w));
    ledger = record w.ledger { claims = (i, claims_in m v w.number) ∷ w.ledger.claims };
  }
