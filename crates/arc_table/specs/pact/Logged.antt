-- The second part of the pact: histories are legal, and each line stands in one view.
use Rattle.std.specs.Prelude.{◌≡◌, ℕ, ◌<◌, Bool, true, false, IsTrue, [], length, slice_index_or}
use mathlib.Core.Option.{some}
use lib.ListN.{get_elem?}
use Rattle.arc_core.specs.declared.config.Config.{Config}
use Rattle.arc_core.specs.declared.entry.Phase.{Phase}
use Rattle.arc_core.specs.declared.entry.Phase.TheVariants.{Idle, Picking, Writing}
use Rattle.arc_core.specs.Operations.{is_of_feed, number_of}
use Rattle.arc_core.specs.ShardLog.{ShardLog, IsReplayed, opening_log}
use Rattle.arc_table.specs.declared.about.About.{About}
use Rattle.arc_table.specs.declared.item.Item.{Item}
use Rattle.arc_table.specs.declared.item.Item.TheVariants as item
use Rattle.arc_table.specs.declared.view.Line.{Line}
use Rattle.arc_table.specs.declared.view.Line.TheVariants as line
use Rattle.arc_table.specs.declared.view.Mine.{Mine}
use Rattle.arc_table.specs.Fronts.{front_of, StartsWith}
use Rattle.arc_table.specs.Geometry.{numbers_of, parties_of}
use Rattle.arc_table.specs.Items.{Meanings, lines_in, maker_of}
use Rattle.arc_table.specs.pact.Scene.{Scene}

-- a feed picks keys just now
abbrev pub is_picking : Phase → Bool
is_picking Idle = false
is_picking Picking = true
is_picking Writing = false

-- A shard that began as this configuration says, is the replay of its legal history, and has no scan in hand: no key is passed, and no
-- feed picks keys, since a feed makes all its picks and their end under one turn
pub record IsSoundLog (g : Config) (l : ShardLog) : Type 0 where
  pub opening : l.opening ≡ (opening_log g.c g.mintime g.bounds).opening
  pub replayed : IsReplayed l
  pub passed : l.now.passed ≡ []
  pub settled : is_picking l.now.phase ≡ false

module _ {C : Type 0} (m : Meanings C) where
  -- a turn's value is sound: a shard is, and a cell is in its own sense and has the opening that it had when it moved in
  abbrev pub IsSoundItem : About → ℕ → Item C → Type 0
  IsSoundItem about i (item.Cell c) = m.sound c × (m.opening c ≡ slice_index_or about.openings i [])
  IsSoundItem about i (item.Bucket b) = Unit {0}
  IsSoundItem about i (item.Shard l) = IsSoundLog about.config l

-- who made a line: a party with its own number, or a party with the number of a cell; and what only the feeder makes, the feeder made
abbrev pub IsFeeders : Config → Line → Type 0
IsFeeders g (line.Event e) = IsTrue (is_of_feed e) → number_of e ≡ g.callers
IsFeeders g (line.Entry ns) = Unit {0}

pub record IsOwn (g : Config) (party : ℕ) (l : Line) : Type 0 where
  pub number : maker_of l < numbers_of g
  pub maker : maker_of l < parties_of g → maker_of l ≡ party
  pub feeder : IsFeeders g l

module _ {C : Type 0} (m : Meanings C) where
  -- the party whose place p of the turn i is lists it
  pub record HasPlace (s : Scene C) (i p n : ℕ) : Type 0 where
    pub party : n < parties_of s.about.config
    pub index : ℕ
    pub line : Mine
    pub at : get_elem? (s.mine n) index ≡ some line
    pub turn : line.turn ≡ i
    pub place : line.place ≡ p

  pub record Logged (s : Scene C) : Type 0 where
    pub sound : (i : ℕ) → IsSoundItem m s.about i (s.now i)
    -- each party has seen a prefix of each history
    pub seen : (n i : ℕ) → StartsWith (lines_in m (s.now i)) (front_of i (s.seen n))
    -- each place is listed by the one party whose it is, in rising order
    pub places : (i p : ℕ) → p < length (lines_in m (s.now i)) → HasPlace s i p (s.owner i p)
    pub stand : (n j : ℕ) (a : Mine) → get_elem? (s.mine n) j ≡ some a → (a.place < length (lines_in m (s.now a.turn))) × (s.owner a.turn a.place ≡ n)
    pub rises : (n j k : ℕ) (a b : Mine) → j < k → get_elem? (s.mine n) j ≡ some a → get_elem? (s.mine n) k ≡ some b → a.turn ≡ b.turn → a.place < b.place
    -- and is a line of that party
    pub own : (i p : ℕ) (l : Line) → get_elem? (lines_in m (s.now i)) p ≡ some l → IsOwn s.about.config (s.owner i p) l
