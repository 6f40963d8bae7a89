-- What a party knows of a cell in hand: what it is when it is taken, and what other calls leave of it.
use Rattle.std.specs.Prelude.{◌≡◌, ℕ, ◌≤◌, List, [], ◌∷◌, ◌++◌, Some, map, Result, slice_index_or}
use mathlib.Core.Option.{some}
use lib.ListN.{get_elem?}
use Rattle.blk_ptr.specs.declared.key.Key.{Key}
use Rattle.blk_ptr.specs.declared.ptr.Ptr.{Ptr}
use Rattle.vdev_io.specs.declared.device.CacheDev.{Ghosts as DeviceGhosts}
use Rattle.vdev_io.specs.declared.pool.Pool.{Ghosts as PoolGhosts}
use Rattle.arc_core.specs.Config.{IsConfig}
use Rattle.arc_core.specs.declared.config.Config.{Config}
use Rattle.arc_core.specs.declared.event.Event.{Event}
use Rattle.arc_core.specs.declared.served.ReadFault.{ReadFault}
use Rattle.arc_core.specs.PlainShard.{PlainShard}
use Rattle.turn_table.specs.declared.standing.Kept.{Kept}
use Rattle.turn_table.specs.Board.{IsAmong}
use Rattle.turn_table.specs.Moments.{Loses, WasFree}
use Rattle.turn_table.specs.Places.{Place, gave_back, saw, took}
use Rattle.arc_table.specs.declared.item.Item.TheVariants as item
use Rattle.arc_table.specs.declared.read.Read.{Read}
use Rattle.arc_table.specs.declared.view.Known.{Known}
use Rattle.arc_table.specs.declared.view.Line.TheVariants as line
use Rattle.arc_table.specs.Both.{Does}
use Rattle.arc_table.specs.scans.Ending.{DoesRoomy}
use Rattle.arc_table.specs.Fronts.{StartsWith, front_of, item_at, list_at}
use Rattle.arc_table.specs.Geometry.{IsCell, cell_number, parties_of}
use Rattle.arc_table.specs.Giving.{IsGivenCell}
use Rattle.arc_table.specs.Items.{Meanings}
use Rattle.arc_table.specs.Reading.{AnswersRead, Outside}
use Rattle.arc_table.specs.pact.Rule.{Pact}
use Rattle.arc_table.specs.Seen.{FindsEntries, HasSeenBy, HasSeenItsEntries, IsNumberOrCell}
use Rattle.arc_table.specs.ShardGiving.{holds_through}
use Rattle.arc_table.specs.Views.{after_cell, after_lost, after_won}

module _ {C : Type 0} where
  -- The cell j in hand is to q what it was to p; but what q lists for it has followed these events of a shard that was so before.
  pub record KeepsCell (g : Config) (j : ℕ) (s : PlainShard) (es : List Event) (p q : Place (Known C)) : Type 0 where
    pub recorded : item_at j q.own.records ≡ item_at j p.own.records
    pub listed : list_at j q.own.listed ≡ holds_through (cell_number g j) s es (list_at j p.own.listed)
    pub seen : front_of j q.own.seen ≡ front_of j p.own.seen
    pub claims : q.own.ledger.claims ≡ p.own.ledger.claims

  -- the cell in hand is to q just what it was to p
  pub record SameCell (j : ℕ) (p q : Place (Known C)) : Type 0 where
    pub recorded : item_at j q.own.records ≡ item_at j p.own.records
    pub listed : list_at j q.own.listed ≡ list_at j p.own.listed
    pub seen : front_of j q.own.seen ≡ front_of j p.own.seen
    pub claims : q.own.ledger.claims ≡ p.own.ledger.claims

-- the events of a call, with a scan or without, leave each cell in hand so
abbrev pub IsCellKept : {C : Type 0} → Meanings C → Type 0
IsCellKept {C} m = (g : Config) (k : Key) (es : List Event) (p q : Place (Known C)) → IsConfig g → p.own.about.config ≡ g → (d : Does m g k es p q)
    → (j : ℕ) → IsAmong j p.held → IsCell g j → KeepsCell g j d.before.now es p q

abbrev pub IsCellKeptByRoomy : {C : Type 0} → Meanings C → Type 0
IsCellKeptByRoomy {C} m = (g : Config) (k : Key) (e : Event) (p q : Place (Known C)) → IsConfig g → p.own.about.config ≡ g → (d : DoesRoomy m g k e p q)
    → (j : ℕ) → IsAmong j p.held → IsCell g j → KeepsCell g j d.before.now (d.makes.passes ++ e ∷ []) p q

module _ {C : Type 0} (m : Meanings C) where
  -- A cell that was just taken: it is sound, and has the opening with which it moved in. What a party claims of it is what the party's ledger lists,
  -- the taker's and those of the parties that it keeps by a join; and what is no party claims nothing. What the taker had seen of its history begins it.
  pub record IsTakenCell (g : Config) (i : ℕ) (c : C) (p q : Place (Known C)) : Type 0 where
    pub sound : m.sound c
    pub opening : m.opening c ≡ slice_index_or q.own.about.openings i []
    pub claims : m.claims c q.number ≡ list_at i q.own.ledger.claims
    pub joined : (j : ℕ) (k : Kept (Known C)) → get_elem? q.joined j ≡ some k → m.claims c k.number ≡ list_at i k.view.ledger.claims
    pub no_claims : (n : ℕ) → parties_of g ≤ n → m.claims c n ≡ []
    pub recorded : item_at i q.own.records ≡ Some (item.Cell c)
    pub listed : list_at i q.own.listed ≡ m.holds c
    pub seen : front_of i q.own.seen ≡ map line.Entry (m.entries c)
    pub had : StartsWith (map line.Entry (m.entries c)) (front_of i p.own.seen)

-- what `take_cell` took is such
abbrev pub IsCellTaken : {C : Type 0} → Meanings C → Type 0
IsCellTaken {C} m = (g : Config) (i : ℕ) (c : C) (owners : List ℕ) (w : Known C) (p : Place (Known C)) → IsConfig g → p.own.about.config ≡ g → IsCell g i
    → Loses (Pact m) (λ _. after_lost) i owners p (saw p w) → WasFree (Pact m) (saw p w) i (item.Cell c)
    → IsTakenCell m g i c p (took p i (after_won m i (item.Cell c) w))

-- a read changes nothing of a cell in hand: it makes events of the party's own number alone
abbrev pub IsCellKeptByRead : {C P D : Type 0} → Meanings C → PoolGhosts P → DeviceGhosts D → Type 0
IsCellKeptByRead {C} {P} {D} m pools devices = (g : Config) (ptr : Ptr) (t : ℕ) (before now : Outside P D) (p q : Place (Known C)) (result : Result Read ReadFault) → IsConfig g → p.own.about.config ≡ g
    → AnswersRead m pools devices g ptr t before now p q result → (j : ℕ) → IsAmong j p.held → IsCell g j → SameCell j p q

module _ {C : Type 0} where
  -- the party has seen all that it made, of shards and of cells
  abbrev pub SeesAll : Config → Place (Known C) → Type 0
  SeesAll g p = HasSeenBy (IsNumberOrCell g) g p × HasSeenItsEntries g p

-- a party that takes a cell has seen all that it made still; and it finds of the cell what it had seen, and then what others made
abbrev pub IsSeenAtTake : {C : Type 0} → Meanings C → Type 0
IsSeenAtTake {C} m = (g : Config) (i : ℕ) (c : C) (owners : List ℕ) (w : Known C) (p : Place (Known C)) → p.own.about.config ≡ g → IsCell g i
    → Loses (Pact m) (λ _. after_lost) i owners p (saw p w) → WasFree (Pact m) (saw p w) i (item.Cell c) → SeesAll g p
    → SeesAll g (took p i (after_won m i (item.Cell c) w)) × FindsEntries i p (m.entries c)

-- and so has one that gives a cell back, of which it has seen what it was when it took it
abbrev pub IsSeenAtGive : {C : Type 0} → Meanings C → Type 0
IsSeenAtGive {C} m = (g : Config) (i : ℕ) (c : C) (p : Place (Known C)) → IsCell g i → (given : IsGivenCell m p.number i c p.own)
    → front_of i p.own.seen ≡ map line.Entry (m.entries given.taken) → SeesAll g p → SeesAll g (gave_back p i (after_cell m i (item.Cell c) p.own))
