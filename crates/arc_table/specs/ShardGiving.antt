-- What a party knows once it has given a shard back, and what it owes for that.
use Rattle.std.specs.Prelude.{◌≡◌, ◌⊎◌, ℕ, suc, ◌-◌, ◌<◌, ◌==◌, if◌then◌else◌, nat_lt, false, IsTrue, List, [], ◌∷◌, ◌++◌, length, map, count_by, Option, Some, None}
use mathlib.Core.Option.{some}
use lib.ListN.{get_elem?}
use Rattle.blk_ptr.specs.declared.key.Key.{Key}
use Rattle.blk_ptr.specs.declared.ptr.Ptr.{Ptr}
use Rattle.arc_core.specs.declared.config.Config.{Config}
use Rattle.arc_core.specs.declared.entry.Entry.{Entry}
use Rattle.arc_core.specs.declared.event.Event.{Event}
use Rattle.arc_core.specs.declared.event.Event.TheVariants.{Pass, Miss, Hand}
use Rattle.arc_core.specs.Operations.{event_key, is_of_feed, is_pass, number_of}
use Rattle.arc_core.specs.PlainShard.{PlainShard, entry_of}
use Rattle.arc_core.specs.ShardLog.{ShardLog, IsReplayed}
use Rattle.arc_core.specs.Step.{after}
use Rattle.hash_chain.specs.Chain.{Chain, header_at}
use Rattle.hash_chain.specs.declared.header.Header.{Header}
use Rattle.turn_table.specs.Board.{IsAmong}
use Rattle.turn_table.specs.Places.{Place}
use Rattle.arc_table.specs.declared.item.Item.{Item}
use Rattle.arc_table.specs.declared.item.Item.TheVariants as item
use Rattle.arc_table.specs.declared.view.Known.{Known}
use Rattle.arc_table.specs.declared.view.Ledger.{Ledger}
use Rattle.arc_table.specs.declared.view.Mine.{Mine}
use Rattle.arc_table.specs.declared.view.Note.{Note}
use Rattle.arc_table.specs.Booking.{holds_after, readings_after}
use Rattle.arc_table.specs.Fronts.{item_at, list_at, put, without_item}
use Rattle.arc_table.specs.Geometry.{IsBucket, IsCell, bucket_turn, cell_number, shard_turn}
use Rattle.arc_table.specs.pact.Headed.{IsHead}
use Rattle.arc_table.specs.Items.{Meanings, lines_in}
use Rattle.arc_table.specs.pact.Logged.{is_picking}
use Rattle.arc_table.specs.Views.{note}

-- ---- what follows from the events that were made

-- the holds and the readings of a number after these events, from a shard before them
abbrev pub holds_through : ℕ → PlainShard → List Event → List Ptr → List Ptr
holds_through m s [] hs = hs
holds_through m s (e ∷ es) hs = holds_through m (after s e) es (holds_after m s e hs)

abbrev pub readings_through : ℕ → List Event → List Key → List Key
readings_through m [] ks = ks
readings_through m (e ∷ es) ks = readings_through m es (readings_after m e ks)

-- how many of the events are passes
abbrev pub passes_in : List Event → ℕ
passes_in = count_by is_pass

-- these events at their places, from this one on, where the passes have these notes, from this one on
abbrev pub mines_of : (turn place note : ℕ) → List Event → List Mine
mines_of turn place note [] = []
mines_of turn place note (Pass n k owner ∷ es) = record { turn = turn; place = place; note = Some note } ∷ mines_of turn (suc place) (suc note) es
mines_of turn place note (_ ∷ es) = record { turn = turn; place = place; note = None } ∷ mines_of turn (suc place) note es

-- the ledger after these events of the shard of this turn; the picked list of a shard is the feeder's
abbrev pub ledger_through : (feeder number turn : ℕ) → PlainShard → List Event → PlainShard → Ledger → Ledger
ledger_through feeder n i before es now l = record l {
  holds = holds_through n before es l.holds;
  readings = readings_through n es l.readings;
  picked = if n == feeder then ((i, now.picked) ∷ l.picked) else l.picked;
}

-- what is listed as kept by each cell after them; what is no cell keeps nothing
abbrev pub listed_after : Config → PlainShard → List Event → ℕ → List Ptr → List Ptr
listed_after g before es j hs = if nat_lt j g.cells then holds_through (cell_number g j) before es hs else hs

module _ {C : Type 0} where
  abbrev pub listed_through : Config → PlainShard → List Event → List (ℕ × Item C) → List (ℕ × List Ptr) → List (ℕ × List Ptr)
  listed_through g before es records listed = map (λ r. (r.0, listed_after g before es r.0 (list_at r.0 listed))) records ++ listed

module _ {C : Type 0} where
  -- the buckets in hand, each by its turn, as records
  abbrev pub buckets_in : List (ℕ × Chain) → List (ℕ × Item C)
  buckets_in = map (λ p. (p.0, item.Bucket p.1))

module _ {C : Type 0} (m : Meanings C) where
  -- A party that has given the shard of the turn i back, which was before and has made these events since, with these buckets in hand
  abbrev pub after_shard : List (ℕ × Chain) → ℕ → ShardLog → List Event → ShardLog → Known C → Known C
  after_shard hand i before es l w = record w {
    records = buckets_in hand ++ without_item i w.records;
    listed = listed_through w.about.config before.now es w.records w.listed;
    seen = put i (lines_in m (item.Shard l)) w.seen;
    mine = w.mine ++ mines_of i (length before.history) (length w.notes - passes_in es) es;
    ledger = ledger_through w.about.config.callers w.number i before.now es l.now w.ledger;
  }

-- ---- what is owed

-- the number acts for n: it is n's own, or that of a cell that n has in hand
abbrev pub ActsFor : Config → ℕ → List ℕ → ℕ → Type 0
ActsFor g n held a = (a ≡ n) ⊎ ((j : ℕ) × (a ≡ cell_number g j) × IsCell g j × IsAmong j held)

-- a reading is a party's, and a pass too; and a hold is handed to a cell in hand
abbrev pub IsActorFit : Config → ℕ → List ℕ → Event → Type 0
IsActorFit g n held (Miss a k t) = a ≡ n
IsActorFit g n held (Pass a k owner) = a ≡ n
IsActorFit g n held (Hand a k to) = ActsFor g n held to
IsActorFit g n held _ = Unit {0}

pub record IsActor (g : Config) (n : ℕ) (held : List ℕ) (i : ℕ) (e : Event) : Type 0 where
  pub acts : ActsFor g n held (number_of e)
  pub fit : IsActorFit g n held e
  pub feeder : IsTrue (is_of_feed e) → number_of e ≡ g.callers
  pub own : (k : Key) → event_key e ≡ Some k → i ≡ shard_turn g k

-- two entries of one key that a header says the same of
pub record AreAlike (e e' : Entry) : Type 0 where
  pub key : e'.key ≡ e.key
  pub state : e'.state ≡ e.state
  pub reading : e'.reading ≡ e.reading
  pub place : e'.place ≡ e.place
  pub digest : e'.digest ≡ e.digest

abbrev pub SameHead : Option Entry → Option Entry → Type 0
SameHead None None = Unit {0}
SameHead None (Some e') = ⊥
SameHead (Some e) None = ⊥
SameHead (Some e) (Some e') = AreAlike e e'

-- a pass among these events was noted while the shard of the turn i, whose history had this length, was in hand
abbrev pub ArePassesNoted : Config → (turn length note : ℕ) → List Note → List Event → Type 0
ArePassesNoted g i len q notes [] = Unit {0}
ArePassesNoted g i len q notes (Pass n k owner ∷ es) = (get_elem? notes q ≡ some (note (bucket_turn g k) owner (Some (i, len)))) × ArePassesNoted g i len (suc q) notes es
ArePassesNoted g i len q notes (_ ∷ es) = ArePassesNoted g i len q notes es

module _ {C : Type 0} where
  -- The party p, of a cache with this configuration, may give back the shard of the turn i, which was before and has made these events since, with these buckets in hand
  pub record IsGivenShard (g : Config) (p : Place (Known C)) (i : ℕ) (hand : List (ℕ × Chain)) (before : ShardLog) (es : List Event) (l : ShardLog) : Type 0 where
    pub recorded : item_at i p.own.records ≡ Some (item.Shard before)
    pub listed : list_at i p.own.listed ≡ []
    pub history : l.history ≡ before.history ++ es
    pub opening : l.opening ≡ before.opening
    pub replayed : IsReplayed l
    pub passed : l.now.passed ≡ []
    pub settled : is_picking l.now.phase ≡ false
    pub actors : (j : ℕ) (e : Event) → get_elem? es j ≡ some e → IsActor g p.number p.held i e
    -- the shard has entries of its own keys alone
    pub own_entries : (k : Key) (e : Entry) → entry_of k l.now ≡ Some e → i ≡ shard_turn g k
    -- the buckets in hand are the party's, are of this shard, and have the headers of their keys; other keys' entries look as they did
    pub in_hand : (j : ℕ) (b : Chain) → item_at j hand ≡ Some b → IsAmong j p.held × IsBucket g j
    pub in_shard : (k : Key) (b : Chain) → item_at (bucket_turn g k) hand ≡ Some b → i ≡ shard_turn g k
    pub heads_in : (k : Key) (b : Chain) → item_at (bucket_turn g k) hand ≡ Some b → IsHead (entry_of k l.now) (header_at k b.headers)
    pub heads_out : (k : Key) → i ≡ shard_turn g k → item_at (bucket_turn g k) hand ≡ None → SameHead (entry_of k before.now) (entry_of k l.now)
    pub own_headers : (j : ℕ) (b : Chain) (k : Key) (h : Header) → item_at j hand ≡ Some b → header_at k b.headers ≡ Some h → j ≡ bucket_turn g k
    -- the passes have the notes that were taken last, and no earlier pass has one of them
    pub noted : ArePassesNoted g i (length before.history) (length p.own.notes - passes_in es) p.own.notes es
    pub fresh : (j y : ℕ) (a : Mine) → get_elem? p.own.mine j ≡ some a → a.note ≡ Some y → y < length p.own.notes - passes_in es
