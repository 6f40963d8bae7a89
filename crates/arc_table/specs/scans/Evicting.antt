-- A scan in hand.
use Rattle.std.specs.Prelude.{IsTrue, ◌≡◌, ℕ, ◌+◌, ◌<◌, ◌≤◌, List, [], ◌∷◌, length, vec_len, vec_capacity}
use Rattle.blk_ptr.specs.declared.key.Key.{Key}
use Rattle.arc_lists.specs.Sequences.{stands_on}
use Rattle.arc_core.specs.declared.config.Config.{Config}
use Rattle.arc_core.specs.declared.event.Event.{Event}
use Rattle.arc_core.specs.Owed.{room_for}
use Rattle.arc_core.specs.ShardLog.{AreAllNamed}
use Rattle.arc_core.specs.Step.{legal}
use Rattle.hash_chain.specs.Chain.{Chain}
use Rattle.turn_table.specs.Places.{Place}
use Rattle.arc_table.specs.declared.both.Both.{Both}
use Rattle.arc_table.specs.declared.scan.Scan.{Scan}
use Rattle.arc_table.specs.declared.view.Known.{Known}
use Rattle.arc_table.specs.Items.{Meanings}
use Rattle.arc_table.specs.scans.Scanning.{MayScan, Scans, open_entries, pairs_of}

-- the bucket of the key, which was in hand before the scan
abbrev pub first_of : Both → List (ℕ × Chain)
first_of b = (b.hand.own.turn, b.hand.own.bucket) ∷ []

-- how many more victims the scan may find at most
abbrev pub left_of : Scan → ℕ
left_of s = open_entries s.both.shard.now s.both.shard.marked

-- There is room for all that the scan may find, and for n events more; and the keys that it has marked are at hand
pub record HasScanRoom (n : ℕ) (s : Scan) : Type 0 where
  pub events : left_of s + n ≤ s.both.shard.event_room
  pub victims : vec_len s.both.hand.victims + left_of s ≤ vec_capacity s.both.hand.victims
  pub keys : vec_len s.marked + left_of s ≤ vec_capacity s.marked
  pub marked : (k : Key) → stands_on k s.marked.items ≡ stands_on k s.both.shard.marked

-- what a scan leaves as it was
pub record KeepsHand (old new : Both) : Type 0 where
  pub turn : new.turn ≡ old.turn
  pub own : new.hand.own ≡ old.hand.own
  pub before : new.hand.before ≡ old.hand.before

-- what more room leaves as it was
pub record KeepsBoth (old new : Both) : Type 0 where
  pub turn : new.turn ≡ old.turn
  pub own : new.hand.own.turn ≡ old.hand.own.turn
  pub headers : new.hand.own.bucket.headers ≡ old.hand.own.bucket.headers
  pub victims : new.hand.victims.items ≡ old.hand.victims.items
  pub before : new.hand.before ≡ old.hand.before
  pub now : new.shard.now ≡ old.shard.now
  pub history : new.shard.history ≡ old.shard.history
  pub opening : new.shard.opening ≡ old.shard.opening

-- there is room for a scan: for its passes and three events more, for one entry and one header more, for each bucket and each key
pub record HasBothRoom (b : Both) (capacity : ℕ) : Type 0 where
  pub events : length b.shard.now.entries + 3 ≤ b.shard.event_room
  pub entries : 1 ≤ b.shard.entry_room
  pub header : 0 < b.hand.own.bucket.spare
  pub victims : vec_len b.hand.victims + length b.shard.now.entries ≤ vec_capacity b.hand.victims
  pub keys : length b.shard.now.entries ≤ capacity

module _ {C : Type 0} where
  -- the party may begin a scan with these in hand
  abbrev pub MayBegin : Config → Both → Place (Known C) → Type 0
  MayBegin g b p = MayScan g b.turn (first_of b) b.hand.before.value p

module _ {C : Type 0} (m : Meanings C) where
  -- the party p began the scan, is q, and has made these passes
  abbrev pub IsScan : Config → (p q : Place (Known C)) → Scan → List Event → Type 0
  IsScan g p q s es = Scans m g s.both.turn (first_of s.both) s.both.hand.before.value p q s.both.shard s.both.shard.marked (pairs_of s.both.hand.victims.items) es

  -- some party began the scan, and is q
  pub record IsScanning (g : Config) (s : Scan) (q : Place (Known C)) : Type 0 where
    pub from : Place (Known C)
    pub passes : List Event
    pub may : MayBegin g s.both from
    pub scan : IsScan g from q s passes

module _ {C : Type 0} (m : Meanings C) where
  -- The party p, with these in hand, has named the victims of an event, which may come now: it is q
  pub record HasScanned (g : Config) (b : Both) (e : Event) (p q : Place (Known C)) (s : Scan) : Type 0 where
    pub turn : s.both.turn ≡ b.turn
    pub own : s.both.hand.own.turn ≡ b.hand.own.turn
    pub headers : s.both.hand.own.bucket.headers ≡ b.hand.own.bucket.headers
    pub before : s.both.hand.before ≡ b.hand.before
    pub header_room : 0 < s.both.hand.own.bucket.spare
    pub passes : List Event
    pub may : MayBegin g s.both p
    pub scan : IsScan m g p q s passes
    pub room : HasScanRoom (room_for e) s
    pub entry_room : 1 ≤ s.both.shard.entry_room
    pub named : AreAllNamed e s.both.shard
    pub legal : IsTrue (legal s.both.shard.now e)
