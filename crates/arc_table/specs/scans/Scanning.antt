-- A scan for victims. It holds a shard and only tries the buckets of the keys that an event evicts or drops. A bucket that it wins stays
-- in hand and the key is marked; a key whose bucket another party has is passed, and the party keeps the note of the lost try.
use Rattle.std.specs.Prelude.{◌≡◌, ℕ, ◌<◌, Bool, true, false, IsTrue, not, ◌&&◌, List, [], ◌∷◌, ◌++◌, length, map, count_by, IsSome, Some, None}
use mathlib.Core.Option.{some}
use lib.ListN.{get_elem?}
use Rattle.blk_ptr.specs.declared.key.Key.{Key}
use Rattle.arc_lists.specs.Sequences.{stands_on}
use Rattle.arc_core.specs.declared.config.Config.{Config}
use Rattle.arc_core.specs.declared.entry.Entry.{Entry}
use Rattle.arc_core.specs.declared.event.Event.{Event}
use Rattle.arc_core.specs.declared.event.Event.TheVariants.{Pass, Miss, Insert, Resize}
use Rattle.arc_core.specs.PlainShard.{PlainShard, entry_of, is_passed}
use Rattle.arc_core.specs.ShardLog.{ShardLog, IsReplayed}
use Rattle.hash_chain.specs.Chain.{Chain, header_at}
use Rattle.hash_chain.specs.declared.header.Header.{Header}
use Rattle.turn_table.specs.Board.{IsAmong}
use Rattle.turn_table.specs.Places.{IsOther, Place, gave_back}
use Rattle.arc_table.specs.declared.in_hand.Taken.{Taken}
use Rattle.arc_table.specs.declared.item.Item.TheVariants as item
use Rattle.arc_table.specs.declared.view.Known.{Known}
use Rattle.arc_table.specs.declared.view.Mine.{Mine}
use Rattle.arc_table.specs.declared.view.Note.{Note}
use Rattle.arc_table.specs.Fronts.{item_at, list_at}
use Rattle.arc_table.specs.Geometry.{IsBucket, IsShard, bucket_turn, parties_of, shard_turn}
use Rattle.arc_table.specs.pact.Headed.{IsHead}
use Rattle.arc_table.specs.Items.{Meanings}
use Rattle.arc_table.specs.pact.Logged.{IsSoundLog}
use Rattle.arc_table.specs.Giving.{IsAsTaken}
use Rattle.arc_table.specs.Views.{after_same, after_won, note, under_of}

-- an event that makes room, and so may evict and drop
abbrev pub takes_room : Event → Bool
takes_room (Miss n k t) = true
takes_room (Insert n k d t) = true
takes_room (Resize n c) = true
takes_room _ = false

-- buckets in hand, each by its turn
abbrev pub pairs_of : List Taken → List (ℕ × Chain)
pairs_of = map (λ t. (t.turn, t.bucket))

-- P is so of each of these
abbrev pub AllPairs : (ℕ → Chain → Type 0) → List (ℕ × Chain) → Type 0
AllPairs P [] = Unit {0}
AllPairs P (v ∷ vs) = P v.0 v.1 × AllPairs P vs

-- no turn stands twice
abbrev pub AreApart : List (ℕ × Chain) → Type 0
AreApart [] = Unit {0}
AreApart (v ∷ vs) = (item_at v.0 vs ≡ None) × AreApart vs

-- the notes of these passes, which were lost under the shard of the turn i, whose history had this length when it was taken
abbrev pub notes_of : Config → (turn length : ℕ) → List Event → List Note
notes_of g i len [] = []
notes_of g i len (Pass n k owner ∷ es) = note (bucket_turn g k) owner (Some (i, len)) ∷ notes_of g i len es
notes_of g i len (_ ∷ es) = notes_of g i len es

-- these are passes of n, of keys of the shard of the turn i
abbrev pub ArePasses : Config → (n turn : ℕ) → List Event → Type 0
ArePasses g n i [] = Unit {0}
ArePasses g n i (Pass a k owner ∷ es) = ((a ≡ n) × (i ≡ shard_turn g k)) × ArePasses g n i es
ArePasses g n i (_ ∷ es) = ⊥

-- the turns that are held once these buckets were taken, one after the other
abbrev pub added : List (ℕ × Chain) → List ℕ → List ℕ
added [] held = held
added (v ∷ vs) held = added vs (v.0 ∷ held)

module _ {C : Type 0} where
  -- each of these passes names an owner that is neither the party's own number nor one that it keeps by a join: so a party that keeps
  -- all others makes no pass
  abbrev pub AreOfOthers : Place (Known C) → List Event → Type 0
  AreOfOthers p [] = Unit {0}
  AreOfOthers p (Pass a k owner ∷ es) = IsOther owner p × AreOfOthers p es
  AreOfOthers p (_ ∷ es) = AreOfOthers p es

module _ {C : Type 0} (m : Meanings C) where
  -- what a party knows that has won these buckets, one after the other
  abbrev pub won_all : List (ℕ × Chain) → Known C → Known C
  won_all [] w = w
  won_all (v ∷ vs) w = won_all vs (after_won m v.0 (item.Bucket v.1) w)

  -- a party that held the shard of the turn i, and whose scan won these buckets and made these passes since
  abbrev pub after_scan : Config → (turn length : ℕ) → List (ℕ × Chain) → List Event → Place (Known C) → Place (Known C)
  after_scan g i len vs es p = record {
    table = p.table;
    parties = p.parties;
    number = p.number;
    own = record (won_all vs p.own) { notes = p.own.notes ++ notes_of g i len es };
    joined = p.joined;
    held = added vs p.held;
  }

-- The bucket of the turn j is one of the shard of the turn i. Its headers are those of its own keys, and say what this shard's entries say
pub record IsBucketOf (g : Config) (i : ℕ) (s : PlainShard) (j : ℕ) (b : Chain) : Type 0 where
  pub range : IsBucket g j
  pub shard : (k : Key) → bucket_turn g k ≡ j → i ≡ shard_turn g k
  pub heads : (k : Key) → bucket_turn g k ≡ j → IsHead (entry_of k s) (header_at k b.headers)
  pub own : (k : Key) (h : Header) → header_at k b.headers ≡ Some h → j ≡ bucket_turn g k

-- the entries that are neither marked nor passed
abbrev pub is_open : PlainShard → (marked : List Key) → Entry → Bool
is_open s marked e = not (stands_on e.key marked) && not (is_passed s e.key)

abbrev pub open_entries : PlainShard → (marked : List Key) → ℕ
open_entries s marked = count_by (is_open s marked) s.entries

module _ {C : Type 0} where
  -- a party has a record of the bucket of the turn j, and lists nothing as kept there
  abbrev pub IsKnownBucket : Known C → ℕ → Type 0
  IsKnownBucket w j = IsSome (item_at j w.records) × (list_at j w.listed ≡ [])

  -- The party holds the shard of the turn i as it took it, and of the buckets these alone
  pub record MayScan (g : Config) (i : ℕ) (first : List (ℕ × Chain)) (before : ShardLog) (p : Place (Known C)) : Type 0 where
    pub config : p.own.about.config ≡ g
    pub number : p.number < parties_of g
    pub range : IsShard g i
    pub among : IsAmong i p.held
    pub recorded : item_at i p.own.records ≡ Some (item.Shard before)
    pub listed : list_at i p.own.listed ≡ []
    pub under : under_of p.own.records ≡ Some (i, length before.history)
    pub sound : IsSoundLog g before
    pub entries : (k : Key) (e : Entry) → entry_of k before.now ≡ Some e → i ≡ shard_turn g k
    pub others : (j : ℕ) → IsAmong j p.held → IsBucket g j → IsSome (item_at j first)
    pub held : AllPairs (λ j b. IsAmong j p.held) first
    pub first_known : AllPairs (λ j b. IsKnownBucket p.own j) first
    pub buckets : AllPairs (IsBucketOf g i before.now) first
    pub fresh : (j y : ℕ) (a : Mine) → get_elem? p.own.mine j ≡ some a → a.note ≡ Some y → y < length p.own.notes

module _ {C : Type 0} (m : Meanings C) where
  -- A scan of the party p, which held the shard of the turn i as it was before and these buckets first, has won the buckets vs, marked
  -- these keys and made the passes es: the party is q, and the shard is l
  pub record Scans (g : Config) (i : ℕ) (first : List (ℕ × Chain)) (before : ShardLog) (p q : Place (Known C)) (l : ShardLog) (marked : List Key) (vs : List (ℕ × Chain)) (es : List Event) : Type 0 where
    pub place : q ≡ after_scan m g i (length before.history) vs es p
    pub passes : ArePasses g p.number i es
    pub others : AreOfOthers p es
    pub history : l.history ≡ before.history ++ es
    pub opening : l.opening ≡ before.opening
    pub now : l.now ≡ record before.now { passed = l.now.passed }
    pub replayed : IsReplayed l
    pub buckets : AllPairs (IsBucketOf g i before.now) vs
    pub apart : AreApart (first ++ vs)
    -- each marked key's bucket is in hand
    pub in_hand : (k : Key) → IsTrue (stands_on k marked) → IsSome (item_at (bucket_turn g k) (first ++ vs))

-- ---- buckets given back

module _ {C : Type 0} where
  -- a party that has given these buckets back as they were in hand, one after the other
  abbrev pub gave_all : List (ℕ × Chain) → Place (Known C) → Place (Known C)
  gave_all [] p = p
  gave_all (v ∷ vs) p = gave_all vs (gave_back p v.0 (after_same v.0 p.own))

module _ {C : Type 0} (m : Meanings C) where
  -- the party has this bucket in hand, as its record says
  pub record IsInHand (p : Place (Known C)) (j : ℕ) (b : Chain) : Type 0 where
    pub held : IsAmong j p.held
    pub same : IsAsTaken m j (item.Bucket b) p.own
