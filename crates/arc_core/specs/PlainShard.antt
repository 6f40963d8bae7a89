-- A shard of the cache as plain data, and what is read off it.
use Rattle.std.specs.Prelude.{ℕ, ◌/◌, Bool, false, not, ◌&&◌, ◌==◌, if◌then◌else◌, nat_lt, nat_le, List, [], map, sum, replicate, slice_index, slice_set, Option, None, is_some, option_and_then}
use Rattle.std.specs.List.{list_all}
use Rattle.std.specs.Option.{option_map_or}
use Rattle.blk_ptr.specs.declared.key.Key.{Key}
use Rattle.blk_ptr.specs.declared.digest.Digest.{Digest}
use Rattle.blk_ptr.specs.declared.state.State.{State}
use Rattle.blk_ptr.specs.Order.{digest_eq}
use Rattle.blk_ptr.specs.State.{is_cached}
use Rattle.arc_lists.specs.declared.member.Member.{Member}
use Rattle.arc_lists.specs.ByKey.{item_at}
use Rattle.arc_lists.specs.Sequences.{Sequences, no_keys, stands_on}
use Rattle.arc_lists.specs.Members.{member, size_of}
use Rattle.arc_core.specs.declared.entry.Entry.{Entry}
use Rattle.arc_core.specs.declared.entry.Picked.{Picked}
use Rattle.arc_core.specs.declared.entry.Phase.{Phase}
use Rattle.arc_core.specs.declared.entry.Phase.TheVariants.{Idle}
use Rattle.arc_core.specs.declared.config.Bounds.{Bounds}

pub record PlainShard : Type 0 where
  -- what is known of each key, in rising order of keys (arc_buf_hdr_t)
  pub entries : List Entry
  -- MRU, MFU and their ghosts, each with the newest key first; a held entry stands on none
  pub sequences : Sequences
  -- the target of anonymous and MRU bytes, and the capacity in bytes (arc_p, arc_c)
  pub p : ℕ
  pub c : ℕ
  -- an MRU entry is asked for again, and becomes MFU, only after more than so many ticks (ARC_MINTIME)
  pub mintime : ℕ
  -- how much a feed of the cache device may take
  pub bounds : Bounds
  -- the keys that the scan in hand has passed, since another party held their buckets, in rising order
  pub passed : List Key
  -- how far a feed of the cache device has come, and what it has picked, in the order of its picks
  pub phase : Phase
  pub picked : List Picked

-- the shard at the start: nothing is there, and half of the capacity is for MRU
abbrev pub opening_shard : (c mintime : ℕ) → Bounds → PlainShard
opening_shard c mintime bounds = record {
  entries = [];
  sequences = no_keys;
  p = c / 2;
  c = c;
  mintime = mintime;
  bounds = bounds;
  passed = [];
  phase = Idle;
  picked = [];
}

-- ---- numbers: callers and the feeder are parties, and cells of dbufs hold blocks too. A shard doesn't know how many callers there
-- are, so it takes for a party or a cell each number that may be one in some configuration

abbrev pub numbers : ℕ
numbers = 33

abbrev pub is_number : ℕ → Bool
is_number n = nat_lt n numbers

abbrev pub is_party : ℕ → Bool
is_party n = nat_le n 16

abbrev pub is_cell : ℕ → Bool
is_cell n = nat_le 2 n && nat_lt n numbers

-- ---- an entry

abbrev pub entry_key : Entry → Key
entry_key e = e.key

-- how many holds a number has on it
abbrev pub held_by : ℕ → Entry → ℕ
held_by n e = slice_index e.holds n

-- how many holds there are on it
abbrev pub holds_of : Entry → ℕ
holds_of e = sum e.holds

-- nobody holds it
abbrev pub is_unheld : Entry → Bool
is_unheld e = list_all (λ count. count == 0) e.holds

-- nobody reads its bytes just now
abbrev pub is_at_rest : Entry → Bool
is_at_rest e = not e.reading

-- nothing is held or reading
abbrev pub is_free : Entry → Bool
is_free e = is_unheld e && is_at_rest e

-- its bytes are cached and nobody reads them just now
abbrev pub is_resident : Entry → Bool
is_resident e = is_cached e.state && is_at_rest e

-- it keeps this digest
abbrev pub keeps_digest : Digest → Entry → Bool
keeps_digest d e = option_map_or (λ kept. digest_eq kept d) e.digest false

-- no holds, and one hold of n
abbrev pub no_holds : List ℕ
no_holds = replicate numbers 0

abbrev pub one_hold : ℕ → List ℕ
one_hold n = slice_set no_holds n 1

-- ---- what a shard has of a key

-- the entry of the key
abbrev pub entry_of : Key → PlainShard → Option Entry
entry_of k s = item_at entry_key k s.entries

-- there is an entry of the key, and it passes this test
abbrev pub entry_is : (Entry → Bool) → Key → PlainShard → Bool
entry_is test k s = option_map_or test (entry_of k s) false

-- the shard has no entry of the key
abbrev pub is_absent : Key → PlainShard → Bool
is_absent k s = not (is_some (entry_of k s))

-- the key's place on the cache device
abbrev pub place_of : Key → PlainShard → Option ℕ
place_of k s = option_and_then (λ e. e.place) (entry_of k s)

-- the digest of the key's bytes, where they are cached and nobody reads them just now
abbrev pub resident_digest : Key → PlainShard → Option Digest
resident_digest k s = option_and_then (λ e. if is_resident e then e.digest else None) (entry_of k s)

-- the scan in hand has passed the key
abbrev pub is_passed : PlainShard → Key → Bool
is_passed s k = stands_on k s.passed

-- how many holds a number has on a key
abbrev pub count_of : (n : ℕ) → Key → PlainShard → ℕ
count_of n k s = option_map_or (held_by n) (entry_of k s) 0

-- ---- sizes: sums over all entries, those that are held included

abbrev pub member_of : Entry → Member
member_of e = member e.key e.state

abbrev pub members : PlainShard → List Member
members s = map member_of s.entries

abbrev pub size_in : State → PlainShard → ℕ
size_in state s = size_of state (members s)
