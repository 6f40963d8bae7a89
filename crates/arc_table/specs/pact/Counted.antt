-- The fourth part of the pact: the counts of the entries agree with what the parties and the cells hold, read, have picked and claim.
use Rattle.std.specs.Prelude.{◌≡◌, ℕ, ◌+◌, ◌<◌, ◌≤◌, true, false, List, [], count_by, Some}
use mathlib.Core.Option.{some}
use lib.ListN.{get_elem?}
use Rattle.blk_ptr.specs.declared.key.Key.{Key}
use Rattle.blk_ptr.specs.declared.ptr.Ptr.{Ptr}
use Rattle.blk_ptr.specs.Order.{key_eq}
use Rattle.arc_core.specs.declared.entry.Entry.{Entry}
use Rattle.arc_core.specs.Keeps.{holds_on}
use Rattle.arc_core.specs.PlainShard.{PlainShard, count_of, entry_of}
use Rattle.arc_table.specs.declared.view.Ledger.{Ledger}
use Rattle.arc_table.specs.Fronts.{list_at}
use Rattle.arc_table.specs.Geometry.{IsCell, IsShard, cell_number, numbers_of, parties_of, shard_turn}
use Rattle.arc_table.specs.Items.{Meanings, claims_in, shard_in}
use Rattle.arc_table.specs.pact.Scene.{Scene}

-- how many of these readings are of the key
abbrev pub readings_of : Key → List Key → ℕ
readings_of k keys = count_by (key_eq k) keys

-- what a party holds and reads of a key
abbrev pub begun : Key → Ledger → ℕ
begun k l = holds_on k l.holds + readings_of k l.readings

-- the entry of a hold is at rest with the digest of the hold; the entry of a reading is reading
pub record Rests (s : PlainShard) (h : Ptr) : Type 0 where
  pub entry : Entry
  pub there : entry_of h.key s ≡ Some entry
  pub rest : entry.reading ≡ false
  pub digest : entry.digest ≡ Some h.digest

pub record IsRead (s : PlainShard) (k : Key) : Type 0 where
  pub entry : Entry
  pub there : entry_of k s ≡ Some entry
  pub reading : entry.reading ≡ true

module _ {C : Type 0} (s : Scene C) where
  -- the shard of a key now
  abbrev pub shard_at : Key → PlainShard
  shard_at k = shard_in s.about.config (s.now (shard_turn s.about.config k))

module _ {C : Type 0} (m : Meanings C) where
  pub record Counted (s : Scene C) : Type 0 where
    pub parties : (n : ℕ) (k : Key) → n < parties_of s.about.config → count_of n k (shard_at s k) ≡ begun k (s.ledger n)
    pub cells : (i : ℕ) (k : Key) → IsCell s.about.config i → count_of (cell_number s.about.config i) k (shard_at s k) ≡ holds_on k (s.kept i)
    pub others : (n : ℕ) (k : Key) → numbers_of s.about.config ≤ n → count_of n k (shard_at s k) ≡ 0
    pub holds : (n j : ℕ) (h : Ptr) → n < parties_of s.about.config → get_elem? (s.ledger n).holds j ≡ some h → Rests (shard_at s h.key) h
    pub kept : (i j : ℕ) (h : Ptr) → IsCell s.about.config i → get_elem? (s.kept i) j ≡ some h → Rests (shard_at s h.key) h
    pub readings : (n j : ℕ) (k : Key) → n < parties_of s.about.config → get_elem? (s.ledger n).readings j ≡ some k → IsRead (shard_at s k) k
    pub picked : (i : ℕ) → IsShard s.about.config i → (shard_in s.about.config (s.now i)).picked ≡ list_at i (s.ledger s.about.config.callers).picked
    pub claims : (i n : ℕ) → IsCell s.about.config i → n < parties_of s.about.config → claims_in m (s.now i) n ≡ list_at i (s.ledger n).claims
    pub no_claims : (i n : ℕ) → IsCell s.about.config i → parties_of s.about.config ≤ n → claims_in m (s.now i) n ≡ []
