-- The third part of the pact: the headers of the buckets and the entries of the shards agree.
use Rattle.std.specs.Prelude.{◌≡◌, ℕ, length, true, false, Option, Some, None, MatchOption}
use Rattle.blk_ptr.specs.declared.key.Key.{Key}
use Rattle.blk_ptr.specs.Ptr.{sha256_of}
use Rattle.arc_core.specs.declared.entry.Entry.{Entry}
use Rattle.arc_core.specs.PlainShard.{entry_of, is_resident}
use Rattle.hash_chain.specs.declared.header.Header.{Header}
use Rattle.hash_chain.specs.Chain.{header_at}
use Rattle.arc_table.specs.Geometry.{bucket_turn, shard_turn}
use Rattle.arc_table.specs.Items.{headers_in, shard_in}
use Rattle.arc_table.specs.pact.Scene.{Scene}

-- a header keeps a block just while its entry's bytes are cached and aren't being read, and the block has the entry's digest and the key's size
abbrev pub HasBlock : Entry → Header → Type 0
HasBlock e h = MatchOption h.block
    (is_resident e ≡ false)
    (λ kept. (is_resident e ≡ true) × (e.digest ≡ Some (sha256_of kept.block.value)) × (length kept.block.value ≡ e.key.size))

-- a header says what its entry does
pub record Says (e : Entry) (h : Header) : Type 0 where
  pub state : h.state ≡ e.state
  pub reading : h.reading ≡ e.reading
  pub place : h.place ≡ e.place
  pub digest : h.digest ≡ e.digest
  pub block : HasBlock e h

-- there is a header exactly where there is an entry, and it says what the entry does
abbrev pub IsHead : Option Entry → Option Header → Type 0
IsHead None None = Unit {0}
IsHead None (Some h) = ⊥
IsHead (Some e) None = ⊥
IsHead (Some e) (Some h) = Says e h

module _ {C : Type 0} where
  pub record Headed (s : Scene C) : Type 0 where
    pub heads : (k : Key) → IsHead (entry_of k (shard_in s.about.config (s.now (shard_turn s.about.config k)))) (header_at k (headers_in (s.now (bucket_turn s.about.config k))))
    -- a bucket and a shard have the headers and the entries of their own keys alone
    pub own_headers : (i : ℕ) (k : Key) (h : Header) → header_at k (headers_in (s.now i)) ≡ Some h → i ≡ bucket_turn s.about.config k
    pub own_entries : (i : ℕ) (k : Key) (e : Entry) → entry_of k (shard_in s.about.config (s.now i)) ≡ Some e → i ≡ shard_turn s.about.config k
