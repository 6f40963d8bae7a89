-- Where a key stands in a cache of several shards: its hash, its shard and its bucket there (buf_hash and BUF_HASH_INDEX of
-- arc.c; the hash itself is this project's own).
use Rattle.std.specs.Prelude.{ℕ, ◌+◌, ◌*◌, ◌/◌, ◌%◌, ◌^◌, bit_xor}
use Rattle.blk_ptr.specs.Size.{sector}
use Rattle.blk_ptr.specs.declared.key.Key.{Key}

-- the sectors of a key's place, spread by the golden ratio of 2^64, with its size and its birth added, modulo 2^64
abbrev pub spread_of : Key → ℕ
spread_of key = (key.offset / sector * 0x9e3779b97f4a7c15 + key.size / sector * 31 + key.birth) % 2 ^ 64

-- the hash of a key: its spread, with the upper half laid over the lower one
abbrev pub hash_of_key : Key → ℕ
hash_of_key key = bit_xor (spread_of key) (spread_of key / 2 ^ 32)

-- the shard of a key, of so many
abbrev pub shard_of : ℕ → Key → ℕ
shard_of shards key = hash_of_key key % shards

-- the bucket of a key in its shard, of so many shards with so many buckets each
abbrev pub bucket_of : (shards buckets : ℕ) → Key → ℕ
bucket_of shards buckets key = hash_of_key key / shards % buckets
