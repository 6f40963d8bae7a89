-- What a shard says of a pointer, and what a bucket has of a key.
use Rattle.std.specs.Prelude.{◌≡◌, ◌≢◌, ℕ, IsTrue, ◌&&◌, List, Option, Some}
use Rattle.std.specs.Option.{option_and_then, option_map}
use Rattle.blk_ptr.specs.declared.key.Key.{Key}
use Rattle.blk_ptr.specs.declared.ptr.Ptr.{Ptr}
use Rattle.arc_core.specs.declared.entry.Entry.{Entry}
use Rattle.arc_core.specs.PlainShard.{PlainShard, entry_is, entry_of, is_resident, keeps_digest}
use Rattle.arc_core.specs.Step.{is_missing, reads}
use Rattle.hash_chain.specs.Chain.{IsWith, header_at}
use Rattle.hash_chain.specs.declared.header.Header.{Header}
use Rattle.arc_table.specs.declared.hits.Standing.{Standing}
use Rattle.arc_table.specs.declared.hits.Standing.TheVariants as standing

-- its bytes are cached at rest with this digest
abbrev pub IsCachedWith : Ptr → PlainShard → Type 0
IsCachedWith ptr s = IsTrue (entry_is (λ e. is_resident e && keeps_digest ptr.digest e) ptr.key s)

-- the shard says this of the pointer
abbrev pub StandsSo : Ptr → PlainShard → Standing → Type 0
StandsSo ptr s (standing.Missing) = IsTrue (is_missing ptr.key s)
StandsSo ptr s (standing.Reading owner) = IsTrue (entry_is (reads owner) ptr.key s)
StandsSo ptr s (standing.Other kept) = (kept ≢ ptr.digest) × IsTrue (entry_is (λ e. is_resident e && keeps_digest kept e) ptr.key s)
StandsSo ptr s (standing.Here) = IsCachedWith ptr s

-- the bytes that a header has, if there is one
abbrev pub bytes_of : Option Header → Option (List ℕ)
bytes_of o = option_map (λ kept. kept.block.value) (option_and_then (λ h. h.block) o)

-- the bytes that the key's header has
abbrev pub bytes_at : Key → List Header → Option (List ℕ)
bytes_at k hs = option_map (λ kept. kept.block.value) (option_and_then (λ h. h.block) (header_at k hs))

-- the header brought up to its entry: it says the entry's state and place, and goes where the entry is gone
abbrev pub followed : Header → Option Entry → Option Header
followed h o = option_map (λ e. record h { state = e.state; place = e.place }) o

-- the header of the key is brought up to its entry, and all else of the headers stays
pub record Follows (k : Key) (s : PlainShard) (hs gs : List Header) : Type 0 where
  pub header : Header
  pub had : header_at k hs ≡ Some header
  pub with : IsWith k (followed header (entry_of k s)) hs gs
