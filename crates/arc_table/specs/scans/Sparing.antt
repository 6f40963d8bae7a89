-- What an event makes of the header of a key that it may evict or drop.
use Rattle.std.specs.Prelude.{◌≡◌, ◌⊎◌, IsTrue, map, ℕ, ◌==◌, if◌then◌else◌, List, [], ◌∷◌, Option, Some, None}
use Rattle.std.specs.List.{position_from}
use Rattle.blk_ptr.specs.declared.key.Key.{Key}
use Rattle.blk_ptr.specs.State.{is_cached}
use Rattle.arc_lists.specs.Sequences.{stands_on}
use Rattle.arc_core.specs.declared.config.Config.{Config}
use Rattle.arc_core.specs.declared.shard.EntryView.{EntryView}
use Rattle.arc_core.specs.PlainShard.{PlainShard, entry_of}
use Rattle.arc_core.specs.Sparing.{IsSpared}
use Rattle.hash_chain.specs.Chain.{Chain, header_at}
use Rattle.hash_chain.specs.declared.header.Header.{Header}
use Rattle.arc_table.specs.declared.in_hand.Taken.{Taken}
use Rattle.arc_table.specs.Geometry.{bucket_turn}
use Rattle.arc_table.specs.pact.Headed.{IsHead}

-- The header once its entry is seen so: it goes where the entry has gone, and has no bytes where the entry's are cached no more
abbrev pub spared_header : Option EntryView → Option Header → Option Header
spared_header None h = None
spared_header (Some v) None = None
spared_header (Some v) (Some h) = if is_cached v.state then Some h else Some (record h { state = v.state; block = None })

-- where the bucket of a turn stands in a list
abbrev pub turn_place : ℕ → List Taken → Option ℕ
turn_place j = position_from (λ t. t.turn == j) 0

-- among buckets in hand that of the turn j has become b
abbrev pub with_bucket : ℕ → Chain → List (ℕ × Chain) → List (ℕ × Chain)
with_bucket j b [] = []
with_bucket j b (v ∷ vs) = if j == v.0 then (v.0, b) ∷ vs else (v ∷ with_bucket j b vs)

-- The headers of the turn j are those of its own keys. Each says what its key's entry does after an event, but for those of these keys,
-- which say what it did before, and which the event spares or evicts
pub record AreHeadsBut (g : Config) (before after : PlainShard) (rest : List Key) (j : ℕ) (b : Chain) : Type 0 where
  pub heads : (k : Key) → bucket_turn g k ≡ j
      → (IsTrue (stands_on k rest) × IsHead (entry_of k before) (header_at k b.headers) × IsSpared (entry_of k before) (entry_of k after)) ⊎ IsHead (entry_of k after) (header_at k b.headers)
  pub own : (k : Key) (h : Header) → header_at k b.headers ≡ Some h → j ≡ bucket_turn g k

-- the turns of buckets
abbrev pub turns_in : List (ℕ × Chain) → List ℕ
turns_in = map (λ v. v.0)
