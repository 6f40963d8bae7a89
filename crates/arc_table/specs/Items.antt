-- What a turn's value means: the history of a shard or a cell, the headers of a bucket, the holds that a cell keeps.
use Rattle.std.specs.Prelude.{ℕ, List, [], ◌∷◌, map}
use Rattle.blk_ptr.specs.declared.ptr.Ptr.{Ptr}
use Rattle.arc_core.specs.declared.config.Config.{Config}
-- what a cell means to the cache: its holds, its entries, its opening, its claims, and what is so of it whenever its turn is free
pub use Rattle.arc_core.specs.declared.keeps.Keeps.{Ghosts as Meanings}
use Rattle.arc_core.specs.Operations.{number_of}
use Rattle.arc_core.specs.PlainShard.{PlainShard}
use Rattle.arc_core.specs.ShardLog.{ShardLog, opening_log}
use Rattle.hash_chain.specs.declared.header.Header.{Header}
use Rattle.hash_chain.specs.Chain.{Chain}
use Rattle.arc_table.specs.declared.item.Item.{Item}
use Rattle.arc_table.specs.declared.item.Item.TheVariants as item
use Rattle.arc_table.specs.declared.view.Line.{Line}
use Rattle.arc_table.specs.declared.view.Line.TheVariants as line

-- the number of who made a line: an entry of a cell begins with it
abbrev pub maker_of : Line → ℕ
maker_of (line.Event e) = number_of e
maker_of (line.Entry []) = 0
maker_of (line.Entry (n ∷ ns)) = n

-- a bucket without headers and without room
abbrev pub no_chain : Chain
no_chain = record { headers = []; spare = 0 }

module _ {C : Type 0} (g : Config) where
  -- a turn's shard; what is no shard counts as one at its opening
  abbrev pub log_in : Item C → ShardLog
  log_in (item.Shard l) = l
  log_in (item.Cell c) = opening_log g.c g.mintime g.bounds
  log_in (item.Bucket b) = opening_log g.c g.mintime g.bounds

  abbrev pub shard_in : Item C → PlainShard
  shard_in v = (log_in v).now

module _ {C : Type 0} where
  -- the headers of a turn's bucket; what is no bucket has none
  abbrev pub headers_in : Item C → List Header
  headers_in (item.Bucket b) = b.headers
  headers_in (item.Cell c) = []
  headers_in (item.Shard l) = []

module _ {C : Type 0} (m : Meanings C) where
  -- the holds that a turn's value keeps
  abbrev pub holds_in : Item C → List Ptr
  holds_in (item.Cell c) = m.holds c
  holds_in (item.Bucket b) = []
  holds_in (item.Shard l) = []

  -- what a number claims of a turn's value
  abbrev pub claims_in : Item C → ℕ → List ℕ
  claims_in (item.Cell c) = m.claims c
  claims_in (item.Bucket b) = λ n. []
  claims_in (item.Shard l) = λ n. []

  -- the history of a turn's value
  abbrev pub lines_in : Item C → List Line
  lines_in (item.Cell c) = map line.Entry (m.entries c)
  lines_in (item.Bucket b) = []
  lines_in (item.Shard l) = map line.Event l.history
