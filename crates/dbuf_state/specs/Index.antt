-- What the index of a cell's dbufs means, and what it keeps.
use Rattle.std.specs.Prelude.{◌≡◌, ℕ, ◌+◌, ◌^◌, ◌<◌, ◌≤◌, if◌then◌else◌, length, map, Option, Some, None, vec_len, vec_capacity}
use Rattle.std.specs.List.{AllByRecursion}
use Rattle.dbuf_state.specs.declared.index.Index.TheInside.{Inside}
use Rattle.dbuf_state.specs.declared.rank.Rank.{Rank}
use Rattle.dbuf_state.specs.declared.standing.Standing.{Standing}
use Rattle.dbuf_state.specs.Ranks.{rank_at}
use Rattle.dbuf_state.specs.IndexRow.{IndexRow}
use Rattle.dbuf_state.specs.Standings.{candidate_bytes, candidate_size, is_candidate}

-- candidates go by their last uses, and kept blocks by their Oids
abbrev pub use_rank : Standing → Option Rank
use_rank s = if is_candidate s then Some (record { order = s.used; at = s.at }) else None

abbrev pub kept_rank : Standing → Option Rank
kept_rank s = if s.kept then Some (record { order = 0; at = s.at }) else None

abbrev pub row_in : Inside → IndexRow
row_in i = record { standings = i.standings.items; spare = i.spare }

pub record IndexKeeps (i : Inside) : Type 0 where
  -- each tournament has the dbufs' ranks at its first places, and none at the others
  pub oldest : (k : ℕ) → rank_at i.oldest k ≡ rank_at (map use_rank i.standings.items) k
  pub first : (k : ℕ) → rank_at i.first k ≡ rank_at (map kept_rank i.standings.items) k
  pub bytes : i.bytes ≡ candidate_bytes i.standings.items
  pub sized : AllByRecursion (λ s. candidate_size s < 2 ^ 64) i.standings.items
  pub room : vec_len i.standings + i.spare ≤ vec_capacity i.standings
  pub places : vec_len i.standings + i.spare ≤ i.places
  pub oldest_places : i.places ≤ length i.oldest
  pub first_places : i.places ≤ length i.first
