-- What the report of a feed counts.
use Rattle.std.specs.Prelude.{◌≡◌, ℕ, ◌+◌, ◌*◌, ◌^◌, ◌≤◌, Bool, true, false, List, [], ◌∷◌, ◌++◌, length, count_by, sum_by}
use Rattle.blk_ptr.specs.declared.key.Key.{Key}
use Rattle.l2_dev.specs.declared.report.FeedReport.{FeedReport}
use Rattle.l2_feed.specs.Acts.{Act, Cleared, Picked, Placed, keys_of}

-- the keys that were picked, in the order of their picks
abbrev pub picked_in : List Act → List Key
picked_in [] = []
picked_in (Picked shard blocks ∷ acts) = keys_of blocks ++ picked_in acts
picked_in (_ ∷ acts) = picked_in acts

abbrev pub is_placed : Act → Bool
is_placed (Placed k place) = true
is_placed _ = false

abbrev pub is_cleared : Act → Bool
is_cleared (Cleared k place) = true
is_cleared _ = false

-- one report counts these acts more than another
pub record CountsMore (acts : List Act) (old new : FeedReport) : Type 0 where
  pub picked : new.picked ≡ old.picked + length (picked_in acts)
  pub bytes : new.bytes ≡ old.bytes + sum_by (λ k. k.size) (picked_in acts)
  pub written : new.written ≡ old.written + count_by is_placed acts
  pub cleared : new.cleared ≡ old.cleared + count_by is_cleared acts

-- The counts of so many shards' feeds are in their ranges.
pub record HasRoom (shards dropped : ℕ) (report : FeedReport) : Type 0 where
  pub picked : report.picked ≤ shards * 2 ^ 23
  pub bytes : report.bytes ≤ shards * 2 ^ 32
  pub written : report.written ≤ report.picked
  pub cleared : report.cleared ≤ dropped

-- The report is that of these acts: how many keys were picked and the sum of their sizes, how many were given a place, and how many places were
-- taken.
pub record IsSummary (acts : List Act) (report : FeedReport) : Type 0 where
  pub picked : report.picked ≡ length (picked_in acts)
  pub bytes : report.bytes ≡ sum_by (λ k. k.size) (picked_in acts)
  pub written : report.written ≡ count_by is_placed acts
  pub cleared : report.cleared ≡ count_by is_cleared acts
