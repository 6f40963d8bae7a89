-- The lines of a report that tell what the shards end with, what their events are counted as, and how often workers read the pool.
use Rattle.std.specs.Prelude.{ℕ, ◌+◌, List, [], ◌∷◌, ◌++◌, Option, Some, None, codes, decimal}
use Rattle.trace_text.specs.declared.counts.Counts.{Counts}
use Rattle.trace_text.specs.EventText.{spaced}
use Rattle.trace_text.specs.SizesText.{sizes_words}
use Rattle.trace_text.specs.declared.ends.ShardEnd.{ShardEnd}
use Rattle.trace_text.specs.declared.totals.Totals.{Totals}

-- what a shard ends with: its size, its target, and the bytes of each state
abbrev pub end_words : ShardEnd → List ℕ
end_words end = spaced (codes "c" ∷ decimal end.c ∷ codes "p" ∷ decimal end.p ∷ sizes_words end.sizes ∷ [])

-- the lines of what the shards end with, the first of which has this number
abbrev pub end_lines : ℕ → List ShardEnd → List ℕ
end_lines shard [] = []
end_lines shard (end ∷ ends) = spaced (codes "shard" ∷ decimal shard ∷ end_words end ∷ []) ++ codes "\n" ++ end_lines (shard + 1) ends

-- what the events of all shards are counted as
abbrev pub count_words : Counts → List ℕ
count_words counts = spaced (
    codes "hit" ∷ decimal counts.hit ∷ codes "miss" ∷ decimal counts.miss ∷ codes "past" ∷ decimal counts.past ∷ codes "pool" ∷ decimal counts.pool
    ∷ codes "l2" ∷ decimal counts.l2 ∷ codes "pass" ∷ decimal counts.pass ∷ codes "set" ∷ decimal counts.set ∷ [])

-- how often the workers that read the pool were asked
abbrev pub io_words : Totals → List ℕ
io_words totals = spaced (codes "asked" ∷ decimal totals.asked ∷ codes "served" ∷ decimal totals.served ∷ codes "failed" ∷ decimal totals.failed ∷ [])

-- the line of it, where there are workers
abbrev pub io_line : Option Totals → List ℕ
io_line None = []
io_line (Some totals) = codes "io " ++ io_words totals ++ codes "\n"
