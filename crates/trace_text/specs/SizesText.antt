-- The bytes of the entries of a shard, by their states.
use Rattle.std.specs.Prelude.{ℕ, List, [], ◌∷◌, codes, decimal, slice_index}
use Rattle.trace_text.specs.EventText.{spaced}

-- anonymous, recently used, their ghosts, frequently used, their ghosts, on the cache device alone
abbrev pub sizes_words : List ℕ → List ℕ
sizes_words sizes = spaced (
    codes "anon" ∷ decimal (slice_index sizes 0) ∷ codes "mru" ∷ decimal (slice_index sizes 1) ∷ codes "mrug" ∷ decimal (slice_index sizes 2)
    ∷ codes "mfu" ∷ decimal (slice_index sizes 3) ∷ codes "mfug" ∷ decimal (slice_index sizes 4) ∷ codes "l2" ∷ decimal (slice_index sizes 5) ∷ [])
