-- Which dbuf is to be evicted, and which kept block comes first (dbuf_evict_one of dbuf.c, which takes the dbuf that has not been
-- used for the longest time, while the dbuf cache is over its size).
use Rattle.std.specs.Prelude.{ℕ, Bool, not, ◌&&◌, if◌then◌else◌, nat_lt, List, [], ◌∷◌, ◌+◌}
use Rattle.std.specs.List.{list_all, list_any}
use Rattle.dbuf_state.specs.declared.oid.Oid.{Oid}
use Rattle.dbuf_state.specs.declared.standing.Standing.{Standing}
use Rattle.dbuf_state.specs.Oids.{oid_eq, oid_lt}

-- it may be evicted: it keeps a clean block, and nobody pins it
abbrev pub is_candidate : Standing → Bool
is_candidate s = s.kept && not s.pinned

-- its bytes count to the limit where it may be evicted
abbrev pub candidate_size : Standing → ℕ
candidate_size s = if is_candidate s then s.size else 0

abbrev pub candidate_bytes : List Standing → ℕ
candidate_bytes [] = 0
candidate_bytes (s ∷ ss) = candidate_size s + candidate_bytes ss

-- no candidate was used longer ago than this tick
abbrev pub is_oldest_use : ℕ → List Standing → Bool
is_oldest_use used = list_all (λ s. not (is_candidate s && nat_lt s.used used))

-- the dbuf of this Oid is the candidate that was used longest ago
abbrev pub is_oldest : Oid → List Standing → Bool
is_oldest at ss = list_any (λ s. oid_eq at s.at && (is_candidate s && is_oldest_use s.used ss)) ss

-- the candidates have more bytes than the limit
abbrev pub is_over : ℕ → List Standing → Bool
is_over limit ss = nat_lt limit (candidate_bytes ss)

-- the dbuf of this Oid is the one to evict
abbrev pub is_evictable : ℕ → Oid → List Standing → Bool
is_evictable limit at ss = is_over limit ss && is_oldest at ss

-- this is the least Oid that keeps a block
abbrev pub is_first_kept : Oid → List Standing → Bool
is_first_kept at ss = list_any (λ s. oid_eq at s.at && s.kept) ss && list_all (λ s. not (s.kept && oid_lt s.at at)) ss

-- no block is kept
abbrev pub none_kept : List Standing → Bool
none_kept = list_all (λ s. not s.kept)
