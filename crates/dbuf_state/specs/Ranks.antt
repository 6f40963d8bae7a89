-- The least of a row of ranks.
use Rattle.std.specs.Prelude.{◌≡◌, ℕ, ◌<◌, ◌*◌, ◌+◌, Bool, true, false, not, ◌&&◌, ◌||◌, ◌==◌, IsTrue, if◌then◌else◌, nat_lt, List, ◌++◌, ◌-◌, replicate, length, Option, Some, None, get_or}
use Rattle.dbuf_state.specs.declared.rank.Rank.{Rank}
use Rattle.dbuf_state.specs.Oids.{oid_lt}

-- ranks go by their number, and then by the Oid
abbrev pub rank_lt : Rank → Rank → Bool
rank_lt a b = nat_lt a.order b.order || (a.order == b.order && oid_lt a.at b.at)

-- the lesser one; none is greater than every rank
abbrev pub least : Option Rank → Option Rank → Option Rank
least None b = b
least (Some a) None = Some a
least (Some a) (Some b) = if rank_lt b a then Some b else Some a

-- no rank of the second goes before the first
abbrev pub is_no_later : Option Rank → Option Rank → Bool
is_no_later a None = true
is_no_later None (Some b) = false
is_no_later (Some a) (Some b) = not (rank_lt b a)

-- the k-th rank of a row
abbrev pub rank_at : List (Option Rank) → ℕ → Option Rank
rank_at ranks k = get_or ranks k None

-- the row with places without a rank behind it, up to n places
abbrev pub padded : ℕ → List (Option Rank) → List (Option Rank)
padded n ranks = ranks ++ replicate (n - length ranks) None

-- this is the least rank of the row, or none where the row has none
pub record IsLeast (rank : Option Rank) (ranks : List (Option Rank)) : Type 0 where
  pub below : (k : ℕ) → k < length ranks → IsTrue (is_no_later rank (rank_at ranks k))
  pub among : 0 < length ranks → (k : ℕ) × (k < length ranks) × (rank_at ranks k ≡ rank)
  pub none : length ranks ≡ 0 → rank ≡ None

-- the nodes of a tournament: the leaves are the second half, and each other node but the first has the lesser of its two children
abbrev pub IsWon : List (Option Rank) → ℕ → Type 0
IsWon nodes j = rank_at nodes j ≡ least (rank_at nodes (2 * j)) (rank_at nodes (2 * j + 1))

pub record IsTournament (half : ℕ) (nodes : List (Option Rank)) : Type 0 where
  pub leaves : length nodes ≡ 2 * half
  pub won : (j : ℕ) → 0 < j → j < half → IsWon nodes j
