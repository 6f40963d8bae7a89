-- A bucket's turn tells its shard; and what is so of each of several turns.
use Rattle.std.proofs.Common.{◌≡◌, ◌⊎◌, ℕ, zero, suc, ◌+◌, ◌*◌, ◌/◌, ◌<◌, ◌≤◌, List, ◌∷◌, refl, ap, subst, inl, inr, ⊎_elim, arith, mul-le-mul_right, suc-mul}
use Rattle.std.proofs.lemmas.Nat.{mod_below}
use mathlib.Core.Logic.{dite}
use native.Mathlib.Decide.{ℕ_discrete}
use Rattle.blk_ptr.specs.declared.key.Key.{Key}
use Rattle.blk_ptr.specs.Hash.{hash_of_key, shard_of, bucket_of}
use Rattle.arc_core.specs.declared.config.Config.{Config}
use Rattle.arc_core.specs.Config.{IsConfig}
use Rattle.turn_table.specs.Board.{IsAmong}
use Rattle.arc_table.specs.Geometry.{bucket_turn, shard_turn}

-- an earlier row ends before a later one begins
row_before : (s t b d k : ℕ) → s < t → b < k → s * k + b < t * k + d
row_before s t b d k less below = let a : suc s * k ≤ t * k = mul-le-mul_right k less in omega (arith, suc-mul s k)

order : (s t : ℕ) → ¬ (s ≡ t) → (s < t) ⊎ (t < s)
order zero zero ne = absurd (ne refl)
order zero (suc t) ne = inl (omega arith)
order (suc s) zero ne = inr (omega arith)
order (suc s) (suc t) ne = ⊎_elim (λ h. inl (omega arith)) (λ h. inr (omega arith)) (order s t (λ e. ne (ap suc e)))

same_row : (s t b d k : ℕ) → b < k → d < k → s * k + b ≡ t * k + d → s ≡ t
same_row s t b d k below below' e = dite (ℕ_discrete s t) (λ q. q) (λ ne. ⊎_elim
    (λ (less : s < t). let a = row_before s t b d k less below in absurd (omega arith))
    (λ (less : t < s). let a = row_before t s d b k less below' in absurd (omega arith))
    (order s t ne))

pub same_shard : (g : Config) (k j : Key) → IsConfig g → bucket_turn g k ≡ bucket_turn g j → shard_turn g k ≡ shard_turn g j
same_shard g k j h e =
    let some : 0 < g.buckets = let a = h.counts.buckets.0 in omega arith in
    let b : bucket_of g.shards g.buckets k < g.buckets = mod_below (hash_of_key k / g.shards) g.buckets some in
    let d : bucket_of g.shards g.buckets j < g.buckets = mod_below (hash_of_key j / g.shards) g.buckets some in
    ap (λ (s : ℕ). g.cells + (g.shards * g.buckets + s)) (same_row (shard_of g.shards k) (shard_of g.shards j) (bucket_of g.shards g.buckets k) (bucket_of g.shards g.buckets j) g.buckets b d (omega arith))

-- what is so of the first turn and of each of the others is so of each
pub first_or_rest : (P : ℕ → Type 0) (i : ℕ) (held : List ℕ) → P i → ((j : ℕ) → IsAmong j held → P j) → (j : ℕ) → IsAmong j (i ∷ held) → P j
first_or_rest P i held first rest j (inl is) = subst P is first
first_or_rest P i held first rest j (inr among) = rest j among
