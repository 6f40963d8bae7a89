-- What a pool is once forks of it were taken back, and what it counts then.
use Rattle.std.proofs.Common.{◌≡◌, ℕ, zero, suc, ◌+◌, ◌*◌, ◌<◌, ◌≤◌, List, [], ◌∷◌, ◌++◌, length, get_or, refl, sym, ap, ◌∙◌, subst, arith}
use Rattle.std.specs.Prelude.{sum_by}
use Rattle.std.specs.List.{AllByRecursion}
use Rattle.std.proofs.lemmas.List.Sums.{sum_by-cons}
use Rattle.vdev_io.specs.declared.pool.Pool.{Ghosts}
use Rattle.vdev_io.specs.Faults.{last_count, sum_of_counts}
use Rattle.trace_run.specs.callers.Callers.{Absorbs, AbsorbsAll}
use Rattle.trace_run.specs.callers.Group.{IsFork, LeavesPool}
use Rattle.trace_run.specs.callers.Together.{over_callers}

module _ {P : Type 0} (pools : Ghosts P) where
  -- ---- the pool has its length and its bytes

  pub absorbed-leaves : (forks : List P) (old new : P) → AbsorbsAll pools forks old new → LeavesPool pools old new
  absorbed-leaves [] old new is = record {
    size = ap (λ (p : P). pools.size p) is;
    told = ap (λ (p : P). pools.told p) is;
    faults = let same : pools.faults new ≡ pools.faults old = ap (λ (p : P). pools.faults p) is in omega arith;
  }
  absorbed-leaves (fork ∷ forks) old new did =
      let one = did.1 in
      let rest = absorbed-leaves forks did.0 new did.2 in
      record {
        size = rest.size ∙ one.size;
        told = rest.told ∙ one.told;
        faults = omega (arith, one.faults, rest.faults);
      }

  pub leaves-then : (a b c : P) → LeavesPool pools a b → LeavesPool pools b c → LeavesPool pools a c
  leaves-then a b c first second = record {
    size = second.size ∙ first.size;
    told = second.told ∙ first.told;
    faults = omega (arith, first.faults, second.faults);
  }

  pub leaves-same : (a : P) → LeavesPool pools a a
  leaves-same a = record { size = refl; told = refl; faults = omega arith }

  -- what it counts of other calls is no fork's
  pub absorbed-others : (forks : List P) (old new : P) → AbsorbsAll pools forks old new → pools.other_calls new ≡ pools.other_calls old
  absorbed-others [] old new is = ap pools.other_calls is
  absorbed-others (fork ∷ forks) old new did = absorbed-others forks did.0 new did.2 ∙ did.1.others

  -- forks of a pool are forks of it as it is later
  pub forks-moved : (old new : P) → LeavesPool pools old new → (forks : List P) → AllByRecursion (IsFork pools old) forks → AllByRecursion (IsFork pools new) forks
  forks-moved old new keeps [] all = tt
  forks-moved old new keeps (fork ∷ forks) all =
      let one = all.0 in
      (record { size = one.size ∙ sym keeps.size; told = one.told ∙ sym keeps.told; reads = one.reads; faults = one.faults; others = one.others }, forks-moved old new keeps forks all.1)

  -- one fork more
  pub fresh-then : (old now : P) → LeavesPool pools old now → (forks : List P) (fork : P) (more : List P) → more ≡ forks ++ fork ∷ [] → AllByRecursion (IsFork pools old) forks → IsFork pools now fork → AllByRecursion (IsFork pools old) more
  fresh-then old now keeps forks fork more is all one = subst (AllByRecursion (IsFork pools old)) (sym is) (both forks all)
    where
      both : (fs : List P) → AllByRecursion (IsFork pools old) fs → AllByRecursion (IsFork pools old) (fs ++ fork ∷ [])
      both [] have = (record { size = one.size ∙ keeps.size; told = one.told ∙ keeps.told; reads = one.reads; faults = one.faults; others = one.others }, tt)
      both (f ∷ fs) have = (have.0, both fs have.1)

  -- ---- what it counts

  -- where there is room, a count is the sum of what was counted
  absorbed-count : (count : P → ℕ) → ((fork old new : P) → Absorbs pools fork old new → count new ≡ sum_of_counts (count old) (count fork)) → (forks : List P) (old new : P) → AbsorbsAll pools forks old new
      → count old + sum_by count forks ≤ last_count → count new ≡ count old + sum_by count forks
  absorbed-count count sums [] old new is room = let same : count new ≡ count old = ap count is in omega arith
  absorbed-count count sums (fork ∷ forks) old new did room =
      let sum : sum_by count (fork ∷ forks) ≡ count fork + sum_by count forks = sum_by-cons count fork forks in
      let one : count did.0 ≡ count old + count fork = omega (arith, sums fork old did.0 did.1, sum, room) in
      omega (arith, sum, one, absorbed-count count sums forks did.0 new did.2 (omega (arith, sum, one, room)))

  pub absorbed-reads : (forks : List P) (old new : P) → AbsorbsAll pools forks old new → pools.reads old + sum_by pools.reads forks ≤ last_count → pools.reads new ≡ pools.reads old + sum_by pools.reads forks
  absorbed-reads = absorbed-count pools.reads (λ fork old new one. one.reads)

  pub absorbed-faults : (forks : List P) (old new : P) → AbsorbsAll pools forks old new → pools.faults old + sum_by pools.faults forks ≤ last_count → pools.faults new ≡ pools.faults old + sum_by pools.faults forks
  absorbed-faults = absorbed-count pools.faults (λ fork old new one. one.faults)

  -- where there is a fork, it is that sum as far as a count goes
  absorbed-sum : (count : P → ℕ) → ((fork old new : P) → Absorbs pools fork old new → count new ≡ sum_of_counts (count old) (count fork)) → (forks : List P) (old new : P) → AbsorbsAll pools forks old new → 0 < length forks
      → count new ≡ sum_of_counts (count old) (sum_by count forks)
  absorbed-sum count sums [] old new is some = absurd (omega (arith, some))
  absorbed-sum count sums (fork ∷ []) old new did some =
      let same : count new ≡ count did.0 = ap count did.2 in
      let sum : sum_by count (fork ∷ []) ≡ count fork + sum_by count [] = sum_by-cons count fork [] in
      let none : sum_by count [] ≡ 0 = refl in
      omega (arith, same, sum, none, sums fork old did.0 did.1)
  absorbed-sum count sums (fork ∷ (next ∷ forks)) old new did some =
      let sum : sum_by count (fork ∷ (next ∷ forks)) ≡ count fork + sum_by count (next ∷ forks) = sum_by-cons count fork (next ∷ forks) in
      omega (arith, sum, sums fork old did.0 did.1, absorbed-sum count sums (next ∷ forks) did.0 new did.2 (omega arith))

  pub sum-of-reads : (forks : List P) (old new : P) → AbsorbsAll pools forks old new → 0 < length forks → pools.reads new ≡ sum_of_counts (pools.reads old) (sum_by pools.reads forks)
  sum-of-reads = absorbed-sum pools.reads (λ fork old new one. one.reads)

  pub sum-of-faults : (forks : List P) (old new : P) → AbsorbsAll pools forks old new → 0 < length forks → pools.faults new ≡ sum_of_counts (pools.faults old) (sum_by pools.faults forks)
  sum-of-faults = absorbed-sum pools.faults (λ fork old new one. one.faults)

  -- forks that counted nothing
  pub fresh-reads : (pool : P) (forks : List P) → AllByRecursion (IsFork pools pool) forks → sum_by pools.reads forks ≡ 0
  fresh-reads pool [] all = refl
  fresh-reads pool (fork ∷ forks) all = omega (arith, sum_by-cons pools.reads fork forks, all.0.reads, fresh-reads pool forks all.1)

  pub fresh-faults : (pool : P) (forks : List P) → AllByRecursion (IsFork pools pool) forks → sum_by pools.faults forks ≡ 0
  fresh-faults pool [] all = refl
  fresh-faults pool (fork ∷ forks) all = omega (arith, sum_by-cons pools.faults fork forks, all.0.faults, fresh-faults pool forks all.1)

-- ---- sums over callers

over-shift : (k : ℕ) (f : ℕ → ℕ) → over_callers (suc k) f ≡ f 0 + over_callers k (λ n. f (suc n))
over-shift zero f = omega arith
over-shift (suc k) f = omega (arith, over-shift k f)

pub over-sum : {P : Type 0} (f : P → ℕ) (xs : List P) (d : P) → over_callers (length xs) (λ n. f (get_or xs n d)) ≡ sum_by f xs
over-sum f [] d = refl
over-sum f (x ∷ xs) d = omega (arith, over-shift (length xs) (λ n. f (get_or (x ∷ xs) n d)), sum_by-cons f x xs, over-sum f xs d)

-- where each is at most so much
pub over-few : (k : ℕ) (f : ℕ → ℕ) (most : ℕ) → ((n : ℕ) → n < k → f n ≤ most) → over_callers k f ≤ k * most
over-few zero f most each = omega arith
over-few (suc k) f most each =
    let product : suc k * most ≡ k * most + most = omega arith in
    omega (arith, product, over-few k f most (λ n lt. each n (omega (arith, lt))), each k (omega arith))
