use Rattle.std.proofs.Common.{◌≡◌, ℕ, suc, ◌+◌, ◌≤◌, [], ◌∷◌, List, length, length-append, refl, sym, ap, ◌∙◌, subst, arith, inl, inr, min}
use Rattle.std.proofs.lemmas.Bool.{cases_lt}
use Rattle.std.specs.Prelude.{Err, IsErrOf, sum_by}
use Rattle.std.specs.List.{AllByRecursion}
use Rattle.vdev_io.specs.Faults.{CountsIoFault, CountsOne, Rose, counted_more, last_count, sum_of_counts}
use Rattle.vdev_io.specs.declared.fault.IoFault.{IoFault}
use Rattle.vdev_io.specs.declared.fault.IoFault.TheVariants.{Failed}
use Rattle.trace_run.specs.callers.Group.{IsFork}
use Rattle.trace_run.proofs.callers.AbsorbLemmas.{absorbed-faults, absorbed-leaves, absorbed-others, absorbed-reads, forks-moved, fresh-faults, fresh-reads, fresh-then, leaves-then}
use Rattle.trace_run.proofs.group.forks.Goals as goal

-- a fork that failed was counted once
failed-one : {T : Type 0} (before now : ℕ) (fault : IoFault) → IsErrOf {T = T} {E = IoFault} (Err fault) Failed → CountsIoFault {T = Unit {0}} before now (Err fault) → CountsOne before now
failed-one before now fault is counts = let same : fault ≡ Failed = cc in subst (λ (e : IoFault). CountsIoFault {T = Unit {0}} before now (Err e)) same counts

-- a count that rose by one has risen, also where forks were taken back since
rose-once : (start before failed later : ℕ) → before ≡ start → CountsOne before failed → min failed last_count ≤ later → Rose start later
rose-once start before failed later same one least = elim (cases_lt before last_count) [
  | inl low ↦ omega (arith, same, one.more low, least)
  | inr high ↦ omega (arith, same, one.full high, high, least)
]

-- one count more
one-more : (before now k : ℕ) → now ≡ counted_more k before → sum_of_counts now 1 ≡ counted_more (k + 1) before
one-more before now k is = ap (λ (n : ℕ). sum_of_counts n 1) is ∙ ap (λ (n : ℕ). counted_more n before) (let e : suc k ≡ k + 1 = omega arith in e)

pub loop-preserved : goal.loop-preserved
loop-preserved g c =
    let pools = g.P.Pool in
    let before = c.loop.invariant in
    let made = c.in_default.ensures.made in
    record {
      keeps = leaves-then pools c.args.pool.now c.loop.pool c.one_fork.new.pool before.keeps c.one_fork.ensures.pool;
      reads = c.one_fork.ensures.reads ∙ before.reads;
      unfailed = c.in_default.ensures.faults ∙ before.unfailed;
      others = c.one_fork.ensures.others ∙ one-more (pools.other_calls c.args.pool.now) (pools.other_calls c.loop.pool) c.loop.counter before.others;
      fresh = fresh-then pools c.args.pool.now c.loop.pool before.keeps c.loop.forks.items made.0 c.one_fork.new.forks.items made.1 before.fresh made.2;
      count = ap length made.1 ∙ (length-append c.loop.forks.items (made.0 ∷ []) ∙ ap (λ (n : ℕ). n + 1) before.count);
    }

pub returns-in-Err-clause-pool : goal.returns-in-Err-clause-pool
returns-in-Err-clause-pool g c =
    leaves-then g.P.Pool c.args.pool.now c.one_fork.new.pool c.absorb_all.new.pool (leaves-then g.P.Pool c.args.pool.now c.loop.pool c.one_fork.new.pool c.loop.invariant.keeps c.one_fork.ensures.pool)
    (absorbed-leaves g.P.Pool c.one_fork.new.forks.items c.one_fork.new.pool c.absorb_all.new.pool c.absorb_all.ensures)

pub returns-in-Err-clause-reads : goal.returns-in-Err-clause-reads
returns-in-Err-clause-reads g c = λ room.
    let pools = g.P.Pool in
    let forks : List g.row.P.Denot = c.one_fork.new.forks.items in
    let none : sum_by pools.reads forks ≡ 0 = fresh-reads pools c.args.pool.now forks (subst (AllByRecursion (IsFork pools c.args.pool.now)) (sym c.in-Err.ensures.none) c.loop.invariant.fresh) in
    let same : pools.reads c.one_fork.new.pool ≡ pools.reads c.args.pool.now = c.one_fork.ensures.reads ∙ c.loop.invariant.reads in
    omega (arith, none, same, absorbed-reads pools forks c.one_fork.new.pool c.absorb_all.new.pool c.absorb_all.ensures (omega (arith, none, same, room)))

pub returns-in-Err-clause-failed : goal.returns-in-Err-clause-failed
returns-in-Err-clause-failed g c = λ is room.
    let pools = g.P.Pool in
    let forks : List g.row.P.Denot = c.one_fork.new.forks.items in
    let none : sum_by pools.faults forks ≡ 0 = fresh-faults pools c.args.pool.now forks (subst (AllByRecursion (IsFork pools c.args.pool.now)) (sym c.in-Err.ensures.none) c.loop.invariant.fresh) in
    let same = c.loop.invariant.unfailed in
    let one = failed-one _ _ c.in-Err.fault is c.in-Err.ensures.faults in
    let more : pools.faults c.one_fork.new.pool ≡ pools.faults c.args.pool.now + 1 = omega (arith, same, one.more (omega (arith, same, room))) in
    omega (arith, none, more, absorbed-faults pools forks c.one_fork.new.pool c.absorb_all.new.pool c.absorb_all.ensures (omega (arith, none, more, room)))

pub returns-in-Err-clause-rose : goal.returns-in-Err-clause-rose
returns-in-Err-clause-rose g c = λ is.
    let one = failed-one _ _ c.in-Err.fault is c.in-Err.ensures.faults in
    let same = c.loop.invariant.unfailed in
    let leaves = absorbed-leaves g.P.Pool c.one_fork.new.forks.items c.one_fork.new.pool c.absorb_all.new.pool c.absorb_all.ensures in
    rose-once _ _ _ _ same one leaves.faults

pub returns-clause-forks : goal.returns-clause-forks
returns-clause-forks g c = forks-moved g.P.Pool c.args.pool.now c.loop.pool c.loop.invariant.keeps c.loop.forks.items c.loop.invariant.fresh

pub returns-clause-pool : goal.returns-clause-pool
returns-clause-pool g c = leaves-then g.P.Pool c.args.pool.now c.loop.pool c.loop.pool c.loop.invariant.keeps (absorbed-leaves g.P.Pool [] c.loop.pool c.loop.pool refl)

pub returns-in-Err-clause-made : goal.returns-in-Err-clause-made
returns-in-Err-clause-made g c = (
  c.loop.counter,
  omega arith,
  absorbed-others g.P.Pool c.one_fork.new.forks.items c.one_fork.new.pool c.absorb_all.new.pool c.absorb_all.ensures
      ∙ (c.one_fork.ensures.others ∙ ap (λ (n : ℕ). sum_of_counts n 1) c.loop.invariant.others),
)
