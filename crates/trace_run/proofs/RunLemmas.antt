-- The reads of the pool that replies tell of, one after another.
use Rattle.std.proofs.Common.{◌≡◌, ℕ, zero, suc, ◌+◌, ◌<◌, ◌≤◌, Bool, true, false, cond, List, [], ◌∷◌, ◌++◌, length, get_or, Option, Some, None, IfSome, refl, ap, subst, ◌∙◌, arith, length-append}
use Rattle.std.specs.Prelude.{count_by, slice_get}
use Rattle.std.proofs.lemmas.List.Sums.{sum_by-append, sum_by-cons}
use Rattle.vdev_io.specs.declared.pool.Pool.{Ghosts}
use Rattle.vdev_io.specs.Faults.{last_count}
use Rattle.arc_core.specs.declared.event.Event.{Event}
use Rattle.arc_core.specs.declared.served.Served.TheVariants as served
use Rattle.arc_core.specs.Operations.{pool_reads}
use Rattle.trace_text.specs.declared.reply.Reply.{Reply}
use Rattle.trace_run.specs.Answers.{is_pool_fault, tells_fault}
use Rattle.trace_run.specs.Effects.{Effect, Answered, GivenBack, PoolRefused, NoEffect, calls_of, calls_of_all, effect_of}
use Rattle.vdev_io.specs.Calls.{CountsCall, Failed, Gave, KeepsPool, MakesCalls, Call, is_failed}

-- ---- one read of the pool stands behind each event that stands for one

pub pool_reads-append : (front rest : List Event) → pool_reads (front ++ rest) ≡ pool_reads front + pool_reads rest
pool_reads-append front rest = sum_by-append _ front rest

-- ---- the reads of the pool, one after another

pub calls-then : {P : Type 0} (pool : Ghosts P) (cs ds : List Call) (a b c : P) → MakesCalls pool cs a b → MakesCalls pool ds b c → MakesCalls pool (cs ++ ds) a c
calls-then {P} pool [] ds a b c first second = subst (λ (p : P). MakesCalls pool ds p c) first second
calls-then pool (call ∷ cs) ds a b c first second = (first.0, first.1, calls-then pool cs ds first.0 b c first.2 second)

pub keeps-then : {P : Type 0} (pool : Ghosts P) (a b c : P) → KeepsPool pool a b → KeepsPool pool b c → KeepsPool pool a c
keeps-then pool a b c first second = record { size = second.size ∙ first.size; told = second.told ∙ first.told; faults = omega (arith, first.faults, second.faults); others = second.others ∙ first.others }

pub calls-few-one : (e : Effect) → length (calls_of e) ≤ 1
calls-few-one (Answered served.Hit) = omega arith
calls-few-one (Answered served.Pool) = omega arith
calls-few-one (Answered served.L2) = omega arith
calls-few-one (Answered served.Past) = omega arith
calls-few-one GivenBack = omega arith
calls-few-one (PoolRefused call) = omega arith
calls-few-one NoEffect = omega arith

-- at most one for each operation
pub calls-few : (replies : List Reply) → length (calls_of_all replies) ≤ length replies
calls-few [] = omega arith
calls-few (reply ∷ rest) = omega (arith, length-append (calls_of (effect_of reply)) (calls_of_all rest), calls-few-one (effect_of reply), calls-few rest)

-- the count of reads rises by their number
pub calls-reads : {P : Type 0} (pool : Ghosts P) (cs : List Call) (a b : P) → MakesCalls pool cs a b → pool.reads a + length cs ≤ last_count → pool.reads b ≡ pool.reads a + length cs
calls-reads {P} pool [] a b made room = omega (arith, ap (λ (p : P). pool.reads p) made)
calls-reads pool (call ∷ cs) a b made room =
    let one : pool.reads made.0 ≡ pool.reads a + 1 = made.1.reads.more (omega (arith, room)) in
    omega (arith, one, calls-reads pool cs made.0 b made.2 (omega (arith, one, room)))

-- and the count of faults by the number of those that failed
faults-one : (call : Call) (before now : ℕ) → before < last_count → CountsCall call before now → now ≡ before + cond (is_failed call) 1 0
faults-one Gave before now low counts = omega (arith, counts)
faults-one Failed before now low counts = omega (arith, counts.more low)

cond-few : (b : Bool) → cond b 1 0 ≤ 1
cond-few true = omega arith
cond-few false = omega arith

pub calls-faults : {P : Type 0} (pool : Ghosts P) (cs : List Call) (a b : P) → MakesCalls pool cs a b → pool.faults a + length cs ≤ last_count
    → pool.faults b ≡ pool.faults a + count_by is_failed cs
calls-faults {P} pool [] a b made room = omega (arith, ap (λ (p : P). pool.faults p) made)
calls-faults pool (call ∷ cs) a b made room =
    let one = faults-one call (pool.faults a) (pool.faults made.0) (omega (arith, room)) made.1.faults in
    let few = cond-few (is_failed call) in
    let rest = calls-faults pool cs made.0 b made.2 (omega (arith, one, few, room)) in
    omega (arith, one, rest, sum_by-cons (λ c. cond (is_failed c) 1 0) call cs)

pub failed-one : (e : Effect) → count_by is_failed (calls_of e) ≡ cond (tells_fault e) 1 0
failed-one (Answered served.Hit) = refl
failed-one (Answered served.Pool) = refl
failed-one (Answered served.L2) = refl
failed-one (Answered served.Past) = refl
failed-one GivenBack = refl
failed-one (PoolRefused Gave) = refl
failed-one (PoolRefused Failed) = refl
failed-one NoEffect = refl

-- the reads that failed are those that are answered so
pub failed-all : (replies : List Reply) → count_by is_failed (calls_of_all replies) ≡ count_by is_pool_fault replies
failed-all [] = refl
failed-all (reply ∷ rest) =
    let parts : count_by is_failed (calls_of (effect_of reply) ++ calls_of_all rest) ≡ count_by is_failed (calls_of (effect_of reply)) + count_by is_failed (calls_of_all rest) =
    sum_by-append _ (calls_of (effect_of reply)) (calls_of_all rest) in
    omega (arith, parts, failed-one (effect_of reply), failed-all rest, sum_by-cons (λ r. cond (is_pool_fault r) 1 0) reply rest)

-- ---- what stands over a pool that tells its bytes, and at a place of a list

pub told-all : (o : Option (List ℕ)) (F : List ℕ → Type 0) → ((image : List ℕ) → F image) → IfSome o F
told-all None F each = tt
told-all (Some image) F each = each image

-- the element at a place inside
pub got : {X : Type 0} (xs : List X) (i : ℕ) (d : X) → i < length xs → slice_get xs i ≡ Some (get_or xs i d)
got [] i d lt = absurd (omega arith)
got (x ∷ xs) zero d lt = refl
got (x ∷ xs) (suc i) d lt = got xs i d (omega arith)
