-- Where each line that keeps a read does, the kept and the dropped reads are as many as the lines say.
use Rattle.std.proofs.Common.{◌≡◌, ℕ, zero, suc, ◌+◌, ◌<◌, ◌≤◌, ◌==◌, ◌&&◌, cond, Bool, true, false, List, [], ◌∷◌, length, take, Some, refl, ap, arith}
use Rattle.std.specs.Prelude.{count_by, slice_get}
use Rattle.std.proofs.lemmas.List.Sums.{sum_by-cons}
use Rattle.arc_core.specs.declared.served.Served.{Served}
use Rattle.trace_text.specs.declared.op.Op.{Op}
use Rattle.trace_text.specs.declared.op.Op.TheVariants as ops
use Rattle.trace_text.specs.declared.reply.Refusal.{Refusal}
use Rattle.trace_text.specs.declared.reply.Refusal.TheVariants as refusals
use Rattle.trace_text.specs.declared.reply.Reply.{Reply}
use Rattle.trace_text.specs.declared.reply.Reply.TheVariants as replies
use Rattle.trace_run.specs.Answers.{AnswersDrop, dropped_reads, drops, drops_one, is_refusal, keeps, keeps_one, kept_reads}
use Rattle.trace_run.specs.Effects.{Answered, Effect, GivenBack, NoEffect, PoolRefused, effect_of}
use Rattle.trace_run.specs.InPlace.{is_drop_of, is_hold_of}

-- ---- operations with their replies, one after another

abbrev pub Pairs : (Op → Reply → Type 0) → List Op → List Reply → Type 0
Pairs P [] rs = Unit {0}
Pairs P (o ∷ os) [] = ⊥
Pairs P (o ∷ os) (r ∷ rs) = P o r × Pairs P os rs

pub pairs-of : (P : Op → Reply → Type 0) (os : List Op) (rs : List Reply) → length rs ≡ length os → ((k : ℕ) (o : Op) (r : Reply) → slice_get os k ≡ Some o → slice_get rs k ≡ Some r → P o r) → Pairs P os rs
pairs-of P [] rs all each = tt
pairs-of P (o ∷ os) [] all each = absurd (omega (arith, all))
pairs-of P (o ∷ os) (r ∷ rs) all each = (each 0 o r refl refl, pairs-of P os rs (omega (arith, all)) (λ k x y at told. each (suc k) x y at told))

pub pairs-take : (P : Op → Reply → Type 0) (k : ℕ) (os : List Op) (rs : List Reply) → Pairs P os rs → Pairs P (take k os) (take k rs)
pairs-take P zero os rs all = tt
pairs-take P (suc k) [] rs all = tt
pairs-take P (suc k) (o ∷ os) [] all = absurd all
pairs-take P (suc k) (o ∷ os) (r ∷ rs) all = (all.0, pairs-take P k os rs all.1)

counted : (p : Op → Bool) (o : Op) (os : List Op) → count_by p (o ∷ os) ≡ cond {A = ℕ} (p o) 1 0 + count_by p os
counted p o os = sum_by-cons (λ (y : Op). cond {A = ℕ} (p y) 1 0) o os

-- ---- holds

-- a line that is to keep a read keeps it
abbrev pub IsKeptBy : Op → Reply → Type 0
IsKeptBy (ops.Hold n t x) r = (served : Served) × (r ≡ replies.Kept served)
IsKeptBy other r = Unit {0}

keeps-so : (n x : ℕ) (o : Op) (r : Reply) → IsKeptBy o r → keeps n x o r ≡ cond (is_hold_of n x o) 1 0
keeps-so n x (ops.Hold m t y) r is = ap (λ (s : Reply). keeps_one (effect_of s) (m == n && y == x)) is.1
keeps-so n x o r is = refl

pub kept-counted : (n x : ℕ) (os : List Op) (rs : List Reply) → Pairs IsKeptBy os rs → kept_reads n x os rs ≡ count_by (is_hold_of n x) os
kept-counted n x [] rs all = refl
kept-counted n x (o ∷ os) [] all = absurd all
kept-counted n x (o ∷ os) (r ∷ rs) all =
    let one = keeps-so n x o r all.0 in
    let rest = kept-counted n x os rs all.1 in
    let more = counted (is_hold_of n x) o os in
    omega (arith, one, rest, more)

-- ---- drops

drops-few : (e : Effect) (mine : Bool) → drops_one e mine ≤ cond mine 1 0
drops-few (Answered from) mine = omega arith
drops-few GivenBack true = omega arith
drops-few GivenBack false = omega arith
drops-few (PoolRefused call) mine = omega arith
drops-few NoEffect mine = omega arith

drop-few : (n x : ℕ) (o : Op) (r : Reply) → drops n x o r ≤ cond (is_drop_of n x o) 1 0
drop-few n x (ops.Drop m y) r = drops-few (effect_of r) (m == n && y == x)
drop-few n x o r = omega arith

pub dropped-few : (n x : ℕ) (os : List Op) (rs : List Reply) → dropped_reads n x os rs ≤ count_by (is_drop_of n x) os
dropped-few n x [] rs = omega arith
dropped-few n x (o ∷ os) [] = omega arith
dropped-few n x (o ∷ os) (r ∷ rs) =
    let one = drop-few n x o r in
    let rest = dropped-few n x os rs in
    let more = counted (is_drop_of n x) o os in
    omega (arith, one, rest, more)

-- a drop that has its hold
pub drop-fine : (kept dropped x : ℕ) (reply : Reply) → dropped < kept → AnswersDrop kept dropped x reply → is_refusal reply ≡ false
drop-fine kept dropped x replies.Dropped has is = refl
drop-fine kept dropped x (replies.Refused refusal) has is = absurd (none refusal is)
  where
    none : (refusal : Refusal) → AnswersDrop kept dropped x (replies.Refused refusal) → ⊥
    none (refusals.NoHold block) is = let few = is.1 in omega (arith, has, few)
    none refusals.PoolFault is = is
    none (refusals.Mismatch found) is = is
    none (refusals.Key fault) is = is
    none refusals.NoMemory is = is
    none (refusals.Range end size) is = is
    none (refusals.NoBlock at) is = is
    none (refusals.NoPin at) is = is
drop-fine kept dropped x (replies.Read served digest shown) has is = absurd is
drop-fine kept dropped x (replies.Kept served) has is = absurd is
drop-fine kept dropped x (replies.Got size shown) has is = absurd is
drop-fine kept dropped x replies.Done has is = absurd is
drop-fine kept dropped x (replies.Fed report) has is = absurd is
drop-fine kept dropped x replies.FedNone has is = absurd is
drop-fine kept dropped x (replies.Synced group blocks bytes) has is = absurd is
drop-fine kept dropped x (replies.Capped c) has is = absurd is
