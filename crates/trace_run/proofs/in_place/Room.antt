-- Where nothing is out of place no sync stops for want of room.
use Rattle.std.proofs.Common.{◌≡◌, ◌<◌, ◌≤◌, ℕ, zero, suc, List, [], ◌∷◌, ◌++◌, length, take, Option, Some, None, refl, sym, ap, ◌∙◌, subst, inl, inr, arith}
use Rattle.std.specs.Prelude.{slice_get}
use Rattle.std.specs.List.{AllByRecursion}
use mathlib.Core.Logic.{dite}
use native.Mathlib.Decide.{ℕ_discrete}
use Rattle.arc_lists.proofs.Tables.{cases_true}
use Rattle.arc_table.specs.Ended.{Ended}
use Rattle.dbuf_cells.specs.Turns.{OnHeap}
use Rattle.trace_text.specs.Grammar.{AreApart}
use Rattle.trace_text.specs.declared.op.Op.{Op}
use Rattle.trace_text.specs.declared.op.Op.TheVariants as ops
use Rattle.trace_text.specs.declared.reply.Reply.{Reply}
use Rattle.trace_text.specs.declared.report.Report.{Report}
use Rattle.trace_text.specs.declared.trace.Trace.{Trace}
use Rattle.vdev_io.specs.declared.device.CacheDev.{Ghosts as Devices}
use Rattle.vdev_io.specs.declared.pool.Pool.{Ghosts}
use Rattle.trace_run.specs.declared.ran.Ending.{Ending}
use Rattle.trace_run.specs.declared.ran.Ending.TheVariants.{Full, Whole}
use Rattle.trace_run.specs.InPlace.{HaveRoom, IsInPlace}
use Rattle.trace_run.specs.Lines.{caller_of, has_further}
use Rattle.trace_run.specs.Outcome.{HasRun}
use Rattle.trace_run.specs.callers.WorkLines.{AreLinesOf}
use Rattle.trace_run.specs.dbufs.Objects.{Line, ops_of}
use Rattle.trace_run.proofs.in_place.PinLines.{op-at}
use Rattle.trace_run.proofs.in_place.RoomInTurn.{never-in-turn}
use Rattle.trace_run.proofs.in_place.RoomPuts.{IsPutNoted, lines-noted}
use Rattle.trace_run.proofs.in_place.RoomTogether.{never-together}

-- ---- lists

split-at : (xs : List Op) (k : ℕ) (x : Op) → slice_get xs k ≡ Some x → (rest : List Op) × (xs ≡ take k xs ++ x ∷ rest)
split-at [] k x at = absurd (let clash : ◌≡◌ {A = Option Op} None (Some x) = at in cc)
split-at (y ∷ ys) zero x at = let same : y ≡ x = cc in (ys, (λ i. same i ∷ ys))
split-at (y ∷ ys) (suc k) x at = let more = split-at ys k x at in (more.0, ap (λ (l : List Op). y ∷ l) more.1)

get-taken : (n : ℕ) (xs : List Op) (k : ℕ) (x : Op) → slice_get (take n xs) k ≡ Some x → slice_get xs k ≡ Some x
get-taken zero xs k x at = absurd (let clash : ◌≡◌ {A = Option Op} None (Some x) = at in cc)
get-taken (suc n) [] k x at = at
get-taken (suc n) (y ∷ ys) zero x at = at
get-taken (suc n) (y ∷ ys) (suc k) x at = get-taken n ys k x at

ops-are : (os : List Op) (rs : List Reply) (ls : List Line) → AreLinesOf os rs ls → ops_of ls ≡ os
ops-are [] [] [] are = refl
ops-are [] [] (l ∷ ls) are = absurd are
ops-are [] (r ∷ rs) ls are = absurd are
ops-are (o ∷ os) [] ls are = absurd are
ops-are (o ∷ os) (r ∷ rs) [] are = absurd are
ops-are (o ∷ os) (r ∷ rs) (l ∷ ls) are = let rest = ops-are os rs ls are.2 in (λ i. are.0 i ∷ rest i)

-- ---- a run

pub never-full : {P D : Type 0} (pool : Ghosts P) (device : Devices D) (before after : P) (lent back : Option D) (trace : Trace) (need left : ℕ) (closed : Ended OnHeap) (report : Report) (image : List ℕ)
    → HasRun pool device before after lent back trace (Full need left) closed report → 1 ≤ trace.config.callers
    → ((k : ℕ) (op : Op) → slice_get trace.ops k ≡ Some op → (n : ℕ) → caller_of op ≡ Some n → n < trace.config.callers) → AreApart trace.objects → IsInPlace (pool.size before) image trace → ⊥
never-full pool device before after lent back trace need left closed report image r some below apart in_place =
    dite (ℕ_discrete trace.config.callers 1)
    (λ one. elim (cases_true (has_further trace.ops)) [
      | inl further ↦ (
          let run = r.run.in_turn one further in
          never-in-turn pool device trace apart len _ before after r.run.place lent r.work.lines r.work.feeds run.reached run.ended.stops.behind.tick (rest run.ended.stops.behind.tick run.ended.stops.behind.at).0 r.work.stopped need left refl
          (room run.ended.stops.behind.tick run.ended.stops.behind.at) r.did.fits noted run.lines run.ended.stops.answer)
      | inr plain ↦ absurd (let clash : ◌≡◌ {A = Ending} (Full need left) Whole = (r.run.alone one plain).0 in cc)
    ])
    (λ more.
    let run = r.run.together (omega (arith, more, some)) in
    never-together pool trace apart len closed.cells (λ i end there. (r.cells.each i end there).opening) (λ i end there. (r.cells.each i end there).parties) r.run.told before after r.run.place r.work.lines run.reached
    run.ended.behind.tick (rest run.ended.behind.tick run.ended.behind.at).0 r.work.stopped need left refl (room run.ended.behind.tick run.ended.behind.at) r.did.fits noted run.groups run.ended.answer)
  where
    len : ℕ
    len = pool.size before

    answered : ops_of r.work.lines ≡ take (length report.replies) trace.ops
    answered = ops-are (take (length report.replies) trace.ops) report.replies r.work.lines r.did.lines

    noted : AllByRecursion (IsPutNoted trace.config) r.work.lines
    noted = lines-noted trace.config len r.run.told closed.cells r.work.lines r.run.objects r.did.fits
        (λ k l there. below k l.op (get-taken (length report.replies) trace.ops k l.op (op-at (take (length report.replies) trace.ops) report.replies r.work.lines r.did.lines k l there).0))

    rest : (t : ℕ) → slice_get trace.ops (length report.replies) ≡ Some (ops.Txg t) → (xs : List Op) × (trace.ops ≡ take (length report.replies) trace.ops ++ ops.Txg t ∷ xs)
    rest t at = split-at trace.ops (length report.replies) (ops.Txg t) at

    room : (t : ℕ) (at : slice_get trace.ops (length report.replies) ≡ Some (ops.Txg t)) → HaveRoom trace len r.run.place [] [] (ops_of r.work.lines ++ ops.Txg t ∷ (rest t at).0)
    room t at = subst (λ (os : List Op). HaveRoom trace len r.run.place [] [] os) ((rest t at).1 ∙ ap (λ (os : List Op). os ++ ops.Txg t ∷ (rest t at).0) (sym answered)) (in_place.room r.run.place r.run.first)
