-- The status of a run of a trace that is in place, where no count of faults rose.
use Rattle.std.proofs.Common.{◌≡◌, ℕ, ◌+◌, ◌≤◌, Bool, true, false, List, [], ◌∷◌, ◌++◌, length, Option, Some, None, refl, sym, ap, ◌∙◌, subst, inl, inr, arith, append-nil, length-append}
use Rattle.std.specs.Prelude.{is_some}
use Rattle.std.proofs.lemmas.Bool.{cases_lt}
use Rattle.arc_table.specs.Ended.{Ended}
use Rattle.dbuf_cells.specs.Turns.{OnHeap}
use Rattle.trace_text.specs.Grammar.{IsFirstFault, IsTraceText, longest_text}
use Rattle.trace_text.specs.declared.op.Op.{Op}
use Rattle.trace_text.specs.declared.op.Op.TheVariants as ops
use Rattle.trace_text.specs.declared.report.Report.{Report}
use Rattle.trace_text.specs.declared.trace.Trace.{Trace}
use Rattle.trace_text.proofs.FormedLemmas.{IsFormed-trace}
use Rattle.trace_text.proofs.LawLemmas.{trace-faultless, trace-one}
use Rattle.vdev_io.specs.declared.device.CacheDev.{Ghosts as Devices}
use Rattle.vdev_io.specs.declared.pool.Pool.{Ghosts}
use Rattle.vdev_io.specs.Faults.{CountsOne, Rose, last_count}
use Rattle.vdev_io.specs.Streams.{Gives}
use Rattle.trace_run.specs.declared.status.Status.{Status}
use Rattle.trace_run.specs.declared.status.Status.TheVariants as statuses
use Rattle.trace_run.specs.Bounded.{device_len, with_bound}
use Rattle.trace_run.specs.Complete.{EndsInOrder, IsOkOrWants, NoneRose}
use Rattle.trace_run.specs.InPlace.{HasItsOwn, HaveRoom, IsInPlace, room_for}
use Rattle.trace_run.specs.Outcome.{AnswersSink, DoesRun, IfReported, IsReport}
use Rattle.trace_run.specs.States.{Handed}
use Rattle.trace_run.proofs.TraceLines.{all-callers}
use Rattle.trace_run.proofs.in_place.RunLines.{run-fine}

-- a call that failed raised the count
counted-rose : (before after : ℕ) → CountsOne before after → Rose before after
counted-rose before after one = elim (cases_lt before last_count) [
  | inl room ↦ (let more = one.more room in omega (arith, more))
  | inr full ↦ (let same = one.full full in omega (arith, same, full))
]

-- what a source gave that tells this text is a front of it, and all where that is no longer than a text may be
given-front : (text given : List ℕ) (after : Option (List ℕ)) (most : ℕ) → Gives (Some text) after most given → (rest : List ℕ) × (text ≡ given ++ rest) × (length given ≤ most → rest ≡ [])
given-front text given None most g = absurd g.consumed
given-front text given (Some rest) most g = (rest, g.consumed, g.ended)

given-all : (text given : List ℕ) (before after : Option (List ℕ)) (most : ℕ) → before ≡ Some text → length text ≤ most → Gives before after most given → given ≡ text
given-all text given before after most tells short g =
    let f = given-front text given after most (subst (λ (o : Option (List ℕ)). Gives o after most given) tells g) in
    let long : length text ≡ length given + length f.0 = ap (λ (l : List ℕ). length l) f.1 ∙ length-append given f.0 in
    let none : f.0 ≡ [] = f.2 (omega (arith, long, short)) in
    sym (f.1 ∙ (ap (λ (l : List ℕ). given ++ l) none ∙ append-nil given))

-- a bound of feeds leaves each line in its place
module _ (len : ℕ) (image : List ℕ) (trace : Trace) (size : ℕ) where
  bounded-line : (k : ℕ) (op : Op) → HasItsOwn len image trace k op → HasItsOwn len image (with_bound trace size) k op
  bounded-line k (ops.Get n t at w) own = (own.0, record { opened = own.1.opened; puts = own.1.puts })
  bounded-line k (ops.Patch n t at from bytes) own = (own.0, record { opened = own.1.opened; puts = own.1.puts })
  bounded-line k (ops.Read n t x window) own = own
  bounded-line k (ops.Hold n t x) own = own
  bounded-line k (ops.Drop n x) own = own
  bounded-line k (ops.Pin n t at) own = own
  bounded-line k (ops.Unpin n at) own = own
  bounded-line k (ops.Put n t at most fill) own = tt
  bounded-line k ops.Feed own = tt
  bounded-line k (ops.Txg t) own = tt
  bounded-line k (ops.Cap c) own = tt

  bounded-room : (place : ℕ) (before since left : List Op) → HaveRoom trace len place before since left → HaveRoom (with_bound trace size) len place before since left
  bounded-room place before since [] room = tt
  bounded-room place before since (ops.Txg t ∷ left) room = (room.0, bounded-room (place + room_for trace before since) (before ++ since) [] left room.1)
  bounded-room place before since (ops.Read n t x window ∷ left) room = bounded-room place before (since ++ ops.Read n t x window ∷ []) left room
  bounded-room place before since (ops.Hold n t x ∷ left) room = bounded-room place before (since ++ ops.Hold n t x ∷ []) left room
  bounded-room place before since (ops.Drop n x ∷ left) room = bounded-room place before (since ++ ops.Drop n x ∷ []) left room
  bounded-room place before since (ops.Get n t at window ∷ left) room = bounded-room place before (since ++ ops.Get n t at window ∷ []) left room
  bounded-room place before since (ops.Put n t at most fill ∷ left) room = bounded-room place before (since ++ ops.Put n t at most fill ∷ []) left room
  bounded-room place before since (ops.Patch n t at from bytes ∷ left) room = bounded-room place before (since ++ ops.Patch n t at from bytes ∷ []) left room
  bounded-room place before since (ops.Pin n t at ∷ left) room = bounded-room place before (since ++ ops.Pin n t at ∷ []) left room
  bounded-room place before since (ops.Unpin n at ∷ left) room = bounded-room place before (since ++ ops.Unpin n at ∷ []) left room
  bounded-room place before since (ops.Feed ∷ left) room = bounded-room place before (since ++ ops.Feed ∷ []) left room
  bounded-room place before since (ops.Cap c ∷ left) room = bounded-room place before (since ++ ops.Cap c ∷ []) left room

  bounded-place : IsInPlace len image trace → IsInPlace len image (with_bound trace size)
  bounded-place p = record { lines = λ k op at. bounded-line k op (p.lines k op at); room = λ place first. bounded-room place [] [] trace.ops (p.room place first) }

module _ {P D : Type 0} (pool : Ghosts P) (told_len : (p : P) (bytes : List ℕ) → pool.told p ≡ Some bytes → length bytes ≡ pool.size p) (device : Devices D) (events : Bool) (before after : Handed P D) (text : List ℕ) (trace : Trace) (image : List ℕ)
    (tells : before.source.told ≡ Some text) (is : IsTraceText text trace) (told : pool.told before.pool ≡ Some image) (in_place : IsInPlace (pool.size before.pool) image trace) (none : NoneRose pool before after) where
  -- a report has the status 0
  reported-zero : (status : Status) (closed : Ended OnHeap) (report : Report) → IsReport pool device before after status closed report → report.status ≡ 0
  reported-zero status closed report r =
      let size = device_len device.size before.cache in
      let all : r.read.text ≡ text = given-all text r.read.text before.source.told after.source.told longest_text tells is.short r.read.given in
      let same : r.trace ≡ trace = trace-one text r.trace trace (subst (λ (l : List ℕ). IsTraceText l r.trace) all r.read.is_trace) is in
      let formed = IsFormed-trace r.read.text r.trace r.read.is_trace in
      let place = subst (λ (t : Trace). IsInPlace (pool.size before.pool) image t) (sym same) in_place in
      (run-fine pool told_len device before.pool after.pool _ _ (with_bound r.trace size) r.ending closed report image r.run formed.config.counts.callers.0 (all-callers r.trace formed) formed.apart told
      (bounded-place (pool.size before.pool) image r.trace size place) none.low none.pool).0

  -- so no other status is told of one
  other-status : (status : Status) (n : ℕ) (report : Option Report) (closed : Option (Ended OnHeap)) → (n ≡ 0 → ⊥) → is_some report ≡ true → IfReported report closed (IsReport pool device before after status)
      → ((r : Report) → report ≡ Some r → r.status ≡ n) → ⊥
  other-status status n None closed differs there reported tells_status = let clash : false ≡ true = there in cc
  other-status status n (Some r) None differs there reported tells_status = reported
  other-status status n (Some r) (Some c) differs there reported tells_status = differs (sym (tells_status r refl) ∙ reported-zero status c r reported)

  some-report : (a b : Report) → ◌≡◌ {A = Option Report} (Some a) (Some b) → a ≡ b
  some-report a b e = cc

  reads-status : (report : Option Report) → AnswersSink events before.sink after.sink statuses.ReadsFailed report → (r : Report) → report ≡ Some r → r.status ≡ 1
  reads-status None sink r there = absurd (let clash : ◌≡◌ {A = Option Report} None (Some r) = there in cc)
  reads-status (Some x) sink r there = ap (λ (y : Report). y.status) (sym (some-report x r there)) ∙ sink.1

  pool-status : (report : Option Report) → AnswersSink events before.sink after.sink statuses.PoolFault report → (r : Report) → report ≡ Some r → r.status ≡ 6
  pool-status None sink r there = absurd (let clash : ◌≡◌ {A = Option Report} None (Some r) = there in cc)
  pool-status (Some x) sink r there = ap (λ (y : Report). y.status) (sym (some-report x r there)) ∙ sink.1

  full-status : (need left : ℕ) (report : Option Report) → AnswersSink events before.sink after.sink (statuses.PoolFull need left) report → (r : Report) → report ≡ Some r → r.status ≡ 8
  full-status need left None sink r there = absurd (let clash : ◌≡◌ {A = Option Report} None (Some r) = there in cc)
  full-status need left (Some x) sink r there = ap (λ (y : Report). y.status) (sym (some-report x r there)) ∙ sink.1

  sink-failed : (report : Option Report) → is_some report ≡ true → AnswersSink events before.sink after.sink statuses.SinkFault report → ⊥
  sink-failed None there sink = let clash : false ≡ true = there in cc
  sink-failed (Some r) there sink = none.sink (counted-rose before.sink.faults after.sink.faults sink.1)

  ends-so : (status : Status) (report : Option Report) (closed : Option (Ended OnHeap)) → DoesRun pool device events before after status report closed → IsOkOrWants status
  ends-so statuses.Ok report closed d = tt
  ends-so statuses.NoMemory report closed d = tt
  ends-so (statuses.Usage index) report closed d = tt
  ends-so statuses.ReadsFailed report closed d = other-status statuses.ReadsFailed 1 report closed (λ e. omega (arith, e)) d.present d.reported (reads-status report d.sink)
  ends-so statuses.PoolFault report closed d = other-status statuses.PoolFault 6 report closed (λ e. omega (arith, e)) d.present d.reported (pool-status report d.sink)
  ends-so (statuses.PoolFull need left) report closed d = other-status (statuses.PoolFull need left) 8 report closed (λ e. omega (arith, e)) d.present d.reported (full-status need left report d.sink)
  ends-so statuses.SinkFault report closed d = sink-failed report d.present d.sink
  ends-so statuses.SourceFault report closed d = none.source (counted-rose before.source.faults after.source.faults d.source)
  ends-so (statuses.Illegal shard index) report closed d = d.source
  ends-so (statuses.BadTrace line kind) report closed d =
      let all : d.source.text ≡ text = given-all text d.source.text before.source.told after.source.told longest_text tells is.short d.source.given in
      trace-faultless text trace line kind is (subst (λ (l : List ℕ). IsFirstFault l line kind) all d.source.fault)

pub ends-in-order : {P D : Type 0} (pool : Ghosts P) → ((p : P) (bytes : List ℕ) → pool.told p ≡ Some bytes → length bytes ≡ pool.size p) → (device : Devices D) → EndsInOrder pool device
ends-in-order pool told_len device events before after status report closed text trace image d tells is told in_place none = ends-so pool told_len device events before after text trace image tells is told in_place none status report closed d
