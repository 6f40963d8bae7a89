-- The operations of one caller, and a report by its parts.
use Rattle.std.proofs.Common.{◌≡◌, ℕ, suc, ◌≤◌, Bool, false, IfSome, List, [], ◌∷◌, Option, None, Some, refl, ap, subst, ◌∙◌, arith}
use Rattle.std.specs.Prelude.{All, slice_get}
use Rattle.std.specs.List.{AllByRecursion}
use Rattle.std.proofs.lemmas.List.Elements.{All-get_or}
use Rattle.std.proofs.lemmas.Option.{get_or_from_slice_get, slice_get_within}
use Rattle.blk_ptr.specs.declared.ptr.Ptr.{Ptr}
use Rattle.arc_core.specs.declared.config.Config.{Config}
use Rattle.arc_core.specs.declared.event.Event.{Event}
use Rattle.trace_text.specs.declared.ends.ShardEnd.{ShardEnd}
use Rattle.trace_text.specs.declared.op.Op.{Op}
use Rattle.trace_text.specs.declared.op.Op.TheVariants as ops
use Rattle.trace_text.specs.declared.report.Report.{Report}
use Rattle.trace_text.specs.declared.totals.Totals.{Totals}
use Rattle.trace_text.specs.declared.trace.Trace.{Trace}
use Rattle.trace_text.specs.Grammar.{IsPossible}
use Rattle.trace_run.specs.Ends.{ends_of}
use Rattle.arc_table.specs.Telling.{opening_of}
use Rattle.trace_run.specs.Lines.{caller_of}
use Rattle.trace_run.specs.one_caller.OneCaller.{one_caller_histories}
use Rattle.trace_run.specs.one_caller.PlainRun.{report_with, status_of}
use Rattle.trace_run.specs.Restores.{found_keys, restores_in}

-- ---- the operations are those of the one caller

pub one-caller : (sizes : Config) (blocks : List Ptr) (op : Op) → sizes.callers ≤ 1 → IsPossible sizes blocks op → IfSome (caller_of op) (λ n. n ≡ 0)
one-caller sizes blocks (ops.Read n t x w) one possible = omega (arith, possible.0.0)
one-caller sizes blocks (ops.Hold n t x) one possible = omega (arith, possible.0.0)
one-caller sizes blocks (ops.Drop n x) one possible = omega (arith, possible.0.0)
one-caller sizes blocks (ops.Get n t at window) one possible = omega (arith, possible.0.0)
one-caller sizes blocks (ops.Put n t at size fill) one possible = omega (arith, possible.0.0)
one-caller sizes blocks (ops.Patch n t at from bytes) one possible = omega (arith, possible.0.0)
one-caller sizes blocks (ops.Pin n t at) one possible = omega (arith, possible.0.0)
one-caller sizes blocks (ops.Unpin n at) one possible = omega (arith, possible.0.0)
one-caller sizes blocks other one possible = tt

pub possible-at : (sizes : Config) (blocks : List Ptr) (os : List Op) (k : ℕ) (op : Op) → All (IsPossible sizes blocks) os → slice_get os k ≡ Some op → IsPossible sizes blocks op
possible-at sizes blocks os k op all at =
    subst (IsPossible sizes blocks) (get_or_from_slice_get os k op op at) (All-get_or (IsPossible sizes blocks) os k op (slice_get_within os k op at) all)

pub all-own : (P : Op → Type 0) (os : List Op) → ((k : ℕ) (op : Op) → slice_get os k ≡ Some op → P op) → AllByRecursion P os
all-own P [] own = tt
all-own P (op ∷ os) own = (own 0 op refl, all-own P os (λ k o at. own (suc k) o at))

-- a report by its parts
pub report-is : (trace : Trace) (report : Report) → report.histories ≡ one_caller_histories trace.config.shards trace.blocks 0 (opening_of trace.config) (restores_in trace.config (found_keys report.rebuilt)) trace.ops report.replies
    → report.ends ≡ ends_of trace.config (one_caller_histories trace.config.shards trace.blocks 0 (opening_of trace.config) (restores_in trace.config (found_keys report.rebuilt)) trace.ops report.replies)
    → report.status ≡ status_of report.replies → report.short ≡ false
    → report.io ≡ None → report ≡ report_with trace report.rebuilt report.replies
report-is trace report histories ends status short io =
    let hs = one_caller_histories trace.config.shards trace.blocks 0 (opening_of trace.config) (restores_in trace.config (found_keys report.rebuilt)) trace.ops report.replies in
    let first : Report = record report { histories = hs } in
    let second : Report = record first { ends = ends_of trace.config hs } in
    let third : Report = record second { status = status_of report.replies } in
    let fourth : Report = record third { short = false } in
    ap (λ (h : List (List Event)). record report { histories = h }) histories
    ∙ ap (λ (e : List ShardEnd). record first { ends = e }) ends
    ∙ ap (λ (n : ℕ). record second { status = n }) status
    ∙ ap (λ (b : Bool). record third { short = b }) short
    ∙ ap (λ (t : Option Totals). record fourth { io = t }) io
