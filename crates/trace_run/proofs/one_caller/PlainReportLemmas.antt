-- A report whose replies are those of the plain run, but for other contents of one digest, is the plain report but for them.
use Rattle.std.proofs.Common.{◌≡◌, ℕ, Bool, true, false, if◌then◌else◌, List, [], ◌∷◌, ◌++◌, map, None, inl, inr, refl, sym, ap, ◌∙◌}
use Rattle.std.specs.Prelude.{filter, slice_get, ◌||◌}
use Rattle.std.specs.List.{list_any, range_with_len}
use Rattle.std.specs.Option.{option_map_or}
use Rattle.blk_ptr.specs.declared.ptr.Ptr.{Ptr}
use Rattle.arc_core.specs.declared.event.Event.{Event}
use Rattle.arc_core.specs.PlainShard.{PlainShard}
use Rattle.arc_core.specs.Replay.{replay}
use Rattle.trace_text.specs.declared.op.Op.{Op}
use Rattle.trace_text.specs.declared.op.Op.TheVariants as ops
use Rattle.trace_text.specs.declared.reply.Reply.{Reply}
use Rattle.trace_text.specs.declared.report.Report.{Report}
use Rattle.trace_text.specs.declared.trace.Trace.{Trace}
use Rattle.trace_run.specs.KeptReads.{KeptRead}
use Rattle.trace_run.specs.Answers.{is_refusal}
use Rattle.trace_run.specs.Effects.{Effect, effect_of}
use Rattle.trace_run.specs.Ends.{ends_of}
use Rattle.arc_table.specs.Telling.{opening_of}
use Rattle.trace_run.specs.Lines.{is_in_shard, replies_where}
use Rattle.trace_run.specs.one_caller.OneCaller.{events_of_op, events_of_all, events_of_drops, events_of_dropping, events_of_hold, events_of_read, kept_after, kept_after_all, kept_after_drop, kept_after_hold, one_caller_histories, one_caller_history}
use Rattle.trace_run.specs.one_caller.PlainReport.{ArePlainReplies, IsPlainReply, IsPlainReport}
use Rattle.trace_run.specs.one_caller.PlainRun.{report_with}
use Rattle.trace_run.specs.Restores.{found_keys, restores_in}

-- ---- replies that do the same

-- both did the same, and both are refusals or none is
pub record IsAlike (a b : Reply) : Type 0 where
  pub effect : effect_of a ≡ effect_of b
  pub refusal : is_refusal a ≡ is_refusal b

abbrev pub AreAlike : List Reply → List Reply → Type 0
AreAlike [] [] = Unit {0}
AreAlike [] (r ∷ rs) = ⊥
AreAlike (p ∷ ps) [] = ⊥
AreAlike (p ∷ ps) (r ∷ rs) = IsAlike p r × AreAlike ps rs

equal-alike : (a b : Reply) → a ≡ b → IsAlike a b
equal-alike a b is = record { effect = ap effect_of is; refusal = ap is_refusal is }

pub plain-alike : (blocks : List Ptr) (op : Op) (plain reply : Reply) → IsPlainReply blocks op plain reply → IsAlike plain reply
plain-alike blocks (ops.Read n t x window) plain reply is = elim is [
  | inl same ↦ equal-alike plain reply (sym same)
  | inr other ↦ record { effect = ap effect_of other.2.plain_is ∙ sym (ap effect_of other.2.reply_is); refusal = ap is_refusal other.2.plain_is ∙ sym (ap is_refusal other.2.reply_is) }
]
plain-alike blocks other plain reply is = equal-alike plain reply (sym is)

all-alike : (blocks : List Ptr) (os : List Op) (ps rs : List Reply) → ArePlainReplies blocks os ps rs → AreAlike ps rs
all-alike blocks [] [] [] are = tt
all-alike blocks [] [] (r ∷ rs) are = absurd are
all-alike blocks [] (p ∷ ps) rs are = absurd are
all-alike blocks (o ∷ os) [] rs are = absurd are
all-alike blocks (o ∷ os) (p ∷ ps) [] are = absurd are
all-alike blocks (o ∷ os) (p ∷ ps) (r ∷ rs) are = (plain-alike blocks o p r are.0, all-alike blocks os ps rs are.1)

-- ---- what follows from what they did

pub alike-events : (blocks : List Ptr) (s : PlainShard) (kept : List KeptRead) (op : Op) (a b : Reply) → effect_of a ≡ effect_of b → events_of_op blocks s kept op a ≡ events_of_op blocks s kept op b
alike-events blocks s kept (ops.Read n t x window) a b same = ap (λ (e : Effect). option_map_or (λ ptr. events_of_read n t s ptr e) (slice_get blocks x) []) same
alike-events blocks s kept (ops.Hold n t x) a b same = ap (λ (e : Effect). option_map_or (λ ptr. events_of_hold n t s ptr e) (slice_get blocks x) []) same
alike-events blocks s kept (ops.Drop n x) a b same = ap (λ (e : Effect). events_of_dropping n x kept e) same
alike-events blocks s kept other a b same = refl

pub alike-kept : (blocks : List Ptr) (kept : List KeptRead) (op : Op) (a b : Reply) → effect_of a ≡ effect_of b → kept_after blocks op a kept ≡ kept_after blocks op b kept
alike-kept blocks kept (ops.Hold n t x) a b same = ap (λ (e : Effect). option_map_or (λ ptr. kept_after_hold x ptr e kept) (slice_get blocks x) kept) same
alike-kept blocks kept (ops.Drop n x) a b same = ap (λ (e : Effect). kept_after_drop x e kept) same
alike-kept blocks kept other a b same = refl

alike-all : (blocks : List Ptr) (s : PlainShard) (kept : List KeptRead) (os : List Op) (ps rs : List Reply) → AreAlike ps rs
    → (events_of_all blocks s kept os ps ≡ events_of_all blocks s kept os rs) × (kept_after_all blocks kept os ps ≡ kept_after_all blocks kept os rs)
alike-all blocks s kept [] ps rs are = (refl, refl)
alike-all blocks s kept (o ∷ os) [] [] are = (refl, refl)
alike-all blocks s kept (o ∷ os) [] (r ∷ rs) are = absurd are
alike-all blocks s kept (o ∷ os) (p ∷ ps) [] are = absurd are
alike-all blocks s kept (o ∷ os) (p ∷ ps) (r ∷ rs) are =
    let events = alike-events blocks s kept o p r are.0.effect in
    let left = alike-kept blocks kept o p r are.0.effect in
    let rest = alike-all blocks (replay s (events_of_op blocks s kept o r)) (kept_after blocks o r kept) os ps rs are.1 in
    let moved : events_of_all blocks s kept (o ∷ os) (p ∷ ps) ≡ events_of_op blocks s kept o r ++ events_of_all blocks (replay s (events_of_op blocks s kept o r)) (kept_after blocks o r kept) os ps =
    λ i. events i ++ events_of_all blocks (replay s (events i)) (left i) os ps in
    let keeps : kept_after_all blocks kept (o ∷ os) (p ∷ ps) ≡ kept_after_all blocks (kept_after blocks o r kept) os ps = λ i. kept_after_all blocks (left i) os ps in
    (moved ∙ ap (λ (l : List Event). events_of_op blocks s kept o r ++ l) rest.0, keeps ∙ rest.1)

alike-where : (test : Op → Bool) (os : List Op) (ps rs : List Reply) → AreAlike ps rs → AreAlike (replies_where test os ps) (replies_where test os rs)
alike-where test [] ps rs are = tt
alike-where test (o ∷ os) [] [] are = tt
alike-where test (o ∷ os) [] (r ∷ rs) are = absurd are
alike-where test (o ∷ os) (p ∷ ps) [] are = absurd are
alike-where test (o ∷ os) (p ∷ ps) (r ∷ rs) are = go (test o) (alike-where test os ps rs are.1)
  where
    go : (t : Bool) → AreAlike (replies_where test os ps) (replies_where test os rs)
        → AreAlike (if t then (p ∷ replies_where test os ps) else replies_where test os ps) (if t then (r ∷ replies_where test os rs) else replies_where test os rs)
    go true rest = (are.0, rest)
    go false rest = rest

alike-history : (blocks : List Ptr) (n : ℕ) (opening : PlainShard) (os : List Op) (ps rs : List Reply) → AreAlike ps rs → one_caller_history blocks n opening os ps ≡ one_caller_history blocks n opening os rs
alike-history blocks n opening os ps rs are =
    let all = alike-all blocks opening [] os ps rs are in
    λ i. all.0 i ++ events_of_drops n (all.1 i)

alike-histories : (shards : ℕ) (blocks : List Ptr) (opening : PlainShard) (begun : ℕ → List Event) (os : List Op) (ps rs : List Reply) → AreAlike ps rs
    → one_caller_histories shards blocks 0 opening begun os ps ≡ one_caller_histories shards blocks 0 opening begun os rs
alike-histories shards blocks opening begun os ps rs are =
    let each = λ (shard : ℕ). alike-history blocks 0 (replay opening (begun shard)) (filter (is_in_shard shards blocks shard) os) (replies_where (is_in_shard shards blocks shard) os ps) (replies_where (is_in_shard shards blocks shard) os rs)
    (alike-where (is_in_shard shards blocks shard) os ps rs are) in
    λ i. map (λ (shard : ℕ). begun shard ++ each shard i) (range_with_len 0 shards)

alike-any : (ps rs : List Reply) → AreAlike ps rs → list_any is_refusal ps ≡ list_any is_refusal rs
alike-any [] [] are = refl
alike-any [] (r ∷ rs) are = absurd are
alike-any (p ∷ ps) [] are = absurd are
alike-any (p ∷ ps) (r ∷ rs) are = let rest = alike-any ps rs are.1 in λ i. are.0.refusal i || rest i

-- ---- the report

pub plain-but : (trace : Trace) (ps : List Reply) (report : Report) → report ≡ report_with trace report.rebuilt report.replies → ArePlainReplies trace.blocks trace.ops ps report.replies
    → IsPlainReport trace (report_with trace report.rebuilt ps) report
plain-but trace ps report is are =
    let rs = report.replies in
    let alike = all-alike trace.blocks trace.ops ps rs are in
    let histories = alike-histories trace.config.shards trace.blocks (opening_of trace.config) (restores_in trace.config (found_keys report.rebuilt)) trace.ops ps rs alike in
    let any = alike-any ps rs alike in
    let same : record (report_with trace report.rebuilt ps) { replies = rs } ≡ report_with trace report.rebuilt rs =
    λ i. record { replies = rs; histories = histories i; ends = ends_of trace.config (histories i); io = None; rebuilt = report.rebuilt; status = if any i then 1 else 0; short = false } in
    record { replies = are; rest = is ∙ sym same }
