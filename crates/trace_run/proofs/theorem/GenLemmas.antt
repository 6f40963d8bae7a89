-- No read of a made trace is refused.
use Rattle.std.proofs.Common.{◌≡◌, ℕ, zero, suc, ◌+◌, ◌-◌, ◌*◌, ◌%◌, ◌<◌, ◌≤◌, Bool, true, false, cond, List, [], ◌∷◌, length, map, replicate, None, Some, inl, inr, refl, sym, ap, subst, ◌∙◌, arith}
use Rattle.std.specs.Prelude.{count_by, slice_get}
use Rattle.std.specs.List.{AllByRecursion, list_any, range_with_len}
use Rattle.std.proofs.lemmas.Bool.{false≢true}
use Rattle.std.proofs.lemmas.List.{drop-replicate, length-replicate, take-replicate}
use Rattle.std.proofs.lemmas.List.Sums.{sum_by-cons}
use Rattle.arc_lists.proofs.Tables.{cases_true, some_is}
use Rattle.blk_ptr.specs.declared.key.KeyFault.{KeyFault}
use Rattle.blk_ptr.specs.declared.key.KeyFault.TheVariants as fault
use Rattle.blk_ptr.specs.declared.ptr.Ptr.{Ptr}
use Rattle.blk_ptr.specs.Key.{IsFirstKeyFault}
use Rattle.blk_ptr.specs.Ptr.{IsOf, range_of}
use Rattle.trace_text.specs.declared.mapping.Mapping.{Mapping}
use Rattle.trace_text.specs.declared.op.Op.{Op}
use Rattle.trace_text.specs.declared.op.Op.TheVariants as ops
use Rattle.trace_text.specs.declared.reply.Reply.{Reply}
use Rattle.trace_text.specs.declared.reply.Reply.TheVariants.{Read, Refused}
use Rattle.trace_text.specs.declared.reply.Refusal.TheVariants as refusal
use Rattle.trace_text.specs.declared.report.Report.{Report}
use Rattle.trace_text.specs.declared.trace.Trace.{Trace}
use Rattle.dbuf_state.specs.declared.window.Window.{Window}
use Rattle.arc_core.specs.declared.config.Config.{Config}
use Rattle.trace_text.specs.Generator.{IsGenerated, empty_window, generated_block, generated_read, generated_sizes, zero_digest}
use Rattle.vdev_io.specs.declared.pool.Pool.{Ghosts}
use Rattle.dbuf_state.specs.Dbufs.{window_of}
use Rattle.trace_run.specs.Answers.{Answers, AnswersAll, AnswersRead, is_pool_fault, is_refusal}
use Rattle.arc_table.specs.Telling.{opening_of}
use Rattle.trace_run.specs.Lines.{has_further, is_further}
use Rattle.trace_run.specs.Outcome.{generated}
use Rattle.trace_run.specs.one_caller.PlainReport.{ArePlainReplies, IsPlainReply, IsPlainReport, ShowsCollision}
use Rattle.trace_run.specs.one_caller.PlainRun.{Images, no_contents, plain_report, report_with}
use Rattle.vdev_io.specs.Calls.{Failed, Gave, MakesCalls, Call}
use Rattle.trace_run.proofs.one_caller.PlainLemmas.{AllGive, plain-gives}

-- ---- lists by their places

all-at : {X : Type 0} (P : X → Type 0) (xs : List X) (k : ℕ) (x : X) → AllByRecursion P xs → slice_get xs k ≡ Some x → P x
all-at P [] k x all at = cc
all-at P (y ∷ ys) zero x all at = subst P (some_is at) all.0
all-at P (y ∷ ys) (suc k) x all at = all-at P ys k x all.1 at

get-some : {X : Type 0} (xs : List X) (k : ℕ) → k < length xs → (x : X) × (slice_get xs k ≡ Some x)
get-some [] k lt = absurd (omega arith)
get-some (y ∷ ys) zero lt = (y, refl)
get-some (y ∷ ys) (suc k) lt = get-some ys k (omega arith)

get-within : {X : Type 0} (xs : List X) (k : ℕ) (x : X) → slice_get xs k ≡ Some x → k < length xs
get-within [] k x at = cc
get-within (y ∷ ys) zero x at = omega arith
get-within (y ∷ ys) (suc k) x at = omega (arith, get-within ys k x at)

counted-at : {X : Type 0} (p : X → Bool) (xs : List X) (k : ℕ) (x : X) → slice_get xs k ≡ Some x → p x ≡ true → 0 < count_by p xs
counted-at p [] k x at passes = cc
counted-at p (y ∷ ys) zero x at passes =
    let here : p y ≡ true = ap p (some_is at) ∙ passes in
    let one : ◌≡◌ {A = ℕ} (cond (p y) 1 0) 1 = rw here refl in
    omega (arith, sum_by-cons (λ z. cond (p z) 1 0) y ys, one)
counted-at p (y ∷ ys) (suc k) x at passes = omega (arith, sum_by-cons (λ z. cond (p z) 1 0) y ys, counted-at p ys k x at passes)

none-any : {X : Type 0} (p : X → Bool) (xs : List X) → ((k : ℕ) (x : X) → slice_get xs k ≡ Some x → p x ≡ false) → list_any p xs ≡ false
none-any p [] each = refl
none-any p (x ∷ xs) each = rw (each 0 x refl) (none-any p xs (λ k y at. each (suc k) y at))

all-mapped : {X Y : Type 0} (P : Y → Type 0) (f : X → Y) (xs : List X) → AllByRecursion (λ x. P (f x)) xs → AllByRecursion P (map f xs)
all-mapped P f [] all = tt
all-mapped P f (x ∷ xs) all = (all.0, all-mapped P f xs all.1)

all-any : {X : Type 0} (P : X → Type 0) (xs : List X) → ((x : X) → P x) → AllByRecursion P xs
all-any P [] each = tt
all-any P (x ∷ xs) each = (each x, all-any P xs each)

range-below : (from count most : ℕ) → from + count ≤ most → AllByRecursion (λ i. i < most) (range_with_len from count)
range-below from zero most le = tt
range-below from (suc n) most le = (omega arith, range-below (from + 1) n most (omega arith))

-- ---- what a made trace has

-- a read with an empty window
abbrev IsMadeRead : Op → Type 0
IsMadeRead (ops.Read n t x window) = window ≡ empty_window
IsMadeRead other = ⊥

abbrev IsMadeBlock : ℕ → Ptr → Type 0
IsMadeBlock blocks ptr = (i : ℕ) × (i < blocks) × (ptr ≡ generated_block i)

made-reads : (seed blocks ops : ℕ) (trace : Trace) → IsGenerated seed blocks ops trace → AllByRecursion IsMadeRead trace.ops
made-reads seed blocks ops trace made =
    rw made.ops (all-mapped IsMadeRead (generated_read seed blocks) (range_with_len 0 ops) (all-any (λ i. IsMadeRead (generated_read seed blocks i)) (range_with_len 0 ops) (λ i. refl)))

made-blocks : (seed blocks ops : ℕ) (trace : Trace) → IsGenerated seed blocks ops trace → AllByRecursion (IsMadeBlock blocks) trace.blocks
made-blocks seed blocks ops trace made =
    rw made.blocks (all-mapped (IsMadeBlock blocks) generated_block (range_with_len 0 blocks) (all-below (range_with_len 0 blocks) (range-below 0 blocks blocks (omega arith))))
  where
    all-below : (is : List ℕ) → AllByRecursion (λ i. i < blocks) is → AllByRecursion (λ i. IsMadeBlock blocks (generated_block i)) is
    all-below [] all = tt
    all-below (i ∷ is) all = ((i, all.0, refl), all-below is all.1)

-- ---- none of its refusals can come

zeros : (blocks i : ℕ) → i < blocks → range_of (replicate (blocks * 512) 0) (generated_block i).key ≡ replicate 512 0
zeros blocks i lt = rw drop-replicate (take-replicate 512 (blocks * 512 - i * 512) 0 (omega arith))

of-zeros : (blocks i : ℕ) → i < blocks → IsOf (range_of (replicate (blocks * 512) 0) (generated_block i).key) (generated_block i)
unfolding zero_digest
of-zeros blocks i lt = rw (zeros blocks i lt) (record { size = length-replicate {A = ℕ} 512 0; digest = refl })

aligned : (i : ℕ) → i * 512 % 512 ≡ 0
aligned i = omega arith

valid-key : (blocks i : ℕ) (why : KeyFault) → i < blocks → IsFirstKeyFault (blocks * 512) (generated_block i).key why → ⊥
valid-key blocks i fault.Unaligned lt fails = fails (aligned i)
valid-key blocks i fault.Size lt fails = fails.1 (refl, omega arith, omega arith)
valid-key blocks i (fault.OutOfPool end len) lt fails = absurd (omega (arith, fails.4))
valid-key blocks i fault.BirthZero lt fails = absurd (omega (arith, fails.3))

no-refusal : (blocks : ℕ) (ptr : Ptr) (reply : Reply) → IsMadeBlock blocks ptr → is_pool_fault reply ≡ false
    → AnswersRead (blocks * 512) (Some (replicate (blocks * 512) 0)) ptr empty_window reply → is_refusal reply ≡ false
no-refusal blocks ptr (Read served digest shown) made served_well answer = refl
no-refusal blocks ptr (Refused refusal.PoolFault) made served_well answer = absurd (false≢true (sym served_well))
no-refusal blocks ptr (Refused (refusal.Mismatch digest)) made served_well answer =
    absurd (answer.1.1.plain.1 (rw made.2 (of-zeros blocks made.0 made.1)))
no-refusal blocks ptr (Refused (refusal.Key why)) made served_well answer =
    absurd (valid-key blocks made.0 why made.1 (subst (λ (p : Ptr). IsFirstKeyFault (blocks * 512) p.key why) made.2 answer.1))
no-refusal blocks ptr (Refused (refusal.Range end size)) made served_well answer = absurd (omega (arith, answer.0, answer.2))
no-refusal blocks ptr (Refused other) made served_well answer = absurd answer
no-refusal blocks ptr other made served_well answer = refl

answered : (seed blocks ops : ℕ) (trace : Trace) (earlier : List Op) (replied : List Reply) (op : Op) (reply : Reply) → IsGenerated seed blocks ops trace → IsMadeRead op → is_pool_fault reply ≡ false
    → Answers (blocks * 512) (Some (replicate (blocks * 512) 0)) trace.blocks earlier replied op reply → is_refusal reply ≡ false
answered seed blocks count trace earlier replied (ops.Read n t x window) reply made read fair answer =
    no-refusal blocks answer.0 reply (all-at (IsMadeBlock blocks) trace.blocks x answer.0 (made-blocks seed blocks count trace made) answer.1) fair
    (subst (λ (w : Window). AnswersRead (blocks * 512) (Some (replicate (blocks * 512) 0)) answer.0 w reply) read answer.2)
answered seed blocks count trace earlier replied other reply made read fair answer = absurd read

not-counted : (replies : List Reply) (k : ℕ) (reply : Reply) → count_by is_pool_fault replies ≡ 0 → slice_get replies k ≡ Some reply → is_pool_fault reply ≡ false
not-counted replies k reply none at = elim (cases_true (is_pool_fault reply)) [
  | inl fails ↦ absurd (omega (arith, none, counted-at is_pool_fault replies k reply at fails))
  | inr fair ↦ fair
]

pub none-refused : (seed blocks ops : ℕ) (trace : Trace) (replies : List Reply) → IsGenerated seed blocks ops trace
    → AnswersAll (blocks * 512) (Some (replicate (blocks * 512) 0)) trace.blocks trace.ops replies → count_by is_pool_fault replies ≡ 0 → list_any is_refusal replies ≡ false
none-refused seed blocks count trace replies made answers none =
    none-any is_refusal replies (λ k reply at.
    let lt : k < length trace.ops = omega (arith, get-within replies k reply at, answers.all) in
    let some = get-some trace.ops k lt in
    answered seed blocks count trace _ _ some.0 reply made (all-at IsMadeRead trace.ops k some.0 (made-reads seed blocks count trace made) some.1)
    (not-counted replies k reply none at) (answers.each k some.0 reply some.1 at))

-- ---- no read of its pool fails

pub never-failed : {P : Type 0} (pool : Ghosts P) → ((p : P) → pool.faults p ≡ 0) → (calls : List Call) (a b : P) → MakesCalls pool calls a b → AllGive calls
never-failed pool none [] a b made = tt
never-failed pool none (Gave ∷ calls) a b made = (refl, never-failed pool none calls made.0 b made.2)
never-failed pool none (Failed ∷ calls) a b made =
    let one : pool.faults made.0 ≡ pool.faults a + 1 = made.1.faults.more (omega (arith, none a)) in
    absurd (omega (arith, one, none a, none made.0))

-- ---- the report is a function of the three numbers: an empty window shows nothing, whichever content of a digest it is of

empty-shows : (ptr : Ptr) (window : Window) (plain reply : Reply) → window ≡ empty_window → ShowsCollision ptr window plain reply → reply ≡ plain
empty-shows ptr window plain reply empty other =
    let nothing : (l : List ℕ) → window_of window l ≡ [] = λ l. ap (λ (w : Window). window_of w l) empty in
    other.reply_is ∙ ap (λ (l : List ℕ). Read other.from ptr.digest l) (nothing other.bytes ∙ sym (nothing other.others)) ∙ sym other.plain_is

made-reply : (blocks : List Ptr) (op : Op) (plain reply : Reply) → IsMadeRead op → IsPlainReply blocks op plain reply → reply ≡ plain
made-reply blocks (ops.Read n t x window) plain reply read is = elim is [
  | inl same ↦ same
  | inr other ↦ empty-shows other.0 window plain reply read other.2
]
made-reply blocks other plain reply read is = is

made-replies : (blocks : List Ptr) (os : List Op) (ps rs : List Reply) → AllByRecursion IsMadeRead os → ArePlainReplies blocks os ps rs → rs ≡ ps
made-replies blocks [] [] [] reads are = refl
made-replies blocks [] [] (r ∷ rs) reads are = absurd are
made-replies blocks [] (p ∷ ps) rs reads are = absurd are
made-replies blocks (o ∷ os) [] rs reads are = absurd are
made-replies blocks (o ∷ os) (p ∷ ps) [] reads are = absurd are
made-replies blocks (o ∷ os) (p ∷ ps) (r ∷ rs) reads are =
    let first = made-reply blocks o p r reads.0 are.0 in
    let rest = made-replies blocks os ps rs reads.1 are.1 in
    λ i. first i ∷ rest i

pub made-plain : (seed blocks ops : ℕ) (trace : Trace) (plain report : Report) → IsGenerated seed blocks ops trace → IsPlainReport trace plain report → report ≡ plain
made-plain seed blocks ops trace plain report made is =
    is.rest ∙ ap (λ (rs : List Reply). record plain { replies = rs }) (made-replies trace.blocks trace.ops plain.replies report.replies (made-reads seed blocks ops trace made) is.replies)

pub made-trace : (seed blocks ops : ℕ) (trace : Trace) → IsGenerated seed blocks ops trace → trace ≡ generated seed blocks ops
made-trace seed blocks ops trace made =
    let first : Trace = record { config = generated_sizes blocks; blocks = trace.blocks; objects = trace.objects; ops = trace.ops } in
    ap (λ (c : Config). record first { config = c }) made.config
    ∙ ap (λ (bs : List Ptr). record first { blocks = bs }) made.blocks
    ∙ ap (λ (ms : List Mapping). record (generated seed blocks ops) { objects = ms; ops = trace.ops }) made.objects
    ∙ ap (λ (os : List Op). record (generated seed blocks ops) { ops = os }) made.ops

-- all its lines are reads, which the program does
pub made-done : (seed blocks ops : ℕ) (trace : Trace) → IsGenerated seed blocks ops trace → has_further trace.ops ≡ false
made-done seed blocks ops trace drawn = ap (λ (t : Trace). has_further t.ops) (made-trace seed blocks ops trace drawn) ∙ none-undone (range_with_len 0 ops)
  where
    none-undone : (ns : List ℕ) → list_any is_further (map (generated_read seed blocks) ns) ≡ false
    none-undone [] = refl
    none-undone (n ∷ ns) = none-undone ns

pub made-report : (seed blocks ops : ℕ) (trace : Trace) (from : Images) (calls : List Call) → trace ≡ generated seed blocks ops → AllGive calls
    → plain_report trace None from calls [] ≡ plain_report (generated seed blocks ops) None from [] []
made-report seed blocks ops trace from calls is give =
    ap (λ (l : List Reply). report_with trace None l) (plain-gives from trace.config.shards trace.blocks (λ shard. opening_of trace.config) [] no_contents trace.ops calls [] give)
    ∙ ap (λ (t : Trace). plain_report t None from [] []) is
