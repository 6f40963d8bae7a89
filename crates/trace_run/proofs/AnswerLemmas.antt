-- What one more operation and its reply add to those before.
use Rattle.std.proofs.Common.{◌≡◌, ℕ, zero, suc, ◌+◌, ◌<◌, ◌==◌, ◌&&◌, cond, Bool, true, IfSome, List, [], ◌∷◌, ◌++◌, length, take, Option, Some, refl, sym, ap, ◌∙◌, arith, inl, inr, add-one, length-append}
use Rattle.std.proofs.lemmas.Bool.Decides.{nat_tests}
use Rattle.std.specs.Prelude.{◌≢◌, if◌then◌else◌, count_by, slice_get}
use Rattle.std.proofs.lemmas.Bool.{cases_lt}
use Rattle.std.proofs.lemmas.List.{take-append-le, length-take-le}
use Rattle.std.proofs.lemmas.Option.{slice_get_within, get_or_from_slice_get}
use Rattle.std.proofs.Math.Seq.{take-append_seam, take-suc}
use Rattle.blk_ptr.specs.declared.ptr.Ptr.{Ptr}
use Rattle.trace_text.specs.declared.op.Op.{Op}
use Rattle.trace_text.specs.declared.reply.Reply.{Reply}
use Rattle.trace_text.specs.declared.op.Op.TheVariants as ops
use Rattle.trace_text.specs.declared.reply.Reply.TheVariants.{Dropped, Refused}
use Rattle.trace_text.specs.declared.reply.Refusal.TheVariants.{NoHold}
use Rattle.trace_run.specs.Answers.{Answers, AnswersDrop, keeps, keeps_one, drops, drops_one, kept_reads, dropped_reads}
use Rattle.trace_run.specs.Effects.{Effect, Answered, GivenBack, PoolRefused, NoEffect, effect_of}
use Rattle.trace_run.specs.one_caller.OneCaller.{is_of_block, kept_after, kept_after_drop, kept_after_hold, key_held_by, without_oldest}
use Rattle.trace_run.specs.KeptReads.{KeptRead, kept_read}
use Rattle.arc_lists.proofs.Tables.{cases_true}
use Rattle.std.proofs.lemmas.Bool.{eqb-true, false≢true}
use Rattle.std.proofs.lemmas.List.Sums.{sum_by-append, sum_by-cons}
use Rattle.trace_run.specs.Lines.{caller_of}
use Rattle.trace_run.specs.Tally.{AnswersNow, IsTally, kept_of_block}

-- one more element at the end changes none before it
slice_get_below : {X : Type 0} (xs : List X) (y : X) (k : ℕ) → k < length xs → slice_get (xs ++ y ∷ []) k ≡ slice_get xs k
slice_get_below [] y k h = absurd (omega arith)
slice_get_below (x ∷ xs) y zero h = refl
slice_get_below (x ∷ xs) y (suc k) h = slice_get_below xs y k (omega arith)

slice_get_last : {X : Type 0} (xs : List X) (y : X) → slice_get (xs ++ y ∷ []) (length xs) ≡ Some y
slice_get_last [] y = refl
slice_get_last (x ∷ xs) y = slice_get_last xs y

-- each operation so far has its answer
abbrev pub EachAnswers : ℕ → Option (List ℕ) → List Ptr → List Op → List Reply → Type 0
EachAnswers pool_len image blocks ops replies = (k : ℕ) (op : Op) (reply : Reply) → slice_get ops k ≡ Some op → slice_get replies k ≡ Some reply →
    Answers pool_len image blocks (take k ops) (take k replies) op reply

some_same : {X : Type 0} (a b : X) → Some a ≡ Some b → a ≡ b
some_same a b e = cc

pub more_answers : (pool_len : ℕ) (image : Option (List ℕ)) (blocks : List Ptr) (ops : List Op) (replies : List Reply) (o : Op) (r : Reply)
    → slice_get ops (length replies) ≡ Some o → EachAnswers pool_len image blocks ops replies
    → Answers pool_len image blocks (take (length replies) ops) replies o r
    → EachAnswers pool_len image blocks ops (replies ++ r ∷ [])
more_answers pool_len image blocks ops replies o r here each answer k op reply at told =
    let bound : k < length (replies ++ r ∷ []) = slice_get_within (replies ++ r ∷ []) k reply told in
    let size = length-append replies (r ∷ []) in
    elim (cases_lt k (length replies)) [
      | inl below ↦
          let front : take k (replies ++ r ∷ []) ≡ take k replies = take-append-le k replies (r ∷ []) (omega arith) in
          rw front (each k op reply at (sym (slice_get_below replies r k below) ∙ told))
      | inr above ↦
          let last : k ≡ length replies = omega arith in
          let same_op : op ≡ o = some_same op o (sym (rw last at at) ∙ here) in
          let same_reply : reply ≡ r = some_same reply r (sym (rw last at told) ∙ slice_get_last replies r) in
          rw (last, take-append_seam replies (r ∷ []), same_op, same_reply) answer
    ]

-- one more element of a list
pub take_one : {X : Type 0} (xs : List X) (i : ℕ) (x : X) → slice_get xs i ≡ Some x → take (i + 1) xs ≡ take i xs ++ x ∷ []
take_one xs i x h =
    rw add-one (take-suc xs i x (slice_get_within xs i x h) ∙ ap (λ (v : _). take i xs ++ v ∷ []) (get_or_from_slice_get xs i x x h))

pub kept_reads-snoc : (caller block : ℕ) (ops : List Op) (replies : List Reply) (op : Op) (reply : Reply) → length replies ≡ length ops
    → kept_reads caller block (ops ++ op ∷ []) (replies ++ reply ∷ []) ≡ kept_reads caller block ops replies + keeps caller block op reply
kept_reads-snoc caller block [] [] op reply same = omega arith
kept_reads-snoc caller block [] (r ∷ rs) op reply same = absurd (omega arith)
kept_reads-snoc caller block (o ∷ os) [] op reply same = absurd (omega arith)
kept_reads-snoc caller block (o ∷ os) (r ∷ rs) op reply same =
    let rest = kept_reads-snoc caller block os rs op reply (omega arith) in omega (arith, rest)

pub dropped_reads-snoc : (caller block : ℕ) (ops : List Op) (replies : List Reply) (op : Op) (reply : Reply) → length replies ≡ length ops
    → dropped_reads caller block (ops ++ op ∷ []) (replies ++ reply ∷ []) ≡ dropped_reads caller block ops replies + drops caller block op reply
dropped_reads-snoc caller block [] [] op reply same = omega arith
dropped_reads-snoc caller block [] (r ∷ rs) op reply same = absurd (omega arith)
dropped_reads-snoc caller block (o ∷ os) [] op reply same = absurd (omega arith)
dropped_reads-snoc caller block (o ∷ os) (r ∷ rs) op reply same =
    let rest = dropped_reads-snoc caller block os rs op reply (omega arith) in omega (arith, rest)

test : ℕ → ℕ → ℕ
test x block = if x == block then 1 else 0

test_true : (n : ℕ) → (n == n) ≡ true
test_true n = grind (arith, nat_tests)

test_other : (m n : ℕ) → m ≢ n → test m n ≡ 0
unfolding test
test_other m n ne = grind (arith, nat_tests)

-- one more reply counts where it passes the test
count_by-snoc : {X : Type 0} (p : X → Bool) (xs : List X) (y : X) → count_by p (xs ++ y ∷ []) ≡ count_by p xs + cond (p y) 1 0
count_by-snoc p xs y =
    let parts : count_by p (xs ++ y ∷ []) ≡ count_by p xs + (0 + cond (p y) 1 0) = sum_by-append (λ x. cond (p x) 1 0) xs (y ∷ []) in
    omega (arith, parts)

-- the caller's own operation counts
own : (n caller block x : ℕ) → n ≡ caller → (if n == caller && block == x then 1 else 0) ≡ test block x
unfolding test
own n caller block x e = grind (arith, nat_tests)

-- a read that is kept is one more of its block
kept_one : (read : KeptRead) (x : ℕ) → cond (is_of_block x read) 1 0 ≡ test read.block x
unfolding test
kept_one read x = refl

raised : (kept : List KeptRead) (read : KeptRead) (x : ℕ) → kept_of_block x (kept ++ read ∷ []) ≡ kept_of_block x kept + test read.block x
raised kept read x = count_by-snoc (is_of_block x) kept read ∙ ap (λ n. kept_of_block x kept + n) (kept_one read x)

kept-cons : (read : KeptRead) (reads : List KeptRead) (x : ℕ) → kept_of_block x (read ∷ reads) ≡ test read.block x + kept_of_block x reads
kept-cons read reads x = sum_by-cons (λ r. cond (is_of_block x r) 1 0) read reads ∙ ap (λ n. n + kept_of_block x reads) (kept_one read x)

-- the oldest read of a block that is given back is one less
lowered : (kept : List KeptRead) (block x : ℕ) → 0 < kept_of_block block kept → kept_of_block x (without_oldest block kept) + test block x ≡ kept_of_block x kept
lowered [] block x some = absurd (omega arith)
lowered (read ∷ reads) block x some = elim (cases_true (is_of_block block read)) [
  | inl here ↦
      let is : read.block ≡ block = eqb-true read.block block here in
      let one : test read.block x ≡ test block x = ap (λ b. test b x) is in
      rw here (omega (arith, kept-cons read reads x, one))
  | inr later ↦
      let none : test read.block block ≡ 0 = test_other read.block block (λ e. false≢true (sym later ∙ ap (λ b. b == block) e ∙ test_true block)) in
      let rest = lowered reads block x (omega (arith, kept-cons read reads block, none, some)) in
      rw later (omega (arith, kept-cons read (without_oldest block reads) x, kept-cons read reads x, rest))
]

-- a read that is to be kept changes the kept reads by what it keeps
hold_step : (ptr : Ptr) (n caller y x : ℕ) (kept : List KeptRead) (e : Effect) → n ≡ caller
    → kept_of_block x (kept_after_hold y ptr e kept) ≡ kept_of_block x kept + keeps_one e (n == caller && y == x)
hold_step ptr n caller y x kept (Answered from) same =
    let more = raised kept (kept_read y (key_held_by ptr from)) x in
    let mine = own n caller y x same in
    omega (arith, more, mine)
hold_step ptr n caller y x kept GivenBack same = omega arith
hold_step ptr n caller y x kept (PoolRefused call) same = omega arith
hold_step ptr n caller y x kept NoEffect same = omega arith

-- and a drop by what it gives back
drop_step : (n caller y x : ℕ) (kept : List KeptRead) (reply : Reply) → n ≡ caller → AnswersDrop (kept_of_block y kept) 0 y reply
    → kept_of_block x (kept_after_drop y (effect_of reply) kept) + drops_one (effect_of reply) (n == caller && y == x) ≡ kept_of_block x kept
drop_step n caller y x kept Dropped same answer =
    let less = lowered kept y x answer in
    let mine = own n caller y x same in
    omega (arith, less, mine)
drop_step n caller y x kept (Refused (NoHold missing)) same answer = omega arith
drop_step n caller y x kept (Refused other) same answer = absurd answer
drop_step n caller y x kept other same answer = absurd answer

-- an operation and its reply change the kept reads by what they keep and drop
one_step : (pool_len : ℕ) (image : Option (List ℕ)) (blocks : List Ptr) (caller : ℕ) (kept : List KeptRead) (o : Op) (r : Reply) (x : ℕ)
    → IfSome (caller_of o) (λ n. n ≡ caller) → AnswersNow pool_len image blocks kept o r
    → kept_of_block x (kept_after blocks o r kept) + drops caller x o r ≡ kept_of_block x kept + keeps caller x o r
one_step pool_len image blocks caller kept (ops.Read n t y w) r x same answer = refl
one_step pool_len image blocks caller kept (ops.Hold n t y) r x same answer =
    let step = hold_step answer.0 n caller y x kept (effect_of r) same in
    rw answer.1 (omega (arith, step))
one_step pool_len image blocks caller kept (ops.Drop n y) r x same answer =
    let step = drop_step n caller y x kept r same answer in
    omega (arith, step)
one_step pool_len image blocks caller kept (ops.Cap c) r x same answer = refl
one_step pool_len image blocks caller kept other r x same answer = absurd answer

pub more_tally : (pool_len : ℕ) (image : Option (List ℕ)) (blocks : List Ptr) (caller : ℕ) (ops : List Op) (replies : List Reply) (kept : List KeptRead) (o : Op) (r : Reply)
    → slice_get ops (length replies) ≡ Some o → IsTally caller (take (length replies) ops) replies kept
    → IfSome (caller_of o) (λ n. n ≡ caller) → AnswersNow pool_len image blocks kept o r
    → IsTally caller (take (length replies + 1) ops) (replies ++ r ∷ []) (kept_after blocks o r kept)
more_tally pool_len image blocks caller ops replies kept o r here tally same answer = record {
  each = λ x.
      let inside : length replies < length ops = slice_get_within ops (length replies) o here in
      let front : take (length replies + 1) ops ≡ take (length replies) ops ++ o ∷ [] = take_one ops (length replies) o here in
      let size : length replies ≡ length (take (length replies) ops) = sym (length-take-le (length replies) ops (omega arith)) in
      let was = tally.each x in
      let step = one_step pool_len image blocks caller kept o r x same answer in
      let more_kept = kept_reads-snoc caller x (take (length replies) ops) replies o r size in
      let more_dropped = dropped_reads-snoc caller x (take (length replies) ops) replies o r size in
      rw front (omega (arith, was, step, more_kept, more_dropped));
}

-- an answer by the counts is one by the operations and replies before it
pub to_answer : (pool_len : ℕ) (image : Option (List ℕ)) (blocks : List Ptr) (caller : ℕ) (earlier : List Op) (replies : List Reply) (kept : List KeptRead) (o : Op) (r : Reply)
    → IsTally caller earlier replies kept → IfSome (caller_of o) (λ n. n ≡ caller) → AnswersNow pool_len image blocks kept o r
    → Answers pool_len image blocks earlier replies o r
to_answer pool_len image blocks caller earlier replies kept (ops.Read n t y w) r tally same answer = answer
to_answer pool_len image blocks caller earlier replies kept (ops.Hold n t y) r tally same answer = answer
to_answer pool_len image blocks caller earlier replies kept (ops.Drop n y) Dropped tally same answer =
    let here = tally.each y in rw same (omega (arith, here, answer))
to_answer pool_len image blocks caller earlier replies kept (ops.Drop n y) (Refused (NoHold missing)) tally same answer =
    let here = tally.each y in rw same (answer.0, omega (arith, here, answer.1))
to_answer pool_len image blocks caller earlier replies kept (ops.Drop n y) (Refused other) tally same answer = answer
to_answer pool_len image blocks caller earlier replies kept (ops.Drop n y) other tally same answer = answer
to_answer pool_len image blocks caller earlier replies kept (ops.Cap c) r tally same answer = answer
to_answer pool_len image blocks caller earlier replies kept (ops.Txg t) r tally same answer = absurd answer
to_answer pool_len image blocks caller earlier replies kept ops.Feed r tally same answer = absurd answer
to_answer pool_len image blocks caller earlier replies kept (ops.Get n t at w) r tally same answer = absurd answer
to_answer pool_len image blocks caller earlier replies kept (ops.Put n t at size fill) r tally same answer = absurd answer
to_answer pool_len image blocks caller earlier replies kept (ops.Patch n t at from bytes) r tally same answer = absurd answer
to_answer pool_len image blocks caller earlier replies kept (ops.Pin n t at) r tally same answer = absurd answer
to_answer pool_len image blocks caller earlier replies kept (ops.Unpin n at) r tally same answer = absurd answer
