-- How many reads of each block a caller keeps.
use Rattle.std.specs.Prelude.{◌≡◌, ℕ, ◌+◌, List, [], ◌∷◌, Option, Some, IfSome, count_by, slice_get}
use Rattle.blk_ptr.specs.declared.ptr.Ptr.{Ptr}
use Rattle.trace_text.specs.declared.op.Op.{Op}
use Rattle.trace_text.specs.declared.op.Op.TheVariants as ops
use Rattle.trace_text.specs.Grammar.{IsOnDeclared}
use Rattle.trace_text.specs.declared.reply.Reply.{Reply}
use Rattle.trace_text.specs.declared.reply.Reply.TheVariants.{Capped}
use Rattle.trace_run.specs.KeptReads.{KeptRead}
use Rattle.trace_run.specs.Answers.{AnswersRead, AnswersHold, AnswersDrop, kept_reads, dropped_reads}
use Rattle.trace_run.specs.Lines.{caller_of}
use Rattle.trace_run.specs.dbufs.ObjectLines.{IsSized}
use Rattle.trace_run.specs.one_caller.OneCaller.{is_of_block, kept_after}

-- how many of the kept reads are of the block
abbrev pub kept_of_block : ℕ → List KeptRead → ℕ
kept_of_block x kept = count_by (is_of_block x) kept

-- the answer to an operation, where these reads are kept
abbrev pub AnswersNow : ℕ → Option (List ℕ) → List Ptr → List KeptRead → Op → Reply → Type 0
AnswersNow pool_len image blocks kept (ops.Read n t x window) reply =
    (ptr : Ptr) × (slice_get blocks x ≡ Some ptr) × AnswersRead pool_len image ptr window reply
AnswersNow pool_len image blocks kept (ops.Hold n t x) reply =
    (ptr : Ptr) × (slice_get blocks x ≡ Some ptr) × AnswersHold pool_len image ptr reply
AnswersNow pool_len image blocks kept (ops.Drop n x) reply = AnswersDrop (kept_of_block x kept) 0 x reply
AnswersNow pool_len image blocks kept (ops.Cap c) reply = reply ≡ Capped c
AnswersNow pool_len image blocks kept other reply = ⊥

-- the kept reads are those that this caller has kept and not dropped
pub record IsTally (caller : ℕ) (ops : List Op) (replies : List Reply) (kept : List KeptRead) : Type 0 where
  pub each : (x : ℕ) → kept_of_block x kept + dropped_reads caller x ops replies ≡ kept_reads caller x ops replies

-- each operation has its answer, one after another, where these reads are kept at first
abbrev pub AreAnswered : ℕ → Option (List ℕ) → List Ptr → List KeptRead → List Op → List Reply → Type 0
AreAnswered pool_len image blocks kept [] [] = Unit {0}
AreAnswered pool_len image blocks kept [] (reply ∷ replies) = ⊥
AreAnswered pool_len image blocks kept (op ∷ ops) [] = ⊥
AreAnswered pool_len image blocks kept (op ∷ ops) (reply ∷ replies) =
    AnswersNow pool_len image blocks kept op reply × AreAnswered pool_len image blocks (kept_after blocks op reply kept) ops replies

-- each operation is on a block that is declared, of so many, or on none; and what is written whole has a size that a block may have
abbrev pub AreDeclared : ℕ → List Op → Type 0
AreDeclared blocks ops = (k : ℕ) (op : Op) → slice_get ops k ≡ Some op → IsOnDeclared blocks op × IsSized op

-- each operation that is a caller's is this caller's
abbrev pub IsOfCaller : ℕ → List Op → Type 0
IsOfCaller caller ops = (k : ℕ) (op : Op) → slice_get ops k ≡ Some op → IfSome (caller_of op) (λ n. n ≡ caller)
