-- A report beside that of the plain run: all is the same, but that a read which did not find its block in the pool may show another
-- content of its digest.
use Rattle.std.specs.Prelude.{◌≡◌, ◌≢◌, ◌⊎◌, ℕ, List, [], ◌∷◌, Some, slice_get}
use Rattle.blk_ptr.specs.declared.ptr.Ptr.{Ptr}
use Rattle.blk_ptr.specs.Ptr.{IsOf}
use Rattle.arc_core.specs.declared.served.Served.{Served}
use Rattle.trace_text.specs.declared.op.Op.{Op}
use Rattle.trace_text.specs.declared.op.Op.TheVariants as ops
use Rattle.trace_text.specs.declared.reply.Reply.{Reply}
use Rattle.trace_text.specs.declared.reply.Reply.TheVariants.{Read}
use Rattle.trace_text.specs.declared.report.Report.{Report}
use Rattle.trace_text.specs.declared.trace.Trace.{Trace}
use Rattle.dbuf_state.specs.declared.window.Window.{Window}
use Rattle.dbuf_state.specs.Dbufs.{window_of}
use Rattle.trace_run.specs.Read.{IsFromPool}

-- The block was found cached, or on the cache device, and the window is of bytes that are of the pointer. Those of the plain run are of it too, and are
-- others: two contents share its digest.
pub record ShowsCollision (ptr : Ptr) (window : Window) (plain reply : Reply) : Type 0 where
  pub from : Served
  pub elsewhere : ¬ IsFromPool from
  pub bytes : List ℕ
  pub others : List ℕ
  pub of : IsOf bytes ptr
  pub others_of : IsOf others ptr
  pub other : bytes ≢ others
  pub plain_is : plain ≡ Read from ptr.digest (window_of window others)
  pub reply_is : reply ≡ Read from ptr.digest (window_of window bytes)

-- the reply is the plain run's, or it is of a read and shows another content of the digest
abbrev pub IsPlainReply : List Ptr → Op → (plain reply : Reply) → Type 0
IsPlainReply blocks (ops.Read n t x window) plain reply =
    (reply ≡ plain) ⊎ ((ptr : Ptr) × (slice_get blocks x ≡ Some ptr) × ShowsCollision ptr window plain reply)
IsPlainReply blocks (ops.Hold n t x) plain reply = reply ≡ plain
IsPlainReply blocks (ops.Drop n x) plain reply = reply ≡ plain
IsPlainReply blocks (ops.Get n t at window) plain reply = reply ≡ plain
IsPlainReply blocks (ops.Put n t at size fill) plain reply = reply ≡ plain
IsPlainReply blocks (ops.Patch n t at from bytes) plain reply = reply ≡ plain
IsPlainReply blocks (ops.Pin n t at) plain reply = reply ≡ plain
IsPlainReply blocks (ops.Unpin n at) plain reply = reply ≡ plain
IsPlainReply blocks ops.Feed plain reply = reply ≡ plain
IsPlainReply blocks (ops.Txg t) plain reply = reply ≡ plain
IsPlainReply blocks (ops.Cap c) plain reply = reply ≡ plain

-- each reply is, in their order
abbrev pub ArePlainReplies : List Ptr → List Op → (plain replies : List Reply) → Type 0
ArePlainReplies blocks [] [] [] = Unit {0}
ArePlainReplies blocks [] [] (r ∷ rs) = ⊥
ArePlainReplies blocks [] (p ∷ ps) rs = ⊥
ArePlainReplies blocks (op ∷ ops) [] rs = ⊥
ArePlainReplies blocks (op ∷ ops) (p ∷ ps) [] = ⊥
ArePlainReplies blocks (op ∷ ops) (p ∷ ps) (r ∷ rs) = IsPlainReply blocks op p r × ArePlainReplies blocks ops ps rs

-- The replies are those of the plain report, but for such reads, and all else is the same: the histories, the ends and the status.
pub record IsPlainReport (trace : Trace) (plain report : Report) : Type 0 where
  pub replies : ArePlainReplies trace.blocks trace.ops plain.replies report.replies
  pub rest : report ≡ record plain { replies = report.replies }
