-- What the answer to one operation comes to.
use Rattle.dbuf_state.specs.Dbufs.{window_of}
use Rattle.std.specs.Prelude.{◌≡◌, ℕ, List, IfSome, slice_get}
use Rattle.blk_ptr.specs.declared.ptr.Ptr.{Ptr}
use Rattle.blk_ptr.specs.Ptr.{IsOf, range_of}
use Rattle.trace_text.specs.declared.op.Op.{Op}
use Rattle.trace_text.specs.declared.op.Op.TheVariants as ops
use Rattle.trace_text.specs.declared.reply.Reply.{Reply}
use Rattle.trace_text.specs.declared.reply.Reply.TheVariants as replies
use Rattle.dbuf_state.specs.declared.window.Window.{Window}

-- What is shown are the bytes that the image has in the key's range, and these are of the pointer.
pub record ShowsRange (image : List ℕ) (ptr : Ptr) (window : Window) (shown : List ℕ) : Type 0 where
  pub of : IsOf (range_of image ptr.key) ptr
  pub range : shown ≡ window_of window (range_of image ptr.key)

-- an answered read shows the bytes that the image has in its key's range, and a kept one is of these bytes
abbrev pub ReadsImage : (image : List ℕ) → Ptr → Window → Reply → Type 0
ReadsImage image ptr window (replies.Read served digest shown) = ShowsRange image ptr window shown
ReadsImage image ptr window other = Unit {0}

abbrev pub KeepsImage : (image : List ℕ) → Ptr → Reply → Type 0
KeepsImage image ptr (replies.Kept served) = IsOf (range_of image ptr.key) ptr
KeepsImage image ptr other = Unit {0}

abbrev pub IsReadOfImage : (image : List ℕ) → List Ptr → Op → Reply → Type 0
IsReadOfImage image blocks (ops.Read n t x window) reply = IfSome (slice_get blocks x) (λ ptr. ReadsImage image ptr window reply)
IsReadOfImage image blocks (ops.Hold n t x) reply = IfSome (slice_get blocks x) (λ ptr. KeepsImage image ptr reply)
IsReadOfImage image blocks other reply = Unit {0}
