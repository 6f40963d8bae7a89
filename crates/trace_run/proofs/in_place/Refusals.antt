-- What is readable is refused only by a fault of the pool.
use Rattle.std.proofs.Common.{◌≡◌, ℕ, true, false, List, Option, Some, refl, sym, ◌∙◌, arith}
use Rattle.blk_ptr.specs.declared.ptr.Ptr.{Ptr}
use Rattle.arc_core.specs.declared.served.Served.{Served}
use Rattle.dbuf_state.specs.declared.window.Window.{Window}
use Rattle.trace_text.specs.declared.reply.Refusal.{Refusal}
use Rattle.trace_text.specs.declared.reply.Refusal.TheVariants as refusals
use Rattle.trace_text.specs.declared.reply.Reply.{Reply}
use Rattle.trace_text.specs.declared.reply.Reply.TheVariants as replies
use Rattle.trace_run.specs.Answers.{AnswersHold, AnswersRead, IsInside, IsReadRefusal, IsWindowRefusal, is_pool_fault, is_refusal}
use Rattle.trace_run.specs.InPlace.{IsReadable}
use Rattle.trace_run.proofs.callers.PlaceLemmas.{fault-not-valid}

pub readable-read : (len : ℕ) (image : List ℕ) (ptr : Ptr) (refusal : Refusal) → IsReadable len image ptr → IsReadRefusal len (Some image) ptr refusal → is_pool_fault (replies.Refused refusal) ≡ true
readable-read len image ptr refusals.PoolFault fine is = refl
readable-read len image ptr (refusals.Mismatch found) fine is = absurd (is.1.plain.1 fine.of)
readable-read len image ptr (refusals.Key fault) fine is = absurd (fault-not-valid len ptr.key fault is fine.valid)
readable-read len image ptr refusals.NoMemory fine is = absurd is
readable-read len image ptr (refusals.Range end size) fine is = absurd is
readable-read len image ptr (refusals.NoBlock at) fine is = absurd is
readable-read len image ptr (refusals.NoHold block) fine is = absurd is
readable-read len image ptr (refusals.NoPin at) fine is = absurd is

readable-window : (len : ℕ) (image : List ℕ) (ptr : Ptr) (window : Window) (refusal : Refusal) → IsReadable len image ptr → IsInside window ptr.key.size → IsWindowRefusal len (Some image) ptr window refusal
    → is_pool_fault (replies.Refused refusal) ≡ true
readable-window len image ptr window refusals.PoolFault fine inside is = refl
readable-window len image ptr window (refusals.Mismatch found) fine inside is = readable-read len image ptr (refusals.Mismatch found) fine is.1
readable-window len image ptr window (refusals.Key fault) fine inside is = readable-read len image ptr (refusals.Key fault) fine is.1
readable-window len image ptr window (refusals.Range end size) fine inside is = absurd (let a = is.0 in let b = is.1 in let c = is.2 in omega (arith, inside, a, b, c))
readable-window len image ptr window refusals.NoMemory fine inside is = absurd is
readable-window len image ptr window (refusals.NoBlock at) fine inside is = absurd is
readable-window len image ptr window (refusals.NoHold block) fine inside is = absurd is
readable-window len image ptr window (refusals.NoPin at) fine inside is = absurd is

-- a read that shows a window inside the block
pub read-fine : (len : ℕ) (image : List ℕ) (ptr : Ptr) (window : Window) (reply : Reply) → IsReadable len image ptr → IsInside window ptr.key.size → AnswersRead len (Some image) ptr window reply → is_pool_fault reply ≡ false
    → is_refusal reply ≡ false
read-fine len image ptr window (replies.Read served digest shown) fine inside is none = refl
read-fine len image ptr window (replies.Refused refusal) fine inside is none = sym (readable-window len image ptr window refusal fine inside is) ∙ none
read-fine len image ptr window (replies.Kept served) fine inside is none = absurd is
read-fine len image ptr window replies.Dropped fine inside is none = absurd is
read-fine len image ptr window (replies.Got size shown) fine inside is none = absurd is
read-fine len image ptr window replies.Done fine inside is none = absurd is
read-fine len image ptr window (replies.Fed report) fine inside is none = absurd is
read-fine len image ptr window replies.FedNone fine inside is none = absurd is
read-fine len image ptr window (replies.Synced group blocks bytes) fine inside is none = absurd is
read-fine len image ptr window (replies.Capped c) fine inside is none = absurd is

-- a read that is kept
pub hold-kept : (len : ℕ) (image : List ℕ) (ptr : Ptr) (reply : Reply) → IsReadable len image ptr → AnswersHold len (Some image) ptr reply → is_pool_fault reply ≡ false → is_refusal reply ≡ false
hold-kept len image ptr (replies.Kept served) fine is none = refl
hold-kept len image ptr (replies.Refused refusal) fine is none = sym (readable-read len image ptr refusal fine is) ∙ none
hold-kept len image ptr (replies.Read served digest shown) fine is none = absurd is
hold-kept len image ptr replies.Dropped fine is none = absurd is
hold-kept len image ptr (replies.Got size shown) fine is none = absurd is
hold-kept len image ptr replies.Done fine is none = absurd is
hold-kept len image ptr (replies.Fed report) fine is none = absurd is
hold-kept len image ptr replies.FedNone fine is none = absurd is
hold-kept len image ptr (replies.Synced group blocks bytes) fine is none = absurd is
hold-kept len image ptr (replies.Capped c) fine is none = absurd is

-- so its reply says
pub is-kept : (len : ℕ) (image : Option (List ℕ)) (ptr : Ptr) (reply : Reply) → AnswersHold len image ptr reply → is_refusal reply ≡ false → (served : Served) × (reply ≡ replies.Kept served)
is-kept len image ptr (replies.Kept served) is none = (served, refl)
is-kept len image ptr (replies.Refused refusal) is none = absurd (let clash : true ≡ false = none in cc)
is-kept len image ptr (replies.Read served digest shown) is none = absurd is
is-kept len image ptr replies.Dropped is none = absurd is
is-kept len image ptr (replies.Got size shown) is none = absurd is
is-kept len image ptr replies.Done is none = absurd is
is-kept len image ptr (replies.Fed report) is none = absurd is
is-kept len image ptr replies.FedNone is none = absurd is
is-kept len image ptr (replies.Synced group blocks bytes) is none = absurd is
is-kept len image ptr (replies.Capped c) is none = absurd is
