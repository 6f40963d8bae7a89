-- A reply is that of the plain run.
use Rattle.std.proofs.Common.{◌≡◌, ◌≢◌, ℕ, zero, suc, ◌+◌, ◌%◌, ◌<◌, ◌≤◌, ◌==◌, nat_lt, true, false, List, [], ◌∷◌, ◌++◌, length, drop, Some, None, is_some, inl, inr, refl, sym, ap, ◌∙◌, arith}
use Rattle.std.proofs.lemmas.Bool.Decides.{nat_tests}
use Rattle.arc_lists.proofs.Tables.{cases_true}
use Rattle.blk_ptr.specs.declared.digest.Digest.{Digest}
use Rattle.blk_ptr.specs.declared.key.Key.{Key}
use Rattle.blk_ptr.specs.declared.key.KeyFault.{KeyFault}
use Rattle.blk_ptr.specs.declared.key.KeyFault.TheVariants as fault
use Rattle.blk_ptr.specs.declared.ptr.Ptr.{Ptr}
use Rattle.blk_ptr.specs.Key.{IsFirstKeyFault, IsValid, key_end}
use Rattle.blk_ptr.specs.Order.{digest_eq}
use Rattle.blk_ptr.specs.Ptr.{IsOf, range_of, sha256_of}
use Rattle.blk_ptr.specs.Size.{IsBlockSize, is_block_size_of, sector}
use Rattle.std.proofs.lemmas.Slice.Eq.{bytes_eq-Decides}
use Rattle.arc_core.specs.declared.served.Served.{Served}
use Rattle.arc_core.specs.declared.served.Served.TheVariants as served
use Rattle.arc_core.specs.PlainShard.{PlainShard}
use Rattle.trace_text.specs.declared.op.Op.{Op}
use Rattle.trace_text.specs.declared.reply.Reply.{Reply}
use Rattle.trace_text.specs.declared.reply.Reply.TheVariants.{Read, Kept, Dropped, Refused}
use Rattle.trace_text.specs.declared.reply.Refusal.{Refusal}
use Rattle.trace_text.specs.declared.reply.Refusal.TheVariants as refusal
use Rattle.dbuf_state.specs.declared.window.Window.{Window}
use Rattle.dbuf_state.specs.Dbufs.{window_of}
use Rattle.trace_run.specs.KeptReads.{KeptRead}
use Rattle.trace_run.specs.one_caller.Asking.{NamesServed, asked_by, next_call}
use Rattle.trace_run.specs.Answers.{AnswersDrop, AnswersHold, AnswersRead}
use Rattle.trace_run.specs.Effects.{calls_from, calls_of, effect_of}
use Rattle.trace_run.specs.Lines.{shard_of_line}
use Rattle.trace_run.specs.one_caller.OneCaller.{kept_after, oldest_kept}
use Rattle.trace_run.specs.one_caller.OverShards.{shards_after_op}
use Rattle.trace_run.specs.one_caller.PlainRun.{Contents, Images, contents_after, key_fault, refused_from, replies_to, reply_to, reply_to_drop, reply_to_hold, reply_to_read}
use Rattle.trace_run.specs.Read.{IsFromPool}
use Rattle.trace_run.specs.Reads.{CameFromPool}
use Rattle.vdev_io.specs.Calls.{Failed, Gave, Call}
use Rattle.trace_run.specs.Tally.{kept_of_block}
use Rattle.trace_run.proofs.CacheLemmas.{digest_eq-is}
use Rattle.trace_run.proofs.DropLemmas.{absent-counted, found-counted}

-- ---- the tests of a key

zero-test : (n : ℕ) → n ≡ 0 → (n == 0) ≡ true
zero-test n is = grind (arith, nat_tests)

other-test : (n : ℕ) → (n ≡ 0 → ⊥) → (n == 0) ≡ false
other-test n is = grind (arith, nat_tests)

pub less-test : (m n : ℕ) → m < n → nat_lt m n ≡ true
less-test m n lt = grind (arith, nat_tests)

pub least-test : (m n : ℕ) → n ≤ m → nat_lt m n ≡ false
least-test m n le = grind (arith, nat_tests)

size-test : (n : ℕ) → IsBlockSize n → is_block_size_of n ≡ true
size-test n sized = grind (arith, nat_tests, sized.0, sized.1, sized.2)

size-is : (n : ℕ) → is_block_size_of n ≡ true → IsBlockSize n
size-is n test = (grind (arith, nat_tests, test), grind (arith, nat_tests, test), grind (arith, nat_tests, test))

size-not : (n : ℕ) → (IsBlockSize n → ⊥) → is_block_size_of n ≡ false
size-not n fails = elim (cases_true (is_block_size_of n)) [
  | inl sized ↦ absurd (fails (size-is n sized))
  | inr none ↦ none
]

pub valid-key : (len : ℕ) (key : Key) → IsValid len key → key_fault len key ≡ None
valid-key len key valid =
    let birth : (key.birth == 0) ≡ false = other-test key.birth (λ e. absurd (omega (arith, e, valid.formed.born))) in
    rw (zero-test (key.offset % sector) valid.formed.aligned, size-test key.size valid.formed.sized, least-test len (key_end key) valid.inside, birth) refl

pub first-key : (len : ℕ) (key : Key) (why : KeyFault) → IsFirstKeyFault len key why → key_fault len key ≡ Some why
first-key len key fault.Unaligned fails = rw (other-test (key.offset % sector) fails) refl
first-key len key fault.Size fails = rw (zero-test (key.offset % sector) fails.0, size-not key.size fails.1) refl
first-key len key (fault.OutOfPool end most) fails =
    rw (zero-test (key.offset % sector) fails.0, size-test key.size fails.1, less-test len (key_end key) fails.4, fails.2, fails.3) refl
first-key len key fault.BirthZero fails =
    rw (zero-test (key.offset % sector) fails.0, size-test key.size fails.1, least-test len (key_end key) fails.2, zero-test key.birth fails.3) refl

-- ---- what the pool gives

-- the first of these calls, where there is one
abbrev pub IsNext : List Call → Call → Type 0
IsNext [] call = Unit {0}
IsNext (first ∷ calls) call = first ≡ call

pub of-test : (bytes : List ℕ) (ptr : Ptr) → IsOf bytes ptr → digest_eq (sha256_of bytes) ptr.digest ≡ true
of-test bytes ptr one = (bytes_eq-Decides (sha256_of bytes).0 ptr.digest.0).1 (ap (λ (d : Digest). d.0) one.digest)

pub accepted : (image : List ℕ) (ptr : Ptr) (from : Served) (call : Call) → (IsFromPool from → IsOf (range_of image ptr.key) ptr) → IsNext (calls_from from) call → refused_from image ptr from call ≡ None
accepted image ptr served.Hit call one next = refl
accepted image ptr served.L2 call one next = refl
accepted image ptr served.Pool call one next = rw (sym next, of-test (range_of image ptr.key) ptr (one tt)) refl
accepted image ptr served.Past call one next = rw (sym next, of-test (range_of image ptr.key) ptr (one tt)) refl

pub failed : (image : List ℕ) (ptr : Ptr) (from : Served) (call : Call) → IsFromPool from → Failed ≡ call → refused_from image ptr from call ≡ Some refusal.PoolFault
failed image ptr served.Hit call asks next = absurd asks
failed image ptr served.L2 call asks next = absurd asks
failed image ptr served.Pool call asks next = rw (sym next) refl
failed image ptr served.Past call asks next = rw (sym next) refl

differs-test : (image : List ℕ) (ptr : Ptr) (found : Digest) → found ≡ sha256_of (range_of image ptr.key) → found ≢ ptr.digest → digest_eq (sha256_of (range_of image ptr.key)) ptr.digest ≡ false
differs-test image ptr found is other = elim (cases_true (digest_eq (sha256_of (range_of image ptr.key)) ptr.digest)) [
  | inl same ↦ absurd (other (is ∙ digest_eq-is (sha256_of (range_of image ptr.key)) ptr.digest same))
  | inr differs ↦ differs
]

pub mismatched : (image : List ℕ) (ptr : Ptr) (from : Served) (call : Call) (found : Digest) → IsFromPool from → Gave ≡ call → found ≡ sha256_of (range_of image ptr.key) → found ≢ ptr.digest
    → refused_from image ptr from call ≡ Some (refusal.Mismatch found)
mismatched image ptr served.Hit call found asks next is other = absurd asks
mismatched image ptr served.L2 call found asks next is other = absurd asks
mismatched image ptr served.Pool call found asks next is other = rw (sym next, differs-test image ptr found is other, is) refl
mismatched image ptr served.Past call found asks next is other = rw (sym next, differs-test image ptr found is other, is) refl

-- ---- one reply

-- a read whose bytes come from here is answered as the plain run does with the bytes that it shows
pub plain-read : (image : List ℕ) (ptr : Ptr) (window : Window) (from : Served) (digest : Digest) (shown bytes : List ℕ) (call : Call) → AnswersRead (length image) (Some image) ptr window (Read from digest shown)
    → (IsFromPool from → IsOf (range_of image ptr.key) ptr) → IsNext (calls_from from) call → reply_to_read image ptr window from bytes call ≡ Read from ptr.digest (window_of window bytes)
plain-read image ptr window from digest shown bytes call answer came next =
    rw (least-test ptr.key.size (window.at + window.len) answer.0, valid-key (length image) ptr.key answer.1, accepted image ptr from call came next) refl

-- and one that is refused is refused so
pub plain-refused : (image : List ℕ) (ptr : Ptr) (window : Window) (source : Served) (bytes : List ℕ) (r : Refusal) (call : Call) → AnswersRead (length image) (Some image) ptr window (Refused r)
    → NamesServed source (effect_of (Refused r)) → IsNext (calls_of (effect_of (Refused r))) call → Refused r ≡ reply_to_read image ptr window source bytes call
plain-refused image ptr window source bytes refusal.PoolFault call answer named next =
    rw (least-test ptr.key.size (window.at + window.len) answer.0, valid-key (length image) ptr.key answer.1, failed image ptr source call named next) refl
plain-refused image ptr window source bytes (refusal.Mismatch found) call answer named next =
    let miss = answer.1.1 in
    rw (least-test ptr.key.size (window.at + window.len) answer.0, valid-key (length image) ptr.key answer.1.0, mismatched image ptr source call found named next miss.plain.0 miss.other) refl
plain-refused image ptr window source bytes (refusal.Key why) call answer named next =
    rw (least-test ptr.key.size (window.at + window.len) answer.0, first-key (length image) ptr.key why answer.1) refl
plain-refused image ptr window source bytes (refusal.Range end size) call answer named next =
    let past : ptr.key.size < window.at + window.len = omega (arith, answer.0, answer.1, answer.2) in
    rw (less-test ptr.key.size (window.at + window.len) past, answer.0, answer.1) refl
plain-refused image ptr window source bytes other call answer named next = absurd answer

pub plain-hold : (image : List ℕ) (ptr : Ptr) (source : Served) (reply : Reply) (call : Call) → AnswersHold (length image) (Some image) ptr reply
    → NamesServed source (effect_of reply) → (CameFromPool (effect_of reply) → IsOf (range_of image ptr.key) ptr) → IsNext (calls_of (effect_of reply)) call → reply ≡ reply_to_hold image ptr source call
plain-hold image ptr source (Kept served) call answer named came next =
    let fine = accepted image ptr served call came next in
    rw (valid-key (length image) ptr.key answer.0, sym named, fine) refl
plain-hold image ptr source (Refused refusal.PoolFault) call answer named came next = rw (valid-key (length image) ptr.key answer, failed image ptr source call named next) refl
plain-hold image ptr source (Refused (refusal.Mismatch found)) call answer named came next =
    rw (valid-key (length image) ptr.key answer.0, mismatched image ptr source call found named next answer.1.plain.0 answer.1.other) refl
plain-hold image ptr source (Refused (refusal.Key why)) call answer named came next = rw (first-key (length image) ptr.key why answer) refl
plain-hold image ptr source (Refused other) call answer named came next = absurd answer
plain-hold image ptr source other call answer named came next = absurd answer

pub plain-drop : (x : ℕ) (kept : List KeptRead) (reply : Reply) → AnswersDrop (kept_of_block x kept) 0 x reply → reply ≡ reply_to_drop x kept
plain-drop x kept Dropped answer = elim (cases_true (is_some (oldest_kept x kept))) [
  | inl there ↦ rw there refl
  | inr absent ↦ absurd (omega (arith, answer, (absent-counted x kept absent).0))
]
plain-drop x kept (Refused (refusal.NoHold missing)) answer = elim (cases_true (is_some (oldest_kept x kept))) [
  | inl there ↦ absurd (omega (arith, answer.1, found-counted x kept there))
  | inr absent ↦ rw (absent, answer.0) refl
]
plain-drop x kept (Refused other) answer = absurd answer
plain-drop x kept other answer = absurd answer

-- ---- all replies

pub next-is : (calls rest : List Call) → IsNext calls (next_call (calls ++ rest))
next-is [] rest = tt
next-is (call ∷ calls) rest = refl

pub drop-front : {X : Type 0} (xs ys : List X) → drop (length xs) (xs ++ ys) ≡ ys
drop-front [] ys = refl
drop-front (x ∷ xs) ys = drop-front xs ys

-- calls that all give bytes are as none
abbrev pub AllGive : List Call → Type 0
AllGive [] = Unit {0}
AllGive (call ∷ calls) = (call ≡ Gave) × AllGive calls

next-gives : (calls : List Call) → AllGive calls → next_call calls ≡ Gave
next-gives [] all = refl
next-gives (call ∷ calls) all = all.0

drop-gives : (n : ℕ) (calls : List Call) → AllGive calls → AllGive (drop n calls)
drop-gives zero calls all = all
drop-gives (suc n) [] all = tt
drop-gives (suc n) (call ∷ calls) all = drop-gives n calls all.1

pub plain-gives : (from : Images) (shards : ℕ) (blocks : List Ptr) (s : ℕ → PlainShard) (kept : List KeptRead) (contents : Contents) (os : List Op) (calls device_calls : List Call) → AllGive calls
    → replies_to from shards blocks s kept contents os calls device_calls ≡ replies_to from shards blocks s kept contents os [] device_calls
plain-gives from shards blocks s kept contents [] calls device_calls all = refl
plain-gives from shards blocks s kept contents (o ∷ os) calls device_calls all =
    let here : PlainShard = s (shard_of_line shards blocks o) in
    let next : Call → List Call → List Reply = λ call cs.
    let reply = reply_to from blocks here kept contents o call (next_call device_calls) in
    reply
    ∷ replies_to from shards blocks (shards_after_op shards blocks s kept o reply) (kept_after blocks o reply kept) (contents_after from blocks here o reply contents) os (drop (length (calls_of (effect_of reply))) cs)
    (drop (length (asked_by (length from.device) blocks here o reply)) device_calls) in
    let reply = reply_to from blocks here kept contents o Gave (next_call device_calls) in
    let count = length (calls_of (effect_of reply)) in
    let rest = drop (length (asked_by (length from.device) blocks here o reply)) device_calls in
    let after = shards_after_op shards blocks s kept o reply in
    let left = kept_after blocks o reply kept in
    let cached = contents_after from blocks here o reply contents in
    let gone : replies_to from shards blocks after left cached os (drop count calls) rest ≡ replies_to from shards blocks after left cached os (drop count []) rest =
    plain-gives from shards blocks after left cached os (drop count calls) rest (drop-gives count calls all)
    ∙ sym (plain-gives from shards blocks after left cached os (drop count []) rest (drop-gives count [] tt)) in
    ap (λ (call : Call). next call calls) (next-gives calls all) ∙ ap (λ (l : List Reply). reply ∷ l) gone
