-- One line of a caller that is alone, over a pool and a cache device that tell their bytes: its reply is that of the plain run, but that a block which
-- did not come from the pool may be another content of its digest; and what it brings into the shard has its bytes in the plain run.
use Rattle.std.proofs.Common.{◌≡◌, ◌≢◌, ◌⊎◌, ℕ, ◌+◌, ◌≤◌, ◌&&◌, Bool, true, false, if◌then◌else◌, List, ◌++◌, length, drop, Option, Some, None, IfSome, inl, inr, refl, sym, ap, subst, ◌∙◌, arith, length-drop}
use Rattle.std.specs.Prelude.{nat_le, option_and_then, slice_get}
use Rattle.std.specs.Option.{option_map_or}
use Rattle.std.proofs.lemmas.Bool.Decides.{nat_tests}
use Rattle.arc_lists.proofs.Tables.{cases_true, some_is}
use Rattle.blk_ptr.specs.Order.{digest_eq}
use Rattle.arc_core.specs.declared.entry.Entry.{Entry}
use Rattle.arc_table.specs.Fetching.{bytes_from}
use Rattle.std.specs.List.{AllByRecursion}
use Rattle.std.proofs.lemmas.List.{length-take-le}
use Rattle.blk_ptr.specs.declared.digest.Digest.{Digest}
use Rattle.blk_ptr.specs.declared.key.Key.{Key}
use Rattle.blk_ptr.specs.declared.ptr.Ptr.{Ptr}
use Rattle.blk_ptr.specs.Ptr.{IsOf, range_of, sha256_of}
use Rattle.arc_core.specs.declared.served.Served.{Served}
use Rattle.arc_core.specs.declared.served.Served.TheVariants as served
use Rattle.arc_core.specs.PlainShard.{PlainShard, entry_of}
use Rattle.trace_text.specs.declared.op.Op.{Op}
use Rattle.trace_text.specs.declared.op.Op.TheVariants as ops
use Rattle.trace_text.specs.declared.reply.Reply.{Reply}
use Rattle.trace_text.specs.declared.reply.Reply.TheVariants.{Read, Kept, Refused}
use Rattle.trace_text.specs.declared.reply.Refusal.{Refusal}
use Rattle.trace_text.specs.declared.reply.Refusal.TheVariants as refusal
use Rattle.dbuf_state.specs.declared.window.Window.{Window}
use Rattle.vdev_io.specs.Calls.{Call, Failed, Gave}
use Rattle.dbuf_state.specs.Dbufs.{window_of}
use Rattle.trace_run.specs.one_caller.Access as access
use Rattle.trace_run.specs.KeptReads.{KeptRead}
use Rattle.trace_run.specs.one_caller.Access.{Access, access_of, events_of_answered, events_of_drop, events_of_refused, held_by_access}
use Rattle.trace_run.specs.one_caller.Asking.{NamesServed, place_asked, place_in, place_on, place_to_ask, serves, source_of}
use Rattle.trace_run.specs.Answering.{IsReadOfImage, KeepsImage, ReadsImage}
use Rattle.trace_run.specs.Answers.{AnswersHold, AnswersRead}
use Rattle.trace_run.specs.Effects.{Effect, Answered, GivenBack, PoolRefused, NoEffect, calls_of, effect_of, effect_of_refusal}
use Rattle.trace_run.specs.one_caller.OneCaller.{events_of_op, events_of_dropping, events_of_hold, events_of_read, oldest_key}
use Rattle.trace_run.specs.one_caller.PlainReport.{IsPlainReply, ShowsCollision}
use Rattle.trace_run.specs.one_caller.PlainRun.{Contents, Images, bytes_in, bytes_on, contents_after, contents_with, reply_to, reply_to_hold, reply_to_read, source_in}
use Rattle.trace_run.specs.Read.{IsFromPool}
use Rattle.trace_run.specs.Reads.{CameFromPool}
use Rattle.trace_run.specs.Answering.{ShowsRange}
use Rattle.trace_run.specs.Tally.{AnswersNow}
use Rattle.trace_run.proofs.CacheLemmas.{access-hit, digest_eq-is}
use Rattle.trace_run.proofs.one_caller.PlainLemmas.{IsNext, plain-drop, plain-hold, plain-read, plain-refused}
use Rattle.trace_run.proofs.one_caller.ResidentLemmas.{AreTold, Brings, HasBytes, told-more, told-resident, with-own}
use Rattle.trace_run.proofs.ServeLemmas.{same-or-collides}

-- an answered read names where the plain run has its bytes from, and only one that had to ask the pool is refused by it
abbrev pub IsNamed : (from : Images) → List Ptr → PlainShard → Op → Reply → (device_call : Call) → Type 0
IsNamed from blocks s (ops.Read n t x window) reply device_call = IfSome (slice_get blocks x) (λ ptr. NamesServed (source_in from s ptr device_call) (effect_of reply))
IsNamed from blocks s (ops.Hold n t x) reply device_call = IfSome (slice_get blocks x) (λ ptr. NamesServed (source_in from s ptr device_call) (effect_of reply))
IsNamed from blocks s other reply device_call = Unit {0}

-- What is known of a line: what it may answer, where it found its block, and that bytes from the pool are those that it tells.
pub record IsPlainlyServed (from : Images) (blocks : List Ptr) (s : PlainShard) (kept : List KeptRead) (op : Op) (reply : Reply) (device_call : Call) : Type 0 where
  pub answer : AnswersNow (length from.pool) (Some from.pool) blocks kept op reply
  pub named : IsNamed from blocks s op reply device_call
  pub range : CameFromPool (effect_of reply) → IsReadOfImage from.pool blocks op reply

-- ---- what the device serves

place-inside : (size : ℕ) (ptr : Ptr) (s : PlainShard) (place : ℕ) → place_to_ask size ptr s ≡ Some place → place + ptr.key.size ≤ size
place-inside size ptr s place is = of_entry (entry_of ptr.key s) is
  where
    of_test : (b c : Bool) (at : ℕ) → b ≡ nat_le (at + ptr.key.size) size → (if b && c then Some at else None) ≡ Some place → place + ptr.key.size ≤ size
    of_test true true at test here = let le : at + ptr.key.size ≤ size = grind (arith, nat_tests, test) in subst (λ (z : ℕ). z + ptr.key.size ≤ size) (some_is here) le
    of_test true false at test here = cc
    of_test false c at test here = cc

    of_place : (known : Option Digest) (o : Option ℕ) → option_and_then (place_in size ptr known) o ≡ Some place → place + ptr.key.size ≤ size
    of_place known None here = cc
    of_place known (Some at) here = of_test (nat_le (at + ptr.key.size) size) (option_map_or (λ d. digest_eq d ptr.digest) known true) at refl here

    of_entry : (o : Option Entry) → option_and_then (λ e. option_and_then (place_in size ptr e.digest) e.place) o ≡ Some place → place + ptr.key.size ≤ size
    of_entry None here = cc
    of_entry (Some e) here = of_place e.digest e.place here

-- an access that found its block cached
hit-access : (a : Access) (is_served : Bool) → served.Hit ≡ source_of a is_served → a ≡ access.Hit
hit-access access.Hit is_served is = refl
hit-access (access.Past kept) is_served is = cc
hit-access access.Miss true is = cc
hit-access access.Miss false is = cc

module _ (from : Images) (contents : Contents) (s : PlainShard) (ptr : Ptr) where
  -- bytes that the device serves are of the pointer
  l2-of : (call : Call) → served.L2 ≡ source_in from s ptr call → IsOf (bytes_in from contents s ptr served.L2) ptr
  l2-of call is = of_access (access_of s ptr) is
    where
      of_call : (place : ℕ) (c : Call) → place + ptr.key.size ≤ length from.device → served.L2 ≡ source_of access.Miss (serves from.device ptr (Some place) c) → IsOf (bytes_from from.device place ptr.key) ptr
      of_call place Failed inside is = cc
      of_call place Gave inside is = elim (cases_true (digest_eq (sha256_of (bytes_from from.device place ptr.key)) ptr.digest)) [
        | inl same ↦
            let rest = length-drop place from.device in
            record { size = length-take-le ptr.key.size (drop place from.device) (omega arith); digest = digest_eq-is (sha256_of (bytes_from from.device place ptr.key)) ptr.digest same }
        | inr other ↦ let never : served.L2 ≡ served.Pool = rw other at is in cc
      ]

      of_place : (o : Option ℕ) → place_to_ask (length from.device) ptr s ≡ o → served.L2 ≡ source_of access.Miss (serves from.device ptr o call) → IsOf (bytes_on from.device o ptr.key) ptr
      of_place None at is = cc
      of_place (Some place) at is = of_call place call (place-inside (length from.device) ptr s place at) is

      of_access : (a : Access) → served.L2 ≡ source_of a (serves from.device ptr (place_on (length from.device) ptr s a) call) → IsOf (bytes_on from.device (place_on (length from.device) ptr s a) ptr.key) ptr
      of_access access.Hit is = cc
      of_access (access.Past kept) is = cc
      of_access access.Miss is = of_place (place_to_ask (length from.device) ptr s) refl is

  -- and so are those that are cached
  hit-of : (call : Call) → served.Hit ≡ source_in from s ptr call → AreTold contents s.entries → IsOf (contents ptr) ptr
  hit-of call is told = told-resident contents s ptr.key ptr.digest told (access-hit s ptr (hit-access (access_of s ptr) _ is))

  -- ---- what a read brings into the shard

  -- a digest that a shard keeps has its bytes still
  grows : (e : Effect) (call : Call) → NamesServed (source_in from s ptr call) e → (CameFromPool e → IsOf (range_of from.pool ptr.key) ptr) → (es : List Entry) → AreTold contents es
      → AreTold (contents_with from contents s ptr e) es
  grows (Answered served.Hit) call named came es told = told
  grows (Answered served.Past) call named came es told = told
  grows (Answered served.Pool) call named came es told = told-more ptr (range_of from.pool ptr.key) contents (came tt) es told
  grows (Answered served.L2) call named came es told = told-more ptr (bytes_in from contents s ptr served.L2) contents (l2-of call named) es told
  grows GivenBack call named came es told = told
  grows (PoolRefused c) call named came es told = told
  grows NoEffect call named came es told = told

  -- what arrives has its bytes
  arrives : (f : Served) (call : Call) → f ≡ source_in from s ptr call → (f ≡ served.Hit → ⊥) → (f ≡ served.Past → ⊥) → (IsFromPool f → IsOf (range_of from.pool ptr.key) ptr)
      → HasBytes (contents_with from contents s ptr (Answered f)) ptr.key ptr.digest
  arrives served.Hit call named hit past came = absurd (hit refl)
  arrives served.Past call named hit past came = absurd (past refl)
  arrives served.Pool call named hit past came = subst (λ (l : List ℕ). IsOf l ptr) (sym (with-own ptr (range_of from.pool ptr.key) contents)) (came tt)
  arrives served.L2 call named hit past came = subst (λ (l : List ℕ). IsOf l ptr) (sym (with-own ptr (bytes_in from contents s ptr served.L2) contents)) (l2-of call named)

  miss-else : (f : Served) (is_served : Bool) → f ≡ source_of access.Miss is_served → (f ≡ served.Hit → ⊥) × (f ≡ served.Past → ⊥)
  miss-else f true is = (λ e. let never : served.Hit ≡ served.L2 = sym e ∙ is in cc, λ e. let never : served.Past ≡ served.L2 = sym e ∙ is in cc)
  miss-else f false is = (λ e. let never : served.Hit ≡ served.Pool = sym e ∙ is in cc, λ e. let never : served.Past ≡ served.Pool = sym e ∙ is in cc)

  brings-read : (n t : ℕ) (f : Served) (call : Call) → f ≡ source_in from s ptr call → (IsFromPool f → IsOf (range_of from.pool ptr.key) ptr)
      → AllByRecursion (Brings (contents_with from contents s ptr (Answered f))) (events_of_answered n t ptr f (access_of s ptr))
      × AllByRecursion (Brings (contents_with from contents s ptr (Answered f))) (events_of_answered n t ptr f (access_of s ptr) ++ events_of_drop n (held_by_access ptr (access_of s ptr)))
  brings-read n t f call named came = go (access_of s ptr) refl
    where
      go : (a : Access) → access_of s ptr ≡ a → AllByRecursion (Brings (contents_with from contents s ptr (Answered f))) (events_of_answered n t ptr f a)
          × AllByRecursion (Brings (contents_with from contents s ptr (Answered f))) (events_of_answered n t ptr f a ++ events_of_drop n (held_by_access ptr a))
      go access.Hit is = ((tt, tt), (tt, (tt, tt)))
      go (access.Past other) is = ((tt, tt), (tt, tt))
      go access.Miss is =
          let apart = miss-else f _ (named ∙ ap (λ (a : Access). source_of a (serves from.device ptr (place_asked (length from.device) ptr s) call)) is) in
          let own = arrives f call named apart.0 apart.1 came in
          ((tt, (own, tt)), (tt, (own, (tt, tt))))

  brings-refused : (now : Contents) (n t : ℕ) (a : Access) → AllByRecursion (Brings now) (events_of_refused n t ptr a)
  brings-refused now n t access.Hit = tt
  brings-refused now n t (access.Past other) = (tt, tt)
  brings-refused now n t access.Miss = (tt, (tt, tt))

  read-brings : (n t : ℕ) (e : Effect) (call : Call) → NamesServed (source_in from s ptr call) e → (CameFromPool e → IsOf (range_of from.pool ptr.key) ptr)
      → AllByRecursion (Brings (contents_with from contents s ptr e)) (events_of_read n t s ptr e)
  read-brings n t (Answered f) call named came = (brings-read n t f call named came).1
  read-brings n t GivenBack call named came = tt
  read-brings n t (PoolRefused c) call named came = brings-refused contents n t (access_of s ptr)
  read-brings n t NoEffect call named came = tt

  hold-brings : (n t : ℕ) (e : Effect) (call : Call) → NamesServed (source_in from s ptr call) e → (CameFromPool e → IsOf (range_of from.pool ptr.key) ptr)
      → AllByRecursion (Brings (contents_with from contents s ptr e)) (events_of_hold n t s ptr e)
  hold-brings n t (Answered f) call named came = (brings-read n t f call named came).0
  hold-brings n t GivenBack call named came = tt
  hold-brings n t (PoolRefused c) call named came = brings-refused contents n t (access_of s ptr)
  hold-brings n t NoEffect call named came = tt

-- ---- what a line brings into the shard

none-came : (r : Refusal) → CameFromPool (effect_of_refusal r) → ⊥
none-came refusal.PoolFault came = came
none-came (refusal.Mismatch found) came = came
none-came other came = came

module _ (image : List ℕ) where
  read-came : (ptr : Ptr) (window : Window) (reply : Reply) → AnswersRead (length image) (Some image) ptr window reply → (CameFromPool (effect_of reply) → ReadsImage image ptr window reply)
      → CameFromPool (effect_of reply) → IsOf (range_of image ptr.key) ptr
  read-came ptr window (Read from digest shown) answer range came = (range came).of
  read-came ptr window (Refused r) answer range came = absurd (none-came r came)
  read-came ptr window other answer range came = absurd answer

  hold-came : (ptr : Ptr) (reply : Reply) → AnswersHold (length image) (Some image) ptr reply → (CameFromPool (effect_of reply) → KeepsImage image ptr reply)
      → CameFromPool (effect_of reply) → IsOf (range_of image ptr.key) ptr
  hold-came ptr (Kept from) answer range came = range came
  hold-came ptr (Refused r) answer range came = absurd (none-came r came)
  hold-came ptr other answer range came = absurd answer

brings-dropped : (contents : Contents) (n : ℕ) (o : Option Key) → AllByRecursion (Brings contents) (events_of_drop n o)
brings-dropped contents n None = tt
brings-dropped contents n (Some k) = (tt, tt)

drop-brings : (contents : Contents) (n x : ℕ) (kept : List KeptRead) (e : Effect) → AllByRecursion (Brings contents) (events_of_dropping n x kept e)
drop-brings contents n x kept (Answered from) = tt
drop-brings contents n x kept GivenBack = brings-dropped contents n (oldest_key x kept)
drop-brings contents n x kept (PoolRefused call) = tt
drop-brings contents n x kept NoEffect = tt

module _ (from : Images) (contents : Contents) (blocks : List Ptr) (s : PlainShard) (kept : List KeptRead) where
  pub line-brings : (op : Op) (reply : Reply) (call : Call) → IsPlainlyServed from blocks s kept op reply call → AllByRecursion (Brings (contents_after from blocks s op reply contents)) (events_of_op blocks s kept op reply)
  line-brings (ops.Read n t x window) reply call is =
      let at = is.answer.1 in
      let range : CameFromPool (effect_of reply) → ReadsImage from.pool is.answer.0 window reply = rw at at is.range in
      rw at (read-brings from contents s is.answer.0 n t (effect_of reply) call (rw at at is.named) (read-came from.pool is.answer.0 window reply is.answer.2 range))
  line-brings (ops.Hold n t x) reply call is =
      let at = is.answer.1 in
      let range : CameFromPool (effect_of reply) → KeepsImage from.pool is.answer.0 reply = rw at at is.range in
      rw at (hold-brings from contents s is.answer.0 n t (effect_of reply) call (rw at at is.named) (hold-came from.pool is.answer.0 reply is.answer.2 range))
  line-brings (ops.Drop n x) reply call is = drop-brings contents n x kept (effect_of reply)
  line-brings (ops.Cap c) reply call is = (tt, tt)
  line-brings other reply call is = tt

  -- each digest that a shard keeps has its bytes still
  pub line-grows : (op : Op) (reply : Reply) (call : Call) → IsPlainlyServed from blocks s kept op reply call → (es : List Entry) → AreTold contents es → AreTold (contents_after from blocks s op reply contents) es
  line-grows (ops.Read n t x window) reply call is es told =
      let at = is.answer.1 in
      let range : CameFromPool (effect_of reply) → ReadsImage from.pool is.answer.0 window reply = rw at at is.range in
      rw at (grows from contents s is.answer.0 (effect_of reply) call (rw at at is.named) (read-came from.pool is.answer.0 window reply is.answer.2 range) es told)
  line-grows (ops.Hold n t x) reply call is es told =
      let at = is.answer.1 in
      let range : CameFromPool (effect_of reply) → KeepsImage from.pool is.answer.0 reply = rw at at is.range in
      rw at (grows from contents s is.answer.0 (effect_of reply) call (rw at at is.named) (hold-came from.pool is.answer.0 reply is.answer.2 range) es told)
  line-grows other reply call is es told = told

  -- ---- what a read shows

  -- the bytes of the plain run, or another content of their digest, where they did not come from the pool
  abbrev Shows : Ptr → Window → Served → (bytes shown : List ℕ) → Type 0
  Shows ptr window f bytes shown = (shown ≡ window_of window (bytes_in from contents s ptr f)) ⊎ ((¬ IsFromPool f) × IsOf (bytes_in from contents s ptr f) ptr × (bytes ≢ bytes_in from contents s ptr f))

  shows : (ptr : Ptr) (window : Window) (f : Served) (bytes shown : List ℕ) (call : Call) → IsOf bytes ptr → shown ≡ window_of window bytes → f ≡ source_in from s ptr call → AreTold contents s.entries
      → (IsFromPool f → ShowsRange from.pool ptr window shown) → Shows ptr window f bytes shown
  shows ptr window served.Pool bytes shown call of is named told range = inl (range tt).range
  shows ptr window served.Past bytes shown call of is named told range = inl (range tt).range
  shows ptr window served.Hit bytes shown call of is named told range =
      let own = hit-of from contents s ptr call named told in
      elim (same-or-collides ptr bytes (contents ptr) of own) [
        | inl same ↦ inl (is ∙ ap (window_of window) same)
        | inr other ↦ inr ((λ came. came), own, other.0)
      ]
  shows ptr window served.L2 bytes shown call of is named told range =
      let own = l2-of from contents s ptr call named in
      elim (same-or-collides ptr bytes (bytes_in from contents s ptr served.L2) of own) [
        | inl same ↦ inl (is ∙ ap (window_of window) same)
        | inr other ↦ inr ((λ came. came), own, other.0)
      ]

  abbrev PlainRead : Ptr → Window → (call device_call : Call) → Reply
  PlainRead ptr window call device_call = reply_to_read from.pool ptr window (source_in from s ptr device_call) (bytes_in from contents s ptr (source_in from s ptr device_call)) call

  read-plain : (ptr : Ptr) (window : Window) (reply : Reply) (call device_call : Call) → AnswersRead (length from.pool) (Some from.pool) ptr window reply → NamesServed (source_in from s ptr device_call) (effect_of reply)
      → AreTold contents s.entries → (CameFromPool (effect_of reply) → ReadsImage from.pool ptr window reply) → IsNext (calls_of (effect_of reply)) call
      → (reply ≡ PlainRead ptr window call device_call) ⊎ ShowsCollision ptr window (PlainRead ptr window call device_call) reply
  read-plain ptr window (Read f digest shown) call device_call answer named told range next =
      let own = bytes_in from contents s ptr f in
      let plain : PlainRead ptr window call device_call ≡ Read f ptr.digest (window_of window own) =
      (λ i. reply_to_read from.pool ptr window (sym named i) (bytes_in from contents s ptr (sym named i)) call) ∙ plain-read from.pool ptr window f digest shown own call answer (λ came. (range came).of) next in
      elim (shows ptr window f answer.3.0 shown device_call answer.3.1.of answer.3.2 named told range) [
        | inl same ↦ inl ((λ i. Read f (answer.2 i) (same i)) ∙ sym plain)
        | inr c ↦ inr (record {
          from = f;
          elsewhere = c.0;
          bytes = answer.3.0;
          others = own;
          of = answer.3.1.of;
          others_of = c.1;
          other = c.2;
          plain_is = plain;
          reply_is = λ i. Read f (answer.2 i) (answer.3.2 i);
        })
      ]
  read-plain ptr window (Refused r) call device_call answer named told range next = inl (plain-refused from.pool ptr window (source_in from s ptr device_call) _ r call answer named next)
  read-plain ptr window other call device_call answer named told range next = absurd answer

  -- ---- the reply

  pub line-plain : (op : Op) (reply : Reply) (call device_call : Call) → IsPlainlyServed from blocks s kept op reply device_call → AreTold contents s.entries → IsNext (calls_of (effect_of reply)) call
      → IsPlainReply blocks op (reply_to from blocks s kept contents op call device_call) reply
  line-plain (ops.Read n t x window) reply call device_call is told next =
      let at = is.answer.1 in
      let ptr = is.answer.0 in
      let range : CameFromPool (effect_of reply) → ReadsImage from.pool ptr window reply = rw at at is.range in
      let here : reply_to from blocks s kept contents (ops.Read n t x window) call device_call ≡ PlainRead ptr window call device_call = rw at refl in
      elim (read-plain ptr window reply call device_call is.answer.2 (rw at at is.named) told range next) [
        | inl same ↦ inl (same ∙ sym here)
        | inr other ↦ inr (ptr, at, subst (λ (p : Reply). ShowsCollision ptr window p reply) (sym here) other)
      ]
  line-plain (ops.Hold n t x) reply call device_call is told next =
      let at = is.answer.1 in
      let ptr = is.answer.0 in
      let range : CameFromPool (effect_of reply) → KeepsImage from.pool ptr reply = rw at at is.range in
      let here : reply_to from blocks s kept contents (ops.Hold n t x) call device_call ≡ reply_to_hold from.pool ptr (source_in from s ptr device_call) call = rw at refl in
      plain-hold from.pool ptr (source_in from s ptr device_call) reply call is.answer.2 (rw at at is.named) (hold-came from.pool ptr reply is.answer.2 range) next ∙ sym here
  line-plain (ops.Drop n x) reply call device_call is told next = plain-drop x kept reply is.answer
  line-plain (ops.Cap c) reply call device_call is told next = is.answer
  line-plain other reply call device_call is told next = absurd is.answer
