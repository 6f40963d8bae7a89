-- A line that asks for a block's bytes: what is brought for it, and whether it is refused, follow from how the block stood, from what the pool tells, and from how the pool and the cache device answered
-- (dbuf_read of dbuf.c, which reads a block whose bytes are not there).
use Rattle.std.proofs.Common.{◌≡◌, ℕ, ◌<◌, ◌≤◌, nat_lt, if◌then◌else◌, Bool, true, false, List, length, Option, Some, None, refl, sym, ap, subst, ◌∙◌, arith}
use Rattle.blk_ptr.specs.declared.digest.Digest.{Digest}
use Rattle.blk_ptr.specs.declared.key.KeyFault.{KeyFault}
use Rattle.blk_ptr.specs.declared.ptr.Ptr.{Ptr}
use Rattle.blk_ptr.specs.Hash.{shard_of}
use Rattle.blk_ptr.specs.Key.{IsFirstKeyFault, IsValid}
use Rattle.blk_ptr.specs.Ptr.{IsOf, range_of}
use Rattle.arc_core.specs.declared.served.Served.{Served}
use Rattle.arc_core.specs.declared.served.Served.TheVariants as served
use Rattle.arc_core.specs.PlainShard.{PlainShard}
use Rattle.dbuf_state.specs.Outline.{Outline, is_cached_at, mapped_at, mapped_size, outline_after}
use Rattle.dbuf_state.specs.declared.oid.Oid.{Oid}
use Rattle.dbuf_state.specs.declared.state.Mapped.{Mapped}
use Rattle.dbuf_state.specs.declared.state.Mapped.TheVariants.{Clean, Dirty}
use Rattle.dbuf_state.specs.declared.state.Mapping.{Mapping}
use Rattle.dbuf_state.specs.declared.event.CellEvent.{CellEvent}
use Rattle.vdev_io.specs.declared.device.CacheDev.{Ghosts as Devices}
use Rattle.vdev_io.specs.declared.pool.Pool.{Ghosts}
use Rattle.vdev_io.specs.Calls.{Call, Failed, Gave}
use Rattle.trace_text.specs.declared.reply.Refusal.{Refusal}
use Rattle.trace_text.specs.declared.reply.Refusal.TheVariants as refusals
use Rattle.trace_text.specs.declared.reply.Reply.{Reply}
use Rattle.trace_text.specs.declared.reply.Reply.TheVariants as replies
use Rattle.trace_text.specs.declared.trace.Trace.{Trace}
use Rattle.trace_run.specs.Effects.{Answered, Effect, GivenBack, NoEffect, PoolRefused, calls_from, calls_of, effect_of, effect_of_refusal}
use Rattle.trace_run.specs.Read.{IsFromPool, IsMismatch}
use Rattle.trace_run.specs.callers.WorkLines.{AsksBrought, effect_with}
use Rattle.trace_run.specs.dbufs.ObjectLines.{EndsInside, TellsBrought, WasToBring}
use Rattle.trace_run.specs.dbufs.ObjectReplies.{BringsAt, RefusesAt}
use Rattle.trace_run.specs.dbufs.Objects.{Brought, IsAnswered, IsRefusedWith, Loaded, Nothing, Refused}
use Rattle.trace_run.specs.one_caller.Access.{Access, AsksPool, access_of}
use Rattle.trace_run.specs.one_caller.Asking.{NamesServed}
use Rattle.trace_run.specs.one_caller.OneCaller.{NamesSource}
use Rattle.trace_run.specs.one_caller.PlainRun.{key_fault, refused_from}
use Rattle.trace_run.specs.one_caller.Sequence.{IfLent, IsFoundIn, NotFromDevice}
use Rattle.trace_run.proofs.one_caller.PlainLemmas.{IsNext, accepted, failed, first-key, least-test, less-test, mismatched, valid-key}
use Rattle.run_laws.specs.Alike.{AreAlikeSoFar, AreDevicesAlike, bringing_answers, lent_answers}
use Rattle.run_laws.proofs.AskedAlike.{AsksByCalls, asked-alike, block_answers, source-alike}
use Rattle.run_laws.proofs.Rows.{common-next}

-- ---- what comes of asking for a block's bytes

-- what was brought for the line, and why the line was refused, if it was
pub record Outcome : Type 0 where
  pub brought : Brought
  pub refused : Option Refusal

abbrev pub outcome : Brought → Option Refusal → Outcome
outcome brought refused = record { brought = brought; refused = refused }

-- the block was read, and its bytes came from here, or were refused for this cause
abbrev pub read_outcome : Ptr → Served → Option Refusal → Outcome
read_outcome ptr from None = outcome (Loaded ptr from) None
read_outcome ptr from (Some refusal) = outcome (Refused ptr) (Some refusal)

-- before that its key was looked at
abbrev pub keyed_outcome : Option KeyFault → Outcome → Outcome
keyed_outcome None read = read
keyed_outcome (Some why) read = outcome Nothing (Some (refusals.Key why))

-- a block whose bytes come from this source, where the pool tells these bytes and answers its next read so
module _ (image : List ℕ) (source : Served) (call : Call) where
  -- a clean block that is cached is not read
  abbrev pub clean_outcome : (cached : Bool) → Ptr → Outcome
  clean_outcome true ptr = outcome Nothing None
  clean_outcome false ptr = keyed_outcome (key_fault (length image) ptr.key) (read_outcome ptr source (refused_from image ptr source call))

  -- and a dirty one is not
  abbrev pub mapped_outcome : (cached : Bool) → Mapped → Outcome
  mapped_outcome cached (Dirty size) = outcome Nothing None
  mapped_outcome cached (Clean ptr) = clean_outcome cached ptr

  -- before that it was looked whether there is such a block, and whether the range ends inside it
  abbrev pub asked_outcome : Oid → (last : ℕ) → (cached : Bool) → Option Mapped → Outcome
  asked_outcome at last cached None = outcome Nothing (Some (refusals.NoBlock at))
  asked_outcome at last cached (Some m) = if nat_lt (mapped_size m) last then outcome Nothing (Some (refusals.Range last (mapped_size m))) else mapped_outcome cached m

-- ---- what is known of one line

-- the effect of a line with this outcome
abbrev pub effect_unless : Option Refusal → Effect
effect_unless None = NoEffect
effect_unless (Some refusal) = effect_of_refusal refusal

-- what is read is known from what was brought, and else from the reply
abbrev pub effect_brought : Brought → Effect → Effect
effect_brought Nothing e = e
effect_brought (Loaded ptr from) e = Answered from
effect_brought (Refused ptr) e = e

pub with-brought : (brought : Brought) (reply : Reply) → effect_with brought reply ≡ effect_brought brought (effect_of reply)
with-brought Nothing reply = refl
with-brought (Loaded ptr from) reply = refl
with-brought (Refused ptr) reply = refl

-- what was brought names this source, or had to ask the pool where this is the source
abbrev pub IsNamedBy : Served → Brought → Effect → Type 0
IsNamedBy source Nothing e = Unit {0}
IsNamedBy source (Loaded ptr from) e = NamesServed source (Answered from)
IsNamedBy source (Refused ptr) e = NamesServed source e

-- what was brought for a line over a block of this outline, and how
pub record IsBroughtSo (image : List ℕ) (source : Served) (call : Call) (at : Oid) (o : Outline) (brought : Brought) (e : Effect) : Type 0 where
  pub brings : BringsAt (length image) at o brought
  pub range : TellsBrought (Some image) brought
  pub named : IsNamedBy source brought e
  pub next : IsNext (calls_of (effect_brought brought e)) call

-- the key of the block, where it is clean and cached, names one of the pool
abbrev pub IsKeptValid : (image : List ℕ) → Oid → Outline → Type 0
IsKeptValid image at o = (ptr : Ptr) → is_cached_at at o ≡ true → mapped_at at o ≡ Some (Clean ptr) → IsValid (length image) ptr.key

abbrev pub IsNothing : Brought → Type 0
IsNothing Nothing = Unit {0}
IsNothing (Loaded ptr from) = ⊥
IsNothing (Refused ptr) = ⊥

-- Why the line came to this: it was answered, the range ends inside the block, and where nothing was brought its bytes were there; or it was refused for this cause.
abbrev pub AsksSo : (image : List ℕ) → (limit : ℕ) → List Mapping → List CellEvent → Oid → (last : ℕ) → Brought → Option Refusal → Type 0
AsksSo image limit opening front at last brought None =
    IsAnswered brought × EndsInside at last (outline_after limit opening front) × (IsNothing brought → (ptr : Ptr) → WasToBring at ptr (outline_after limit opening front) → ⊥)
AsksSo image limit opening front at last brought (Some refusal) = IsRefusedWith refusal brought × RefusesAt (length image) (Some image) limit opening front brought at last refusal

-- ---- one outcome of each

size_in : Option Mapped → ℕ
size_in None = 0
size_in (Some m) = mapped_size m

size-same : (m k : Mapped) → ◌≡◌ {A = Option Mapped} (Some m) (Some k) → mapped_size m ≡ mapped_size k
unfolding size_in
size-same m k same = ap size_in same

pub inside-size : (at : Oid) (last : ℕ) (o : Outline) (m : Mapped) → EndsInside at last o → mapped_at at o ≡ Some m → last ≤ mapped_size m
inside-size at last o m ends there =
    let same : mapped_size ends.mapped ≡ mapped_size m = size-same ends.mapped m (sym ends.there ∙ there) in
    let inside = ends.inside in
    omega (arith, same, inside)

module _ (image : List ℕ) (source : Served) (call : Call) (at : Oid) (last : ℕ) where
  there-outcome : (m : Mapped) (cached : Bool) → last ≤ mapped_size m → ((ptr : Ptr) → m ≡ Clean ptr → cached ≡ false → ⊥) → outcome Nothing None ≡ asked_outcome image source call at last cached (Some m)
  there-outcome (Dirty size) cached inside there = rw (least-test size last inside) refl
  there-outcome (Clean ptr) true inside there = rw (least-test ptr.key.size last inside) refl
  there-outcome (Clean ptr) false inside there = absurd (there ptr refl refl)

  loaded-outcome : (ptr : Ptr) (from : Served) → last ≤ ptr.key.size → IsValid (length image) ptr.key → from ≡ source → (IsFromPool from → IsOf (range_of image ptr.key) ptr) → IsNext (calls_from from) call
      → outcome (Loaded ptr from) None ≡ asked_outcome image source call at last false (Some (Clean ptr))
  loaded-outcome ptr from inside valid named came next =
      let fine = accepted image ptr from call came next in
      rw (least-test ptr.key.size last inside, valid-key (length image) ptr.key valid, sym named, fine) refl

  range-outcome : (m : Mapped) (cached : Bool) (end size : ℕ) → end ≡ last → size ≡ mapped_size m → size < end → outcome Nothing (Some (refusals.Range end size)) ≡ asked_outcome image source call at last cached (Some m)
  range-outcome m cached end size ends sized past =
      let less : mapped_size m < last = omega (arith, ends, sized, past) in
      rw (less-test (mapped_size m) last less, ends, sized) refl

  key-outcome : (ptr : Ptr) (cached : Bool) (why : KeyFault) → last ≤ ptr.key.size → IsFirstKeyFault (length image) ptr.key why → (cached ≡ true → IsValid (length image) ptr.key)
      → outcome Nothing (Some (refusals.Key why)) ≡ asked_outcome image source call at last cached (Some (Clean ptr))
  key-outcome ptr true why inside fails valid =
      absurd (let clash : ◌≡◌ {A = Option KeyFault} None (Some why) = sym (valid-key (length image) ptr.key (valid refl)) ∙ first-key (length image) ptr.key why fails in cc)
  key-outcome ptr false why inside fails valid = rw (least-test ptr.key.size last inside, first-key (length image) ptr.key why fails) refl

  fault-outcome : (ptr : Ptr) → last ≤ ptr.key.size → IsValid (length image) ptr.key → IsFromPool source → Failed ≡ call
      → outcome (Refused ptr) (Some refusals.PoolFault) ≡ asked_outcome image source call at last false (Some (Clean ptr))
  fault-outcome ptr inside valid asks next =
      let fails = failed image ptr source call asks next in
      rw (least-test ptr.key.size last inside, valid-key (length image) ptr.key valid, fails) refl

  pub answered-outcome : (o : Outline) (brought : Brought) → IsBroughtSo image source call at o brought NoEffect → IsAnswered brought → EndsInside at last o
      → (IsNothing brought → (ptr : Ptr) → WasToBring at ptr o → ⊥) → outcome brought None ≡ asked_outcome image source call at last (is_cached_at at o) (mapped_at at o)
  answered-outcome o Nothing known answered ends there =
      subst (λ (m : Option Mapped). outcome Nothing None ≡ asked_outcome image source call at last (is_cached_at at o) m) (sym ends.there)
      (there-outcome ends.mapped (is_cached_at at o) ends.inside (λ ptr is un. there tt ptr (record { pointer = ends.there ∙ ap (λ (m : Mapped). Some m) is; uncached = un })))
  answered-outcome o (Loaded ptr from) known answered ends there =
      let was : WasToBring at ptr o = known.brings.0 in
      subst (λ (z : Bool × Option Mapped). outcome (Loaded ptr from) None ≡ asked_outcome image source call at last z.0 z.1) (λ h. (sym was.uncached h, sym was.pointer h))
      (loaded-outcome ptr from (inside-size at last o (Clean ptr) ends was.pointer) known.brings.1 known.named known.range known.next)
  answered-outcome o (Refused ptr) known answered ends there = absurd answered

-- a block that was refused
module _ (image : List ℕ) (source : Served) (call : Call) (at : Oid) (last : ℕ) (o : Outline) (ptr : Ptr) (was : WasToBring at ptr o) (ends : EndsInside at last o) where
  read-refused : (refusal : Refusal) → outcome (Refused ptr) (Some refusal) ≡ asked_outcome image source call at last false (Some (Clean ptr))
      → outcome (Refused ptr) (Some refusal) ≡ asked_outcome image source call at last (is_cached_at at o) (mapped_at at o)
  read-refused refusal is =
      subst (λ (z : Bool × Option Mapped). outcome (Refused ptr) (Some refusal) ≡ asked_outcome image source call at last z.0 z.1) (λ h. (sym was.uncached h, sym was.pointer h)) is

  fault-refused : IsValid (length image) ptr.key → IsBroughtSo image source call at o (Refused ptr) (PoolRefused Failed)
      → outcome (Refused ptr) (Some refusals.PoolFault) ≡ asked_outcome image source call at last (is_cached_at at o) (mapped_at at o)
  fault-refused valid known = read-refused refusals.PoolFault (fault-outcome image source call at last ptr (inside-size at last o (Clean ptr) ends was.pointer) valid known.named known.next)

  mismatch-refused : (found : Digest) → IsValid (length image) ptr.key → IsMismatch (Some image) ptr found → IsBroughtSo image source call at o (Refused ptr) (PoolRefused Gave)
      → outcome (Refused ptr) (Some (refusals.Mismatch found)) ≡ asked_outcome image source call at last (is_cached_at at o) (mapped_at at o)
  mismatch-refused found valid miss known =
      let inside : last ≤ ptr.key.size = inside-size at last o (Clean ptr) ends was.pointer in
      let refuses = mismatched image ptr source call found known.named known.next miss.plain.0 miss.other in
      read-refused (refusals.Mismatch found) (rw (least-test ptr.key.size last inside, valid-key (length image) ptr.key valid, refuses) refl)

module _ (image : List ℕ) (source : Served) (call : Call) (at : Oid) (last limit : ℕ) (opening : List Mapping) (front : List CellEvent) where
  -- what a line comes to that was refused
  abbrev pub IsRefusedSo : Brought → Refusal → Type 0
  IsRefusedSo brought refusal = outcome brought (Some refusal) ≡ asked_outcome image source call at last (is_cached_at at (outline_after limit opening front)) (mapped_at at (outline_after limit opening front))

  bringing-refused : (ptr : Ptr) (brought : Brought) (refusal : Refusal) → brought ≡ Refused ptr → IsRefusedSo (Refused ptr) refusal → IsRefusedSo brought refusal
  bringing-refused ptr brought refusal is so = subst (λ (b : Brought). IsRefusedSo b refusal) (sym is) so

  pub refused-outcome : (brought : Brought) (refusal : Refusal) → IsBroughtSo image source call at (outline_after limit opening front) brought (effect_of_refusal refusal) → IsRefusedWith refusal brought
      → RefusesAt (length image) (Some image) limit opening front brought at last refusal → IsKeptValid image at (outline_after limit opening front) → IsRefusedSo brought refusal
  refused-outcome brought (refusals.NoBlock named) known with_it refuses kept =
      let o : Outline = outline_after limit opening front in
      let first : outcome brought (Some (refusals.NoBlock named)) ≡ outcome Nothing (Some (refusals.NoBlock at)) = λ h. outcome (with_it h) (Some (refusals.NoBlock (refuses.0 h))) in
      first ∙ ap (λ (m : Option Mapped). asked_outcome image source call at last (is_cached_at at o) m) (sym refuses.1)
  refused-outcome brought (refusals.Range end size) known with_it refuses kept =
      let o : Outline = outline_after limit opening front in
      let first : outcome brought (Some (refusals.Range end size)) ≡ outcome Nothing (Some (refusals.Range end size)) = λ h. outcome (with_it h) (Some (refusals.Range end size)) in
      first ∙ (range-outcome image source call at last refuses.mapped (is_cached_at at o) end size refuses.end_is refuses.size_is refuses.past
      ∙ ap (λ (m : Option Mapped). asked_outcome image source call at last (is_cached_at at o) m) (sym refuses.there))
  refused-outcome brought (refusals.Key why) known with_it refuses kept =
      let o : Outline = outline_after limit opening front in
      let ptr : Ptr = refuses.1.0 in
      let there : mapped_at at o ≡ Some (Clean ptr) = refuses.1.1 in
      let first : outcome brought (Some (refusals.Key why)) ≡ outcome Nothing (Some (refusals.Key why)) = λ h. outcome (with_it h) (Some (refusals.Key why)) in
      first ∙ (key-outcome image source call at last ptr (is_cached_at at o) why (inside-size at last o (Clean ptr) refuses.0 there) refuses.1.2 (λ cached. kept ptr cached there)
      ∙ ap (λ (m : Option Mapped). asked_outcome image source call at last (is_cached_at at o) m) (sym there))
  refused-outcome brought refusals.PoolFault known with_it refuses kept =
      let ptr : Ptr = refuses.0 in
      let o : Outline = outline_after limit opening front in
      let its : IsBroughtSo image source call at o (Refused ptr) (PoolRefused Failed) = subst (λ (b : Brought). IsBroughtSo image source call at o b (PoolRefused Failed)) refuses.1 known in
      bringing-refused ptr brought refusals.PoolFault refuses.1 (fault-refused image source call at last o ptr refuses.3 refuses.2 refuses.4 its)
  refused-outcome brought (refusals.Mismatch found) known with_it refuses kept =
      let ptr : Ptr = refuses.0 in
      let o : Outline = outline_after limit opening front in
      let its : IsBroughtSo image source call at o (Refused ptr) (PoolRefused Gave) = subst (λ (b : Brought). IsBroughtSo image source call at o b (PoolRefused Gave)) refuses.1 known in
      bringing-refused ptr brought (refusals.Mismatch found) refuses.1 (mismatch-refused image source call at last o ptr refuses.3 refuses.2 found refuses.4.0 refuses.4.1 its)
  refused-outcome brought (refusals.NoHold block) known with_it refuses kept = absurd refuses
  refused-outcome brought (refusals.NoPin named) known with_it refuses kept = absurd refuses
  refused-outcome brought refusals.NoMemory known with_it refuses kept = absurd refuses

  -- each line comes to the outcome that follows from the block
  pub asks-outcome : (brought : Brought) (refused : Option Refusal) → IsBroughtSo image source call at (outline_after limit opening front) brought (effect_unless refused) → AsksSo image limit opening front at last brought refused
      → IsKeptValid image at (outline_after limit opening front)
      → outcome brought refused ≡ asked_outcome image source call at last (is_cached_at at (outline_after limit opening front)) (mapped_at at (outline_after limit opening front))
  asks-outcome brought None known so kept = answered-outcome image source call at last (outline_after limit opening front) brought known so.0 so.1 so.2
  asks-outcome brought (Some refusal) known so kept = refused-outcome brought refusal known so.0 so.1 kept

-- ---- one source for both lines

-- the line shows no bytes of a read
abbrev pub IsNoRead : Effect → Type 0
IsNoRead (Answered from) = ⊥
IsNoRead GivenBack = Unit {0}
IsNoRead (PoolRefused call) = Unit {0}
IsNoRead NoEffect = Unit {0}

from-pool : (e : Effect) → IsNoRead e → NamesServed served.Pool e
from-pool (Answered from) none = absurd none
from-pool GivenBack none = tt
from-pool (PoolRefused call) none = tt
from-pool NoEffect none = tt

found-named : (a : Access) (e : Effect) → IsNoRead e → AsksPool a → NamesSource a e
found-named a (Answered from) none asks = absurd none
found-named a GivenBack none asks = tt
found-named a (PoolRefused call) none asks = asks
found-named a NoEffect none asks = tt

some-is : (ptr other : Ptr) → ◌≡◌ {A = Option Mapped} (Some (Clean other)) (Some (Clean ptr)) → other ≡ ptr
some-is ptr other same = ap its same
  where
    its_of : Mapped → Ptr
    its_of (Clean p) = p
    its_of (Dirty size) = ptr

    its : Option Mapped → Ptr
    its None = ptr
    its (Some m) = its_of m

module _ {P D : Type 0} (pools : Ghosts P) (devices : Devices D) (trace : Trace) where
  -- how the device was asked to bring this, where the shards were these
  abbrev pub AsksToBring : (s : ℕ → PlainShard) → Brought → Reply → (old new : Option D) → Type 0
  AsksToBring s brought reply old new = IfLent (NotFromDevice (effect_with brought reply)) (AsksBrought devices trace.config s brought reply) old new

  abbrev pub bringing_row : (s : ℕ → PlainShard) (brought : Brought) (reply : Reply) (old new : Option D) → AsksToBring s brought reply old new → List Call
  bringing_row s brought reply old new asks = lent_answers (NotFromDevice (effect_with brought reply)) (AsksBrought devices trace.config s brought reply) (bringing_answers pools devices trace s brought reply) old new asks

  -- the shard of a pointer's key
  abbrev pub shard_in : (ℕ → PlainShard) → Ptr → PlainShard
  shard_in s ptr = s (shard_of trace.config.shards ptr.key)

  module _ (s z : ℕ → PlainShard) (same : (shard : ℕ) → z shard ≡ s shard) (old new other other_new : Option D) (alike : AreDevicesAlike pools devices trace s old other) where
    -- one source of a block that both lines read
    one-of : (ptr p : Ptr) → p ≡ ptr → (e f : Effect) → NamesSource (access_of (shard_in s ptr) ptr) e → NamesSource (access_of (shard_in z p) p) f
        → (asks : IfLent (NotFromDevice e) (AsksByCalls pools devices trace (shard_in s ptr) (Some ptr) e) old new) → (other_asks : IfLent (NotFromDevice f) (AsksByCalls pools devices trace (shard_in z p) (Some p) f) other other_new)
        → AreAlikeSoFar (block_answers pools devices trace (shard_in s ptr) (Some ptr) e old new asks) (block_answers pools devices trace (shard_in z p) (Some p) f other other_new other_asks)
        → (source : Served) × NamesServed source e × NamesServed source f
    one-of ptr p is e f named other_named asks other_asks rows =
        subst
        (λ (x : Ptr). NamesSource (access_of (shard_in z x) x) f → (other_asks : IfLent (NotFromDevice f) (AsksByCalls pools devices trace (shard_in z x) (Some x) f) other other_new)
        → AreAlikeSoFar (block_answers pools devices trace (shard_in s ptr) (Some ptr) e old new asks) (block_answers pools devices trace (shard_in z x) (Some x) f other other_new other_asks)
        → (source : Served) × NamesServed source e × NamesServed source f)
        (sym is)
        (λ its_named its_asks its_rows. source-alike pools devices trace s ptr (shard_in s ptr) (shard_in z ptr) e f refl (same (shard_of trace.config.shards ptr.key)) named its_named old new other other_new alike asks its_asks its_rows)
        other_named other_asks rows

    -- one source, which both lines name
    pub source-one : (r q : Reply) → IsNoRead (effect_of r) → IsNoRead (effect_of q) → (b c : Brought) (len : ℕ) (at : Oid) (o : Outline) → BringsAt len at o b → BringsAt len at o c → IsFoundIn trace.config s b → IsFoundIn trace.config z c
        → (asks : AsksToBring s b r old new) → (other_asks : AsksToBring z c q other other_new) → AreAlikeSoFar (bringing_row s b r old new asks) (bringing_row z c q other other_new other_asks)
        → (source : Served) × IsNamedBy source b (effect_of r) × IsNamedBy source c (effect_of q)
    source-one r q no_read other_no_read Nothing Nothing len at o brings other_brings found other_found asks other_asks rows = (served.Pool, tt, tt)
    source-one r q no_read other_no_read Nothing (Loaded p f) len at o brings other_brings found other_found asks other_asks rows = (f, tt, refl)
    source-one r q no_read other_no_read Nothing (Refused p) len at o brings other_brings found other_found asks other_asks rows = (served.Pool, tt, from-pool (effect_of q) other_no_read)
    source-one r q no_read other_no_read (Loaded ptr from) Nothing len at o brings other_brings found other_found asks other_asks rows = (from, refl, tt)
    source-one r q no_read other_no_read (Refused ptr) Nothing len at o brings other_brings found other_found asks other_asks rows = (served.Pool, from-pool (effect_of r) no_read, tt)
    source-one r q no_read other_no_read (Loaded ptr from) (Loaded p f) len at o brings other_brings found other_found asks other_asks rows =
        let is : p ≡ ptr = some-is ptr p (sym other_brings.0.pointer ∙ brings.0.pointer) in
        one-of ptr p is (Answered from) (Answered f) found other_found asks other_asks rows
    source-one r q no_read other_no_read (Loaded ptr from) (Refused p) len at o brings other_brings found other_found asks other_asks rows =
        let is : p ≡ ptr = some-is ptr p (sym other_brings.0.pointer ∙ brings.0.pointer) in
        one-of ptr p is (Answered from) (effect_of q) found (found-named (access_of (shard_in z p) p) (effect_of q) other_no_read other_found) asks other_asks rows
    source-one r q no_read other_no_read (Refused ptr) (Loaded p f) len at o brings other_brings found other_found asks other_asks rows =
        let is : p ≡ ptr = some-is ptr p (sym other_brings.0.pointer ∙ brings.0.pointer) in
        one-of ptr p is (effect_of r) (Answered f) (found-named (access_of (shard_in s ptr) ptr) (effect_of r) no_read found) other_found asks other_asks rows
    source-one r q no_read other_no_read (Refused ptr) (Refused p) len at o brings other_brings found other_found asks other_asks rows =
        let is : p ≡ ptr = some-is ptr p (sym other_brings.0.pointer ∙ brings.0.pointer) in
        one-of ptr p is (effect_of r) (effect_of q) (found-named (access_of (shard_in s ptr) ptr) (effect_of r) no_read found) (found-named (access_of (shard_in z p) p) (effect_of q) other_no_read other_found) asks other_asks rows

    -- where nothing was brought no device was asked
    unasked-alike : (r : Reply) → (asks : AsksToBring s Nothing r old new) → (other_asks : AsksToBring z Nothing r other other_new)
        → (bringing_row z Nothing r other other_new other_asks ≡ bringing_row s Nothing r old new asks) × AreDevicesAlike pools devices trace s new other_new
    unasked-alike r asks other_asks = go old new other other_new alike asks other_asks
      where
        go : (old new other other_new : Option D) → AreDevicesAlike pools devices trace s old other → (asks : AsksToBring s Nothing r old new) → (other_asks : AsksToBring z Nothing r other other_new)
            → (bringing_row z Nothing r other other_new other_asks ≡ bringing_row s Nothing r old new asks) × AreDevicesAlike pools devices trace s new other_new
        go None None None None alike asks other_asks = (refl, tt)
        go None None None (Some y) alike asks other_asks = absurd other_asks
        go None None (Some x) other_new alike asks other_asks = absurd alike
        go None (Some x) other other_new alike asks other_asks = absurd asks
        go (Some x) None other other_new alike asks other_asks = absurd asks
        go (Some x) (Some y) None other_new alike asks other_asks = absurd alike
        go (Some x) (Some y) (Some v) None alike asks other_asks = absurd other_asks
        go (Some x) (Some y) (Some v) (Some w) alike asks other_asks = (refl, subst (λ (d : D × D). AreDevicesAlike pools devices trace s (Some d.0) (Some d.1)) (λ h. (sym asks h, sym other_asks h)) alike)

    row-same : (r : Reply) (b : Brought) → (asks : AsksToBring s b r old new) → (other_asks : AsksToBring z b r other other_new) → AreAlikeSoFar (bringing_row s b r old new asks) (bringing_row z b r other other_new other_asks)
        → (bringing_row z b r other other_new other_asks ≡ bringing_row s b r old new asks) × AreDevicesAlike pools devices trace s new other_new
    row-same r Nothing asks other_asks rows = unasked-alike r asks other_asks
    row-same r (Loaded ptr from) asks other_asks rows =
        asked-alike pools devices trace s (Some ptr) (shard_in s ptr) (shard_in z ptr) (Answered from) (Answered from) (same (shard_of trace.config.shards ptr.key)) refl old new other other_new alike asks other_asks rows
    row-same r (Refused ptr) asks other_asks rows =
        asked-alike pools devices trace s (Some ptr) (shard_in s ptr) (shard_in z ptr) (effect_of r) (effect_of r) (same (shard_of trace.config.shards ptr.key)) refl old new other other_new alike asks other_asks rows

    -- both asked the device the same, and so it tells the same behind it
    pub device-same : (b c : Brought) (r q : Reply) → c ≡ b → q ≡ r → (asks : AsksToBring s b r old new) → (other_asks : AsksToBring z c q other other_new)
        → AreAlikeSoFar (bringing_row s b r old new asks) (bringing_row z c q other other_new other_asks)
        → (bringing_row z c q other other_new other_asks ≡ bringing_row s b r old new asks) × AreDevicesAlike pools devices trace s new other_new
    device-same b c r q one reply asks other_asks rows =
        subst
        (λ (x : Brought × Reply). (other_asks : AsksToBring z x.0 x.1 other other_new) → AreAlikeSoFar (bringing_row s b r old new asks) (bringing_row z x.0 x.1 other other_new other_asks)
        → (bringing_row z x.0 x.1 other other_new other_asks ≡ bringing_row s b r old new asks) × AreDevicesAlike pools devices trace s new other_new)
        (λ h. (sym one h, sym reply h)) (row-same r b asks) other_asks rows

-- ---- both lines come to one outcome

-- why a reply refuses, if it does
abbrev pub refusal_of : Reply → Option Refusal
refusal_of (replies.Refused refusal) = Some refusal
refusal_of (replies.Got size shown) = None
refusal_of replies.Done = None
refusal_of (replies.Read from digest shown) = None
refusal_of (replies.Kept from) = None
refusal_of replies.Dropped = None
refusal_of (replies.Fed report) = None
refusal_of replies.FedNone = None
refusal_of (replies.Synced group blocks bytes) = None
refusal_of (replies.Capped c) = None

-- the reply tells no read but one that the pool refused
abbrev pub TellsRefusal : Reply → Type 0
TellsRefusal reply = effect_of reply ≡ effect_unless (refusal_of reply)

unless-no-read : (refused : Option Refusal) → IsNoRead (effect_unless refused)
unless-no-read None = tt
unless-no-read (Some refusals.PoolFault) = tt
unless-no-read (Some (refusals.Mismatch found)) = tt
unless-no-read (Some (refusals.Key why)) = tt
unless-no-read (Some (refusals.Range end size)) = tt
unless-no-read (Some (refusals.NoBlock at)) = tt
unless-no-read (Some (refusals.NoHold block)) = tt
unless-no-read (Some (refusals.NoPin at)) = tt
unless-no-read (Some refusals.NoMemory) = tt

pub no-read : (reply : Reply) → TellsRefusal reply → IsNoRead (effect_of reply)
no-read reply tells = subst IsNoRead (sym tells) (unless-no-read (refusal_of reply))

module _ {P D : Type 0} (pools : Ghosts P) (devices : Devices D) (trace : Trace) (s z : ℕ → PlainShard) (same : (shard : ℕ) → z shard ≡ s shard) (old new other other_new : Option D) (alike : AreDevicesAlike pools devices trace s old other) where
  -- Two lines that ask for the bytes of one block, over shards and devices that are alike, of whose calls the same failed: the same block is brought, or none, and both are answered, or refused for one cause.
  pub brought-alike : (image : List ℕ) (limit : ℕ) (opening : List Mapping) (front : List CellEvent) (at : Oid) (last : ℕ) (b c : Brought) (r q : Reply) → TellsRefusal r → TellsRefusal q
      → AsksSo image limit opening front at last b (refusal_of r) → AsksSo image limit opening front at last c (refusal_of q) → IsKeptValid image at (outline_after limit opening front)
      → BringsAt (length image) at (outline_after limit opening front) b → BringsAt (length image) at (outline_after limit opening front) c → TellsBrought (Some image) b → TellsBrought (Some image) c
      → IsFoundIn trace.config s b → IsFoundIn trace.config z c → (asks : AsksToBring pools devices trace s b r old new) → (other_asks : AsksToBring pools devices trace z c q other other_new)
      → AreAlikeSoFar (bringing_row pools devices trace s b r old new asks) (bringing_row pools devices trace z c q other other_new other_asks)
      → AreAlikeSoFar (calls_of (effect_with b r)) (calls_of (effect_with c q)) → (c ≡ b) × (refusal_of q ≡ refusal_of r)
  brought-alike image limit opening front at last b c r q tells other_tells so other_so kept brings other_brings range other_range found other_found asks other_asks rows pool_rows =
      let o : Outline = outline_after limit opening front in
      let source = source-one pools devices trace s z same old new other other_new alike r q (no-read r tells) (no-read q other_tells) b c (length image) at o brings other_brings found other_found asks other_asks rows in
      let call = common-next (calls_of (effect_with b r)) (calls_of (effect_with c q)) pool_rows in
      let known : IsBroughtSo image source.0 call.0 at o b (effect_unless (refusal_of r)) = record {
        brings = brings;
        range = range;
        named = subst (λ (e : Effect). IsNamedBy source.0 b e) tells source.1;
        next = subst (λ (e : Effect). IsNext (calls_of e) call.0) (with-brought b r ∙ ap (λ (e : Effect). effect_brought b e) tells) call.1;
      } in
      let other_known : IsBroughtSo image source.0 call.0 at o c (effect_unless (refusal_of q)) = record {
        brings = other_brings;
        range = other_range;
        named = subst (λ (e : Effect). IsNamedBy source.0 c e) other_tells source.2;
        next = subst (λ (e : Effect). IsNext (calls_of e) call.0) (with-brought c q ∙ ap (λ (e : Effect). effect_brought c e) other_tells) call.2;
      } in
      let first = asks-outcome image source.0 call.0 at last limit opening front b (refusal_of r) known so kept in
      let second = asks-outcome image source.0 call.0 at last limit opening front c (refusal_of q) other_known other_so kept in
      let both : outcome c (refusal_of q) ≡ outcome b (refusal_of r) = second ∙ sym first in
      (ap (λ (x : Outcome). x.brought) both, ap (λ (x : Outcome). x.refused) both)
