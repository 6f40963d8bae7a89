-- What a read through the shared cache asked of the cache device, and what lines did that were done one after another.
use Rattle.std.proofs.Common.{◌≡◌, ◌≢◌, ℕ, ◌<◌, List, [], ◌∷◌, Option, Some, Result, Ok, Err, refl, sym, ap, subst, arith}
use Rattle.std.specs.Prelude.{IfOk, slice_get}
use Rattle.std.specs.Option.{option_map_or}
use Rattle.blk_ptr.specs.declared.digest.Digest.{Digest}
use Rattle.blk_ptr.specs.declared.memory.NoMemory.{NoMemory}
use Rattle.blk_ptr.specs.declared.ptr.Ptr.{Ptr}
use Rattle.blk_ptr.specs.Key.{IsValid}
use Rattle.vdev_io.specs.declared.device.CacheDev.{Ghosts as DeviceGhosts}
use Rattle.vdev_io.specs.declared.pool.Pool.{Ghosts as PoolGhosts}
use Rattle.vdev_io.specs.Calls.{Call, Failed, Gave, MakesDeviceCall, Read as Reading, answered as call_of}
use Rattle.arc_core.specs.declared.config.Config.{Config}
use Rattle.arc_core.specs.declared.served.ReadFault.{ReadFault}
use Rattle.arc_core.specs.declared.served.ReadFault.TheVariants as fault
use Rattle.arc_core.specs.declared.served.Served.TheVariants as served
use Rattle.arc_core.specs.declared.shard.EntryView.{EntryView}
use Rattle.turn_table.specs.Places.{Place}
use Rattle.arc_table.specs.declared.read.Read.{Read}
use Rattle.arc_table.specs.declared.read.Read.TheVariants as gave
use Rattle.arc_table.specs.declared.view.Known.{Known}
use Rattle.arc_table.specs.Fetching.{IsAsked, Unserved, faulty, other_bytes, unasked}
use Rattle.arc_table.specs.Items.{Meanings}
use Rattle.arc_table.specs.Reading.{Answers, AnswersRead, EndsAtPool, EndsMiss, EndsPast, GoesToPool, Outside, TurnsToPool, answered, cleared, from_device, from_none, from_pool, hit, missed, no_memory, past, read, refused, unread, unserved}
use Rattle.trace_text.specs.declared.reply.Refusal.{Refusal}
use Rattle.trace_text.specs.declared.reply.Refusal.TheVariants as refusals
use Rattle.trace_text.specs.declared.reply.Reply.{Reply}
use Rattle.trace_text.specs.declared.reply.Reply.TheVariants as replies
use Rattle.trace_run.specs.Answers.{AnswersDrop, IsDropRefusal}
use Rattle.trace_run.specs.DeviceReads.{AsksFor, GetAsks, WasReadAtMostOnce, WasReadOnce, never, once}
use Rattle.trace_run.specs.callers.WorkLines.{AllAsked, NoneFromDevice, effect_with, size_asked_by}
use Rattle.trace_run.specs.dbufs.ObjectLines.{on_object}
use Rattle.trace_run.specs.dbufs.Objects.{Line}
use Rattle.trace_run.specs.Effects.{Effect, Answered, effect_of}
use Rattle.trace_run.specs.Reads.{IsRefused}

-- ---- a read through the shared cache

module _ {D : Type 0} (devices : DeviceGhosts D) where
  -- what it asked, by what it came to
  abbrev pub DeviceDid : ℕ → (old new : D) → Result Read ReadFault → Type 0
  DeviceDid n old new (Ok (gave.Held hold from)) = AsksFor devices n (Answered from) old new
  DeviceDid n old new (Ok (gave.Past block kept)) = new ≡ old
  DeviceDid n old new (Err (fault.PoolFault)) = WasReadAtMostOnce devices n old new
  DeviceDid n old new (Err (fault.Mismatch found)) = WasReadAtMostOnce devices n old new
  DeviceDid n old new (Err (fault.Key why)) = new ≡ old
  DeviceDid n old new (Err (fault.NoMemory)) = Unit {0}

  pub fault-asks : (n : ℕ) (old new : D) (why : ReadFault) → DeviceDid n old new (Err why) → GetAsks devices n (Err why) old new
  fault-asks n old new (fault.PoolFault) d = d
  fault-asks n old new (fault.Mismatch found) d = d
  fault-asks n old new (fault.Key why) d = d
  fault-asks n old new (fault.NoMemory) d = tt

  once-of : (ptr : Ptr) (found : Option EntryView) (place : ℕ) (call : Call) (old new : D) → 0 < ptr.key.size → IsAsked devices ptr found place call old new → WasReadOnce devices ptr.key.size call old new
  once-of ptr found place call old new pos asked = record {
    place = place;
    some = pos;
    inside = asked.due.inside;
    call = subst (λ (d : D). MakesDeviceCall devices (call_of call (Reading place ptr.key.size)) old d) (sym asked.calls.2) asked.calls.1;
  }

module _ {C P D : Type 0} (m : Meanings C) (pools : PoolGhosts P) (devices : DeviceGhosts D) (g : Config) (ptr : Ptr) (t : ℕ) (pos : 0 < ptr.key.size) where
  abbrev n : ℕ
  n = ptr.key.size

  unserved-once : (found : Option EntryView) (old new : D) → Unserved devices ptr found old new → WasReadAtMostOnce devices n old new
  unserved-once found old new (unasked none same) = never same
  unserved-once found old new (faulty place asked) = once Failed (once-of devices ptr found place Failed old new pos asked)
  unserved-once found old new (other_bytes place asked told) = once Gave (once-of devices ptr found place Gave old new pos asked)

  turned-once : (found : Option EntryView) (old new : D) (p q : Place (Known C)) → TurnsToPool m devices g ptr found old new p q → WasReadAtMostOnce devices n old new
  turned-once found old new p q (unserved u is) = unserved-once found old new u
  turned-once found old new p q (cleared bytes came finds) = once Gave (once-of devices ptr found came.place Gave old new pos came.asked)

  end-asks : (a b : P) (old new : D) (p q : Place (Known C)) (result : Result Read ReadFault) → WasReadAtMostOnce devices n old new → EndsAtPool m pools g ptr a b p q result → DeviceDid devices n old new result
  end-asks a b old new p q (Ok (gave.Held hold served.Pool)) w h = w
  end-asks a b old new p q (Ok (gave.Held hold served.Hit)) w h = absurd h
  end-asks a b old new p q (Ok (gave.Held hold served.L2)) w h = absurd h
  end-asks a b old new p q (Ok (gave.Held hold served.Past)) w h = absurd h
  end-asks a b old new p q (Ok (gave.Past block kept)) w h = absurd h
  end-asks a b old new p q (Err (fault.PoolFault)) w h = w
  end-asks a b old new p q (Err (fault.Mismatch found)) w h = w
  end-asks a b old new p q (Err (fault.Key why)) w h = absurd h
  end-asks a b old new p q (Err (fault.NoMemory)) w h = tt

  goes-asks : (a b : P) (old new : D) (p q : Place (Known C)) (result : Result Read ReadFault) → WasReadAtMostOnce devices n old new → GoesToPool m pools g ptr a b p q result → DeviceDid devices n old new result
  goes-asks a b old new p q result w (read ends) = end-asks a b old new p q result w ends
  goes-asks a b old new p q result w (unread f) = subst (DeviceDid devices n old new) (sym f.answer) tt

  miss-asks : (found : Option EntryView) (before now : Outside P D) (p q : Place (Known C)) (result : Result Read ReadFault) → EndsMiss m pools devices g ptr found before now p q result → DeviceDid devices n before.device now.device result
  miss-asks found before now p q result (from_device hold is a) =
      subst (DeviceDid devices n before.device now.device) (sym is) (once-of devices ptr found a.bytes.place Gave before.device now.device pos a.bytes.asked)
  miss-asks found before now p q result (from_pool back turns goes) =
      goes-asks before.pool now.pool before.device now.device back q result (turned-once found before.device now.device p back turns) goes
  miss-asks found before now p q result (from_none asked f) = subst (DeviceDid devices n before.device now.device) (sym f.answer) tt

  past-asks : (a b : P) (kept : Digest) (old new : D) (result : Result Read ReadFault) → new ≡ old → EndsPast pools ptr kept a b result → DeviceDid devices n old new result
  past-asks a b kept old new (Ok (gave.Past block digest)) same h = same
  past-asks a b kept old new (Ok (gave.Held hold from)) same h = absurd h
  past-asks a b kept old new (Err (fault.PoolFault)) same h = never same
  past-asks a b kept old new (Err (fault.Mismatch found)) same h = never same
  past-asks a b kept old new (Err (fault.Key why)) same h = absurd h
  past-asks a b kept old new (Err (fault.NoMemory)) same h = tt

  answer-asks : (before now : Outside P D) (p q : Place (Known C)) (result : Result Read ReadFault) → Answers m pools devices g ptr t before now p q result → DeviceDid devices n before.device now.device result
  answer-asks before now p q result (hit hold is d cached held same) = subst (DeviceDid devices n before.device now.device) (sym is) (ap (λ (x : Outside P D). x.device) same)
  answer-asks before now p q result (missed r d missing ends) = miss-asks _ before now r q result ends
  answer-asks before now p q result (past kept other d cached device ends) = past-asks before.pool now.pool kept before.device now.device result device ends
  answer-asks before now p q result (no_memory is d same) = subst (DeviceDid devices n before.device now.device) (sym is) tt

module _ {C P D : Type 0} (m : Meanings C) (pools : PoolGhosts P) (devices : DeviceGhosts D) (g : Config) (ptr : Ptr) (t : ℕ) where
  valid-some : (len : ℕ) → IsValid len ptr.key → 0 < ptr.key.size
  valid-some len ok = let least = ok.formed.sized.1 in omega (arith, least)

  pub read-asks : (before now : Outside P D) (p q : Place (Known C)) (result : Result Read ReadFault) → AnswersRead m pools devices g ptr t before now p q result → DeviceDid devices ptr.key.size before.device now.device result
  read-asks before now p q result (refused why is first same none) = subst (DeviceDid devices ptr.key.size before.device now.device) (sym is) (ap (λ (x : Outside P D). x.device) none)
  read-asks before now p q result (answered ok times r waits answer) = answer-asks m pools devices g ptr t (valid-some (pools.size before.pool) ok) before now r q result answer

-- ---- a line

module _ {D : Type 0} (devices : DeviceGhosts D) where
  -- one that was refused
  pub refused-asks : (n : ℕ) (why : ReadFault) (refusal : Refusal) (old new : D) → IsRefused why refusal → GetAsks devices n (Err why) old new → AsksFor devices n (effect_of (replies.Refused refusal)) old new
  refused-asks n (fault.PoolFault) refusal old new is d = subst (λ (r : Refusal). AsksFor devices n (effect_of (replies.Refused r)) old new) (sym is) d
  refused-asks n (fault.Mismatch found) refusal old new is d = subst (λ (r : Refusal). AsksFor devices n (effect_of (replies.Refused r)) old new) (sym is) d
  refused-asks n (fault.Key why) refusal old new is d = subst (λ (r : Refusal). AsksFor devices n (effect_of (replies.Refused r)) old new) (sym is) d
  refused-asks n (fault.NoMemory) refusal old new is d = absurd is

  -- a read of a declared block
  pub block-asks : (blocks : List Ptr) (x : ℕ) (ptr : Ptr) (old new : D) (r : Result Reply NoMemory) → slice_get blocks x ≡ Some ptr → IfOk r (λ reply. AsksFor devices ptr.key.size (effect_of reply) old new)
      → IfOk r (λ reply. AsksFor devices (option_map_or (λ (p : Ptr). p.key.size) (slice_get blocks x) 0) (effect_of reply) old new)
  block-asks blocks x ptr old new (Ok reply) there h = subst (λ (o : Option Ptr). AsksFor devices (option_map_or (λ (p : Ptr). p.key.size) o 0) (effect_of reply) old new) (sym there) h
  block-asks blocks x ptr old new (Err e) there h = tt

-- a drop gives one back or is refused
refusal-asks : {D : Type 0} (devices : DeviceGhosts D) (n : ℕ) (d : D) (kept dropped block : ℕ) (refusal : Refusal) → IsDropRefusal kept dropped block refusal → AsksFor devices n (effect_of (replies.Refused refusal)) d d
refusal-asks devices n d kept dropped block (refusals.NoHold missing) h = refl
refusal-asks devices n d kept dropped block other h = absurd h

pub drop-asks : {D : Type 0} (devices : DeviceGhosts D) (n : ℕ) (d : D) (kept dropped block : ℕ) (reply : Reply) → AnswersDrop kept dropped block reply → AsksFor devices n (effect_of reply) d d
drop-asks devices n d kept dropped block replies.Dropped h = refl
drop-asks devices n d kept dropped block (replies.Refused refusal) h = refusal-asks devices n d kept dropped block refusal h
drop-asks devices n d kept dropped block other h = absurd h

-- ---- lines, one after another

module _ {D : Type 0} (devices : DeviceGhosts D) (blocks : List Ptr) where
  -- an effect that a device without bytes can't have
  pub none-asked : (n : ℕ) (e : Effect) (a b : D) → devices.size a ≡ 0 → AsksFor devices n e a b → e ≢ Answered served.L2
  none-asked n e a b empty asked is =
      let once : WasReadOnce devices n Gave a b = subst (λ (f : Effect). AsksFor devices n f a b) is asked in
      absurd (omega (arith, empty, once.some, once.inside))

  -- no line has bytes from a device of no length
  pub none-came : (ls : List Line) (a b : D) → AllAsked devices blocks ls a b → ((d : D) → devices.size d ≡ 0) → NoneFromDevice ls
  none-came [] a b did empty = tt
  none-came (l ∷ ls) a b did empty = (none-asked (size_asked_by blocks (on_object l.op) l) (effect_with l.work.brought l.reply) a did.0 (empty a) did.1, none-came ls did.0 b did.2 empty)
