-- The calls of a device, from the clauses of its trait, and one list of calls behind another.
use Rattle.std.proofs.Common.{◌≡◌, ℕ, List, [], ◌∷◌, ◌++◌, map, Option, None, Some, Result, Ok, Err, refl, sym, ap, subst, ◌∙◌, append_assoc}
use Rattle.std.specs.Prelude.{Bool, IfSome, IsTrue, OnErr, OnOk}
use Rattle.std.proofs.lemmas.List.{map-append}
use Rattle.vdev_io.specs.declared.device.CacheDev.{Ghosts as DeviceGhosts}
use Rattle.vdev_io.specs.Device.{FollowsBySector, IsWritten, LeavesNoMore, LeavesOnly, LeavesSame}
use Rattle.vdev_io.specs.Faults.{CountsFault, CountsOne, sum_of_counts}
use Rattle.vdev_io.specs.Calls.{Call, Gave, Failed, answer_of, CountsCall, Asked, Read, Write, Flush, DeviceCall, answered, IsToldAfter, LeavesAfter, MakesDeviceCalls, MakesAll, MakesUpTo, MakesAsked}

counts_call : {T E : Type 0} (before now : ℕ) (result : Result T E) → CountsFault before now result → CountsCall (answer_of result) before now
counts_call before now (Ok value) counts = counts
counts_call before now (Err error) counts = counts

told_still : (answer : Call) (at n : ℕ) (old new : Option (List ℕ)) → new ≡ old → IsToldAfter (Read at n) answer old new
told_still answer at n None new same = same
told_still answer at n (Some old) None same = let e : None ≡ Some old = same in cc
told_still answer at n (Some old) (Some new) same = cc

told_flushed : (answer : Call) (old new : Option (List ℕ)) → new ≡ old → IsToldAfter Flush answer old new
told_flushed answer None new same = same
told_flushed answer (Some old) None same = let e : None ≡ Some old = same in cc
told_flushed answer (Some old) (Some new) same = cc

told_written : {T E : Type 0} (at : ℕ) (bytes : List ℕ) (old new : Option (List ℕ)) (result : Result T E) → IsWritten at bytes old new result → IsToldAfter (Write at bytes) (answer_of result) old new
told_written at bytes None new result written = written
told_written at bytes (Some old) None result written = written
told_written at bytes (Some old) (Some new) (Ok value) written = written
told_written at bytes (Some old) (Some new) (Err error) written = written

leaves_flushed : {T E : Type 0} (told : Option (List ℕ)) (sectors : Bool) (old new : List ℕ → Type 0) (result : Result T E) → LeavesNoMore old new → OnOk result (IfSome told (λ image. LeavesOnly image new))
    → OnErr result (LeavesSame old new) → LeavesAfter Flush (answer_of result) told sectors old new
leaves_flushed told sectors old new (Ok value) no_more durable failed = (no_more, durable)
leaves_flushed told sectors old new (Err error) no_more durable failed = failed

module _ {D : Type 0} (device : DeviceGhosts D) where
  pub makes_read : {T E : Type 0} (at n : ℕ) (old new : D) (result : Result T E) → device.size new ≡ device.size old → device.has_sectors new ≡ device.has_sectors old → device.told new ≡ device.told old
      → LeavesSame (device.may_leave old) (device.may_leave new) → CountsOne (device.reads old) (device.reads new) → device.other_calls new ≡ device.other_calls old → CountsFault (device.faults old) (device.faults new) result → MakesDeviceCalls device (answered (answer_of result) (Read at n) ∷ []) old new
  makes_read at n old new result size kind told crash reads others faults = (
    new,
    record {
      size = size;
      kind = kind;
      told = told_still (answer_of result) at n (device.told old) (device.told new) told;
      crash = crash;
      reads = reads;
      others = others;
      faults = counts_call (device.faults old) (device.faults new) result faults;
    },
    refl,
  )

  pub makes_write : {T E : Type 0} (at : ℕ) (bytes : List ℕ) (old new : D) (result : Result T E) → device.size new ≡ device.size old → device.has_sectors new ≡ device.has_sectors old
      → IsWritten at bytes (device.told old) (device.told new) result → (IsTrue (device.has_sectors old) → FollowsBySector at bytes (device.may_leave old) (device.may_leave new)) → device.reads new ≡ device.reads old → device.other_calls new ≡ sum_of_counts (device.other_calls old) 1 → CountsFault (device.faults old) (device.faults new) result
      → MakesDeviceCalls device (answered (answer_of result) (Write at bytes) ∷ []) old new
  makes_write at bytes old new result size kind told crash reads others faults = (
    new,
    record {
      size = size;
      kind = kind;
      told = told_written at bytes (device.told old) (device.told new) result told;
      crash = crash;
      reads = reads;
      others = others;
      faults = counts_call (device.faults old) (device.faults new) result faults;
    },
    refl,
  )

  pub makes_flush : {T E : Type 0} (old new : D) (result : Result T E) → device.size new ≡ device.size old → device.has_sectors new ≡ device.has_sectors old → device.told new ≡ device.told old
      → LeavesNoMore (device.may_leave old) (device.may_leave new) → OnOk result (IfSome (device.told old) (λ image. LeavesOnly image (device.may_leave new)))
      → OnErr result (LeavesSame (device.may_leave old) (device.may_leave new)) → device.reads new ≡ device.reads old → device.other_calls new ≡ sum_of_counts (device.other_calls old) 1 → CountsFault (device.faults old) (device.faults new) result
      → MakesDeviceCalls device (answered (answer_of result) Flush ∷ []) old new
  makes_flush old new result size kind told no_more durable failed reads others faults = (
    new,
    record {
      size = size;
      kind = kind;
      told = told_flushed (answer_of result) (device.told old) (device.told new) told;
      crash = leaves_flushed (device.told old) (device.has_sectors old) (device.may_leave old) (device.may_leave new) result no_more durable failed;
      reads = reads;
      others = others;
      faults = counts_call (device.faults old) (device.faults new) result faults;
    },
    refl,
  )

  -- a call that was made is all that was asked for, or the one that failed
  pub asked_once : {T E : Type 0} (asked : Asked) (old new : D) (result : Result T E) → MakesDeviceCalls device (answered (answer_of result) asked ∷ []) old new → MakesAsked device (asked ∷ []) old new result
  asked_once asked old new (Ok value) made = made
  asked_once asked old new (Err error) made = record { done = []; failed = asked; left = []; whole = refl; calls = made }

  -- one list of calls, and another
  pub calls_behind : (first then : List DeviceCall) (old mid new : D) → MakesDeviceCalls device first old mid → MakesDeviceCalls device then mid new → MakesDeviceCalls device (first ++ then) old new
  calls_behind [] then old mid new before after = subst (λ (d : D). MakesDeviceCalls device then d new) before after
  calls_behind (call ∷ calls) then old mid new before after = (before.0, before.1, calls_behind calls then before.0 mid new before.2 after)

  pub all_behind : (first then : List Asked) (old mid new : D) → MakesAll device first old mid → MakesAll device then mid new → MakesAll device (first ++ then) old new
  all_behind first then old mid new before after =
      subst (λ (calls : List DeviceCall). MakesDeviceCalls device calls old new) (sym (map-append (answered Gave) first then))
      (calls_behind (map (answered Gave) first) (map (answered Gave) then) old mid new before after)

  pub up_to_behind : (first then : List Asked) (old mid new : D) → MakesAll device first old mid → MakesUpTo device then mid new → MakesUpTo device (first ++ then) old new
  up_to_behind first then old mid new before after =
      let last : List DeviceCall = answered Failed after.failed ∷ [] in
      record {
        done = first ++ after.done;
        failed = after.failed;
        left = after.left;
        whole = ap (λ (asked : List Asked). first ++ asked) after.whole ∙ sym (append_assoc first after.done (after.failed ∷ after.left));
        calls = subst (λ (calls : List DeviceCall). MakesDeviceCalls device calls old new)
            (sym (append_assoc (map (answered Gave) first) (map (answered Gave) after.done) last) ∙ ap (λ (calls : List DeviceCall). calls ++ last) (sym (map-append (answered Gave) first after.done)))
            (calls_behind (map (answered Gave) first) (map (answered Gave) after.done ++ last) old mid new before after.calls);
      }

  -- those that come behind the one that failed were not asked for
  pub up_to_wider : (first then : List Asked) (old new : D) → MakesUpTo device first old new → MakesUpTo device (first ++ then) old new
  up_to_wider first then old new made = record {
    done = made.done;
    failed = made.failed;
    left = made.left ++ then;
    whole = ap (λ (asked : List Asked). asked ++ then) made.whole ∙ append_assoc made.done (made.failed ∷ made.left) then;
    calls = made.calls;
  }

  -- all of these, and then the others by their answer
  pub asked_behind : {T E : Type 0} (first then : List Asked) (old mid new : D) (result : Result T E) → MakesAll device first old mid → MakesAsked device then mid new result → MakesAsked device (first ++ then) old new result
  asked_behind first then old mid new (Ok value) before after = all_behind first then old mid new before after
  asked_behind first then old mid new (Err error) before after = up_to_behind first then old mid new before after
