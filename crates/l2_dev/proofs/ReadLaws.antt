-- What a caller who reads the device, forks it or takes a fork back leaves of a promise: all of it.
use Rattle.std.specs.Prelude.{◌≡◌, ℕ, List, Bool, IsTrue, Option}
use Rattle.std.proofs.Common.{[], ◌∷◌, None, Some, sym, ap, subst, ◌∙◌}
use Rattle.vdev_io.specs.declared.device.CacheDev.{Ghosts}
use Rattle.vdev_io.specs.Calls.{Call, Asked, Read, IsToldAfter, LeavesAfter}
use Rattle.vdev_io.specs.Device.{LeavesSame}
use Rattle.l2_dev.specs.Promise.{KeepsPromise}
use Rattle.l2_dev.specs.ReadLaws.{CallsKeepPromises, ReadsKeepPromises}

pub reads_keep : {D : Type 0} (tells : D → Option (List ℕ)) (has_sectors : D → Bool) (leaves : D → List ℕ → Type 0) → ReadsKeepPromises tells has_sectors leaves
reads_keep tells has_sectors leaves old new cursor p told kind crash kept = record {
  upheld = kept.upheld;
  sectors = subst (λ (b : Bool). IsTrue b) (sym kind) kept.sectors;
  image = kept.image;
  told = told ∙ kept.told;
  pending = kept.pending;
  backed = λ c left. kept.backed c ((crash c).1 left);
  good = kept.good;
  begun = kept.begun;
}

told_by_read : (at n : ℕ) (answer : Call) (old new : Option (List ℕ)) → IsToldAfter (Read at n) answer old new → new ≡ old
told_by_read at n answer None new told = told
told_by_read at n answer (Some old) None told = absurd told
told_by_read at n answer (Some old) (Some new) told = ap (λ (image : List ℕ). Some image) told

pub calls_keep : {D : Type 0} (device : Ghosts D) → CallsKeepPromises device
calls_keep {D} device [] old new cursor p made reads kept = subst (λ (d : D). KeepsPromise device.told device.has_sectors device.may_leave d cursor p) (sym made) kept
calls_keep {D} device (call ∷ calls) old new cursor p made reads kept =
    let next : D = made.0 in
    let step = made.1 in
    let at : ℕ = reads.0.0 in
    let n : ℕ = reads.0.1 in
    let told : IsToldAfter (Read at n) call.answer (device.told old) (device.told next) =
    subst (λ (a : Asked). IsToldAfter a call.answer (device.told old) (device.told next)) reads.0.2 step.told in
    let crash : LeavesSame (device.may_leave old) (device.may_leave next) =
    subst (λ (a : Asked). LeavesAfter a call.answer (device.told old) (device.has_sectors old) (device.may_leave old) (device.may_leave next)) reads.0.2 step.crash in
    calls_keep device calls next new cursor p made.2 reads.1
    (reads_keep device.told device.has_sectors device.may_leave old next cursor p (told_by_read at n call.answer (device.told old) (device.told next) told) step.kind crash kept)
