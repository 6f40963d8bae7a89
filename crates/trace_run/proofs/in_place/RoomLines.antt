-- Room for syncs, line by line: what room is left behind lines that are no sync.
use Rattle.std.proofs.Common.{◌≡◌, ℕ, true, false, List, [], ◌∷◌, ◌++◌, Option, None, Some, refl, sym, subst, append-nil, append_assoc}
use Rattle.std.specs.List.{AllByRecursion}
use Rattle.trace_text.specs.declared.op.Op.{Op}
use Rattle.trace_text.specs.declared.op.Op.TheVariants as ops
use Rattle.trace_text.specs.declared.trace.Trace.{Trace}
use Rattle.trace_run.specs.InPlace.{HaveRoom}
use Rattle.trace_run.specs.Lines.{caller_of, is_sync}
use Rattle.trace_run.specs.callers.Together.{ends_group}

module _ (trace : Trace) (len place : ℕ) (before : List Op) where
  pub room-step : (since left : List Op) (o : Op) → is_sync o ≡ false → HaveRoom trace len place before since (o ∷ left) → HaveRoom trace len place before (since ++ o ∷ []) left
  room-step since left (ops.Put n t at size fill) un h = h
  room-step since left (ops.Patch n t at from bytes) un h = h
  room-step since left (ops.Read n t x window) un h = h
  room-step since left (ops.Hold n t x) un h = h
  room-step since left (ops.Drop n x) un h = h
  room-step since left (ops.Get n t at window) un h = h
  room-step since left (ops.Pin n t at) un h = h
  room-step since left (ops.Unpin n at) un h = h
  room-step since left ops.Feed un h = h
  room-step since left (ops.Cap c) un h = h
  room-step since left (ops.Txg t) un h = absurd (let clash : true ≡ false = un in cc)

  pub room-steps : (since left os : List Op) → AllByRecursion (λ o. is_sync o ≡ false) os → HaveRoom trace len place before since (os ++ left) → HaveRoom trace len place before (since ++ os) left
  room-steps since left [] un h = subst (λ (xs : List Op). HaveRoom trace len place before xs left) (sym (append-nil since)) h
  room-steps since left (o ∷ os) un h =
      subst (λ (xs : List Op). HaveRoom trace len place before xs left) (append_assoc since (o ∷ []) os) (room-steps (since ++ o ∷ []) left os un.1 (room-step since (os ++ left) o un.0 h))

-- a line that ends no group is no sync
pub inside-unsynced : (o : Op) → ends_group o ≡ false → is_sync o ≡ false
inside-unsynced (ops.Read n t x window) inside = refl
inside-unsynced (ops.Hold n t x) inside = refl
inside-unsynced (ops.Drop n x) inside = refl
inside-unsynced (ops.Get n t at window) inside = refl
inside-unsynced (ops.Put n t at size fill) inside = refl
inside-unsynced (ops.Patch n t at from bytes) inside = refl
inside-unsynced (ops.Pin n t at) inside = refl
inside-unsynced (ops.Unpin n at) inside = refl
inside-unsynced ops.Feed inside = refl
inside-unsynced (ops.Cap c) inside = refl
inside-unsynced (ops.Txg t) inside = absurd (let clash : true ≡ false = inside in cc)

-- and so is a caller's
pub caller-unsynced : (o : Op) (n : ℕ) → caller_of o ≡ Some n → is_sync o ≡ false
caller-unsynced (ops.Read m t x window) n of = refl
caller-unsynced (ops.Hold m t x) n of = refl
caller-unsynced (ops.Drop m x) n of = refl
caller-unsynced (ops.Get m t at window) n of = refl
caller-unsynced (ops.Put m t at size fill) n of = refl
caller-unsynced (ops.Patch m t at from bytes) n of = refl
caller-unsynced (ops.Pin m t at) n of = refl
caller-unsynced (ops.Unpin m at) n of = refl
caller-unsynced ops.Feed n of = refl
caller-unsynced (ops.Cap c) n of = refl
caller-unsynced (ops.Txg t) n of = absurd (let clash : ◌≡◌ {A = Option ℕ} None (Some n) = of in cc)
