-- What a put keeps of every crash, from the steps of its body.
use Rattle.std.proofs.Common.{◌≡◌, ℕ, ◌+◌, ◌≤◌, List, [], ◌∷◌, length, map, reverse, true, Option, None, Some, Result, Ok, Err, refl, inl, sym, ap, subst, ◌∙◌, arith}
use Rattle.std.proofs.lemmas.List.{reverse-append}
use Rattle.std.specs.List.{AllByRecursion}
use Rattle.l2_log.specs.declared.entry.LogEntry.{LogEntry}
use Rattle.l2_ring.specs.declared.live.Written.{Written}
use Rattle.l2_dev.specs.Restoring.{written_in}
use Rattle.l2_dev.specs.Standing.{Kept, written_of}
use Rattle.l2_dev.specs.Cursor.{CursorState, IsCursor, numbers_from}
use Rattle.l2_dev.specs.Promise.{Promise, IsUpheld}
use Rattle.l2_dev.proofs.PromiseLaws.{same_plan}
use Rattle.l2_dev.specs.Planned.{HasPushed, IsForgotten}
use Rattle.vdev_io.specs.declared.device.CacheDev.{Ghosts}
use Rattle.vdev_io.specs.Calls.{Asked, MakesAll, MakesUpTo}
use Rattle.vdev_io.specs.Device.{IsWritten, IsTorn}
use Rattle.l2_dev.specs.declared.fault.DevErr.{DevErr}
use Rattle.l2_dev.specs.declared.fault.DevErr.TheVariants.{DevFault, NoMemory}
use Rattle.l2_dev.specs.Asking.{AsksFor}
use Rattle.l2_dev.proofs.TornLaws.{IsAside, EntriesAside, put_torn}
use Rattle.l2_dev.proofs.ListLaws.{all_unmap, all_weaker}
use Rattle.l2_dev.proofs.CallLaws.{WritesInRing, HasForgotten, HasPut}
use Rattle.l2_dev.proofs.Cursors.{IsBetween, row_between, row_up}

-- what is pending lies before the hand
pub pending_aside : (cursor : CursorState) (p : Promise) (n : ℕ) → IsCursor cursor.ring cursor.base cursor.pending cursor.ready → IsUpheld cursor p → EntriesAside cursor.ring.hand n p.pending
pending_aside cursor p n is up =
    let rows : AllByRecursion (IsBetween cursor.base cursor.ring.hand) (map (written_in cursor.ring.lap) (reverse cursor.pending)) =
    row_between cursor.base cursor.ring.hand cursor.ring.hand (map (written_in cursor.ring.lap) (reverse cursor.pending)) (omega arith) is.row in
    all_weaker (λ (k : Kept). IsBetween cursor.base cursor.ring.hand k.written) (λ (k : Kept). IsAside cursor.ring.hand n k.written.live.place k.written.live.key.size) p.pending
    (λ k b. inl b.to) (all_unmap (IsBetween cursor.base cursor.ring.hand) written_of p.pending (subst (λ (ws : List Written). AllByRecursion (IsBetween cursor.base cursor.ring.hand) ws) (sym up.pending) rows))

pub pushed_numbers : (entry : LogEntry) (old new : CursorState) → HasPushed entry old new → numbers_from new ≡ numbers_from old
pushed_numbers entry old new h = same_plan (numbers_from new) (numbers_from old) h.base h.evict h.top h.lap

pub forgotten_of : (old new : CursorState) → IsForgotten old new → HasForgotten old new
forgotten_of old new f = record {
  end = f.end;
  numbers = same_plan (numbers_from new) (numbers_from old) f.base f.evict f.top f.lap;
  live = f.live;
  newest = f.newest;
  second = f.second;
  pending = f.pending;
  ready = f.ready;
}

-- the pushed entry as what is kept of it
pub put_of : (entry : LogEntry) (bytes : List ℕ) (old new : CursorState) (k : Kept) → k.written ≡ written_in old.ring.lap entry → HasPushed entry old new → HasPut k old new
put_of entry bytes old new k same h = record {
  end = h.end;
  numbers = pushed_numbers entry old new h;
  lap = h.lap;
  live = h.live;
  newest = h.newest;
  second = h.second;
  ready = h.ready;
  pending = ap (λ (es : List LogEntry). map (written_in old.ring.lap) (reverse es)) h.pending
      ∙ ap (λ (es : List LogEntry). map (written_in old.ring.lap) es) (reverse-append old.pending (entry ∷ []))
      ∙ ap (λ (w : Written). w ∷ map (written_in old.ring.lap) (reverse old.pending)) (sym same);
}

-- a block at the hand is written in the ring
pub put_writes : (cursor : CursorState) (at : ℕ) (bytes : List ℕ) → IsCursor cursor.ring cursor.base cursor.pending cursor.ready → cursor.ready ≡ true → at ≡ cursor.ring.hand
    → at + length bytes ≤ cursor.ring.evict → WritesInRing cursor at bytes
put_writes cursor at bytes is ready place room =
    let up = row_up cursor.base cursor.ring.hand (map (written_in cursor.ring.lap) (reverse cursor.pending)) is.row in
    let from = is.from in
    record { ready = ready; from = omega arith; to = room; far = omega arith }

-- what was written, told by an answer of another type: done
pub written_ok : (T E U F : Type 0) (at : ℕ) (bytes : List ℕ) (old new : Option (List ℕ)) (t : T) (u : U) → IsWritten {T = T} {E = E} at bytes old new (Ok t) → IsWritten {T = U} {E = F} at bytes old new (Ok u)
written_ok T E U F at bytes None new t u w = w
written_ok T E U F at bytes (Some old) None t u w = w
written_ok T E U F at bytes (Some old) (Some new) t u w = w

-- failed
pub written_err : (T E U F : Type 0) (at : ℕ) (bytes : List ℕ) (old new : Option (List ℕ)) (e : E) (f : F) → IsWritten {T = T} {E = E} at bytes old new (Err e) → IsWritten {T = U} {E = F} at bytes old new (Err f)
written_err T E U F at bytes None new e f w = w
written_err T E U F at bytes (Some old) None e f w = w
written_err T E U F at bytes (Some old) (Some new) e f w = w

-- done, and then another step failed
pub written_torn : (T E U F : Type 0) (at : ℕ) (bytes : List ℕ) (old new : Option (List ℕ)) (t : T) (f : F) → ((image : List ℕ) → old ≡ Some image → at + length bytes ≤ length image)
    → IsWritten {T = T} {E = E} at bytes old new (Ok t) → IsWritten {T = U} {E = F} at bytes old new (Err f)
written_torn T E U F at bytes None new t f inside w = w
written_torn T E U F at bytes (Some old) None t f inside w = w
written_torn T E U F at bytes (Some old) (Some new) t f inside w = subst (λ (image : List ℕ). IsTorn at (length bytes) old image) (sym w) (put_torn at bytes old (inside old refl))

flushed_if : (T E U F : Type 0) (at : ℕ) (bytes : List ℕ) (old mid : Option (List ℕ)) (t : T) (result : Result U F) → ((image : List ℕ) → old ≡ Some image → at + length bytes ≤ length image)
    → IsWritten {T = T} {E = E} at bytes old mid (Ok t) → IsWritten {T = U} {E = F} at bytes old mid result
flushed_if T E U F at bytes old mid t (Ok u) inside w = written_ok T E U F at bytes old mid t u w
flushed_if T E U F at bytes old mid t (Err f) inside w = written_torn T E U F at bytes old mid t f inside w

-- done, and then flushed or not
pub written_flushed : (T E U F : Type 0) (at : ℕ) (bytes : List ℕ) (old mid new : Option (List ℕ)) (t : T) (result : Result U F) → ((image : List ℕ) → old ≡ Some image → at + length bytes ≤ length image)
    → IsWritten {T = T} {E = E} at bytes old mid (Ok t) → new ≡ mid → IsWritten {T = U} {E = F} at bytes old new result
written_flushed T E U F at bytes old mid new t result inside w same =
    subst (λ (o : Option (List ℕ)). IsWritten {T = U} {E = F} at bytes old o result) (sym same) (flushed_if T E U F at bytes old mid t result inside w)

-- what was asked for before an error, whatever would have been answered
pub asks_err : {D : Type 0} (T U : Type 0) (device : Ghosts D) (asked told : List Asked) (old new : D) (e : DevErr) → asked ≡ told → AsksFor device asked asked old new (let r : Result T DevErr = Err e in r)
    → AsksFor device told told old new (let r : Result U DevErr = Err e in r)
asks_err T U device asked told old new DevFault same made = subst (λ (xs : List Asked). MakesUpTo device xs old new) same made
asks_err T U device asked told old new NoMemory same made = subst (λ (xs : List Asked). MakesAll device xs old new) same made
