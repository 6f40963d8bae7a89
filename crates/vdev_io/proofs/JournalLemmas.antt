-- That a recorded call stands behind the ones before it, with its bytes, and which sectors the record says were written.
use Rattle.std.proofs.Common.{◌≡◌, ℕ, ◌+◌, ◌*◌, ◌≤◌, Bool, false, ◌||◌, List, [], ◌∷◌, ◌++◌, length, take, drop, refl, sym, ap, ◌∙◌, arith}
use Rattle.std.specs.Prelude.{fold}
use Rattle.std.proofs.lemmas.List.{length-take, length-drop, drop-append-le, take-append-le, take_all}
use Rattle.vdev_io.specs.declared.memory.journal.Recorded.{Recorded}
use Rattle.vdev_io.specs.declared.memory.journal.Recorded.TheVariants.{Wrote, Flushed}
use Rattle.vdev_io.specs.SectorDisk.{DiskCall, Write, Flush, touches, written_after}
use Rattle.vdev_io.specs.Journal.{recorded_calls, recorded_len, touched_after}

pub recorded_len-push : (calls : List Recorded) (call : Recorded) → recorded_len (calls ++ call ∷ []) ≡ recorded_len calls + recorded_len (call ∷ [])
recorded_len-push [] call = omega arith
recorded_len-push (Wrote at len ∷ calls) call = omega (arith, recorded_len-push calls call)
recorded_len-push (Flushed ∷ calls) call = recorded_len-push calls call

pub recorded-write : (calls : List Recorded) (bytes : List ℕ) (at : ℕ) (more : List ℕ) → recorded_len calls ≡ length bytes
    → recorded_calls (calls ++ Wrote at (length more) ∷ []) (bytes ++ more) ≡ recorded_calls calls bytes ++ Write at more ∷ []
recorded-write [] [] at more e = ap (λ (ys : List ℕ). Write at ys ∷ []) (take_all (length more) more (omega arith))
recorded-write [] (b ∷ bytes) at more e = absurd (omega (arith, e))
recorded-write (Wrote place len ∷ calls) bytes at more e =
    let le : len ≤ length bytes = omega (arith, e) in
    let rest : recorded_len calls ≡ length (drop len bytes) = omega (arith, e, length-drop len bytes) in
    ap (λ (ys : List ℕ). Write place ys ∷ recorded_calls (calls ++ Wrote at (length more) ∷ []) (drop len (bytes ++ more))) (take-append-le len bytes more le)
    ∙ ap (λ (ys : List ℕ). Write place (take len bytes) ∷ recorded_calls (calls ++ Wrote at (length more) ∷ []) ys) (drop-append-le len bytes more le)
    ∙ ap (λ (cs : List DiskCall). Write place (take len bytes) ∷ cs) (recorded-write calls (drop len bytes) at more rest)
recorded-write (Flushed ∷ calls) bytes at more e = ap (λ (cs : List DiskCall). Flush ∷ cs) (recorded-write calls bytes at more e)

pub recorded-flush : (calls : List Recorded) (bytes : List ℕ) → recorded_calls (calls ++ Flushed ∷ []) bytes ≡ recorded_calls calls bytes ++ Flush ∷ []
recorded-flush [] bytes = refl
recorded-flush (Wrote place len ∷ calls) bytes = ap (λ (cs : List DiskCall). Write place (take len bytes) ∷ cs) (recorded-flush calls (drop len bytes))
recorded-flush (Flushed ∷ calls) bytes = ap (λ (cs : List DiskCall). Flush ∷ cs) (recorded-flush calls bytes)

-- the lengths tell which sectors were written
pub touched-written : (k : ℕ) (b : Bool) (calls : List Recorded) (bytes : List ℕ) → recorded_len calls ≡ length bytes
    → fold (touched_after (k * 512)) b calls ≡ fold (written_after k) b (recorded_calls calls bytes)
touched-written k b [] bytes e = refl
touched-written k b (Wrote place len ∷ calls) bytes e =
    let le : len ≤ length bytes = omega (arith, e) in
    let same : length (take len bytes) ≡ len = omega (arith, length-take len bytes) in
    let rest : recorded_len calls ≡ length (drop len bytes) = omega (arith, e, length-drop len bytes) in
    touched-written k (b || touches (k * 512) place len) calls (drop len bytes) rest
    ∙ ap (λ (n : ℕ). fold (written_after k) (b || touches (k * 512) place n) (recorded_calls calls (drop len bytes))) (sym same)
touched-written k b (Flushed ∷ calls) bytes e = touched-written k false calls bytes e
