-- What a begin keeps of every crash, from the steps of its body.
use Rattle.std.proofs.Common.{◌≡◌, ℕ, ◌<◌, ◌≤◌, List, [], ◌∷◌, ◌++◌, map, Bool, false, Option, Some, Result, refl, sym, ap, subst, ◌∙◌, arith}
use Rattle.std.specs.List.{filter}
use Rattle.std.specs.Option.{IfSome}
use Rattle.vdev_io.specs.Device.{put}
use Rattle.l2_log.specs.Rules.{ring_start, header_len}
use Rattle.l2_log.specs.declared.header.DevHeader.{DevHeader}
use Rattle.l2_ring.specs.declared.live.Live.{Live}
use Rattle.l2_ring.specs.declared.live.Written.{Written}
use Rattle.l2_ring.specs.declared.plan.Plan.{Plan}
use Rattle.l2_ring.specs.Stays.{falls, live_of}
use Rattle.l2_ring.specs.Ring.{RingState, HasPlan, last_lap, with_hand, numbers_of}
use Rattle.l2_dev.specs.Chain.{numbers_in}
use Rattle.l2_dev.specs.Standing.{Candidate, leading, staying}
use Rattle.l2_dev.specs.Cursor.{CursorState, numbers_from}
use Rattle.l2_dev.specs.Promise.{Promise, KeepsPromise}
use Rattle.l2_dev.specs.PromiseLaws.{left_by, IsHeaderFrom}
use Rattle.l2_dev.proofs.PromiseLaws.{HasTaken, same_plan}
use Rattle.l2_dev.specs.Planned.{HasPlanned}
use Rattle.l2_dev.specs.Steps.{HasFlushed, HeaderWritten}
use Rattle.l2_dev.specs.Calls.{LeavesWith}
use Rattle.l2_dev.proofs.CallLaws.{IsPlain, Begins, begun_leaves, begun_failed, begun_kept}

pub header_evict : (cursor : CursorState) (header : DevHeader) → numbers_in header ≡ numbers_from cursor → ring_start ≤ cursor.ring.evict
header_evict cursor header same =
    let e : header.evict ≡ cursor.ring.evict = ap (λ (p : Plan). p.evict) same in
    let from = header.evict_in.from in
    omega arith

-- what a plan drops stands behind what was there before there was room for it
pub dropped_of : (plan : Plan) (live : List Written) (was mid now : List Live) → mid ≡ was → now ≡ mid ++ map live_of (filter (falls plan) live) → now ≡ was ++ map live_of (filter (falls plan) live)
dropped_of plan live was mid now same more = more ∙ ap (λ (xs : List Live). xs ++ map live_of (filter (falls plan) live)) same

-- the cursor that may be put to has planned the same
pub opened_planned : (n : ℕ) (old mid new : CursorState) → HasPlanned n old mid → new.ring ≡ mid.ring → new.base ≡ mid.base → new.newest ≡ mid.newest → new.second ≡ mid.second → new.pending ≡ mid.pending → HasPlanned n old new
opened_planned n old mid new h ring base newest second pending = record {
  plan = h.plan;
  plan_for = h.plan_for;
  numbers = subst (λ (r : RingState). HasPlan h.plan old.ring r) (sym ring) h.numbers;
  live = ap (λ (r : RingState). r.live) ring ∙ h.live;
  base = base ∙ h.base;
  newest = newest ∙ h.newest;
  second = second ∙ h.second;
  pending = pending ∙ h.pending;
}

pub opened_header : (mid new : CursorState) (header : DevHeader) → IsHeaderFrom mid header → new.ring ≡ mid.ring → new.base ≡ mid.base → new.newest ≡ mid.newest → new.second ≡ mid.second → IsHeaderFrom new header
opened_header mid new header h ring base newest second =
    let numbers : numbers_from mid ≡ numbers_from new =
    ap (λ (r : RingState). with_hand (numbers_of r) mid.base) (sym ring) ∙ ap (λ (b : ℕ). with_hand (numbers_of new.ring) b) (sym base) in
    record {
      end = h.end ∙ ap (λ (r : RingState). r.end) (sym ring);
      numbers = h.numbers ∙ numbers;
      newest = h.newest ∙ sym newest;
      second = h.second ∙ sym second;
      version = h.version;
    }

planned_numbers : (n : ℕ) (old new : CursorState) (h : HasPlanned n old new) → h.plan ≡ numbers_from new
planned_numbers n old new h = sym (same_plan (numbers_from new) h.plan h.base h.numbers.evict h.numbers.top h.numbers.lap)

taken_of : (n : ℕ) (old new : CursorState) (h : HasPlanned n old new) → old.base ≡ old.ring.hand → new.ring.lap < last_lap → HasTaken n h.plan old new
taken_of n old new h at below =
    let lap = h.numbers.lap in
    record {
      plan_for = h.plan_for;
      below = omega arith;
      base_old = at;
      numbers = h.numbers;
      live = h.live;
      base = h.base;
      newest = h.newest;
      second = h.second;
      pending = h.pending;
    }

module _ {D : Type 0} (tells : D → Option (List ℕ)) (has_sectors : D → Bool) (leaves : D → List ℕ → Type 0) (moment : D → ℕ) (since : D → ℕ → List ℕ → Type 0) where
  begins : {T E : Type 0} (n : ℕ) (old new : D) (cursor after : CursorState) (p : Promise) (header : DevHeader) (result : Result T E) → KeepsPromise tells has_sectors leaves old cursor p → (h : HasPlanned n cursor after)
      → cursor.base ≡ cursor.ring.hand → after.ring.lap < last_lap → IsHeaderFrom after header → (w : HeaderWritten tells has_sectors leaves moment since header old new result)
      → IsPlain tells has_sectors leaves moment since old header_len → Begins tells has_sectors leaves moment since n h.plan old new cursor after p header w.sector
  begins n old new cursor after p header result kept h at below from w plain = record {
    kept = kept;
    taken = taken_of n cursor after h at below;
    header_from = from;
    is = w.is;
    far = header_evict after header from.numbers;
    writes = record { wrote = w.wrote; len = w.is.whole; is = refl; plain = plain };
  }

  abbrev pub Left : D → D → CursorState → Promise → Plan → Candidate → Type 0
  Left old new after p plan k = LeavesWith moment since (IsHeaderFrom after) after.ring.end old new p (leading plan p.blocks) (staying plan p.kept) (staying plan p.kept) k

  pub begin_failed : {T E : Type 0} (n : ℕ) (old new : D) (cursor after : CursorState) (p : Promise) (header : DevHeader) (result : Result T E) → KeepsPromise tells has_sectors leaves old cursor p → HasPlanned n cursor after
      → cursor.base ≡ cursor.ring.hand → after.ring.lap < last_lap → IsHeaderFrom after header → HeaderWritten tells has_sectors leaves moment since header old new result
      → IsPlain tells has_sectors leaves moment since old header_len → after.ready ≡ false
      → (k : Candidate) × Left old new after p (numbers_from after) k × KeepsPromise tells has_sectors leaves new after (left_by (numbers_from after) p (k ∷ p.candidates))
  begin_failed n old new cursor after p header result kept h at below from w plain shut =
      let b = begins n old new cursor after p header result kept h at below from w plain in
      subst (λ (q : Plan). (k : Candidate) × Left old new after p q k × KeepsPromise tells has_sectors leaves new after (left_by q p (k ∷ p.candidates))) (planned_numbers n cursor after h) (
        record { sector = w.sector; blocks = leading h.plan p.blocks; kept = staying h.plan p.kept },
        begun_leaves tells has_sectors leaves moment since n h.plan old new cursor after p header w.sector b,
        begun_failed tells has_sectors leaves moment since n h.plan old new cursor after p header w.sector b shut,
      )

  pub flushed_of : (o : Option (List ℕ)) (image : List ℕ) (P : List ℕ → Type 0) → o ≡ Some image → IfSome o P → P image
  flushed_of o image P e f = subst (λ (x : Option (List ℕ)). IfSome x P) e f

  pub begin_kept : {T E : Type 0} (n : ℕ) (old new : D) (cursor after : CursorState) (p : Promise) (header : DevHeader) (result : Result T E) → KeepsPromise tells has_sectors leaves old cursor p → HasPlanned n cursor after
      → cursor.base ≡ cursor.ring.hand → after.ring.lap < last_lap → IsHeaderFrom after header → (w : HeaderWritten tells has_sectors leaves moment since header old new result)
      → IfSome (tells old) (λ image. HasFlushed tells leaves new (put 0 w.sector image)) → IsPlain tells has_sectors leaves moment since old header_len
      → (k : Candidate) × Left old new after p (numbers_from after) k × KeepsPromise tells has_sectors leaves new after (left_by (numbers_from after) p (k ∷ []))
  begin_kept n old new cursor after p header result kept h at below from w done plain =
      let b = begins n old new cursor after p header result kept h at below from w plain in
      subst (λ (q : Plan). (k : Candidate) × Left old new after p q k × KeepsPromise tells has_sectors leaves new after (left_by q p (k ∷ []))) (planned_numbers n cursor after h) (
        record { sector = w.sector; blocks = leading h.plan p.blocks; kept = staying h.plan p.kept },
        begun_leaves tells has_sectors leaves moment since n h.plan old new cursor after p header w.sector b,
        begun_kept tells has_sectors leaves moment since n h.plan old new cursor after p header w.sector b kept.image kept.told
            (flushed_of (tells old) kept.image (λ image. HasFlushed tells leaves new (put 0 w.sector image)) kept.told done),
      )
