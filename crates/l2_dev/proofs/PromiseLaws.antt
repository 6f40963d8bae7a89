-- What a plan and a commit make of what is promised of a device.
use Rattle.std.specs.Prelude.{◌≡◌, ℕ, ◌+◌, ◌<◌, ◌≤◌, List, [], ◌∷◌, ◌++◌, map, reverse, Option, Some}
use Rattle.std.proofs.Common.{inl, inr, true, refl, sym, ap, subst, ◌∙◌, arith, append_assoc}
use Rattle.std.proofs.lemmas.List.{map-append, reverse-append, reverse-reverse}
use Rattle.std.specs.List.{AllByRecursion, filter}
use Rattle.l2_log.specs.Rules.{ring_start, log_len}
use Rattle.l2_log.specs.HeaderBytes.{IsHeader}
use Rattle.l2_log.specs.declared.header.DevHeader.{DevHeader}
use Rattle.l2_log.specs.declared.pointer.LogPtr.{LogPtr}
use Rattle.l2_log.specs.declared.entry.LogEntry.{LogEntry}
use Rattle.l2_ring.specs.declared.live.Written.{Written}
use Rattle.l2_ring.specs.declared.plan.Plan.{Plan}
use Rattle.l2_ring.specs.Ring.{RingState, IsPlanFor, HasPlan, numbers_of, with_hand, last_lap}
use Rattle.l2_ring.specs.Stays.{stays}
use Rattle.l2_ring.specs.Ranges.{Range, Stays, IsInOrder, range_of}
use Rattle.l2_ring.proofs.PlanLaws.{stays_tells, stays_further}
use Rattle.l2_dev.specs.Chain.{Visit, IsPlaced, IsPassed, IsLinked, numbers_in}
use Rattle.l2_dev.specs.Restoring.{found_in, firsts, written_in, told_by}
use Rattle.l2_dev.specs.Standing.{Candidate, Kept, written_of, IsNamed, IsOrderly, block_range, leading, staying}
use Rattle.l2_dev.specs.Cursor.{CursorState, numbers_from}
use Rattle.l2_dev.specs.Promise.{Promise, IsUpheld, kept_range, Covers}
use Rattle.l2_dev.proofs.ListLaws.{FailsOn, filter_all, all_passes, all_weaker, all_two, all_append, all_map, all_unmap, map_filter, firsts_kept, firsts_behind, filter_front, fails_unmap, filter_reverse, map_reverse}
use Rattle.l2_dev.proofs.StandingLaws.{keeps, BlocksStay, plan_fails_on, entries_fail_on, filter_ordered, found_ordered, told_bytes, found_among, passed_bytes, found_after, orderly_after, leading_all, leading_stay, leading_linked}
use Rattle.l2_dev.proofs.CommitLaws.{IsNewBlock, new_laps, passed_stay, orderly_with, found_with, row_new, row_stays, row_in_front}
use Rattle.l2_dev.specs.PromiseLaws.{IsHeaderFrom, left_by, with_block}

pub same_plan : (p q : Plan) → p.hand ≡ q.hand → p.evict ≡ q.evict → p.top ≡ q.top → p.lap ≡ q.lap → p ≡ q
same_plan p q hand evict top lap =
    ap (λ (n : ℕ). let r : Plan = record { hand = n; evict = p.evict; top = p.top; lap = p.lap } in r) hand
    ∙ ap (λ (n : ℕ). let r : Plan = record { hand = q.hand; evict = n; top = p.top; lap = p.lap } in r) evict
    ∙ ap (λ (n : ℕ). let r : Plan = record { hand = q.hand; evict = q.evict; top = n; lap = p.lap } in r) top
    ∙ ap (λ (n : ℕ). let r : Plan = record { hand = q.hand; evict = q.evict; top = q.top; lap = n } in r) lap

-- a cursor that has taken a plan
pub record HasTaken (n : ℕ) (plan : Plan) (old new : CursorState) : Type 0 where
  pub plan_for : IsPlanFor old.ring n plan
  pub below : plan.lap < last_lap
  pub base_old : old.base ≡ old.ring.hand
  pub numbers : HasPlan plan old.ring new.ring
  pub live : new.ring.live ≡ filter (stays plan) old.ring.live
  pub base : new.base ≡ plan.hand
  pub newest : new.newest ≡ old.newest
  pub second : new.second ≡ old.second
  pub pending : new.pending ≡ []

taken_numbers : (n : ℕ) (plan : Plan) (old new : CursorState) → HasTaken n plan old new → numbers_from new ≡ plan
taken_numbers n plan old new t = same_plan (numbers_from new) plan t.base t.numbers.evict t.numbers.top t.numbers.lap

old_numbers : (n : ℕ) (plan : Plan) (old new : CursorState) → HasTaken n plan old new → numbers_from old ≡ numbers_of old.ring
old_numbers n plan old new t = ap (λ (hand : ℕ). with_hand (numbers_of old.ring) hand) t.base_old

placed_blocks : (end : ℕ) (numbers : Plan) (vs : List Visit) → AllByRecursion (IsPlaced end numbers) vs → BlocksStay numbers vs
placed_blocks end numbers vs placed = all_weaker (IsPlaced end numbers) (λ (v : Visit). Stays numbers (block_range v)) vs (λ v p. p.part) placed

kept_fail_on : (ring : RingState) (n : ℕ) (plan : Plan) (ks : List Kept) → IsPlanFor ring n plan → plan.lap < last_lap
    → AllByRecursion (λ (k : Kept). Stays (numbers_of ring) (kept_range k)) ks → AllByRecursion (λ (k : Kept). 0 < k.written.live.key.size) ks → IsInOrder (map kept_range ks)
    → FailsOn (keeps plan) (map kept_range ks)
kept_fail_on ring n plan ks for below stays some ordered =
    plan_fails_on ring n plan (map kept_range ks) for below (all_map (Stays (numbers_of ring)) kept_range ks stays) (all_map (λ (r : Range). 0 < r.size) kept_range ks some) ordered

found_fail_on : (ring : RingState) (n : ℕ) (plan : Plan) (vs : List Visit) → IsPlanFor ring n plan → plan.lap < last_lap
    → BlocksStay (numbers_of ring) vs → IsOrderly (numbers_of ring) vs → FailsOn (keeps plan) (map range_of (found_in (numbers_of ring) vs))
found_fail_on ring n plan vs for below blocks ordered =
    plan_fails_on ring n plan (map range_of (found_in (numbers_of ring) vs)) for below
    (all_map (Stays (numbers_of ring)) range_of (found_in (numbers_of ring) vs) (found_among (Stays (numbers_of ring)) (numbers_of ring) vs (passed_stay (numbers_of ring) vs blocks)))
    (all_map (λ (r : Range). 0 < r.size) range_of (found_in (numbers_of ring) vs) (found_among (λ (r : Range). 0 < r.size) (numbers_of ring) vs (passed_bytes (numbers_of ring) vs)))
    (found_ordered (numbers_of ring) vs ordered)

ranges_of : (ks : List Kept) → map kept_range ks ≡ map range_of (map written_of ks)
ranges_of [] = refl
ranges_of (k ∷ ks) = ap (λ (rs : List Range). kept_range k ∷ rs) (ranges_of ks)

inside_if : (numbers : Plan) (r : Range) → ring_start ≤ numbers.evict → Stays numbers r → ring_start ≤ r.place
inside_if numbers r far (inl low) = low.0.begins
inside_if numbers r far (inr up) = let b = up.0.begins in omega arith

pub kept_inside : (numbers : Plan) (ks : List Kept) → ring_start ≤ numbers.evict → AllByRecursion (λ (k : Kept). Stays numbers (kept_range k)) ks → AllByRecursion (λ (k : Kept). ring_start ≤ k.written.live.place) ks
kept_inside numbers ks far stays =
    all_weaker (λ (k : Kept). Stays numbers (kept_range k)) (λ (k : Kept). ring_start ≤ k.written.live.place) ks (λ k s. inside_if numbers (kept_range k) far s) stays

-- what a plan leaves is upheld
pub taken_upheld : (n : ℕ) (plan : Plan) (old new : CursorState) (p : Promise) (candidates : List Candidate) → HasTaken n plan old new → IsUpheld old p → IsUpheld new (left_by plan p candidates)
taken_upheld n plan old new p candidates t up =
    let ring : RingState = old.ring in
    let at : numbers_from old ≡ numbers_of ring = old_numbers n plan old new t in
    let to : plan ≡ numbers_from new = sym (taken_numbers n plan old new t) in
    let placed : AllByRecursion (IsPlaced ring.end (numbers_of ring)) p.blocks = subst (λ (q : Plan). AllByRecursion (IsPlaced ring.end q) p.blocks) at up.placed in
    let blocks : BlocksStay (numbers_of ring) p.blocks = placed_blocks ring.end (numbers_of ring) p.blocks placed in
    let ordered : IsOrderly (numbers_of ring) p.blocks = subst (λ (q : Plan). IsOrderly q p.blocks) at up.ordered in
    let same : firsts (found_in (numbers_of ring) p.blocks) ≡ firsts (map written_of p.kept) = subst (λ (q : Plan). firsts (found_in q p.blocks) ≡ firsts (map written_of p.kept)) at up.same in
    let stay : AllByRecursion (λ (k : Kept). Stays (numbers_of ring) (kept_range k)) p.kept = subst (λ (q : Plan). AllByRecursion (λ (k : Kept). Stays q (kept_range k)) p.kept) at up.stays in
    let vs_fail : FailsOn (stays plan) (found_in (numbers_of ring) p.blocks) =
    entries_fail_on plan (found_in (numbers_of ring) p.blocks) (found_fail_on ring n plan p.blocks t.plan_for t.below blocks ordered) in
    let ks_fail : FailsOn (keeps plan) (map kept_range p.kept) = kept_fail_on ring n plan p.kept t.plan_for t.below stay up.some up.in_order in
    let ws_fail : FailsOn (stays plan) (map written_of p.kept) =
    entries_fail_on plan (map written_of p.kept) (subst (λ (rs : List Range). FailsOn (keeps plan) rs) (ranges_of p.kept) ks_fail) in
    let filtered : map written_of (staying plan p.kept) ≡ filter (stays plan) (map written_of p.kept) = map_filter written_of (stays plan) p.kept in
    let end : ring.end ≡ new.ring.end = sym t.numbers.end in
    record {
      linked = subst (λ (o : Option LogPtr). IsLinked o new.second (leading plan p.blocks)) (sym t.newest)
          (subst (λ (o : Option LogPtr). IsLinked old.newest o (leading plan p.blocks)) (sym t.second) (leading_linked old.newest old.second plan p.blocks up.linked));
      placed = subst (λ (q : Plan). AllByRecursion (IsPlaced new.ring.end q) (leading plan p.blocks)) to
          (subst (λ (e : ℕ). AllByRecursion (IsPlaced e plan) (leading plan p.blocks)) end
          (all_two (IsPlaced ring.end (numbers_of ring)) (λ (v : Visit). Stays plan (block_range v)) (IsPlaced ring.end plan) (leading plan p.blocks)
          (λ v was now. record { ring = was.ring; part = now; count = was.count })
          (leading_all (IsPlaced ring.end (numbers_of ring)) plan p.blocks placed) (leading_stay plan p.blocks)));
      ordered = subst (λ (q : Plan). IsOrderly q (leading plan p.blocks)) to (orderly_after ring n plan p.blocks t.plan_for t.below blocks ordered);
      same = subst (λ (q : Plan). firsts (found_in q (leading plan p.blocks)) ≡ firsts (map written_of (staying plan p.kept))) to
          (ap (λ (ws : List Written). firsts ws) (found_after ring n plan p.blocks t.plan_for t.below blocks ordered)
          ∙ firsts_kept (stays plan) (found_in (numbers_of ring) p.blocks) vs_fail
          ∙ ap (λ (ws : List Written). filter (stays plan) ws) same
          ∙ sym (firsts_kept (stays plan) (map written_of p.kept) ws_fail)
          ∙ ap (λ (ws : List Written). firsts ws) (sym filtered));
      stays = subst (λ (q : Plan). AllByRecursion (λ (k : Kept). Stays q (kept_range k)) (staying plan p.kept)) to
          (all_weaker (λ (k : Kept). stays plan k.written ≡ true) (λ (k : Kept). Stays plan (kept_range k)) (staying plan p.kept)
          (λ k e. stays_tells plan (kept_range k) e) (all_passes (λ k. stays plan k.written) p.kept));
      in_order = subst IsInOrder (sym (map_filter kept_range (keeps plan) p.kept)) (filter_ordered (keeps plan) (map kept_range p.kept) up.in_order);
      some = filter_all (λ (k : Kept). 0 < k.written.live.key.size) (λ k. stays plan k.written) p.kept up.some;
      live = t.live ∙ ap (λ (ws : List Written). filter (stays plan) ws) up.live ∙ filter_reverse (stays plan) (map written_of p.kept)
          ∙ ap (λ (ws : List Written). reverse ws) (sym filtered);
      pending = ap (λ (es : List LogEntry). map (written_in new.ring.lap) (reverse es)) (sym t.pending);
    }

-- and all that was restored restores what the plan leaves
pub taken_covers : (n : ℕ) (plan : Plan) (old new : CursorState) (p : Promise) (restored : List Kept) → HasTaken n plan old new → IsUpheld old p
    → Covers restored p.kept → Covers restored (staying plan p.kept)
taken_covers n plan old new p restored t up covers =
    let at : numbers_from old ≡ numbers_of old.ring = old_numbers n plan old new t in
    let stay : AllByRecursion (λ (k : Kept). Stays (numbers_of old.ring) (kept_range k)) p.kept = subst (λ (q : Plan). AllByRecursion (λ (k : Kept). Stays q (kept_range k)) p.kept) at up.stays in
    let front = filter_front (λ k. stays plan k.written) p.kept
    (fails_unmap (keeps plan) kept_range p.kept (kept_fail_on old.ring n plan p.kept t.plan_for t.below stay up.some up.in_order)) in (
      covers.0,
      front.0 ++ covers.1,
      covers.2 ∙ ap (λ (ks : List Kept). covers.0 ++ ks ++ covers.1) front.1
          ∙ append_assoc covers.0 (staying plan p.kept ++ front.0) covers.1
          ∙ ap (λ (ks : List Kept). covers.0 ++ ks) (append_assoc (staying plan p.kept) front.0 covers.1)
          ∙ sym (append_assoc covers.0 (staying plan p.kept) (front.0 ++ covers.1)),
    )

-- such a header stands for what is upheld
pub upheld_named : (cursor : CursorState) (p : Promise) (header : DevHeader) (bytes : List ℕ) → IsUpheld cursor p → IsHeaderFrom cursor header → IsHeader bytes header
    → ring_start ≤ cursor.ring.evict
    → IsNamed cursor.ring.end record { sector = bytes; blocks = p.blocks; kept = p.kept } header
upheld_named cursor p header bytes up from is far =
    let numbers : numbers_from cursor ≡ numbers_in header = sym from.numbers in
    let version = from.version in
    record {
      named = record { bytes = is; ends = from.end };
      standing = record {
        linked = subst (λ (o : Option LogPtr). IsLinked o header.second p.blocks) (sym from.newest)
            (subst (λ (o : Option LogPtr). IsLinked cursor.newest o p.blocks) (sym from.second) up.linked);
        passed = all_weaker (IsPlaced header.end (numbers_in header)) (IsPassed header) p.blocks
            (λ v placed. let most = v.block.versioned.most in record { placed = placed; version = omega arith })
            (subst (λ (e : ℕ). AllByRecursion (IsPlaced e (numbers_in header)) p.blocks) (sym from.end)
            (subst (λ (q : Plan). AllByRecursion (IsPlaced cursor.ring.end q) p.blocks) numbers up.placed));
        ordered = subst (λ (q : Plan). IsOrderly q p.blocks) numbers up.ordered;
      };
      same = subst (λ (q : Plan). firsts (found_in q p.blocks) ≡ firsts (map written_of p.kept)) numbers up.same;
      inside = kept_inside (numbers_from cursor) p.kept far up.stays;
    }

-- a cursor that has committed its pending entries by this log block
pub record HasCommitted (v : Visit) (old new : CursorState) : Type 0 where
  pub fresh : IsNewBlock (numbers_from old) old.ring.hand v
  pub ring : IsPlaced old.ring.end (with_hand (numbers_from old) (old.ring.hand + log_len)) v
  pub entries : v.block.entries ≡ old.pending
  pub prev : v.block.prev ≡ old.second
  pub further : old.base ≤ old.ring.hand + log_len
  pub end : new.ring.end ≡ old.ring.end
  pub hand : new.base ≡ old.ring.hand + log_len
  pub evict : new.ring.evict ≡ old.ring.evict
  pub top : new.ring.top ≡ old.ring.top
  pub lap : new.ring.lap ≡ old.ring.lap
  pub live : new.ring.live ≡ old.ring.live ++ map (written_in old.ring.lap) old.pending
  pub newest : new.newest ≡ Some v.ptr
  pub second : new.second ≡ old.newest
  pub pending : new.pending ≡ []

committed_numbers : (v : Visit) (old new : CursorState) → HasCommitted v old new → with_hand (numbers_from old) (old.ring.hand + log_len) ≡ numbers_from new
committed_numbers v old new h =
    same_plan (with_hand (numbers_from old) (old.ring.hand + log_len)) (numbers_from new) (sym h.hand) (sym h.evict) (sym h.top) (sym h.lap)

committed_told : (v : Visit) (old new : CursorState) (p : Promise) → HasCommitted v old new → IsUpheld old p → told_by v ≡ map written_of p.pending
committed_told v old new p h up =
    ap (λ (lap : ℕ). map (written_in lap) (reverse v.block.entries)) h.fresh.lap
    ∙ ap (λ (es : List LogEntry). map (written_in old.ring.lap) (reverse es)) h.entries ∙ sym up.pending

reversed_pending : (cursor : CursorState) (p : Promise) → IsUpheld cursor p → reverse (map written_of p.pending) ≡ map (written_in cursor.ring.lap) cursor.pending
reversed_pending cursor p up =
    ap (λ (ws : List Written). reverse ws) up.pending ∙ ap (λ (ws : List Written). reverse ws) (map_reverse (written_in cursor.ring.lap) cursor.pending)
    ∙ reverse-reverse (map (written_in cursor.ring.lap) cursor.pending)

-- it is upheld with the new log block in front, and with the entries that were pending
pub committed_upheld : (v : Visit) (old new : CursorState) (p : Promise) (candidates : List Candidate) → HasCommitted v old new → IsUpheld old p → IsUpheld new (with_block v p candidates)
committed_upheld v old new p candidates h up =
    let base : Plan = numbers_from old in
    let hand : ℕ = old.ring.hand in
    let further : ℕ = hand + log_len in
    let le = h.further in
    let to : with_hand base further ≡ numbers_from new = committed_numbers v old new h in
    let told : told_by v ≡ map written_of p.pending = committed_told v old new p h up in
    let blocks : BlocksStay base p.blocks = placed_blocks old.ring.end base p.blocks up.placed in
    let laps = new_laps base hand v h.fresh in
    let new_ones = row_new base hand (told_by v) laps h.fresh.row in
    let ranges : map kept_range (p.pending ++ p.kept) ≡ map range_of (told_by v) ++ map kept_range p.kept =
    map-append kept_range p.pending p.kept ∙ ap (λ (rs : List Range). rs ++ map kept_range p.kept) (ranges_of p.pending ∙ ap (λ (ws : List Written). map range_of ws) (sym told)) in
    record {
      linked = (h.newest, subst (λ (o : Option LogPtr). IsLinked o v.block.prev p.blocks) (sym h.second) (subst (λ (o : Option LogPtr). IsLinked old.newest o p.blocks) (sym h.prev) up.linked));
      placed = subst (λ (e : ℕ). AllByRecursion (IsPlaced e (numbers_from new)) (v ∷ p.blocks)) (sym h.end)
          (subst (λ (q : Plan). AllByRecursion (IsPlaced old.ring.end q) (v ∷ p.blocks)) to (
            h.ring,
            all_weaker (IsPlaced old.ring.end base) (IsPlaced old.ring.end (with_hand base further)) p.blocks
                (λ u was. record { ring = was.ring; part = stays_further base further (block_range u) le was.part; count = was.count }) up.placed,
          ));
      ordered = subst (λ (q : Plan). IsOrderly q (v ∷ p.blocks)) to (orderly_with base hand further v p.blocks (omega arith) h.fresh blocks up.ordered);
      same = subst (λ (q : Plan). firsts (found_in q (v ∷ p.blocks)) ≡ firsts (map written_of (p.pending ++ p.kept))) to
          (ap (λ (ws : List Written). firsts ws) (found_with base hand further v p.blocks (omega arith) h.fresh blocks)
          ∙ firsts_behind (told_by v) (found_in base p.blocks) (map written_of p.kept) up.same
          ∙ ap (λ (ws : List Written). firsts (ws ++ map written_of p.kept)) told
          ∙ ap (λ (ws : List Written). firsts ws) (sym (map-append written_of p.pending p.kept)));
      stays = subst (λ (q : Plan). AllByRecursion (λ (k : Kept). Stays q (kept_range k)) (p.pending ++ p.kept)) to
          (all_append (λ (k : Kept). Stays (with_hand base further) (kept_range k)) p.pending p.kept
          (all_unmap (λ (w : Written). Stays (with_hand base further) (range_of w)) written_of p.pending
          (subst (λ (ws : List Written). AllByRecursion (λ (w : Written). Stays (with_hand base further) (range_of w)) ws) told (row_stays base hand further (told_by v) h.fresh.start (omega arith) new_ones)))
          (all_weaker (λ (k : Kept). Stays base (kept_range k)) (λ (k : Kept). Stays (with_hand base further) (kept_range k)) p.kept (λ k s. stays_further base further (kept_range k) le s) up.stays));
      in_order = subst IsInOrder (sym ranges)
          (row_in_front base hand (told_by v) (map kept_range p.kept) laps h.fresh.row (all_map (Stays base) kept_range p.kept up.stays) up.in_order);
      some = all_append (λ (k : Kept). 0 < k.written.live.key.size) p.pending p.kept
          (all_unmap (λ (w : Written). 0 < w.live.key.size) written_of p.pending (subst (λ (ws : List Written). AllByRecursion (λ (w : Written). 0 < w.live.key.size) ws) told (told_bytes v))) up.some;
      live = h.live ∙ ap (λ (ws : List Written). ws ++ map (written_in old.ring.lap) old.pending) up.live
          ∙ ap (λ (ws : List Written). reverse (map written_of p.kept) ++ ws) (sym (reversed_pending old p up))
          ∙ sym (reverse-append (map written_of p.pending) (map written_of p.kept))
          ∙ ap (λ (ws : List Written). reverse ws) (sym (map-append written_of p.pending p.kept));
      pending = ap (λ (es : List LogEntry). map (written_in new.ring.lap) (reverse es)) (sym h.pending);
    }
