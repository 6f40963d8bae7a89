-- That each call leaves the log blocks of every header with an end behind them, and that a rebuild which finds more has met two
-- contents of one digest.
use Rattle.std.specs.Prelude.{◌≡◌, ◌≢◌, ℕ, ◌+◌, ◌*◌, ◌<◌, ◌≤◌, ◌⊎◌, List, [], ◌∷◌, ◌++◌, length, map, Bool, true, false, cond, Option, None, Some}
use Rattle.std.proofs.Common.{inl, inr, refl, sym, ap, subst, ◌∙◌, arith}
use Rattle.std.proofs.lemmas.Bool.{false≢true}
use Rattle.std.proofs.lemmas.List.{append-nil}
use Rattle.std.specs.List.{AllByRecursion}
use Rattle.l2_log.specs.Rules.{log_len}
use Rattle.l2_log.specs.LogBytes.{IsLogBlock}
use Rattle.l2_log.specs.HeaderBytes.{IsHeader}
use Rattle.l2_log.specs.declared.fault.LogFault.{LogFault}
use Rattle.l2_log.specs.Values.{same_header_of_bytes, same_log_block_of_bytes}
use Rattle.l2_log.specs.declared.header.DevHeader.{DevHeader}
use Rattle.l2_log.specs.declared.log_block.LogBlock.{LogBlock}
use Rattle.l2_log.specs.declared.pointer.LogPtr.{LogPtr}
use Rattle.l2_ring.specs.declared.plan.Plan.{Plan}
use Rattle.l2_ring.specs.Ranges.{Range, Stays}
use Rattle.l2_ring.proofs.PlanLaws.{plan_cases, stayed_before, tells_stays}
use Rattle.l2_ring.specs.Ring.{RingState, IsPlanFor, numbers_of, with_hand, last_lap}
use Rattle.l2_ring.specs.declared.live.Written.{Written}
use Rattle.arc_core.specs.declared.served.Restored.{Restored}
use Rattle.l2_dev.specs.declared.stop.Stop.{Stop}
use Rattle.l2_dev.specs.declared.stop.Stop.TheVariants as stop
use Rattle.l2_dev.specs.Chain.{Visit, IsHeld, IsPassed, IsPlaced, IsChain, IsLinked, numbers_in, log_range, bytes_at, pointer_behind, ring_len}
use Rattle.l2_dev.proofs.ChainLaws.{begins_with, linked_next}
use Rattle.l2_dev.specs.Restoring.{IsHeaderOf, IsRefused, first_sector, found_in, firsts, restored_of, restored_from}
use Rattle.l2_dev.specs.Standing.{Candidate, Kept, written_of, block_range, IsCandidate, IsStanding, IsLeftBy, AnyOf, restored_by, leading}
use Rattle.l2_dev.proofs.StandingLaws.{keeps, block_stays, leading_all, standing_fits}
use Rattle.l2_dev.proofs.ListLaws.{all_right, all_weaker}
use Rattle.l2_dev.specs.Cursor.{CursorState, numbers_from}
use Rattle.l2_dev.specs.Planned.{IsHeaderWith}
use Rattle.l2_dev.specs.Promise.{Promise, IsBacked}
use Rattle.l2_dev.specs.PromiseLaws.{IsHeaderFrom}
use Rattle.l2_dev.proofs.PromiseLaws.{same_plan}
use Rattle.l2_dev.proofs.RebuildLaws.{not_refused}
use Rattle.l2_dev.specs.Calls.{LeavesWith, IsCommitBlock}
use Rattle.l2_dev.specs.Starting.{opening}
use Rattle.l2_dev.specs.Ends.{IsDropped, EndsBehind, EndsAt, AreMade, AllEnd, IsMade, HasCollision}
use Rattle.l2_dev.specs.EndLaws.{BeginEnds, CommitEnds, CrashesAreMade, MoreCollides, PutEnds, StartEnds}

module _ (Made : LogBlock → Type 0) where
  -- ends by equal numbers and pointers
  ends_at : (q r : Plan) (a b c d : Option LogPtr) (vs : List Visit) → q ≡ r → a ≡ c → b ≡ d → EndsBehind Made q a b vs → EndsBehind Made r c d vs
  ends_at q r a b c d vs numbers newest second ends =
      subst (λ (s : Plan). EndsBehind Made s c d vs) numbers (subst (λ (o : Option LogPtr). EndsBehind Made q o d vs) newest (subst (λ (o : Option LogPtr). EndsBehind Made q a o vs) second ends))

  -- what was dropped stays dropped by a plan
  dropped_on : (ring : RingState) (n : ℕ) (plan : Plan) (ptr : LogPtr) → IsPlanFor ring n plan → plan.lap < last_lap → IsDropped Made (numbers_of ring) ptr → IsDropped Made plan ptr
  dropped_on ring n plan ptr for below d =
      let older = d.older in
      record {
        block = d.block;
        made = d.made;
        bytes = d.bytes;
        is = d.is;
        digest = d.digest;
        older = elim (plan_cases ring n plan for below) [
          | inl on ↦ let k = on.lap in omega arith
          | inr wraps ↦ let k = wraps.lap in omega arith
        ];
        gone = λ s. d.gone (stayed_before ring n plan (log_range ptr d.block.lap) for below (omega arith) s);
      }

  -- what a plan drops lay in an earlier lap
  falls_older : (ring : RingState) (n : ℕ) (plan : Plan) (r : Range) → IsPlanFor ring n plan → plan.lap < last_lap → Stays (numbers_of ring) r → (¬ Stays plan r) → r.lap < plan.lap
  falls_older ring n plan r for below here gone =
      elim (plan_cases ring n plan for below) [
        | inl on ↦ let h = on.hand in let k = on.lap in elim here [
          | inl low ↦ let b = low.0.begins in let e = low.0.ends in let l = low.1 in absurd (gone (inl (record { begins = omega arith; ends = omega arith }, omega arith)))
          | inr up ↦ let l = up.1 in omega arith
        ]
        | inr wraps ↦ let k = wraps.lap in elim here [
          | inl low ↦ let l = low.1 in omega arith
          | inr up ↦ let l = up.1 in omega arith
        ]
      ]

  leading_ends_if : (ring : RingState) (n : ℕ) (plan : Plan) (image : List ℕ) (a b : Option LogPtr) (v : Visit) (vs : List Visit) (t : Bool) → IsPlanFor ring n plan → plan.lap < last_lap → keeps plan (block_range v) ≡ t
      → a ≡ Some v.ptr → Stays (numbers_of ring) (block_range v) → IsHeld image v → Made v.block
      → EndsBehind Made plan b v.block.prev (leading plan vs) → EndsBehind Made plan a b (cond t (v ∷ leading plan vs) [])
  leading_ends_if ring n plan image a b v vs true for below e at here held made rest = rest
  leading_ends_if ring n plan image a b v vs false for below e at here held made rest =
      let gone : ¬ Stays plan (block_range v) = λ s. false≢true (sym e ∙ tells_stays plan (block_range v) s) in
      inr (
        v.ptr,
        at,
        record {
          block = v.block;
          made = made;
          bytes = bytes_at image v.ptr.place log_len;
          is = held.bytes;
          digest = held.digest;
          older = falls_older ring n plan (block_range v) for below here gone;
          gone = gone;
        },
      )

  -- behind the front that a plan leaves of a list there is an end
  leading_ends : (ring : RingState) (n : ℕ) (plan : Plan) (image : List ℕ) (a b : Option LogPtr) (vs : List Visit) → IsPlanFor ring n plan → plan.lap < last_lap → IsLinked a b vs
      → AllByRecursion (λ (v : Visit). Stays (numbers_of ring) (block_range v)) vs → AllByRecursion (IsHeld image) vs → AllByRecursion (λ (v : Visit). Made v.block) vs
      → EndsBehind Made (numbers_of ring) a b vs → EndsBehind Made plan a b (leading plan vs)
  leading_ends ring n plan image a b [] for below linked here held made (inl none) = inl none
  leading_ends ring n plan image a b [] for below linked here held made (inr more) = inr (more.0, more.1, dropped_on ring n plan more.0 for below more.2)
  leading_ends ring n plan image a b (v ∷ vs) for below linked here held made ends =
      leading_ends_if ring n plan image a b v vs (keeps plan (block_range v)) for below refl linked.0 here.0 held.0 made.0
      (leading_ends ring n plan image b v.block.prev vs for below linked.1 here.1 held.1 made.1 ends)

  -- the header of a cursor ends where the cursor does
  header_ends : (cursor : CursorState) (end : ℕ) (k : Candidate) (header other : DevHeader) → IsHeaderOf end k.sector header → IsHeaderFrom cursor header
      → EndsBehind Made (numbers_from cursor) cursor.newest cursor.second k.blocks → IsHeaderOf cursor.ring.end k.sector other
      → EndsBehind Made (numbers_in other) other.newest other.second k.blocks
  header_ends cursor end k header other named from ends is =
      let same : header ≡ other = same_header_of_bytes k.sector header other named.bytes is.bytes in
      subst (λ (h : DevHeader). EndsBehind Made (numbers_in h) h.newest h.second k.blocks) same
      (ends_at (numbers_from cursor) (numbers_in header) cursor.newest cursor.second header.newest header.second k.blocks (sym from.numbers) (sym from.newest) (sym from.second) ends)

  pub all_ends : (a b : ℕ) (ks : List Candidate) → a ≡ b → AllByRecursion (EndsAt Made a) ks → AllByRecursion (EndsAt Made b) ks
  all_ends a b ks same all = subst (λ (e : ℕ). AllByRecursion (EndsAt Made e) ks) same all

  -- a hand further on keeps the ends
  ends_further : (numbers : Plan) (hand : ℕ) (a b : Option LogPtr) (vs : List Visit) → EndsBehind Made numbers a b vs → EndsBehind Made (with_hand numbers hand) a b vs
  ends_further numbers hand a b vs (inl none) = inl none
  ends_further numbers hand a b vs (inr more) =
      let d = more.2 in
      let older = d.older in
      inr (
        more.0,
        more.1,
        record {
          block = d.block;
          made = d.made;
          bytes = d.bytes;
          is = d.is;
          digest = d.digest;
          older = older;
          gone = λ s. elim s [
            | inl low ↦ let l = low.1 in omega arith
            | inr up ↦ d.gone (inr up)
          ];
        },
      )

  nothing_stands : (header : DevHeader) → IsStanding header []
  nothing_stands header = record { linked = tt; passed = tt; ordered = tt }

  made_one : (end : ℕ) (image : List ℕ) (k : Candidate) → IsLeftBy image k → IsCandidate end k → EndsAt Made end k → IsMade Made end image
  made_one end image k left (inl named) at header is =
      let there : IsHeaderOf end k.sector header = subst (λ (s : List ℕ). IsHeaderOf end s header) left.sector is in
      let same : named.0 ≡ header = same_header_of_bytes k.sector named.0 header named.1.named.bytes there.bytes in
      (k.blocks, subst (λ (h : DevHeader). IsStanding h k.blocks) same named.1.standing, left.blocks, at.made, at.ends header there)
  made_one end image k left (inr none) at header is =
      let there : IsHeaderOf end k.sector header = subst (λ (s : List ℕ). IsHeaderOf end s header) left.sector is in
      (k.blocks, subst (λ (vs : List Visit). IsStanding header vs) (sym none.0) (nothing_stands header), left.blocks, at.made, at.ends header there)

  pub made_among : (end : ℕ) (image : List ℕ) (ks : List Candidate) → AnyOf (IsLeftBy image) ks → AllByRecursion (IsCandidate end) ks → AllByRecursion (EndsAt Made end) ks → IsMade Made end image
  made_among end image [] any good ends = absurd any
  made_among end image (k ∷ ks) (inl here) good ends = made_one end image k here good.0 ends.0
  made_among end image (k ∷ ks) (inr there) good ends = made_among end image ks there good.1 ends.1

  -- a walk that goes on behind an end has met two contents of one digest
  collision_of : (image : List ℕ) (header : DevHeader) (blocks : List Visit) (w : Visit) → EndsBehind Made (numbers_in header) header.newest header.second blocks
      → pointer_behind header.newest header.second blocks ≡ Some w.ptr → IsPassed header w → IsHeld image w → HasCollision Made image
  collision_of image header blocks w (inl none) next passed held = absurd (let e : None ≡ Some w.ptr = sym none ∙ next in cc)
  collision_of image header blocks w (inr more) next passed held =
      let d = more.2 in
      let e : Some more.0 ≡ Some w.ptr = sym more.1 ∙ next in
      let ptr : more.0 ≡ w.ptr = cc in
      record {
        block = d.block;
        made = d.made;
        bytes = d.bytes;
        is = d.is;
        place = w.ptr.place;
        digest = d.digest ∙ ap (λ (p : LogPtr). p.digest) ptr ∙ sym held.digest;
        apart = λ one.
            let same : w.block ≡ d.block = same_log_block_of_bytes (bytes_at image w.ptr.place log_len) w.block d.block held.bytes (subst (λ (bs : List ℕ). IsLogBlock bs d.block) one d.is) in
            d.gone (subst (λ (p : LogPtr). Stays (numbers_in header) (log_range p d.block.lap)) (sym ptr)
            (subst (λ (b : LogBlock). Stays (numbers_in header) (log_range w.ptr b.lap)) same passed.placed.part));
      }

  rest_collides : (image : List ℕ) (header : DevHeader) (blocks rest : List Visit) → EndsBehind Made (numbers_in header) header.newest header.second blocks → IsLinked header.newest header.second (blocks ++ rest)
      → AllByRecursion (IsPassed header) (blocks ++ rest) → AllByRecursion (IsHeld image) (blocks ++ rest) → (blocks ++ rest ≡ blocks) ⊎ HasCollision Made image
  rest_collides image header blocks [] ends linked passed held = inl (append-nil blocks)
  rest_collides image header blocks (w ∷ rest) ends linked passed held =
      inr (collision_of image header blocks w ends (linked_next header.newest header.second blocks w rest linked) (all_right (IsPassed header) blocks (w ∷ rest) passed).0
      (all_right (IsHeld image) blocks (w ∷ rest) held).0)

  -- a walk ends behind a standing list with an end, or has met two contents of one digest
  walks_to_end : (image : List ℕ) (header : DevHeader) (blocks visits : List Visit) (why : Stop) → IsStanding header blocks → AllByRecursion (IsHeld image) blocks
      → EndsBehind Made (numbers_in header) header.newest header.second blocks → IsChain image header visits why → why ≢ stop.DevFault → (visits ≡ blocks) ⊎ HasCollision Made image
  walks_to_end image header blocks visits why standing held ends chain well =
      let fits : log_len * length blocks ≤ ring_len header = standing_fits header blocks (block_stays header blocks standing.passed) standing.ordered in
      let begins = begins_with image header (log_len * length visits) header.newest header.second blocks visits why
      standing.linked standing.passed held chain.linked chain.held (omega arith) well chain.stops in
      let is : visits ≡ blocks ++ begins.0 = begins.1 in
      elim (rest_collides image header blocks begins.0 ends (subst (λ (vs : List Visit). IsLinked header.newest header.second vs) is chain.linked)
      (subst (λ (vs : List Visit). AllByRecursion (IsPassed header) vs) is chain.passed) (subst (λ (vs : List Visit). AllByRecursion (IsHeld image) vs) is chain.held)) [
        | inl same ↦ inl (is ∙ same)
        | inr met ↦ inr met
      ]

  module _ {D : Type 0} (tells : D → Option (List ℕ)) (has_sectors : D → Bool) (leaves : D → List ℕ → Type 0) (moment : D → ℕ) (since : D → ℕ → List ℕ → Type 0) where
    pub begin_ends : ((d : D) (image : List ℕ) → tells d ≡ Some image → leaves d image) → (BeginEnds Made tells has_sectors leaves moment since)
    begin_ends told_left n old new cursor after p k kept at h below left all =
        let up = kept.upheld in
        let plan : Plan = numbers_from after in
        let is : h.plan ≡ plan = sym (same_plan (numbers_from after) h.plan h.base h.numbers.evict h.numbers.top h.numbers.lap) in
        let for : IsPlanFor cursor.ring n plan = subst (λ (q : Plan). IsPlanFor cursor.ring n q) is h.plan_for in
        let rest : numbers_from cursor ≡ numbers_of cursor.ring = ap (λ (hand : ℕ). with_hand (numbers_of cursor.ring) hand) at in
        let backed : IsBacked p kept.image = kept.backed kept.image (told_left old kept.image kept.told) in
        let here : AllByRecursion (λ (v : Visit). Stays (numbers_of cursor.ring) (block_range v)) p.blocks =
        all_weaker (IsPlaced cursor.ring.end (numbers_of cursor.ring)) (λ (v : Visit). Stays (numbers_of cursor.ring) (block_range v)) p.blocks (λ v placed. placed.part)
        (subst (λ (q : Plan). AllByRecursion (IsPlaced cursor.ring.end q) p.blocks) rest up.placed) in
        let ends : EndsBehind Made plan cursor.newest cursor.second (leading plan p.blocks) =
        leading_ends cursor.ring n plan kept.image cursor.newest cursor.second p.blocks for below up.linked here backed.blocks all.made
        (subst (λ (q : Plan). EndsBehind Made q cursor.newest cursor.second p.blocks) rest all.behind) in
        let behind : EndsBehind Made plan after.newest after.second (leading plan p.blocks) =
        ends_at plan plan cursor.newest cursor.second after.newest after.second (leading plan p.blocks) refl (sym h.newest) (sym h.second) ends in
        let made : AreMade Made (leading plan p.blocks) = leading_all (λ (v : Visit). Made v.block) plan p.blocks all.made in
        let first : EndsAt Made after.ring.end k = record {
          made = subst (λ (vs : List Visit). AreMade Made vs) (sym left.of.list) made;
          ends = λ other named.
              header_ends after after.ring.end k left.header other left.named.named left.such
              (subst (λ (vs : List Visit). EndsBehind Made plan after.newest after.second vs) (sym left.of.list) behind) named;
        } in
        let others : AllByRecursion (EndsAt Made after.ring.end) p.candidates = all_ends cursor.ring.end after.ring.end p.candidates (sym h.numbers.end) all.headers in
        (record { made = made; behind = behind; headers = (first, tt) }, record { made = made; behind = behind; headers = (first, others) })

    -- the header of a commit ends as the list did before it
    pub commit_header_ends : (old new : D) (cursor after : CursorState) (p : Promise) (v : Visit) (k : Candidate) → IsCommitBlock cursor v → Made v.block
        → LeavesWith moment since (IsHeaderWith cursor v.ptr) after.ring.end old new p (v ∷ p.blocks) (p.pending ++ p.kept) p.kept k → AllEnd Made cursor p → EndsAt Made after.ring.end k
    commit_header_ends old new cursor after p v k is made left all =
        let hand : ℕ = cursor.ring.hand + log_len in
        let numbers : Plan = with_hand (numbers_from cursor) hand in
        let further : EndsBehind Made numbers cursor.newest cursor.second p.blocks = ends_further (numbers_from cursor) hand cursor.newest cursor.second p.blocks all.behind in
        let behind : EndsBehind Made numbers cursor.newest v.block.prev p.blocks =
        ends_at numbers numbers cursor.newest cursor.second cursor.newest v.block.prev p.blocks refl refl (sym is.prev) further in
        let header : DevHeader = left.header in
        let header_behind : EndsBehind Made (numbers_in header) header.newest header.second (v ∷ p.blocks) =
        ends_at numbers (numbers_in header) cursor.newest v.block.prev header.second v.block.prev p.blocks (sym left.such.numbers) (sym left.such.second) refl behind in
        record {
          made = subst (λ (vs : List Visit). AreMade Made vs) (sym left.of.list) (made, all.made);
          ends = λ other named.
              let same : header ≡ other = same_header_of_bytes k.sector header other left.named.named.bytes named.bytes in
              subst (λ (h : DevHeader). EndsBehind Made (numbers_in h) h.newest h.second k.blocks) same
              (subst (λ (vs : List Visit). EndsBehind Made (numbers_in header) header.newest header.second vs) (sym left.of.list) header_behind);
        }

    pub commit_ends : (CommitEnds Made tells has_sectors leaves moment since)
    commit_ends old new cursor after p v k is made left all =
        let hand : ℕ = cursor.ring.hand + log_len in
        let numbers : Plan = with_hand (numbers_from cursor) hand in
        let further : EndsBehind Made numbers cursor.newest cursor.second p.blocks = ends_further (numbers_from cursor) hand cursor.newest cursor.second p.blocks all.behind in
        let behind : EndsBehind Made numbers cursor.newest v.block.prev p.blocks =
        ends_at numbers numbers cursor.newest cursor.second cursor.newest v.block.prev p.blocks refl refl (sym is.prev) further in
        let first : EndsAt Made after.ring.end k = commit_header_ends old new cursor after p v k is made left all in (
          λ ptr h.
              let to : numbers ≡ numbers_from after = same_plan numbers (numbers_from after) (sym (h.base ∙ h.hand)) (sym h.evict) (sym h.top) (sym h.lap) in
              record {
                made = (made, all.made);
                behind = ends_at numbers (numbers_from after) cursor.newest v.block.prev after.second v.block.prev p.blocks to (sym h.second) refl behind;
                headers = (first, tt);
              },
          λ f.
              let to : numbers_from cursor ≡ numbers_from after = same_plan (numbers_from cursor) (numbers_from after) (sym f.base) (sym f.evict) (sym f.top) (sym f.lap) in
              record {
                made = all.made;
                behind = ends_at (numbers_from cursor) (numbers_from after) cursor.newest cursor.second after.newest after.second p.blocks to (sym f.newest) (sym f.second) all.behind;
                headers = (first, all_ends cursor.ring.end after.ring.end p.candidates (sym f.end) all.headers);
              },
        )

    pub crashes_are_made : (CrashesAreMade Made tells has_sectors leaves moment since)
    crashes_are_made device cursor p kept all image left = made_among cursor.ring.end image p.candidates (kept.backed image left).left kept.good.each all.headers

  pub put_ends : (PutEnds Made)
  put_ends cursor after p entry k all = (
    λ h.
        let to : numbers_from cursor ≡ numbers_from after = same_plan (numbers_from cursor) (numbers_from after) (sym h.base) (sym h.evict) (sym h.top) (sym h.lap) in
        record {
          made = all.made;
          behind = ends_at (numbers_from cursor) (numbers_from after) cursor.newest cursor.second after.newest after.second p.blocks to (sym h.newest) (sym h.second) all.behind;
          headers = all_ends cursor.ring.end after.ring.end p.candidates (sym h.end) all.headers;
        },
    λ f.
        let to : numbers_from cursor ≡ numbers_from after = same_plan (numbers_from cursor) (numbers_from after) (sym f.base) (sym f.evict) (sym f.top) (sym f.lap) in
        record {
          made = all.made;
          behind = ends_at (numbers_from cursor) (numbers_from after) cursor.newest cursor.second after.newest after.second p.blocks to (sym f.newest) (sym f.second) all.behind;
          headers = all_ends cursor.ring.end after.ring.end p.candidates (sym f.end) all.headers;
        },
  )

  bare_ends : (end : ℕ) (image : List ℕ) (cursor : CursorState) (k : Candidate) (refusal : LogFault) → cursor.ring.end ≡ end → cursor.newest ≡ None → k.sector ≡ first_sector image → k.blocks ≡ []
      → IsRefused end (first_sector image) refusal → AllEnd Made cursor (opening k)
  bare_ends end image cursor k refusal ends newest sector none refused =
      let made : AreMade Made k.blocks = subst (λ (vs : List Visit). AreMade Made vs) (sym none) tt in
      record {
        made = made;
        behind = subst (λ (vs : List Visit). EndsBehind Made (numbers_from cursor) cursor.newest cursor.second vs) (sym none) (inl newest);
        headers = (
          record {
            made = made;
            ends = λ header named. absurd (not_refused end (first_sector image) header refusal
                (subst (λ (s : List ℕ). IsHeaderOf end s header) sector (subst (λ (e : ℕ). IsHeaderOf e k.sector header) ends named)) refused);
          },
          tt,
        );
      }

  along_ends : (end : ℕ) (image : List ℕ) (cursor : CursorState) (k : Candidate) (header : DevHeader) → cursor.ring.end ≡ end → k.sector ≡ first_sector image → IsHeaderOf end (first_sector image) header
      → numbers_from cursor ≡ numbers_in header → cursor.newest ≡ header.newest → cursor.second ≡ header.second → AreMade Made k.blocks
      → EndsBehind Made (numbers_in header) header.newest header.second k.blocks → AllEnd Made cursor (opening k)
  along_ends end image cursor k header ends sector named numbers newest second made behind = record {
    made = made;
    behind = ends_at (numbers_in header) (numbers_from cursor) header.newest header.second cursor.newest cursor.second k.blocks (sym numbers) (sym newest) (sym second) behind;
    headers = (
      record {
        made = made;
        ends = λ other is.
            let same : header ≡ other = same_header_of_bytes k.sector header other (subst (λ (s : List ℕ). IsHeader s header) (sym sector) named.bytes) is.bytes in
            subst (λ (h : DevHeader). EndsBehind Made (numbers_in h) h.newest h.second k.blocks) same behind;
      },
      tt,
    );
  }

  pub start_ends : (StartEnds Made)
  start_ends end image reads cursor restored why k made opened (inl started) start well = elim started.0 [
    | inl failed ↦ absurd (well failed)
    | inr refused ↦ elim start.chain [
      | inl none ↦ inl (bare_ends end image cursor k refused.0 opened.ends started.1.newest start.sector none.1 refused.2)
      | inr walked ↦ absurd (not_refused end (first_sector image) walked.0 refused.0 walked.1 refused.2)
    ]
  ]
  start_ends end image reads cursor restored why k made opened (inr started) start well = elim start.chain [
    | inl none ↦ elim none.0 [
      | inl failed ↦ absurd (well failed)
      | inr refused ↦ absurd (not_refused end (first_sector image) started.0 refused.0 started.2.named refused.2)
    ]
    | inr walked ↦
        let header : DevHeader = walked.0 in
        let along = started.3 in
        let same : started.0 ≡ header = same_header_of_bytes (first_sector image) started.0 header started.2.named.bytes walked.1.bytes in
        let was = made header walked.1 in
        let rest : numbers_from cursor ≡ numbers_of cursor.ring = ap (λ (hand : ℕ). with_hand (numbers_of cursor.ring) hand) opened.base in
        elim (walks_to_end image header was.0 k.blocks why was.1 was.2 was.4 walked.2 well) [
          | inl all ↦ inl (along_ends end image cursor k header opened.ends start.sector walked.1
              (rest ∙ along.numbers ∙ ap (λ (h : DevHeader). numbers_in h) same) (along.newest ∙ ap (λ (h : DevHeader). h.newest) same) (along.second ∙ ap (λ (h : DevHeader). h.second) same)
              (subst (λ (vs : List Visit). AreMade Made vs) (sym all) was.3) (subst (λ (vs : List Visit). EndsBehind Made (numbers_in header) header.newest header.second vs) (sym all) was.4))
          | inr met ↦ inr met
        ]
  ]

  walked_restores : (end : ℕ) (image : List ℕ) (k : Candidate) (header : DevHeader) (visits : List Visit) (restored : List Restored) (why : Stop) → IsStanding header k.blocks → IsLeftBy image k
      → EndsBehind Made (numbers_in header) header.newest header.second k.blocks → IsChain image header visits why → restored ≡ restored_from (numbers_in header) visits
      → restored_from (numbers_in header) k.blocks ≡ restored_by k → why ≢ stop.DevFault → (restored ≡ restored_by k) ⊎ HasCollision Made image
  walked_restores end image k header visits restored why standing left ends chain list same well =
      elim (walks_to_end image header k.blocks visits why standing left.blocks ends chain well) [
        | inl all ↦ inl (list ∙ ap (λ (vs : List Visit). restored_from (numbers_in header) vs) all ∙ same)
        | inr met ↦ inr met
      ]

  pub more_collides : (MoreCollides Made)
  more_collides end image k restored why (inl named) left at (inl bare) well = elim bare.1 [
    | inl failed ↦ absurd (well failed)
    | inr refused ↦ absurd (not_refused end k.sector named.0 refused.0 named.1.named (subst (λ (s : List ℕ). IsRefused end s refused.0) left.sector refused.2))
  ]
  more_collides end image k restored why (inr none) left at (inl bare) well =
      inl (bare.0 ∙ sym (ap (λ (ks : List Kept). map restored_of (firsts (map written_of ks))) none.1))
  more_collides end image k restored why (inl named) left at (inr walked) well =
      let header : DevHeader = walked.0 in
      let is : IsHeaderOf end k.sector header = subst (λ (s : List ℕ). IsHeaderOf end s header) left.sector walked.2.named in
      let same : named.0 ≡ header = same_header_of_bytes k.sector named.0 header named.1.named.bytes is.bytes in
      walked_restores end image k header walked.1 restored why (subst (λ (h : DevHeader). IsStanding h k.blocks) same named.1.standing) left (at.ends header is) walked.2.chain walked.2.list
      (ap (λ (ws : List Written). map restored_of ws) (subst (λ (h : DevHeader). firsts (found_in (numbers_in h) k.blocks) ≡ firsts (map written_of k.kept)) same named.1.same)) well
  more_collides end image k restored why (inr none) left at (inr walked) well =
      let header : DevHeader = walked.0 in
      let is : IsHeaderOf end k.sector header = subst (λ (s : List ℕ). IsHeaderOf end s header) left.sector walked.2.named in
      walked_restores end image k header walked.1 restored why (subst (λ (vs : List Visit). IsStanding header vs) (sym none.0) (nothing_stands header)) left (at.ends header is) walked.2.chain walked.2.list
      (ap (λ (vs : List Visit). restored_from (numbers_in header) vs) none.0 ∙ sym (ap (λ (ks : List Kept). map restored_of (firsts (map written_of ks))) none.1)) well
