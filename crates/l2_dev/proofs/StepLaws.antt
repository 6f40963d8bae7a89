-- That a write keeps what is promised of each crash, in the ring and in the first sector.
use Rattle.std.specs.Prelude.{◌≡◌, ℕ, ◌+◌, ◌≤◌, List, [], ◌∷◌, length, Bool, IsTrue, Option}
use Rattle.std.proofs.Common.{inl, inr, sym, subst, ◌∙◌, ⊎_elim, arith}
use Rattle.std.specs.List.{AllByRecursion}
use Rattle.vdev_io.specs.Device.{IsTorn, IsTornBySector}
use Rattle.l2_log.specs.Rules.{ring_start, log_len, header_len}
use Rattle.l2_log.specs.declared.header.DevHeader.{DevHeader}
use Rattle.l2_ring.specs.declared.plan.Plan.{Plan}
use Rattle.l2_ring.specs.Ranges.{Stays}
use Rattle.l2_ring.proofs.PlanLaws.{written_aside}
use Rattle.l2_dev.specs.Chain.{Visit, IsHeld, IsPlaced, IsPassed}
use Rattle.l2_dev.specs.Restoring.{first_sector}
use Rattle.l2_dev.specs.Standing.{Candidate, Kept, IsCandidate, IsKeptIn, IsLeftBy, Rebuilds, AnyOf, block_range}
use Rattle.l2_dev.specs.Cursor.{CursorState, numbers_from}
use Rattle.l2_dev.specs.Promise.{Promise, IsUpheld, IsBacked, IsOf, LeftAmong, LeavesOnlyWith, kept_range}
use Rattle.l2_dev.specs.Steps.{TornFrom, Wrote}
use Rattle.l2_dev.proofs.TornLaws.{IsAside, BlocksAside, EntriesAside, left_aside, all_held_aside, all_kept_aside, sector_torn}
use Rattle.l2_dev.proofs.ListLaws.{all_weaker}
use Rattle.l2_dev.proofs.RebuildLaws.{left_rebuilds}

pub any_two : {X : Type 0} (P Q R : X → Type 0) (xs : List X) → ((x : X) → P x → Q x → R x) → AnyOf P xs → AllByRecursion Q xs → AnyOf R xs
any_two P Q R [] f any all = any
any_two P Q R (x ∷ xs) f (inl h) all = inl (f x h all.0)
any_two P Q R (x ∷ xs) f (inr h) all = inr (any_two P Q R xs f h all.1)

-- nothing of the list lies where a write between the base and the evict mark goes
pub blocks_beside : (end : ℕ) (numbers : Plan) (at n : ℕ) (vs : List Visit) → numbers.hand ≤ at → at + n ≤ numbers.evict → AllByRecursion (IsPlaced end numbers) vs → BlocksAside at n vs
blocks_beside end numbers at n vs from to placed =
    all_weaker (IsPlaced end numbers) (λ (v : Visit). IsAside at n v.ptr.place log_len) vs (λ v p. written_aside numbers at n (block_range v) from to p.part) placed

pub entries_beside : (numbers : Plan) (at n : ℕ) (ks : List Kept) → numbers.hand ≤ at → at + n ≤ numbers.evict → AllByRecursion (λ (k : Kept). Stays numbers (kept_range k)) ks → EntriesAside at n ks
entries_beside numbers at n ks from to stays =
    all_weaker (λ (k : Kept). Stays numbers (kept_range k)) (λ (k : Kept). IsAside at n k.written.live.place k.written.live.key.size) ks (λ k s. written_aside numbers at n (kept_range k) from to s) stays

of_aside : (at n : ℕ) (vs : List Visit) (ks : List Kept) (d c : List ℕ) (k : Candidate) → IsTorn at n d c → header_len ≤ at → BlocksAside at n vs → EntriesAside at n ks → IsLeftBy d k → IsOf vs ks k → IsLeftBy c k
of_aside at n vs ks d c k torn le blocks entries left of =
    left_aside at n d c k torn le (subst (λ (us : List Visit). BlocksAside at n us) (sym of.list) blocks) (subst (λ (js : List Kept). EntriesAside at n js) (sym of.entries) entries) left

-- a write in the ring leaves the promise as it was
pub backed_in_ring : (cursor : CursorState) (p : Promise) (at n : ℕ) (d c : List ℕ) → IsUpheld cursor p → AllByRecursion (IsOf p.blocks p.kept) p.candidates
    → cursor.base ≤ at → at + n ≤ cursor.ring.evict → header_len ≤ at → IsTorn at n d c → IsBacked p d → IsBacked p c
backed_in_ring cursor p at n d c up of from to far torn backed =
    let blocks : BlocksAside at n p.blocks = blocks_beside cursor.ring.end (numbers_from cursor) at n p.blocks from to up.placed in
    let entries : EntriesAside at n p.kept = entries_beside (numbers_from cursor) at n p.kept from to up.stays in
    record {
      left = any_two (IsLeftBy d) (IsOf p.blocks p.kept) (IsLeftBy c) p.candidates (λ k l o. of_aside at n p.blocks p.kept d c k torn far blocks entries l o) backed.left of;
      blocks = all_held_aside at n d c p.blocks torn blocks backed.blocks;
      kept = all_kept_aside at n d c p.kept torn entries backed.kept;
    }

-- what lies in the ring lies behind the first sector
pub blocks_behind : (end : ℕ) (numbers : Plan) (vs : List Visit) → AllByRecursion (IsPlaced end numbers) vs → BlocksAside 0 header_len vs
blocks_behind end numbers vs placed =
    all_weaker (IsPlaced end numbers) (λ (v : Visit). IsAside 0 header_len v.ptr.place log_len) vs (λ v p. let b = p.ring.inside.begins in inr (omega arith)) placed

pub entries_behind : (ks : List Kept) → AllByRecursion (λ (k : Kept). ring_start ≤ k.written.live.place) ks → EntriesAside 0 header_len ks
entries_behind ks inside =
    all_weaker (λ (k : Kept). ring_start ≤ k.written.live.place) (λ (k : Kept). IsAside 0 header_len k.written.live.place k.written.live.key.size) ks (λ k b. inr (omega arith)) inside

passed_behind : (header : DevHeader) (vs : List Visit) → AllByRecursion (IsPassed header) vs → BlocksAside 0 header_len vs
passed_behind header vs passed =
    all_weaker (IsPassed header) (λ (v : Visit). IsAside 0 header_len v.ptr.place log_len) vs (λ v p. let b = p.placed.ring.inside.begins in inr (omega arith)) passed

candidate_blocks : (end : ℕ) (k : Candidate) → IsCandidate end k → BlocksAside 0 header_len k.blocks
candidate_blocks end k (inl named) = passed_behind named.0 k.blocks named.1.standing.passed
candidate_blocks end k (inr none) = subst (λ (vs : List Visit). BlocksAside 0 header_len vs) (sym none.0) tt

candidate_entries : (end : ℕ) (k : Candidate) → IsCandidate end k → EntriesAside 0 header_len k.kept
candidate_entries end k (inl named) = entries_behind k.kept named.1.inside
candidate_entries end k (inr none) = subst (λ (ks : List Kept). EntriesAside 0 header_len ks) (sym none.1) tt

old_candidate : (end : ℕ) (d c : List ℕ) (k : Candidate) → IsTorn 0 header_len d c → first_sector c ≡ first_sector d → IsLeftBy d k → IsCandidate end k → IsLeftBy c k
old_candidate end d c k torn same left good = record {
  sector = same ∙ left.sector;
  blocks = all_held_aside 0 header_len d c k.blocks torn (candidate_blocks end k good) left.blocks;
  kept = all_kept_aside 0 header_len d c k.kept torn (candidate_entries end k good) left.kept;
}

-- a write of a header leaves each crash the old headers and the new one, with what it stands for
pub backed_by_header : (end : ℕ) (p q : Promise) (k : Candidate) (d c : List ℕ) → q.candidates ≡ k ∷ p.candidates → length k.sector ≡ header_len → k.blocks ≡ q.blocks → k.kept ≡ q.kept
    → BlocksAside 0 header_len q.blocks → EntriesAside 0 header_len q.kept → AllByRecursion (IsCandidate end) p.candidates
    → header_len ≤ length d → IsTornBySector 0 k.sector d c → AnyOf (IsLeftBy d) p.candidates → AllByRecursion (IsHeld d) q.blocks → AllByRecursion (IsKeptIn d) q.kept → IsBacked q c
backed_by_header end p q k d c among len list entries blocks kept good long torn left held bytes =
    let plain : IsTorn 0 header_len d c = subst (λ (n : ℕ). IsTorn 0 n d c) len torn.torn in
    let held_now : AllByRecursion (IsHeld c) q.blocks = all_held_aside 0 header_len d c q.blocks plain blocks held in
    let kept_now : AllByRecursion (IsKeptIn c) q.kept = all_kept_aside 0 header_len d c q.kept plain kept bytes in
    let any : AnyOf (IsLeftBy c) (k ∷ p.candidates) = elim (sector_torn k.sector d c len long torn) [
      | inl same ↦ inr (any_two (IsLeftBy d) (IsCandidate end) (IsLeftBy c) p.candidates (λ j l g. old_candidate end d c j plain same l g) left good)
      | inr new ↦ inl record {
        sector = new;
        blocks = subst (λ (vs : List Visit). AllByRecursion (IsHeld c) vs) (sym list) held_now;
        kept = subst (λ (ks : List Kept). AllByRecursion (IsKeptIn c) ks) (sym entries) kept_now;
      }
    ] in
    record {
      left = subst (λ (js : List Candidate). AnyOf (IsLeftBy c) js) (sym among) any;
      blocks = held_now;
      kept = kept_now;
    }

-- each crash leaves one of these headers, and each rebuild of it restores what it named
pub left_among : (end : ℕ) (candidates : List Candidate) (c : List ℕ) → AllByRecursion (IsCandidate end) candidates → AnyOf (IsLeftBy c) candidates → LeftAmong end candidates c
left_among end candidates c good any =
    any_two (IsLeftBy c) (IsCandidate end) (λ (k : Candidate). IsLeftBy c k × Rebuilds end c k) candidates (λ k l g. (l, left_rebuilds end c k g l)) any good

module _ {D : Type 0} (tells : D → Option (List ℕ)) (has_sectors : D → Bool) (leaves : D → List ℕ → Type 0) (moment : D → ℕ) (since : D → ℕ → List ℕ → Type 0) where
  -- one write
  pub leaves_from : (at : ℕ) (bytes : List ℕ) (old new : D) (P : List ℕ → Type 0) → Wrote tells has_sectors leaves moment since at bytes old new → IsTrue (has_sectors old)
      → ((c : List ℕ) → since old (moment old) c → P c) → ((c : List ℕ) → TornFrom (leaves old) at bytes c → P c) → LeavesOnlyWith moment since old new P
  leaves_from at bytes old new P wrote kind here torn = record {
    later = wrote.later;
    each = λ c left. ⊎_elim (here c) (torn c) (wrote.past kind (moment old) c (omega arith) left);
    before = λ t c le left. ⊎_elim (λ was. inl was) (λ now. inr (torn c now)) (wrote.past kind t c le left);
  }

  -- one write more
  pub leaves_on : (at : ℕ) (bytes : List ℕ) (old mid new : D) (P : List ℕ → Type 0) → LeavesOnlyWith moment since old mid P → Wrote tells has_sectors leaves moment since at bytes mid new → IsTrue (has_sectors mid)
      → ((c : List ℕ) → TornFrom (leaves mid) at bytes c → P c) → LeavesOnlyWith moment since old new P
  leaves_on at bytes old mid new P so_far wrote kind torn =
      let first = so_far.later in let then = wrote.later in
      record {
        later = omega arith;
        each = λ c left. ⊎_elim (so_far.each c) (torn c) (wrote.past kind (moment old) c first left);
        before = λ t c le left. ⊎_elim (so_far.before t c le) (λ now. inr (torn c now)) (wrote.past kind t c (omega arith) left);
      }

  pub leaves_wider : (old new : D) (P Q : List ℕ → Type 0) → ((c : List ℕ) → P c → Q c) → LeavesOnlyWith moment since old new P → LeavesOnlyWith moment since old new Q
  leaves_wider old new P Q f so = record {
    later = so.later;
    each = λ c left. f c (so.each c left);
    before = λ t c le left. ⊎_elim (λ was. inl was) (λ p. inr (f c p)) (so.before t c le left);
  }
