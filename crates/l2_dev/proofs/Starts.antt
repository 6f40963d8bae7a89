-- What a start keeps of every crash.
use Rattle.std.proofs.Common.{◌≡◌, ℕ, ◌<◌, List, [], ◌∷◌, map, reverse, Bool, true, false, IsTrue, Option, Some, refl, inl, inr, sym, ap, subst, ◌∙◌}
use Rattle.std.proofs.lemmas.List.{append-nil}
use Rattle.std.proofs.lemmas.Bool.{false≢true}
use Rattle.std.specs.List.{AllByRecursion}
use Rattle.vdev_io.specs.Calls.{DeviceCall}
use Rattle.vdev_io.specs.Device.{LeavesOnly}
use Rattle.l2_log.specs.declared.entry.LogEntry.{LogEntry}
use Rattle.l2_log.specs.declared.pointer.LogPtr.{LogPtr}
use Rattle.l2_log.specs.declared.header.DevHeader.{DevHeader}
use Rattle.l2_ring.specs.declared.live.Written.{Written}
use Rattle.l2_ring.specs.declared.plan.Plan.{Plan}
use Rattle.l2_ring.specs.Ring.{numbers_of, with_hand}
use Rattle.l2_ring.specs.Ranges.{Range, Stays, IsInOrder, range_of}
use Rattle.arc_core.specs.declared.served.Restored.{Restored}
use Rattle.l2_dev.specs.declared.stop.Stop.{Stop}
use Rattle.l2_dev.specs.Chain.{Visit, IsPassed, IsPlaced, IsLinked, bytes_at, numbers_in}
use Rattle.l2_dev.specs.Restoring.{IsRebuilt, IsWalked, written_in, firsts, found_in, first_sector, restored_of}
use Rattle.l2_dev.specs.Standing.{Candidate, Kept, written_of, IsNamed, IsCandidate, IsOrderly, IsKeptIn}
use Rattle.l2_dev.proofs.StandingLaws.{found_among, found_ordered, passed_bytes, block_stays}
use Rattle.l2_dev.proofs.CommitLaws.{passed_stay}
use Rattle.l2_dev.proofs.ListLaws.{all_weaker, firsts_all}
use Rattle.l2_dev.specs.Cursor.{CursorState, numbers_from}
use Rattle.l2_dev.specs.Promise.{IsUpheld, KeepsPromise, IsBacked, IsOf, kept_range}
use Rattle.l2_dev.proofs.PromiseLaws.{kept_inside}
use Rattle.l2_dev.specs.Rebuilding.{IsOpened, IsFresh, IsAlong, IsStarted}
use Rattle.l2_dev.specs.Reading.{OnlyRead}
use Rattle.l2_dev.specs.Starting.{IsStartOf, StartKeeps, opening}
use Rattle.l2_dev.proofs.Firsts.{firsts_twice, firsts_ordered}

-- an entry with the bytes that the image has in its range
abbrev kept_of : List ℕ → Written → Kept
kept_of image w = record { written = w; bytes = bytes_at image w.live.place w.live.key.size }

written_kept : (image : List ℕ) (ws : List Written) → map written_of (map (kept_of image) ws) ≡ ws
written_kept image [] = refl
written_kept image (w ∷ ws) = ap (λ us. w ∷ us) (written_kept image ws)

range_kept : (image : List ℕ) (ws : List Written) → map kept_range (map (kept_of image) ws) ≡ map range_of ws
range_kept image [] = refl
range_kept image (w ∷ ws) = ap (λ us. range_of w ∷ us) (range_kept image ws)

all_kept : (image : List ℕ) (ws : List Written) → AllByRecursion (IsKeptIn image) (map (kept_of image) ws)
all_kept image [] = tt
all_kept image (w ∷ ws) = (refl, all_kept image ws)

all_of_kept : (P : Written → Type 0) (image : List ℕ) (ws : List Written) → AllByRecursion P ws → AllByRecursion (λ (k : Kept). P k.written) (map (kept_of image) ws)
all_of_kept P image [] all = tt
all_of_kept P image (w ∷ ws) all = (all.0, all_of_kept P image ws all.1)

opened_numbers : (end : ℕ) (cursor : CursorState) (restored : List Restored) → IsOpened end cursor restored → numbers_from cursor ≡ numbers_of cursor.ring
opened_numbers end cursor restored o = ap (λ (b : ℕ). with_hand (numbers_of cursor.ring) b) o.base

none_pending : (end : ℕ) (cursor : CursorState) (restored : List Restored) → IsOpened end cursor restored → [] ≡ map (written_in cursor.ring.lap) (reverse cursor.pending)
none_pending end cursor restored o = ap (λ (es : List LogEntry). map (written_in cursor.ring.lap) (reverse es)) (sym o.pending)

module _ (end : ℕ) (image : List ℕ) (cursor : CursorState) (restored : List Restored) (why : Stop) (o : IsOpened end cursor restored) where
  -- nothing was found: the first sector promises nothing
  unread_candidate : Candidate
  unread_candidate = record { sector = first_sector image; blocks = []; kept = [] }

  unread_upheld : IsFresh end cursor → IsUpheld cursor (opening unread_candidate)
  unfolding unread_candidate
  unread_upheld f = record {
    linked = tt;
    placed = tt;
    ordered = tt;
    same = refl;
    stays = tt;
    in_order = tt;
    some = tt;
    live = f.live;
    pending = none_pending end cursor restored o;
  }

  -- along the chain of the header
  module _ (header : DevHeader) (visits : List Visit) (w : IsWalked end image header visits restored why) (a : IsAlong header visits cursor) (ordered : IsOrderly (numbers_in header) visits) where
    abbrev found : List Written
    found = found_in (numbers_in header) visits

    walked_candidate : Candidate
    walked_candidate = record { sector = first_sector image; blocks = visits; kept = map (kept_of image) (firsts (found_in (numbers_in header) visits)) }

    walked_numbers : numbers_in header ≡ numbers_from cursor
    walked_numbers = sym (opened_numbers end cursor restored o ∙ a.numbers)

    found_stays : AllByRecursion (λ (x : Written). Stays (numbers_in header) (range_of x)) (firsts found)
    found_stays =
        firsts_all (λ (x : Written). Stays (numbers_in header) (range_of x)) found
        (found_among (Stays (numbers_in header)) (numbers_in header) visits (passed_stay (numbers_in header) visits (block_stays header visits w.chain.passed)))

    found_some : AllByRecursion (λ (x : Written). 0 < x.live.key.size) (firsts found)
    found_some =
        firsts_all (λ (x : Written). 0 < x.live.key.size) found (found_among (λ (r : Range). 0 < r.size) (numbers_in header) visits (passed_bytes (numbers_in header) visits))

    kept_stays : AllByRecursion (λ (k : Kept). Stays (numbers_in header) (kept_range k)) (map (kept_of image) (firsts found))
    kept_stays = all_of_kept (λ (x : Written). Stays (numbers_in header) (range_of x)) image (firsts found) found_stays

    walked_same : firsts found ≡ firsts (map written_of (map (kept_of image) (firsts found)))
    walked_same = sym (ap (λ (ws : List Written). firsts ws) (written_kept image (firsts found)) ∙ firsts_twice found)

    walked_upheld : IsUpheld cursor (opening walked_candidate)
    unfolding walked_candidate
    walked_upheld = record {
      linked = subst (λ (p : Option LogPtr). IsLinked p cursor.second visits) (sym a.newest) (subst (λ (p : Option LogPtr). IsLinked header.newest p visits) (sym a.second) w.chain.linked);
      placed = subst (λ (e : ℕ). AllByRecursion (IsPlaced e (numbers_from cursor)) visits) (sym a.end)
          (subst (λ (q : Plan). AllByRecursion (IsPlaced header.end q) visits) walked_numbers (all_weaker (IsPassed header) (IsPlaced header.end (numbers_in header)) visits (λ v p. p.placed) w.chain.passed));
      ordered = subst (λ (q : Plan). IsOrderly q visits) walked_numbers ordered;
      same = subst (λ (q : Plan). firsts (found_in q visits) ≡ firsts (map written_of (map (kept_of image) (firsts found)))) walked_numbers walked_same;
      stays = subst (λ (q : Plan). AllByRecursion (λ (k : Kept). Stays q (kept_range k)) (map (kept_of image) (firsts found))) walked_numbers kept_stays;
      in_order = subst (λ (rs : List Range). IsInOrder rs) (sym (range_kept image (firsts found))) (firsts_ordered found (found_ordered (numbers_in header) visits ordered));
      some = all_of_kept (λ (x : Written). 0 < x.live.key.size) image (firsts found) found_some;
      live = a.live ∙ ap (λ (ws : List Written). reverse ws) (sym (written_kept image (firsts found)));
      pending = none_pending end cursor restored o;
    }

    walked_named : IsNamed end walked_candidate header
    unfolding walked_candidate
    walked_named = record {
      named = w.named;
      standing = record { linked = w.chain.linked; passed = w.chain.passed; ordered = ordered };
      same = walked_same;
      inside = kept_inside (numbers_in header) (map (kept_of image) (firsts found)) header.evict_in.from kept_stays;
    }

    walked_left : IsBacked (opening walked_candidate) image
    unfolding walked_candidate
    walked_left = record {
      left = inl record { sector = refl; blocks = w.chain.held; kept = all_kept image (firsts found) };
      blocks = w.chain.held;
      kept = all_kept image (firsts found);
    }

    walked_start : IsStartOf end image restored why walked_candidate
    unfolding walked_candidate
    walked_start = record {
      sector = refl;
      chain = inr (header, w.named, w.chain);
      list = w.list ∙ ap (λ (ws : List Written). map restored_of ws) walked_same;
      kept = all_kept image (firsts found);
    }

-- what a start finds is what a rebuild finds
pub started_rebuilt : (end : ℕ) (image : List ℕ) (reads : List DeviceCall) (cursor : CursorState) (restored : List Restored) (why : Stop) → IsStarted end image reads cursor restored why → IsRebuilt end image restored why
started_rebuilt end image reads cursor restored why (inl u) = inl (u.2, u.0)
started_rebuilt end image reads cursor restored why (inr s) = inr (s.0, s.1, s.2)

module _ {D : Type 0} (size : D → ℕ) (tells : D → Option (List ℕ)) (has_sectors : D → Bool) (leaves : D → List ℕ → Type 0) (moment : D → ℕ) (since : D → ℕ → List ℕ → Type 0) (faults : D → ℕ) where
  shut : (cursor : CursorState) (P : Type 0) → cursor.ready ≡ false → cursor.ready ≡ true → P
  shut cursor P off on = absurd (false≢true (sym off ∙ on))

  -- a device whose one image backs the candidate keeps the promise of that candidate
  opened_kept : (old new : D) (end : ℕ) (image : List ℕ) (cursor : CursorState) (restored : List Restored) (k : Candidate) → OnlyRead size tells has_sectors leaves moment since faults old new → IsOpened end cursor restored
      → IsTrue (has_sectors old) → tells old ≡ Some image → LeavesOnly image (leaves old) → IsUpheld cursor (opening k) → IsBacked (opening k) image → IsCandidate end k → KeepsPromise tells has_sectors leaves new cursor (opening k)
  opened_kept old new end image cursor restored k read o sectors was only upheld backed candidate = record {
    upheld = upheld;
    sectors = subst (λ (b : Bool). IsTrue b) (sym read.kind) sectors;
    image = image;
    told = read.told ∙ was;
    pending = tt;
    backed = λ c left. subst (λ (d : List ℕ). IsBacked (opening k) d) (sym (only c ((read.crash c).1 left))) backed;
    good = record {
      each = (subst (λ (e : ℕ). IsCandidate e k) (sym o.ends) candidate, tt);
      cover = (([], [], sym (append-nil k.kept)), tt);
    };
    begun = λ ready. shut cursor (AllByRecursion (IsOf k.blocks k.kept) (k ∷ [])) o.ready ready;
  }

  pub start_keeps : (old new : D) (end : ℕ) (reads : List DeviceCall) (cursor : CursorState) (restored : List Restored) (why : Stop) → OnlyRead size tells has_sectors leaves moment since faults old new → IsOpened end cursor restored
      → ((image : List ℕ) → tells old ≡ Some image → IsStarted end image reads cursor restored why) → StartKeeps tells has_sectors leaves end old new cursor restored why
  unfolding unread_candidate walked_candidate
  start_keeps old new end reads cursor restored why read o started = λ image sectors was only orderly.
      elim (started image was) [
        | inl u ↦ (
          unread_candidate end image cursor restored why o,
          record { sector = refl; chain = inl (u.0, refl); list = u.2; kept = tt },
          opened_kept old new end image cursor restored (unread_candidate end image cursor restored why o) read o sectors was only (unread_upheld end image cursor restored why o u.1)
              record { left = inl record { sector = refl; blocks = tt; kept = tt }; blocks = tt; kept = tt } (inr (refl, refl)),
        )
        | inr s ↦
            let ordered = orderly s.0 s.1 s.2.named s.2.chain in (
              walked_candidate end image cursor restored why o s.0 s.1 s.2 s.3 ordered,
              walked_start end image cursor restored why o s.0 s.1 s.2 s.3 ordered,
              opened_kept old new end image cursor restored (walked_candidate end image cursor restored why o s.0 s.1 s.2 s.3 ordered) read o sectors was only
                  (walked_upheld end image cursor restored why o s.0 s.1 s.2 s.3 ordered) (walked_left end image cursor restored why o s.0 s.1 s.2 s.3 ordered)
                  (inl (s.0, walked_named end image cursor restored why o s.0 s.1 s.2 s.3 ordered)),
            )
      ]
