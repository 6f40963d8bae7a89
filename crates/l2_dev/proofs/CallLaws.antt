-- That begin, put and commit keep what is promised of every crash.
use Rattle.std.specs.Prelude.{◌≡◌, ℕ, ◌+◌, ◌≤◌, List, [], ◌∷◌, ◌++◌, length, map, reverse, Bool, true, false, IsTrue, Option, None, Some, Result}
use Rattle.std.proofs.Common.{inl, inr, refl, sym, ap, subst, ◌∙◌, ⊎_elim, append_assoc, arith}
use Rattle.std.proofs.lemmas.Bool.{false≢true}
use Rattle.std.proofs.lemmas.List.{append-nil}
use Rattle.std.specs.List.{AllByRecursion}
use Rattle.vdev_io.specs.Device.{IsTornBySector, IsWritten, LeavesNoMore, FollowsBySector, ElapsesTo, put}
use Rattle.l2_log.specs.Rules.{ring_start, log_len, header_len}
use Rattle.l2_log.specs.HeaderBytes.{IsHeader}
use Rattle.l2_log.specs.declared.header.DevHeader.{DevHeader}
use Rattle.l2_log.specs.declared.entry.LogEntry.{LogEntry}
use Rattle.l2_log.specs.declared.pointer.LogPtr.{LogPtr}
use Rattle.l2_ring.specs.declared.live.Written.{Written}
use Rattle.l2_ring.specs.declared.plan.Plan.{Plan}
use Rattle.l2_ring.specs.Ranges.{Stays}
use Rattle.l2_dev.specs.Chain.{Visit, IsHeld, IsPlaced, IsLinked, bytes_at}
use Rattle.l2_dev.specs.Restoring.{first_sector, written_in, firsts, found_in}
use Rattle.l2_dev.specs.Standing.{Candidate, Kept, written_of, IsNamed, IsCandidate, IsKeptIn, IsLeftBy, AnyOf, IsOrderly, leading, staying}
use Rattle.l2_dev.specs.Cursor.{CursorState, numbers_from}
use Rattle.l2_dev.specs.Promise.{Promise, IsUpheld, IsBacked, IsOf, AreGood, KeepsPromise, LeftAmong, LeavesOnlyWith, Covers, kept_range}
use Rattle.l2_dev.specs.PromiseLaws.{left_by, with_block, IsHeaderFrom}
use Rattle.l2_dev.proofs.PromiseLaws.{HasTaken, taken_upheld, taken_covers, HasCommitted, committed_upheld, upheld_named, kept_inside}
use Rattle.l2_dev.specs.Steps.{TornFrom, Wrote, HasFlushed}
use Rattle.l2_dev.proofs.StepLaws.{backed_in_ring, backed_by_header, blocks_behind, entries_behind, left_among, leaves_from, leaves_on, leaves_wider}
use Rattle.l2_dev.proofs.StandingLaws.{leading_all}
use Rattle.l2_ring.specs.Stays.{stays}
use Rattle.l2_dev.proofs.TornLaws.{BlocksAside, EntriesAside, all_kept_aside, put_torn, put_there}
use Rattle.l2_dev.proofs.ListLaws.{filter_all, all_weaker, all_append, all_right}
use Rattle.l2_dev.specs.Calls.{LeavesWith, forgotten, with_put}

told_written : {T E : Type 0} (at : ℕ) (bytes : List ℕ) (old new : Option (List ℕ)) (result : Result T E) → IsWritten at bytes old new result
    → (image : List ℕ) → old ≡ Some image → (now : List ℕ) × (new ≡ Some now)
told_written at bytes None new result w image e = absurd (let n : None ≡ Some image = e in cc)
told_written at bytes (Some old) None result w image e = absurd w
told_written at bytes (Some old) (Some new) result w image e = (new, refl)

some_same : (a b : List ℕ) (o : Option (List ℕ)) → o ≡ Some a → o ≡ Some b → a ≡ b
some_same a b o x y = let e : Some a ≡ Some b = sym x ∙ y in cc

-- a write in the ring, while blocks may be put
pub record WritesInRing (cursor : CursorState) (at : ℕ) (bytes : List ℕ) : Type 0 where
  pub ready : cursor.ready ≡ true
  pub from : cursor.base ≤ at
  pub to : at + length bytes ≤ cursor.ring.evict
  pub far : header_len ≤ at

-- what is pending is forgotten, with the hand as it was at the base
pub record HasForgotten (old new : CursorState) : Type 0 where
  pub end : new.ring.end ≡ old.ring.end
  pub numbers : numbers_from new ≡ numbers_from old
  pub live : new.ring.live ≡ old.ring.live
  pub newest : new.newest ≡ old.newest
  pub second : new.second ≡ old.second
  pub pending : new.pending ≡ []
  pub ready : new.ready ≡ false

-- one more entry is pending, behind the others
pub record HasPut (k : Kept) (old new : CursorState) : Type 0 where
  pub end : new.ring.end ≡ old.ring.end
  pub numbers : numbers_from new ≡ numbers_from old
  pub lap : new.ring.lap ≡ old.ring.lap
  pub live : new.ring.live ≡ old.ring.live
  pub newest : new.newest ≡ old.newest
  pub second : new.second ≡ old.second
  pub ready : new.ready ≡ old.ready
  pub pending : map (written_in old.ring.lap) (reverse new.pending) ≡ k.written ∷ map (written_in old.ring.lap) (reverse old.pending)

module _ {D : Type 0} (tells : D → Option (List ℕ)) (has_sectors : D → Bool) (leaves : D → List ℕ → Type 0) (moment : D → ℕ) (since : D → ℕ → List ℕ → Type 0) where
  -- one write
  pub wrote_once : {T E : Type 0} (at : ℕ) (bytes : List ℕ) (old new : D) (result : Result T E) → has_sectors new ≡ has_sectors old → IsWritten at bytes (tells old) (tells new) result
      → (IsTrue (has_sectors old) → FollowsBySector at bytes (leaves old) (leaves new)) → moment old ≤ moment new
      → (IsTrue (has_sectors old) → ElapsesTo (moment old) (since old) (since new) (leaves new)) → Wrote tells has_sectors leaves moment since at bytes old new
  wrote_once at bytes old new result kind told follows later elapses = record {
    kind = kind;
    told = told_written at bytes (tells old) (tells new) result told;
    later = later;
    torn = λ yes c left. let f = follows yes c left in record { from = f.0; left = f.1; torn = f.2 };
    past = λ yes t c le left. ⊎_elim (λ was. inl was) (λ now. let f = follows yes c now in inr record { from = f.0; left = f.1; torn = f.2 }) (elapses yes t c le left);
  }

  -- and a flush behind it
  pub wrote_flushed : (at : ℕ) (bytes : List ℕ) (old mid new : D) → Wrote tells has_sectors leaves moment since at bytes old mid → has_sectors new ≡ has_sectors mid → tells new ≡ tells mid
      → LeavesNoMore (leaves mid) (leaves new) → moment mid ≤ moment new → (IsTrue (has_sectors mid) → ElapsesTo (moment mid) (since mid) (since new) (leaves new))
      → Wrote tells has_sectors leaves moment since at bytes old new
  wrote_flushed at bytes old mid new wrote kind told no_more later elapses =
      let first = wrote.later in
      record {
        kind = kind ∙ wrote.kind;
        told = λ image e. let now = wrote.told image e in (now.0, told ∙ now.1);
        later = omega arith;
        torn = λ yes c left. wrote.torn yes c (no_more c left);
        past = λ yes t c le left. ⊎_elim (λ was. wrote.past yes t c le was) (λ now. inr (wrote.torn yes c (no_more c now)))
            (elapses (subst (λ (b : Bool). IsTrue b) (sym wrote.kind) yes) t c (omega arith) left);
      }

  -- the device tells what a crash may leave, and since this moment there is no other
  pub record IsPlain (device : D) (size : ℕ) : Type 0 where
    pub told_left : (image : List ℕ) → tells device ≡ Some image → leaves device image
    pub now_only : (c : List ℕ) → IsTrue (has_sectors device) → since device (moment device) c → leaves device c
    pub long : (c : List ℕ) → leaves device c → size ≤ length c

  kept_among : (device : D) (cursor : CursorState) (p : Promise) → KeepsPromise tells has_sectors leaves device cursor p → (c : List ℕ) → leaves device c → LeftAmong cursor.ring.end p.candidates c
  kept_among device cursor p kept c left = left_among cursor.ring.end p.candidates c kept.good.each (kept.backed c left).left

  torn_in_ring : (old : D) (cursor : CursorState) (p : Promise) (at : ℕ) (bytes : List ℕ) → KeepsPromise tells has_sectors leaves old cursor p → WritesInRing cursor at bytes
      → (c : List ℕ) → TornFrom (leaves old) at bytes c → IsBacked p c
  torn_in_ring old cursor p at bytes kept writes c torn =
      backed_in_ring cursor p at (length bytes) torn.from c kept.upheld (kept.begun writes.ready) writes.from writes.to writes.far torn.torn.torn (kept.backed torn.from torn.left)

  pub ring_crash : (old new : D) (cursor : CursorState) (p : Promise) (at size : ℕ) (bytes : List ℕ) → KeepsPromise tells has_sectors leaves old cursor p → WritesInRing cursor at bytes → IsPlain old size
      → Wrote tells has_sectors leaves moment since at bytes old new → LeavesOnlyWith moment since old new (LeftAmong cursor.ring.end p.candidates)
  ring_crash old new cursor p at size bytes kept writes plain wrote =
      leaves_from tells has_sectors leaves moment since at bytes old new (LeftAmong cursor.ring.end p.candidates) wrote kept.sectors
      (λ c left. kept_among old cursor p kept c (plain.now_only c kept.sectors left))
      (λ c torn. left_among cursor.ring.end p.candidates c kept.good.each (torn_in_ring old cursor p at bytes kept writes c torn).left)

  -- the list stands for the cursor that has forgotten what was pending
  pub forgotten_upheld : (old new : CursorState) (p : Promise) (candidates : List Candidate) → HasForgotten old new → IsUpheld old p → IsUpheld new (forgotten p candidates)
  forgotten_upheld old new p candidates f up =
      let to : numbers_from old ≡ numbers_from new = sym f.numbers in
      record {
        linked = subst (λ (o : Option LogPtr). IsLinked o new.second p.blocks) (sym f.newest) (subst (λ (o : Option LogPtr). IsLinked old.newest o p.blocks) (sym f.second) up.linked);
        placed = subst (λ (e : ℕ). AllByRecursion (IsPlaced e (numbers_from new)) p.blocks) (sym f.end) (subst (λ (q : Plan). AllByRecursion (IsPlaced old.ring.end q) p.blocks) to up.placed);
        ordered = subst (λ (q : Plan). IsOrderly q p.blocks) to up.ordered;
        same = subst (λ (q : Plan). firsts (found_in q p.blocks) ≡ firsts (map written_of p.kept)) to up.same;
        stays = subst (λ (q : Plan). AllByRecursion (λ (k : Kept). Stays q (kept_range k)) p.kept) to up.stays;
        in_order = up.in_order;
        some = up.some;
        live = f.live ∙ up.live;
        pending = ap (λ (es : List LogEntry). map (written_in new.ring.lap) (reverse es)) (sym f.pending);
      }

  pub not_ready : (cursor : CursorState) (P : Type 0) → cursor.ready ≡ false → cursor.ready ≡ true → P
  not_ready cursor P shut ready = absurd (false≢true (sym shut ∙ ready))

  -- after a write in the ring what is pending may be forgotten
  pub ring_forgets : (old new : D) (cursor after : CursorState) (p : Promise) (at : ℕ) (bytes : List ℕ) → KeepsPromise tells has_sectors leaves old cursor p → WritesInRing cursor at bytes
      → Wrote tells has_sectors leaves moment since at bytes old new → HasForgotten cursor after → KeepsPromise tells has_sectors leaves new after (forgotten p p.candidates)
  ring_forgets old new cursor after p at bytes kept writes wrote f =
      let now = wrote.told kept.image kept.told in
      record {
        upheld = forgotten_upheld cursor after p p.candidates f kept.upheld;
        sectors = subst (λ (b : Bool). IsTrue b) (sym wrote.kind) kept.sectors;
        image = now.0;
        told = now.1;
        pending = tt;
        backed = λ c left. (λ (b : IsBacked p c). let r : IsBacked (forgotten p p.candidates) c = record { left = b.left; blocks = b.blocks; kept = b.kept } in r) (torn_in_ring old cursor p at bytes kept writes c (wrote.torn kept.sectors c left));
        good = subst (λ (e : ℕ). AreGood e p.kept p.candidates) (sym f.end) kept.good;
        begun = λ yes. not_ready after (AllByRecursion (IsOf p.blocks p.kept) p.candidates) f.ready yes;
      }

  put_upheld : (k : Kept) (old new : CursorState) (p : Promise) → HasPut k old new → IsUpheld old p → IsUpheld new (with_put k p)
  put_upheld k old new p f up =
      let to : numbers_from old ≡ numbers_from new = sym f.numbers in
      record {
        linked = subst (λ (o : Option LogPtr). IsLinked o new.second p.blocks) (sym f.newest) (subst (λ (o : Option LogPtr). IsLinked old.newest o p.blocks) (sym f.second) up.linked);
        placed = subst (λ (e : ℕ). AllByRecursion (IsPlaced e (numbers_from new)) p.blocks) (sym f.end) (subst (λ (q : Plan). AllByRecursion (IsPlaced old.ring.end q) p.blocks) to up.placed);
        ordered = subst (λ (q : Plan). IsOrderly q p.blocks) to up.ordered;
        same = subst (λ (q : Plan). firsts (found_in q p.blocks) ≡ firsts (map written_of p.kept)) to up.same;
        stays = subst (λ (q : Plan). AllByRecursion (λ (j : Kept). Stays q (kept_range j)) p.kept) to up.stays;
        in_order = up.in_order;
        some = up.some;
        live = f.live ∙ up.live;
        pending = ap (λ (ws : List Written). k.written ∷ ws) up.pending ∙ sym f.pending ∙ ap (λ (lap : ℕ). map (written_in lap) (reverse new.pending)) (sym f.lap);
      }

  -- after a put the told image has the bytes of all that is pending
  pub put_kept : (old new : D) (cursor after : CursorState) (p : Promise) (k : Kept) (image : List ℕ) → KeepsPromise tells has_sectors leaves old cursor p
      → WritesInRing cursor k.written.live.place k.bytes → length k.bytes ≡ k.written.live.key.size → tells old ≡ Some image → k.written.live.place + length k.bytes ≤ length image
      → EntriesAside k.written.live.place (length k.bytes) p.pending → Wrote tells has_sectors leaves moment since k.written.live.place k.bytes old new → tells new ≡ Some (put k.written.live.place k.bytes image)
      → HasPut k cursor after → KeepsPromise tells has_sectors leaves new after (with_put k p)
  put_kept old new cursor after p k image kept writes len was inside aside wrote told f =
      let at : ℕ = k.written.live.place in
      let same : kept.image ≡ image = some_same kept.image image (tells old) kept.told was in
      record {
        upheld = put_upheld k cursor after p f kept.upheld;
        sectors = subst (λ (b : Bool). IsTrue b) (sym wrote.kind) kept.sectors;
        image = put at k.bytes image;
        told = told;
        pending = (
          subst (λ (n : ℕ). bytes_at (put at k.bytes image) at n ≡ k.bytes) len (put_there at k.bytes image inside),
          all_kept_aside at (length k.bytes) image (put at k.bytes image) p.pending (put_torn at k.bytes image inside) aside
              (subst (λ (bytes : List ℕ). AllByRecursion (IsKeptIn bytes) p.pending) same kept.pending),
        );
        backed = λ c left. (λ (b : IsBacked p c). let r : IsBacked (with_put k p) c = record { left = b.left; blocks = b.blocks; kept = b.kept } in r) (torn_in_ring old cursor p at k.bytes kept writes c (wrote.torn kept.sectors c left));
        good = subst (λ (e : ℕ). AreGood e p.kept p.candidates) (sym f.end) kept.good;
        begun = λ yes. kept.begun (sym f.ready ∙ yes);
      }

  -- the first header is written: what each crash leaves
  pub record WritesHeader (old new : D) (sector : List ℕ) (candidate : Candidate) : Type 0 where
    pub wrote : Wrote tells has_sectors leaves moment since 0 sector old new
    pub len : length sector ≡ header_len
    pub is : candidate.sector ≡ sector
    pub plain : IsPlain old header_len

  torn_header : (end : ℕ) (old new : D) (p q : Promise) (sector : List ℕ) (k : Candidate) → WritesHeader old new sector k → q.candidates ≡ k ∷ p.candidates → k.blocks ≡ q.blocks → k.kept ≡ q.kept
      → BlocksAside 0 header_len q.blocks → EntriesAside 0 header_len q.kept → AllByRecursion (IsCandidate end) p.candidates
      → ((d : List ℕ) → leaves old d → AnyOf (IsLeftBy d) p.candidates × AllByRecursion (IsHeld d) q.blocks × AllByRecursion (IsKeptIn d) q.kept)
      → (c : List ℕ) → TornFrom (leaves old) 0 sector c → IsBacked q c
  torn_header end old new p q sector k w among list entries blocks kept good before c torn =
      let b = before torn.from torn.left in
      let sized : length k.sector ≡ header_len = ap (λ (s : List ℕ). length s) w.is ∙ w.len in
      backed_by_header end p q k torn.from c among sized list entries blocks kept good (w.plain.long torn.from torn.left)
      (subst (λ (s : List ℕ). IsTornBySector 0 s torn.from c) (sym w.is) torn.torn) b.0 b.1 b.2

  header_there : (image sector : List ℕ) → length sector ≡ header_len → header_len ≤ length image → first_sector (put 0 sector image) ≡ sector
  header_there image sector len long = subst (λ (n : ℕ). bytes_at (put 0 sector image) 0 n ≡ sector) len (put_there 0 sector image (omega arith))

  -- the one image that is left has the header in its first sector
  one_candidate : (q : Promise) (k : Candidate) (c : List ℕ) → first_sector c ≡ k.sector → k.blocks ≡ q.blocks → k.kept ≡ q.kept → IsBacked q c → IsLeftBy c k
  one_candidate q k c sector list entries b = record {
    sector = sector;
    blocks = subst (λ (vs : List Visit). AllByRecursion (IsHeld c) vs) (sym list) b.blocks;
    kept = subst (λ (ks : List Kept). AllByRecursion (IsKeptIn c) ks) (sym entries) b.kept;
  }

  -- begin: the header of what the plan leaves
  pub record Begins (n : ℕ) (plan : Plan) (old new : D) (cursor after : CursorState) (p : Promise) (header : DevHeader) (sector : List ℕ) : Type 0 where
    pub kept : KeepsPromise tells has_sectors leaves old cursor p
    pub taken : HasTaken n plan cursor after
    pub header_from : IsHeaderFrom after header
    pub is : IsHeader sector header
    pub far : ring_start ≤ after.ring.evict
    pub writes : WritesHeader old new sector record { sector = sector; blocks = leading plan p.blocks; kept = staying plan p.kept }

  abbrev begun_candidate : Plan → Promise → List ℕ → Candidate
  begun_candidate plan p sector = record { sector = sector; blocks = leading plan p.blocks; kept = staying plan p.kept }

  module _ (n : ℕ) (plan : Plan) (old new : D) (cursor after : CursorState) (p : Promise) (header : DevHeader) (sector : List ℕ) (b : Begins n plan old new cursor after p header sector) where
    begun_upheld : (candidates : List Candidate) → IsUpheld after (left_by plan p candidates)
    begun_upheld candidates = taken_upheld n plan cursor after p candidates b.taken b.kept.upheld

    begun_end : cursor.ring.end ≡ after.ring.end
    begun_end = sym b.taken.numbers.end

    begun_named : IsNamed after.ring.end (begun_candidate plan p sector) header
    begun_named = upheld_named after (left_by plan p []) header sector (begun_upheld []) b.header_from b.is b.far

    begun_each : AllByRecursion (IsCandidate after.ring.end) p.candidates
    begun_each = subst (λ (e : ℕ). AllByRecursion (IsCandidate e) p.candidates) begun_end b.kept.good.each

    begun_good : AreGood after.ring.end (staying plan p.kept) (begun_candidate plan p sector ∷ p.candidates)
    begun_good = record {
      each = (inl (header, begun_named), begun_each);
      cover = (
        ([], [], sym (append-nil (staying plan p.kept))),
        all_weaker (λ (k : Candidate). Covers k.kept p.kept) (λ (k : Candidate). Covers k.kept (staying plan p.kept)) p.candidates
            (λ k c. taken_covers n plan cursor after p k.kept b.taken b.kept.upheld c) b.kept.good.cover,
      );
    }

    begun_torn : (c : List ℕ) → TornFrom (leaves old) 0 sector c → IsBacked (left_by plan p (begun_candidate plan p sector ∷ p.candidates)) c
    begun_torn =
        let up = begun_upheld [] in
        torn_header after.ring.end old new p (left_by plan p (begun_candidate plan p sector ∷ p.candidates)) sector (begun_candidate plan p sector) b.writes refl refl refl
        (blocks_behind after.ring.end (numbers_from after) (leading plan p.blocks) up.placed) (entries_behind (staying plan p.kept) (kept_inside (numbers_from after) (staying plan p.kept) b.far up.stays)) begun_each
        (λ d left. let was = b.kept.backed d left in
        (was.left, leading_all (IsHeld d) plan p.blocks was.blocks, filter_all (IsKeptIn d) (λ k. stays plan k.written) p.kept was.kept))

    pub begun_leaves : LeavesWith moment since (IsHeaderFrom after) after.ring.end old new p (leading plan p.blocks) (staying plan p.kept) (staying plan p.kept) (begun_candidate plan p sector)
    begun_leaves = record {
      header = header;
      such = b.header_from;
      named = begun_named;
      of = record { list = refl; entries = refl };
      good = begun_good;
      crash = leaves_from tells has_sectors leaves moment since 0 sector old new (LeftAmong after.ring.end (begun_candidate plan p sector ∷ p.candidates)) b.writes.wrote b.kept.sectors
          (λ c left. inr (left_among after.ring.end p.candidates c begun_each (b.kept.backed c (b.writes.plain.now_only c b.kept.sectors left)).left))
          (λ c torn. left_among after.ring.end (begun_candidate plan p sector ∷ p.candidates) c begun_good.each (begun_torn c torn).left);
    }

    pub begun_failed : after.ready ≡ false → KeepsPromise tells has_sectors leaves new after (left_by plan p (begun_candidate plan p sector ∷ p.candidates))
    begun_failed shut =
        let now = b.writes.wrote.told b.kept.image b.kept.told in
        record {
          upheld = begun_upheld (begun_candidate plan p sector ∷ p.candidates);
          sectors = subst (λ (t : Bool). IsTrue t) (sym b.writes.wrote.kind) b.kept.sectors;
          image = now.0;
          told = now.1;
          pending = tt;
          backed = λ c left. begun_torn c (b.writes.wrote.torn b.kept.sectors c left);
          good = begun_good;
          begun = λ yes. not_ready after (AllByRecursion (IsOf (leading plan p.blocks) (staying plan p.kept)) (begun_candidate plan p sector ∷ p.candidates)) shut yes;
        }

    pub begun_kept : (image : List ℕ) → tells old ≡ Some image → HasFlushed tells leaves new (put 0 sector image) → KeepsPromise tells has_sectors leaves new after (left_by plan p (begun_candidate plan p sector ∷ []))
    begun_kept image was flushed =
        let k : Candidate = begun_candidate plan p sector in
        let long = b.writes.plain.long image (b.writes.plain.told_left image was) in
        let there : first_sector (put 0 sector image) ≡ sector = header_there image sector b.writes.len long in
        record {
          upheld = begun_upheld (k ∷ []);
          sectors = subst (λ (t : Bool). IsTrue t) (sym b.writes.wrote.kind) b.kept.sectors;
          image = put 0 sector image;
          told = flushed.told;
          pending = tt;
          backed = λ c left.
              let all = begun_torn c (b.writes.wrote.torn b.kept.sectors c left) in
              let first : first_sector c ≡ sector = ap (λ (s : List ℕ). first_sector s) (flushed.only c left) ∙ there in
              record {
                left = inl (one_candidate (left_by plan p (k ∷ p.candidates)) k c first refl refl all);
                blocks = all.blocks;
                kept = all.kept;
              };
          good = record { each = (begun_good.each.0, tt); cover = (begun_good.cover.0, tt) };
          begun = λ yes. (record { list = refl; entries = refl }, tt);
        }

  -- commit: the log block is written behind the pending blocks and flushed, and then its header is written
  pub record Commits (old mid new : D) (cursor after : CursorState) (p : Promise) (v : Visit) (image bytes : List ℕ) (header : DevHeader) (sector : List ℕ) : Type 0 where
    pub kept : KeepsPromise tells has_sectors leaves old cursor p
    pub was : tells old ≡ Some image
    pub plain : IsPlain old header_len
    pub block : WritesInRing cursor cursor.ring.hand bytes
    pub len : length bytes ≡ log_len
    pub inside : cursor.ring.hand + length bytes ≤ length image
    pub aside : EntriesAside cursor.ring.hand (length bytes) p.pending
    pub held : IsHeld (put cursor.ring.hand bytes image) v
    pub first : Wrote tells has_sectors leaves moment since cursor.ring.hand bytes old mid
    pub flushed : HasFlushed tells leaves mid (put cursor.ring.hand bytes image)
    pub committed : HasCommitted v cursor after
    pub header_from : IsHeaderFrom after header
    pub is : IsHeader sector header
    pub far : ring_start ≤ after.ring.evict
    pub writes : WritesHeader mid new sector record { sector = sector; blocks = v ∷ p.blocks; kept = p.pending ++ p.kept }

  abbrev committed_candidate : Visit → Promise → List ℕ → Candidate
  committed_candidate v p sector = record { sector = sector; blocks = v ∷ p.blocks; kept = p.pending ++ p.kept }

  module _ (old mid new : D) (cursor after : CursorState) (p : Promise) (v : Visit) (image bytes : List ℕ) (header : DevHeader) (sector : List ℕ)
      (b : Commits old mid new cursor after p v image bytes header sector) where
    com_upheld : (candidates : List Candidate) → IsUpheld after (with_block v p candidates)
    com_upheld candidates = committed_upheld v cursor after p candidates b.committed b.kept.upheld

    com_named : IsNamed after.ring.end (committed_candidate v p sector) header
    com_named = upheld_named after (with_block v p []) header sector (com_upheld []) b.header_from b.is b.far

    com_each : AllByRecursion (IsCandidate after.ring.end) p.candidates
    com_each = subst (λ (e : ℕ). AllByRecursion (IsCandidate e) p.candidates) (sym b.committed.end) b.kept.good.each

    com_good : AreGood after.ring.end p.kept (committed_candidate v p sector ∷ p.candidates)
    com_good = record {
      each = (inl (header, com_named), com_each);
      cover = ((p.pending, [], ap (λ (ks : List Kept). p.pending ++ ks) (sym (append-nil p.kept)) ∙ sym (append_assoc p.pending p.kept [])), b.kept.good.cover);
    }

    mid_sectors : IsTrue (has_sectors mid)
    mid_sectors = subst (λ (t : Bool). IsTrue t) (sym b.first.kind) b.kept.sectors

    -- the one image behind the first flush
    abbrev com_image : List ℕ
    com_image = put cursor.ring.hand bytes image

    mid_backed : (d : List ℕ) → leaves mid d → IsBacked p d
    mid_backed d left = torn_in_ring old cursor p cursor.ring.hand bytes b.kept b.block d (b.first.torn b.kept.sectors d left)

    mid_pending : (d : List ℕ) → leaves mid d → AllByRecursion (IsKeptIn d) p.pending
    mid_pending d left =
        let same : b.kept.image ≡ image = some_same b.kept.image image (tells old) b.kept.told b.was in
        subst (λ (c : List ℕ). AllByRecursion (IsKeptIn c) p.pending) (sym (b.flushed.only d left))
        (all_kept_aside cursor.ring.hand (length bytes) image (put cursor.ring.hand bytes image) p.pending (put_torn cursor.ring.hand bytes image b.inside) b.aside
        (subst (λ (c : List ℕ). AllByRecursion (IsKeptIn c) p.pending) same b.kept.pending))

    mid_held : (d : List ℕ) → leaves mid d → IsHeld d v
    mid_held d left = subst (λ (c : List ℕ). IsHeld c v) (sym (b.flushed.only d left)) b.held

    com_torn : (c : List ℕ) → TornFrom (leaves mid) 0 sector c → IsBacked (with_block v p (committed_candidate v p sector ∷ p.candidates)) c
    com_torn =
        let up = com_upheld [] in
        torn_header after.ring.end mid new p (with_block v p (committed_candidate v p sector ∷ p.candidates)) sector (committed_candidate v p sector) b.writes refl refl refl
        (blocks_behind after.ring.end (numbers_from after) (v ∷ p.blocks) up.placed) (entries_behind (p.pending ++ p.kept) (kept_inside (numbers_from after) (p.pending ++ p.kept) b.far up.stays)) com_each
        (λ d left. let was = mid_backed d left in
        (was.left, (mid_held d left, was.blocks), all_append (IsKeptIn d) p.pending p.kept (mid_pending d left) was.kept))

    pub com_leaves : (Such : DevHeader → Type 0) → Such header → LeavesWith moment since Such after.ring.end old new p (v ∷ p.blocks) (p.pending ++ p.kept) p.kept (committed_candidate v p sector)
    com_leaves Such such =
        let ends : cursor.ring.end ≡ after.ring.end = sym b.committed.end in
        let all : List Candidate = committed_candidate v p sector ∷ p.candidates in
        let first : LeavesOnlyWith moment since old mid (LeftAmong after.ring.end p.candidates) =
        subst (λ (e : ℕ). LeavesOnlyWith moment since old mid (LeftAmong e p.candidates)) ends (ring_crash old mid cursor p cursor.ring.hand header_len bytes b.kept b.block b.plain b.first) in
        record {
          header = header;
          such = such;
          named = com_named;
          of = record { list = refl; entries = refl };
          good = com_good;
          crash = leaves_on tells has_sectors leaves moment since 0 sector old mid new (LeftAmong after.ring.end all)
              (leaves_wider tells has_sectors leaves moment since old mid (LeftAmong after.ring.end p.candidates) (LeftAmong after.ring.end all) (λ c among. inr among) first)
              b.writes.wrote mid_sectors
              (λ c torn. left_among after.ring.end all c com_good.each (com_torn c torn).left);
        }

    -- where the header's write failed: what was pending is forgotten
    pub com_failed : (back : CursorState) → HasForgotten cursor back → KeepsPromise tells has_sectors leaves new back (forgotten p (committed_candidate v p sector ∷ p.candidates))
    com_failed back f =
        let all : List Candidate = committed_candidate v p sector ∷ p.candidates in
        let now = b.writes.wrote.told com_image b.flushed.told in
        let ends : after.ring.end ≡ back.ring.end = b.committed.end ∙ sym f.end in
        record {
          upheld = forgotten_upheld cursor back p all f b.kept.upheld;
          sectors = subst (λ (t : Bool). IsTrue t) (sym b.writes.wrote.kind) mid_sectors;
          image = now.0;
          told = now.1;
          pending = tt;
          backed = λ c left.
              let whole = com_torn c (b.writes.wrote.torn mid_sectors c left) in
              record { left = whole.left; blocks = whole.blocks.1; kept = all_right (IsKeptIn c) p.pending p.kept whole.kept };
          good = subst (λ (e : ℕ). AreGood e p.kept all) ends com_good;
          begun = λ ready. not_ready back (AllByRecursion (IsOf p.blocks p.kept) all) f.ready ready;
        }

    -- where it was written and flushed
    pub com_kept : HasFlushed tells leaves new (put 0 sector com_image) → header_len ≤ length com_image → KeepsPromise tells has_sectors leaves new after (with_block v p (committed_candidate v p sector ∷ []))
    com_kept flushed long =
        let k : Candidate = committed_candidate v p sector in
        let there : first_sector (put 0 sector com_image) ≡ sector = header_there com_image sector b.writes.len long in
        record {
          upheld = com_upheld (k ∷ []);
          sectors = subst (λ (t : Bool). IsTrue t) (sym b.writes.wrote.kind) mid_sectors;
          image = put 0 sector com_image;
          told = flushed.told;
          pending = tt;
          backed = λ c left.
              let whole = com_torn c (b.writes.wrote.torn mid_sectors c left) in
              let first : first_sector c ≡ sector = ap (λ (s : List ℕ). first_sector s) (flushed.only c left) ∙ there in
              record {
                left = inl (one_candidate (with_block v p (k ∷ p.candidates)) k c first refl refl whole);
                blocks = whole.blocks;
                kept = whole.kept;
              };
          good = record { each = (com_good.each.0, tt); cover = (([], [], sym (append-nil (p.pending ++ p.kept))), tt) };
          begun = λ ready. (record { list = refl; entries = refl }, tt);
        }
