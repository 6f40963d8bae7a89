-- What a commit keeps of every crash, from the steps of its body.
use Rattle.std.proofs.Common.{◌≡◌, ℕ, ◌+◌, ◌<◌, ◌≤◌, ◌++◌, List, [], ◌∷◌, length, map, reverse, Bool, Option, None, Some, Result, Ok, Err, ◌⊎◌, refl, inl, inr, sym, ap, subst, ◌∙◌, arith}
use Rattle.std.specs.List.{AllByRecursion}
use Rattle.std.specs.Option.{IfSome}
use Rattle.std.specs.Result.{IsErrOf}
use Rattle.vdev_io.specs.declared.device.CacheDev.{Ghosts}
use Rattle.vdev_io.specs.Calls.{MakesAsked}
use Rattle.vdev_io.specs.Device.{IsTorn, IsWritten, put}
use Rattle.vdev_io.proofs.CallLemmas.{asked_behind}
use Rattle.blk_ptr.specs.Ptr.{sha256_of}
use Rattle.l2_log.specs.Rules.{log_len, header_len}
use Rattle.l2_log.specs.HeaderBytes.{IsHeader, SpellsHeader}
use Rattle.l2_log.specs.LogBytes.{IsLogBlock}
use Rattle.l2_log.specs.declared.entry.LogEntry.{LogEntry}
use Rattle.l2_log.specs.declared.header.DevHeader.{DevHeader}
use Rattle.l2_log.specs.declared.pointer.LogPtr.{LogPtr}
use Rattle.l2_log.specs.declared.log_block.LogBlock.{LogBlock}
use Rattle.l2_ring.specs.declared.live.Written.{Written}
use Rattle.l2_ring.specs.declared.plan.Plan.{Plan}
use Rattle.l2_ring.specs.Ring.{with_hand}
use Rattle.l2_ring.specs.Ranges.{Stays}
use Rattle.l2_dev.specs.Chain.{Visit, IsPlaced, IsLinked, bytes_at}
use Rattle.l2_dev.specs.Restoring.{written_in, firsts, found_in}
use Rattle.l2_dev.specs.Standing.{Candidate, Kept, written_of, IsRow, IsOrderly}
use Rattle.l2_dev.specs.Cursor.{CursorState, IsCursor, numbers_from}
use Rattle.l2_dev.specs.Promise.{Promise, IsUpheld, KeepsPromise, IsOf, AreGood, kept_range}
use Rattle.l2_dev.specs.PromiseLaws.{with_block, IsHeaderFrom}
use Rattle.l2_dev.proofs.PromiseLaws.{same_plan, HasCommitted}
use Rattle.l2_dev.proofs.CommitLaws.{IsNewBlock, new_block_stays}
use Rattle.l2_dev.specs.Planned.{IsBlockOf, IsHeaderWith, IsReserved, HasSettled}
use Rattle.l2_dev.specs.Steps.{Wrote, HasFlushed, HeaderWritten}
use Rattle.l2_dev.proofs.TornLaws.{put_there}
use Rattle.l2_dev.specs.Asking.{CommitAsks, LogAsks, header_calls, log_calls}
use Rattle.l2_dev.specs.Calls.{LeavesTorn, LeavesWith, LogWritten, HasCommitWritten, forgotten, IsCommitBlock, IsCommitLeft}
use Rattle.l2_log.specs.declared.pointer.LogPtr.{LogPtr}
use Rattle.l2_dev.specs.declared.fault.DevErr.{DevErr}
use Rattle.l2_dev.specs.declared.fault.DevErr.TheVariants.{DevFault, NoMemory}
use Rattle.l2_dev.specs.Promise.{IsBacked, LeftAmong, LeavesOnlyWith}
use Rattle.l2_dev.proofs.StepLaws.{left_among}
use Rattle.l2_dev.specs.Planned.{IsForgotten}
use Rattle.l2_dev.proofs.CallLaws.{IsPlain, Commits, com_leaves, com_failed, com_kept, HasForgotten, forgotten_upheld, not_ready, ring_crash, ring_forgets}
use Rattle.l2_dev.proofs.Cursors.{row_up}
use Rattle.l2_dev.proofs.Puts.{pending_aside, put_writes}
use Rattle.l2_dev.proofs.Begins.{header_evict, flushed_of}

reserved_numbers : (old new : CursorState) → IsReserved old new → numbers_from old ≡ numbers_from new
reserved_numbers old new r = same_plan (numbers_from old) (numbers_from new) (sym r.base) (sym r.evict) (sym r.top) (sym r.lap)

reserved_upheld : (old new : CursorState) (p : Promise) → IsReserved old new → IsUpheld old p → IsUpheld new p
reserved_upheld old new p f up =
    let to : numbers_from old ≡ numbers_from new = reserved_numbers old new f in
    record {
      linked = subst (λ (o : Option LogPtr). IsLinked o new.second p.blocks) (sym f.newest) (subst (λ (o : Option LogPtr). IsLinked old.newest o p.blocks) (sym f.second) up.linked);
      placed = subst (λ (e : ℕ). AllByRecursion (IsPlaced e (numbers_from new)) p.blocks) (sym f.end) (subst (λ (q : Plan). AllByRecursion (IsPlaced old.ring.end q) p.blocks) to up.placed);
      ordered = subst (λ (q : Plan). IsOrderly q p.blocks) to up.ordered;
      same = subst (λ (q : Plan). firsts (found_in q p.blocks) ≡ firsts (map written_of p.kept)) to up.same;
      stays = subst (λ (q : Plan). AllByRecursion (λ (k : Kept). Stays q (kept_range k)) p.kept) to up.stays;
      in_order = up.in_order;
      some = up.some;
      live = f.live ∙ up.live;
      pending = up.pending ∙ ap (λ (lap : ℕ). map (written_in lap) (reverse old.pending)) (sym f.lap) ∙ ap (λ (es : List LogEntry). map (written_in new.ring.lap) (reverse es)) (sym f.pending);
    }

-- the log block of the pending entries, with more room or without
pub block_of_reserved : (old new : CursorState) (bytes : List ℕ) (ptr : LogPtr) (block : LogBlock) → IsReserved old new → IsBlockOf new bytes ptr block → IsBlockOf old bytes ptr block
block_of_reserved old new bytes ptr block r of = record {
  bytes_of = of.bytes_of;
  are_bytes = of.are_bytes;
  version = of.version;
  lap = of.lap ∙ r.lap;
  prev = of.prev ∙ r.second;
  entries = of.entries ∙ r.pending;
  place = of.place ∙ r.hand;
  count = of.count ∙ ap (λ (es : List LogEntry). length es) r.pending;
  digest = of.digest;
}

pub block_to_reserved : (old new : CursorState) (bytes : List ℕ) (ptr : LogPtr) (block : LogBlock) → IsReserved old new → IsBlockOf old bytes ptr block → IsBlockOf new bytes ptr block
block_to_reserved old new bytes ptr block r of = record {
  bytes_of = of.bytes_of;
  are_bytes = of.are_bytes;
  version = of.version;
  lap = of.lap ∙ sym r.lap;
  prev = of.prev ∙ sym r.second;
  entries = of.entries ∙ sym r.pending;
  place = of.place ∙ sym r.hand;
  count = of.count ∙ ap (λ (es : List LogEntry). length es) (sym r.pending);
  digest = of.digest;
}

-- the cursor with the log block behind its pending entries
abbrev pub settled_state : CursorState → LogPtr → CursorState
settled_state cursor ptr = record {
  ring = record {
    end = cursor.ring.end;
    hand = cursor.ring.hand + log_len;
    evict = cursor.ring.evict;
    top = cursor.ring.top;
    lap = cursor.ring.lap;
    live = cursor.ring.live ++ map (written_in cursor.ring.lap) cursor.pending;
    spare = 0;
  };
  base = cursor.ring.hand + log_len;
  newest = Some ptr;
  second = cursor.newest;
  pending = [];
  ready = cursor.ready;
}

pub settled_reserved : (cursor after : CursorState) (ptr : LogPtr) → HasSettled ptr cursor after → IsReserved (settled_state cursor ptr) after
settled_reserved cursor after ptr h = record {
  end = h.end;
  hand = h.hand;
  evict = h.evict;
  top = h.top;
  lap = h.lap;
  live = h.live;
  base = h.base ∙ h.hand;
  newest = h.newest;
  second = h.second;
  pending = h.pending;
  ready = h.ready;
}

pub settled_from : (cursor mid after : CursorState) (ptr : LogPtr) → IsReserved cursor mid → HasSettled ptr mid after → HasSettled ptr cursor after
settled_from cursor mid after ptr r h = record {
  end = h.end ∙ r.end;
  hand = h.hand ∙ ap (λ (n : ℕ). n + log_len) r.hand;
  evict = h.evict ∙ r.evict;
  top = h.top ∙ r.top;
  lap = h.lap ∙ r.lap;
  base = h.base;
  live = h.live ∙ ap (λ (ws : List Written). ws ++ map (written_in mid.ring.lap) mid.pending) r.live
      ∙ ap (λ (lap : ℕ). cursor.ring.live ++ map (written_in lap) mid.pending) r.lap ∙ ap (λ (es : List LogEntry). cursor.ring.live ++ map (written_in cursor.ring.lap) es) r.pending;
  newest = h.newest;
  second = h.second ∙ r.newest;
  pending = h.pending;
  ready = h.ready ∙ r.ready;
}

commit_fresh : (cursor : CursorState) (bytes : List ℕ) (ptr : LogPtr) (block : LogBlock) → IsCursor cursor.ring cursor.base cursor.pending cursor.ready → IsBlockOf cursor bytes ptr block
    → IsNewBlock (numbers_from cursor) cursor.ring.hand record { ptr = ptr; block = block }
commit_fresh cursor bytes ptr block is of = record {
  place = of.place;
  lap = of.lap;
  start = is.from;
  row = subst (λ (lap : ℕ). IsRow cursor.base cursor.ring.hand (map (written_in lap) (reverse block.entries))) (sym of.lap)
      (subst (λ (es : List LogEntry). IsRow cursor.base cursor.ring.hand (map (written_in cursor.ring.lap) (reverse es))) (sym of.entries) is.row);
}

commit_placed : (cursor : CursorState) (bytes : List ℕ) (ptr : LogPtr) (block : LogBlock) → IsCursor cursor.ring cursor.base cursor.pending cursor.ready → 0 < length cursor.pending → IsBlockOf cursor bytes ptr block
    → IsPlaced cursor.ring.end (with_hand (numbers_from cursor) (cursor.ring.hand + log_len)) record { ptr = ptr; block = block }
commit_placed cursor bytes ptr block is some of =
    let room = is.room some in
    let evict = is.sound.evict_in.to in
    let from = is.sound.hand_in.from in
    let at = of.place in
    record {
      ring = record { aligned = rw at is.sound.hand_in.aligned; inside = record { begins = omega arith; ends = omega arith } };
      part = new_block_stays (numbers_from cursor) cursor.ring.hand (cursor.ring.hand + log_len) record { ptr = ptr; block = block } (omega arith) (commit_fresh cursor bytes ptr block is of);
      count = ap (λ (es : List LogEntry). length es) of.entries ∙ sym of.count;
    }

commit_settled : (cursor : CursorState) (bytes : List ℕ) (ptr : LogPtr) (block : LogBlock) → IsCursor cursor.ring cursor.base cursor.pending cursor.ready → 0 < length cursor.pending → IsBlockOf cursor bytes ptr block
    → HasCommitted record { ptr = ptr; block = block } cursor (settled_state cursor ptr)
commit_settled cursor bytes ptr block is some of =
    let up = row_up cursor.base cursor.ring.hand (map (written_in cursor.ring.lap) (reverse cursor.pending)) is.row in
    record {
      fresh = commit_fresh cursor bytes ptr block is of;
      ring = commit_placed cursor bytes ptr block is some of;
      entries = of.entries;
      prev = of.prev;
      further = omega arith;
      end = refl;
      hand = refl;
      evict = refl;
      top = refl;
      lap = refl;
      live = refl;
      newest = refl;
      second = refl;
      pending = refl;
    }

pub header_reserved : (old new : CursorState) (ptr : LogPtr) (header : DevHeader) → IsReserved old new → IsHeaderWith new ptr header → IsHeaderWith old ptr header
header_reserved old new ptr header r h = record {
  end = h.end ∙ r.end;
  numbers = h.numbers ∙ ap (λ (n : ℕ). with_hand (numbers_from new) (n + log_len)) r.hand ∙ ap (λ (q : Plan). with_hand q (old.ring.hand + log_len)) (sym (reserved_numbers old new r));
  newest = h.newest;
  second = h.second ∙ r.newest;
  version = h.version;
}

pub forgotten_reserved : (old mid new : CursorState) → IsReserved old mid → IsForgotten mid new → IsForgotten old new
forgotten_reserved old mid new r f = record {
  pending = f.pending;
  hand = f.hand ∙ r.base;
  end = f.end ∙ r.end;
  evict = f.evict ∙ r.evict;
  top = f.top ∙ r.top;
  lap = f.lap ∙ r.lap;
  live = f.live ∙ r.live;
  base = f.base ∙ r.base;
  newest = f.newest ∙ r.newest;
  second = f.second ∙ r.second;
  ready = f.ready;
}

-- a fact of what is told, if anything is
some_weaker : (o : Option (List ℕ)) (P Q : List ℕ → Type 0) → ((image : List ℕ) → P image → Q image) → IfSome o P → IfSome o Q
some_weaker None P Q f is = tt
some_weaker (Some image) P Q f is = f image is

-- a write that failed, over what is told
torn_told : (T E : Type 0) (at n : ℕ) (bytes : List ℕ) (o now : Option (List ℕ)) (fault : E) → length bytes ≡ n → IsWritten {T = T} {E = E} at bytes o now (Err fault) → IfSome o (λ image. LeavesTorn at n image now)
torn_told T E at n bytes None now fault len w = tt
torn_told T E at n bytes (Some image) None fault len w = absurd w
torn_told T E at n bytes (Some image) (Some left) fault len w = (left, refl, subst (λ (m : ℕ). IsTorn at m image left) len w)

pub no_refusal : (ptr : LogPtr) → IsErrOf {T = LogPtr} {E = DevErr} (Ok ptr) NoMemory → ⊥
no_refusal ptr e = cc

module _ {D : Type 0} (tells : D → Option (List ℕ)) (has_sectors : D → Bool) (leaves : D → List ℕ → Type 0) (moment : D → ℕ) (since : D → ℕ → List ℕ → Type 0) where
  pub reserved_kept : (device : D) (old new : CursorState) (p : Promise) → IsReserved old new → KeepsPromise tells has_sectors leaves device old p → KeepsPromise tells has_sectors leaves device new p
  reserved_kept device old new p r kept = record {
    upheld = reserved_upheld old new p r kept.upheld;
    sectors = kept.sectors;
    image = kept.image;
    told = kept.told;
    pending = kept.pending;
    backed = kept.backed;
    good = subst (λ (e : ℕ). AreGood e p.kept p.candidates) (sym r.end) kept.good;
    begun = λ ready. kept.begun (sym r.ready ∙ ready);
  }

  -- the log block stands flushed behind the pending blocks
  pub record HasLogged (old mid : D) (cursor : CursorState) (image bytes : List ℕ) (ptr : LogPtr) (block : LogBlock) : Type 0 where
    pub is : IsCursor cursor.ring cursor.base cursor.pending cursor.ready
    pub some : 0 < length cursor.pending
    pub plain : IsPlain tells has_sectors leaves moment since old header_len
    pub was : tells old ≡ Some image
    pub inside : cursor.ring.hand + log_len ≤ length image
    pub of : IsBlockOf cursor bytes ptr block
    pub first : Wrote tells has_sectors leaves moment since cursor.ring.hand bytes old mid
    pub flushed : HasFlushed tells leaves mid (put cursor.ring.hand bytes image)

  commits : {T E : Type 0} (old mid new : D) (cursor : CursorState) (p : Promise) (image bytes : List ℕ) (ptr : LogPtr) (block : LogBlock) (header : DevHeader) (result : Result T E) → KeepsPromise tells has_sectors leaves old cursor p
      → HasLogged old mid cursor image bytes ptr block → IsHeaderWith cursor ptr header → (w : HeaderWritten tells has_sectors leaves moment since header mid new result) → IsPlain tells has_sectors leaves moment since mid header_len
      → Commits tells has_sectors leaves moment since old mid new cursor (settled_state cursor ptr) p record { ptr = ptr; block = block } image bytes header w.sector
  commits old mid new cursor p image bytes ptr block header result kept l h w plain =
      let len : length bytes ≡ log_len = l.of.bytes_of.whole in
      let inside = l.inside in
      let room = l.is.room l.some in
      let there : bytes_at (put cursor.ring.hand bytes image) ptr.place log_len ≡ bytes =
      subst (λ (n : ℕ). bytes_at (put cursor.ring.hand bytes image) n log_len ≡ bytes) (sym l.of.place)
      (subst (λ (n : ℕ). bytes_at (put cursor.ring.hand bytes image) cursor.ring.hand n ≡ bytes) len (put_there cursor.ring.hand bytes image (omega arith))) in
      let from : IsHeaderFrom (settled_state cursor ptr) header = record { end = h.end; numbers = h.numbers; newest = h.newest; second = h.second; version = h.version } in
      record {
        kept = kept;
        was = l.was;
        plain = l.plain;
        block = put_writes cursor cursor.ring.hand bytes l.is (l.is.begun l.some) refl (omega arith);
        len = len;
        inside = omega arith;
        aside = pending_aside cursor p (length bytes) l.is kept.upheld;
        held = record {
          digest = ap (λ (bs : List ℕ). sha256_of bs) there ∙ sym l.of.digest;
          bytes = subst (λ (bs : List ℕ). IsLogBlock bs block) (sym there) l.of.bytes_of;
        };
        first = l.first;
        flushed = l.flushed;
        committed = commit_settled cursor bytes ptr block l.is l.some l.of;
        header_from = from;
        is = w.is;
        far = header_evict (settled_state cursor ptr) header from.numbers;
        writes = record { wrote = w.wrote; len = w.is.whole; is = refl; plain = plain };
      }

  commit_block : (cursor : CursorState) (bytes : List ℕ) (ptr : LogPtr) (block : LogBlock) → IsBlockOf cursor bytes ptr block → IsCommitBlock cursor record { ptr = ptr; block = block }
  commit_block cursor bytes ptr block of = record { place = of.place; entries = of.entries; prev = of.prev }

  abbrev pub LeftByCommit : D → D → CursorState → Promise → Visit → Candidate → Type 0
  LeftByCommit old new cursor p v k = LeavesWith moment since (IsHeaderWith cursor v.ptr) cursor.ring.end old new p (v ∷ p.blocks) (p.pending ++ p.kept) p.kept k

  -- the header's write failed
  pub commit_failed : {T E : Type 0} (old mid new : D) (cursor back : CursorState) (p : Promise) (image bytes : List ℕ) (ptr : LogPtr) (block : LogBlock) (header : DevHeader) (result : Result T E) → KeepsPromise tells has_sectors leaves old cursor p
      → HasLogged old mid cursor image bytes ptr block → IsHeaderWith cursor ptr header → HeaderWritten tells has_sectors leaves moment since header mid new result → IsPlain tells has_sectors leaves moment since mid header_len → HasForgotten cursor back
      → (v : Visit) × (k : Candidate) × IsCommitBlock cursor v × LeftByCommit old new cursor p v k × KeepsPromise tells has_sectors leaves new back (forgotten p (k ∷ p.candidates))
  commit_failed old mid new cursor back p image bytes ptr block header result kept l h w plain f =
      let b = commits old mid new cursor p image bytes ptr block header result kept l h w plain in
      let v : Visit = record { ptr = ptr; block = block } in (
        v,
        record { sector = w.sector; blocks = v ∷ p.blocks; kept = p.pending ++ p.kept },
        commit_block cursor bytes ptr block l.of,
        com_leaves tells has_sectors leaves moment since old mid new cursor (settled_state cursor ptr) p v image bytes header w.sector b (IsHeaderWith cursor ptr) h,
        com_failed tells has_sectors leaves moment since old mid new cursor (settled_state cursor ptr) p v image bytes header w.sector b back f,
      )

  -- the header was written and flushed
  pub commit_kept : {T E : Type 0} (old mid new : D) (cursor after : CursorState) (p : Promise) (image bytes : List ℕ) (ptr : LogPtr) (block : LogBlock) (header : DevHeader) (result : Result T E) → KeepsPromise tells has_sectors leaves old cursor p
      → HasLogged old mid cursor image bytes ptr block → IsHeaderWith cursor ptr header → (w : HeaderWritten tells has_sectors leaves moment since header mid new result) → IsPlain tells has_sectors leaves moment since mid header_len
      → IfSome (tells mid) (λ image. HasFlushed tells leaves new (put 0 w.sector image)) → HasSettled ptr cursor after
      → (v : Visit) × (k : Candidate) × IsCommitBlock cursor v × LeftByCommit old new cursor p v k × KeepsPromise tells has_sectors leaves new after (with_block v p (k ∷ []))
  commit_kept old mid new cursor after p image bytes ptr block header result kept l h w plain done settled =
      let b = commits old mid new cursor p image bytes ptr block header result kept l h w plain in
      let v : Visit = record { ptr = ptr; block = block } in
      let one : List ℕ = put cursor.ring.hand bytes image in
      let flushed = flushed_of tells has_sectors leaves moment since (tells mid) one (λ image. HasFlushed tells leaves new (put 0 w.sector image)) l.flushed.told done in
      let long = plain.long one (plain.told_left one l.flushed.told) in (
        v,
        record { sector = w.sector; blocks = v ∷ p.blocks; kept = p.pending ++ p.kept },
        commit_block cursor bytes ptr block l.of,
        com_leaves tells has_sectors leaves moment since old mid new cursor (settled_state cursor ptr) p v image bytes header w.sector b (IsHeaderWith cursor ptr) h,
        reserved_kept new (settled_state cursor ptr) after (with_block v p (record { sector = w.sector; blocks = v ∷ p.blocks; kept = p.pending ++ p.kept } ∷ [])) (settled_reserved cursor after ptr settled)
            (com_kept tells has_sectors leaves moment since old mid new cursor (settled_state cursor ptr) p v image bytes header w.sector b flushed long),
      )

  -- nothing was written
  unwritten : (old : D) (cursor back : CursorState) (p : Promise) → KeepsPromise tells has_sectors leaves old cursor p → IsPlain tells has_sectors leaves moment since old header_len → HasForgotten cursor back
      → LeavesOnlyWith moment since old old (LeftAmong back.ring.end p.candidates) × KeepsPromise tells has_sectors leaves old back (forgotten p p.candidates)
  unwritten old cursor back p kept plain f =
      let good : AreGood back.ring.end p.kept p.candidates = subst (λ (e : ℕ). AreGood e p.kept p.candidates) (sym f.end) kept.good in (
        record {
          later = omega arith;
          each = λ c left. left_among back.ring.end p.candidates c good.each (kept.backed c (plain.now_only c kept.sectors left)).left;
          before = λ t c le left. inl left;
        },
        record {
          upheld = forgotten_upheld tells has_sectors leaves moment since cursor back p p.candidates f kept.upheld;
          sectors = kept.sectors;
          image = kept.image;
          told = kept.told;
          pending = tt;
          backed = λ c left. (λ (b : IsBacked p c). let r : IsBacked (forgotten p p.candidates) c = record { left = b.left; blocks = b.blocks; kept = b.kept } in r) (kept.backed c left);
          good = good;
          begun = λ ready. not_ready tells has_sectors leaves moment since back (AllByRecursion (IsOf p.blocks p.kept) p.candidates) f.ready ready;
        },
      )

  -- the log block was not written, or not flushed
  pub log_failed : (old new : D) (cursor back : CursorState) (p : Promise) (result : Result LogPtr DevErr) → KeepsPromise tells has_sectors leaves old cursor p → IsCursor cursor.ring cursor.base cursor.pending cursor.ready → 0 < length cursor.pending
      → IsPlain tells has_sectors leaves moment since old header_len → HasForgotten cursor back → LogWritten tells has_sectors leaves moment since cursor old new result
      → LeavesOnlyWith moment since old new (LeftAmong back.ring.end p.candidates) × KeepsPromise tells has_sectors leaves new back (forgotten p p.candidates)
  log_failed old new cursor back p result kept is some plain f (inl same) =
      subst (λ (d : D). LeavesOnlyWith moment since old d (LeftAmong back.ring.end p.candidates) × KeepsPromise tells has_sectors leaves d back (forgotten p p.candidates)) (sym same.0) (unwritten old cursor back p kept plain f)
  log_failed old new cursor back p result kept is some plain f (inr l) =
      let len : length l.0 ≡ log_len = l.3.bytes_of.whole in
      let room = is.room some in
      let writes = put_writes cursor cursor.ring.hand l.0 is (is.begun some) refl (omega arith) in (
        subst (λ (e : ℕ). LeavesOnlyWith moment since old new (LeftAmong e p.candidates)) (sym f.end) (ring_crash tells has_sectors leaves moment since old new cursor p cursor.ring.hand header_len l.0 kept writes plain l.4),
        ring_forgets tells has_sectors leaves moment since old new cursor back p cursor.ring.hand l.0 kept writes l.4 f,
      )

  -- the log block stands there
  pub logged_of : (old mid : D) (cursor : CursorState) (image : List ℕ) (ptr : LogPtr) → IsCursor cursor.ring cursor.base cursor.pending cursor.ready → 0 < length cursor.pending → IsPlain tells has_sectors leaves moment since old header_len
      → tells old ≡ Some image → cursor.ring.hand + log_len ≤ length image → LogWritten tells has_sectors leaves moment since cursor old mid (Ok ptr) → (bytes : List ℕ) × (block : LogBlock) × HasLogged old mid cursor image bytes ptr block
  logged_of old mid cursor image ptr is some plain was inside (inl same) = absurd (no_refusal ptr same.1)
  logged_of old mid cursor image ptr is some plain was inside (inr l) =
      let same : l.2 ≡ ptr = sym l.5.0 in (
        l.0,
        l.1,
        record {
          is = is;
          some = some;
          plain = plain;
          was = was;
          inside = inside;
          of = subst (λ (q : LogPtr). IsBlockOf cursor l.0 q l.1) same l.3;
          first = l.4;
          flushed = flushed_of tells has_sectors leaves moment since (tells old) image (λ image. HasFlushed tells leaves mid (put cursor.ring.hand l.0 image)) was l.5.1;
        },
      )

  told_if : (bytes : List ℕ) (block : LogBlock) (sector : List ℕ) (header : DevHeader) (mid new : D) (cursor : CursorState) (ptr : LogPtr) (o : Option (List ℕ)) → IsBlockOf cursor bytes ptr block → IsHeader sector header → IsHeaderWith cursor ptr header
      → IfSome o (λ image. HasFlushed tells leaves mid (put cursor.ring.hand bytes image)) → IfSome (tells mid) (λ image. HasFlushed tells leaves new (put 0 sector image)) → HasCommitWritten o (tells new) cursor ptr
  told_if bytes block sector header mid new cursor ptr None of is with logged done = (bytes, block, sector, header, of, is, with, tt)
  told_if bytes block sector header mid new cursor ptr (Some image) of is with logged done =
      let one : List ℕ = put cursor.ring.hand bytes image in
      let flushed = flushed_of tells has_sectors leaves moment since (tells mid) one (λ image. HasFlushed tells leaves new (put 0 sector image)) logged.told done in
      (bytes, block, sector, header, of, is, with, flushed.told)

  -- what the device tells after the log block and its header were written
  pub commit_written : {T E : Type 0} (old mid new : D) (cursor : CursorState) (ptr : LogPtr) (header : DevHeader) (result : Result T E) → LogWritten tells has_sectors leaves moment since cursor old mid (Ok ptr) → IsHeaderWith cursor ptr header
      → (w : HeaderWritten tells has_sectors leaves moment since header mid new result) → IfSome (tells mid) (λ image. HasFlushed tells leaves new (put 0 w.sector image)) → HasCommitWritten (tells old) (tells new) cursor ptr
  commit_written old mid new cursor ptr header result (inl same) with w done = absurd (no_refusal ptr same.1)
  commit_written old mid new cursor ptr header result (inr l) with w done =
      let same : l.2 ≡ ptr = sym l.5.0 in
      told_if l.0 l.1 w.sector header mid new cursor ptr (tells old) (subst (λ (q : LogPtr). IsBlockOf cursor l.0 q l.1) same l.3) w.is with l.5.1 done

  -- the log block's write or its flush failed: what the device tells
  pub log_left : (old new : D) (cursor : CursorState) (fault : DevErr) → LogWritten tells has_sectors leaves moment since cursor old new (Err fault) → fault ≡ DevFault → IsCommitLeft (tells old) (tells new) cursor
  log_left old new cursor fault (inl same) is = let none = same.1 in absurd (cc)
  log_left old new cursor fault (inr l) is = (
    l.0,
    l.1,
    l.2,
    l.3,
    some_weaker (tells old) (λ image. LeavesTorn cursor.ring.hand log_len image (tells new))
        (λ image. LeavesTorn cursor.ring.hand log_len image (tells new) ⊎ LeavesTorn 0 header_len (put cursor.ring.hand l.0 image) (tells new)) (λ image torn. inl torn)
        (torn_told LogPtr DevErr cursor.ring.hand log_len l.0 (tells old) (tells new) fault l.3.bytes_of.whole l.6),
  )

  -- memory was refused: nothing was written
  pub log_refused : (old new : D) (cursor : CursorState) (fault : DevErr) → LogWritten tells has_sectors leaves moment since cursor old new (Err fault) → fault ≡ NoMemory → new ≡ old
  log_refused old new cursor fault (inl same) is = same.0
  log_refused old new cursor fault (inr l) is = let failed = l.5 in absurd (cc)

  -- the header's write or its flush failed
  pub header_left : {T E : Type 0} (old mid new : D) (cursor : CursorState) (ptr : LogPtr) (header : DevHeader) (fault : E) → LogWritten tells has_sectors leaves moment since cursor old mid (Ok ptr)
      → HeaderWritten {T = T} tells has_sectors leaves moment since header mid new (Err fault) → IsCommitLeft (tells old) (tells new) cursor
  header_left old mid new cursor ptr header fault (inl same) w = absurd (no_refusal ptr same.1)
  header_left {T} {E} old mid new cursor ptr header fault (inr l) w = (
    l.0,
    l.1,
    l.2,
    l.3,
    some_weaker (tells old) (λ image. HasFlushed tells leaves mid (put cursor.ring.hand l.0 image))
        (λ image. LeavesTorn cursor.ring.hand log_len image (tells new) ⊎ LeavesTorn 0 header_len (put cursor.ring.hand l.0 image) (tells new))
        (λ image flushed. inr (torn_told T E 0 header_len w.sector (Some (put cursor.ring.hand l.0 image)) (tells new) fault w.is.whole
        (subst (λ (o : Option (List ℕ)). IsWritten {T = T} {E = E} 0 w.sector o (tells new) (Err fault)) flushed.told w.image)))
        l.5.1,
  )

fault_of : (T : Type 0) (e f : DevErr) → IsErrOf {T = T} {E = DevErr} (Err e) f → e ≡ f
fault_of T e f is = cc

err_of : (T : Type 0) (e f : DevErr) → e ≡ f → IsErrOf {T = T} {E = DevErr} (Err e) f
err_of T e f same = cc

-- it is no refusal of memory, whatever would have been answered
pub no_refusal_of : (T U : Type 0) (e : DevErr) → (¬ IsErrOf {T = T} {E = DevErr} (Err e) NoMemory) → ¬ IsErrOf {T = U} {E = DevErr} (Err e) NoMemory
no_refusal_of T U e other = λ is. other (err_of T e NoMemory (fault_of U e NoMemory is))

-- which calls of the device a commit made
module _ {D : Type 0} (device : Ghosts D) where
  pub log_asks_err : (T : Type 0) (old new : D) (cursor : CursorState) (fault : DevErr) → (¬ IsErrOf {T = T} {E = DevErr} (Err fault) NoMemory) → LogAsks device cursor old new (let r : Result LogPtr DevErr = Err fault in r)
      → CommitAsks device cursor old new (let r : Result T DevErr = Err fault in r)
  log_asks_err T old new cursor DevFault other l = (l.0, l.1, l.2, l.3, inl (refl, l.5))
  log_asks_err T old new cursor NoMemory other l = absurd (other refl)

  -- and then the header's write and its flush
  pub header_asks : {T : Type 0} (old mid new : D) (cursor : CursorState) (ptr : LogPtr) (header : DevHeader) (result : Result T DevErr) → LogAsks device cursor old mid (let r : Result LogPtr DevErr = Ok ptr in r)
      → IsHeaderWith cursor ptr header → (sector : List ℕ) → SpellsHeader sector header → MakesAsked device (header_calls sector) mid new result → CommitAsks device cursor old new result
  header_asks old mid new cursor ptr header result l with sector is made = (
    l.0,
    l.1,
    l.2,
    l.3,
    inr (
      sector,
      header,
      is,
      subst (λ (p : LogPtr). IsHeaderWith cursor p header) l.4 with,
      asked_behind device (log_calls cursor.ring.hand l.0) (header_calls sector) old mid new result l.5 made,
    ),
  )
