-- Two starts of a device over the same bytes, of whose reads the same failed, find the same: the same log blocks are walked, the same keys are restored, and the ring goes on from alike cursors (l2arc_rebuild of arc.c).
use Rattle.std.proofs.Common.{◌≡◌, ◌≢◌, ◌⊎◌, ℕ, suc, ◌+◌, ◌*◌, ◌<◌, ◌≤◌, List, [], ◌∷◌, ◌++◌, length, map, reverse, Option, None, Some, inl, inr, refl, sym, ap, ◌∙◌, subst, arith}
use Rattle.std.specs.List.{AllByRecursion}
use Rattle.vdev_io.specs.Calls.{Call, DeviceCall, Failed, Gave}
use Rattle.l2_log.specs.Rules.{log_len}
use Rattle.l2_log.specs.LogBytes.{IsLogBlock}
use Rattle.l2_log.specs.Values.{same_header_of_bytes, same_log_block_of_bytes}
use Rattle.l2_log.specs.declared.fault.LogFault.{LogFault}
use Rattle.l2_log.specs.declared.header.DevHeader.{DevHeader}
use Rattle.l2_log.specs.declared.pointer.LogPtr.{LogPtr}
use Rattle.l2_ring.specs.Ring.{numbers_of}
use Rattle.arc_core.specs.declared.served.Restored.{Restored}
use Rattle.l2_dev.specs.declared.stop.Stop.{Stop}
use Rattle.l2_dev.specs.declared.stop.Stop.TheVariants as stop
use Rattle.l2_dev.specs.Asking.{header_read, last_read, unread_answer, visit_read, walk_reads}
use Rattle.l2_dev.specs.Chain.{IsBlockFault, IsHeld, IsInPart, IsInRing, IsLinked, IsPassed, IsReached, IsStop, Visit, bytes_at, numbers_in, pointer_behind, ring_len}
use Rattle.l2_dev.specs.Cursor.{CursorState}
use Rattle.l2_dev.specs.Rebuilding.{IsAlong, IsStarted}
use Rattle.l2_dev.specs.Restoring.{IsUnread, IsWalked, first_sector, firsts, found_in, restored_from}
use Rattle.l2_dev.proofs.ChainLaws.{begins_with}
use Rattle.l2_dev.proofs.RebuildLaws.{not_refused}
use Rattle.l2_feed.specs.Alike.{AreCursorsAlike}
use Rattle.l2_feed.specs.Plain.{answers_of}
use Rattle.run_laws.specs.Alike.{AreAlikeSoFar}
use Rattle.run_laws.proofs.Refusals.{block-fault-one, refused-one}
use Rattle.run_laws.proofs.Rows.{gave-not-failed, so-far-sym}

-- ---- where a walk ends

pub too-long : (a b : ℕ) → b < a → a ≤ b → ⊥
too-long a b long short = omega (arith, long, short)

same-some : (p q : LogPtr) (o : Option LogPtr) → o ≡ Some p → o ≡ Some q → p ≡ q
same-some p q o a b = let e : ◌≡◌ {A = Option LogPtr} (Some p) (Some q) = sym a ∙ b in cc

no-some : (p : LogPtr) → ◌≡◌ {A = Option LogPtr} None (Some p) → ⊥
no-some p is = cc

module _ (image : List ℕ) (header : DevHeader) (walked : ℕ) where
  none-stops : (why : Stop) → IsStop image header walked None why → why ≡ stop.Zero
  none-stops stop.Zero s = refl
  none-stops (stop.Outside place) s = absurd (no-some s.0 s.1)
  none-stops (stop.Evicted place) s = absurd (no-some s.0 s.1)
  none-stops (stop.Length bytes) s = absurd (no-some s.0 s.1)
  none-stops (stop.Block f) s = absurd (no-some s.0 s.1)
  none-stops stop.DevFault s = absurd (no-some s.0 s.1)
  none-stops (stop.Short len) s = absurd s
  none-stops (stop.Header f) s = absurd s

  -- at this pointer
  abbrev StopsAt : LogPtr → Stop → Type 0
  StopsAt ptr stop.Zero = ⊥
  StopsAt ptr (stop.Outside place) = (place ≡ ptr.place) × ¬ IsInRing header.end ptr
  StopsAt ptr (stop.Evicted place) = (place ≡ ptr.place) × IsInRing header.end ptr × ¬ IsInPart (numbers_in header) ptr
  StopsAt ptr (stop.Length bytes) = (bytes ≡ walked) × IsInRing header.end ptr × IsInPart (numbers_in header) ptr × (ring_len header < walked + log_len)
  StopsAt ptr (stop.Block f) = IsReached header walked ptr × IsBlockFault header ptr (bytes_at image ptr.place log_len) f
  StopsAt ptr stop.DevFault = IsReached header walked ptr
  StopsAt ptr (stop.Short len) = ⊥
  StopsAt ptr (stop.Header f) = ⊥

  stops-at : (ptr : LogPtr) (why : Stop) → IsStop image header walked (Some ptr) why → StopsAt ptr why
  stops-at ptr stop.Zero s = no-some ptr (sym s)
  stops-at ptr (stop.Outside place) s = subst (λ (p : LogPtr). StopsAt p (stop.Outside place)) (same-some s.0 ptr (Some ptr) s.1 refl) (s.2, s.3)
  stops-at ptr (stop.Evicted place) s = subst (λ (p : LogPtr). StopsAt p (stop.Evicted place)) (same-some s.0 ptr (Some ptr) s.1 refl) (s.2, s.3, s.4)
  stops-at ptr (stop.Length bytes) s = subst (λ (p : LogPtr). StopsAt p (stop.Length bytes)) (same-some s.0 ptr (Some ptr) s.1 refl) (s.2, s.3, s.4, s.5)
  stops-at ptr (stop.Block f) s = subst (λ (p : LogPtr). StopsAt p (stop.Block f)) (same-some s.0 ptr (Some ptr) s.1 refl) (s.2, s.3)
  stops-at ptr stop.DevFault s = subst (λ (p : LogPtr). StopsAt p stop.DevFault) (same-some s.0 ptr (Some ptr) s.1 refl) s.2
  stops-at ptr (stop.Short len) s = s
  stops-at ptr (stop.Header f) s = s

  module _ (ptr : LogPtr) where
    abbrev AtRows : Stop → Stop → (us vs : List Call) → Type 0
    AtRows why other us vs = AreAlikeSoFar (answers_of (last_read why (Some ptr)) ++ us) (answers_of (last_read other (Some ptr)) ++ vs)

    at-one : (why other : Stop) → StopsAt ptr why → StopsAt ptr other → (us vs : List Call) → AtRows why other us vs → other ≡ why
    at-one stop.Zero other x y us vs rows = absurd x
    at-one (stop.Outside p) stop.Zero x y us vs rows = absurd y
    at-one (stop.Outside p) (stop.Outside q) x y us vs rows = ap (λ (k : ℕ). stop.Outside k) (y.0 ∙ sym x.0)
    at-one (stop.Outside p) (stop.Evicted q) x y us vs rows = absurd (x.1 y.1)
    at-one (stop.Outside p) (stop.Length m) x y us vs rows = absurd (x.1 y.1)
    at-one (stop.Outside p) (stop.Block h) x y us vs rows = absurd (x.1 y.0.ring)
    at-one (stop.Outside p) stop.DevFault x y us vs rows = absurd (x.1 y.ring)
    at-one (stop.Outside p) (stop.Short len) x y us vs rows = absurd y
    at-one (stop.Outside p) (stop.Header h) x y us vs rows = absurd y
    at-one (stop.Evicted p) stop.Zero x y us vs rows = absurd y
    at-one (stop.Evicted p) (stop.Outside q) x y us vs rows = absurd (y.1 x.1)
    at-one (stop.Evicted p) (stop.Evicted q) x y us vs rows = ap (λ (k : ℕ). stop.Evicted k) (y.0 ∙ sym x.0)
    at-one (stop.Evicted p) (stop.Length m) x y us vs rows = absurd (x.2 y.2)
    at-one (stop.Evicted p) (stop.Block h) x y us vs rows = absurd (x.2 y.0.part)
    at-one (stop.Evicted p) stop.DevFault x y us vs rows = absurd (x.2 y.part)
    at-one (stop.Evicted p) (stop.Short len) x y us vs rows = absurd y
    at-one (stop.Evicted p) (stop.Header h) x y us vs rows = absurd y
    at-one (stop.Length n) stop.Zero x y us vs rows = absurd y
    at-one (stop.Length n) (stop.Outside q) x y us vs rows = absurd (y.1 x.1)
    at-one (stop.Length n) (stop.Evicted q) x y us vs rows = absurd (y.2 x.2)
    at-one (stop.Length n) (stop.Length m) x y us vs rows = ap (λ (k : ℕ). stop.Length k) (y.0 ∙ sym x.0)
    at-one (stop.Length n) (stop.Block h) x y us vs rows = absurd (too-long (walked + log_len) (ring_len header) x.3 y.0.short)
    at-one (stop.Length n) stop.DevFault x y us vs rows = absurd (too-long (walked + log_len) (ring_len header) x.3 y.short)
    at-one (stop.Length n) (stop.Short len) x y us vs rows = absurd y
    at-one (stop.Length n) (stop.Header h) x y us vs rows = absurd y
    at-one (stop.Block f) stop.Zero x y us vs rows = absurd y
    at-one (stop.Block f) (stop.Outside q) x y us vs rows = absurd (y.1 x.0.ring)
    at-one (stop.Block f) (stop.Evicted q) x y us vs rows = absurd (y.2 x.0.part)
    at-one (stop.Block f) (stop.Length m) x y us vs rows = absurd (too-long (walked + log_len) (ring_len header) y.3 x.0.short)
    at-one (stop.Block f) (stop.Block h) x y us vs rows = ap (λ (e : LogFault). stop.Block e) (block-fault-one header ptr (bytes_at image ptr.place log_len) f h x.1 y.1)
    at-one (stop.Block f) stop.DevFault x y us vs rows = absurd (gave-not-failed rows.0)
    at-one (stop.Block f) (stop.Short len) x y us vs rows = absurd y
    at-one (stop.Block f) (stop.Header h) x y us vs rows = absurd y
    at-one stop.DevFault stop.Zero x y us vs rows = absurd y
    at-one stop.DevFault (stop.Outside q) x y us vs rows = absurd (y.1 x.ring)
    at-one stop.DevFault (stop.Evicted q) x y us vs rows = absurd (y.2 x.part)
    at-one stop.DevFault (stop.Length m) x y us vs rows = absurd (too-long (walked + log_len) (ring_len header) y.3 x.short)
    at-one stop.DevFault (stop.Block h) x y us vs rows = absurd (gave-not-failed (sym rows.0))
    at-one stop.DevFault stop.DevFault x y us vs rows = refl
    at-one stop.DevFault (stop.Short len) x y us vs rows = absurd y
    at-one stop.DevFault (stop.Header h) x y us vs rows = absurd y
    at-one (stop.Short len) other x y us vs rows = absurd x
    at-one (stop.Header f) other x y us vs rows = absurd x

  -- two walks that stand at one pointer and go no further end for one reason, where the read of the log block failed in both or in none
  stop-one : (pointer : Option LogPtr) (why other : Stop) → IsStop image header walked pointer why → IsStop image header walked pointer other → (us vs : List Call)
      → AreAlikeSoFar (answers_of (last_read why pointer) ++ us) (answers_of (last_read other pointer) ++ vs) → other ≡ why
  stop-one None why other x y us vs rows = none-stops other y ∙ sym (none-stops why x)
  stop-one (Some ptr) why other x y us vs rows = at-one ptr why other (stops-at ptr why x) (stops-at ptr other y) us vs rows

-- ---- walks

failed-or-not : (why : Stop) → (why ≡ stop.DevFault) ⊎ (why ≢ stop.DevFault)
failed-or-not stop.DevFault = inl refl
failed-or-not stop.Zero = inr (λ is. let clash : stop.Zero ≡ stop.DevFault = is in cc)
failed-or-not (stop.Outside place) = inr (λ is. let clash : stop.Outside place ≡ stop.DevFault = is in cc)
failed-or-not (stop.Evicted place) = inr (λ is. let clash : stop.Evicted place ≡ stop.DevFault = is in cc)
failed-or-not (stop.Length bytes) = inr (λ is. let clash : stop.Length bytes ≡ stop.DevFault = is in cc)
failed-or-not (stop.Block f) = inr (λ is. let clash : stop.Block f ≡ stop.DevFault = is in cc)
failed-or-not (stop.Short len) = inr (λ is. let clash : stop.Short len ≡ stop.DevFault = is in cc)
failed-or-not (stop.Header f) = inr (λ is. let clash : stop.Header f ≡ stop.DevFault = is in cc)

-- of what is so of a pointer and of how the walk ended
its-row : (a : Option LogPtr) (ptr : LogPtr) (why : Stop) (us more : List Call) → a ≡ Some ptr → why ≡ stop.DevFault → AreAlikeSoFar (answers_of (last_read why a) ++ us) (Gave ∷ more) → ⊥
its-row a ptr why us more at is rows =
    let row : AreAlikeSoFar (Failed ∷ us) (Gave ∷ more) = subst (λ (z : Stop × Option LogPtr). AreAlikeSoFar (answers_of (last_read z.0 z.1) ++ us) (Gave ∷ more)) (λ i. (is i, at i)) rows in
    gave-not-failed (sym row.0)

same-visit : (image : List ℕ) (pointer : Option LogPtr) (v w : Visit) → pointer ≡ Some v.ptr → pointer ≡ Some w.ptr → IsHeld image v → IsHeld image w → w ≡ v
same-visit image pointer v w a b x y =
    let ptr : w.ptr ≡ v.ptr = same-some w.ptr v.ptr pointer b a in
    let there : IsLogBlock (bytes_at image v.ptr.place log_len) w.block = subst (λ (p : LogPtr). IsLogBlock (bytes_at image p.place log_len) w.block) ptr y.bytes in
    let block : w.block ≡ v.block = same_log_block_of_bytes (bytes_at image v.ptr.place log_len) w.block v.block there x.bytes in
    λ i. record { ptr = ptr i; block = block i }

module _ (image : List ℕ) (header : DevHeader) where
  -- the walk visited these log blocks from these pointers on, behind so many bytes of log blocks, and ended for this reason
  record WalksOn (walked : ℕ) (a b : Option LogPtr) (vs : List Visit) (why : Stop) : Type 0 where
    pub linked : IsLinked a b vs
    pub passed : AllByRecursion (IsPassed header) vs
    pub held : AllByRecursion (IsHeld image) vs
    pub short : walked + log_len * length vs ≤ ring_len header
    pub stops : IsStop image header (walked + log_len * length vs) (pointer_behind a b vs) why

  abbrev rows_of : (a b : Option LogPtr) → List Visit → Stop → List Call
  rows_of a b vs why = answers_of (map visit_read vs ++ last_read why (pointer_behind a b vs))

  -- where one visits a log block the other does not end
  no-stop : (walked : ℕ) (a b : Option LogPtr) (w : Visit) (ws : List Visit) (why other : Stop) (us more : List Call) → WalksOn walked a b [] why → WalksOn walked a b (w ∷ ws) other
      → AreAlikeSoFar (rows_of a b [] why ++ us) (Gave ∷ more) → ⊥
  no-stop walked a b w ws why other us more x y rows = elim (failed-or-not why) [
    | inl failed ↦ its-row a w.ptr why us more y.linked.0 failed rows
    | inr well ↦
        let room : walked + log_len * suc (length ws) ≤ ring_len header = y.short in
        let here : IsStop image header walked a why = subst (λ (n : ℕ). IsStop image header n a why) (let e : walked + log_len * 0 ≡ walked = omega arith in e) x.stops in
        let begins = begins_with image header walked a b (w ∷ []) [] why (y.linked.0, tt) (y.passed.0, tt) (y.held.0, tt) tt tt (omega (arith, room)) well here in
        let clash : ◌≡◌ {A = List Visit} [] (w ∷ begins.0) = begins.1 in
        cc
  ]

  next-walk : (walked : ℕ) (a b : Option LogPtr) (v : Visit) (vs : List Visit) (why : Stop) → WalksOn walked a b (v ∷ vs) why → WalksOn (walked + log_len) b v.block.prev vs why
  next-walk walked a b v vs why x =
      let more : walked + log_len * length (v ∷ vs) ≡ walked + log_len + log_len * length vs = omega arith in
      record {
        linked = x.linked.1;
        passed = x.passed.1;
        held = x.held.1;
        short = subst (λ (n : ℕ). n ≤ ring_len header) more x.short;
        stops = subst (λ (n : ℕ). IsStop image header n (pointer_behind b v.block.prev vs) why) more x.stops;
      }

  -- both visit the same log blocks and end for one reason
  walks-one : (walked : ℕ) (a b : Option LogPtr) (vs ws : List Visit) (why other : Stop) (us others : List Call) → WalksOn walked a b vs why → WalksOn walked a b ws other
      → AreAlikeSoFar (rows_of a b vs why ++ us) (rows_of a b ws other ++ others) → (ws ≡ vs) × (other ≡ why)
  walks-one walked a b [] [] why other us others x y rows = (refl, stop-one image header (walked + log_len * 0) a why other x.stops y.stops us others rows)
  walks-one walked a b [] (w ∷ ws) why other us others x y rows = absurd (no-stop walked a b w ws why other us (rows_of b w.block.prev ws other ++ others) x y rows)
  walks-one walked a b (v ∷ vs) [] why other us others x y rows =
      absurd (no-stop walked a b v vs other why others (rows_of b v.block.prev vs why ++ us) y x (so-far-sym (rows_of a b (v ∷ vs) why ++ us) (rows_of a b [] other ++ others) rows))
  walks-one walked a b (v ∷ vs) (w ∷ ws) why other us others x y rows =
      let same : w ≡ v = same-visit image a v w x.linked.0 y.linked.0 x.held.0 y.held.0 in
      let its : WalksOn (walked + log_len) b v.block.prev ws other = subst (λ (u : Visit). WalksOn (walked + log_len) b u.block.prev ws other) same (next-walk walked a b w ws other y) in
      let its_rows : AreAlikeSoFar (rows_of b v.block.prev vs why ++ us) (rows_of b v.block.prev ws other ++ others) = subst (λ (u : Visit). AreAlikeSoFar (rows_of b v.block.prev vs why ++ us) (rows_of b u.block.prev ws other ++ others)) same rows.1 in
      let rest = walks-one (walked + log_len) b v.block.prev vs ws why other us others (next-walk walked a b v vs why x) its its_rows in
      (λ i. same i ∷ rest.0 i, rest.1)

-- ---- starts

cursors-one : (one other : CursorState) → other.ring.end ≡ one.ring.end → numbers_of other.ring ≡ numbers_of one.ring → other.ring.live ≡ one.ring.live → other.newest ≡ one.newest → other.second ≡ one.second → AreCursorsAlike one other
cursors-one one other end numbers live newest second =
    record { ring = λ i. record { end = end i; hand = (numbers i).hand; evict = (numbers i).evict; top = (numbers i).top; lap = (numbers i).lap; live = live i; spare = 0 }; newest = newest; second = second }

-- what two starts come to
pub record AreStartsOne (calls others : List DeviceCall) (one other : CursorState) (restored other_restored : List Restored) (why other_why : Stop) : Type 0 where
  pub reads : others ≡ calls
  pub cursors : AreCursorsAlike one other
  pub list : other_restored ≡ restored
  pub stop : other_why ≡ why

module _ (end : ℕ) (image : List ℕ) where
  unread-one : (why other : Stop) → IsUnread end image why → IsUnread end image other → (us vs : List Call) → AreAlikeSoFar (unread_answer why ∷ us) (unread_answer other ∷ vs) → other ≡ why
  unread-one why other (inl x) (inl y) us vs rows = y ∙ sym x
  unread-one why other (inl x) (inr y) us vs rows =
      let row : Failed ≡ Gave = ap unread_answer (sym x) ∙ (rows.0 ∙ ap unread_answer y.1) in
      absurd (gave-not-failed (sym row))
  unread-one why other (inr x) (inl y) us vs rows =
      let row : Gave ≡ Failed = ap unread_answer (sym x.1) ∙ (rows.0 ∙ ap unread_answer y) in
      absurd (gave-not-failed row)
  unread-one why other (inr x) (inr y) us vs rows = y.1 ∙ (ap (λ (f : LogFault). stop.Header f) (refused-one end (first_sector image) x.0 y.0 x.2 y.2) ∙ sym x.1)

  -- a header that was read was not refused, and its read did not fail
  no-header : (why : Stop) (header : DevHeader) (visits : List Visit) (restored : List Restored) (other : Stop) → IsUnread end image why → IsWalked end image header visits restored other → unread_answer why ≡ Gave → ⊥
  no-header why header visits restored other (inl x) walked row = let clash : Gave ≡ Failed = sym row ∙ ap unread_answer x in gave-not-failed clash
  no-header why header visits restored other (inr x) walked row = not_refused end (first_sector image) header x.0 walked.named x.2

  walked-on : (header : DevHeader) (visits : List Visit) (restored : List Restored) (why : Stop) → IsWalked end image header visits restored why → WalksOn image header 0 header.newest header.second visits why
  walked-on header visits restored why x =
      let none : log_len * length visits ≡ 0 + log_len * length visits = omega arith in
      record {
        linked = x.chain.linked;
        passed = x.chain.passed;
        held = x.chain.held;
        short = subst (λ (n : ℕ). n ≤ ring_len header) none x.chain.short;
        stops = subst (λ (n : ℕ). IsStop image header n (pointer_behind header.newest header.second visits) why) none x.chain.stops;
      }

  module _ (calls others : List DeviceCall) (one other : CursorState) (restored other_restored : List Restored) (why other_why : Stop) (us vs : List Call) where
    abbrev Rows : Type 0
    Rows = AreAlikeSoFar (answers_of calls ++ us) (answers_of others ++ vs)

    abbrev AreOne : Type 0
    AreOne = AreStartsOne calls others one other restored other_restored why other_why

    both-walked : (header : DevHeader) (visits ws : List Visit) → IsWalked end image header visits restored why → IsAlong header visits one → calls ≡ header_read Gave ∷ walk_reads header visits why
        → IsWalked end image header ws other_restored other_why → IsAlong header ws other → others ≡ header_read Gave ∷ walk_reads header ws other_why → Rows → AreOne
    both-walked header visits ws x along reads y other_along other_reads rows =
        let row : AreAlikeSoFar (Gave ∷ (rows_of image header header.newest header.second visits why ++ us)) (Gave ∷ (rows_of image header header.newest header.second ws other_why ++ vs)) =
        subst (λ (z : List DeviceCall × List DeviceCall). AreAlikeSoFar (answers_of z.0 ++ us) (answers_of z.1 ++ vs)) (λ i. (reads i, other_reads i)) rows in
        let same = walks-one image header 0 header.newest header.second visits ws why other_why us vs (walked-on header visits restored why x) (walked-on header ws other_restored other_why y) row.1 in
        record {
          reads = other_reads ∙ ((λ i. header_read Gave ∷ walk_reads header (same.0 i) (same.1 i)) ∙ sym reads);
          cursors = cursors-one one other (other_along.end ∙ sym along.end) (other_along.numbers ∙ sym along.numbers)
              (other_along.live ∙ (ap (λ (zs : List Visit). reverse (firsts (found_in (numbers_in header) zs))) same.0 ∙ sym along.live)) (other_along.newest ∙ sym along.newest) (other_along.second ∙ sym along.second);
          list = y.list ∙ (ap (λ (zs : List Visit). restored_from (numbers_in header) zs) same.0 ∙ sym x.list);
          stop = same.1;
        }

    pub starts-one : IsStarted end image calls one restored why → IsStarted end image others other other_restored other_why → Rows → AreOne
    starts-one (inl x) (inl y) rows =
        let row : AreAlikeSoFar (unread_answer why ∷ us) (unread_answer other_why ∷ vs) = subst (λ (z : List DeviceCall × List DeviceCall). AreAlikeSoFar (answers_of z.0 ++ us) (answers_of z.1 ++ vs)) (λ i. (x.3 i, y.3 i)) rows in
        let same : other_why ≡ why = unread-one why other_why x.0 y.0 us vs row in
        record {
          reads = y.3 ∙ ((λ i. header_read (unread_answer (same i)) ∷ []) ∙ sym x.3);
          cursors = cursors-one one other (y.1.ends ∙ sym x.1.ends) (y.1.numbers ∙ sym x.1.numbers) (y.1.live ∙ sym x.1.live) (y.1.newest ∙ sym x.1.newest) (y.1.second ∙ sym x.1.second);
          list = y.2 ∙ sym x.2;
          stop = same;
        }
    starts-one (inl x) (inr y) rows =
        let row : AreAlikeSoFar (unread_answer why ∷ us) (Gave ∷ (answers_of (walk_reads y.0 y.1 other_why) ++ vs)) = subst (λ (z : List DeviceCall × List DeviceCall). AreAlikeSoFar (answers_of z.0 ++ us) (answers_of z.1 ++ vs)) (λ i. (x.3 i, y.4 i)) rows in
        absurd (no-header why y.0 y.1 other_restored other_why x.0 y.2 row.0)
    starts-one (inr x) (inl y) rows =
        let row : AreAlikeSoFar (Gave ∷ (answers_of (walk_reads x.0 x.1 why) ++ us)) (unread_answer other_why ∷ vs) = subst (λ (z : List DeviceCall × List DeviceCall). AreAlikeSoFar (answers_of z.0 ++ us) (answers_of z.1 ++ vs)) (λ i. (x.4 i, y.3 i)) rows in
        absurd (no-header other_why x.0 x.1 restored why y.0 x.2 (sym row.0))
    starts-one (inr x) (inr y) rows =
        let header : y.0 ≡ x.0 = same_header_of_bytes (first_sector image) y.0 x.0 y.2.named.bytes x.2.named.bytes in
        subst
        (λ (h : DevHeader). IsWalked end image h y.1 other_restored other_why → IsAlong h y.1 other → others ≡ header_read Gave ∷ walk_reads h y.1 other_why → AreOne)
        (sym header)
        (λ walked along reads. both-walked x.0 x.1 y.1 x.2 x.3 x.4 walked along reads rows)
        y.2 y.3 y.4
