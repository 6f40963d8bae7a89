-- The blocks one after another: what is written so far, and what is left.
use Rattle.std.proofs.Common.{◌≡◌, ◌≢◌, ◌==◌, ℕ, zero, suc, ◌+◌, ◌%◌, ◌<◌, ◌≤◌, Bool, true, false, ◌&&◌, List, [], ◌∷◌, ◌++◌, length, drop, slice_get, slice_index_or, slice_set, Option, Some, None, Ok, Err, refl, sym, ap, ◌∙◌, subst, inl, inr, ⊎_elim, eq-eqb, eqb-true, arith, length-append, if◌then◌else◌}
use Rattle.std.specs.List.{AllByRecursion}
use Rattle.std.specs.Option.{option_map_or}
use Rattle.std.proofs.lemmas.List.{append-nil, append_assoc, length-set, get_or_default, get_or-set_same, get_or-set_other}
use Rattle.std.proofs.lemmas.Bool.Decides.{nat_tests}
use Rattle.blk_ptr.specs.Size.{IsBlockSize, sector}
use Rattle.vdev_io.specs.declared.pool.Pool.{Ghosts}
use Rattle.arc_table.specs.Cache.{Cache}
use Rattle.dbuf_state.specs.CellLog.{CellLog}
use Rattle.dbuf_state.specs.Dbufs.{dbuf_at, dbuf_oid, is_dirty, synced_to, with_dbuf}
use Rattle.dbuf_state.specs.Oids.{oid_eq}
use Rattle.dbuf_state.specs.declared.dbuf.Dbuf.{Dbuf}
use Rattle.dbuf_state.specs.declared.oid.Oid.{Oid}
use Rattle.dbuf_state.proofs.CellLemmas.{oid_eq-sym}
use Rattle.dbuf_state.proofs.IndexLemmas.{bool_cases}
use Rattle.dbuf_cells.specs.Turns.{OnHeap, PartyPlace}
use Rattle.dbuf_cells.specs.declared.kept.Kept.{Kept}
use Rattle.txg_sync.specs.InHand.{AreDueIn, HasTakenAll, InSync, IsDueIn}
use Rattle.txg_sync.specs.Items.{AreApart, SyncItem, at_place, bytes_of_due, dirty_bytes_at, due_eq, items_from, need_of, tells_written, written_in, written_over, none_held, ptr_at}
use Rattle.txg_sync.specs.Syncing.{IsUnharmed, Looked, Same, TellsTorn}
use Rattle.txg_sync.specs.Writing.{AltersCell, AnswersDues, IsSyncedTo, RefusesBlock, StopsIn, WritesBlock, item_in}
use Rattle.txg_sync.specs.declared.due.Due.{Due}
use Rattle.txg_sync.proofs.Gathering.{apart-first, apart-rest, apart-before, due-same}
use Rattle.turn_table.specs.Board.{IsAmong}
use Rattle.arc_table.specs.Geometry.{IsCell}
use Rattle.vdev_io.specs.Faults.{CountsIoFault, CountsOne, counted_more, sum_of_counts}
use Rattle.vdev_io.specs.declared.fault.IoFault.{IoFault}
use Rattle.vdev_io.specs.declared.fault.IoFault.TheVariants as io
use Rattle.dbuf_cells.specs.InHand.{IsRoomier}
use Rattle.txg_sync.proofs.Hand.{among-below, sync-more, sync-stopped}
use Rattle.txg_sync.proofs.Steps.{Grows, looked-grows, looked-stays, Remains}
use Rattle.dbuf_cells.specs.Kept.{is_held}

-- ---- one block more at the end

length-more : (dues : List Due) (due : Due) → length (dues ++ due ∷ []) ≡ suc (length dues)
length-more dues due = let n = length-append dues (due ∷ []) in omega arith

pub need-more : (cells : List OnHeap) (dues : List Due) (due : Due) → need_of cells (dues ++ due ∷ []) ≡ need_of cells dues + length (bytes_of_due cells due)
need-more cells [] due = let b = length (bytes_of_due cells due) in let e : b + 0 ≡ 0 + b = omega arith in e
need-more cells (x ∷ xs) due =
    let a = need-more cells xs due in
    let b = length (bytes_of_due cells x) in
    ap (λ (n : ℕ). b + n) a ∙ (let e : b + (need_of cells xs + length (bytes_of_due cells due)) ≡ (b + need_of cells xs) + length (bytes_of_due cells due) = omega arith in e)

pub items-more : (held : Due → Bool) (group place : ℕ) (cells : List OnHeap) (dues : List Due) (due : Due) → items_from held group place cells (dues ++ due ∷ []) ≡ items_from held group place cells dues ++ at_place held group (place + need_of cells dues) cells due ∷ []
items-more held group place cells [] due = ap (λ (n : ℕ). at_place held group n cells due ∷ []) (let e : place ≡ place + 0 = omega arith in e)
items-more held group place cells (x ∷ xs) due =
    let b = length (bytes_of_due cells x) in
    ap (λ (l : List SyncItem). at_place held group place cells x ∷ l) (items-more held group (place + b) cells xs due
    ∙ ap (λ (n : ℕ). items_from held group (place + b) cells xs ++ at_place held group n cells due ∷ []) (let e : (place + b) + need_of cells xs ≡ place + (b + need_of cells xs) = omega arith in e))

over-more : (xs : List SyncItem) (x : SyncItem) (image : List ℕ) → written_over (xs ++ x ∷ []) image ≡ written_over (x ∷ []) (written_over xs image)
over-more [] x image = refl
over-more (y ∷ ys) x image = over-more ys x _

pub told-more : (xs : List SyncItem) (x : SyncItem) (told : Option (List ℕ)) → tells_written (xs ++ x ∷ []) told ≡ tells_written (x ∷ []) (tells_written xs told)
told-more xs x None = refl
told-more xs x (Some image) = ap (λ (l : List ℕ). let v : Option (List ℕ) = Some l in v) (over-more xs x image)

-- ---- the bytes of a block

get-there : {X : Type 0} (xs : List X) (i : ℕ) (d : X) → i < length xs → slice_get xs i ≡ Some (slice_index_or xs i d)
get-there [] i d h = absurd (omega arith)
get-there (x ∷ xs) zero d h = refl
get-there (x ∷ xs) (suc i) d h = get-there xs i d (omega arith)

pub bytes-there : (cells : List OnHeap) (due : Due) (d : OnHeap) → due.cell < length cells → bytes_of_due cells due ≡ dirty_bytes_at due.at (slice_index_or cells due.cell d).value.dbufs
bytes-there cells due d h = ap (λ (o : Option OnHeap). option_map_or (λ (c : OnHeap). dirty_bytes_at due.at c.value.dbufs) o []) (get-there cells due.cell d h)

-- ---- which dbufs keep a hold

-- as it was but for one block
abbrev but_for : Due → Bool → (Due → Bool) → Due → Bool
but_for due h held x = if due_eq due x then h else held x

but-it : (due : Due) (h : Bool) (held : Due → Bool) → but_for due h held due ≡ h
but-it due h held = let same : due_eq due due ≡ true = due-same due in rw same refl

-- the other blocks are written as they were
items-but : (due : Due) (h : Bool) (held : Due → Bool) (group place : ℕ) (cells : List OnHeap) (dues : List Due) → AllByRecursion (λ other. due_eq due other ≡ false) dues
    → items_from held group place cells dues ≡ items_from (but_for due h held) group place cells dues
items-but due h held group place cells [] apart = refl
items-but due h held group place cells (x ∷ xs) apart =
    let same : held x ≡ but_for due h held x = let far : due_eq due x ≡ false = apart.0 in rw far refl in
    ap (λ (b : Bool). let y : SyncItem = record { due = x; bytes = bytes_of_due cells x; ptr = ptr_at group place (bytes_of_due cells x); held = b } in y ∷ items_from held group (place + length (bytes_of_due cells x)) cells xs) same
    ∙ ap (λ (l : List SyncItem). at_place (but_for due h held) group place cells x ∷ l) (items-but due h held group (place + length (bytes_of_due cells x)) cells xs apart.1)

-- as it is written
pub item-there : (held : Due → Bool) (h : Bool) (group place : ℕ) (cells nows : List OnHeap) (due : Due) (d : OnHeap) → h ≡ held due → due.cell < length nows → bytes_of_due nows due ≡ bytes_of_due cells due
    → item_in group place due.cell due.at (slice_index_or nows due.cell d).value h ≡ at_place held group place cells due
item-there held h group place cells nows due d says within same =
    ap (λ (bytes : List ℕ). let x : SyncItem = record { due = due; bytes = bytes; ptr = ptr_at group place bytes; held = h } in x) (sym (bytes-there nows due d within) ∙ same)
    ∙ ap (λ (b : Bool). let x : SyncItem = record { due = due; bytes = bytes_of_due cells due; ptr = ptr_at group place (bytes_of_due cells due); held = b } in x) says

-- ---- the blocks that are left

-- another block of the cell
found-else : (at other : Oid) (f : Dbuf Kept → Dbuf Kept) → ((d : Dbuf Kept) → dbuf_oid (f d) ≡ dbuf_oid d) → (ds : List (Dbuf Kept)) → ((d : Dbuf Kept) → oid_eq at d.at ≡ true → oid_eq other d.at ≡ false)
    → dbuf_at other (with_dbuf at f ds) ≡ dbuf_at other ds
found-else at other f same [] apart = refl
found-else at other f same (d ∷ ds) apart = elim (bool_cases (oid_eq at d.at)) [
  | inl here ↦ let far = apart d here in let far-now : oid_eq other (f d).at ≡ false = ap (oid_eq other) (same d) ∙ far in rw (here, far, far-now) refl
  | inr far ↦ elim (bool_cases (oid_eq other d.at)) [
    | inl mine ↦ rw (far, mine) refl
    | inr none ↦ rw (far, none) (found-else at other f same ds apart)
  ]
]

pub oid_eq-is : (x y : Oid) → oid_eq x y ≡ true → x ≡ y
oid_eq-is x y e = grind (arith, nat_tests)

pub else-found : (at other : Oid) (f : Dbuf Kept → Dbuf Kept) → ((d : Dbuf Kept) → dbuf_oid (f d) ≡ dbuf_oid d) → oid_eq at other ≡ false → (ds : List (Dbuf Kept)) → dbuf_at other (with_dbuf at f ds) ≡ dbuf_at other ds
else-found at other f same far ds = found-else at other f same ds (λ d here. ap (oid_eq other) (sym (oid_eq-is at d.at here)) ∙ (oid_eq-sym other at ∙ far))

only-first : (a b : Bool) → (a && b) ≡ false → b ≡ true → a ≡ false
only-first true true h e = h
only-first true false h e = absurd (let clash : false ≡ true = e in cc)
only-first false b h e = refl

module _ (nows news : List OnHeap) (due : Due) (cell : OnHeap) (within : due.cell < length nows) (news_are : news ≡ slice_set nows due.cell cell) (f : Dbuf Kept → Dbuf Kept) (same : (d : Dbuf Kept) → dbuf_oid (f d) ≡ dbuf_oid d)
    (dbufs : cell.value.dbufs ≡ with_dbuf due.at f (slice_index_or nows due.cell cell).value.dbufs) where
  -- what another block's dbuf is
  same-dbuf : (other : Due) (d : OnHeap) → due_eq due other ≡ false → other.cell < length nows
      → dbuf_at other.at (slice_index_or news other.cell d).value.dbufs ≡ dbuf_at other.at (slice_index_or nows other.cell d).value.dbufs
  same-dbuf other d apart there = elim (bool_cases (due.cell == other.cell)) [
    | inl is ↦
        let here : due.cell ≡ other.cell = eqb-true due.cell other.cell is in
        let far : oid_eq due.at other.at ≡ false = only-first (oid_eq due.at other.at) (due.cell == other.cell) apart is in
        subst (λ (i : ℕ). dbuf_at other.at (slice_index_or news i d).value.dbufs ≡ dbuf_at other.at (slice_index_or nows i d).value.dbufs) here
        (ap (λ (l : List OnHeap). dbuf_at other.at (slice_index_or l due.cell d).value.dbufs) news_are
        ∙ (ap (λ (c : OnHeap). dbuf_at other.at c.value.dbufs) (get_or-set_same nows due.cell cell d within)
        ∙ (ap (dbuf_at other.at) dbufs
        ∙ (else-found due.at other.at f same far (slice_index_or nows due.cell cell).value.dbufs
        ∙ ap (λ (c : OnHeap). dbuf_at other.at c.value.dbufs) (get_or_default nows due.cell cell d within)))))
    | inr far ↦
        let apart : other.cell ≢ due.cell = λ e. let c = eq-eqb due.cell other.cell (sym e) in cc in
        ap (λ (l : List OnHeap). dbuf_at other.at (slice_index_or l other.cell d).value.dbufs) news_are
        ∙ ap (λ (c : OnHeap). dbuf_at other.at c.value.dbufs) (get_or-set_other nows due.cell other.cell cell d apart)
  ]

  same-length : length news ≡ length nows
  same-length = ap (λ (l : List OnHeap). length l) news_are ∙ length-set nows due.cell cell

  pub same-bytes : (other : Due) → due_eq due other ≡ false → other.cell < length nows → bytes_of_due news other ≡ bytes_of_due nows other
  same-bytes other apart there =
      bytes-there news other cell (let a = same-length in omega arith)
      ∙ (ap (λ (o : Option (Dbuf Kept)). option_map_or (λ (d : Dbuf Kept). written_in d.content) o []) (same-dbuf other cell apart there) ∙ sym (bytes-there nows other cell there))

  pub due-still : (other : Due) → due_eq due other ≡ false → IsDueIn nows other → IsDueIn news other
  due-still other apart h = record {
    inside = let a = same-length in let b = h.inside in omega arith;
    dirty = λ d. ap (λ (o : Option (Dbuf Kept)). option_map_or is_dirty o false) (same-dbuf other d apart h.inside) ∙ h.dirty d;
    sized = subst (λ (l : List ℕ). IsBlockSize (length l)) (sym (same-bytes other apart h.inside)) h.sized;
  }

  pub dues-still : (others : List Due) → AllByRecursion (λ other. due_eq due other ≡ false) others → AreDueIn nows others → AreDueIn news others
  dues-still [] apart h = tt
  dues-still (o ∷ os) apart h = (due-still o apart.0 h.0, dues-still os apart.1 h.1)

  pub bytes-still : (cells : List OnHeap) (others : List Due) → AllByRecursion (λ other. due_eq due other ≡ false) others → AreDueIn nows others → AllByRecursion (λ other. bytes_of_due nows other ≡ bytes_of_due cells other) others
      → AllByRecursion (λ other. bytes_of_due news other ≡ bytes_of_due cells other) others
  bytes-still cells [] apart h were = tt
  bytes-still cells (o ∷ os) apart h were = (same-bytes o apart.0 h.0.inside ∙ were.0, bytes-still cells os apart.1 h.1 were.1)

-- ---- the loop

-- So far these were written, and no other: the next one goes to this place.
pub record HasWritten {P : Type 0} (pool : Ghosts P) (cache : Cache) (group tick next : ℕ) (cells nows : List OnHeap) (dues : List Due) (index : ℕ) (before now : P) (p q : PartyPlace) (place : ℕ) : Type 0 where
  pub done : List Due
  pub whole : dues ≡ done ++ drop index dues
  pub behind : place ≡ next + need_of cells done
  pub aligned : place % sector ≡ 0
  pub fits : place + need_of cells (drop index dues) ≤ pool.size before
  pub held : Due → Bool
  pub sync : InSync cache tick cells nows p q (items_from held group next cells done) Same
  pub told : pool.told now ≡ tells_written (items_from held group next cells done) (pool.told before)
  pub outside : IsUnharmed pool before now
  pub others : pool.other_calls now ≡ counted_more (length done) (pool.other_calls before)
  pub left : AreDueIn nows (drop index dues)
  pub apart : AreApart (drop index dues)
  pub once : AreApart dues
  pub same : AllByRecursion (λ due. bytes_of_due nows due ≡ bytes_of_due cells due) (drop index dues)

all-same : (cells : List OnHeap) (dues : List Due) → AllByRecursion (λ due. bytes_of_due cells due ≡ bytes_of_due cells due) dues
all-same cells [] = tt
all-same cells (due ∷ dues) = (refl, all-same cells dues)

module _ {P : Type 0} (pool : Ghosts P) (cache : Cache) (group tick next : ℕ) (cells : List OnHeap) (dues : List Due) (before : P) (p : PartyPlace) where
  -- nothing was written yet
  pub begins-writing : HasTakenAll cache cells p → AreDueIn cells dues → AreApart dues → next % sector ≡ 0 → next + need_of cells dues ≤ pool.size before
      → HasWritten pool cache group tick next cells cells dues 0 before before p p next
  begins-writing taken due apart aligned fits = record {
    done = [];
    whole = refl;
    behind = (let e : next ≡ next + 0 = omega arith in e);
    aligned = aligned;
    fits = fits;
    held = none_held;
    sync = record { reached = p; inserts = refl; besides = refl; holding = taken.holding; count = refl; cells = taken.cells };
    told = untouched (pool.told before);
    outside = record { size = refl; reads = refl; faults = refl };
    others = refl;
    left = due;
    apart = apart;
    once = apart;
    same = all-same cells dues;
  }
    where
      untouched : (told : Option (List ℕ)) → told ≡ tells_written [] told
      untouched None = refl
      untouched (Some image) = refl

  module _ (nows news : List OnHeap) (index place size : ℕ) (now later : P) (q r : PartyPlace) (due : Due) (h : HasWritten pool cache group tick next cells nows dues index before now p q place) (here : drop index dues ≡ due ∷ drop (suc index) dues)
      (all : length cells ≡ cache.config.cells) where
    first : IsDueIn nows due
    first = (subst (AreDueIn nows) here h.left).0

    within : due.cell < length cells
    within = let a = first.inside in let b = h.sync.count in omega arith

    bytes-first : bytes_of_due nows due ≡ bytes_of_due cells due
    bytes-first = (subst (AllByRecursion (λ d. bytes_of_due nows d ≡ bytes_of_due cells d)) here h.same).0

    -- the place of this one
    pub item-here : (held : Due → Bool) (b : Bool) → b ≡ held due → (cell : OnHeap) → item_in group place due.cell due.at (slice_index_or nows due.cell cell).value b ≡ at_place held group (next + need_of cells h.done) cells due
    item-here held b says cell = item-there held b group place cells nows due cell says first.inside bytes-first ∙ ap (λ (n : ℕ). at_place held group n cells due) h.behind

    -- one more was written
    pub writes-on : (a : AltersCell due.cell nows news (λ old new. WritesBlock cache.config group tick place due.cell due.at old new (pool.told now) (pool.told later) q r size)) → IsUnharmed pool now later → pool.other_calls later ≡ sum_of_counts (pool.other_calls now) 1
        → HasWritten pool cache group tick next cells news dues (suc index) before later p r (place + size)
    writes-on a unharmed counted = record {
      done = h.done ++ due ∷ [];
      whole = h.whole ∙ (ap (λ (l : List Due). h.done ++ l) here ∙ sym (append_assoc h.done (due ∷ []) (drop (suc index) dues)));
      behind = ap (λ (n : ℕ). n + size) h.behind ∙ (ap (λ (n : ℕ). (next + need_of cells h.done) + n) sized ∙ (let e : (next + need_of cells h.done) + length (bytes_of_due cells due) ≡ next + (need_of cells h.done + length (bytes_of_due cells due)) = omega arith in e)
          ∙ ap (λ (n : ℕ). next + n) (sym (need-more cells h.done due)));
      aligned = let b = first.sized.0 in let c = h.aligned in let d = bytes-first in let e = sized in multiples place size h.aligned (subst (λ (n : ℕ). n % sector ≡ 0) (ap (λ (l : List ℕ). length l) bytes-first ∙ sym sized) b);
      fits = let e = ap (need_of cells) here in let f = h.fits in let s = sized in omega arith;
      held = but_for due (is_held a.does.kept) h.held;
      sync = subst (λ (zs : List SyncItem). InSync cache tick cells news p r zs Same) items-now
          (sync-more cache tick cells nows news p q r (items_from h.held group next cells h.done) h.sync all due.cell a.cell within a.news_are group place due.at (pool.told now) (pool.told later) size a.does (first.dirty a.cell));
      told = a.does.told_is ∙ (ap (λ (t : Option (List ℕ)). tells_written (item_in group place due.cell due.at (slice_index_or nows due.cell a.cell).value (is_held a.does.kept) ∷ []) t) h.told
          ∙ (sym (told-more (items_from h.held group next cells h.done) (item_in group place due.cell due.at (slice_index_or nows due.cell a.cell).value (is_held a.does.kept)) (pool.told before))
          ∙ ap (λ (zs : List SyncItem). tells_written zs (pool.told before)) items-now));
      outside = record { size = unharmed.size ∙ h.outside.size; reads = unharmed.reads ∙ h.outside.reads; faults = unharmed.faults ∙ h.outside.faults };
      others = counted ∙ (ap (λ (n : ℕ). sum_of_counts n 1) h.others ∙ ap (λ (n : ℕ). counted_more n (pool.other_calls before)) (sym (length-more h.done due)));
      left = dues-still nows news due a.cell first.inside a.news_are f (λ d. refl) dbufs-are (drop (suc index) dues) apart-here (subst (AreDueIn nows) here h.left).1;
      apart = apart-rest due (drop (suc index) dues) (subst AreApart here h.apart);
      once = h.once;
      same = bytes-still nows news due a.cell first.inside a.news_are f (λ d. refl) dbufs-are cells (drop (suc index) dues) apart-here (subst (AreDueIn nows) here h.left).1 (subst (AllByRecursion (λ d. bytes_of_due nows d ≡ bytes_of_due cells d)) here h.same).1;
    }
      where
        before-it : AllByRecursion (λ other. due_eq due other ≡ false) h.done
        before-it = apart-before due h.done (drop (suc index) dues) (subst AreApart (h.whole ∙ ap (λ (l : List Due). h.done ++ l) here) h.once)

        items-now : items_from h.held group next cells h.done ++ item_in group place due.cell due.at (slice_index_or nows due.cell a.cell).value (is_held a.does.kept) ∷ []
            ≡ items_from (but_for due (is_held a.does.kept) h.held) group next cells (h.done ++ due ∷ [])
        items-now =
            ap (λ (x : SyncItem). items_from h.held group next cells h.done ++ x ∷ []) (item-here (but_for due (is_held a.does.kept) h.held) (is_held a.does.kept) (sym (but-it due (is_held a.does.kept) h.held)) a.cell)
            ∙ (ap (λ (l : List SyncItem). l ++ at_place (but_for due (is_held a.does.kept) h.held) group (next + need_of cells h.done) cells due ∷ []) (items-but due (is_held a.does.kept) h.held group next cells h.done before-it)
            ∙ sym (items-more (but_for due (is_held a.does.kept) h.held) group next cells h.done due))

        s : IsSyncedTo q.number due.at (item_in group place due.cell due.at (slice_index_or nows due.cell a.cell).value (is_held a.does.kept)).ptr a.does.kept (slice_index_or nows due.cell a.cell).value a.cell.value
        s = a.does.synced

        f : Dbuf Kept → Dbuf Kept
        f = synced_to (item_in group place due.cell due.at (slice_index_or nows due.cell a.cell).value (is_held a.does.kept)).ptr a.does.kept

        dbufs-are : a.cell.value.dbufs ≡ with_dbuf due.at f (slice_index_or nows due.cell a.cell).value.dbufs
        dbufs-are = ap (λ (c : CellLog Kept). c.dbufs) s.noted_is ∙ ap (λ (c : CellLog Kept). with_dbuf due.at f c.dbufs) s.made

        sized : size ≡ length (bytes_of_due cells due)
        sized = a.does.size_is ∙ ap (λ (l : List ℕ). length l) (sym (bytes-there nows due a.cell first.inside) ∙ bytes-first)

        apart-here : AllByRecursion (λ other. due_eq due other ≡ false) (drop (suc index) dues)
        apart-here = apart-first due (drop (suc index) dues) (subst AreApart here h.apart)

        multiples : (x y : ℕ) → x % sector ≡ 0 → y % sector ≡ 0 → (x + y) % sector ≡ 0
        multiples x y hx hy = omega arith

    -- its cell is in the party's hands
    pub cell-here : IsCell cache.config due.cell × IsAmong due.cell q.held
    cell-here = (subst (λ (n : ℕ). due.cell < n) all within, subst (IsAmong due.cell) (sym h.sync.holding.held) (among-below (length cells) due.cell within))

    -- there is room for it
    pub place-most : AltersCell due.cell nows news (λ old new. WritesBlock cache.config group tick place due.cell due.at old new (pool.told now) (pool.told later) q r size) → place + size ≤ pool.size before
    place-most a =
        let e = ap (need_of cells) here in
        let f = h.fits in
        let s : size ≡ length (bytes_of_due cells due) = a.does.size_is ∙ ap (λ (l : List ℕ). length l) (sym (bytes-there nows due a.cell first.inside) ∙ bytes-first) in
        omega arith

    -- its write stopped
    module _ (a-cell : OnHeap) (news_are : news ≡ slice_set nows due.cell a-cell) (made : IsRoomier (slice_index_or nows due.cell a-cell).value a-cell.value) where
      stopped : (Told : SyncItem → Option (List ℕ) → Type 0) (Besides : SyncItem → PartyPlace → PartyPlace → Type 0) → Remains q r → ((j : ℕ) → IsCell cache.config j → IsAmong j q.held → Grows j [] q r)
          → Besides (item_in group place due.cell due.at (slice_index_or nows due.cell a-cell).value false) q r → Told (item_in group place due.cell due.at (slice_index_or nows due.cell a-cell).value false) (pool.told now)
          → StopsIn pool cache group tick next cells news dues before later p r Told Besides
      stopped Told Besides stays grows besides told = record {
        done = h.done;
        due = due;
        rest = drop (suc index) dues;
        whole = h.whole ∙ ap (λ (l : List Due). h.done ++ l) here;
        held = h.held;
        sync = subst (λ (x : SyncItem). InSync cache tick cells news p r (items_from h.held group next cells h.done) (Besides x)) (item-here none_held false refl a-cell)
            (sync-stopped cache tick cells nows news p q r (items_from h.held group next cells h.done) h.sync all due.cell a-cell within news_are (Besides (item_in group place due.cell due.at (slice_index_or nows due.cell a-cell).value false)) made stays grows besides);
        told = subst (λ (x : SyncItem). Told x (tells_written (items_from h.held group next cells h.done) (pool.told before))) (item-here none_held false refl a-cell)
            (subst (Told (item_in group place due.cell due.at (slice_index_or nows due.cell a-cell).value false)) h.told told);
      }

      none-stays : r ≡ q → Remains q r
      none-stays e = subst (Remains q) (sym e) record { stays = record { table = refl; parties = refl; number = refl; joined = refl; held = refl; about = refl }; owned = refl; claims = refl }

      none-grows : r ≡ q → (j : ℕ) → IsCell cache.config j → IsAmong j q.held → Grows j [] q r
      none-grows e j in_range among = subst (Grows j [] q) (sym e) record { recorded = refl; listed = refl }

      pub stops-here : (why : IoFault) → RefusesBlock cache.config (item_in group place due.cell due.at (slice_index_or nows due.cell a-cell).value false) (pool.told now) (pool.told later) q r why
          → pool.size later ≡ pool.size now → pool.reads later ≡ pool.reads now → CountsIoFault {T = ℕ} (pool.faults now) (pool.faults later) (Err why)
          → (why ≡ io.Failed → pool.other_calls later ≡ sum_of_counts (pool.other_calls now) 1) → AnswersDues pool cache group tick next cells news dues before later p r (Err why)
      unfolding stopped
      stops-here io.Failed f size reads counts asked = (
        stopped (λ x old. TellsTorn x old (pool.told later)) (λ x. Same) (none-stays f.0) (none-grows f.0) f.0 f.1,
        record { size = size ∙ h.outside.size; reads = reads ∙ h.outside.reads; faults = subst (λ (n : ℕ). CountsOne n (pool.faults later)) h.outside.faults counts },
        asked refl ∙ ap (λ (n : ℕ). sum_of_counts n 1) h.others,
      )
      stops-here io.NoMemory f size reads counts asked = (
        ⊎_elim (λ e. inl (stopped (λ x old. pool.told later ≡ old) (λ x. Same) (none-stays e.0) (none-grows e.0) e.0 e.1))
            (λ e. inr (stopped (λ x old. pool.told later ≡ tells_written (x ∷ []) old) (Looked cache.config) (looked-stays cache p (length cells) q r h.sync.holding _ e.0) (λ j in_range among. looked-grows cache p (length cells) q r h.sync.holding _ e.0 j in_range among) e.0 e.1)) f,
        record { size = size ∙ h.outside.size; reads = reads ∙ h.outside.reads; faults = counts ∙ h.outside.faults },
      )

  -- all were written
  pub wrote-all : (nows : List OnHeap) (index place : ℕ) (now : P) (q : PartyPlace) → HasWritten pool cache group tick next cells nows dues index before now p q place → drop index dues ≡ [] → AnswersDues pool cache group tick next cells nows dues before now p q (Ok place)
  wrote-all nows index place now q h none =
      let whole : h.done ≡ dues = sym (h.whole ∙ (ap (λ (l : List Due). h.done ++ l) none ∙ append-nil h.done)) in
      record {
        behind = h.behind ∙ ap (λ (ds : List Due). next + need_of cells ds) whole;
        held = h.held;
        sync = subst (λ (ds : List Due). InSync cache tick cells nows p q (items_from h.held group next cells ds) Same) whole h.sync;
        told = h.told ∙ ap (λ (ds : List Due). tells_written (items_from h.held group next cells ds) (pool.told before)) whole;
        outside = h.outside;
        others = h.others ∙ ap (λ (ds : List Due). counted_more (length ds) (pool.other_calls before)) whole;
      }
