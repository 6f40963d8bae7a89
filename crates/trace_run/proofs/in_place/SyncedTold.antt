-- Several callers: as a group begins, what each sync before it wrote can be read in what the pool tells then.
use Rattle.std.proofs.Common.{◌≡◌, ◌⊎◌, ℕ, zero, suc, ◌+◌, ◌%◌, ◌<◌, ◌≤◌, true, false, List, [], ◌∷◌, ◌++◌, length, length-append, take, Option, Some, None, IfSome, refl, sym, ap, ◌∙◌, subst, inl, inr, arith, append-nil, append_assoc}
use Rattle.std.specs.Prelude.{slice_get}
use Rattle.std.specs.List.{AllByRecursion}
use Rattle.std.specs.Option.{option_map_or}
use Rattle.std.proofs.lemmas.List.Elements.{filter-append}
use Rattle.arc_lists.proofs.Tables.{cases_true}
use Rattle.blk_ptr.specs.declared.ptr.Ptr.{Ptr}
use Rattle.blk_ptr.specs.Key.{IsValid, key_end}
use Rattle.blk_ptr.specs.Size.{sector}
use Rattle.arc_core.specs.declared.config.Config.{Config}
use Rattle.dbuf_state.specs.declared.event.CellEvent.{CellEvent}
use Rattle.dbuf_state.specs.declared.event.CellEvent.TheVariants.{Get, Put, Patch, Pin, Unpin, Load, Evict, Synced, End}
use Rattle.dbuf_cells.specs.Turns.{OnHeap}
use Rattle.txg_sync.specs.Items.{SyncItem, items_from, need_of, tells_written, written_over}
use Rattle.trace_text.specs.declared.op.Op.{Op}
use Rattle.trace_text.specs.declared.op.Op.TheVariants as ops
use Rattle.trace_text.specs.declared.reply.Reply.{Reply}
use Rattle.trace_text.specs.declared.trace.Trace.{Trace}
use Rattle.vdev_io.specs.declared.pool.Pool.{Ghosts}
use Rattle.trace_run.specs.Deeds.{Noted}
use Rattle.trace_run.specs.Lines.{caller_of}
use Rattle.trace_run.specs.RunWork.{AllFit, FitsBy, lines_of_feeder}
use Rattle.trace_run.specs.Syncing.{noted_of}
use Rattle.trace_run.specs.callers.Together.{BetweenGroups, EndsBy, EndsGroup, GroupLines, IsFirstPlace, StoodThen, SyncsGroup, ToldAsBegun, WorkInGroups, between_groups, ends_group, groups_of, lines_with_end, with_first}
use Rattle.trace_run.specs.callers.WorkLines.{noted_of_work}
use Rattle.trace_run.specs.dbufs.Objects.{Line, Work, no_work}
use Rattle.trace_run.proofs.callers.LineLists.{noted-append}
use Rattle.trace_run.proofs.one_caller.TellLemmas.{all-append, all-map}
use Rattle.trace_run.proofs.in_place.ReadableFront.{IsReadableNote, readable-front}
use Rattle.trace_run.proofs.in_place.SyncedBlocks.{IsReadableBlock, KeepsUpTo, items-readable, next-aligned, written-front}

-- ---- what syncs noted

-- the block that the event notes as written ends at or before a place
abbrev EndsNote : (place : ℕ) → CellEvent → Type 0
EndsNote place (Synced n b ptr held) = key_end ptr.key ≤ place
EndsNote place (Get n b) = Unit {0}
EndsNote place (Put n b size fill) = Unit {0}
EndsNote place (Patch n b from bytes) = Unit {0}
EndsNote place (Pin n b) = Unit {0}
EndsNote place (Unpin n b) = Unit {0}
EndsNote place (Load n b held) = Unit {0}
EndsNote place (Evict n b) = Unit {0}
EndsNote place (End n) = Unit {0}

abbrev IsKeptNote : (len : ℕ) (image : List ℕ) (place : ℕ) → Noted → Type 0
IsKeptNote len image place note = IsReadableNote len image note.event × EndsNote place note.event

-- it stays so where a sync writes behind that place
kept-on : (len place end : ℕ) (image now : List ℕ) → place ≤ end → KeepsUpTo place image now → (e : CellEvent) → IsReadableNote len image e × EndsNote place e → IsReadableNote len now e × EndsNote end e
kept-on len place end image now later keeps (Synced n b ptr held) is = (readable-front len place image now ptr (λ z. Some (keeps.front z)) is.1 is.0, (let a = is.1 in omega (arith, a, later)))
kept-on len place end image now later keeps (Get n b) is = (tt, tt)
kept-on len place end image now later keeps (Put n b size fill) is = (tt, tt)
kept-on len place end image now later keeps (Patch n b from bytes) is = (tt, tt)
kept-on len place end image now later keeps (Pin n b) is = (tt, tt)
kept-on len place end image now later keeps (Unpin n b) is = (tt, tt)
kept-on len place end image now later keeps (Load n b held) is = (tt, tt)
kept-on len place end image now later keeps (Evict n b) is = (tt, tt)
kept-on len place end image now later keeps (End n) is = (tt, tt)

noted-items : (len end n : ℕ) (now : List ℕ) (xs : List SyncItem) → AllByRecursion (IsReadableBlock len end now) xs → AllByRecursion (IsKeptNote len now end) (noted_of n xs)
noted-items len end n now [] all = tt
noted-items len end n now (x ∷ xs) all = ((all.0.0, all.0.1), noted-items len end n now xs all.1)

-- ---- lines

-- a line that does not end a group, and is the feeder's, notes nothing
abbrev pub IsQuiet : Line → Type 0
IsQuiet l = option_map_or (λ (n : ℕ). false) (caller_of l.op) true ≡ true → l.work.noted ≡ []

pub quiet-op : (g : Config) (op : Op) (reply : Reply) (work : Work) → FitsBy g (caller_of op) (record { op = op; reply = reply; work = work }) → ends_group op ≡ false → option_map_or (λ (n : ℕ). false) (caller_of op) true ≡ true → work.noted ≡ []
quiet-op g ops.Feed reply work fits inside own = ap (λ (w : Work). w.noted) fits
quiet-op g (ops.Cap c) reply work fits inside own = absurd (let clash : true ≡ false = inside in cc)
quiet-op g (ops.Txg t) reply work fits inside own = absurd (let clash : true ≡ false = inside in cc)
quiet-op g (ops.Read n t x w) reply work fits inside own = absurd (let clash : false ≡ true = own in cc)
quiet-op g (ops.Hold n t x) reply work fits inside own = absurd (let clash : false ≡ true = own in cc)
quiet-op g (ops.Drop n x) reply work fits inside own = absurd (let clash : false ≡ true = own in cc)
quiet-op g (ops.Get n t b w) reply work fits inside own = absurd (let clash : false ≡ true = own in cc)
quiet-op g (ops.Put n t b size fill) reply work fits inside own = absurd (let clash : false ≡ true = own in cc)
quiet-op g (ops.Patch n t b from bytes) reply work fits inside own = absurd (let clash : false ≡ true = own in cc)
quiet-op g (ops.Pin n t b) reply work fits inside own = absurd (let clash : false ≡ true = own in cc)
quiet-op g (ops.Unpin n b) reply work fits inside own = absurd (let clash : false ≡ true = own in cc)

abbrev pub fed_notes : List Line → List Noted
fed_notes ls = noted_of_work (lines_of_feeder ls)

pub fed-append : (ls ms : List Line) → fed_notes (ls ++ ms) ≡ fed_notes ls ++ fed_notes ms
fed-append ls ms = ap noted_of_work (filter-append (λ (l : Line). option_map_or (λ (n : ℕ). false) (caller_of l.op) true) ls ms) ∙ noted-append (lines_of_feeder ls) (lines_of_feeder ms)

-- what such a line notes is none
pub quiet-notes : (l : Line) → IsQuiet l → fed_notes (l ∷ []) ≡ []
quiet-notes l quiet = elim (cases_true (option_map_or (λ (n : ℕ). false) (caller_of l.op) true)) [
  | inl own ↦ rw own (append-nil l.work.noted ∙ quiet own)
  | inr other ↦ rw other refl
]

-- and of an end line it is the line's
end-notes : (P : Noted → Type 0) (l : Line) → AllByRecursion P l.work.noted → AllByRecursion P (fed_notes (l ∷ []))
end-notes P l all = elim (cases_true (option_map_or (λ (n : ℕ). false) (caller_of l.op) true)) [
  | inl own ↦ rw own (subst (AllByRecursion P) (sym (append-nil l.work.noted)) all)
  | inr other ↦ rw other tt
]

pub all-fed : (P : Noted → Type 0) (ls : List Line) (l : Line) → AllByRecursion P (fed_notes ls) → AllByRecursion P (fed_notes (l ∷ [])) → AllByRecursion P (fed_notes (ls ++ l ∷ []))
all-fed P ls l first last = subst (AllByRecursion P) (sym (fed-append ls (l ∷ []))) (all-append P (fed_notes ls) (fed_notes (l ∷ [])) first last)

-- nor do several of them
quiet-more : (P : Noted → Type 0) (ls ms : List Line) → AllByRecursion IsQuiet ms → AllByRecursion P (fed_notes ls) → AllByRecursion P (fed_notes (ls ++ ms))
quiet-more P ls [] quiet all = subst (λ (xs : List Line). AllByRecursion P (fed_notes xs)) (sym (append-nil ls)) all
quiet-more P ls (m ∷ ms) quiet all =
    subst (λ (xs : List Line). AllByRecursion P (fed_notes xs)) (append_assoc ls (m ∷ []) ms)
    (quiet-more P (ls ++ m ∷ []) ms quiet.1 (all-fed P ls m all (subst (AllByRecursion P) (sym (quiet-notes m quiet.0)) tt)))

-- each of these groups has such lines, and its end line fits what it did
abbrev AreQuiet : Config → List GroupLines → Type 0
AreQuiet g = AllByRecursion (λ group. AllByRecursion IsQuiet group.lines × IfSome group.end (λ l. FitsBy g (caller_of l.op) l))

quiet-first : (g : Config) (l : Line) (gs : List GroupLines) → IsQuiet l → AreQuiet g gs → AreQuiet g (with_first l gs)
quiet-first g l [] quiet all = (((quiet, tt), tt), tt)
quiet-first g l (group ∷ gs) quiet all = (((quiet, all.0.0), all.0.1), all.1)

quiet-groups : (g : Config) (ls : List Line) → AllFit g ls → AreQuiet g (groups_of ls)
quiet-groups g [] fits = tt
quiet-groups g (l ∷ ls) fits = elim (cases_true (ends_group l.op)) [
  | inl ends ↦ rw ends ((tt, fits.0), quiet-groups g ls fits.1)
  | inr inside ↦ rw inside (quiet-first g l (groups_of ls) (quiet-op g l.op l.reply l.work fits.0 inside) (quiet-groups g ls fits.1))
]

-- the lines of groups, one behind the other
abbrev with_end : Option Line → List Line → List Line
with_end None ls = ls
with_end (Some l) ls = l ∷ ls

abbrev flat : List GroupLines → List Line
flat [] = []
flat (group ∷ gs) = group.lines ++ with_end group.end (flat gs)

flat-first : (l : Line) (gs : List GroupLines) → flat (with_first l gs) ≡ l ∷ flat gs
flat-first l [] = refl
flat-first l (group ∷ gs) = refl

flat-groups : (ls : List Line) → flat (groups_of ls) ≡ ls
flat-groups [] = refl
flat-groups (l ∷ ls) = elim (cases_true (ends_group l.op)) [
  | inl ends ↦ rw ends (ap (λ (xs : List Line). l ∷ xs) (flat-groups ls))
  | inr inside ↦ rw inside (flat-first l (groups_of ls) ∙ ap (λ (xs : List Line). l ∷ xs) (flat-groups ls))
]

-- ---- between groups

module _ (len : ℕ) (told : (k : ℕ) → Option (List ℕ)) where
  -- what was told behind these lines, in which all that syncs noted can be read
  pub record TellsSynced (now : Option (List ℕ)) (ls : List Line) : Type 0 where
    pub image : List ℕ
    pub is : now ≡ Some image
    pub notes : AllByRecursion (λ note. IsReadableNote len image note.event) (fed_notes ls)

  -- so it is of each of these lines, behind those before it
  abbrev AllTold : (before ls : List Line) → Type 0
  AllTold before [] = Unit {0}
  AllTold before (l ∷ ls) = (ends_group l.op ≡ false → TellsSynced (told (length before)) before) × AllTold (before ++ l ∷ []) ls

  all-told-at : (before ls : List Line) → AllTold before ls → (k : ℕ) (l : Line) → slice_get ls k ≡ Some l → ends_group l.op ≡ false → TellsSynced (told (length before + k)) (before ++ take k ls)
  all-told-at before [] all k l at inside = absurd (let clash : ◌≡◌ {A = Option Line} None (Some l) = at in cc)
  all-told-at before (x ∷ ls) all zero l at inside =
      let same : x ≡ l = cc in
      let first = all.0 (ap (λ (y : Line). ends_group y.op) same ∙ inside) in
      let here : length before ≡ length before + 0 = omega arith in
      subst (λ (n : ℕ). TellsSynced (told n) (before ++ [])) here (subst (TellsSynced (told (length before))) (sym (append-nil before)) first)
  all-told-at before (x ∷ ls) all (suc k) l at inside =
      let rest = all-told-at (before ++ x ∷ []) ls all.1 k l at inside in
      let long = length-append before (x ∷ []) in
      let here : length (before ++ x ∷ []) + k ≡ length before + suc k = omega (arith, long) in
      subst (λ (n : ℕ). TellsSynced (told n) (before ++ x ∷ take k ls)) here (subst (TellsSynced (told (length (before ++ x ∷ []) + k))) (append_assoc before (x ∷ []) (take k ls)) rest)

  -- the lines of a group
  in-group : (image : List ℕ) (before left rest : List Line) → ToldAsBegun told before left (Some image) → AllByRecursion (λ note. IsReadableNote len image note.event) (fed_notes before) → AllByRecursion IsQuiet left
      → AllTold (before ++ left) rest → AllTold before (left ++ rest)
  in-group image before [] rest begun notes quiet all = subst (λ (ls : List Line). AllTold ls rest) (append-nil before) all
  in-group image before (l ∷ left) rest begun notes quiet all =
      let here : length before + 0 ≡ length before = omega arith in
      let long = length-append before (l ∷ []) in (
        λ inside. record { image = image; is = ap told (sym here) ∙ begun 0 (omega arith); notes = notes },
        in-group image (before ++ l ∷ []) left rest
            (λ j lt. let shift : length (before ++ l ∷ []) + j ≡ length before + suc j = omega (arith, long) in ap told shift ∙ begun (suc j) (omega (arith, lt)))
            (all-fed (λ note. IsReadableNote len image note.event) before l notes (subst (AllByRecursion (λ note. IsReadableNote len image note.event)) (sym (quiet-notes l quiet.0)) tt)) quiet.1
            (subst (λ (ls : List Line). AllTold ls rest) (sym (append_assoc before (l ∷ []) left)) all),
      )

  module _ {P : Type 0} (pool : Ghosts P) (told_len : (p : P) (bytes : List ℕ) → pool.told p ≡ Some bytes → length bytes ≡ pool.size p) (trace : Trace) (closed : List OnHeap) where
    -- what is so where the callers stand behind these lines
    record HaveSynced (ls : List Line) (now : BetweenGroups P) : Type 0 where
      pub image : List ℕ
      pub tells : pool.told now.pool ≡ Some image
      pub size : pool.size now.pool ≡ len
      pub born : 0 < now.group
      pub aligned : now.next % sector ≡ 0
      pub inside : now.next ≤ len
      pub notes : AllByRecursion (IsKeptNote len image now.next) (fed_notes ls)

    worked-on : (ls ms : List Line) (from : BetweenGroups P) (worked : P) → pool.size worked ≡ pool.size from.pool → pool.told worked ≡ pool.told from.pool → AllByRecursion IsQuiet ms → HaveSynced ls from
        → HaveSynced (ls ++ ms) (between_groups worked from.group from.next)
    worked-on ls ms from worked size told_same quiet has = record {
      image = has.image;
      tells = told_same ∙ has.tells;
      size = size ∙ has.size;
      born = has.born;
      aligned = has.aligned;
      inside = has.inside;
      notes = quiet-more (IsKeptNote len has.image from.next) ls ms quiet has.notes;
    }

    synced-on : (ls : List Line) (t : ℕ) (reply : Reply) (work : Work) (from to : BetweenGroups P) → SyncsGroup pool trace.config (StoodThen trace closed) ls t reply work from to → HaveSynced ls from
        → HaveSynced (ls ++ record { op = ops.Txg t; reply = reply; work = work } ∷ []) to
    synced-on ls t reply work from to s has =
        let w = s.answer in
        let items : List SyncItem = items_from w.held from.group from.next w.cells w.dues in
        let end : ℕ = from.next + need_of w.cells w.dues in
        let now : List ℕ = written_over items has.image in
        let long : length has.image ≡ len = told_len from.pool has.image has.tells ∙ has.size in
        let fits = w.fits in
        let size = has.size in
        let inside = has.inside in
        let room : from.next + need_of w.cells w.dues ≤ len = omega (arith, fits, size, inside) in
        let keeps = written-front w.held from.group from.next w.cells w.dues has.image (omega (arith, room, long)) in
        let next : to.next ≡ end = s.next ∙ w.next_is in
        let written = items-readable len w.held from.group from.next w.cells w.dues has.image long has.aligned has.born w.sized room in
        let olds = all-map (IsKeptNote len has.image from.next) (IsKeptNote len now end) (fed_notes ls) (λ note is. kept-on len from.next end has.image now (omega arith) keeps note.event is) has.notes in
        let news : AllByRecursion (IsKeptNote len now end) work.noted = subst (AllByRecursion (IsKeptNote len now end)) (sym w.turns.noted) (noted-items len end trace.config.callers now items written) in
        let group = s.group in
        record {
          image = now;
          tells = w.told ∙ ap (tells_written items) has.tells;
          size = w.outside.size ∙ has.size;
          born = omega (arith, group);
          aligned = ap (λ (n : ℕ). n % sector) next ∙ next-aligned from.next w.cells w.dues has.aligned w.sized;
          inside = omega (arith, next, room);
          notes = subst (λ (n : ℕ). AllByRecursion (IsKeptNote len now n) (fed_notes (ls ++ record { op = ops.Txg t; reply = reply; work = work } ∷ []))) (sym next)
              (all-fed (IsKeptNote len now end) ls (record { op = ops.Txg t; reply = reply; work = work }) olds (end-notes (IsKeptNote len now end) (record { op = ops.Txg t; reply = reply; work = work }) news));
        }

    capped-on : (ls : List Line) (l : Line) (from to : BetweenGroups P) → to ≡ between_groups from.pool (suc from.group) from.next → l.work ≡ no_work → HaveSynced ls from → HaveSynced (ls ++ l ∷ []) to
    capped-on ls l from to is none has = subst (HaveSynced (ls ++ l ∷ [])) (sym is) record {
      image = has.image;
      tells = has.tells;
      size = has.size;
      born = omega arith;
      aligned = has.aligned;
      inside = has.inside;
      notes = all-fed (IsKeptNote len has.image from.next) ls l has.notes
          (end-notes (IsKeptNote len has.image from.next) l (subst (λ (w : Work). AllByRecursion (IsKeptNote len has.image from.next) w.noted) (sym none) tt));
    }

    -- the line that ends a group
    ended-on : (ls : List Line) (op : Op) (reply : Reply) (work : Work) (from to : BetweenGroups P) → EndsBy pool trace.config (StoodThen trace closed) ls op reply work from to
        → FitsBy trace.config (caller_of op) (record { op = op; reply = reply; work = work }) → HaveSynced ls from → (ends_group op ≡ true) × HaveSynced (ls ++ record { op = op; reply = reply; work = work } ∷ []) to
    ended-on ls (ops.Txg t) reply work from to ends fits has = (refl, synced-on ls t reply work from to ends has)
    ended-on ls (ops.Cap c) reply work from to ends fits has = (refl, capped-on ls (record { op = ops.Cap c; reply = reply; work = work }) from to ends fits has)
    ended-on ls ops.Feed reply work from to ends fits has = absurd ends
    ended-on ls (ops.Read n t x w) reply work from to ends fits has = absurd ends
    ended-on ls (ops.Hold n t x) reply work from to ends fits has = absurd ends
    ended-on ls (ops.Drop n x) reply work from to ends fits has = absurd ends
    ended-on ls (ops.Get n t b w) reply work from to ends fits has = absurd ends
    ended-on ls (ops.Put n t b size fill) reply work from to ends fits has = absurd ends
    ended-on ls (ops.Patch n t b start bytes) reply work from to ends fits has = absurd ends
    ended-on ls (ops.Pin n t b) reply work from to ends fits has = absurd ends
    ended-on ls (ops.Unpin n b) reply work from to ends fits has = absurd ends

    abbrev InGroups : (before : List Line) → List GroupLines → (from to : BetweenGroups P) → Type 0
    InGroups = WorkInGroups pool trace.config (StoodThen trace closed) told

    readable-notes : (image : List ℕ) (place : ℕ) (notes : List Noted) → AllByRecursion (IsKeptNote len image place) notes → AllByRecursion (λ note. IsReadableNote len image note.event) notes
    readable-notes image place notes all = all-map (IsKeptNote len image place) (λ note. IsReadableNote len image note.event) notes (λ note is. is.0) all

    -- behind the lines of a group stands the one that ends it, and then these
    behind-told : (ls : List Line) (end : Option Line) (left : List Line) (from next : BetweenGroups P) → EndsGroup pool trace.config (StoodThen trace closed) ls end from next → IfSome end (λ l. FitsBy trace.config (caller_of l.op) l)
        → HaveSynced ls from → (HaveSynced (lines_with_end ls end) next → AllTold (lines_with_end ls end) left) → AllTold ls (with_end end left)
    behind-told ls None left from next ends fits has rest = rest (subst (HaveSynced ls) (sym ends) has)
    behind-told ls (Some l) left from next ends fits has rest =
        let e = ended-on ls l.op l.reply l.work from next ends fits has in
        (λ inside. absurd (let clash : true ≡ false = sym e.0 ∙ inside in cc), rest e.1)

    groups-told : (before : List Line) (gs : List GroupLines) (from to : BetweenGroups P) → InGroups before gs from to → AreQuiet trace.config gs → HaveSynced before from → AllTold before (flat gs)
    groups-told before [] from to w quiet has = tt
    groups-told before (group ∷ gs) from to w quiet has =
        let keeps = w.2.keeps in
        let so_far = worked-on before group.lines from w.0 keeps.0 keeps.1 quiet.0.0 has in
        in-group has.image before group.lines (with_end group.end (flat gs)) (λ j lt. w.4 j lt ∙ has.tells) (readable-notes has.image from.next (fed_notes before) has.notes) quiet.0.0
        (behind-told (before ++ group.lines) group.end (flat gs) (between_groups w.0 from.group from.next) w.1 w.3 quiet.0.1 so_far
        (λ now. groups-told (lines_with_end (before ++ group.lines) group.end) gs w.1 to w.5 quiet.1 now))

    -- so it is behind each line that several callers did
    pub several-told : (before : P) (image : List ℕ) (place : ℕ) (reached : BetweenGroups P) (ls : List Line) → pool.told before ≡ Some image → pool.size before ≡ len → IsFirstPlace len trace.blocks place
        → InGroups [] (groups_of ls) (between_groups before 1 place) reached → AllFit trace.config ls → (k : ℕ) (l : Line) → slice_get ls k ≡ Some l → ends_group l.op ≡ false → TellsSynced (told k) (take k ls)
    several-told before image place reached ls tells size first w fits k l at inside =
        let at_first = begins first.least in
        let start : HaveSynced [] (between_groups before 1 place) = record { image = image; tells = tells; size = size; born = omega arith; aligned = at_first.0; inside = at_first.1; notes = tt } in
        let all = subst (AllTold []) (flat-groups ls) (groups-told [] (groups_of ls) (between_groups before 1 place) reached w (quiet-groups trace.config ls fits) start) in
        let here : 0 + k ≡ k = omega arith in
        subst (λ (n : ℕ). TellsSynced (told n) (take k ls)) here (all-told-at [] ls all k l at inside)
      where
        begins : ((place ≡ 0) ⊎ ((j : ℕ) × (ptr : Ptr) × (slice_get trace.blocks j ≡ Some ptr) × IsValid len ptr.key × (place ≡ key_end ptr.key))) → (place % sector ≡ 0) × (place ≤ len)
        begins (inl none) = (ap (λ (n : ℕ). n % sector) none, omega (arith, none))
        begins (inr some) =
            let a = some.3.formed.aligned in
            let b = some.3.formed.sized.0 in
            let c = some.3.inside in
            let e = some.4 in
            (omega (arith, a, b, e), omega (arith, c, e))
