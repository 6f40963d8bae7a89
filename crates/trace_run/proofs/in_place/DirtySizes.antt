-- How many bytes the dirty blocks of a cell have, and that none stands twice among them: by its history.
use Rattle.std.proofs.Common.{◌≡◌, ℕ, ◌+◌, ◌≤◌, Bool, true, false, if◌then◌else◌, List, [], ◌∷◌, ◌++◌, map, length, Option, Some, None, IfSome, refl, sym, ap, subst, ◌∙◌, inl, inr, arith}
use Rattle.std.specs.List.{AllByRecursion, list_any}
use Rattle.std.specs.Option.{option_map, option_map_or}
use Rattle.arc_lists.proofs.Tables.{cases_true}
use Rattle.blk_ptr.specs.declared.ptr.Ptr.{Ptr}
use Rattle.dbuf_state.specs.CellLog.{CellLog}
use Rattle.dbuf_state.specs.Dbufs.{dbuf_at, dbuf_is, dbuf_oid, dirty_oids, is_dirty, mapped_of, plain_dbuf}
use Rattle.dbuf_state.specs.History.{Leads}
use Rattle.dbuf_state.specs.Objects.{Block, Cached, IsLegal, IsWrittenAt, PlainCell, PlainDbuf, Uncached, opened, opening_cell, use_of}
use Rattle.dbuf_state.specs.Objects as plain
use Rattle.dbuf_state.specs.Oids.{oid_eq, with_item}
use Rattle.dbuf_state.specs.Outline.{Outline, OutlineDbuf, after, after_all, dirtied, mapped_at, mapped_in, mapped_size, outline_after, outline_dbuf, outline_of, touched}
use Rattle.dbuf_state.specs.Outline as outline
use Rattle.dbuf_state.specs.Soundness.{IsSound, plain_cell}
use Rattle.dbuf_state.specs.declared.dbuf.Content.{Content}
use Rattle.dbuf_state.specs.declared.dbuf.Content.TheVariants as content
use Rattle.dbuf_state.specs.declared.dbuf.Dbuf.{Dbuf}
use Rattle.dbuf_state.specs.declared.event.CellEvent.{CellEvent}
use Rattle.dbuf_state.specs.declared.event.CellEvent.TheVariants.{Get, Put, Patch, Pin, Unpin, Load, Evict, Synced, End}
use Rattle.dbuf_state.specs.declared.oid.Oid.{Oid}
use Rattle.dbuf_state.specs.declared.state.Mapped.{Mapped}
use Rattle.dbuf_state.specs.declared.state.Mapped.TheVariants.{Clean, Dirty}
use Rattle.dbuf_state.specs.declared.state.Mapping.{Mapping}
use Rattle.dbuf_state.proofs.CellLemmas.{oid_eq-sym}
use Rattle.dbuf_state.proofs.Changes.{view-found}
use Rattle.dbuf_state.proofs.OutlineLemmas.{cell-is-in-outline, outline-follows, outline-is-told}
use Rattle.dbuf_cells.specs.Laws.{is_put_of}
use Rattle.dbuf_cells.specs.declared.kept.Kept.{Kept}
use Rattle.txg_sync.specs.Items.{dirty_bytes_at, written_in}
use Rattle.trace_run.specs.InPlace.{opened_ptr}
use Rattle.trace_run.proofs.in_place.Mapped.{mapped-all, mapped-told, mapped_then, oid-is}
use Rattle.txg_sync.proofs.Gathering.{oid-same}
use Rattle.trace_run.proofs.in_place.Sums.{AreDistinct, any-cons, none-apart}

-- ---- their sizes

-- a whole write of the block has at most so many bytes
abbrev pub IsPutWithin : (at : Oid) (most : ℕ) → CellEvent → Type 0
IsPutWithin at most (Put n b size fill) = oid_eq at b ≡ true → size ≤ most
IsPutWithin at most (Get n b) = Unit {0}
IsPutWithin at most (Patch n b from bytes) = Unit {0}
IsPutWithin at most (Pin n b) = Unit {0}
IsPutWithin at most (Unpin n b) = Unit {0}
IsPutWithin at most (Load n b held) = Unit {0}
IsPutWithin at most (Evict n b) = Unit {0}
IsPutWithin at most (Synced n b ptr held) = Unit {0}
IsPutWithin at most (End n) = Unit {0}

abbrev IsWithin : (most : ℕ) → Option Mapped → Type 0
IsWithin most o = IfSome o (λ m. mapped_size m ≤ most)

patched-within : (most : ℕ) (m : Option Mapped) → IsWithin most m → IsWithin most (option_map (λ x. Dirty (mapped_size x)) m)
patched-within most None within = tt
patched-within most (Some m) within = within

-- a sync keeps the size
synced-within : (most : ℕ) (ptr : Ptr) (o : Option PlainDbuf) → IsWrittenAt ptr o → IsWithin most (option_map (λ d. mapped_in d.block) o) → IsWithin most (option_map (λ (x : Mapped). Clean ptr) (option_map (λ d. mapped_in d.block) o))
synced-within most ptr None written within = absurd written
synced-within most ptr (Some d) written within = of-block d.block written within
  where
    of-block : (block : Block) → plain.IsWritten ptr block → mapped_size (mapped_in block) ≤ most → ptr.key.size ≤ most
    of-block (Uncached old) written within = absurd written
    of-block (Cached old) written within = absurd written
    of-block (plain.Dirty bytes) written within = let a = written.size in omega arith

plain-mapped : (at : Oid) (c : PlainCell) → mapped_at at (outline_of c) ≡ option_map (λ (d : PlainDbuf). mapped_in d.block) (plain.dbuf_at at c)
plain-mapped at c = ap (option_map (λ (d : OutlineDbuf). d.mapped)) (view-found plain.dbuf_oid outline.dbuf_oid outline_dbuf (λ d. refl) at c.dbufs) ∙ both (plain.dbuf_at at c)
  where
    both : (o : Option PlainDbuf) → option_map (λ (d : OutlineDbuf). d.mapped) (option_map outline_dbuf o) ≡ option_map (λ (d : PlainDbuf). mapped_in d.block) o
    both None = refl
    both (Some d) = refl

then-within : (at : Oid) (most : ℕ) (c : PlainCell) (e : CellEvent) → IsLegal c e → IsPutWithin at most e → IsWithin most (mapped_at at (outline_of c)) → IsWithin most (mapped_then at (mapped_at at (outline_of c)) e)
then-within at most c (Get n b) legal put within = within
then-within at most c (Put n b size fill) legal put within = elim (cases_true (oid_eq at b)) [
  | inl here ↦ rw here (put here)
  | inr far ↦ rw far within
]
then-within at most c (Patch n b from bytes) legal put within = elim (cases_true (oid_eq at b)) [
  | inl here ↦ rw here (patched-within most (mapped_at at (outline_of c)) within)
  | inr far ↦ rw far within
]
then-within at most c (Pin n b) legal put within = within
then-within at most c (Unpin n b) legal put within = within
then-within at most c (Load n b held) legal put within = within
then-within at most c (Evict n b) legal put within = within
then-within at most c (Synced n b ptr held) legal put within = elim (cases_true (oid_eq at b)) [
  | inl here ↦
      let is = oid-is at b here in
      let its = subst (λ (x : Oid). IsWrittenAt ptr (plain.dbuf_at x c)) (sym is) legal.1 in
      let same = plain-mapped at c in
      rw here (subst (λ (o : Option Mapped). IsWithin most (option_map (λ (x : Mapped). Clean ptr) o)) (sym same) (synced-within most ptr (plain.dbuf_at at c) its (subst (IsWithin most) same within)))
  | inr far ↦ rw far within
]
then-within at most c (End n) legal put within = within

leads-within : (at : Oid) (most : ℕ) (c : PlainCell) (es : List CellEvent) (bases : List (List ℕ)) (end : PlainCell) → Leads c es bases end → AllByRecursion (IsPutWithin at most) es
    → IsWithin most (mapped_at at (outline_of c)) → IsWithin most (mapped_at at (outline_of end))
leads-within at most c [] bases end leads puts within = subst (λ (x : PlainCell). IsWithin most (mapped_at at (outline_of x))) (sym leads.1) within
leads-within at most c (e ∷ es) bases end leads puts within =
    let base = leads.1.0 in
    let same : mapped_at at (outline_of (plain.after base c e)) ≡ mapped_then at (mapped_at at (outline_of c)) e
    = ap (mapped_at at) (outline-follows c e base leads.0 leads.1.3) ∙ mapped-all at (outline_of c) (e ∷ []) in
    leads-within at most (plain.after base c e) es leads.1.1 end leads.1.4 puts.1 (subst (IsWithin most) (sym same) (then-within at most c e leads.0 puts.0 within))

opened-within : (most : ℕ) (o : Option Ptr) → IfSome o (λ ptr. ptr.key.size ≤ most) → IsWithin most (option_map (λ (ptr : Ptr). Clean ptr) o)
opened-within most None begins = tt
opened-within most (Some ptr) begins = begins

found-within : (most : ℕ) (o : Option (Dbuf Kept)) → IsWithin most (option_map (λ (d : Dbuf Kept). mapped_of d.content) o) → length (option_map_or (λ (d : Dbuf Kept). written_in d.content) o []) ≤ most
found-within most None within = omega arith
found-within most (Some d) within = of-content d.content within
  where
    of-content : (c : Content) → mapped_size (mapped_of c) ≤ most → length (written_in c) ≤ most
    of-content (content.Clean ptr) within = omega arith
    of-content (content.Dirty bytes) within = within

-- so many bytes at most are those of a dirty block, where its first pointer and all whole writes have at most so many
pub dirty-within : (c : CellLog Kept) → IsSound c → (at : Oid) (most : ℕ) → IfSome (opened_ptr at c.opening) (λ ptr. ptr.key.size ≤ most) → AllByRecursion (IsPutWithin at most) c.history
    → length (dirty_bytes_at at c.dbufs) ≤ most
dirty-within c sound at most begins puts =
    let first : IsWithin most (mapped_at at (outline_of (opening_cell c.limit c.opening))) = subst (IsWithin most) (sym (mapped-told at c.limit c.opening [])) (opened-within most (opened_ptr at c.opening) begins) in
    let last = leads-within at most (opening_cell c.limit c.opening) c.history sound.bases (plain_cell sound.evicting c) sound.history.legal puts first in
    found-within most (dbuf_at at c.dbufs) (subst (IsWithin most) (sym (cell-is-in-outline sound.evicting c at).mapped) last)

-- ---- behind a whole write

-- a whole write gives the block its size, whatever it had before
put-within : (at : Oid) (most : ℕ) (m : Option Mapped) (e : CellEvent) → is_put_of at e ≡ true → IsPutWithin at most e → IsWithin most (mapped_then at m e)
put-within at most m (Put n b size fill) is put = rw is (put is)
put-within at most m (Get n b) is put = absurd (let clash : false ≡ true = is in cc)
put-within at most m (Patch n b from bytes) is put = absurd (let clash : false ≡ true = is in cc)
put-within at most m (Pin n b) is put = absurd (let clash : false ≡ true = is in cc)
put-within at most m (Unpin n b) is put = absurd (let clash : false ≡ true = is in cc)
put-within at most m (Load n b held) is put = absurd (let clash : false ≡ true = is in cc)
put-within at most m (Evict n b) is put = absurd (let clash : false ≡ true = is in cc)
put-within at most m (Synced n b ptr held) is put = absurd (let clash : false ≡ true = is in cc)
put-within at most m (End n) is put = absurd (let clash : false ≡ true = is in cc)

leads-put : (at : Oid) (most : ℕ) (c : PlainCell) (es : List CellEvent) (bases : List (List ℕ)) (end : PlainCell) → Leads c es bases end → AllByRecursion (IsPutWithin at most) es → list_any (is_put_of at) es ≡ true
    → IsWithin most (mapped_at at (outline_of end))
leads-put at most c [] bases end leads puts has = absurd (let clash : false ≡ true = has in cc)
leads-put at most c (e ∷ es) bases end leads puts has =
    let base = leads.1.0 in
    let same : mapped_at at (outline_of (plain.after base c e)) ≡ mapped_then at (mapped_at at (outline_of c)) e
    = ap (mapped_at at) (outline-follows c e base leads.0 leads.1.3) ∙ mapped-all at (outline_of c) (e ∷ []) in
    elim (cases_true (is_put_of at e)) [
      | inl here ↦ leads-within at most (plain.after base c e) es leads.1.1 end leads.1.4 puts.1 (subst (IsWithin most) (sym same) (put-within at most (mapped_at at (outline_of c)) e here puts.0))
      | inr other ↦ leads-put at most (plain.after base c e) es leads.1.1 end leads.1.4 puts.1 (rw other at has)
    ]

leads-since : (at : Oid) (most : ℕ) (c : PlainCell) (front es : List CellEvent) (bases : List (List ℕ)) (end : PlainCell) → Leads c (front ++ es) bases end → AllByRecursion (IsPutWithin at most) es
    → list_any (is_put_of at) es ≡ true → IsWithin most (mapped_at at (outline_of end))
leads-since at most c [] es bases end leads puts has = leads-put at most c es bases end leads puts has
leads-since at most c (e ∷ front) es bases end leads puts has = leads-since at most (plain.after leads.1.0 c e) front es leads.1.1 end leads.1.4 puts has

-- so many bytes at most are those of a block that was written whole behind a front of the history, where the whole writes behind that have at most so many
pub since-within : (c : CellLog Kept) → IsSound c → (at : Oid) (most : ℕ) (front since : List CellEvent) → c.history ≡ front ++ since → AllByRecursion (IsPutWithin at most) since → list_any (is_put_of at) since ≡ true
    → length (dirty_bytes_at at c.dbufs) ≤ most
since-within c sound at most front since split puts has =
    let start : PlainCell = opening_cell c.limit c.opening in
    let end : PlainCell = plain_cell sound.evicting c in
    let legal : Leads start (front ++ since) sound.bases end = subst (λ (es : List CellEvent). Leads start es sound.bases end) split sound.history.legal in
    let last = leads-since at most start front since sound.bases end legal puts has in
    found-within most (dbuf_at at c.dbufs) (subst (IsWithin most) (sym (cell-is-in-outline sound.evicting c at).mapped) last)

-- ---- none stands twice

abbrev pub names : List OutlineDbuf → List Oid
names ds = map outline.dbuf_oid ds

names-changed : (b : Oid) (f : OutlineDbuf → OutlineDbuf) → ((d : OutlineDbuf) → (f d).at ≡ d.at) → (ds : List OutlineDbuf) → names (outline.changed b f ds) ≡ names ds
names-changed b f same [] = refl
names-changed b f same (d ∷ ds) = elim (cases_true (oid_eq b d.at)) [
  | inl here ↦ rw here (ap (λ (x : Oid). x ∷ names ds) (same d))
  | inr far ↦ rw far (ap (λ (xs : List Oid). d.at ∷ xs) (names-changed b f same ds))
]

names-ended : (ds : List OutlineDbuf) → names (map outline.ended ds) ≡ names ds
names-ended [] = refl
names-ended (d ∷ ds) = ap (λ (xs : List Oid). d.at ∷ xs) (names-ended ds)

names-touched : (tick : ℕ) (used : Option Oid) (ds : List OutlineDbuf) → names (touched tick used ds) ≡ names ds
names-touched tick None ds = refl
names-touched tick (Some b) ds = names-changed b (λ d. record d { used = tick }) (λ d. refl) ds

module _ (b : Oid) (f : OutlineDbuf → OutlineDbuf) (same : (d : OutlineDbuf) → (f d).at ≡ d.at) (new : OutlineDbuf) (of : new.at ≡ b) where
  none-item : (x : Oid) (ds : List OutlineDbuf) → oid_eq x b ≡ false → list_any (oid_eq x) (names ds) ≡ false → list_any (oid_eq x) (names (with_item outline.dbuf_oid b f new ds)) ≡ false
  none-item x [] far none = rw of (any-cons x b [] far refl)
  none-item x (d ∷ ds) far none =
      let parts = none-apart x d.at (names ds) none in
      elim (cases_true (oid_eq b d.at)) [
        | inl here ↦ rw here (rw (same d) none)
        | inr past ↦ rw past (any-cons x d.at _ parts.0 (none-item x ds far parts.1))
      ]

  distinct-item : (ds : List OutlineDbuf) → AreDistinct (names ds) → AreDistinct (names (with_item outline.dbuf_oid b f new ds))
  distinct-item [] once = (refl, tt)
  distinct-item (d ∷ ds) once = elim (cases_true (oid_eq b d.at)) [
    | inl here ↦ rw here (rw (same d) once)
    | inr past ↦ rw past (none-item d.at ds (oid_eq-sym d.at b ∙ past) once.0, distinct-item ds once.1)
  ]

distinct-effect : (ds : List OutlineDbuf) (e : CellEvent) → AreDistinct (names ds) → AreDistinct (names (outline.effect ds e))
distinct-effect ds (Get n b) once = once
distinct-effect ds (Put n b size fill) once = distinct-item b (dirtied size) (λ d. refl) _ refl ds once
distinct-effect ds (Patch n b from bytes) once = subst AreDistinct (sym (names-changed b (λ d. dirtied (mapped_size d.mapped) d) (λ d. refl) ds)) once
distinct-effect ds (Pin n b) once = subst AreDistinct (sym (names-changed b _ (λ d. refl) ds)) once
distinct-effect ds (Unpin n b) once = subst AreDistinct (sym (names-changed b _ (λ d. refl) ds)) once
distinct-effect ds (Load n b held) once = subst AreDistinct (sym (names-changed b _ (λ d. refl) ds)) once
distinct-effect ds (Evict n b) once = subst AreDistinct (sym (names-changed b _ (λ d. refl) ds)) once
distinct-effect ds (Synced n b ptr held) once = subst AreDistinct (sym (names-changed b _ (λ d. refl) ds)) once
distinct-effect ds (End n) once = subst AreDistinct (sym (names-ended ds)) once

pub distinct-all : (o : Outline) (es : List CellEvent) → AreDistinct (names o.dbufs) → AreDistinct (names (after_all o es).dbufs)
distinct-all o [] once = once
distinct-all o (e ∷ es) once =
    distinct-all (after o e) es (subst AreDistinct (sym (names-touched (o.events + 1) (use_of e) (outline.effect o.dbufs e))) (distinct-effect o.dbufs e once))

abbrev pub mapping_oid : Mapping → Oid
mapping_oid m = m.at

pub names-opened : (ms : List Mapping) → names (map outline_dbuf (map opened ms)) ≡ map mapping_oid ms
names-opened [] = refl
names-opened (m ∷ ms) = ap (λ (xs : List Oid). m.at ∷ xs) (names-opened ms)

names-plain : (ds : List (Dbuf Kept)) → names (map outline_dbuf (map plain_dbuf ds)) ≡ map dbuf_oid ds
names-plain [] = refl
names-plain (d ∷ ds) = ap (λ (xs : List Oid). d.at ∷ xs) (names-plain ds)

-- no two dbufs of a sound cell have one Oid, where none is mapped twice at first
pub sound-distinct : (c : CellLog Kept) → IsSound c → AreDistinct (map mapping_oid c.opening) → AreDistinct (map dbuf_oid c.dbufs)
sound-distinct c sound once =
    let first : AreDistinct (names (outline_of (opening_cell c.limit c.opening)).dbufs) = subst AreDistinct (sym (names-opened c.opening)) once in
    let last : AreDistinct (names (outline_after c.limit c.opening c.history).dbufs) = distinct-all (outline_of (opening_cell c.limit c.opening)) c.history first in
    let told = outline-is-told c.limit c.opening c.history sound.bases (plain_cell sound.evicting c) sound.history.legal in
    subst AreDistinct (names-plain c.dbufs) (subst (λ (o : Outline). AreDistinct (names o.dbufs)) (sym told) last)

none-dirty : (x : Oid) (ds : List (Dbuf Kept)) → list_any (oid_eq x) (map dbuf_oid ds) ≡ false → list_any (oid_eq x) (dirty_oids ds) ≡ false
none-dirty x [] none = refl
none-dirty x (d ∷ ds) none =
    let parts = none-apart x d.at (map dbuf_oid ds) none in
    let rest = none-dirty x ds parts.1 in
    elim (cases_true (is_dirty d)) [
      | inl dirty ↦ rw dirty (any-cons x d.at _ parts.0 rest)
      | inr clean ↦ rw clean rest
    ]

pub distinct-dirty : (ds : List (Dbuf Kept)) → AreDistinct (map dbuf_oid ds) → AreDistinct (dirty_oids ds)
distinct-dirty [] once = tt
distinct-dirty (d ∷ ds) once = elim (cases_true (is_dirty d)) [
  | inl dirty ↦ rw dirty (none-dirty d.at ds once.0, distinct-dirty ds once.1)
  | inr clean ↦ rw clean (distinct-dirty ds once.1)
]

-- each is dirty
abbrev pub AreDirtyIn : List (Dbuf Kept) → List Oid → Type 0
AreDirtyIn ds = AllByRecursion (λ at. dbuf_is is_dirty at ds ≡ true)

dirty-behind : (d : Dbuf Kept) (ds : List (Dbuf Kept)) (ats : List Oid) → list_any (oid_eq d.at) ats ≡ false → AreDirtyIn ds ats → AreDirtyIn (d ∷ ds) ats
dirty-behind d ds [] none all = tt
dirty-behind d ds (at ∷ ats) none all =
    let parts = none-apart d.at at ats none in
    let far : oid_eq at d.at ≡ false = oid_eq-sym at d.at ∙ parts.0 in
    (rw far all.0, dirty-behind d ds ats parts.1 all.1)

pub all-dirty : (ds : List (Dbuf Kept)) → AreDistinct (map dbuf_oid ds) → AreDirtyIn ds (dirty_oids ds)
all-dirty [] once = tt
all-dirty (d ∷ ds) once =
    let rest = dirty-behind d ds (dirty_oids ds) (none-dirty d.at ds once.0) (all-dirty ds once.1) in
    let same = oid-same d.at in
    elim (cases_true (is_dirty d)) [
      | inl dirty ↦ subst (λ (b : Bool). AreDirtyIn (d ∷ ds) (if b then d.at ∷ dirty_oids ds else dirty_oids ds)) (sym dirty) ((rw same dirty), rest)
      | inr clean ↦ subst (λ (b : Bool). AreDirtyIn (d ∷ ds) (if b then d.at ∷ dirty_oids ds else dirty_oids ds)) (sym clean) rest
    ]
