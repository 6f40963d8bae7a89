-- Which blocks of a cell are dirty, by its history: none behind a sync, and behind that those that were written since.
use Rattle.std.proofs.Common.{◌≡◌, ℕ, suc, zero, ◌+◌, ◌==◌, ◌&&◌, ◌||◌, Bool, true, false, not, List, [], ◌∷◌, ◌++◌, map, length, Option, Some, None, refl, sym, ap, subst, ◌∙◌, inl, inr, arith, eq-eqb}
use Rattle.std.specs.Prelude.{slice_get}
use Rattle.std.specs.List.{list_any}
use Rattle.std.specs.Option.{option_map, option_map_or}
use Rattle.std.proofs.lemmas.List.Sorted.{list_any-IsPermutation}
use Rattle.arc_lists.proofs.Tables.{cases_true}
use Rattle.blk_ptr.specs.declared.ptr.Ptr.{Ptr}
use Rattle.dbuf_state.specs.CellLog.{CellLog}
use Rattle.dbuf_state.specs.Dbufs.{dbuf_at, dbuf_is, dirty_oids, is_clean as is_clean_content, is_dirty, mapped_of}
use Rattle.dbuf_state.specs.Oids.{oid_eq}
use Rattle.dbuf_state.specs.Outline.{is_clean, mapped_at}
use Rattle.dbuf_state.specs.Soundness.{IsSound, plain_cell}
use Rattle.dbuf_state.specs.declared.dbuf.Content.{Content}
use Rattle.dbuf_state.specs.declared.dbuf.Content.TheVariants as content
use Rattle.dbuf_state.specs.declared.dbuf.Dbuf.{Dbuf}
use Rattle.dbuf_state.specs.declared.event.CellEvent.{CellEvent}
use Rattle.dbuf_state.specs.declared.event.CellEvent.TheVariants.{Get, Put, Patch, Pin, Unpin, Load, Evict, Synced, End}
use Rattle.dbuf_state.specs.declared.oid.Oid.{Oid}
use Rattle.dbuf_state.specs.declared.state.Mapped.{Mapped}
use Rattle.dbuf_state.specs.declared.state.Mapped.TheVariants.{Clean}
use Rattle.dbuf_state.specs.declared.state.Mapping.{Mapping}
use Rattle.dbuf_state.proofs.OutlineLemmas.{cell-is-in-outline, outline-is-told}
use Rattle.dbuf_cells.specs.Turns.{OnHeap}
use Rattle.dbuf_cells.specs.declared.kept.Kept.{Kept}
use Rattle.txg_sync.specs.Items.{SyncItem, bytes_of_due, due_in, dues_from, dues_in, items_from}
use Rattle.txg_sync.specs.Syncing.{AreAllDirty}
use Rattle.txg_sync.specs.Turns.{synced_in}
use Rattle.txg_sync.specs.declared.due.Due.{Due}
use Rattle.trace_run.proofs.in_place.Mapped.{mapped_then, mapped_through, mapped-told, opened_mapped}
use Rattle.trace_run.proofs.in_place.PutLines.{any-first, any-left, any-right}

-- the event writes the block, whole or in part
abbrev pub is_write_of : Oid → CellEvent → Bool
is_write_of at (Get n b) = false
is_write_of at (Put n b size fill) = oid_eq at b
is_write_of at (Patch n b from bytes) = oid_eq at b
is_write_of at (Pin n b) = false
is_write_of at (Unpin n b) = false
is_write_of at (Load n b held) = false
is_write_of at (Evict n b) = false
is_write_of at (Synced n b ptr held) = false
is_write_of at (End n) = false

-- the object map has a dirty block
abbrev pub is_dirty_mapped : Option Mapped → Bool
is_dirty_mapped o = option_map_or (λ m. not (is_clean m)) o false

-- behind this history no block is dirty, in a cell that began so
abbrev pub IsCleanBehind : List Mapping → List CellEvent → Type 0
IsCleanBehind opening h = (at : Oid) → is_dirty_mapped (mapped_through at (opened_mapped at opening) h) ≡ false

-- ---- what the map of a sound cell has

pub through-behind : (at : Oid) (m : Option Mapped) (a b : List CellEvent) → mapped_through at m (a ++ b) ≡ mapped_through at (mapped_through at m a) b
through-behind at m [] b = refl
through-behind at m (e ∷ a) b = through-behind at (mapped_then at m e) a b

pub sound-mapped : (c : CellLog Kept) → IsSound c → (at : Oid) → option_map (λ (d : Dbuf Kept). mapped_of d.content) (dbuf_at at c.dbufs) ≡ mapped_through at (opened_mapped at c.opening) c.history
sound-mapped c sound at =
    (cell-is-in-outline sound.evicting c at).mapped
    ∙ (ap (mapped_at at) (outline-is-told c.limit c.opening c.history sound.bases (plain_cell sound.evicting c) sound.history.legal)
    ∙ mapped-told at c.limit c.opening c.history)

content-dirty : (c : Content) → not (is_clean (mapped_of c)) ≡ not (is_clean_content c)
content-dirty (content.Clean ptr) = refl
content-dirty (content.Dirty bytes) = refl

found-dirty : (o : Option (Dbuf Kept)) → is_dirty_mapped (option_map (λ (d : Dbuf Kept). mapped_of d.content) o) ≡ option_map_or is_dirty o false
found-dirty None = refl
found-dirty (Some d) = content-dirty d.content

pub sound-dirty : (c : CellLog Kept) → IsSound c → (at : Oid) → is_dirty_mapped (mapped_through at (opened_mapped at c.opening) c.history) ≡ dbuf_is is_dirty at c.dbufs
sound-dirty c sound at = ap is_dirty_mapped (sym (sound-mapped c sound at)) ∙ found-dirty (dbuf_at at c.dbufs)

-- ---- what is dirty was written

synced-clean : (m : Option Mapped) (ptr : Ptr) → is_dirty_mapped (option_map (λ x. Clean ptr) m) ≡ false
synced-clean None ptr = refl
synced-clean (Some m) ptr = refl

-- an event that doesn't write a block leaves it clean
then-clean : (at : Oid) (m : Option Mapped) (e : CellEvent) → is_write_of at e ≡ false → is_dirty_mapped m ≡ false → is_dirty_mapped (mapped_then at m e) ≡ false
then-clean at m (Get n b) un clean = clean
then-clean at m (Put n b size fill) un clean = rw un clean
then-clean at m (Patch n b from bytes) un clean = rw un clean
then-clean at m (Pin n b) un clean = clean
then-clean at m (Unpin n b) un clean = clean
then-clean at m (Load n b held) un clean = clean
then-clean at m (Evict n b) un clean = clean
then-clean at m (Synced n b ptr held) un clean = elim (cases_true (oid_eq at b)) [
  | inl here ↦ rw here (synced-clean m ptr)
  | inr far ↦ rw far clean
]
then-clean at m (End n) un clean = clean

through-written : (at : Oid) (m : Option Mapped) (es : List CellEvent) → is_dirty_mapped m ≡ false → is_dirty_mapped (mapped_through at m es) ≡ true → list_any (is_write_of at) es ≡ true
through-written at m [] clean dirty = absurd (let clash : false ≡ true = sym clean ∙ dirty in cc)
through-written at m (e ∷ es) clean dirty = elim (cases_true (is_write_of at e)) [
  | inl here ↦ any-first (is_write_of at) e es here
  | inr other ↦ any-right (is_write_of at) (e ∷ []) es (through-written at (mapped_then at m e) es (then-clean at m e other clean) dirty)
]

pub dirty-written : (c : CellLog Kept) → IsSound c → (front since : List CellEvent) → c.history ≡ front ++ since → IsCleanBehind c.opening front
    → (at : Oid) → dbuf_is is_dirty at c.dbufs ≡ true → list_any (is_write_of at) since ≡ true
dirty-written c sound front since split clean at dirty =
    let m = opened_mapped at c.opening in
    let all : mapped_through at m c.history ≡ mapped_through at (mapped_through at m front) since = ap (mapped_through at m) split ∙ through-behind at m front since in
    through-written at (mapped_through at m front) since (clean at) (ap is_dirty_mapped (sym all) ∙ (sound-dirty c sound at ∙ dirty))

-- ---- where nothing is dirty

opened-clean : (o : Option Ptr) → is_dirty_mapped (option_map (λ (ptr : Ptr). Clean ptr) o) ≡ false
opened-clean None = refl
opened-clean (Some ptr) = refl

pub clean-at-first : (opening : List Mapping) → IsCleanBehind opening []
clean-at-first opening at = opened-clean _

module _ (n i : ℕ) (at : Oid) where
  -- it is this block of this cell
  abbrev is_here : Due → Bool
  is_here due = oid_eq at due.at && (due.cell == i)

  stays-clean : (xs : List SyncItem) (m : Option Mapped) → is_dirty_mapped m ≡ false → is_dirty_mapped (mapped_through at m (synced_in n i xs)) ≡ false
  stays-clean [] m clean = clean
  stays-clean (x ∷ xs) m clean = elim (cases_true (x.due.cell == i)) [
    | inl mine ↦ rw mine (stays-clean xs (mapped_then at m (Synced n x.due.at x.ptr x.held)) (then-clean at m (Synced n x.due.at x.ptr x.held) refl clean))
    | inr other ↦ rw other (stays-clean xs m clean)
  ]

  gets-clean : (xs : List SyncItem) (m : Option Mapped) → list_any (λ (x : SyncItem). is_here x.due) xs ≡ true → is_dirty_mapped (mapped_through at m (synced_in n i xs)) ≡ false
  gets-clean [] m among = absurd (let clash : false ≡ true = among in cc)
  gets-clean (x ∷ xs) m among = elim (cases_true (x.due.cell == i)) [
    | inl mine ↦
        let next : is_dirty_mapped (mapped_through at (mapped_then at m (Synced n x.due.at x.ptr x.held)) (synced_in n i xs)) ≡ false
        = elim (cases_true (oid_eq at x.due.at)) [
          | inl here ↦ rw here (stays-clean xs (option_map (λ y. Clean x.ptr) m) (synced-clean m x.ptr))
          | inr far ↦ rw far (gets-clean xs m (rw far at among))
        ] in
        rw mine next
    | inr other ↦ rw other (gets-clean xs m (past (oid_eq at x.due.at) (x.due.cell == i) _ other among))
  ]
    where
      past : (a b c : Bool) → b ≡ false → ((a && b) || c) ≡ true → c ≡ true
      past true true c none h = absurd (let clash : true ≡ false = none in cc)
      past true false c none h = h
      past false b c none h = h

  -- among the blocks that are written
  any-items : (held : Due → Bool) (group place : ℕ) (cells : List OnHeap) (dues : List Due) → list_any is_here dues ≡ true → list_any (λ (x : SyncItem). is_here x.due) (items_from held group place cells dues) ≡ true
  any-items held group place cells [] among = among
  any-items held group place cells (due ∷ dues) among = elim (cases_true (is_here due)) [
    | inl here ↦ rw here refl
    | inr far ↦ rw far (any-items held group (place + length (bytes_of_due cells due)) cells dues (rw far at among))
  ]

  -- among the dirty ones of its cell
  any-dirty : (ds : List (Dbuf Kept)) → dbuf_is is_dirty at ds ≡ true → list_any (oid_eq at) (dirty_oids ds) ≡ true
  any-dirty [] dirty = absurd (let clash : false ≡ true = dirty in cc)
  any-dirty (d ∷ ds) dirty = elim (cases_true (oid_eq at d.at)) [
    | inl here ↦ let its : is_dirty d ≡ true = rw here at dirty in rw its (rw here refl)
    | inr far ↦
        let rest = any-dirty ds (rw far at dirty) in
        elim (cases_true (is_dirty d)) [
          | inl its ↦ rw its (rw far rest)
          | inr clean ↦ rw clean rest
        ]
  ]

  any-dues : (oids : List Oid) → list_any (oid_eq at) oids ≡ true → list_any is_here (map (due_in i) oids) ≡ true
  any-dues [] among = absurd (let clash : false ≡ true = among in cc)
  any-dues (b ∷ oids) among =
      let same : (i == i) ≡ true = eq-eqb i i refl in
      elim (cases_true (oid_eq at b)) [
        | inl here ↦ rw here (rw same refl)
        | inr far ↦ rw far (any-dues oids (rw far at among))
      ]

  -- and among those of all cells
  any-from : (k j : ℕ) (cs : List OnHeap) (c : OnHeap) → slice_get cs j ≡ Some c → k + j ≡ i → dbuf_is is_dirty at c.value.dbufs ≡ true → list_any is_here (dues_from k cs) ≡ true
  any-from k j [] c there sum dirty = absurd (let clash : ◌≡◌ {A = Option OnHeap} None (Some c) = there in cc)
  any-from k zero (x ∷ cs) c there sum dirty =
      let is : x ≡ c = some-cell x c there in
      let here : k ≡ i = omega (arith, sum) in
      any-left is_here (dues_in k x.value.dbufs) (dues_from (suc k) cs)
      (subst (λ (z : ℕ). list_any is_here (dues_in z x.value.dbufs) ≡ true) (sym here) (any-dues (dirty_oids x.value.dbufs) (any-dirty x.value.dbufs (ap (λ (y : OnHeap). dbuf_is is_dirty at y.value.dbufs) is ∙ dirty))))
    where
      some-cell : (a b : OnHeap) → ◌≡◌ {A = Option OnHeap} (Some a) (Some b) → a ≡ b
      some-cell a b e = cc
  any-from k (suc j) (x ∷ cs) c there sum dirty = any-right is_here (dues_in k x.value.dbufs) (dues_from (suc k) cs) (any-from (suc k) j cs c there (omega (arith, sum)) dirty)

-- behind the entries of a sync nothing is dirty
pub clean-synced : (held : Due → Bool) (group next n : ℕ) (cells : List OnHeap) (dues : List Due) → AreAllDirty cells dues → (i : ℕ) (c : OnHeap) → slice_get cells i ≡ Some c → IsSound c.value
    → IsCleanBehind c.value.opening (c.value.history ++ synced_in n i (items_from held group next cells dues))
clean-synced held group next n cells dues all i c there sound at =
    let m = opened_mapped at c.value.opening in
    let xs = items_from held group next cells dues in
    let before = mapped_through at m c.value.history in
    ap is_dirty_mapped (through-behind at m c.value.history (synced_in n i xs)) ∙ elim (cases_true (dbuf_is is_dirty at c.value.dbufs)) [
      | inl dirty ↦ gets-clean n i at xs before (any-items n i at held group next cells dues
          (sym (list_any-IsPermutation (is_here n i at) (dues_from 0 cells) dues all.all) ∙ any-from n i at 0 i cells c there (omega arith) dirty))
      | inr clean ↦ stays-clean n i at xs before (sound-dirty c.value sound at ∙ clean)
    ]
