-- What a sync writes of cells: which blocks are dirty, and how many bytes they have, goes by the outlines of the cells; and where their bytes are the same, so is where each is written (dbuf_sync_list).
use Rattle.std.proofs.Common.{◌≡◌, ◌≢◌, ◌⊎◌, ◌+◌, ℕ, zero, suc, Bool, true, false, not, if◌then◌else◌, List, [], ◌∷◌, ◌++◌, length, map, Option, Some, None, slice_get, refl, sym, ap, ◌∙◌, inl, inr, arith}
use Rattle.std.specs.List.{AllByRecursion}
use Rattle.std.specs.Option.{option_map, option_map_or}
use Rattle.std.specs.Str.{bytes_eq}
use Rattle.std.proofs.lemmas.Bool.{cases_Bool, false≢true}
use Rattle.std.proofs.lemmas.Slice.Eq.{bytes_eq-Decides}
use Rattle.dbuf_cells.specs.Turns.{OnHeap}
use Rattle.dbuf_cells.specs.declared.kept.Kept.{Kept}
use Rattle.dbuf_state.specs.Dbufs.{dirty_oids, is_cached, is_clean, plain_block, plain_dbuf}
use Rattle.dbuf_state.specs.Dbufs as concrete
use Rattle.dbuf_state.specs.Objects as plain
use Rattle.dbuf_state.specs.Oids.{item_at}
use Rattle.dbuf_state.specs.Outline.{OutlineDbuf, mapped_in, outline_dbuf}
use Rattle.dbuf_state.specs.Outline as outline
use Rattle.dbuf_state.specs.declared.dbuf.Content.{Content}
use Rattle.dbuf_state.specs.declared.dbuf.Content.TheVariants.{Clean, Dirty}
use Rattle.dbuf_state.specs.declared.dbuf.Dbuf.{Dbuf}
use Rattle.dbuf_state.specs.declared.oid.Oid.{Oid}
use Rattle.dbuf_state.specs.declared.state.DbState.{DbState}
use Rattle.dbuf_state.specs.declared.state.Mapped.{Mapped}
use Rattle.dbuf_state.specs.declared.state.Mapped.TheVariants as mapped
use Rattle.dbuf_state.proofs.Changes.{view-found}
use Rattle.txg_sync.specs.Items.{SyncItem, at_place, bytes_of_due, dirty_bytes_at, due_in, dues_from, items_from, need_of, ptr_at, written_in}
use Rattle.txg_sync.specs.declared.due.Due.{Due}

-- ---- one cell

abbrev is_dirty : Mapped → Bool
is_dirty (mapped.Clean ptr) = false
is_dirty (mapped.Dirty size) = true

abbrev size_in : Mapped → ℕ
size_in (mapped.Clean ptr) = 0
size_in (mapped.Dirty size) = size

dirty-plain : (content : Content) (state : DbState) → not (is_clean content) ≡ is_dirty (mapped_in (plain_block content state))
dirty-plain (Dirty bytes) state = refl
dirty-plain (Clean ptr) state = elim (cases_Bool (is_cached state)) [
  | inl cached ↦ rw cached refl
  | inr other ↦ rw other refl
]

size-plain : (content : Content) (state : DbState) → length (written_in content) ≡ size_in (mapped_in (plain_block content state))
size-plain (Dirty bytes) state = refl
size-plain (Clean ptr) state = elim (cases_Bool (is_cached state)) [
  | inl cached ↦ rw cached refl
  | inr other ↦ rw other refl
]

abbrev pub view_of_dbufs : List (Dbuf Kept) → List OutlineDbuf
view_of_dbufs ds = map outline_dbuf (map plain_dbuf ds)

abbrev oids_of : List OutlineDbuf → List Oid
oids_of [] = []
oids_of (d ∷ ds) = if is_dirty d.mapped then d.at ∷ oids_of ds else oids_of ds

oids-plain : (ds : List (Dbuf Kept)) → dirty_oids ds ≡ oids_of (view_of_dbufs ds)
oids-plain [] = refl
oids-plain (d ∷ ds) = λ i. if dirty-plain d.content d.state i then d.at ∷ oids-plain ds i else oids-plain ds i

abbrev size_at : Oid → List OutlineDbuf → ℕ
size_at at ds = option_map_or (λ (d : OutlineDbuf). size_in d.mapped) (item_at outline.dbuf_oid at ds) 0

-- the dbuf of an Oid, plainly and in outline
pub plain-found : (at : Oid) (ds : List (Dbuf Kept)) → item_at plain.dbuf_oid at (map plain_dbuf ds) ≡ option_map plain_dbuf (concrete.dbuf_at at ds)
plain-found at ds = view-found concrete.dbuf_oid plain.dbuf_oid plain_dbuf (λ d. refl) at ds

outline-found : (at : Oid) (ds : List (Dbuf Kept)) → item_at outline.dbuf_oid at (view_of_dbufs ds) ≡ option_map outline_dbuf (option_map plain_dbuf (concrete.dbuf_at at ds))
outline-found at ds = view-found plain.dbuf_oid outline.dbuf_oid outline_dbuf (λ d. refl) at (map plain_dbuf ds) ∙ ap (option_map outline_dbuf) (plain-found at ds)

sizes-plain : (at : Oid) (ds : List (Dbuf Kept)) → length (dirty_bytes_at at ds) ≡ size_at at (view_of_dbufs ds)
sizes-plain at ds = found (concrete.dbuf_at at ds) ∙ ap (λ (o : Option OutlineDbuf). option_map_or (λ (d : OutlineDbuf). size_in d.mapped) o 0) (sym (outline-found at ds))
  where
    found : (o : Option (Dbuf Kept)) → length (option_map_or (λ (d : Dbuf Kept). written_in d.content) o []) ≡ option_map_or (λ (d : OutlineDbuf). size_in d.mapped) (option_map outline_dbuf (option_map plain_dbuf o)) 0
    found None = refl
    found (Some d) = size-plain d.content d.state

-- ---- all cells

-- the outlines of their dbufs, cell by cell
abbrev pub view_of : OnHeap → List OutlineDbuf
view_of c = view_of_dbufs c.value.dbufs

abbrev pub views_of : List OnHeap → List (List OutlineDbuf)
views_of cells = map view_of cells

abbrev dues_of : ℕ → List (List OutlineDbuf) → List Due
dues_of i [] = []
dues_of i (view ∷ views) = map (due_in i) (oids_of view) ++ dues_of (suc i) views

dues-plain : (i : ℕ) (cells : List OnHeap) → dues_from i cells ≡ dues_of i (views_of cells)
dues-plain i [] = refl
dues-plain i (c ∷ cells) = λ j. map (due_in i) (oids-plain c.value.dbufs j) ++ dues-plain (suc i) cells j

sizes-from : (at : Oid) (cells : List OnHeap) (i : ℕ) → length (option_map_or (λ (c : OnHeap). dirty_bytes_at at c.value.dbufs) (slice_get cells i) []) ≡ option_map_or (size_at at) (slice_get (views_of cells) i) 0
sizes-from at [] i = refl
sizes-from at (c ∷ cells) zero = sizes-plain at c.value.dbufs
sizes-from at (c ∷ cells) (suc i) = sizes-from at cells i

-- cells of the same outlines have the same dirty blocks
pub dues-same : (cells others : List OnHeap) → views_of others ≡ views_of cells → dues_from 0 others ≡ dues_from 0 cells
dues-same cells others same = dues-plain 0 others ∙ (ap (dues_of 0) same ∙ sym (dues-plain 0 cells))

-- of as many bytes
pub sizes-same : (cells others : List OnHeap) → views_of others ≡ views_of cells → (due : Due) → length (bytes_of_due others due) ≡ length (bytes_of_due cells due)
sizes-same cells others same due =
    sizes-from due.at others due.cell ∙ (ap (λ (views : List (List OutlineDbuf)). option_map_or (size_at due.at) (slice_get views due.cell) 0) same ∙ sym (sizes-from due.at cells due.cell))

-- so many in all
pub need-same : (cells others : List OnHeap) → ((due : Due) → length (bytes_of_due others due) ≡ length (bytes_of_due cells due)) → (dues : List Due) → need_of others dues ≡ need_of cells dues
need-same cells others same [] = refl
need-same cells others same (due ∷ dues) = λ i. same due i + need-same cells others same dues i

-- a dirty block has the same bytes in both
abbrev pub IsEven : (cells others : List OnHeap) → Due → Type 0
IsEven cells others due = bytes_of_due others due ≡ bytes_of_due cells due

module _ (cells others : List OnHeap) where
  at-same : (held : Due → Bool) (group place : ℕ) (due : Due) → IsEven cells others due → at_place held group place others due ≡ at_place held group place cells due
  at-same held group place due same = λ i. record { due = due; bytes = same i; ptr = ptr_at group place (same i); held = held due }

  -- blocks of the same bytes are written to the same places
  pub items-same : (held : Due → Bool) (group place : ℕ) (dues : List Due) → AllByRecursion (IsEven cells others) dues → items_from held group place others dues ≡ items_from held group place cells dues
  items-same held group place [] even = refl
  items-same held group place (due ∷ dues) even =
      let here : items_from held group place others (due ∷ dues) ≡ at_place held group place cells due ∷ items_from held group (place + length (bytes_of_due cells due)) others dues =
      λ i. at-same held group place due even.0 i ∷ items_from held group (place + length (even.0 i)) others dues in
      here ∙ ap (λ (xs : List SyncItem). at_place held group place cells due ∷ xs) (items-same held group (place + length (bytes_of_due cells due)) dues even.1)

  -- one of these blocks has other bytes
  pub record DueApart (dues : List Due) : Type 0 where
    pub k : ℕ
    pub due : Due
    pub at : slice_get dues k ≡ Some due
    pub apart : bytes_of_due others due ≢ bytes_of_due cells due

  -- all have the same bytes, or one has not
  pub even-or-apart : (dues : List Due) → AllByRecursion (IsEven cells others) dues ⊎ DueApart dues
  even-or-apart [] = inl tt
  even-or-apart (due ∷ dues) = elim (cases_Bool (bytes_eq (bytes_of_due others due) (bytes_of_due cells due))) [
    | inr differs ↦ inr (record { k = 0; due = due; at = refl; apart = λ equal. false≢true (sym differs ∙ (bytes_eq-Decides (bytes_of_due others due) (bytes_of_due cells due)).1 equal) })
    | inl same ↦ (elim (even-or-apart dues) [
      | inl rest ↦ inl ((bytes_eq-Decides (bytes_of_due others due) (bytes_of_due cells due)).0 same, rest)
      | inr x ↦ inr (record { k = suc x.k; due = x.due; at = x.at; apart = x.apart })
    ])
  ]

-- views are the same where they are cell by cell
pub views-by : (cells others : List OnHeap) → length cells ≡ length others → ((i : ℕ) (c d : OnHeap) → slice_get cells i ≡ Some c → slice_get others i ≡ Some d → view_of d ≡ view_of c) → views_of others ≡ views_of cells
views-by [] [] many each = refl
views-by [] (d ∷ others) many each = absurd (omega (arith, many))
views-by (c ∷ cells) [] many each = absurd (omega (arith, many))
views-by (c ∷ cells) (d ∷ others) many each = λ j. each 0 c d refl refl j ∷ views-by cells others (omega (arith, many)) (λ i. each (suc i)) j

-- ---- where a dirty block is

-- the dbuf of a block that has bytes to write
pub record DueFound (cells : List OnHeap) (due : Due) : Type 0 where
  pub cell : OnHeap
  pub at : slice_get cells due.cell ≡ Some cell
  pub dbuf : Dbuf Kept
  pub found : concrete.dbuf_at due.at cell.value.dbufs ≡ Some dbuf
  pub dirty : dbuf.content ≡ Dirty (bytes_of_due cells due)

abbrev bytes_in : Option (Dbuf Kept) → List ℕ
bytes_in o = option_map_or (λ (d : Dbuf Kept). written_in d.content) o []

-- the Oid has no dirty bytes, or its dbuf has these
abbrev NoneOrDirty : Oid → List (Dbuf Kept) → Type 0
NoneOrDirty at ds = (dirty_bytes_at at ds ≡ []) ⊎ ((x : Dbuf Kept) × (concrete.dbuf_at at ds ≡ Some x) × (x.content ≡ Dirty (dirty_bytes_at at ds)))

dirty-in : (at : Oid) (ds : List (Dbuf Kept)) (x : Dbuf Kept) (c : Content) → x.content ≡ c → concrete.dbuf_at at ds ≡ Some x → NoneOrDirty at ds
dirty-in at ds x (Clean ptr) has is = inl (ap bytes_in is ∙ ap written_in has)
dirty-in at ds x (Dirty bytes) has is = inr (x, is, has ∙ ap (λ (l : List ℕ). Dirty l) (sym (ap bytes_in is ∙ ap written_in has)))

dirty-found : (at : Oid) (ds : List (Dbuf Kept)) → NoneOrDirty at ds
dirty-found at ds = go (concrete.dbuf_at at ds) refl
  where
    go : (o : Option (Dbuf Kept)) → concrete.dbuf_at at ds ≡ o → NoneOrDirty at ds
    go None is = inl (ap bytes_in is)
    go (Some x) is = dirty-in at ds x x.content refl is

abbrev bytes_there : Oid → Option OnHeap → List ℕ
bytes_there at o = option_map_or (λ (c : OnHeap). dirty_bytes_at at c.value.dbufs) o []

due-found : (cells : List OnHeap) (due : Due) → (bytes_of_due cells due ≡ []) ⊎ DueFound cells due
due-found cells due = go (slice_get cells due.cell) refl
  where
    go : (o : Option OnHeap) → slice_get cells due.cell ≡ o → (bytes_of_due cells due ≡ []) ⊎ DueFound cells due
    go None is = inl (ap (bytes_there due.at) is)
    go (Some c) is = elim (dirty-found due.at c.value.dbufs) [
      | inl none ↦ inl (ap (bytes_there due.at) is ∙ none)
      | inr x ↦ inr (record { cell = c; at = is; dbuf = x.0; found = x.1; dirty = x.2 ∙ ap (λ (l : List ℕ). Dirty l) (sym (ap (bytes_there due.at) is)) })
    ]

none-long : (xs : List ℕ) → length xs ≡ 0 → xs ≡ []
none-long [] is = refl
none-long (x ∷ xs) is = absurd (omega (arith, is))

-- where two cells have other bytes of a block, of one size, both have bytes of it to write
pub both-found : (cells others : List OnHeap) (due : Due) → length (bytes_of_due others due) ≡ length (bytes_of_due cells due) → bytes_of_due others due ≢ bytes_of_due cells due → DueFound cells due × DueFound others due
both-found cells others due size apart = elim (due-found cells due) [
  | inl none ↦ absurd (apart (none-long (bytes_of_due others due) (size ∙ ap length none) ∙ sym none))
  | inr one ↦ (elim (due-found others due) [
    | inl none ↦ absurd (apart (none ∙ sym (none-long (bytes_of_due cells due) (sym size ∙ ap length none))))
    | inr two ↦ (one, two)
  ])
]
