-- Two answers to one get, of cells to which the same had been done: they are the same, or two contents of one digest are shown, or the cell has come by one history to two states.
use Rattle.std.proofs.Common.{◌≡◌, ◌≢◌, ◌⊎◌, ◌==◌, ℕ, List, length, Option, Some, None, inl, inr, refl, sym, ap, subst, ◌∙◌, eq-eqb}
use Rattle.std.proofs.lemmas.Bool.{cases_Bool, eqb-true, false≢true}
use Rattle.std.proofs.lemmas.Slice.Eq.{bytes_eq-Decides}
use Rattle.std.specs.Option.{option_map}
use Rattle.std.specs.Str.{bytes_eq}
use Rattle.blk_ptr.specs.declared.ptr.Ptr.{Ptr}
use Rattle.blk_ptr.specs.Ptr.{IsOf}
use Rattle.dbuf_state.specs.Answers.{AreBytesAt, IsAnswer, IsAnswerAfter}
use Rattle.dbuf_state.specs.Dbufs.{window_of}
use Rattle.dbuf_state.specs.History.{Collide, Leads}
use Rattle.dbuf_state.specs.Objects.{AreBytesOf, Block, Cached, Dirty, PlainCell, PlainDbuf, Uncached, opening_cell}
use Rattle.dbuf_state.specs.Objects as plain
use Rattle.dbuf_state.specs.Outline.{Outline, OutlineDbuf, mapped_at, mapped_in, outline_after, outline_dbuf, outline_of}
use Rattle.dbuf_state.specs.Outline as outline
use Rattle.dbuf_state.specs.declared.event.CellEvent.{CellEvent}
use Rattle.dbuf_state.specs.declared.oid.Oid.{Oid}
use Rattle.dbuf_state.specs.declared.state.Mapped.{Mapped}
use Rattle.dbuf_state.specs.declared.state.Mapped.TheVariants as mapped
use Rattle.dbuf_state.specs.declared.state.Mapping.{Mapping}
use Rattle.dbuf_state.specs.declared.window.Window.{Window}
use Rattle.dbuf_state.proofs.Changes.{view-found}
use Rattle.dbuf_state.proofs.OutlineLemmas.{outline-is-told}
use Rattle.dbuf_state.proofs.ReplayLemmas.{ends-alike}
use Rattle.vdev_io.specs.declared.device.CacheDev.{Ghosts as Devices}
use Rattle.vdev_io.specs.declared.pool.Pool.{Ghosts}
use Rattle.trace_text.specs.declared.op.Op.TheVariants as ops
use Rattle.trace_text.specs.declared.reply.Reply.{Reply}
use Rattle.trace_text.specs.declared.reply.Reply.TheVariants.{Got}
use Rattle.trace_text.specs.declared.trace.Trace.{Trace}
use Rattle.trace_run.specs.Feeds.{FeedDone}
use Rattle.trace_run.specs.Openings.{opening_map}
use Rattle.trace_run.specs.dbufs.Objects.{Work}
use Rattle.arc_table.specs.Geometry.{IsCell}
use Rattle.dbuf_cells.specs.Places.{cell_of}
use Rattle.run_laws.specs.Alike.{GotDirty, TwoContents}
use Rattle.run_laws.proofs.Steps.{PartsAt}

-- two contents of a clean block's pointer are shown
pub record GotTwo (o : Outline) (at : Oid) (window : Window) (r q : Reply) : Type 0 where
  pub ptr : Ptr
  pub two : TwoContents ptr
  pub there : mapped_at at o ≡ Some (mapped.Clean ptr)
  pub shown : r ≡ Got (length two.one) (window_of window two.one)
  pub other_shown : q ≡ Got (length two.other) (window_of window two.other)
  pub differ : window_of window two.other ≢ window_of window two.one

-- the same events lead from the opening to two states, whose dirty bytes these answers show, and they differ
pub record GotReplays (limit : ℕ) (opening : List Mapping) (front : List CellEvent) (at : Oid) (window : Window) (r q : Reply) : Type 0 where
  pub bases : List (List ℕ)
  pub other_bases : List (List ℕ)
  pub state : PlainCell
  pub other_state : PlainCell
  pub leads : Leads (opening_cell limit opening) front bases state
  pub other_leads : Leads (opening_cell limit opening) front other_bases other_state
  pub collide : Collide bases other_bases
  pub made : GotDirty state at window r
  pub other_made : GotDirty other_state at window q
  pub differ : q ≢ r

-- two answers are the same, or they differ
got-or-apart : (size z : ℕ) (xs ys : List ℕ) → (Got z ys ≡ Got size xs) ⊎ (Got z ys ≢ Got size xs)
got-or-apart size z xs ys = elim (cases_Bool (bytes_eq ys xs)) [
  | inr differs ↦ inr (λ is. let shown : ys ≡ xs = cc in false≢true (sym differs ∙ (bytes_eq-Decides ys xs).1 shown))
  | inl same ↦ (elim (cases_Bool (z == size)) [
    | inr far ↦ inr (λ is. let long : z ≡ size = cc in false≢true (sym far ∙ eq-eqb z size long))
    | inl near ↦
        let long : z ≡ size = eqb-true z size near in
        let shown : ys ≡ xs = (bytes_eq-Decides ys xs).0 same in
        inl (λ h. Got (long h) (shown h))
  ])
]

-- what a plain cell has of a block, its outline has
mapped-plain : (c : PlainCell) (at : Oid) (d : PlainDbuf) → plain.dbuf_at at c ≡ Some d → mapped_at at (outline_of c) ≡ Some (mapped_in d.block)
mapped-plain c at d found =
    let there : outline.dbuf_at at (outline_of c) ≡ Some (outline_dbuf d) = view-found plain.dbuf_oid outline.dbuf_oid outline_dbuf (λ d. refl) at c.dbufs ∙ ap (option_map outline_dbuf) found in
    ap (option_map (λ (d : OutlineDbuf). d.mapped)) there

module _ (o : Outline) (at : Oid) (window : Window) (size z : ℕ) (xs ys : List ℕ) where
  -- what they come to
  abbrev GotSo : Type 0
  GotSo = (Got z ys ≡ Got size xs) ⊎ GotTwo o at window (Got size xs) (Got z ys)

  -- of a clean block
  clean-got : (ptr : Ptr) (bytes others : List ℕ) → mapped_at at o ≡ Some (mapped.Clean ptr) → IsOf bytes ptr → IsOf others ptr → size ≡ length bytes → z ≡ length others
      → xs ≡ window_of window bytes → ys ≡ window_of window others → GotSo
  clean-got ptr bytes others there one other sized other_sized shown other_shown = elim (cases_Bool (bytes_eq ys xs)) [
    | inl same ↦
        let equal : ys ≡ xs = (bytes_eq-Decides ys xs).0 same in
        let long : z ≡ size = other_sized ∙ (other.size ∙ sym (sized ∙ one.size)) in
        inl (λ h. Got (long h) (equal h))
    | inr differs ↦
        let apart : ys ≢ xs = λ equal. false≢true (sym differs ∙ (bytes_eq-Decides ys xs).1 equal) in
        let two : TwoContents ptr = record {
          one = bytes;
          other = others;
          of = one;
          other_of = other;
          differ = λ equal. apart (other_shown ∙ (ap (window_of window) (sym equal) ∙ sym shown));
        } in
        inr (record {
          ptr = ptr;
          two = two;
          there = there;
          shown = λ h. Got (sized h) (shown h);
          other_shown = λ h. Got (other_sized h) (other_shown h);
          differ = λ equal. apart (other_shown ∙ (equal ∙ sym shown));
        })
  ]

  -- ---- at two cells of this outline

  ptr-same : (ptr p : Ptr) → mapped_at at o ≡ Some (mapped.Clean ptr) → mapped_at at o ≡ Some (mapped.Clean p) → ptr ≡ p
  ptr-same ptr p there elsewhere = let both : ◌≡◌ {A = Option Mapped} (Some (mapped.Clean ptr)) (Some (mapped.Clean p)) = sym there ∙ elsewhere in cc

  clean-or-dirty : (ptr : Ptr) (size : ℕ) → mapped_at at o ≡ Some (mapped.Clean ptr) → mapped_at at o ≡ Some (mapped.Dirty size) → ⊥
  clean-or-dirty ptr size there elsewhere = let both : ◌≡◌ {A = Option Mapped} (Some (mapped.Clean ptr)) (Some (mapped.Dirty size)) = sym there ∙ elsewhere in cc

  -- they are both clean, with one pointer, or both dirty
  abbrev BothDirty : (c d : PlainCell) → Type 0
  BothDirty c d = GotDirty c at window (Got size xs) × GotDirty d at window (Got z ys)

  module _ (c d : PlainCell) (one : IsAnswer c at window size xs) (other : IsAnswer d at window z ys) where
    clean-both : (ptr p : Ptr) → mapped_at at o ≡ Some (mapped.Clean ptr) → mapped_at at o ≡ Some (mapped.Clean p) → IsOf one.bytes ptr → IsOf other.bytes p → GotSo ⊎ BothDirty c d
    clean-both ptr p there elsewhere h k =
        inl (clean-got ptr one.bytes other.bytes there h (subst (λ (q : Ptr). IsOf other.bytes q) (sym (ptr-same ptr p there elsewhere)) k) one.sized other.sized one.window other.window)

    blocks-got : (x y : PlainDbuf) → plain.dbuf_at at c ≡ Some x → plain.dbuf_at at d ≡ Some y → (b e : Block) → x.block ≡ b → y.block ≡ e → mapped_at at o ≡ Some (mapped_in b) → mapped_at at o ≡ Some (mapped_in e)
        → AreBytesOf one.bytes b → AreBytesOf other.bytes e → GotSo ⊎ BothDirty c d
    blocks-got x y found elsewhere (Uncached ptr) (Uncached p) is its there other_there h k = clean-both ptr p there other_there h k
    blocks-got x y found elsewhere (Uncached ptr) (Cached p) is its there other_there h k = clean-both ptr p there other_there h k
    blocks-got x y found elsewhere (Cached ptr) (Uncached p) is its there other_there h k = clean-both ptr p there other_there h k
    blocks-got x y found elsewhere (Cached ptr) (Cached p) is its there other_there h k = clean-both ptr p there other_there h k
    blocks-got x y found elsewhere (Uncached ptr) (Dirty w) is its there other_there h k = absurd (clean-or-dirty ptr (length w) there other_there)
    blocks-got x y found elsewhere (Cached ptr) (Dirty w) is its there other_there h k = absurd (clean-or-dirty ptr (length w) there other_there)
    blocks-got x y found elsewhere (Dirty w) (Uncached p) is its there other_there h k = absurd (clean-or-dirty p (length w) other_there there)
    blocks-got x y found elsewhere (Dirty w) (Cached p) is its there other_there h k = absurd (clean-or-dirty p (length w) other_there there)
    blocks-got x y found elsewhere (Dirty w) (Dirty v) is its there other_there h k =
        let sized : size ≡ length one.bytes = one.sized in
        let shown : xs ≡ window_of window one.bytes = one.window in
        let other_sized : z ≡ length other.bytes = other.sized in
        let other_shown : ys ≡ window_of window other.bytes = other.window in
        inr (
          record { dbuf = x; there = found; bytes = one.bytes; dirty = is ∙ ap (λ (l : List ℕ). Dirty l) h; got = λ i. Got (sized i) (shown i) },
          record { dbuf = y; there = elsewhere; bytes = other.bytes; dirty = its ∙ ap (λ (l : List ℕ). Dirty l) k; got = λ i. Got (other_sized i) (other_shown i) },
        )

    cells-got : outline_of c ≡ o → outline_of d ≡ o → GotSo ⊎ BothDirty c d
    cells-got is its = go (plain.dbuf_at at c) (plain.dbuf_at at d) refl refl one.of other.of
      where
        go : (p q : Option PlainDbuf) → plain.dbuf_at at c ≡ p → plain.dbuf_at at d ≡ q → AreBytesAt one.bytes p → AreBytesAt other.bytes q → GotSo ⊎ BothDirty c d
        go None None found elsewhere h k = absurd h
        go None (Some y) found elsewhere h k = absurd h
        go (Some x) None found elsewhere h k = absurd k
        go (Some x) (Some y) found elsewhere h k =
            blocks-got x y found elsewhere x.block y.block refl refl (ap (mapped_at at) (sym is) ∙ mapped-plain c at x found) (ap (mapped_at at) (sym its) ∙ mapped-plain d at y elsewhere) h k

-- of one state a get shows one list of dirty bytes
got-one : (c : PlainCell) (at : Oid) (window : Window) (r q : Reply) → GotDirty c at window r → GotDirty c at window q → q ≡ r
got-one c at window r q one other =
    let there : ◌≡◌ {A = Option PlainDbuf} (Some other.dbuf) (Some one.dbuf) = sym other.there ∙ one.there in
    let dbuf : other.dbuf ≡ one.dbuf = cc in
    let block : Dirty other.bytes ≡ Dirty one.bytes = sym other.dirty ∙ (ap (λ (d : PlainDbuf). d.block) dbuf ∙ one.dirty) in
    let bytes : other.bytes ≡ one.bytes = cc in
    other.got ∙ ((λ i. Got (length (bytes i)) (window_of window (bytes i))) ∙ sym one.got)

-- behind the same events
pub answers-got : (limit : ℕ) (opening : List Mapping) (front : List CellEvent) (at : Oid) (window : Window) (size z : ℕ) (xs ys : List ℕ) → IsAnswerAfter limit opening front at window size xs
    → IsAnswerAfter limit opening front at window z ys
    → ((Got z ys ≡ Got size xs) ⊎ GotTwo (outline_after limit opening front) at window (Got size xs) (Got z ys)) ⊎ GotReplays limit opening front at window (Got size xs) (Got z ys)
answers-got limit opening front at window size z xs ys one other =
    elim (cells-got (outline_after limit opening front) at window size z xs ys one.cell other.cell one.answer other.answer (outline-is-told limit opening front one.bases one.cell one.legal)
    (outline-is-told limit opening front other.bases other.cell other.legal)) [
      | inl so ↦ inl so
      | inr dirty ↦ (elim (got-or-apart size z xs ys) [
        | inl equal ↦ inl (inl equal)
        | inr differ ↦ (elim (ends-alike (opening_cell limit opening) front one.bases other.bases one.cell other.cell one.legal other.legal) [
          | inl same ↦ absurd (differ (got-one one.cell at window (Got size xs) (Got z ys) dirty.0 (subst (λ (c : PlainCell). GotDirty c at window (Got z ys)) (sym same.1) dirty.1)))
          | inr collide ↦ inr (record {
            bases = one.bases;
            other_bases = other.bases;
            state = one.cell;
            other_state = other.cell;
            leads = one.legal;
            other_leads = other.legal;
            collide = collide;
            made = dirty.0;
            other_made = dirty.1;
            differ = differ;
          })
        ])
      ])
    ]

module _ {P D : Type 0} (pools : Ghosts P) (devices : Devices D) (trace : Trace) where
  -- A get of a block of a cell that came to this is answered the same in two runs, or they part at it.
  pub got-alike : (cells : ℕ → List CellEvent) (n t : ℕ) (at : Oid) (window : Window) (size z : ℕ) (shown s : List ℕ) (w v : Work) (here there : List FeedDone) → IsCell trace.config (cell_of trace.config.cells at)
      → IsAnswerAfter trace.config.dbuf_bytes (opening_map trace (cell_of trace.config.cells at)) (cells (cell_of trace.config.cells at)) at window size shown
      → IsAnswerAfter trace.config.dbuf_bytes (opening_map trace (cell_of trace.config.cells at)) (cells (cell_of trace.config.cells at)) at window z s
      → (Got z s ≡ Got size shown) ⊎ PartsAt pools devices trace cells (record { op = ops.Get n t at window; reply = Got size shown; work = w }) (record { op = ops.Get n t at window; reply = Got z s; work = v }) here there
  got-alike cells n t at window size z shown s w v here there is one other =
      let i : ℕ = cell_of trace.config.cells at in
      elim (answers-got trace.config.dbuf_bytes (opening_map trace i) (cells i) at window size z shown s one other) [
        | inl came ↦ elim came [
          | inl same ↦ inl same
          | inr two ↦ inr (PartsAt.shows two.ptr two.two (two.there, two.shown, two.other_shown, two.differ))
        ]
        | inr r ↦ inr (PartsAt.replays i is r.bases r.other_bases r.state r.other_state r.leads r.other_leads r.collide (refl, r.made, r.other_made, r.differ))
      ]
