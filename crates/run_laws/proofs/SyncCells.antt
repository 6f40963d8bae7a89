-- The cells that two syncs took, to which the same had been done: they have the same outlines, so the same dirty blocks; and a block of which they have other bytes is of a cell that has come by one history to two
-- states (spa_sync, dbuf_sync_list).
use Rattle.std.proofs.Common.{◌≡◌, ◌<◌, ◌+◌, ℕ, zero, suc, IsPermutation, List, [], ◌∷◌, length, Option, Some, None, slice_get, refl, sym, ap, ◌∙◌, subst, inl, inr, Bool}
use Rattle.std.specs.Option.{option_map}
use Rattle.std.proofs.lemmas.Option.{slice_get_within}
use Rattle.arc_table.specs.Geometry.{IsCell}
use Rattle.dbuf_cells.specs.Turns.{OnHeap}
use Rattle.dbuf_state.specs.Dbufs.{plain_block, plain_dbuf}
use Rattle.dbuf_state.specs.History.{Collide, Leads}
use Rattle.dbuf_state.specs.Objects.{Dirty, PlainCell, PlainDbuf, dbuf_at, opening_cell}
use Rattle.dbuf_state.specs.Outline.{Outline, outline_after, outline_of}
use Rattle.dbuf_state.specs.Soundness.{IsSound, plain_cell}
use Rattle.dbuf_state.specs.declared.dbuf.Content.{Content}
use Rattle.dbuf_state.specs.declared.event.CellEvent.{CellEvent}
use Rattle.dbuf_state.specs.declared.event.CellEvent.TheVariants.{Synced as WasSynced}
use Rattle.dbuf_state.specs.declared.state.Mapping.{Mapping}
use Rattle.dbuf_state.proofs.OutlineLemmas.{outline-is-told}
use Rattle.dbuf_state.proofs.ReplayLemmas.{ends-alike}
use Rattle.trace_text.specs.declared.trace.Trace.{Trace}
use Rattle.txg_sync.specs.Items.{SyncItem, bytes_of_due, dues_from, items_from, ptr_at}
use Rattle.txg_sync.specs.Syncing.{AreAllDirty}
use Rattle.txg_sync.specs.declared.due.Due.{Due}
use Rattle.trace_run.specs.Deeds.{Noted}
use Rattle.trace_run.specs.Openings.{opening_map}
use Rattle.trace_run.specs.Syncing.{noted_of}
use Rattle.trace_run.specs.dbufs.Objects.{Work}
use Rattle.trace_run.specs.one_caller.Sequence.{TakesCells}
use Rattle.run_laws.specs.Alike.{WritesTwo, WroteFrom}
use Rattle.run_laws.proofs.PlainDues.{DueApart, DueFound, both-found, dues-same, plain-found, sizes-same, view_of, views-by, views_of}
use Rattle.run_laws.proofs.Sorted.{dues-one}

-- cells of the same outlines have the same dirty blocks, in one order
pub dirty-one : (cells others : List OnHeap) (dues ends : List Due) → views_of others ≡ views_of cells → AreAllDirty cells dues → AreAllDirty others ends → ends ≡ dues
dirty-one cells others dues ends same one other =
    sym (dues-one (dues_from 0 cells) dues ends one.rising one.all other.rising (subst (λ (from : List Due). IsPermutation from ends) (dues-same cells others same) other.all))

-- ---- what was noted of a block

due-same : (x y : Due) → ◌≡◌ {A = Option Due} (Some x) (Some y) → x ≡ y
due-same x y is = cc

-- at the place of a block it is noted that its bytes were written
abbrev note_of : (held : Due → Bool) → (n group place : ℕ) → List OnHeap → Due → Noted
note_of held n group place cells due = record { cell = due.cell; event = WasSynced n due.at (ptr_at group place (bytes_of_due cells due)) (held due) }

note-at : (held : Due → Bool) (n group place : ℕ) (cells : List OnHeap) (dues : List Due) (k : ℕ) (due : Due) → slice_get dues k ≡ Some due → (p : ℕ) × (slice_get (noted_of n (items_from held group place cells dues)) k ≡ Some (note_of held n group p cells due))
note-at held n group place cells [] k due at = absurd (let clash : ◌≡◌ {A = Option Due} None (Some due) = at in cc)
note-at held n group place cells (x ∷ dues) zero due at = (place, ap (λ (d : Due). Some (note_of held n group place cells d)) (due-same x due at))
note-at held n group place cells (x ∷ dues) (suc k) due at = note-at held n group (place + length (bytes_of_due cells x)) cells dues k due at

-- one dbuf has one list of dirty bytes
dirty-same : (d e : PlainDbuf) (xs ys : List ℕ) → ◌≡◌ {A = Option PlainDbuf} (Some d) (Some e) → d.block ≡ Dirty xs → e.block ≡ Dirty ys → xs ≡ ys
dirty-same d e xs ys is one other =
    let same : d ≡ e = cc in
    let dirty : Dirty xs ≡ Dirty ys = sym one ∙ (ap (λ (x : PlainDbuf). x.block) same ∙ other) in
    cc

module _ (trace : Trace) where
  -- A cell that had come to this has come to two states: patches of clean blocks began from two contents of one digest. Two syncs wrote by them.
  pub record CollidesIn (cells : ℕ → List CellEvent) (noted other_noted : List Noted) : Type 0 where
    pub i : ℕ
    pub in_range : IsCell trace.config i
    pub bases : List (List ℕ)
    pub other_bases : List (List ℕ)
    pub state : PlainCell
    pub other_state : PlainCell
    pub leads : Leads (opening_cell trace.config.dbuf_bytes (opening_map trace i)) (cells i) bases state
    pub other_leads : Leads (opening_cell trace.config.dbuf_bytes (opening_map trace i)) (cells i) other_bases other_state
    pub collide : Collide bases other_bases
    pub writes : WritesTwo i state other_state noted other_noted

  -- a cell that a sync took stands as the lines before it lead there
  took-leads : (from : ℕ → List CellEvent) (work : Work) (cells : List OnHeap) (xs : List SyncItem) → TakesCells trace from work cells xs → (i : ℕ) (c : OnHeap) → (there : slice_get cells i ≡ Some c) → (sound : IsSound c.value)
      → Leads (opening_cell trace.config.dbuf_bytes (opening_map trace i)) (from i) sound.bases (plain_cell sound.evicting c.value)
  took-leads from work cells xs takes i c there sound =
      subst (λ (x : ℕ × List Mapping × List CellEvent). Leads (opening_cell x.0 x.1) x.2 sound.bases (plain_cell sound.evicting c.value)) (λ z. (takes.limit i c there z, takes.opening i c there z, takes.history i c there z)) sound.history.legal

  -- so a block that is dirty there was written of a state to which they lead
  wrote-there : (held : Due → Bool) (work : Work) (cells : List OnHeap) (group next : ℕ) (dues : List Due) (k : ℕ) (due : Due) → work.noted ≡ noted_of trace.config.callers (items_from held group next cells dues) → slice_get dues k ≡ Some due
      → (f : DueFound cells due) (sound : IsSound f.cell.value) → WroteFrom due.cell (plain_cell sound.evicting f.cell.value) due.at (bytes_of_due cells due) work.noted k
  wrote-there held work cells group next dues k due noted at f sound =
      let note = note-at held trace.config.callers group next cells dues k due at in
      record {
        dbuf = plain_dbuf f.dbuf;
        there = plain-found due.at f.cell.value.dbufs ∙ ap (option_map plain_dbuf) f.found;
        dirty = ap (λ (c : Content). plain_block c f.dbuf.state) f.dirty;
        n = trace.config.callers;
        ptr = ptr_at group note.0 (bytes_of_due cells due);
        held = held due;
        of = record { size = refl; digest = refl };
        note = ap (λ (ns : List Noted). slice_get ns k) noted ∙ note.1;
      }

  module _ (from other : ℕ → List CellEvent) (alike : (i : ℕ) → IsCell trace.config i → other i ≡ from i) (work other_work : Work) (cells others : List OnHeap) (xs ys : List SyncItem)
      (takes : TakesCells trace from work cells xs) (other_takes : TakesCells trace other other_work others ys) where
    -- the histories of both lead to their states
    one-leads : (i : ℕ) (c : OnHeap) → (there : slice_get cells i ≡ Some c) → (sound : IsSound c.value) → Leads (opening_cell trace.config.dbuf_bytes (opening_map trace i)) (from i) sound.bases (plain_cell sound.evicting c.value)
    one-leads i c there sound = took-leads from work cells xs takes i c there sound

    other-leads : (i : ℕ) → IsCell trace.config i → (c : OnHeap) → (there : slice_get others i ≡ Some c) → (sound : IsSound c.value) → Leads (opening_cell trace.config.dbuf_bytes (opening_map trace i)) (from i) sound.bases (plain_cell sound.evicting c.value)
    other-leads i is_cell c there sound =
        subst (λ (es : List CellEvent). Leads (opening_cell trace.config.dbuf_bytes (opening_map trace i)) es sound.bases (plain_cell sound.evicting c.value)) (alike i is_cell) (took-leads other other_work others ys other_takes i c there sound)

    its-cell : (i : ℕ) (c : OnHeap) → slice_get cells i ≡ Some c → IsCell trace.config i
    its-cell i c there = subst (λ (n : ℕ). i < n) takes.many (slice_get_within cells i c there)

    view-alike : (i : ℕ) (c d : OnHeap) → slice_get cells i ≡ Some c → slice_get others i ≡ Some d → view_of d ≡ view_of c
    view-alike i c d there elsewhere =
        let one : IsSound c.value = takes.sound i c there in
        let two : IsSound d.value = other_takes.sound i d elsewhere in
        let told : Outline = outline_after trace.config.dbuf_bytes (opening_map trace i) (from i) in
        let first : outline_of (plain_cell one.evicting c.value) ≡ told = outline-is-told trace.config.dbuf_bytes (opening_map trace i) (from i) one.bases (plain_cell one.evicting c.value) (one-leads i c there one) in
        let second : outline_of (plain_cell two.evicting d.value) ≡ told =
        outline-is-told trace.config.dbuf_bytes (opening_map trace i) (from i) two.bases (plain_cell two.evicting d.value) (other-leads i (its-cell i c there) d elsewhere two) in
        ap (λ (o : Outline). o.dbufs) (second ∙ sym first)

    -- they have the same outlines
    pub views-alike : views_of others ≡ views_of cells
    views-alike = views-by cells others (takes.many ∙ sym other_takes.many) view-alike

    module _ (held other_held : Due → Bool) (group next other_group other_next : ℕ) (dues ends : List Due) (listed : ends ≡ dues) (noted : work.noted ≡ noted_of trace.config.callers (items_from held group next cells dues))
        (other_noted : other_work.noted ≡ noted_of trace.config.callers (items_from other_held other_group other_next others ends)) where
      -- a block of which they have other bytes is of a cell that has come to two states
      pub apart-collides : DueApart cells others dues → CollidesIn from work.noted other_work.noted
      apart-collides x =
          let due : Due = x.due in
          let found = both-found cells others due (sizes-same cells others views-alike due) x.apart in
          let f : DueFound cells due = found.0 in
          let g : DueFound others due = found.1 in
          let one : IsSound f.cell.value = takes.sound due.cell f.cell f.at in
          let two : IsSound g.cell.value = other_takes.sound due.cell g.cell g.at in
          let is_cell : IsCell trace.config due.cell = its-cell due.cell f.cell f.at in
          let state : PlainCell = plain_cell one.evicting f.cell.value in
          let other_state : PlainCell = plain_cell two.evicting g.cell.value in
          let wrote = wrote-there held work cells group next dues x.k due noted x.at f one in
          let other_wrote = wrote-there other_held other_work others other_group other_next ends x.k due other_noted (ap (λ (ds : List Due). slice_get ds x.k) listed ∙ x.at) g two in
          let writes : WritesTwo due.cell state other_state work.noted other_work.noted = record { at = due.at; k = x.k; bytes = bytes_of_due cells due; others = bytes_of_due others due; differ = x.apart; wrote = wrote; other_wrote = other_wrote } in
          let first = one-leads due.cell f.cell f.at one in
          let second = other-leads due.cell is_cell g.cell g.at two in
          elim (ends-alike (opening_cell trace.config.dbuf_bytes (opening_map trace due.cell)) (from due.cell) one.bases two.bases state other_state first second) [
            | inl same ↦
                let there : ◌≡◌ {A = Option PlainDbuf} (Some other_wrote.dbuf) (Some wrote.dbuf) = sym other_wrote.there ∙ (ap (λ (c : PlainCell). dbuf_at due.at c) (sym same.1) ∙ wrote.there) in
                absurd (x.apart (dirty-same (other_wrote.dbuf) (wrote.dbuf) (bytes_of_due others due) (bytes_of_due cells due) there other_wrote.dirty wrote.dirty))
            | inr collide ↦ record {
              i = due.cell;
              in_range = is_cell;
              bases = one.bases;
              other_bases = two.bases;
              state = state;
              other_state = other_state;
              leads = first;
              other_leads = second;
              collide = collide;
              writes = writes;
            }
          ]
