-- All cells in hand: one block more is written, or its write stops.
use Rattle.std.proofs.Common.{◌≡◌, ◌≢◌, ◌==◌, ℕ, zero, suc, ◌<◌, Bool, true, false, if◌then◌else◌, not, List, [], ◌∷◌, ◌++◌, length, slice_index_or, slice_set, Option, Some, None, refl, sym, ap, ◌∙◌, subst, inl, inr, eq-eqb, ne_eqb, eqb-true, arith}
use Rattle.std.specs.List.{AllByRecursion}
use Rattle.std.specs.Option.{option_map_or}
use Rattle.std.proofs.lemmas.List.{append-nil, length-set, get_or_default, get_or-set_same, get_or-set_other}
use Rattle.blk_ptr.specs.Ptr.{IsOf, sha256_of}
use Rattle.blk_ptr.specs.declared.ptr.Ptr.{Ptr}
use Rattle.arc_core.specs.declared.event.Event.TheVariants.{Insert}
use Rattle.turn_table.specs.Board.{IsAmong}
use Rattle.arc_table.specs.Cache.{Cache}
use Rattle.arc_table.specs.Fronts.{list_at}
use Rattle.arc_table.specs.Geometry.{IsCell, cell_number}
use Rattle.arc_table.specs.Giving.{AreHolds}
use Rattle.dbuf_state.specs.CellLog.{CellLog, noted}
use Rattle.dbuf_state.specs.Dbufs.{DbufHas, IsFit, Fits, dbuf_at, dbuf_is, is_cached, is_clean, is_dirty, synced_to, with_dbuf}
use Rattle.dbuf_state.specs.Objects.{Never}
use Rattle.dbuf_state.specs.Soundness.{hold_in, holds_in}
use Rattle.dbuf_state.specs.declared.dbuf.Content.{Content}
use Rattle.dbuf_state.specs.declared.dbuf.Content.TheVariants.{Clean, Dirty}
use Rattle.dbuf_state.specs.declared.dbuf.Dbuf.{Dbuf}
use Rattle.dbuf_state.specs.declared.event.CellEvent.{CellEvent}
use Rattle.dbuf_state.specs.declared.event.CellEvent.TheVariants.{Synced}
use Rattle.dbuf_state.specs.declared.oid.Oid.{Oid}
use Rattle.dbuf_state.specs.declared.state.DbState.{DbState}
use Rattle.dbuf_state.proofs.FitLemmas.{all-found}
use Rattle.dbuf_state.proofs.IndexLemmas.{and-parts, bool_cases}
use Rattle.dbuf_cells.specs.InHand.{HasDone, IsRoomier, AreClaimedAlike, ClaimsAre}
use Rattle.dbuf_cells.specs.Kept.{bytes_of, is_held, key_of}
use Rattle.dbuf_cells.specs.Turns.{OnHeap, PartyPlace, holds_of}
use Rattle.dbuf_cells.specs.declared.kept.Kept.{Kept}
use Rattle.dbuf_cells.specs.declared.kept.Kept.TheVariants.{Held, Loose}
use Rattle.dbuf_cells.proofs.CellSteps.{done-roomier}
use Rattle.dbuf_cells.proofs.Evictions.{has-of, is-dbuf}
use Rattle.txg_sync.specs.InHand.{AreInHand, InSync, IsHolding, IsInHand, turns_below}
use Rattle.txg_sync.specs.Items.{SyncItem, dirty_bytes_at, written_in}
use Rattle.txg_sync.specs.Syncing.{Same}
use Rattle.txg_sync.specs.Turns.{InsertsAll, InsertsItem, inserted, synced_in, there}
use Rattle.txg_sync.specs.Writing.{IsSyncedTo, KeepsItem, WritesBlock, item_in}
use Rattle.txg_sync.proofs.Noted.{done-synced, synced-holds, synced-claims}
use Rattle.txg_sync.proofs.Steps.{Grows, holding-stays, inserted-grows, inserted-stays, inserts-more, looked-grows, looked-stays, synced-else, synced-here, synced-more, Remains}
use Rattle.dbuf_state.specs.Numbers.{claims_in, mapping_numbers}

pub among-below : (n j : ℕ) → j < n → IsAmong j (turns_below n)
among-below zero j h = absurd (omega arith)
among-below (suc n) j h = elim (bool_cases (n == j)) [
  | inl here ↦ inl (eqb-true n j here)
  | inr far ↦ inr (among-below n j (let e : n ≢ j = λ is. let c = eq-eqb n j is in cc in omega arith))
]

-- ---- a dirty block

-- its dbuf has these bytes, and keeps nothing
pub is-dirty-with : (at : Oid) (ds : List (Dbuf Kept)) → dbuf_is is_dirty at ds ≡ true → DbufHas (λ d. d.content ≡ Dirty (dirty_bytes_at at ds)) (dbuf_at at ds)
is-dirty-with at ds h = go (dbuf_at at ds) h
  where
    content : (c : Content) → not (is_clean c) ≡ true → c ≡ Dirty (written_in c)
    content (Clean ptr) h = cc
    content (Dirty bytes) h = refl

    go : (o : Option (Dbuf Kept)) → option_map_or is_dirty o false ≡ true → DbufHas (λ d. d.content ≡ Dirty (option_map_or (λ (x : Dbuf Kept). written_in x.content) o [])) o
    go None h = cc
    go (Some d) h = content d.content h

dirty-keeps-nothing : (d : Dbuf Kept) (bytes : List ℕ) → IsFit key_of bytes_of d → d.content ≡ Dirty bytes → d.kept ≡ None
dirty-keeps-nothing d bytes fit is = go d.state d.kept (subst (λ (c : Content). Fits key_of bytes_of c d.state d.kept) is fit)
  where
    go : (s : DbState) (o : Option Kept) → Fits key_of bytes_of (Dirty bytes) s o → o ≡ None
    go s None f = refl
    go s (Some k) f = let e : false ≡ true = (and-parts (is_cached s) false f.0).1 in cc

-- ---- one cell

-- what the party claims of a cell, of which each number claims what it claimed
still-claimed : (q r : PartyPlace) (i : ℕ) (old new : CellLog Kept) → Remains q r → AreClaimedAlike old.dbufs new.dbufs → ClaimsAre i q.number old q → ClaimsAre i r.number new r
still-claimed q r i old new stays alike claimed =
    ap (list_at i) stays.claims ∙ (claimed ∙ (ap (λ (n : ℕ). mapping_numbers (claims_in n old.dbufs)) (sym stays.stays.number) ∙ ap mapping_numbers (sym (alike r.number))))

module _ (q r : PartyPlace) (i : ℕ) (before : OnHeap) (xs : List SyncItem) (now : CellLog Kept) (h : IsInHand i before xs now q) (stays : Remains q r) where
  number : r.number ≡ q.number
  number = stays.stays.number

  -- nothing was done to it
  pub in-hand-still : Grows i [] q r → IsInHand i before xs now r
  in-hand-still g = record {
    recorded = g.recorded ∙ h.recorded;
    evicting = h.evicting;
    done = subst (λ (n : ℕ). HasDone n before.value h.evicting (synced_in n i xs) now) (sym number) h.done;
    settled = h.settled;
    holds = subst (AreHolds (holds_of now)) (sym g.listed) h.holds;
    claimed = still-claimed q r i now now stays (λ n. refl) h.claimed;
    owned = stays.owned ∙ (h.owned ∙ sym number);
  }

-- it has more room
pub in-hand-roomier : (q : PartyPlace) (i : ℕ) (before : OnHeap) (xs : List SyncItem) (old new : CellLog Kept) → IsInHand i before xs old q → IsRoomier old new → IsInHand i before xs new q
in-hand-roomier q i before xs old new h made = subst (λ (c : CellLog Kept). IsInHand i before xs c q) (sym made) record {
  recorded = h.recorded;
  evicting = h.evicting;
  done = done-roomier q.number before.value old h.evicting (synced_in q.number i xs) h.done new.dbuf_room new.event_room;
  settled = h.settled;
  holds = h.holds;
  claimed = h.claimed;
  owned = h.owned;
}

-- another block was written
pub in-hand-else : (q : PartyPlace) (i : ℕ) (before : OnHeap) (xs : List SyncItem) (x : SyncItem) (now : CellLog Kept) → x.due.cell ≢ i → IsInHand i before xs now q → IsInHand i before (xs ++ x ∷ []) now q
in-hand-else q i before xs x now far h = record {
  recorded = h.recorded;
  evicting = h.evicting;
  done = subst (λ (es : List CellEvent). HasDone q.number before.value h.evicting es now) (sym (synced-more q.number i xs x ∙ (ap (λ (l : List CellEvent). synced_in q.number i xs ++ l) (synced-else q.number i x far) ∙ append-nil (synced_in q.number i xs)))) h.done;
  settled = h.settled;
  holds = h.holds;
  claimed = h.claimed;
  owned = h.owned;
}

-- a block of it was: the party has listed what the cell keeps now, and the cell has noted it
module _ (q r : PartyPlace) (before : OnHeap) (xs : List SyncItem) (x : SyncItem) (old new : CellLog Kept) (kept : Kept) (h : IsInHand x.due.cell before xs old q) (stays : Remains q r)
    (fit : AllByRecursion (IsFit key_of bytes_of) old.dbufs) (dirty : dbuf_is is_dirty x.due.at old.dbufs ≡ true) (bytes : x.bytes ≡ dirty_bytes_at x.due.at old.dbufs) (of : IsOf x.bytes x.ptr) (says : x.held ≡ is_held kept) where
  has : DbufHas (λ d. d.content ≡ Dirty x.bytes) (dbuf_at x.due.at old.dbufs)
  has = subst (λ (l : List ℕ). DbufHas (λ d. d.content ≡ Dirty l) (dbuf_at x.due.at old.dbufs)) (sym bytes) (is-dirty-with x.due.at old.dbufs dirty)

  pub in-hand-synced : Grows x.due.cell (hold_in key_of bytes_of is_held (Some kept)) q r → IsSyncedTo q.number x.due.at x.ptr kept old new → IsInHand x.due.cell before (xs ++ x ∷ []) new r
  in-hand-synced g s =
      let at = x.due.at in
      let d = is-dbuf (λ y. y.content ≡ Dirty x.bytes) (dbuf_at at old.dbufs) has in
      let none : d.dbuf.kept ≡ None = dirty-keeps-nothing d.dbuf x.bytes (has-of (IsFit key_of bytes_of) (dbuf_at at old.dbufs) d.dbuf (all-found (IsFit key_of bytes_of) is_dirty at old.dbufs fit dirty) d.there) d.has in
      let roomy : CellLog Kept = record old { dbuf_room = s.roomy.dbuf_room; event_room = s.roomy.event_room } in
      let n = q.number in
      let is : new ≡ noted (Synced n at x.ptr (is_held kept)) (record roomy { dbufs = with_dbuf at (synced_to x.ptr kept) roomy.dbufs }) =
      s.noted_is ∙ ap (λ (c : CellLog Kept). noted (Synced n at x.ptr (is_held kept)) (record c { dbufs = with_dbuf at (synced_to x.ptr kept) c.dbufs })) s.made in
      let done = done-synced n before.value roomy h.evicting (synced_in n x.due.cell xs) (done-roomier n before.value old h.evicting (synced_in n x.due.cell xs) h.done s.roomy.dbuf_room s.roomy.event_room) h.settled at x.ptr kept x.bytes has of in
      let news : synced_in n x.due.cell xs ++ Synced n at x.ptr (is_held kept) ∷ [] ≡ synced_in n x.due.cell (xs ++ x ∷ []) =
      sym (synced-more n x.due.cell xs x ∙ ap (λ (l : List CellEvent). synced_in n x.due.cell xs ++ l) (synced-here n x ∙ ap (λ (h : Bool). Synced n x.due.at x.ptr h ∷ []) says)) in
      subst (λ (c : CellLog Kept). IsInHand x.due.cell before (xs ++ x ∷ []) c r) (sym is) record {
        recorded = g.recorded ∙ h.recorded;
        evicting = Never;
        done = subst (λ (m : ℕ). HasDone m before.value Never (synced_in m x.due.cell (xs ++ x ∷ [])) (noted (Synced n at x.ptr (is_held kept)) (record roomy { dbufs = with_dbuf at (synced_to x.ptr kept) roomy.dbufs }))) (sym stays.stays.number)
            (subst (λ (es : List CellEvent). HasDone n before.value Never es (noted (Synced n at x.ptr (is_held kept)) (record roomy { dbufs = with_dbuf at (synced_to x.ptr kept) roomy.dbufs }))) news done);
        settled = refl;
        holds = subst (AreHolds (holds_in key_of bytes_of is_held (with_dbuf at (synced_to x.ptr kept) old.dbufs))) (sym g.listed)
            (synced-holds at old.dbufs d.dbuf d.there none (list_at x.due.cell q.own.listed) h.holds x.ptr kept 0);
        claimed = still-claimed q r x.due.cell old (noted (Synced n at x.ptr (is_held kept)) (record roomy { dbufs = with_dbuf at (synced_to x.ptr kept) roomy.dbufs })) stays
            (synced-claims n before.value roomy h.evicting (synced_in n x.due.cell xs) (done-roomier n before.value old h.evicting (synced_in n x.due.cell xs) h.done s.roomy.dbuf_room s.roomy.event_room) h.settled at x.ptr kept x.bytes has of) h.claimed;
        owned = stays.owned ∙ (h.owned ∙ sym stays.stays.number);
      }

-- ---- all cells

module _ (cache : Cache) (tick : ℕ) (befores nows news : List OnHeap) (p q r : PartyPlace) (xs : List SyncItem) (h : InSync cache tick befores nows p q xs Same) (all : length befores ≡ cache.config.cells) where
  is-cell : (j : ℕ) → j < length befores → IsCell cache.config j
  is-cell j within = subst (λ (n : ℕ). j < n) all within

  is-among : (j : ℕ) → j < length befores → IsAmong j q.held
  is-among j within = subst (IsAmong j) (sym h.holding.held) (among-below (length befores) j within)

  reached-here : q ≡ h.reached
  reached-here = h.besides

  -- what one cell is now, where the others are as before: they are so still where the party did to none of them
  module _ (i : ℕ) (cell : OnHeap) (within : i < length befores) (news_are : news ≡ slice_set nows i cell) where
    there-now : (d : OnHeap) → slice_index_or news i d ≡ cell
    there-now d = ap (λ (l : List OnHeap). slice_index_or l i d) news_are ∙ get_or-set_same nows i cell d (let a = h.count in omega arith)

    else-now : (j : ℕ) (d : OnHeap) → j ≢ i → slice_index_or news j d ≡ slice_index_or nows j d
    else-now j d far = ap (λ (l : List OnHeap). slice_index_or l j d) news_are ∙ get_or-set_other nows i j cell d far

    count-now : length news ≡ length befores
    count-now = ap (λ (l : List OnHeap). length l) news_are ∙ (length-set nows i cell ∙ h.count)

    cells-now : (zs : List SyncItem) → ((d : OnHeap) → IsInHand i (slice_index_or befores i d) zs cell.value r)
        → ((j : ℕ) (d : OnHeap) → j < length befores → j ≢ i → IsInHand j (slice_index_or befores j d) zs (slice_index_or nows j d).value r) → AreInHand befores zs news r
    cells-now zs here others j d j-within = elim (bool_cases (j == i)) [
      | inl is ↦ let same : i ≡ j = sym (eqb-true j i is) in
          subst (λ (m : ℕ). IsInHand m (slice_index_or befores m d) zs (slice_index_or news m d).value r) same
          (subst (λ (c : OnHeap). IsInHand i (slice_index_or befores i d) zs c.value r) (sym (there-now d)) (here d))
      | inr far ↦ let apart : j ≢ i = λ is. let c = eq-eqb j i is in cc in
          subst (λ (c : OnHeap). IsInHand j (slice_index_or befores j d) zs c.value r) (sym (else-now j d apart)) (others j d j-within apart)
    ]

-- ---- what the cache did with a block that was written

module _ (cache : Cache) (tick : ℕ) (p : PartyPlace) (count : ℕ) (q r : PartyPlace) (hold : IsHolding cache p count q) (x : SyncItem) (sealed : x.ptr.digest ≡ sha256_of x.bytes) where
  pub keeps-stays : (kept : Kept) → KeepsItem cache.config tick x kept q r → Remains q r
  keeps-stays (Held h) k = inserted-stays cache p count q r hold x.ptr.key (Insert (cell_number cache.config x.due.cell) x.ptr.key x.ptr.digest tick) k.0
  keeps-stays (Loose key block) k = looked-stays cache p count q r hold x.ptr.key k.0

  pub keeps-inserts : (kept : Kept) → x.held ≡ is_held kept → KeepsItem cache.config tick x kept q r → InsertsItem cache.config tick x q r
  keeps-inserts (Held h) says k = inserted says k.0
  keeps-inserts (Loose key block) says k = there says k.1.0 k.0 k.1.1

  module _ (j : ℕ) (in_range : IsCell cache.config j) (among : IsAmong j q.held) where
    -- the block's own cell
    pub keeps-here : (kept : Kept) → KeepsItem cache.config tick x kept q r → x.due.cell ≡ j → Grows j (hold_in key_of bytes_of is_held (Some kept)) q r
    keeps-here (Held h) k is =
        let g = inserted-grows cache p count q r hold x.due.cell tick x.ptr.key x.ptr.digest k.0 j in_range among in
        let one : List Ptr = record { key = x.ptr.key; digest = x.ptr.digest } ∷ [] in
        let mine : (cell_number cache.config j == cell_number cache.config x.due.cell) ≡ true = eq-eqb (cell_number cache.config j) (cell_number cache.config x.due.cell) (ap (cell_number cache.config) (sym is)) in
        let same : hold_in key_of bytes_of is_held (Some (Held h)) ≡ one = λ z. record { key = k.1 z; digest = ((ap sha256_of k.2) ∙ sym sealed) z } ∷ [] in
        record {
          recorded = g.recorded;
          listed = g.listed ∙ (ap (λ (b : Bool). (if b then one else []) ++ list_at j q.own.listed) mine ∙ ap (λ (l : List Ptr). l ++ list_at j q.own.listed) (sym same));
        }
    keeps-here (Loose key block) k is = looked-grows cache p count q r hold x.ptr.key k.0 j in_range among

    -- another cell
    pub keeps-else : (kept : Kept) → KeepsItem cache.config tick x kept q r → x.due.cell ≢ j → Grows j [] q r
    keeps-else (Held h) k far =
        let g = inserted-grows cache p count q r hold x.due.cell tick x.ptr.key x.ptr.digest k.0 j in_range among in
        let one : List Ptr = record { key = x.ptr.key; digest = x.ptr.digest } ∷ [] in
        let apart : cell_number cache.config j ≢ cell_number cache.config x.due.cell = λ e. far (omega arith) in
        record {
          recorded = g.recorded;
          listed = g.listed ∙ ap (λ (b : Bool). (if b then one else []) ++ list_at j q.own.listed) (ne_eqb (cell_number cache.config j) (cell_number cache.config x.due.cell) apart);
        }
    keeps-else (Loose key block) k far = looked-grows cache p count q r hold x.ptr.key k.0 j in_range among

-- ---- the steps of a sync

module _ (cache : Cache) (tick : ℕ) (befores nows news : List OnHeap) (p q r : PartyPlace) (xs : List SyncItem) (h : InSync cache tick befores nows p q xs Same) (all : length befores ≡ cache.config.cells)
    (i : ℕ) (cell : OnHeap) (within : i < length befores) (news_are : news ≡ slice_set nows i cell) where
  abbrev old : CellLog Kept
  old = (slice_index_or nows i cell).value

  old-is : (d : OnHeap) → slice_index_or nows i d ≡ slice_index_or nows i cell
  old-is d = get_or_default nows i d cell (let a = h.count in omega arith)

  old-hand : (d : OnHeap) → IsInHand i (slice_index_or befores i d) xs old q
  old-hand d = subst (λ (c : OnHeap). IsInHand i (slice_index_or befores i d) xs c.value q) (old-is d) (h.cells i d within)

  -- one block more was written
  pub sync-more : (group place : ℕ) (at : Oid) (told now : Option (List ℕ)) (size : ℕ) (w : WritesBlock cache.config group tick place i at old cell.value told now q r size)
      → dbuf_is is_dirty at old.dbufs ≡ true → InSync cache tick befores news p r (xs ++ item_in group place i at old (is_held w.kept) ∷ []) Same
  sync-more group place at told now size w dirty =
      let x = item_in group place i at old (is_held w.kept) in
      let stays = keeps-stays cache tick p (length befores) q r h.holding x refl w.kept w.keeps in
      record {
        reached = r;
        inserts = inserts-more cache.config tick xs x p h.reached r h.inserts (subst (λ (z : PartyPlace). InsertsItem cache.config tick x z r) (reached-here cache tick befores nows news p q r xs h all) (keeps-inserts cache tick p (length befores) q r h.holding x refl w.kept refl w.keeps));
        besides = refl;
        holding = holding-stays cache p (length befores) q r h.holding stays;
        count = count-now cache tick befores nows news p q r xs h all i cell within news_are;
        cells = cells-now cache tick befores nows news p q r xs h all i cell within news_are (xs ++ x ∷ [])
            (λ d. in-hand-synced q r (slice_index_or befores i d) xs x old cell.value w.kept (old-hand d) stays w.fit dirty refl record { size = refl; digest = refl } refl
            (keeps-here cache tick p (length befores) q r h.holding x refl i (is-cell cache tick befores nows news p q r xs h all i within) (is-among cache tick befores nows news p q r xs h all i within) w.kept w.keeps refl) w.synced)
            (λ j d j-within far.
            let g = keeps-else cache tick p (length befores) q r h.holding x refl j (is-cell cache tick befores nows news p q r xs h all j j-within) (is-among cache tick befores nows news p q r xs h all j j-within) w.kept w.keeps (λ e. far (sym e)) in
            in-hand-else r j (slice_index_or befores j d) xs x (slice_index_or nows j d).value (λ e. far (sym e)) (in-hand-still q r j (slice_index_or befores j d) xs (slice_index_or nows j d).value (h.cells j d j-within) stays g));
      }

  -- a write stopped: the cell has more room, and the party has looked at a shard at most
  pub sync-stopped : (Besides : PartyPlace → PartyPlace → Type 0) → IsRoomier old cell.value → Remains q r → ((j : ℕ) → IsCell cache.config j → IsAmong j q.held → Grows j [] q r) → Besides q r
      → InSync cache tick befores news p r xs Besides
  sync-stopped Besides made stays grows besides = record {
    reached = q;
    inserts = subst (λ (z : PartyPlace). InsertsAll cache.config tick xs p z) (sym (reached-here cache tick befores nows news p q r xs h all)) h.inserts;
    besides = besides;
    holding = holding-stays cache p (length befores) q r h.holding stays;
    count = count-now cache tick befores nows news p q r xs h all i cell within news_are;
    cells = cells-now cache tick befores nows news p q r xs h all i cell within news_are xs
        (λ d. in-hand-roomier r i (slice_index_or befores i d) xs old cell.value
        (in-hand-still q r i (slice_index_or befores i d) xs old (old-hand d) stays (grows i (is-cell cache tick befores nows news p q r xs h all i within) (is-among cache tick befores nows news p q r xs h all i within))) made)
        (λ j d j-within far. in-hand-still q r j (slice_index_or befores j d) xs (slice_index_or nows j d).value (h.cells j d j-within) stays
        (grows j (is-cell cache tick befores nows news p q r xs h all j j-within) (is-among cache tick befores nows news p q r xs h all j j-within)));
  }
