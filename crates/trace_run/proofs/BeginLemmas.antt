-- The cells of a run at their start map what the trace's lines say of their Oids.
use Rattle.std.proofs.Common.{◌≡◌, ℕ, zero, suc, ◌+◌, ◌<◌, ◌%◌, ◌==◌, Bool, true, false, if◌then◌else◌, List, [], ◌∷◌, ◌++◌, length, map, take, Some, None, refl, sym, ap, ◌∙◌, subst, inl, inr, arith, append-nil, append_assoc}
use Rattle.std.proofs.Math.Nat.{mod-lt}
use Rattle.std.specs.Prelude.{Option, slice_get, slice_index_or}
use Rattle.std.specs.List.{range_with_len}
use Rattle.std.specs.Option.{option_map_or}
use Rattle.std.proofs.lemmas.List.{map-append}
use mathlib.Core.Option.{some}
use lib.ListN.{get_elem?}
use Rattle.arc_lists.proofs.Tables.{cases_true}
use Rattle.blk_ptr.specs.declared.ptr.Ptr.{Ptr}
use Rattle.arc_table.specs.opening.Opening.{AreFreshCells, IsFreshCell}
use Rattle.arc_table.proofs.TableLaws.{get_more}
use Rattle.dbuf_cells.specs.Kept.{bytes_of, is_held, key_of}
use Rattle.dbuf_cells.specs.Places.{cell_of}
use Rattle.dbuf_cells.specs.Turns.{OnHeap, dbuf_meanings}
use Rattle.dbuf_cells.specs.declared.kept.Kept.{Kept}
use Rattle.dbuf_cells.proofs.CellSteps.{oid-is}
use Rattle.dbuf_state.specs.CellLog.{CellLog, fresh}
use Rattle.dbuf_state.specs.Dbufs.{dbuf_oid}
use Rattle.dbuf_state.specs.Numbers.{claims_in, event_numbers, mapping_numbers, opening_numbers}
use Rattle.dbuf_state.specs.Oids.{has_item, oid_eq}
use Rattle.dbuf_state.specs.Soundness.{holds_in}
use Rattle.dbuf_state.proofs.StepLemmas.{mapped-is-sound}
use Rattle.dbuf_state.specs.declared.dbuf.Content.TheVariants.{Clean}
use Rattle.dbuf_state.specs.declared.dbuf.Dbuf.{Dbuf}
use Rattle.dbuf_state.specs.declared.oid.Oid.{Oid}
use Rattle.dbuf_state.specs.declared.state.DbState.TheVariants as state
use Rattle.dbuf_state.specs.declared.state.Mapping.{Mapping}
use Rattle.trace_text.specs.declared.mapping.Mapping.{Mapping as ObjectLine}
use Rattle.trace_text.specs.Grammar.{AreApart, IsMapped}
use Rattle.trace_text.specs.declared.trace.Trace.{Trace}
use Rattle.trace_run.specs.Opened.{HasBegun}
use Rattle.trace_run.specs.Openings.{mapping_of, mappings_in, opening_map, openings_of}
use Rattle.dbuf_state.proofs.HeldLemmas.{mapped-tells}

pub mod_below : (n m : ℕ) → 0 < m → n % m < m
mod_below n m above = mod-lt n above

-- ---- what lines say of a cell

module _ (cells i : ℕ) (blocks : List Ptr) where
  pub mappings-more : (ls : List ObjectLine) (x : ObjectLine) → mappings_in cells i blocks (ls ++ x ∷ []) ≡ mappings_in cells i blocks ls ++ (if cell_of cells x.at == i then mapping_of blocks x else [])
  mappings-more [] x = elim (cases_true (cell_of cells x.at == i)) [
    | inl here ↦ rw here (append-nil (mapping_of blocks x))
    | inr out ↦ rw out refl
  ]
  mappings-more (l ∷ ls) x = elim (cases_true (cell_of cells l.at == i)) [
    | inl here ↦ rw here (ap (λ (m : List Mapping). mapping_of blocks l ++ m) (mappings-more ls x) ∙ sym (append_assoc (mapping_of blocks l) (mappings_in cells i blocks ls) _))
    | inr out ↦ rw out (mappings-more ls x)
  ]

abbrev dbuf : Mapping → Dbuf Kept
dbuf m = fresh m.at (Clean m.ptr) state.Uncached

-- the dbufs of mappings have their Oids alone
no-dbuf-of : (at : Oid) (blocks : List Ptr) (l : ObjectLine) (rest : List Mapping) → oid_eq at l.at ≡ false → has_item dbuf_oid at (map dbuf rest) ≡ false → has_item dbuf_oid at (map dbuf (mapping_of blocks l ++ rest)) ≡ false
no-dbuf-of at blocks l rest other none = go (slice_get blocks l.block)
  where
    go : (o : Option Ptr) → has_item dbuf_oid at (map dbuf (option_map_or (λ ptr. record { at = l.at; ptr = ptr } ∷ []) o [] ++ rest)) ≡ false
    go None = none
    go (Some ptr) = rw other none

pub no-dbuf : (cells i : ℕ) (blocks : List Ptr) (at : Oid) (ls : List ObjectLine) → (IsMapped at ls → ⊥) → has_item dbuf_oid at (map dbuf (mappings_in cells i blocks ls)) ≡ false
no-dbuf cells i blocks at [] none = refl
no-dbuf cells i blocks at (l ∷ ls) none =
    let rest = no-dbuf cells i blocks at ls (λ m. none (inr m)) in
    elim (cases_true (cell_of cells l.at == i)) [
      | inl here ↦ rw here (no-dbuf-of at blocks l (mappings_in cells i blocks ls) (elim (cases_true (oid_eq at l.at)) [
        | inl same ↦ absurd (none (inl (sym (oid-is at l.at same))))
        | inr other ↦ other
      ]) rest)
      | inr out ↦ rw out rest
    ]

-- no line before another is of its Oid
pub apart-before : (ls : List ObjectLine) (k : ℕ) (x : ObjectLine) → AreApart ls → slice_get ls k ≡ Some x → IsMapped x.at (take k ls) → ⊥
apart-before [] k x apart at mapped = cc
apart-before (l ∷ ls) zero x apart at mapped = absurd mapped
apart-before (l ∷ ls) (suc k) x apart at (inl same) = apart.0 (subst (λ (o : Oid). IsMapped o ls) (sym same) (mapped-at ls k x at))
  where
    mapped-at : (ls : List ObjectLine) (k : ℕ) (x : ObjectLine) → slice_get ls k ≡ Some x → IsMapped x.at ls
    mapped-at [] k x at = cc
    mapped-at (l ∷ ls) zero x at = inl (let is : l ≡ x = cc in ap (λ (m : ObjectLine). m.at) is)
    mapped-at (l ∷ ls) (suc k) x at = inr (mapped-at ls k x at)
apart-before (l ∷ ls) (suc k) x apart at (inr mapped) = apart-before ls k x apart.1 at mapped

-- ---- one line more

module _ (limit cells i : ℕ) (blocks : List Ptr) (ls : List ObjectLine) (x : ObjectLine) where
  pub begun-else : (c : CellLog Kept) → (cell_of cells x.at == i) ≡ false → HasBegun limit (mappings_in cells i blocks ls) c → HasBegun limit (mappings_in cells i blocks (ls ++ x ∷ [])) c
  begun-else c out begun = subst (λ (ms : List Mapping). HasBegun limit ms c)
      (sym (mappings-more cells i blocks ls x ∙ (ap (λ (b : Bool). mappings_in cells i blocks ls ++ (if b then mapping_of blocks x else [])) out ∙ append-nil (mappings_in cells i blocks ls)))) begun

  pub begun-here : (c : CellLog Kept) (ptr : Ptr) (room : ℕ) → (cell_of cells x.at == i) ≡ true → slice_get blocks x.block ≡ Some ptr → HasBegun limit (mappings_in cells i blocks ls) c
      → HasBegun limit (mappings_in cells i blocks (ls ++ x ∷ [])) (record c { opening = c.opening ++ record { at = x.at; ptr = ptr } ∷ []; dbufs = c.dbufs ++ fresh x.at (Clean ptr) state.Uncached ∷ []; dbuf_room = room })
  begun-here c ptr room here at begun =
      let more : mappings_in cells i blocks (ls ++ x ∷ []) ≡ mappings_in cells i blocks ls ++ record { at = x.at; ptr = ptr } ∷ [] =
      mappings-more cells i blocks ls x ∙ (λ z. mappings_in cells i blocks ls ++ (if here z then option_map_or (λ p. record { at = x.at; ptr = p } ∷ []) (at z) [] else [])) in
      record {
        limit_is = begun.limit_is;
        opening_is = ap (λ (ms : List Mapping). ms ++ record { at = x.at; ptr = ptr } ∷ []) begun.opening_is ∙ sym more;
        dbufs = ap (λ (ds : List (Dbuf Kept)). ds ++ dbuf (record { at = x.at; ptr = ptr }) ∷ []) begun.dbufs
            ∙ (sym (map-append dbuf (mappings_in cells i blocks ls) (record { at = x.at; ptr = ptr } ∷ [])) ∙ ap (map dbuf) (sym more));
        history = begun.history;
      }

-- the same, where the lines so far are told otherwise
pub begun-here-as : (limit cells i : ℕ) (blocks : List Ptr) (ls all : List ObjectLine) (x : ObjectLine) → all ≡ ls ++ x ∷ [] → (c : CellLog Kept) (ptr : Ptr) (room : ℕ) → (cell_of cells x.at == i) ≡ true → slice_get blocks x.block ≡ Some ptr
    → HasBegun limit (mappings_in cells i blocks ls) c
    → HasBegun limit (mappings_in cells i blocks all) (record c { opening = c.opening ++ record { at = x.at; ptr = ptr } ∷ []; dbufs = c.dbufs ++ fresh x.at (Clean ptr) state.Uncached ∷ []; dbuf_room = room })
begun-here-as limit cells i blocks ls all x is c ptr room here at begun =
    subst (λ (l : List ObjectLine). HasBegun limit (mappings_in cells i blocks l) (record c { opening = c.opening ++ record { at = x.at; ptr = ptr } ∷ []; dbufs = c.dbufs ++ fresh x.at (Clean ptr) state.Uncached ∷ []; dbuf_room = room })) (sym is)
    (begun-here limit cells i blocks ls x c ptr room here at begun)

-- ---- a list that is counted off

module _ {A B : Type 0} (f : A → B) where
  pub counted-off : (h : ℕ → B) (l : List A) (n : ℕ) → ((i : ℕ) (a : A) → get_elem? l i ≡ some a → f a ≡ h (n + i)) → map f l ≡ map h (range_with_len n (length l))
  counted-off h [] n each = refl
  counted-off h (x ∷ xs) n each =
      let first : f x ≡ h n = each 0 x refl ∙ ap h (let e : n + 0 ≡ n = omega arith in e) in
      let rest : map f xs ≡ map h (range_with_len (n + 1) (length xs)) = counted-off h xs (n + 1) (λ i a is. each (suc i) a is ∙ ap h (let e : n + suc i ≡ (n + 1) + i = omega arith in e)) in
      λ i. first i ∷ rest i

pub get-index : {A : Type 0} (l : List A) (n : ℕ) (d : A) → n < length l → slice_get l n ≡ Some (slice_index_or l n d)
get-index [] n d below = absurd (omega (arith, below))
get-index (x ∷ xs) zero d below = refl
get-index (x ∷ xs) (suc n) d below = get-index xs n d (omega (arith, below))

-- ---- a cell at its start

no-holds : (ms : List Mapping) → holds_in key_of bytes_of is_held (map dbuf ms) ≡ []
no-holds [] = refl
no-holds (m ∷ ms) = no-holds ms

no-claims : (n : ℕ) (ms : List Mapping) → claims_in n (map dbuf ms) ≡ []
no-claims n [] = refl
no-claims n (m ∷ ms) = no-claims n ms

pub begun-fresh : (limit : ℕ) (ms : List Mapping) (b : OnHeap) → HasBegun limit ms b.value → IsFreshCell dbuf_meanings b
begun-fresh limit ms b begun = record {
  sound =
      let mapped = begun.dbufs ∙ ap (map dbuf) (sym begun.opening_is) in
      record { sound = mapped-is-sound b.value begun.history mapped; tells = mapped-tells is_held b.value begun.history mapped };
  holds = ap (holds_in key_of bytes_of is_held) begun.dbufs ∙ no-holds ms;
  entries = ap (map event_numbers) begun.history;
  claims = λ n. ap (λ (ds : List (Dbuf Kept)). mapping_numbers (claims_in n ds)) begun.dbufs ∙ ap mapping_numbers (no-claims n ms);
}

-- all cells of a trace
module _ (trace : Trace) (cells : List OnHeap) (count : length cells ≡ trace.config.cells) (each : (i : ℕ) (c : OnHeap) → get_elem? cells i ≡ some c → HasBegun trace.config.dbuf_bytes (opening_map trace i) c.value) where
  pub cells-fresh : AreFreshCells dbuf_meanings trace.config cells
  cells-fresh = record { count = count; each = λ i c at. begun-fresh trace.config.dbuf_bytes (opening_map trace i) c (each i c at) }

  pub cells-opened : map dbuf_meanings.opening cells ≡ openings_of trace
  cells-opened =
      counted-off dbuf_meanings.opening (λ i. opening_numbers trace.config.dbuf_bytes (opening_map trace i)) cells 0
      (λ i c at. (λ z. opening_numbers ((each i c at).limit_is z) ((each i c at).opening_is z)) ∙ ap (λ (k : ℕ). opening_numbers trace.config.dbuf_bytes (opening_map trace k)) (let e : i ≡ 0 + i = omega arith in e))
      ∙ ap (λ (n : ℕ). map (λ i. opening_numbers trace.config.dbuf_bytes (opening_map trace i)) (range_with_len 0 n)) count

-- one cell more
pub more-begun : (trace : Trace) (cells more : List OnHeap) (b : OnHeap) (made : ℕ) → more ≡ cells ++ b ∷ [] → length cells ≡ made → ((i : ℕ) (c : OnHeap) → get_elem? cells i ≡ some c → HasBegun trace.config.dbuf_bytes (opening_map trace i) c.value)
    → HasBegun trace.config.dbuf_bytes (opening_map trace made) b.value → (i : ℕ) (c : OnHeap) → get_elem? more i ≡ some c → HasBegun trace.config.dbuf_bytes (opening_map trace i) c.value
more-begun trace cells more b made is long each one i c at = elim (get_more cells b c i (ap (λ (l : List OnHeap). get_elem? l i) (sym is) ∙ at)) [
  | inl old ↦ each i c old
  | inr new ↦ subst (λ (x : ℕ × OnHeap). HasBegun trace.config.dbuf_bytes (opening_map trace x.0) x.1.value) (λ z. (sym (new.0 ∙ long) z, new.1 z)) one
]
