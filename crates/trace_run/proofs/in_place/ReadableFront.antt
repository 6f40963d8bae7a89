-- What the front of a cell's history says of a block: that its pointer can be read where the noted ones can, and its size.
use Rattle.std.proofs.Common.{◌≡◌, ◌⊎◌, ℕ, ◌≤◌, Bool, true, false, List, [], ◌∷◌, Option, Some, None, refl, sym, ap, ◌∙◌, subst, inl, inr, arith}
use Rattle.std.specs.List.{AllByRecursion, list_any}
use Rattle.std.specs.Option.{option_map}
use Rattle.arc_lists.proofs.Tables.{cases_true}
use Rattle.blk_ptr.specs.declared.ptr.Ptr.{Ptr}
use Rattle.blk_ptr.specs.Key.{key_end}
use Rattle.blk_ptr.specs.Ptr.{IsOf}
use Rattle.dbuf_state.specs.History.{Leads}
use Rattle.dbuf_state.specs.Objects.{Block, Cached, Dirty as DirtyBlock, IsLegal, IsWritten, IsWrittenAt, PlainCell, PlainDbuf, Uncached}
use Rattle.dbuf_state.specs.Objects as plain
use Rattle.dbuf_state.specs.Oids.{oid_eq}
use Rattle.dbuf_state.specs.Outline.{OutlineDbuf, mapped_at, mapped_size, outline_after, outline_dbuf, outline_of}
use Rattle.dbuf_state.specs.Outline as outline
use Rattle.dbuf_state.specs.declared.event.CellEvent.{CellEvent}
use Rattle.dbuf_state.specs.declared.event.CellEvent.TheVariants.{Get, Put, Patch, Pin, Unpin, Load, Evict, Synced, End}
use Rattle.dbuf_state.specs.declared.oid.Oid.{Oid}
use Rattle.dbuf_state.specs.declared.state.Mapped.{Mapped}
use Rattle.dbuf_state.specs.declared.state.Mapped.TheVariants.{Clean, Dirty}
use Rattle.dbuf_state.specs.declared.state.Mapping.{Mapping}
use Rattle.dbuf_state.proofs.Changes.{view-found}
use Rattle.dbuf_state.proofs.OutlineLemmas.{outline-follows}
use Rattle.dbuf_cells.specs.Laws.{is_put_of}
use Rattle.trace_text.specs.declared.reply.Refusal.{Refusal}
use Rattle.trace_text.specs.declared.reply.Refusal.TheVariants as refusals
use Rattle.trace_run.specs.InPlace.{IsReadable, opened_ptr}
use Rattle.trace_run.specs.callers.WorkLines.{HasFront}
use Rattle.trace_run.specs.dbufs.ObjectReplies.{RefusesAt}
use Rattle.trace_run.specs.dbufs.Objects.{Brought}
use Rattle.trace_run.proofs.callers.FrontLemmas.{range-front}
use Rattle.trace_run.proofs.callers.PlaceLemmas.{fault-not-valid}
use Rattle.trace_run.proofs.in_place.Mapped.{EndsIn, EndsInPut, mapped-after, mapped-told, mapped_then, mapped_through, oid-is, opened_mapped, patched-in}

-- the pointer that the event notes can be read; only a Synced notes one
abbrev pub IsReadableNote : (len : ℕ) (image : List ℕ) → CellEvent → Type 0
IsReadableNote len image (Synced n b ptr held) = IsReadable len image ptr
IsReadableNote len image (Get n b) = Unit {0}
IsReadableNote len image (Put n b size fill) = Unit {0}
IsReadableNote len image (Patch n b from bytes) = Unit {0}
IsReadableNote len image (Pin n b) = Unit {0}
IsReadableNote len image (Unpin n b) = Unit {0}
IsReadableNote len image (Load n b held) = Unit {0}
IsReadableNote len image (Evict n b) = Unit {0}
IsReadableNote len image (End n) = Unit {0}

-- a whole write of the block stands there, or it begins with a pointer that can be read
abbrev pub IsThereIn : (len : ℕ) (image : List ℕ) → Oid → List Mapping → List CellEvent → Type 0
IsThereIn len image at opening es = (list_any (is_put_of at) es ≡ true) ⊎ ((ptr : Ptr) × (opened_ptr at opening ≡ Some ptr) × IsReadable len image ptr)

-- the block's key or its bytes were refused
abbrev pub is_unread : Refusal → Bool
is_unread (refusals.Key why) = true
is_unread (refusals.Mismatch found) = true
is_unread refusals.PoolFault = false
is_unread (refusals.NoHold block) = false
is_unread refusals.NoMemory = false
is_unread (refusals.Range end size) = false
is_unread (refusals.NoBlock at) = false
is_unread (refusals.NoPin at) = false

some-clean : (a b : Ptr) → ◌≡◌ {A = Option Mapped} (Some (Clean a)) (Some (Clean b)) → a ≡ b
some-clean a b is = cc

never-dirty : (n : ℕ) (p : Ptr) → ◌≡◌ {A = Option Mapped} (Some (Dirty n)) (Some (Clean p)) → ⊥
never-dirty n p is = cc

never-none : (p : Ptr) → ◌≡◌ {A = Option Mapped} None (Some (Clean p)) → ⊥
never-none p is = cc

-- ---- a clean block's pointer

module _ (len : ℕ) (image : List ℕ) (at : Oid) (ptr : Ptr) where
  -- it can be read, or it was there before, and nothing wrote the block whole
  abbrev IsKnown : Option Mapped → Bool → Type 0
  IsKnown m put = IsReadable len image ptr ⊎ ((m ≡ Some (Clean ptr)) × (put ≡ false))

  patched-never : (m : Option Mapped) → option_map (λ x. Dirty (mapped_size x)) m ≡ Some (Clean ptr) → ⊥
  patched-never None is = never-none ptr is
  patched-never (Some m) is = never-dirty (mapped_size m) ptr is

  synced-is : (p : Ptr) (m : Option Mapped) → option_map (λ x. Clean p) m ≡ Some (Clean ptr) → p ≡ ptr
  synced-is p None is = absurd (never-none ptr is)
  synced-is p (Some m) is = some-clean p ptr is

  then-known : (m : Option Mapped) (e : CellEvent) → IsReadableNote len image e → mapped_then at m e ≡ Some (Clean ptr) → IsKnown m (is_put_of at e)
  then-known m (Put n b size fill) note is = elim (cases_true (oid_eq at b)) [
    | inl here ↦ absurd (never-dirty size ptr (let dirty : ◌≡◌ {A = Option Mapped} (Some (Dirty size)) (Some (Clean ptr)) = rw here at is in dirty))
    | inr far ↦ inr ((let same : m ≡ Some (Clean ptr) = rw far at is in same), far)
  ]
  then-known m (Patch n b from bytes) note is = elim (cases_true (oid_eq at b)) [
    | inl here ↦ absurd (patched-never m (let dirty : option_map (λ x. Dirty (mapped_size x)) m ≡ Some (Clean ptr) = rw here at is in dirty))
    | inr far ↦ inr ((let same : m ≡ Some (Clean ptr) = rw far at is in same), refl)
  ]
  then-known m (Synced n b p held) note is = elim (cases_true (oid_eq at b)) [
    | inl here ↦ inl (subst (IsReadable len image) (synced-is p m (let clean : option_map (λ x. Clean p) m ≡ Some (Clean ptr) = rw here at is in clean)) note)
    | inr far ↦ inr ((let same : m ≡ Some (Clean ptr) = rw far at is in same), refl)
  ]
  then-known m (Get n b) note is = inr (is, refl)
  then-known m (Pin n b) note is = inr (is, refl)
  then-known m (Unpin n b) note is = inr (is, refl)
  then-known m (Load n b held) note is = inr (is, refl)
  then-known m (Evict n b) note is = inr (is, refl)
  then-known m (End n) note is = inr (is, refl)

  through-known : (m : Option Mapped) (es : List CellEvent) → AllByRecursion (IsReadableNote len image) es → mapped_through at m es ≡ Some (Clean ptr) → IsKnown m (list_any (is_put_of at) es)
  through-known m [] notes is = inr (is, refl)
  through-known m (e ∷ es) notes is = elim (through-known (mapped_then at m e) es notes.1 is) [
    | inl read ↦ inl read
    | inr known ↦ elim (then-known m e notes.0 known.0) [
      | inl read ↦ inl read
      | inr first ↦ inr (first.0, (let other = first.1 in let rest = known.1 in rw (other, rest) refl))
    ]
  ]

  pub clean-readable : (limit : ℕ) (opening : List Mapping) (es : List CellEvent) → AllByRecursion (IsReadableNote len image) es → IsThereIn len image at opening es → mapped_at at (outline_after limit opening es) ≡ Some (Clean ptr)
      → IsReadable len image ptr
  clean-readable limit opening es notes there is = elim (through-known (opened_mapped at opening) es notes (sym (mapped-told at limit opening es) ∙ is)) [
    | inl read ↦ read
    | inr first ↦ elim there [
      | inl put ↦ absurd (let clash : true ≡ false = sym put ∙ first.1 in cc)
      | inr begins ↦
          let same : begins.0 ≡ ptr = some-clean begins.0 ptr (sym (ap (option_map (λ (p : Ptr). Clean p)) begins.1) ∙ first.0) in
          subst (IsReadable len image) same begins.2
    ]
  ]

-- so neither its key nor its bytes are refused
pub load-fine : (len : ℕ) (now : List ℕ) (at : Oid) (limit : ℕ) (opening : List Mapping) (es : List CellEvent) → AllByRecursion (IsReadableNote len now) es → IsThereIn len now at opening es
    → (brought : Brought) (last : ℕ) (refusal : Refusal) → RefusesAt len (Some now) limit opening es brought at last refusal → is_unread refusal ≡ true → ⊥
load-fine len now at limit opening es notes there brought last (refusals.Key why) is un =
    let read = clean-readable len now at is.1.0 limit opening es notes there is.1.1 in
    fault-not-valid len is.1.0.key why is.1.2 read.valid
load-fine len now at limit opening es notes there brought last (refusals.Mismatch found) is un =
    let read = clean-readable len now at is.0 limit opening es notes there is.3.pointer in
    is.4.1.plain.1 read.of
load-fine len now at limit opening es notes there brought last refusals.PoolFault is un = let clash : false ≡ true = un in cc
load-fine len now at limit opening es notes there brought last (refusals.NoHold block) is un = let clash : false ≡ true = un in cc
load-fine len now at limit opening es notes there brought last refusals.NoMemory is un = let clash : false ≡ true = un in cc
load-fine len now at limit opening es notes there brought last (refusals.Range end size) is un = let clash : false ≡ true = un in cc
load-fine len now at limit opening es notes there brought last (refusals.NoBlock named) is un = let clash : false ≡ true = un in cc
load-fine len now at limit opening es notes there brought last (refusals.NoPin named) is un = let clash : false ≡ true = un in cc

-- ---- a pointer whose block ends at or before a place up to which the same is told

some-list : (a b : List ℕ) → ◌≡◌ {A = Option (List ℕ)} (Some a) (Some b) → a ≡ b
some-list a b is = cc

pub readable-front : (len place : ℕ) (image now : List ℕ) (ptr : Ptr) → HasFront place (Some image) (Some now) → key_end ptr.key ≤ place → IsReadable len image ptr → IsReadable len now ptr
readable-front len place image now ptr front le read = record {
  valid = read.valid;
  of = subst (λ (bytes : List ℕ). IsOf bytes ptr) (sym (range-front place ptr.key now image le (some-list _ _ front))) read.of;
}

-- ---- its size

-- what a sync notes is the pointer of as many bytes as the block had
synced-in : (last : ℕ) (b : Oid) (ptr : Ptr) (c : PlainCell) → IsWrittenAt ptr (plain.dbuf_at b c) → EndsIn last (mapped_at b (outline_of c)) → last ≤ ptr.key.size
synced-in last b ptr c written ends =
    go (plain.dbuf_at b c) written (subst (EndsIn last) (ap (option_map (λ (d : OutlineDbuf). d.mapped)) (view-found plain.dbuf_oid outline.dbuf_oid outline_dbuf (λ x. refl) b c.dbufs)) ends)
  where
    block : (x : Block) → IsWritten ptr x → last ≤ mapped_size (outline.mapped_in x) → last ≤ ptr.key.size
    block (Uncached old) w e = absurd w
    block (Cached old) w e = absurd w
    block (DirtyBlock bytes) w e = let s = w.size in omega (arith, s, e)

    go : (o : Option PlainDbuf) → IsWrittenAt ptr o → EndsIn last (option_map (λ (d : OutlineDbuf). d.mapped) (option_map outline_dbuf o)) → last ≤ ptr.key.size
    go None w e = absurd w
    go (Some x) w e = block x.block w e

clean-in : (last : ℕ) (ptr : Ptr) (m : Option Mapped) → (EndsIn last m → last ≤ ptr.key.size) → EndsIn last m → EndsIn last (option_map (λ x. Clean ptr) m)
clean-in last ptr None ends was = tt
clean-in last ptr (Some m) ends was = ends was

legal-in : (at : Oid) (last : ℕ) (c : PlainCell) (e : CellEvent) → IsLegal c e → EndsInPut at last e → EndsIn last (mapped_at at (outline_of c)) → EndsIn last (mapped_then at (mapped_at at (outline_of c)) e)
legal-in at last c (Put n b size fill) legal put ends = elim (cases_true (oid_eq at b)) [
  | inl here ↦ rw here (put here)
  | inr far ↦ rw far ends
]
legal-in at last c (Patch n b from bytes) legal put ends = elim (cases_true (oid_eq at b)) [
  | inl here ↦ rw here (patched-in last (mapped_at at (outline_of c)) ends)
  | inr far ↦ rw far ends
]
legal-in at last c (Synced n b ptr held) legal put ends = elim (cases_true (oid_eq at b)) [
  | inl here ↦
      let same : b ≡ at = sym (oid-is at b here) in
      rw here (clean-in last ptr (mapped_at at (outline_of c)) (λ was. synced-in last at ptr c (subst (λ (x : Oid). IsWrittenAt ptr (plain.dbuf_at x c)) same legal.1) was) ends)
  | inr far ↦ rw far ends
]
legal-in at last c (Get n b) legal put ends = ends
legal-in at last c (Pin n b) legal put ends = ends
legal-in at last c (Unpin n b) legal put ends = ends
legal-in at last c (Load n b held) legal put ends = ends
legal-in at last c (Evict n b) legal put ends = ends
legal-in at last c (End n) legal put ends = ends

-- so many bytes end inside the block behind a legal history, where they end inside what it begins with and inside each whole write
pub leads-in : (at : Oid) (last : ℕ) (c : PlainCell) (es : List CellEvent) (bases : List (List ℕ)) (end : PlainCell) → Leads c es bases end → AllByRecursion (EndsInPut at last) es → EndsIn last (mapped_at at (outline_of c))
    → EndsIn last (mapped_at at (outline_of end))
leads-in at last c [] bases end leads puts ends = subst (λ (x : PlainCell). EndsIn last (mapped_at at (outline_of x))) (sym leads.1) ends
leads-in at last c (e ∷ es) bases end leads puts ends =
    let then : PlainCell = plain.after leads.1.0 c e in
    let step : mapped_at at (outline_of then) ≡ mapped_then at (mapped_at at (outline_of c)) e = ap (mapped_at at) (outline-follows c e leads.1.0 leads.0 leads.1.3) ∙ mapped-after at (outline_of c) e in
    leads-in at last then es leads.1.1 end leads.1.4 puts.1 (subst (EndsIn last) (sym step) (legal-in at last c e leads.0 puts.0 ends))
