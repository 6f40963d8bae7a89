-- What the feeder did to a cell before a line looked at it: what the syncs before that line noted.
use Rattle.std.proofs.Common.{◌≡◌, ◌⊎◌, ℕ, zero, suc, ◌<◌, ◌==◌, true, false, not, List, [], ◌∷◌, ◌++◌, take, Option, Some, None, refl, sym, ap, ◌∙◌, subst, inl, inr, arith, eq-eqb}
use Rattle.std.specs.Prelude.{slice_get}
use Rattle.std.specs.List.{AllByRecursion, list_all}
use Rattle.std.specs.Option.{option_map_or}
use Rattle.std.proofs.lemmas.List.{append_cancel_right}
use Rattle.std.proofs.lemmas.List.Elements.{filter-append}
use Rattle.arc_lists.proofs.Tables.{cases_true}
use Rattle.arc_core.specs.declared.config.Config.{Config}
use Rattle.dbuf_state.specs.Numbers.{number_of}
use Rattle.dbuf_state.specs.Outline.{is_end}
use Rattle.dbuf_state.specs.declared.event.CellEvent.{CellEvent}
use Rattle.dbuf_state.specs.declared.event.CellEvent.TheVariants as events
use Rattle.trace_text.specs.declared.op.Op.{Op}
use Rattle.trace_text.specs.declared.op.Op.TheVariants as ops
use Rattle.trace_text.specs.declared.reply.Reply.{Reply}
use Rattle.trace_run.specs.Deeds.{Noted, events_of_cell}
use Rattle.trace_run.specs.Lines.{caller_of}
use Rattle.trace_run.specs.RunWork.{AllFit, FitsBy, IsSyncedNote}
use Rattle.trace_run.specs.callers.Together.{ends_group}
use Rattle.trace_run.specs.dbufs.CellEnds.{done_by}
use Rattle.trace_run.specs.dbufs.Objects.{Line, Work}
use Rattle.trace_run.proofs.one_caller.TellLemmas.{all-append, all-map}
use Rattle.trace_run.proofs.in_place.EventLines.{IsOfLines}
use Rattle.trace_run.proofs.in_place.ReadableFront.{IsReadableNote}
use Rattle.trace_run.proofs.in_place.SyncedTold.{fed-append, fed_notes, quiet-notes, quiet-op}

-- ---- what the feeder's lines noted

module _ (g : Config) (P : Noted → Type 0) (synced : (note : Noted) → IsSyncedNote g note → P note) where
  fed-op : (op : Op) (reply : Reply) (work : Work) → FitsBy g (caller_of op) (record { op = op; reply = reply; work = work }) → option_map_or (λ (n : ℕ). false) (caller_of op) true ≡ true → AllByRecursion P work.noted
  fed-op (ops.Txg t) reply work fits own = all-map (IsSyncedNote g) P work.noted synced fits.synced
  fed-op (ops.Cap c) reply work fits own = subst (λ (w : Work). AllByRecursion P w.noted) (sym fits) tt
  fed-op ops.Feed reply work fits own = subst (λ (w : Work). AllByRecursion P w.noted) (sym fits) tt
  fed-op (ops.Read n t x w) reply work fits own = absurd (let clash : false ≡ true = own in cc)
  fed-op (ops.Hold n t x) reply work fits own = absurd (let clash : false ≡ true = own in cc)
  fed-op (ops.Drop n x) reply work fits own = absurd (let clash : false ≡ true = own in cc)
  fed-op (ops.Get n t b w) reply work fits own = absurd (let clash : false ≡ true = own in cc)
  fed-op (ops.Put n t b size fill) reply work fits own = absurd (let clash : false ≡ true = own in cc)
  fed-op (ops.Patch n t b from bytes) reply work fits own = absurd (let clash : false ≡ true = own in cc)
  fed-op (ops.Pin n t b) reply work fits own = absurd (let clash : false ≡ true = own in cc)
  fed-op (ops.Unpin n b) reply work fits own = absurd (let clash : false ≡ true = own in cc)

  pub fed-all : (ls : List Line) → AllFit g ls → AllByRecursion P (fed_notes ls)
  fed-all [] fits = tt
  fed-all (l ∷ ls) fits = elim (cases_true (option_map_or (λ (n : ℕ). false) (caller_of l.op) true)) [
    | inl own ↦ rw own (all-append P l.work.noted (fed_notes ls) (fed-op l.op l.reply l.work fits.0 own) (fed-all ls fits.1))
    | inr other ↦ rw other (fed-all ls fits.1)
  ]

-- ---- the end of a line's group

module _ (g : Config) where
  line-quiet : (l : Line) → FitsBy g (caller_of l.op) l → ends_group l.op ≡ false → fed_notes (l ∷ []) ≡ []
  line-quiet l fits inside = quiet-notes l (quiet-op g l.op l.reply l.work fits inside)

  more-quiet : (l : Line) (ls : List Line) → fed_notes (l ∷ []) ≡ [] → fed_notes ls ≡ [] → fed_notes (l ∷ ls) ≡ []
  more-quiet l ls first rest = fed-append (l ∷ []) ls ∙ (λ z. first z ++ rest z)

  -- before the first end line of these nothing is noted
  first-end : (ls : List Line) → AllFit g ls → ((x : ℕ) × (e : Line) × (slice_get ls x ≡ Some e) × (ends_group e.op ≡ true) × (fed_notes (take x ls) ≡ [])) ⊎ (fed_notes ls ≡ [])
  first-end [] fits = inr refl
  first-end (l ∷ ls) fits = elim (cases_true (ends_group l.op)) [
    | inl ends ↦ inl (0, l, refl, ends, refl)
    | inr inside ↦
        let quiet = line-quiet l fits.0 inside in
        elim (first-end ls fits.1) [
          | inl found ↦ inl (suc found.0, found.1, found.2, found.3, more-quiet l (take found.0 ls) quiet found.4)
          | inr none ↦ inr (more-quiet l ls quiet none)
        ]
  ]

  -- behind a caller's line there is an end line up to which nothing more is noted, or nothing more is noted at all
  abbrev pub NextEnd : (ls : List Line) (k : ℕ) → Type 0
  NextEnd ls k = ((x : ℕ) × (e : Line) × (k < x) × (slice_get ls x ≡ Some e) × (ends_group e.op ≡ true) × (fed_notes (take x ls) ≡ fed_notes (take k ls))) ⊎ (fed_notes ls ≡ fed_notes (take k ls))

  pub next-end : (ls : List Line) (k : ℕ) (l : Line) → AllFit g ls → slice_get ls k ≡ Some l → ends_group l.op ≡ false → NextEnd ls k
  next-end [] k l fits at inside = absurd (let clash : ◌≡◌ {A = Option Line} None (Some l) = at in cc)
  next-end (y ∷ ls) zero l fits at inside =
      let same : y ≡ l = cc in
      let quiet = line-quiet y fits.0 (ap (λ (z : Line). ends_group z.op) same ∙ inside) in
      elim (first-end ls fits.1) [
        | inl found ↦ inl (suc found.0, found.1, omega arith, found.2, found.3, more-quiet y (take found.0 ls) quiet found.4)
        | inr none ↦ inr (more-quiet y ls quiet none)
      ]
  next-end (y ∷ ls) (suc k) l fits at inside = elim (next-end ls k l fits.1 at inside) [
    | inl found ↦
        let less = found.2 in
        inl (suc found.0, found.1, omega (arith, less), found.3, found.4, fed-append (y ∷ []) (take found.0 ls) ∙ (ap (λ (ns : List Noted). fed_notes (y ∷ []) ++ ns) found.5 ∙ sym (fed-append (y ∷ []) (take k ls))))
    | inr none ↦ inr (fed-append (y ∷ []) ls ∙ (ap (λ (ns : List Noted). fed_notes (y ∷ []) ++ ns) none ∙ sym (fed-append (y ∷ []) (take k ls))))
  ]

-- ---- a cell's events

pub noted-all : (P : CellEvent → Type 0) (i : ℕ) (ns : List Noted) → AllByRecursion (λ note. P note.event) ns → AllByRecursion P (events_of_cell i ns)
noted-all P i [] all = tt
noted-all P i (n ∷ ns) all = elim (cases_true (n.cell == i)) [
  | inl here ↦ rw here (all.0, noted-all P i ns all.1)
  | inr other ↦ rw other (noted-all P i ns all.1)
]

-- what is so of the feeder's events and of each other event of lines is so of all
pub front-all : (P : CellEvent → Type 0) (callers : ℕ) (lines : List Op) → ((e : CellEvent) → IsOfLines callers lines e → (number_of e == callers) ≡ false → P e) → (es : List CellEvent) → AllByRecursion (IsOfLines callers lines) es
    → AllByRecursion P (done_by callers es) → AllByRecursion P es
front-all P callers lines others [] all fed = tt
front-all P callers lines others (e ∷ es) all fed = elim (cases_true (number_of e == callers)) [
  | inl his ↦
      let both : AllByRecursion P (e ∷ done_by callers es) = rw his at fed in
      (both.0, front-all P callers lines others es all.1 both.1)
  | inr other ↦
      let rest : AllByRecursion P (done_by callers es) = rw other at fed in
      (others e all.0 other, front-all P callers lines others es all.1 rest)
]

-- where the feeder's End is the last that it did, what it did before stands before that
pub feeder-front : (callers : ℕ) (h front ys es : List CellEvent) → h ≡ (front ++ ys) ++ events.End callers ∷ [] → done_by callers h ≡ es ++ events.End callers ∷ [] → es ≡ done_by callers front ++ done_by callers ys
feeder-front callers h front ys es is did =
    let here : (callers == callers) ≡ true = eq-eqb callers callers refl in
    let last : done_by callers (events.End callers ∷ []) ≡ events.End callers ∷ [] = rw here refl in
    let two = filter-append (λ e. number_of e == callers) front ys in
    let all : done_by callers h ≡ (done_by callers front ++ done_by callers ys) ++ events.End callers ∷ [] =
    ap (done_by callers) is ∙ (filter-append (λ e. number_of e == callers) (front ++ ys) (events.End callers ∷ []) ∙ (λ z. two z ++ last z)) in
    append_cancel_right es (done_by callers front ++ done_by callers ys) (events.End callers ∷ []) (sym did ∙ all)

-- another one's event notes no pointer
pub other-readable : (len : ℕ) (image : List ℕ) (callers : ℕ) (lines : List Op) (e : CellEvent) → IsOfLines callers lines e → (number_of e == callers) ≡ false → IsReadableNote len image e
other-readable len image callers lines (events.Synced n b ptr held) is other = absurd (let own : (n == callers) ≡ true = eq-eqb n callers is in let off : (n == callers) ≡ false = other in let clash : true ≡ false = sym own ∙ off in cc)
other-readable len image callers lines (events.End n) is other = tt
other-readable len image callers lines (events.Get n b) is other = tt
other-readable len image callers lines (events.Put n b size fill) is other = tt
other-readable len image callers lines (events.Patch n b from bytes) is other = tt
other-readable len image callers lines (events.Pin n b) is other = tt
other-readable len image callers lines (events.Unpin n b) is other = tt
other-readable len image callers lines (events.Load n b held) is other = tt
other-readable len image callers lines (events.Evict n b) is other = tt

-- ---- no End stands in the front

abbrev pub GoesOn : CellEvent → Type 0
GoesOn e = not (is_end e) ≡ true

other-going : (callers : ℕ) (lines : List Op) (e : CellEvent) → IsOfLines callers lines e → (number_of e == callers) ≡ false → GoesOn e
other-going callers lines (events.End n) is other = absurd (let own : (n == callers) ≡ true = eq-eqb n callers is in let off : (n == callers) ≡ false = other in let clash : true ≡ false = sym own ∙ off in cc)
other-going callers lines (events.Get n b) is other = refl
other-going callers lines (events.Put n b size fill) is other = refl
other-going callers lines (events.Patch n b from bytes) is other = refl
other-going callers lines (events.Pin n b) is other = refl
other-going callers lines (events.Unpin n b) is other = refl
other-going callers lines (events.Load n b held) is other = refl
other-going callers lines (events.Evict n b) is other = refl
other-going callers lines (events.Synced n b ptr held) is other = refl

all-going : (es : List CellEvent) → AllByRecursion GoesOn es → list_all (λ e. not (is_end e)) es ≡ true
all-going [] all = refl
all-going (e ∷ es) all = let going = all.0 in rw going (all-going es all.1)

pub none-ended : (callers : ℕ) (lines : List Op) (front : List CellEvent) → AllByRecursion (IsOfLines callers lines) front → AllByRecursion GoesOn (done_by callers front) → list_all (λ e. not (is_end e)) front ≡ true
none-ended callers lines front all fed = all-going front (front-all GoesOn callers lines (other-going callers lines) front all fed)

-- each note of the feeder goes on
pub fed-going : (g : Config) (i : ℕ) (ls : List Line) → AllFit g ls → AllByRecursion GoesOn (events_of_cell i (fed_notes ls))
fed-going g i ls fits = noted-all GoesOn i (fed_notes ls) (fed-all g (λ note. GoesOn note.event) (λ note is. ap (λ (e : CellEvent). not (is_end e)) is.is) ls fits)
