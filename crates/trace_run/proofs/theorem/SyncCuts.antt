-- How far the front of a cell at which a line looked goes among what syncs wrote there: it has all that those before the line wrote, and nothing of those behind it.
use Rattle.std.proofs.Common.{◌≡◌, ℕ, zero, suc, ◌+◌, ◌-◌, ◌<◌, ◌≤◌, ◌==◌, true, List, [], ◌∷◌, ◌++◌, length, take, Some, refl, sym, ap, ◌∙◌, subst, inl, inr, arith, append-nil, eq-eqb}
use Rattle.std.specs.Prelude.{◌⊎◌, slice_get}
use Rattle.std.specs.List.{AllByRecursion}
use Rattle.std.proofs.lemmas.List.{take_all}
use Rattle.std.proofs.lemmas.List.Elements.{filter-append}
use Rattle.arc_core.specs.declared.config.Config.{Config}
use Rattle.arc_lists.proofs.Tables.{cases_true}
use Rattle.arc_table.specs.Fronts.{StartsWith}
use Rattle.dbuf_state.specs.Numbers.{number_of}
use Rattle.dbuf_state.specs.declared.event.CellEvent.{CellEvent}
use Rattle.trace_text.specs.declared.op.Op.{Op}
use Rattle.trace_text.specs.declared.op.Op.TheVariants as ops
use Rattle.trace_text.specs.declared.reply.Reply.{Reply}
use Rattle.trace_run.specs.dbufs.CellEnds.{done_by}
use Rattle.trace_run.specs.Deeds.{Noted, events_of_cell}
use Rattle.trace_run.specs.Lines.{caller_of}
use Rattle.trace_run.specs.dbufs.Objects.{Line, Work}
use Rattle.trace_run.specs.RunWork.{AllFit, FitsBy, IsSyncWork, IsSyncedNote, lines_of_feeder}
use Rattle.trace_run.specs.callers.Together.{ends_group}
use Rattle.trace_run.specs.callers.WorkLines.{noted_of_work}
use Rattle.trace_run.proofs.AnswerLemmas.{take_one}
use Rattle.trace_run.proofs.callers.GroupLists.{slice-there}
use Rattle.trace_run.proofs.callers.LineLists.{noted-append}
use Rattle.trace_run.proofs.deeds.CellsDone.{cell-append}
use Rattle.trace_run.proofs.theorem.LookCuts.{done-append, done-starts}

pub all-slice : (P : Line → Type 0) (xs : List Line) → AllByRecursion P xs → (k : ℕ) (x : Line) → slice_get xs k ≡ Some x → P x
all-slice P [] all k x at = cc
all-slice P (y ∷ ys) all zero x at = let same : y ≡ x = cc in subst P same all.0
all-slice P (y ∷ ys) all (suc k) x at = all-slice P ys all.1 k x at

module _ (g : Config) (i : ℕ) where
  -- what the feeder's lines among these wrote to the cell
  abbrev pub wrote_there : List Line → List CellEvent
  wrote_there ls = events_of_cell i (noted_of_work (lines_of_feeder ls))

  wrote-append : (a b : List Line) → wrote_there (a ++ b) ≡ wrote_there a ++ wrote_there b
  wrote-append a b =
      ap (λ (ls : List Line). events_of_cell i (noted_of_work ls)) (filter-append _ a b)
      ∙ (ap (events_of_cell i) (noted-append (lines_of_feeder a) (lines_of_feeder b)) ∙ cell-append i (noted_of_work (lines_of_feeder a)) (noted_of_work (lines_of_feeder b)))

  -- a sync's line
  abbrev IsSync : Line → Type 0
  IsSync l = (ends_group l.op ≡ true) × (wrote_there (l ∷ []) ≡ events_of_cell i l.work.noted) × IsSyncWork g l.work

  abbrev QuietOrSync : Op → Reply → Work → Type 0
  QuietOrSync op reply work = (wrote_there (record { op = op; reply = reply; work = work } ∷ []) ≡ []) ⊎ IsSync (record { op = op; reply = reply; work = work })

  -- any other line wrote nothing there
  quiet-or-sync : (op : Op) (reply : Reply) (work : Work) → FitsBy g (caller_of op) (record { op = op; reply = reply; work = work }) → QuietOrSync op reply work
  quiet-or-sync (ops.Txg t) reply work fits = inr (refl, ap (events_of_cell i) (append-nil work.noted), fits)
  quiet-or-sync (ops.Cap c) reply work fits = inl (ap (λ (w : Work). events_of_cell i (w.noted ++ [])) fits)
  quiet-or-sync ops.Feed reply work fits = inl (ap (λ (w : Work). events_of_cell i (w.noted ++ [])) fits)
  quiet-or-sync (ops.Read n t x window) reply work fits = inl refl
  quiet-or-sync (ops.Hold n t x) reply work fits = inl refl
  quiet-or-sync (ops.Drop n x) reply work fits = inl refl
  quiet-or-sync (ops.Get n t at window) reply work fits = inl refl
  quiet-or-sync (ops.Put n t at size fill) reply work fits = inl refl
  quiet-or-sync (ops.Patch n t at from bytes) reply work fits = inl refl
  quiet-or-sync (ops.Pin n t at) reply work fits = inl refl
  quiet-or-sync (ops.Unpin n at) reply work fits = inl refl

  -- what it wrote is the feeder's
  synced-own : (ns : List Noted) → AllByRecursion (IsSyncedNote g) ns → done_by g.callers (events_of_cell i ns) ≡ events_of_cell i ns
  synced-own [] all = refl
  synced-own (n ∷ ns) all = elim (cases_true (n.cell == i)) [
    | inl here ↦
        let its : (number_of n.event == g.callers) ≡ true = ap (λ (e : CellEvent). number_of e == g.callers) all.0.is ∙ eq-eqb g.callers g.callers refl in
        rw (here, its) (ap (λ (l : List CellEvent). n.event ∷ l) (synced-own ns all.1))
    | inr other ↦ rw other (synced-own ns all.1)
  ]

  module _ (lines : List Line) (fits : AllFit g lines) where
    one-more : (k : ℕ) (l : Line) → slice_get lines k ≡ Some l → wrote_there (take (suc k) lines) ≡ wrote_there (take k lines) ++ wrote_there (l ∷ [])
    one-more k l at =
        let next : suc k ≡ k + 1 = omega arith in
        ap (λ (j : ℕ). wrote_there (take j lines)) next ∙ (ap wrote_there (take_one lines k l at) ∙ wrote-append (take k lines) (l ∷ []))

    line-is : (k : ℕ) (l : Line) → slice_get lines k ≡ Some l → (wrote_there (l ∷ []) ≡ []) ⊎ IsSync l
    line-is k l at = quiet-or-sync l.op l.reply l.work (all-slice _ lines fits k l at)

    -- nothing more is written there
    still : (k : ℕ) (l : Line) → slice_get lines k ≡ Some l → wrote_there (l ∷ []) ≡ [] → wrote_there (take (suc k) lines) ≡ wrote_there (take k lines)
    still k l at none = one-more k l at ∙ (ap (λ (es : List CellEvent). wrote_there (take k lines) ++ es) none ∙ append-nil (wrote_there (take k lines)))

    -- The line at this place wrote nothing to the cell; or it is a sync that took it with this history, in which the feeder had done what its lines before wrote.
    abbrev pub TookThere : (x : ℕ) → Line → (List CellEvent → Type 0) → Type 0
    TookThere x e So = (events_of_cell i e.work.noted ≡ []) ⊎ ((es : List CellEvent) × (done_by g.callers es ≡ wrote_there (take x lines)) × So es)

    module _ (front : List CellEvent) (k : ℕ) where
      abbrev own : List CellEvent
      own = done_by g.callers front

      -- a front that goes on from what each sync before it left has all that those wrote
      pub has-synced : ((x : ℕ) (e : Line) → x < k → slice_get lines x ≡ Some e → ends_group e.op ≡ true → TookThere x e (λ es. StartsWith front (es ++ events_of_cell i e.work.noted)))
          → (j : ℕ) → j ≤ k → j ≤ length lines → StartsWith own (wrote_there (take j lines))
      has-synced before zero le inside = (own, refl)
      has-synced before (suc j) le inside =
          let l = slice-there lines j (omega (arith, inside)) in
          let earlier = has-synced before j (omega (arith, le)) (omega (arith, inside)) in
          elim (line-is j l.0 l.1) [
            | inl none ↦ subst (StartsWith own) (sym (still j l.0 l.1 none)) earlier
            | inr sync ↦ elim (before j l.0 (omega (arith, le)) l.1 sync.0) [
              | inl none ↦ subst (StartsWith own) (sym (still j l.0 l.1 (sync.1 ∙ none))) earlier
              | inr took ↦
                  let notes : List CellEvent = events_of_cell i l.0.work.noted in
                  let done : done_by g.callers (took.0 ++ notes) ≡ wrote_there (take (suc j) lines) =
                  done-append g.callers took.0 notes ∙ ((λ z. took.1 z ++ (synced-own l.0.work.noted sync.2.synced ∙ sym sync.1) z) ∙ sym (one-more j l.0 l.1)) in
                  subst (StartsWith own) done (done-starts g.callers front (took.0 ++ notes) took.2)
            ]
          ]

      -- and one that each sync behind it goes on from has nothing of what those wrote
      module _ (behind : (x : ℕ) (e : Line) → k < x → slice_get lines x ≡ Some e → ends_group e.op ≡ true → TookThere x e (λ es. StartsWith es front)) (all : StartsWith (wrote_there lines) own) where
        no-more : (d j : ℕ) → j + d ≡ length lines → k < j → StartsWith (wrote_there (take j lines)) own
        no-more zero j is lt = subst (λ (ls : List Line). StartsWith (wrote_there ls) own) (sym (take_all j lines (omega (arith, is)))) all
        no-more (suc d) j is lt =
            let l = slice-there lines j (omega (arith, is)) in
            let next = no-more d (suc j) (omega (arith, is)) (omega (arith, lt)) in
            elim (line-is j l.0 l.1) [
              | inl none ↦ subst (λ (es : List CellEvent). StartsWith es own) (still j l.0 l.1 none) next
              | inr sync ↦ elim (behind j l.0 lt l.1 sync.0) [
                | inl none ↦ subst (λ (es : List CellEvent). StartsWith es own) (still j l.0 l.1 (sync.1 ∙ none)) next
                | inr took ↦ subst (λ (es : List CellEvent). StartsWith es own) took.1 (done-starts g.callers took.0 front took.2)
              ]
            ]

        pub none-synced : (x : ℕ) → k < x → x ≤ length lines → StartsWith (wrote_there (take x lines)) own
        none-synced x lt inside = no-more (length lines - x) x (omega (arith, inside)) lt
