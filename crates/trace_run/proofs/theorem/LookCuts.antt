-- How far the front of a cell at which a line looked goes among what callers did there: it has all of earlier groups, and nothing of later ones.
use Rattle.std.proofs.Common.{◌≡◌, ℕ, zero, suc, ◌+◌, ◌-◌, ◌<◌, ◌≤◌, ◌==◌, true, false, List, [], ◌∷◌, ◌++◌, length, take, Some, refl, sym, ap, ◌∙◌, subst, inl, inr, arith, append-nil, append_assoc}
use Rattle.std.specs.Prelude.{◌⊎◌, slice_get}
use Rattle.std.specs.List.{AllByRecursion}
use Rattle.std.proofs.lemmas.List.{take_all}
use Rattle.std.proofs.lemmas.List.Elements.{filter-append}
use Rattle.std.proofs.lemmas.Option.{slice_get_within}
use Rattle.arc_lists.proofs.Tables.{cases_true}
use Rattle.arc_table.specs.Fronts.{StartsWith}
use Rattle.dbuf_state.specs.Numbers.{number_of}
use Rattle.dbuf_state.specs.declared.event.CellEvent.{CellEvent}
use Rattle.trace_text.specs.declared.op.Op.{Op}
use Rattle.trace_text.specs.declared.op.Op.TheVariants as ops
use Rattle.trace_run.specs.dbufs.CellEnds.{done_by}
use Rattle.trace_run.specs.Deeds.{events_of_cell}
use Rattle.trace_run.specs.Lines.{is_of_caller}
use Rattle.trace_run.specs.dbufs.Objects.{Line}
use Rattle.trace_run.specs.RunWork.{lines_of_caller}
use Rattle.trace_run.specs.callers.Together.{ends_group}
use Rattle.trace_run.specs.callers.WorkLines.{noted_of_work}
use Rattle.trace_run.proofs.AnswerLemmas.{take_one}
use Rattle.trace_run.proofs.callers.GroupLists.{slice-there}
use Rattle.trace_run.proofs.callers.LineLists.{noted-append}
use Rattle.trace_run.proofs.deeds.CellsDone.{cell-append}

-- ---- lists

module _ {X : Type 0} where
  -- a front of a front is one
  starts-two : (a b c : List X) → StartsWith a b → StartsWith b c → StartsWith a c
  starts-two a b c first second = (second.0 ++ first.0, first.1 ∙ (ap (λ (l : List X). l ++ first.0) second.1 ∙ append_assoc c second.0 first.0))

-- ---- what one number did

all-done : (m : ℕ) (es : List CellEvent) → AllByRecursion (λ (e : CellEvent). (number_of e == m) ≡ true) (done_by m es)
all-done m [] = tt
all-done m (e ∷ es) = elim (cases_true (number_of e == m)) [
  | inl his ↦ rw his (his, all-done m es)
  | inr other ↦ rw other (all-done m es)
]

all-right : (P : CellEvent → Type 0) (xs ys : List CellEvent) → AllByRecursion P (xs ++ ys) → AllByRecursion P ys
all-right P [] ys all = all
all-right P (x ∷ xs) ys all = all-right P xs ys all.1

all-left : (P : CellEvent → Type 0) (xs ys : List CellEvent) → AllByRecursion P (xs ++ ys) → AllByRecursion P xs
all-left P [] ys all = tt
all-left P (x ∷ xs) ys all = (all.0, all-left P xs ys all.1)

pub done-all : (m : ℕ) (es : List CellEvent) → AllByRecursion (λ (e : CellEvent). (number_of e == m) ≡ true) es → done_by m es ≡ es
done-all m [] all = refl
done-all m (e ∷ es) all = let his = all.0 in rw his (ap (λ (l : List CellEvent). e ∷ l) (done-all m es all.1))

pub done-append : (m : ℕ) (a b : List CellEvent) → done_by m (a ++ b) ≡ done_by m a ++ done_by m b
done-append m a b = filter-append (λ (e : CellEvent). number_of e == m) a b

pub done-starts : (m : ℕ) (a b : List CellEvent) → StartsWith a b → StartsWith (done_by m a) (done_by m b)
done-starts m a b s = (done_by m s.0, ap (done_by m) s.1 ∙ done-append m b s.0)

-- a line that ends a group is no caller's
ends-not-his : (m : ℕ) (op : Op) → ends_group op ≡ true → is_of_caller m op ≡ false
ends-not-his m (ops.Txg t) ends = refl
ends-not-his m (ops.Cap c) ends = refl
ends-not-his m ops.Feed ends = refl
ends-not-his m (ops.Read n t x window) ends = cc
ends-not-his m (ops.Hold n t x) ends = cc
ends-not-his m (ops.Drop n x) ends = cc
ends-not-his m (ops.Get n t at window) ends = cc
ends-not-his m (ops.Put n t at size fill) ends = cc
ends-not-his m (ops.Patch n t at from bytes) ends = cc
ends-not-his m (ops.Pin n t at) ends = cc
ends-not-his m (ops.Unpin n at) ends = cc

-- ---- one cell

module _ (i : ℕ) (lines : List Line) where
  -- what a caller's lines among these did to it
  abbrev pub did_there : ℕ → List Line → List CellEvent
  did_there m ls = events_of_cell i (noted_of_work (lines_of_caller m ls))

  did-append : (m : ℕ) (a b : List Line) → did_there m (a ++ b) ≡ did_there m a ++ did_there m b
  did-append m a b =
      ap (λ (ls : List Line). events_of_cell i (noted_of_work ls)) (filter-append (λ (l : Line). is_of_caller m l.op) a b)
      ∙ (ap (events_of_cell i) (noted-append (lines_of_caller m a) (lines_of_caller m b)) ∙ cell-append i (noted_of_work (lines_of_caller m a)) (noted_of_work (lines_of_caller m b)))

  one-more : (m k : ℕ) (l : Line) → slice_get lines k ≡ Some l → did_there m (take (suc k) lines) ≡ did_there m (take k lines) ++ did_there m (l ∷ [])
  one-more m k l at =
      let next : suc k ≡ k + 1 = omega arith in
      ap (λ (j : ℕ). did_there m (take j lines)) next ∙ (ap (did_there m) (take_one lines k l at) ∙ did-append m (take k lines) (l ∷ []))

  did-his : (m : ℕ) (l : Line) → is_of_caller m l.op ≡ true → did_there m (l ∷ []) ≡ events_of_cell i l.work.noted
  did-his m l his = rw his (ap (events_of_cell i) (append-nil l.work.noted))

  did-other : (m : ℕ) (l : Line) → is_of_caller m l.op ≡ false → did_there m (l ∷ []) ≡ []
  did-other m l other = rw other refl

  -- nothing more is done there
  still : (m k : ℕ) (l : Line) → slice_get lines k ≡ Some l → did_there m (l ∷ []) ≡ [] → did_there m (take (suc k) lines) ≡ did_there m (take k lines)
  still m k l at none = one-more m k l at ∙ (ap (λ (es : List CellEvent). did_there m (take k lines) ++ es) none ∙ append-nil (did_there m (take k lines)))

  -- A line of m's looked at the cell, which had this front then. By the lines that end groups: it goes on from what all had seen as an earlier group ended, and what all had seen as its own or a
  -- later one ended goes on from what the line did there.
  pub record LookedAs (level : ℕ → List CellEvent) (m k : ℕ) (l : Line) : Type 0 where
    pub front : List CellEvent
    pub mine : done_by m front ≡ did_there m (take k lines)
    pub since : (x : ℕ) (e : Line) → x < k → slice_get lines x ≡ Some e → ends_group e.op ≡ true → StartsWith front (level x)
    pub until : (x : ℕ) (e : Line) → k < x → slice_get lines x ≡ Some e → ends_group e.op ≡ true → StartsWith (level x) (front ++ events_of_cell i l.work.noted)

  module _ (level : ℕ → List CellEvent) (history : List CellEvent) (m : ℕ) (all : done_by m history ≡ did_there m lines)
      (each : (k : ℕ) (l : Line) → slice_get lines k ≡ Some l → is_of_caller m l.op ≡ true → (events_of_cell i l.work.noted ≡ []) ⊎ LookedAs level m k l)
      (x : ℕ) (e : Line) (at : slice_get lines x ≡ Some e) (ends : ends_group e.op ≡ true) (whole : StartsWith history (level x)) where
    inside : x < length lines
    inside = slice_get_within lines x e at

    -- each line's entries are m's
    own : (k : ℕ) (l : Line) → slice_get lines k ≡ Some l → is_of_caller m l.op ≡ true → done_by m (events_of_cell i l.work.noted) ≡ events_of_cell i l.work.noted
    own k l there his = done-all m (events_of_cell i l.work.noted) (subst (AllByRecursion (λ (v : CellEvent). (number_of v == m) ≡ true)) (did-his m l his) (all-right _ (did_there m (take k lines)) (did_there m (l ∷ [])) front))
      where
        prefix : (ls : List Line) (j : ℕ) → AllByRecursion (λ (v : CellEvent). (number_of v == m) ≡ true) (did_there m ls) → AllByRecursion (λ (v : CellEvent). (number_of v == m) ≡ true) (did_there m (take j ls))
        prefix [] zero every = tt
        prefix [] (suc j) every = tt
        prefix (y ∷ ys) zero every = tt
        prefix (y ∷ ys) (suc j) every =
            let parts = subst (AllByRecursion (λ (v : CellEvent). (number_of v == m) ≡ true)) (did-append m (y ∷ []) ys) every in
            subst (AllByRecursion (λ (v : CellEvent). (number_of v == m) ≡ true)) (sym (did-append m (y ∷ []) (take j ys)))
            (both (did_there m (y ∷ [])) (did_there m (take j ys)) (all-left _ (did_there m (y ∷ [])) (did_there m ys) parts) (prefix ys j (all-right _ (did_there m (y ∷ [])) (did_there m ys) parts)))
          where
            both : (a b : List CellEvent) → AllByRecursion (λ (v : CellEvent). (number_of v == m) ≡ true) a → AllByRecursion (λ (v : CellEvent). (number_of v == m) ≡ true) b → AllByRecursion (λ (v : CellEvent). (number_of v == m) ≡ true) (a ++ b)
            both [] b first second = second
            both (v ∷ a) b first second = (first.0, both a b first.1 second)

        front : AllByRecursion (λ (v : CellEvent). (number_of v == m) ≡ true) (did_there m (take k lines) ++ did_there m (l ∷ []))
        front = subst (AllByRecursion (λ (v : CellEvent). (number_of v == m) ≡ true)) (one-more m k l there) (prefix lines (suc k) (subst (AllByRecursion (λ (v : CellEvent). (number_of v == m) ≡ true)) all (all-done m history)))

    -- what all had seen has what m's lines before that one did
    has-before : (j : ℕ) → j ≤ x → StartsWith (done_by m (level x)) (did_there m (take j lines))
    has-before zero le = (done_by m (level x), refl)
    has-before (suc j) le =
        let l = slice-there lines j (let lt = inside in omega arith) in
        let before = has-before j (omega arith) in
        elim (cases_true (is_of_caller m l.0.op)) [
          | inr other ↦ subst (StartsWith (done_by m (level x))) (sym (still m j l.0 l.1 (did-other m l.0 other))) before
          | inl his ↦ elim (each j l.0 l.1 his) [
            | inl none ↦ subst (StartsWith (done_by m (level x))) (sym (still m j l.0 l.1 (did-his m l.0 his ∙ none))) before
            | inr f ↦
                let u = f.until x e (omega arith) at ends in
                let notes : List CellEvent = events_of_cell i l.0.work.noted in
                let done : done_by m (f.front ++ notes) ≡ did_there m (take (suc j) lines) =
                done-append m f.front notes ∙ ((λ z. f.mine z ++ (own j l.0 l.1 his ∙ sym (did-his m l.0 his)) z) ∙ sym (one-more m j l.0 l.1)) in
                (done_by m u.0, ap (done_by m) u.1 ∙ (done-append m (f.front ++ notes) u.0 ∙ ap (λ (es : List CellEvent). es ++ done_by m u.0) done))
          ]
        ]

    -- and nothing of those behind it
    no-more : (d j : ℕ) → j + d ≡ length lines → x < j → StartsWith (did_there m (take j lines)) (done_by m (level x))
    no-more zero j is lt =
        let ended : take j lines ≡ lines = take_all j lines (omega arith) in
        let h = done-starts m history (level x) whole in
        (h.0, ap (did_there m) ended ∙ (sym all ∙ h.1))
    no-more (suc d) j is lt =
        let l = slice-there lines j (omega arith) in
        let next = no-more d (suc j) (omega arith) (omega arith) in
        elim (cases_true (is_of_caller m l.0.op)) [
          | inr other ↦ subst (λ (es : List CellEvent). StartsWith es (done_by m (level x))) (still m j l.0 l.1 (did-other m l.0 other)) next
          | inl his ↦ elim (each j l.0 l.1 his) [
            | inl none ↦ subst (λ (es : List CellEvent). StartsWith es (done_by m (level x))) (still m j l.0 l.1 (did-his m l.0 his ∙ none)) next
            | inr f ↦ let s = done-starts m f.front (level x) (f.since x e lt at ends) in (s.0, sym f.mine ∙ s.1)
          ]
        ]

    has-all : StartsWith (did_there m (take x lines)) (done_by m (level x))
    has-all =
        let lt = inside in
        let rest : suc x + (length lines - suc x) ≡ length lines = omega arith in
        subst (λ (es : List CellEvent). StartsWith es (done_by m (level x))) (still m x e at (did-other m e (ends-not-his m e.op ends))) (no-more (length lines - suc x) (suc x) rest (omega arith))

    -- a front that goes on from there has all that m's lines of earlier groups did
    pub look-since : (front : List CellEvent) → StartsWith front (level x) → StartsWith (done_by m front) (did_there m (take x lines))
    look-since front s = starts-two (done_by m front) (done_by m (level x)) (did_there m (take x lines)) (done-starts m front (level x) s) (has-before x (omega arith))

    -- and one from which that goes on has nothing that m's lines of later groups did
    pub look-until : (front notes : List CellEvent) → StartsWith (level x) (front ++ notes) → StartsWith (did_there m (take x lines)) (done_by m front)
    look-until front notes u =
        starts-two (did_there m (take x lines)) (done_by m (level x)) (done_by m front) has-all (done-starts m (level x) front (notes ++ u.0, u.1 ∙ append_assoc front notes u.0))
