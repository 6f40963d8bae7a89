-- A whole write that a caller surely finds stands in the front of the cell's history at which its line looked.
use Rattle.std.proofs.Common.{◌≡◌, ℕ, zero, suc, ◌<◌, Bool, true, false, List, [], ◌∷◌, ◌++◌, map, take, Option, Some, None, refl, ap, ◌∙◌, inl, inr, arith, eq-eqb}
use Rattle.std.specs.Prelude.{filter, slice_get}
use Rattle.std.specs.List.{list_any}
use Rattle.arc_lists.proofs.Tables.{cases_true}
use Rattle.arc_core.specs.declared.config.Config.{Config}
use Rattle.arc_table.specs.Fronts.{StartsWith}
use Rattle.dbuf_state.specs.Oids.{oid_eq}
use Rattle.dbuf_state.specs.declared.event.CellEvent.{CellEvent}
use Rattle.dbuf_state.specs.declared.event.CellEvent.TheVariants as events
use Rattle.dbuf_state.specs.declared.oid.Oid.{Oid}
use Rattle.dbuf_cells.specs.Laws.{is_put_of}
use Rattle.dbuf_cells.specs.Places.{cell_of}
use Rattle.trace_text.specs.declared.op.Op.{Op}
use Rattle.trace_text.specs.declared.op.Op.TheVariants as ops
use Rattle.trace_text.specs.declared.reply.Reply.{Reply}
use Rattle.trace_text.specs.declared.reply.Reply.TheVariants as replies
use Rattle.trace_run.specs.Deeds.{events_of_cell}
use Rattle.trace_run.specs.Lines.{is_of_caller}
use Rattle.trace_run.specs.RunWork.{lines_of_caller}
use Rattle.trace_run.specs.callers.WorkLines.{AreLinesOf, IsWorkOf, noted_of_work}
use Rattle.trace_run.specs.dbufs.CellEnds.{done_by}
use Rattle.trace_run.specs.dbufs.Objects.{Line, NotesOwn, Work, loads_of}
use Rattle.trace_run.proofs.deeds.NotedCells.{cell-append, noted-here}

-- ---- lists

pub any-left : {X : Type 0} (p : X → Bool) (xs ys : List X) → list_any p xs ≡ true → list_any p (xs ++ ys) ≡ true
any-left p [] ys has = let clash : false ≡ true = has in cc
any-left p (x ∷ xs) ys has = elim (cases_true (p x)) [
  | inl passes ↦ rw passes refl
  | inr fails ↦ rw fails (any-left p xs ys (rw fails at has))
]

pub any-right : {X : Type 0} (p : X → Bool) (xs ys : List X) → list_any p ys ≡ true → list_any p (xs ++ ys) ≡ true
any-right p [] ys has = has
any-right p (x ∷ xs) ys has = elim (cases_true (p x)) [
  | inl passes ↦ rw passes refl
  | inr fails ↦ rw fails (any-right p xs ys has)
]

pub any-first : {X : Type 0} (p : X → Bool) (x : X) (xs : List X) → p x ≡ true → list_any p (x ∷ xs) ≡ true
any-first p x xs passes = rw passes refl

any-filter : {X : Type 0} (p q : X → Bool) (xs : List X) → list_any p (filter q xs) ≡ true → list_any p xs ≡ true
any-filter p q [] has = has
any-filter p q (x ∷ xs) has = elim (cases_true (p x)) [
  | inl passes ↦ rw passes refl
  | inr fails ↦ rw fails (elim (cases_true (q x)) [
    | inl kept ↦ any-filter p q xs (let h : list_any p (x ∷ filter q xs) ≡ true = rw kept at has in rw fails at h)
    | inr left ↦ any-filter p q xs (rw left at has)
  ])
]

-- ---- the line at a place

some-op : (a b : Op) → ◌≡◌ {A = Option Op} (Some a) (Some b) → a ≡ b
some-op a b is = cc

pub record LineAt (op : Op) (k : ℕ) (rs : List Reply) (ls : List Line) : Type 0 where
  pub reply : Reply
  pub work : Work
  pub there : slice_get ls k ≡ Some (record { op = op; reply = reply; work = work })
  pub replied : slice_get rs k ≡ Some reply

pub line-at : (os : List Op) (rs : List Reply) (ls : List Line) (k : ℕ) (op : Op) → AreLinesOf os rs ls → slice_get os k ≡ Some op → LineAt op k rs ls
line-at [] rs ls k op are at = absurd (let clash : ◌≡◌ {A = Option Op} None (Some op) = at in cc)
line-at (o ∷ os) [] ls k op are at = absurd are
line-at (o ∷ os) (r ∷ rs) [] k op are at = absurd are
line-at (o ∷ os) (r ∷ rs) (l ∷ ls) zero op are at = record {
  reply = r;
  work = l.work;
  there = λ i. Some (record { op = (are.0 ∙ some-op o op at) i; reply = are.1 i; work = l.work });
  replied = refl;
}
line-at (o ∷ os) (r ∷ rs) (l ∷ ls) (suc k) op are at =
    let rest = line-at os rs ls k op are.2 at in
    record { reply = rest.reply; work = rest.work; there = rest.there; replied = rest.replied }

-- ---- what a whole write notes

oid-same : (at : Oid) → oid_eq at at ≡ true
oid-same at = let a = eq-eqb at.object at.object refl in let b = eq-eqb at.block at.block refl in rw a b

module _ (g : Config) (m t : ℕ) (at : Oid) (size fill : ℕ) (work : Work) where
  abbrev put : Op
  put = ops.Put m t at size fill

  pub put-noted : (n : ℕ) → IsWorkOf g n (record { op = put; reply = replies.Done; work = work }) → list_any (is_put_of at) (events_of_cell (cell_of g.cells at) work.noted) ≡ true
  put-noted n f = from f.notes
    where
      from : NotesOwn g n (record { at = at; event = events.Put m at size fill }) work → list_any (is_put_of at) (events_of_cell (cell_of g.cells at) work.noted) ≡ true
      from notes =
          let all : List CellEvent = loads_of n at work.brought ++ events.Put m at size fill ∷ map (events.Evict n) notes.evictions in
          let is : events_of_cell (cell_of g.cells at) work.noted ≡ all = ap (events_of_cell (cell_of g.cells at)) notes.noted ∙ noted-here (cell_of g.cells at) all in
          ap (list_any (is_put_of at)) is ∙ any-right (is_put_of at) (loads_of n at work.brought) _ (any-first (is_put_of at) (events.Put m at size fill) (map (events.Evict n) notes.evictions) (oid-same at))

-- what a caller's line notes is among what its lines note
pub among-lines : (p : CellEvent → Bool) (m i : ℕ) (l : Line) (ls : List Line) (j k : ℕ) → slice_get ls j ≡ Some l → is_of_caller m l.op ≡ true → j < k → list_any p (events_of_cell i l.work.noted) ≡ true
    → list_any p (events_of_cell i (noted_of_work (lines_of_caller m (take k ls)))) ≡ true
among-lines p m i l [] j k at his less has = absurd (let clash : ◌≡◌ {A = Option Line} None (Some l) = at in cc)
among-lines p m i l (x ∷ ls) j zero at his less has = absurd (omega (arith, less))
among-lines p m i l (x ∷ ls) zero (suc k) at his less has =
    let is : x ≡ l = some-line x l at in
    let mine : is_of_caller m x.op ≡ true = ap (λ (y : Line). is_of_caller m y.op) is ∙ his in
    rw mine (ap (list_any p) (cell-append i x.work.noted (noted_of_work (lines_of_caller m (take k ls))))
    ∙ any-left p (events_of_cell i x.work.noted) _ (ap (λ (y : Line). list_any p (events_of_cell i y.work.noted)) is ∙ has))
  where
    some-line : (a b : Line) → ◌≡◌ {A = Option Line} (Some a) (Some b) → a ≡ b
    some-line a b is = cc
among-lines p m i l (x ∷ ls) (suc j) (suc k) at his less has =
    let rest = among-lines p m i l ls j k at his (omega (arith, less)) has in
    elim (cases_true (is_of_caller m x.op)) [
      | inl mine ↦ rw mine (ap (list_any p) (cell-append i x.work.noted (noted_of_work (lines_of_caller m (take k ls)))) ∙ any-right p (events_of_cell i x.work.noted) _ rest)
      | inr other ↦ rw other rest
    ]

-- and so is what n did to a cell among what all did
pub any-done : (p : CellEvent → Bool) (n : ℕ) (h news : List CellEvent) → StartsWith (done_by n h) news → list_any p news ≡ true → list_any p h ≡ true
any-done p n h news starts has = any-filter p _ h (ap (list_any p) starts.1 ∙ any-left p news starts.0 has)
