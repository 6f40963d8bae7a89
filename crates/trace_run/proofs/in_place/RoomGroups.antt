-- The lines of groups, what each party did by them, and what stands at the front of a cell.
use Rattle.std.proofs.Common.{◌≡◌, ◌⊎◌, ◌==◌, ℕ, suc, true, false, List, [], ◌∷◌, ◌++◌, length, Option, Some, None, refl, sym, ap, ◌∙◌, inl, inr, append-nil, append_assoc, eq-eqb, ne_eqb}
use Rattle.std.specs.List.{AllByRecursion}
use Rattle.std.proofs.lemmas.Bool.{eqb-true}
use Rattle.std.proofs.lemmas.List.Elements.{filter-append}
use Rattle.arc_lists.proofs.Tables.{cases_true}
use Rattle.arc_core.specs.declared.config.Config.{Config}
use Rattle.dbuf_state.specs.Numbers.{number_of}
use Rattle.dbuf_state.specs.declared.event.CellEvent.{CellEvent}
use Rattle.dbuf_state.specs.declared.event.CellEvent.TheVariants as events
use Rattle.txg_sync.specs.Items.{SyncItem}
use Rattle.txg_sync.specs.Turns.{synced_in}
use Rattle.trace_text.specs.declared.op.Op.TheVariants as ops
use Rattle.trace_text.specs.declared.reply.Reply.{Reply}
use Rattle.trace_run.specs.Deeds.{events_of_cell}
use Rattle.trace_run.specs.RunWork.{lines_of_party}
use Rattle.trace_run.specs.callers.Together.{GroupLines, groups_begun, lines_with_end, with_first, ends_group}
use Rattle.trace_run.specs.callers.WorkLines.{noted_of_work}
use Rattle.trace_run.specs.dbufs.CellEnds.{done_by}
use Rattle.trace_run.specs.dbufs.Objects.{Line, Work}
use Rattle.trace_run.proofs.callers.LineLists.{AreInside, noted-append}
use Rattle.trace_run.proofs.deeds.NotedCells.{cell-append}
use Rattle.trace_run.proofs.syncs.SyncTold.{noted-there}
use Rattle.trace_run.proofs.in_place.EventLines.{all-filter}
use Rattle.trace_run.specs.Syncing.{noted_of}

-- ---- groups

abbrev pub end_lines : Option Line → List Line
end_lines None = []
end_lines (Some l) = l ∷ []

-- their lines, one group behind the other
abbrev pub flat : List GroupLines → List Line
flat [] = []
flat (group ∷ gs) = lines_with_end group.lines group.end ++ flat gs

pub with-end : (ls : List Line) (end : Option Line) → lines_with_end ls end ≡ ls ++ end_lines end
with-end ls None = sym (append-nil ls)
with-end ls (Some l) = refl

flat-first : (l : Line) (gs : List GroupLines) → flat (with_first l gs) ≡ l ∷ flat gs
flat-first l [] = refl
flat-first l (group ∷ gs) = ap (λ (ls : List Line). ls ++ flat gs) (one group.end)
  where
    one : (end : Option Line) → lines_with_end (l ∷ group.lines) end ≡ l ∷ lines_with_end group.lines end
    one None = refl
    one (Some e) = refl

pub flat-begun : (ls : List Line) → flat (groups_begun ls) ≡ ls
flat-begun [] = refl
flat-begun (l ∷ ls) = elim (cases_true (ends_group l.op)) [
  | inl ends ↦ rw ends (ap (λ (xs : List Line). l ∷ xs) (flat-begun ls))
  | inr inside ↦ rw inside (flat-first l (groups_begun ls) ∙ ap (λ (xs : List Line). l ∷ xs) (flat-begun ls))
]

abbrev pub AllInside : List GroupLines → Type 0
AllInside = AllByRecursion (λ group. AreInside group.lines)

inside-first : (l : Line) (gs : List GroupLines) → ends_group l.op ≡ false → AllInside gs → AllInside (with_first l gs)
inside-first l [] inside all = ((inside, tt), tt)
inside-first l (group ∷ gs) inside all = ((inside, all.0), all.1)

pub inside-begun : (ls : List Line) → AllInside (groups_begun ls)
inside-begun [] = (tt, tt)
inside-begun (l ∷ ls) = elim (cases_true (ends_group l.op)) [
  | inl ends ↦ rw ends (tt, inside-begun ls)
  | inr inside ↦ rw inside (inside-first l (groups_begun ls) inside (inside-begun ls))
]

-- ---- fronts of one list

-- the first is at the front of the second, or the other way round
pub two-fronts : (xs ys r s : List CellEvent) → xs ++ r ≡ ys ++ s → ((zs : List CellEvent) × (ys ≡ xs ++ zs)) ⊎ ((e : CellEvent) × (zs : List CellEvent) × (xs ≡ ys ++ e ∷ zs))
two-fronts [] ys r s is = inl (ys, refl)
two-fronts (x ∷ xs) [] r s is = inr (x, xs, refl)
two-fronts (x ∷ xs) (y ∷ ys) r s is =
    let same : x ≡ y = cc in
    let rest : xs ++ r ≡ ys ++ s = cc in
    elim (two-fronts xs ys r s rest) [
      | inl first ↦ inl (first.0, (λ z. sym same z ∷ first.1 z))
      | inr second ↦ inr (second.0, second.1, (λ z. same z ∷ second.2 z))
    ]

pub longer : (e : CellEvent) (zs : List CellEvent) → suc (length (done_by (number_of e) zs)) ≡ length (done_by (number_of e) (e ∷ zs))
longer e zs = let own : (number_of e == number_of e) ≡ true = eq-eqb (number_of e) (number_of e) refl in rw own refl

-- what stands behind two parts stands behind both as one
pub joined : (all first next rest : List CellEvent) → all ≡ first ++ (next ++ rest) → all ≡ (first ++ next) ++ rest
joined all first next rest is = is ∙ sym (append_assoc first next rest)

-- ---- what a sync notes is the feeder's

his-synced : (n i : ℕ) (xs : List SyncItem) → done_by n (synced_in n i xs) ≡ synced_in n i xs
his-synced n i [] = refl
his-synced n i (x ∷ xs) =
    let own : (n == n) ≡ true = eq-eqb n n refl in
    elim (cases_true (x.due.cell == i)) [
      | inl here ↦ rw here (rw own (ap (λ (es : List CellEvent). events.Synced n x.due.at x.ptr x.held ∷ es) (his-synced n i xs)))
      | inr other ↦ rw other (his-synced n i xs)
    ]

none-synced : (m n i : ℕ) (xs : List SyncItem) → (n == m) ≡ false → done_by m (synced_in n i xs) ≡ []
none-synced m n i [] differs = refl
none-synced m n i (x ∷ xs) differs = elim (cases_true (x.due.cell == i)) [
  | inl here ↦ rw here (rw differs (none-synced m n i xs differs))
  | inr other ↦ rw other (none-synced m n i xs differs)
]

-- ---- parties

module _ (g : Config) where
  abbrev pub by_party : (n i : ℕ) → List Line → List CellEvent
  by_party n i ls = events_of_cell i (noted_of_work (lines_of_party g n ls))

  party-append : (n : ℕ) (a b : List Line) → lines_of_party g n (a ++ b) ≡ lines_of_party g n a ++ lines_of_party g n b
  party-append n a b = elim (cases_true (n == g.callers)) [
    | inl feeder ↦ rw feeder (filter-append _ a b)
    | inr caller ↦ rw caller (filter-append _ a b)
  ]

  pub by-append : (n i : ℕ) (a b : List Line) → by_party n i (a ++ b) ≡ by_party n i a ++ by_party n i b
  by-append n i a b =
      ap (λ (ls : List Line). events_of_cell i (noted_of_work ls)) (party-append n a b)
      ∙ (ap (events_of_cell i) (noted-append (lines_of_party g n a) (lines_of_party g n b)) ∙ cell-append i (noted_of_work (lines_of_party g n a)) (noted_of_work (lines_of_party g n b)))

  pub by-none : (n i : ℕ) → by_party n i [] ≡ []
  by-none n i = elim (cases_true (n == g.callers)) [
    | inl feeder ↦ rw feeder refl
    | inr caller ↦ rw caller refl
  ]

  pub party-all : (Q : Line → Type 0) (n : ℕ) (ls : List Line) → AllByRecursion Q ls → AllByRecursion Q (lines_of_party g n ls)
  party-all Q n ls all = elim (cases_true (n == g.callers)) [
    | inl feeder ↦ rw feeder (all-filter Q _ ls all)
    | inr caller ↦ rw caller (all-filter Q _ ls all)
  ]

  -- of a sync's line each party did what the sync notes of it
  pub by-synced : (n i t : ℕ) (reply : Reply) (work : Work) (xs : List SyncItem) → work.noted ≡ noted_of g.callers xs
      → done_by n (synced_in g.callers i xs) ≡ by_party n i (record { op = ops.Txg t; reply = reply; work = work } ∷ [])
  by-synced n i t reply work xs noted = elim (cases_true (n == g.callers)) [
    | inl feeder ↦
        let same : n ≡ g.callers = eqb-true n g.callers feeder in
        rw feeder (ap (λ (m : ℕ). done_by m (synced_in g.callers i xs)) same ∙ (his-synced g.callers i xs
        ∙ (sym (noted-there g g.callers i xs) ∙ ap (events_of_cell i) (sym noted ∙ sym (append-nil work.noted)))))
    | inr caller ↦ rw caller (none-synced n g.callers i xs (ne_eqb g.callers n (λ is. let own : (n == g.callers) ≡ true = eq-eqb n g.callers (sym is) in cc)))
  ]
