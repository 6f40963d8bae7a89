-- How one caller's lines of a group found the cells of their blocks: a later one found all that an earlier one had found and done there.
use Rattle.std.proofs.Common.{◌≡◌, ℕ, zero, suc, ◌-◌, ◌<◌, ◌≤◌, nat_lt, Bool, true, false, if◌then◌else◌, List, [], ◌∷◌, ◌++◌, Option, Some, None, take, refl, sym, ap, ◌∙◌, subst, inl, inr, arith, append-nil, append_assoc}
use Rattle.std.specs.Prelude.{IfSome, slice_get}
use Rattle.std.proofs.lemmas.Bool.{false≢true}
use Rattle.std.proofs.lemmas.Bool.Decides.{nat_tests}
use Rattle.arc_lists.proofs.Tables.{cases_true}
use Rattle.arc_core.specs.Config.{IsConfig}
use Rattle.arc_core.specs.declared.config.Config.{Config}
use Rattle.arc_table.specs.declared.view.Line.{Line as Seen}
use Rattle.arc_table.specs.Fronts.{StartsWith, front_of}
use Rattle.arc_table.specs.TableLaws.{starts_whole}
use Rattle.dbuf_cells.specs.Places.{cell_of}
use Rattle.dbuf_state.specs.declared.oid.Oid.{Oid}
use Rattle.trace_run.specs.Deeds.{CellsGrow, Noted, lines_of_cell}
use Rattle.trace_run.specs.Lines.{is_of_caller}
use Rattle.trace_run.specs.dbufs.ObjectLines.{OnObject, cell_lines, on_object}
use Rattle.trace_run.specs.dbufs.ObjectReplies.{LooksFrom}
use Rattle.trace_run.specs.dbufs.Objects.{Line}
use Rattle.trace_run.specs.RunWork.{lines_of_caller}
use Rattle.trace_run.specs.callers.Looking.{FindMore}
use Rattle.trace_run.specs.callers.WorkLines.{LooksLines, noted_of_work}
use Rattle.trace_run.proofs.callers.MeetLemmas.{starts-then}
use Rattle.trace_run.proofs.deeds.OperatesDone.{cell-there}

-- ---- small steps

pub by-some : {X : Type 0} (A B : X → Type 0) (o : Option X) → ((x : X) → A x → B x) → IfSome o A → IfSome o B
by-some A B None so had = tt
by-some A B (Some x) so had = so x had

pub by-object : (A : OnObject → Type 0) (o : Option OnObject) (on : OnObject) → o ≡ Some on → IfSome o A → A on
by-object A o on is had = subst (λ (x : Option OnObject). IfSome x A) is had

-- what lines found, where so many were before
abbrev pub found_after : (many : ℕ) → (old more : (k : ℕ) → List Seen) → (k : ℕ) → List Seen
found_after many old more k = if nat_lt k many then old k else more (k - many)

module _ (many : ℕ) (old more : (k : ℕ) → List Seen) where
  pub found-early : (k : ℕ) → k < many → found_after many old more k ≡ old k
  found-early k early =
      let is : nat_lt k many ≡ true = grind (arith, nat_tests, early) in
      ap (λ (b : Bool). if b then old k else more (k - many)) is

  pub found-late : (k : ℕ) → many ≤ k → found_after many old more k ≡ more (k - many)
  found-late k late =
      let is : nat_lt k many ≡ false = grind (arith, nat_tests, late) in
      ap (λ (b : Bool). if b then old k else more (k - many)) is

-- and where one was
abbrev pub found_then : List Seen → (rest : (k : ℕ) → List Seen) → (k : ℕ) → List Seen
found_then first rest zero = first
found_then first rest (suc k) = rest k

-- ---- the lines of a group

module _ (g : Config) (valid : IsConfig g) (len : ℕ) (image : Option (List ℕ)) (openings : List (List ℕ)) (n : ℕ) where
  -- One of n's lines among these looked at its cell, which goes on from what was seen at first, and later ones found more of it.
  pub record LooksThere (begun seen : List (List Seen)) (had : List Noted) (ls : List Line) (found : (k : ℕ) → List Seen) (k : ℕ) (at : Oid) (l : Line) : Type 0 where
    pub next : List (List Seen)
    pub grown : CellsGrow g next seen
    pub look : LooksFrom g len image openings begun next n had at l
    pub is : cell_lines look.from.cell ≡ found k
    pub later : FindMore g n ls found k (cell_of g.cells at) (cell_lines look.from.cell ++ lines_of_cell (cell_of g.cells at) l.work.noted)

  -- each of n's lines did
  pub record AllLookThere (begun seen : List (List Seen)) (had : List Noted) (ls : List Line) : Type 0 where
    pub found : (k : ℕ) → List Seen
    pub grown : CellsGrow g begun seen
    pub each : (k : ℕ) (l : Line) → slice_get ls k ≡ Some l → is_of_caller n l.op ≡ true → IfSome (on_object l.op) (λ on. LooksThere begun seen (had ++ noted_of_work (lines_of_caller n (take k ls))) ls found k on.at l)

  -- what a line found of its cell; nothing where it is on no object
  abbrev found_of : (begun next : List (List Seen)) (had : List Noted) (l : Line) (o : Option OnObject) → IfSome o (λ on. LooksFrom g len image openings begun next n had on.at l) → List Seen
  found_of begun next had l None look = []
  found_of begun next had l (Some on) look = cell_lines look.from.cell

  -- behind a line more in front
  behind-one : (begun next seen : List (List Seen)) (more : CellsGrow g begun next) (had : List Noted) (x : Line) (ls : List Line) (first : List Seen) (found : (k : ℕ) → List Seen) (k : ℕ) (at : Oid) (l : Line)
      → LooksThere next seen had ls found k at l → LooksThere begun seen had (x ∷ ls) (found_then first found) (suc k) at l
  behind-one begun next seen more had x ls first found k at l t = record {
    next = t.next;
    grown = t.grown;
    look = record {
      from = t.look.from;
      since = starts-then (cell_lines t.look.from.cell) (front_of (cell_of g.cells at) next) (front_of (cell_of g.cells at) begun) t.look.since (more (cell_of g.cells at) (cell-there g valid at));
    };
    is = t.is;
    later = later;
  }
    where
      later : FindMore g n (x ∷ ls) (found_then first found) (suc k) (cell_of g.cells at) (cell_lines t.look.from.cell ++ lines_of_cell (cell_of g.cells at) l.work.noted)
      later zero e on lt there his is same = absurd (omega (arith, lt))
      later (suc y) e on lt there his is same = t.later y e on (omega (arith, lt)) there his is same

  -- a line of n's, and those behind it
  module _ (begun next seen : List (List Seen)) (more : CellsGrow g begun next) (had : List Noted) (x : Line) (ls : List Line) (own : is_of_caller n x.op ≡ true)
      (first : IfSome (on_object x.op) (λ on. LooksFrom g len image openings begun next n had on.at x)) (r : AllLookThere next seen (had ++ x.work.noted) ls) where
    later-first : (at : Oid) (f : LooksFrom g len image openings begun next n had at x) (here : List Seen)
        → FindMore g n (x ∷ ls) (found_then here r.found) 0 (cell_of g.cells at) (cell_lines f.from.cell ++ lines_of_cell (cell_of g.cells at) x.work.noted)
    later-first at f here zero e on lt there his is same = absurd (omega (arith, lt))
    later-first at f here (suc y) e on lt there his is same =
        let i : ℕ = cell_of g.cells at in
        let t = by-object (λ (it : OnObject). LooksThere next seen ((had ++ x.work.noted) ++ noted_of_work (lines_of_caller n (take y ls))) ls r.found y it.at e) (on_object e.op) on is (r.each y e there his) in
        let since : StartsWith (r.found y) (front_of i next) = subst (λ (z : List Seen × ℕ). StartsWith z.0 (front_of z.1 next)) (λ j. (t.is j, same j)) t.look.since in
        starts-then (r.found y) (front_of i next) (cell_lines f.from.cell ++ lines_of_cell i x.work.noted) since f.from.front

    first-there : (o : Option OnObject) (f : IfSome o (λ on. LooksFrom g len image openings begun next n had on.at x))
        → IfSome o (λ on. LooksThere begun seen had (x ∷ ls) (found_then (found_of begun next had x o f) r.found) 0 on.at x)
    first-there None f = tt
    first-there (Some on) f = record { next = next; grown = r.grown; look = f; is = refl; later = later-first on.at f (cell_lines f.from.cell) }

    abbrev found_all : (k : ℕ) → List Seen
    found_all = found_then (found_of begun next had x (on_object x.op) first) r.found

    own-each : (k : ℕ) (l : Line) → slice_get (x ∷ ls) k ≡ Some l → is_of_caller n l.op ≡ true
        → IfSome (on_object l.op) (λ on. LooksThere begun seen (had ++ noted_of_work (lines_of_caller n (take k (x ∷ ls)))) (x ∷ ls) found_all k on.at l)
    own-each zero l at his =
        let same : x ≡ l = cc in
        subst (λ (y : Line × List Noted). IfSome (on_object y.0.op) (λ on. LooksThere begun seen y.1 (x ∷ ls) found_all 0 on.at y.0)) (λ i. (same i, sym (append-nil had) i)) (first-there (on_object x.op) first)
    own-each (suc k) l at his =
        let before : List Noted = (had ++ x.work.noted) ++ noted_of_work (lines_of_caller n (take k ls)) in
        let all : before ≡ had ++ noted_of_work (lines_of_caller n (x ∷ take k ls)) =
        append_assoc had x.work.noted (noted_of_work (lines_of_caller n (take k ls))) ∙ ap (λ (y : List Line). had ++ noted_of_work y) (let same : x ∷ lines_of_caller n (take k ls) ≡ lines_of_caller n (x ∷ take k ls) = rw own refl in same) in
        subst (λ (y : List Noted). IfSome (on_object l.op) (λ on. LooksThere begun seen y (x ∷ ls) found_all (suc k) on.at l)) all
        (by-some (λ (on : OnObject). LooksThere next seen before ls r.found k on.at l) (λ (on : OnObject). LooksThere begun seen before (x ∷ ls) found_all (suc k) on.at l) (on_object l.op)
        (λ on t. behind-one begun next seen more before x ls (found_of begun next had x (on_object x.op) first) r.found k on.at l t) (r.each k l at his))

    own-there : AllLookThere begun seen had (x ∷ ls)
    own-there = record { found = found_all; grown = λ i in_range. starts-then (front_of i seen) (front_of i next) (front_of i begun) (r.grown i in_range) (more i in_range); each = own-each }

  -- a line of another's
  module _ (begun seen : List (List Seen)) (had : List Noted) (x : Line) (ls : List Line) (other : is_of_caller n x.op ≡ false) (r : AllLookThere begun seen had ls) where
    other-each : (k : ℕ) (l : Line) → slice_get (x ∷ ls) k ≡ Some l → is_of_caller n l.op ≡ true
        → IfSome (on_object l.op) (λ on. LooksThere begun seen (had ++ noted_of_work (lines_of_caller n (take k (x ∷ ls)))) (x ∷ ls) (found_then [] r.found) k on.at l)
    other-each zero l at his =
        let same : x ≡ l = cc in
        absurd (false≢true (sym other ∙ (ap (λ (y : Line). is_of_caller n y.op) same ∙ his)))
    other-each (suc k) l at his =
        let before : List Noted = had ++ noted_of_work (lines_of_caller n (take k ls)) in
        let all : lines_of_caller n (take k ls) ≡ lines_of_caller n (x ∷ take k ls) = rw other refl in
        subst (λ (y : List Line). IfSome (on_object l.op) (λ on. LooksThere begun seen (had ++ noted_of_work y) (x ∷ ls) (found_then [] r.found) (suc k) on.at l)) all
        (by-some (λ (on : OnObject). LooksThere begun seen before ls r.found k on.at l) (λ (on : OnObject). LooksThere begun seen before (x ∷ ls) (found_then [] r.found) (suc k) on.at l) (on_object l.op)
        (λ on t. behind-one begun begun seen (λ i in_range. starts_whole (front_of i begun)) before x ls [] r.found k on.at l t) (r.each k l at his))

    other-there : AllLookThere begun seen had (x ∷ ls)
    other-there = record { found = found_then [] r.found; grown = r.grown; each = other-each }

  none-there : (k : ℕ) (l : Line) → slice_get {X = Line} [] k ≡ Some l → ⊥
  none-there k l at = cc

  -- all of n's lines among these, by how each went on from the one before it
  pub look-there : (begun seen : List (List Seen)) (had : List Noted) (ls : List Line) → LooksLines g len image openings begun seen n had (lines_of_caller n ls) → AllLookThere begun seen had ls
  look-there begun seen had [] looks = record { found = λ k. []; grown = looks; each = λ k l at his. absurd (none-there k l at) }
  look-there begun seen had (x ∷ ls) looks = elim (cases_true (is_of_caller n x.op)) [
    | inl own ↦
        let all = rw own at looks in
        own-there begun all.0 seen all.1 had x ls own all.2 (look-there all.0 seen (had ++ x.work.noted) ls all.3)
    | inr other ↦ other-there begun seen had x ls other (look-there begun seen had ls (rw other at looks))
  ]
