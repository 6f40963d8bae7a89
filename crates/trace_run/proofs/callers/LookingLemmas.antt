-- How callers' lines on objects looked at cells, group by group: behind more lines of theirs, and behind a line that ends their group.
use Rattle.std.proofs.Common.{◌≡◌, ◌⊎◌, ℕ, ◌+◌, ◌-◌, ◌<◌, ◌≤◌, nat_lt, Bool, true, false, if◌then◌else◌, List, [], ◌∷◌, ◌++◌, Option, Some, None, length, take, refl, sym, ap, ◌∙◌, subst, inl, inr, arith, length-append}
use Rattle.std.specs.Prelude.{IfSome, slice_get, slice_index_or}
use Rattle.std.proofs.lemmas.Bool.{cases_lt, false≢true}
use Rattle.std.proofs.lemmas.Bool.Decides.{nat_tests}
use Rattle.std.proofs.lemmas.List.{take-append-le}
use Rattle.std.proofs.lemmas.List.Elements.{filter-append}
use Rattle.std.proofs.lemmas.Option.{slice_get_within}
use Rattle.std.proofs.Math.Seq.{take-append-add, take-append_seam}
use mathlib.Core.Option.{some}
use lib.ListN.{get_elem?}
use Rattle.turn_table.specs.Places.{Place}
use Rattle.arc_core.specs.Config.{IsConfig}
use Rattle.arc_core.specs.declared.config.Config.{Config}
use Rattle.arc_table.specs.declared.about.About.{About}
use Rattle.arc_table.specs.declared.view.Known.{Known}
use Rattle.arc_table.specs.declared.view.Line.{Line as Seen}
use Rattle.arc_table.specs.Fronts.{StartsWith, front_of}
use Rattle.arc_table.specs.Geometry.{IsCell}
use Rattle.arc_table.specs.TableLaws.{starts_whole}
use Rattle.dbuf_cells.specs.Places.{cell_of}
use Rattle.dbuf_state.specs.declared.oid.Oid.{Oid}
use Rattle.trace_run.specs.Deeds.{KeepsCells, events_of_cell, lines_of_cell}
use Rattle.trace_run.specs.Lines.{caller_of, is_of_caller}
use Rattle.trace_run.specs.dbufs.ObjectLines.{OnObject, TellsBrought, cell_lines, on_object}
use Rattle.trace_run.specs.dbufs.ObjectReplies.{AnswersObject}
use Rattle.trace_run.specs.dbufs.Objects.{Line}
use Rattle.trace_run.specs.RunWork.{lines_of_caller}
use Rattle.trace_run.specs.callers.Looking.{EndsCell, HaveLooked, LooksCut}
use Rattle.trace_run.specs.callers.Together.{ends_group}
use Rattle.trace_run.specs.callers.WorkLines.{noted_of_work}
use Rattle.trace_run.proofs.callers.FoundLemmas.{LooksThere, by-object, by-some, found-early, found-late, found_after}
use Rattle.trace_run.proofs.callers.GroupLists.{get-left, get-right, some-same}
use Rattle.trace_run.proofs.callers.LineLists.{AreInside, nobody-callers, noted-append}
use Rattle.trace_run.proofs.callers.MeetLemmas.{starts-then}
use Rattle.trace_run.proofs.callers.MoreLemmas.{inside-at}
use Rattle.trace_run.proofs.callers.ToldLemmas.{told-early, told-late, told_then}
use Rattle.trace_run.proofs.deeds.OperatesDone.{cell-there}

-- before any line
pub none-looked : {C : Type 0} (g : Config) (len : ℕ) (told : (k : ℕ) → Option (List ℕ)) (ps : List (Place (Known C))) → HaveLooked g len told [] ps
none-looked g len told ps = record {
  level = λ k i. [];
  taken = λ k i. [];
  wrote = λ k e at ends i in_range. absurd (none k e at);
  reach = λ k e at ends n p party i in_range. absurd (none k e at);
  found = λ n k. [];
  looks = λ k n l p at his party. absurd (none k l at);
}
  where
    none : (k : ℕ) (l : Line) → slice_get {X = Line} [] k ≡ Some l → ⊥
    none k l at = cc

-- a line behind these is one of those that follow
right-at : (ls ms : List Line) (x : ℕ) (e : Line) → length ls ≤ x → slice_get (ls ++ ms) x ≡ Some e → slice_get ms (x - length ls) ≡ Some e
right-at ls ms x e late at =
    let there : x ≡ length ls + (x - length ls) = omega (arith, late) in
    sym (get-right ls ms (x - length ls)) ∙ (ap (slice_get (ls ++ ms)) (sym there) ∙ at)

module _ {C : Type 0} (g : Config) (valid : IsConfig g) (len : ℕ) (told : (k : ℕ) → Option (List ℕ)) where
  -- ---- one line

  -- A line that looked did so behind more lines, where its party has seen more and the same is told of its group; a group more may end behind what the party had seen.
  cut-on : (later_told : (k : ℕ) → Option (List ℕ)) (ls ms : List Line) (level next taken later_taken : (k i : ℕ) → List Seen) (found now_found : (k : ℕ) → List Seen) (p q : Place (Known C)) (k n : ℕ) (at : Oid) (l : Line) → later_told k ≡ told k → KeepsCells g p q → take k ms ≡ take k ls
      → ((x : ℕ) (e : Line) → x < k → slice_get ms x ≡ Some e → ends_group e.op ≡ true → (slice_get ls x ≡ Some e) × (next x (cell_of g.cells at) ≡ level x (cell_of g.cells at)))
      → ((x : ℕ) (e : Line) → k < x → slice_get ms x ≡ Some e → ends_group e.op ≡ true
      → ((slice_get ls x ≡ Some e) × (later_taken x (cell_of g.cells at) ≡ taken x (cell_of g.cells at))) ⊎ StartsWith (later_taken x (cell_of g.cells at)) (front_of (cell_of g.cells at) p.own.seen))
      → now_found k ≡ found k
      → ((x : ℕ) (e : Line) (on : OnObject) → k < x → slice_get ms x ≡ Some e → is_of_caller n e.op ≡ true → on_object e.op ≡ Some on → cell_of g.cells on.at ≡ cell_of g.cells at
      → ((slice_get ls x ≡ Some e) × (now_found x ≡ found x)) ⊎ StartsWith (now_found x) (front_of (cell_of g.cells at) p.own.seen))
      → LooksCut g len told p.own.about.openings p.own.seen ls level taken found k n at l → LooksCut g len later_told q.own.about.openings q.own.seen ms next later_taken now_found k n at l
  cut-on later_told ls ms level next taken later_taken found now_found p q k n at l same keeps earlier before later found_same found_later cut =
      let i : ℕ = cell_of g.cells at in
      let lines : List Seen = cell_lines cut.from.cell in
      let front = starts-then (front_of i q.own.seen) (front_of i p.own.seen) (lines ++ lines_of_cell i l.work.noted) (keeps.fronts i (cell-there g valid at)) cut.from.front in
      record {
        from = record {
          cell = cut.from.cell;
          sound = cut.from.sound;
          opening = cut.from.opening ∙ ap (λ (a : About). slice_index_or a.openings i []) (sym keeps.about);
          mine = cut.from.mine ∙ ap (λ (ys : List Line). events_of_cell i (noted_of_work (lines_of_caller n ys))) (sym earlier);
          front = front;
          brought = cut.from.brought;
          acts = cut.from.acts;
          answer = subst (λ (now : Option (List ℕ)). AnswersObject len now cut.from.cell.value.limit cut.from.cell.value.opening cut.from.cell.value.history l.work.brought l.op l.reply) (sym same) cut.from.answer;
          range = subst (λ (now : Option (List ℕ)). TellsBrought now l.work.brought) (sym same) cut.from.range;
        };
        since = λ x e lt there ends. let h = before x e lt there ends in subst (StartsWith lines) (sym h.1) (cut.since x e lt h.0 ends);
        until = λ x e lt there ends. elim (later x e lt there ends) [
          | inl h ↦ subst (λ (s : List Seen). StartsWith s (lines ++ lines_of_cell i l.work.noted)) (sym h.1) (cut.until x e lt h.0 ends)
          | inr more ↦ starts-then (later_taken x i) (front_of i p.own.seen) (lines ++ lines_of_cell i l.work.noted) more cut.from.front
        ];
        is = cut.is ∙ sym found_same;
        later = λ x e on lt there his is same_cell. elim (found_later x e on lt there his is same_cell) [
          | inl h ↦ subst (λ (s : List Seen). StartsWith s (lines ++ lines_of_cell i l.work.noted)) (sym h.1) (cut.later x e on lt h.0 his is same_cell)
          | inr more ↦ starts-then (now_found x) (front_of i p.own.seen) (lines ++ lines_of_cell i l.work.noted) more cut.from.front
        ];
      }

  -- a line of a group behind these lines, which looked by a cell that goes on from what its party had seen as the group began
  cut-new : (ls ms : List Line) (level taken : (k i : ℕ) → List Seen) (found more : (k : ℕ) → List Seen) (p q : Place (Known C)) (now : Option (List ℕ)) (k j n : ℕ) (at : Oid) (l : Line) → KeepsCells g p q → length ls ≤ k → k ≡ length ls + j
      → ((x : ℕ) (e : Line) → slice_get (ls ++ ms) x ≡ Some e → ends_group e.op ≡ true → x < length ls)
      → ((x : ℕ) (e : Line) → slice_get ls x ≡ Some e → ends_group e.op ≡ true → StartsWith (front_of (cell_of g.cells at) p.own.seen) (level x (cell_of g.cells at)))
      → LooksThere g valid len now p.own.about.openings n p.own.seen q.own.seen (noted_of_work (lines_of_caller n ls) ++ noted_of_work (lines_of_caller n (take j ms))) ms more j at l
      → LooksCut g len (told_then told (length ls) now) q.own.about.openings q.own.seen (ls ++ ms) level taken (found_after (length ls) found more) k n at l
  cut-new ls ms level taken found more p q now k j n at l keeps le there inside reach t =
      let f = t.look in
      let i : ℕ = cell_of g.cells at in
      let had : noted_of_work (lines_of_caller n (take k (ls ++ ms))) ≡ noted_of_work (lines_of_caller n ls) ++ noted_of_work (lines_of_caller n (take j ms)) =
      ap (λ (ys : List Line). noted_of_work (lines_of_caller n ys)) (ap (λ (y : ℕ). take y (ls ++ ms)) there ∙ take-append-add ls ms j)
      ∙ (ap noted_of_work (filter-append _ ls (take j ms)) ∙ noted-append (lines_of_caller n ls) (lines_of_caller n (take j ms))) in
      record {
        from = record {
          cell = f.from.cell;
          sound = f.from.sound;
          opening = f.from.opening ∙ ap (λ (a : About). slice_index_or a.openings i []) (sym keeps.about);
          mine = f.from.mine ∙ ap (events_of_cell i) (sym had);
          front = starts-then (front_of i q.own.seen) (front_of i t.next) (cell_lines f.from.cell ++ lines_of_cell i l.work.noted) (t.grown i (cell-there g valid at)) f.from.front;
          brought = f.from.brought;
          acts = f.from.acts;
          answer = subst (λ (x : Option (List ℕ)). AnswersObject len x f.from.cell.value.limit f.from.cell.value.opening f.from.cell.value.history l.work.brought l.op l.reply) (sym (told-late told (length ls) now k le)) f.from.answer;
          range = subst (λ (x : Option (List ℕ)). TellsBrought x l.work.brought) (sym (told-late told (length ls) now k le)) f.from.range;
        };
        since = λ x e lt is ends.
            let early = inside x e is ends in
            starts-then (cell_lines f.from.cell) (front_of i p.own.seen) (level x i) f.since (reach x e (sym (get-left ls ms x early) ∙ is) ends);
        until = λ x e lt is ends. let early = inside x e is ends in absurd (omega (arith, early, lt, le));
        is = t.is ∙ sym (found-late (length ls) found more k le ∙ ap more (let back : k - length ls ≡ j = omega (arith, there) in back));
        later = λ x e on lt at_x his is same.
            let late : length ls ≤ x = omega (arith, lt, le) in
            let found_there = t.later (x - length ls) e on (omega (arith, lt, there)) (right-at ls ms x e late at_x) his is same in
            subst (λ (s : List Seen). StartsWith s (cell_lines f.from.cell ++ lines_of_cell i l.work.noted)) (sym (found-late (length ls) found more x late)) found_there;
      }

  -- the party that a caller had before it has seen this
  abbrev pub Had : List (Place (Known C)) → (n : ℕ) → Place (Known C) → Type 0
  Had ps n q = (p : Place (Known C)) × (get_elem? ps n ≡ some p) × KeepsCells g p q

  -- ---- the lines of a group

  -- a caller's party behind more lines, each of which looked over what the pool told as their group began, and found this
  pub record LooksOn (now : Option (List ℕ)) (ls ms : List Line) (ps : List (Place (Known C))) (more : (k : ℕ) → List Seen) (n : ℕ) (q : Place (Known C)) : Type 0 where
    pub from : Place (Known C)
    pub at : get_elem? ps n ≡ some from
    pub keeps : KeepsCells g from q
    pub looks : (k : ℕ) (l : Line) → slice_get ms k ≡ Some l → is_of_caller n l.op ≡ true
        → IfSome (on_object l.op) (λ (on : OnObject). LooksThere g valid len now from.own.about.openings n from.own.seen q.own.seen (noted_of_work (lines_of_caller n ls) ++ noted_of_work (lines_of_caller n (take k ms))) ms more k on.at l)

  module _ (now : Option (List ℕ)) (ls ms : List Line) (ps qs : List (Place (Known C))) (own : AreInside ms)
      (on_each : (n : ℕ) → (more : (k : ℕ) → List Seen) × ((q : Place (Known C)) → get_elem? qs n ≡ some q → LooksOn now ls ms ps more n q)) (w : HaveLooked g len told ls ps) where
    abbrev told_now : (k : ℕ) → Option (List ℕ)
    told_now = told_then told (length ls) now

    abbrev found_now : (n k : ℕ) → List Seen
    found_now n = found_after (length ls) (w.found n) (on_each n).0

    -- no line more ends a group
    early-ends : (x : ℕ) (e : Line) → slice_get (ls ++ ms) x ≡ Some e → ends_group e.op ≡ true → x < length ls
    early-ends x e at ends = elim (cases_lt x (length ls)) [
      | inl early ↦ early
      | inr late ↦ absurd (false≢true (sym (inside-at ms own (x - length ls) e (right-at ls ms x e late at)) ∙ ends))
    ]

    left-at : (x : ℕ) (e : Line) → slice_get (ls ++ ms) x ≡ Some e → x < length ls → slice_get ls x ≡ Some e
    left-at x e at early = sym (get-left ls ms x early) ∙ at

    module _ (k n : ℕ) (l : Line) (q : Place (Known C)) (at : slice_get (ls ++ ms) k ≡ Some l) (his : is_of_caller n l.op ≡ true) (o : LooksOn now ls ms ps (on_each n).0 n q) where
      abbrev Then : OnObject → Type 0
      Then on = LooksCut g len told_now q.own.about.openings q.own.seen (ls ++ ms) w.level w.taken (found_now n) k n on.at l

      -- what a later line found goes on from what the party had seen before the group, where it is of the group
      found-on : (i x : ℕ) (e : Line) (on : OnObject) → slice_get (ls ++ ms) x ≡ Some e → is_of_caller n e.op ≡ true → on_object e.op ≡ Some on → cell_of g.cells on.at ≡ i
          → ((slice_get ls x ≡ Some e) × (found_now n x ≡ w.found n x)) ⊎ StartsWith (found_now n x) (front_of i o.from.own.seen)
      found-on i x e on at_x his_x is same = elim (cases_lt x (length ls)) [
        | inl early ↦ inl (left-at x e at_x early, found-early (length ls) (w.found n) (on_each n).0 x early)
        | inr late ↦
            let t = by-object (λ (it : OnObject). LooksThere g valid len now o.from.own.about.openings n o.from.own.seen q.own.seen (noted_of_work (lines_of_caller n ls) ++ noted_of_work (lines_of_caller n (take (x - length ls) ms))) ms (on_each n).0 (x - length ls) it.at e)
            (on_object e.op) on is (o.looks (x - length ls) e (right-at ls ms x e late at_x) his_x) in
            let there : cell_lines t.look.from.cell ≡ found_now n x = t.is ∙ sym (found-late (length ls) (w.found n) (on_each n).0 x late) in
            inr (subst (λ (y : List Seen × ℕ). StartsWith y.0 (front_of y.1 o.from.own.seen)) (λ z. (there z, same z)) t.look.since)
      ]

      old-line : k < length ls → IfSome (on_object l.op) Then
      old-line early =
          by-some (λ (on : OnObject). LooksCut g len told o.from.own.about.openings o.from.own.seen ls w.level w.taken (w.found n) k n on.at l) Then (on_object l.op)
          (λ on cut. cut-on told_now ls (ls ++ ms) w.level w.level w.taken w.taken (w.found n) (found_now n) o.from q k n on.at l (told-early told (length ls) now k early) o.keeps (take-append-le k ls ms (omega (arith, early)))
          (λ x e lt there ends. (left-at x e there (early-ends x e there ends), refl)) (λ x e lt there ends. inl (left-at x e there (early-ends x e there ends), refl))
          (found-early (length ls) (w.found n) (on_each n).0 k early) (λ x e on_x lt there his_x is same. found-on (cell_of g.cells on.at) x e on_x there his_x is same) cut)
          (w.looks k n l o.from (left-at k l at early) his o.at)

      new-line : (j : ℕ) → length ls ≤ k → k ≡ length ls + j → IfSome (on_object l.op) Then
      new-line j le there =
          by-some (λ (on : OnObject). LooksThere g valid len now o.from.own.about.openings n o.from.own.seen q.own.seen (noted_of_work (lines_of_caller n ls) ++ noted_of_work (lines_of_caller n (take j ms))) ms (on_each n).0 j on.at l) Then (on_object l.op)
          (λ on t. cut-new ls ms w.level w.taken (w.found n) (on_each n).0 o.from q now k j n on.at l o.keeps le there early-ends (λ x e is ends. w.reach x e is ends n o.from o.at (cell_of g.cells on.at) (cell-there g valid on.at)) t)
          (o.looks j l (sym (get-right ls ms j) ∙ (ap (slice_get (ls ++ ms)) (sym there) ∙ at)) his)

      line-looked : IfSome (on_object l.op) Then
      line-looked = elim (cases_lt k (length ls)) [
        | inl early ↦ old-line early
        | inr late ↦ new-line (k - length ls) late (omega (arith, late))
      ]

    pub more-looked : HaveLooked g len told_now (ls ++ ms) qs
    more-looked = record {
      level = w.level;
      taken = w.taken;
      wrote = λ k e at ends i in_range.
          let early = early-ends k e at ends in
          subst (λ (ys : List Line). EndsCell g ys e.work i (w.taken k i) (w.level k i)) (sym (take-append-le k ls ms (omega (arith, early)))) (w.wrote k e (left-at k e at early) ends i in_range);
      reach = λ k e at ends n q party i in_range.
          let o = (on_each n).1 q party in
          starts-then (front_of i q.own.seen) (front_of i o.from.own.seen) (w.level k i) (o.keeps.fronts i in_range) (w.reach k e (left-at k e at (early-ends k e at ends)) ends n o.from o.at i in_range);
      found = found_now;
      looks = λ k n l q at his party. line-looked k n l q at his ((on_each n).1 q party);
    }

  -- ---- a line that ends them

  -- All had seen this of each cell before it, and behind it all have seen what this party has.
  module _ (ls : List Line) (last : Line) (ps qs : List (Place (Known C))) (f : Place (Known C)) (nobody : caller_of last.op ≡ None) (old : (n : ℕ) (q : Place (Known C)) → get_elem? qs n ≡ some q → Had ps n q)
      (same : (n : ℕ) (q : Place (Known C)) → get_elem? qs n ≡ some q → (i : ℕ) → IsCell g i → front_of i q.own.seen ≡ front_of i f.own.seen)
      (all : (i : ℕ) → List Seen) (had : (n : ℕ) (p : Place (Known C)) → get_elem? ps n ≡ some p → (i : ℕ) → IsCell g i → StartsWith (all i) (front_of i p.own.seen))
      (ended : (i : ℕ) → IsCell g i → EndsCell g ls last.work i (all i) (front_of i f.own.seen)) (w : HaveLooked g len told ls ps) where
    -- the levels of these lines, and behind them this one
    abbrev with_last : (old : (k i : ℕ) → List Seen) (new : (i : ℕ) → List Seen) → (k i : ℕ) → List Seen
    with_last old new k i = if nat_lt k (length ls) then old k i else new i

    with-old : (old : (k i : ℕ) → List Seen) (new : (i : ℕ) → List Seen) (k i : ℕ) → k < length ls → with_last old new k i ≡ old k i
    with-old old new k i early =
        let is : nat_lt k (length ls) ≡ true = grind (arith, nat_tests, early) in
        ap (λ (b : Bool). if b then old k i else new i) is

    with-new : (old : (k i : ℕ) → List Seen) (new : (i : ℕ) → List Seen) (k i : ℕ) → length ls ≤ k → with_last old new k i ≡ new i
    with-new old new k i late =
        let is : nat_lt k (length ls) ≡ false = grind (arith, nat_tests, late) in
        ap (λ (b : Bool). if b then old k i else new i) is

    abbrev seen_now : (i : ℕ) → List Seen
    seen_now i = front_of i f.own.seen

    abbrev level : (k i : ℕ) → List Seen
    level = with_last w.level seen_now

    abbrev taken : (k i : ℕ) → List Seen
    taken = with_last w.taken all

    left-of : (x : ℕ) (e : Line) → slice_get (ls ++ last ∷ []) x ≡ Some e → x < length ls → slice_get ls x ≡ Some e
    left-of x e at early = sym (get-left ls (last ∷ []) x early) ∙ at

    -- a line behind these is the last one
    last-of : (x : ℕ) (e : Line) → slice_get (ls ++ last ∷ []) x ≡ Some e → length ls ≤ x → (x ≡ length ls) × (e ≡ last)
    last-of x e at late =
        let inside = slice_get_within (ls ++ last ∷ []) x e at in
        let here : x ≡ length ls = omega (arith, late, inside, length-append ls (last ∷ [])) in
        (here, some-same e last (sym at ∙ (ap (slice_get (ls ++ last ∷ [])) (here ∙ omega arith) ∙ get-right ls (last ∷ []) 0)))

    -- a line that is a caller's is another
    early-his : (k n : ℕ) (l : Line) → slice_get (ls ++ last ∷ []) k ≡ Some l → is_of_caller n l.op ≡ true → k < length ls
    early-his k n l at his = elim (cases_lt k (length ls)) [
      | inl early ↦ early
      | inr late ↦ absurd (false≢true (sym (ap (λ (x : Line). is_of_caller n x.op) (last-of k l at late).1 ∙ nobody-callers n last.op nobody) ∙ his))
    ]

    ended-line : (k n : ℕ) (l : Line) (q : Place (Known C)) → slice_get (ls ++ last ∷ []) k ≡ Some l → is_of_caller n l.op ≡ true → get_elem? qs n ≡ some q
        → IfSome (on_object l.op) (λ (on : OnObject). LooksCut g len told q.own.about.openings q.own.seen (ls ++ last ∷ []) level taken (w.found n) k n on.at l)
    ended-line k n l q at his party =
        let o = old n q party in
        let early = early-his k n l at his in
        by-some (λ (on : OnObject). LooksCut g len told o.0.own.about.openings o.0.own.seen ls w.level w.taken (w.found n) k n on.at l)
        (λ (on : OnObject). LooksCut g len told q.own.about.openings q.own.seen (ls ++ last ∷ []) level taken (w.found n) k n on.at l) (on_object l.op)
        (λ on cut. cut-on told ls (ls ++ last ∷ []) w.level level w.taken taken (w.found n) (w.found n) o.0 q k n on.at l refl o.2 (take-append-le k ls (last ∷ []) (omega (arith, early)))
        (λ x e lt there ends. let before : x < length ls = omega (arith, lt, early) in (left-of x e there before, with-old w.level seen_now x (cell_of g.cells on.at) before))
        (λ x e lt there ends. elim (cases_lt x (length ls)) [
          | inl before ↦ inl (left-of x e there before, with-old w.taken all x (cell_of g.cells on.at) before)
          | inr late ↦
              let i : ℕ = cell_of g.cells on.at in
              inr (subst (λ (s : List Seen). StartsWith s (front_of i o.0.own.seen)) (sym (with-new w.taken all x i late)) (had n o.0 o.1 i (cell-there g valid on.at)))
        ])
        refl (λ x e on_x lt there his_x is same_cell. inl (left-of x e there (early-his x n e there his_x), refl)) cut)
        (w.looks k n l o.0 (left-of k l at early) his o.1)

    ended-wrote : (k : ℕ) (e : Line) → slice_get (ls ++ last ∷ []) k ≡ Some e → ends_group e.op ≡ true → (i : ℕ) → IsCell g i → EndsCell g (take k (ls ++ last ∷ [])) e.work i (taken k i) (level k i)
    ended-wrote k e at ends i in_range = elim (cases_lt k (length ls)) [
      | inl early ↦
          let same = take-append-le k ls (last ∷ []) (omega (arith, early)) in
          subst (λ (x : List Line × (List Seen × List Seen)). EndsCell g x.0 e.work i x.1.0 x.1.1) (λ z. (sym same z, (sym (with-old w.taken all k i early) z, sym (with-old w.level seen_now k i early) z)))
          (w.wrote k e (left-of k e at early) ends i in_range)
      | inr late ↦
          let is = last-of k e at late in
          let same : take k (ls ++ last ∷ []) ≡ ls = ap (λ (n : ℕ). take n (ls ++ last ∷ [])) is.0 ∙ take-append_seam ls (last ∷ []) in
          subst (λ (x : (List Line × Line) × (List Seen × List Seen)). EndsCell g x.0.0 x.0.1.work i x.1.0 x.1.1)
          (λ z. ((sym same z, sym is.1 z), (sym (with-new w.taken all k i late) z, sym (with-new w.level seen_now k i late) z))) (ended i in_range)
    ]

    pub ended-looked : HaveLooked g len told (ls ++ last ∷ []) qs
    ended-looked = record {
      level = level;
      taken = taken;
      wrote = ended-wrote;
      reach = λ k e at ends n q party i in_range.
          let o = old n q party in
          elim (cases_lt k (length ls)) [
            | inl early ↦
                subst (StartsWith (front_of i q.own.seen)) (sym (with-old w.level seen_now k i early))
                (starts-then (front_of i q.own.seen) (front_of i o.0.own.seen) (w.level k i) (o.2.fronts i in_range) (w.reach k e (left-of k e at early) ends n o.0 o.1 i in_range))
            | inr late ↦ subst (StartsWith (front_of i q.own.seen)) (same n q party i in_range ∙ sym (with-new w.level seen_now k i late)) (starts_whole (front_of i q.own.seen))
          ];
      found = w.found;
      looks = ended-line;
    }
