-- A caller's line on an object is answered by the closed cell of its block: the cell goes on from what the line found.
use Rattle.std.proofs.Common.{◌≡◌, ℕ, zero, suc, ◌<◌, true, List, [], ◌∷◌, ◌++◌, length, map, take, drop, Option, Some, None, append_assoc, refl, sym, ap, ◌∙◌, subst, inl, inr, arith, ◌+◌, ◌≤◌, ◌==◌, length-append, eq-eqb}
use Rattle.std.specs.Prelude.{◌⊎◌, IfSome, slice_get, slice_index_or}
use Rattle.std.proofs.lemmas.List.{length-map, map-append, take-append-drop}
use Rattle.std.proofs.lemmas.Nat.{mod_below}
use Rattle.std.proofs.lemmas.Option.{slice_get_within}
use mathlib.Core.Logic.{dite}
use mathlib.Core.Option.{some, some-injective, some-ne-none}
use native.Mathlib.Decide.{ℕ_discrete}
use lib.ListN.{get_elem?}
use Rattle.arc_core.specs.Config.{IsConfig}
use Rattle.arc_core.specs.declared.config.Config.{Config}
use Rattle.arc_table.specs.declared.view.Known.{Known}
use Rattle.arc_table.specs.declared.view.Line.{Line as Seen}
use Rattle.arc_table.specs.declared.view.Line.TheVariants as line
use Rattle.arc_table.specs.Cache.{Cache}
use Rattle.arc_table.specs.Ended.{Ended, Ends}
use Rattle.arc_table.specs.Fronts.{StartsWith, front_of}
use Rattle.arc_table.specs.Geometry.{IsCell}
use Rattle.arc_table.proofs.TableLaws.{there}
use Rattle.dbuf_cells.specs.Places.{cell_of}
use Rattle.dbuf_cells.specs.Turns.{OnHeap, PartyPlace, dbuf_meanings}
use Rattle.dbuf_state.specs.Numbers.{event_numbers}
use Rattle.dbuf_state.specs.Outline.{outline_after}
use Rattle.dbuf_state.specs.declared.event.CellEvent.{CellEvent}
use Rattle.dbuf_state.specs.declared.event.CellEvent.TheVariants.{End}
use Rattle.dbuf_state.specs.declared.oid.Oid.{Oid}
use Rattle.dbuf_state.specs.declared.state.Mapping.{Mapping}
use Rattle.trace_text.specs.declared.op.Op.{Op}
use Rattle.trace_text.specs.declared.op.Op.TheVariants as ops
use Rattle.trace_text.specs.declared.reply.Reply.{Reply}
use Rattle.trace_text.specs.declared.reply.Reply.TheVariants as replies
use Rattle.trace_run.specs.dbufs.CellEnds.{done_by, end_entry}
use Rattle.trace_run.specs.Deeds.{events_of_cell, lines_of_cell, noted_in}
use Rattle.trace_run.specs.Lines.{is_of_caller, caller_of}
use Rattle.trace_run.specs.dbufs.ObjectAnswers.{AreAnsweredByCells, IsAnsweredBy, LookedAt}
use Rattle.trace_run.specs.dbufs.ObjectLines.{OnObject, cell_lines, on_object}
use Rattle.trace_run.specs.dbufs.Holders.{AreHolders}
use Rattle.trace_run.specs.dbufs.ObjectReplies.{ActsFor, AnswersObject, BringsAt}
use Rattle.trace_run.specs.dbufs.Objects.{Line, OwnEvent, Work, no_work, own_event}
use Rattle.trace_run.specs.RunWork.{AllFit, FitsBy, lines_of_caller, lines_of_feeder}
use Rattle.trace_run.specs.callers.Looking.{HaveLooked, LooksCut}
use Rattle.trace_run.specs.callers.Together.{ends_group}
use Rattle.trace_run.specs.callers.WorkLines.{IsWorkOf, NotesLine, noted_of_work}
use Rattle.trace_run.proofs.CellLemmas.{ends-last, entries-front, lines-are, opened-so, opening-same}
use Rattle.trace_run.proofs.callers.AfterEnds.{last-same}
use Rattle.trace_run.proofs.callers.CallerActLemmas.{caller-is}
use Rattle.trace_run.proofs.callers.FoundLemmas.{by-object}
use Rattle.trace_run.proofs.callers.MeetLemmas.{starts-then}
use Rattle.trace_run.proofs.deeds.CellsDone.{noted-else}
use Rattle.trace_run.proofs.theorem.LookCuts.{LookedAs, done-append, done-starts, look-since, look-until}
use Rattle.trace_run.proofs.theorem.SyncCuts.{TookThere, all-slice, has-synced, none-synced, wrote_there}

-- what a party had seen of the cells, and knew of their beginnings, before the cache was closed with what it knows then
pub record EndsFrom (g : Config) (openings : List (List ℕ)) (seen : List (List Seen)) (w : Known OnHeap) : Type 0 where
  pub about : w.about.openings ≡ openings
  pub fronts : (i : ℕ) → IsCell g i → StartsWith (front_of i w.seen) (front_of i seen)

pub slice-of : (l : List OnHeap) (i : ℕ) (c : OnHeap) → get_elem? l i ≡ some c → slice_get l i ≡ Some c
slice-of [] i c at = absurd (some-ne-none c (sym at))
slice-of (x ∷ xs) zero c at = ap (λ (y : OnHeap). Some y) (some-injective x c at)
slice-of (x ∷ xs) (suc i) c at = slice-of xs i c at

-- entries of two lists of events
pub entries-two : (a b : List CellEvent) → map line.Entry (map event_numbers (a ++ b)) ≡ map line.Entry (map event_numbers a) ++ map line.Entry (map event_numbers b)
entries-two a b = ap (map line.Entry) (map-append event_numbers a b) ∙ map-append line.Entry (map event_numbers a) (map event_numbers b)

entries-long : (h : List CellEvent) → length (map line.Entry (map event_numbers h)) ≡ length h
entries-long h = length-map (map event_numbers h) line.Entry ∙ length-map h event_numbers

-- a history whose entries end with an End begins with as many events as stand before that
unended : (n i : ℕ) (h : List CellEvent) (before : List Seen) → map line.Entry (map event_numbers h) ≡ before ++ end_entry n i → (front : List CellEvent) × (h ≡ front ++ End n ∷ []) × (before ≡ map line.Entry (map event_numbers front))
unended n i h before is =
    let e = ends-last h before (End n) is in (
      e.0,
      e.1,
      (last-same before (map line.Entry (map event_numbers e.0)) (line.Entry (event_numbers (End n))) (line.Entry (event_numbers (End n)))
          (sym is ∙ (ap (λ (l : List CellEvent). map line.Entry (map event_numbers l)) e.1 ∙ entries-two e.0 (End n ∷ [])))).0,
    )

-- a front of entries is the entries of as many events
taken-front : (h : List CellEvent) (front rest : List Seen) → map line.Entry (map event_numbers h) ≡ front ++ rest → front ≡ map line.Entry (map event_numbers (take (length front) h))
taken-front h [] rest is = none h
  where
    none : (h : List CellEvent) → [] ≡ map line.Entry (map event_numbers (take 0 h))
    none [] = refl
    none (x ∷ h) = refl
taken-front [] (y ∷ front) rest is = cc
taken-front (x ∷ h) (y ∷ front) rest is =
    let first : line.Entry (event_numbers x) ≡ y = cc in
    let later : map line.Entry (map event_numbers h) ≡ front ++ rest = cc in
    (λ z. sym first z ∷ taken-front h front rest later z)

-- what a line notes is of the cell of its block
module _ (g : Config) (m i : ℕ) where
  its-notes : (own : OwnEvent) (reply : Reply) (work : Work) → NotesLine g m own work reply → (es : List CellEvent) × (work.noted ≡ noted_in (cell_of g.cells own.at) es)
  its-notes own (replies.Got size shown) work n = (_, n.noted)
  its-notes own replies.Done work n = (_, n.noted)
  its-notes own (replies.Refused refusal) work n = ([], n.0)
  its-notes own (replies.Read served digest shown) work n = absurd n
  its-notes own (replies.Kept served) work n = absurd n
  its-notes own replies.Dropped work n = absurd n
  its-notes own (replies.Fed report) work n = absurd n
  its-notes own replies.FedNone work n = absurd n
  its-notes own (replies.Synced group blocks bytes) work n = absurd n
  its-notes own (replies.Capped c) work n = absurd n

  abbrev NotesThere : Op → Work → Type 0
  NotesThere op work = (events_of_cell i work.noted ≡ []) ⊎ ((on : OnObject) × (on_object op ≡ Some on) × (cell_of g.cells on.at ≡ i))

  on-there : (op : Op) (on : OnObject) (own : OwnEvent) (reply : Reply) (work : Work) → on_object op ≡ Some on → own.at ≡ on.at → NotesLine g m own work reply → NotesThere op work
  on-there op on own reply work is same n = dite (ℕ_discrete (cell_of g.cells on.at) i)
      (λ here. inr (on, is, here))
      (λ differs.
      let notes = its-notes own reply work n in
      inl (ap (events_of_cell i) notes.1 ∙ noted-else (cell_of g.cells own.at) i notes.0 (λ there_is. differs (ap (cell_of g.cells) (sym same) ∙ there_is))))

  none-there : (op : Op) (work : Work) → work ≡ no_work → NotesThere op work
  none-there op work none = inl (ap (λ (w : Work). events_of_cell i w.noted) none)

  notes-there : (op : Op) (reply : Reply) (work : Work) → IsWorkOf g m (record { op = op; reply = reply; work = work }) → NotesThere op work
  notes-there (ops.Get n t at w) reply work f = on-there (ops.Get n t at w) (record { at = at; tick = t }) _ reply work refl refl f.notes
  notes-there (ops.Patch n t at start bytes) reply work f = on-there (ops.Patch n t at start bytes) (record { at = at; tick = t }) _ reply work refl refl f.notes
  notes-there (ops.Pin n t at) reply work f = on-there (ops.Pin n t at) (record { at = at; tick = t }) _ reply work refl refl f.notes
  notes-there (ops.Put n t at size fill) reply work f = on-there (ops.Put n t at size fill) (record { at = at; tick = 0 }) _ reply work refl refl f.notes
  notes-there (ops.Unpin n at) reply work f = on-there (ops.Unpin n at) (record { at = at; tick = 0 }) _ reply work refl refl f.notes
  notes-there (ops.Read n t x window) reply work f = none-there (ops.Read n t x window) work f.notes
  notes-there (ops.Hold n t x) reply work f = none-there (ops.Hold n t x) work f.notes
  notes-there (ops.Drop n x) reply work f = none-there (ops.Drop n x) work f.notes
  notes-there ops.Feed reply work f = none-there ops.Feed work f.notes
  notes-there (ops.Txg t) reply work f = none-there (ops.Txg t) work f.notes
  notes-there (ops.Cap c) reply work f = none-there (ops.Cap c) work f.notes

module _ (cache : Cache) (valid : IsConfig cache.config) (ps : List PartyPlace) (e : Ended OnHeap) (ends : Ends dbuf_meanings cache ps e) where
  abbrev g : Config
  g = cache.config

  -- a closed cell goes on from what a party has seen of it
  pub goes-on : (i : ℕ) (c : OnHeap) → get_elem? e.cells i ≡ some c → (n : ℕ) (w : Known OnHeap) → get_elem? ends.views n ≡ some w → StartsWith (map line.Entry (map event_numbers c.value.history)) (front_of i w.seen)
  goes-on i c at n w knows =
      let view = ends.pact.attached.views n w knows in
      subst (λ (x : List Seen × List (List Seen)). StartsWith x.0 (front_of i x.1)) (λ k. (lines-are cache ps e ends i c at k, sym view.seen k)) (ends.pact.logged.seen n i)

  -- the closed cell of a number
  there-closed : (i : ℕ) → IsCell g i → (c : OnHeap) × (get_elem? e.cells i ≡ some c)
  there-closed i range = there e.cells i (subst (λ (k : ℕ). i < k) (sym ends.cells) range)

  module _ (len : ℕ) (told : (k : ℕ) → Option (List ℕ)) (ls : List Line) (crew : List PartyPlace) (h : HaveLooked g len told ls crew) (fits : AllFit g ls)
      (did : (i : ℕ) (c : OnHeap) → get_elem? e.cells i ≡ some c → (m : ℕ) → m < g.callers → done_by m c.value.history ≡ events_of_cell i (noted_of_work (lines_of_caller m ls)))
      (fed : (i : ℕ) (c : OnHeap) → get_elem? e.cells i ≡ some c → done_by g.callers c.value.history ≡ events_of_cell i (noted_of_work (lines_of_feeder ls)) ++ End g.callers ∷ [])
      (from : (n : ℕ) → n < g.callers → (p : PartyPlace) × (get_elem? crew n ≡ some p) × (w : Known OnHeap) × (get_elem? ends.views n ≡ some w) × EndsFrom g p.own.about.openings p.own.seen w)
      (behind : (i : ℕ) (c : OnHeap) → get_elem? e.cells i ≡ some c → (before : List Seen) × (map line.Entry (map event_numbers c.value.history) ≡ before ++ end_entry g.callers i)
      × ((n : ℕ) (below : n < g.callers) → StartsWith before (front_of i (from n below).0.own.seen))) where
    -- how a line of n's looked
    abbrev Cut : (k n : ℕ) → n < g.callers → Oid → Line → Type 0
    Cut k n below at l = LooksCut g len told (from n below).0.own.about.openings (from n below).0.own.seen ls h.level h.taken (h.found n) k n at l

    cut-of : (k n : ℕ) (below : n < g.callers) (l : Line) → slice_get ls k ≡ Some l → is_of_caller n l.op ≡ true → IfSome (on_object l.op) (λ on. Cut k n below on.at l)
    cut-of k n below l at his = h.looks k n l (from n below).0 at his (from n below).1

    -- how much of its cell's history each line found
    abbrev found_his : (k : ℕ) → Option ℕ → ℕ
    found_his k None = 0
    found_his k (Some n) = length (h.found n k)

    abbrev found_by : (k : ℕ) → Option Line → ℕ
    found_by k None = 0
    found_by k (Some l) = found_his k (caller_of l.op)

    abbrev found : (k : ℕ) → ℕ
    found k = found_by k (slice_get ls k)

    found-is : (k n : ℕ) (l : Line) → slice_get ls k ≡ Some l → is_of_caller n l.op ≡ true → found k ≡ length (h.found n k)
    found-is k n l at his = ap (found_by k) at ∙ ap (found_his k) (caller-is n l.op his)

    -- ---- one cell

    module _ (i : ℕ) (range : IsCell g i) where
      abbrev cell : OnHeap
      cell = (there-closed i range).0

      abbrev history : List CellEvent
      history = cell.value.history

      -- what all had seen of it as a group ended, as events
      levels : ℕ → List CellEvent
      levels x = take (length (h.level x i)) history

      level-starts : (x : ℕ) → StartsWith history (levels x)
      unfolding levels
      level-starts x = (drop (length (h.level x i)) history, sym (take-append-drop (length (h.level x i)) history))

      -- the closed cell goes on from what a caller had seen
      seen-there : (n : ℕ) (below : n < g.callers) → StartsWith (map line.Entry (map event_numbers history)) (front_of i (from n below).0.own.seen)
      seen-there n below =
          let f = from n below in
          starts-then (map line.Entry (map event_numbers history)) (front_of i f.2.seen) (front_of i f.0.own.seen) (goes-on i cell (there-closed i range).1 n f.2 f.3) (f.4.fronts i range)

      level-is : (n : ℕ) (below : n < g.callers) (x : ℕ) (v : Line) → slice_get ls x ≡ Some v → ends_group v.op ≡ true → h.level x i ≡ map line.Entry (map event_numbers (levels x))
      unfolding levels
      level-is n below x v at stops =
          let f = from n below in
          let s = starts-then (map line.Entry (map event_numbers history)) (front_of i f.0.own.seen) (h.level x i) (seen-there n below) (h.reach x v at stops n f.0 f.1 i range) in
          taken-front history (h.level x i) s.0 s.1

      module _ (n : ℕ) (below : n < g.callers) (k : ℕ) (l : Line) (at : Oid) (same : cell_of g.cells at ≡ i) (cut : Cut k n below at l) (x : ℕ) (v : Line) (at_x : slice_get ls x ≡ Some v) (stops : ends_group v.op ≡ true) where
        cut-since : x < k → StartsWith cut.from.cell.value.history (levels x)
        cut-since less =
            let s = subst (λ (j : ℕ). StartsWith (cell_lines cut.from.cell) (h.level x j)) same (cut.since x v less at_x stops) in
            entries-front cut.from.cell.value.history (levels x) s.0 (s.1 ∙ ap (λ (y : List Seen). y ++ s.0) (level-is n below x v at_x stops))

        cut-taken : k < x → StartsWith (h.taken x i) (cell_lines cut.from.cell ++ lines_of_cell i l.work.noted)
        cut-taken more = subst (λ (j : ℕ). StartsWith (h.taken x j) (cell_lines cut.from.cell ++ lines_of_cell j l.work.noted)) same (cut.until x v more at_x stops)

        -- what a sync took and wrote there, before the line and behind it
        synced-before : x < k → TookThere g i ls fits x v (λ es. StartsWith cut.from.cell.value.history (es ++ events_of_cell i v.work.noted))
        synced-before less =
            let w = h.wrote x v at_x stops i range in
            elim w.fed [
              | inl none ↦ inl (ap (λ (work : Work). events_of_cell i work.noted) none)
              | inr took ↦
                  let notes : List CellEvent = events_of_cell i v.work.noted in
                  let s = subst (λ (j : ℕ). StartsWith (cell_lines cut.from.cell) (h.level x j)) same (cut.since x v less at_x stops) in
                  let is : h.level x i ≡ map line.Entry (map event_numbers (took.0 ++ notes)) = w.is ∙ (ap (λ (y : List Seen). y ++ lines_of_cell i v.work.noted) took.1 ∙ sym (entries-two took.0 notes)) in
                  inr (took.0, took.2, entries-front cut.from.cell.value.history (took.0 ++ notes) s.0 (s.1 ∙ ap (λ (y : List Seen). y ++ s.0) is))
            ]

        synced-behind : k < x → TookThere g i ls fits x v (λ es. StartsWith es cut.from.cell.value.history)
        synced-behind more =
            let w = h.wrote x v at_x stops i range in
            elim w.fed [
              | inl none ↦ inl (ap (λ (work : Work). events_of_cell i work.noted) none)
              | inr took ↦
                  let u = cut-taken more in
                  let notes : List Seen = lines_of_cell i l.work.noted in
                  inr (took.0, took.2, entries-front took.0 cut.from.cell.value.history (notes ++ u.0) (sym took.1 ∙ (u.1 ∙ append_assoc (cell_lines cut.from.cell) notes u.0)))
            ]

        cut-until : k < x → StartsWith (levels x) (cut.from.cell.value.history ++ events_of_cell i l.work.noted)
        cut-until more =
            let u = starts-then (h.level x i) (h.taken x i) (cell_lines cut.from.cell ++ lines_of_cell i l.work.noted) (lines_of_cell i v.work.noted, (h.wrote x v at_x stops i range).is) (cut-taken more) in
            entries-front (levels x) (cut.from.cell.value.history ++ events_of_cell i l.work.noted) u.0
            (sym (level-is n below x v at_x stops) ∙ (u.1 ∙ ap (λ (y : List Seen). y ++ u.0) (sym (entries-two cut.from.cell.value.history (events_of_cell i l.work.noted)))))

      looked-as : (m : ℕ) (below : m < g.callers) (k : ℕ) (l : Line) → slice_get ls k ≡ Some l → is_of_caller m l.op ≡ true → (events_of_cell i l.work.noted ≡ []) ⊎ LookedAs i ls levels m k l
      looked-as m below k l at his = elim (notes-there g m i l.op l.reply l.work (subst (λ (c : Option ℕ). FitsBy g c l) (caller-is m l.op his) (all-slice _ ls fits k l at))) [
        | inl none ↦ inl none
        | inr on ↦
            let cut : Cut k m below on.0.at l = subst (λ (o : Option OnObject). IfSome o (λ it. Cut k m below it.at l)) on.1 (cut-of k m below l at his) in
            inr record {
              front = cut.from.cell.value.history;
              mine = cut.from.mine ∙ ap (λ (j : ℕ). events_of_cell j (noted_of_work (lines_of_caller m (take k ls)))) on.2;
              since = λ x v less at_x stops. cut-since m below k l on.0.at on.2 cut x v at_x stops less;
              until = λ x v more at_x stops. cut-until m below k l on.0.at on.2 cut x v at_x stops more;
            }
      ]

      -- what each caller did there by then
      module _ (n : ℕ) (below : n < g.callers) (k : ℕ) (l : Line) (at : Oid) (same : cell_of g.cells at ≡ i) (cut : Cut k n below at l) (m x : ℕ) (v : Line) (less : m < g.callers) (at_x : slice_get ls x ≡ Some v) (stops : ends_group v.op ≡ true) where
        all-since : x < k → StartsWith (done_by m cut.from.cell.value.history) (events_of_cell i (noted_of_work (lines_of_caller m (take x ls))))
        all-since lt = look-since i ls levels history m (did i cell (there-closed i range).1 m less) (looked-as m less) x v at_x stops (level-starts x) cut.from.cell.value.history (cut-since n below k l at same cut x v at_x stops lt)

        all-until : k < x → StartsWith (events_of_cell i (noted_of_work (lines_of_caller m (take x ls)))) (done_by m cut.from.cell.value.history)
        all-until lt = look-until i ls levels history m (did i cell (there-closed i range).1 m less) (looked-as m less) x v at_x stops (level-starts x) cut.from.cell.value.history (events_of_cell i l.work.noted) (cut-until n below k l at same cut x v at_x stops lt)

      -- ---- what syncs wrote there

      -- in all
      wrote-all : (before : List CellEvent) → history ≡ before ++ End g.callers ∷ [] → done_by g.callers before ≡ wrote_there g i ls
      wrote-all before is =
          let last : done_by g.callers (End g.callers ∷ []) ≡ End g.callers ∷ [] = (let its : (g.callers == g.callers) ≡ true = eq-eqb g.callers g.callers refl in rw its refl) in
          (last-same (done_by g.callers before) (wrote_there g i ls) (End g.callers) (End g.callers)
          (ap (λ (es : List CellEvent). done_by g.callers before ++ es) (sym last) ∙ (sym (done-append g.callers before (End g.callers ∷ [])) ∙ (ap (done_by g.callers) (sym is) ∙ fed i cell (there-closed i range).1)))).0

      module _ (n : ℕ) (below : n < g.callers) (k : ℕ) (l : Line) (at : Oid) (same : cell_of g.cells at ≡ i) (cut : Cut k n below at l) where
        abbrev seen_then : List CellEvent
        seen_then = cut.from.cell.value.history

        all-synced : k < length ls → StartsWith (done_by g.callers seen_then) (wrote_there g i (take k ls))
        all-synced inside = has-synced g i ls fits seen_then k (λ x v less at_x stops. synced-before n below k l at same cut x v at_x stops less) k (omega arith) (omega (arith, inside))

        -- no more than all syncs did
        all-unstopped : (before : List CellEvent) → history ≡ before ++ End g.callers ∷ [] → StartsWith before seen_then → StartsWith (wrote_there g i ls) (done_by g.callers seen_then)
        all-unstopped before is starts = subst (λ (es : List CellEvent). StartsWith es (done_by g.callers seen_then)) (wrote-all before is) (done-starts g.callers before seen_then starts)

        all-unsynced : (before : List CellEvent) → history ≡ before ++ End g.callers ∷ [] → StartsWith before seen_then → (x : ℕ) → k < x → x < length ls → StartsWith (wrote_there g i (take x ls)) (done_by g.callers seen_then)
        all-unsynced before is starts x lt inside =
            none-synced g i ls fits seen_then k (λ y v more at_y stops. synced-behind n below k l at same cut y v at_y stops more)
            (all-unstopped before is starts) x lt (omega (arith, inside))

    -- ---- a line

    looked : (k n : ℕ) (below : n < g.callers) (l : Line) (at : Oid) → k < length ls → found k ≡ length (h.found n k) → Cut k n below at l → LookedAt g len told e.cells n ls found k at l
    looked k n below l at inside far cut =
        let a = cut.from in
        let f = from n below in
        let i : ℕ = cell_of g.cells at in
        let some_cells : 0 < g.cells = let b = valid.counts.cells.0 in omega arith in
        let range : IsCell g i = mod_below _ g.cells some_cells in
        let c : OnHeap = cell i range in
        let began = opening-same a.cell.value.limit c.value.limit a.cell.value.opening c.value.opening
        (a.opening ∙ (ap (λ (os : List (List ℕ)). slice_index_or os i []) (sym f.4.about) ∙ sym (opened-so cache ps e ends i c (there-closed i range).1 n f.2 f.3))) in
        let notes : List CellEvent = events_of_cell i l.work.noted in
        let ended = behind i c (there-closed i range).1 in
        let before = unended g.callers i c.value.history ended.0 ended.1 in
        let whole = starts-then ended.0 (front_of i f.0.own.seen) _ (ended.2 n below) a.front in
        let r = entries-front before.0 (a.cell.value.history ++ notes) whole.0 (sym before.2 ∙ (whole.1 ∙ ap (λ (x : List Seen). x ++ whole.0) (sym (entries-two a.cell.value.history notes)))) in
        let behind_front : StartsWith before.0 a.cell.value.history = (notes ++ r.0, r.1 ∙ append_assoc a.cell.value.history notes r.0) in
        record {
          cell = c;
          there = slice-of e.cells i c (there-closed i range).1;
          front = a.cell.value.history;
          rest = r.0 ++ End g.callers ∷ [];
          far = sym (entries-long a.cell.value.history) ∙ (ap (λ (s : List Seen). length s) cut.is ∙ sym far);
          whole = before.1 ∙ (ap (λ (es : List CellEvent). es ++ End g.callers ∷ []) r.1 ∙ (append_assoc (a.cell.value.history ++ notes) r.0 (End g.callers ∷ []) ∙ append_assoc a.cell.value.history notes (r.0 ++ End g.callers ∷ [])));
          ended = (r.0, refl);
          mine = a.mine;
          since = λ m x v less lt at_x stops. all-since i range n below k l at refl cut m x v less at_x stops lt;
          until = λ m x v less lt at_x stops. all-until i range n below k l at refl cut m x v less at_x stops lt;
          synced = all-synced i range n below k l at refl cut inside;
          unsynced = λ x v lt at_x stops. all-unsynced i range n below k l at refl cut before.0 before.1 behind_front x lt (slice_get_within ls x v at_x);
          unstopped = all-unstopped i range n below k l at refl cut before.0 before.1 behind_front;
          brought = subst (λ (x : ℕ × List Mapping). BringsAt len at (outline_after x.0 x.1 a.cell.value.history) l.work.brought) (λ z. (began.0 z, began.1 z)) a.brought;
          acts = subst (λ (x : ℕ × List Mapping). ActsFor g n (AreHolders a.cell.value.history) (own_event l.op) (outline_after x.0 x.1 a.cell.value.history) l.work l.reply) (λ z. (began.0 z, began.1 z)) a.acts;
          answer = subst (λ (x : ℕ × List Mapping). AnswersObject len (told k) x.0 x.1 a.cell.value.history l.work.brought l.op l.reply) (λ z. (began.0 z, began.1 z)) a.answer;
          range = a.range;
        }

    by-cell : (k n : ℕ) (below : n < g.callers) (l : Line) (o : Option OnObject) → k < length ls → found k ≡ length (h.found n k) → IfSome o (λ on. Cut k n below on.at l) → IsAnsweredBy g len told e.cells n ls found k o l
    by-cell k n below l None inside far cut = tt
    by-cell k n below l (Some on) inside far cut = looked k n below l on.at inside far cut

    -- of one caller's lines on blocks of a cell a later one found all that an earlier one had found, and what that one did
    found-more : (j k n : ℕ) (below : n < g.callers) (x l : Line) (on_x on : OnObject) → j < k → slice_get ls j ≡ Some x → slice_get ls k ≡ Some l → is_of_caller n x.op ≡ true → is_of_caller n l.op ≡ true
        → on_object x.op ≡ Some on_x → on_object l.op ≡ Some on → cell_of g.cells on_x.at ≡ cell_of g.cells on.at → found j + length (events_of_cell (cell_of g.cells on.at) x.work.noted) ≤ found k
    found-more j k n below x l on_x on less at_x at_l his_x his_l is_x is_l same =
        let cut : Cut j n below on_x.at x = by-object (λ (it : OnObject). Cut j n below it.at x) (on_object x.op) on_x is_x (cut-of j n below x at_x his_x) in
        let i : ℕ = cell_of g.cells on_x.at in
        let more : StartsWith (h.found n k) (cell_lines cut.from.cell ++ lines_of_cell i x.work.noted) = cut.later k l on less at_l his_l is_l (sym same) in
        let all : length (h.found n k) ≡ length (cell_lines cut.from.cell) + length (lines_of_cell i x.work.noted) + length more.0 =
        ap (λ (s : List Seen). length s) more.1 ∙ (length-append (cell_lines cut.from.cell ++ lines_of_cell i x.work.noted) more.0
        ∙ ap (λ (z : ℕ). z + length more.0) (length-append (cell_lines cut.from.cell) (lines_of_cell i x.work.noted))) in
        let old : length (cell_lines cut.from.cell) ≡ found j = ap (λ (s : List Seen). length s) cut.is ∙ sym (found-is j n x at_x his_x) in
        let new : length (lines_of_cell i x.work.noted) ≡ length (events_of_cell (cell_of g.cells on.at) x.work.noted) = entries-long (events_of_cell i x.work.noted) ∙ ap (λ (c : ℕ). length (events_of_cell c x.work.noted)) same in
        let now : found k ≡ length (h.found n k) = found-is k n l at_l his_l in
        omega (arith, all, old, new, now)

    -- All lines of callers are answered by cells, by how they looked at them.
    pub all-by-cells : ((n : ℕ) (l : Line) (k : ℕ) → slice_get ls k ≡ Some l → is_of_caller n l.op ≡ true → n < g.callers) → AreAnsweredByCells g len told e.cells ls
    all-by-cells below = record {
      found = found;
      each = λ k n l at his. by-cell k n (below n l k at his) l (on_object l.op) (slice_get_within ls k l at) (found-is k n l at his) (cut-of k n (below n l k at his) l at his);
      grow = λ j k n x l on_x on less at_x at_l his_x his_l is_x is_l same. found-more j k n (below n x j at_x his_x) x l on_x on less at_x at_l his_x his_l is_x is_l same;
    }
