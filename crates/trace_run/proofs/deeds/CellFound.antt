-- How a party found a cell in a turn of it, as seen from before that turn and from behind it.
use Rattle.std.proofs.Common.{◌≡◌, ◌⊎◌, ℕ, ◌<◌, List, [], ◌++◌, map, sym, ap, ◌∙◌, subst, append-nil}
use Rattle.std.specs.Prelude.{slice_index_or}
use Rattle.arc_core.specs.Config.{IsConfig}
use Rattle.arc_core.specs.declared.config.Config.{Config}
use Rattle.arc_core.specs.declared.event.Event.{Event}
use Rattle.turn_table.specs.declared.standing.Kept.{Kept}
use Rattle.turn_table.specs.Places.{IsIn, saw}
use Rattle.arc_table.specs.declared.about.About.{About}
use Rattle.arc_table.specs.declared.item.Item.TheVariants as item
use Rattle.arc_table.specs.declared.view.Known.{Known}
use Rattle.arc_table.specs.declared.view.Line.{Line}
use Rattle.arc_table.specs.declared.view.Line.TheVariants as line
use Rattle.arc_table.specs.declared.view.Mine.{Mine}
use Rattle.arc_table.specs.Cells.{IsTakenCell, SeesAll}
use Rattle.arc_table.specs.Fronts.{StartsWith, front_of}
use Rattle.arc_table.specs.Geometry.{IsCell, cell_number}
use Rattle.arc_table.specs.Seen.{AreEntriesSeen, FindsEntries, HasAll}
use Rattle.arc_table.specs.TableLaws.{starts_whole}
use Rattle.arc_table.proofs.Afterwards.{Stays}
use Rattle.arc_table.proofs.cell_lemmas.CellsInHand.{taken-cell}
use Rattle.arc_table.proofs.Reached.{SameButNotes, Took, loses_same, took_is}
use Rattle.dbuf_cells.specs.Turns.{CellTurn, OnHeap, PartyPlace, dbuf_meanings}
use Rattle.dbuf_state.specs.Numbers.{event_numbers}
use Rattle.dbuf_state.specs.declared.event.CellEvent.{CellEvent}
use Rattle.trace_run.specs.dbufs.CellEnds.{done_by}
use Rattle.trace_run.specs.dbufs.DbufTurns.{CellsDone}
use Rattle.trace_run.specs.Deeds.{lines_of_cell, noted_in}
use Rattle.trace_run.specs.MadeLines.{made_from, made_of}
use Rattle.trace_run.specs.dbufs.ObjectLines.{FindsCell, cell_lines}
use Rattle.trace_run.proofs.CellsLeft.{LeavesCells}
use Rattle.trace_run.proofs.deeds.CellsDone.{noted-here, turn-found, turn-front}
use Rattle.trace_run.proofs.deeds.OwnFound.{found-own}
use Rattle.trace_run.proofs.deeds.TurnMakes.{AreTurnEvents, starts-on}

-- The party has all that it had, has made no entry of a cell more, and has seen of cells at least what it had; where it has every number just that.
pub record LeavesSeen (g : Config) (p q : PartyPlace) : Type 0 where
  pub number : q.number ≡ p.number
  pub joined : q.joined ≡ p.joined
  pub about : q.own.about ≡ p.own.about
  pub all : HasAll p → HasAll q
  pub cells : (i : ℕ) → IsCell g i → StartsWith (front_of i q.own.seen) (front_of i p.own.seen)
  pub alone : HasAll p → (i : ℕ) → IsCell g i → front_of i q.own.seen ≡ front_of i p.own.seen
  pub entries : (i : ℕ) → IsCell g i → made_of i q ≡ made_of i p

module _ (g : Config) where
  pub seen-then : (p q r : PartyPlace) → LeavesSeen g p q → LeavesSeen g q r → LeavesSeen g p r
  seen-then p q r a b = record {
    number = b.number ∙ a.number;
    joined = b.joined ∙ a.joined;
    about = b.about ∙ a.about;
    all = λ all. b.all (a.all all);
    cells = λ i in_range. starts-on g (front_of i r.own.seen) (front_of i q.own.seen) (front_of i p.own.seen) (b.cells i in_range) (a.cells i in_range);
    alone = λ all i in_range. b.alone (a.all all) i in_range ∙ a.alone all i in_range;
    entries = λ i in_range. b.entries i in_range ∙ a.entries i in_range;
  }

  -- a call that did nothing to cells
  pub seen-done : (es : List Event) (p q : PartyPlace) → CellsDone g [] es p q → LeavesSeen g p q
  seen-done es p q d = record {
    number = d.number;
    joined = d.joined;
    about = d.about;
    all = d.all;
    cells = d.cells;
    alone = λ all i in_range. d.cells_alone all i in_range ∙ append-nil (front_of i p.own.seen);
    entries = λ i in_range. d.entries i in_range ∙ append-nil (made_of i p);
  }

  -- the party has every number still
  pub all-stays : (p q : PartyPlace) → Stays p q → HasAll p → HasAll q
  all-stays p q stays all n below = subst (λ (x : ℕ × List (Kept (Known OnHeap))). (x.0 ≡ n) ⊎ IsIn n x.1) (λ i. (sym stays.number i, sym stays.joined i))
      (all n (subst (λ (m : ℕ). n < m) stays.parties below))

  pub seen-left : (p q : PartyPlace) → LeavesCells g p q → ((i : ℕ) → IsCell g i → made_of i q ≡ made_of i p) → LeavesSeen g p q
  seen-left p q l entries = record {
    number = l.stays.number;
    joined = l.stays.joined;
    about = l.stays.about;
    all = all-stays p q l.stays;
    cells = λ i in_range. subst (λ (x : List Line). StartsWith x (front_of i p.own.seen)) (sym (l.fronts i in_range)) (starts_whole (front_of i p.own.seen));
    alone = λ all i in_range. l.fronts i in_range;
    entries = entries;
  }

  module _ (i : ℕ) (in_range : IsCell g i) (cell : OnHeap) where
    -- from before the turn
    pub found-before : (p r q : PartyPlace) → LeavesSeen g p r → FindsCell g i cell r q → FindsCell g i cell p q
    found-before p r q l f = record {
      sound = f.sound;
      opening = f.opening ∙ ap (λ (a : About). slice_index_or a.openings i []) l.about;
      had = starts-on g (cell_lines cell) (front_of i r.own.seen) (front_of i p.own.seen) f.had (l.cells i in_range);
      alone = λ all. f.alone (l.all all) ∙ l.alone all i in_range;
      mine = sym (l.entries i in_range) ∙ (f.mine ∙ ap (λ (n : ℕ). map line.Entry (map event_numbers (done_by n cell.value.history))) l.number);
      seen = f.seen;
    }

    -- from behind it
    pub found-behind : (p r q : PartyPlace) → StartsWith (front_of i q.own.seen) (front_of i r.own.seen) → FindsCell g i cell p r → FindsCell g i cell p q
    found-behind p r q grows f = record {
      sound = f.sound;
      opening = f.opening;
      had = f.had;
      alone = f.alone;
      mine = f.mine;
      seen = starts-on g (front_of i q.own.seen) (front_of i r.own.seen) (cell_lines cell) grows f.seen;
    }

-- in the turn itself
module _ (g : Config) (valid : IsConfig g) (i : ℕ) (in_range : IsCell g i) (cell : OnHeap) (news : List CellEvent) (es : List Event) (p q : PartyPlace) (config : p.own.about.config ≡ g) (sees : SeesAll g p)
    (kinds : AreTurnEvents p.number (cell_number g i) es) (t : CellTurn g i cell news es p q) where
  took : Took dbuf_meanings i (item.Cell cell) p t.taken
  took = took_is dbuf_meanings i (item.Cell cell) p t.taken t.takes

  finds : FindsEntries i p (map event_numbers cell.value.history)
  finds = turn-found g valid i in_range cell news es p q config sees kinds t

  is-taken : IsTakenCell dbuf_meanings g i cell p t.taken
  is-taken = subst (IsTakenCell dbuf_meanings g i cell p) (sym t.takes.took) (taken-cell dbuf_meanings g i cell t.takes.owners t.takes.knew p valid config in_range t.takes.lost t.takes.free)

  -- what it knew as it took the cell
  knew : SameButNotes p.own t.takes.knew
  knew = loses_same dbuf_meanings i t.takes.owners p (saw p t.takes.knew) t.takes.lost

  own-there : made_of i p ≡ map line.Entry (map event_numbers (done_by p.number cell.value.history))
  own-there =
      (λ z. made_from i 0 (sym knew.mine z) (front_of i (sym knew.seen z)))
      ∙ found-own g i in_range cell (saw p t.takes.knew) (ap (λ (a : About). a.config) knew.about ∙ config) t.takes.free
      (subst (λ (x : List Mine × List (List Line)). AreEntriesSeen g p.number x.0 x.1) (λ z. (sym knew.mine z, sym knew.seen z)) sees.1.own)

  -- what it did stands right behind
  pub turn-placed : front_of i q.own.seen ≡ cell_lines cell ++ lines_of_cell i (noted_in i news)
  turn-placed = subst (λ (x : PartyPlace). front_of i x.own.seen ≡ cell_lines cell ++ lines_of_cell i (noted_in i news)) (sym t.gave)
      (turn-front g valid i in_range cell news es p q config sees kinds t ∙ ap (λ (l : List CellEvent). cell_lines cell ++ map line.Entry (map event_numbers l)) (sym (noted-here i news)))

  pub turn-finds : FindsCell g i cell p q
  turn-finds = record {
    sound = t.sound;
    opening = is-taken.opening ∙ ap (λ (a : About). slice_index_or a.openings i []) took.about;
    had = (map line.Entry finds.rest, finds.whole);
    alone = λ all. finds.whole ∙ (ap (λ (r : List (List ℕ)). front_of i p.own.seen ++ map line.Entry r) (finds.alone all) ∙ append-nil (front_of i p.own.seen));
    mine = own-there;
    seen = (map line.Entry (map event_numbers news), subst (λ (x : PartyPlace). front_of i x.own.seen ≡ cell_lines cell ++ map line.Entry (map event_numbers news)) (sym t.gave) (turn-front g valid i in_range cell news es p q config sees kinds t));
  }
