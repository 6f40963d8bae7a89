use Rattle.std.proofs.Common.{◌≡◌, ℕ, suc, List, [], ◌∷◌, ◌++◌, length, sym, ap, ◌∙◌, subst, arith, length-append}
use Rattle.std.specs.List.{AllByRecursion}
use Rattle.std.specs.Prelude.{IsTrue}
use Rattle.std.proofs.lemmas.List.{append_assoc}
use Rattle.arc_table.specs.Giving.{IsGivenCell}
use Rattle.arc_table.specs.Views.{after_cell}
use Rattle.arc_table.specs.declared.item.Item.TheVariants as item
use Rattle.turn_table.specs.Places.{gave_back}
use Rattle.dbuf_state.specs.CellLog.{CellLog}
use Rattle.dbuf_state.specs.Dbufs.{IsFit, dbuf_oid}
use Rattle.dbuf_state.specs.Oids.{is_distinct}
use Rattle.dbuf_cells.specs.Kept.{bytes_of, key_of}
use Rattle.dbuf_cells.specs.Turns.{OnHeap, PartyPlace, dbuf_meanings}
use Rattle.dbuf_cells.specs.declared.kept.Kept.{Kept}
use Rattle.txg_sync.specs.InHand.{IsKnown, MayGiveAll}
use Rattle.txg_sync.specs.Turns.{GivesFrom}
use Rattle.txg_sync.proofs.Taking.{last-claims, last-given, left-may, most-cells}
use Rattle.txg_sync.proofs.cells.give_all.Goals as goal

pub overflow_cast-i : goal.overflow_cast-i
overflow_cast-i c =
    let may = subst (λ (l : List OnHeap). MayGiveAll c.args.arcs.now l c.loop-cell.party) c.in-Some.ensures.items c.loop-cell.invariant.may in
    let most = most-cells c.args.arcs.now c.loop-cell.party c.pop.new.self.items c.in-Some.cell may in
    let len : c.len-i.result ≡ length c.pop.new.self.items = c.len-i.ensures ∙ c.pop.new.self.ok.0 in
    omega arith

pub give_cell-requires-clause-range : goal.give_cell-requires-clause-range
give_cell-requires-clause-range c =
    let may = subst (λ (l : List OnHeap). MayGiveAll c.args.arcs.now l c.loop-cell.party) c.in-Some.ensures.items c.loop-cell.invariant.may in
    let most = most-cells c.args.arcs.now c.loop-cell.party c.pop.new.self.items c.in-Some.cell may in
    let len : c.len-i.result ≡ length c.pop.new.self.items = c.len-i.ensures ∙ c.pop.new.self.ok.0 in
    let within = most.0 in
    omega arith

pub give_cell-requires-clause-cell : goal.give_cell-requires-clause-cell
give_cell-requires-clause-cell c =
    let may = subst (λ (l : List OnHeap). MayGiveAll c.args.arcs.now l c.loop-cell.party) c.in-Some.ensures.items c.loop-cell.invariant.may in
    let known : IsKnown c.in-Some.cell = record {
      fit = subst (λ (x : CellLog Kept). AllByRecursion (IsFit key_of bytes_of) x.dbufs) c.deref.ensures c.told.ensures.fit;
      once = subst (λ (x : CellLog Kept). IsTrue (is_distinct dbuf_oid x.dbufs)) c.deref.ensures c.told.ensures.once;
    } in
    let len : c.len-i.result ≡ length c.pop.new.self.items = c.len-i.ensures ∙ c.pop.new.self.ok.0 in
    subst (λ (n : ℕ). IsGivenCell dbuf_meanings c.loop-cell.party.number n c.in-Some.cell c.loop-cell.party.own) (sym len) (last-given c.args.arcs.now c.loop-cell.party c.loop-cell.party c.pop.new.self.items c.in-Some.cell may known)

pub loop-cell-preserved : goal.loop-cell-preserved
loop-cell-preserved c =
    let may = subst (λ (l : List OnHeap). MayGiveAll c.args.arcs.now l c.loop-cell.party) c.in-Some.ensures.items c.loop-cell.invariant.may in
    let known : IsKnown c.in-Some.cell = record {
      fit = subst (λ (x : CellLog Kept). AllByRecursion (IsFit key_of bytes_of) x.dbufs) c.deref.ensures c.told.ensures.fit;
      once = subst (λ (x : CellLog Kept). IsTrue (is_distinct dbuf_oid x.dbufs)) c.deref.ensures c.told.ensures.once;
    } in
    let left = c.pop.new.self.items in
    let cell = c.in-Some.cell in
    let q = c.loop-cell.party in
    let r = c.give_cell.new.party in
    let v = c.loop-cell.invariant.given in
    let len : c.len-i.result ≡ length left = c.len-i.ensures ∙ c.pop.new.self.ok.0 in
    let gave : r ≡ gave_back q (length left) (after_cell dbuf_meanings (length left) (item.Cell cell) q.own) = subst (λ (n : ℕ). r ≡ gave_back q n (after_cell dbuf_meanings n (item.Cell cell) q.own)) len c.give_cell.ensures in
    let more : length (left ++ cell ∷ []) ≡ suc (length left) = let a = length-append left (cell ∷ []) in omega arith in
    record {
      given = (
        cell ∷ v.0,
        v.1 ∙ (ap (λ (l : List OnHeap). l ++ v.0) c.in-Some.ensures.items ∙ append_assoc left (cell ∷ []) v.0),
        (
          q,
          subst (λ (n : ℕ). GivesFrom n v.0 c.args.party.now q) (ap (λ (l : List OnHeap). length l) c.in-Some.ensures.items ∙ more) v.2,
          last-given c.args.arcs.now q r left cell may known,
          gave,
        ),
      );
      may = left-may c.args.arcs.now q r left cell may known gave;
      number = ap (λ (x : PartyPlace). x.number) gave ∙ c.loop-cell.invariant.number;
      claims = λ j. last-claims c.args.arcs.now q r left cell may known gave j ∙ c.loop-cell.invariant.claims j;
    }
