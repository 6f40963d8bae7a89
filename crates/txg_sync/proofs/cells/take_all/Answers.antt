use Rattle.std.proofs.Common.{◌≡◌, IsTrue, ℕ, suc, ◌+◌, List, [], ◌∷◌, ◌++◌, length, sym, ap, ◌∙◌, subst, arith, length-append}
use Rattle.turn_table.specs.Board.{IsAmong}
use Rattle.arc_core.specs.declared.config.Config.{Config}
use Rattle.arc_table.specs.Both.{Takes}
use Rattle.arc_table.specs.Geometry.{IsCell}
use Rattle.arc_table.specs.declared.item.Item.TheVariants as item
use Rattle.std.specs.List.{AllByRecursion}
use Rattle.dbuf_state.specs.CellLog.{CellLog}
use Rattle.dbuf_state.specs.Dbufs.{IsFit, dbuf_oid}
use Rattle.dbuf_state.specs.Oids.{is_distinct}
use Rattle.dbuf_cells.specs.Kept.{bytes_of, key_of}
use Rattle.dbuf_cells.specs.Turns.{OnHeap, dbuf_meanings}
use Rattle.dbuf_cells.specs.declared.kept.Kept.{Kept}
use Rattle.dbuf_cells.proofs.Holders.{holds-stand}
use Rattle.txg_sync.specs.InHand.{AreInHand, IsHolding}
use Rattle.txg_sync.specs.Turns.{TakesFrom}
use Rattle.txg_sync.proofs.Taking.{hand-more, holding-more, none-above, takes-more}
use Rattle.txg_sync.proofs.cells.take_all.Goals as goal

pub take_cell-cell-requires-clause-not_held : goal.take_cell-cell-requires-clause-not_held
take_cell-cell-requires-clause-not_held g c = λ among.
    none-above (length c.loop-i.cells.items) c.loop-i.i (let a = c.loop-i.invariant.count in omega arith) (subst (IsAmong c.loop-i.i) c.loop-i.invariant.holding.held among)

pub loop-i-preserved : goal.loop-i-preserved
loop-i-preserved g c =
    let v = c.loop-i.invariant in
    let cache = c.args.arcs.now in
    let cells : List OnHeap = c.loop-i.cells.items in
    let cell = c.take_cell-cell.result in
    let o = c.args.party.now in
    let q = c.loop-i.party in
    let r = c.take_cell-cell.new.party in
    let tk = c.take_cell-cell.ensures.took in
    let t : Takes dbuf_meanings (length cells) (item.Cell cell) q r = subst (λ (n : ℕ). Takes dbuf_meanings n (item.Cell cell) q r) (sym v.count) record { owners = tk.0; knew = tk.1; lost = tk.2; free = tk.3; took = tk.4 } in
    let stands = holds-stand cell (subst (λ (x : CellLog Kept). AllByRecursion (IsFit key_of bytes_of) x.dbufs) c.deref.ensures c.told.ensures.fit)
    (subst (λ (x : CellLog Kept). IsTrue (is_distinct dbuf_oid x.dbufs)) c.deref.ensures c.told.ensures.once) in
    let in_range : IsCell cache.config (length cells) = let a = v.count in let b = c.loop-i-test.true in let e = ap (λ (x : Config). x.cells) c.config.ensures in omega arith in
    let items : c.append.new.cells.items ≡ cells ++ cell ∷ [] = c.append.ensures.items in
    let more : length (cells ++ cell ∷ []) ≡ suc (length cells) = let a = length-append cells (cell ∷ []) in omega arith in
    record {
      count = ap (λ (l : List OnHeap). length l) items ∙ (more ∙ (let a = v.count in omega arith));
      len = let a = c.append.ensures.len in let b = v.len in omega arith;
      room = let a = c.append.ensures.capacity in let b = v.room in omega arith;
      takes = subst (λ (l : List OnHeap). TakesFrom 0 l o r) (sym items) (takes-more 0 cells cell o q r v.takes (subst (λ (n : ℕ). Takes dbuf_meanings n (item.Cell cell) q r) (let e : length cells ≡ 0 + length cells = omega arith in e) t));
      holding = subst (λ (l : List OnHeap). IsHolding cache o (length l) r) (sym items) (subst (λ (n : ℕ). IsHolding cache o n r) (sym more) (holding-more cache o q r cells cell in_range v.holding stands t));
      hand = subst (λ (l : List OnHeap). AreInHand l [] l r) (sym items) (hand-more cache o q r cells cell in_range v.holding stands t v.hand);
    }
