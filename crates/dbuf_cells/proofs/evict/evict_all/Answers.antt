use Rattle.std.proofs.Common.{refl, ◌∙◌, arith}
use Rattle.dbuf_state.proofs.HandLemmas.{evictable-is-cached}
use Rattle.dbuf_cells.proofs.CellSteps.{kept-less, kept-most}
use Rattle.dbuf_cells.proofs.Evictions.{evicts-none, evicts-then, may-evict}
use Rattle.dbuf_cells.proofs.evict.evict_all.Goals as goal

pub loop-at-init : goal.loop-at-init
loop-at-init g c = record {
  evicts = evicts-none c.args.arcs.now c.args.i c.args.cell.now c.args.party.now;
  room = let a = kept-most c.args.cell.now.dbufs in let b = c.requires.room in omega arith;
  claims = λ n. refl;
}

pub evict_one-requires-clause-hand : goal.evict_one-requires-clause-hand
evict_one-requires-clause-hand g c = may-evict c.args.arcs.now c.args.i c.args.cell.now c.loop-at.cell c.args.party.now c.loop-at.party c.requires.hand c.loop-at.invariant.evicts

pub evict_one-requires-clause-room : goal.evict_one-requires-clause-room
evict_one-requires-clause-room g c =
    let less = kept-less c.in-Some.at c.loop-at.cell.dbufs (evictable-is-cached c.loop-at.cell.limit c.in-Some.at c.loop-at.cell.dbufs c.told.ensures.once c.in-Some.ensures) in
    let room = c.loop-at.invariant.room in
    omega arith

pub loop-at-preserved : goal.loop-at-preserved
loop-at-preserved g c =
    let i = c.loop-at.invariant in
    let e = c.evict_one.ensures in record {
      evicts = evicts-then c.args.arcs.now c.args.i c.args.cell.now c.loop-at.cell c.evict_one.new.cell c.args.party.now c.loop-at.party c.evict_one.new.party i.evicts e.evicts;
      room = let a = i.room in let b = e.kept in let d = e.room in omega arith;
      claims = λ n. e.claims n ∙ i.claims n;
    }
