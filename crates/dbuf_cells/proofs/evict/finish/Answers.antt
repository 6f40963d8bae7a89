use Rattle.std.proofs.Common.{◌++◌, sym, ap, ◌∙◌, subst}
use Rattle.dbuf_state.specs.CellLog.{CellLog}
use Rattle.dbuf_state.specs.Numbers.{claims_in, mapping_numbers}
use Rattle.dbuf_cells.specs.InHand.{InHand}
use Rattle.dbuf_cells.specs.declared.kept.Kept.{Kept}
use Rattle.dbuf_cells.proofs.Operations.{finished, not-due}
use Rattle.dbuf_cells.proofs.evict.finish.Goals as goal

pub give-requires : goal.give-requires
give-requires g c =
    let m = c.requires.hand in
    let hand = subst (λ (x : CellLog Kept). InHand c.args.arcs.now c.args.i m.from m.before m.evicting m.news m.es x c.args.party.now) (sym c.deref_mut.ensures.value) m.hand in
    let x = c.evict_all.ensures.evicts m.from m.before m.evicting m.news m.es m.may hand in
    record {
      from = m.from;
      before = m.before;
      evicting = m.evicting;
      news = m.news ++ x.evictions;
      es = m.es ++ x.drops;
      hand = x.hand;
      settled = not-due m.evicting c.evict_all.new.cell c.evict_all.ensures.settled;
    }

pub returns-clause-finishes : goal.returns-clause-finishes
returns-clause-finishes g c p before evicting news es may h =
    let hand = subst (λ (x : CellLog Kept). InHand c.args.arcs.now c.args.i p before evicting news es x c.args.party.now) (sym c.deref_mut.ensures.value) h in
    let x = c.evict_all.ensures.evicts p before evicting news es may hand in
    finished c.args.arcs.now c.args.i p before evicting news es c.deref_mut.result.now c.args.cell.value c.args.party.now c.give.new.party c.deref_mut.ensures.value record {
      evictions = x.evictions;
      drops = x.drops;
      evicted = x.evicted;
      given = c.give.ensures.gives p before evicting (news ++ x.evictions) (es ++ x.drops) (not-due evicting c.evict_all.new.cell c.evict_all.ensures.settled) x.hand;
    }

pub returns-clause-claims : goal.returns-clause-claims
returns-clause-claims g c =
    let n = c.give.new.party.number in
    c.give.ensures.claims ∙ ap mapping_numbers (c.evict_all.ensures.claims n ∙ ap (λ (x : CellLog Kept). claims_in n x.dbufs) c.deref_mut.ensures.value)
