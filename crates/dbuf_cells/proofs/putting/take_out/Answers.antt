use Rattle.std.proofs.Common.{refl, sym, ap, ◌∙◌}
use Rattle.dbuf_state.specs.CellLog.{CellLog}
use Rattle.dbuf_state.specs.Dbufs.{may_dirty}
use Rattle.dbuf_cells.specs.declared.kept.Kept.{Kept}
use Rattle.dbuf_cells.proofs.PutSteps.{may-write, may-write-out}
use Rattle.dbuf_cells.proofs.putting.take_out.Goals as goal

pub returns-then-is_kept-clause-out : goal.returns-then-is_kept-clause-out
returns-then-is_kept-clause-out c = record {
  taken = c.unkeep.ensures.dbufs;
  cached = sym c.is_kept.ensures ∙ c.if-is_kept.true;
  there = c.unkeep.ensures.kept;
  of = c.unkeep.ensures.of;
  same = tt;
  uncached = tt;
}

pub returns-then-is_kept-clause-may : goal.returns-then-is_kept-clause-may
returns-then-is_kept-clause-may c = ap (λ (x : CellLog Kept). may_dirty c.args.at x.dbufs) c.unkeep.ensures.dbufs ∙ may-write-out c.args.at c.args.cell.now.dbufs

pub returns-else-is_kept-clause-out : goal.returns-else-is_kept-clause-out
returns-else-is_kept-clause-out c = record {
  taken = tt;
  cached = tt;
  there = tt;
  of = tt;
  same = refl;
  uncached = sym c.is_kept.ensures ∙ c.if-is_kept.false;
}

pub returns-else-is_kept-clause-may : goal.returns-else-is_kept-clause-may
returns-else-is_kept-clause-may c = may-write c.args.at c.args.cell.now.dbufs c.requires.rest c.requires.settled (sym c.is_kept.ensures ∙ c.if-is_kept.false)
