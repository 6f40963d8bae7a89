use Rattle.std.proofs.Common.{List, sym, ap, ◌∙◌}
use Rattle.dbuf_state.specs.declared.dbuf.Dbuf.{Dbuf}
use Rattle.dbuf_state.specs.CellLog.{touched}
use Rattle.dbuf_state.specs.Dbufs.{used_at}
use Rattle.dbuf_state.proofs.FitLemmas.{unchanged-absent}
use Rattle.dbuf_state.proofs.cell.Cell.touch.Goals as goal

pub returns-else-has : goal.returns-else-has
returns-else-has g c =
    ap (λ (ds : List (Dbuf g.row.H.Denot)). record c.args.self.now { dbufs = ds })
    (sym (ap (λ u. touched c.args.tick u c.args.self.now.dbufs) c.in-Some.is
    ∙ unchanged-absent c.in-Some.at (used_at c.args.tick) c.args.self.now.dbufs (sym c.has.ensures ∙ c.if-has.false)))
