use Rattle.std.proofs.Common.{List, sym, ap, ◌∙◌}
use Rattle.dbuf_state.specs.declared.dbuf.Dbuf.{Dbuf}
use Rattle.dbuf_state.specs.Dbufs.{pinned_by}
use Rattle.dbuf_state.proofs.FitLemmas.{unchanged-absent}
use Rattle.dbuf_state.proofs.cell.Cell.pin.Goals as goal

pub returns-else-has-clause-ok : goal.returns-else-has-clause-ok
returns-else-has-clause-ok g c =
    ap (λ (ds : List (Dbuf g.row.H.Denot)). record c.args.self.now { dbufs = ds })
    (sym (unchanged-absent c.args.at (pinned_by c.args.n) c.args.self.now.dbufs (sym c.has.ensures ∙ c.if-has.false)))
