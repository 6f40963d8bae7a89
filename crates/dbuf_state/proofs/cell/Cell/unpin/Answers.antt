use Rattle.std.proofs.Common.{List, sym, ap, ◌∙◌}
use Rattle.dbuf_state.specs.declared.dbuf.Dbuf.{Dbuf}
use Rattle.dbuf_state.proofs.FitLemmas.{unpin-same}
use Rattle.dbuf_state.proofs.cell.Cell.unpin.Goals as goal

pub returns-else-pinned-clause-dbufs : goal.returns-else-pinned-clause-dbufs
returns-else-pinned-clause-dbufs g c =
    ap (λ (ds : List (Dbuf g.row.H.Denot)). record c.args.self.now { dbufs = ds })
    (sym (unpin-same c.args.n c.args.at c.args.self.now.dbufs (sym c.pinned-pinned.ensures ∙ c.if-pinned.false)))
