use Rattle.std.proofs.Common.{ap, ◌∙◌}
use Rattle.std.specs.Prelude.{position}
use Rattle.dbuf_state.specs.Dbufs.{dbuf_oid}
use Rattle.dbuf_state.specs.Oids.{oid_eq}
use Rattle.dbuf_state.specs.CellLog.{CellLog}
use Rattle.dbuf_state.proofs.CellLemmas.{is_at, position-map}
use Rattle.dbuf_state.proofs.cell.Cell.find.Goals as goal

pub returns : goal.returns
returns g c =
    c.get_index_of.ensures.index
    ∙ (ap (position (oid_eq c.args.at)) c.self.invariant.names
    ∙ (position-map (oid_eq c.args.at) dbuf_oid c.self.inside.dbufs.items
    ∙ ap (λ (log : CellLog g.row.H.Denot). position (is_at c.args.at) log.dbufs) c.self.view_is))
