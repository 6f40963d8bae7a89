use Rattle.std.proofs.Common.{◌<◌, length, get_or, Some, ap, sym, subst, ◌∙◌}
use Rattle.dbuf_state.specs.declared.dbuf.Dbuf.{Dbuf}
use Rattle.dbuf_state.specs.CellLog.{CellLog}
use Rattle.dbuf_state.specs.Dbufs.{IsFit}
use Rattle.dbuf_state.proofs.CellLemmas.{all-at, is_at, item-none, item-some}
use Rattle.dbuf_state.proofs.Places.{place-some}
use Rattle.dbuf_state.proofs.cell.Cell.dbuf.Goals as goal

pub returns-in_default-clause-found : goal.returns-in_default-clause-found
returns-in_default-clause-found g c = sym (item-none c.args.at c.args.self.now.dbufs (sym c.find.ensures ∙ c.in_default.is))

pub returns-clause-found : goal.returns-clause-found
returns-clause-found g c =
    ap (λ (d : Dbuf g.row.H.Denot). Some d) (c.index.ensures ∙ ap (λ (log : CellLog g.row.H.Denot). get_or log.dbufs c.in-Some.place c.index.result.now) c.self.view_is)
    ∙ sym (item-some c.args.at c.args.self.now.dbufs c.in-Some.place c.index.result.now (sym c.find.ensures ∙ c.in-Some.is))

pub returns-clause-fit : goal.returns-clause-fit
returns-clause-fit g c =
    let place = place-some (is_at c.args.at) c.args.self.now.dbufs c.in-Some.place (sym c.find.ensures ∙ c.in-Some.is) in
    let within = subst (λ (log : CellLog g.row.H.Denot). c.in-Some.place < length log.dbufs) (sym c.self.view_is) place.within in
    subst (IsFit g.H.Shows.key_of g.H.Shows.bytes_of) (sym c.index.ensures)
    (all-at (IsFit g.H.Shows.key_of g.H.Shows.bytes_of) c.self.inside.dbufs.items c.in-Some.place c.index.result.now c.self.invariant.fit within)
