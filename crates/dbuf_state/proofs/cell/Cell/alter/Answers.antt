use Rattle.std.proofs.Common.{◌≡◌, List, sym, ◌∙◌}
use Rattle.dbuf_state.specs.declared.dbuf.Dbuf.{Dbuf}
use Rattle.dbuf_state.specs.Dbufs.{IsFit, IsInside, applied, given}
use Rattle.dbuf_state.proofs.CellLemmas.{has-at, has-from, has-none, if-ok, on-ok, with-found}
use Rattle.dbuf_state.proofs.cell.Cell.alter.Goals as goal

pub change-requires-clause-inside : goal.change-requires-clause-inside
change-requires-clause-inside g c = λ d.
    has-at (λ e. IsInside c.args.change e.content) c.args.at c.args.self.now.dbufs c.in-Some.place d (sym c.find.ensures ∙ c.in-Some.is) c.requires.inside

pub change-requires-clause-fits : goal.change-requires-clause-fits
change-requires-clause-fits g c = λ d.
    has-at (λ e. IsFit g.H.Shows.key_of g.H.Shows.bytes_of e → IsFit g.H.Shows.key_of g.H.Shows.bytes_of (applied c.args.change e)) c.args.at c.args.self.now.dbufs c.in-Some.place d (sym c.find.ensures ∙ c.in-Some.is) c.requires.fits

pub unreachable-requires : goal.unreachable-requires
unreachable-requires g c = has-none (λ e. IsInside c.args.change e.content) c.args.at c.args.self.now.dbufs (sym c.find.ensures ∙ c.in_default.is) c.requires.inside

pub returns-clause-ok : goal.returns-clause-ok
returns-clause-ok g c =
    on-ok c.change.result _ _ c.change.ensures.ok
    (with-found (λ (ds : List (Dbuf g.row.H.Denot)). record c.args.self.now { dbufs = ds }) c.change.new.self c.args.at (applied c.args.change) c.args.self.now.dbufs c.in-Some.place (sym c.find.ensures ∙ c.in-Some.is))

pub returns-clause-given : goal.returns-clause-given
returns-clause-given g c =
    if-ok c.change.result _ _ c.change.ensures.given
    (λ kept is. has-from (λ e. kept ≡ given c.args.change e) c.args.at c.args.self.now.dbufs c.in-Some.place (sym c.find.ensures ∙ c.in-Some.is) is)
