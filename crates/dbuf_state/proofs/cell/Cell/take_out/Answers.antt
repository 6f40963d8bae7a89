use Rattle.std.proofs.Common.{◌≡◌, sym, subst, ◌∙◌}
use Rattle.std.specs.List.{AllByRecursion}
use Rattle.dbuf_state.specs.CellLog.{CellLog}
use Rattle.dbuf_state.specs.Dbufs.{IsFit, is_cached, is_clean_in}
use Rattle.dbuf_state.proofs.FitLemmas.{fits-unkeep, from-has, from-test, taken-of, taken-some}
use Rattle.dbuf_state.proofs.cell.Cell.take_out.Goals as goal

pub done-requires-clause-fits : goal.done-requires-clause-fits
done-requires-clause-fits g c = from-test (is_clean_in is_cached) _ (λ d h fit. fits-unkeep g.H.Shows.key_of g.H.Shows.bytes_of c.args.state c.requires.emptied d h) c.args.at c.args.self.now.dbufs c.requires.cached

pub unreachable-requires : goal.unreachable-requires
unreachable-requires g c =
    let all = subst (λ (log : CellLog g.row.H.Denot). AllByRecursion (IsFit g.H.Shows.key_of g.H.Shows.bytes_of) log.dbufs) c.self.view_is c.self.invariant.fit in
    taken-some g.H.Shows.key_of g.H.Shows.bytes_of c.args.at c.args.self.now.dbufs c.done.result all c.requires.cached c.done.ensures.given c.in_default.is

pub returns-clause-of : goal.returns-clause-of
returns-clause-of g c =
    let all = subst (λ (log : CellLog g.row.H.Denot). AllByRecursion (IsFit g.H.Shows.key_of g.H.Shows.bytes_of) log.dbufs) c.self.view_is c.self.invariant.fit in
    taken-of g.H.Shows.key_of g.H.Shows.bytes_of c.args.at c.args.self.now.dbufs c.in-Some.kept all c.requires.cached
    (from-has (λ d. c.done.result ≡ d.kept) _ (λ d h. sym h ∙ c.in-Some.is) c.args.at c.args.self.now.dbufs c.done.ensures.given)
