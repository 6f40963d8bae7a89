use Rattle.dbuf_state.specs.Dbufs.{IsOfContent}
use Rattle.dbuf_state.proofs.FitLemmas.{fits-keep, from-has}
use Rattle.dbuf_state.proofs.cell.Cell.loaded.Goals as goal

pub done-requires-clause-fits : goal.done-requires-clause-fits
done-requires-clause-fits g c = from-has (λ d. IsOfContent g.H.Shows.key_of g.H.Shows.bytes_of c.args.kept d.content) _ (λ d h fit. fits-keep g.H.Shows.key_of g.H.Shows.bytes_of c.args.kept d h) c.args.at c.args.self.now.dbufs c.requires.of
