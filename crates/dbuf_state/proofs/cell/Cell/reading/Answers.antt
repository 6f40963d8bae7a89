use Rattle.dbuf_state.specs.Dbufs.{is_clean_in, is_uncached}
use Rattle.dbuf_state.proofs.FitLemmas.{fits-reading, from-test}
use Rattle.dbuf_state.proofs.cell.Cell.reading.Goals as goal

pub done-requires-clause-fits : goal.done-requires-clause-fits
done-requires-clause-fits g c = from-test (is_clean_in is_uncached) _ (λ d h fit. fits-reading g.H.Shows.key_of g.H.Shows.bytes_of c.args.n d h fit) c.args.at c.args.self.now.dbufs c.requires
