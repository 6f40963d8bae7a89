use Rattle.dbuf_state.specs.Dbufs.{is_clean_in, is_reading}
use Rattle.dbuf_state.proofs.FitLemmas.{fits-unread, from-test}
use Rattle.dbuf_state.proofs.cell.Cell.unread.Goals as goal

pub done-requires-clause-fits : goal.done-requires-clause-fits
done-requires-clause-fits g c = from-test (is_clean_in is_reading) _ (λ d h fit. fits-unread g.H.Shows.key_of g.H.Shows.bytes_of d h fit) c.args.at c.args.self.now.dbufs c.requires
