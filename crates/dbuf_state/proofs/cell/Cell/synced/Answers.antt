use Rattle.std.proofs.Common.{refl}
use Rattle.dbuf_state.specs.Dbufs.{IsDirtyOf}
use Rattle.dbuf_state.proofs.FitLemmas.{from-has}
use Rattle.dbuf_state.proofs.cell.Cell.synced.Goals as goal

pub done-requires-clause-fits : goal.done-requires-clause-fits
done-requires-clause-fits g c = from-has (λ d. IsDirtyOf c.args.ptr d.content) _ (λ d h fit. (refl, c.requires.of)) c.args.at c.args.self.now.dbufs c.requires.dirty
