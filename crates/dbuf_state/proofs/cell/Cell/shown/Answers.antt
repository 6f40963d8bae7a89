use Rattle.dbuf_state.proofs.ReplayLemmas.{shown-answers}
use Rattle.dbuf_state.proofs.cell.Cell.shown.Goals as goal

pub returns-clause-answer : goal.returns-clause-answer
returns-clause-answer g c = λ evicting. shown-answers g.H.Shows.bytes_of evicting c.args.self.now c.args.at c.args.w c.show.new.out c.requires.inside c.show.ensures.window c.show.ensures.of
