use Rattle.std.proofs.Common.{suc, ◌∙◌, subst}
use Rattle.turn_table.specs.Board.{IsAmong}
use Rattle.dbuf_cells.proofs.turn.take_later.Goals as goal

pub try_at_rest-requires-clause-look : goal.try_at_rest-requires-clause-look
try_at_rest-requires-clause-look g c = λ i among. c.requires.look i (subst (IsAmong i) c.loop.invariant.held among)

pub loop-preserved : goal.loop-preserved
loop-preserved g c =
    let i = c.loop.invariant in
    let e = c.in_default.ensures in record {
      party = e.party;
      held = e.held ∙ i.held;
      number = e.number ∙ i.number;
      waits = (suc i.waits.0, (c.loop.party, i.waits.1, e.none));
      claims = λ j. e.claims j ∙ i.claims j;
    }
