use Rattle.std.proofs.Common.{suc, refl, ◌∙◌, subst}
use Rattle.turn_table.specs.Board.{IsAmong}
use Rattle.dbuf_cells.proofs.Claims.{claims-then}
use Rattle.dbuf_cells.proofs.PartySteps.{waits-first}
use Rattle.dbuf_cells.proofs.turn.take_at_rest.Goals as goal

pub returns-in-Some : goal.returns-in-Some
returns-in-Some g c = record { times = 0; ready = c.args.party.now; waits = refl; held = refl; number = refl; begins = c.in-Some.ensures.some; rests = c.in-Some.ensures.rests; claims = λ j. refl; claimed = c.in-Some.ensures.claimed }

pub take_later-requires-clause-look : goal.take_later-requires-clause-look
take_later-requires-clause-look g c = λ i among. c.requires.look i (subst (IsAmong i) c.in_default.ensures.held among)

pub returns : goal.returns
returns g c =
    let t = c.take_later.ensures in record {
      times = suc t.times;
      ready = t.ready;
      waits = waits-first c.args.arcs.now.config c.args.i c.args.at c.args.party.now c.try_at_rest.new.party c.in_default.ensures.none t.times t.ready t.waits;
      held = t.held ∙ c.in_default.ensures.held;
      number = t.number ∙ c.in_default.ensures.number;
      begins = t.begins;
      rests = t.rests;
      claims = claims-then c.args.party.now c.try_at_rest.new.party t.ready c.in_default.ensures.claims t.claims;
      claimed = t.claimed;
    }
