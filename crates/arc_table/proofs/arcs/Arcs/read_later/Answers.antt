use Rattle.std.proofs.Common.{ℕ, suc, refl, sym, ap, ◌∙◌, subst}
use Rattle.blk_ptr.specs.Key.{IsValid}
use Rattle.turn_table.specs.Board.{IsAmong}
use Rattle.vdev_io.specs.Calls.{KeepsPool}
use Rattle.arc_table.specs.Reading.{Answers, KeepsDevice, Outside, outside}
use Rattle.arc_table.proofs.arcs.Arcs.read_later.Goals as goal

pub loop-init : goal.loop-init
loop-init g c = record { party = c.requires.party; held = refl; waits = (0, refl); pool = refl; cache = refl }

pub read_round-requires-clause-party : goal.read_round-requires-clause-party
read_round-requires-clause-party g c κs within = c.loop.invariant.party

pub read_round-requires-clause-look : goal.read_round-requires-clause-look
read_round-requires-clause-look g c κs within = λ i among. c.requires.look i (subst (IsAmong i) c.loop.invariant.held among)

pub read_round-requires-clause-valid : goal.read_round-requires-clause-valid
read_round-requires-clause-valid g c κs within =
    subst (λ (n : ℕ). IsValid n c.args.ptr.now.key) (ap g.P.Pool.size (sym c.loop.invariant.pool)) c.requires.valid

pub returns-in-Answered-clause-answer : goal.returns-in-Answered-clause-answer
returns-in-Answered-clause-answer g c =
    let m = g.C.Keeps in
    let i = c.loop.invariant in (
      i.waits.0,
      c.loop.party,
      i.waits.1,
      subst (λ (x : Outside g.row.P.Denot g.row.D.Denot). Answers m g.P.Pool g.D.CacheDev c.args.self.now.config c.args.ptr.now c.args.tick x (outside c.read_round.new.pool c.read_round.new.cache) c.loop.party c.read_round.new.party c.in-Answered.answer)
          (λ z. outside (i.pool z) (i.cache z)) c.in-Answered.ensures.answer,
    )

pub returns-in-Answered-clause-pool : goal.returns-in-Answered-clause-pool
returns-in-Answered-clause-pool g c = subst (λ (x : g.row.P.Denot). KeepsPool g.P.Pool x c.read_round.new.pool) c.loop.invariant.pool c.in-Answered.ensures.pool

pub returns-in-Answered-clause-cache : goal.returns-in-Answered-clause-cache
returns-in-Answered-clause-cache g c = subst (λ (x : g.row.D.Denot). KeepsDevice g.D.CacheDev x c.read_round.new.cache) c.loop.invariant.cache c.in-Answered.ensures.cache

pub returns-in-Answered-clause-held : goal.returns-in-Answered-clause-held
returns-in-Answered-clause-held g c = c.in-Answered.ensures.held ∙ c.loop.invariant.held

pub loop-preserved : goal.loop-preserved
loop-preserved g c =
    let i = c.loop.invariant in
    let e = c.in_default.ensures in record {
      party = e.party;
      held = e.held ∙ i.held;
      waits = (suc i.waits.0, (c.loop.party, i.waits.1, e.answer.0));
      pool = ap (λ (x : Outside g.row.P.Denot g.row.D.Denot). x.pool) e.answer.1 ∙ i.pool;
      cache = ap (λ (x : Outside g.row.P.Denot g.row.D.Denot). x.device) e.answer.1 ∙ i.cache;
    }
