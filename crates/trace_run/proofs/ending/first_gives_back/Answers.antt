use Rattle.std.proofs.Common.{arith}
use Rattle.std.proofs.lemmas.Result.{IfOk-weaker}
use Rattle.trace_run.specs.Meeting.{FirstGaveBack, GaveBackJoined}
use Rattle.trace_run.proofs.callers.TurningLemmas.{first-gave, first-goes, first-some}
use Rattle.trace_run.proofs.ending.first_gives_back.Goals as goal

pub remove-party-requires : goal.remove-party-requires
remove-party-requires g c = let some = first-some c.args.arcs.now c.args.kept c.args.parties.items c.requires in let long = c.args.parties.ok.0 in omega arith

pub give_back_joined-requires : goal.give_back_joined-requires
give_back_joined-requires g c =
    first-goes c.args.arcs.now c.args.kept c.args.parties.items c.remove-party.result c.remove-party.new.self.items c.requires c.remove-party.ensures.value c.remove-party.ensures.items

pub returns : goal.returns
returns g c =
    IfOk-weaker c.give_back_joined.result
    (λ left. GaveBackJoined c.args.arcs.now c.remove-party.result c.args.kept c.remove-party.new.self.items left.items)
    (λ left. FirstGaveBack c.args.arcs.now c.args.kept c.args.parties.items left.items)
    (λ left gave. first-gave c.args.arcs.now c.args.kept c.args.parties.items left.items c.remove-party.result c.remove-party.new.self.items c.requires c.remove-party.ensures.value c.remove-party.ensures.items gave)
    c.give_back_joined.ensures
