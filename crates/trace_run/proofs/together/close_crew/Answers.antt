use Rattle.std.proofs.Common.{◌≡◌, length, arith}
use Rattle.std.proofs.lemmas.Result.{IfOk-weaker}
use Rattle.arc_table.specs.Ended.{Ends}
use Rattle.trace_run.specs.callers.GroupRun.{HaveClosed}
use Rattle.trace_run.proofs.callers.AfterEnds.{crew-stopped}
use Rattle.trace_run.proofs.callers.GroupRunLemmas.{gone-some, gone-stopped}
use Rattle.trace_run.proofs.callers.TurningLemmas.{may-end}
use Rattle.trace_run.proofs.together.close_crew.Goals as goal

pub end_crew-requires-clause-some : goal.end_crew-requires-clause-some
end_crew-requires-clause-some g c =
    let count : length c.args.crew.kept.items ≡ c.args.arcs.config.callers = let a = c.args.crew.kept.ok.0 in let b = c.requires.count in omega (arith, a, b) in
    let waits = c.requires.callers in
    let fed = c.requires.feeder in
    let gone = c.in_ok-parties.ensures waits.0 waits.1 waits.2 fed.0 fed.1 fed.2 fed.3 fed.4 fed.5 in
    let some = gone-some c.args.arcs waits.0 waits.1 fed.0 fed.1 fed.2 fed.3 fed.4 c.args.crew.parties.items c.args.crew.feeder c.args.crew.kept.items c.in_ok-parties.parties.items count gone in
    let long = c.in_ok-parties.parties.ok.0 in
    omega (arith, some, long)

pub end_crew-requires-clause-may : goal.end_crew-requires-clause-may
end_crew-requires-clause-may g c = λ rest feeder are.
    let count : length c.args.crew.kept.items ≡ c.args.arcs.config.callers = let a = c.args.crew.kept.ok.0 in let b = c.requires.count in omega (arith, a, b) in
    let waits = c.requires.callers in
    let fed = c.requires.feeder in
    let gone = c.in_ok-parties.ensures waits.0 waits.1 waits.2 fed.0 fed.1 fed.2 fed.3 fed.4 fed.5 in
    may-end c.args.arcs waits.0 waits.1 fed.0 fed.1 fed.2 fed.3 fed.4 c.args.crew.parties.items c.args.crew.feeder c.requires.rows c.args.crew.kept.items c.in_ok-parties.parties.items rest feeder count are gone

pub close_run-requires : goal.close_run-requires
close_run-requires g c =
    let count : length c.args.crew.kept.items ≡ c.args.arcs.config.callers = let a = c.args.crew.kept.ok.0 in let b = c.requires.count in omega (arith, a, b) in
    let waits = c.requires.callers in
    let fed = c.requires.feeder in
    let gone = c.in_ok-parties.ensures waits.0 waits.1 waits.2 fed.0 fed.1 fed.2 fed.3 fed.4 fed.5 in
    crew-stopped c.args.arcs c.in_ok-parties.parties.items c.in_ok-parties-2.parties.items c.in_ok-parties-2.ensures
    (gone-stopped c.args.arcs waits.0 waits.1 fed.0 fed.1 fed.2 fed.3 fed.4 c.args.crew.parties.items c.args.crew.feeder c.args.crew.kept.items c.in_ok-parties.parties.items count gone)

pub returns : goal.returns
returns g c =
    IfOk-weaker c.close_run.result (λ closed. Ends _ c.args.arcs c.in_ok-parties-2.parties.items closed) (λ closed. HaveClosed _ c.args.arcs c.args.crew closed)
    (λ closed ends. record { parties = c.in_ok-parties.parties.items; closing = c.in_ok-parties-2.parties.items; gave = c.in_ok-parties.ensures; ended = c.in_ok-parties-2.ensures; ends = ends }) c.close_run.ensures
