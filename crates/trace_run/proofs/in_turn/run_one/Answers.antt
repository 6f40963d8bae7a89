-- The run of several callers, group by group.
use Rattle.std.proofs.Common.{◌∙◌, ap, ◌≡◌, ℕ, List, [], length, sym, subst, arith}
use Rattle.arc_core.specs.Config.{IsConfig}
use Rattle.arc_core.specs.declared.config.Config.{Config}
use Rattle.blk_ptr.specs.declared.ptr.Ptr.{Ptr}
use Rattle.trace_run.specs.Feeds.{MayBeFed}
use Rattle.trace_run.specs.RunWork.{plain_work}
use Rattle.trace_run.specs.callers.Together.{IsFirstPlace, between_groups}
use Rattle.trace_run.proofs.callers.GroupRunLemmas.{come-wait, lines-acts, lines-noted, may-resize}
use Rattle.trace_run.proofs.callers.GroupsLemmas.{crew-rows, have-started}
use Rattle.trace_run.proofs.callers.StepLemmas.{first-may}
use Rattle.trace_run.proofs.one_caller.TurnBegins.{turn-begun}
use Rattle.trace_run.proofs.theorem.TurnRun.{runs-at}
use Rattle.trace_run.proofs.theorem.TogetherRun.{group-fed, group-together}
use Rattle.trace_run.proofs.in_turn.run_one.Goals as goal

pub crew_of-requires : goal.crew_of-requires
crew_of-requires g c = let count = c.in_ok-arcs.ensures.parties.count in let o = c.in_ok-arcs.parties.ok.0 in omega (arith, count, o)

pub restore_crew-requires-clause-may : goal.restore_crew-requires-clause-may
restore_crew-requires-clause-may g c =
    let many : length c.in_ok-crew.crew.kept.items ≡ length c.in_ok-crew.crew.parties.items = let a = c.in_ok-crew.crew.kept.ok.0 in let b = c.in_ok-crew.crew.parties.ok.0 in let e = c.in_ok-crew.ensures.count in omega (arith, a, b, e) in
    let rows = crew-rows c.in_ok-arcs.arcs c.in_ok-arcs.parties.items c.in_ok-crew.crew c.in_ok-arcs.ensures.parties c.in_ok-crew.ensures.parties c.in_ok-crew.ensures.none many in
    may-resize c.in_ok-arcs.arcs [] 0 _ 0 [] [] [] (plain_work [] []) c.in_ok-crew.crew
    (have-started c.in_ok-arcs.arcs c.in_ok-arcs.parties.items c.in_ok-crew.crew c.in_ok-arcs.ensures.parties c.in_ok-crew.ensures.parties c.in_ok-crew.ensures.none many 0 (g.P.Pool.told c.args.pool.now) 0 []) rows

pub restore_crew-requires-clause-feeder : goal.restore_crew-requires-clause-feeder
restore_crew-requires-clause-feeder g c =
    let many : length c.in_ok-crew.crew.kept.items ≡ length c.in_ok-crew.crew.parties.items = let a = c.in_ok-crew.crew.kept.ok.0 in let b = c.in_ok-crew.crew.parties.ok.0 in let e = c.in_ok-crew.ensures.count in omega (arith, a, b, e) in
    (have-started c.in_ok-arcs.arcs c.in_ok-arcs.parties.items c.in_ok-crew.crew c.in_ok-arcs.ensures.parties c.in_ok-crew.ensures.parties c.in_ok-crew.ensures.none many 0 (g.P.Pool.told c.args.pool.now) 0 []).feeder.number

pub all_in_turn-requires-clause-rows : goal.all_in_turn-requires-clause-rows
all_in_turn-requires-clause-rows g c κs within =
    let many : length c.in_ok-crew.crew.kept.items ≡ length c.in_ok-crew.crew.parties.items = let a = c.in_ok-crew.crew.kept.ok.0 in let b = c.in_ok-crew.crew.parties.ok.0 in let e = c.in_ok-crew.ensures.count in omega (arith, a, b, e) in
    crew-rows c.in_ok-arcs.arcs c.in_ok-arcs.parties.items c.in_ok-crew.crew c.in_ok-arcs.ensures.parties c.in_ok-crew.ensures.parties c.in_ok-crew.ensures.none many

pub all_in_turn-requires-clause-between : goal.all_in_turn-requires-clause-between
all_in_turn-requires-clause-between g c κs within =
    let many : length c.in_ok-crew.crew.kept.items ≡ length c.in_ok-crew.crew.parties.items = let a = c.in_ok-crew.crew.kept.ok.0 in let b = c.in_ok-crew.crew.parties.ok.0 in let e = c.in_ok-crew.ensures.count in omega (arith, a, b, e) in
    let place : IsFirstPlace (g.P.Pool.size c.args.pool.now) c.args.trace.now.blocks c.first_place.result =
    subst (λ (x : ℕ × List Ptr). IsFirstPlace x.0 x.1 c.first_place.result) (λ i. (c.len.ensures i, c.as_slice.ensures i)) c.first_place.ensures.place in
    let begun =
    turn-begun c.in_ok-arcs.arcs c.args.restored.now g.P.Pool g.D.CacheDev c.args.trace.now (between_groups c.args.pool.now 1 c.first_place.result) c.args.device.now c.in_ok-arcs.parties.items c.in_ok-crew.crew c.in_ok-crew-2.crew c.in_ok-arcs.ensures.parties
    c.in_ok-crew.ensures.parties c.in_ok-crew.ensures.none many c.in_ok-crew-2.ensures.made c.in_ok-crew-2.ensures.kept c.in_ok-arcs.ensures.known place
    (first-may g.P.Pool c.args.pool.now c.first_place.result c.len.result c.first_place.ensures.aligned c.first_place.ensures.inside c.len.ensures) c.in_ok-arcs.ensures.config in
    (c.args.restored.now, plain_work [] [], begun)

pub all_in_turn-requires-clause-device : goal.all_in_turn-requires-clause-device
all_in_turn-requires-clause-device g c κs within =
    subst (λ (x : Config). MayBeFed g.D.CacheDev x c.args.device.now) (sym c.in_ok-arcs.ensures.config) c.requires.device

pub close_crew-requires-clause-callers : goal.close_crew-requires-clause-callers
close_crew-requires-clause-callers g c =
    let many : length c.in_ok-crew.crew.kept.items ≡ length c.in_ok-crew.crew.parties.items = let a = c.in_ok-crew.crew.kept.ok.0 in let b = c.in_ok-crew.crew.parties.ok.0 in let e = c.in_ok-crew.ensures.count in omega (arith, a, b, e) in
    let place : IsFirstPlace (g.P.Pool.size c.args.pool.now) c.args.trace.now.blocks c.first_place.result =
    subst (λ (x : ℕ × List Ptr). IsFirstPlace x.0 x.1 c.first_place.result) (λ i. (c.len.ensures i, c.as_slice.ensures i)) c.first_place.ensures.place in
    let begun =
    turn-begun c.in_ok-arcs.arcs c.args.restored.now g.P.Pool g.D.CacheDev c.args.trace.now (between_groups c.args.pool.now 1 c.first_place.result) c.args.device.now c.in_ok-arcs.parties.items c.in_ok-crew.crew c.in_ok-crew-2.crew c.in_ok-arcs.ensures.parties
    c.in_ok-crew.ensures.parties c.in_ok-crew.ensures.none many c.in_ok-crew-2.ensures.made c.in_ok-crew-2.ensures.kept c.in_ok-arcs.ensures.known place
    (first-may g.P.Pool c.args.pool.now c.first_place.result c.len.result c.first_place.ensures.aligned c.first_place.ensures.inside c.len.ensures) c.in_ok-arcs.ensures.config in
    let done = c.in_ok-crew-3.ensures.done c.args.restored.now (plain_work [] []) begun in
    let come = done.1.done.reached.come in
    (lines-acts c.in_ok-arcs.arcs _ _ _ _ _ _ _ _ _ come, lines-noted c.in_ok-arcs.arcs _ _ _ _ _ _ _ _ _ come, come-wait c.in_ok-arcs.arcs _ _ _ _ _ _ _ _ _ come)

pub close_crew-requires-clause-feeder : goal.close_crew-requires-clause-feeder
close_crew-requires-clause-feeder g c =
    let many : length c.in_ok-crew.crew.kept.items ≡ length c.in_ok-crew.crew.parties.items = let a = c.in_ok-crew.crew.kept.ok.0 in let b = c.in_ok-crew.crew.parties.ok.0 in let e = c.in_ok-crew.ensures.count in omega (arith, a, b, e) in
    let place : IsFirstPlace (g.P.Pool.size c.args.pool.now) c.args.trace.now.blocks c.first_place.result =
    subst (λ (x : ℕ × List Ptr). IsFirstPlace x.0 x.1 c.first_place.result) (λ i. (c.len.ensures i, c.as_slice.ensures i)) c.first_place.ensures.place in
    let begun =
    turn-begun c.in_ok-arcs.arcs c.args.restored.now g.P.Pool g.D.CacheDev c.args.trace.now (between_groups c.args.pool.now 1 c.first_place.result) c.args.device.now c.in_ok-arcs.parties.items c.in_ok-crew.crew c.in_ok-crew-2.crew c.in_ok-arcs.ensures.parties
    c.in_ok-crew.ensures.parties c.in_ok-crew.ensures.none many c.in_ok-crew-2.ensures.made c.in_ok-crew-2.ensures.kept c.in_ok-arcs.ensures.known place
    (first-may g.P.Pool c.args.pool.now c.first_place.result c.len.result c.first_place.ensures.aligned c.first_place.ensures.inside c.len.ensures) c.in_ok-arcs.ensures.config in
    let done = c.in_ok-crew-3.ensures.done c.args.restored.now (plain_work [] []) begun in
    (_, _, _, _, _, done.1.done.reached.come.feeder)

pub close_crew-requires-clause-count : goal.close_crew-requires-clause-count
close_crew-requires-clause-count g c =
    let many : length c.in_ok-crew.crew.kept.items ≡ length c.in_ok-crew.crew.parties.items = let a = c.in_ok-crew.crew.kept.ok.0 in let b = c.in_ok-crew.crew.parties.ok.0 in let e = c.in_ok-crew.ensures.count in omega (arith, a, b, e) in
    let place : IsFirstPlace (g.P.Pool.size c.args.pool.now) c.args.trace.now.blocks c.first_place.result =
    subst (λ (x : ℕ × List Ptr). IsFirstPlace x.0 x.1 c.first_place.result) (λ i. (c.len.ensures i, c.as_slice.ensures i)) c.first_place.ensures.place in
    let begun =
    turn-begun c.in_ok-arcs.arcs c.args.restored.now g.P.Pool g.D.CacheDev c.args.trace.now (between_groups c.args.pool.now 1 c.first_place.result) c.args.device.now c.in_ok-arcs.parties.items c.in_ok-crew.crew c.in_ok-crew-2.crew c.in_ok-arcs.ensures.parties
    c.in_ok-crew.ensures.parties c.in_ok-crew.ensures.none many c.in_ok-crew-2.ensures.made c.in_ok-crew-2.ensures.kept c.in_ok-arcs.ensures.known place
    (first-may g.P.Pool c.args.pool.now c.first_place.result c.len.result c.first_place.ensures.aligned c.first_place.ensures.inside c.len.ensures) c.in_ok-arcs.ensures.config in
    let done = c.in_ok-crew-3.ensures.done c.args.restored.now (plain_work [] []) begun in
    let kepts = done.1.done.reached.come.kepts in
    let long = c.in_ok-crew-3.crew.kept.ok.0 in
    omega (arith, kepts, long)

pub returns-clause-ran : goal.returns-clause-ran
returns-clause-ran g c =
    let many : length c.in_ok-crew.crew.kept.items ≡ length c.in_ok-crew.crew.parties.items = let a = c.in_ok-crew.crew.kept.ok.0 in let b = c.in_ok-crew.crew.parties.ok.0 in let e = c.in_ok-crew.ensures.count in omega (arith, a, b, e) in
    let place : IsFirstPlace (g.P.Pool.size c.args.pool.now) c.args.trace.now.blocks c.first_place.result =
    subst (λ (x : ℕ × List Ptr). IsFirstPlace x.0 x.1 c.first_place.result) (λ i. (c.len.ensures i, c.as_slice.ensures i)) c.first_place.ensures.place in
    let begun =
    turn-begun c.in_ok-arcs.arcs c.args.restored.now g.P.Pool g.D.CacheDev c.args.trace.now (between_groups c.args.pool.now 1 c.first_place.result) c.args.device.now c.in_ok-arcs.parties.items c.in_ok-crew.crew c.in_ok-crew-2.crew c.in_ok-arcs.ensures.parties
    c.in_ok-crew.ensures.parties c.in_ok-crew.ensures.none many c.in_ok-crew-2.ensures.made c.in_ok-crew-2.ensures.kept c.in_ok-arcs.ensures.known place
    (first-may g.P.Pool c.args.pool.now c.first_place.result c.len.result c.first_place.ensures.aligned c.first_place.ensures.inside c.len.ensures) c.in_ok-arcs.ensures.config in
    let done = c.in_ok-crew-3.ensures.done c.args.restored.now (plain_work [] []) begun in
    let config = c.in_ok-arcs.ensures.config in
    let one : c.in_ok-arcs.arcs.config.callers ≡ 1 = ap (λ (x : Config). x.callers) config ∙ c.requires.one in
    let valid : IsConfig c.in_ok-arcs.arcs.config = subst IsConfig (sym config) c.requires.formed.config in (
      _,
      group-together c.in_ok-arcs.arcs g.P.Pool g.D.CacheDev c.args.pool.now c.all_in_turn.new.pool c.first_place.result c.args.trace.now c.requires.formed config valid c.args.device.now c.all_in_turn.new.device _ c.args.restored.now _ done.0 _ done.1.done
          c.in_ok-closed.closed c.in_ok-closed.ensures,
      runs-at c.in_ok-arcs.arcs g.P.Pool g.D.CacheDev c.args.pool.now c.all_in_turn.new.pool c.first_place.result c.args.trace.now c.requires.formed config valid one c.args.device.now c.all_in_turn.new.device _ c.args.restored.now _ done.0 _ done.1 c.in_ok-closed.closed c.in_ok-closed.ensures,
      group-fed c.in_ok-arcs.arcs g.P.Pool g.D.CacheDev c.args.pool.now c.all_in_turn.new.pool c.first_place.result c.args.trace.now c.requires.formed config valid c.args.device.now c.all_in_turn.new.device _ c.args.restored.now _ done.0 _ done.1.done
          c.in_ok-closed.closed c.in_ok-closed.ensures,
    )

pub all_in_turn-requires-clause-one : goal.all_in_turn-requires-clause-one
all_in_turn-requires-clause-one g c κs within = ap (λ (x : Config). x.callers) c.in_ok-arcs.ensures.config ∙ c.requires.one
