use Rattle.std.proofs.Common.{◌≡◌, Option, Some, refl, sym, ap, ◌∙◌, subst}
use Rattle.std.specs.Prelude.{IfOk}
use Rattle.trace_run.specs.declared.ran.Ran.{Ran}
use Rattle.trace_run.specs.Devices.{lent_in}
use Rattle.trace_run.specs.one_caller.Lent.{ReadsAlone}
use Rattle.trace_run.proofs.one_caller.LentLemmas.{ready-read, unlent-read}
use Rattle.trace_run.proofs.alone.run_alone.Goals as goal

pub returns-in-Ready-clause-read : goal.returns-in-Ready-clause-read
returns-in-Ready-clause-read g c =
    let laws = g.met.D.CacheDev g.world.𝓛 g.world.𝓜 g.world.𝓡 ((λ s x. x), (λ x. x), (λ x. x), λ x. x) in
    let pool_laws = g.met.P.Pool g.world.𝓛 g.world.𝓜 g.world.𝓡 ((λ s x. x), (λ x. x), (λ x. x), λ x. x) in
    let here : Some c.device.result.now ≡ lent_in c.args.device.now = ap (λ (d : g.row.D.Denot). Some d) c.device.ensures.device ∙ sym (ap lent_in c.in-Ready.is) in
    subst (λ (o : Option g.row.D.Denot). IfOk c.run_over.result (λ (ran : Ran). ReadsAlone g.P.Pool g.D.CacheDev c.args.pool.now c.args.trace.now c.args.restored.now ran.replies.items o (Some c.run_over.new.device))) here
    (ready-read g.P.Pool g.D.CacheDev g.D.CacheDev (λ p image told. pool_laws.told_len p image told) (λ dev image told. laws.told_len dev image told) c.args.trace.now c.args.restored.now c.args.pool.now c.run_over.new.pool
    (λ (ran : Ran). ran.replies.items) (λ (ran : Ran). ran.closed) c.device.result.now c.run_over.new.device c.run_over.result c.run_over.ensures.ran c.run_over.ensures.asks)

pub returns-in-None-clause-read : goal.returns-in-None-clause-read
returns-in-None-clause-read g c =
    let laws = g.met.D.CacheDev g.world.𝓛 g.world.𝓜 g.world.𝓡 ((λ s x. x), (λ x. x), (λ x. x), λ x. x) in
    let pool_laws = g.met.P.Pool g.world.𝓛 g.world.𝓜 g.world.𝓡 ((λ s x. x), (λ x. x), (λ x. x), λ x. x) in
    rw c.in-None.is
    (unlent-read g.P.Pool g.D.CacheDev _ (λ p image told. pool_laws.told_len p image told) (λ dev image told. laws.told_len dev image told) c.args.trace.now c.args.restored.now c.args.pool.now c.run_over-in-None.new.pool
    (λ (ran : Ran). ran.replies.items) (λ (ran : Ran). ran.closed) _ c.run_over-in-None.new.device refl c.run_over-in-None.result c.run_over-in-None.ensures.ran c.run_over-in-None.ensures.asks)

pub returns-in-Short-clause-read : goal.returns-in-Short-clause-read
returns-in-Short-clause-read g c =
    let laws = g.met.D.CacheDev g.world.𝓛 g.world.𝓜 g.world.𝓡 ((λ s x. x), (λ x. x), (λ x. x), λ x. x) in
    let pool_laws = g.met.P.Pool g.world.𝓛 g.world.𝓜 g.world.𝓡 ((λ s x. x), (λ x. x), (λ x. x), λ x. x) in
    rw c.in-Short.is
    (unlent-read g.P.Pool g.D.CacheDev _ (λ p image told. pool_laws.told_len p image told) (λ dev image told. laws.told_len dev image told) c.args.trace.now c.args.restored.now c.args.pool.now c.run_over-in-Short.new.pool
    (λ (ran : Ran). ran.replies.items) (λ (ran : Ran). ran.closed) _ c.run_over-in-Short.new.device refl c.run_over-in-Short.result c.run_over-in-Short.ensures.ran c.run_over-in-Short.ensures.asks)
