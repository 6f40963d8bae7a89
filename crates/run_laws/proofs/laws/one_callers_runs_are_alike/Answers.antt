use Rattle.run_laws.proofs.Shown.{law-holds}
use Rattle.run_laws.proofs.laws.one_callers_runs_are_alike.Goals as goal

pub returns : goal.returns
returns g c =
    let laws = g.met.P.Pool g.world.𝓛 g.world.𝓜 g.world.𝓡 ((λ s x. x), (λ x. x), (λ x. x), λ x. x) in
    law-holds g.P.Pool g.D.CacheDev (λ p bytes told. laws.told_len p bytes told)
