use Rattle.trace_run.proofs.in_place.Statuses.{ends-in-order}
use Rattle.trace_run.proofs.laws.traces_in_place_are_done.Goals as goal

pub returns : goal.returns
returns g c =
    let laws = g.met.P.Pool g.world.𝓛 g.world.𝓜 g.world.𝓡 ((λ s x. x), (λ x. x), (λ x. x), λ x. x) in
    ends-in-order g.P.Pool (λ p bytes told. laws.told_len p bytes told) g.D.CacheDev
