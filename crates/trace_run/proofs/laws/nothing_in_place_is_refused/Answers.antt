use Rattle.trace_run.proofs.in_place.RunLines.{refuses-nothing}
use Rattle.trace_run.proofs.laws.nothing_in_place_is_refused.Goals as goal

pub returns : goal.returns
returns g c =
    let laws = g.met.P.Pool g.world.𝓛 g.world.𝓜 g.world.𝓡 ((λ s x. x), (λ x. x), (λ x. x), λ x. x) in
    refuses-nothing g.P.Pool (λ p bytes told. laws.told_len p bytes told) g.D.CacheDev
