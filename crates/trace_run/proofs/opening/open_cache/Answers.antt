use Rattle.std.proofs.Common.{◌≡◌, sym, ap, ◌∙◌, subst}
use Rattle.arc_core.specs.Config.{IsConfig}
use Rattle.arc_table.specs.Cache.{Cache}
use Rattle.trace_run.specs.Openings.{openings_of}
use Rattle.trace_run.proofs.OpenLemmas.{all-known, all-opened}
use Rattle.trace_run.proofs.opening.open_cache.Goals as goal

pub returns-clause-parties : goal.returns-clause-parties
returns-clause-parties c =
    let cache : Cache = c.with_parties.result in
    let config : cache.config ≡ c.args.trace.now.config = ap (λ (x : Cache). x.config) c.with_parties.ensures.same ∙ c.in_ok-arcs.ensures.config in
    all-opened c.in_ok-arcs.arcs cache _ c.in_ok-arcs.parties.items c.in_ok-arcs.ensures.parties c.with_parties.ensures.same (sym config) c.with_parties.ensures.parties (subst IsConfig (sym config) c.requires.config)

pub returns-clause-known : goal.returns-clause-known
returns-clause-known c = all-known c.in_ok-arcs.arcs _ (openings_of c.args.trace.now) c.in_ok-arcs.parties.items c.in_ok-arcs.ensures.parties c.in_ok-cells.ensures.openings
