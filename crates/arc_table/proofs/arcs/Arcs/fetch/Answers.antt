use Rattle.std.proofs.Common.{ap, subst}
use Rattle.std.specs.Prelude.{IfSome, Ok}
use Rattle.vdev_io.specs.Calls.{Gave}
use Rattle.arc_table.specs.Fetching.{CameFromCache, once}
use Rattle.arc_table.proofs.reads.ReadEnds.{asks_pool}
use Rattle.arc_table.proofs.arcs.Arcs.fetch.Goals as goal

pub returns-in_default-answer-clause-device : goal.returns-in_default-answer-clause-device
returns-in_default-answer-clause-device g c =
    asks_pool g.D.CacheDev c.args.ptr.now c.args.found c.args.cache.now c.ask_cache.new.cache c.fetch_pool.result c.fetch_pool.ensures.from (c.in-Ok.ensures.none (ap Ok c.in_default-answer.is))

pub returns-in_default-share-clause-device : goal.returns-in_default-share-clause-device
returns-in_default-share-clause-device g c =
    let came = subst (λ o. IfSome o (λ block. CameFromCache g.D.CacheDev c.args.ptr.now c.args.found block c.args.cache.now c.ask_cache.new.cache)) c.in-Some.is c.in-Ok.ensures.some in
    once came.place Gave came.asked
