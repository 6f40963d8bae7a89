use Rattle.std.proofs.Common.{◌≡◌, ◌<◌, List, [], map, sym, ap, ◌∙◌, subst}
use Rattle.turn_table.specs.Places.{Place, SomeHas}
use Rattle.arc_core.specs.declared.config.Config.{Config}
use Rattle.arc_table.specs.declared.view.Known.{Known}
use Rattle.arc_table.specs.Cache.{Cache}
use Rattle.arc_table.specs.Ended.{AreAtRest}
use Rattle.arc_table.specs.Geometry.{parties_of}
use Rattle.trace_run.specs.declared.kept_blocks.KeptBlock.{KeptBlock}
use Rattle.trace_run.specs.callers.CallerLines.{DidLines, at}
use Rattle.trace_run.specs.KeptBlocks.{Stands, read_of}
use Rattle.trace_run.specs.Making.{AreNoEntries}
use Rattle.trace_run.specs.Meeting.{HasFeeder}
use Rattle.trace_run.specs.Openings.{openings_of}
use Rattle.trace_run.specs.one_caller.OverShards.{AreNamed}
use Rattle.trace_run.proofs.one_caller.AloneLemmas.{end-there, ran-alone, still-0, still-joined, still-only, still-rows}
use Rattle.trace_run.proofs.CapLemmas.{feeder-still}
use Rattle.trace_run.proofs.theorem.CellRun.{alone-cells, ends-idle}
use Rattle.trace_run.proofs.OpenLemmas.{HeapCell}
use Rattle.trace_run.proofs.one_caller.AskingLines.{asks-from, begun-alone}
use Rattle.trace_run.proofs.alone.run_over.Given.{Over}
use Rattle.trace_run.proofs.alone.run_over.Goals.{After-give_back_all}
use Rattle.trace_run.proofs.alone.run_over.Goals as goal

pub lines_alone-requires-clause-rows : goal.lines_alone-requires-clause-rows
lines_alone-requires-clause-rows g c κs within = let new = c.only_party-party.ensures.joined.new in sym new.stands.of.row.1 ∙ new.parties

pub restore_alone-requires-clause-rows : goal.restore_alone-requires-clause-rows
restore_alone-requires-clause-rows g c = let new = c.only_party-party.ensures.joined.new in sym new.stands.of.row.1 ∙ new.parties

pub restore_alone-requires-clause-joined : goal.restore_alone-requires-clause-joined
restore_alone-requires-clause-joined g c = (openings_of c.args.trace.now, c.only_party-party.ensures.feeder (openings_of c.args.trace.now) c.in_ok-arcs.ensures.known)

pub lines_alone-requires-clause-stands : goal.lines_alone-requires-clause-stands
lines_alone-requires-clause-stands g c κs within = subst (Stands c.in_ok-arcs.arcs c.in_ok-party.party) (sym c.new-kept.ensures) c.in_ok-party.ensures.stands

pub lines_alone-requires-clause-named : goal.lines_alone-requires-clause-named
lines_alone-requires-clause-named g c κs within = subst (λ (l : List KeptBlock). AreNamed c.args.trace.now.blocks (map read_of l)) (sym c.new-kept.ensures) tt

pub lines_alone-requires-clause-joined : goal.lines_alone-requires-clause-joined
lines_alone-requires-clause-joined g c κs within = c.in_ok-party.ensures.joined (openings_of c.args.trace.now) (c.only_party-party.ensures.feeder (openings_of c.args.trace.now) c.in_ok-arcs.ensures.known)

pub end_alone-requires-clause-one : goal.end_alone-requires-clause-one
end_alone-requires-clause-one g c = ap (λ (x : Config). x.callers) c.in_ok-arcs.ensures.config ∙ c.requires.one

-- ---- what is so once all was given back

-- the lines, which began with nothing kept
did : (g : Over) (c : After-give_back_all g) → DidLines c.in_ok-arcs.arcs.config g.P.Pool c.args.trace.now.blocks c.args.trace.now.ops c.in_ok-party-2.replies.items (at c.in_ok-party.party [] c.args.pool.now) (at c.in_ok-party-2.party (map read_of c.lines_alone.new.kept) c.lines_alone.new.pool)
did g c = subst (λ (l : List KeptBlock). DidLines c.in_ok-arcs.arcs.config g.P.Pool c.args.trace.now.blocks c.args.trace.now.ops c.in_ok-party-2.replies.items (at c.in_ok-party.party (map read_of l) c.args.pool.now) (at c.in_ok-party-2.party (map read_of c.lines_alone.new.kept) c.lines_alone.new.pool))
    c.new-kept.ensures c.in_ok-party-2.ensures.did

number : (g : Over) (c : After-give_back_all g) → c.give_back_all.new.party.number ≡ 0
number g c = still-0 _ c.in_ok-arcs.arcs g.P.Pool c.args.trace.now c.in_ok-party-2.replies.items c.args.pool.now c.lines_alone.new.pool c.in_ok-party.party c.in_ok-party-2.party c.give_back_all.new.party c.lines_alone.new.kept c.in_ok-arcs.ensures.config c.requires.formed c.requires.one
    c.args.restored.now c.only_party-party.result c.only_party-party.ensures.joined c.in_ok-party.ensures.fed (did g c) c.in_ok-party-2.ensures.stands c.give_back_all.ensures.gives c.give_back_all.ensures.stands

only : (g : Over) (c : After-give_back_all g) → AreNoEntries c.in_ok-arcs.arcs.config c.give_back_all.new.party.own.mine
only g c = still-only _ c.in_ok-arcs.arcs g.P.Pool c.args.trace.now c.in_ok-party-2.replies.items c.args.pool.now c.lines_alone.new.pool c.in_ok-party.party c.in_ok-party-2.party c.give_back_all.new.party c.lines_alone.new.kept c.in_ok-arcs.ensures.config c.requires.formed c.requires.one
    c.args.restored.now c.only_party-party.result c.only_party-party.ensures.joined c.in_ok-party.ensures.fed (did g c) c.in_ok-party-2.ensures.stands c.give_back_all.ensures.gives c.give_back_all.ensures.stands

joined : (g : Over) (c : After-give_back_all g) → HasFeeder c.in_ok-arcs.arcs (openings_of c.args.trace.now) c.give_back_all.new.party
joined g c = feeder-still c.in_ok-arcs.arcs (openings_of c.args.trace.now) c.in_ok-party-2.party c.give_back_all.new.party (still-joined _ c.in_ok-arcs.arcs g.P.Pool c.args.trace.now c.in_ok-party-2.replies.items c.args.pool.now c.lines_alone.new.pool c.in_ok-party.party c.in_ok-party-2.party c.give_back_all.new.party c.lines_alone.new.kept c.in_ok-arcs.ensures.config c.requires.formed c.requires.one
    c.args.restored.now c.only_party-party.result c.only_party-party.ensures.joined c.in_ok-party.ensures.fed (did g c) c.in_ok-party-2.ensures.stands c.give_back_all.ensures.gives c.give_back_all.ensures.stands) c.in_ok-party-2.ensures.joined

pub end_alone-requires-clause-number : goal.end_alone-requires-clause-number
end_alone-requires-clause-number g c = number g (goal.at.end_alone-requires-clause-number g c).After-give_back_all

pub end_alone-requires-clause-joined : goal.end_alone-requires-clause-joined
end_alone-requires-clause-joined g c = (openings_of c.args.trace.now, joined g (goal.at.end_alone-requires-clause-joined g c).After-give_back_all)

pub end_alone-requires-clause-rows : goal.end_alone-requires-clause-rows
end_alone-requires-clause-rows g c =
    still-rows _ c.in_ok-arcs.arcs g.P.Pool c.args.trace.now c.in_ok-party-2.replies.items c.args.pool.now c.lines_alone.new.pool c.in_ok-party.party c.in_ok-party-2.party c.give_back_all.new.party c.lines_alone.new.kept c.in_ok-arcs.ensures.config c.requires.formed c.requires.one
    c.args.restored.now c.only_party-party.result c.only_party-party.ensures.joined c.in_ok-party.ensures.fed (did g (goal.at.end_alone-requires-clause-rows g c).After-give_back_all) c.in_ok-party-2.ensures.stands c.give_back_all.ensures.gives c.give_back_all.ensures.stands

pub close-requires-clause-rest : goal.close-requires-clause-rest
close-requires-clause-rest g c =
    let h = c.in_ok-party-3.ensures (openings_of c.args.trace.now) (joined g (goal.at.close-requires-clause-rest g c).After-give_back_all) in
    subst (λ (x : Cache × List (Place (Known HeapCell))). AreAtRest x.0 x.1) (λ i. (sym c.arcs.view_is i, sym c.in_ok-vec.ensures.items i)) (h.stands.of, h.stands.free, tt)

pub close-requires-clause-all : goal.close-requires-clause-all
close-requires-clause-all g c =
    let before = (goal.at.close-requires-clause-all g c).After-give_back_all in
    let h = c.in_ok-party-3.ensures (openings_of c.args.trace.now) (joined g before) in
    let idle = ends-idle c.in_ok-arcs.arcs (openings_of c.args.trace.now) c.give_back_all.new.party c.in_ok-party-3.party h (only g before) in
    let here = end-there _ c.in_ok-arcs.arcs g.P.Pool c.args.trace.now c.in_ok-party-2.replies.items c.args.pool.now c.lines_alone.new.pool c.in_ok-party.party c.in_ok-party-2.party c.give_back_all.new.party c.lines_alone.new.kept c.in_ok-arcs.ensures.config c.requires.formed c.requires.one
    c.args.restored.now c.only_party-party.result c.only_party-party.ensures.joined c.in_ok-party.ensures.fed (did g before) c.in_ok-party-2.ensures.stands c.give_back_all.ensures.gives c.give_back_all.ensures.stands c.in_ok-party-3.party h.number h.parties h.stands h.all idle in
    λ n below. subst (λ (x : List (Place (Known HeapCell))). SomeHas n x) (sym c.in_ok-vec.ensures.items) (here n (subst (λ (x : Cache). n < parties_of x.config) c.arcs.view_is below))

pub returns-clause-ran : goal.returns-clause-ran
returns-clause-ran g c =
    let before = (goal.at.returns-clause-ran g c).After-give_back_all in
    let h = c.in_ok-party-3.ensures (openings_of c.args.trace.now) (joined g before) in
    let idle = ends-idle c.in_ok-arcs.arcs (openings_of c.args.trace.now) c.give_back_all.new.party c.in_ok-party-3.party h (only g before) in
    ran-alone _ c.in_ok-arcs.arcs g.P.Pool c.args.trace.now c.in_ok-party-2.replies.items c.args.pool.now c.lines_alone.new.pool c.in_ok-party.party c.in_ok-party-2.party c.give_back_all.new.party c.lines_alone.new.kept c.in_ok-arcs.ensures.config c.requires.formed c.requires.one
    c.args.restored.now c.only_party-party.result c.only_party-party.ensures.joined c.in_ok-party.ensures.fed (did g before) c.in_ok-party-2.ensures.stands c.give_back_all.ensures.gives c.give_back_all.ensures.stands c.in_ok-party-3.party h.number h.parties h.stands h.all idle
    _ c.in_ok-vec.field-0.items c.in_ok-closed.closed c.arcs.view_is c.in_ok-vec.ensures.items c.in_ok-closed.ensures

pub returns-clause-cells : goal.returns-clause-cells
returns-clause-cells g c =
    let before = (goal.at.returns-clause-cells g c).After-give_back_all in
    let h = c.in_ok-party-3.ensures (openings_of c.args.trace.now) (joined g before) in
    alone-cells c.in_ok-arcs.arcs c.give_back_all.new.party c.in_ok-party-3.party _ c.in_ok-vec.field-0.items c.in_ok-closed.closed c.args.trace.now c.in_ok-arcs.ensures.config (ap (λ (x : Config). x.callers) c.in_ok-arcs.ensures.config ∙ c.requires.one)
    c.arcs.view_is c.in_ok-vec.ensures.items c.in_ok-closed.ensures (number g before) h (only g before)

pub returns-clause-asks : goal.returns-clause-asks
returns-clause-asks g c =
    let cache : Cache = c.in_ok-arcs.arcs in
    let here = begun-alone cache c.args.restored.now c.only_party-party.result c.in_ok-party.party c.only_party-party.ensures.joined c.in_ok-party.ensures.fed in
    let asks = c.in_ok-party-2.ensures.asks here.0 in
    (asks.0, asks-from g.D.CacheDev cache.config c.args.trace.now.config c.in_ok-arcs.ensures.config c.args.trace.now.blocks c.args.restored.now _ here.1 _ c.new-kept.ensures c.args.trace.now.ops c.in_ok-party-2.replies.items asks.0 c.args.device.now c.lines_alone.new.device asks.1)
