use Rattle.std.proofs.Common.{arith, sym, ap, subst}
use Rattle.arc_core.specs.Search.{Stands}
use Rattle.arc_core.specs.declared.table.search.Search.{Search}
use Rattle.arc_core.proofs.CursorEnds.{at-room, size_by-small}
use Rattle.arc_core.proofs.CursorRuns.{room-ends}
use Rattle.arc_core.proofs.table.Table.search_room.Goals as goal

pub enter-requires : goal.enter-requires
enter-requires c =
    let s = c.args.self.now.shard in
    let x = c.args.search.now in
    let vs = c.requires.stands.0 in
    let on = c.unmarked_eviction.ensures x.comes vs (at-room s c.args.self.now.marked vs x c.requires.room c.requires.stands.1) in
    omega (arith, size_by-small x.about s c.unmarked_eviction.new.scan on.on.at x.comes on.on.scan)

pub returns-in-None : goal.returns-in-None
returns-in-None c vs stands =
    let s = c.args.self.now.shard in
    let m = c.args.self.now.marked in
    let x = c.args.search.now in
    let on = c.unmarked_eviction.ensures x.comes vs (at-room s m vs x c.requires.room stands) in
    let trim = room-ends x.about s m x.z x.comes vs c.unmarked_eviction.new.scan on.on (on.none c.in-None.is) in
    record {
      stands = subst (λ (y : Search). Stands s m vs y) (sym c.enter.ensures) trim;
      some = λ k is. cc;
      none = λ is. ap (λ (y : Search). y.trims) c.enter.ensures;
      all = λ is. cc;
    }
