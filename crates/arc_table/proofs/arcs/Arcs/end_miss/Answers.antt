use Rattle.std.proofs.Common.{[], ◌∷◌, Err, sym, subst}
use Rattle.arc_core.specs.declared.event.Event.TheVariants.{Fail}
use Rattle.arc_core.specs.declared.event.FailedAt.{FailedAt}
use Rattle.arc_core.specs.declared.event.Origin.{Origin}
use Rattle.arc_core.specs.declared.served.ReadFault.{ReadFault}
use Rattle.arc_table.specs.Both.{Does}
use Rattle.arc_table.specs.Fetching.{ServesOrNot}
use Rattle.arc_table.specs.Reading.{EndsMiss, GoesToPool, cleared, from_pool, outside}
use Rattle.arc_table.proofs.reads.AfterRead.{reads_still}
use Rattle.arc_table.proofs.Afterwards.{does_stays, stays_free, stays_party}
use Rattle.arc_table.proofs.reads.ReadEnds.{miss_arrives, miss_fails}
use Rattle.arc_table.proofs.arcs.Arcs.end_miss.Goals as goal

pub returns-in-Err-clause-answer : goal.returns-in-Err-clause-answer
returns-in-Err-clause-answer g c =
    let m = g.C.Keeps in
    let config = c.args.self.now.config in
    let ptr = c.args.ptr.now in
    let p = c.args.party.now in
    let q = c.fail_read.new.party in
    let e = c.in-Err.ensures in
    let before = outside c.args.pool.now c.args.cache.now in
    let now = outside c.fetch.new.pool c.fetch.new.cache in
    subst (λ (x : ReadFault). EndsMiss m g.P.Pool g.D.CacheDev config ptr c.args.found before now p q (Err x)) (sym c.fault.ensures)
    (miss_fails m g.P.Pool g.D.CacheDev config ptr c.args.found before now p q c.in-Err.why e.device
    record { keeps = record { size = e.size; told = e.told; faults = e.kept; others = e.others }; fails = e.err; counted = e.counted; fault = e.fault; none = e.unread }
    (subst (λ (at : FailedAt). Does m config ptr.key (Fail p.number ptr.key at ∷ []) p q) c.failed_at.ensures c.fail_read.ensures))

pub end_cleared-requires-clause-party : goal.end_cleared-requires-clause-party
end_cleared-requires-clause-party g c κs within =
    let m = g.C.Keeps in
    let valid = c.in-Ok.ensures.config in
    stays_party c.args.self.now c.args.party.now c.arrive_read.new.party (does_stays m c.args.self.now.config valid c.args.ptr.now.key [] c.args.party.now c.arrive_read.new.party c.requires.party.config c.in-None.ensures.cleared.1.does) c.requires.party

pub end_cleared-requires-clause-look : goal.end_cleared-requires-clause-look
end_cleared-requires-clause-look g c κs within =
    let m = g.C.Keeps in
    let valid = c.in-Ok.ensures.config in
    stays_free c.args.self.now c.args.party.now c.arrive_read.new.party (does_stays m c.args.self.now.config valid c.args.ptr.now.key [] c.args.party.now c.arrive_read.new.party c.requires.party.config c.in-None.ensures.cleared.1.does) c.requires.look

pub end_cleared-requires-clause-reading : goal.end_cleared-requires-clause-reading
end_cleared-requires-clause-reading g c κs within =
    let m = g.C.Keeps in
    let valid = c.in-Ok.ensures.config in
    reads_still m c.args.self.now.config valid c.args.ptr.now.key c.args.party.now c.arrive_read.new.party c.requires.party.config c.in-None.ensures.cleared.1.does c.args.ptr.now.key c.requires.reading

pub returns-in-Some-clause-answer : goal.returns-in-Some-clause-answer
returns-in-Some-clause-answer g c =
    let m = g.C.Keeps in
    let e = c.in-Ok.ensures in
    let f = c.in-Ok.fetched in
    miss_arrives m g.P.Pool g.D.CacheDev c.args.self.now.config c.args.ptr.now c.args.found (outside c.args.pool.now c.args.cache.now) (outside c.fetch.new.pool c.fetch.new.cache) c.args.party.now c.arrive_read.new.party
    c.in-Some.hold f.block.value f.from c.served_from-from.result c.served_from-from.ensures c.in-Some.ensures.block record { size = e.size; told = e.told; faults = e.kept; others = e.others } e.ok e.fault e.device e.unread
    c.in-Some.ensures.arrived c.in-Some.ensures.hold

pub returns-in-None-clause-answer : goal.returns-in-None-clause-answer
returns-in-None-clause-answer g c =
    let m = g.C.Keeps in
    let back = c.arrive_read.new.party in
    let gone = c.in-None.ensures.cleared in
    let f = c.in-Ok.fetched in
    let came = subst (λ (o : Origin). ServesOrNot g.D.CacheDev c.args.ptr.now c.args.found o f.block.value c.args.cache.now c.fetch.new.cache) gone.0 c.in-Ok.ensures.device in
    from_pool back (cleared f.block.value came gone.1)
    (subst (λ (x : g.row.P.Denot). GoesToPool m g.P.Pool c.args.self.now.config c.args.ptr.now x c.end_cleared.new.pool back c.end_cleared.new.party c.end_cleared.result) (c.in-Ok.ensures.unread gone.0) c.end_cleared.ensures.answer)
