use Rattle.std.proofs.Common.{◌∙◌}
use Rattle.std.specs.Prelude.{Ok, Err}
use Rattle.arc_table.specs.Reading.{outside}
use Rattle.dbuf_cells.proofs.Bringings.{back-claims, brought-ends, brought-refused}
use Rattle.dbuf_cells.proofs.EndLoads.{no-look}
use Rattle.dbuf_cells.proofs.PartySteps.{as-given, as-may-give}
use Rattle.dbuf_cells.proofs.ReadLemmas.{read-of}
use Rattle.dbuf_cells.proofs.loading.load.Goals as goal

pub begin_load-requires-clause-hand : goal.begin_load-requires-clause-hand
begin_load-requires-clause-hand g c = let h = c.requires.hand in as-may-give c.args.arcs.now c.args.i h.from c.args.cell c.args.cell.value c.args.party.now h.taken

pub read-requires-clause-party : goal.read-requires-clause-party
read-requires-clause-party g c κs within =
    let h = c.requires.hand in
    (as-given c.args.arcs.now c.args.i h.from c.args.cell c.args.cell.value c.args.party.now h.taken c.begin_load.new.party c.begin_load.ensures.gives).party

pub read-requires-clause-look : goal.read-requires-clause-look
read-requires-clause-look g c κs within =
    let h = c.requires.hand in
    no-look c.args.arcs.now c.begin_load.new.party ((as-given c.args.arcs.now c.args.i h.from c.args.cell c.args.cell.value c.args.party.now h.taken c.begin_load.new.party c.begin_load.ensures.gives).held ∙ h.alone)

pub end_load-requires-clause-free : goal.end_load-requires-clause-free
end_load-requires-clause-free g c =
    let h = c.requires.hand in
    c.in-Ok.ensures.held ∙ ((as-given c.args.arcs.now c.args.i h.from c.args.cell c.args.cell.value c.args.party.now h.taken c.begin_load.new.party c.begin_load.ensures.gives).held ∙ h.alone)

pub end_load-requires-clause-claims : goal.end_load-requires-clause-claims
end_load-requires-clause-claims g c =
    let h = c.requires.hand in
    back-claims g.P.Pool g.D.CacheDev c.args.arcs.now c.args.i c.args.at c.args.tick (outside c.args.pool.now c.args.cache.now) (outside c.read.new.pool c.read.new.cache) c.args.cell h.from c.args.party.now h.taken h.alone
    c.args.ptr c.requires.to_load c.begin_load.new.party c.begin_load.ensures.gives c.begin_load.ensures.claims c.read.new.party (Ok c.in-Ok.read) c.in-Ok.ensures.answer

pub end_load-requires-clause-read : goal.end_load-requires-clause-read
end_load-requires-clause-read g c =
    let h = c.requires.hand in
    let given = as-given c.args.arcs.now c.args.i h.from c.args.cell c.args.cell.value c.args.party.now h.taken c.begin_load.new.party c.begin_load.ensures.gives in
    read-of c.args.arcs.now.config h.taken.hand.party.valid g.P.Pool g.D.CacheDev c.args.ptr c.args.tick (outside c.args.pool.now c.args.cache.now) (outside c.read.new.pool c.read.new.cache) c.begin_load.new.party c.read.new.party c.in-Ok.read
    given.party.config (c.in-Ok.ensures.held ∙ (given.held ∙ h.alone)) c.in-Ok.ensures.answer

pub end_unread-requires-clause-free : goal.end_unread-requires-clause-free
end_unread-requires-clause-free g c =
    let h = c.requires.hand in
    c.in-Err.ensures.held ∙ ((as-given c.args.arcs.now c.args.i h.from c.args.cell c.args.cell.value c.args.party.now h.taken c.begin_load.new.party c.begin_load.ensures.gives).held ∙ h.alone)

pub end_unread-requires-clause-claims : goal.end_unread-requires-clause-claims
end_unread-requires-clause-claims g c =
    let h = c.requires.hand in
    back-claims g.P.Pool g.D.CacheDev c.args.arcs.now c.args.i c.args.at c.args.tick (outside c.args.pool.now c.args.cache.now) (outside c.read.new.pool c.read.new.cache) c.args.cell h.from c.args.party.now h.taken h.alone
    c.args.ptr c.requires.to_load c.begin_load.new.party c.begin_load.ensures.gives c.begin_load.ensures.claims c.read.new.party (Err c.in-Err.fault) c.in-Err.ensures.answer

pub returns-in-Ok-clause-brings : goal.returns-in-Ok-clause-brings
returns-in-Ok-clause-brings g c p taken free mine =
    brought-ends g.P.Pool g.D.CacheDev c.args.arcs.now c.args.i c.args.at c.args.tick (outside c.args.pool.now c.args.cache.now) (outside c.read.new.pool c.read.new.cache) c.args.cell p c.args.party.now taken free
    c.args.ptr c.requires.to_load c.begin_load.new.party c.begin_load.ensures.gives c.begin_load.ensures.claims c.read.new.party c.begin_load.ensures.besides mine c.in-Ok.read c.in-Ok.ensures.answer c.end_load.new.party c.end_load.result c.end_load.ensures

pub returns-in-Err-clause-brings : goal.returns-in-Err-clause-brings
returns-in-Err-clause-brings g c p taken free mine =
    brought-refused g.P.Pool g.D.CacheDev c.args.arcs.now c.args.i c.args.at c.args.tick (outside c.args.pool.now c.args.cache.now) (outside c.read.new.pool c.read.new.cache) c.args.cell p c.args.party.now taken free
    c.args.ptr c.requires.to_load c.begin_load.new.party c.begin_load.ensures.gives c.begin_load.ensures.claims c.read.new.party c.begin_load.ensures.besides mine c.in-Err.fault c.in-Err.ensures.answer c.from.result c.end_unread.new.party c.from.ensures c.end_unread.ensures.turn.0 c.end_unread.ensures.turn.1 c.end_unread.ensures.unmarked c.end_unread.ensures.others
