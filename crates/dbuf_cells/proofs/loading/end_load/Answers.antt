use Rattle.std.proofs.Common.{ap, ◌∙◌}
use Rattle.arc_table.specs.declared.view.Ledger.{Ledger}
use Rattle.dbuf_cells.proofs.Bringings.{read-still}
use Rattle.dbuf_cells.proofs.EndLoads.{brought-old, ends-kept, ends-unkept, no-look, some-old, unread-given, unread-may-give, unread-read}
use Rattle.dbuf_cells.proofs.loading.end_load.Goals as goal

pub keep_read-requires-clause-taken : goal.keep_read-requires-clause-taken
keep_read-requires-clause-taken g c =
    let k = c.retake-cell in
    some-old c.args.arcs.now c.args.i c.args.at c.args.ptr.now c.args.read c.args.party.now k.result k.new.party c.deref_mut.result.now c.deref_mut.ensures.value k.ensures.begins k.ensures.reading k.ensures.claimed

pub keep_read-requires-clause-reading : goal.keep_read-requires-clause-reading
keep_read-requires-clause-reading g c =
    let k = c.retake-cell in
    brought-old c.args.arcs.now c.args.i c.args.at c.args.ptr.now c.args.read c.args.party.now k.result k.new.party c.deref_mut.result.now c.deref_mut.ensures.value k.ensures.begins k.ensures.reading k.ensures.claimed

pub keep_read-requires-clause-read : goal.keep_read-requires-clause-read
keep_read-requires-clause-read g c =
    let k = c.retake-cell in
    read-still c.args.ptr.now c.args.party.now k.new.party c.args.read k.ensures.begins.hand.party.number (ap (λ (l : Ledger). l.holds) k.ensures.ledger) c.requires.read

pub give-requires : goal.give-requires
give-requires g c =
    let k = c.retake-cell in
    unread-may-give c.args.arcs.now c.args.i c.args.at c.args.ptr.now c.args.read c.args.party.now k.result k.new.party c.deref_mut.result.now c.deref_mut.ensures.value k.ensures.begins k.ensures.reading k.ensures.claimed
    c.in-Err.read c.keep_read.new.cell c.keep_read.new.party c.in-Err.ensures.err

pub drop_read-requires-clause-party : goal.drop_read-requires-clause-party
drop_read-requires-clause-party g c =
    let k = c.retake-cell in
    (unread-given c.args.arcs.now c.args.i c.args.at c.args.ptr.now c.args.read c.args.party.now k.result k.new.party c.deref_mut.result.now c.deref_mut.ensures.value k.ensures.begins k.ensures.reading k.ensures.claimed
    c.in-Err.read c.keep_read.new.cell c.keep_read.new.party c.in-Err.ensures.err c.give.new.party c.give.ensures.gives).party

pub drop_read-requires-clause-look : goal.drop_read-requires-clause-look
drop_read-requires-clause-look g c =
    let k = c.retake-cell in
    no-look c.args.arcs.now c.give.new.party
    ((unread-given c.args.arcs.now c.args.i c.args.at c.args.ptr.now c.args.read c.args.party.now k.result k.new.party c.deref_mut.result.now c.deref_mut.ensures.value k.ensures.begins k.ensures.reading k.ensures.claimed
    c.in-Err.read c.keep_read.new.cell c.keep_read.new.party c.in-Err.ensures.err c.give.new.party c.give.ensures.gives).held ∙ c.requires.free)

pub drop_read-requires-clause-read : goal.drop_read-requires-clause-read
drop_read-requires-clause-read g c =
    let k = c.retake-cell in
    unread-read c.args.arcs.now c.args.i c.args.at c.args.ptr.now c.args.read c.args.party.now k.result k.new.party c.deref_mut.result.now c.deref_mut.ensures.value k.ensures.begins k.ensures.reading k.ensures.claimed
    c.in-Err.read c.keep_read.new.cell c.keep_read.new.party c.in-Err.ensures.err c.give.new.party c.give.ensures.gives c.give.ensures.owned

pub returns-in-Ok : goal.returns-in-Ok
returns-in-Ok g c =
    let k = c.retake-cell in
    ends-kept c.args.arcs.now c.args.i c.args.at c.args.ptr.now c.args.read c.args.party.now k.result k.new.party c.deref_mut.result.now c.deref_mut.ensures.value k.ensures.begins k.ensures.reading k.ensures.claimed
    _ c.keep_read.new.party c.in-Ok.ensures.ok c.keep_read.ensures.unclaimed c.in-Ok.ensures.held

pub returns-in-Err : goal.returns-in-Err
returns-in-Err g c =
    let k = c.retake-cell in
    ends-unkept c.args.arcs.now c.args.i c.args.at c.args.ptr.now c.args.read c.args.party.now k.result k.new.party c.deref_mut.result.now c.deref_mut.ensures.value k.ensures.begins k.ensures.reading k.ensures.claimed
    c.in-Err.read c.keep_read.new.cell c.keep_read.new.party c.in-Err.ensures.err c.give.new.party c.give.ensures.gives c.give.ensures.once c.give.ensures.claims c.keep_read.ensures.unclaimed c.drop_read.new.party c.drop_read.ensures
