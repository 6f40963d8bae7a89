use Rattle.std.proofs.Common.{subst}
use Rattle.arc_table.specs.Inserting.{AnswersInsert}
use Rattle.dbuf_cells.specs.Turns.{dbuf_meanings}
use Rattle.txg_sync.proofs.Kept.{held-keeps, loose-keeps}
use Rattle.txg_sync.proofs.write.keep.Goals as goal

pub returns-in-Held-clause-ok : goal.returns-in-Held-clause-ok
returns-in-Held-clause-ok g c = λ x cell bytes key sealed. held-keeps c.args.arcs.now.config c.args.tick x c.args.party.now c.insert.new.party c.args.i c.args.key c.args.block.value c.args.shared.value c.in-Held.hold cell bytes key sealed c.requires.same (subst (AnswersInsert dbuf_meanings c.args.arcs.now.config c.args.i c.args.key c.args.shared.value c.args.tick c.args.party.now c.insert.new.party) c.in-Held.is c.in_ok-hold.ensures.ok)

pub returns-in-There-clause-ok : goal.returns-in-There-clause-ok
returns-in-There-clause-ok g c = λ x cell bytes key sealed. loose-keeps c.args.arcs.now.config c.args.tick x c.args.party.now c.insert.new.party c.args.i c.args.key c.args.block.value c.args.shared.value c.in-There.field-0 bytes key (subst (AnswersInsert dbuf_meanings c.args.arcs.now.config c.args.i c.args.key c.args.shared.value c.args.tick c.args.party.now c.insert.new.party) c.in-There.is c.in_ok-hold.ensures.ok)
