use Rattle.std.proofs.Common.{sym}
use Rattle.arc_core.proofs.EntryRows.{entry-at, entry-nowhere}
use Rattle.arc_core.proofs.entries.Entries.find.Goals as goal

pub returns-in-Some : goal.returns-in-Some
returns-in-Some c = rw (← c.self.view_is) (sym (entry-at c.self.inside.rows.seats c.args.key c.in-Some.linked.now c.self.invariant.keyed c.in-Some.ensures.some))

pub returns-in-None : goal.returns-in-None
returns-in-None c = rw (← c.self.view_is) (sym (entry-nowhere c.self.inside.rows.seats c.args.key c.in-None.ensures.none))
