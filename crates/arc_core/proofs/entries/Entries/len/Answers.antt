use Rattle.std.proofs.Common.{sym, ◌∙◌}
use Rattle.std.proofs.lemmas.List.{length-map}
use Rattle.arc_core.specs.seats.Seats.{entry_in}
use Rattle.arc_core.proofs.entries.Entries.len.Goals as goal

pub returns : goal.returns
returns c = rw (← c.self.view_is) (c.len.ensures ∙ sym (length-map c.self.inside.rows.seats entry_in))
