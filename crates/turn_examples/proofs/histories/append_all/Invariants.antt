use Rattle.std.proofs.Common.{◌≡◌, length, take}
use Rattle.turn_table.specs.Places.{saw}
use Rattle.turn_examples.specs.Histories.{spots_at}
use Rattle.turn_examples.proofs.histories.append_all.Given as goal

abbrev pub invariant-loop-entry : goal.invariant-loop-entry
invariant-loop-entry g l = (l.party ≡ saw l.fn.party l.party.own) × (l.party.own.mine ≡ spots_at l.places.items (take l.entry-index l.entries)) × (length l.places.items ≡ l.entry-index)
