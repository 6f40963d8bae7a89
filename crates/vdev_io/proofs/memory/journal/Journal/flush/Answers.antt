-- The flush stands behind the other calls.
use Rattle.std.proofs.Common.{◌≡◌, [], ◌∷◌, ◌++◌, arith}
use Rattle.std.proofs.lemmas.Grind.{common_steps}
use Rattle.vdev_io.specs.declared.memory.journal.Recorded.TheVariants.{Flushed}
use Rattle.vdev_io.proofs.JournalLemmas.{recorded_len-push, recorded-flush}
use Rattle.vdev_io.proofs.memory.journal.Journal.flush.Goals as goal

pub invariant_of-self : goal.invariant_of-self
invariant_of-self c =
    let calls : c.push.new.self.items ≡ c.self.inside.calls.items ++ Flushed ∷ [] = grind (arith, common_steps) in
    let len = recorded_len-push c.self.inside.calls.items Flushed in
    grind (arith, common_steps, calls, len)

pub returns : goal.returns
returns c =
    let calls : c.push.new.self.items ≡ c.self.inside.calls.items ++ Flushed ∷ [] = grind (arith, common_steps) in
    let recorded = recorded-flush c.self.inside.calls.items c.self.inside.bytes.items in
    grind (arith, common_steps, calls, recorded)
