-- The call that was recorded stands behind the others, with its bytes.
use Rattle.std.proofs.Common.{◌≡◌, [], ◌∷◌, ◌++◌, length, arith}
use Rattle.std.proofs.lemmas.Grind.{common_steps}
use Rattle.vdev_io.specs.Journal.{recorded_len}
use Rattle.vdev_io.specs.declared.memory.journal.Recorded.TheVariants.{Wrote}
use Rattle.vdev_io.proofs.JournalLemmas.{recorded_len-push, recorded-write}
use Rattle.vdev_io.proofs.memory.journal.Journal.write.Goals as goal

pub invariant_of-self : goal.invariant_of-self
invariant_of-self c =
    let calls : c.push.new.self.items ≡ c.self.inside.calls.items ++ Wrote c.args.at (length c.args.bytes.now) ∷ [] = grind (arith, common_steps) in
    let len = recorded_len-push c.self.inside.calls.items (Wrote c.args.at (length c.args.bytes.now)) in
    grind (arith, common_steps, calls, len)

pub returns : goal.returns
returns c =
    let calls : c.push.new.self.items ≡ c.self.inside.calls.items ++ Wrote c.args.at (length c.args.bytes.now) ∷ [] = grind (arith, common_steps) in
    let bytes : c.extend_from_slice.new.self.items ≡ c.self.inside.bytes.items ++ c.args.bytes.now = grind (arith, common_steps) in
    let same : recorded_len c.self.inside.calls.items ≡ length c.self.inside.bytes.items = grind (arith, common_steps) in
    let recorded = recorded-write c.self.inside.calls.items c.self.inside.bytes.items c.args.at c.args.bytes.now same in
    grind (arith, common_steps, calls, bytes, recorded)
