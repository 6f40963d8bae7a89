-- The lengths of the calls tell which sectors were written.
use Rattle.std.proofs.Common.{◌≡◌, ◌∙◌, ap, false, length, arith}
use Rattle.std.specs.Prelude.{fold}
use Rattle.std.proofs.lemmas.Grind.{common_steps}
use Rattle.vdev_io.specs.Journal.{recorded_len, touched_after}
use Rattle.vdev_io.specs.SectorDisk.{is_written}
use Rattle.vdev_io.proofs.JournalLemmas.{touched-written}
use Rattle.vdev_io.proofs.memory.journal.Journal.has_written.Goals as goal

pub returns : goal.returns
returns c =
    let same : recorded_len c.self.inside.calls.items ≡ length c.self.inside.bytes.items = grind (arith, common_steps) in
    let written = touched-written c.args.k false c.self.inside.calls.items c.self.inside.bytes.items same in
    c.is_touched.ensures ∙ ap (λ calls. fold (touched_after c.args.start) false calls) c.deref.ensures.value
    ∙ ap (λ start. fold (touched_after start) false c.self.inside.calls.items) c.requires ∙ written
    ∙ ap (λ recording. is_written recording.calls c.args.k) c.self.view_is
