-- Sector by sector, the image becomes the one that the flags say.
use Rattle.std.proofs.Common.{◌≡◌, ◌+◌, ◌*◌, ◌≤◌, ◌∙◌, inr, length, arith}
use Rattle.std.proofs.lemmas.Grind.{common_steps}
use Rattle.vdev_io.specs.SectorDisk.{is_new, written_before}
use Rattle.vdev_io.proofs.SettleLemmas.{new_unwritten, new_written, next_written, next_unwritten, done_more, done_all}
use Rattle.vdev_io.proofs.memory.sectors.put_back.Goals as goal
use Rattle.vdev_io.proofs.memory.sectors.put_back.Goals.{then-not-is_written, else-not-is_written, then-is_written, else-is_written}

pub loop-k-preserved : goal.loop-k-preserved
loop-k-preserved c =
    let written = c.has_written-is_written.ensures in
    let flags = c.loop-k.invariant.flags in
    let new : c.if-not-is_written.is_new ≡ is_new c.args.journal.now.calls c.args.kept.now c.loop-k.k =
    elim c.if-not-is_written.branch [
      | then-not-is_written w ↦ let u = new_unwritten c.args.journal.now.calls c.args.kept.now c.loop-k.k in grind (arith, common_steps, u, written)
      | else-not-is_written w ↦ let u = new_written c.args.journal.now.calls c.args.kept.now c.loop-k.k in grind (arith, common_steps, u, written, flags)
    ] in
    let count : c.if-is_written.flags ≡ written_before c.args.journal.now.calls (c.loop-k.k + 1) =
    elim c.if-is_written.branch [
      | then-is_written w ↦ let u = next_written c.args.journal.now.calls c.loop-k.k in grind (arith, common_steps, u, written, flags)
      | else-is_written w ↦ let u = next_unwritten c.args.journal.now.calls c.loop-k.k in grind (arith, common_steps, u, written, flags)
    ] in
    let few : c.if-is_written.flags ≤ c.loop-k.k + 1 =
    elim c.if-is_written.branch [ then-is_written w ↦ omega (arith, w.flags-is) | else-is_written w ↦ omega (arith, w.flags-is) ] in
    record {
      flags = count;
      few = few;
      len = c.settle.ensures.len ∙ c.loop-k.invariant.len;
      done = done_more c.args.journal.now.calls c.args.kept.now c.loop-k.k c.if-not-is_written.is_new c.settle.new.now.items c.loop-k.now.items c.args.now.now.items c.args.flushed.now
          new c.loop-k.invariant.done c.loop-k.invariant.rest c.settle.ensures.sector c.settle.ensures.others;
      rest = λ i ge. c.settle.ensures.others i (inr ge) ∙ c.loop-k.invariant.rest i (omega arith);
    }

pub returns : goal.returns
returns c =
    let end : length c.args.now.now.items ≤ c.loop-k.k * 512 = grind (arith, common_steps) in
    record {
      len = c.loop-k.invariant.len;
      sectors = done_all c.args.journal.now.calls c.args.kept.now c.loop-k.k c.loop-k.now.items c.args.now.now.items c.args.flushed.now
          c.loop-k.invariant.len c.requires end c.loop-k.invariant.done;
    }
