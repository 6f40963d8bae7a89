use Rattle.std.proofs.Common.{ap, ◌∙◌}
use Rattle.turn_table.specs.Places.{Place, took, saw}
use Rattle.turn_examples.specs.declared.histories.Writer.{Writer}
use Rattle.turn_table.specs.Histories.{put}
use Rattle.turn_examples.specs.Histories.{Kept, writer}
use Rattle.turn_examples.proofs.Tries.{loses_none}
use Rattle.turn_examples.proofs.histories.take_log.Goals as goal

pub returns : goal.returns
returns g c =
    let t = c.take.ensures in
    t.4 ∙ ap (λ (p : Place Writer). took c.args.party.now 0 (writer (put 0 c.take.result p.own.seen) p.own.mine)) (loses_none Kept 0 t.0 c.args.party.now (saw c.args.party.now t.1) t.2)
