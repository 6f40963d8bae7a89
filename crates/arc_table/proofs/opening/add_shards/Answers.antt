use Rattle.std.proofs.Common.{◌++◌, ◌∷◌, [], ap, ◌∙◌}
use Rattle.arc_core.specs.ShardLog.{ShardLog}
use Rattle.arc_table.proofs.Begun.{more_logs, shards_more}
use Rattle.arc_table.proofs.opening.add_shards.Goals as goal

pub loop-made-preserved : goal.loop-made-preserved
loop-made-preserved g c =
    let before = c.loop-made.invariant in
    let new = c.new-shard in
    let boxed = c.in_ok-new.field-0 in
    let same = c.in_ok-new.ensures in (
      before.0 ++ boxed ∷ [],
      shards_more c.loop-made.values.items c.args.values.now.items c.push.new.self.items before.0 boxed before.1 c.in_ok-push.ensures.items,
      more_logs c.args.config.now c.loop-made.made before.0 boxed before.2 record {
        now = ap (λ (l : ShardLog). l.now) same ∙ new.ensures.log;
        opening = ap (λ (l : ShardLog). l.opening) same ∙ new.ensures.opening;
        history = ap (λ (l : ShardLog). l.history) same ∙ new.ensures.history;
      },
    )
