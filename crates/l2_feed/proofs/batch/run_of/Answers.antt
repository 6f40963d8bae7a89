use Rattle.l2_feed.proofs.Lists.{take_min}
use Rattle.l2_feed.specs.Runs.{most}
use Rattle.std.proofs.Common.{ap, take, ◌∙◌}
use Rattle.l2_feed.proofs.batch.run_of.Goals as goal

pub returns : goal.returns
returns c = ap (λ n. take n c.args.left.now) c.min.ensures ∙ take_min most c.args.left.now
