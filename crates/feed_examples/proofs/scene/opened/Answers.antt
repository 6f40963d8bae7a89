use Rattle.std.proofs.Common.{ap, arith}
use Rattle.arc_core.specs.declared.config.Config.{Config}
use Rattle.l2_ring.specs.Ring.{RingState}
use Rattle.feed_examples.proofs.scene.opened.Goals as goal

pub returns : goal.returns
returns g c =
    let start = c.in-Ready.ensures in
    record {
      parties = c.in_ok-arcs.ensures;
      device = record {
        pending = start.opened.pending;
        whole = (let ends = start.opened.ends in let size = start.read.size in omega arith);
        half = (let test = c.if-config-room.false in let config = ap (λ (x : Config). x.bounds.write_max) c.config.ensures in let room = c.saturating_sub-room.ensures in let end = c.end.ensures.end in
            let ring = ap (λ (x : RingState). x.end) c.ring.ensures.ring in omega arith);
      };
    }
