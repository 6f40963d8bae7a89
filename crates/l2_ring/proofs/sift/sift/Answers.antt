use Rattle.std.proofs.Common.{◌<◌, ◌+◌, length, arith, sym, ◌∙◌}
use Rattle.std.proofs.lemmas.List.{get_or_default}
use Rattle.std.proofs.lemmas.List.Filters.{FiltersInPlace-more_set, FiltersInPlace-more_no}
use Rattle.l2_ring.specs.Stays.{falls}
use Rattle.l2_ring.proofs.Rows.{count_one, count_same, front_count}
use Rattle.l2_ring.proofs.Sifted.{unreached, fallen_same, fallen_more}
use Rattle.l2_ring.proofs.sift.sift.Goals as goal
use Rattle.l2_ring.proofs.sift.sift.Goals.{then-stays, else-stays}

pub loop-i-preserved : goal.loop-i-preserved
loop-i-preserved c =
    let inv = c.loop-i.invariant in
    let was : c.loop-i.i < length c.loop-i.live = omega (arith, inv.kept.long) in
    let lt : c.loop-i.i < length c.args.live.now = omega (arith, inv.kept.long) in
    elim c.if-stays.branch [
      | then-stays w ↦ rw (w.live-is, w.kept-is, w.dropped-is) record {
        kept = FiltersInPlace-more_set inv.kept was (sym c.stays.ensures ∙ w.if-stays.true) (get_or_default c.loop-i.live c.loop-i.i _ _ was);
        dropped = fallen_same c.args.plan c.args.live.now c.args.dropped.now.items c.loop-i.dropped.items c.loop-i.i _ _ lt
            (sym (unreached c.args.live.now c.loop-i.live c.loop-i.i _ inv.kept.rest)) (sym c.stays.ensures ∙ w.if-stays.true) inv.dropped;
        room = omega (
          arith,
          inv.room,
          count_same c.args.plan c.args.live.now c.loop-i.i _ _ lt (sym (unreached c.args.live.now c.loop-i.live c.loop-i.i _ inv.kept.rest)) (sym c.stays.ensures ∙ w.if-stays.true),
        );
      }
      | else-stays w ↦ rw (w.live-is, w.kept-is, w.dropped-is) record {
        kept = FiltersInPlace-more_no inv.kept was (sym c.stays.ensures ∙ w.if-stays.false) (get_or_default c.loop-i.live c.loop-i.i _ _ was);
        dropped = fallen_more c.args.plan c.args.live.now c.args.dropped.now.items c.loop-i.dropped.items w.push.new.dropped.items c.loop-i.i _ _ lt
            (sym (unreached c.args.live.now c.loop-i.live c.loop-i.i _ inv.kept.rest)) (sym c.stays.ensures ∙ w.if-stays.false) inv.dropped w.push.ensures.items;
        room = omega (
          arith,
          inv.room,
          w.push.ensures.len,
          w.push.ensures.capacity,
          count_one c.args.plan c.args.live.now c.loop-i.i _ _ lt (sym (unreached c.args.live.now c.loop-i.live c.loop-i.i _ inv.kept.rest)) (sym c.stays.ensures ∙ w.if-stays.false),
        );
      }
    ]

pub push-requires : goal.push-requires
push-requires c =
    let inv = c.loop-i.invariant in
    let lt : c.loop-i.i < length c.args.live.now = omega (arith, inv.kept.long) in
    omega (
      arith,
      inv.room,
      front_count (falls c.args.plan) c.args.live.now (c.loop-i.i + 1),
      count_one c.args.plan c.args.live.now c.loop-i.i _ _ lt (sym (unreached c.args.live.now c.loop-i.live c.loop-i.i _ inv.kept.rest)) (sym c.stays.ensures ∙ c.if-stays.false),
    )
