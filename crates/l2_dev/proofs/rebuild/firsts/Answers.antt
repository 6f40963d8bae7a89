use Rattle.std.proofs.Common.{◌<◌, ◌++◌, ◌∷◌, [], List, Vec, Global, None, get_or, length, ap, sym, ◌∙◌, arith}
use Rattle.l2_ring.specs.declared.live.Written.{Written}
use Rattle.l2_dev.proofs.Firsts.{keys_turn, first_turn, other_turn, is_fresh, is_met}
use Rattle.l2_dev.proofs.rebuild.firsts.Goals as goal
use Rattle.l2_dev.proofs.rebuild.firsts.Goals.{then-branch+in_ok-push, else-branch}

-- what stands past the end of a list
none : Written
none = record { live = record { key = record { offset = 0; size = 0; birth = 0 }; place = 0; digest = None }; lap = 0 }

pub loop-written-preserved : goal.loop-written-preserved
unfolding none
loop-written-preserved c =
    let inv = c.loop-written.invariant in
    let said = c.in_ok-insert.ensures in
    let lt : c.loop-written.written-index < length c.args.found.now = omega (arith, c.loop-written-test.true) in
    let w0 : Written = get_or c.args.found.now c.loop-written.written-index none in
    let keys = keys_turn c.args.found.now c.loop-written.written-index none c.loop-written.keys c.insert.new.self lt inv.keys said.updates.0 in
    elim c.if-branch.branch [
      | then-branch+in_ok-push w ↦ record {
        keys = keys;
        first = ap (λ (v : Vec Written Global). v.items) w.first-is ∙ w.in_ok-push.ensures.items ∙ ap (λ (ws : List Written). ws ++ w0 ∷ []) inv.first
            ∙ sym (first_turn c.args.found.now c.loop-written.written-index none lt (sym (inv.keys w0.live.key) ∙ is_fresh _ _ said.added w.if-branch.true));
      }
      | else-branch w ↦ record {
        keys = keys;
        first = ap (λ (v : Vec Written Global). v.items) w.first-is ∙ inv.first
            ∙ sym (other_turn c.args.found.now c.loop-written.written-index none lt (sym (inv.keys w0.live.key) ∙ is_met _ _ said.added w.if-branch.false));
      }
    ]
