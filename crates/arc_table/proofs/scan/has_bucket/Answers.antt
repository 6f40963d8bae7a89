use Rattle.std.proofs.Common.{◌≡◌, List, IsTrue, sym, ap, ◌∙◌, subst}
use Rattle.std.specs.Prelude.{is_some}
use Rattle.arc_table.specs.declared.in_hand.Taken.{Taken}
use Rattle.arc_table.specs.scans.Sparing.{turn_place}
use Rattle.arc_table.proofs.scans.Spares.{hand_has, hand_lacks}
use Rattle.arc_table.proofs.scan.has_bucket.Goals as goal

pub returns-else-hand-turn-clause-yes : goal.returns-else-hand-turn-clause-yes
returns-else-hand-turn-clause-yes c h =
    let ts : List Taken = c.args.hand.now.victims.items in
    let found : c.is_some.result ≡ is_some (turn_place c.args.turn ts) = c.is_some.ensures ∙ ap is_some (c.place_of.ensures ∙ ap (turn_place c.args.turn) c.deref.ensures.value) in
    hand_has c.args.turn (c.args.hand.now.own.turn, c.args.hand.now.own.bucket) ts c.if-hand-turn.false (subst IsTrue found h)

pub returns-else-hand-turn-clause-no : goal.returns-else-hand-turn-clause-no
returns-else-hand-turn-clause-no c h =
    let ts : List Taken = c.args.hand.now.victims.items in
    let found : c.is_some.result ≡ is_some (turn_place c.args.turn ts) = c.is_some.ensures ∙ ap is_some (c.place_of.ensures ∙ ap (turn_place c.args.turn) c.deref.ensures.value) in
    hand_lacks c.args.turn (c.args.hand.now.own.turn, c.args.hand.now.own.bucket) ts c.if-hand-turn.false (sym found ∙ h)
