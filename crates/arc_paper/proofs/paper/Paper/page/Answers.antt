use Rattle.std.proofs.Common.{◌≡◌, ℕ, true, false, sym, ◌∙◌, ap, subst, arith}
use Rattle.arc_paper.specs.Arc.{stands_in, step}
use Rattle.arc_paper.specs.Directory.{Lists, admitted, arc_of, copies, promoted}
use Rattle.arc_paper.specs.Stepping.{replaced}
use Rattle.arc_paper.specs.declared.queue.Queue.TheVariants.{B1, B2}
use Rattle.arc_paper.proofs.Keeping.{PaperKeeps-step, cache-step, is_hit-seen}
use Rattle.arc_paper.proofs.Steps.{absent-roomed, hit-t1, hit-t2, miss-b1, miss-b2, miss-new, room-replaced, room-roomed, step-b1, step-b2, step-new, step-t1, step-t2}
use Rattle.arc_paper.proofs.paper.Paper.page.Goals as goal

pub invariant_of-self : goal.invariant_of-self
invariant_of-self c =
    let here : stands_in c.self.inside.directory.t1 c.args.x ≡ true = rw c.in-Some-T1.field-0-is at c.in-Some-T1.ensures in
    PaperKeeps-step c.args.x c.self.inside.p c.promote.new.self c.self.inside c.self.invariant
    (step-t1 c.self.inside.c c.args.x c.self.inside.p c.self.inside.directory c.self.invariant.bounded here ∙ sym (ap (λ (d : Lists). arc_of d c.self.inside.p) c.promote.ensures))
    (ap (λ (d : Lists). d.room) c.promote.ensures)

pub returns-in-Some-T1-clause-moved : goal.returns-in-Some-T1-clause-moved
returns-in-Some-T1-clause-moved c =
    let here : stands_in c.self.inside.directory.t1 c.args.x ≡ true = rw c.in-Some-T1.field-0-is at c.in-Some-T1.ensures in
    cache-step c.args.x c.self.inside.p c.promote.new.self c.self.inside c.args.self.now c.self.view_is
    (step-t1 c.self.inside.c c.args.x c.self.inside.p c.self.inside.directory c.self.invariant.bounded here ∙ sym (ap (λ (d : Lists). arc_of d c.self.inside.p) c.promote.ensures))

pub returns-in-Some-T1-clause-hit : goal.returns-in-Some-T1-clause-hit
returns-in-Some-T1-clause-hit c =
    let here : stands_in c.self.inside.directory.t1 c.args.x ≡ true = rw c.in-Some-T1.field-0-is at c.in-Some-T1.ensures in
    is_hit-seen c.args.x true c.self.inside c.args.self.now c.self.view_is (hit-t1 c.args.x c.self.inside.p c.self.inside.directory here)

pub invariant_of-self-in-Some-T2 : goal.invariant_of-self-in-Some-T2
invariant_of-self-in-Some-T2 c =
    let here : stands_in c.self.inside.directory.t2 c.args.x ≡ true = rw c.in-Some-T2.field-0-is at c.in-Some-T2.ensures in
    PaperKeeps-step c.args.x c.self.inside.p c.promote-in-Some-T2.new.self c.self.inside c.self.invariant
    (step-t2 c.self.inside.c c.args.x c.self.inside.p c.self.inside.directory c.self.invariant.bounded here ∙ sym (ap (λ (d : Lists). arc_of d c.self.inside.p) c.promote-in-Some-T2.ensures))
    (ap (λ (d : Lists). d.room) c.promote-in-Some-T2.ensures)

pub returns-in-Some-T2-clause-moved : goal.returns-in-Some-T2-clause-moved
returns-in-Some-T2-clause-moved c =
    let here : stands_in c.self.inside.directory.t2 c.args.x ≡ true = rw c.in-Some-T2.field-0-is at c.in-Some-T2.ensures in
    cache-step c.args.x c.self.inside.p c.promote-in-Some-T2.new.self c.self.inside c.args.self.now c.self.view_is
    (step-t2 c.self.inside.c c.args.x c.self.inside.p c.self.inside.directory c.self.invariant.bounded here ∙ sym (ap (λ (d : Lists). arc_of d c.self.inside.p) c.promote-in-Some-T2.ensures))

pub returns-in-Some-T2-clause-hit : goal.returns-in-Some-T2-clause-hit
returns-in-Some-T2-clause-hit c =
    let here : stands_in c.self.inside.directory.t2 c.args.x ≡ true = rw c.in-Some-T2.field-0-is at c.in-Some-T2.ensures in
    is_hit-seen c.args.x true c.self.inside c.args.self.now c.self.view_is (hit-t2 c.args.x c.self.inside.p c.self.inside.directory here)

pub invariant_of-self-in-Some-B1 : goal.invariant_of-self-in-Some-B1
invariant_of-self-in-Some-B1 c =
    let here : stands_in c.self.inside.directory.b1 c.args.x ≡ true = rw c.in-Some-B1.field-0-is at c.in-Some-B1.ensures in
    PaperKeeps-step c.args.x c.raised-self-inside.result c.promote-in-Some-B1.new.self c.self.inside c.self.invariant
    (subst (λ (t : ℕ). step c.self.inside.c c.args.x (arc_of c.self.inside.directory c.self.inside.p) ≡ arc_of (promoted B1 c.args.x (replaced false t c.self.inside.directory)) t) (sym c.raised-self-inside.ensures) (step-b1 c.self.inside.c c.args.x c.self.inside.p c.self.inside.directory c.self.invariant.bounded here)
    ∙ ap (λ (d : Lists). arc_of (promoted B1 c.args.x d) c.raised-self-inside.result) (sym c.replace.ensures) ∙ sym (ap (λ (d : Lists). arc_of d c.raised-self-inside.result) c.promote-in-Some-B1.ensures))
    (ap (λ (d : Lists). d.room) c.promote-in-Some-B1.ensures ∙ ap (λ (d : Lists). d.room) c.replace.ensures ∙ room-replaced false c.raised-self-inside.result c.self.inside.directory)

pub returns-in-Some-B1-clause-moved : goal.returns-in-Some-B1-clause-moved
returns-in-Some-B1-clause-moved c =
    let here : stands_in c.self.inside.directory.b1 c.args.x ≡ true = rw c.in-Some-B1.field-0-is at c.in-Some-B1.ensures in
    cache-step c.args.x c.raised-self-inside.result c.promote-in-Some-B1.new.self c.self.inside c.args.self.now c.self.view_is
    (subst (λ (t : ℕ). step c.self.inside.c c.args.x (arc_of c.self.inside.directory c.self.inside.p) ≡ arc_of (promoted B1 c.args.x (replaced false t c.self.inside.directory)) t) (sym c.raised-self-inside.ensures) (step-b1 c.self.inside.c c.args.x c.self.inside.p c.self.inside.directory c.self.invariant.bounded here)
    ∙ ap (λ (d : Lists). arc_of (promoted B1 c.args.x d) c.raised-self-inside.result) (sym c.replace.ensures) ∙ sym (ap (λ (d : Lists). arc_of d c.raised-self-inside.result) c.promote-in-Some-B1.ensures))

pub returns-in-Some-B1-clause-hit : goal.returns-in-Some-B1-clause-hit
returns-in-Some-B1-clause-hit c =
    let here : stands_in c.self.inside.directory.b1 c.args.x ≡ true = rw c.in-Some-B1.field-0-is at c.in-Some-B1.ensures in
    is_hit-seen c.args.x false c.self.inside c.args.self.now c.self.view_is (miss-b1 c.self.inside.c c.args.x c.self.inside.p c.self.inside.directory c.self.invariant.bounded here)

pub invariant_of-self-in-Some-B2 : goal.invariant_of-self-in-Some-B2
invariant_of-self-in-Some-B2 c =
    let here : stands_in c.self.inside.directory.b2 c.args.x ≡ true = rw c.in-Some-B2.field-0-is at c.in-Some-B2.ensures in
    PaperKeeps-step c.args.x c.lowered-self-inside.result c.promote-in-Some-B2.new.self c.self.inside c.self.invariant
    (subst (λ (t : ℕ). step c.self.inside.c c.args.x (arc_of c.self.inside.directory c.self.inside.p) ≡ arc_of (promoted B2 c.args.x (replaced true t c.self.inside.directory)) t) (sym c.lowered-self-inside.ensures) (step-b2 c.self.inside.c c.args.x c.self.inside.p c.self.inside.directory c.self.invariant.bounded here)
    ∙ ap (λ (d : Lists). arc_of (promoted B2 c.args.x d) c.lowered-self-inside.result) (sym c.replace-in-Some-B2.ensures) ∙ sym (ap (λ (d : Lists). arc_of d c.lowered-self-inside.result) c.promote-in-Some-B2.ensures))
    (ap (λ (d : Lists). d.room) c.promote-in-Some-B2.ensures ∙ ap (λ (d : Lists). d.room) c.replace-in-Some-B2.ensures ∙ room-replaced true c.lowered-self-inside.result c.self.inside.directory)

pub returns-in-Some-B2-clause-moved : goal.returns-in-Some-B2-clause-moved
returns-in-Some-B2-clause-moved c =
    let here : stands_in c.self.inside.directory.b2 c.args.x ≡ true = rw c.in-Some-B2.field-0-is at c.in-Some-B2.ensures in
    cache-step c.args.x c.lowered-self-inside.result c.promote-in-Some-B2.new.self c.self.inside c.args.self.now c.self.view_is
    (subst (λ (t : ℕ). step c.self.inside.c c.args.x (arc_of c.self.inside.directory c.self.inside.p) ≡ arc_of (promoted B2 c.args.x (replaced true t c.self.inside.directory)) t) (sym c.lowered-self-inside.ensures) (step-b2 c.self.inside.c c.args.x c.self.inside.p c.self.inside.directory c.self.invariant.bounded here)
    ∙ ap (λ (d : Lists). arc_of (promoted B2 c.args.x d) c.lowered-self-inside.result) (sym c.replace-in-Some-B2.ensures) ∙ sym (ap (λ (d : Lists). arc_of d c.lowered-self-inside.result) c.promote-in-Some-B2.ensures))

pub returns-in-Some-B2-clause-hit : goal.returns-in-Some-B2-clause-hit
returns-in-Some-B2-clause-hit c =
    let here : stands_in c.self.inside.directory.b2 c.args.x ≡ true = rw c.in-Some-B2.field-0-is at c.in-Some-B2.ensures in
    is_hit-seen c.args.x false c.self.inside c.args.self.now c.self.view_is (miss-b2 c.self.inside.c c.args.x c.self.inside.p c.self.inside.directory c.self.invariant.bounded here)

pub invariant_of-self-in-None : goal.invariant_of-self-in-None
invariant_of-self-in-None c =
    PaperKeeps-step c.args.x c.self.inside.p c.admit.new.self c.self.inside c.self.invariant
    (step-new c.self.inside.c c.args.x c.self.inside.p c.self.inside.directory c.in-None.ensures ∙ ap (λ (d : Lists). arc_of (admitted c.args.x d) c.self.inside.p) (sym c.make_room.ensures) ∙ sym (ap (λ (d : Lists). arc_of d c.self.inside.p) c.admit.ensures))
    (ap (λ (d : Lists). d.room) c.admit.ensures ∙ ap (λ (d : Lists). d.room) c.make_room.ensures ∙ room-roomed c.self.inside.c c.self.inside.p c.self.inside.directory)

pub returns-in-None-clause-moved : goal.returns-in-None-clause-moved
returns-in-None-clause-moved c =
    cache-step c.args.x c.self.inside.p c.admit.new.self c.self.inside c.args.self.now c.self.view_is
    (step-new c.self.inside.c c.args.x c.self.inside.p c.self.inside.directory c.in-None.ensures ∙ ap (λ (d : Lists). arc_of (admitted c.args.x d) c.self.inside.p) (sym c.make_room.ensures) ∙ sym (ap (λ (d : Lists). arc_of d c.self.inside.p) c.admit.ensures))

pub returns-in-None-clause-hit : goal.returns-in-None-clause-hit
returns-in-None-clause-hit c = is_hit-seen c.args.x false c.self.inside c.args.self.now c.self.view_is (miss-new c.args.x c.self.inside.p c.self.inside.directory c.in-None.ensures)

pub admit-requires-clause-absent : goal.admit-requires-clause-absent
admit-requires-clause-absent c =
    subst (λ (d : Lists). copies c.args.x d ≡ 0) (sym c.make_room.ensures)
    (absent-roomed c.self.inside.c c.args.x c.self.inside.p c.self.inside.directory (omega (arith, c.self.invariant.capacity.least)) c.self.invariant.bounded c.in-None.ensures)
