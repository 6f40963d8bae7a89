use Rattle.std.proofs.Common.{◌≡◌, true, is_some, refl, sym, ap, subst, ◌∙◌}
use Rattle.key_table.specs.PlainTable.{HasKey}
use Rattle.arc_paper.specs.Arc.{stands_in}
use Rattle.arc_paper.specs.Directory.{Lists, pages_in, promoted}
use Rattle.arc_paper.specs.Indexed.{lists_in}
use Rattle.arc_paper.specs.declared.queue.Queue.TheVariants.{T2}
use Rattle.arc_paper.proofs.Directories.{IsDirectory-promoted}
use Rattle.arc_paper.proofs.Roomy.{IsRoomy-moved, count-promoted, has-key, lists-promoted, spare-removed}
use Rattle.arc_paper.proofs.directory.Directory.promote.Goals as goal

pub move_to-requires-clause-there : goal.move_to-requires-clause-there
move_to-requires-clause-there c = ap is_some (c.self.invariant.index.found c.args.x c.in-Some.spot c.in-Some.ensures.some)

pub move_to-requires-clause-room : goal.move_to-requires-clause-room
move_to-requires-clause-room c =
    spare-removed c.self.inside c.in-Some.spot T2 c.args.x c.self.invariant (c.self.invariant.index.found c.args.x c.in-Some.spot c.in-Some.ensures.some)

pub invariant_of-self : goal.invariant_of-self
invariant_of-self c =
    let here : stands_in (pages_in c.args.from (lists_in c.self.inside)) c.args.x ≡ true =
    subst (λ (l : Lists). stands_in (pages_in c.args.from l) c.args.x ≡ true) (sym c.self.view_is) c.requires in
    IsRoomy-moved c.self.inside _ c.in-Some.spot T2 (promoted c.args.from c.args.x (lists_in c.self.inside)) c.self.invariant c.move_to.ensures.moved c.move_to.ensures.index
    c.move_to.ensures.spare refl (lists-promoted c.self.inside (record { queues = c.move_to.new.queues; table = c.move_to.new.table; room = c.self.inside.room }) c.in-Some.spot c.args.from c.args.x c.self.invariant refl c.move_to.ensures.moved c.in-Some.ensures.some here)
    (IsDirectory-promoted c.args.from c.args.x _ here c.self.invariant.lists)
    (count-promoted c.args.from c.args.x (lists_in c.self.inside) here (c.self.invariant.lists.once c.args.x))

pub returns-in-Some : goal.returns-in-Some
returns-in-Some c =
    let here : stands_in (pages_in c.args.from (lists_in c.self.inside)) c.args.x ≡ true =
    subst (λ (l : Lists). stands_in (pages_in c.args.from l) c.args.x ≡ true) (sym c.self.view_is) c.requires in
    lists-promoted c.self.inside (record { queues = c.move_to.new.queues; table = c.move_to.new.table; room = c.self.inside.room }) c.in-Some.spot c.args.from c.args.x
    c.self.invariant refl c.move_to.ensures.moved c.in-Some.ensures.some here
    ∙ ap (promoted c.args.from c.args.x) c.self.view_is

pub returns-in_default : goal.returns-in_default
returns-in_default c =
    let here : stands_in (pages_in c.args.from (lists_in c.self.inside)) c.args.x ≡ true =
    subst (λ (l : Lists). stands_in (pages_in c.args.from l) c.args.x ≡ true) (sym c.self.view_is) c.requires in
    let none : HasKey c.args.x c.self.inside.table.rows → ⊥ = rw c.in_default.is at c.spot_of.ensures.none in
    absurd (none (has-key c.self.inside c.args.x c.args.from c.self.invariant here))
