use Rattle.std.proofs.Common.{◌≡◌, [], is_some, refl, sym, ap, subst, ◌∙◌}
use Rattle.arc_paper.specs.Directory.{Lists, demoted}
use Rattle.arc_paper.specs.Indexed.{lists_in, spot}
use Rattle.arc_paper.specs.Queues.{nodes_in, pages_of}
use Rattle.arc_paper.specs.declared.queue.Queue.TheVariants.{T1, B1}
use Rattle.arc_paper.proofs.Directories.{IsDirectory-demoted}
use Rattle.arc_paper.proofs.Placing.{last-none, last-some}
use Rattle.arc_paper.proofs.Roomy.{IsRoomy-moved, count-demoted, demoted-empty_t1, lists-demoted_t1, spare-removed}
use Rattle.arc_paper.proofs.directory.Directory.demote_recent.Goals as goal

pub move_to-requires-clause-there : goal.move_to-requires-clause-there
move_to-requires-clause-there c =
    let last = last-some c.in-Some.at (nodes_in T1 c.self.inside.queues) (c.self.invariant.index.places T1) (sym c.in-Some.ensures) in
    ap is_some last.1.there

pub move_to-requires-clause-room : goal.move_to-requires-clause-room
move_to-requires-clause-room c =
    let last = last-some c.in-Some.at (nodes_in T1 c.self.inside.queues) (c.self.invariant.index.places T1) (sym c.in-Some.ensures) in
    spare-removed c.self.inside (spot T1 c.in-Some.at) B1 last.0 c.self.invariant last.1.there

pub invariant_of-self : goal.invariant_of-self
invariant_of-self c =
    let last = last-some c.in-Some.at (nodes_in T1 c.self.inside.queues) (c.self.invariant.index.places T1) (sym c.in-Some.ensures) in
    IsRoomy-moved c.self.inside _ (spot T1 c.in-Some.at) B1 (demoted T1 (lists_in c.self.inside)) c.self.invariant c.move_to.ensures.moved c.move_to.ensures.index
    c.move_to.ensures.spare refl (lists-demoted_t1 c.self.inside (record { queues = c.move_to.new.queues; table = c.move_to.new.table; room = c.self.inside.room }) c.in-Some.at last.0 refl c.move_to.ensures.moved last.1)
    (IsDirectory-demoted T1 _ c.self.invariant.lists) (count-demoted T1 (lists_in c.self.inside))

pub returns-in-Some : goal.returns-in-Some
returns-in-Some c =
    let last = last-some c.in-Some.at (nodes_in T1 c.self.inside.queues) (c.self.invariant.index.places T1) (sym c.in-Some.ensures) in
    lists-demoted_t1 c.self.inside (record { queues = c.move_to.new.queues; table = c.move_to.new.table; room = c.self.inside.room }) c.in-Some.at last.0 refl c.move_to.ensures.moved last.1
    ∙ ap (demoted T1) c.self.view_is

pub returns-in_default : goal.returns-in_default
returns-in_default c =
    let none : nodes_in T1 c.self.inside.queues ≡ [] = last-none _ (sym c.last.ensures ∙ c.in_default.is) in
    subst (λ (l : Lists). l ≡ demoted T1 l) c.self.view_is (sym (demoted-empty_t1 (lists_in c.self.inside) (ap pages_of none)))
