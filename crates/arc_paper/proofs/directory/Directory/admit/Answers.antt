use Rattle.std.proofs.Common.{◌≡◌, ◌<◌, refl, sym, subst}
use Rattle.arc_paper.specs.Directory.{Lists, copies, count_of}
use Rattle.arc_paper.specs.Indexed.{IsIndex, with_node}
use Rattle.arc_paper.specs.declared.queue.Queue.TheVariants.{T1}
use Rattle.arc_paper.specs.declared.queues.Queues.{Queues}
use Rattle.arc_paper.proofs.Indexing.{IsIndex-added}
use Rattle.arc_paper.proofs.Roomy.{IsRoomy-admitted, no-key, spare-t1}
use Rattle.arc_paper.proofs.directory.Directory.admit.Goals as goal

pub push_head-at-requires : goal.push_head-at-requires
push_head-at-requires c = spare-t1 c.self.inside c.self.invariant (subst (λ (l : Lists). count_of l < l.room) (sym c.self.view_is) c.requires.room)

pub insert-requires-clause-absent : goal.insert-requires-clause-absent
insert-requires-clause-absent c = no-key c.self.inside c.args.x c.self.invariant (subst (λ (l : Lists). copies c.args.x l ≡ 0) (sym c.self.view_is) c.requires.absent)

pub invariant_of-self : goal.invariant_of-self
invariant_of-self c =
    let come : c.push_head-at.new.self ≡ with_node T1 c.push_head-at.result c.args.x c.self.inside.queues = c.push_head-at.ensures.links in
    IsRoomy-admitted c.self.inside _ c.push_head-at.result c.args.x c.self.invariant refl come
    (subst (λ (q : Queues). IsIndex q c.insert.new.self.rows) (sym come)
    (IsIndex-added c.self.inside.queues c.self.inside.table.rows c.insert.new.self.rows T1 c.push_head-at.result c.args.x c.self.invariant.index
    c.push_head-at.ensures.free c.insert.ensures.rows c.insert.ensures.apart))
    c.insert.ensures.spare
    (subst (λ (l : Lists). copies c.args.x l ≡ 0) (sym c.self.view_is) c.requires.absent)
    (subst (λ (l : Lists). count_of l < l.room) (sym c.self.view_is) c.requires.room)
