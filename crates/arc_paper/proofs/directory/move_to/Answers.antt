use Rattle.std.proofs.Common.{◌≡◌, None, sym, ap, subst, ◌∙◌}
use Rattle.arc_links.specs.PlainLinks.{element_at}
use Rattle.arc_paper.specs.Indexed.{IsIndex, with_node, without_node}
use Rattle.arc_paper.specs.Queues.{nodes_in}
use Rattle.arc_paper.specs.declared.queues.Queues.{Queues}
use Rattle.arc_paper.proofs.Indexing.{IsIndex-moved}
use Rattle.arc_paper.proofs.directory.move_to.Goals as goal

pub set-requires : goal.set-requires
set-requires c = (c.args.spot, c.requires.index.listed c.args.spot.queue c.args.spot.at c.remove-x.result c.remove-x.ensures.page)

pub returns-clause-index : goal.returns-clause-index
returns-clause-index c =
    let gone : c.remove-x.new.self ≡ without_node c.args.spot c.args.queues.now = c.remove-x.ensures.links in
    let come : c.push_head-at.new.self ≡ with_node c.args.to c.push_head-at.result c.remove-x.result (without_node c.args.spot c.args.queues.now) =
    c.push_head-at.ensures.links ∙ ap (with_node c.args.to c.push_head-at.result c.remove-x.result) gone in
    let free = subst (λ (q : Queues). element_at c.push_head-at.result (nodes_in c.args.to q) ≡ None) gone c.push_head-at.ensures.free in
    subst (λ (q : Queues). IsIndex q c.set.new.self.rows) (sym come)
    (IsIndex-moved c.args.queues.now c.args.table.now.rows c.set.new.self.rows c.args.spot c.args.to c.push_head-at.result c.remove-x.result c.requires.index
    c.remove-x.ensures.page free c.set.ensures.rows c.set.ensures.apart)
