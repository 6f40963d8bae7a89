use Rattle.std.proofs.Common.{◌≡◌, [], is_some, refl, sym, ap, subst, ◌∙◌}
use Rattle.arc_paper.specs.Directory.{Lists, shortened}
use Rattle.arc_paper.specs.Indexed.{IsIndex, lists_in, spot, without_node}
use Rattle.arc_paper.specs.Queues.{nodes_in, pages_of}
use Rattle.arc_paper.specs.declared.queues.Queues.{Queues}
use Rattle.arc_paper.proofs.Indexing.{IsIndex-removed}
use Rattle.arc_paper.proofs.Placing.{last-none, last-some}
use Rattle.arc_paper.proofs.Roomy.{IsRoomy-shortened, lists-shortened, pages_in-lists, shortened-empty}
use Rattle.arc_paper.proofs.directory.Directory.shorten.Goals as goal

pub remove-x-requires : goal.remove-x-requires
remove-x-requires c =
    let last = last-some c.in-Some.at (nodes_in c.args.queue c.self.inside.queues) (c.self.invariant.index.places c.args.queue) (sym c.in-Some.ensures) in
    ap is_some last.1.there

pub remove-requires : goal.remove-requires
remove-requires c = (spot c.args.queue c.in-Some.at, c.self.invariant.index.listed c.args.queue c.in-Some.at c.remove-x.result c.remove-x.ensures.page)

pub invariant_of-self : goal.invariant_of-self
invariant_of-self c =
    let last = last-some c.in-Some.at (nodes_in c.args.queue c.self.inside.queues) (c.self.invariant.index.places c.args.queue) (sym c.in-Some.ensures) in
    let gone : c.remove-x.new.self ≡ without_node (spot c.args.queue c.in-Some.at) c.self.inside.queues = c.remove-x.ensures.links in
    IsRoomy-shortened c.self.inside _ (spot c.args.queue c.in-Some.at) last.0 c.self.invariant refl gone last.1
    (subst (λ (q : Queues). IsIndex q c.remove.new.self.rows) (sym gone)
    (IsIndex-removed c.self.inside.queues c.self.inside.table.rows c.remove.new.self.rows (spot c.args.queue c.in-Some.at) c.remove-x.result c.self.invariant.index
    c.remove-x.ensures.page c.remove.ensures.rows c.remove.ensures.apart))
    c.remove.ensures.spare

pub returns-in-Some : goal.returns-in-Some
returns-in-Some c =
    let last = last-some c.in-Some.at (nodes_in c.args.queue c.self.inside.queues) (c.self.invariant.index.places c.args.queue) (sym c.in-Some.ensures) in
    let gone : c.remove-x.new.self ≡ without_node (spot c.args.queue c.in-Some.at) c.self.inside.queues = c.remove-x.ensures.links in
    lists-shortened c.self.inside (record { queues = c.remove-x.new.self; table = c.remove.new.self; room = c.self.inside.room }) (spot c.args.queue c.in-Some.at) last.0 refl gone last.1
    ∙ ap (shortened c.args.queue) c.self.view_is

pub returns-in_default : goal.returns-in_default
returns-in_default c =
    let none : nodes_in c.args.queue c.self.inside.queues ≡ [] = last-none _ (sym c.last.ensures ∙ c.in_default.is) in
    subst (λ (l : Lists). l ≡ shortened c.args.queue l) c.self.view_is
    (sym (shortened-empty c.args.queue (lists_in c.self.inside) (pages_in-lists c.args.queue c.self.inside.queues c.self.inside.room ∙ ap pages_of none)))
