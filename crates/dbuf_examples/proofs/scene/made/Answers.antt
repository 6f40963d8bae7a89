use Rattle.std.proofs.Common.{◌+◌, sym, ap, ◌∙◌, subst}
use Rattle.arc_core.specs.declared.config.Config.{Config}
use Rattle.arc_table.specs.Cache.{Cache, IsCache}
use Rattle.arc_examples.proofs.Newcomers.{all-new, count-new}
use Rattle.dbuf_examples.proofs.Fresh.{all-fresh}
use Rattle.dbuf_examples.proofs.scene.made.Goals as goal

pub new-requires-clause-cells : goal.new-requires-clause-cells
new-requires-clause-cells c = all-fresh c.args.config.now c.in_ok-cells.cells.items c.in_ok-cells.ensures.count c.in_ok-cells.ensures.mapped

pub returns-clause-parties : goal.returns-clause-parties
returns-clause-parties c = all-new c.in_ok-arcs.arcs (subst (λ (x : Cache). IsCache x.row x.config) c.arcs.view_is c.arcs.invariant) _ c.in_ok-arcs.parties.items (sym c.in_ok-arcs.ensures.config) c.in_ok-arcs.ensures.parties

pub returns-clause-count : goal.returns-clause-count
returns-clause-count c = count-new c.in_ok-arcs.arcs _ c.in_ok-arcs.parties.items c.in_ok-arcs.ensures.parties ∙ ap (λ (g : Config). g.callers + 1) c.in_ok-arcs.ensures.config
