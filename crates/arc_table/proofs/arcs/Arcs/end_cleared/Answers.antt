use Rattle.std.proofs.Common.{[], ◌∷◌, subst}
use Rattle.arc_core.specs.declared.event.Event.TheVariants.{Arrive}
use Rattle.arc_core.specs.declared.event.Origin.{Origin}
use Rattle.arc_table.specs.Both.{Does}
use Rattle.arc_table.specs.Reading.{read}
use Rattle.arc_table.proofs.reads.ReadEnds.{gives_block}
use Rattle.arc_table.proofs.arcs.Arcs.end_cleared.Goals as goal

pub returns-in-Some-clause-answer : goal.returns-in-Some-clause-answer
returns-in-Some-clause-answer g c =
    let m = g.C.Keeps in
    let ptr = c.args.ptr.now in
    let p = c.args.party.now in
    let f = c.in-Ok.ensures in
    read (
      subst (λ (from : Origin). Does m c.args.self.now.config ptr.key (Arrive p.number ptr.key ptr.digest from ∷ []) p c.arrive_read.new.party) f.from c.in-Some.ensures.arrived,
      c.in-Some.ensures.hold,
      gives_block g.P.Pool ptr c.args.pool.now c.fetch_pool.new.pool c.in-Some.hold.block.value c.in-Ok.fetched.block.value record { size = f.size; told = f.told; faults = f.kept; others = f.others } f.ok f.fault c.in-Some.ensures.block,
    )
