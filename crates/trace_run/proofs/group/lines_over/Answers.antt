use Rattle.std.proofs.Common.{Option, map, refl, sym, subst}
use Rattle.std.specs.Prelude.{IfOk, filter}
use Rattle.arc_table.specs.Reading.{outside}
use Rattle.trace_run.specs.callers.CallerLines.{at}
use Rattle.trace_run.specs.callers.Callers.{CameTo}
use Rattle.trace_run.specs.callers.WorkLines.{at_work}
use Rattle.trace_run.specs.KeptBlocks.{read_of}
use Rattle.trace_run.specs.Lines.{is_of_caller}
use Rattle.trace_run.proofs.WorkLemmas.{came-over, came-without}
use Rattle.trace_run.proofs.group.lines_over.Goals as goal

pub returns-in-Some-clause-did : goal.returns-in-Some-clause-did
returns-in-Some-clause-did g c =
    rw c.in-Some.is
    (came-over g.P.Pool g.D.CacheDev c.args.arcs.now.config c.args.blocks.now c.requires.stands.valid c.args.ops.now (at_work c.args.party.now (map read_of c.args.kept.now) (outside c.args.pool.now c.in-Some.device))
    (at_work c.all_lines.new.party (map read_of c.all_lines.new.kept) (outside c.all_lines.new.pool c.all_lines.new.device)) c.all_lines.result c.all_lines.ensures.did)

-- with no device
pub returns-in-None-clause-did : goal.returns-in-None-clause-did
returns-in-None-clause-did g c =
    subst
    (λ (o : Option g.row.D.Denot). IfOk c.all_lines-in-None.result (λ replies. CameTo g.P.Pool g.D.CacheDev c.args.arcs.now.config c.args.blocks.now (filter (is_of_caller c.args.party.now.number) c.args.ops.now) replies.items
    (at c.args.party.now (map read_of c.args.kept.now) c.args.pool.now) (at c.all_lines-in-None.new.party (map read_of c.all_lines-in-None.new.kept) c.all_lines-in-None.new.pool) o o))
    (sym c.in-None.is)
    (came-without g.P.Pool _ c.args.arcs.now.config c.args.blocks.now g.D.CacheDev c.requires.stands.valid c.args.ops.now (at_work c.args.party.now (map read_of c.args.kept.now) (outside c.args.pool.now _))
    (at_work c.all_lines-in-None.new.party (map read_of c.all_lines-in-None.new.kept) (outside c.all_lines-in-None.new.pool c.all_lines-in-None.new.device)) c.all_lines-in-None.result (λ d. refl) c.all_lines-in-None.ensures.did)
