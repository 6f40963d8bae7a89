use Rattle.vdev_io.specs.Streams.{source_state}
use Rattle.trace_run.proofs.theorem.SourceLemmas.{faulty-trace}
use Rattle.trace_run.proofs.top.read_source.Goals as goal

pub returns-in-Err-Bad-clause-err : goal.returns-in-Err-Bad-clause-err
returns-in-Err-Bad-clause-err g c =
    faulty-trace (source_state g.S.Source c.args.source.now) (source_state g.S.Source c.read_all.new.source) c.in-Ok.text.items c.deref.result.now c.in-Err-Bad.line c.in-Err-Bad.kind c.read_trace.result
    c.in-Err-Bad.field-0 c.in-Ok.ensures.ok c.in-Ok.ensures.faults c.deref.ensures.value c.in-Err-Bad.is c.in-Err-Bad.field-0-is c.read_trace.ensures.fault
