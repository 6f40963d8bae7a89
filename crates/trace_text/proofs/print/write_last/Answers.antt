use Rattle.std.proofs.Common.{List, ◌++◌, ap, ◌∙◌, string_bytes}
use Rattle.arc_core.specs.declared.event.Event.{Event}
use Rattle.trace_text.specs.EndText.{end_lines}
use Rattle.trace_text.specs.ReportText.{count_line}
use Rattle.trace_text.specs.declared.ends.ShardEnd.{ShardEnd}
use Rattle.trace_text.proofs.AppendLemmas.{appended}
use Rattle.trace_text.proofs.print.write_last.Goals as goal

pub returns : goal.returns
returns c =
    let ends = c.in_ok-write_ends.ensures ∙ ap (λ (l : List ShardEnd). string_bytes c.args.text.now ++ end_lines 0 l) c.as_slice.ensures in
    let counts = c.in_ok-write_counts.ensures ∙ ap (λ (l : List (List Event)). string_bytes c.write_ends.new.text ++ count_line l) c.as_slice-2.ensures in
    let two = appended _ _ _ _ _ ends counts in
    let three = appended _ _ _ _ _ two c.in_ok-write_io.ensures in
    let four = appended _ _ _ _ _ three c.in_ok-write_rebuilt.ensures in
    appended _ _ _ _ _ four c.in_ok-write_status.ensures
