use Rattle.std.proofs.Common.{◌≡◌, ◌++◌, drop, string_bytes}
use Rattle.trace_text.specs.TraceText.{lines_text}
use Rattle.trace_text.specs.declared.words.Line.TheVariants.{Operation}
use Rattle.trace_text.proofs.printer.write_ops.Given as goal

-- what was written and the lines to come are the old text and all lines
abbrev pub invariant-loop-op : goal.invariant-loop-op
invariant-loop-op l =
    string_bytes l.text ++ lines_text Operation (drop l.op-index l.ops) ≡ string_bytes l.fn.text ++ lines_text Operation l.ops
