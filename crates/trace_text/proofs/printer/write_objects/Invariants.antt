use Rattle.std.proofs.Common.{◌≡◌, ◌++◌, drop, string_bytes}
use Rattle.trace_text.specs.TraceText.{lines_text}
use Rattle.trace_text.specs.declared.words.Line.TheVariants.{Mapped}
use Rattle.trace_text.proofs.printer.write_objects.Given as goal

-- what was written and the lines to come are the old text and all lines
abbrev pub invariant-loop-mapping : goal.invariant-loop-mapping
invariant-loop-mapping l =
    string_bytes l.text ++ lines_text Mapped (drop l.mapping-index l.objects) ≡ string_bytes l.fn.text ++ lines_text Mapped l.objects
