use Rattle.std.proofs.Common.{◌≡◌, ◌++◌, drop, string_bytes}
use Rattle.trace_text.specs.TraceText.{lines_text}
use Rattle.trace_text.specs.declared.words.Line.TheVariants.{Declared}
use Rattle.trace_text.proofs.printer.write_blocks.Given as goal

-- what was written and the lines to come are the old text and all lines
abbrev pub invariant-loop-ptr : goal.invariant-loop-ptr
invariant-loop-ptr l =
    string_bytes l.text ++ lines_text Declared (drop l.ptr-index l.blocks) ≡ string_bytes l.fn.text ++ lines_text Declared l.blocks
