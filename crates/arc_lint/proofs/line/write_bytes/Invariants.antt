use Rattle.std.proofs.Common.{◌≡◌, ◌++◌, drop}
use Rattle.arc_lint.specs.Shown.{shown_bytes}
use Rattle.arc_lint.proofs.line.write_bytes.Given as goal

-- what was appended and what is left are all that is shown
abbrev pub invariant-loop-byte : goal.invariant-loop-byte
invariant-loop-byte l = l.out.items ++ shown_bytes (drop l.byte-index l.bytes) ≡ l.fn.out.items ++ shown_bytes l.bytes
