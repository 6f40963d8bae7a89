-- The sentence that tells what is wanted of a line, by the kind of its fault.
use Rattle.std.specs.Prelude.{ℕ, List, codes}
use Rattle.trace_text.specs.declared.fault.Kind.{Kind}
use Rattle.trace_text.specs.declared.fault.Kind.TheVariants as kinds
use Rattle.arc_lint.specs.declared.verdict.Format.{Format}
use Rattle.arc_lint.specs.declared.verdict.Format.TheVariants as formats

-- of a trace
abbrev pub trace_wanted : Kind → List ℕ
trace_wanted kinds.First = codes "The first line that counts is the arc line: arc and seven numbers."
trace_wanted kinds.Word = codes "There is one arc line, and any other line begins with another word that docs/FORMATS.md has."
trace_wanted kinds.Shape = codes "A line has the fields that its word wants, with one space between each two and none at its end."
trace_wanted kinds.Number = codes "A number is decimal with no sign and no leading zero, in the range of its field; a digest has 64 lower-case hexadecimal digits, a byte two."
trace_wanted kinds.Order = codes "All l2, block and object lines stand in front of the operations, there is at most one l2 line, a line names a block that an earlier line declares, and no line maps an object's block that is mapped already."
trace_wanted kinds.Count = codes "A trace has at most 100,000 block lines, 100,000 object lines and 1,000,000 operations."
trace_wanted kinds.Length = codes "A trace has at most 67,108,864 bytes."

-- of a list of pages, where no line has a fault of the kinds First, Word and Order
abbrev pub pages_wanted : Kind → List ℕ
pages_wanted kinds.First = codes "A line is one page number, with no space."
pages_wanted kinds.Word = codes "A line is one page number, with no space."
pages_wanted kinds.Shape = codes "A line is one page number, with no space."
pages_wanted kinds.Number = codes "A page number is decimal with no sign and no leading zero, from 0 to 4,611,686,018,427,387,904."
pages_wanted kinds.Order = codes "A line is one page number, with no space."
pages_wanted kinds.Count = codes "A list has at most 1,000,000 pages."
pages_wanted kinds.Length = codes "A list of pages has at most 67,108,864 bytes."

-- of a log of events
abbrev pub log_wanted : Kind → List ℕ
log_wanted kinds.First = codes "The first line that counts is the arc line: arc and seven numbers."
log_wanted kinds.Word = codes "There is one arc line, and any other line is l2 and two numbers, or e, a shard, an index and the words of an event that docs/FORMATS.md has."
log_wanted kinds.Shape = codes "A line has the fields that its words want, with one space between each two and none at its end."
log_wanted kinds.Number = codes "A number is decimal with no sign and no leading zero, in the range of its field; a key is that of a block; a digest has 64 lower-case hexadecimal digits; an event's last word is one that docs/FORMATS.md has."
log_wanted kinds.Order = codes "An event is the next one of its shard or the first of a greater shard, its key is of that shard, and there is at most one l2 line, in front of all events."
log_wanted kinds.Count = codes "A log has at most 1,000,000 events."
log_wanted kinds.Length = codes "A log has at most 67,108,864 bytes."

abbrev pub wanted : Format → Kind → List ℕ
wanted formats.Trace kind = trace_wanted kind
wanted formats.Pages kind = pages_wanted kind
wanted formats.Log kind = log_wanted kind
