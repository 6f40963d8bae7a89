-- The lines of a log and the lines that `event_text` of `trace_text` prints.
use Rattle.std.specs.Prelude.{◌≡◌, ℕ, ◌++◌, codes}
use Rattle.arc_core.specs.declared.event.Event.{Event}
use Rattle.trace_text.specs.EventText.{event_line, spaced}
use Rattle.arc_check.specs.declared.words.Line.TheVariants as lines
use Rattle.arc_check.specs.LogText.{log_spelling}

-- the line that is printed for an event is the fields of its line in a log, with a space between each two, and a newline
abbrev pub IsPrintedAsSpelled : Type 0
IsPrintedAsSpelled = (shard index : ℕ) (e : Event) →
    event_line shard index e ≡ spaced (log_spelling (lines.Made (record { shard = shard; index = index; event = e }))) ++ codes "\n"
