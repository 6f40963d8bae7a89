-- The text of a report: its first line, a line for each reply, for each event where they are asked for and for each shard, what the events are
-- counted as, how often workers read the pool where there are some, what a start found on the cache device where there is one, and the status at which it was made.
use Rattle.std.specs.Prelude.{ℕ, ◌+◌, Bool, List, [], ◌∷◌, ◌++◌, codes, decimal, if◌then◌else◌}
use Rattle.hex.specs.Hex.{encode_lower}
use Rattle.arc_core.specs.declared.event.Event.{Event}
use Rattle.dbuf_state.specs.Windows.{shown_text}
use Rattle.trace_text.specs.Counting.{counts_in}
use Rattle.trace_text.specs.EndText.{count_words, end_lines, io_line}
use Rattle.trace_text.specs.EventText.{history_lines}
use Rattle.trace_text.specs.RebuiltText.{rebuilt_line}
use Rattle.trace_text.specs.ReportWords.{fed_words, served_word, refusal_text}
use Rattle.trace_text.specs.declared.reply.Reply.{Reply}
use Rattle.trace_text.specs.declared.reply.Reply.TheVariants.{Read, Kept, Dropped, Got, Done, Fed, FedNone, Synced, Capped, Refused}
use Rattle.trace_text.specs.declared.report.Report.{Report}

-- what a reply's line says behind the operation's number
abbrev pub reply_text : Reply → List ℕ
reply_text (Read served digest shown) =
    codes "ok " ++ served_word served ++ codes " " ++ encode_lower digest.0 ++ codes " " ++ shown_text shown
reply_text (Kept served) = codes "held " ++ served_word served
reply_text Dropped = codes "dropped"
reply_text (Got size shown) = codes "got " ++ decimal size ++ codes " " ++ shown_text shown
reply_text Done = codes "done"
reply_text (Fed report) = codes "feed " ++ fed_words report
reply_text FedNone = codes "feed none"
reply_text (Synced group blocks bytes) =
    codes "txg " ++ decimal group ++ codes " blocks " ++ decimal blocks ++ codes " bytes " ++ decimal bytes
reply_text (Capped c) = codes "cap " ++ decimal c
reply_text (Refused refusal) = codes "refused " ++ refusal_text refusal

-- the lines of the replies, the first of which has this number
abbrev pub reply_lines : ℕ → List Reply → List ℕ
reply_lines number [] = []
reply_lines number (reply ∷ replies) =
    decimal number ++ codes " " ++ reply_text reply ++ codes "\n" ++ reply_lines (number + 1) replies

-- the line of what the events of all shards are counted as
abbrev pub count_line : List (List Event) → List ℕ
count_line histories = codes "count " ++ count_words (counts_in histories) ++ codes "\n"

-- the line of the status
abbrev pub status_line : ℕ → List ℕ
status_line status = codes "end " ++ decimal status ++ codes "\n"

-- the lines behind the events
abbrev pub last_lines : Report → List ℕ
last_lines report =
    end_lines 0 report.ends
    ++ count_line report.histories
    ++ io_line report.io
    ++ rebuilt_line report.rebuilt
    ++ status_line report.status

-- the whole text, with the events or without
abbrev pub report_text : Report → Bool → List ℕ
report_text report events =
    codes "arc 1\n"
    ++ (if report.short then [] else reply_lines 0 report.replies)
    ++ (if events then history_lines 0 report.histories else [])
    ++ last_lines report
