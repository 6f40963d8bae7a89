-- The words of a report that name where bytes came from, what a feed did and why a call was refused.
use Rattle.std.specs.Prelude.{ℕ, List, [], ◌∷◌, ◌++◌, codes, decimal}
use Rattle.hex.specs.Hex.{encode_lower}
use Rattle.blk_ptr.specs.Key.{fault_text}
use Rattle.arc_core.specs.declared.served.Served.{Served}
use Rattle.arc_core.specs.declared.served.Served.TheVariants.{Hit, Pool, L2, Past}
use Rattle.l2_dev.specs.declared.report.FeedReport.{FeedReport}
use Rattle.l2_dev.specs.declared.report.FeedStop.{FeedStop}
use Rattle.l2_dev.specs.declared.report.FeedStop.TheVariants as stops
use Rattle.trace_text.specs.EventText.{spaced}
use Rattle.trace_text.specs.declared.reply.Refusal.{Refusal}
use Rattle.trace_text.specs.declared.reply.Refusal.TheVariants.{PoolFault, Mismatch, Key, NoMemory, Range, NoBlock, NoHold, NoPin}

-- where the bytes of a read came from
abbrev pub served_word : Served → List ℕ
served_word Hit = codes "hit"
served_word Pool = codes "pool"
served_word L2 = codes "l2"
served_word Past = codes "past"

-- how a feed ended
abbrev pub end_word : FeedStop → List ℕ
end_word stops.Done = codes "ok"
end_word stops.DevFault = codes "fault"
end_word stops.NoMemory = codes "memory"

-- what a feed did
abbrev pub fed_words : FeedReport → List ℕ
fed_words report = spaced (
    codes "picked" ∷ decimal report.picked ∷ codes "bytes" ∷ decimal report.bytes ∷ codes "written" ∷ decimal report.written
    ∷ codes "cleared" ∷ decimal report.cleared ∷ end_word report.end ∷ [])

-- why an operation was refused
abbrev pub refusal_text : Refusal → List ℕ
refusal_text PoolFault = codes "pool"
refusal_text (Mismatch found) = codes "digest " ++ encode_lower found.0
refusal_text (Key fault) = codes "key " ++ fault_text fault
refusal_text NoMemory = codes "memory"
refusal_text (Range end size) = codes "window " ++ decimal end ++ codes " " ++ decimal size
refusal_text (NoBlock at) = codes "block " ++ decimal at.object ++ codes " " ++ decimal at.block
refusal_text (NoHold block) = codes "hold " ++ decimal block
refusal_text (NoPin at) = codes "pin " ++ decimal at.object ++ codes " " ++ decimal at.block
