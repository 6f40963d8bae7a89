-- The line of a report that tells what the start of a cache device found on it.
use Rattle.std.specs.Prelude.{ℕ, List, [], ◌∷◌, ◌++◌, Option, Some, None, codes, decimal, length}
use Rattle.l2_log.specs.declared.fault.LogFault.{LogFault}
use Rattle.l2_log.specs.declared.fault.LogFault.TheVariants as faults
use Rattle.l2_dev.specs.declared.stop.Stop.{Stop}
use Rattle.l2_dev.specs.declared.stop.Stop.TheVariants as stops
use Rattle.trace_text.specs.EventText.{spaced}
use Rattle.trace_text.specs.declared.rebuilt.Rebuilt.{Rebuilt}

-- what is wrong with a header or a log block
abbrev pub fault_word : LogFault → List ℕ
fault_word faults.Magic = codes "magic"
fault_word faults.Version = codes "version"
fault_word (faults.Digest kept found) = codes "digest"
fault_word (faults.Field at) = codes "field"
fault_word (faults.Length len) = codes "length"

-- why a walk along the log blocks ended, or why there was none
abbrev pub stop_words : Stop → List ℕ
stop_words stops.Zero = codes "zero"
stop_words (stops.Short len) = codes "short"
stop_words (stops.Header fault) = codes "header " ++ fault_word fault
stop_words (stops.Outside place) = codes "outside"
stop_words (stops.Evicted place) = codes "evicted"
stop_words (stops.Block fault) = codes "block " ++ fault_word fault
stop_words (stops.Length walked) = codes "length"
stop_words stops.DevFault = codes "device"

-- what a start found: how many keys it restored, and why its walk ended
abbrev pub rebuilt_words : Rebuilt → List ℕ
rebuilt_words rebuilt = spaced (decimal (length rebuilt.list) ∷ stop_words rebuilt.stop ∷ [])

-- the line of it, where there is a cache device
abbrev pub rebuilt_line : Option Rebuilt → List ℕ
rebuilt_line None = []
rebuilt_line (Some rebuilt) = codes "rebuilt " ++ rebuilt_words rebuilt ++ codes "\n"
