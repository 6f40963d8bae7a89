-- What is told of a text: what it declares, or its first line at fault.
use Rattle.std.specs.Prelude.{ℕ, List, [], ◌∷◌, ◌++◌, codes, decimal}
use Rattle.std.specs.List.{join_with_byte}
use Rattle.arc_core.specs.declared.config.Config.{Config}
use Rattle.trace_text.specs.declared.fault.Kind.{Kind}
use Rattle.trace_text.specs.declared.fault.Kind.TheVariants as kinds
use Rattle.arc_lint.specs.declared.verdict.Declared.{Declared}
use Rattle.arc_lint.specs.declared.verdict.Format.{Format}
use Rattle.arc_lint.specs.declared.verdict.Verdict.{Verdict}
use Rattle.arc_lint.specs.declared.verdict.Verdict.TheVariants.{Trace, Pages, Log, Bad}
use Rattle.arc_lint.specs.Shown.{line_in, shown}
use Rattle.arc_lint.specs.Wanted.{wanted}

-- words with a space between each two
abbrev pub spaced : List (List ℕ) → List ℕ
spaced words = join_with_byte 32 words

-- the sizes of a cache, each behind its name
abbrev pub sizes_words : Config → List ℕ
sizes_words config = spaced (
    codes "callers" ∷ decimal config.callers ∷ codes "shards" ∷ decimal config.shards ∷ codes "buckets" ∷ decimal config.buckets ∷ codes "cells" ∷ decimal config.cells
    ∷ codes "c" ∷ decimal config.c ∷ codes "mintime" ∷ decimal config.mintime ∷ codes "dbufs" ∷ decimal config.dbuf_bytes
    ∷ codes "write_max" ∷ decimal config.bounds.write_max ∷ codes "headroom" ∷ decimal config.bounds.headroom ∷ [])

-- the sizes, and how many blocks, mapped blocks of objects and operations there are
abbrev pub declared_words : Declared → List ℕ
declared_words declared = spaced (
    sizes_words declared.config ∷ codes "blocks" ∷ decimal declared.blocks ∷ codes "objects" ∷ decimal declared.objects ∷ codes "operations" ∷ decimal declared.ops ∷ [])

abbrev pub trace_text : Declared → List ℕ
trace_text declared = codes "ok " ++ declared_words declared ++ codes "\n"

abbrev pub pages_text : ℕ → List ℕ
pages_text pages = codes "ok pages " ++ decimal pages ++ codes "\n"

abbrev pub log_text : Config → ℕ → List ℕ
log_text config events = codes "ok " ++ sizes_words config ++ codes " events " ++ decimal events ++ codes "\n"

-- the name of a kind
abbrev pub kind_word : Kind → List ℕ
kind_word kinds.First = codes "First"
kind_word kinds.Word = codes "Word"
kind_word kinds.Shape = codes "Shape"
kind_word kinds.Number = codes "Number"
kind_word kinds.Order = codes "Order"
kind_word kinds.Count = codes "Count"
kind_word kinds.Length = codes "Length"

abbrev pub fault_words : ℕ → Kind → List ℕ
fault_words line kind = codes "bad " ++ decimal line ++ codes " " ++ kind_word kind ++ codes "\n"

-- three lines: the number and the kind, the line as it is shown, and what is wanted there
abbrev pub bad_text : Format → List ℕ → ℕ → Kind → List ℕ
bad_text format text line kind = fault_words line kind ++ shown (line_in text line) ++ codes "\n" ++ wanted format kind ++ codes "\n"

abbrev pub verdict_text : Format → List ℕ → Verdict → List ℕ
verdict_text format text (Trace declared) = trace_text declared
verdict_text format text (Pages pages) = pages_text pages
verdict_text format text (Log config events) = log_text config events
verdict_text format text (Bad line kind) = bad_text format text line kind
