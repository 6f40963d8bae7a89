-- The output of the command `check`.
use Rattle.std.specs.Prelude.{ℕ, List, ◌++◌, codes, decimal, length, sum_by}
use Rattle.trace_text.specs.EndText.{end_lines}
use Rattle.trace_text.specs.declared.ends.ShardEnd.{ShardEnd}
use Rattle.arc_check.specs.declared.log.Log.{Log}
use Rattle.arc_check.specs.declared.verdict.Verdict.{Verdict}
use Rattle.arc_check.specs.declared.verdict.Verdict.TheVariants.{Legal, Illegal}

-- each history is legal: how many events there are, and what each shard ends with
abbrev pub legal_text : ℕ → List ShardEnd → List ℕ
legal_text events ends = codes "check ok " ++ decimal events ++ codes "\n" ++ end_lines 0 ends ++ codes "end 0\n"

-- the first event that may not come, by its shard and its index
abbrev pub illegal_text : ℕ → ℕ → List ℕ
illegal_text shard index = codes "check bad " ++ decimal shard ++ codes " " ++ decimal index ++ codes "\n" ++ codes "end 10\n"

-- the whole text
abbrev pub check_text : Log → Verdict → List ℕ
check_text log (Legal ends) = legal_text (sum_by length log.histories) ends
check_text log (Illegal shard index) = illegal_text shard index
