-- Kept reads in a queue, each under the number of its block. No public clause cites this module.
use Rattle.std.specs.Prelude.{◌≡◌, ℕ, List, map}
use Rattle.std.specs.List.{AllByRecursion}
use Rattle.trace_run.specs.declared.kept_blocks.KeptBlock.{KeptBlock}
use Rattle.trace_run.specs.declared.kept_blocks.KeptBlocks.TheInside.{Inside}

-- the read of a pair
abbrev pub read_in : ℕ × KeptBlock → KeptBlock
read_in x = x.1

-- a pair's number is that of the block
abbrev pub IsUnderItsBlock : ℕ × KeptBlock → Type 0
IsUnderItsBlock x = x.1.block ≡ x.0

abbrev pub reads_of : Inside → List KeptBlock
reads_of q = map read_in q.reads

abbrev pub AreUnderTheirBlocks : Inside → Type 0
AreUnderTheirBlocks q = AllByRecursion IsUnderItsBlock q.reads
