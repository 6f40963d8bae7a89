use Rattle.std.proofs.Common.{◌≡◌, length}
use Rattle.l2_log.specs.Rules.{first_entry}
use Rattle.l2_log.specs.EntryBytes.{AreEntries}
use Rattle.l2_log.specs.Values.{HaveDigests}
use Rattle.l2_log.proofs.log_bytes.read_entries.Given as goal

abbrev pub invariant-loop-i : goal.invariant-loop-i
invariant-loop-i l = record {
  count : length l.entries.items ≡ l.i;
  entries : AreEntries l.digests l.bytes first_entry l.entries.items;
  have : HaveDigests l.digests l.entries.items;
}
