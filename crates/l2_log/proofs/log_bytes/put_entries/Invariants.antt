use Rattle.std.proofs.Common.{◌+◌, ◌*◌, take}
use Rattle.l2_log.specs.Rules.{log_len, entry_len, first_entry}
use Rattle.l2_log.specs.Bytes.{AreBytes, AreZero, IsKeptOutside}
use Rattle.l2_log.specs.EntryBytes.{AreEntries}
use Rattle.l2_log.proofs.log_bytes.put_entries.Given as goal

abbrev pub invariant-loop-i : goal.invariant-loop-i
invariant-loop-i l = record {
  entries : AreEntries l.digests l.out first_entry (take l.i l.entries);
  zeros : AreZero (first_entry + entry_len l.digests * l.i) log_len l.out;
  kept : IsKeptOutside first_entry log_len l.initial.out l.out;
  bytes : AreBytes l.out;
}
