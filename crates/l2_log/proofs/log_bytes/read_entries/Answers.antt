use Rattle.std.proofs.Common.{◌≡◌, arith}
use Rattle.std.proofs.lemmas.Result.{err_from_is_err_and}
use Rattle.std.proofs.lemmas.List.{length_push}
use Rattle.std.proofs.lemmas.List.Elements.{All-push}
use Rattle.l2_log.specs.declared.entry.LogEntry.{LogEntry}
use Rattle.l2_log.specs.Rules.{first_entry, is_there}
use Rattle.l2_log.proofs.EntryRules.{broken_entry, entries_more}
use Rattle.l2_log.proofs.log_bytes.read_entries.Goals as goal

pub returns-in_err-entry_at : goal.returns-in_err-entry_at
returns-in_err-entry_at c =
    let p = err_from_is_err_and c.from_residual-in_err-entry_at.result c.from_residual-in_err-entry_at.ensures.1 in
    rw (p.1, p.2) (broken_entry c.args.digests c.args.bytes.now c.args.count c.loop-i.i c.loop-i.entries.items c.in_err-entry_at.field-0.0
    c.loop-i-test.true c.loop-i.invariant.count c.loop-i.invariant.have c.loop-i.invariant.entries (rw c.entry_place.ensures.place at c.in_err-entry_at.ensures))

pub loop-i-preserved : goal.loop-i-preserved
loop-i-preserved c = rw c.in_ok-push.ensures.items record {
  count = omega (arith, length_push c.loop-i.entries.items c.in_ok-entry_at.field-0);
  entries = entries_more c.args.digests c.args.bytes.now first_entry _ c.loop-i.entries.items c.in_ok-entry_at.field-0
      (rw c.loop-i.invariant.count c.entry_place.ensures.place) c.loop-i.invariant.entries c.in_ok-entry_at.ensures.0;
  have = All-push (λ (entry : LogEntry). is_there entry.digest ≡ c.args.digests) c.loop-i.entries.items c.in_ok-entry_at.field-0 c.loop-i.invariant.have c.in_ok-entry_at.ensures.1;
}
