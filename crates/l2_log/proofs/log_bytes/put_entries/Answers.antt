use Rattle.std.proofs.Common.{◌≡◌, ◌+◌, arith, take, sym, ◌∙◌}
use Rattle.std.proofs.lemmas.List.{take_more, length-take-le}
use Rattle.std.proofs.lemmas.List.Elements.{All-get_or, All-take}
use Rattle.l2_log.specs.declared.entry.LogEntry.{LogEntry}
use Rattle.l2_log.specs.Rules.{first_entry, log_len, entry_len, is_there}
use Rattle.l2_log.proofs.Numbers.{kept_joined}
use Rattle.l2_log.proofs.EntryRules.{entries_more, kept_entries, next_place}
use Rattle.l2_log.proofs.log_bytes.put_entries.Goals as goal

pub put_entry-requires-clause-zero : goal.put_entry-requires-clause-zero
put_entry-requires-clause-zero c =
    let d = c.args.digests in
    let there : is_there c.index-entries-i.result.digest ≡ d =
    rw c.index-entries-i.is (All-get_or (λ (entry : LogEntry). is_there entry.digest ≡ d) c.args.entries.now c.loop-i.i c.index-entries-i.result c.loop-i-test.true c.requires.told) in
    rw there (λ k ge lt. c.loop-i.invariant.zeros k (omega arith) (omega (arith, c.entry_place.ensures.whole)))

pub loop-i-preserved : goal.loop-i-preserved
loop-i-preserved c =
    let i = c.loop-i.i in
    let d = c.args.digests in
    let P = λ (entry : LogEntry). is_there entry.digest ≡ d in
    let there : is_there c.index-entries-i.result.digest ≡ d =
    rw c.index-entries-i.is (All-get_or P c.args.entries.now i c.index-entries-i.result c.loop-i-test.true c.requires.told) in
    let before = take i c.args.entries.now in
    let kept = rw there at c.put_entry.ensures.kept in
    let len = length-take-le i c.args.entries.now (omega arith) in
    let next = next_place d first_entry i in
    let at = c.entry_place.ensures.place in
    let inside = c.entry_place.ensures.inside in
    record {
      entries = rw (take_more c.args.entries.now i c.index-entries-i.result c.loop-i-test.true, ← c.index-entries-i.is)
          (entries_more d c.put_entry.new.out first_entry _ before c.index-entries-i.result (rw len at)
          (kept_entries d first_entry before kept (rw (len, ← at) (omega arith)) (All-take P i c.args.entries.now c.requires.told) c.loop-i.invariant.entries) (rw there at c.put_entry.ensures.entry));
      zeros = λ k ge lt. sym (kept.behind k (omega arith)) ∙ c.loop-i.invariant.zeros k (omega arith) lt;
      kept = kept_joined first_entry log_len c.entry_place.result (c.entry_place.result + entry_len d) first_entry log_len c.args.out.now c.loop-i.out c.put_entry.new.out
          c.loop-i.invariant.kept kept (omega arith) (omega arith) (omega arith) (omega (arith, c.entry_place.ensures.whole));
      bytes = λ k. omega (arith, c.type_inv.out k);
    }
