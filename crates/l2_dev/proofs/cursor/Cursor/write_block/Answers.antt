use Rattle.std.proofs.Common.{refl, ap, ◌∙◌, List, length}
use Rattle.l2_log.specs.declared.entry.LogEntry.{LogEntry}
use Rattle.l2_dev.proofs.cursor.Cursor.write_block.Goals as goal

pub returns-clause-block : goal.returns-clause-block
returns-clause-block c =
    let entries = c.new-2.ensures ∙ ap (λ v. v.items) c.replace-pending.ensures.value in
    rw (← c.self.view_is) (
      _,
      record {
        bytes_of = c.write-written.ensures.spelled;
        are_bytes = c.write-written.ensures.bytes;
        version = refl;
        lap = c.lap.ensures;
        prev = refl;
        entries = entries;
        place = c.hand.ensures.hand;
        count = c.write-written.ensures.count ∙ ap (λ (es : List LogEntry). length es) entries;
        digest = c.write-written.ensures.digest;
      },
    )
