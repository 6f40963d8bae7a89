use Rattle.std.proofs.Common.{ap, ◌∙◌}
use Rattle.byteorder.specs.Endian.{little_number}
use Rattle.l2_log.proofs.Numbers.{word_behind}
use Rattle.l2_log.proofs.words.word_at.Goals as goal

pub returns : goal.returns
returns c = c.read_u64.ensures ∙ ap (λ bytes. little_number 8 bytes) c.split_at.ensures.back ∙ word_behind c.args.at c.args.bytes.now
