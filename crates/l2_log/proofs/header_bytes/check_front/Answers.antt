use Rattle.std.proofs.Common.{◌∙◌}
use Rattle.l2_log.proofs.header_bytes.check_front.Goals as goal

pub returns-then-word_at-ne-MAGIC : goal.returns-then-word_at-ne-MAGIC
returns-then-word_at-ne-MAGIC c = (c.if-bytes-ne-HEADER_LEN.false, λ e. c.if-word_at-ne-MAGIC.true (c.word_at.ensures ∙ e))
