use Rattle.std.proofs.Common.{sym, ◌∙◌}
use Rattle.arc_lists.proofs.Oldest.{last-there, last_key-is, last_key-none}
use Rattle.arc_lists.proofs.queues.last_of.Goals as goal

pub returns-in_err-last : goal.returns-in_err-last
returns-in_err-last c = c.from_residual.ensures ∙ sym (last_key-none c.args.sequence.now.nodes (sym c.in_err-last.ensures))

pub key_at-requires : goal.key_at-requires
key_at-requires c = (last-there c.args.sequence.now.nodes c.in_ok-last.last c.requires (sym c.in_ok-last.ensures)).0

pub returns : goal.returns
returns c = sym (last_key-is c.args.sequence.now.nodes c.in_ok-last.last c.key_at.result c.requires (sym c.in_ok-last.ensures) c.key_at.ensures)
