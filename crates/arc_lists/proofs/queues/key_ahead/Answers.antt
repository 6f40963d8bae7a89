use Rattle.std.proofs.Common.{sym, ◌∙◌}
use Rattle.arc_links.specs.PlainLinks.{in_front}
use Rattle.arc_lists.proofs.Oldest.{front-there, front_key-is, last_key-none}
use Rattle.arc_lists.proofs.queues.key_ahead.Goals as goal

pub returns-in_err-ahead : goal.returns-in_err-ahead
returns-in_err-ahead c = c.from_residual.ensures ∙ sym (last_key-none (in_front c.args.at c.args.sequence.now.nodes) (sym c.in_err-ahead.ensures))

pub key_at-requires : goal.key_at-requires
key_at-requires c = (front-there c.args.at c.in_ok-ahead.ahead c.args.sequence.now.nodes c.requires.apart c.requires.there (sym c.in_ok-ahead.ensures)).0

pub returns : goal.returns
returns c = sym (front_key-is c.args.at c.in_ok-ahead.ahead c.args.sequence.now.nodes c.key_at.result c.requires.apart c.requires.there (sym c.in_ok-ahead.ensures) c.key_at.ensures)
