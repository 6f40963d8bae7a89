use Rattle.arc_check.proofs.forms.next_line.Goals as goal

pub returns-then-eq : goal.returns-then-eq
returns-then-eq c = c.feed_line.ensures c.args.config
