use Rattle.l2_feed.proofs.Ends.{done_is_whole, leaves_for_its_end}
use Rattle.l2_feed.proofs.laws.ends_tell_of_acts.Goals as goal

pub returns-clause-left : goal.returns-clause-left
returns-clause-left c = leaves_for_its_end

pub returns-clause-done : goal.returns-clause-done
returns-clause-done c = done_is_whole
