use Rattle.arc_core.proofs.Others.{sparing, sparing-others, sparing-unmarked, standing-victim}
use Rattle.arc_core.proofs.laws.events_spare_other_keys.Goals as goal

pub returns-clause-sparing : goal.returns-clause-sparing
returns-clause-sparing c = sparing

pub returns-clause-others : goal.returns-clause-others
returns-clause-others c = sparing-others

pub returns-clause-unmarked : goal.returns-clause-unmarked
returns-clause-unmarked c = sparing-unmarked

pub returns-clause-victims : goal.returns-clause-victims
returns-clause-victims c = standing-victim
