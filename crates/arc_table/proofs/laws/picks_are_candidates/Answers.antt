use Rattle.arc_table.proofs.feeder.PickLaws.{few_picks, plain_picks}
use Rattle.arc_table.proofs.laws.picks_are_candidates.Goals as goal

pub returns-clause-few : goal.returns-clause-few
returns-clause-few gh c g i p q old new feeder a = few_picks gh.C.Keeps g i p q old new feeder a

pub returns-clause-plain : goal.returns-clause-plain
returns-clause-plain gh c g i p q old new feeder all a = plain_picks gh.C.Keeps g i p q old new feeder a all
