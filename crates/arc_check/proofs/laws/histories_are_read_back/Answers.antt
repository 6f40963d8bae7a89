use Rattle.arc_check.proofs.ReadBackLemmas.{read-back}
use Rattle.arc_check.proofs.laws.histories_are_read_back.Goals as goal

pub returns : goal.returns
returns c = λ head config histories start is shards at few short. read-back head config histories start is shards at few short
