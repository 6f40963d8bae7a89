use Rattle.dbuf_state.proofs.StepLemmas.{reading-alike, unread-alike}
use Rattle.dbuf_state.proofs.laws.what_counts_alike.Goals as goal

pub returns : goal.returns
returns g c = record { reading = reading-alike; unread = unread-alike }
