use Rattle.varint.proofs.Taken.{bytes-taken, number-taken}
use Rattle.varint.proofs.laws.what_was_written_is_read_back.Goals as goal

pub returns : goal.returns
returns c = record { numbers = number-taken; bytes = bytes-taken }
