use Rattle.txg_sync.proofs.Rows.{add-up, in-a-row}
use Rattle.txg_sync.proofs.laws.blocks_stand_in_a_row.Goals as goal

pub returns : goal.returns
returns c = record { bytes = in-a-row; places = add-up }
