use Rattle.l2_log.proofs.Logs.{log_not_refused, log_complete}
use Rattle.l2_log.proofs.log_block.LogBlock.read.Goals as goal

pub returns-clause-complete : goal.returns-clause-complete
returns-clause-complete c = log_complete c.args.bytes.now c.read_fields.result c.read_fields.ensures

pub returns-in_err-check_log_front-clause-complete : goal.returns-in_err-check_log_front-clause-complete
returns-in_err-check_log_front-clause-complete c =
    λ block is. absurd (log_not_refused c.args.bytes.now block _ is c.in_err-check_log_front.ensures)
