use Rattle.l2_log.proofs.Headers.{header_not_refused, read_complete}
use Rattle.l2_log.proofs.header.DevHeader.read.Goals as goal

pub returns-clause-complete : goal.returns-clause-complete
returns-clause-complete c = read_complete c.args.bytes.now c.read_fields.result c.read_fields.ensures

pub returns-in_err-check_front-clause-complete : goal.returns-in_err-check_front-clause-complete
returns-in_err-check_front-clause-complete c =
    (λ header is. absurd (header_not_refused c.args.bytes.now header _ is c.in_err-check_front.ensures))
