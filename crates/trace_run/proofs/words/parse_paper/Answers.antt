use Rattle.trace_run.specs.Words.{texts}
use Rattle.trace_run.proofs.theorem.WordLemmas.{hands_on, paper_capacity, paper_third, paper_whole}
use Rattle.trace_run.proofs.words.parse_paper.Goals as goal

pub returns-in_err-c : goal.returns-in_err-c
returns-in_err-c c =
    let err = c.in_err-c.ensures in
    hands_on (texts c.args.words.now) c.from_residual.result 1 (rw err.0 at c.from_residual.ensures.1)
    (paper_capacity (texts c.args.words.now) c.requires err.1)

pub returns-in-None : goal.returns-in-None
returns-in-None c =
    let read = c.in_ok-c.ensures in
    (paper_whole (texts c.args.words.now) c.in_ok-c.c c.requires read.0 c.in-None.ensures, (read.1, read.2))

pub returns-in-Some : goal.returns-in-Some
returns-in-Some c =
    let read = c.in_ok-c.ensures in
    paper_third (texts c.args.words.now) c.in_ok-c.c c.in-Some.field-0.now c.requires read.0 read.1 read.2 c.in-Some.ensures
