use Rattle.trace_run.specs.Words.{texts}
use Rattle.trace_run.proofs.theorem.WordLemmas.{run_alone, run_events, run_second, run_third}
use Rattle.trace_run.proofs.words.parse_run.Goals as goal

pub returns-in-None : goal.returns-in-None
returns-in-None c = (run_alone (texts c.args.words.now) c.requires c.in-None.ensures, tt)

pub returns-in-None-word_at : goal.returns-in-None-word_at
returns-in-None-word_at c =
    (run_events (texts c.args.words.now) c.in-Some-text.field-0.now c.requires c.in-Some-text.ensures c.in-Some-text.is-text c.in-None-word_at.ensures, tt)

pub returns-in-Some-word_at : goal.returns-in-Some-word_at
returns-in-Some-word_at c =
    run_third (texts c.args.words.now) c.in-Some-text.field-0.now c.in-Some-word_at.field-0.now c.requires c.in-Some-text.ensures c.in-Some-text.is-text
    c.in-Some-word_at.ensures

pub returns-in-Some : goal.returns-in-Some
returns-in-Some c = run_second (texts c.args.words.now) c.in-Some.field-0.now c.requires c.in-Some.ensures c.in-Some.not-text
