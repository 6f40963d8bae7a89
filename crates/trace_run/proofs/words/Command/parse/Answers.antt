use Rattle.trace_run.specs.Words.{texts}
use Rattle.trace_run.proofs.theorem.WordLemmas.{no_word, other_word}
use Rattle.trace_run.proofs.words.Command.parse.Goals as goal

pub returns-in_default-first : goal.returns-in_default-first
returns-in_default-first c =
    other_word (texts c.args.words.now) c.in-Some.first.now c.in-Some.ensures c.in_default-first.not-run c.in_default-first.not-gen
    c.in_default-first.not-paper c.in_default-first.not-check

pub returns-in_default : goal.returns-in_default
returns-in_default c = no_word (texts c.args.words.now) c.in_default.ensures
