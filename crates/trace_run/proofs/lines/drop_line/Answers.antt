use Rattle.std.proofs.Common.{◌≡◌, false, true, is_some, refl, sym, ap, ◌∙◌, arith, map}
use Rattle.std.specs.Prelude.{option_and_then}
use Rattle.trace_run.specs.KeptReads.{KeptRead}
use Rattle.trace_run.specs.KeptBlocks.{read_of}
use Rattle.trace_run.specs.one_caller.OneCaller.{oldest_kept}
use Rattle.trace_run.proofs.DropLemmas.{absent-counted, found-counted}
use Rattle.trace_run.proofs.lines.drop_line.Goals as goal

pub returns-then-give_back_oldest-clause-answer : goal.returns-then-give_back_oldest-clause-answer
returns-then-give_back_oldest-clause-answer g c =
    let there : is_some (oldest_kept c.args.block (map read_of c.args.kept.now)) ≡ true = sym c.give_back_oldest.ensures.found ∙ c.if-give_back_oldest.true in
    found-counted c.args.block (map read_of c.args.kept.now) there

pub returns-else-give_back_oldest-clause-answer : goal.returns-else-give_back_oldest-clause-answer
returns-else-give_back_oldest-clause-answer g c =
    let absent : is_some (oldest_kept c.args.block (map read_of c.args.kept.now)) ≡ false = sym c.give_back_oldest.ensures.found ∙ c.if-give_back_oldest.false in
    (refl, omega (arith, (absent-counted c.args.block (map read_of c.args.kept.now) absent).0))

pub returns-else-give_back_oldest-clause-kept : goal.returns-else-give_back_oldest-clause-kept
returns-else-give_back_oldest-clause-kept g c =
    let absent : is_some (oldest_kept c.args.block (map read_of c.args.kept.now)) ≡ false = sym c.give_back_oldest.ensures.found ∙ c.if-give_back_oldest.false in
    c.give_back_oldest.ensures.kept ∙ (absent-counted c.args.block (map read_of c.args.kept.now) absent).2

pub returns-else-give_back_oldest-clause-none : goal.returns-else-give_back_oldest-clause-none
returns-else-give_back_oldest-clause-none g c =
    let absent : is_some (oldest_kept c.args.block (map read_of c.args.kept.now)) ≡ false = sym c.give_back_oldest.ensures.found ∙ c.if-give_back_oldest.false in
    λ other. ap (option_and_then (λ (read : KeptRead). read.held)) (absent-counted c.args.block (map read_of c.args.kept.now) absent).1
